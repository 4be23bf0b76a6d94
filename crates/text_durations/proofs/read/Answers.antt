use Rattle.text_durations.proofs.FormRows.{marked, row_ticks, row_end, read_good, read_so, refused_so}
use Rattle.text_durations.proofs.read.Goals as goal

pub shape-t-requires : goal.shape-t-requires
shape-t-requires c = marked c.args.kind c.row-row.result c.row-row.ensures

pub counted-c-requires : goal.counted-c-requires
counted-c-requires c = row_ticks c.args.kind c.row-row.result c.row-row.ensures c.args.s.now c.shape-t.ensures

pub amount_value-requires : goal.amount_value-requires
amount_value-requires c =
    let g = read_good c.args.kind c.row-row.result c.row-row.ensures c.args.s.now c.shape-t.ensures c.counted-c.ensures c.in-Ok.is in
    (g.part, g.within)

pub returns-in-Ok : goal.returns-in-Ok
returns-in-Ok c = (read_so c.args.kind c.row-row.result c.row-row.ensures c.args.s.now c.shape-t.ensures c.counted-c.ensures c.in-Ok.is c.has_letter-months.ensures c.amount_value.ensures, row_end c.args.kind c.row-row.result c.row-row.ensures c.args.s.now c.shape-t.ensures)

pub returns-in-Err : goal.returns-in-Err
returns-in-Err c = (refused_so c.args.kind c.row-row.result c.row-row.ensures c.args.s.now c.shape-t.ensures c.counted-c.ensures c.in-Err.is, row_end c.args.kind c.row-row.result c.row-row.ensures c.args.s.now c.shape-t.ensures)
