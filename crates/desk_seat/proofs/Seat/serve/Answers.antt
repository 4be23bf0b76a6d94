use mathlib.Core.Path.{refl, sym}
use borrow.Author.Tests.{lt-ltb}
use native.Mathlib.Omega.{arith}
use Rattle.timetable.proofs.Offsets.{end_from, end_within, line_cut}
use Rattle.desk_seat.specs.Files.{over}
use Rattle.desk_seat.proofs.Soundness.{servable, counts_room}
use Rattle.desk_seat.proofs.Serving.{serve_line, serve_end}
use Rattle.desk_seat.proofs.Seat.serve.Goals as goal

pub slice_bounds-turn_at-start : goal.slice_bounds-turn_at-start
slice_bounds-turn_at-start c = omega (arith, end_from c.args.t.now c.args.self.now.offset, c.read_line-line.ensures.0)

pub slice_bounds-turn_at-end : goal.slice_bounds-turn_at-end
slice_bounds-turn_at-end c = omega (arith, end_within c.args.t.now c.args.self.now.offset (omega arith), c.read_line-line.ensures.0)

pub slice_bounds-turn_at-count : goal.slice_bounds-turn_at-count
slice_bounds-turn_at-count c = omega (arith, end_from c.args.t.now c.args.self.now.offset, c.read_line-line.ensures.0)

pub turn_at-requires : goal.turn_at-requires
turn_at-requires c =
    let v = servable _ _ _ c.requires.0.1 in
    let r = counts_room _ c.args.self.now c.requires.1 c.if-at-t.true v in
    (v.room, v.place, r.0, r.1)

pub returns-then-at-t : goal.returns-then-at-t
returns-then-at-t c =
    let s = c.args.self.now in
    let t = c.args.t.now in
    let line = c.read_line-line in
    rw (serve_line (over t) s (lt-ltb _ _ c.if-at-t.true))
    (c.turn_at.ensures (over t) (sym (line_cut t s.offset line.result.end line.ensures.0)) (sym line.ensures.1))

pub returns-else-at-t : goal.returns-else-at-t
returns-else-at-t c =
    rw (serve_end (over c.args.t.now) c.args.self.now c.if-at-t.false) (record { seat = c.free.ensures; answer = refl })
