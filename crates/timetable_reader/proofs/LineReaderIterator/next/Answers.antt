use mathlib.Core.Path.{refl}
use native.Mathlib.Omega.{arith}
use borrow.Author.Rules.{rules}
use Rattle.timetable.proofs.Offsets.{end_from, end_within, lines_end}
use Rattle.timetable_reader.proofs.Onward.{line_there, line_first, one_less}
use Rattle.timetable_reader.proofs.LineReaderIterator.next.Goals as goal

pub returns-then-self-offset-clause-steps : goal.returns-then-self-offset-clause-steps
returns-then-self-offset-clause-steps c =
    let e = lines_end _ _ c.if-self-offset.true in
    record { reads = c.if-self-offset.true; moves = refl; left = (e, e) }

pub slice_bounds-text-count : goal.slice_bounds-text-count
slice_bounds-text-count c = omega (arith, c.line-line.ensures.0, end_from c.args.self.now.timetable.now c.args.self.now.at)

pub slice_bounds-text-start : goal.slice_bounds-text-start
slice_bounds-text-start c = omega (arith, c.line-line.ensures.0, end_from c.args.self.now.timetable.now c.args.self.now.at)

pub slice_bounds-text-end : goal.slice_bounds-text-end
slice_bounds-text-end c = omega (arith, c.line-line.ensures.0, end_within c.args.self.now.timetable.now c.args.self.now.at (omega arith))

pub returns-clause-steps : goal.returns-clause-steps
returns-clause-steps c =
    let t = c.args.self.now.timetable.now in
    let at = c.args.self.now.at in
    let e = c.line-line.ensures.0 in
    record {
      reads = (c.if-self-offset.false, line_there t at _ e);
      moves = (refl, c.line-line.ensures.1);
      left = line_first t at _ e _ c.if-self-offset.false c.line-line.ensures.1;
    }

pub returns-clause-goes : goal.returns-clause-goes
returns-clause-goes c =
    let t = c.args.self.now.timetable.now in
    let at = c.args.self.now.at in
    let l = one_less t at _ c.line-line.ensures.0 _ c.if-self-offset.false c.line-line.ensures.1 in
    search rules
