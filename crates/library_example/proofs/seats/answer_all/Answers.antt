use Rattle.std.proofs.Common.{List, ℕ, ap, ◌∙◌, arith, Some, None}
use Rattle.timetable.proofs.Offsets.{next_within, next_further}
use Rattle.desk.specs.Desk.{open_of}
use Rattle.desk_seat.specs.Files.{over}
use Rattle.desk_seat.specs.Request.{asking}
use Rattle.library_lines.specs.declared.calls.DeskCall.TheVariants.{Turn, Open, Close}
use Rattle.library_example.proofs.Calling.{Goes, by_call, goes_on, all_gone, from_start}
use Rattle.library_example.proofs.seats.answer_all.Goals as goal
use Rattle.library_example.proofs.seats.answer_all.Goals.{in-Some-Turn, in-Some-Open, in-Some-Close, in-None}

pub loop-at-init : goal.loop-at-init
loop-at-init g c = (omega arith, from_start _ _ _)

pub loop-at-smaller : goal.loop-at-smaller
loop-at-smaller g c = omega (arith, c.next_line-at.ensures, next_further c.args.input.now c.loop-at.at c.loop-at-test.true)

pub loop-at-preserved : goal.loop-at-preserved
loop-at-preserved g c =
    let t = over c.args.t.now in
    let s = c.args.input.now in
    let i = c.loop-at.at in
    let d = c.loop-at.desk in
    let gone : Goes (over c.args.t.now) c.args.input.now c.loop-at.at c.loop-at.desk c.match-call_at.desk = elim c.match-call_at.branch [
      | in-Some-Turn w ↦ by_call t s i d (Some Turn) c.call_at.ensures (w.in-Some-Turn.is ∙ ap Some w.in-Some-Turn.field-0-is) (w.desk-is ∙ w.turn_in.ensures.0)
      | in-Some-Open w ↦ by_call t s i d (Some Open) c.call_at.ensures (w.in-Some-Open.is ∙ ap Some w.in-Some-Open.field-0-is) (w.desk-is ∙ w.open_in.ensures.0 ∙ ap (λ (x : List ℕ). (open_of (asking x) d).desk) w.condition_at.ensures)
      | in-Some-Close w ↦ by_call t s i d (Some (Close w.in-Some-Close.ticket)) c.call_at.ensures (w.in-Some-Close.is ∙ ap Some w.in-Some-Close.field-0-is) (w.desk-is ∙ w.close_in.ensures.0)
      | in-None w ↦ by_call t s i d None c.call_at.ensures w.in-None.is w.desk-is
    ] in
    (omega (arith, c.next_line-at.ensures, next_within s i c.loop-at.invariant.0), goes_on t s i _ _ _ _ c.loop-at-test.true gone c.next_line-at.ensures c.loop-at.invariant.1)

pub returns : goal.returns
returns g c = all_gone _ c.args.input.now c.loop-at.at _ _ c.loop-at-test.false c.loop-at.invariant.1
