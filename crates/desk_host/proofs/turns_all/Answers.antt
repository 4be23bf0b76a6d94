use Rattle.desk_seat.specs.Files.{over}
use Rattle.desk_host.proofs.Turning.{one_told, more_due, none_due, all_made, all_told}
use Rattle.desk_host.proofs.turns_all.Goals as goal

pub take_some_in-requires : goal.take_some_in-requires
take_some_in-requires g c = one_told (over c.args.t.now) c.loop.desk c.loop.counter _ _ c.loop-test.true c.loop.invariant.tells c.requires

pub loop-preserved : goal.loop-preserved
loop-preserved g c =
    let w = more_due (over c.args.t.now) c.loop.desk c.take_some_in.new.desk c.in_ok-sent.sent c.loop.counter _ _ _ c.loop-test.true c.loop.invariant.takes c.loop.invariant.tells c.take_some_in.ensures.0 c.in_ok-sent.ensures.1 c.if-not-sent.false in
    record { takes = w.0; tells = w.1 }

pub returns-then-not-sent : goal.returns-then-not-sent
returns-then-not-sent g c =
    none_due (over c.args.t.now) c.loop.desk c.take_some_in.new.desk c.in_ok-sent.sent c.loop.counter _ _ _ c.loop-test.true c.loop.invariant.takes c.loop.invariant.tells c.take_some_in.ensures.0 c.in_ok-sent.ensures.1 c.if-not-sent.true

pub returns-after-loop : goal.returns-after-loop
returns-after-loop g c = (
  all_made (over c.args.t.now) c.loop.desk c.loop.counter _ c.loop-test.false c.loop.invariant.takes,
  all_told (over c.args.t.now) c.loop.desk c.loop.counter _ _ c.loop-test.false c.loop.invariant.tells,
)
