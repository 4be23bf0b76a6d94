use borrow.Author.Tests.{lt-ltb, le-ltb}
use Rattle.basis.proofs.Tests.{no, yes}
use Rattle.desk.specs.Desk.{close_of}
use Rattle.desk.proofs.Found.{numbered_some, numbered_none}
use Rattle.desk.proofs.Desk.close_in.Goals as goal

pub returns-then-not-sound : goal.returns-then-not-sound
unfolding close_of
returns-then-not-sound c = simp (c.numbered.ensures, no c.sound.ensures c.if-not-sound.true)

pub returns-in_default : goal.returns-in_default
unfolding close_of
returns-in_default c =
    let l = numbered_none (rw c.in_default.is at c.seat_of.ensures) in
    simp (c.numbered-in_default.ensures, yes c.sound.ensures c.if-not-sound.false, le-ltb _ _ l)

pub returns : goal.returns
unfolding close_of
returns c =
    let w = numbered_some (rw c.in-Some.is at c.seat_of.ensures) in
    simp (c.free.ensures, yes c.sound.ensures c.if-not-sound.false, w.0, lt-ltb _ _ w.1)
