use borrow.Author.Tests.{lt-ltb, le-ltb}
use mathlib.Core.Path.{sym, ◌∙◌}
use Rattle.std.proofs.lemmas.Result.{err_from_is_err_and}
use Rattle.basis.proofs.Tests.{no, yes}
use Rattle.desk_seat.proofs.Conditions.{checked_accepted, accepted_fits}
use Rattle.desk.specs.Desk.{open_of}
use Rattle.desk.proofs.Found.{numbered_some, numbered_none}
use Rattle.desk.proofs.Desk.open_in.Goals as goal

pub returns-then-not-sound : goal.returns-then-not-sound
unfolding open_of
returns-then-not-sound c = simp (c.numbered.ensures, no c.sound.ensures c.if-not-sound.true)

pub returns-in_err-check : goal.returns-in_err-check
unfolding open_of
returns-in_err-check c = let p = err_from_is_err_and c.from_residual.result c.from_residual.ensures.1 in rw (p.1, p.2) (simp (yes c.sound.ensures c.if-not-sound.false, ← c.check.ensures, c.in_err-check.was))

pub returns-in_default : goal.returns-in_default
unfolding open_of
returns-in_default c =
    let l = numbered_none (rw c.in_default.is at c.lowest_free.ensures) in
    simp (c.numbered-in_default.ensures, yes c.sound.ensures c.if-not-sound.false, ← c.check.ensures, c.in_ok-check.was, le-ltb _ _ l)

pub returns-then-self-ge-LAST_TICKET : goal.returns-then-self-ge-LAST_TICKET
unfolding open_of
returns-then-self-ge-LAST_TICKET c =
    let w = numbered_some (rw c.in-Some.is at c.lowest_free.ensures) in
    simp (c.numbered-then-self-ge-LAST_TICKET.ensures, yes c.sound.ensures c.if-not-sound.false, ← c.check.ensures, c.in_ok-check.was, w.0, lt-ltb _ _ w.1, le-ltb _ _ c.if-self-ge-LAST_TICKET.true)

pub taken-requires : goal.taken-requires
taken-requires c = accepted_fits _ (checked_accepted _ tt (sym c.check.ensures ∙ rw c.in_ok-check.was))

pub returns : goal.returns
unfolding open_of
returns c =
    let w = numbered_some (rw c.in-Some.is at c.lowest_free.ensures) in
    simp (c.taken.ensures, yes c.sound.ensures c.if-not-sound.false, ← c.check.ensures, c.in_ok-check.was, w.0, lt-ltb _ _ w.1, lt-ltb _ _ c.if-self-ge-LAST_TICKET.false)
