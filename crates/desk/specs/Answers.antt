-- Document 01, "Timetable, seats and turns" and "Refusal numbers": what the calls answer. A call hands the next desk back
-- beside its answer. For each answer enum there is one definition that gives document 01's number, or the values; that of a
-- turn is `turn_meaning` of the crate `desk_seat`.
use Rattle.std.specs.Prelude.{ℕ, Err, Ok, Result}
use Rattle.basis.specs.Answer.{Answer, gives, refuses_for}
use Rattle.value.specs.Reasons.{reason_of}
use Rattle.desk_seat.specs.Answers.{Turned, turn_meaning}
use Rattle.desk.specs.declared.Desk.{Desk}
use Rattle.desk.specs.declared.AfterFresh.{AfterFresh}
use Rattle.desk.specs.declared.AfterOpen.{AfterOpen}
use Rattle.desk.specs.declared.AfterClose.{AfterClose}
use Rattle.desk.specs.declared.AfterTurn.{AfterTurn}
use Rattle.value.specs.declared.Refusal.{Refusal}

-- the next desk, and the answer
pub record After (A : Type 0) : Type 0 where
  pub desk : Desk
  pub answer : Answer A

-- ---- what the enums say

-- a fresh desk is made, or not
abbrev pub fresh_meaning : Result Unit Refusal → Answer (Unit {0})
fresh_meaning (Ok tt) = gives tt
fresh_meaning (Err r) = refuses_for (reason_of r)

-- open gives a ticket
abbrev pub open_meaning : Result ℕ Refusal → Answer ℕ
open_meaning (Ok k) = gives k
open_meaning (Err r) = refuses_for (reason_of r)

-- close gives nothing more
abbrev pub close_meaning : Result Unit Refusal → Answer (Unit {0})
close_meaning (Ok tt) = gives tt
close_meaning (Err r) = refuses_for (reason_of r)

-- ---- what is handed back, desk and answer
abbrev pub after_fresh : AfterFresh → After (Unit {0})
after_fresh r = record { desk = r.desk; answer = fresh_meaning r.answer }

abbrev pub after_open : AfterOpen → After ℕ
after_open r = record { desk = r.desk; answer = open_meaning r.answer }

abbrev pub after_close : AfterClose → After (Unit {0})
after_close r = record { desk = r.desk; answer = close_meaning r.answer }

abbrev pub after_turn : AfterTurn → After Turned
after_turn r = record { desk = r.desk; answer = turn_meaning r.answer }
