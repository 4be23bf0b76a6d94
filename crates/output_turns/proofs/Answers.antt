-- Answers of equal meaning are equal, so that the contract of many turns determines the answer and the desk.
use Rattle.std.specs.Prelude.{Err, Ok, Result}
use mathlib.Core.Path.{◌≡◌, refl, ap}
use Rattle.basis.specs.Answer.{Answer, gives, refuses_for}
use Rattle.value.specs.Reasons.{refusal_of}
use Rattle.desk.specs.Answers.{After}
use Rattle.output_turns.specs.Turns.{turns_meaning, after_turns}
use Rattle.output_turns.specs.declared.WrittenTurns.{WrittenTurns}
use Rattle.output_turns.specs.declared.AfterTurns.{AfterTurns}
use Rattle.value.specs.declared.Refusal.{Refusal}

abbrev turns_from : Answer WrittenTurns → Result WrittenTurns Refusal
turns_from (gives w) = Ok w
turns_from (refuses_for r) = Err (refusal_of r)

turns_back : (a : Result WrittenTurns Refusal) → turns_from (turns_meaning a) ≡ a
turns_back (Ok w) = refl
turns_back (Err r) = refl

pub turns_determined : (a b : Result WrittenTurns Refusal) → turns_meaning a ≡ turns_meaning b → a ≡ b
turns_determined a b e = cc (ap turns_from e, turns_back a, turns_back b)

pub after_turns_determined : (a b : AfterTurns) → after_turns a ≡ after_turns b → a ≡ b
after_turns_determined a b e =
    let q = turns_determined a.answer b.answer (ap (λ (x : After WrittenTurns). x.answer) e) in
    λ i. record { desk = (e i).desk; answer = q i }
