-- Answers of equal meaning are equal, so that a contract on the meaning determines the answer.
use Rattle.std.specs.Prelude.{Err, Ok}
use Rattle.std.specs.Prelude as std
use mathlib.Core.Path.{◌≡◌, refl, ap}
use Rattle.basis.specs.Answer.{Answer, gives, refuses_for}
use Rattle.value.specs.Reasons.{refusal_of}
use Rattle.condition.specs.Condition.{checked, Result, hit, miss, unreadable, judged, result_said}
use Rattle.condition.specs.declared.Judged.{Judged}
use Rattle.condition.specs.declared.Judged.TheVariants as J
use Rattle.value.specs.declared.Refusal.{Refusal}

abbrev checked_of : Answer (Unit {0}) → std.Result Unit Refusal
checked_of (gives x) = Ok tt
checked_of (refuses_for r) = Err (refusal_of r)

checked_back : (a : std.Result Unit Refusal) → checked_of (checked a) ≡ a
checked_back (Ok tt) = refl
checked_back (Err r) = refl

pub checked_determined : (a b : std.Result Unit Refusal) → checked a ≡ checked b → a ≡ b
checked_determined a b e = cc (ap checked_of e, checked_back a, checked_back b)

abbrev judged_of : Result → Judged
judged_of hit = J.Hit
judged_of miss = J.Miss
judged_of (unreadable r) = J.Unreadable (refusal_of r)

judged_back : (a : Judged) → judged_of (judged a) ≡ a
judged_back J.Hit = refl
judged_back J.Miss = refl
judged_back (J.Unreadable r) = refl

pub judged_determined : (a b : Judged) → judged a ≡ judged b → a ≡ b
judged_determined a b e = cc (ap judged_of e, judged_back a, judged_back b)

abbrev result_of_said : Answer Result → std.Result Judged Refusal
result_of_said (gives x) = Ok (judged_of x)
result_of_said (refuses_for r) = Err (refusal_of r)

result_back : (a : std.Result Judged Refusal) → result_of_said (result_said a) ≡ a
result_back (Ok j) = ap (λ (x : Judged). Ok x) (judged_back j)
result_back (Err r) = refl

pub result_determined : (a b : std.Result Judged Refusal) → result_said a ≡ result_said b → a ≡ b
result_determined a b e = cc (ap result_of_said e, result_back a, result_back b)
