-- Answers of equal meaning are equal, so that a contract on the meaning determines the answer.
use Rattle.std.specs.Prelude.{Bool, Result, Ok, Err}
use mathlib.Core.Path.{◌≡◌, refl, ap}
use Rattle.basis.specs.Answer.{Answer, gives, refuses_for}
use Rattle.value.specs.Reasons.{refusal_of}
use Rattle.value.specs.declared.Refusal.{Refusal}
use Rattle.library_lines.specs.Late.{lateness_meaning}

abbrev lateness_of : Answer Bool → Result Bool Refusal
lateness_of (gives late) = Ok late
lateness_of (refuses_for r) = Err (refusal_of r)

lateness_back : (a : Result Bool Refusal) → lateness_of (lateness_meaning a) ≡ a
lateness_back (Ok late) = refl
lateness_back (Err r) = refl

pub lateness_determined : (a b : Result Bool Refusal) → lateness_meaning a ≡ lateness_meaning b → a ≡ b
lateness_determined a b e = cc (ap lateness_of e, lateness_back a, lateness_back b)
