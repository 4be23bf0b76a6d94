-- Answers of equal meaning are equal, so that a contract on the meaning determines the answer.
use Rattle.std.specs.Prelude.{Result, Ok, Err}
use mathlib.Core.Path.{◌≡◌, refl, ap}
use Rattle.basis.specs.Answer.{Answer, gives, refuses_for}
use Rattle.value.specs.Reasons.{refusal_of}
use Rattle.value_components.specs.Components as components
use Rattle.value_components.specs.Components.{ComponentParts, of_moment, of_duration}
use Rattle.value_components.specs.declared.Components.{Components}
use Rattle.value_components.specs.declared.Components.TheVariants as CV
use Rattle.value.specs.declared.Refusal.{Refusal}

abbrev components_from : Answer ComponentParts → Result Components Refusal
components_from (gives (of_moment f)) = Ok (CV.Moment f)
components_from (gives (of_duration l)) = Ok (CV.Duration l)
components_from (refuses_for r) = Err (refusal_of r)

components_back : (a : Result Components Refusal) → components_from (components.components_meaning a) ≡ a
components_back (Ok (CV.Moment f)) = refl
components_back (Ok (CV.Duration l)) = refl
components_back (Err r) = refl

pub components_determined : (a b : Result Components Refusal) → components.components_meaning a ≡ components.components_meaning b → a ≡ b
components_determined a b e = cc (ap components_from e, components_back a, components_back b)
