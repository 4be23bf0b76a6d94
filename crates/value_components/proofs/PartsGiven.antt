-- The components of a value within the bounds are its parts, whatever name the value goes by.
use mathlib.Core.Path.{◌≡◌, sym, ◌∙◌}
use mathlib.Core.Bool.{true}
use Rattle.basis.specs.Choice.{pick}
use Rattle.basis.specs.Answer.{gives, refuses}
use Rattle.value.specs.Refusals.{outside}
use Rattle.value.specs.Kinds.{ok_value}
use Rattle.value_components.specs.Components.{parts_of, components_of}
use Rattle.value.specs.declared.Value.{Value}

pub parts_given : (v w : Value) → ok_value v ≡ true → v ≡ w → gives (parts_of w) ≡ components_of v
unfolding components_of
parts_given v w g e = sym ((λ i. pick (g i) (gives (parts_of v)) (refuses outside)) ∙ (λ i. gives (parts_of (e i))))
