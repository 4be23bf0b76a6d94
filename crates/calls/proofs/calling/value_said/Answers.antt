use Rattle.std.specs.Prelude.{Result}
use mathlib.Core.Path.{refl, ap, sym, ◌∙◌}
use Rattle.value.specs.Kinds.{meaning}
use Rattle.value.specs.Carried.{valid}
use Rattle.text.specs.Writing.{text_of}
use Rattle.calls.proofs.Saying.{was_read, was_refused}
use Rattle.calls.proofs.calling.value_said.Goals as goal
use Rattle.value.specs.declared.Refusal.{Refusal}
use Rattle.value.specs.declared.Value.{Value}

pub written-requires : goal.written-requires
written-requires c = ap (λ (x : Result Value Refusal). valid (meaning x)) (sym c.in-Ok.is) ∙ c.requires

pub returns-in-Ok : goal.returns-in-Ok
returns-in-Ok c = was_read text_of refl c.in-Ok.is c.written.ensures

pub returns-in-Err : goal.returns-in-Err
returns-in-Err c = was_refused text_of refl c.in-Err.is c.refused.ensures
