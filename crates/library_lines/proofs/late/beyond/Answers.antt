use Rattle.std.specs.Prelude.{Ok}
use Rattle.std.specs.Ordering.{is_gt}
use Rattle.std.specs.declared.cmp.Ordering.{Ordering}
use Rattle.std.specs.declared.cmp.Ordering.TheVariants.{Less, Equal, Greater}
use mathlib.Core.Path.{◌≡◌, refl, ap, sym, ◌∙◌}
use Rattle.basis.specs.Answer.{gives}
use Rattle.std.proofs.lemmas.Result.{err_from_is_err_and}
use Rattle.operation_ordering.specs.Order.{ordered, compared_meaning}
use Rattle.library_lines.specs.Late.{whether}
use Rattle.library_lines.proofs.late.beyond.Goals as goal

greater_only : (o : Ordering) → gives (is_gt o) ≡ whether (gives (ordered o))
greater_only Less = refl
greater_only Equal = refl
greater_only Greater = refl

pub returns : goal.returns
returns c = rw c.is_gt.ensures (greater_only _ ∙ ap whether (ap compared_meaning (sym c.in_ok-compare.was) ∙ c.compare.ensures))

pub returns-in_err-compare : goal.returns-in_err-compare
returns-in_err-compare c = let p = err_from_is_err_and c.from_residual.result c.from_residual.ensures.1 in rw (p.1, p.2) (ap whether (ap compared_meaning (sym c.in_err-compare.was) ∙ c.compare.ensures))
