-- The difference of two dates, times or dateTimes: as the code takes it, in which zone, and that it is never refused.
use mathlib.Core.Path.{◌≡◌, ap, sym, ◌∙◌}
use mathlib.Core.Bool.{true}
use native.Mathlib.Omega.{arith}
use Rattle.basis.specs.Choice.{pick, both}
use Rattle.basis.specs.Answer.{gives, refuses}
use Rattle.basis.proofs.Tests.{both_true}
use Rattle.value.specs.Refusals.{wrong_kind, outside, beyond_result}
use Rattle.value.specs.Durations.{less_ticks}
use Rattle.value.specs.Values.{ok_offset, ok_day_time}
use Rattle.value.specs.Rows.{same_kind}
use Rattle.value.specs.Kinds.{ok_value}
use Rattle.value_instants.specs.Ticks.{instant_of}
use Rattle.value.specs.declared.Offset.{Offset}
use Rattle.value.specs.declared.DateTime.{DateTime}
use Rattle.value.specs.declared.Kind.{Kind}
use Rattle.value.specs.declared.Value.{Value}
use Rattle.value.specs.declared.Value.TheVariants as VV
use Rattle.value.proofs.ClockLaws.{less_ok}
use Rattle.value.proofs.KindParts.{moment_good}
use Rattle.value.proofs.RowLaws.{own_kind}
use Rattle.operation_quantities.specs.Results.{in_ticks}
use Rattle.operation_arithmetic.specs.Sums.{less_moment, difference_in, minus_in, minus_for}
use Rattle.operation_shifting.proofs.Reach.{instant_to}

-- a zone within the bounds is the one that values without zone count in
pub minus_in_zone : (zone : Offset) (a b : Value) → ok_offset zone ≡ true → minus_for zone a b ≡ minus_in zone a b
unfolding minus_for
minus_in_zone zone a b h = rw h

pub moments_less : (o : Offset) (j k : Kind) (d e : DateTime) (x : Value) → same_kind j k ≡ true → x ≡ VV.Moment j d
    → in_ticks (instant_of o d) (instant_of o e) ≡ less_moment o x k e
unfolding less_moment
moments_less o j k d e x s h =
    sym (λ i. pick (s i) (in_ticks (instant_of o d) (instant_of o e)) (refuses wrong_kind)) ∙ ap (λ (y : Value). less_moment o y k e) (sym h)

-- two values of one kind that is no duration have a difference, which is never refused: it is the dayTimeDuration between
-- the instants that they are ordered by
pub difference_given : (o : Offset) (a b : Value) (k : Kind) (d e : DateTime) → ok_offset o ≡ true → ok_value a ≡ true → ok_value b ≡ true
    → a ≡ VV.Moment k d → b ≡ VV.Moment k e → minus_in o a b ≡ gives (VV.DayTime (less_ticks (instant_of o d) (instant_of o e)))
unfolding minus_in difference_in less_moment in_ticks
difference_given o a b k d e go ga gb ea eb =
    let p = instant_to o d go (moment_good a ga k d ea).1 in
    let q = instant_to o e go (moment_good b gb k e eb).1 in
    let t : both (ok_value a) (ok_value b) ≡ true = both_true _ _ ga gb in
    let s : same_kind k k ≡ true = own_kind k in
    let w : ok_day_time (less_ticks (instant_of o d) (instant_of o e)) ≡ true = less_ok (instant_of o d) (instant_of o e) (omega arith) in
    (λ i. pick (t i) (difference_in o (ea i) (eb i)) (refuses outside))
    ∙ (λ i. pick (s i) (in_ticks (instant_of o d) (instant_of o e)) (refuses wrong_kind))
    ∙ (λ i. pick (w i) (gives (VV.DayTime (less_ticks (instant_of o d) (instant_of o e)))) (refuses beyond_result))
