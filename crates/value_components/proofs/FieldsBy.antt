-- The fields that a kind has, by the parts that its layout's letters tell.
use Rattle.std.specs.Prelude.{Option, ℕ}
use mathlib.Core.Path.{◌≡◌, ap, ◌∙◌}
use Rattle.value.specs.Rows.{parts_in, layout_of}
use Rattle.value.specs.Clocks.{clock_of}
use Rattle.value.specs.declared.DateTime.{DateTime}
use Rattle.value.specs.declared.Kind.{Kind}
use Rattle.value.specs.declared.OwnParts.{OwnParts}
use Rattle.value_components.specs.Components.{clock_in, date_field, clock_field, fields_in}
use Rattle.value_components.specs.declared.Clock.{Clock}

module _ (k : Kind) (d : DateTime) {own : OwnParts} (e : own ≡ parts_in (layout_of k)) where
  pub fields_by : {y m g : (Option ℕ)} {c : Clock} {t : (Option Clock)} → y ≡ date_field own.year d.year → m ≡ date_field own.month d.month → g ≡ date_field own.day d.day
      → c ≡ clock_in (clock_of d) → t ≡ clock_field own.clock c → record { year = y; month = m; day = g; clock = t; zone = d.zone } ≡ fields_in k d
  fields_by ey em eg ec et =
      λ i. record {
        year = (ey ∙ ap (λ (o : OwnParts). date_field o.year d.year) e) i;
        month = (em ∙ ap (λ (o : OwnParts). date_field o.month d.month) e) i;
        day = (eg ∙ ap (λ (o : OwnParts). date_field o.day d.day) e) i;
        clock = (et ∙ (λ j. clock_field (e j).clock (ec j))) i;
        zone = d.zone;
      }
