-- What a kind keeps of a record, by the parts that it has: all of it, its date, or its time of day.
use mathlib.Core.Path.{◌≡◌, refl, sym, ◌∙◌}
use mathlib.Core.Bool.{Bool, true, false}
use mathlib.Core.List.{[], ◌∷◌}
use Prim.Native.Char.{code}
use Rattle.basis.specs.Choice.{pick, both, every}
use Rattle.basis.proofs.Tests.{both_left, both_right, never}
use Rattle.value.specs.Clocks.{at_clock_of}
use Rattle.value.specs.Values.{date_in}
use Rattle.value.specs.Rows.{layout_of, template_of, has_part, is_dated, is_clocked, kept}
use Rattle.value.specs.declared.DateTime.{DateTime}
use Rattle.value.specs.declared.Kind.{Kind}
use Rattle.value.proofs.RowTests.{rows_pass}
use Rattle.value.proofs.ClockLetters.{with_month, with_day}

-- a kind with year, month and day keeps the date
dated_kept : (k : Kind) (d : DateTime) → is_dated k ≡ true
    → kept k d ≡ at_clock_of (date_in d) (pick (has_part k (code "h")) d (template_of k)) d.zone
unfolding is_dated every
dated_kept k d p =
    let y : has_part k (code "Y") ≡ true = both_left _ _ p in
    let m : has_part k (code "M") ≡ true = both_left _ _ (both_right _ _ p) in
    let g : has_part k (code "D") ≡ true = both_left _ _ (both_right _ _ (both_right _ _ p)) in
    λ i.
    at_clock_of
    (record {
      year = pick (y i) d.year (template_of k).year;
      month = pick (m i) d.month (template_of k).month;
      day = pick (g i) d.day (template_of k).day;
    })
    (pick (has_part k (code "h")) d (template_of k))
    d.zone

-- with a clock besides, it keeps all
pub kept_whole : (k : Kind) (d : DateTime) → is_dated k ≡ true → is_clocked k ≡ true → kept k d ≡ d
unfolding is_clocked
kept_whole k d p q = dated_kept k d p ∙ (λ i. at_clock_of (date_in d) (pick (q i) d (template_of k)) d.zone)

-- without, the day's start
pub kept_date : (k : Kind) (d : DateTime) → is_dated k ≡ true → is_clocked k ≡ false → kept k d ≡ at_clock_of (date_in d) (template_of k) d.zone
unfolding is_clocked
kept_date k d p q = dated_kept k d p ∙ (λ i. at_clock_of (date_in d) (pick (q i) d (template_of k)) d.zone)

-- a clock that does not stand with the whole date stands with none of it
none_of_it : (a b c : Bool) → every (a ∷ b ∷ c ∷ []) ≡ false → a ≡ b → a ≡ c → (a ≡ false) × (b ≡ false) × (c ≡ false)
unfolding every both
none_of_it true b c e f g =
    let h : every (true ∷ true ∷ true ∷ []) ≡ false = (λ i. every (true ∷ f i ∷ g i ∷ [])) ∙ e in
    absurd (never (sym h))
none_of_it false b c e f g = (refl, sym f, sym g)

clock_alone : (k : Kind) → is_dated k ≡ false → is_clocked k ≡ true
    → (has_part k (code "Y") ≡ false) × (has_part k (code "M") ≡ false) × (has_part k (code "D") ≡ false)
unfolding is_dated is_clocked
clock_alone k p q =
    none_of_it (has_part k (code "Y")) (has_part k (code "M")) (has_part k (code "D")) p
    (with_month (layout_of k) (template_of k) (rows_pass k) q)
    (with_day (layout_of k) (template_of k) (rows_pass k) q)

-- so a kind with a clock and no whole date keeps the time of day on its template's day
pub kept_clock : (k : Kind) (d : DateTime) → is_dated k ≡ false → is_clocked k ≡ true
    → kept k d ≡ at_clock_of (date_in (template_of k)) d d.zone
unfolding is_clocked
kept_clock k d p q =
    let n = clock_alone k p q in
    λ i.
    at_clock_of
    (record {
      year = pick (n.0 i) d.year (template_of k).year;
      month = pick (n.1 i) d.month (template_of k).month;
      day = pick (n.2 i) d.day (template_of k).day;
    })
    (pick (q i) d (template_of k))
    d.zone
