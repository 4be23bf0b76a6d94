-- What a form has to pass, one test over any form, which every row passes by computing: its letters tell its
-- components apart, they are bytes of a duration's text and S is none before T, its longest text has room, and its
-- components count one sum alone.
use mathlib.Core.Path.{◌≡◌, refl, sym}
use mathlib.Core.Bool.{Bool, true, false, not}
use mathlib.Core.List.{List, [], ◌∷◌}
use Prim.Native.Nat.{ℕ, zero, suc, ◌+◌, ◌-◌, ◌/◌, ◌≤◌}
use lib.Dec.{eqb, leb, ltb}
use lib.ListN.{length}
use borrow.Author.Tests.{leb-true, not-true}
use Rattle.basis.specs.Choice.{pick, both, every, all_pass}
use Rattle.basis.proofs.Tests.{never, both_left, both_right}
use Rattle.value.specs.Bounds.{max_day_time_seconds, max_year_month}
use Rattle.value.specs.Rows.{has, is_moment}
use Rattle.value.specs.Kinds.{kind_of}
use Rattle.value.specs.declared.Kind.{Kind}
use Rattle.value.specs.declared.Kind.TheVariants as KV
use Rattle.numerals.specs.Reading.{is_digit, number, fraction_digits, fraction_at}
use Rattle.numerals.specs.Writing.{longest}
use Rattle.numerals.specs.Carried.{without_zero}
use Rattle.text_durations.specs.declared.Sums.{Sums}
use Rattle.text_durations.specs.declared.Shape.{Shape}
use Rattle.text_durations.specs.declared.Amount.{Amount}
use Rattle.text_forms.proofs.RowTests.{one_alone}
use Rattle.text_forms.specs.Forms.{Form, weight, counts_months, duration_form, form_months, seconds, point}
use Rattle.text_durations.specs.Walks.{is_nothing, component, components, shape_from, shape, amount_value}
use Rattle.text_durations.specs.Spelling.{share_of}
use Rattle.text_durations.proofs.Passed.{duration_byte}

-- a letter is none of others, and none of those is a digit
unfoldable pub away_from : ℕ → List ℕ → Bool
away_from c [] = true
away_from c (d ∷ ds) = every (not (eqb d c) ∷ not (is_digit d) ∷ away_from c ds ∷ [])

-- where letters follow
abbrev pub if_more : List ℕ → Bool → Bool
if_more [] b = true
if_more (d ∷ ds) b = b

-- letters that tell the components apart: no digits, all different, and seconds last
unfoldable pub told_apart : List ℕ → Bool
told_apart [] = true
told_apart (c ∷ cs) =
    every (not (is_digit c) ∷ if_more cs (every (not (eqb c seconds) ∷ not (eqb point c) ∷ away_from c cs ∷ [])) ∷ told_apart cs ∷ [])

-- the most that there is to be written, and the most that a component leaves of it
abbrev pub most_sums : Sums
most_sums = record { months = max_year_month; seconds = max_day_time_seconds }

abbrev pub most_rest : Bool → ℕ → Sums → Sums
most_rest months w a = record { months = pick months (w - 1) a.months; seconds = pick months a.seconds (w - 1) }

-- digits of a number, counted as far as a text has room
unfoldable pub width_to : ℕ → ℕ → ℕ
width_to zero n = suc n
width_to (suc k) n = pick (ltb n 10) 1 (suc (width_to k (n / 10)))

-- bytes of a component of which there are m at most: digits, a fraction where it may have one, and its letter
abbrev pub most_shown : ℕ → ℕ → ℕ
most_shown c m = width_to longest m + (pick (eqb c seconds) (1 + fraction_digits) 0 + 1)

unfoldable pub most_all : Bool → List ℕ → Sums → ℕ
most_all time [] a = 0
most_all time (c ∷ cs) a = most_shown c (share_of time c a) + most_all time cs (most_rest (counts_months time c) (weight time c) a)

unfoldable pub most_left : Bool → List ℕ → Sums → Sums
most_left time [] a = a
most_left time (c ∷ cs) a = most_left time cs (most_rest (counts_months time c) (weight time c) a)

-- with a sign, P and T
abbrev pub most_bytes : Form → ℕ
most_bytes f = 2 + (most_all false f.before most_sums + (1 + most_all true f.after (most_left false f.before most_sums)))

abbrev pub ok_form : Form → Bool
ok_form f =
    every
    (told_apart f.before
    ∷ told_apart f.after
    ∷ not (has f.before seconds)
    ∷ without_zero f.before
    ∷ without_zero f.after
    ∷ all_pass duration_byte f.before
    ∷ all_pass duration_byte f.after
    ∷ leb (most_bytes f) longest
    ∷ leb (length f.nothing) longest
    ∷ one_alone f
    ∷ [])

-- what the test says
pub record Sane (f : Form) : Type 0 where
  pub told_before : told_apart f.before ≡ true
  pub told_after : told_apart f.after ≡ true
  pub whole_before : has f.before seconds ≡ false
  pub marked_before : without_zero f.before ≡ true
  pub marked_after : without_zero f.after ≡ true
  pub known_before : all_pass duration_byte f.before ≡ true
  pub known_after : all_pass duration_byte f.after ≡ true
  pub room : most_bytes f ≤ longest
  pub zero_room : length f.nothing ≤ longest
  pub alone : one_alone f ≡ true

pub sane : (f : Form) → ok_form f ≡ true → Sane f
unfolding every
sane f e =
    let e1 = both_right _ _ e in
    let e2 = both_right _ _ e1 in
    let e3 = both_right _ _ e2 in
    let e4 = both_right _ _ e3 in
    let e5 = both_right _ _ e4 in
    let e6 = both_right _ _ e5 in
    let e7 = both_right _ _ e6 in
    let e8 = both_right _ _ e7 in
    let e9 = both_right _ _ e8 in
    record {
      told_before = both_left _ _ e;
      told_after = both_left _ _ e1;
      whole_before = not-true (has f.before seconds) (both_left _ _ e2);
      marked_before = both_left _ _ e3;
      marked_after = both_left _ _ e4;
      known_before = both_left _ _ e5;
      known_after = both_left _ _ e6;
      room = leb-true (most_bytes f) longest (both_left _ _ e7);
      zero_room = leb-true (length f.nothing) longest (both_left _ _ e8);
      alone = both_left _ _ e9;
    }

-- every row passes
pub rows_sane : (k : Kind) → ok_form (duration_form k) ≡ true
unfolding every both has is_digit away_from told_apart without_zero weight width_to most_all most_left
rows_sane KV.Date = refl
rows_sane KV.Time = refl
rows_sane KV.DateTime = refl
rows_sane KV.DayTimeDuration = refl
rows_sane KV.YearMonthDuration = refl

pub sane_row : (k : Kind) → Sane (duration_form k)
sane_row k = sane (duration_form k) (rows_sane k)

-- a duration's text of zero reads as that, and what is read is of its kind
abbrev zero_again : Shape → Bool
zero_again t = every (t.good ∷ not t.long ∷ is_nothing t.sums t.ticks ∷ [])

abbrev pub zero_reads : Form → Bool
zero_reads f = zero_again (shape f.before f.after f.nothing)

pub rows_zero : (k : Kind) → is_moment k ≡ false → zero_reads (duration_form k) ≡ true
unfolding every both is_moment is_digit number fraction_at weight component components shape_from shape
rows_zero KV.Date e = absurd (never (sym e))
rows_zero KV.Time e = absurd (never (sym e))
rows_zero KV.DateTime e = absurd (never (sym e))
rows_zero KV.DayTimeDuration e = refl
rows_zero KV.YearMonthDuration e = refl

pub rows_own : (k : Kind) (a : Amount) → is_moment k ≡ false → kind_of (amount_value (form_months (duration_form k)) a) ≡ k
unfolding is_moment has
rows_own KV.Date a e = absurd (never (sym e))
rows_own KV.Time a e = absurd (never (sym e))
rows_own KV.DateTime a e = absurd (never (sym e))
rows_own KV.DayTimeDuration a e = refl
rows_own KV.YearMonthDuration a e = refl
