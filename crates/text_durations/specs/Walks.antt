-- Document 01, "Reading text", of durations: "optional minus, P, components in order, at least one; after T at least one."
-- The walk says how far it came: to the first byte that no good text could have there, or to the text's end where the
-- text only stops short. A component's number has no bound; only the sum of months and the sum of seconds have one.
use Rattle.std.specs.Prelude.{Bool, true, false, List, [], ◌∷◌, ℕ, ◌+◌, ◌*◌, eqb, leb, ltb, length}
use Rattle.basis.specs.Choice.{pick, both}
use Rattle.basis.specs.Answer.{Answer, gives, refuses_for, refuses}
use Rattle.value.specs.Bounds.{second_ticks, max_day_time, max_year_month}
use Rattle.value.specs.Clocks.{duration_of}
use Rattle.value.specs.Refusals.{bad_text, beyond_bounds, long_fraction}
use Rattle.value.specs.declared.Kind.{Kind}
use Rattle.value.specs.declared.Value.{Value}
use Rattle.value.specs.declared.Value.TheVariants as VV
use Rattle.numerals.specs.declared.Fraction.{Fraction}
use Rattle.numerals.specs.Reading.{Number, numeral_at, at, fraction_at}
use Rattle.text_durations.specs.declared.Sums.{Sums}
use Rattle.text_durations.specs.declared.Walk.{Walk}
use Rattle.text_durations.specs.declared.Shape.{Shape}
use Rattle.text_durations.specs.declared.Amount.{Amount}
use Rattle.text_forms.specs.Forms.{Form, weight, counts_months, form_months, duration_form, seconds, minus_sign, point, start_mark, time_mark}

-- no months, no seconds and no part of a second
abbrev pub is_nothing : Sums → ℕ → Bool
is_nothing a ticks = eqb (a.months + a.seconds + ticks) 0

-- the sums of no component
abbrev pub no_sums : Sums
no_sums = record { months = 0; seconds = 0 }

-- one of the sums, of months or of seconds, with k more
abbrev pub more_of : Bool → ℕ → Sums → Sums
more_of months k a = record { months = pick months (a.months + k) a.months; seconds = pick months a.seconds (a.seconds + k) }

-- the sums with n of the component c
abbrev pub counting : Bool → ℕ → ℕ → Sums → Sums
counting time c n a = more_of (counts_months time c) (n * weight time c) a

-- a walk that has found nothing yet, at an offset
abbrev pub walk_from : ℕ → Walk
walk_from i = record { sums = no_sums; ticks = 0; long = false; at = i; far = i }

-- past a byte
abbrev pub onward : Walk → Walk
onward t = record { sums = t.sums; ticks = t.ticks; long = t.long; at = t.at + 1; far = t.at + 1 }

-- no component: what is found and the offset stay, but the text could have gone on as far as i
abbrev pub tried : Walk → ℕ → Walk
tried t i = record { sums = t.sums; ticks = t.ticks; long = t.long; at = t.at; far = i }

-- a component that brings the sums to a and ends at i
abbrev pub walk_taken : Walk → Sums → ℕ → Walk
walk_taken t a i = record { sums = a; ticks = t.ticks; long = t.long; at = i; far = i }

-- the same with a fraction
abbrev pub taken_with : Walk → Sums → Fraction → Walk
taken_with t a f = record { sums = a; ticks = f.ticks; long = f.long; at = f.end + 1; far = f.end + 1 }

-- after a point at i: a digit at least, and the letter c
abbrev pub pointed : List ℕ → ℕ → Walk → Sums → ℕ → Fraction → Walk
pointed s c t a i f = pick (eqb f.end i) (tried t i) (pick (eqb (at s f.end) c) (taken_with t a f) (tried t f.end))

-- the component c: digits and its letter. Seconds may have a fraction.
abbrev pub component_of : List ℕ → Bool → ℕ → Walk → Number → Walk
component_of s time c t n =
    pick (eqb n.count 0) t
    (pick (eqb (at s (t.at + n.count)) c) (walk_taken t (counting time c n.value t.sums) (t.at + n.count + 1))
    (pick (both (eqb c seconds) (eqb (at s (t.at + n.count)) point))
    (pointed s c t (counting time c n.value t.sums) (t.at + n.count + 1) (fraction_at s (t.at + n.count + 1)))
    (tried t (t.at + n.count))))

unfoldable pub component : List ℕ → Bool → ℕ → Walk → Walk
component s time c t = component_of s time c t (numeral_at s t.at)

-- the components in order
unfoldable pub components : List ℕ → Bool → List ℕ → Walk → Walk
components s time [] t = t
components s time (c ∷ cs) t = components s time cs (component s time c t)

-- the walk is at the text's end, and past the offset where it had to find a component
abbrev pub ended : List ℕ → Bool → ℕ → Walk → Shape
ended s negative from t =
    record {
      negative = negative;
      sums = t.sums;
      ticks = t.ticks;
      long = t.long;
      good = pick (eqb t.at from) false (eqb t.at (length s));
      offset = t.far;
    }

-- T, and the components after it
abbrev pub timed : List ℕ → List ℕ → Bool → ℕ → Walk → Shape
timed after s negative from t =
    pick (both (ltb 0 (length after)) (eqb (at s t.at) time_mark)) (ended s negative (t.at + 1) (components s true after (onward t)))
    (ended s negative from t)

-- P, and the components before T
unfoldable pub shape_from : List ℕ → List ℕ → List ℕ → Bool → ℕ → Shape
shape_from before after s negative i =
    pick (eqb (at s i) start_mark) (timed after s negative (i + 1) (components s false before (walk_from (i + 1))))
    (record { negative = negative; sums = no_sums; ticks = 0; long = false; good = false; offset = i })

-- an optional minus
unfoldable pub shape : List ℕ → List ℕ → List ℕ → Shape
shape before after s = pick (eqb (at s 0) minus_sign) (shape_from before after s true 1) (shape_from before after s false 0)

-- zero has no sign
abbrev pub signed_amount : Bool → Sums → ℕ → Amount
signed_amount negative a ticks = record { negative = pick (is_nothing a ticks) false negative; sums = a; ticks = ticks }

-- the months are within the bound of a yearMonthDuration, the seconds and their part within that of a dayTimeDuration
abbrev pub within_bounds : Sums → ℕ → Bool
within_bounds a ticks = both (leb a.months max_year_month) (leb (a.seconds * second_ticks + ticks) max_day_time)

-- The checks in their order: the shape; more than nine fraction digits; the bounds.
unfoldable pub counted : Shape → Answer Amount
counted t =
    pick t.good
    (pick t.long (refuses long_fraction)
    (pick (within_bounds t.sums t.ticks) (gives (signed_amount t.negative t.sums t.ticks)) (refuses beyond_bounds)))
    (refuses bad_text)

unfoldable pub read_by : Form → List ℕ → Answer Amount
read_by f s = counted (shape f.before f.after s)

-- what a kind has of an amount, as a value: the months where its form counts them, else the seconds with their part
abbrev pub amount_value : Bool → Amount → Value
amount_value months a =
    pick months
    (VV.YearMonth (record { negative = a.negative; months = a.sums.months }))
    (VV.DayTime (duration_of a.negative (a.sums.seconds * second_ticks + a.ticks)))

abbrev pub as_value : (Amount → Value) → Answer Amount → Answer Value
as_value value (gives a) = gives (value a)
as_value value (refuses_for r) = refuses_for r

-- a text of a kind, by its form
abbrev pub read_in : Form → List ℕ → Answer Value
read_in f s = as_value (amount_value (form_months f)) (read_by f s)

abbrev pub read_duration : Kind → List ℕ → Answer Value
read_duration k s = read_in (duration_form k) s
