-- What is written reads back as the same value; what reads is valid; and values with one zone and one instant, or one
-- number, are written alike. One statement each over the five kinds.
use mathlib.Core.Path.{◌≡◌, refl, ap, sym, ◌∙◌}
use mathlib.Core.Bool.{Bool, true, false}
use mathlib.Core.List.{List}
use Prim.Native.Nat.{ℕ, ◌≤◌, ◌<◌}
use native.Mathlib.Omega.{arith}
use lib.Dec.{ltb}
use lib.ListN.{length}
use Rattle.basis.specs.Choice.{pick, both, every}
use Rattle.basis.specs.Answer.{gives, refuses}
use Rattle.value.specs.Bounds.{max_day_time, max_year_month}
use Rattle.value.specs.Refusals.{bad_text}
use Rattle.value.specs.Clocks.{clock_of, ticks_in, duration_of}
use Rattle.value.specs.Durations.{plus_half, minus_half, apart}
use Rattle.value.specs.Kinds.{kind_of, ok_value}
use Rattle.value.specs.Rows.{is_moment, has}
use Rattle.value_instants.specs.Ticks.{utc}
use Rattle.value.specs.Values.{ok_date, ok_time_part, ok_zone, ok_date_time}
use Rattle.value.specs.declared.DateTime.{DateTime}
use Rattle.value.specs.declared.DayTime.{DayTime}
use Rattle.value.specs.declared.Kind.{Kind}
use Rattle.value.specs.declared.Value.{Value}
use Rattle.value.specs.declared.Value.TheVariants as VV
use Rattle.value_instants.proofs.Instants.{utc_good, same_instant}
use Rattle.value.proofs.ClockLaws.{duration_is, day_time_signed}
use Rattle.value.proofs.KindParts.{moment_good}
use Rattle.value.proofs.Signs.{signed_back, same_difference}
use Rattle.numerals.specs.Writing.{longest}
use Rattle.numerals.specs.Reading.{at}
use Rattle.text_blanks.specs.Blanks.{is_blank, bare}
use Rattle.text_blanks.proofs.Laws.{without_blanks}
use Rattle.text_layouts.specs.Reading.{read_layout}
use Rattle.text_layouts.specs.Writing.{kind_text}
use Rattle.text_layouts.proofs.OfKinds.{round_trip}
use Rattle.text_layouts.proofs.Lengths.{text_fits}
use Rattle.text_layouts.proofs.ReadsValid.{reads_valid}
use Rattle.text_layouts.proofs.Valid.{Valid}
use Rattle.text_durations.specs.Walks.{read_duration}
use Rattle.text_forms.specs.Forms.{duration_form, form_months}
use Rattle.text_durations.proofs.Round.{duration_round_trip, duration_valid}
use Rattle.text_durations.proofs.Lengths.{duration_length}
use Rattle.text.specs.Reading.{read_bare, read_as}
use Rattle.text.specs.Writing.{text_of}
use Rattle.text.specs.Alike.{Alike, moment_of, sign_of, magnitude_of}
use Rattle.text.proofs.ReadsBare.{reads_bare, moment_reads}
use Rattle.text.proofs.Strangers.{blank_among}

-- for every valid value of each of the five kinds, the bytes that are written read as that value
pub bytes_read_back : (v : Value) → ok_value v ≡ true → read_bare (kind_of v) (text_of v) ≡ gives v
unfolding read_bare is_moment text_of
bytes_read_back (VV.Moment k d) g =
    let h = moment_good (VV.Moment k d) g k d refl in
    moment_reads k (kind_text k d) h.0 ∙ round_trip k d h.0 h.1 h.2
bytes_read_back (VV.DayTime d) g = duration_round_trip (VV.DayTime d) refl g
bytes_read_back (VV.YearMonth d) g = duration_round_trip (VV.YearMonth d) refl g

-- there is no blank among them
pub no_blank_written : (v : Value) → ok_value v ≡ true → (j : ℕ) → j < length (text_of v) → is_blank (at (text_of v) j) ≡ false
no_blank_written v g j h = go (is_blank (at (text_of v) j)) refl
  where
    go : (b : Bool) → is_blank (at (text_of v) j) ≡ b → is_blank (at (text_of v) j) ≡ false
    go true e =
        let f : gives v ≡ refuses bad_text = sym (bytes_read_back v g) ∙ blank_among (kind_of v) (text_of v) j h e in
        absurd (let z : ◌≡◌ {A = ℕ} 0 1 = cc in omega arith)
    go false e = e

-- so stripping leaves them as they are
pub written_is_bare : (v : Value) → ok_value v ≡ true → bare (text_of v) ≡ text_of v
written_is_bare v g = without_blanks (text_of v) (no_blank_written v g)

-- and reading what is written gives the value
pub written_reads_back : (v : Value) → ok_value v ≡ true → read_as (kind_of v) (text_of v) ≡ gives v
written_reads_back v g = reads_bare (kind_of v) (text_of v) ∙ ap (read_bare (kind_of v)) (written_is_bare v g) ∙ bytes_read_back v g

-- no text is longer than the longest
pub text_within : (v : Value) → ok_value v ≡ true → length (text_of v) ≤ longest
unfolding text_of
text_within (VV.Moment k d) g = text_fits k d
text_within (VV.DayTime d) g = duration_length (VV.DayTime d) g
text_within (VV.YearMonth d) g = duration_length (VV.YearMonth d) g

-- what reads is within the bounds of the kind that was asked for
bytes_valid : (k : Kind) (s : List ℕ) (v : Value) → read_bare k s ≡ gives v → Valid k v
unfolding read_bare
bytes_valid k s v = go (is_moment k)
  where
    go : (b : Bool) → pick b (read_layout k s) (read_duration k s) ≡ gives v → Valid k v
    go true e = reads_valid k s v e
    go false e = let d = duration_valid k s v e in record { ok = d.0; kind = d.1 }

pub what_reads_is_valid : (k : Kind) (s : List ℕ) (v : Value) → read_as k s ≡ gives v → Valid k v
what_reads_is_valid k s v e = bytes_valid k (bare s) v (sym (reads_bare k s) ∙ e)

-- a value is its kind, its record, its sign and its magnitude
abbrev rebuilt : Kind → DateTime → Bool → ℕ → Value
rebuilt k d b n =
    pick (is_moment k) (VV.Moment k d)
    (pick (form_months (duration_form k)) (VV.YearMonth (record { negative = b; months = n })) (VV.DayTime (duration_of b n)))

rebuilt_is : (v : Value) → ok_value v ≡ true → rebuilt (kind_of v) (moment_of v) (sign_of v) (magnitude_of v) ≡ v
unfolding is_moment has ok_value
rebuilt_is (VV.Moment k d) g =
    let m : is_moment k ≡ true = (moment_good (VV.Moment k d) g k d refl).0 in
    λ i. pick (m i) (VV.Moment k d) (pick (form_months (duration_form k)) (VV.YearMonth (record { negative = false; months = 0 })) (VV.DayTime (duration_of false 0)))
rebuilt_is (VV.DayTime d) g = ap (λ (t : DayTime). VV.DayTime t) (duration_is d g)
rebuilt_is (VV.YearMonth d) g = refl

-- the record of a valid value is valid
pub moment_ok : (v : Value) → ok_value v ≡ true → ok_date_time (moment_of v) ≡ true
unfolding ok_value ok_date_time ok_date ok_time_part clock_of ok_zone every both
moment_ok (VV.Moment k d) g = (moment_good (VV.Moment k d) g k d refl).1
moment_ok (VV.DayTime d) g = refl
moment_ok (VV.YearMonth d) g = refl

Signed : Value → Type 0
Signed v =
    (ltb (plus_half (sign_of v) (magnitude_of v)) (minus_half (sign_of v) (magnitude_of v)) ≡ sign_of v)
    × (apart (plus_half (sign_of v) (magnitude_of v)) (minus_half (sign_of v) (magnitude_of v)) ≡ magnitude_of v)

signed_is : (v : Value) → ok_value v ≡ true → Signed v
unfolding Signed ok_value
signed_is (VV.Moment k d) g = (refl, refl)
signed_is (VV.DayTime d) g = signed_back max_day_time (ticks_in d) d.negative (day_time_signed d g)
signed_is (VV.YearMonth d) g = signed_back max_year_month d.months d.negative g

-- valid values of one kind that are alike are one value
pub alike_is_same : (v w : Value) → ok_value v ≡ true → ok_value w ≡ true → kind_of v ≡ kind_of w → Alike v w → v ≡ w
unfolding Signed
alike_is_same v w gv gw k a =
    let m : moment_of v ≡ moment_of w = same_instant utc (moment_of v) (moment_of w) utc_good (moment_ok v gv) (moment_ok w gw) a.zone a.instant in
    let d = same_difference (plus_half (sign_of v) (magnitude_of v)) (minus_half (sign_of v) (magnitude_of v)) (plus_half (sign_of w) (magnitude_of w)) (minus_half (sign_of w) (magnitude_of w)) a.number in
    let s : sign_of v ≡ sign_of w = sym (signed_is v gv).0 ∙ d.0 ∙ (signed_is w gw).0 in
    let n : magnitude_of v ≡ magnitude_of w = sym (signed_is v gv).1 ∙ d.1 ∙ (signed_is w gw).1 in
    sym (rebuilt_is v gv) ∙ (λ i. rebuilt (k i) (m i) (s i) (n i)) ∙ rebuilt_is w gw

-- two texts that read, as one kind, as values that are alike are written alike
pub written_alike : (k : Kind) (s t : List ℕ) (v w : Value) → read_as k s ≡ gives v → read_as k t ≡ gives w → Alike v w → text_of v ≡ text_of w
written_alike k s t v w ev ew a =
    let x = what_reads_is_valid k s v ev in
    let y = what_reads_is_valid k t w ew in
    ap text_of (alike_is_same v w x.ok y.ok (x.kind ∙ sym y.kind) a)
