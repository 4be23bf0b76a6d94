-- The numbers that reading refuses with are 1, 2 and 3; those of writing are 16 and 15.
use Rattle.std.specs.Prelude.{None, Option, Some}
use mathlib.Core.Path.{◌≡◌, refl, sym, ◌∙◌}
use mathlib.Core.Bool.{Bool, true}
use mathlib.Core.List.{List, [], ◌∷◌}
use Prim.Native.Nat.{ℕ, ◌+◌}
use Prim.Native.Char.{code}
use lib.Dec.{eqb, leb}
use lib.ListN.{length}
use Rattle.basis.specs.Choice.{pick, among}
use Rattle.basis.specs.Answer.{Reason, Answer, gives, refuses_for, refuses}
use Rattle.calendar.specs.declared.Date.{Date}
use Rattle.calendar.specs.Calendar.{day_of, dated_of}
use Rattle.value.specs.Bounds.{max_year}
use Rattle.value.specs.Refusals.{bad_text, beyond_bounds, long_fraction, no_room, outside}
use Rattle.value.specs.Rows.{is_moment, has_part}
use Rattle.value.specs.Kinds.{ok_value}
use Rattle.value.specs.Values.{ok_date}
use Rattle.value.specs.declared.Kind.{Kind}
use Rattle.value.specs.declared.Value.{Value}
use Rattle.value.proofs.Numbers.{only, only_either, only_refused}
use Rattle.text_scan.specs.declared.FoundDate.{FoundDate}
use Rattle.text_scan.specs.declared.FoundClock.{FoundClock}
use Rattle.text_scan.specs.declared.FoundZone.{FoundZone}
use Rattle.text_scan.specs.Scanning.{Scan, uncapped, scanned_parts}
use Rattle.text_checks.specs.Reading as judging
use Rattle.text_layouts.specs.Reading.{read_layout}
use Rattle.text_durations.specs.Walks.{within_bounds, counted, read_by, shape, as_value}
use Rattle.text_forms.specs.Forms.{Form, duration_form}
use Rattle.text_durations.specs.declared.Shape.{Shape}
use Rattle.text_durations.specs.declared.Amount.{Amount}
use Rattle.text_blanks.specs.Blanks.{bare}
use Rattle.text.specs.Reading.{read_bare, read_as}
use Rattle.text.specs.Writing.{text_of, written}
use Rattle.text.proofs.ReadsBare.{reads_bare}
use Rattle.value.specs.declared.Offset.{Offset}

abbrev pub reading_numbers : List ℕ
reading_numbers = bad_text ∷ beyond_bounds ∷ long_fraction ∷ []

abbrev pub writing_numbers : List ℕ
writing_numbers = outside ∷ no_room ∷ []

abbrev Reads : {A : Type 0} → Answer A → Type 0
Reads x = only reading_numbers x ≡ true

either : {A : Type 0} (b : Bool) (x y : Answer A) → Reads x → Reads y → Reads (pick b x y)
either b x y p q = only_either reading_numbers b x y p q

-- dates, times and dateTimes
start_numbers : (k : Kind) (z : Option Offset) (d : Option Date) → Reads (judging.start_of_day k z d)
start_numbers k z (Some d) = refl
start_numbers k z None = refl

next_numbers : (k : Kind) (d : Date) (z : Option Offset) → Reads (judging.next_day k d z)
unfolding judging.next_day
next_numbers k d z = either (has_part k (code "D")) _ _ (start_numbers k z (dated_of (day_of d + 1) max_year)) refl

clocked_numbers : (k : Kind) (d : Date) (c : FoundClock) (z : Option Offset) → Reads (judging.clocked k d c z)
unfolding judging.clocked
clocked_numbers k d c z = either (eqb c.hour judging.day_end) _ _ (next_numbers k d z) refl

calendar_numbers : (k : Kind) (d : FoundDate) (c : FoundClock) (z : FoundZone) → Reads (judging.on_calendar k d c z)
unfolding judging.on_calendar
calendar_numbers k d c z =
    either (ok_date d.year d.month d.day) _ _
    (either (judging.good_clock c) _ _ (either (judging.ok_parts z) _ _ (clocked_numbers k (judging.day_found d) c (judging.zone_is z)) refl) refl) refl

bounded_numbers : (d : FoundDate) (c : FoundClock) (rest : Answer Value) → Reads rest → Reads (judging.bounded d c rest)
unfolding judging.bounded
bounded_numbers d c rest h = either c.long _ _ refl (either d.negative _ _ refl (either (leb d.year max_year) _ _ h refl))

judge_numbers : (k : Kind) (n : ℕ) (t : Scan) → Reads (judging.judge k n t)
unfolding judging.judge
judge_numbers k n t =
    either t.good _ _ (either (eqb t.at n) _ _ (bounded_numbers t.date t.clock _ (calendar_numbers k t.date t.clock t.zone)) refl) refl

-- durations
counted_numbers : (t : Shape) → Reads (counted t)
unfolding counted
counted_numbers t = either t.good _ _ (either t.long _ _ refl (either (within_bounds t.sums t.ticks) _ _ refl refl)) refl

value_numbers : (f : Amount → Value) (x : Answer Amount) → Reads x → Reads (as_value f x)
value_numbers f (gives a) h = refl
value_numbers f (refuses_for r) h = h

duration_numbers : (f : Form) (s : List ℕ) → Reads (read_by f s)
unfolding read_by
duration_numbers f s = counted_numbers (shape f.before f.after s)

read_numbers : (k : Kind) (s : List ℕ) → Reads (read_bare k s)
unfolding read_bare read_layout
read_numbers k s =
    either (is_moment k) _ _ (either (is_moment k) _ _ (judge_numbers k (length s) (scanned_parts uncapped k s)) refl)
    (value_numbers _ (read_by (duration_form k) s) (duration_numbers (duration_form k) s))

-- a text that does not read is refused with 1, 2 or 3
pub read_refuses : (k : Kind) (s : List ℕ) (r : Reason) → read_as k s ≡ refuses_for r → among reading_numbers r.number ≡ true
read_refuses k s r e = only_refused reading_numbers (read_bare k (bare s)) r (read_numbers k (bare s)) (sym (reads_bare k s) ∙ e)

-- a value that is not written is refused with 16 or 15
pub write_refuses : (v : Value) (room : ℕ) (r : Reason) → written v room ≡ refuses_for r → among writing_numbers r.number ≡ true
unfolding written
write_refuses v room r e =
    only_refused writing_numbers (written v room) r
    (only_either writing_numbers (ok_value v) (pick (leb (length (text_of v)) room) (gives (length (text_of v))) (refuses no_room)) (refuses outside)
    (only_either writing_numbers (leb (length (text_of v)) room) (gives (length (text_of v))) (refuses no_room) refl refl) refl)
    e
