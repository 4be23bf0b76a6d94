-- A text of a kind has digits and a few marks, and no other byte: wherever another stands, the text is refused with 1. So is one with a
-- blank that stripping leaves, since it stands inside.
use mathlib.Core.Path.{◌≡◌, refl, sym, ◌∙◌}
use mathlib.Core.Bool.{Bool, true, false, not}
use mathlib.Core.List.{List}
use Prim.Native.Nat.{ℕ, ◌<◌}
use lib.Dec.{eqb}
use lib.ListN.{length}
use borrow.Author.Tests.{eqb-true, not-true}
use Rattle.basis.specs.Choice.{pick, both, all_pass}
use Rattle.basis.specs.Answer.{refuses}
use Rattle.basis.proofs.Tests.{never, among_all}
use Rattle.value.specs.Refusals.{bad_text}
use Rattle.value.specs.Rows.{is_moment}
use Rattle.value.specs.declared.Kind.{Kind}
use Rattle.value.specs.declared.Kind.TheVariants as KV
use Rattle.value.specs.declared.Value.{Value}
use Rattle.numerals.specs.Reading.{is_digit, at}
use Rattle.text_blanks.specs.Blanks.{blanks, is_blank}
use Rattle.text_scan.specs.Scanning.{Scan, uncapped, scanned_parts}
use Rattle.text_scan.proofs.Passed.{moment_byte, good_passed}
use Rattle.text_checks.specs.Reading.{judge}
use Rattle.text_layouts.specs.Reading.{read_layout}
use Rattle.text_durations.specs.declared.Amount.{Amount}
use Rattle.text_forms.specs.Forms.{Form, duration_form}
use Rattle.text_durations.specs.Walks.{as_value, counted, read_by, read_duration, shape}
use Rattle.text_durations.proofs.Passed.{duration_byte, shape_passed}
use Rattle.text.specs.Reading.{read_bare}

-- the digits and marks among which are all bytes of a text of a kind
abbrev pub byte_of : Kind → ℕ → Bool
byte_of k b = pick (is_moment k) (moment_byte b) (duration_byte b)

-- the forms of the durations have such bytes alone
forms_lettered : (k : Kind) → (all_pass duration_byte (duration_form k).before ≡ true) × (all_pass duration_byte (duration_form k).after ≡ true)
unfolding is_digit both
forms_lettered KV.Date = (refl, refl)
forms_lettered KV.Time = (refl, refl)
forms_lettered KV.DateTime = (refl, refl)
forms_lettered KV.DayTimeDuration = (refl, refl)
forms_lettered KV.YearMonthDuration = (refl, refl)

module _ (s : List ℕ) (j : ℕ) (h : j < length s) where
  -- dates, times and dateTimes
  layout_stranger : (k : Kind) → moment_byte (at s j) ≡ false → read_layout k s ≡ refuses bad_text
  unfolding read_layout judge
  layout_stranger k e = laid (is_moment k)
    where
      t : Scan
      t = scanned_parts uncapped k s

      to : t.good ≡ true → eqb t.at (length s) ≡ true → ⊥
      to g q =
          let l : t.at ≡ length s = eqb-true t.at (length s) q in
          let b : j < t.at = rw l h in
          never (sym e ∙ good_passed uncapped s k g j b)

      go : (x y : Bool) → t.good ≡ x → eqb t.at (length s) ≡ y → judge k (length s) t ≡ refuses bad_text
      go false y p q = rw p
      go true false p q = rw (p, q)
      go true true p q = absurd (to p q)

      laid : (b : Bool) → pick b (judge k (length s) t) (refuses bad_text) ≡ refuses bad_text
      laid true = go t.good (eqb t.at (length s)) refl refl
      laid false = refl

  -- durations
  form_stranger : (value : Amount → Value) (f : Form) → all_pass duration_byte f.before ≡ true → all_pass duration_byte f.after ≡ true → duration_byte (at s j) ≡ false
      → as_value value (read_by f s) ≡ refuses bad_text
  unfolding read_by counted
  form_stranger value f b a e = go (shape f.before f.after s).good refl
    where
      go : (x : Bool) → (shape f.before f.after s).good ≡ x → as_value value (read_by f s) ≡ refuses bad_text
      go true g = absurd (never (sym e ∙ shape_passed s f.before f.after b a g j h))
      go false g = rw g

  -- any other byte is 1
  pub stranger_refused : (k : Kind) → byte_of k (at s j) ≡ false → read_bare k s ≡ refuses bad_text
  unfolding read_bare
  stranger_refused k = go (is_moment k)
    where
      go : (b : Bool) → pick b (moment_byte (at s j)) (duration_byte (at s j)) ≡ false → pick b (read_layout k s) (read_duration k s) ≡ refuses bad_text
      go true e = layout_stranger k e
      go false e = form_stranger _ (duration_form k) (forms_lettered k).0 (forms_lettered k).1 e

-- a blank is none of them
pub blank_stranger : (k : Kind) (b : ℕ) → is_blank b ≡ true → byte_of k b ≡ false
unfolding is_blank is_digit both
blank_stranger k b = go (is_moment k)
  where
    none : (x : Bool) → all_pass (λ (c : ℕ). not (pick x (moment_byte c) (duration_byte c))) blanks ≡ true
    none true = refl
    none false = refl

    go : (x : Bool) → is_blank b ≡ true → pick x (moment_byte b) (duration_byte b) ≡ false
    go x e = not-true (pick x (moment_byte b) (duration_byte b)) (among_all (λ (c : ℕ). not (pick x (moment_byte c) (duration_byte c))) blanks b (none x) e)

-- so a blank among the bytes of a value is 1
pub blank_among : (k : Kind) (s : List ℕ) (j : ℕ) → j < length s → is_blank (at s j) ≡ true → read_bare k s ≡ refuses bad_text
blank_among k s j h e = stranger_refused s j h k (blank_stranger k (at s j) e)
