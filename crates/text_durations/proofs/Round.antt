-- THE ROUND TRIP of durations: the body of a text, its sign, and then any amount within the bounds that a form's
-- components count reads as what was written, in any form that passes. What reads is valid, and of its kind.
use mathlib.Core.Path.{◌≡◌, refl, ap, sym, ◌∙◌}
use mathlib.Core.Bool.{Bool, true, false, not}
use mathlib.Core.List.{List, [], ◌∷◌, ◌++◌, append-nil}
use Prim.Native.Nat.{ℕ, ◌+◌, ◌^◌, ◌≤◌, ◌<◌}
use native.Mathlib.Omega.{arith}
use lib.Dec.{eqb, ltb}
use lib.ListN.{length, get_or, drop, length-append, length-drop}
use borrow.Author.Tests.{eq-eqb, ne_eqb, eqb-true, eqb-false, lt-ltb, not-true}
use Rattle.basis.specs.Choice.{pick, both, every}
use Rattle.basis.specs.Answer.{Answer, gives, refuses_for, refuses}
use Rattle.basis.proofs.Tests.{never, both_left, both_right}
use Rattle.value.specs.Refusals.{bad_text}
use Rattle.value.specs.Rows.{is_moment}
use Rattle.value.specs.Kinds.{kind_of, ok_value}
use Rattle.value.specs.declared.Kind.{Kind}
use Rattle.value.specs.declared.Value.{Value}
use Rattle.numerals.specs.Reading.{is_digit, at, fraction_digits}
use Rattle.numerals.proofs.Positions.{head, beyond}
use Rattle.text_durations.specs.declared.Sums.{Sums}
use Rattle.text_durations.specs.declared.Walk.{Walk}
use Rattle.text_durations.specs.declared.Shape.{Shape}
use Rattle.text_durations.specs.declared.Amount.{Amount}
use Rattle.text_forms.specs.Forms.{Form, time_mark, start_mark, minus_sign, no_form, duration_form, form_months}
use Rattle.text_durations.specs.Walks.{is_nothing, no_sums, components, timed, ended, onward, walk_from, shape_from, shape, within_bounds, counted, signed_amount, read_by, as_value, amount_value, read_in, read_duration}
use Rattle.text_durations.specs.Spelling.{shown_all, left, after_mark, body, spelt, duration_text, amount_of, duration_text_of}
use Rattle.text_durations.proofs.Going.{no_mark}
use Rattle.text_durations.proofs.Judging.{no_shape, is_within}
use Rattle.text_durations.proofs.Lengths.{text_zero, text_some}
use Rattle.text_durations.proofs.Valid.{Good, reads_good}
use Rattle.text_durations.proofs.Back.{Apart, apart}
use Rattle.text_durations.proofs.Trip.{carried, carried_has, All, all_back, none_shown, same_sums}
use Rattle.text_durations.proofs.FormTests.{Sane, sane_row, zero_reads, rows_zero, rows_own}
use Rattle.text_forms.proofs.RowTests.{rows_none}
use Rattle.text_durations.proofs.Amounts.{Fits, all_left, fraction_left, value_good, value_fits, value_back, amount_valid}

no_zero : is_digit 0 ≡ false
unfolding is_digit both
no_zero = refl

-- a whole text that counts a and the ticks u
pub record Whole (negative : Bool) (a : Sums) (u : ℕ) (r : Shape) : Type 0 where
  pub good : r.good ≡ true
  pub sign : r.negative ≡ negative
  pub sums : r.sums ≡ a
  pub ticks : r.ticks ≡ u
  pub long : r.long ≡ false

-- a walk that ends at the text's end, past the offset where it had to find a component
ended_whole : (s : List ℕ) (negative : Bool) (from : ℕ) (t : Walk) {a : Sums} {u : ℕ} → (t.at ≡ from → ⊥) → t.at ≡ length s → t.sums ≡ a → t.ticks ≡ u → t.long ≡ false
    → Whole negative a u (ended s negative from t)
ended_whole s negative from t a b c d e =
    record {
      good = (λ i. pick (ne_eqb t.at from a i) false (eqb t.at (length s))) ∙ eq-eqb t.at (length s) b;
      sign = refl;
      sums = c;
      ticks = d;
      long = e;
    }

-- where the components leave nothing, there are some
some_letters : (after : List ℕ) (a : Sums) (u : ℕ) → left true after a ≡ no_sums → carried after u ≡ u → is_nothing a u ≡ false → 0 < length after
unfolding left carried
some_letters [] a u e f n = absurd (eqb-false (a.months + a.seconds + u) 0 n (omega (arith, ap (λ (x : Sums). x.months) e, ap (λ (x : Sums). x.seconds) e, f)))
some_letters (c ∷ cs) a u e f n = omega arith

-- the body of a text, of which something is to be counted
module _ (before after : List ℕ) (n : Sums) (u : ℕ) (nz : is_nothing n u ≡ false) (h : u < 10 ^ fraction_digits) (ab : Apart before) (aa : Apart after)
    (nb : carried before u ≡ 0) (na : carried after u ≡ u) (all : left true after (left false before n) ≡ no_sums) where
  abbrev A : List ℕ
  A = shown_all false before n u

  abbrev L : Sums
  L = left false before n

  abbrev M : List ℕ
  M = after_mark after L u

  quiet : is_digit (get_or (after_mark after (left false before n) u) 0 0) ≡ false
  unfolding is_digit both
  quiet = by (is_nothing L u)
    where
      by : (b : Bool) → is_digit (get_or (pick b [] (time_mark ∷ shown_all true after (left false before n) u)) 0 0) ≡ false
      by true = refl
      by false = refl

  module _ (s : List ℕ) (negative : Bool) (p : ℕ) (le : p ≤ length s) (e : drop p s ≡ body before after n u) where
    abbrev a : Walk
    a = components s false before (walk_from (p + 1))

    here : drop p s ≡ start_mark ∷ (A ++ M)
    unfolding body
    here = e

    long_enough : length s ≡ p + (1 + (length A + length M))
    long_enough = omega (arith, length-drop p s, ap length here, length-append A M)

    walked : All (walk_from (p + 1)) a n L (carried before u) (length A)
    walked = all_back s false before (walk_from (p + 1)) n u M ab refl refl h quiet (beyond s p (start_mark ∷ []) (A ++ M) here)

    -- what stands after the components before T
    rest : drop a.at s ≡ M
    rest =
        ap (λ (k : ℕ). drop k s) walked.offset ∙ beyond s (p + 1) A M (beyond s p (start_mark ∷ []) (A ++ M) here)

    begins : shape_from before after s negative p ≡ timed after s negative (p + 1) a
    unfolding shape_from
    begins = rw (eq-eqb (at s p) start_mark (head s p here))

    only_before : is_nothing L u ≡ true → Whole negative n u (shape_from before after s negative p)
    only_before q =
        let m : M ≡ [] = λ i. pick (q i) [] (time_mark ∷ shown_all true after L u) in
        let z : L.months + L.seconds + u ≡ 0 = eqb-true _ _ q in
        let x : ◌≡◌ {A = ℕ} 0 (at s a.at) = sym (head s a.at (rest ∙ m)) in
        let f : both (ltb 0 (length after)) (eqb (at s a.at) time_mark) ≡ false = no_mark s after a.at x (λ v. omega arith) in
        let g : timed after s negative (p + 1) a ≡ ended s negative (p + 1) a = rw f in
        let y : a.sums ≡ n = same_sums (omega (arith, walked.sums.months)) (omega (arith, walked.sums.seconds)) in
        rw (begins ∙ g)
        (ended_whole s negative (p + 1) a (λ v. gone (none_shown false before n u (omega (arith, walked.offset))).0) (omega (arith, walked.offset, long_enough, ap length m)) y (walked.ticks ∙ omega (arith, nb)) walked.long)
      where
        gone : left false before n ≡ n → ⊥
        gone v = never (sym nz ∙ sym (ap (λ (w : Sums). is_nothing w u) v) ∙ q)

    with_after : is_nothing L u ≡ false → Whole negative n u (shape_from before after s negative p)
    unfolding both
    with_after q =
        let B : List ℕ = shown_all true after L u in
        let m : M ≡ time_mark ∷ B = λ i. pick (q i) [] (time_mark ∷ shown_all true after L u) in
        let t : at s a.at ≡ time_mark = head s a.at (rest ∙ m) in
        let f : both (ltb 0 (length after)) (eqb (at s a.at) time_mark) ≡ true = rw (lt-ltb 0 (length after) (some_letters after L u all na q), eq-eqb (at s a.at) time_mark t) in
        let b : Walk = components s true after (onward a) in
        let g : timed after s negative (p + 1) a ≡ ended s negative (a.at + 1) b = rw f in
        let d : drop (a.at + 1) s ≡ B ++ [] = beyond s a.at (time_mark ∷ []) B (rest ∙ m) ∙ sym (append-nil B) in
        let w : All (onward a) b L (left true after L) (carried after u) (length B) = all_back s true after (onward a) L u [] aa (walked.ticks ∙ nb) walked.long h no_zero d in
        let y : b.sums ≡ n =
        same_sums (omega (arith, w.sums.months, walked.sums.months, ap (λ (x : Sums). x.months) all)) (omega (arith, w.sums.seconds, walked.sums.seconds, ap (λ (x : Sums). x.seconds) all)) in
        rw (begins ∙ g)
        (ended_whole s negative (a.at + 1) b (λ v. gone (omega (arith, w.offset))) (omega (arith, w.offset, walked.offset, long_enough, ap length m)) y (w.ticks ∙ na) w.long)
      where
        gone : length (shown_all true after (left false before n) u) ≡ 0 → ⊥
        gone v =
            let k = none_shown true after (left false before n) u v in
            let l : left false before n ≡ no_sums = sym k.0 ∙ all in
            eqb-false ((left false before n).months + (left false before n).seconds + u) 0 q (omega (arith, ap (λ (x : Sums). x.months) l, ap (λ (x : Sums). x.seconds) l, k.1, na))

    pub body_back : Whole negative n u (shape_from before after s negative p)
    body_back = go (is_nothing L u) refl
      where
        go : (b : Bool) → is_nothing (left false before n) u ≡ b → Whole negative n u (shape_from before after s negative p)
        go true q = only_before q
        go false q = with_after q

  -- its sign
  pub spelt_back : (negative : Bool) → Whole negative n u (shape before after (spelt negative (body before after n u)))
  unfolding shape body
  spelt_back true = body_back (minus_sign ∷ body before after n u) true 1 (omega arith) refl
  spelt_back false = body_back (body before after n u) false 0 (omega arith) refl

-- a form's text of zero reads as that
zero_back : (f : Form) → zero_reads f ≡ true → read_by f f.nothing ≡ gives (record { negative = false; sums = no_sums; ticks = 0 })
unfolding read_by every both
zero_back f z =
    let t : Shape = shape f.before f.after f.nothing in
    let y = both_right t.good _ z in
    let l : t.long ≡ false = not-true t.long (both_left (not t.long) _ y) in
    let n : t.sums.months + t.sums.seconds + t.ticks ≡ 0 = eqb-true _ _ (both_left _ _ (both_right (not t.long) _ y)) in
    let m : t.sums ≡ no_sums = same_sums (omega arith) (omega arith) in
    let u : t.ticks ≡ 0 = omega arith in
    sym (is_within t (both_left t.good _ z) l (λ i. within_bounds (m i) (u i))) ∙ (λ i. gives (signed_amount t.negative (m i) (u i)))

-- an amount that a form counts whole reads as what was written, in any form that passes
module _ (f : Form) (s : Sane f) (z : zero_reads f ≡ true) (a : Amount) (good : Good a) (fits : Fits f a) where
  some_back : is_nothing a.sums a.ticks ≡ false → read_by f (duration_text f a) ≡ gives a
  unfolding read_by
  some_back nz =
      let t : Shape = shape f.before f.after (spelt a.negative (body f.before f.after a.sums a.ticks)) in
      let nb : carried f.before a.ticks ≡ 0 = carried_has f.before a.ticks ∙ (λ i. pick (s.whole_before i) a.ticks 0) in
      let w : Whole a.negative a.sums a.ticks t =
      spelt_back f.before f.after a.sums a.ticks nz good.part (apart f.before s.told_before) (apart f.after s.told_after) nb (fraction_left f a fits) (all_left f a fits) a.negative in
      ap (λ (x : List ℕ). counted (shape f.before f.after x)) (text_some f a nz)
      ∙ sym (is_within t w.good w.long (ap (λ (x : Sums). within_bounds x t.ticks) w.sums ∙ ap (within_bounds a.sums) w.ticks ∙ good.within))
      ∙ (λ i. gives (signed_amount (w.sign i) (w.sums i) (w.ticks i)))
      ∙ (λ i. gives (record { negative = pick (nz i) false a.negative; sums = a.sums; ticks = a.ticks }))

  none_back : is_nothing a.sums a.ticks ≡ true → read_by f (duration_text f a) ≡ gives a
  none_back q =
      let n : a.sums.months + a.sums.seconds + a.ticks ≡ 0 = eqb-true _ _ q in
      let m : no_sums ≡ a.sums = same_sums (omega arith) (omega arith) in
      let u : 0 ≡ a.ticks = omega arith in
      ap (read_by f) (text_zero f a q) ∙ zero_back f z ∙ (λ i. gives (record { negative = sym (good.sign q) i; sums = m i; ticks = u i }))

  pub amount_back : read_by f (duration_text f a) ≡ gives a
  amount_back = go (is_nothing a.sums a.ticks) refl
    where
      go : (b : Bool) → is_nothing a.sums a.ticks ≡ b → read_by f (duration_text f a) ≡ gives a
      go true q = none_back q
      go false q = some_back q

-- so every duration reads as what was written
pub duration_round_trip : (v : Value) → is_moment (kind_of v) ≡ false → ok_value v ≡ true → read_duration (kind_of v) (duration_text_of v) ≡ gives v
duration_round_trip v e ok =
    let f : Form = duration_form (kind_of v) in
    ap (as_value (amount_value (form_months f))) (amount_back f (sane_row (kind_of v)) (rows_zero (kind_of v) e) (amount_of v) (value_good v ok) (value_fits v))
    ∙ ap gives (value_back v e ok)

-- no text is of a form without components
none_from : (s : List ℕ) (negative : Bool) (i : ℕ) → (shape_from [] [] s negative i).good ≡ false
unfolding shape_from components both
none_from s negative i = by (eqb (at s i) start_mark)
  where
    by : (b : Bool)
        → (pick b (timed [] s negative (i + 1) (components s false [] (walk_from (i + 1)))) (record { negative = negative; sums = no_sums; ticks = 0; long = false; good = false; offset = i })).good ≡ false
    by true = rw (eq-eqb (i + 1) (i + 1) refl)
    by false = refl

none_good : (s : List ℕ) → (shape [] [] s).good ≡ false
unfolding shape
none_good s = by (eqb (at s 0) minus_sign)
  where
    by : (b : Bool) → (pick b (shape_from [] [] s true 1) (shape_from [] [] s false 0)).good ≡ false
    by true = none_from s true 1
    by false = none_from s false 0

none_reads : (s : List ℕ) → read_in no_form s ≡ refuses bad_text
unfolding read_by
none_reads s = ap (as_value (amount_value (form_months no_form))) (sym (no_shape (shape [] [] s) (none_good s)))

-- what reads is valid, and of the kind that it was read as
pub duration_valid : (k : Kind) (s : List ℕ) (v : Value) → read_duration k s ≡ gives v → (ok_value v ≡ true) × (kind_of v ≡ k)
duration_valid k s v e = go (is_moment k) refl
  where
    no : ◌≡◌ {A = ℕ} 0 1 → ⊥
    no z = omega arith

    f : Form
    f = duration_form k

    by : is_moment k ≡ false → (x : Answer Amount) → read_by (duration_form k) s ≡ x → as_value (amount_value (form_months (duration_form k))) x ≡ gives v
        → (ok_value v ≡ true) × (kind_of v ≡ k)
    by m (gives a) q r =
        let w : amount_value (form_months (duration_form k)) a ≡ v = cc in
        (ap ok_value (sym w) ∙ amount_valid f s a (sane_row k).alone (reads_good f s a q), ap kind_of (sym w) ∙ rows_own k a m)
    by m (refuses_for why) q r = let z : ◌≡◌ {A = ℕ} 0 1 = cc in absurd (no z)

    go : (b : Bool) → is_moment k ≡ b → (ok_value v ≡ true) × (kind_of v ≡ k)
    go true m =
        let r : gives v ≡ refuses bad_text = sym e ∙ ap (λ (g : Form). read_in g s) (rows_none k m) ∙ none_reads s in
        let z : ◌≡◌ {A = ℕ} 0 1 = cc in
        absurd (no z)
    go false m = by m (read_by (duration_form k) s) refl e
