-- The text of components as it grows: one component, all of a list, and P, the components before T and those after it.
use mathlib.Core.Path.{◌≡◌, ap, sym, ◌∙◌}
use mathlib.Core.Bool.{Bool, true, false}
use mathlib.Core.List.{List, [], ◌∷◌, ◌++◌, append_assoc, append-nil}
use Prim.Native.Nat.{ℕ, suc, ◌+◌, ◌/◌, ◌%◌, ◌≤◌, ◌<◌}
use native.Mathlib.Numerals.{add-one}
use native.Mathlib.Omega.{arith}
use lib.Dec.{eqb}
use lib.ListN.{length, get_or, drop, length-append, drop_of_length-le}
use lib.Seq.{drop-cons}
use Rattle.basis.specs.Choice.{pick}
use Rattle.numerals.specs.Writing.{decimal, fraction_text}
use Rattle.text_durations.specs.declared.Sums.{Sums}
use Rattle.text_forms.specs.Forms.{weight, counts_months, start_mark, time_mark}
use Rattle.text_durations.specs.Walks.{is_nothing}
use Rattle.text_durations.specs.Spelling.{fraction_in, shown, one_sum, remainder_of, share_of, rest_of, shown_all, left, after_mark, body}

-- how many of a component there are, and what they leave
module _ (time : Bool) (c : ℕ) (a : Sums) {w : ℕ} (ew : w ≡ weight time c) where
  pub month_share : counts_months time c ≡ true → a.months / w ≡ share_of time c a
  month_share e = ap (λ (v : ℕ). a.months / v) ew ∙ sym (λ i. one_sum (e i) a / weight time c)

  pub second_share : counts_months time c ≡ false → a.seconds / w ≡ share_of time c a
  second_share e = ap (λ (v : ℕ). a.seconds / v) ew ∙ sym (λ i. one_sum (e i) a / weight time c)

  pub month_rest : counts_months time c ≡ true → record { months = a.months % w; seconds = a.seconds } ≡ rest_of time c a
  month_rest e = (λ i. record { months = a.months % ew i; seconds = a.seconds }) ∙ sym (λ i. remainder_of (e i) (weight time c) a)

  pub second_rest : counts_months time c ≡ false → record { months = a.months; seconds = a.seconds % w } ≡ rest_of time c a
  second_rest e = (λ i. record { months = a.months; seconds = a.seconds % ew i }) ∙ sym (λ i. remainder_of (e i) (weight time c) a)

-- one component
module _ (c n ticks : ℕ) {u : ℕ} (eu : u ≡ fraction_in c ticks) where
  pub is_dropped : eqb (n + u) 0 ≡ true → shown c n ticks ≡ []
  unfolding shown
  is_dropped e = rw (← eu, e)

  pub is_shown : eqb (n + u) 0 ≡ false → shown c n ticks ≡ decimal n ++ (fraction_text u ++ c ∷ [])
  unfolding shown
  is_shown e = rw (← eu, e)

  pub shown_length : eqb (n + u) 0 ≡ false → length (shown c n ticks) ≡ length (decimal n) + (length (fraction_text u) + 1)
  shown_length e = ap length (is_shown e) ∙ length-append (decimal n) (fraction_text u ++ c ∷ []) ∙ ap (λ (x : ℕ). length (decimal n) + x) (length-append (fraction_text u) (c ∷ []))

-- a list of components: what is written of it, and what is left
pub record Spelling (time : Bool) (letters : List ℕ) (a₀ : Sums) (ticks : ℕ) (t₀ t : List ℕ) (a : Sums) (k : ℕ) : Type 0 where
  pub text : t ++ shown_all time (drop k letters) a ticks ≡ t₀ ++ shown_all time letters a₀ ticks
  pub rest : left time (drop k letters) a ≡ left time letters a₀

module _ (time : Bool) (letters : List ℕ) (a₀ : Sums) (ticks : ℕ) (t₀ t : List ℕ) (a : Sums) (k : ℕ) (g : Spelling time letters a₀ ticks t₀ t a k) where
  module _ (h : k < length letters) {n : ℕ} (en : n ≡ share_of time (get_or letters k 0) a) where
    abbrev c : ℕ
    c = get_or letters k 0

    abbrev later : List ℕ
    later = shown_all time (drop (suc k) letters) (rest_of time c a) ticks

    one : (t ++ shown c n ticks) ++ later ≡ t₀ ++ shown_all time letters a₀ ticks
    unfolding shown_all
    one = append_assoc t (shown c n ticks) later ∙ ap (λ (q : List ℕ). t ++ q) (sym (rw (drop-cons letters k 0 h, en, shown_all))) ∙ g.text

    pub room : {most : ℕ} → length t₀ + length (shown_all time letters a₀ ticks) ≤ most → length t + length (shown c n ticks) ≤ most
    room l =
        omega (arith, ap length one, length-append t₀ (shown_all time letters a₀ ticks), length-append (t ++ shown c n ticks) later, length-append t (shown c n ticks))

    pub step : {r : List ℕ} {b : Sums} → r ≡ t ++ shown c n ticks → b ≡ rest_of time c a → Spelling time letters a₀ ticks t₀ r b (k + 1)
    unfolding left
    step {r} {b} x eb =
        let z : left time (drop k letters) a ≡ left time (drop (suc k) letters) (rest_of time c a) = rw (drop-cons letters k 0 h, left) in
        rw (add-one, eb, x) (record { text = one; rest = sym z ∙ g.rest })

  module _ (h : length letters ≤ k) where
    pub all_written : t ≡ t₀ ++ shown_all time letters a₀ ticks
    unfolding shown_all
    all_written =
        let e : shown_all time (drop k letters) a ticks ≡ [] = rw (drop_of_length-le letters h) in
        sym (append-nil t) ∙ ap (λ (q : List ℕ). t ++ q) (sym e) ∙ g.text

    pub all_left : a ≡ left time letters a₀
    unfolding left
    all_left =
        let f : left time (drop k letters) a ≡ a = rw (drop_of_length-le letters h) in
        sym f ∙ g.rest

-- P, the components before T, and those after it
module _ (before after : List ℕ) (a : Sums) (ticks : ℕ) where
  abbrev A : List ℕ
  A = shown_all false before a ticks

  abbrev L : Sums
  L = left false before a

  pub body_length : length (body before after a ticks) ≡ 1 + (length A + length (after_mark after L ticks))
  unfolding body
  body_length = omega (arith, length-append A (after_mark after L ticks))

  module _ {l : Sums} (el : l ≡ left false before a) where
    none_after : is_nothing l ticks ≡ true → after_mark after L ticks ≡ []
    none_after e = ap (λ (x : Sums). after_mark after x ticks) (sym el) ∙ (λ i. pick (e i) [] (time_mark ∷ shown_all true after l ticks))

    some_after : is_nothing l ticks ≡ false → after_mark after L ticks ≡ time_mark ∷ shown_all true after l ticks
    some_after e = ap (λ (x : Sums). after_mark after x ticks) (sym el) ∙ (λ i. pick (e i) [] (time_mark ∷ shown_all true after l ticks))

    pub after_length : is_nothing l ticks ≡ false → length (body before after a ticks) ≡ 1 + (length A + (1 + length (shown_all true after l ticks)))
    after_length e = omega (arith, body_length, ap length (some_after e))

    pub body_before : is_nothing l ticks ≡ true → body before after a ticks ≡ start_mark ∷ A
    unfolding body
    body_before e = ap (λ (w : List ℕ). start_mark ∷ (A ++ w)) (none_after e) ∙ ap (λ (w : List ℕ). start_mark ∷ w) (append-nil A)

    pub body_both : is_nothing l ticks ≡ false → body before after a ticks ≡ start_mark ∷ (A ++ time_mark ∷ shown_all true after l ticks)
    unfolding body
    body_both e = ap (λ (w : List ℕ). start_mark ∷ (A ++ w)) (some_after e)
