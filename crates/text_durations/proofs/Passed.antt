-- What a walk has passed: every byte before the offset that it reached is a digit, a component's letter or one of the marks. So a text of
-- good shape has no other bytes.
use mathlib.Core.Path.{◌≡◌, refl, sym, subst}
use mathlib.Core.Bool.{Bool, true, false}
use mathlib.Core.List.{List, [], ◌∷◌}
use Prim.Native.Nat.{ℕ, ◌+◌}
use lib.Dec.{eqb, ltb}
use lib.ListN.{length}
use borrow.Author.Tests.{eqb-true}
use Rattle.basis.specs.Choice.{pick, both, all_pass, among}
use Rattle.basis.specs.Letters.{bytes}
use Rattle.basis.proofs.Tests.{never, both_left, both_right}
use Rattle.numerals.specs.declared.Fraction.{Fraction}
use Rattle.numerals.specs.Reading.{is_digit, Number, numeral_at, at, fraction_at}
use Rattle.numerals.proofs.Passed.{Passed, passed_none, passed_mark, passed_digits}
use Rattle.numerals.proofs.Fractions.{fraction_end}
use Rattle.text_durations.specs.declared.Sums.{Sums}
use Rattle.text_durations.specs.declared.Walk.{Walk}
use Rattle.text_forms.specs.Forms.{seconds, point, minus_sign, start_mark, time_mark}
use Rattle.text_durations.specs.Walks.{no_sums, counting, component, components, pointed, tried, taken_with, walk_taken, walk_from, onward, ended, timed, shape_from, shape}

-- the bytes that stand in the text of a duration
abbrev pub duration_byte : ℕ → Bool
duration_byte b = pick (is_digit b) true (among (bytes "-PTYMDHS.") b)

digit_ok : (b : ℕ) → is_digit b ≡ true → duration_byte b ≡ true
digit_ok b e = rw e

module _ (s : List ℕ) where
  abbrev To : ℕ → Type 0
  To i = Passed duration_byte s i

  -- after a point: digits, and the component's letter
  pointed_passed : (c : ℕ) (t : Walk) (n : Sums) (i : ℕ) → duration_byte c ≡ true → To t.at → To i → To (pointed s c t n i (fraction_at s i)).at
  pointed_passed c t n i ok a b = go (eqb f.end i) (eqb (at s f.end) c) refl
    where
      f : Fraction
      f = fraction_at s i

      digits : To f.end
      digits = subst To (sym (fraction_end s i)) (passed_digits duration_byte s digit_ok i b)

      go : (x y : Bool) → eqb (at s f.end) c ≡ y → To (pick x (tried t i) (pick y (taken_with t n f) (tried t f.end))).at
      go true y e = a
      go false true e = passed_mark duration_byte s f.end c e ok digits
      go false false e = a

  component_passed : (time : Bool) (c : ℕ) (t : Walk) → duration_byte c ≡ true → To t.at → To (component s time c t).at
  unfolding component is_digit both
  component_passed time c t ok a =
      go (eqb n.count 0) (eqb (at s (t.at + n.count)) c) (both (eqb c seconds) (eqb (at s (t.at + n.count)) point)) refl refl
    where
      n : Number
      n = numeral_at s t.at

      digits : To (t.at + n.count)
      digits = passed_digits duration_byte s digit_ok t.at a

      go : (x y z : Bool) → eqb (at s (t.at + n.count)) c ≡ y → both (eqb c seconds) (eqb (at s (t.at + n.count)) point) ≡ z
          → To (pick x t (pick y (walk_taken t (counting time c n.value t.sums) (t.at + n.count + 1))
          (pick z (pointed s c t (counting time c n.value t.sums) (t.at + n.count + 1) (fraction_at s (t.at + n.count + 1))) (tried t (t.at + n.count))))).at
      go true y z e f = a
      go false true z e f = passed_mark duration_byte s (t.at + n.count) c e ok digits
      go false false true e f =
          pointed_passed c t (counting time c n.value t.sums) (t.at + n.count + 1) ok a
          (passed_mark duration_byte s (t.at + n.count) point (both_right (eqb c seconds) (eqb (at s (t.at + n.count)) point) f) refl digits)
      go false false false e f = a

  components_passed : (time : Bool) (cs : List ℕ) (t : Walk) → all_pass duration_byte cs ≡ true → To t.at → To (components s time cs t).at
  unfolding components
  components_passed time [] t ok a = a
  components_passed time (c ∷ cs) t ok a =
      components_passed time cs (component s time c t) (both_right (duration_byte c) (all_pass duration_byte cs) ok)
      (component_passed time c t (both_left (duration_byte c) (all_pass duration_byte cs) ok) a)

  -- a walk that ends well is at the text's end
  ended_passed : (negative : Bool) (from : ℕ) (t : Walk) → To t.at → (ended s negative from t).good ≡ true → To (length s)
  ended_passed negative from t a = go (eqb t.at from)
    where
      go : (x : Bool) → pick x false (eqb t.at (length s)) ≡ true → To (length s)
      go true g = absurd (never g)
      go false g = subst To (eqb-true t.at (length s) g) a

  module _ (before after : List ℕ) (ok_before : all_pass duration_byte before ≡ true) (ok_after : all_pass duration_byte after ≡ true) where
    timed_passed : (negative : Bool) (from : ℕ) (t : Walk) → To t.at → (timed after s negative from t).good ≡ true → To (length s)
    unfolding is_digit both
    timed_passed negative from t a = go (both (ltb 0 (length after)) (eqb (at s t.at) time_mark)) refl
      where
        go : (x : Bool) → both (ltb 0 (length after)) (eqb (at s t.at) time_mark) ≡ x
            → (pick x (ended s negative (t.at + 1) (components s true after (onward t))) (ended s negative from t)).good ≡ true → To (length s)
        go true e =
            ended_passed negative (t.at + 1) (components s true after (onward t))
            (components_passed true after (onward t) ok_after (passed_mark duration_byte s t.at time_mark (both_right (ltb 0 (length after)) (eqb (at s t.at) time_mark) e) refl a))
        go false e = ended_passed negative from t a

    from_passed : (negative : Bool) (i : ℕ) → To i → (shape_from before after s negative i).good ≡ true → To (length s)
    unfolding shape_from is_digit both
    from_passed negative i a = go (eqb (at s i) start_mark) refl
      where
        go : (x : Bool) → eqb (at s i) start_mark ≡ x
            → (pick x (timed after s negative (i + 1) (components s false before (walk_from (i + 1)))) (record { negative = negative; sums = no_sums; ticks = 0; long = false; good = false; offset = i })).good ≡ true
            → To (length s)
        go true e =
            timed_passed negative (i + 1) (components s false before (walk_from (i + 1)))
            (components_passed false before (walk_from (i + 1)) ok_before (passed_mark duration_byte s i start_mark e refl a))
        go false e = λ g. absurd (never g)

    -- a text of good shape has such bytes alone
    pub shape_passed : (shape before after s).good ≡ true → To (length s)
    unfolding shape is_digit both
    shape_passed = go (eqb (at s 0) minus_sign) refl
      where
        go : (x : Bool) → eqb (at s 0) minus_sign ≡ x → (pick x (shape_from before after s true 1) (shape_from before after s false 0)).good ≡ true → To (length s)
        go true e = from_passed true 1 (passed_mark duration_byte s 0 minus_sign e refl (passed_none duration_byte s))
        go false e = from_passed false 0 (passed_none duration_byte s)
