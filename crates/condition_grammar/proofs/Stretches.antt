-- A longest stretch of bytes, a word and a numeral as the productions have them are what the definitions of crates `condition_words` and `numerals` find,
-- and the other way round.
use mathlib.Core.Path.{◌≡◌, refl, sym, ap, subst, ◌∙◌}
use mathlib.Core.Bool.{Bool, true, false}
use mathlib.Core.List.{List, [], ◌∷◌}
use Prim.Native.Nat.{ℕ, zero, suc, ◌+◌, ◌-◌, ◌*◌, ◌<◌, ◌≤◌}
use Prim.Native.Char.{code}
use native.Mathlib.Nat.{add-zero}
use native.Mathlib.Omega.{arith}
use native.Mathlib.Numerals.{add-one}
use lib.Dec.{leb, ltb, eqb}
use lib.ListN.{length, get_or, take, drop, get_or-eq_default}
use lib.Seq.{get_or-drop, drop-cons, drop-drop}
use borrow.Author.Tests.{leb-true, leb-false, ltb-true, ltb-false, eqb-true, eq-eqb, ne_eqb, le-leb, lt-leb}
use Rattle.basis.specs.Choice.{pick, both}
use Rattle.basis.proofs.Tests.{both_left, both_right, both_true}
use Rattle.numerals.specs.Reading.{number, numeral_at, is_digit, at}
use Rattle.numerals.proofs.Stretches.{stop, digit_within, a_digit}
use Rattle.condition_words.specs.Words.{letter, belongs, stretch_end_in, stretch_end, skipped, between, same}
use Rattle.condition_words.proofs.Stretching.{stretch_from, stretch_within}
use Rattle.condition_words.specs.declared.Class.{Class}
use Rattle.condition_words.specs.declared.Class.TheVariants as C
use Rattle.condition_grammar.proofs.Ends.{picked}
use Rattle.condition_grammar.specs.Productions.{Longest, Space, Spaces, Letter, small, capital, colon, Digit, Digits, no_digit, digit, Numeral}

-- which bytes a class has
abbrev pub Of : Class → ℕ → Type 0
Of C.Space = Space
Of C.Letter = Letter
Of C.Unquoted = λ b. b ≡ code "\"" → ⊥

no_both : {A : Type 0} {b : Bool} → b ≡ true → b ≡ false → A
no_both e f = let z : ◌≡◌ {A = ℕ} 0 1 = cc in absurd (omega arith)

of_letter : (b : ℕ) → Letter b → letter b ≡ true
unfolding letter both
of_letter b (small h k) = rw (ne_eqb b (code ":") (λ e. omega arith), le-leb (code "a") b h, le-leb b (code "z") k)
of_letter b (capital h k) = by (eqb b (code ":")) refl
  where
    by : (t : Bool) → eqb b (code ":") ≡ t → pick t true (pick (leb (code "a") b) (leb b (code "z")) (both (leb (code "A") b) (leb b (code "Z")))) ≡ true
    by true e = refl
    by false e = let l : b < code "a" = omega arith in rw (lt-leb (code "a") b l, le-leb (code "A") b h, le-leb b (code "Z") k)
of_letter b (colon e) = rw (eq-eqb b (code ":") e)

letter_of_lem : (b : ℕ) → letter b ≡ true → Letter b
unfolding letter
letter_of_lem b = picked (λ t. t ≡ true → Letter b) (eqb b (code ":")) _ _ (λ e h. colon (eqb-true b (code ":") e))
    (λ f. picked (λ t. t ≡ true → Letter b) (leb (code "a") b) _ _ (λ e h. small (leb-true (code "a") b e) (leb-true b (code "z") h))
    (λ e h. capital (leb-true (code "A") b (both_left _ _ h)) (leb-true b (code "Z") (both_right (leb (code "A") b) _ h))))

of_belongs : (c : Class) (b : ℕ) → Of c b → belongs c b ≡ true
unfolding belongs
of_belongs C.Space b x = eq-eqb b (code " ") x
of_belongs C.Letter b x = of_letter b x
of_belongs C.Unquoted b x = rw (ne_eqb b (code "\"") x)

belongs_of : (c : Class) (b : ℕ) → belongs c b ≡ true → Of c b
unfolding belongs
belongs_of C.Space b e = eqb-true b (code " ") e
belongs_of C.Letter b e = letter_of_lem b e
belongs_of C.Unquoted b e = λ q. let f : eqb b (code "\"") ≡ true = eq-eqb b (code "\"") q in no_both {b = true} refl (sym e ∙ rw f)

of_digit : (b : ℕ) → Digit b → is_digit b ≡ true
unfolding is_digit
of_digit b x = both_true _ _ (le-leb (code "0") b x.from) (le-leb b (code "9") x.to)

digit_of : (b : ℕ) → is_digit b ≡ true → Digit b
digit_of b e = let d = a_digit b e in record { from = d.from; to = d.to }

-- what is no such byte fails the test
no_digit_of : (b : ℕ) → (Digit b → ⊥) → is_digit b ≡ false
no_digit_of b n = by (is_digit b) refl
  where
    by : (t : Bool) → is_digit b ≡ t → is_digit b ≡ false
    by true e = absurd (n (digit_of b e))
    by false e = e

module _ (c : Class) (s : List ℕ) where
  of_longest : (n p to : ℕ) → Longest (Of c) s p to → to ≤ p + n → stretch_end_in n c s p ≡ to
  unfolding stretch_end_in
  of_longest zero p to l h = let f : p ≤ to = l.forward in omega arith
  of_longest (suc n) p to l h = by (belongs c (get_or s p 0)) refl (leb to p) refl (λ g k. of_longest n (p + 1) to g k)
    where
      next : p < to → Longest (Of c) s (p + 1) to
      next k = record { forward = omega arith; within = l.within; all = λ i a b. l.all i (omega arith) b; ends = l.ends }

      by : (b : Bool) → belongs c (get_or s p 0) ≡ b → (d : Bool) → leb to p ≡ d → (Longest (Of c) s (p + 1) to → to ≤ p + 1 + n → stretch_end_in n c s (p + 1) ≡ to) →
          pick b (stretch_end_in n c s (p + 1)) p ≡ to
      by true e true d r =
          let f : p ≤ to = l.forward in let g : to ≤ p = leb-true _ _ d in let q : p ≡ to = omega arith in
          absurd (l.ends (subst (λ i. Of c (get_or s i 0)) q (belongs_of c _ e)))
      by true e false d r = let g : p < to = leb-false _ _ d in r (next g) (omega arith)
      by false e true d r = let f : p ≤ to = l.forward in let g : to ≤ p = leb-true _ _ d in omega arith
      by false e false d r = let g : p < to = leb-false _ _ d in no_both (of_belongs c _ (l.all p (omega arith) g)) e

  pub longest_is : {p to : ℕ} → Longest (Of c) s p to → stretch_end c s p ≡ to
  unfolding stretch_end
  longest_is {p} {to} l = let w : to ≤ length s = l.within in of_longest (length s - p) p to l (omega arith)

  of_all : (n p i : ℕ) → p ≤ i → i < stretch_end_in n c s p → Of c (get_or s i 0)
  unfolding stretch_end_in
  of_all zero p i h = λ k. absurd (omega arith)
  of_all (suc n) p i h = picked (λ x. i < x → Of c (get_or s i 0)) (belongs c (get_or s p 0)) _ _
      (λ e k. by e (leb i p) refl (λ g. of_all n (p + 1) i g k)) (λ e k. absurd (omega arith))
    where
      by : belongs c (get_or s p 0) ≡ true → (b : Bool) → leb i p ≡ b → (p + 1 ≤ i → Of c (get_or s i 0)) → Of c (get_or s i 0)
      by e true d r = let g : i ≤ p = leb-true _ _ d in let q : p ≡ i = omega arith in subst (λ j. Of c (get_or s j 0)) q (belongs_of c _ e)
      by e false d r = let g : p < i = leb-false _ _ d in r (omega arith)

  of_ends : (n p : ℕ) → n ≡ length s - p → stretch_end_in n c s p < length s → belongs c (get_or s (stretch_end_in n c s p) 0) ≡ false
  unfolding stretch_end_in
  of_ends zero p e h = absurd (omega arith)
  of_ends (suc n) p e h = picked (λ x. x < length s → belongs c (get_or s x 0) ≡ false) (belongs c (get_or s p 0)) _ _
      (λ b. of_ends n (p + 1) (omega arith)) (λ b i. b) h

  module _ (p : ℕ) (h : p ≤ length s) where
    stretch_all : (i : ℕ) → p ≤ i → i < stretch_end c s p → Of c (get_or s i 0)
    unfolding stretch_end
    stretch_all = of_all (length s - p) p

    stretch_over : stretch_end c s p < length s → belongs c (get_or s (stretch_end c s p) 0) ≡ false
    unfolding stretch_end
    stretch_over = of_ends (length s - p) p refl

    -- a stretch that ends before the text does
    pub stretch_before : stretch_end c s p < length s → Longest (Of c) s p (stretch_end c s p)
    stretch_before k =
        record { forward = stretch_from c s p; within = omega arith; all = stretch_all; ends = λ x. no_both (of_belongs c _ x) (stretch_over k) }

    -- a stretch of bytes of which 0 is none
    pub stretch_stands : (Of c 0 → ⊥) → Longest (Of c) s p (stretch_end c s p)
    stretch_stands z = by (ltb (stretch_end c s p) (length s)) refl
      where
        by : (b : Bool) → ltb (stretch_end c s p) (length s) ≡ b → Longest (Of c) s p (stretch_end c s p)
        by true e = stretch_before (ltb-true _ _ e)
        by false e =
            record {
              forward = stretch_from c s p;
              within = stretch_within c s p h;
              all = stretch_all;
              ends = λ x. z (subst (Of c) (get_or-eq_default s 0 (ltb-false _ _ e)) x);
            }

-- spaces and words
module _ {s : List ℕ} {p n : ℕ} where
  pub spaces_end : Spaces s p n → skipped s p ≡ n
  spaces_end l = longest_is C.Space s l

  pub letters_end : Longest Letter s p n → stretch_end C.Letter s p ≡ n
  letters_end l = longest_is C.Letter s l

no_letter_0 : Letter 0 → ⊥
no_letter_0 (small h k) = omega arith
no_letter_0 (capital h k) = omega arith
no_letter_0 (colon e) = omega arith

module _ (s : List ℕ) (p : ℕ) (h : p ≤ length s) where
  pub spaces_stand : Spaces s p (skipped s p)
  spaces_stand = stretch_stands C.Space s p h (λ e. omega arith)

  pub letters_stand : Longest Letter s p (stretch_end C.Letter s p)
  letters_stand = stretch_stands C.Letter s p h no_letter_0

pub same_is : (a b : List ℕ) → same a b ≡ true → a ≡ b
unfolding same
same_is [] [] e = refl
same_is [] (y ∷ ys) e = let z : ◌≡◌ {A = ℕ} 0 1 = cc in absurd (omega arith)
same_is (x ∷ xs) [] e = let z : ◌≡◌ {A = ℕ} 0 1 = cc in absurd (omega arith)
same_is (x ∷ xs) (y ∷ ys) e =
    let f : x ≡ y = eqb-true x y (both_left (eqb x y) _ e) in let g : xs ≡ ys = same_is xs ys (both_right (eqb x y) _ e) in cc

take_first : (k c : ℕ) (l w : List ℕ) → take k l ≡ c ∷ w → get_or l 0 0 ≡ c
take_first zero c l w e = let z : ◌≡◌ {A = ℕ} 0 1 = cc in absurd (omega arith)
take_first (suc k) c [] w e = let z : ◌≡◌ {A = ℕ} 0 1 = cc in absurd (omega arith)
take_first (suc k) c (x ∷ l) w e = cc

module _ (s : List ℕ) where
  head_of : (p : ℕ) → get_or (drop p s) 0 0 ≡ get_or s p 0
  head_of p = get_or-drop p s 0 0 ∙ ap (λ j. get_or s j 0) (add-zero p)

  -- a word begins with its first letter
  pub first_of : (p n c : ℕ) (w : List ℕ) → between s p n ≡ c ∷ w → get_or s p 0 ≡ c
  first_of p n c w e = sym (head_of p) ∙ take_first (n - p) c (drop p s) w e

  -- numerals
  pub digits_from : {p n v : ℕ} → Digits s p n v → p ≤ n
  digits_from no_digit = omega arith
  digits_from (digit d e) = omega (arith, digits_from d)

  pub digits_first : {p n v : ℕ} → Digits s p n v → p < n → Digit (at s p)
  digits_first no_digit h = absurd (omega arith)
  digits_first {p} (digit {to = to} d e) h = by (leb to p) refl (λ k. digits_first d k)
    where
      by : (b : Bool) → leb to p ≡ b → (p < to → Digit (at s p)) → Digit (at s p)
      by true f r = let g : to ≤ p = leb-true _ _ f in let q : to ≡ p = omega (arith, digits_from d) in subst (λ i. Digit (at s i)) q e
      by false f r = r (leb-false _ _ f)

  number_on : (v k q : ℕ) → is_digit (at s q) ≡ true → number v k (drop q s) ≡ number (v * 10 + (at s q - code "0")) (suc k) (drop (q + 1) s)
  unfolding number
  number_on v k q e = rw (add-one q, drop-cons s q 0 (digit_within s q e), e)

  digits_number : {p n v : ℕ} → Digits s p n v → numeral_at s p ≡ number v (n - p) (drop n s)
  digits_number {p} no_digit = let e : p - p ≡ 0 = omega arith in rw e
  digits_number {p} (digit {to = to} {v = v} d e) =
      let g : suc (to - p) ≡ to + 1 - p = omega (arith, digits_from d) in
      digits_number d ∙ number_on v (to - p) to (of_digit _ e) ∙ ap (λ k. number (v * 10 + (at s to - code "0")) k (drop (to + 1) s)) g

  pub numeral_stretch : {p n v : ℕ} → Numeral s v p n → numeral_at s p ≡ record { value = v; count = n - p }
  numeral_stretch {p} {n} {v} x = digits_number x.digits ∙ stop v (n - p) (drop n s) (ap is_digit (head_of n) ∙ no_digit_of _ x.ends)

  no_digit_0 : Digit 0 → ⊥
  no_digit_0 x = let h : code "0" ≤ 0 = x.from in omega arith

  ends_at : (q : ℕ) (b : ℕ) → at s q ≡ b → (Digit b → ⊥) → Digit (at s q) → ⊥
  ends_at q b e n x = n (subst Digit e x)

  from_digits : (p v k : ℕ) (xs : List ℕ) → drop (p + k) s ≡ xs → Digits s p (p + k) v → Numeral s (number v k xs).value p (p + (number v k xs).count)
  unfolding number
  from_digits p v k [] e d = record { digits = d; ends = ends_at (p + k) 0 (sym (head_of (p + k)) ∙ ap (λ l. get_or l 0 0) e) no_digit_0 }
  from_digits p v k (x ∷ xs) e d = by (is_digit x) refl (λ g h. from_digits p (v * 10 + (x - code "0")) (suc k) xs g h)
    where
      here : at s (p + k) ≡ x
      here = sym (head_of (p + k)) ∙ ap (λ l. get_or l 0 0) e

      by : (b : Bool) → is_digit x ≡ b → (drop (p + suc k) s ≡ xs → Digits s p (p + suc k) (v * 10 + (x - code "0")) →
          Numeral s (number (v * 10 + (x - code "0")) (suc k) xs).value p (p + (number (v * 10 + (x - code "0")) (suc k) xs).count)) →
          Numeral s (pick b (number (v * 10 + (x - code "0")) (suc k) xs) (record { value = v; count = k })).value p (p + (pick b (number (v * 10 + (x - code "0")) (suc k) xs) (record { value = v; count = k })).count)
      by true f r =
          let q : p + k + 1 ≡ p + suc k = omega arith in
          r (ap (λ i. drop i s) (sym q) ∙ sym (drop-drop 1 (p + k) s) ∙ ap (drop 1) e)
          (subst (λ i. Digits s p i (v * 10 + (x - code "0"))) q
          (subst (λ y. Digits s p (p + k + 1) (v * 10 + (y - code "0"))) here (digit d (digit_of (at s (p + k)) (ap is_digit here ∙ f)))))
      by false f r = record { digits = d; ends = ends_at (p + k) x here (λ y. no_both (of_digit x y) f) }

  pub numeral_stands : (p : ℕ) → Numeral s (numeral_at s p).value p (p + (numeral_at s p).count)
  numeral_stands p = from_digits p 0 0 (drop p s) (ap (λ i. drop i s) (add-zero p)) (subst (λ i. Digits s p i 0) (sym (add-zero p)) no_digit)
