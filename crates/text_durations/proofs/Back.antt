-- Components that were written are found again: one that is shown, one that was dropped, and a whole list of them. A walk's
-- `far` plays no part in what a good text reads as, so that the laws speak of its other fields.
use mathlib.Core.Path.{◌≡◌, refl, ap, sym, ◌∙◌}
use mathlib.Core.Bool.{Bool, true, false, not}
use mathlib.Core.List.{List, [], ◌∷◌, ◌++◌, append_assoc}
use mathlib.Core.Logic.{◌⊎◌, inl, inr}
use Prim.Native.Nat.{ℕ, ◌+◌, ◌*◌, ◌^◌, ◌<◌}
use native.Mathlib.Nat.{add-zero}
use native.Mathlib.Omega.{arith}
use lib.Dec.{eqb}
use lib.ListN.{length, get_or, drop, length-append}
use lib.Seq.{get_or-append-add}
use borrow.Author.Tests.{eq-eqb, ne_eqb, eqb-true, eqb-false, not-true}
use Rattle.basis.specs.Choice.{pick, both, every}
use Rattle.basis.proofs.Tests.{both_left, both_right}
use Rattle.numerals.specs.Reading.{is_digit, number, Number, numeral_at, at, fraction_digits, fraction_at}
use Rattle.numerals.specs.Writing.{decimal}
use Rattle.numerals.proofs.Positions.{cell, head, beyond}
use Rattle.numerals.proofs.Stretches.{stop}
use Rattle.numerals.proofs.Decimals.{decimal_stretch, decimal_some}
use Rattle.numerals.proofs.Fractions.{kept, kept_length, no_fraction, a_fraction, fraction_back}
use Rattle.numerals.proofs.Stripping.{strip_some}
use Rattle.text_durations.specs.declared.Sums.{Sums}
use Rattle.text_durations.specs.declared.Walk.{Walk}
use Rattle.text_forms.specs.Forms.{weight, counts_months, seconds, point}
use Rattle.text_durations.specs.Walks.{more_of, counting, component}
use Rattle.text_durations.specs.Spelling.{fraction_in, shown, share_of, rest_of, shown_all}
use Rattle.text_durations.proofs.FormTests.{away_from, told_apart}
use Rattle.text_durations.proofs.Written.{is_dropped, is_shown}

-- the text here is not the component c
abbrev pub Other : ℕ → List ℕ → Type 0
Other c rest = ((number 0 0 rest).count ≡ 0) ⊎ ((get_or rest (number 0 0 rest).count 0 ≡ c → ⊥) × (c ≡ seconds → ⊥))

pub quiet_other : (c : ℕ) (rest : List ℕ) → is_digit (get_or rest 0 0) ≡ false → Other c rest
quiet_other c rest q = inl (ap (λ (n : Number). n.count) (stop 0 0 rest q))

-- a number, and what follows it
module _ (n : ℕ) (rest : List ℕ) (q : is_digit (get_or rest 0 0) ≡ false) where
  follows : get_or (decimal n ++ rest) (length (decimal n)) 0 ≡ get_or rest 0 0
  follows = ap (λ (k : ℕ). get_or (decimal n ++ rest) k 0) (sym (add-zero (length (decimal n)))) ∙ get_or-append-add (decimal n) rest 0 0

  other_number : (c : ℕ) → (get_or rest 0 0 ≡ c → ⊥) → (c ≡ seconds → ⊥) → Other c (decimal n ++ rest)
  other_number c e f =
      let r : (number 0 0 (decimal n ++ rest)).count ≡ length (decimal n) = ap (λ (m : Number). m.count) (decimal_stretch n rest q) in
      inr (λ z. e (sym follows ∙ ap (λ (k : ℕ). get_or (decimal n ++ rest) k 0) (sym r) ∙ z), f)

-- r is t with those sums, its fraction, and so many bytes on
pub record Back (t r : Walk) (a : Sums) (u on : ℕ) : Type 0 where
  pub sums : r.sums ≡ a
  pub ticks : r.ticks ≡ u
  pub long : r.long ≡ false
  pub offset : r.at ≡ t.at + on

-- nothing more is counted
none_more : (months : Bool) (k : ℕ) (a : Sums) → k ≡ 0 → a ≡ more_of months k a
none_more true k a e = let f : a.months ≡ a.months + k = omega arith in λ i. record { months = f i; seconds = a.seconds }
none_more false k a e = let f : a.seconds ≡ a.seconds + k = omega arith in λ i. record { months = a.months; seconds = f i }

module _ (s : List ℕ) (time : Bool) (c : ℕ) (t : Walk) (z : t.ticks ≡ 0) (l : t.long ≡ false) where
  -- a component that is not there
  still : Back t t t.sums 0 0
  still = record { sums = refl; ticks = z; long = l; offset = omega arith }

  absent : (rest : List ℕ) → drop t.at s ≡ rest → Other c rest → Back t (component s time c t) t.sums 0 0
  unfolding component both
  absent rest e (inl o) = rw (e, eq-eqb (number 0 0 rest).count 0 o) still
  absent rest e (inr f) = go (eqb (number 0 0 rest).count 0) refl
    where
      go : (b : Bool) → eqb (number 0 0 rest).count 0 ≡ b → Back t (component s time c t) t.sums 0 0
      go true q = rw (e, q) still
      go false q =
          rw (e, q, cell s t.at e (number 0 0 rest).count, ne_eqb (get_or rest (number 0 0 rest).count 0) c f.0, ne_eqb c seconds f.1)
          (record { sums = refl; ticks = z; long = l; offset = omega arith })

  -- a component without a fraction
  present : (n : ℕ) (rest : List ℕ) → is_digit c ≡ false → drop t.at s ≡ decimal n ++ c ∷ rest → Back t (component s time c t) (counting time c n t.sums) 0 (length (decimal n) + 1)
  unfolding component
  present n rest d e =
      let k : ℕ = length (decimal n) in
      let r : numeral_at s t.at ≡ record { value = n; count = k } = ap (number 0 0) e ∙ decimal_stretch n (c ∷ rest) d in
      let a : at s (t.at + k) ≡ c = cell s t.at e k ∙ follows n (c ∷ rest) d in
      rw (r, ne_eqb k 0 (λ y. omega (arith, decimal_some n)), eq-eqb (at s (t.at + k)) c a)
      (record { sums = refl; ticks = z; long = l; offset = omega arith })

  -- one with a fraction
  pointed_back : (n u : ℕ) (rest : List ℕ) → c ≡ seconds → (u ≡ 0 → ⊥) → u < 10 ^ fraction_digits → is_digit c ≡ false → is_digit point ≡ false → drop t.at s ≡ decimal n ++ (point ∷ (kept u ++ c ∷ rest))
      → Back t (component s time c t) (counting time c n t.sums) u (length (decimal n) + (1 + length (kept u) + 1))
  unfolding component both
  pointed_back n u rest ec nz h d dp e =
      let k : ℕ = length (decimal n) in
      let tail : List ℕ = kept u ++ c ∷ rest in
      let r : numeral_at s t.at ≡ record { value = n; count = k } = ap (number 0 0) e ∙ decimal_stretch n (point ∷ tail) dp in
      let a : at s (t.at + k) ≡ point = cell s t.at e k ∙ follows n (point ∷ tail) dp in
      let g : drop (t.at + k) s ≡ point ∷ tail = beyond s t.at (decimal n) (point ∷ tail) e in
      let j : drop (t.at + k + 1) s ≡ tail = beyond s (t.at + k) (point ∷ []) tail g in
      let i : ℕ = t.at + k + 1 in
      let end : ℕ = i + length (kept u) in
      let f : fraction_at s i ≡ record { ticks = u; long = false; end = end } = fraction_back s i u (c ∷ rest) h d j in
      let b : at s end ≡ c = head s end (beyond s i (kept u) (c ∷ rest) j) in
      let np : (point ≡ c → ⊥) = λ y. clash (y ∙ ec) in
      let some : (end ≡ i → ⊥) = λ y. none (omega (arith, kept_length u, strip_some fraction_digits u nz h)) in
      rw (r, ne_eqb k 0 (λ y. omega (arith, decimal_some n)), a, ne_eqb point c np, eq-eqb c seconds ec, f, ne_eqb end i some, eq-eqb (at s end) c b)
      (record { sums = refl; ticks = refl; long = refl; offset = omega arith })
    where
      clash : point ≡ seconds → ⊥
      clash q = omega arith

      none : ◌≡◌ {A = ℕ} 0 1 → ⊥
      none q = omega arith

no_digit_point : is_digit point ≡ false
unfolding is_digit both
no_digit_point = refl

-- a component, shown or dropped, before a text that is not that component
pub shown_back : (s : List ℕ) (time : Bool) (c : ℕ) (t : Walk) → t.ticks ≡ 0 → t.long ≡ false → (n u : ℕ) (rest : List ℕ) → u < 10 ^ fraction_digits → is_digit c ≡ false → Other c rest
    → drop t.at s ≡ shown c n u ++ rest → Back t (component s time c t) (counting time c n t.sums) (fraction_in c u) (length (shown c n u))
shown_back s time c t z l n u rest h d o e = go (eqb (n + x) 0) (eqb x 0) refl refl
  where
    x : ℕ
    x = fraction_in c u

    small : fraction_in c u < 10 ^ fraction_digits
    small = by (eqb c seconds)
      where
        by : (b : Bool) → pick b u 0 < 10 ^ fraction_digits
        by true = h
        by false = omega arith

    letter : (fraction_in c u ≡ 0 → ⊥) → c ≡ seconds
    letter nz = by (eqb c seconds) refl
      where
        by : (b : Bool) → eqb c seconds ≡ b → c ≡ seconds
        by true q = eqb-true c seconds q
        by false q = absurd (nz (rw q))

    go : (a b : Bool) → eqb (n + fraction_in c u) 0 ≡ a → eqb (fraction_in c u) 0 ≡ b → Back t (component s time c t) (counting time c n t.sums) (fraction_in c u) (length (shown c n u))
    go true b p q =
        let y : n + fraction_in c u ≡ 0 = eqb-true _ _ p in
        let w : shown c n u ≡ [] = is_dropped c n u refl p in
        let r = absent s time c t z l rest (e ∙ ap (λ (v : List ℕ). v ++ rest) w) o in
        let m : n ≡ 0 = omega arith in
        let f : n * weight time c ≡ 0 = rw m (omega arith) in
        record { sums = r.sums ∙ none_more (counts_months time c) (n * weight time c) t.sums f; ticks = omega (arith, r.ticks); long = r.long; offset = omega (arith, r.offset, ap length w) }
    go false true p q =
        let v : fraction_in c u ≡ 0 = eqb-true _ _ q in
        let w : shown c n u ≡ decimal n ++ c ∷ [] = is_shown c n u refl p ∙ ap (λ (k : List ℕ). decimal n ++ (k ++ c ∷ [])) (no_fraction (fraction_in c u) v) in
        let r = present s time c t z l n rest d (e ∙ ap (λ (k : List ℕ). k ++ rest) w ∙ append_assoc (decimal n) (c ∷ []) rest) in
        record { sums = r.sums; ticks = omega (arith, r.ticks); long = r.long; offset = omega (arith, r.offset, ap length w, length-append (decimal n) (c ∷ [])) }
    go false false p q =
        let nz : (fraction_in c u ≡ 0 → ⊥) = eqb-false (fraction_in c u) 0 q in
        let k : List ℕ = kept (fraction_in c u) in
        let w : shown c n u ≡ decimal n ++ (point ∷ (k ++ c ∷ [])) = is_shown c n u refl p ∙ ap (λ (f : List ℕ). decimal n ++ (f ++ c ∷ [])) (a_fraction (fraction_in c u) nz) in
        let g : drop t.at s ≡ decimal n ++ (point ∷ (k ++ c ∷ rest)) =
        e ∙ ap (λ (f : List ℕ). f ++ rest) w ∙ append_assoc (decimal n) (point ∷ (k ++ c ∷ [])) rest ∙ ap (λ (f : List ℕ). decimal n ++ (point ∷ f)) (append_assoc k (c ∷ []) rest) in
        let r = pointed_back s time c t z l n (fraction_in c u) rest (letter nz) nz small d no_digit_point g in
        record { sums = r.sums; ticks = r.ticks; long = r.long; offset = omega (arith, r.offset, ap length w, length-append (decimal n) (point ∷ (k ++ c ∷ [])), length-append k (c ∷ [])) }

-- c is none of the letters
pub data Away (c : ℕ) : List ℕ → Type 0 where
  end : Away c []
  and : {d : ℕ} {ds : List ℕ} → (d ≡ c → ⊥) → is_digit d ≡ false → Away c ds → Away c (d ∷ ds)

-- letters that tell the components apart: no digits, all different, and seconds last
pub data Apart : List ℕ → Type 0 where
  none : Apart []
  last : {c : ℕ} → is_digit c ≡ false → Apart (c ∷ [])
  more : {c : ℕ} {cs : List ℕ} → is_digit c ≡ false → (c ≡ seconds → ⊥) → (point ≡ c → ⊥) → Away c cs → Apart cs → Apart (c ∷ cs)

-- the tests of letters say so
away : (c : ℕ) (cs : List ℕ) → away_from c cs ≡ true → Away c cs
unfolding away_from every
away c [] e = end
away c (d ∷ ds) e =
    let f = both_right _ _ e in
    let g = both_right _ _ f in
    and (eqb-false d c (not-true (eqb d c) (both_left _ _ e))) (not-true (is_digit d) (both_left _ _ f)) (away c ds (both_left _ _ g))

pub apart : (cs : List ℕ) → told_apart cs ≡ true → Apart cs
unfolding told_apart every
apart [] e = none
apart (c ∷ []) e = last (not-true (is_digit c) (both_left _ _ e))
apart (c ∷ d ∷ ds) e =
    let f = both_right (not (is_digit c)) _ e in
    let o = both_left _ _ f in
    let p = both_right _ _ o in
    let q = both_right _ _ p in
    let g = both_right _ _ f in
    more (not-true (is_digit c) (both_left _ _ e)) (eqb-false c seconds (not-true (eqb c seconds) (both_left _ _ o))) (eqb-false point c (not-true (eqb point c) (both_left _ _ p)))
    (away c (d ∷ ds) (both_left _ _ q)) (apart (d ∷ ds) (both_left _ _ g))

-- what the text of the other letters begins with is no component c
pub other_all : (time : Bool) (c : ℕ) (cs : List ℕ) (a : Sums) (u : ℕ) (rest : List ℕ) → (point ≡ c → ⊥) → (c ≡ seconds → ⊥) → is_digit (get_or rest 0 0) ≡ false → Away c cs
    → Other c (shown_all time cs a u ++ rest)
unfolding shown_all
other_all time c [] a u rest np ns q w = quiet_other c rest q
other_all time c (d ∷ ds) a u rest np ns q (and ne dd w) = go (eqb (m + x) 0) (eqb x 0) refl refl (other_all time c ds (rest_of time d a) u rest np ns q w)
  where
    m : ℕ
    m = share_of time d a

    x : ℕ
    x = fraction_in d u

    y : List ℕ
    y = shown_all time ds (rest_of time d a) u

    go : (v b : Bool) → eqb (share_of time d a + fraction_in d u) 0 ≡ v → eqb (fraction_in d u) 0 ≡ b → Other c (shown_all time ds (rest_of time d a) u ++ rest)
        → Other c ((shown d (share_of time d a) u ++ shown_all time ds (rest_of time d a) u) ++ rest)
    go true b p r o = rw (is_dropped d (share_of time d a) u refl p) o
    go false true p r o =
        let k : List ℕ = decimal (share_of time d a) in
        let z : List ℕ = shown_all time ds (rest_of time d a) u in
        let e : shown d (share_of time d a) u ≡ k ++ d ∷ [] =
        is_shown d (share_of time d a) u refl p ∙ ap (λ (f : List ℕ). k ++ (f ++ d ∷ [])) (no_fraction (fraction_in d u) (eqb-true _ _ r)) in
        let g : (shown d (share_of time d a) u ++ z) ++ rest ≡ k ++ (d ∷ (z ++ rest)) =
        ap (λ (f : List ℕ). (f ++ z) ++ rest) e ∙ ap (λ (f : List ℕ). f ++ rest) (append_assoc k (d ∷ []) z) ∙ append_assoc k (d ∷ z) rest in
        rw g (other_number (share_of time d a) (d ∷ (z ++ rest)) dd c ne ns)
    go false false p r o =
        let k : List ℕ = decimal (share_of time d a) in
        let f : List ℕ = kept (fraction_in d u) in
        let z : List ℕ = shown_all time ds (rest_of time d a) u in
        let e : shown d (share_of time d a) u ≡ k ++ (point ∷ (f ++ d ∷ [])) =
        is_shown d (share_of time d a) u refl p ∙ ap (λ (v : List ℕ). k ++ (v ++ d ∷ [])) (a_fraction (fraction_in d u) (eqb-false _ _ r)) in
        let g : (shown d (share_of time d a) u ++ z) ++ rest ≡ k ++ (point ∷ (((f ++ d ∷ []) ++ z) ++ rest)) =
        ap (λ (v : List ℕ). (v ++ z) ++ rest) e ∙ ap (λ (v : List ℕ). v ++ rest) (append_assoc k (point ∷ (f ++ d ∷ [])) z) ∙ append_assoc k (point ∷ ((f ++ d ∷ []) ++ z)) rest in
        rw g (other_number (share_of time d a) (point ∷ (((f ++ d ∷ []) ++ z) ++ rest)) no_digit_point c np ns)
