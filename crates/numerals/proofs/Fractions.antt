-- The digits after a point: what the reader keeps of them, where they end, and that a fraction's text reads as its ticks.
use mathlib.Core.Path.{◌≡◌, refl, ap, sym, ◌∙◌}
use mathlib.Core.Bool.{Bool, true, false}
use mathlib.Core.List.{List, [], ◌∷◌, ◌++◌}
use Prim.Native.Nat.{ℕ, ◌+◌, ◌-◌, ◌*◌, ◌^◌, ◌≤◌, ◌<◌}
use Prim.Native.Char.{code}
use native.Mathlib.Nat.{mul_assoc, mul_comm}
use native.Mathlib.Omega.{arith}
use lib.Dec.{eqb, leb, lit≤}
use lib.ListN.{length, get_or, drop}
use borrow.Author.Tests.{le-leb, lt-leb, leb-true, leb-false, ne_eqb}
use mir.Syntax.{w32}
use mir.Val.{Fits}
use Rattle.basis.specs.Choice.{pick}
use Rattle.basis.proofs.Tests.{never}
use Rattle.numerals.specs.declared.DigitsRead.{DigitsRead}
use Rattle.numerals.specs.declared.Kept.{Kept}
use Rattle.numerals.specs.Reading.{is_digit, number, numeral_at, at, fraction_digits, fraction_of, fraction_at}
use Rattle.numerals.specs.Carried.{Found}
use Rattle.numerals.specs.Writing.{digits, kept_digits, fraction_text}
use Rattle.numerals.proofs.Powers.{widened, filled, zeros_join}
use Rattle.numerals.proofs.Stretches.{stretch_le, stretch_lt, stretch_digit}
use Rattle.numerals.proofs.Decimals.{length_digits, digits_stretch}
use Rattle.numerals.proofs.Stripping.{strip_le, strip_lt, given_back}

-- what the reader keeps, with a cap that no fraction reaches
module _ (s : List ℕ) (i : ℕ) {cap : ℕ} (ec : cap ≡ 10 ^ fraction_digits) (r : DigitsRead) (f : Found s i cap r) where
  count : r.end - i ≡ (numeral_at s i).count
  count = omega (arith, f.ends)

  pub too_many : fraction_digits < r.end - i → record { ticks = 0; long = true; end = r.end } ≡ fraction_at s i
  unfolding fraction_at
  too_many h = rw (lt-leb (numeral_at s i).count fraction_digits (omega (arith, count)), f.ends)

  module _ (h : r.end - i ≤ fraction_digits) where
    exact : r.value ≡ (numeral_at s i).value
    exact = omega (arith, f.capped, widened (numeral_at s i).value (numeral_at s i).count fraction_digits (omega (arith, count)) (stretch_lt s i))

    module _ {p : ℕ} (ep : p ≡ 10 ^ (fraction_digits - (r.end - i))) where
      ticks_lt : r.value * p < 10 ^ fraction_digits
      ticks_lt = rw (ep, exact, count) (filled (numeral_at s i).value (numeral_at s i).count fraction_digits (omega (arith, count)) (stretch_lt s i))

      pub ticks_fit : Fits w32 (r.value * p)
      ticks_fit = record { fits = omega (arith, ticks_lt) }

      pub some_ticks : record { ticks = r.value * p; long = false; end = r.end } ≡ fraction_at s i
      unfolding fraction_at
      some_ticks =
          let g : r.value * p ≡ (numeral_at s i).value * 10 ^ (fraction_digits - (numeral_at s i).count) = rw (ep, exact, count) in
          rw (le-leb (numeral_at s i).count fraction_digits (omega (arith, count)), f.ends, g)

-- where the digits end
pub fraction_end : (s : List ℕ) (i : ℕ) → (fraction_at s i).end ≡ i + (numeral_at s i).count
unfolding fraction_at
fraction_end s i = go (leb (numeral_at s i).count fraction_digits) refl
  where
    go : (b : Bool) → leb (numeral_at s i).count fraction_digits ≡ b → (fraction_of i (numeral_at s i)).end ≡ i + (numeral_at s i).count
    go true e = rw e
    go false e = rw e

pub fraction_le : (s : List ℕ) (i : ℕ) → i ≤ length s → (fraction_at s i).end ≤ length s
fraction_le s i h = omega (arith, fraction_end s i, stretch_le s i h)

-- digits that are too many: every one of them, the first that is too many among them, is there
pub digit_too_many : (s : List ℕ) (i : ℕ) → (fraction_at s i).long ≡ true → (j : ℕ) → j ≤ fraction_digits → is_digit (at s (i + j)) ≡ true
unfolding fraction_at
digit_too_many s i e j h = go (leb (numeral_at s i).count fraction_digits) refl
  where
    go : (b : Bool) → leb (numeral_at s i).count fraction_digits ≡ b → is_digit (at s (i + j)) ≡ true
    go true q = absurd (never (rw q at e))
    go false q = stretch_digit s i (i + j) (omega arith) (omega (arith, leb-false (numeral_at s i).count fraction_digits q))

-- there are never ticks for a whole second
pub fraction_lt : (s : List ℕ) (i : ℕ) → (fraction_at s i).ticks < 10 ^ fraction_digits
unfolding fraction_at
fraction_lt s i = go (leb (numeral_at s i).count fraction_digits) refl
  where
    go : (b : Bool) → leb (numeral_at s i).count fraction_digits ≡ b → (fraction_of i (numeral_at s i)).ticks < 10 ^ fraction_digits
    go true e = rw e (filled (numeral_at s i).value (numeral_at s i).count fraction_digits (leb-true _ _ e) (stretch_lt s i))
    go false e = rw e (omega arith)

-- a fraction of at most six digits has a thousand times the ticks of its digits padded to six
pub thousandfold : (s : List ℕ) (i : ℕ) → (numeral_at s i).count ≤ 6
    → fraction_at s i ≡ record { ticks = 1000 * ((numeral_at s i).value * 10 ^ (6 - (numeral_at s i).count)); long = false; end = i + (numeral_at s i).count }
unfolding fraction_at
thousandfold s i h =
    let c : ℕ = (numeral_at s i).count in
    let v : ℕ = (numeral_at s i).value in
    let z : fraction_digits - c ≡ (6 - c) + 3 = omega arith in
    let e : 10 ^ (6 - c) * 1000 ≡ 10 ^ (fraction_digits - c) = zeros_join (6 - c) 3 ∙ ap (λ (x : ℕ). 10 ^ x) (sym z) in
    let m : v * 10 ^ (fraction_digits - c) ≡ 1000 * (v * 10 ^ (6 - c)) = ap (λ (x : ℕ). v * x) (sym e) ∙ sym (mul_assoc v (10 ^ (6 - c)) 1000) ∙ mul_comm (v * 10 ^ (6 - c)) 1000 in
    rw (le-leb c fraction_digits (omega arith)) (λ j. record { ticks = m j; long = false; end = i + c })

-- the digits of a fraction's text
abbrev pub kept : ℕ → List ℕ
kept u = digits (kept_digits fraction_digits u).count (kept_digits fraction_digits u).value

pub no_fraction : (u : ℕ) → u ≡ 0 → fraction_text u ≡ []
unfolding fraction_text
no_fraction u e = rw e

pub a_fraction : (u : ℕ) → (u ≡ 0 → ⊥) → fraction_text u ≡ code "." ∷ kept u
unfolding fraction_text
a_fraction u e = rw (ne_eqb u 0 e)

pub kept_length : (u : ℕ) → length (kept u) ≡ (kept_digits fraction_digits u).count
kept_length u = length_digits (kept_digits fraction_digits u).count (kept_digits fraction_digits u).value

-- they read as its ticks
pub fraction_back : (s : List ℕ) (i u : ℕ) (rest : List ℕ) → u < 10 ^ fraction_digits → is_digit (get_or rest 0 0) ≡ false → drop i s ≡ kept u ++ rest
    → fraction_at s i ≡ record { ticks = u; long = false; end = i + length (kept u) }
unfolding fraction_at
fraction_back s i u rest h q e =
    let k : ℕ = (kept_digits fraction_digits u).count in
    let w : ℕ = (kept_digits fraction_digits u).value in
    let r : numeral_at s i ≡ record { value = w; count = k } = ap (number 0 0) e ∙ digits_stretch k w rest (strip_lt fraction_digits u h) q in
    rw (r, le-leb k fraction_digits (strip_le fraction_digits u), given_back fraction_digits u h, kept_length u)

pub strip_length : {k : Kept} (u : ℕ) → (u ≡ 0 → ⊥) → k ≡ kept_digits fraction_digits u → length (fraction_text u) ≡ 1 + k.count
strip_length {k} u e ek = omega (arith, ap length (a_fraction u e), kept_length u, ap (λ (q : Kept). q.count) ek)

pub fraction_short : (u : ℕ) → length (fraction_text u) ≤ 1 + fraction_digits
unfolding fraction_text
fraction_short u = go (eqb u 0)
  where
    go : (b : Bool) → length (pick b [] (code "." ∷ kept u)) ≤ 1 + fraction_digits
    go true = lit≤ tt
    go false = omega (arith, kept_length u, strip_le fraction_digits u)
