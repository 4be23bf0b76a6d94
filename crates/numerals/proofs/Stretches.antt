-- Stretches of digits: a digit is passed, another byte stops the stretch; a stretch stays within the text, all its bytes are digits, and
-- one of k digits is a number below 10 ^ k, and a tenth of that at least where the first digit is not 0.
use mathlib.Core.Path.{◌≡◌, refl, ap, sym, ◌∙◌}
use mathlib.Core.Bool.{Bool, true, false}
use mathlib.Core.List.{List, [], ◌∷◌}
use Prim.Native.Nat.{ℕ, zero, suc, ◌+◌, ◌-◌, ◌*◌, ◌^◌, ◌≤◌, ◌<◌}
use Prim.Native.Char.{code}
use native.Mathlib.Nat.{pow-suc}
use native.Mathlib.Omega.{arith}
use lib.ListN.{length, get_or, drop, length-drop}
use lib.Dec.{leb}
use lib.Seq.{get_or-drop}
use borrow.Author.Tests.{le-leb, leb-true, leb-false}
use Rattle.basis.specs.Choice.{both, pick}
use Rattle.basis.proofs.Tests.{both_left, both_right}
use Rattle.numerals.specs.Reading.{is_digit, number, numeral_at, at}
use Rattle.numerals.proofs.Positions.{within, head}

pub record Digit (b : ℕ) : Type 0 where
  pub from : code "0" ≤ b
  pub to : b ≤ code "9"

pub a_digit : (b : ℕ) → is_digit b ≡ true → Digit b
unfolding is_digit
a_digit b e = record { from = leb-true (code "0") b (both_left _ _ e); to = leb-true b (code "9") (both_right _ _ e) }

pub is_digit_lem : (x : ℕ) → x ≤ 9 → is_digit (code "0" + x) ≡ true
unfolding is_digit both
is_digit_lem x h = simp (le-leb (code "0") (code "0" + x) (omega arith), le-leb (code "0" + x) (code "9") (omega arith))

pub pass : (v k x : ℕ) (xs : List ℕ) → x ≤ 9 → number v k ((code "0" + x) ∷ xs) ≡ number (v * 10 + x) (suc k) xs
unfolding number
pass v k x xs h =
    let e : v * 10 + (code "0" + x - code "0") ≡ v * 10 + x = omega arith in
    rw (is_digit_lem x h, e)

pub stop : (v k : ℕ) (rest : List ℕ) → is_digit (get_or rest 0 0) ≡ false → number v k rest ≡ record { value = v; count = k }
unfolding number
stop v k [] e = refl
stop v k (x ∷ xs) e = rw e

pub digit_within : (s : List ℕ) (i : ℕ) → is_digit (at s i) ≡ true → i < length s
digit_within s i e = within s i (at s i) refl (omega (arith, a_digit (at s i) e))

count_le : (v k : ℕ) (xs : List ℕ) → (number v k xs).count ≤ k + length xs
unfolding number
count_le v k [] = omega arith
count_le v k (x ∷ xs) = go (is_digit x) (count_le (v * 10 + (x - code "0")) (suc k) xs)
  where
    go : (b : Bool) → (number (v * 10 + (x - code "0")) (suc k) xs).count ≤ suc k + length xs
        → (pick b (number (v * 10 + (x - code "0")) (suc k) xs) (record { value = v; count = k })).count ≤ k + suc (length xs)
    go true h = omega arith
    go false h = omega arith

pub stretch_le : (s : List ℕ) (i : ℕ) → i ≤ length s → i + (numeral_at s i).count ≤ length s
stretch_le s i h = omega (arith, count_le 0 0 (drop i s), length-drop i s)

number_lt : (v k : ℕ) (xs : List ℕ) → v < 10 ^ k → (number v k xs).value < 10 ^ (number v k xs).count
unfolding number
number_lt v k [] h = h
number_lt v k (x ∷ xs) h = go (is_digit x) refl (number_lt (v * 10 + (x - code "0")) (suc k) xs)
  where
    go : (b : Bool) → is_digit x ≡ b
        → (v * 10 + (x - code "0") < 10 ^ suc k → (number (v * 10 + (x - code "0")) (suc k) xs).value < 10 ^ (number (v * 10 + (x - code "0")) (suc k) xs).count)
        → (pick b (number (v * 10 + (x - code "0")) (suc k) xs) (record { value = v; count = k })).value
        < 10 ^ (pick b (number (v * 10 + (x - code "0")) (suc k) xs) (record { value = v; count = k })).count
    go true e r = r (omega (arith, a_digit x e, pow-suc 10 k))
    go false e r = h

pub stretch_lt : (s : List ℕ) (i : ℕ) → (numeral_at s i).value < 10 ^ (numeral_at s i).count
stretch_lt s i = number_lt 0 0 (drop i s) (omega arith)

number_from : (v k : ℕ) (xs : List ℕ) → 10 ^ k ≤ 10 * v → 10 ^ (number v k xs).count ≤ 10 * (number v k xs).value
unfolding number
number_from v k [] h = h
number_from v k (x ∷ xs) h = go (is_digit x) (number_from (v * 10 + (x - code "0")) (suc k) xs)
  where
    go : (b : Bool)
        → (10 ^ suc k ≤ 10 * (v * 10 + (x - code "0")) → 10 ^ (number (v * 10 + (x - code "0")) (suc k) xs).count ≤ 10 * (number (v * 10 + (x - code "0")) (suc k) xs).value)
        → 10 ^ (pick b (number (v * 10 + (x - code "0")) (suc k) xs) (record { value = v; count = k })).count
        ≤ 10 * (pick b (number (v * 10 + (x - code "0")) (suc k) xs) (record { value = v; count = k })).value
    go true r = r (omega (arith, pow-suc 10 k))
    go false r = h

led_from : (xs : List ℕ) → (get_or xs 0 0 ≡ code "0" → ⊥) → 1 ≤ (number 0 0 xs).count → 10 ^ (number 0 0 xs).count ≤ 10 * (number 0 0 xs).value
unfolding number
led_from [] e h = absurd (bad h)
  where
    bad : 1 ≤ 0 → ⊥
    bad g = omega arith
led_from (x ∷ xs) e h = go (is_digit x) refl h
  where
    some : is_digit x ≡ true → 1 ≤ x - code "0"
    some q = by (leb 1 (x - code "0")) refl
      where
        by : (b : Bool) → leb 1 (x - code "0") ≡ b → 1 ≤ x - code "0"
        by true f = leb-true 1 (x - code "0") f
        by false f = absurd (e (omega (arith, leb-false 1 (x - code "0") f, a_digit x q)))

    go : (b : Bool) → is_digit x ≡ b → 1 ≤ (pick b (number (0 * 10 + (x - code "0")) 1 xs) (record { value = 0; count = 0 })).count
        → 10 ^ (pick b (number (0 * 10 + (x - code "0")) 1 xs) (record { value = 0; count = 0 })).count
        ≤ 10 * (pick b (number (0 * 10 + (x - code "0")) 1 xs) (record { value = 0; count = 0 })).value
    go true q l = number_from (0 * 10 + (x - code "0")) 1 xs (omega (arith, some q))
    go false q l = absurd (bad l)
      where
        bad : 1 ≤ 0 → ⊥
        bad g = omega arith

-- a stretch that does not begin with 0
pub stretch_from : (s : List ℕ) (i : ℕ) → (at s i ≡ code "0" → ⊥) → 1 ≤ (numeral_at s i).count → 10 ^ (numeral_at s i).count ≤ 10 * (numeral_at s i).value
stretch_from s i e h = led_from (drop i s) (λ q. e (head s i refl ∙ q)) h

-- every byte of a stretch is a digit
counted_digit : (v k : ℕ) (xs : List ℕ) (j : ℕ) → k + j < (number v k xs).count → is_digit (get_or xs j 0) ≡ true
unfolding number
counted_digit v k [] j h = absurd (bad h)
  where
    bad : k + j < k → ⊥
    bad g = omega arith
counted_digit v k (x ∷ xs) j h = go (is_digit x) refl j h (counted_digit (v * 10 + (x - code "0")) (suc k) xs)
  where
    go : (b : Bool) → is_digit x ≡ b → (j : ℕ) → k + j < (pick b (number (v * 10 + (x - code "0")) (suc k) xs) (record { value = v; count = k })).count
        → ((j : ℕ) → suc k + j < (number (v * 10 + (x - code "0")) (suc k) xs).count → is_digit (get_or xs j 0) ≡ true)
        → is_digit (get_or (x ∷ xs) j 0) ≡ true
    go true e zero l r = e
    go true e (suc j) l r = r j (omega arith)
    go false e j l r = absurd (bad l)
      where
        bad : k + j < k → ⊥
        bad g = omega arith

pub stretch_digit : (s : List ℕ) (i j : ℕ) → i ≤ j → j < i + (numeral_at s i).count → is_digit (at s j) ≡ true
stretch_digit s i j h l =
    let e : i + (j - i) ≡ j = omega arith in
    ap (λ (k : ℕ). is_digit (at s k)) (sym e) ∙ ap is_digit (sym (get_or-drop i s (j - i) 0)) ∙ counted_digit 0 0 (drop i s) (j - i) (omega arith)
