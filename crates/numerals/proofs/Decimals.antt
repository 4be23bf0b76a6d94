-- Numbers written in digits, with leading zeros and without, and read again.
use mathlib.Core.Path.{◌≡◌, refl, ap, sym, ◌∙◌}
use mathlib.Core.Bool.{Bool, true, false}
use mathlib.Core.List.{List, [], ◌∷◌, ◌++◌, append_assoc}
use Prim.Native.Nat.{ℕ, zero, suc, ◌+◌, ◌-◌, ◌*◌, ◌/◌, ◌%◌, ◌^◌, ◌≤◌, ◌<◌}
use Prim.Native.Char.{code}
use native.Mathlib.Nat.{pow-suc, mul_assoc}
use native.Mathlib.Omega.{arith}
use lib.Dec.{ltb}
use lib.ListN.{length, get_or, length-append}
use borrow.Author.Tests.{ltb-true, lt-ltb, le-ltb}
use Rattle.basis.specs.Choice.{pick}
use Rattle.numerals.specs.Reading.{number, is_digit}
use Rattle.numerals.specs.Writing.{digits, shortest, decimal}
use Rattle.numerals.proofs.Powers.{few_digits}
use Rattle.numerals.proofs.Stretches.{pass, stop}

pub length_digits : (k n : ℕ) → length (digits k n) ≡ k
unfolding digits
length_digits zero n = refl
length_digits (suc k) n = length-append (digits k (n / 10)) ((code "0" + n % 10) ∷ []) ∙ omega (arith, length_digits k (n / 10))

pub no_digit : (k n : ℕ) → k ≤ 0 → digits k n ≡ []
unfolding digits
no_digit zero n h = refl
no_digit (suc k) n h = absurd (bad h)
  where
    bad : suc k ≤ 0 → ⊥
    bad g = omega arith

pub last_digit : (k n : ℕ) → 0 < k → digits k n ≡ digits (k - 1) (n / 10) ++ (code "0" + n % 10) ∷ []
unfolding digits
last_digit zero n h = absurd (bad h)
  where
    bad : 0 < 0 → ⊥
    bad g = omega arith
last_digit (suc k) n h =
    let e : suc k - 1 ≡ k = omega arith in
    rw e

-- two digits, and four, cell by cell
pub two_cells : (n : ℕ) → n < 100 → digits 2 n ≡ (code "0" + n / 10) ∷ (code "0" + n % 10) ∷ []
unfolding digits
two_cells n h =
    let e : n / 10 % 10 ≡ n / 10 = omega arith in
    ap (λ (x : ℕ). (code "0" + x) ∷ (code "0" + n % 10) ∷ []) e

pub four_pairs : (n : ℕ) → digits 4 n ≡ digits 2 (n / 100) ++ digits 2 (n % 100)
unfolding digits
four_pairs n =
    let a : n / 10 / 10 / 10 % 10 ≡ n / 100 / 10 % 10 = omega arith in
    let b : n / 10 / 10 % 10 ≡ n / 100 % 10 = omega arith in
    let c : n / 10 % 10 ≡ n % 100 / 10 % 10 = omega arith in
    let d : n % 10 ≡ n % 100 % 10 = omega arith in
    λ i. (code "0" + a i) ∷ (code "0" + b i) ∷ (code "0" + c i) ∷ (code "0" + d i) ∷ []

-- k digits of a number below 10 ^ k are read as that number
pub read_digits : (k n v j : ℕ) (rest : List ℕ) → n < 10 ^ k → number v j (digits k n ++ rest) ≡ number (v * 10 ^ k + n) (j + k) rest
unfolding digits
read_digits zero n v j rest h =
    let e : v * 10 ^ 0 + n ≡ v = omega arith in
    let f : j + 0 ≡ j = omega arith in
    rw (e, f)
read_digits (suc k) n v j rest h =
    let p : 10 ^ suc k ≡ 10 ^ k * 10 = pow-suc 10 k in
    let q : v * 10 ^ suc k ≡ v * 10 ^ k * 10 = ap (λ (x : ℕ). v * x) p ∙ sym (mul_assoc v (10 ^ k) 10) in
    let e : (v * 10 ^ k + n / 10) * 10 + n % 10 ≡ v * 10 ^ suc k + n = omega arith in
    let f : suc (j + k) ≡ j + suc k = omega arith in
    ap (number v j) (append_assoc (digits k (n / 10)) ((code "0" + n % 10) ∷ []) rest)
    ∙ read_digits k (n / 10) v j ((code "0" + n % 10) ∷ rest) (omega arith)
    ∙ pass (v * 10 ^ k + n / 10) (j + k) (n % 10) rest (omega arith)
    ∙ ap (λ (w : ℕ). number w (suc (j + k)) rest) e
    ∙ ap (λ (w : ℕ). number (v * 10 ^ suc k + n) w rest) f

-- the stretch that k digits and no digit after them make
pub digits_stretch : (k n : ℕ) (rest : List ℕ) → n < 10 ^ k → is_digit (get_or rest 0 0) ≡ false → number 0 0 (digits k n ++ rest) ≡ record { value = n; count = k }
digits_stretch k n rest h q =
    let z : 0 * 10 ^ k + n ≡ n = omega arith in
    let y : 0 + k ≡ k = omega arith in
    read_digits k n 0 0 rest h ∙ rw (z, y) (stop n k rest q)

-- with digits enough, more change nothing
enough : (j k n : ℕ) → n < 10 ^ suc j → n < 10 ^ suc k → shortest (suc j) n ≡ shortest (suc k) n
unfolding shortest
enough zero k n hj hk = rw (lt-ltb n 10 (omega arith))
enough (suc j) zero n hj hk = rw (lt-ltb n 10 (omega arith))
enough (suc j) (suc k) n hj hk =
    go (ltb n 10) (enough j k (n / 10) (omega (arith, pow-suc 10 (suc j))) (omega (arith, pow-suc 10 (suc k))))
  where
    go : (b : Bool) → shortest (suc j) (n / 10) ≡ shortest (suc k) (n / 10)
        → pick b ((code "0" + n) ∷ []) (shortest (suc j) (n / 10) ++ (code "0" + n % 10) ∷ []) ≡ pick b ((code "0" + n) ∷ []) (shortest (suc k) (n / 10) ++ (code "0" + n % 10) ∷ [])
    go true e = refl
    go false e = ap (λ (x : List ℕ). x ++ (code "0" + n % 10) ∷ []) e

pub decimal_one : (n : ℕ) → n < 10 → decimal n ≡ (code "0" + n) ∷ []
unfolding decimal shortest
decimal_one n h = rw (lt-ltb n 10 h)

pub decimal_more : (n : ℕ) → 10 ≤ n → decimal n ≡ decimal (n / 10) ++ (code "0" + n % 10) ∷ []
unfolding decimal shortest
decimal_more n h = rw (le-ltb n 10 h) (ap (λ (x : List ℕ). x ++ (code "0" + n % 10) ∷ []) (less n h))
  where
    less : (n : ℕ) → 10 ≤ n → shortest n (n / 10) ≡ shortest (suc (n / 10)) (n / 10)
    less zero h = absurd (bad h)
      where
        bad : 10 ≤ 0 → ⊥
        bad g = omega arith
    less (suc n) h = enough n (suc n / 10) (suc n / 10) (omega (arith, few_digits n, pow-suc 10 n)) (few_digits (suc n / 10))

-- a number below 10 ^ k has at most k digits, and one at least
decimal_made : (k n : ℕ) → n < 10 ^ suc k → decimal n ≡ shortest (suc k) n
unfolding decimal
decimal_made k n h = enough n k n (few_digits n) h

shortest_le : (k n : ℕ) → length (shortest k n) ≤ k
unfolding shortest
shortest_le zero n = omega arith
shortest_le (suc k) n = go (ltb n 10) (shortest_le k (n / 10))
  where
    go : (b : Bool) → length (shortest k (n / 10)) ≤ k → length (pick b ((code "0" + n) ∷ []) (shortest k (n / 10) ++ (code "0" + n % 10) ∷ [])) ≤ suc k
    go true h = omega arith
    go false h = omega (arith, length-append (shortest k (n / 10)) ((code "0" + n % 10) ∷ []))

pub decimal_le : (k n : ℕ) → 1 ≤ k → n < 10 ^ k → length (decimal n) ≤ k
decimal_le zero n p h = absurd (bad p)
  where
    bad : 1 ≤ 0 → ⊥
    bad q = omega arith
decimal_le (suc k) n p h = rw (decimal_made k n h) (shortest_le (suc k) n)

pub decimal_some : (n : ℕ) → 1 ≤ length (decimal n)
unfolding decimal shortest
decimal_some n = go (ltb n 10)
  where
    go : (b : Bool) → 1 ≤ length (pick b ((code "0" + n) ∷ []) (shortest n (n / 10) ++ (code "0" + n % 10) ∷ []))
    go true = omega arith
    go false = omega (arith, length-append (shortest n (n / 10)) ((code "0" + n % 10) ∷ []))

-- a number without leading zeros is read as itself
read_shortest : (k n : ℕ) (rest : List ℕ) → n < 10 ^ k → number 0 0 (shortest k n ++ rest) ≡ number n (length (shortest k n)) rest
unfolding shortest
read_shortest zero n rest h =
    let e : n ≡ 0 = omega arith in
    ap (λ (v : ℕ). number v 0 rest) (sym e)
read_shortest (suc k) n rest h = go (ltb n 10) refl (read_shortest k (n / 10) ((code "0" + n % 10) ∷ rest) (omega (arith, pow-suc 10 k)))
  where
    go : (b : Bool) → ltb n 10 ≡ b
        → number 0 0 (shortest k (n / 10) ++ (code "0" + n % 10) ∷ rest) ≡ number (n / 10) (length (shortest k (n / 10))) ((code "0" + n % 10) ∷ rest)
        → number 0 0 (pick b ((code "0" + n) ∷ []) (shortest k (n / 10) ++ (code "0" + n % 10) ∷ []) ++ rest)
        ≡ number n (length (pick b ((code "0" + n) ∷ []) (shortest k (n / 10) ++ (code "0" + n % 10) ∷ []))) rest
    go true e r =
        let l : n < 10 = ltb-true n 10 e in
        let z : 0 * 10 + n ≡ n = omega arith in
        pass 0 0 n rest (omega arith) ∙ ap (λ (x : ℕ). number x 1 rest) z
    go false e r =
        let v : n / 10 * 10 + n % 10 ≡ n = omega arith in
        let w : suc (length (shortest k (n / 10))) ≡ length (shortest k (n / 10) ++ (code "0" + n % 10) ∷ []) = sym (length-append (shortest k (n / 10)) ((code "0" + n % 10) ∷ []) ∙ omega arith) in
        ap (number 0 0) (append_assoc (shortest k (n / 10)) ((code "0" + n % 10) ∷ []) rest)
        ∙ r
        ∙ pass (n / 10) (length (shortest k (n / 10))) (n % 10) rest (omega arith)
        ∙ ap (λ (x : ℕ). number x (suc (length (shortest k (n / 10)))) rest) v
        ∙ ap (λ (x : ℕ). number n x rest) w

pub decimal_stretch : (n : ℕ) (rest : List ℕ) → is_digit (get_or rest 0 0) ≡ false → number 0 0 (decimal n ++ rest) ≡ record { value = n; count = length (decimal n) }
unfolding decimal
decimal_stretch n rest q = read_shortest (suc n) n rest (few_digits n) ∙ stop n (length (shortest (suc n) n)) rest q

-- its digits are so many of its last ones
shortest_digits : (k n : ℕ) → digits (length (shortest k n)) n ≡ shortest k n
unfolding digits shortest
shortest_digits zero n = refl
shortest_digits (suc k) n = go (ltb n 10) refl (shortest_digits k (n / 10))
  where
    go : (b : Bool) → ltb n 10 ≡ b → digits (length (shortest k (n / 10))) (n / 10) ≡ shortest k (n / 10)
        → digits (length (pick b ((code "0" + n) ∷ []) (shortest k (n / 10) ++ (code "0" + n % 10) ∷ []))) n ≡ pick b ((code "0" + n) ∷ []) (shortest k (n / 10) ++ (code "0" + n % 10) ∷ [])
    go true e r =
        let l : n < 10 = ltb-true n 10 e in
        let d : n % 10 ≡ n = omega arith in
        ap (λ (x : ℕ). (code "0" + x) ∷ []) d
    go false e r =
        let l : length (shortest k (n / 10) ++ (code "0" + n % 10) ∷ []) ≡ suc (length (shortest k (n / 10))) = length-append (shortest k (n / 10)) ((code "0" + n % 10) ∷ []) ∙ omega arith in
        ap (λ (m : ℕ). digits m n) l ∙ ap (λ (w : List ℕ). w ++ (code "0" + n % 10) ∷ []) r

pub decimal_digits : (n : ℕ) → digits (length (decimal n)) n ≡ decimal n
unfolding decimal
decimal_digits n = shortest_digits (suc n) n

pub decimal_longer : (n : ℕ) → 10 ≤ n → length (decimal n) ≡ length (decimal (n / 10)) + 1
decimal_longer n h = ap length (decimal_more n h) ∙ length-append (decimal (n / 10)) ((code "0" + n % 10) ∷ [])
