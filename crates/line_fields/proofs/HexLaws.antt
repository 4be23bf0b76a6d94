-- Bytes in hexadecimal, read pair by pair, and put one by one over zeros.
use mathlib.Core.Path.{◌≡◌, refl, ap, sym, ◌∙◌}
use mathlib.Core.Bool.{Bool, true, false}
use mathlib.Core.List.{List, [], ◌∷◌, ◌++◌, append_assoc}
use Prim.Native.Nat.{ℕ, zero, suc, ◌+◌, ◌-◌, ◌*◌, ◌/◌, ◌%◌, ◌≤◌, ◌<◌}
use native.Mathlib.Numerals.{add-one}
use native.Mathlib.Omega.{arith}
use lib.Dec.{eqb, leb}
use lib.ListN.{length, get_or, take, drop, set, replicate, length-append, length-drop}
use lib.Seq.{set_at, take-append_seam, drop-append_seam}
use Rattle.std.proofs.lemmas.List.{drop_more}
use borrow.Author.Tests.{le-leb, lt-leb, eq-eqb, ne_eqb}
use Rattle.std.specs.Prelude.{Some, None}
use Rattle.basis.specs.Choice.{both, every}
use Rattle.basis.proofs.Tests.{every_goes, every_fails, every_ends}
use Rattle.numerals.specs.Reading.{at}
use Rattle.line_fields.specs.Hex.{most_named, hex_digit, all_hex, is_hex, byte_named, bytes_named, hex_of}

-- ---- a field

module _ (s : List ℕ) where
  no_hex : is_hex s ≡ false → None ≡ hex_of s
  unfolding hex_of
  no_hex e = rw e

  pub too_many : most_named < length s / 2 → None ≡ hex_of s
  unfolding is_hex
  too_many h = no_hex (every_fails (leb (length s) (most_named * 2)) (eqb (length s % 2) 0 ∷ all_hex s ∷ []) (lt-leb (length s) (most_named * 2) (omega arith)))

  module _ (h : length s / 2 ≤ most_named) (o : length s % 2 ≡ 0) where
    by_digits : is_hex s ≡ all_hex s
    unfolding is_hex
    by_digits =
        every_goes (leb (length s) (most_named * 2)) (eqb (length s % 2) 0 ∷ all_hex s ∷ []) (le-leb (length s) (most_named * 2) (omega arith))
        ∙ every_goes (eqb (length s % 2) 0) (all_hex s ∷ []) (eq-eqb (length s % 2) 0 o) ∙ every_ends (all_hex s)

    pub no_digit : all_hex s ≡ false → None ≡ hex_of s
    no_digit e = no_hex (by_digits ∙ e)

    all_digits : all_hex s ≡ true → Some (bytes_named s (length s / 2)) ≡ hex_of s
    unfolding hex_of
    all_digits e = rw (by_digits ∙ e)

  pub one_left : (length s % 2 ≡ 0 → ⊥) → None ≡ hex_of s
  unfolding is_hex
  one_left o = no_hex (go (leb (length s) (most_named * 2)) refl)
    where
      go : (b : Bool) → leb (length s) (most_named * 2) ≡ b → every (leb (length s) (most_named * 2) ∷ eqb (length s % 2) 0 ∷ all_hex s ∷ []) ≡ false
      go true e =
          every_goes (leb (length s) (most_named * 2)) (eqb (length s % 2) 0 ∷ all_hex s ∷ []) e ∙ every_fails (eqb (length s % 2) 0) (all_hex s ∷ []) (ne_eqb (length s % 2) 0 o)
      go false e = every_fails (leb (length s) (most_named * 2)) (eqb (length s % 2) 0 ∷ all_hex s ∷ []) e

-- ---- pair by pair: the first n were read, and their bytes stand over zeros
pub record Read (s rest w : List ℕ) (n : ℕ) : Type 0 where
  pub few : n * 2 ≤ length s
  pub left : rest ≡ drop (n * 2) s
  pub digits : all_hex s ≡ all_hex rest
  pub over : w ≡ bytes_named s n ++ replicate (most_named - n) 0

pub none_read : (s : List ℕ) {rest : List ℕ} {n : ℕ} → rest ≡ s → n ≡ 0 → Read s rest (replicate most_named 0) n
unfolding bytes_named
none_read s e z = rw z record { few = omega arith; left = e; digits = ap all_hex (sym e); over = refl }

named_length : (s : List ℕ) (n : ℕ) → length (bytes_named s n) ≡ n
unfolding bytes_named
named_length s zero = refl
named_length s (suc n) = omega (arith, length-append (bytes_named s n) (byte_named s n ∷ []), named_length s n)

pair_is : (x : List ℕ) → length x ≡ 2 → x ≡ get_or x 0 0 ∷ get_or x 1 0 ∷ []
pair_is [] h = absurd (omega arith)
pair_is (a ∷ []) h = absurd (omega arith)
pair_is (a ∷ b ∷ []) h = refl
pair_is (a ∷ b ∷ c ∷ x) h = absurd (omega arith)

module _ {s rest w : List ℕ} {n : ℕ} (p : Read s rest w n) (x more : List ℕ) (e : rest ≡ x ++ more) (two : length x ≡ 2) where
  parted : rest ≡ get_or x 0 0 ∷ get_or x 1 0 ∷ more
  parted = e ∙ ap (λ (y : List ℕ). y ++ more) (pair_is x two)

  pub room : n * 2 + 1 < length s
  room = omega (arith, p.few, two, ap length p.left, ap length e, length-append x more, length-drop (n * 2) s)

  pub below : length s / 2 ≤ most_named → n < most_named
  below h = omega (arith, room)

  pairs : get_or x 0 0 ∷ get_or x 1 0 ∷ more ≡ at s (n * 2) ∷ at s (n * 2 + 1) ∷ drop (n * 2 + 1 + 1) s
  pairs =
      let r = room in
      sym parted ∙ p.left ∙ drop_more s (n * 2) 0 (omega arith) ∙ ap (λ (y : List ℕ). at s (n * 2) ∷ y) (drop_more s (n * 2 + 1) 0 r)

  pub not_first : hex_digit (get_or x 0 0) ≡ None → all_hex s ≡ false
  unfolding all_hex both
  not_first q = p.digits ∙ ap all_hex parted ∙ rw q

  pub not_second : {a : ℕ} → hex_digit (get_or x 0 0) ≡ Some a → hex_digit (get_or x 1 0) ≡ None → all_hex s ≡ false
  unfolding all_hex both
  not_second qa q = p.digits ∙ ap all_hex parted ∙ rw (qa, q)

  pub one_more : n < most_named → {a b : ℕ} → hex_digit (get_or x 0 0) ≡ Some a → hex_digit (get_or x 1 0) ≡ Some b → Read s more (set w n (a * 16 + b)) (n + 1)
  unfolding all_hex both bytes_named
  one_more l {a} {b} qa qb = record { few = let r = room in omega arith; left = after; digits = p.digits ∙ ap all_hex parted ∙ both_digits; over = written }
    where
      after : more ≡ drop ((n + 1) * 2) s
      after = let h = pairs in let k : (n + 1) * 2 ≡ n * 2 + 1 + 1 = omega arith in rw k cc

      both_digits : all_hex (get_or x 0 0 ∷ get_or x 1 0 ∷ more) ≡ all_hex more
      both_digits = rw (qa, qb)

      named : a * 16 + b ≡ byte_named s n
      named =
          let h = pairs in
          let ha : get_or x 0 0 ≡ at s (n * 2) = cc in
          let hb : get_or x 1 0 ≡ at s (n * 2 + 1) = cc in
          rw (← ha, ← hb, qa, qb)

      written : set w n (a * 16 + b) ≡ bytes_named s (n + 1) ++ replicate (most_named - (n + 1)) 0
      written =
          let z : most_named - n ≡ suc (most_named - suc n) = omega arith in
          ap (λ (v : List ℕ). set v n (a * 16 + b)) p.over ∙ rw (z, add-one, named, append_assoc) (set_at (bytes_named s n) 0 (replicate (most_named - suc n) 0) (byte_named s n) n (named_length s n))

-- less than a pair is left
all_ended : (rest : List ℕ) → length rest ≡ 0 → all_hex rest ≡ true
unfolding all_hex
all_ended [] e = refl
all_ended (x ∷ xs) e = absurd (omega arith)

module _ {s rest w : List ℕ} {n : ℕ} (p : Read s rest w n) (none : length rest < 2) (h : length s / 2 ≤ most_named) (o : length s % 2 ≡ 0) where
  all_read : n ≡ length s / 2
  all_read = omega (arith, p.few, ap length p.left, length-drop (n * 2) s)

  over_zeros : w ≡ bytes_named s (length s / 2) ++ replicate (most_named - length s / 2) 0
  over_zeros = p.over ∙ ap (λ (k : ℕ). bytes_named s k ++ replicate (most_named - k) 0) all_read

  named_first : (f : ℕ → List ℕ → List ℕ) → f (length s / 2) w ≡ f (length (bytes_named s (length s / 2))) (bytes_named s (length s / 2) ++ replicate (most_named - length s / 2) 0)
  named_first f = ap (f (length s / 2)) over_zeros ∙ ap (λ (k : ℕ). f k (bytes_named s (length s / 2) ++ replicate (most_named - length s / 2) 0)) (sym (named_length s (length s / 2)))

  pub bytes_read : Some (take (length s / 2) w) ≡ hex_of s
  bytes_read = ap Some (named_first take ∙ take-append_seam (bytes_named s (length s / 2)) _) ∙ all_digits s h o (p.digits ∙ all_ended rest ended)
    where
      ended : length rest ≡ 0
      ended = omega (arith, p.few, ap length p.left, length-drop (n * 2) s)

  pub zeros_after : drop (length s / 2) w ≡ replicate (most_named - length s / 2) 0
  zeros_after = named_first drop ∙ drop-append_seam (bytes_named s (length s / 2)) _
