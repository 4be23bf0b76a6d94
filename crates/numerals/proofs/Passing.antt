-- A reader that passes digits one by one and keeps their number as far as a cap finds what the whole stretch gives.
use mathlib.Core.Path.{◌≡◌, ap, sym, ◌∙◌}
use mathlib.Core.Bool.{true, false}
use mathlib.Core.List.{List, ◌∷◌}
use Prim.Native.Nat.{ℕ, suc, ◌+◌, ◌-◌, ◌*◌, ◌≤◌, ◌<◌, min}
use Prim.Native.Char.{code}
use native.Mathlib.Numerals.{add-one}
use native.Mathlib.Omega.{arith}
use lib.ListN.{length, get_or, take, drop, drop_of_length-le, length-drop}
use lib.Seq.{drop-cons, take_all}
use Rattle.numerals.specs.Reading.{is_digit, number, Number}
use Rattle.numerals.specs.Carried.{Found}

-- what stands from `at` on
abbrev pub from : List ℕ → ℕ → List ℕ
from s at = take (length s - at) (drop at s)

all_from : (s : List ℕ) (at : ℕ) → from s at ≡ drop at s
all_from s at = take_all (length s - at) (drop at s) (omega (arith, length-drop at s))

-- k digits of xs were passed, with their number in v as far as the cap
pub record Passed (xs : List ℕ) (cap k v : ℕ) : Type 0 where
  pub to : k ≤ length xs
  pub whole : ℕ
  pub capped : v ≡ min cap whole
  pub rest : number whole k (drop k xs) ≡ number 0 0 xs

module _ (xs : List ℕ) (cap k v : ℕ) (p : Passed xs cap k v) where
  pub next : k < length xs → is_digit (get_or xs k 0) ≡ true → {w : ℕ} → w ≡ min cap (v * 10 + (get_or xs k 0 - code "0")) → Passed xs cap (k + 1) w
  unfolding number
  next h e {w} ew =
      let r : number p.whole k (get_or xs k 0 ∷ drop (suc k) xs) ≡ number 0 0 xs = rw (drop-cons xs k 0 h) at p.rest in
      record { to = omega arith; whole = p.whole * 10 + (get_or xs k 0 - code "0"); capped = omega (arith, p.capped); rest = rw add-one (rw (e, number) at r) }

module _ (s : List ℕ) (at cap k end v : ℕ) (h : at ≤ length s) (e : end ≡ at + k) (p : Passed (from s at) cap k v) where
  -- the digits end there
  done : number p.whole k (drop k (from s at)) ≡ record { value = p.whole; count = k } → Found s at cap (record { end = end; value = v })
  done r =
      let f : record { value = p.whole; count = k } ≡ number 0 0 (drop at s) = sym r ∙ p.rest ∙ ap (number 0 0) (all_from s at) in
      record {
        ends = e ∙ ap (λ (n : Number). at + n.count) f;
        capped = p.capped ∙ ap (λ (n : Number). min cap n.value) f;
        within = omega (arith, p.to, ap length (all_from s at), length-drop at s);
      }

  pub at_other : k < length (from s at) → is_digit (get_or (from s at) k 0) ≡ false → Found s at cap (record { end = end; value = v })
  unfolding number
  at_other l d = done (rw (drop-cons (from s at) k 0 l, d, number))

  pub at_end : length (from s at) ≤ k → Found s at cap (record { end = end; value = v })
  unfolding number
  at_end l = done (rw (drop_of_length-le (from s at) l))
