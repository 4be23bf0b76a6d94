-- What a call answers, as document 01 puts it: a value, or a refusal and no value.
use Rattle.std.specs.Prelude.{ℕ}

-- what a refusal says: its number
pub record Reason : Type 0 where
  pub number : ℕ

-- a value, or the reason why there is none
pub data Answer (A : Type 0) : Type 0 where
  gives : A → Answer A
  refuses_for : Reason → Answer A

-- a refusal of that number and nothing more
abbrev pub only_number : ℕ → Reason
only_number n = record { number = n }

abbrev pub refuses : {A : Type 0} → ℕ → Answer A
refuses n = refuses_for (only_number n)

-- what is answered after another answer: a refusal comes first
unfoldable pub and_then : {A B : Type 0} → Answer A → (A → Answer B) → Answer B
and_then (gives x) f = f x
and_then (refuses_for r) f = refuses_for r
