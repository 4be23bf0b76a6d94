-- Document 01, "Conditions": the grammar, each rule once, as the readers go through a text. That they find what the rules derive
-- (Productions.antt) is stated in Laws.antt. What is made of a part that was read is left open: a tree, in the definitions
-- (Trees.antt), or what the code carries (Carried.antt of the crate condition_readers). So each rule is over X, what is made of a part, and C,
-- what is known where a part begins (in the code: whether it is evaluated).
-- "So a factor may hold a whole condition again": each rule is over the readers of what stands in parentheses, and the depth
-- is how many parentheses may still be opened. A loop runs at most as often as there are bytes left, which is as often as it can.
use Rattle.std.specs.Prelude.{ℕ, zero, suc, ◌-◌, Bool, List, length, Option, Some, None, Ok, Err}
use Rattle.value.specs.declared.Kind.{Kind}
use Rattle.condition_words.specs.Words.{skipped}
use Rattle.condition_symbols.specs.Symbols.{or_at, and_at, comparison_at, sign_at, start_at, held_at, multiplier_at, closing_at, Multiplied}
use Rattle.condition_symbols.specs.declared.Op.{Op}
use Rattle.condition_symbols.specs.declared.Joint.{Joint}
use Rattle.condition_symbols.specs.declared.Start.{Start}
use Rattle.condition_symbols.specs.declared.Start.TheVariants as S
use Rattle.condition_symbols.specs.declared.Held.{Held}
use Rattle.condition_symbols.specs.declared.Held.TheVariants as H

-- nothing, or what was read and where its text ends
pub data Parsed (X : Type 0) : Type 0 where
  none : Parsed X
  got : X → ℕ → Parsed X

abbrev pub then : {X Y : Type 0} → Parsed X → (X → ℕ → Parsed Y) → Parsed Y
then none k = none
then (got x n) k = k x n

-- by the symbol that stands there
abbrev pub past_mark : {X : Type 0} → Option ℕ → (ℕ → Parsed X) → Parsed X
past_mark None k = none
past_mark (Some n) k = k n

abbrev pub operated : {X : Type 0} → Option Joint → Parsed X → (Op → ℕ → ℕ → Parsed X) → Parsed X
operated None a k = a
operated (Some j) a k = k j.op j.at j.end

abbrev pub scaled : {X : Type 0} → Multiplied → Parsed X → (Bool → ℕ → ℕ → ℕ → Parsed X) → Parsed X
scaled (Ok None) a k = a
scaled (Err x) a k = none
scaled (Ok (Some m)) a k = k m.negative m.number m.at m.end

abbrev pub started : {X : Type 0} → Option Start → (ℕ → Parsed X) → (Kind → ℕ → ℕ → Parsed X) → Parsed X
started None o m = none
started (Some (S.Open n)) o m = o n
started (Some (S.Make k p n)) o m = m k p n

abbrev pub holding : {X : Type 0} → Option Held → (ℕ → ℕ → ℕ → Parsed X) → (ℕ → ℕ → ℕ → Parsed X) → Parsed X → Parsed X
holding (Some (H.Text from to n)) t f e = t from to n
holding (Some (H.Field i p n)) t f e = f i p n
holding None t f e = none
holding (Some H.Sum) t f e = e

-- what was read, where a closing parenthesis follows it
unfoldable pub closed_at : {X : Type 0} → List ℕ → ℕ → X → Parsed X
closed_at s at x = past_mark (closing_at s at) (λ n. got x n)

-- { operator part }: where an operator stands, the part after it, joined to what is left of it; at most k times
unfoldable pub many : {X : Type 0} → (ℕ → Option Joint) → (Op → X → ℕ → Parsed X) → (Op → ℕ → X → X → X) → ℕ → ℕ → X → Parsed X
many sign part join zero at left = got left at
many sign part join (suc k) at left =
    operated (sign at) (got left at) (λ o p n. then (part o left n) (λ x m. many sign part join k m (join o p left x)))

-- { "*" whole number }, at most k times
unfoldable pub repeated : {X : Type 0} → (ℕ → Multiplied) → (Bool → ℕ → ℕ → X → X) → ℕ → ℕ → X → Parsed X
repeated star scale zero at left = got left at
repeated star scale (suc k) at left = scaled (star at) (got left at) (λ b v p n. repeated star scale k n (scale b v p left))

-- what the parts give. An offset is that of the first byte: of a kind's word, of a field's `$`, of a whole number, of an
-- operator; `two` has first the offset where its left side begins. `after` is what the right side of an operator is told.
pub record Parts (X C : Type 0) : Type 0 where
  pub literal : C → Kind → ℕ → ℕ → ℕ → X
  pub field : C → Kind → ℕ → ℕ → ℕ → X
  pub cast : Kind → ℕ → X → X
  pub times : Bool → ℕ → ℕ → X → X
  pub two : Op → ℕ → ℕ → X → X → X
  pub after : Op → C → X → C

-- what stands in parentheses: a condition, or what a kind's word at an offset holds
pub record Inside (X C : Type 0) : Type 0 where
  pub cond : ℕ → C → Parsed X
  pub held : Kind → ℕ → ℕ → C → Parsed X

module _ (X C : Type 0) (P : Parts X C) (s : List ℕ) where
  module _ (i : Inside X C) where
    -- "A factor is a condition in parentheses, or `xs:date` .. with, in parentheses, .."
    unfoldable pub factor_in : ℕ → C → Parsed X
    factor_in at c = started (start_at s at) (λ n. then (i.cond n c) (λ x m. closed_at s m x)) (λ k p n. i.held k p n c)

    -- "A term is a factor followed by any number of `*` and a whole number"
    unfoldable pub term_more_in : ℕ → X → Parsed X
    term_more_in at left = repeated (multiplier_at s) P.times (length s - at) at left

    unfoldable pub term_in : ℕ → C → Parsed X
    term_in at c = then (factor_in at c) (λ x n. term_more_in n x)

    -- "A sum is terms joined by `+` or `-`, taken from the left."
    unfoldable pub sum_more_in : ℕ → ℕ → C → X → Parsed X
    sum_more_in begin at c left = many (sign_at s) (λ o l n. term_in n (P.after o c l)) (λ o p. P.two o begin p) (length s - at) at left

    unfoldable pub sum_in : ℕ → C → Parsed X
    sum_in at c = then (term_in at c) (λ x n. sum_more_in (skipped s at) n c x)

    -- "A test is one sum, or two sums with `eq ne lt le gt ge` between."
    unfoldable pub test_in : ℕ → C → Parsed X
    test_in at c = then (sum_in at c) (λ x n. operated (comparison_at s n) (got x n)
        (λ o p m. then (sum_in m (P.after o c x)) (λ y k. got (P.two o (skipped s at) p x y) k)))

    -- "a clause is tests joined by `and`"
    unfoldable pub clause_more_in : ℕ → ℕ → C → X → Parsed X
    clause_more_in begin at c left = many (and_at s) (λ o l n. test_in n (P.after o c l)) (λ o p. P.two o begin p) (length s - at) at left

    unfoldable pub clause_in : ℕ → C → Parsed X
    clause_in at c = then (test_in at c) (λ x n. clause_more_in (skipped s at) n c x)

    -- "A condition is clauses joined by `or`"
    unfoldable pub condition_more_in : ℕ → ℕ → C → X → Parsed X
    condition_more_in begin at c left = many (or_at s) (λ o l n. clause_in n (P.after o c l)) (λ o p. P.two o begin p) (length s - at) at left

    unfoldable pub condition_in : ℕ → C → Parsed X
    condition_in at c = then (clause_in at c) (λ x n. condition_more_in (skipped s at) n c x)

    -- "a text in double quotes (no quote inside), a field `$1` to `$16`, or a sum to be cast"
    unfoldable pub held_in : Kind → ℕ → ℕ → C → Parsed X
    held_in k w at c = holding (held_at s at)
        (λ from to n. closed_at s n (P.literal c k w from to))
        (λ i p n. closed_at s n (P.field c k w i p))
        (then (sum_in at c) (λ x n. closed_at s n (P.cast k w x)))

  unfoldable pub inner : ℕ → Inside X C
  inner zero = record { cond = λ at c. none; held = λ k w at c. none }
  inner (suc d) = record { cond = condition_in (inner d); held = held_in (inner d) }

  abbrev pub condition : ℕ → ℕ → C → Parsed X
  condition d = condition_in (inner d)
