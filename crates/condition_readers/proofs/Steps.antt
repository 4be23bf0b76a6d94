-- Each way out of a reader gives what its rule says: what a rule gives is told step by step, and then there is one law for each way out.
use mathlib.Core.Path.{◌≡◌, refl, sym, subst, ◌∙◌}
use mathlib.Core.List.{List}
use Prim.Native.Nat.{ℕ, suc, ◌-◌}
use native.Mathlib.Omega.{arith}
use Rattle.std.specs.Prelude.{Option, Some, None, Ok, Err}
use Rattle.value.specs.declared.Kind.{Kind}
use Rattle.value.specs.declared.Offset.{Offset}
use Rattle.timetable.specs.Rows.{Row}
use Rattle.condition_symbols.specs.Symbols.{comparison_at, start_at, held_at, multiplier_at, closing_at}
use Rattle.condition_symbols.specs.declared.Joint.{Joint}
use Rattle.condition_symbols.specs.declared.Multiplier.{Multiplier}
use Rattle.condition_symbols.specs.declared.NoNumber.{NoNumber}
use Rattle.condition_symbols.specs.declared.Start.{Start}
use Rattle.condition_symbols.specs.declared.Start.TheVariants as S
use Rattle.condition_symbols.specs.declared.Held.{Held}
use Rattle.condition_symbols.specs.declared.Held.TheVariants as H
use Rattle.condition_parts.specs.Carried.{literal_part, field_part, cast_part, times_part, two_part, after_part}
use Rattle.condition_parts.specs.declared.Part.{Part}
use Rattle.condition_givens.specs.declared.Mode.{Mode}
use Rattle.condition_grammar.specs.Grammar.{Parsed, none, got, then, operated, started, holding, closed_at, inner, condition_in, condition_more_in, clause_in, clause_more_in, test_in, sum_in, sum_more_in, term_in, term_more_in, factor_in, held_in}
use Rattle.condition_grammar.proofs.Good.{inner_good, term_more_unfolds, sum_more_unfolds, clause_more_unfolds, condition_more_unfolds}
use Rattle.condition_readers.specs.Carried.{read, told, parts, inside, joint_at, chain_in, more_in, operand_in, inner_in}
use Rattle.condition_readers.specs.declared.Read.{Read}
use Rattle.condition_readers.specs.declared.Rule.{Rule}
use Rattle.condition_readers.specs.declared.Rule.TheVariants.{Condition, Clause, Sum}

-- a part that was not read, and one that was
then_none : (p : Parsed Part) (f : Part → ℕ → Parsed Part) → told p ≡ None → None ≡ told (then p f)
then_none none f e = refl
then_none (got v n) f e = cc

then_some : (p : Parsed Part) (f : Part → ℕ → Parsed Part) (x : Read) → told p ≡ Some x → told (f x.part x.end) ≡ told (then p f)
then_some none f x e = cc
then_some (got v n) f x e = let q : read v n ≡ x = cc in subst (λ y. told (f y.part y.end) ≡ told (f v n)) q refl

module _ (zone : Offset) (d : ℕ) (s : List ℕ) (row : Row) where
  -- a chain is its first operand and what follows it
  chain_goes : (x : Rule) (at : ℕ) (m : Mode) → chain_in zone d s row x at m ≡ then (operand_in zone d s row x at m) (λ v n. more_in zone d s row x m v n)
  unfolding chain_in operand_in more_in condition_in condition_more_in clause_in clause_more_in sum_in sum_more_in
  chain_goes Condition at m = refl
  chain_goes Clause at m = refl
  chain_goes Sum at m = refl

  -- what follows an operand: nothing, or an operator and an operand, and what follows those
  more_goes : (x : Rule) (m : Mode) (v : Part) (at : ℕ) → more_in zone d s row x m v at ≡ operated (joint_at x s at) (got v at)
      (λ o p n. then (operand_in zone d s row x n (after_part o m v)) (λ w k. more_in zone d s row x m (two_part zone o v w) k))
  unfolding joint_at operand_in more_in
  more_goes Condition m v at = condition_more_unfolds Part Mode (parts zone s row) s (inside zone d s row) (inner_good Part Mode (parts zone s row) s d) 0 at m v
  more_goes Clause m v at = clause_more_unfolds Part Mode (parts zone s row) s (inside zone d s row) (inner_good Part Mode (parts zone s row) s d) 0 at m v
  more_goes Sum m v at = sum_more_unfolds Part Mode (parts zone s row) s (inside zone d s row) (inner_good Part Mode (parts zone s row) s d) 0 at m v

  module _ (x : Rule) (at : ℕ) (m : Mode) where
    pub chain_bad : told (operand_in zone d s row x at m) ≡ None → None ≡ told (chain_in zone d s row x at m)
    chain_bad e = rw (chain_goes x at m) (then_none _ _ e)

    pub chain_first : (y : Read) → told (operand_in zone d s row x at m) ≡ Some y → told (chain_in zone d s row x at m) ≡ told (more_in zone d s row x m y.part y.end)
    chain_first y e = rw (chain_goes x at m) (sym (then_some _ _ y e))

  module _ (x : Rule) (m : Mode) (y : Read) where
    pub more_ends : joint_at x s y.end ≡ None → Some y ≡ told (more_in zone d s row x m y.part y.end)
    more_ends e = rw (more_goes x m y.part y.end, e)

    module _ (j : Joint) (e : joint_at x s y.end ≡ Some j) where
      pub more_bad : told (operand_in zone d s row x j.end (after_part j.op m y.part)) ≡ None → None ≡ told (more_in zone d s row x m y.part y.end)
      more_bad f = rw (more_goes x m y.part y.end, e) (then_none _ _ f)

      pub more_on : (z : Read) → told (operand_in zone d s row x j.end (after_part j.op m y.part)) ≡ Some z →
          told (more_in zone d s row x m y.part y.end) ≡ told (more_in zone d s row x m (two_part zone j.op y.part z.part) z.end)
      more_on z f = rw (more_goes x m y.part y.end, e) (sym (then_some _ _ z f))

  -- the operands
  module _ (at : ℕ) (m : Mode) where
    pub operand_clause : told (chain_in zone d s row Clause at m) ≡ told (operand_in zone d s row Condition at m)
    unfolding operand_in chain_in
    operand_clause = refl

    pub operand_test : told (test_in Part Mode (parts zone s row) s (inside zone d s row) at m) ≡ told (operand_in zone d s row Clause at m)
    unfolding operand_in
    operand_test = refl

    pub factor_bad : told (factor_in Part Mode (parts zone s row) s (inside zone d s row) at m) ≡ None → None ≡ told (operand_in zone d s row Sum at m)
    unfolding operand_in term_in
    factor_bad e = then_none _ _ e

    pub factor_on : (y : Read) → told (factor_in Part Mode (parts zone s row) s (inside zone d s row) at m) ≡ Some y →
        told (term_more_in Part Mode (parts zone s row) s (inside zone 0 s row) y.end y.part) ≡ told (operand_in zone d s row Sum at m)
    unfolding operand_in term_in term_more_in
    factor_on y e = then_some (factor_in Part Mode (parts zone s row) s (inside zone d s row) at m) _ y e

    -- a test is its first sum, or that and a second one after a comparison
    pub test_bad : told (chain_in zone d s row Sum at m) ≡ None → None ≡ told (test_in Part Mode (parts zone s row) s (inside zone d s row) at m)
    unfolding chain_in test_in
    test_bad e = then_none _ _ e

    module _ (y : Read) (e : told (chain_in zone d s row Sum at m) ≡ Some y) where
      test_on : told (operated (comparison_at s y.end) (got y.part y.end) (λ o p n. then (chain_in zone d s row Sum n (after_part o m y.part)) (λ w k. got (two_part zone o y.part w) k))) ≡
          told (test_in Part Mode (parts zone s row) s (inside zone d s row) at m)
      unfolding chain_in test_in
      test_on = then_some (sum_in Part Mode (parts zone s row) s (inside zone d s row) at m) _ y e

      pub test_one : comparison_at s y.end ≡ None → Some y ≡ told (test_in Part Mode (parts zone s row) s (inside zone d s row) at m)
      test_one f = rw f at test_on

      module _ (j : Joint) (f : comparison_at s y.end ≡ Some j) where
        pub test_worse : told (chain_in zone d s row Sum j.end (after_part j.op m y.part)) ≡ None → None ≡ told (test_in Part Mode (parts zone s row) s (inside zone d s row) at m)
        test_worse g = then_none _ _ g ∙ rw f at test_on

        pub test_two : (z : Read) → told (chain_in zone d s row Sum j.end (after_part j.op m y.part)) ≡ Some z →
            Some (read (two_part zone j.op y.part z.part) z.end) ≡ told (test_in Part Mode (parts zone s row) s (inside zone d s row) at m)
        test_two z g = then_some _ _ z g ∙ rw f at test_on

-- the whole numbers after `*`
module _ (zone : Offset) (s : List ℕ) (row : Row) (y : Read) where
  abbrev more : Read → Option Read
  more x = told (term_more_in Part Mode (parts zone s row) s (inside zone 0 s row) x.end x.part)

  pub star_ends : multiplier_at s y.end ≡ Ok None → Some y ≡ more y
  star_ends e = rw (term_more_unfolds Part Mode (parts zone s row) s (inside zone 0 s row) y.end y.part, e)

  pub star_bad : (x : NoNumber) → multiplier_at s y.end ≡ Err x → None ≡ more y
  star_bad x e = rw (term_more_unfolds Part Mode (parts zone s row) s (inside zone 0 s row) y.end y.part, e)

  pub star_on : (x : Multiplier) → multiplier_at s y.end ≡ Ok (Some x) → more y ≡ more (read (times_part x.negative x.number y.part) x.end)
  star_on x e = rw (term_more_unfolds Part Mode (parts zone s row) s (inside zone 0 s row) y.end y.part, e)

-- a factor: nothing where no parenthesis may be opened, else what stands in parentheses, and the closing one
module _ (zone : Offset) (s : List ℕ) (row : Row) (m : Mode) (at : ℕ) where
  none_starts : (x : Option Start) → None ≡ told (started x (λ n. none) (λ k p n. none))
  none_starts None = refl
  none_starts (Some (S.Open n)) = refl
  none_starts (Some (S.Make k p n)) = refl

  pub factor_shut : (d : ℕ) → d ≡ 0 → None ≡ told (factor_in Part Mode (parts zone s row) s (inside zone d s row) at m)
  unfolding factor_in inner
  factor_shut d z = rw z (none_starts (start_at s at))

  module _ (d : ℕ) where
    abbrev closing : Parsed Part → Parsed Part
    closing p = then p (λ v n. closed_at s n v)

    holds : (k : Kind) (x : Option Held) (n : ℕ) → told (holding x (λ a b n. closed_at s n (literal_part m k s a b)) (λ i p n. closed_at s n (field_part m k row i))
        (then (sum_in Part Mode (parts zone s row) s (inside zone d s row) n m) (λ v n. closed_at s n (cast_part k v)))) ≡
        told (closing (holding x (λ a b n. got (literal_part m k s a b) n) (λ i p n. got (field_part m k row i) n)
        (then (sum_in Part Mode (parts zone s row) s (inside zone d s row) n m) (λ v n. got (cast_part k v) n))))
    holds k (Some (H.Text a b j)) n = refl
    holds k (Some (H.Field i p j)) n = refl
    holds k None n = refl
    holds k (Some H.Sum) n = by (sum_in Part Mode (parts zone s row) s (inside zone d s row) n m)
      where
        by : (p : Parsed Part) → told (then p (λ v n. closed_at s n (cast_part k v))) ≡ told (closing (then p (λ v n. got (cast_part k v) n)))
        by none = refl
        by (got v j) = refl

    starts : (x : Option Start) (y : Start) → x ≡ Some y → told (closing (inner_in zone d s row y m)) ≡
        told (started x (λ n. then (condition_in Part Mode (parts zone s row) s (inside zone d s row) n m) (λ v k. closed_at s k v))
        (λ k p n. held_in Part Mode (parts zone s row) s (inside zone d s row) k p n m))
    unfolding inner_in held_in
    starts x (S.Open n) e = rw e
    starts x (S.Make k p n) e = rw e (sym (holds k (held_at s n) n))

  module _ (d : ℕ) (ne : d ≡ 0 → ⊥) where
    pub factor_no_start : start_at s at ≡ None → None ≡ told (factor_in Part Mode (parts zone s row) s (inside zone d s row) at m)
    unfolding factor_in
    factor_no_start e = rw e

    module _ (y : Start) (e : start_at s at ≡ Some y) where
      opened : told (closing (d - 1) (inner_in zone (d - 1) s row y m)) ≡ told (factor_in Part Mode (parts zone s row) s (inside zone d s row) at m)
      unfolding factor_in inner
      opened = let q : d ≡ suc (d - 1) = omega arith in subst (λ k. told (closing (d - 1) (inner_in zone (d - 1) s row y m)) ≡ told (factor_in Part Mode (parts zone s row) s (inside zone k s row) at m)) (sym q) (starts (d - 1) (start_at s at) y e)

      pub factor_no_held : told (inner_in zone (d - 1) s row y m) ≡ None → None ≡ told (factor_in Part Mode (parts zone s row) s (inside zone d s row) at m)
      factor_no_held f = then_none _ _ f ∙ opened

      module _ (z : Read) (f : told (inner_in zone (d - 1) s row y m) ≡ Some z) where
        closes : told (closed_at s z.end z.part) ≡ told (factor_in Part Mode (parts zone s row) s (inside zone d s row) at m)
        closes = then_some _ _ z f ∙ opened

        pub factor_open : closing_at s z.end ≡ None → None ≡ told (factor_in Part Mode (parts zone s row) s (inside zone d s row) at m)
        unfolding closed_at
        factor_open g = rw g at closes

        pub factor_closed : (n : ℕ) → closing_at s z.end ≡ Some n → Some (read z.part n) ≡ told (factor_in Part Mode (parts zone s row) s (inside zone d s row) at m)
        unfolding closed_at
        factor_closed n g = rw g at closes

-- what stands in parentheses
module _ (zone : Offset) (d : ℕ) (s : List ℕ) (row : Row) (m : Mode) where
  pub inner_open : (at : ℕ) → told (chain_in zone d s row Condition at m) ≡ told (inner_in zone d s row (S.Open at) m)
  unfolding inner_in chain_in
  inner_open at = refl

  module _ (k : Kind) (w at : ℕ) where
    pub inner_bad : held_at s at ≡ None → None ≡ told (inner_in zone d s row (S.Make k w at) m)
    unfolding inner_in
    inner_bad e = rw e

    pub inner_text : (a b n : ℕ) → held_at s at ≡ Some (H.Text a b n) → Some (read (literal_part m k s a b) n) ≡ told (inner_in zone d s row (S.Make k w at) m)
    unfolding inner_in
    inner_text a b n e = rw e

    pub inner_field : (i p n : ℕ) → held_at s at ≡ Some (H.Field i p n) → Some (read (field_part m k row i) n) ≡ told (inner_in zone d s row (S.Make k w at) m)
    unfolding inner_in
    inner_field i p n e = rw e

    module _ (e : held_at s at ≡ Some H.Sum) where
      pub inner_no_sum : told (chain_in zone d s row Sum at m) ≡ None → None ≡ told (inner_in zone d s row (S.Make k w at) m)
      unfolding inner_in chain_in
      inner_no_sum f = rw e (then_none _ _ f)

      pub inner_sum : (z : Read) → told (chain_in zone d s row Sum at m) ≡ Some z → Some (read (cast_part k z.part) z.end) ≡ told (inner_in zone d s row (S.Make k w at) m)
      unfolding inner_in chain_in
      inner_sum z f = rw e (then_some _ _ z f)

pub ruleset steps = (chain_bad, chain_first, more_ends, more_bad, more_on, operand_clause, operand_test, factor_bad, factor_on, test_bad, test_one, test_worse, test_two, star_ends, star_bad, star_on, factor_shut, factor_no_start, factor_no_held, factor_open, factor_closed, inner_open, inner_bad, inner_text, inner_field, inner_no_sum, inner_sum)
