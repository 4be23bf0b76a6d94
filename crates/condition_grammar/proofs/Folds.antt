-- Every instance of the grammar is the fold of the tree: where the operations of an instance meet those of a function on
-- trees, what the grammar gives at the instance is that function of what it gives at trees. By one induction on the depth,
-- and on the count of each loop.
use mathlib.Core.Path.{◌≡◌, refl, ap}
use mathlib.Core.Bool.{Bool}
use mathlib.Core.List.{List}
use Prim.Native.Nat.{ℕ, zero, suc, ◌-◌}
use lib.ListN.{length}
use Rattle.std.specs.Prelude.{Option, Some, None, Ok, Err}
use Rattle.value.specs.declared.Kind.{Kind}
use Rattle.condition_words.specs.Words.{skipped}
use Rattle.condition_symbols.specs.Symbols.{or_at, and_at, comparison_at, sign_at, start_at, held_at, multiplier_at, closing_at, Multiplied}
use Rattle.condition_symbols.specs.declared.Op.{Op}
use Rattle.condition_symbols.specs.declared.Joint.{Joint}
use Rattle.condition_symbols.specs.declared.Start.{Start}
use Rattle.condition_symbols.specs.declared.Start.TheVariants as S
use Rattle.condition_symbols.specs.declared.Held.{Held}
use Rattle.condition_symbols.specs.declared.Held.TheVariants as H
use Rattle.condition_grammar.specs.Grammar.{Parsed, none, got, then, past_mark, operated, scaled, started, holding, closed_at, many, repeated, Parts, Inside, inner, condition, condition_in, condition_more_in, clause_in, clause_more_in, test_in, sum_in, sum_more_in, term_in, term_more_in, factor_in, held_in}
use Rattle.condition_grammar.specs.Trees.{Tree, leaf, one, two, literal, field, cast, times, trees}

abbrev U : Type 0
U = Unit {0}

abbrev pub each : {X : Type 0} → (Tree → X) → Parsed Tree → Parsed X
each h none = none
each h (got t n) = got (h t) n

-- a function on trees, in each context, that meets the operations of an instance
pub record Meets (X C : Type 0) (P : Parts X C) (h : C → Tree → X) : Type 0 where
  pub a_literal : (c : C) (k : Kind) (w from to : ℕ) → P.literal c k w from to ≡ h c (leaf k w (literal from to))
  pub a_field : (c : C) (k : Kind) (w n p : ℕ) → P.field c k w n p ≡ h c (leaf k w (field n p))
  pub a_cast : (c : C) (k : Kind) (w : ℕ) (t : Tree) → P.cast k w (h c t) ≡ h c (one (cast k) w t)
  pub a_times : (c : C) (b : Bool) (v p : ℕ) (t : Tree) → P.times b v p (h c t) ≡ h c (one (times b v) p t)
  pub a_two : (c : C) (o : Op) (b p : ℕ) (t u : Tree) → P.two o b p (h c t) (h (P.after o c (h c t)) u) ≡ h c (two o b p t u)

then_each : {X Y : Type 0} (e : Tree → X) (h : Tree → Y) (p : Parsed Tree) (k : X → ℕ → Parsed Y) (k' : Tree → ℕ → Parsed Tree) →
    ((t : Tree) (n : ℕ) → k (e t) n ≡ each h (k' t n)) → then (each e p) k ≡ each h (then p k')
then_each e h none k k' q = refl
then_each e h (got t n) k k' q = q t n

operated_each : {X : Type 0} (h : Tree → X) (x : Option Joint) (a : Parsed X) (a' : Parsed Tree) (k : Op → ℕ → ℕ → Parsed X) (k' : Op → ℕ → ℕ → Parsed Tree) →
    a ≡ each h a' → ((o : Op) (p n : ℕ) → k o p n ≡ each h (k' o p n)) → operated x a k ≡ each h (operated x a' k')
operated_each h None a a' k k' p q = p
operated_each h (Some j) a a' k k' p q = q j.op j.at j.end

scaled_each : {X : Type 0} (h : Tree → X) (x : Multiplied) (a : Parsed X) (a' : Parsed Tree) (k : Bool → ℕ → ℕ → ℕ → Parsed X) (k' : Bool → ℕ → ℕ → ℕ → Parsed Tree) →
    a ≡ each h a' → ((b : Bool) (v p n : ℕ) → k b v p n ≡ each h (k' b v p n)) → scaled x a k ≡ each h (scaled x a' k')
scaled_each h (Ok None) a a' k k' p q = p
scaled_each h (Err x) a a' k k' p q = refl
scaled_each h (Ok (Some m)) a a' k k' p q = q m.negative m.number m.at m.end

marked_each : {X : Type 0} (h : Tree → X) (m : Option ℕ) (x : X) (t : Tree) → x ≡ h t → past_mark m (λ n. got x n) ≡ each h (past_mark m (λ n. got t n))
marked_each h None x t e = refl
marked_each h (Some n) x t e = ap (λ y. got y n) e

closed_each : {X : Type 0} (h : Tree → X) (s : List ℕ) (at : ℕ) (x : X) (t : Tree) → x ≡ h t → closed_at s at x ≡ each h (closed_at s at t)
unfolding closed_at
closed_each h s at x t e = marked_each h (closing_at s at) x t e

started_each : {X : Type 0} (h : Tree → X) (x : Option Start) (o : ℕ → Parsed X) (m : Kind → ℕ → ℕ → Parsed X) (o' : ℕ → Parsed Tree) (m' : Kind → ℕ → ℕ → Parsed Tree) →
    ((n : ℕ) → o n ≡ each h (o' n)) → ((k : Kind) (p n : ℕ) → m k p n ≡ each h (m' k p n)) → started x o m ≡ each h (started x o' m')
started_each h None o m o' m' p q = refl
started_each h (Some (S.Open n)) o m o' m' p q = p n
started_each h (Some (S.Make k w n)) o m o' m' p q = q k w n

holding_each : {X : Type 0} (h : Tree → X) (x : Option Held) (t f : ℕ → ℕ → ℕ → Parsed X) (e : Parsed X) (t' f' : ℕ → ℕ → ℕ → Parsed Tree) (e' : Parsed Tree) →
    ((a b n : ℕ) → t a b n ≡ each h (t' a b n)) → ((i p n : ℕ) → f i p n ≡ each h (f' i p n)) → e ≡ each h e' → holding x t f e ≡ each h (holding x t' f' e')
holding_each h (Some (H.Text a b n)) t f e t' f' e' p q r = p a b n
holding_each h (Some (H.Field i w n)) t f e t' f' e' p q r = q i w n
holding_each h None t f e t' f' e' p q r = refl
holding_each h (Some H.Sum) t f e t' f' e' p q r = r

-- { operator part }: where the parts meet, and so do the joins, the loops do
module _ {X : Type 0} (h : Tree → X) (sign : ℕ → Option Joint) (p : Op → X → ℕ → Parsed X) (p' : Op → Tree → ℕ → Parsed Tree)
    (j : Op → ℕ → X → X → X) (j' : Op → ℕ → Tree → Tree → Tree) (e : Op → Tree → Tree → X)
    (pe : (o : Op) (t : Tree) (n : ℕ) → p o (h t) n ≡ each (e o t) (p' o t n)) (je : (o : Op) (w : ℕ) (t u : Tree) → j o w (h t) (e o t u) ≡ h (j' o w t u)) where
  many_each : (k at : ℕ) (t : Tree) → many sign p j k at (h t) ≡ each h (many sign p' j' k at t)
  unfolding many
  many_each zero at t = refl
  many_each (suc k) at t = operated_each h (sign at) _ _ _ _ refl
      (λ o w n. rw (pe o t n) (then_each (e o t) h (p' o t n) _ _ (λ u m. rw (je o w t u) (many_each k m (j' o w t u)))))

module _ {X : Type 0} (h : Tree → X) (star : ℕ → Multiplied) (op : Bool → ℕ → ℕ → X → X) (op' : Bool → ℕ → ℕ → Tree → Tree)
    (oe : (b : Bool) (v p : ℕ) (t : Tree) → op b v p (h t) ≡ h (op' b v p t)) where
  repeated_each : (k at : ℕ) (t : Tree) → repeated star op k at (h t) ≡ each h (repeated star op' k at t)
  unfolding repeated
  repeated_each zero at t = refl
  repeated_each (suc k) at t = scaled_each h (star at) _ _ _ _ refl (λ b v p n. rw (oe b v p t) (repeated_each k n (op' b v p t)))

module _ (X C : Type 0) (P : Parts X C) (s : List ℕ) (h : C → Tree → X) (a : Meets X C P h) where
  abbrev Meet : Inside X C → Inside Tree U → Type 0
  Meet i i' = ((at : ℕ) (c : C) → i.cond at c ≡ each (h c) (i'.cond at tt)) × ((k : Kind) (w at : ℕ) (c : C) → i.held k w at c ≡ each (h c) (i'.held k w at tt))

  module _ (i : Inside X C) (i' : Inside Tree U) (ie : Meet i i') where
    factor_folds : (at : ℕ) (c : C) → factor_in X C P s i at c ≡ each (h c) (factor_in Tree U trees s i' at tt)
    unfolding factor_in
    factor_folds at c = started_each (h c) (start_at s at) _ _ _ _
        (λ n. rw (ie.0 n c) (then_each (h c) (h c) (i'.cond n tt) _ _ (λ t m. closed_each (h c) s m (h c t) t refl)))
        (λ k p n. ie.1 k p n c)

    term_more_folds : (at : ℕ) (c : C) (t : Tree) → term_more_in X C P s i at (h c t) ≡ each (h c) (term_more_in Tree U trees s i' at t)
    unfolding term_more_in
    term_more_folds at c t = repeated_each (h c) (multiplier_at s) P.times trees.times (λ b v p u. a.a_times c b v p u) (length s - at) at t

    term_folds : (at : ℕ) (c : C) → term_in X C P s i at c ≡ each (h c) (term_in Tree U trees s i' at tt)
    unfolding term_in
    term_folds at c = rw (factor_folds at c) (then_each (h c) (h c) (factor_in Tree U trees s i' at tt) _ _ (λ t n. term_more_folds n c t))

    sum_more_folds : (b at : ℕ) (c : C) (t : Tree) → sum_more_in X C P s i b at c (h c t) ≡ each (h c) (sum_more_in Tree U trees s i' b at tt t)
    unfolding sum_more_in
    sum_more_folds b at c t = many_each (h c) (sign_at s) _ _ _ _ (λ o u. h (P.after o c (h c u)))
        (λ o u n. term_folds n (P.after o c (h c u))) (λ o p u v. a.a_two c o b p u v) (length s - at) at t

    sum_folds : (at : ℕ) (c : C) → sum_in X C P s i at c ≡ each (h c) (sum_in Tree U trees s i' at tt)
    unfolding sum_in
    sum_folds at c = rw (term_folds at c) (then_each (h c) (h c) (term_in Tree U trees s i' at tt) _ _ (λ t n. sum_more_folds (skipped s at) n c t))

    test_folds : (at : ℕ) (c : C) → test_in X C P s i at c ≡ each (h c) (test_in Tree U trees s i' at tt)
    unfolding test_in
    test_folds at c = rw (sum_folds at c) (then_each (h c) (h c) (sum_in Tree U trees s i' at tt) _ _
        (λ t n. operated_each (h c) (comparison_at s n) _ _ _ _ refl
        (λ o p m. rw (sum_folds m (P.after o c (h c t))) (then_each (h (P.after o c (h c t))) (h c) (sum_in Tree U trees s i' m tt) _ _
        (λ u k. ap (λ x. got x k) (a.a_two c o (skipped s at) p t u))))))

    clause_more_folds : (b at : ℕ) (c : C) (t : Tree) → clause_more_in X C P s i b at c (h c t) ≡ each (h c) (clause_more_in Tree U trees s i' b at tt t)
    unfolding clause_more_in
    clause_more_folds b at c t = many_each (h c) (and_at s) _ _ _ _ (λ o u. h (P.after o c (h c u)))
        (λ o u n. test_folds n (P.after o c (h c u))) (λ o p u v. a.a_two c o b p u v) (length s - at) at t

    clause_folds : (at : ℕ) (c : C) → clause_in X C P s i at c ≡ each (h c) (clause_in Tree U trees s i' at tt)
    unfolding clause_in
    clause_folds at c = rw (test_folds at c) (then_each (h c) (h c) (test_in Tree U trees s i' at tt) _ _ (λ t n. clause_more_folds (skipped s at) n c t))

    condition_more_folds : (b at : ℕ) (c : C) (t : Tree) → condition_more_in X C P s i b at c (h c t) ≡ each (h c) (condition_more_in Tree U trees s i' b at tt t)
    unfolding condition_more_in
    condition_more_folds b at c t = many_each (h c) (or_at s) _ _ _ _ (λ o u. h (P.after o c (h c u)))
        (λ o u n. clause_folds n (P.after o c (h c u))) (λ o p u v. a.a_two c o b p u v) (length s - at) at t

    condition_folds : (at : ℕ) (c : C) → condition_in X C P s i at c ≡ each (h c) (condition_in Tree U trees s i' at tt)
    unfolding condition_in
    condition_folds at c = rw (clause_folds at c) (then_each (h c) (h c) (clause_in Tree U trees s i' at tt) _ _ (λ t n. condition_more_folds (skipped s at) n c t))

    held_folds : (k : Kind) (w at : ℕ) (c : C) → held_in X C P s i k w at c ≡ each (h c) (held_in Tree U trees s i' k w at tt)
    unfolding held_in
    held_folds k w at c = holding_each (h c) (held_at s at) _ _ _ _ _ _
        (λ x y n. closed_each (h c) s n _ _ (a.a_literal c k w x y))
        (λ x y n. closed_each (h c) s n _ _ (a.a_field c k w x y))
        (rw (sum_folds at c) (then_each (h c) (h c) (sum_in Tree U trees s i' at tt) _ _ (λ t n. closed_each (h c) s n _ _ (a.a_cast c k w t))))

  inner_folds : (d : ℕ) → Meet (inner X C P s d) (inner Tree U trees s d)
  unfolding inner
  inner_folds zero = (λ at c. refl, λ k w at c. refl)
  inner_folds (suc d) =
      (condition_folds (inner X C P s d) (inner Tree U trees s d) (inner_folds d), held_folds (inner X C P s d) (inner Tree U trees s d) (inner_folds d))

  -- the grammar at an instance is the fold of the grammar at trees
  pub grammar_folds : (d at : ℕ) (c : C) → condition X C P s d at c ≡ each (h c) (condition Tree U trees s d at tt)
  grammar_folds d at c = condition_folds (inner X C P s d) (inner Tree U trees s d) (inner_folds d) at c
