-- One reading principle: what holds of whatever each operation gives holds of whatever was read. By one induction on the depth,
-- and on the count of each loop.
use mathlib.Core.Bool.{Bool, true, false}
use mathlib.Core.List.{List}
use Prim.Native.Nat.{ℕ, zero, suc, ◌-◌, ◌<◌}
use lib.ListN.{length}
use lib.Dec.{leb}
use Rattle.std.specs.Prelude.{Option, Some, None, Ok, Err}
use Rattle.basis.specs.Choice.{pick}
use Rattle.value.specs.declared.Kind.{Kind}
use Rattle.condition_words.specs.Words.{skipped}
use Rattle.condition_depth.specs.Depth.{max_depth}
use Rattle.condition_symbols.specs.Symbols.{or_at, and_at, comparison_at, sign_at, start_at, held_at, multiplier_at, closing_at, Multiplied}
use Rattle.condition_grammar.proofs.Ends.{Small, multiplier_small}
use Rattle.condition_symbols.specs.declared.Op.{Op}
use Rattle.condition_symbols.specs.declared.Joint.{Joint}
use Rattle.condition_symbols.specs.declared.Start.{Start}
use Rattle.condition_symbols.specs.declared.Start.TheVariants as S
use Rattle.condition_symbols.specs.declared.Held.{Held}
use Rattle.condition_symbols.specs.declared.Held.TheVariants as H
use Rattle.condition_grammar.specs.Grammar.{Parsed, none, got, then, past_mark, operated, scaled, started, holding, closed_at, many, repeated, Parts, Inside, inner, condition, condition_in, condition_more_in, clause_in, clause_more_in, test_in, sum_in, sum_more_in, term_in, term_more_in, factor_in, held_in}
use Rattle.condition_grammar.specs.Trees.{Tree, leaf, one, two, cast, times, trees, parse}

-- what each operation of an instance keeps; a whole number that was read is below 1,000,000
pub record Keeps (X C : Type 0) (P : Parts X C) (Q : X → Type 0) : Type 0 where
  pub of_literal : (c : C) (k : Kind) (w from to : ℕ) → Q (P.literal c k w from to)
  pub of_field : (c : C) (k : Kind) (w n p : ℕ) → Q (P.field c k w n p)
  pub of_cast : (k : Kind) (w : ℕ) (x : X) → Q x → Q (P.cast k w x)
  pub of_times : (b : Bool) (v p : ℕ) (x : X) → v < 1000000 → Q x → Q (P.times b v p x)
  pub of_two : (o : Op) (b p : ℕ) (x y : X) → Q x → Q y → Q (P.two o b p x y)

unfoldable pub All : {X : Type 0} → (X → Type 0) → Parsed X → Type 0
All Q none = Unit {0}
All Q (got x n) = Q x

module _ {X : Type 0} (Q : X → Type 0) where
  then_all : (p : Parsed X) (k : X → ℕ → Parsed X) → All Q p → ((x : X) (n : ℕ) → Q x → All Q (k x n)) → All Q (then p k)
  unfolding All
  then_all none k g h = tt
  then_all (got x n) k g h = h x n g

  got_all : (x : X) (n : ℕ) → Q x → All Q (got x n)
  unfolding All
  got_all x n g = g

  operated_all : (x : Option Joint) (a : Parsed X) (k : Op → ℕ → ℕ → Parsed X) → All Q a → ((o : Op) (p n : ℕ) → All Q (k o p n)) → All Q (operated x a k)
  operated_all None a k g h = g
  operated_all (Some j) a k g h = h j.op j.at j.end

  scaled_all : (x : Multiplied) (a : Parsed X) (k : Bool → ℕ → ℕ → ℕ → Parsed X) → Small x → All Q a → ((b : Bool) (v p n : ℕ) → v < 1000000 → All Q (k b v p n)) → All Q (scaled x a k)
  unfolding All
  scaled_all (Ok None) a k l g h = g
  scaled_all (Err x) a k l g h = tt
  scaled_all (Ok (Some m)) a k l g h = h m.negative m.number m.at m.end l

  marked_all : (m : Option ℕ) (x : X) → Q x → All Q (past_mark m (λ n. got x n))
  unfolding All
  marked_all None x g = tt
  marked_all (Some n) x g = g

  closed_all : (s : List ℕ) (at : ℕ) (x : X) → Q x → All Q (closed_at s at x)
  unfolding closed_at
  closed_all s at x g = marked_all (closing_at s at) x g

  started_all : (x : Option Start) (o : ℕ → Parsed X) (m : Kind → ℕ → ℕ → Parsed X) → ((n : ℕ) → All Q (o n)) → ((k : Kind) (p n : ℕ) → All Q (m k p n)) → All Q (started x o m)
  unfolding All
  started_all None o m p q = tt
  started_all (Some (S.Open n)) o m p q = p n
  started_all (Some (S.Make k w n)) o m p q = q k w n

  holding_all : (x : Option Held) (t f : ℕ → ℕ → ℕ → Parsed X) (e : Parsed X) → ((a b n : ℕ) → All Q (t a b n)) → ((i p n : ℕ) → All Q (f i p n)) → All Q e → All Q (holding x t f e)
  unfolding All
  holding_all (Some (H.Text a b n)) t f e p q r = p a b n
  holding_all (Some (H.Field i w n)) t f e p q r = q i w n
  holding_all None t f e p q r = tt
  holding_all (Some H.Sum) t f e p q r = r

  many_all : (sign : ℕ → Option Joint) (part : Op → X → ℕ → Parsed X) (join : Op → ℕ → X → X → X) → ((o : Op) (l : X) (n : ℕ) → All Q (part o l n)) →
      ((o : Op) (p : ℕ) (x y : X) → Q x → Q y → Q (join o p x y)) → (k at : ℕ) (left : X) → Q left → All Q (many sign part join k at left)
  unfolding many
  many_all sign part join gp gj zero at left g = got_all left at g
  many_all sign part join gp gj (suc k) at left g = operated_all (sign at) _ _ (got_all left at g)
      (λ o p n. then_all (part o left n) _ (gp o left n) (λ x m h. many_all sign part join gp gj k m (join o p left x) (gj o p left x g h)))

  repeated_all : (star : ℕ → Multiplied) (scale : Bool → ℕ → ℕ → X → X) → ((at : ℕ) → Small (star at)) →
      ((b : Bool) (v p : ℕ) (x : X) → v < 1000000 → Q x → Q (scale b v p x)) → (k at : ℕ) (left : X) → Q left → All Q (repeated star scale k at left)
  unfolding repeated
  repeated_all star scale gs gq zero at left g = got_all left at g
  repeated_all star scale gs gq (suc k) at left g = scaled_all (star at) _ _ (gs at) (got_all left at g)
      (λ b v p n l. repeated_all star scale gs gq k n (scale b v p left) (gq b v p left l g))

module _ (X C : Type 0) (P : Parts X C) (s : List ℕ) (Q : X → Type 0) (a : Keeps X C P Q) where
  abbrev AllIn : Inside X C → Type 0
  AllIn i = ((at : ℕ) (c : C) → All Q (i.cond at c)) × ((k : Kind) (w at : ℕ) (c : C) → All Q (i.held k w at c))

  module _ (i : Inside X C) (gi : AllIn i) where
    factor_all : (at : ℕ) (c : C) → All Q (factor_in X C P s i at c)
    unfolding factor_in
    factor_all at c = started_all Q (start_at s at) _ _ (λ n. then_all Q (i.cond n c) _ (gi.0 n c) (λ x m h. closed_all Q s m x h)) (λ k p n. gi.1 k p n c)

    term_more_all : (at : ℕ) (left : X) → Q left → All Q (term_more_in X C P s i at left)
    unfolding term_more_in
    term_more_all at left g = repeated_all Q (multiplier_at s) P.times (multiplier_small s) a.of_times (length s - at) at left g

    term_all : (at : ℕ) (c : C) → All Q (term_in X C P s i at c)
    unfolding term_in
    term_all at c = then_all Q (factor_in X C P s i at c) _ (factor_all at c) (λ x n h. term_more_all n x h)

    sum_all : (at : ℕ) (c : C) → All Q (sum_in X C P s i at c)
    unfolding sum_in sum_more_in
    sum_all at c = then_all Q (term_in X C P s i at c) _ (term_all at c)
        (λ x n h. many_all Q (sign_at s) _ _ (λ o l m. term_all m _) (λ o p y z. a.of_two o (skipped s at) p y z) (length s - n) n x h)

    test_all : (at : ℕ) (c : C) → All Q (test_in X C P s i at c)
    unfolding test_in
    test_all at c = then_all Q (sum_in X C P s i at c) _ (sum_all at c) (λ x n h. operated_all Q (comparison_at s n) _ _ (got_all Q x n h)
        (λ o p m. then_all Q (sum_in X C P s i m (P.after o c x)) _ (sum_all m (P.after o c x)) (λ y k g. got_all Q _ k (a.of_two o (skipped s at) p x y h g))))

    clause_all : (at : ℕ) (c : C) → All Q (clause_in X C P s i at c)
    unfolding clause_in clause_more_in
    clause_all at c = then_all Q (test_in X C P s i at c) _ (test_all at c)
        (λ x n h. many_all Q (and_at s) _ _ (λ o l m. test_all m _) (λ o p y z. a.of_two o (skipped s at) p y z) (length s - n) n x h)

    condition_all : (at : ℕ) (c : C) → All Q (condition_in X C P s i at c)
    unfolding condition_in condition_more_in
    condition_all at c = then_all Q (clause_in X C P s i at c) _ (clause_all at c)
        (λ x n h. many_all Q (or_at s) _ _ (λ o l m. clause_all m _) (λ o p y z. a.of_two o (skipped s at) p y z) (length s - n) n x h)

    held_all : (k : Kind) (w at : ℕ) (c : C) → All Q (held_in X C P s i k w at c)
    unfolding held_in
    held_all k w at c = holding_all Q (held_at s at) _ _ _ (λ x y n. closed_all Q s n _ (a.of_literal c k w x y)) (λ x y n. closed_all Q s n _ (a.of_field c k w x y))
        (then_all Q (sum_in X C P s i at c) _ (sum_all at c) (λ x n h. closed_all Q s n _ (a.of_cast k w x h)))

  none_all : All Q none
  unfolding All
  none_all = tt

  inner_all : (d : ℕ) → AllIn (inner X C P s d)
  unfolding inner
  inner_all zero = (λ at c. none_all, λ k w at c. none_all)
  inner_all (suc d) = (condition_all (inner X C P s d) (inner_all d), held_all (inner X C P s d) (inner_all d))

  -- what every operation keeps holds of what was read
  pub reads_keep : (d at : ℕ) (c : C) → All Q (condition X C P s d at c)
  reads_keep d at c = condition_all (inner X C P s d) (inner_all d) at c

-- every whole number of a tree that was read is within the bounds of a product
abbrev pub Bounded : Tree → Type 0
Bounded (leaf k w l) = Unit {0}
Bounded (one (cast k) p t) = Bounded t
Bounded (one (times b v) p t) = (v < 1000000) × Bounded t
Bounded (two o b p l r) = Bounded l × Bounded r

trees_bounded : Keeps Tree (Unit {0}) trees Bounded
trees_bounded =
    record {
      of_literal = λ c k w from to. tt;
      of_field = λ c k w n p. tt;
      of_cast = λ k w t g. g;
      of_times = λ b v p t l g. (l, g);
      of_two = λ o b p l r g h. (g, h);
    }

pick_all : (b : Bool) (t : Tree) (n : ℕ) → Bounded t → All Bounded (pick b (got t n) none)
unfolding All
pick_all true t n g = g
pick_all false t n g = tt

pub parse_bounded : (s : List ℕ) → All Bounded (parse s)
unfolding parse
parse_bounded s = then_all Bounded (condition Tree (Unit {0}) trees s max_depth 0 tt) _ (reads_keep Tree (Unit {0}) trees s Bounded trees_bounded max_depth 0 tt)
    (λ t n g. pick_all (leb (length s) (skipped s n)) t n g)
