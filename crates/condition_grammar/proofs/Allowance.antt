-- How many parentheses may be opened never decides in a text that is not too deep. Where a part begins, as many parentheses are open
-- as it may open fewer than sixteen; so where it may open none, sixteen are open, and one more would be too deep. Two readings with
-- different allowances are alike: they give the same, and end where as many parentheses are open as where they began.
use mathlib.Core.Path.{◌≡◌, refl, sym, ap, subst}
use mathlib.Core.Bool.{Bool, false}
use mathlib.Core.List.{List}
use Prim.Native.Nat.{ℕ, zero, suc, ◌+◌, ◌-◌, ◌≤◌}
use native.Mathlib.Omega.{arith}
use lib.ListN.{length}
use Rattle.std.specs.Prelude.{Option, Some, None, Ok, Err}
use Rattle.value.specs.declared.Kind.{Kind}
use Rattle.condition_words.specs.Words.{skipped}
use Rattle.condition_depth.specs.Depth.{deep, max_depth}
use Rattle.condition_symbols.specs.Symbols.{or_at, and_at, comparison_at, sign_at, start_at, held_at, multiplier_at, closing_at, Multiplied}
use Rattle.condition_grammar.proofs.Levels.{Level, LevelMark, LevelJoint, LevelMultiplier, LevelHeld, LevelStart, closing_level, or_level, and_level, comparison_level, sign_level, multiplier_level, held_level, start_level, level_0}
use Rattle.condition_symbols.specs.declared.Op.{Op}
use Rattle.condition_symbols.specs.declared.Joint.{Joint}
use Rattle.condition_symbols.specs.declared.Start.{Start}
use Rattle.condition_symbols.specs.declared.Start.TheVariants as S
use Rattle.condition_symbols.specs.declared.Held.{Held}
use Rattle.condition_symbols.specs.declared.Held.TheVariants as H
use Rattle.condition_grammar.specs.Grammar.{Parsed, none, got, then, past_mark, operated, scaled, started, holding, closed_at, many, repeated, Parts, Inside, inner, condition, condition_in, condition_more_in, clause_in, clause_more_in, test_in, sum_in, sum_more_in, term_in, term_more_in, factor_in, held_in}
use Rattle.condition_grammar.specs.Trees.{Tree, trees, whole_text, parse, AllowanceNeverDecides}

module _ {X : Type 0} (s : List ℕ) where
  -- what was read ends where so many parentheses are open
  abbrev Ends : ℕ → Parsed X → Type 0
  Ends k none = Unit {0}
  Ends k (got x n) = Level s false k n

  abbrev Alike : ℕ → Parsed X → Parsed X → Type 0
  Alike k p q = (p ≡ q) × Ends k p

  then_alike : (j k : ℕ) (p q : Parsed X) (f g : X → ℕ → Parsed X) → Alike j p q → ((x : X) (n : ℕ) → Level s false j n → Alike k (f x n) (g x n)) → Alike k (then p f) (then q g)
  then_alike j k p q f g a h = subst (λ r. Alike k (then p f) (then r g)) a.0 (by p a.1)
    where
      by : (r : Parsed X) → Ends j r → Alike k (then r f) (then r g)
      by none e = (refl, tt)
      by (got x n) e = h x n e

  operated_alike : (k : ℕ) (x : Option Joint) (a b : Parsed X) (f g : Op → ℕ → ℕ → Parsed X) → LevelJoint s k x → Alike k a b →
      ((o : Op) (p n : ℕ) → Level s false k n → Alike k (f o p n) (g o p n)) → Alike k (operated x a f) (operated x b g)
  operated_alike k None a b f g l q h = q
  operated_alike k (Some j) a b f g l q h = h j.op j.at j.end l

  scaled_alike : (k : ℕ) (x : Multiplied) (a : Parsed X) (f : Bool → ℕ → ℕ → ℕ → Parsed X) → LevelMultiplier s k x → Ends k a →
      ((b : Bool) (v p n : ℕ) → Level s false k n → Ends k (f b v p n)) → Ends k (scaled x a f)
  scaled_alike k (Ok None) a f l q h = q
  scaled_alike k (Err x) a f l q h = tt
  scaled_alike k (Ok (Some m)) a f l q h = h m.negative m.number m.at m.end l

  marked_ends : (k : ℕ) (m : Option ℕ) (x : X) → LevelMark s k m → Ends k (past_mark m (λ n. got x n))
  marked_ends k None x l = tt
  marked_ends k (Some n) x l = l

  closed_alike : (k at : ℕ) (x : X) → Level s false (k + 1) at → Alike k (closed_at s at x) (closed_at s at x)
  unfolding closed_at
  closed_alike k at x l = (refl, marked_ends k (closing_at s at) x (closing_level s k at l))

  started_alike : (k : ℕ) (x : Option Start) (o o' : ℕ → Parsed X) (m m' : Kind → ℕ → ℕ → Parsed X) → LevelStart s k x →
      ((n : ℕ) → k + 1 ≤ max_depth → Level s false (k + 1) n → Alike k (o n) (o' n)) →
      ((j : Kind) (p n : ℕ) → k + 1 ≤ max_depth → Level s false (k + 1) n → Alike k (m j p n) (m' j p n)) → Alike k (started x o m) (started x o' m')
  started_alike k None o o' m m' l p q = (refl, tt)
  started_alike k (Some (S.Open n)) o o' m m' l p q = p n l.0 l.1
  started_alike k (Some (S.Make j w n)) o o' m m' l p q = q j w n l.0 l.1

  holding_alike : (j k : ℕ) (x : Option Held) (t t' f f' : ℕ → ℕ → ℕ → Parsed X) (e e' : Parsed X) → LevelHeld s j x →
      ((a b n : ℕ) → Level s false j n → Alike k (t a b n) (t' a b n)) → ((i p n : ℕ) → Level s false j n → Alike k (f i p n) (f' i p n)) → Alike k e e' →
      Alike k (holding x t f e) (holding x t' f' e')
  holding_alike j k (Some (H.Text a b n)) t t' f f' e e' l p q r = p a b n l
  holding_alike j k (Some (H.Field i w n)) t t' f f' e e' l p q r = q i w n l
  holding_alike j k None t t' f f' e e' l p q r = (refl, tt)
  holding_alike j k (Some H.Sum) t t' f f' e e' l p q r = r

  -- { operator part }, of two readers of the parts
  module _ (k : ℕ) (sign : ℕ → Option Joint) (p q : Op → X → ℕ → Parsed X) (join : Op → ℕ → X → X → X) (gs : (at : ℕ) → Level s false k at → LevelJoint s k (sign at))
      (gp : (o : Op) (x : X) (n : ℕ) → Level s false k n → Alike k (p o x n) (q o x n)) where
    many_alike : (c at : ℕ) (left : X) → Level s false k at → Alike k (many sign p join c at left) (many sign q join c at left)
    unfolding many
    many_alike zero at left l = (refl, l)
    many_alike (suc c) at left l = operated_alike k (sign at) _ _ _ _ (gs at l) (refl, l)
        (λ o w n m. then_alike k k (p o left n) (q o left n) _ _ (gp o left n m) (λ x j e. many_alike c j (join o w left x) e))

  repeated_ends : (k : ℕ) (star : ℕ → Multiplied) (scale : Bool → ℕ → ℕ → X → X) → ((at : ℕ) → Level s false k at → LevelMultiplier s k (star at)) →
      (c at : ℕ) (left : X) → Level s false k at → Ends k (repeated star scale c at left)
  unfolding repeated
  repeated_ends k star scale gs zero at left l = l
  repeated_ends k star scale gs (suc c) at left l = scaled_alike k (star at) _ _ (gs at l) l (λ b v p n m. repeated_ends k star scale gs c n (scale b v p left) m)

module _ (X C : Type 0) (P : Parts X C) (s : List ℕ) (d : deep s ≡ false) where
  -- the readers of what stands in parentheses, which begin where one more is open
  abbrev AlikeIn : ℕ → Inside X C → Inside X C → Type 0
  AlikeIn k i i' =
      ((at : ℕ) (c : C) → k + 1 ≤ max_depth → Level s false (k + 1) at → Alike s (k + 1) (i.cond at c) (i'.cond at c)) ×
      ((j : Kind) (w at : ℕ) (c : C) → k + 1 ≤ max_depth → Level s false (k + 1) at → Alike s k (i.held j w at c) (i'.held j w at c))

  module _ (k : ℕ) (i i' : Inside X C) (ie : AlikeIn k i i') where
    factor_alike : (at : ℕ) (c : C) → Level s false k at → Alike s k (factor_in X C P s i at c) (factor_in X C P s i' at c)
    unfolding factor_in
    factor_alike at c l = started_alike s k (start_at s at) _ _ _ _ (start_level s k at l d)
        (λ n h m. then_alike s (k + 1) k (i.cond n c) (i'.cond n c) _ _ (ie.0 n c h m) (λ x e q. closed_alike s k e x q))
        (λ j p n h m. ie.1 j p n c h m)

    term_more_alike : (at : ℕ) (left : X) → Level s false k at → Alike s k (term_more_in X C P s i at left) (term_more_in X C P s i' at left)
    unfolding term_more_in
    term_more_alike at left l = (refl, repeated_ends s k (multiplier_at s) P.times (multiplier_level s k) (length s - at) at left l)

    term_alike : (at : ℕ) (c : C) → Level s false k at → Alike s k (term_in X C P s i at c) (term_in X C P s i' at c)
    unfolding term_in
    term_alike at c l = then_alike s k k _ _ _ _ (factor_alike at c l) (λ x n m. term_more_alike n x m)

    sum_more_alike : (b at : ℕ) (c : C) (left : X) → Level s false k at → Alike s k (sum_more_in X C P s i b at c left) (sum_more_in X C P s i' b at c left)
    unfolding sum_more_in
    sum_more_alike b at c left l = many_alike s k (sign_at s) _ _ _ (sign_level s k) (λ o x n m. term_alike n (P.after o c x) m) (length s - at) at left l

    sum_alike : (at : ℕ) (c : C) → Level s false k at → Alike s k (sum_in X C P s i at c) (sum_in X C P s i' at c)
    unfolding sum_in
    sum_alike at c l = then_alike s k k _ _ _ _ (term_alike at c l) (λ x n m. sum_more_alike (skipped s at) n c x m)

    test_alike : (at : ℕ) (c : C) → Level s false k at → Alike s k (test_in X C P s i at c) (test_in X C P s i' at c)
    unfolding test_in
    test_alike at c l = then_alike s k k _ _ _ _ (sum_alike at c l)
        (λ x n m. operated_alike s k (comparison_at s n) _ _ _ _ (comparison_level s k n m) (refl, m)
        (λ o p j e. then_alike s k k _ _ _ _ (sum_alike j (P.after o c x) e) (λ y r q. (refl, q))))

    clause_more_alike : (b at : ℕ) (c : C) (left : X) → Level s false k at → Alike s k (clause_more_in X C P s i b at c left) (clause_more_in X C P s i' b at c left)
    unfolding clause_more_in
    clause_more_alike b at c left l = many_alike s k (and_at s) _ _ _ (and_level s k) (λ o x n m. test_alike n (P.after o c x) m) (length s - at) at left l

    clause_alike : (at : ℕ) (c : C) → Level s false k at → Alike s k (clause_in X C P s i at c) (clause_in X C P s i' at c)
    unfolding clause_in
    clause_alike at c l = then_alike s k k _ _ _ _ (test_alike at c l) (λ x n m. clause_more_alike (skipped s at) n c x m)

    condition_more_alike : (b at : ℕ) (c : C) (left : X) → Level s false k at → Alike s k (condition_more_in X C P s i b at c left) (condition_more_in X C P s i' b at c left)
    unfolding condition_more_in
    condition_more_alike b at c left l = many_alike s k (or_at s) _ _ _ (or_level s k) (λ o x n m. clause_alike n (P.after o c x) m) (length s - at) at left l

    condition_alike : (at : ℕ) (c : C) → Level s false k at → Alike s k (condition_in X C P s i at c) (condition_in X C P s i' at c)
    unfolding condition_in
    condition_alike at c l = then_alike s k k _ _ _ _ (clause_alike at c l) (λ x n m. condition_more_alike (skipped s at) n c x m)

  -- what a kind's word holds begins inside its parenthesis and ends outside
  held_alike : (k : ℕ) (i i' : Inside X C) → AlikeIn (k + 1) i i' → (j : Kind) (w at : ℕ) (c : C) → Level s false (k + 1) at →
      Alike s k (held_in X C P s i j w at c) (held_in X C P s i' j w at c)
  unfolding held_in
  held_alike k i i' ie j w at c l = holding_alike s (k + 1) k (held_at s at) _ _ _ _ _ _ (held_level s (k + 1) at l)
      (λ a b n m. closed_alike s k n _ m) (λ a b n m. closed_alike s k n _ m)
      (then_alike s (k + 1) k _ _ _ _ (sum_alike (k + 1) i i' ie at c l) (λ x n m. closed_alike s k n _ m))

  inner_alike : (a b k : ℕ) → k + a ≡ max_depth → a ≤ b → AlikeIn k (inner X C P s a) (inner X C P s b)
  unfolding inner
  inner_alike zero b k e h = (λ at c g l. absurd (omega arith), λ j w at c g l. absurd (omega arith))
  inner_alike (suc a) zero k e h = absurd (omega arith)
  inner_alike (suc a) (suc b) k e h =
      let ie = inner_alike a b (k + 1) (omega arith) (omega arith) in (
        λ at c g l. condition_alike (k + 1) (inner X C P s a) (inner X C P s b) ie at c l,
        λ j w at c g l. held_alike k (inner X C P s a) (inner X C P s b) ie j w at c l,
      )

  condition_same : (b : ℕ) (c : C) → max_depth ≤ b → condition X C P s max_depth 0 c ≡ condition X C P s b 0 c
  condition_same b c h = (condition_alike 0 (inner X C P s max_depth) (inner X C P s b) (inner_alike max_depth b 0 (omega arith) h) 0 c (level_0 s)).0

pub allowance_never_decides : AllowanceNeverDecides
unfolding parse
allowance_never_decides s b d h = ap (whole_text s) (sym (condition_same Tree (Unit {0}) trees s d b tt h))
