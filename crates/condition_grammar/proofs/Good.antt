-- Whatever is read ends past where it began, and within the text. So a loop of the grammar, which runs as often as there are
-- bytes left, runs as often as it can: it unfolds with no count.
use mathlib.Core.Path.{◌≡◌, refl, sym, ◌∙◌}
use mathlib.Core.Bool.{Bool}
use mathlib.Core.List.{List}
use Prim.Native.Nat.{ℕ, zero, suc, ◌-◌, ◌<◌, ◌≤◌}
use native.Mathlib.Omega.{arith}
use native.Mathlib.Nat.{le_refl}
use lib.ListN.{length}
use Rattle.std.specs.Prelude.{Option, Some, None, Ok, Err}
use Rattle.value.specs.declared.Kind.{Kind}
use Rattle.condition_words.specs.Words.{skipped}
use Rattle.condition_symbols.specs.Symbols.{or_at, and_at, comparison_at, sign_at, start_at, held_at, multiplier_at, closing_at, Multiplied, without_number}
use Rattle.condition_grammar.proofs.Ends.{Past, PastMark, PastJoint, PastStart, PastHeld, PastMultiplier, closing_past, star_at_end, or_past, and_past, comparison_past, sign_past, start_past, held_past, multiplier_past}
use Rattle.condition_symbols.specs.declared.Op.{Op}
use Rattle.condition_symbols.specs.declared.Joint.{Joint}
use Rattle.condition_symbols.specs.declared.Start.{Start}
use Rattle.condition_symbols.specs.declared.Start.TheVariants as S
use Rattle.condition_symbols.specs.declared.Held.{Held}
use Rattle.condition_symbols.specs.declared.Held.TheVariants as H
use Rattle.condition_grammar.specs.Grammar.{Parsed, none, got, then, past_mark, operated, scaled, started, holding, closed_at, many, repeated, Parts, Inside, inner, condition_in, condition_more_in, clause_in, clause_more_in, test_in, sum_in, sum_more_in, term_in, term_more_in, factor_in, held_in}

-- what was read ends past where it began
unfoldable pub Good : {X : Type 0} → ℕ → ℕ → Parsed X → Type 0
Good L at none = Unit {0}
Good L at (got x n) = Past L at n

-- the same, where nothing more may have been read
unfoldable pub Kept : {X : Type 0} → ℕ → ℕ → Parsed X → Type 0
Kept L at none = Unit {0}
Kept L at (got x n) = (at ≤ n) × (n ≤ L)

-- what a part read is good, and what follows it is: the whole is
then_good : {X Y : Type 0} (L at : ℕ) (p : Parsed X) (k : X → ℕ → Parsed Y) → Good L at p → ((x : X) (n : ℕ) → Past L at n → Good L at (k x n)) → Good L at (then p k)
unfolding Good
then_good L at none k g h = tt
then_good L at (got x n) k g h = h x n g

then_kept : {X Y : Type 0} (L at : ℕ) (p : Parsed X) (k : X → ℕ → Parsed Y) → Good L at p → ((x : X) (n : ℕ) → Past L at n → Kept L at (k x n)) → Kept L at (then p k)
unfolding Good Kept
then_kept L at none k g h = tt
then_kept L at (got x n) k g h = h x n g

operated_good : {X : Type 0} (L m at : ℕ) (x : Option Joint) (a : Parsed X) (k : Op → ℕ → ℕ → Parsed X) → PastJoint L m x → Good L at a → ((o : Op) (p n : ℕ) → Past L m n → Good L at (k o p n)) → Good L at (operated x a k)
operated_good L m at None a k g q h = q
operated_good L m at (Some j) a k g q h = h j.op j.at j.end g

operated_kept : {X : Type 0} (L m at : ℕ) (x : Option Joint) (a : Parsed X) (k : Op → ℕ → ℕ → Parsed X) → PastJoint L m x → Kept L at a → ((o : Op) (p n : ℕ) → Past L m n → Kept L at (k o p n)) → Kept L at (operated x a k)
operated_kept L m at None a k g q h = q
operated_kept L m at (Some j) a k g q h = h j.op j.at j.end g

scaled_kept : {X : Type 0} (L at : ℕ) (x : Multiplied) (a : Parsed X) (k : Bool → ℕ → ℕ → ℕ → Parsed X) → PastMultiplier L at x → Kept L at a → ((b : Bool) (v p n : ℕ) → Past L at n → Kept L at (k b v p n)) → Kept L at (scaled x a k)
unfolding Kept
scaled_kept L at (Ok None) a k g q h = q
scaled_kept L at (Err x) a k g q h = tt
scaled_kept L at (Ok (Some m)) a k g q h = h m.negative m.number m.at m.end g

-- what was good from a later offset is good from an earlier one
good_from : {X : Type 0} (L at m : ℕ) (p : Parsed X) → at ≤ m → Good L m p → Good L at p
unfolding Good
good_from L at m none h g = tt
good_from L at m (got x n) h g = omega arith

kept_from : {X : Type 0} (L at m : ℕ) (p : Parsed X) → at ≤ m → Kept L m p → Kept L at p
unfolding Kept
kept_from L at m none h g = tt
kept_from L at m (got x n) h g = omega arith

kept_good : {X : Type 0} (L at m : ℕ) (p : Parsed X) → at < m → Kept L m p → Good L at p
unfolding Good Kept
kept_good L at m none h g = tt
kept_good L at m (got x n) h g = omega arith

got_good : {X : Type 0} (L at : ℕ) (x : X) (n : ℕ) → Past L at n → Good L at (got x n)
unfolding Good
got_good L at x n g = g

got_kept : {X : Type 0} (L at : ℕ) (x : X) → at ≤ L → Kept L at (got x at)
unfolding Kept
got_kept L at x h = (le_refl at, h)

none_good : (X : Type 0) (L at : ℕ) → Good {X = X} L at none
unfolding Good
none_good X L at = tt

marked_good : {X : Type 0} (L at : ℕ) (m : Option ℕ) (x : X) → PastMark L at m → Good L at (past_mark m (λ n. got x n))
unfolding Good
marked_good L at None x g = tt
marked_good L at (Some n) x g = g

pub closed_good : {X : Type 0} (s : List ℕ) (at : ℕ) (x : X) → Good (length s) at (closed_at s at x)
unfolding closed_at
closed_good s at x = marked_good (length s) at (closing_at s at) x (closing_past s at)

started_good : {X : Type 0} (L at : ℕ) (x : Option Start) (o : ℕ → Parsed X) (m : Kind → ℕ → ℕ → Parsed X) → PastStart L at x →
    ((n : ℕ) → Past L at n → Good L at (o n)) → ((k : Kind) (p n : ℕ) → Past L at n → Good L at (m k p n)) → Good L at (started x o m)
unfolding Good
started_good L at None o m g p q = tt
started_good L at (Some (S.Open n)) o m g p q = p n g
started_good L at (Some (S.Make k w n)) o m g p q = q k w n g

holding_good : {X : Type 0} (L at : ℕ) (x : Option Held) (t f : ℕ → ℕ → ℕ → Parsed X) (e : Parsed X) → PastHeld L at x →
    ((a b n : ℕ) → Past L at n → Good L at (t a b n)) → ((i p n : ℕ) → Past L at n → Good L at (f i p n)) → Good L at e → Good L at (holding x t f e)
unfolding Good
holding_good L at (Some (H.Text a b n)) t f e g p q u = p a b n g
holding_good L at (Some (H.Field i w n)) t f e g p q u = q i w n g
holding_good L at None t f e g p q u = tt
holding_good L at (Some H.Sum) t f e g p q u = u

-- the same of what goes on only past an offset
then_same : {X Y : Type 0} (L n : ℕ) (p : Parsed X) (f g : X → ℕ → Parsed Y) → Good L n p → ((x : X) (m : ℕ) → n < m → m ≤ L → f x m ≡ g x m) → then p f ≡ then p g
unfolding Good
then_same L n none f g d h = refl
then_same L n (got x m) f g d h = h x m d.0 d.1

operated_same : {X : Type 0} (L at : ℕ) (x : Option Joint) (a : Parsed X) (f g : Op → ℕ → ℕ → Parsed X) → PastJoint L at x → ((o : Op) (p n : ℕ) → at < n → n ≤ L → f o p n ≡ g o p n) → operated x a f ≡ operated x a g
operated_same L at None a f g d h = refl
operated_same L at (Some j) a f g d h = h j.op j.at j.end d.0 d.1

scaled_same : {X : Type 0} (L at : ℕ) (x : Multiplied) (a : Parsed X) (f g : Bool → ℕ → ℕ → ℕ → Parsed X) → PastMultiplier L at x → ((b : Bool) (v p n : ℕ) → at < n → n ≤ L → f b v p n ≡ g b v p n) → scaled x a f ≡ scaled x a g
scaled_same L at (Ok None) a f g d h = refl
scaled_same L at (Err x) a f g d h = refl
scaled_same L at (Ok (Some m)) a f g d h = h m.negative m.number m.at m.end d.0 d.1

-- at the end of the text no operator stands, and a `*` neither
operated_end : {X : Type 0} (L at : ℕ) (x : Option Joint) (a : Parsed X) (f : Op → ℕ → ℕ → Parsed X) → L ≤ at → PastJoint L at x → a ≡ operated x a f
operated_end L at None a f h d = refl
operated_end L at (Some j) a f h d = absurd (omega arith)

-- { operator part }, of a text of L bytes: an operator ends past where it is looked for, and a part past where it begins
module _ {X : Type 0} (L : ℕ) (sign : ℕ → Option Joint) (part : Op → X → ℕ → Parsed X) (join : Op → ℕ → X → X → X)
    (gs : (at : ℕ) → PastJoint L at (sign at)) (gp : (o : Op) (l : X) (n : ℕ) → Good L n (part o l n)) where
  many_kept : (k at : ℕ) (left : X) → at ≤ L → Kept L at (many sign part join k at left)
  unfolding many
  many_kept zero at left h = got_kept L at left h
  many_kept (suc k) at left h = operated_kept L at at (sign at) _ _ (gs at) (got_kept L at left h)
      (λ o p n g. kept_from L at n _ (omega arith) (then_kept L n (part o left n) _ (gp o left n)
      (λ x m e. kept_from L n m _ (omega arith) (many_kept k m (join o p left x) e.1))))

  -- two counts that last give the same
  many_same : (k j at : ℕ) (left : X) → L - at ≤ k → L - at ≤ j → many sign part join k at left ≡ many sign part join j at left
  unfolding many
  many_same zero zero at left h i = refl
  many_same zero (suc j) at left h i = operated_end L at (sign at) (got left at) _ (omega arith) (gs at)
  many_same (suc k) zero at left h i = sym (operated_end L at (sign at) (got left at) _ (omega arith) (gs at))
  many_same (suc k) (suc j) at left h i = operated_same L at (sign at) (got left at) _ _ (gs at)
      (λ o p n a b. then_same L n (part o left n) _ _ (gp o left n) (λ x m c d. many_same k j m (join o p left x) (omega arith) (omega arith)))

  many_opens : (at : ℕ) (left : X) → many sign part join (suc (L - at)) at left ≡ operated (sign at) (got left at)
      (λ o p n. then (part o left n) (λ x m. many sign part join (L - m) m (join o p left x)))
  unfolding many
  many_opens at left = operated_same L at (sign at) (got left at) _ _ (gs at)
      (λ o p n a b. then_same L n (part o left n) _ _ (gp o left n) (λ x m c d. many_same (L - at) (L - m) m (join o p left x) (omega arith) (omega arith)))

  many_unfolds : (at : ℕ) (left : X) → many sign part join (L - at) at left ≡ operated (sign at) (got left at)
      (λ o p n. then (part o left n) (λ x m. many sign part join (L - m) m (join o p left x)))
  many_unfolds at left = many_same (L - at) (suc (L - at)) at left (omega arith) (omega arith) ∙ many_opens at left

-- { "*" whole number }
scaled_end : {X : Type 0} (L at : ℕ) (x : Multiplied) (a : Parsed X) (f : Bool → ℕ → ℕ → ℕ → Parsed X) → L ≤ at → PastMultiplier L at x → (x ≡ Err without_number → ⊥) → a ≡ scaled x a f
scaled_end L at (Ok None) a f h d n = refl
scaled_end L at (Err x) a f h d n = absurd (n refl)
scaled_end L at (Ok (Some m)) a f h d n = absurd (omega arith)

module _ {X : Type 0} (L : ℕ) (star : ℕ → Multiplied) (scale : Bool → ℕ → ℕ → X → X) (gs : (at : ℕ) → PastMultiplier L at (star at))
    (ge : (at : ℕ) → L ≤ at → star at ≡ Err without_number → ⊥) where
  repeated_kept : (k at : ℕ) (left : X) → at ≤ L → Kept L at (repeated star scale k at left)
  unfolding repeated
  repeated_kept zero at left h = got_kept L at left h
  repeated_kept (suc k) at left h = scaled_kept L at (star at) _ _ (gs at) (got_kept L at left h)
      (λ b v p n g. kept_from L at n _ (omega arith) (repeated_kept k n (scale b v p left) g.1))

  repeated_same : (k j at : ℕ) (left : X) → L - at ≤ k → L - at ≤ j → repeated star scale k at left ≡ repeated star scale j at left
  unfolding repeated
  repeated_same zero zero at left h i = refl
  repeated_same zero (suc j) at left h i = scaled_end L at (star at) (got left at) _ (omega arith) (gs at) (ge at (omega arith))
  repeated_same (suc k) zero at left h i = sym (scaled_end L at (star at) (got left at) _ (omega arith) (gs at) (ge at (omega arith)))
  repeated_same (suc k) (suc j) at left h i = scaled_same L at (star at) (got left at) _ _ (gs at)
      (λ b v p n c d. repeated_same k j n (scale b v p left) (omega arith) (omega arith))

  repeated_opens : (at : ℕ) (left : X) → repeated star scale (suc (L - at)) at left ≡ scaled (star at) (got left at)
      (λ b v p n. repeated star scale (L - n) n (scale b v p left))
  unfolding repeated
  repeated_opens at left = scaled_same L at (star at) (got left at) _ _ (gs at)
      (λ b v p n c d. repeated_same (L - at) (L - n) n (scale b v p left) (omega arith) (omega arith))

  repeated_unfolds : (at : ℕ) (left : X) → repeated star scale (L - at) at left ≡ scaled (star at) (got left at)
      (λ b v p n. repeated star scale (L - n) n (scale b v p left))
  repeated_unfolds at left = repeated_same (L - at) (suc (L - at)) at left (omega arith) (omega arith) ∙ repeated_opens at left

abbrev pub GoodI : (X C : Type 0) → ℕ → Inside X C → Type 0
GoodI X C L i = ((at : ℕ) (c : C) → Good L at (i.cond at c)) × ((k : Kind) (w at : ℕ) (c : C) → Good L at (i.held k w at c))

module _ (X C : Type 0) (P : Parts X C) (s : List ℕ) where
  pub term_more_kept : (i : Inside X C) (at : ℕ) (left : X) → at ≤ length s → Kept (length s) at (term_more_in X C P s i at left)
  unfolding term_more_in
  term_more_kept i at left h = repeated_kept (length s) _ _ (multiplier_past s) (star_at_end s) (length s - at) at left h

  pub term_more_unfolds : (i : Inside X C) (at : ℕ) (left : X) → term_more_in X C P s i at left ≡ scaled (multiplier_at s at) (got left at)
      (λ b v p n. term_more_in X C P s i n (P.times b v p left))
  unfolding term_more_in
  term_more_unfolds i at left = repeated_unfolds (length s) _ _ (multiplier_past s) (star_at_end s) at left

  module _ (i : Inside X C) (gi : GoodI X C (length s) i) where
    pub factor_good : (at : ℕ) (c : C) → Good (length s) at (factor_in X C P s i at c)
    unfolding factor_in
    factor_good at c = started_good (length s) at (start_at s at) _ _ (start_past s at)
        (λ n g. good_from (length s) at n _ (omega arith) (then_good (length s) n (i.cond n c) _ (gi.0 n c)
        (λ x m e. good_from (length s) n m _ (omega arith) (closed_good s m x))))
        (λ k p n g. good_from (length s) at n _ (omega arith) (gi.1 k p n c))

    pub term_good : (at : ℕ) (c : C) → Good (length s) at (term_in X C P s i at c)
    unfolding term_in
    term_good at c = then_good (length s) at (factor_in X C P s i at c) _ (factor_good at c)
        (λ x n g. kept_good (length s) at n (term_more_in X C P s i n x) g.0 (term_more_kept i n x g.1))

    sum_more_kept : (b at : ℕ) (c : C) (left : X) → at ≤ length s → Kept (length s) at (sum_more_in X C P s i b at c left)
    unfolding sum_more_in
    sum_more_kept b at c left h = many_kept (length s) _ _ _ (sign_past s) (λ o l n. term_good n (P.after o c l)) (length s - at) at left h

    pub sum_more_unfolds : (b at : ℕ) (c : C) (left : X) → sum_more_in X C P s i b at c left ≡ operated (sign_at s at) (got left at)
        (λ o p n. then (term_in X C P s i n (P.after o c left)) (λ x m. sum_more_in X C P s i b m c (P.two o b p left x)))
    unfolding sum_more_in
    sum_more_unfolds b at c left = many_unfolds (length s) _ _ _ (sign_past s) (λ o l n. term_good n (P.after o c l)) at left

    pub sum_good : (at : ℕ) (c : C) → Good (length s) at (sum_in X C P s i at c)
    unfolding sum_in
    sum_good at c = then_good (length s) at (term_in X C P s i at c) _ (term_good at c)
        (λ x n g. kept_good (length s) at n (sum_more_in X C P s i (skipped s at) n c x) g.0 (sum_more_kept (skipped s at) n c x g.1))

    pub test_good : (at : ℕ) (c : C) → Good (length s) at (test_in X C P s i at c)
    unfolding test_in
    test_good at c = then_good (length s) at (sum_in X C P s i at c) _ (sum_good at c)
        (λ x n g. operated_good (length s) n at (comparison_at s n) _ _ (comparison_past s n) (got_good (length s) at x n g)
        (λ o p m e. good_from (length s) at m _ (omega arith) (then_good (length s) m (sum_in X C P s i m (P.after o c x)) _ (sum_good m (P.after o c x)) (λ y k d. got_good (length s) m _ k d))))

    clause_more_kept : (b at : ℕ) (c : C) (left : X) → at ≤ length s → Kept (length s) at (clause_more_in X C P s i b at c left)
    unfolding clause_more_in
    clause_more_kept b at c left h = many_kept (length s) _ _ _ (and_past s) (λ o l n. test_good n (P.after o c l)) (length s - at) at left h

    pub clause_more_unfolds : (b at : ℕ) (c : C) (left : X) → clause_more_in X C P s i b at c left ≡ operated (and_at s at) (got left at)
        (λ o p n. then (test_in X C P s i n (P.after o c left)) (λ x m. clause_more_in X C P s i b m c (P.two o b p left x)))
    unfolding clause_more_in
    clause_more_unfolds b at c left = many_unfolds (length s) _ _ _ (and_past s) (λ o l n. test_good n (P.after o c l)) at left

    pub clause_good : (at : ℕ) (c : C) → Good (length s) at (clause_in X C P s i at c)
    unfolding clause_in
    clause_good at c = then_good (length s) at (test_in X C P s i at c) _ (test_good at c)
        (λ x n g. kept_good (length s) at n (clause_more_in X C P s i (skipped s at) n c x) g.0 (clause_more_kept (skipped s at) n c x g.1))

    condition_more_kept : (b at : ℕ) (c : C) (left : X) → at ≤ length s → Kept (length s) at (condition_more_in X C P s i b at c left)
    unfolding condition_more_in
    condition_more_kept b at c left h = many_kept (length s) _ _ _ (or_past s) (λ o l n. clause_good n (P.after o c l)) (length s - at) at left h

    pub condition_more_unfolds : (b at : ℕ) (c : C) (left : X) → condition_more_in X C P s i b at c left ≡ operated (or_at s at) (got left at)
        (λ o p n. then (clause_in X C P s i n (P.after o c left)) (λ x m. condition_more_in X C P s i b m c (P.two o b p left x)))
    unfolding condition_more_in
    condition_more_unfolds b at c left = many_unfolds (length s) _ _ _ (or_past s) (λ o l n. clause_good n (P.after o c l)) at left

    pub condition_good : (at : ℕ) (c : C) → Good (length s) at (condition_in X C P s i at c)
    unfolding condition_in
    condition_good at c = then_good (length s) at (clause_in X C P s i at c) _ (clause_good at c)
        (λ x n g. kept_good (length s) at n (condition_more_in X C P s i (skipped s at) n c x) g.0 (condition_more_kept (skipped s at) n c x g.1))

    pub held_good : (k : Kind) (w at : ℕ) (c : C) → Good (length s) at (held_in X C P s i k w at c)
    unfolding held_in
    held_good k w at c = holding_good (length s) at (held_at s at) _ _ _ (held_past s at)
        (λ a b n g. good_from (length s) at n _ (omega arith) (closed_good s n _))
        (λ j p n g. good_from (length s) at n _ (omega arith) (closed_good s n _))
        (then_good (length s) at (sum_in X C P s i at c) _ (sum_good at c) (λ x n g. good_from (length s) at n _ (omega arith) (closed_good s n _)))

  pub inner_good : (d : ℕ) → GoodI X C (length s) (inner X C P s d)
  unfolding inner
  inner_good zero = (λ at c. none_good X (length s) at, λ k w at c. none_good X (length s) at)
  inner_good (suc d) = (condition_good (inner X C P s d) (inner_good d), held_good (inner X C P s d) (inner_good d))
