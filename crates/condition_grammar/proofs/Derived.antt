-- What the readers' grammar gives is derived: each way on of a reader is one production. By one induction on the depth, and on the count of each loop.
use mathlib.Core.Path.{◌≡◌, refl}
use mathlib.Core.Bool.{Bool, true, false}
use mathlib.Core.List.{List}
use Prim.Native.Nat.{ℕ, zero, suc, ◌-◌}
use native.Mathlib.Omega.{arith}
use lib.Dec.{leb}
use lib.ListN.{length}
use Rattle.std.specs.Prelude.{Option, Some, None, Ok, Err}
use Rattle.basis.specs.Choice.{pick}
use Rattle.value.specs.declared.Kind.{Kind}
use Rattle.condition_words.specs.Words.{skipped}
use Rattle.condition_depth.specs.Depth.{max_depth}
use Rattle.condition_symbols.specs.Symbols.{or_at, and_at, comparison_at, sign_at, start_at, held_at, multiplier_at, closing_at, Multiplied, joint_of, multiplier_of}
use Rattle.condition_symbols.specs.declared.Op.{Op}
use Rattle.condition_symbols.specs.declared.Joint.{Joint}
use Rattle.condition_symbols.specs.declared.Start.{Start}
use Rattle.condition_symbols.specs.declared.Start.TheVariants as S
use Rattle.condition_symbols.specs.declared.Held.{Held}
use Rattle.condition_symbols.specs.declared.Held.TheVariants as H
use Rattle.condition_grammar.specs.Grammar.{Parsed, none, got, then, past_mark, operated, scaled, started, holding, closed_at, many, repeated, Inside, inner, condition_in, condition_more_in, clause_in, clause_more_in, test_in, sum_in, sum_more_in, term_in, term_more_in, factor_in, held_in}
use Rattle.condition_grammar.specs.Trees.{Tree, two, trees, whole_text, parse, parse_with}
use Rattle.condition_grammar.specs.Productions.{Spaces, Phrase, Condition, Clause, Test, Sum, Term, Factor, Argument, Derives, one_clause, or_clause, one_test, and_test, lone_sum, two_sums, one_term, signed_term, one_factor, times_whole, enclosed, of_named_kind, a_text, a_field, a_cast, States}
use Rattle.condition_grammar.specs.Laws.{ParsedIsStated}
use Rattle.condition_grammar.proofs.Good.{Good, condition_good, inner_good}
use Rattle.condition_grammar.proofs.Standing.{Operator, or, and, comparison, sign}
use Rattle.condition_grammar.proofs.Found.{Closing, operator_stands, times_stand, opening_stands, closing_stands, naming_stands, quoted_stands, field_stands, rest_stands}
use Rattle.condition_grammar.proofs.Following.{begins}

-- nothing was read, or what was read and where it ends is in a relation
unfoldable Gives : (Tree → ℕ → Type 0) → Parsed Tree → Type 0
Gives Q none = Unit {0}
Gives Q (got t n) = Q t n

module _ (Q : Tree → ℕ → Type 0) where
  nothing : Gives Q none
  unfolding Gives
  nothing = tt

  this : {t : Tree} {n : ℕ} → Q t n → Gives Q (got t n)
  unfolding Gives
  this q = q

  then_gives : (R : Tree → ℕ → Type 0) (p : Parsed Tree) (k : Tree → ℕ → Parsed Tree) → Gives R p → ((t : Tree) (n : ℕ) → R t n → Gives Q (k t n)) → Gives Q (then p k)
  unfolding Gives
  then_gives R none k g h = tt
  then_gives R (got t n) k g h = h t n g

  gives_too : (R : Tree → ℕ → Type 0) (p : Parsed Tree) → Gives R p → ((t : Tree) (n : ℕ) → R t n → Q t n) → Gives Q p
  unfolding Gives
  gives_too R none g h = tt
  gives_too R (got t n) g h = h t n g

  operated_gives : (x : Option Joint) (a : Parsed Tree) (k : Op → ℕ → ℕ → Parsed Tree) → Gives Q a → ((o : Op) (p n : ℕ) → x ≡ Some (joint_of o p n) → Gives Q (k o p n)) → Gives Q (operated x a k)
  operated_gives None a k g h = g
  operated_gives (Some j) a k g h = h j.op j.at j.end refl

  scaled_gives : (x : Multiplied) (a : Parsed Tree) (k : Bool → ℕ → ℕ → ℕ → Parsed Tree) → Gives Q a → ((b : Bool) (v p n : ℕ) → x ≡ Ok (Some (multiplier_of b v p n)) → Gives Q (k b v p n)) → Gives Q (scaled x a k)
  scaled_gives (Ok None) a k g h = g
  scaled_gives (Err x) a k g h = nothing
  scaled_gives (Ok (Some m)) a k g h = h m.negative m.number m.at m.end refl

  marked_gives : (x : Option ℕ) (t : Tree) → ((n : ℕ) → x ≡ Some n → Q t n) → Gives Q (past_mark x (λ n. got t n))
  marked_gives None t h = nothing
  marked_gives (Some n) t h = this (h n refl)

  started_gives : (x : Option Start) (o : ℕ → Parsed Tree) (m : Kind → ℕ → ℕ → Parsed Tree) → ((n : ℕ) → x ≡ Some (S.Open n) → Gives Q (o n)) →
      ((k : Kind) (p n : ℕ) → x ≡ Some (S.Make k p n) → Gives Q (m k p n)) → Gives Q (started x o m)
  started_gives None o m g h = nothing
  started_gives (Some (S.Open n)) o m g h = g n refl
  started_gives (Some (S.Make k p n)) o m g h = h k p n refl

  holding_gives : (x : Option Held) (t f : ℕ → ℕ → ℕ → Parsed Tree) (e : Parsed Tree) → ((a b n : ℕ) → x ≡ Some (H.Text a b n) → Gives Q (t a b n)) →
      ((i p n : ℕ) → x ≡ Some (H.Field i p n) → Gives Q (f i p n)) → Gives Q e → Gives Q (holding x t f e)
  holding_gives (Some (H.Text a b n)) t f e g h q = g a b n refl
  holding_gives (Some (H.Field i p n)) t f e g h q = h i p n refl
  holding_gives None t f e g h q = nothing
  holding_gives (Some H.Sum) t f e g h q = q

  -- { operator part }: where one turn keeps the relation, the loop does
  many_gives : (R : ℕ → Tree → ℕ → Type 0) (joint : ℕ → Option Joint) (part : Op → Tree → ℕ → Parsed Tree) (join : Op → ℕ → Tree → Tree → Tree) →
      ((o : Op) (l : Tree) (n : ℕ) → Gives (R n) (part o l n)) →
      ((o : Op) (l t : Tree) (at p n m : ℕ) → Q l at → joint at ≡ Some (joint_of o p n) → R n t m → Q (join o p l t) m) →
      (k at : ℕ) (l : Tree) → Q l at → Gives Q (many joint part join k at l)
  unfolding many
  many_gives R joint part join g h zero at l q = this q
  many_gives R joint part join g h (suc k) at l q = operated_gives (joint at) _ _ (this q)
      (λ o p n e. then_gives (R n) (part o l n) _ (g o l n) (λ t m r. many_gives R joint part join g h k m (join o p l t) (h o l t at p n m q e r)))

  repeated_gives : (star : ℕ → Multiplied) (scale : Bool → ℕ → ℕ → Tree → Tree) →
      ((b : Bool) (l : Tree) (v at p n : ℕ) → Q l at → star at ≡ Ok (Some (multiplier_of b v p n)) → Q (scale b v p l) n) →
      (k at : ℕ) (l : Tree) → Q l at → Gives Q (repeated star scale k at l)
  unfolding repeated
  repeated_gives star scale h zero at l q = this q
  repeated_gives star scale h (suc k) at l q = scaled_gives (star at) _ _ (this q) (λ b v p n e. repeated_gives star scale h k n (scale b v p l) (h b l v at p n q e))

abbrev U : Type 0
U = Unit {0}

module _ (s : List ℕ) where
  abbrev Of : Phrase → ℕ → Tree → ℕ → Type 0
  Of k a t n = Derives s k t a n

  -- an argument and the parenthesis that closes it
  pub record Closed (k : Kind) (w a : ℕ) (t : Tree) (n : ℕ) : Type 0 where
    pub b : ℕ
    pub argument : Derives s (Argument k w) t a b
    pub closing : Closing s b n

  abbrev DerivedIn : Inside Tree U → Type 0
  DerivedIn i = ((a : ℕ) → Gives (Of Condition a) (i.cond a tt)) × ((k : Kind) (w a : ℕ) → Gives (Closed k w a) (i.held k w a tt))

  closed_gives : (Q : Tree → ℕ → Type 0) (a : ℕ) (t : Tree) → ((n : ℕ) → Closing s a n → Q t n) → Gives Q (closed_at s a t)
  unfolding closed_at
  closed_gives Q a t h = marked_gives Q (closing_at s a) t (λ n e. h n (closing_stands s a e))

  -- two parts and the operator between them
  or_joined : {l r : Tree} {o : Op} {a z b p c n : ℕ} → Spaces s a z → Derives s Condition l a b → Operator s Condition o b p c → Derives s Clause r c n →
      Derives s Condition (two o z p l r) a n
  or_joined g x (or w) y = or_clause g x w y

  and_joined : {l r : Tree} {o : Op} {a z b p c n : ℕ} → Spaces s a z → Derives s Clause l a b → Operator s Clause o b p c → Derives s Test r c n →
      Derives s Clause (two o z p l r) a n
  and_joined g x (and w) y = and_test g x w y

  compared : {l r : Tree} {o : Op} {a z b p c n : ℕ} → Spaces s a z → Derives s Sum l a b → Operator s Test o b p c → Derives s Sum r c n →
      Derives s Test (two o z p l r) a n
  compared g x (comparison w) y = two_sums g x w y

  sign_joined : {l r : Tree} {o : Op} {a z b p c n : ℕ} → Spaces s a z → Derives s Sum l a b → Operator s Sum o b p c → Derives s Term r c n →
      Derives s Sum (two o z p l r) a n
  sign_joined g x (sign w) y = signed_term g x w y

  module _ (i : Inside Tree U) (d : DerivedIn i) where
    factor_derived : (a : ℕ) → Gives (Of Factor a) (factor_in Tree U trees s i a tt)
    unfolding factor_in
    factor_derived a = started_gives (Of Factor a) (start_at s a) _ _
        (λ n e. then_gives _ (Of Condition n) (i.cond n tt) _ (d.0 n) (λ t m x. closed_gives _ m t (λ j f. enclosed (opening_stands s a e).mark x f.mark)))
        (λ k w n e. let m = naming_stands s a e in gives_too _ (Closed k w n) (i.held k w n tt) (d.1 k w n) (λ t j x. of_named_kind m.name m.opening x.argument x.closing.mark))

    term_derived : (a : ℕ) → Gives (Of Term a) (term_in Tree U trees s i a tt)
    unfolding term_in term_more_in
    term_derived a = then_gives _ (Of Factor a) (factor_in Tree U trees s i a tt) _ (factor_derived a)
        (λ t n x. repeated_gives (Of Term a) (multiplier_at s) _ (λ b l v m p j y e. let z = times_stand s m e in times_whole y z.star z.whole) (length s - n) n t (one_factor x))

    sum_derived : (a : ℕ) → Gives (Of Sum a) (sum_in Tree U trees s i a tt)
    unfolding sum_in sum_more_in
    sum_derived a = then_gives _ (Of Term a) (term_in Tree U trees s i a tt) _ (term_derived a)
        (λ t n x. many_gives (Of Sum a) (Of Term) (sign_at s) _ _ (λ o l m. term_derived m)
        (λ o l u m p j k y e z. sign_joined (begins y).spaces y (operator_stands s m Sum e) z) (length s - n) n t (one_term x))

    test_derived : (a : ℕ) → Gives (Of Test a) (test_in Tree U trees s i a tt)
    unfolding test_in
    test_derived a = then_gives _ (Of Sum a) (sum_in Tree U trees s i a tt) _ (sum_derived a)
        (λ t n x. operated_gives _ (comparison_at s n) _ _ (this _ (lone_sum x))
        (λ o p m e. then_gives _ (Of Sum m) (sum_in Tree U trees s i m tt) _ (sum_derived m) (λ u k y. this _ (compared (begins x).spaces x (operator_stands s n Test e) y))))

    clause_derived : (a : ℕ) → Gives (Of Clause a) (clause_in Tree U trees s i a tt)
    unfolding clause_in clause_more_in
    clause_derived a = then_gives _ (Of Test a) (test_in Tree U trees s i a tt) _ (test_derived a)
        (λ t n x. many_gives (Of Clause a) (Of Test) (and_at s) _ _ (λ o l m. test_derived m)
        (λ o l u m p j k y e z. and_joined (begins y).spaces y (operator_stands s m Clause e) z) (length s - n) n t (one_test x))

    condition_derived : (a : ℕ) → Gives (Of Condition a) (condition_in Tree U trees s i a tt)
    unfolding condition_in condition_more_in
    condition_derived a = then_gives _ (Of Clause a) (clause_in Tree U trees s i a tt) _ (clause_derived a)
        (λ t n x. many_gives (Of Condition a) (Of Clause) (or_at s) _ _ (λ o l m. clause_derived m)
        (λ o l u m p j k y e z. or_joined (begins y).spaces y (operator_stands s m Condition e) z) (length s - n) n t (one_clause x))

    argument_derived : (k : Kind) (w a : ℕ) → Gives (Closed k w a) (held_in Tree U trees s i k w a tt)
    unfolding held_in
    argument_derived k w a = holding_gives (Closed k w a) (held_at s a) _ _ _
        (λ from to n e. closed_gives _ n _ (λ m f. record { b = n; argument = a_text (quoted_stands s a e); closing = f }))
        (λ j q n e. closed_gives _ n _ (λ m f. record { b = n; argument = a_field (field_stands s a e); closing = f }))
        (then_gives _ (Of Sum a) (sum_in Tree U trees s i a tt) _ (sum_derived a) (λ t n x. closed_gives _ n _ (λ m f. record { b = n; argument = a_cast x; closing = f })))

  inner_derived : (d : ℕ) → DerivedIn (inner Tree U trees s d)
  unfolding inner
  inner_derived zero = (λ a. nothing _, λ k w a. nothing _)
  inner_derived (suc d) = (condition_derived (inner Tree U trees s d) (inner_derived d), argument_derived (inner Tree U trees s d) (inner_derived d))

  whole_stated : (t : Tree) (n : ℕ) (p : Parsed Tree) → Gives (Of Condition 0) p → Good (length s) 0 p → whole_text s p ≡ got t n → States s t
  unfolding Gives Good
  whole_stated t n none g l e = let z : ◌≡◌ {A = ℕ} 0 1 = cc in absurd (omega arith)
  whole_stated t n (got u m) g l e = by (leb (length s) (skipped s m)) refl e
    where
      by : (b : Bool) → leb (length s) (skipped s m) ≡ b → pick b (got u m) none ≡ got t n → States s t
      by true f h = let x : u ≡ t = cc in record { end = m; derived = rw (← x) g; rest = rest_stands s m l.1 f }
      by false f h = let z : ◌≡◌ {A = ℕ} 0 1 = cc in absurd (omega arith)

  -- whatever number of parentheses may be opened
  pub parsed_with_stated : (d : ℕ) (t : Tree) (n : ℕ) → parse_with d s ≡ got t n → States s t
  parsed_with_stated d t n e = whole_stated t n _ (condition_derived (inner Tree U trees s d) (inner_derived d) 0)
      (condition_good Tree U trees s (inner Tree U trees s d) (inner_good Tree U trees s d) 0 tt) e

pub parsed_is_stated : ParsedIsStated
unfolding parse
parsed_is_stated s t n e = parsed_with_stated s max_depth t n e
