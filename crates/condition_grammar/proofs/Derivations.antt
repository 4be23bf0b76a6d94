-- What is derived, the readers' grammar gives, where enough parentheses may be opened: by one induction over derivations. Of parts that are joined
-- from the left, a derivation that ends at n says that the reader comes to n with its tree, and goes on with its loop from there. What follows a
-- part decides by its rank that the loops inside the part have ended.
use mathlib.Core.Path.{◌≡◌, sym, ◌∙◌}
use mathlib.Core.Bool.{Bool}
use mathlib.Core.List.{List}
use Prim.Native.Nat.{ℕ, zero, suc, ◌+◌, ◌<◌, ◌≤◌}
use native.Mathlib.Omega.{arith}
use Rattle.std.specs.Prelude.{Some, None, Ok}
use Rattle.value.specs.declared.Kind.{Kind}
use Rattle.condition_words.specs.Words.{skipped}
use Rattle.condition_depth.specs.Depth.{max_depth}
use Rattle.condition_symbols.specs.Symbols.{or_at, and_at, comparison_at, sign_at, start_at, held_at, multiplier_at, closing_at, joint_of, multiplier_of}
use Rattle.condition_symbols.specs.declared.Op.{Op}
use Rattle.condition_symbols.specs.declared.Start.TheVariants as S
use Rattle.condition_symbols.specs.declared.Held.TheVariants as H
use Rattle.condition_grammar.specs.Grammar.{Parsed, got, closed_at, Inside, inner, condition_in, condition_more_in, clause_in, clause_more_in, test_in, sum_in, sum_more_in, term_in, term_more_in, factor_in, held_in}
use Rattle.condition_grammar.specs.Trees.{Tree, leaf, one, two, literal, field, cast, times, trees, parse_with}
use Rattle.condition_grammar.specs.Productions.{Phrase, Condition, Clause, Test, Sum, Term, Factor, Argument, Derives, one_clause, or_clause, one_test, and_test, lone_sum, two_sums, one_term, signed_term, one_factor, times_whole, enclosed, of_named_kind, a_text, a_field, a_cast, States}
use Rattle.condition_grammar.specs.Laws.{StatedIsParsed, RefusedStatesNone, OneTree}
use Rattle.condition_grammar.proofs.Good.{inner_good, condition_more_unfolds, clause_more_unfolds, sum_more_unfolds, term_more_unfolds}
use Rattle.condition_grammar.proofs.Allowance.{allowance_never_decides}
use Rattle.condition_grammar.proofs.Stretches.{spaces_end}
use Rattle.condition_grammar.proofs.Standing.{or, and, comparison, sign, operator_found, times_found, opening_found, closing_found, naming_found, quoted_found, field_found, rest_found}
use Rattle.condition_grammar.proofs.Following.{rank, operator_rank, operator_none, star_rank, times_none, closing_rank, rest_rank, begins}

abbrev U : Type 0
U = Unit {0}

-- how many parentheses a derivation opens
unfoldable pub parens : {s : List ℕ} {k : Phrase} {t : Tree} {a n : ℕ} → Derives s k t a n → ℕ
parens (one_clause x) = parens x
parens (or_clause g x e y) = parens x + parens y
parens (one_test x) = parens x
parens (and_test g x e y) = parens x + parens y
parens (lone_sum x) = parens x
parens (two_sums g x e y) = parens x + parens y
parens (one_term x) = parens x
parens (signed_term g x e y) = parens x + parens y
parens (one_factor x) = parens x
parens (times_whole x e y) = parens x
parens (enclosed e x f) = suc (parens x)
parens (of_named_kind w e x f) = suc (parens x)
parens (a_text x) = 0
parens (a_field x) = 0
parens (a_cast x) = parens x

module _ (s : List ℕ) where
  abbrev within : ℕ → Inside Tree U
  within d = inner Tree U trees s d

  module _ (d : ℕ) where
    abbrev condition_at : ℕ → Parsed Tree
    condition_at a = condition_in Tree U trees s (within d) a tt

    abbrev condition_more : ℕ → ℕ → Tree → Parsed Tree
    condition_more z a t = condition_more_in Tree U trees s (within d) z a tt t

    abbrev clause_at : ℕ → Parsed Tree
    clause_at a = clause_in Tree U trees s (within d) a tt

    abbrev clause_more : ℕ → ℕ → Tree → Parsed Tree
    clause_more z a t = clause_more_in Tree U trees s (within d) z a tt t

    abbrev test_at : ℕ → Parsed Tree
    test_at a = test_in Tree U trees s (within d) a tt

    abbrev sum_at : ℕ → Parsed Tree
    sum_at a = sum_in Tree U trees s (within d) a tt

    abbrev sum_more : ℕ → ℕ → Tree → Parsed Tree
    sum_more z a t = sum_more_in Tree U trees s (within d) z a tt t

    abbrev term_at : ℕ → Parsed Tree
    term_at a = term_in Tree U trees s (within d) a tt

    abbrev term_more : ℕ → Tree → Parsed Tree
    term_more a t = term_more_in Tree U trees s (within d) a t

    abbrev factor_at : ℕ → Parsed Tree
    factor_at a = factor_in Tree U trees s (within d) a tt

    abbrev argument_at : Kind → ℕ → ℕ → Parsed Tree
    argument_at k w a = held_in Tree U trees s (within d) k w a tt

    -- a part of one part
    module _ (t : Tree) (a b : ℕ) where
      condition_one : clause_at a ≡ got t b → condition_at a ≡ condition_more (skipped s a) b t
      unfolding condition_in
      condition_one e = rw e

      clause_one : test_at a ≡ got t b → clause_at a ≡ clause_more (skipped s a) b t
      unfolding clause_in
      clause_one e = rw e

      test_one : sum_at a ≡ got t b → comparison_at s b ≡ None → test_at a ≡ got t b
      unfolding test_in
      test_one e f = rw (e, f)

      test_two : {u : Tree} {o : Op} {z p n : ℕ} (c : ℕ) → skipped s a ≡ z → sum_at a ≡ got t b → comparison_at s b ≡ Some (joint_of o p c) → sum_at c ≡ got u n → test_at a ≡ got (two o z p t u) n
      unfolding test_in
      test_two c k e f g = rw (e, f, g, k)

      sum_one : term_at a ≡ got t b → sum_at a ≡ sum_more (skipped s a) b t
      unfolding sum_in
      sum_one e = rw e

      term_one : factor_at a ≡ got t b → term_at a ≡ term_more b t
      unfolding term_in
      term_one e = rw e

    -- a loop stops where no operator follows, and takes one turn where one does
    module _ (z a : ℕ) (t : Tree) where
      condition_stops : or_at s a ≡ None → condition_more z a t ≡ got t a
      condition_stops e = condition_more_unfolds Tree U trees s (within d) (inner_good Tree U trees s d) z a tt t ∙ rw e

      clause_stops : and_at s a ≡ None → clause_more z a t ≡ got t a
      clause_stops e = clause_more_unfolds Tree U trees s (within d) (inner_good Tree U trees s d) z a tt t ∙ rw e

      sum_stops : sign_at s a ≡ None → sum_more z a t ≡ got t a
      sum_stops e = sum_more_unfolds Tree U trees s (within d) (inner_good Tree U trees s d) z a tt t ∙ rw e

      term_stops : multiplier_at s a ≡ Ok None → term_more a t ≡ got t a
      term_stops e = term_more_unfolds Tree U trees s (within d) a t ∙ rw e

      module _ {u : Tree} {o : Op} {w p n : ℕ} (c : ℕ) (k : z ≡ w) where
        condition_goes : or_at s a ≡ Some (joint_of o p c) → clause_at c ≡ got u n → condition_more z a t ≡ condition_more z n (two o w p t u)
        condition_goes e f = condition_more_unfolds Tree U trees s (within d) (inner_good Tree U trees s d) z a tt t ∙ rw (e, f, k)

        clause_goes : and_at s a ≡ Some (joint_of o p c) → test_at c ≡ got u n → clause_more z a t ≡ clause_more z n (two o w p t u)
        clause_goes e f = clause_more_unfolds Tree U trees s (within d) (inner_good Tree U trees s d) z a tt t ∙ rw (e, f, k)

        sum_goes : sign_at s a ≡ Some (joint_of o p c) → term_at c ≡ got u n → sum_more z a t ≡ sum_more z n (two o w p t u)
        sum_goes e f = sum_more_unfolds Tree U trees s (within d) (inner_good Tree U trees s d) z a tt t ∙ rw (e, f, k)

      term_goes : {b : Bool} {v p n : ℕ} → multiplier_at s a ≡ Ok (Some (multiplier_of b v p n)) → term_more a t ≡ term_more n (one (times b v) p t)
      term_goes e = term_more_unfolds Tree U trees s (within d) a t ∙ rw e

    closes : {n : ℕ} (a : ℕ) (t : Tree) → closing_at s a ≡ Some n → closed_at s a t ≡ got t n
    unfolding closed_at
    closes a t e = rw e

    -- what a kind's name holds, up to the offset where its parenthesis is to close
    module _ (k : Kind) (w a : ℕ) {n : ℕ} where
      argument_text : {from to : ℕ} → held_at s a ≡ Some (H.Text from to n) → argument_at k w a ≡ closed_at s n (leaf k w (literal from to))
      unfolding held_in
      argument_text e = rw e

      argument_field : {i p : ℕ} → held_at s a ≡ Some (H.Field i p n) → argument_at k w a ≡ closed_at s n (leaf k w (field i p))
      unfolding held_in
      argument_field e = rw e

      argument_cast : {t : Tree} → held_at s a ≡ Some H.Sum → sum_at a ≡ got t n → argument_at k w a ≡ closed_at s n (one (cast k) w t)
      unfolding held_in
      argument_cast e f = rw (e, f)

  -- a factor opens one parenthesis more than what it holds
  module _ (d a : ℕ) {n : ℕ} (t : Tree) (b c : ℕ) (g : closing_at s b ≡ Some n) where
    factor_enclosed : start_at s a ≡ Some (S.Open c) → condition_at d c ≡ got t b → factor_at (suc d) a ≡ got t n
    unfolding factor_in inner
    factor_enclosed e f = rw (e, f) (closes d b t g)

    factor_of_kind : {k : Kind} {w : ℕ} → start_at s a ≡ Some (S.Make k w c) → argument_at d k w c ≡ closed_at s b t → factor_at (suc d) a ≡ got t n
    unfolding factor_in inner
    factor_of_kind e f = rw e (f ∙ closes d b t g)

  -- the loops inside a part have ended where what follows it ranks higher than this
  abbrev least : Phrase → ℕ
  least Condition = 4
  least Clause = 3
  least Test = 3
  least Sum = 1
  least Term = 0
  least Factor = 0
  least (Argument k w) = 5

  abbrev Says : Phrase → ℕ → Tree → ℕ → ℕ → Type 0
  Says Condition d t a n = condition_at d a ≡ condition_more d (skipped s a) n t
  Says Clause d t a n = clause_at d a ≡ clause_more d (skipped s a) n t
  Says Test d t a n = test_at d a ≡ got t n
  Says Sum d t a n = sum_at d a ≡ sum_more d (skipped s a) n t
  Says Term d t a n = term_at d a ≡ term_more d n t
  Says Factor d t a n = factor_at d a ≡ got t n
  Says (Argument k w) d t a n = argument_at d k w a ≡ closed_at s n t

  reads : {k : Phrase} {t : Tree} {a n : ℕ} (x : Derives s k t a n) (d : ℕ) → parens x ≤ d → least k < rank s n → Says k d t a n
  unfolding parens
  reads {n = n} (one_clause {t = t} x) d h r = condition_one d _ _ _ (reads x d h (omega arith) ∙ clause_stops d _ n t (operator_none s n Clause (λ e. omega arith)))
  reads (or_clause {t = t} {u = u} {b = b} {n = n} g x e y) d h r =
      let q : rank s b ≡ 5 = operator_rank s b (or e) in
      reads x d (omega arith) (omega arith) ∙ condition_goes d _ b t _ (spaces_end g) (operator_found (or e)) (reads y d (omega arith) (omega arith) ∙ clause_stops d _ n u (operator_none s n Clause (λ f. omega arith)))
  reads (one_test x) d h r = clause_one d _ _ _ (reads x d h r)
  reads (and_test {t = t} {b = b} g x e y) d h r =
      let q : rank s b ≡ 4 = operator_rank s b (and e) in
      reads x d (omega arith) (omega arith) ∙ clause_goes d _ b t _ (spaces_end g) (operator_found (and e)) (reads y d (omega arith) r)
  reads {n = n} (lone_sum {t = t} x) d h r = test_one d _ _ _ (reads x d h (omega arith) ∙ sum_stops d _ n t (operator_none s n Sum (λ e. omega arith))) (operator_none s n Test (λ e. omega arith))
  reads (two_sums {t = t} {u = u} {b = b} {n = n} g x e y) d h r =
      let q : rank s b ≡ 3 = operator_rank s b (comparison e) in
      test_two d _ _ _ _ (spaces_end g) (reads x d (omega arith) (omega arith) ∙ sum_stops d _ b t (operator_none s b Sum (λ f. omega arith))) (operator_found (comparison e))
      (reads y d (omega arith) (omega arith) ∙ sum_stops d _ n u (operator_none s n Sum (λ f. omega arith)))
  reads {n = n} (one_term {t = t} x) d h r = sum_one d _ _ _ (reads x d h (omega arith) ∙ term_stops d 0 n t (times_none s n (λ e. omega arith)))
  reads (signed_term {t = t} {u = u} {b = b} {n = n} g x e y) d h r =
      let q : rank s b ≡ 2 = operator_rank s b (sign e) in
      reads x d (omega arith) (omega arith) ∙ sum_goes d _ b t _ (spaces_end g) (operator_found (sign e)) (reads y d (omega arith) (omega arith) ∙ term_stops d 0 n u (times_none s n (λ f. omega arith)))
  reads (one_factor x) d h r = term_one d _ _ _ (reads x d h r)
  reads (times_whole {t = t} {b = b} x e y) d h r =
      let q : rank s b ≡ 1 = star_rank s b e in
      reads x d h (omega arith) ∙ term_goes d 0 b t (times_found (record { q = _; c = _; star = e; whole = y }))
  reads (enclosed e x f) zero h r = absurd (omega arith)
  reads (enclosed {t = t} {b = b} e x f) (suc d) h r =
      let q : rank s b ≡ 6 = closing_rank s b f in
      factor_enclosed d _ t b _ (closing_found f) (opening_found e) (reads x d (omega arith) (omega arith) ∙ condition_stops d _ b t (operator_none s b Condition (λ g. omega arith)))
  reads (of_named_kind w e x f) zero h r = absurd (omega arith)
  reads (of_named_kind {t = t} {b = b} w e x f) (suc d) h r =
      let q : rank s b ≡ 6 = closing_rank s b f in
      factor_of_kind d _ t b _ (closing_found f) (naming_found (record { m = _; q = _; name = w; opening = e })) (reads x d (omega arith) (omega arith))
  reads (a_text x) d h r = argument_text d _ _ _ (quoted_found x)
  reads (a_field x) d h r = argument_field d _ _ _ (field_found x)
  reads {n = n} (a_cast {t = t} x) d h r = argument_cast d _ _ _ (begins x).held (reads x d h (omega arith) ∙ sum_stops d _ n t (operator_none s n Sum (λ g. omega arith)))

  -- a derivation of the whole text
  module _ {t : Tree} (x : States s t) where
    pub stated_with_parsed : (d : ℕ) → parens x.derived ≤ d → parse_with d s ≡ got t x.end
    stated_with_parsed d h =
        let q : rank s x.end ≡ 6 = rest_rank s x.end x.rest in
        rw (reads x.derived d h (omega arith) ∙ condition_stops d _ x.end t (operator_none s x.end Condition (λ g. omega arith)), rest_found x.rest)

pub stated_is_parsed : StatedIsParsed
stated_is_parsed s t x f =
    let d = parens x.derived + max_depth in
    sym (allowance_never_decides s d f (omega arith)) ∙ stated_with_parsed s x d (omega arith)

pub refused_states_none : RefusedStatesNone
refused_states_none s f e t x =
    let g = stated_is_parsed s t x f in
    let z : ◌≡◌ {A = ℕ} 0 1 = cc in
    omega arith

pub one_tree : OneTree
one_tree s t u x y =
    let d = parens x.derived + parens y.derived in
    let e : parse_with d s ≡ got t x.end = stated_with_parsed s x d (omega arith) in
    let f : parse_with d s ≡ got u y.end = stated_with_parsed s y d (omega arith) in
    cc
