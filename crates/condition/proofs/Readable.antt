-- Kinds are settled by the text alone: of an accepted condition the result at any row, in a zone within its bounds, is hit, miss, or
-- unreadable with 1, 2, 3, 4 or 6. A tree whose kinds fit gives a valid value of its kind, a truth value where it is one, or one of
-- those numbers.
use mathlib.Core.Path.{◌≡◌, refl, sym, ap, subst, ◌∙◌}
use mathlib.Core.Bool.{Bool, true, false}
use mathlib.Core.List.{List}
use Prim.Native.Nat.{ℕ, ◌<◌}
use native.Mathlib.Omega.{arith}
use Rattle.basis.specs.Choice.{pick}
use Rattle.basis.specs.Answer.{Answer, gives, refuses_for, refuses, and_then}
use Rattle.value.specs.Refusals.{no_field, wrong_kind}
use Rattle.value.specs.Kinds.{kind_of, ok_value}
use Rattle.value.specs.Values.{ok_offset}
use Rattle.value.specs.declared.Offset.{Offset}
use Rattle.value.specs.declared.Kind.{Kind}
use Rattle.value.specs.declared.Value.{Value}
use Rattle.timetable.specs.Rows.{Row, has_cell, cell_text}
use Rattle.text_layouts.proofs.Valid.{Valid}
use Rattle.text.specs.Reading.{read_as}
use Rattle.text_fields.specs.Fields.{read_field}
use Rattle.text.proofs.RoundTrip.{what_reads_is_valid}
use Rattle.value.specs.Rows.{same_kind}
use Rattle.operation_ordering.specs.Order.{order_for}
use Rattle.operation_arithmetic.specs.Sums.{plus_of, minus_for}
use Rattle.operation_arithmetic.specs.Products.{times_of}
use Rattle.operation_casting.specs.Casts.{casts_to, cast_of}
use Rattle.operation_arithmetic.proofs.Validity.{plus_within, minus_for_within, times_within}
use Rattle.operation.proofs.Validity.{cast_within}
use Rattle.condition_words.specs.Words.{between}
use Rattle.condition_symbols.specs.declared.Op.{Op}
use Rattle.condition_operators.specs.Roles.{role_of, joins, settles}
use Rattle.condition_operators.specs.declared.Role.{Role}
use Rattle.condition_operators.specs.declared.Role.TheVariants as R
use Rattle.condition_sorts.specs.Sorts.{compared_kinds, added_kinds, less_kinds, kinds_of, sort_two, sort_cast, sort_times}
use Rattle.condition_givens.specs.Data.{Datum, value, truth, valued}
use Rattle.condition_parts.specs.Evaluation.{tested, of_values, applied, joined, cast_datum, times_datum}
use Rattle.condition_sorts.specs.declared.Sort.{Sort}
use Rattle.condition_sorts.specs.declared.Sort.TheVariants as S
use Rattle.condition_parts.specs.Numbers.{at_row}
use Rattle.condition_parts.proofs.Numbers.{Only, read_only, text_at_row}
use Rattle.condition_parts.proofs.Settled.{Fits, FitsSort, plus_settled, minus_settled, order_settled, times_settled, cast_settled}
use Rattle.condition_grammar.specs.Grammar.{Parsed, none, got}
use Rattle.condition_grammar.specs.Trees.{Tree, leaf, one, two, literal, field, cast, times, parse}
use Rattle.condition_readers.specs.Meaning.{sort_of, eval}
use Rattle.condition.specs.Condition.{as_result, of_tree, result_at}
pub use Rattle.condition.specs.Laws.{Readable}
use Rattle.condition.specs.Laws.{AcceptedReadable}
use Rattle.condition.proofs.Accepted.{Stated, accepted_length, accepted_stated}
use Rattle.condition_grammar.proofs.Keeps.{All, Bounded, parse_bounded}
use Rattle.condition_readers.proofs.Wholes.{good_length}

-- what a part of a sort may give
abbrev Typed : Sort → Answer Datum → Type 0
Typed x (gives (value v)) = (x ≡ S.Of (kind_of v)) × (ok_value v ≡ true)
Typed x (gives (truth b)) = x ≡ S.Truth
Typed x (refuses_for r) = at_row r.number ≡ true

differ : {A : Type 0} (k : Kind) → S.Truth ≡ S.Of k → A
differ k e = let z : ◌≡◌ {A = ℕ} 0 1 = cc in absurd (omega arith)

-- a value that was answered
fits_typed : (k : Kind) (r : Answer Value) → Fits k r → ((v : Value) → r ≡ gives v → ok_value v ≡ true) → Typed (S.Of k) (valued r)
fits_typed k (gives v) f w = (ap S.Of (sym f), w v refl)
fits_typed k (refuses_for r) f w = ap at_row f

sort_typed : (x : Sort) (r : Answer Value) → (x ≡ S.Clash → ⊥) → FitsSort x r → ((v : Value) → r ≡ gives v → ok_value v ≡ true) → Typed x (valued r)
sort_typed S.Clash r n f w = absurd (n refl)
sort_typed S.Truth r n f w = absurd f
sort_typed (S.Of k) r n f w = fits_typed k r f w

-- literals and fields
read_typed : (k : Kind) (r : Answer Value) → Only r → ((v : Value) → r ≡ gives v → Valid k v) → Typed (S.Of k) (valued r)
read_typed k (gives v) h w = (ap S.Of (sym (w v refl).kind), (w v refl).ok)
read_typed k (refuses_for r) h w = text_at_row r.number h

text_typed : (k : Kind) (s : List ℕ) → Typed (S.Of k) (valued (read_as k s))
text_typed k s = read_typed k (read_as k s) (read_only k s) (what_reads_is_valid k s)

field_typed : (k : Kind) (row : Row) (n : ℕ) → Typed (S.Of k) (valued (read_field k row n))
unfolding read_field
field_typed k row n = by (has_cell row n)
  where
    by : (b : Bool) → Typed (S.Of k) (valued (pick b (read_as k (cell_text row n)) (refuses no_field)))
    by true = text_typed k (cell_text row n)
    by false = refl

clash_no_truth : S.Clash ≡ S.Truth → ⊥
clash_no_truth e = let z : ◌≡◌ {A = ℕ} 0 1 = cc in omega arith

-- one part below
cast_value : (k : Kind) (v : Value) → ok_value v ≡ true → (sort_cast k (S.Of (kind_of v)) ≡ S.Clash → ⊥) → Typed (sort_cast k (S.Of (kind_of v))) (valued (cast_of v k))
cast_value k v p n = by (casts_to (kind_of v) k) refl n
  where
    by : (b : Bool) → casts_to (kind_of v) k ≡ b → (pick b (S.Of k) S.Clash ≡ S.Clash → ⊥) → Typed (pick b (S.Of k) S.Clash) (valued (cast_of v k))
    by true e m = fits_typed k (cast_of v k) (cast_settled v p k e) (cast_within v k)
    by false e m = absurd (m refl)

cast_typed : (k : Kind) (x : Sort) (a : Answer Datum) → (sort_cast k x ≡ S.Clash → ⊥) → Typed x a → Typed (sort_cast k x) (and_then a (cast_datum k))
unfolding and_then
cast_typed k x (gives (value v)) n h = subst (λ y. (sort_cast k y ≡ S.Clash → ⊥) → Typed (sort_cast k y) (valued (cast_of v k))) (sym h.0) (cast_value k v h.1) n
cast_typed k x (gives (truth b)) n h = absurd (n (ap (sort_cast k) h))
cast_typed k x (refuses_for r) n h = h

times_typed : (b : Bool) (v : ℕ) (x : Sort) (a : Answer Datum) → v < 1000000 → (sort_times x ≡ S.Clash → ⊥) → Typed x a → Typed (sort_times x) (and_then a (times_datum b v))
unfolding and_then
times_typed b v x (gives (value u)) l n h = subst (λ y. (sort_times y ≡ S.Clash → ⊥) → Typed (sort_times y) (valued (times_of u b v))) (sym h.0)
    (λ m. sort_typed (sort_times (S.Of (kind_of u))) (times_of u b v) m (times_settled u h.1 b v (omega arith)) (times_within u b v)) n
times_typed b v x (gives (truth c)) l n h = absurd (n (ap sort_times h))
times_typed b v x (refuses_for r) l n h = h

module _ (zone : Offset) (good : ok_offset zone ≡ true) where
  -- two parts
  compared_typed : (l e g : Bool) (v w : Value) → ok_value v ≡ true → ok_value w ≡ true → (compared_kinds (kind_of v) (kind_of w) ≡ S.Clash → ⊥) →
      Typed (compared_kinds (kind_of v) (kind_of w)) (tested l e g (order_for zone v w))
  unfolding compared_kinds
  compared_typed l e g v w p q n = by (same_kind (kind_of v) (kind_of w)) refl n
    where
      by : (b : Bool) → same_kind (kind_of v) (kind_of w) ≡ b → (pick b S.Truth S.Clash ≡ S.Clash → ⊥) → Typed (pick b S.Truth S.Clash) (tested l e g (order_for zone v w))
      by true s m = rw (order_settled v p w q zone good s) refl
      by false s m = absurd (m refl)

  values_typed : (r : Role) (v w : Value) → ok_value v ≡ true → ok_value w ≡ true → (kinds_of r (kind_of v) (kind_of w) ≡ S.Clash → ⊥) → Typed (kinds_of r (kind_of v) (kind_of w)) (of_values zone r v w)
  values_typed (R.Joins by) v w p q n = absurd (n refl)
  values_typed (R.Compares l e g) v w p q n = compared_typed l e g v w p q n
  values_typed R.Adds v w p q n =
      sort_typed (added_kinds (kind_of v) (kind_of w)) (plus_of v w) n (plus_settled v p w q) (plus_within v w)
  values_typed R.Subtracts v w p q n =
      sort_typed (less_kinds (kind_of v) (kind_of w)) (minus_for zone v w) n (minus_settled v p w q zone good) (minus_for_within zone v w)

  right_clash : (o : Op) (x : Sort) → sort_two o x S.Clash ≡ S.Clash
  right_clash o S.Clash = refl
  right_clash o S.Truth = refl
  right_clash o (S.Of k) = refl

  -- right of a truth value whose sorts fit all is a truth value
  truth_left : (o : Op) (y : Sort) → (sort_two o S.Truth y ≡ S.Clash → ⊥) → sort_two o S.Truth y ≡ S.Truth
  truth_left o S.Clash n = absurd (n refl)
  truth_left o S.Truth n = by (joins (role_of o)) n
    where
      by : (b : Bool) → (pick b S.Truth S.Clash ≡ S.Clash → ⊥) → pick b S.Truth S.Clash ≡ S.Truth
      by true m = refl
      by false m = absurd (m refl)
  truth_left o (S.Of k) n = absurd (n refl)

  joined_truths : (o : Op) (z u : Bool) (y : Sort) → y ≡ S.Truth → (sort_two o S.Truth y ≡ S.Clash → ⊥) → Typed (sort_two o S.Truth y) (applied zone (role_of o) (truth z) (truth u))
  joined_truths o z u y e n = subst (λ y. (sort_two o S.Truth y ≡ S.Clash → ⊥) → Typed (sort_two o S.Truth y) (applied zone (role_of o) (truth z) (truth u))) (sym e) (λ m. by (joins (role_of o)) m) n
    where
      by : (b : Bool) → (pick b S.Truth S.Clash ≡ S.Clash → ⊥) → Typed (pick b S.Truth S.Clash) (pick b (gives (truth u)) (refuses wrong_kind))
      by true m = refl
      by false m = absurd (m refl)

  after_truth : (o : Op) (z : Bool) (y : Sort) (b : Answer Datum) → (sort_two o S.Truth y ≡ S.Clash → ⊥) → Typed y b → Typed (sort_two o S.Truth y) (and_then b (applied zone (role_of o) (truth z)))
  unfolding and_then
  after_truth o z y (gives (value w)) n h = absurd (n (ap (sort_two o S.Truth) h.0))
  after_truth o z y (gives (truth u)) n h = joined_truths o z u y h n
  after_truth o z y (refuses_for r) n h = h

  settled_typed : (o : Op) (z : Bool) (y : Sort) (b : Answer Datum) (c : Bool) → (sort_two o S.Truth y ≡ S.Clash → ⊥) → Typed y b →
      Typed (sort_two o S.Truth y) (pick c (gives (truth z)) (and_then b (applied zone (role_of o) (truth z))))
  settled_typed o z y b true n h = truth_left o y n
  settled_typed o z y b false n h = after_truth o z y b n h

  after_value : (o : Op) (v : Value) (y : Sort) (b : Answer Datum) → ok_value v ≡ true → (sort_two o (S.Of (kind_of v)) y ≡ S.Clash → ⊥) → Typed y b →
      Typed (sort_two o (S.Of (kind_of v)) y) (and_then b (applied zone (role_of o) (value v)))
  unfolding and_then
  after_value o v y (gives (value w)) p n h =
      subst (λ y. (sort_two o (S.Of (kind_of v)) y ≡ S.Clash → ⊥) → Typed (sort_two o (S.Of (kind_of v)) y) (of_values zone (role_of o) v w)) (sym h.0) (λ m. values_typed (role_of o) v w p h.1 m) n
  after_value o v y (gives (truth u)) p n h = absurd (n (ap (sort_two o (S.Of (kind_of v))) h))
  after_value o v y (refuses_for r) p n h = h

  two_typed : (o : Op) (x y : Sort) (a b : Answer Datum) → (sort_two o x y ≡ S.Clash → ⊥) → Typed x a → Typed y b → Typed (sort_two o x y) (joined zone o a b)
  unfolding joined and_then
  two_typed o x y (gives (value v)) b n h i =
      subst (λ x. (sort_two o x y ≡ S.Clash → ⊥) → Typed (sort_two o x y) (and_then b (applied zone (role_of o) (value v)))) (sym h.0) (λ m. after_value o v y b h.1 m i) n
  two_typed o x y (gives (truth z)) b n h i =
      subst (λ x. (sort_two o x y ≡ S.Clash → ⊥) → Typed (sort_two o x y) (pick (settles (role_of o) z) (gives (truth z)) (and_then b (applied zone (role_of o) (truth z))))) (sym h)
      (λ m. settled_typed o z y b (settles (role_of o) z) m i) n
  two_typed o x y (refuses_for r) b n h i = h

  -- a tree whose kinds fit
  tree_typed : (s : List ℕ) (row : Row) (t : Tree) → Bounded t → (sort_of t ≡ S.Clash → ⊥) → Typed (sort_of t) (eval zone s row t)
  unfolding sort_of eval
  tree_typed s row (leaf k w (literal from to)) g n = text_typed k (between s from to)
  tree_typed s row (leaf k w (field i p)) g n = field_typed k row i
  tree_typed s row (one (cast k) p t) g n = cast_typed k (sort_of t) (eval zone s row t) n (tree_typed s row t g (λ e. n (ap (sort_cast k) e)))
  tree_typed s row (one (times b v) p t) g n = times_typed b v (sort_of t) (eval zone s row t) g.0 n (tree_typed s row t g.1 (λ e. n (ap sort_times e)))
  tree_typed s row (two o b p l r) g n = two_typed o (sort_of l) (sort_of r) (eval zone s row l) (eval zone s row r) n
      (tree_typed s row l g.0 (λ e. n (ap (λ x. sort_two o x (sort_of r)) e)))
      (tree_typed s row r g.1 (λ e. n (ap (sort_two o (sort_of l)) e ∙ right_clash o (sort_of l))))

shown_readable : (a : Answer Datum) → Typed S.Truth a → Readable (as_result a)
unfolding as_result
shown_readable (gives (value v)) h = differ (kind_of v) h.0
shown_readable (gives (truth true)) h = tt
shown_readable (gives (truth false)) h = tt
shown_readable (refuses_for r) h = h

clash_no : (t : Tree) → sort_of t ≡ S.Truth → sort_of t ≡ S.Clash → ⊥
clash_no t e f = clash_no_truth (sym f ∙ e)

stated_readable : (zone : Offset) (s : List ℕ) (row : Row) → ok_offset zone ≡ true → (p : Parsed Tree) → Stated s p → All Bounded p → Readable (of_tree zone s row p)
unfolding of_tree All
stated_readable zone s row good none h g = let z : ◌≡◌ {A = ℕ} 0 1 = cc h.stated in absurd (omega arith)
stated_readable zone s row good (got t n) h g =
    let e : h.tree ≡ t = cc h.stated in
    let f : sort_of t ≡ S.Truth = ap sort_of (sym e) ∙ h.is_truth in
    shown_readable (eval zone s row t) (subst (λ x. Typed x (eval zone s row t)) f (tree_typed zone good s row t g (clash_no t f)))

pub accepted_readable : AcceptedReadable
unfolding result_at
accepted_readable zone s row good h = subst (λ p. Readable (of_tree zone s row p)) (sym (good_length s (accepted_length s h).1))
    (stated_readable zone s row good (parse s) (accepted_stated s h) (parse_bounded s))
