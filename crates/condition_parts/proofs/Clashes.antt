-- On valid values, in a zone within its bounds, an operation is refused with 9 exactly where the kinds clash; and what `or` and `and`
-- leave without evaluation.
use mathlib.Core.Path.{◌≡◌, refl, ap}
use mathlib.Core.Bool.{Bool, true, false}
use Prim.Native.Nat.{ℕ}
use native.Mathlib.Omega.{arith}
use Rattle.basis.specs.Choice.{pick, both}
use Rattle.basis.specs.Answer.{Reason, Answer, gives, refuses_for, refuses, and_then}
use Rattle.basis.specs.Exactly.{Exactly}
use Rattle.value.specs.Rows.{same_kind}
use Rattle.value.specs.Kinds.{kind_of, ok_value}
use Rattle.value.specs.Refusals.{wrong_kind}
use Rattle.value.specs.Values.{ok_offset}
use Rattle.value.specs.declared.Offset.{Offset}
use Rattle.value.specs.declared.Kind.{Kind}
use Rattle.value.specs.declared.Value.{Value}
use Rattle.operation_ordering.specs.Order.{order_in, order_for, value_order}
use Rattle.operation_ordering.proofs.OrderLaws.{order_in_zone}
use Rattle.operation_casting.specs.Casts.{casts_to, cast_to, cast_of}
use Rattle.operation_arithmetic.specs.Sums.{plus_of, minus_for}
use Rattle.operation_arithmetic.specs.Products.{times_of}
use Rattle.condition_sorts.specs.Sorts.{compared_kinds, added_kinds, less_kinds, sort_cast, sort_times}
use Rattle.condition_parts.specs.Evaluation.{joined, ShortCircuit}
use Rattle.condition_parts.specs.Fitting.{ClashIs9}
use Rattle.basis.proofs.Answers.{refuses_same}
use Rattle.condition_sorts.specs.declared.Sort.{Sort}
use Rattle.condition_sorts.specs.declared.Sort.TheVariants as S
use Rattle.condition_parts.proofs.Settled.{Fits, FitsSort, plus_settled, minus_settled, times_settled}

kind_no_clash : (k : Kind) → S.Of k ≡ S.Clash → ⊥
kind_no_clash k e = let z : ◌≡◌ {A = ℕ} 0 1 = cc in omega arith

truth_no_clash : S.Truth ≡ S.Clash → ⊥
truth_no_clash e = let z : ◌≡◌ {A = ℕ} 0 1 = cc in omega arith

no_refusal : {A : Type 0} (v : A) → gives v ≡ refuses wrong_kind → ⊥
no_refusal v e = let z : ◌≡◌ {A = ℕ} 0 1 = cc in omega arith

fits_no_9 : (k : Kind) (r : Answer Value) → Fits k r → r ≡ refuses wrong_kind → ⊥
fits_no_9 k (gives v) f e = no_refusal v e
fits_no_9 k (refuses_for r) f e = let q : r.number ≡ wrong_kind = ap (λ (x : Reason). x.number) (refuses_same r _ e) in omega arith

-- by the sort that the kinds settle, and by a test of the kinds
by_sort : (x : Sort) (r : Answer Value) → FitsSort x r → Exactly (x ≡ S.Clash) (r ≡ refuses wrong_kind)
by_sort S.Clash r f = record { only = λ e. f; always = λ e. refl }
by_sort S.Truth r f = absurd f
by_sort (S.Of k) r f = record { only = λ e. absurd (kind_no_clash k e); always = λ e. absurd (fits_no_9 k r f e) }

by_test : {A : Type 0} (b : Bool) (x : Sort) (v : A) → (x ≡ S.Clash → ⊥) →
    Exactly (pick b x S.Clash ≡ S.Clash) (pick b (gives v) (refuses wrong_kind) ≡ refuses wrong_kind)
by_test true x v n = record { only = λ e. absurd (n e); always = λ e. absurd (no_refusal v e) }
by_test false x v n = record { only = λ e. refl; always = λ e. refl }

module _ (a : Value) (p : ok_value a ≡ true) where
  order_clash : (zone : Offset) (b : Value) → ok_offset zone ≡ true → ok_value b ≡ true →
      Exactly (compared_kinds (kind_of a) (kind_of b) ≡ S.Clash) (order_for zone a b ≡ refuses wrong_kind)
  unfolding order_in compared_kinds both
  order_clash zone b h q =
      rw (order_in_zone zone a b h, p, q) (by_test (same_kind (kind_of a) (kind_of b)) S.Truth (value_order zone a b) truth_no_clash)

  cast_clash : (k : Kind) → Exactly (sort_cast k (S.Of (kind_of a)) ≡ S.Clash) (cast_of a k ≡ refuses wrong_kind)
  unfolding cast_of
  cast_clash k = rw p (by_test (casts_to (kind_of a) k) (S.Of k) (cast_to k a) (kind_no_clash k))

pub clash_is_9 : ClashIs9
clash_is_9 =
    record {
      of_plus = λ a b p q. by_sort (added_kinds (kind_of a) (kind_of b)) (plus_of a b) (plus_settled a p b q);
      of_minus = λ zone a b h p q. by_sort (less_kinds (kind_of a) (kind_of b)) (minus_for zone a b) (minus_settled a p b q zone h);
      of_order = λ zone a b h p q. order_clash a p zone b h q;
      of_times = λ a c n p h. by_sort (sort_times (S.Of (kind_of a))) (times_of a c n) (times_settled a p c n h);
      of_cast = λ a k p. cast_clash a p k;
    }

pub short_circuit : (zone : Offset) → ShortCircuit zone
unfolding joined and_then
short_circuit zone =
    record {
      or_true = λ r. refl;
      and_false = λ r. refl;
      or_false = λ y. refl;
      and_true = λ y. refl;
      or_refused = λ why. refl;
      and_refused = λ why. refl;
      left_first = λ o why r. refl;
    }
