-- A refusal that stands at a place of a line is that of its run: no number above 18 is given there.
use mathlib.Core.Path.{◌≡◌, refl, sym, ap, ◌∙◌}
use mathlib.Core.Bool.{Bool, true, false, true≢false}
use mathlib.Core.List.{List}
use mathlib.Core.Logic.{⊎_elim}
use Prim.Native.Nat.{ℕ, zero, suc, ◌≤◌}
use native.Mathlib.Omega.{arith}
use borrow.Author.Tests.{eqb-true}
use lib.Dec.{eqb}
use Rattle.basis.specs.Choice.{pick}
use Rattle.basis.specs.Answer.{Reason, Answer, gives, refuses_for}
use Rattle.value.specs.Refusals.{bad_text, beyond_bounds, long_fraction, beyond_result, no_field, bad_step, too_many}
use Rattle.value.specs.declared.Offset.{Offset}
use Rattle.timetable.specs.Rows.{Row, row_of}
use Rattle.run_times.specs.Occurrences.{count_of}
use Rattle.run_times.proofs.Counts.{before_or_not}
use Rattle.run_cases.specs.Cases.{Case, row_case, miss_case, refusal_case, case_at}
use Rattle.run_cases.specs.StandsFor.{is_run, RunFields, times_in, run_of, stands_for}
use Rattle.run_cases.specs.Laws.{of_run_line, RefusalsAtLine}
use Rattle.run_cases.proofs.Places.{row_first}
use Rattle.run_cases.proofs.Lines.{plain_line, bad_run, good_run}
use Rattle.run_cases.proofs.Numbers.{run_line_numbers}

-- a row and a miss are no refusal
no_row : {A : Type 0} (r : Row) (why : Reason) → row_case r ≡ refusal_case why → A
no_row r why e = absurd (let z : ◌≡◌ {A = ℕ} 0 1 = cc in omega arith)

no_miss : {A : Type 0} (why : Reason) → miss_case ≡ refusal_case why → A
no_miss why e = absurd (let z : ◌≡◌ {A = ℕ} 0 1 = cc in omega arith)

module _ (zone : Offset) (line : List ℕ) where
  at_plain : (p : ℕ) (why : Reason) → is_run line ≡ false → case_at (stands_for zone line) p ≡ refusal_case why → of_run_line why.number ≡ true
  at_plain zero why e h = no_row (row_of line) why (sym (ap (λ (cs : List Case). case_at cs 0) (plain_line zone line e).one ∙ row_first (row_of line)) ∙ h)
  at_plain (suc p) why e h = no_miss why (sym ((plain_line zone line e).further (suc p) (omega arith)) ∙ h)

  at_good : (r : RunFields) (p : ℕ) (why : Reason) → is_run line ≡ true → run_of zone line ≡ gives r → case_at (stands_for zone line) p ≡ refusal_case why
      → of_run_line why.number ≡ true
  at_good r p why e g h =
      let q = good_run zone line r e g in
      ⊎_elim (λ l. no_row _ why (sym (q.there p l) ∙ h))
      (λ l. no_miss why (sym (q.further p l) ∙ h))
      (before_or_not p (count_of (times_in zone r)))

  at_bad : (own : Reason) (p : ℕ) (why : Reason) → is_run line ≡ true → run_of zone line ≡ refuses_for own → case_at (stands_for zone line) p ≡ refusal_case why
      → of_run_line why.number ≡ true
  at_bad own p why e g h =
      let q : refusal_case own ≡ refusal_case why = sym ((bad_run zone line own e g).anywhere p) ∙ h in
      let same : own ≡ why = cc in
      ap (λ (x : Reason). of_run_line x.number) (sym same) ∙ run_line_numbers zone line own g

pub refusal_numbers : RefusalsAtLine
refusal_numbers zone line p why h = by_word (is_run line) refl
  where
    by_run : (x : Answer RunFields) → is_run line ≡ true → run_of zone line ≡ x → of_run_line why.number ≡ true
    by_run (gives r) e g = at_good zone line r p why e g h
    by_run (refuses_for own) e g = at_bad zone line own p why e g h

    by_word : (x : Bool) → is_run line ≡ x → of_run_line why.number ≡ true
    by_word true e = by_run (run_of zone line) e refl
    by_word false e = at_plain zone line p why e h

-- such a number is at most 18
small : (n : ℕ) → of_run_line n ≡ true → n ≤ too_many
small n h =
    go (eqb n bad_text) (eqb n beyond_bounds) (eqb n long_fraction) (eqb n no_field) (eqb n bad_step) (eqb n too_many) (eqb n beyond_result)
    refl refl refl refl refl refl refl h
  where
    go : (a b c d e f g : Bool) → eqb n 1 ≡ a → eqb n 2 ≡ b → eqb n 3 ≡ c → eqb n 6 ≡ d → eqb n 17 ≡ e → eqb n 18 ≡ f → eqb n 4 ≡ g
        → pick a true (pick b true (pick c true (pick d true (pick e true (pick f true g))))) ≡ true → n ≤ too_many
    go true b c d e f g p q r s t u v k = let w = eqb-true n 1 p in omega arith
    go false true c d e f g p q r s t u v k = let w = eqb-true n 2 q in omega arith
    go false false true d e f g p q r s t u v k = let w = eqb-true n 3 r in omega arith
    go false false false true e f g p q r s t u v k = let w = eqb-true n 6 s in omega arith
    go false false false false true f g p q r s t u v k = let w = eqb-true n 17 t in omega arith
    go false false false false false true g p q r s t u v k = let w = eqb-true n 18 u in omega arith
    go false false false false false false true p q r s t u v k = let w = eqb-true n 4 v in omega arith
    go false false false false false false false p q r s t u v k = absurd (true≢false (sym k))

pub refusals_at_line : (zone : Offset) (line : List ℕ) (p : ℕ) (why : Reason) → case_at (stands_for zone line) p ≡ refusal_case why → why.number ≤ too_many
refusals_at_line zone line p why h = small why.number (refusal_numbers zone line p why h)
