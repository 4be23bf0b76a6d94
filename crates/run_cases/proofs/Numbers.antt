-- The numbers that the run of a line is refused with: those of a field's text, 6 for a missing field, and those of a run.
use mathlib.Core.Path.{◌≡◌, refl, ap, sym}
use mathlib.Core.Bool.{Bool, true, false}
use mathlib.Core.List.{List}
use mathlib.Core.Logic.{⊎_elim}
use Prim.Native.Nat.{ℕ}
use native.Mathlib.Omega.{arith}
use lib.Dec.{eqb}
use Rattle.basis.specs.Choice.{pick}
use Rattle.basis.specs.Answer.{Reason, refuses_for, refuses}
use Rattle.value.specs.Refusals.{bad_text, beyond_bounds, long_fraction, no_field}
use Rattle.value.specs.declared.Kind.{Kind}
use Rattle.value.specs.declared.Kind.TheVariants as KV
use Rattle.timetable.specs.Rows.{Row, has_cell, cell_text, row_of}
use Rattle.text.specs.Reading.{read_as}
use Rattle.text.proofs.Numbers.{read_refuses}
use Rattle.text_fields.specs.Fields.{read_field}
use Rattle.run_times.specs.Occurrences.{run_checked}
use Rattle.run_times.specs.Laws.{of_run}
use Rattle.run_times.proofs.Verdicts.{run_numbers}
use Rattle.run_cases.specs.StandsFor.{fields_read, times_in, run_of}
use Rattle.run_cases.specs.Laws.{of_run_line, RunLineNumbers}
use Rattle.basis.proofs.Answers.{refuses_same, then_refuses}

-- a test among tests of which one holds
of_text_lem : (a b c d : Bool) (rest : Bool) → pick a true (pick b true (pick c true false)) ≡ true → pick a true (pick b true (pick c true (pick d true rest))) ≡ true
of_text_lem true b c d rest e = refl
of_text_lem false true c d rest e = refl
of_text_lem false false true d rest e = refl
of_text_lem false false false d rest e = absurd (let z : ◌≡◌ {A = ℕ} 0 1 = cc in omega arith)

of_run_lem : (a b c d : Bool) (rest : Bool) → rest ≡ true → pick a true (pick b true (pick c true (pick d true rest))) ≡ true
of_run_lem true b c d rest e = refl
of_run_lem false true c d rest e = refl
of_run_lem false false true d rest e = refl
of_run_lem false false false true rest e = refl
of_run_lem false false false false rest e = e

field_numbers : (k : Kind) (row : Row) (i : ℕ) (why : Reason) → read_field k row i ≡ refuses_for why → of_run_line why.number ≡ true
unfolding read_field
field_numbers k row i why = go (has_cell row i)
  where
    n : ℕ
    n = why.number

    go : (b : Bool) → pick b (read_as k (cell_text row i)) (refuses no_field) ≡ refuses_for why → of_run_line n ≡ true
    go true e = of_text_lem (eqb n bad_text) (eqb n beyond_bounds) (eqb n long_fraction) (eqb n no_field) (of_run n) (read_refuses k (cell_text row i) why e)
    go false e = ap (λ (x : Reason). of_run_line x.number) (sym (refuses_same _ why e))

fields_numbers : (line : List ℕ) (why : Reason) → fields_read line ≡ refuses_for why → of_run_line why.number ≡ true
unfolding fields_read
fields_numbers line why e =
    ⊎_elim (λ h. field_numbers KV.DateTime (row_of line) 3 why h)
    (λ a. ⊎_elim (λ h. field_numbers KV.DateTime (row_of line) 4 why h)
    (λ b. ⊎_elim (λ h. field_numbers KV.DayTimeDuration (row_of line) 5 why h) (λ c. absurd (let z : ◌≡◌ {A = ℕ} 0 1 = cc in omega arith))
    (then_refuses (read_field KV.DayTimeDuration (row_of line) 5) _ why b.2))
    (then_refuses (read_field KV.DateTime (row_of line) 4) _ why a.2))
    (then_refuses (read_field KV.DateTime (row_of line) 3) _ why e)

pub run_line_numbers : RunLineNumbers
unfolding run_of
run_line_numbers zone line why e =
    let n = why.number in
    ⊎_elim (λ h. fields_numbers line why h)
    (λ a. ⊎_elim
    (λ h. of_run_lem (eqb n bad_text) (eqb n beyond_bounds) (eqb n long_fraction) (eqb n no_field) (of_run n) (run_numbers (times_in zone a.0) why h))
    (λ b. absurd (let z : ◌≡◌ {A = ℕ} 0 1 = cc in omega arith))
    (then_refuses (run_checked (times_in zone a.0)) _ why a.2))
    (then_refuses (fields_read line) _ why e)
