-- What stands at a place of a list of cases, and what a case by itself says of a list of one case.
use mathlib.Core.Path.{◌≡◌, sym, ◌∙◌}
use mathlib.Core.Bool.{false}
use mathlib.Core.List.{List, [], ◌∷◌}
use Prim.Native.Nat.{ℕ, zero, suc, ◌+◌, ◌≤◌}
use native.Mathlib.Omega.{arith}
use lib.Dec.{ltb}
use lib.ListN.{length}
use borrow.Author.Tests.{lt-ltb, le-ltb}
use Rattle.basis.specs.Answer.{Reason}
use Rattle.timetable.specs.Rows.{Row}
use Rattle.run_cases.specs.Cases.{Case, row_case, miss_case, refusal_case, case_at}
use Rattle.run_cases.specs.Laws.{CaseThere, CasePast}
use Rattle.run_cases.specs.Carried.{case_said, Shows, Alone}
use Rattle.run_cases.specs.declared.CaseRead.{CaseRead}
use Rattle.run_cases.specs.declared.CaseAtPlace.{CaseAtPlace}

pub case_there : CaseThere
unfolding case_at
case_there cs p h = rw (lt-ltb p (length cs) h)

pub case_past : CasePast
unfolding case_at
case_past cs p h = rw (le-ltb p (length cs) h)

-- ---- a list of one case

pub refusal_anywhere : (why : Reason) (p : ℕ) → case_at (refusal_case why ∷ []) p ≡ refusal_case why
refusal_anywhere why zero = case_there (refusal_case why ∷ []) 0 (omega arith)
refusal_anywhere why (suc p) = case_past (refusal_case why ∷ []) (suc p) (omega arith)

pub miss_anywhere : (p : ℕ) → case_at (miss_case ∷ []) p ≡ miss_case
miss_anywhere zero = case_there (miss_case ∷ []) 0 (omega arith)
miss_anywhere (suc p) = case_past (miss_case ∷ []) (suc p) (omega arith)

pub row_first : (r : Row) → case_at (row_case r ∷ []) 0 ≡ row_case r
row_first r = case_there (row_case r ∷ []) 0 (omega arith)

pub row_further : (r : Row) (p : ℕ) → 1 ≤ p → case_at (row_case r ∷ []) p ≡ miss_case
row_further r p h = case_past (row_case r ∷ []) p h

pub none_after : (c : Case) (p : ℕ) → ltb (p + 1) (length (c ∷ [])) ≡ false
none_after c p = le-ltb (p + 1) 1 (omega arith)

-- ---- a case by itself

pub alone_shown : (r : CaseAtPlace) (s : CaseRead) (line : List ℕ) (cs : List Case) (p : ℕ) → Alone r s
    → case_said line [] s ≡ case_at cs p → ltb (p + 1) (length cs) ≡ false → Shows r line cs p
alone_shown r s line cs p a e h =
    record { what = (λ i. case_said line (a.none i) (a.said i)) ∙ e; more = a.last ∙ sym h }
