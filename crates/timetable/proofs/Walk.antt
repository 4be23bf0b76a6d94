-- Who goes from offset 0 from one next line to the next visits exactly the lines of the timetable, in order, each once,
-- and stands at the timetable's end after as many steps as there are lines, and not before.
use mathlib.Core.Path.{◌≡◌, refl, sym}
use mathlib.Core.Logic.{⊎_elim}
use mathlib.Core.List.{List, [], ◌∷◌}
use Prim.Native.Nat.{ℕ, zero, suc, ◌-◌, ◌≤◌, ◌<◌}
use native.Mathlib.Omega.{arith}
use lib.Dec.{ltb}
use lib.ListN.{length, drop}
use borrow.Author.Tests.{lt-ltb, le-ltb}
use Rattle.basis.specs.Choice.{pick}
use Rattle.timetable.specs.Lines.{line_count, Line, lines_from, offset_lines, next_line, line_at}
use Rattle.timetable.proofs.Offsets.{line_or_end, next_within, next_further, lines_end, lines_next, count_next, count_end}

-- the lines visited from an offset on, in at most so many steps
unfoldable pub walk : List ℕ → ℕ → ℕ → List Line
walk t zero at = []
walk t (suc steps) at = pick (ltb at (length t)) (line_at t at ∷ walk t steps (next_line t at)) []

-- the offset after so many steps
unfoldable pub offset_after : List ℕ → ℕ → ℕ → ℕ
offset_after t zero at = at
offset_after t (suc steps) at = offset_after t steps (next_line t at)

-- with as many steps as bytes are left, the lines from there on
pub walk_from : (t : List ℕ) (steps at : ℕ) → length t - at ≤ steps → walk t steps at ≡ lines_from t at
unfolding walk
walk_from t zero at h = sym (lines_end t at (omega arith))
walk_from t (suc k) at h =
    ⊎_elim
    (λ l.
    let f = next_further t at l in
    rw (lt-ltb at (length t) l, lines_next t at l, walk_from t k (next_line t at) (omega arith)))
    (λ e. rw (le-ltb at (length t) e) (sym (lines_end t at e)))
    (line_or_end t at)

-- with as many steps as bytes, all lines in order
pub walk_visits_all : (t : List ℕ) → walk t (length t) 0 ≡ offset_lines t
unfolding offset_lines
walk_visits_all t = walk_from t (length t) 0 (omega arith)

-- a step a line leads to the end
pub ends_from : (t : List ℕ) (n at : ℕ) → at ≤ length t → n ≡ line_count (drop at t) → offset_after t n at ≡ length t
unfolding offset_after
ends_from t zero at h e = ⊎_elim (λ l. absurd (omega (arith, count_next t at l))) (λ q. omega arith) (line_or_end t at)
ends_from t (suc n) at h e =
    ⊎_elim (λ l. ends_from t n (next_line t at) (next_within t at h) (omega (arith, count_next t at l)))
    (λ q. absurd (omega (arith, count_end t at q)))
    (line_or_end t at)

pub ends_after_count : (t : List ℕ) → offset_after t (line_count t) 0 ≡ length t
ends_after_count t = ends_from t (line_count t) 0 (omega arith) refl

-- fewer steps do not
pub short_from : (t : List ℕ) (n at : ℕ) → n < line_count (drop at t) → offset_after t n at < length t
unfolding offset_after
short_from t zero at h = ⊎_elim (λ l. l) (λ q. absurd (omega (arith, count_end t at q))) (line_or_end t at)
short_from t (suc n) at h =
    ⊎_elim (λ l. short_from t n (next_line t at) (omega (arith, count_next t at l)))
    (λ q. absurd (omega (arith, count_end t at q)))
    (line_or_end t at)

pub not_ended_before : (t : List ℕ) (n : ℕ) → n < line_count t → offset_after t n 0 < length t
not_ended_before t n h = short_from t n 0 h
