-- Who reads from offset 0, and then from each answer's `next`, visits exactly the lines of the timetable, in order, each
-- once, and stands at the timetable's end after as many answers as there are lines, and not before. An answer is
-- used only by what is promised of it, and the promise leaves one answer.
use mathlib.Core.Path.{◌≡◌, refl, sym, ◌∙◌}
use mathlib.Core.Logic.{⊎_elim}
use mathlib.Core.List.{List, [], ◌∷◌}
use Prim.Native.Nat.{ℕ, zero, suc, ◌-◌, ◌≤◌, ◌<◌}
use native.Mathlib.Omega.{arith}
use lib.Dec.{ltb}
use lib.ListN.{length, take, drop}
use borrow.Author.Tests.{lt-ltb, le-ltb}
use Rattle.basis.specs.Choice.{pick}
use Rattle.timetable.specs.Lines.{Line, line_count, offset_lines, line_end, next_line, line_at}
use Rattle.timetable.proofs.Offsets.{line_or_end, count_next, count_end}
use Rattle.timetable.proofs.Walk.{walk, offset_after, walk_visits_all, ends_after_count, not_ended_before}
use Rattle.timetable_reader.specs.declared.LineAt.{LineAt}

-- what `read_line` promises of its answer
abbrev pub Promised : List ℕ → ℕ → LineAt → Type 0
Promised t at r = (r.end ≡ line_end t at) × (r.next ≡ next_line t at)

-- two answers that keep the promise are equal
pub one_answer : (t : List ℕ) (at : ℕ) (r r' : LineAt) → Promised t at r → Promised t at r' → r ≡ r'
one_answer t at r r' p p' i = record { end = (p.0 ∙ sym p'.0) i; next = (p.1 ∙ sym p'.1) i }

-- the lines visited from an offset on, in at most so many answers; a line's bytes are those up to the answer's end
unfoldable pub visited : List ℕ → (ℕ → LineAt) → ℕ → ℕ → List Line
visited t read zero at = []
visited t read (suc n) at =
    pick (ltb at (length t)) (record { offset = at; text = take ((read at).end - at) (drop at t) } ∷ visited t read n (read at).next) []

-- the offset after so many answers
unfoldable pub offset_read : (ℕ → LineAt) → ℕ → ℕ → ℕ
offset_read read zero at = at
offset_read read (suc n) at = offset_read read n (read at).next

-- answers that keep the promise at every offset in the timetable
abbrev pub Reads : List ℕ → (ℕ → LineAt) → Type 0
Reads t read = (at : ℕ) → at < length t → Promised t at (read at)

visits_walk : (t : List ℕ) (read : ℕ → LineAt) → Reads t read → (n at : ℕ) → visited t read n at ≡ walk t n at
unfolding visited walk line_at
visits_walk t read p zero at = refl
visits_walk t read p (suc n) at =
    ⊎_elim (λ l. rw (lt-ltb at (length t) l, (p at l).0, (p at l).1, visits_walk t read p n (next_line t at)))
    (λ e. rw (le-ltb at (length t) e))
    (line_or_end t at)

-- all lines are visited, in order, and nothing else
pub reading_visits_all : (t : List ℕ) (read : ℕ → LineAt) → Reads t read → visited t read (length t) 0 ≡ offset_lines t
reading_visits_all t read p = visits_walk t read p (length t) 0 ∙ walk_visits_all t

same_offset : (t : List ℕ) (read : ℕ → LineAt) → Reads t read → (n at : ℕ) → n ≤ line_count (drop at t) → offset_read read n at ≡ offset_after t n at
unfolding offset_read offset_after
same_offset t read p zero at h = refl
same_offset t read p (suc n) at h =
    ⊎_elim (λ l. rw (p at l).1 (same_offset t read p n (next_line t at) (omega (arith, count_next t at l))))
    (λ e. absurd (omega (arith, count_end t at e)))
    (line_or_end t at)

-- an answer a line leads to the end
pub reading_ends : (t : List ℕ) (read : ℕ → LineAt) → Reads t read → offset_read read (line_count t) 0 ≡ length t
reading_ends t read p = same_offset t read p (line_count t) 0 (omega arith) ∙ ends_after_count t

-- fewer do not
pub reading_not_ended : (t : List ℕ) (read : ℕ → LineAt) → Reads t read → (n : ℕ) → n < line_count t → offset_read read n 0 < length t
reading_not_ended t read p n h = omega (arith, same_offset t read p n 0 (omega arith), not_ended_before t n h)
