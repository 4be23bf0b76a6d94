-- Turns counted by the room that their lines take: every line has a byte, so a room has no more lines than bytes, and the
-- turns that fit are the next one, where its line fits, and those that fit in what it leaves.
use mathlib.Core.Path.{◌≡◌, refl, ap}
use mathlib.Core.Bool.{Bool, true}
use mathlib.Core.List.{List, [], ◌∷◌, ◌++◌}
use Prim.Native.Nat.{ℕ, zero, suc, ◌-◌, ◌≤◌}
use native.Mathlib.Omega.{arith}
use borrow.Author.Tests.{lt-leb}
use lib.Dec.{leb}
use lib.ListN.{length, length-append}
use Rattle.basis.specs.Choice.{pick}
use Rattle.basis.specs.Answer.{Answer, gives, refuses_for}
use Rattle.timetable.specs.Lines.{newline}
use Rattle.desk_seat.specs.Files.{Files}
use Rattle.desk_seat.specs.Answers.{Turned, idle, hit_at, miss_at, unreadable_at, done_with}
use Rattle.desk.specs.Desk.{turn_of}
use Rattle.desk.specs.declared.Desk.{Desk}
use Rattle.output_lines.specs.Text.{numbers, line_with, turn_line}
use Rattle.output_turns.specs.Turns.{is_idle, Taken, none, onto_taken, at_most, taken}

line_with_some : (w ns : List ℕ) → 1 ≤ length (line_with w ns)
unfolding line_with
line_with_some w ns = omega (arith, length-append w (numbers ns ++ (newline ∷ [])), length-append (numbers ns) (newline ∷ []))

pub line_some : (a : Answer Turned) → 1 ≤ length (turn_line a)
line_some (gives idle) = line_with_some _ _
line_some (gives (hit_at k o p)) = line_with_some _ _
line_some (gives (miss_at k o p)) = line_with_some _ _
line_some (gives (unreadable_at k o r)) = line_with_some _ _
line_some (gives (done_with k h u)) = line_with_some _ _
line_some (refuses_for r) = line_with_some _ _

abbrev then_on : Bool → Bool → List ℕ → Desk → Desk → Taken → Taken
then_on fits stops line d next rest = pick fits (onto_taken line (pick stops (record { desk = next; text = []; idle = true }) rest)) (none d)

-- with as many as bytes are left, more change nothing
enough : (n m : ℕ) (f : Files) (d : Desk) (left : ℕ) → left ≤ n → left ≤ m → at_most n f d left ≡ at_most m f d left
unfolding at_most
enough zero zero f d left a b = refl
enough zero (suc m) f d left a b =
    let s = line_some (turn_of f d).answer in
    rw (lt-leb (length (turn_line (turn_of f d).answer)) left (omega arith))
enough (suc n) zero f d left a b =
    let s = line_some (turn_of f d).answer in
    rw (lt-leb (length (turn_line (turn_of f d).answer)) left (omega arith))
enough (suc n) (suc m) f d left a b =
    let line = turn_line (turn_of f d).answer in
    let s = line_some (turn_of f d).answer in
    let next = enough n m f (turn_of f d).desk (left - length (turn_line (turn_of f d).answer)) (omega arith) (omega arith) in
    ap (then_on (leb (length (turn_line (turn_of f d).answer)) left) (is_idle (turn_of f d).answer) (turn_line (turn_of f d).answer) d (turn_of f d).desk) next

-- the turns that fit, by the next one
pub taken_next : (f : Files) (d : Desk) (left : ℕ)
    → taken f d left
    ≡ pick (leb (length (turn_line (turn_of f d).answer)) left)
    (onto_taken (turn_line (turn_of f d).answer)
    (pick (is_idle (turn_of f d).answer) (record { desk = (turn_of f d).desk; text = []; idle = true })
    (taken f (turn_of f d).desk (left - length (turn_line (turn_of f d).answer)))))
    (none d)
unfolding at_most
taken_next f d zero =
    let s = line_some (turn_of f d).answer in
    rw (lt-leb (length (turn_line (turn_of f d).answer)) 0 (omega arith))
taken_next f d (suc left) =
    let s = line_some (turn_of f d).answer in
    let next = enough left (suc left - length (turn_line (turn_of f d).answer)) f (turn_of f d).desk (suc left - length (turn_line (turn_of f d).answer))
    (omega arith) (omega arith) in
    ap (then_on (leb (length (turn_line (turn_of f d).answer)) (suc left)) (is_idle (turn_of f d).answer) (turn_line (turn_of f d).answer) d (turn_of f d).desk) next
