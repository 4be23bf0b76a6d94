-- The desk after a line, by what the line is, and after the lines from an offset on.
use mathlib.Core.Path.{◌≡◌, refl, sym, ap, ◌∙◌}
use mathlib.Core.List.{List}
use Prim.Native.Nat.{ℕ, ◌≤◌, ◌<◌}
use lib.ListN.{length}
use Rattle.timetable.specs.Lines.{Line, line_end, next_line, lines_from, offset_lines}
use Rattle.timetable.proofs.Offsets.{line_cut, lines_end, lines_next}
use Rattle.desk_seat.specs.Files.{Files}
use Rattle.desk.specs.declared.Desk.{Desk}
use Rattle.library_lines.specs.Calls.{line_from, call_in, call_at}
use Rattle.library_lines.specs.declared.calls.DeskCall.{DeskCall}
use Rattle.std.specs.Prelude.{Option}
use Rattle.library_example.specs.After.{after_call, after_calls}

-- ---- the line at an offset
abbrev pub Goes : Files → List ℕ → ℕ → Desk → Desk → Type 0
Goes f input i d h = h ≡ after_call f (call_at input i) (line_from input i) d

pub by_call : (f : Files) (input : List ℕ) (i : ℕ) (d : Desk) {h : Desk} {k : Option DeskCall} (j : Option DeskCall) → k ≡ call_at input i → k ≡ j
    → h ≡ after_call f j (line_from input i) d → Goes f input i d h
by_call f input i d j ek ej eh = eh ∙ ap (λ (n : Option DeskCall). after_call f n (line_from input i) d) (sym ej ∙ ek)

-- ---- the lines from an offset on
pub goes_on : (f : Files) (input : List ℕ) (i j : ℕ) (d h x : Desk) → i < length input → Goes f input i d h → j ≡ next_line input i
    → after_calls f (lines_from input i) d ≡ x → after_calls f (lines_from input j) h ≡ x
unfolding after_calls
goes_on f input i j d h x l g q v =
    (λ m. after_calls f (lines_from input (q m)) (g m))
    ∙ ap (λ (t : List ℕ). after_calls f (lines_from input (next_line input i)) (after_call f (call_in t) t d)) (line_cut input i (line_end input i) refl)
    ∙ sym (ap (λ (ls : List Line). after_calls f ls d) (lines_next input i l))
    ∙ v

pub all_gone : (f : Files) (input : List ℕ) (i : ℕ) (d x : Desk) → length input ≤ i → after_calls f (lines_from input i) d ≡ x → d ≡ x
unfolding after_calls
all_gone f input i d x l v = sym (ap (λ (ls : List Line). after_calls f ls d) (lines_end input i l)) ∙ v

pub from_start : (f : Files) (input : List ℕ) (d : Desk) → after_calls f (lines_from input 0) d ≡ after_calls f (offset_lines input) d
unfolding offset_lines
from_start f input d = refl
