-- A line is written number by number: the text so far, and the numbers that are left, are what the word and all numbers are.
use mathlib.Core.Path.{◌≡◌, ap, sym, ◌∙◌}
use mathlib.Core.List.{List, [], ◌∷◌, ◌++◌, append_assoc, append-nil}
use Prim.Native.Nat.{ℕ, ◌+◌, ◌≤◌, ◌<◌}
use native.Mathlib.Numerals.{add-one}
use native.Mathlib.Omega.{arith}
use lib.ListN.{length, get_or, drop, length-append, drop_of_length-le}
use lib.Seq.{drop-cons}
use Rattle.timetable.specs.Fields.{tab}
use Rattle.timetable.specs.Lines.{newline}
use Rattle.numerals.specs.Writing.{decimal}
use Rattle.output_lines.specs.Text.{numbers, line_with, line_room}
use Rattle.output_lines.proofs.Widths.{line_length}

module _ (w ns : List ℕ) (t : List ℕ) (k : ℕ) (g : t ++ numbers (drop k ns) ≡ w ++ numbers ns) where
  module _ (h : k < length ns) where
    abbrev n : ℕ
    n = get_or ns k 0

    pub one_more : ((t ++ tab ∷ []) ++ decimal n) ++ numbers (drop (k + 1) ns) ≡ w ++ numbers ns
    unfolding numbers
    one_more = rw add-one (simp append_assoc (ap (λ (q : List ℕ). t ++ q) (sym (rw (drop-cons ns k 0 h, numbers))) ∙ g))

    pub room : length (line_with w ns) ≤ line_room → length t + 1 + length (decimal n) < line_room
    room l =
        omega (arith, line_length w ns, length-append w (numbers ns), ap length one_more, length-append ((t ++ tab ∷ []) ++ decimal n) (numbers (drop (k + 1) ns)), length-append (t ++ tab ∷ []) (decimal n), length-append t (tab ∷ []))

  module _ (h : length ns ≤ k) where
    pub all : t ≡ w ++ numbers ns
    unfolding numbers
    all =
        let e : numbers (drop k ns) ≡ [] = rw (drop_of_length-le ns h) in
        sym (append-nil t) ∙ ap (λ (q : List ℕ). t ++ q) (sym e) ∙ g

    pub end_fits : length (line_with w ns) ≤ line_room → length t < line_room
    end_fits l = omega (arith, line_length w ns, length-append w (numbers ns), ap length all)

    pub ended : t ++ newline ∷ [] ≡ line_with w ns
    unfolding line_with
    ended = rw (all, append_assoc)
