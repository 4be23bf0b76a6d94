-- How long a line is, and how many digits its numbers have: a ticket at most 10, a count 8, and no other number of a line is
-- greater than a count. So a word of ten bytes with a ticket, and with two counts after it, fits the text of a line.
use mathlib.Core.Path.{◌≡◌, refl}
use mathlib.Core.List.{List, [], ◌∷◌, ◌++◌}
use Prim.Native.Nat.{ℕ, ◌+◌, ◌≤◌}
use native.Mathlib.Omega.{arith}
use borrow.Author.Tests.{leb-true}
use lib.ListN.{length, length-append}
use Rattle.basis.specs.Letters.{bytes}
use Rattle.timetable.specs.Lines.{newline}
use Rattle.numerals.specs.Writing.{decimal}
use Rattle.numerals.proofs.Decimals.{decimal_le}
use Rattle.desk_seat.specs.Bounds.{max_count}
use Rattle.desk.specs.Bounds.{last_ticket}
use Rattle.output_lines.specs.Text.{numbers, line_with, line_room}

ten_digits : (n : ℕ) → n ≤ last_ticket → length (decimal n) ≤ 10
ten_digits n h = decimal_le 10 n (omega arith) (omega arith)

eight_digits : (n : ℕ) → n ≤ max_count → length (decimal n) ≤ 8
eight_digits n h = decimal_le 8 n (omega arith) (omega arith)

pub line_length : (w ns : List ℕ) → length (line_with w ns) ≡ length w + length (numbers ns) + 1
unfolding line_with
line_length w ns = omega (arith, length-append w (numbers ns ++ (newline ∷ [])), length-append (numbers ns) (newline ∷ []))

no_numbers : length (numbers []) ≡ 0
unfolding numbers
no_numbers = refl

numbers_length : (n : ℕ) (ns : List ℕ) → length (numbers (n ∷ ns)) ≡ 1 + length (decimal n) + length (numbers ns)
unfolding numbers
numbers_length n ns = omega (arith, length-append (decimal n) (numbers ns))

pub three_fit : (w : List ℕ) (a b c : ℕ) → length w ≤ 10 → a ≤ last_ticket → b ≤ max_count → c ≤ max_count → length (line_with w (a ∷ b ∷ c ∷ [])) ≤ line_room
three_fit w a b c l la lb lc =
    omega (arith, line_length w (a ∷ b ∷ c ∷ []), numbers_length a (b ∷ c ∷ []), numbers_length b (c ∷ []), numbers_length c [], no_numbers, ten_digits a la, eight_digits b lb, eight_digits c lc)

pub one_fits : (w : List ℕ) (a : ℕ) → length w ≤ 10 → a ≤ last_ticket → length (line_with w (a ∷ [])) ≤ line_room
one_fits w a l la = omega (arith, line_length w (a ∷ []), numbers_length a [], no_numbers, ten_digits a la)

pub idle_fits : length (line_with (bytes "idle") []) ≤ line_room
idle_fits = let z = leb-true (length (bytes "idle")) 10 refl in omega (arith, line_length (bytes "idle") [], no_numbers)
