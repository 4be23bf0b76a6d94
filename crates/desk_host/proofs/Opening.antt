-- Opening the conditions in order: a condition that is cut out of the input is the line there, and a line opened leaves the
-- lines after it.
use native.Mathlib.Omega.{arith}
use mathlib.Core.Path.{◌≡◌, refl, sym, ap, ◌∙◌}
use mathlib.Core.List.{List}
use Prim.Native.Nat.{ℕ, ◌+◌, ◌-◌, ◌^◌, ◌≤◌, ◌<◌}
use lib.ListN.{length}
use Rattle.timetable.specs.Lines.{Line, line_at, line_end, next_line, lines_from, offset_lines}
use Rattle.timetable.proofs.Offsets.{line_cut, lines_end, lines_next, next_further}
use Rattle.condition_words.specs.Words.{between}
use Rattle.desk_seat.specs.Request.{asking}
use Rattle.desk.specs.declared.Desk.{Desk}
use Rattle.output_pieces.specs.Pieces.{Piece, open_piece, opened_all}
use Rattle.output_pieces.specs.Carried.{opened_told}

-- what was told, and what is still to be told from an offset on
abbrev pub to_tell : List ℕ → ℕ → Desk → ℕ → ℕ
to_tell t i d k = k + opened_told (lines_from t i) d

module _ (t : List ℕ) (i end : ℕ) (d : Desk) (l : i < length t) (n : end ≡ line_end t i) where
  abbrev one : Piece
  one = open_piece (asking (between t i end)) d

  one_is : one ≡ open_piece (asking (line_at t i).text) d
  one_is = ap (λ (c : List ℕ). open_piece (asking c) d) (line_cut t i end n)

  next_told : opened_told (lines_from t i) d ≡ length (open_piece (asking (line_at t i).text) d).text + opened_told (lines_from t (next_line t i)) (open_piece (asking (line_at t i).text) d).desk
  unfolding opened_told
  next_told = ap (λ (ls : List Line). opened_told ls d) (lines_next t i l)

  -- the bytes of a line's piece are among those still to be told
  pub one_told : (k m : ℕ) → to_tell t i d k ≡ m → m < 2 ^ 64 → k + length (open_piece (asking (between t i end)) d).text < 2 ^ 64
  one_told k m v w = omega (arith, next_told, ap (λ (p : Piece). length p.text) one_is)

  -- a line was opened
  module _ (j : ℕ) (h : Desk) (p : h ≡ (open_piece (asking (between t i end)) d).desk) (q : j ≡ next_line t i) where
    pub next_opened : (x : Desk) → opened_all (lines_from t i) d ≡ x → opened_all (lines_from t j) h ≡ x
    unfolding opened_all
    next_opened x v = rw (p, line_cut t i end n, q) (sym (ap (λ (ls : List Line). opened_all ls d) (lines_next t i l)) ∙ v)

    pub next_amount : (k k' m : ℕ) → to_tell t i d k ≡ m → k' ≡ k + length (open_piece (asking (between t i end)) d).text → to_tell t j h k' ≡ m
    next_amount k k' m v e = rw (p, line_cut t i end n, q) (omega (arith, next_told, e, ap (λ (x : Piece). length x.text) one_is))

-- no line is left
pub all_opened : (t : List ℕ) (i : ℕ) (d x : Desk) → length t ≤ i → opened_all (lines_from t i) d ≡ x → d ≡ x
unfolding opened_all
all_opened t i d x l v = sym (ap (λ (ls : List Line). opened_all ls d) (lines_end t i l)) ∙ v

pub all_told : (t : List ℕ) (i : ℕ) (d : Desk) (k m : ℕ) → length t ≤ i → to_tell t i d k ≡ m → k ≡ m
unfolding opened_told
all_told t i d k m l v = omega (arith, ap (λ (ls : List Line). opened_told ls d) (lines_end t i l))

-- the lines of an input are those from its start on
pub from_start : (t : List ℕ) (d : Desk) → opened_all (lines_from t 0) d ≡ opened_all (offset_lines t) d
unfolding offset_lines
from_start t d = refl

pub told_from_start : (t : List ℕ) (d : Desk) (k : ℕ) → to_tell t 0 d k ≡ k + opened_told (offset_lines t) d
unfolding offset_lines
told_from_start t d k = refl

pub nearer : (t : List ℕ) (i j : ℕ) → i < length t → j ≡ next_line t i → length t - j < length t - i
nearer t i j l q = omega (arith, next_further t i l)
