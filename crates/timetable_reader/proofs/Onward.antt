-- One line read: what is left of a reader's lines before and after it.
use mathlib.Core.Path.{◌≡◌, ap, ◌∙◌}
use mathlib.Core.List.{List, ◌∷◌}
use Prim.Native.Nat.{ℕ, ◌-◌, ◌<◌}
use native.Mathlib.Omega.{arith}
use lib.ListN.{length, take, drop}
use denote.Bor.{Bor}
use Rattle.timetable.specs.Lines.{Line, line_end, next_line, line_at, lines_from, offset_lines}
use Rattle.timetable_reader.specs.declared.LineReader.{LineReader}
use Rattle.timetable_reader.specs.Left.{lines_left}
use Rattle.timetable.proofs.Offsets.{line_cut, lines_next}

module _ (t : List ℕ) (at end : ℕ) (e : end ≡ line_end t at) where
  abbrev cut_out : Line
  cut_out = record { offset = at; text = take (end - at) (drop at t) }

  -- the line at an offset, cut out
  pub line_there : cut_out ≡ line_at t at
  unfolding line_at
  line_there = ap (λ (s : List ℕ). record { offset = at; text = s }) (line_cut t at end e)

  module _ (next : ℕ) (h : at < length t) (n : next ≡ next_line t at) where
    -- it is the first of the lines from there on
    pub line_first : lines_from t at ≡ cut_out ∷ lines_from t next
    line_first = rw (n, line_there) (lines_next t at h)

    pub one_less : length (lines_from t next) < length (lines_from t at)
    one_less = omega (arith, ap length line_first)

-- a reader that was made at offset 0, and that a loop takes, has all lines left
pub all_left : (b : Bor (List ℕ)) (r s : LineReader) → s ≡ r → (r.timetable ≡ b) × (r.at ≡ 0) → lines_left s ≡ offset_lines b.now
unfolding offset_lines
all_left b r s e m = rw e (ap (λ (c : Bor (List ℕ)). lines_from c.now r.at) m.0 ∙ ap (lines_from b.now) m.1)
