-- The output in document 01's words: without the count of turns, that its last line is `idle`, and that reading one byte more than is
-- allowed is reading enough.
use native.Mathlib.Omega.{arith}
use mathlib.Core.Path.{◌≡◌, refl, sym, ap, ◌∙◌}
use mathlib.Core.Bool.{Bool, true, false}
use mathlib.Core.List.{List, ◌++◌, append_assoc}
use Prim.Native.Nat.{ℕ, ◌+◌, ◌≤◌, ◌<◌}
use borrow.Author.Tests.{le-ltb, lt-ltb, ltb-true, ltb-false}
use lib.Dec.{ltb}
use lib.ListN.{length, take, length-take}
use lib.Seq.{take_all}
use Rattle.basis.specs.Answer.{Answer, gives}
use Rattle.timetable.specs.Lines.{offset_lines}
use Rattle.value.specs.Refusals.{bad_condition, wrong_timetable}
use Rattle.desk_seat.specs.Bounds.{max_timetable}
use Rattle.desk_seat.specs.Files.{Files, over}
use Rattle.desk_seat.specs.Answers.{Turned, idle}
use Rattle.desk.specs.Desk.{fresh_for}
use Rattle.output_lines.specs.Text.{refused_line, turn_line}
use Rattle.output_turns.specs.Turns.{lines_of_turns}
use Rattle.output_pieces.specs.Bounds.{max_input}
use Rattle.output_pieces.specs.Pieces.{most_turns}
use Rattle.output.specs.Output.{open_lines, turn_lines, opened_for, output_of, GoesToIdle, LastIsIdle, ReadsEnough}
use Rattle.output.proofs.Ready.{opened_ready, fresh_ready, enough}
use Rattle.output.proofs.TurnLines.{idles, lines_last}

-- ---- by the three cases
module _ (f : Files) (input : List ℕ) where
  pub long_timetable_told : max_timetable < length f.timetable → output_of f input ≡ refused_line wrong_timetable
  unfolding output_of
  long_timetable_told l = rw (lt-ltb max_timetable (length f.timetable) l)

  module _ (h : length f.timetable ≤ max_timetable) where
    pub long_input_told : max_input < length input → output_of f input ≡ refused_line bad_condition
    unfolding output_of
    long_input_told l = rw (le-ltb max_timetable (length f.timetable) h, lt-ltb max_input (length input) l)

    pub both_told : length input ≤ max_input → output_of f input ≡ open_lines (offset_lines input) (fresh_for f).desk ++ turn_lines most_turns f (opened_for f input)
    unfolding output_of
    both_told l = rw (le-ltb max_timetable (length f.timetable) h, le-ltb max_input (length input) l)

-- ---- to Idle
pub goes_to_idle : GoesToIdle
goes_to_idle f input l h =
    let o = opened_ready f (offset_lines input) (fresh_for f).desk (fresh_ready f l) in
    let r = idles most_turns f (opened_for f input) o (enough f (opened_for f input) o) in (
      r.0,
      record {
        whole = both_told f input l h ∙ ap (λ (x : List ℕ). open_lines (offset_lines input) (fresh_for f).desk ++ x) r.1.whole;
        earlier = r.1.earlier;
        last = r.1.last;
      },
    )

pub last_is_idle : LastIsIdle
last_is_idle f input l h =
    let r = goes_to_idle f input l h in
    let a = open_lines (offset_lines input) (fresh_for f).desk in
    let b = lines_of_turns r.0 f (opened_for f input) in (
      a ++ b,
      r.1.whole
          ∙ ap (λ (x : List ℕ). open_lines (offset_lines input) (fresh_for f).desk ++ x)
          (lines_last r.0 f (opened_for f input) ∙ ap (λ (x : Answer Turned). lines_of_turns r.0 f (opened_for f input) ++ turn_line x) r.1.last)
          ∙ sym (append_assoc a b (turn_line (gives idle))),
    )

-- ---- one byte more
took : (n : ℕ) (xs : List ℕ) → length xs ≤ n → take (n + 1) xs ≡ xs
took n xs l = take_all (n + 1) xs (omega arith)

took_more : (n : ℕ) (xs : List ℕ) → n < length xs → n < length (take (n + 1) xs)
took_more n xs l = omega (arith, length-take (n + 1) xs)

pub reads_enough : ReadsEnough
reads_enough t input = go (ltb max_timetable (length t)) (ltb max_input (length input)) refl refl
  where
    go : (a b : Bool) → ltb max_timetable (length t) ≡ a → ltb max_input (length input) ≡ b → output_of (over (take (max_timetable + 1) t)) (take (max_input + 1) input) ≡ output_of (over t) input
    go true b p q =
        let l = ltb-true max_timetable (length t) p in
        long_timetable_told (over (take (max_timetable + 1) t)) (take (max_input + 1) input) (took_more max_timetable t l) ∙ sym (long_timetable_told (over t) input l)
    go false true p q =
        let h = ltb-false max_timetable (length t) p in
        let l = ltb-true max_input (length input) q in
        rw (took max_timetable t h) (long_input_told (over t) (take (max_input + 1) input) h (took_more max_input input l) ∙ sym (long_input_told (over t) input h l))
    go false false p q = rw (took max_timetable t (ltb-false max_timetable (length t) p), took max_input input (ltb-false max_input (length input) q))
