-- The lines from an offset on are the line there and the lines from the next line on, and there is none from the end on.
-- A next line lies further, and within the timetable.
use mathlib.Core.Path.{◌≡◌, refl, ap}
use mathlib.Core.Bool.{Bool, true, false}
use mathlib.Core.Logic.{◌⊎◌, inl, inr, ⊎_elim}
use mathlib.Core.List.{List, [], ◌∷◌}
use Prim.Native.Nat.{ℕ, zero, suc, ◌+◌, ◌-◌, ◌≤◌, ◌<◌}
use native.Mathlib.Omega.{arith}
use lib.Dec.{ltb}
use lib.ListN.{length, take, drop, length-drop, drop_of_length-le}
use lib.Seq.{take_all, length-take-le, drop-drop}
use borrow.Author.Tests.{ltb-true, ltb-false}
use Rattle.basis.specs.Choice.{pick}
use Rattle.timetable.specs.Parted.{parted, bytes_before}
use Rattle.timetable.specs.Lines.{newline, less_empty_last, lines_of, line_count, with_offsets, lines_from, line_end, after_end, next_line, line_at}
use Rattle.timetable.proofs.Parting.{before_within, offset_within, first_part}

-- ---- the first line

-- a part that others follow is no last one
more_follow : (p : List ℕ) {q : List ℕ} {qs ps : List (List ℕ)} → ps ≡ q ∷ qs → less_empty_last (p ∷ ps) ≡ p ∷ less_empty_last ps
unfolding less_empty_last
more_follow [] e = rw e
more_follow (b ∷ bs) e = rw e

full_last : (s : List ℕ) → 0 < length s → less_empty_last (s ∷ []) ≡ s ∷ []
unfolding less_empty_last
full_last [] h = absurd (omega arith)
full_last (b ∷ bs) h = refl

no_line : lines_of [] ≡ []
unfolding lines_of parted less_empty_last
no_line = refl

-- the first line goes up to the first byte 10, the others are those after it
first_line : (s : List ℕ) → 0 < length s
    → lines_of s ≡ take (bytes_before newline s) s ∷ lines_of (drop (suc (bytes_before newline s)) s)
unfolding lines_of
first_line s h = rw (first_part newline s) (go (ltb n (length s)) refl)
  where
    n : ℕ
    n = bytes_before newline s

    rest : List (List ℕ)
    rest = parted newline (drop (suc n) s)

    go : (x : Bool) → ltb n (length s) ≡ x → less_empty_last (take n s ∷ pick x rest []) ≡ take n s ∷ lines_of (drop (suc n) s)
    go true e = more_follow (take n s) (first_part newline (drop (suc n) s))
    go false e =
        let k = ltb-false n (length s) e in
        let j : length s ≤ suc n = omega arith in
        rw (take_all n s k, drop_of_length-le s j, no_line) (full_last s h)

-- ---- offsets

pub end_from : (t : List ℕ) (at : ℕ) → at ≤ line_end t at
unfolding line_end
end_from t at = omega arith

pub end_within : (t : List ℕ) (at : ℕ) → at ≤ length t → line_end t at ≤ length t
unfolding line_end
end_within t at h = offset_within newline t at h refl

pub next_within : (t : List ℕ) (at : ℕ) → at ≤ length t → next_line t at ≤ length t
unfolding next_line after_end
next_within t at h = go (ltb (line_end t at) (length t)) refl
  where
    go : (x : Bool) → ltb (line_end t at) (length t) ≡ x → pick x (line_end t at + 1) (line_end t at) ≤ length t
    go true e = omega (arith, ltb-true (line_end t at) (length t) e)
    go false e = end_within t at h

pub next_further : (t : List ℕ) (at : ℕ) → at < length t → at < next_line t at
unfolding next_line after_end
next_further t at h = go (ltb (line_end t at) (length t)) refl
  where
    go : (x : Bool) → ltb (line_end t at) (length t) ≡ x → at < pick x (line_end t at + 1) (line_end t at)
    go true e = omega (arith, end_from t at)
    go false e = omega (arith, ltb-false (line_end t at) (length t) e)

-- what stands from the next line on stands after the byte 10 of this one
from_next : (t : List ℕ) (at : ℕ) → drop (next_line t at) t ≡ drop (suc (bytes_before newline (drop at t))) (drop at t)
unfolding next_line after_end line_end
from_next t at = rw (drop-drop (suc n) at t) (go (ltb (at + n) (length t)) refl)
  where
    n : ℕ
    n = bytes_before newline (drop at t)

    go : (x : Bool) → ltb (at + n) (length t) ≡ x → drop (pick x (at + n + 1) (at + n)) t ≡ drop (at + suc n) t
    go true e =
        let k : at + n + 1 ≡ at + suc n = omega arith in
        rw k
    go false e =
        let k = ltb-false (at + n) (length t) e in
        let j : length t ≤ at + suc n = omega arith in
        rw (drop_of_length-le t k, drop_of_length-le t j)

-- ---- the line at an offset

pub line_offset : (t : List ℕ) (at : ℕ) → (line_at t at).offset ≡ at
unfolding line_at
line_offset t at = refl

-- its bytes are those up to its end: what a caller cuts out who has found the end
pub line_cut : (t : List ℕ) (at end : ℕ) → end ≡ line_end t at → take (end - at) (drop at t) ≡ (line_at t at).text
unfolding line_at
line_cut t at end e = rw e

-- ---- lines from an offset on

-- from the end on there is no line
pub lines_end : (t : List ℕ) (at : ℕ) → length t ≤ at → lines_from t at ≡ []
unfolding lines_from with_offsets
lines_end t at h = rw (drop_of_length-le t h, no_line)

-- after a line's bytes and its byte 10 the next line starts; without that byte there is none
next_placed : (t : List ℕ) (at : ℕ) → with_offsets (line_end t at + 1) (lines_of (drop (next_line t at) t)) ≡ lines_from t (next_line t at)
unfolding lines_from next_line after_end with_offsets
next_placed t at = go (ltb end (length t)) refl
  where
    end : ℕ
    end = line_end t at

    go : (x : Bool) → ltb end (length t) ≡ x
        → with_offsets (end + 1) (lines_of (drop (pick x (end + 1) end) t)) ≡ with_offsets (pick x (end + 1) end) (lines_of (drop (pick x (end + 1) end) t))
    go true e = refl
    go false e = rw (drop_of_length-le t (ltb-false end (length t) e), no_line)

-- the line at an offset, before what stands after its byte 10
line_here : (t : List ℕ) (at : ℕ) → at < length t
    → lines_from t at ≡ line_at t at ∷ with_offsets (line_end t at + 1) (lines_of (drop (suc (bytes_before newline (drop at t))) (drop at t)))
unfolding lines_from line_at line_end with_offsets
line_here t at h =
    let m = length-drop at t in
    let z : at + bytes_before newline (drop at t) - at ≡ bytes_before newline (drop at t) = omega arith in
    rw (first_line (drop at t) (omega arith), length-take-le (bytes_before newline (drop at t)) (drop at t) (before_within newline (drop at t)), z)

pub lines_next : (t : List ℕ) (at : ℕ) → at < length t → lines_from t at ≡ line_at t at ∷ lines_from t (next_line t at)
lines_next t at h = rw (← next_placed t at, from_next t at) (line_here t at h)

-- ---- how many lines there are

placed_count : (at : ℕ) (ls : List (List ℕ)) → length (with_offsets at ls) ≡ length ls
unfolding with_offsets
placed_count at [] = refl
placed_count at (l ∷ ls) = ap suc (placed_count (at + length l + 1) ls)

pub count_from : (t : List ℕ) (at : ℕ) → length (lines_from t at) ≡ line_count (drop at t)
unfolding lines_from line_count
count_from t at = placed_count at (lines_of (drop at t))

-- from the next line on there is one line less
pub count_next : (t : List ℕ) (at : ℕ) → at < length t → line_count (drop at t) ≡ suc (line_count (drop (next_line t at) t))
count_next t at h = rw (← count_from t at, ← count_from t (next_line t at), lines_next t at h)

pub count_end : (t : List ℕ) (at : ℕ) → length t ≤ at → line_count (drop at t) ≡ 0
count_end t at h = rw (← count_from t at, lines_end t at h)

-- at an offset a line starts, or the timetable has ended
pub line_or_end : (t : List ℕ) (at : ℕ) → (at < length t) ⊎ (length t ≤ at)
line_or_end t at = go (ltb at (length t)) refl
  where
    go : (x : Bool) → ltb at (length t) ≡ x → (at < length t) ⊎ (length t ≤ at)
    go true e = inl (ltb-true at (length t) e)
    go false e = inr (ltb-false at (length t) e)

-- every line has a byte or ends with one
count_within_by : (k : ℕ) (t : List ℕ) (at : ℕ) → length t - at ≤ k → line_count (drop at t) ≤ length t - at
count_within_by zero t at h = omega (arith, count_end t at (omega arith))
count_within_by (suc k) t at h =
    ⊎_elim
    (λ l.
    let f = next_further t at l in
    let below = count_within_by k t (next_line t at) (omega arith) in
    omega (arith, count_next t at l))
    (λ e. omega (arith, count_end t at e))
    (line_or_end t at)

pub count_within : (t : List ℕ) (at : ℕ) → line_count (drop at t) ≤ length t - at
count_within t at = count_within_by (length t - at) t at (omega arith)

-- a timetable has at most as many lines as bytes
pub count_at_most_bytes : (t : List ℕ) → line_count t ≤ length t
count_at_most_bytes t = omega (arith, count_within t 0)
