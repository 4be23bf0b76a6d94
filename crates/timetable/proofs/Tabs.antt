-- How the n-th field of a line is found: it starts after n - 1 tabs, and the fields from there on are those of what is left of the line.
use mathlib.Core.Path.{◌≡◌, refl, ap, sym, ◌∙◌}
use mathlib.Core.Bool.{false}
use mathlib.Core.List.{List, [], ◌∷◌}
use Prim.Native.Nat.{ℕ, suc, ◌+◌, ◌-◌, ◌≤◌, ◌<◌}
use native.Mathlib.Omega.{arith}
use lib.ListN.{length, drop, length-drop}
use lib.Seq.{get_or-drop, drop-drop}
use borrow.Author.Tests.{lt-ltb, le-ltb}
use Rattle.timetable.specs.Parted.{parted, bytes_before}
use Rattle.timetable.specs.Fields.{tab, fields_of, has_field, field_at}
use Rattle.timetable.specs.Carried.{StartsAt, StretchesOver, up_to_tab}
use Rattle.timetable.proofs.Parting.{first_part, parts_after, offset_within}
use Rattle.timetable.proofs.Counting.{has_field_when, has_field_only, has_first_field, no_field_beyond}

-- every line has a field, and it starts at once
pub first_start : (line : List ℕ) → StartsAt 0 line 1
first_start line = record { there = has_first_field line; within = omega arith; rest = refl }

-- a list has at least one part
some_part : (s : List ℕ) → 1 ≤ length (parted tab s)
some_part s = omega (arith, ap length (first_part tab s))

module _ (line : List ℕ) (at n : ℕ) (s : StartsAt at line n) where
  counted : 1 ≤ n
  counted = (has_field_only line n s.there).0

  -- the field at the offset, and the fields after it
  here : drop (n - 1) (fields_of line) ≡ up_to_tab (drop at line) ∷ parts_after tab (bytes_before tab (drop at line)) (drop at line)
  unfolding fields_of
  here = s.rest ∙ first_part tab (drop at line)

  -- the field goes up to the next tab
  pub field_from_lem : field_at line n ≡ up_to_tab (drop at line)
  unfolding field_at
  field_from_lem =
      let z : n - 1 + 0 ≡ n - 1 = omega arith in
      rw (s.there, ← z, ← get_or-drop (n - 1) (fields_of line) 0 [], here)

  module _ (end : ℕ) (e : end ≡ at + bytes_before tab (drop at line)) where
    -- the next field starts after that tab
    pub next_start : end < length line → StartsAt (end + 1) line (n + 1)
    unfolding fields_of
    next_start h =
        let b = bytes_before tab (drop at line) in
        let l = counted in
        let more : b < length (drop at line) = omega (arith, length-drop at line) in
        let f : drop (n - 1) (fields_of line) ≡ up_to_tab (drop at line) ∷ parted tab (drop (suc b) (drop at line)) = rw (lt-ltb _ _ more) at here in
        let j : at + suc b ≡ end + 1 = omega arith in
        let k : n + 1 - 1 ≡ n - 1 + 1 = omega arith in
        let r : drop (n + 1 - 1) (fields_of line) ≡ parted tab (drop (end + 1) line) =
        ap (λ m. drop m (fields_of line)) k
        ∙ sym (drop-drop 1 (n - 1) (fields_of line))
        ∙ ap (drop 1) f
        ∙ ap (parted tab) (drop-drop (suc b) at line ∙ ap (λ m. drop m line) j) in
        record {
          there = has_field_when line (n + 1) (omega arith) (omega (arith, ap length r, length-drop (n + 1 - 1) (fields_of line), some_part (drop (end + 1) line)));
          within = omega arith;
          rest = r;
        }

    -- at the line's end there is no further field
    pub last_start : length line ≤ end → (m : ℕ) → n < m → has_field line m ≡ false
    last_start h m l =
        let b = bytes_before tab (drop at line) in
        let w = s.within in
        let i = counted in
        let more : length (drop at line) ≤ b = omega (arith, length-drop at line) in
        let f : drop (n - 1) (fields_of line) ≡ up_to_tab (drop at line) ∷ [] = rw (le-ltb _ _ more) at here in
        no_field_beyond line m (omega (arith, ap length f, length-drop (n - 1) (fields_of line)))

    -- what stands between the two is the field
    pub stretches : StretchesOver (record { start = at; end = end }) line n
    stretches =
        let k : end - at ≡ bytes_before tab (drop at line) = omega arith in
        record {
          there = s.there;
          from = omega arith;
          within = offset_within tab line at s.within e;
          text = rw k (sym field_from_lem);
        }
