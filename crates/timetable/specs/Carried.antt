-- Carried: where a field stands in a line, as the calls that find it hand it on. No promise to a caller rests on it: a field is
-- `field_at` of Fields.antt.
use Rattle.std.specs.Prelude.{◌≡◌, Bool, true, false, List, [], ◌∷◌, ℕ, eqb, ◌-◌, ◌≤◌, length, take, drop, Option, Some, None}
use Rattle.timetable.specs.Parted.{bytes_before}
use Rattle.timetable.specs.Fields.{tab, fields_of, has_field, field_at}
use Rattle.timetable.specs.declared.fields.FieldEnds.{FieldEnds}

-- the offset at which the n-th field starts, for a line that has it: the fields from it on are those from that offset on
pub record StartsAt (at : ℕ) (line : List ℕ) (n : ℕ) : Type 0 where
  pub there : has_field line n ≡ true
  pub within : at ≤ length line
  pub rest : drop (n - 1) (fields_of line) ≡ fields_of (drop at line)

-- that offset, or that the line has no n-th field
abbrev pub Starts : Option ℕ → List ℕ → ℕ → Type 0
Starts (Some at) line n = StartsAt at line n
Starts None line n = has_field line n ≡ false

-- the ends of the n-th field, for a line that has it
pub record StretchesOver (r : FieldEnds) (line : List ℕ) (n : ℕ) : Type 0 where
  pub there : has_field line n ≡ true
  pub from : r.start ≤ r.end
  pub within : r.end ≤ length line
  pub text : take (r.end - r.start) (drop r.start line) ≡ field_at line n

-- those ends, or that the line has no n-th field
abbrev pub Stretches : Option FieldEnds → List ℕ → ℕ → Type 0
Stretches (Some r) line n = StretchesOver r line n
Stretches None line n = has_field line n ≡ false

-- the bytes before the first tab: all of them where there is none
abbrev pub up_to_tab : List ℕ → List ℕ
up_to_tab s = take (bytes_before tab s) s

-- whether a field ends before these bytes: there are none, or the first is a tab
abbrev pub ends_field : List ℕ → Bool
ends_field [] = true
ends_field (b ∷ bs) = eqb b tab
