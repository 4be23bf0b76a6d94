-- Which fields a line has: the first always, and the n-th exactly where n is at least 1 and at most the number of its
-- fields.
use mathlib.Core.Path.{◌≡◌, refl}
use mathlib.Core.Bool.{true, false}
use mathlib.Core.List.{List, []}
use Prim.Native.Nat.{ℕ, ◌≤◌, ◌<◌}
use native.Mathlib.Omega.{arith}
use lib.Dec.{leb}
use lib.ListN.{length}
use borrow.Author.Tests.{le-leb, lt-leb, leb-true}
use Rattle.basis.specs.Choice.{both}
use Rattle.basis.proofs.Tests.{both_left, both_right}
use Rattle.timetable.specs.Fields.{tab, fields_of, has_field, field_at}
use Rattle.timetable.proofs.Parting.{first_part}

pub has_field_when : (line : List ℕ) (n : ℕ) → 1 ≤ n → n ≤ length (fields_of line) → has_field line n ≡ true
unfolding has_field both
has_field_when line n a b = rw (le-leb 1 n a, le-leb n (length (fields_of line)) b)

pub has_field_only : (line : List ℕ) (n : ℕ) → has_field line n ≡ true → (1 ≤ n) × (n ≤ length (fields_of line))
unfolding has_field
has_field_only line n e =
    (leb-true 1 n (both_left _ _ e), leb-true n (length (fields_of line)) (both_right (leb 1 n) (leb n (length (fields_of line))) e))

-- counting begins at 1, and ends at the number of the fields
pub no_field_zero : (line : List ℕ) → has_field line 0 ≡ false
unfolding has_field both
no_field_zero line = refl

pub no_field_beyond : (line : List ℕ) (n : ℕ) → length (fields_of line) < n → has_field line n ≡ false
unfolding has_field both
no_field_beyond line n h = rw (le-leb 1 n (omega arith), lt-leb n (length (fields_of line)) h)

-- a field that the line has not reads as the empty one
pub no_field_empty : (line : List ℕ) (n : ℕ) → has_field line n ≡ false → field_at line n ≡ []
unfolding field_at
no_field_empty line n e = rw e

-- every line has a field, the empty line too
pub has_first_field : (line : List ℕ) → has_field line 1 ≡ true
unfolding fields_of
has_first_field line = has_field_when line 1 (omega arith) (rw (first_part tab line) (omega arith))
