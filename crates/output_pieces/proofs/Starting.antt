-- The piece of the start, by its three cases: the timetable too long, otherwise the input too long, otherwise neither.
use mathlib.Core.Path.{◌≡◌, refl}
use mathlib.Core.Bool.{Bool, true, false}
use Prim.Native.Nat.{ℕ, ◌≤◌, ◌<◌}
use lib.Dec.{ltb}
use borrow.Author.Tests.{lt-ltb, le-ltb}
use Rattle.basis.specs.Choice.{pick}
use Rattle.value.specs.Refusals.{bad_condition, wrong_timetable}
use Rattle.desk_seat.specs.Bounds.{max_timetable}
use Rattle.desk.specs.Desk.{fresh_of}
use Rattle.output_pieces.specs.Bounds.{max_input}
use Rattle.output_pieces.specs.Pieces.{stopped, begun, start_piece}

module _ (long given : ℕ) where
  pub long_timetable : max_timetable < long → start_piece long given ≡ stopped (fresh_of long).desk wrong_timetable
  unfolding start_piece
  long_timetable l = rw (lt-ltb max_timetable long l)

  module _ (h : long ≤ max_timetable) where
    pub long_input : max_input < given → start_piece long given ≡ stopped (fresh_of long).desk bad_condition
    unfolding start_piece
    long_input l = rw (le-ltb max_timetable long h, lt-ltb max_input given l)

    pub both_fit : given ≤ max_input → start_piece long given ≡ begun (fresh_of long).desk
    unfolding start_piece
    both_fit l = rw (le-ltb max_timetable long h, le-ltb max_input given l)

  -- the desk is a fresh one in any case
  pub start_desk : (start_piece long given).desk ≡ (fresh_of long).desk
  unfolding start_piece
  start_desk = go (ltb max_timetable long) (ltb max_input given)
    where
      go : (a b : Bool) → (pick a (stopped (fresh_of long).desk wrong_timetable) (pick b (stopped (fresh_of long).desk bad_condition) (begun (fresh_of long).desk))).desk ≡ (fresh_of long).desk
      go true b = refl
      go false true = refl
      go false false = refl
