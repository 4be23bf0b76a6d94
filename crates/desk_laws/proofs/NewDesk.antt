-- A fresh desk is sound, and its first seat is the lowest free one; for files of a sound desk's lengths it is made, and
-- accepts what that desk accepted. A refused fresh desk is no desk: every call on it is refused as not sound.
use mathlib.Core.Path.{◌≡◌, refl}
use mathlib.Core.Bool.{true, false}
use Prim.Native.Nat.{ℕ, ◌≤◌, ◌<◌}
use native.Mathlib.Omega.{arith}
use borrow.Author.Tests.{le-leb, lt-leb}
use lib.ListN.{length}
use Rattle.basis.specs.Choice.{both, every}
use Rattle.basis.specs.Answer.{gives}
use Rattle.value.specs.Refusals.{wrong_timetable, not_sound}
use Rattle.desk_seat.specs.Files.{Files}
use Rattle.desk_seat.specs.Request.{Request}
use Rattle.desk_seat.specs.Bounds.{max_timetable}
use Rattle.desk_seat.proofs.Conditions.{accepted_checked}
use Rattle.desk.specs.Bounds.{seat_count}
use Rattle.desk.specs.Scan.{first_passing, all}
use Rattle.desk.specs.Seats.{first_from}
use Rattle.desk.specs.Soundness.{sound_at, sound_of}
use Rattle.desk.specs.Desk.{refused, fresh_desk, no_desk, fresh_of, fresh_for, open_of, close_of, have_lengths, turn_of}
use Rattle.desk.specs.declared.Desk.{Desk}
use Rattle.desk.proofs.Lengths.{lengths_same, same_lengths}
use Rattle.desk_laws.proofs.Sound.{Sound}
use Rattle.desk_laws.proofs.Steps.{Seated}

pub fresh_sound : (n : ℕ) → n ≤ max_timetable → sound_of (fresh_desk n) ≡ true
unfolding sound_of every both all sound_at
fresh_sound n l = rw (le-leb n max_timetable l)

pub fresh_free : (n : ℕ) → first_from (fresh_desk n) false 0 ≡ 0
unfolding first_passing
fresh_free n = refl

-- ---- for files that have a sound desk's lengths
pub record NewFor (f : Files) (d : Desk) : Type 0 where
  pub size : length d.seats ≡ seat_count
  pub sound : sound_of d ≡ true
  pub lengths : have_lengths f d ≡ true
  pub free : first_from d false 0 ≡ 0
  pub issued : d.issued ≡ 0

pub new_for : (f : Files) (d : Desk) → Sound d → have_lengths f d ≡ true → NewFor f (fresh_for f).desk
unfolding fresh_of
new_for f d o e =
    let same = lengths_same f d e in
    let short = o.short in
    let l : length f.timetable ≤ max_timetable = omega arith in
    rw (le-leb (length f.timetable) max_timetable l)
    (record {
      size = refl;
      sound = fresh_sound (length f.timetable) l;
      lengths = same_lengths f (fresh_desk (length f.timetable)) refl;
      free = fresh_free (length f.timetable);
      issued = refl;
    })

-- it accepts what some desk accepted, as ticket 1
pub new_accepts : (f : Files) (r : Request) (d n : Desk) → NewFor f n → Seated r d → (open_of r n).answer ≡ gives 1
unfolding open_of
new_accepts f r d n new w = rw (new.sound, accepted_checked r.condition w.good, new.free, new.issued)

-- ---- refused
pub fresh_too_long : (n : ℕ) → max_timetable < n → fresh_of n ≡ refused no_desk wrong_timetable
unfolding fresh_of
fresh_too_long n l = rw (lt-leb n max_timetable l)

pub no_desk_sound : sound_of no_desk ≡ false
unfolding sound_of every both
no_desk_sound = refl

pub no_desk_open : (r : Request) → open_of r no_desk ≡ refused no_desk not_sound
unfolding open_of
no_desk_open r = rw no_desk_sound

pub no_desk_close : (k : ℕ) → close_of k no_desk ≡ refused no_desk not_sound
unfolding close_of
no_desk_close k = rw no_desk_sound

pub no_desk_turn : (f : Files) → turn_of f no_desk ≡ refused no_desk not_sound
unfolding turn_of
no_desk_turn f = rw no_desk_sound
