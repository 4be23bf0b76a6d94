-- A sound seat as a list of facts, both ways: what such a seat tells, and that a seat which is not sound lacks one of them.
use mathlib.Core.Path.{◌≡◌, refl}
use mathlib.Core.Bool.{Bool, true}
use mathlib.Core.List.{List, [], ◌∷◌}
use Prim.Native.Nat.{ℕ, zero, suc, ◌+◌, ◌*◌, ◌≤◌, ◌<◌}
use native.Mathlib.Omega.{arith}
use borrow.Author.Tests.{lt-ltb, le-leb, leb-true, ltb-true}
use lib.ListN.{get_or}
use Rattle.basis.specs.Choice.{every}
use Rattle.basis.proofs.Tests.{both_left, both_right, both_true}
use Rattle.run_times.specs.Occurrences.{most_occurrences}
use Rattle.desk_seat.specs.Bounds.{condition_room, max_timetable, max_count}
use Rattle.desk_seat.specs.Conditions.{accepted}
use Rattle.desk_seat.specs.Seat.{condition_of}
use Rattle.desk_seat.specs.Soundness.{seat_sound}
use Rattle.desk_seat.specs.declared.Seat.{Seat}

-- a test of a list of tests that all hold
pub every_at : (bs : List Bool) (i : ℕ) → every bs ≡ true → get_or bs i true ≡ true
unfolding every
every_at [] i h = λ _. true
every_at (b ∷ bs) zero h = both_left b (every bs) h
every_at (b ∷ bs) (suc i) h = every_at bs i (both_right b (every bs) h)

-- what a held seat of a sound desk has, besides that its ticket was issued
pub record Servable (long : ℕ) (s : Seat) : Type 0 where
  pub numbered : 1 ≤ s.ticket
  pub good : accepted (condition_of s) ≡ true
  pub room : s.condition_length ≤ condition_room
  pub within : s.offset ≤ long
  pub place : s.place < most_occurrences
  pub counts : s.hits + s.unreadable ≤ most_occurrences * s.offset + s.place

module _ (k long : ℕ) (s : Seat) where
  pub servable : seat_sound k long s ≡ true → Servable long s
  unfolding seat_sound
  servable h =
      record {
        numbered = leb-true _ _ (every_at _ 0 h);
        good = every_at _ 3 h;
        room = leb-true _ _ (every_at _ 2 h);
        within = leb-true _ _ (every_at _ 4 h);
        place = ltb-true _ _ (every_at _ 5 h);
        counts = leb-true _ _ (every_at _ 6 h);
      }

  pub was_issued : seat_sound k long s ≡ true → s.ticket ≤ k
  unfolding seat_sound
  was_issued h = leb-true _ _ (every_at _ 1 h)

  pub servable_sound : s.ticket ≤ k → Servable long s → seat_sound k long s ≡ true
  unfolding seat_sound every
  servable_sound l v =
      both_true _ _ (le-leb 1 s.ticket v.numbered)
      (both_true _ _ (le-leb s.ticket k l)
      (both_true _ _ (le-leb s.condition_length condition_room v.room)
      (both_true _ _ v.good
      (both_true _ _ (le-leb s.offset long v.within)
      (both_true _ _ (lt-ltb s.place most_occurrences v.place)
      (both_true _ _ (le-leb (s.hits + s.unreadable) (most_occurrences * s.offset + s.place) v.counts) refl))))))

-- its counts are within their bound
pub counts_bounded : (long : ℕ) (s : Seat) → long ≤ max_timetable → Servable long s → (s.hits ≤ max_count) × (s.unreadable ≤ max_count)
counts_bounded long s m v =
    let c = v.counts in
    let p = v.place in
    let w = v.within in
    (omega arith, omega arith)

-- while a line is left, they have room for one more
pub counts_room : (long : ℕ) (s : Seat) → long ≤ max_timetable → s.offset < long → Servable long s → (s.hits < max_count) × (s.unreadable < max_count)
counts_room long s m l v = let c = v.counts in let p = v.place in (omega arith, omega arith)
