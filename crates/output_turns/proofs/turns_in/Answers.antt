use native.Mathlib.Omega.{arith}
use mathlib.Core.Path.{sym, ◌∙◌}
use Prim.Native.Nat.{◌≤◌, ◌<◌}
use lib.ListN.{length}
use Rattle.basis.proofs.Tests.{no, yes}
use Rattle.basis.specs.Answer.{gives}
use Rattle.desk_seat.specs.Files.{over}
use Rattle.desk.proofs.Lengths.{same_lengths, other_lengths}
use Rattle.output_turns.specs.Turns.{taken, turns_of, room_after}
use Rattle.output_turns.proofs.Calls.{turns_none, turns_some, desk_stays, room_after_lem}
use Rattle.output_turns.proofs.turns_in.Goals as goal

pub returns-then-not-sound : goal.returns-then-not-sound
unfolding turns_of room_after
returns-then-not-sound c =
    let h = no c.sound.ensures c.if-not-sound.true in
    (simp h, simp (c.numbered.ensures, h), simp h)

pub returns-then-t-desk : goal.returns-then-t-desk
unfolding turns_of room_after
returns-then-t-desk c =
    let h = yes c.sound.ensures c.if-not-sound.false in
    let l = other_lengths (over c.args.t.now) c.args.desk.now c.if-t-desk.true in
    (simp (h, l), simp (c.numbered-then-t-desk.ensures, h, l), simp (h, l))

pub take_turns-written-requires : goal.take_turns-written-requires
take_turns-written-requires c = (yes c.sound.ensures c.if-not-sound.false, same_lengths (over c.args.t.now) c.args.desk.now c.if-t-desk.false)

pub returns-then-written-eq0 : goal.returns-then-written-eq0
returns-then-written-eq0 c =
    let f = over c.args.t.now in
    let d = c.args.desk.now in
    let room = c.args.room.now in
    let h = yes c.sound.ensures c.if-not-sound.false in
    let e = same_lengths f d c.if-t-desk.false in
    let x = c.take_turns-written.ensures in
    let l : length (taken f d (length room)).text < 1 = omega (arith, x.count, c.if-written-eq0.true) in
    let z = turns_none f d (length room) h e l in
    (x.desk ∙ desk_stays f d (length room) l ∙ sym (rw z), rw (c.numbered-then-written-eq0.ensures, z), x.room ∙ sym (room_after_lem f d room h e))

pub returns : goal.returns
returns c =
    let f = over c.args.t.now in
    let d = c.args.desk.now in
    let room = c.args.room.now in
    let h = yes c.sound.ensures c.if-not-sound.false in
    let e = same_lengths f d c.if-t-desk.false in
    let x = c.take_turns-written.ensures in
    let l : 1 ≤ length (taken f d (length room)).text = omega (arith, x.count, c.if-written-eq0.false) in
    let z = turns_some f d (length room) h e l in
    (x.desk ∙ sym (rw z), rw z (λ i. gives (record { count = x.count i; idle = x.idle i })), x.room ∙ sym (room_after_lem f d room h e))
