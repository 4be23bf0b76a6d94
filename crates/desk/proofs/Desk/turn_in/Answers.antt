use Rattle.basis.proofs.Tests.{no, yes}
use Rattle.desk_seat.specs.Files.{over}
use Rattle.desk.specs.Desk.{turn_of}
use Rattle.desk.proofs.Lengths.{same_lengths, other_lengths}
use Rattle.desk.proofs.Desk.turn_in.Goals as goal

pub returns-then-not-sound : goal.returns-then-not-sound
unfolding turn_of
returns-then-not-sound c = simp (c.numbered.ensures, no c.sound.ensures c.if-not-sound.true)

pub returns-then-t-self : goal.returns-then-t-self
unfolding turn_of
returns-then-t-self c =
    simp (c.numbered-then-t-self.ensures, yes c.sound.ensures c.if-not-sound.false, other_lengths (over c.args.t.now) c.args.self.now c.if-t-self.true)

pub returns : goal.returns
unfolding turn_of
returns c =
    let e = same_lengths (over c.args.t.now) c.args.self.now c.if-t-self.false in
    simp (yes c.sound.ensures c.if-not-sound.false, e) c.next.ensures
