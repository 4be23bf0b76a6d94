use mathlib.Core.Path.{sym, ◌∙◌}
use native.Mathlib.Omega.{arith}
use Rattle.desk_seat.specs.Files.{over}
use Rattle.desk.proofs.Found.{none_next, found_seat, found_held, found_next}
use Rattle.desk.proofs.Lengths.{lengths_same}
use Rattle.desk.proofs.Soundness.{sound_last, sound_length, sound_seat}
use Rattle.desk.proofs.Desk.next.Goals as goal

pub next_held-requires : goal.next_held-requires
next_held-requires c = sound_last _ c.requires.0

pub returns-in_default : goal.returns-in_default
returns-in_default c = none_next c.args.self.now (sym c.in_default.is ∙ c.next_held.ensures) (over c.args.t.now)

pub serve-answer-requires : goal.serve-answer-requires
serve-answer-requires c =
    let d = c.args.self.now in
    let i = c.in-Some.i in
    let e = sym c.in-Some.is ∙ c.next_held.ensures in
    let f = over c.args.t.now in
    let same = lengths_same f d c.requires.1 in
    let long = sound_length d c.requires.0 in
    ((d.issued, rw same (sound_seat d c.requires.0 i (found_seat d i e) (found_held d i e))), omega arith)

pub returns : goal.returns
returns c =
    let d = c.args.self.now in
    let i = c.in-Some.i in
    let e = sym c.in-Some.is ∙ c.next_held.ensures in
    let s = c.serve-answer.ensures in
    found_next d i e (over c.args.t.now) ∙ rw (s.seat, s.answer)
