use native.Mathlib.Omega.{arith}
use mathlib.Core.Path.{◌≡◌, refl, sym, ◌∙◌}
use lib.ListN.{length}
use borrow.Author.Rules.{rules}
use Rattle.desk_seat.specs.Files.{over}
use Rattle.desk_seat.specs.declared.TurnAnswer.TheVariants as TV
use Rattle.desk.specs.Bounds.{seat_count}
use Rattle.desk.proofs.Soundness.{sound_last}
use Rattle.desk_laws.proofs.Sound.{sound_in}
use Rattle.output_turns.proofs.Bounded.{next_within}
use Rattle.output_turns.proofs.Fitting.{put_some, put_none}
use Rattle.output_turns.proofs.Going.{going_starts}
use Rattle.output_turns.proofs.Served.{idle_next, found_sound, stored, stored_next, stored_some}
use Rattle.output_turns.proofs.Rounds.{ran_full, ran_out, ran_idle, goes_further, goes_on}
use Rattle.output_turns.proofs.take_turns.Goals as goal

pub loop-count-init : goal.loop-count-init
loop-count-init c = record { sound = c.requires.0; same = c.requires.1; going = going_starts _ _ _ }

pub next_held-requires : goal.next_held-requires
next_held-requires c = sound_last _ c.loop-count.invariant.sound

-- ---- Idle

pub returns-in-Some-put_fitting : goal.returns-in-Some-put_fitting
returns-in-Some-put_fitting c =
    let d = c.loop-count.desk in
    let turned = idle_next (over c.args.t.now) d (sym c.in_default.is ∙ c.next_held.ensures) in
    ran_idle c.loop-count.invariant (record { desk = d; answer = TV.Idle }) turned c.turn_line-line.result c.turn_line-line.ensures
    (put_some c.put_fitting.ensures c.in-Some-put_fitting.is)
    refl

pub returns-in-None : goal.returns-in-None
returns-in-None c =
    let d = c.loop-count.desk in
    let turned = idle_next (over c.args.t.now) d (sym c.in_default.is ∙ c.next_held.ensures) in
    ran_out c.loop-count.invariant (record { desk = d; answer = TV.Idle }) turned c.turn_line-line.result c.turn_line-line.ensures
    (put_none c.put_fitting.ensures c.in-None.is)

-- ---- a held seat is served

pub serve-requires : goal.serve-requires
serve-requires c =
    let g = c.loop-count.invariant in
    found_sound (over c.args.t.now) c.loop-count.desk c.in-Some.i (sym c.in-Some.is ∙ c.next_held.ensures) g.sound g.same

pub turn_line-line-requires-in-loop-count : goal.turn_line-line-requires-in-loop-count
turn_line-line-requires-in-loop-count c =
    let f = over c.args.t.now in
    let d = c.loop-count.desk in
    let i = c.in-Some.i in
    let g = c.loop-count.invariant in
    let z : length d.seats ≡ seat_count = search rules in
    let turned = stored_next f d i (sym c.in-Some.is ∙ c.next_held.ensures) c.serve.new.self c.serve.result c.serve.ensures in
    next_within f d (sound_in d z g.sound) g.same (stored d i c.serve.new.self c.serve.result) turned

pub loop-count-smaller : goal.loop-count-smaller
loop-count-smaller c =
    let f = over c.args.t.now in
    let d = c.loop-count.desk in
    let i = c.in-Some.i in
    let s = c.serve in
    let turned = stored_next f d i (sym c.in-Some.is ∙ c.next_held.ensures) s.new.self s.result s.ensures in
    let line = c.turn_line-line-in-loop-count in
    let further = goes_further c.loop-count.invariant (stored d i s.new.self s.result) turned line.result line.ensures
    (put_some c.put_fitting-in-loop-count.ensures c.in-Some-put_fitting-2.is) in
    let size = c.loop-count.invariant.going.size in
    omega arith

pub loop-count-preserved : goal.loop-count-preserved
loop-count-preserved c =
    let f = over c.args.t.now in
    let d = c.loop-count.desk in
    let i = c.in-Some.i in
    let s = c.serve in
    let e = sym c.in-Some.is ∙ c.next_held.ensures in
    let turned = stored_next f d i e s.new.self s.result s.ensures in
    let z : length d.seats ≡ seat_count = search rules in
    let some = stored_some f d i e s.new.self s.result s.ensures in
    let line = c.turn_line-line-in-loop-count in
    goes_on c.loop-count.invariant (stored d i s.new.self s.result) turned line.result line.ensures
    (put_some c.put_fitting-in-loop-count.ensures c.in-Some-put_fitting-2.is)
    z
    some

-- ---- it stops

pub returns-in_default-put_fitting : goal.returns-in_default-put_fitting
returns-in_default-put_fitting c =
    let f = over c.args.t.now in
    let d = c.loop-count.desk in
    let i = c.in-Some.i in
    let s = c.serve in
    let turned = stored_next f d i (sym c.in-Some.is ∙ c.next_held.ensures) s.new.self s.result s.ensures in
    let line = c.turn_line-line-in-loop-count in
    ran_out c.loop-count.invariant (stored d i s.new.self s.result) turned line.result line.ensures
    (put_none c.put_fitting-in-loop-count.ensures c.in_default-put_fitting.is)

pub returns-after-loop-count : goal.returns-after-loop-count
returns-after-loop-count c = ran_full c.loop-count.invariant c.loop-count-test.false
