use mathlib.Core.Path.{◌≡◌, refl}
use mathlib.Core.Bool.{true, false}
use native.Mathlib.Omega.{arith}
use borrow.Author.Rules.{rules}
use borrow.Author.Tests.{tests}
use Rattle.std.proofs.lemmas.Grind.{common_steps}
use Rattle.std.proofs.lemmas.Iterator.{cases_from_all, YieldsList-from_range}
use Rattle.basis.specs.Choice.{both, every}
use Rattle.desk.specs.Bounds.{seat_count}
use Rattle.desk.specs.Scan.{all}
use Rattle.desk.specs.Soundness.{sound_at, sound_of}
use Rattle.desk.proofs.Found.{all_said}
use Rattle.desk.proofs.Desk.sound.Goals as goal

pub returns-then-self-le-MAX_TIMETABLE : goal.returns-then-self-le-MAX_TIMETABLE
unfolding sound_of every both
returns-then-self-le-MAX_TIMETABLE c =
    let d = c.args.self.now in
    let e : c.all.result ≡ all (sound_at d) seat_count = all_said (sound_at d) seat_count _
    (cases_from_all _ _ _ (λ x. sound_at d x ≡ true) (λ x. sound_at d x ≡ false) c.all.ensures.ran (YieldsList-from_range 0 seat_count seat_count refl refl)
    (λ x q k. search (rules, tests)) (λ x q k. search (rules, tests))) in
    grind (arith, common_steps, e)

pub returns-else-self-le-MAX_TIMETABLE : goal.returns-else-self-le-MAX_TIMETABLE
unfolding sound_of every both
returns-else-self-le-MAX_TIMETABLE c = grind (arith, common_steps)
