use Rattle.std.proofs.Common.{◌≡◌, ap, sym, ◌∙◌, arith, true, List, ℕ}
use Rattle.basis.specs.Letters.{bytes}
use Rattle.condition_words.specs.Words.{same}
use Rattle.timetable.specs.Fields.{field_at}
use Rattle.hostile.proofs.Literals.{literals, each_byte}
use Rattle.hostile.specs.Events.{set_by}
use Rattle.hostile.proofs.events.set_event.Goals as goal

pub returns-in_ok-last_number-in-issued : goal.returns-in_ok-last_number-in-issued
unfolding set_by
returns-in_ok-last_number-in-issued c =
    let b : same c.field.result.now (bytes "issued") ≡ true = each_byte _ _ (omega arith) (grind arith) in
    let a : same (field_at c.args.line.now 2) (bytes "issued") ≡ true = ap (λ (w : List ℕ). same w (bytes "issued")) (sym c.field.ensures) ∙ b in
    grind (arith, literals)

pub returns-in_ok-last_number-in-108 : goal.returns-in_ok-last_number-in-108
unfolding set_by
returns-in_ok-last_number-in-108 c =
    let b : same c.field.result.now (bytes "last_served") ≡ true = each_byte _ _ (omega arith) (grind arith) in
    let a : same (field_at c.args.line.now 2) (bytes "last_served") ≡ true = ap (λ (w : List ℕ). same w (bytes "last_served")) (sym c.field.ensures) ∙ b in
    grind (arith, literals)
