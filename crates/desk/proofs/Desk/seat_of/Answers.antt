use mathlib.Core.Path.{◌≡◌, refl, ◌∙◌}
use mathlib.Core.Bool.{Bool, true, false, ◌&&◌}
use borrow.Author.Rules.{rules}
use borrow.Author.Tests.{tests}
use lib.Dec.{eqb}
use lib.ListN.{length}
use Rattle.std.proofs.lemmas.Iterator.{YieldsList-from_slice}
use Rattle.std.proofs.lemmas.Iterator.Search.{position_from_yields_List}
use Rattle.basis.specs.Choice.{both}
use Rattle.desk_seat.specs.declared.Seat.{Seat}
use Rattle.desk.specs.Bounds.{seat_count}
use Rattle.desk.specs.Seats.{has_ticket}
use Rattle.desk.proofs.Found.{place_found}
use Rattle.desk.proofs.Desk.seat_of.Goals as goal

both_and : (a b : Bool) → (a && b) ≡ both a b
unfolding both
both_and true b = refl
both_and false b = refl

pub returns : goal.returns
returns c =
    let d = c.args.self.now in
    let k = c.args.ticket in
    let long : length d.seats ≡ seat_count = search rules in
    position_from_yields_List (λ (s : Seat). s.held && eqb s.ticket k) _ _ _ c.position.ensures.ran (YieldsList-from_slice d.seats cc)
    (λ x b q h. search (rules, tests))
    ∙ place_found d long (λ (s : Seat). s.held && eqb s.ticket k) (has_ticket d k) (λ i l. both_and _ _)
