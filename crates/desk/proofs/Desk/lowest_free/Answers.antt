use mathlib.Core.Path.{◌≡◌, refl, ◌∙◌}
use mathlib.Core.Bool.{Bool, not, true, false, beq}
use Prim.Native.Nat.{◌%◌}
use native.Mathlib.Omega.{arith}
use borrow.Author.Rules.{rules}
use borrow.Author.Tests.{tests}
use lib.ListN.{length}
use Rattle.std.proofs.lemmas.Iterator.{YieldsList-from_slice}
use Rattle.std.proofs.lemmas.Iterator.Search.{position_from_yields_List}
use Rattle.desk_seat.specs.declared.Seat.{Seat}
use Rattle.desk.specs.Bounds.{seat_count}
use Rattle.desk.specs.Seats.{held_is}
use Rattle.desk.proofs.Found.{place_found}
use Rattle.desk.proofs.Desk.lowest_free.Goals as goal

free_is : (b : Bool) → not b ≡ beq b false
free_is true = refl
free_is false = refl

pub returns : goal.returns
returns c =
    let d = c.args.self.now in
    let long : length d.seats ≡ seat_count = search rules in
    position_from_yields_List (λ (s : Seat). not s.held) _ _ _ c.position.ensures.ran (YieldsList-from_slice d.seats cc) (λ x b q h. search (rules, tests))
    ∙ place_found d long (λ (s : Seat). not s.held) (held_is d false) (λ i l. let e : i % seat_count ≡ i = omega arith in rw e (free_is _))
