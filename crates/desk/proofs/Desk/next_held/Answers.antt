use mathlib.Core.Path.{◌≡◌, ◌∙◌}
use mathlib.Core.Bool.{true, false}
use borrow.Author.Rules.{rules}
use borrow.Author.Tests.{tests}
use Prim.Native.Nat.{ℕ, ◌%◌}
use Rattle.std.specs.Option.{option_map}
use Rattle.std.proofs.lemmas.Iterator.{first_from_Range}
use Rattle.desk.specs.Bounds.{seat_count}
use Rattle.desk.specs.Seats.{seat_at}
use Rattle.desk.proofs.Found.{held_is_found}
use Rattle.desk.proofs.Desk.next_held.Goals as goal

pub returns : goal.returns
returns c =
    let d = c.args.self.now in
    let e : c.map.result ≡ option_map (λ (j : ℕ). j % seat_count) c.find.result = search rules in
    e
    ∙ held_is_found d c.find.result
    (first_from_Range _ _ _ _ (λ (j : ℕ). (seat_at d (j % seat_count)).held ≡ true) (λ (j : ℕ). (seat_at d (j % seat_count)).held ≡ false) c.find.ensures.ran
    (λ x q h. search (rules, tests))
    (λ x q h. search (rules, tests)))
