use mathlib.Core.Path.{ap, subst, ◌∙◌}
use Rattle.value.specs.Values.{ok_offset}
use Rattle.value.specs.declared.Offset.{Offset}
use Rattle.value_instants.proofs.Instants.{utc_good}
use Rattle.run_cases.specs.StandsFor.{stands_for}
use Rattle.run_cases.specs.Carried.{Shows}
use Rattle.desk_seat.proofs.Serving.{serve_case}
use Rattle.desk_seat.proofs.Seat.turn_at.Goals as goal

pub at_place-there-requires : goal.at_place-there-requires
at_place-there-requires c = (c.requires.1, ap ok_offset c.utc.ensures ∙ utc_good)

pub returns : goal.returns
returns c =
    let s = c.args.self.now in
    let line = c.args.line.now in
    let there = c.at_place-there in
    let shows = subst (λ (o : Offset). Shows there.result line (stands_for o line) s.place) c.utc.ensures there.ensures in
    λ f l n.
    rw (serve_case f s line c.args.next c.onward-to.result there.result l n shows c.onward-to.ensures)
    (rw (rw c.asked.ensures at c.result_at-res.ensures) at c.judged_as.ensures)
