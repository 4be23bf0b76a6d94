use native.Mathlib.Omega.{arith}
use mathlib.Core.Path.{◌≡◌, ◌∙◌}
use lib.ListN.{length}
use Rattle.output_pieces.specs.Pieces.{start_piece}
use Rattle.desk_host.proofs.Serving.{stops, goes_within, goes_on}
use Rattle.desk_host.proofs.play.Goals as goal

pub serve_in-requires : goal.serve_in-requires
serve_in-requires g c =
    let t = c.args.t.now in
    let input = c.args.input.now in
    let begun = c.begin in
    let sent = c.in_ok-sent in
    let n : sent.sent.told ≡ length (start_piece (length t) (length input)).text = omega (arith, sent.ensures.0, begun.ensures.1.count) in
    goes_within t input begun.result.desk sent.sent.told begun.ensures.0 n sent.sent.more (sent.ensures.1 ∙ begun.ensures.1.more) c.if-sent.true

pub returns-in_ok-told : goal.returns-in_ok-told
returns-in_ok-told g c =
    let t = c.args.t.now in
    let input = c.args.input.now in
    let begun = c.begin in
    let sent = c.in_ok-sent in
    let n : sent.sent.told ≡ length (start_piece (length t) (length input)).text = omega (arith, sent.ensures.0, begun.ensures.1.count) in
    goes_on t input begun.result.desk sent.sent.told begun.ensures.0 n sent.sent.more (sent.ensures.1 ∙ begun.ensures.1.more) c.if-sent.true _ _ c.in_ok-told.ensures

pub returns-else-sent : goal.returns-else-sent
returns-else-sent g c =
    let t = c.args.t.now in
    let input = c.args.input.now in
    let begun = c.begin in
    let sent = c.in_ok-sent in
    let n : sent.sent.told ≡ length (start_piece (length t) (length input)).text = omega (arith, sent.ensures.0, begun.ensures.1.count) in
    stops t input begun.result.desk sent.sent.told begun.ensures.0 n sent.sent.more (sent.ensures.1 ∙ begun.ensures.1.more) c.if-sent.false
