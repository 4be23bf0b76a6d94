use Rattle.std.specs.Prelude.{◌≡◌, ℕ, List}
use mathlib.Core.Path.{ap, ◌∙◌}
use denote.Bor.{Bor}
use Rattle.timetable.specs.Lines.{line_end, next_line, lines_from}
use Rattle.output_pieces.specs.Pieces.{opened_all}
use Rattle.desk_host.proofs.Opening.{to_tell, one_told, next_opened, next_amount, all_opened, all_told, from_start, told_from_start, nearer}
use Rattle.desk_host.proofs.open_all.Goals as goal

-- the reader's line ends where the input's does
ends : {t s : List ℕ} (i : ℕ) {e : ℕ} → t ≡ s → e ≡ line_end t i → e ≡ line_end s i
ends i r q = q ∙ ap (λ (x : List ℕ). line_end x i) r

-- and the one after it starts where the input's does
goes : {t s : List ℕ} (i : ℕ) {j : ℕ} → t ≡ s → j ≡ next_line t i → j ≡ next_line s i
goes i r q = q ∙ ap (λ (x : List ℕ). next_line x i) r

pub loop-reader-init : goal.loop-reader-init
loop-reader-init g c = record {
  reads = ap (λ (b : Bor (List ℕ)). b.now) c.new-reader.ensures.0;
  opens = ap (λ (i : ℕ). opened_all (lines_from c.args.input.now i) c.args.desk.now) c.new-reader.ensures.1 ∙ from_start c.args.input.now c.args.desk.now;
  tells = ap (λ (i : ℕ). to_tell c.args.input.now i c.args.desk.now c.args.before) c.new-reader.ensures.1 ∙ told_from_start c.args.input.now c.args.desk.now c.args.before;
}

pub open_at_in-requires : goal.open_at_in-requires
open_at_in-requires g c =
    let e = ends c.loop-reader.reader.at c.loop-reader.invariant.reads c.next-line.ensures.0 in
    one_told c.args.input.now c.loop-reader.reader.at c.next-line.result.end c.loop-reader.desk c.loop-reader-test.true e _ _ c.loop-reader.invariant.tells c.requires

pub loop-reader-smaller : goal.loop-reader-smaller
loop-reader-smaller g c = nearer c.args.input.now c.loop-reader.reader.at _ c.loop-reader-test.true (goes c.loop-reader.reader.at c.loop-reader.invariant.reads c.moved-reader.ensures.1)

pub loop-reader-preserved : goal.loop-reader-preserved
loop-reader-preserved g c =
    let e = ends c.loop-reader.reader.at c.loop-reader.invariant.reads c.next-line.ensures.0 in
    let q = goes c.loop-reader.reader.at c.loop-reader.invariant.reads c.moved-reader.ensures.1 in
    record {
      reads = ap (λ (b : Bor (List ℕ)). b.now) c.moved-reader.ensures.0 ∙ c.loop-reader.invariant.reads;
      opens = next_opened c.args.input.now c.loop-reader.reader.at c.next-line.result.end c.loop-reader.desk c.loop-reader-test.true e _ _ c.open_at_in.ensures.0 q _ c.loop-reader.invariant.opens;
      tells = next_amount c.args.input.now c.loop-reader.reader.at c.next-line.result.end c.loop-reader.desk c.loop-reader-test.true e _ _ c.open_at_in.ensures.0 q _ _ _ c.loop-reader.invariant.tells c.in_ok-told.ensures.1;
    }

pub returns : goal.returns
returns g c = (
  all_opened c.args.input.now c.loop-reader.reader.at _ _ c.loop-reader-test.false c.loop-reader.invariant.opens,
  all_told c.args.input.now c.loop-reader.reader.at c.loop-reader.desk _ _ c.loop-reader-test.false c.loop-reader.invariant.tells,
)
