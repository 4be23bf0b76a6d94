use mathlib.Core.Path.{ap, sym, ◌∙◌}
use native.Mathlib.Omega.{arith}
use Rattle.text_blanks.proofs.Laws.{bare_by, found_within}
use Rattle.text.specs.Reading.{read_bare}
use Rattle.text.proofs.ReadsBare.{reads_bare}
use Rattle.text.proofs.read.Goals as goal

pub slice_bounds-read_bare-count : goal.slice_bounds-read_bare-count
slice_bounds-read_bare-count c = omega (arith, (found_within c.args.s.now _ c.strip-ends.ensures).0)

pub returns : goal.returns
returns c =
    let a = c.args in
    c.read_bare.ensures ∙ ap (read_bare a.kind) (bare_by a.s.now _ c.strip-ends.ensures) ∙ sym (reads_bare a.kind a.s.now)

pub slice_bounds-read_bare-start : goal.slice_bounds-read_bare-start
slice_bounds-read_bare-start c = omega (arith, (found_within c.args.s.now _ c.strip-ends.ensures).0)

pub slice_bounds-read_bare-end : goal.slice_bounds-read_bare-end
slice_bounds-read_bare-end c = omega (arith, (found_within c.args.s.now _ c.strip-ends.ensures).1)
