use mathlib.Core.Path.{ap, ◌∙◌}
use mathlib.Core.List.{List}
use Prim.Native.Nat.{ℕ}
use Rattle.text_layouts.specs.Writing.{layout_text}
use Rattle.text_layouts.proofs.Pieces.{roomy}
use Rattle.text_layouts.proofs.layout_text.Goals as goal

pub parts-requires : goal.parts-requires
parts-requires c = (roomy c.args.kind c.layout.ensures, c.requires)

pub returns : goal.returns
returns c = c.parts.ensures ∙ ap (λ (q : List ℕ). layout_text q c.args.d) c.layout.ensures
