-- Document 02, a: reading a text is reading the bytes of its value. All that is known of the one is known of the other.
use mathlib.Core.Path.{◌≡◌, refl}
use mathlib.Core.Bool.{true, false}
use mathlib.Core.List.{List}
use Prim.Native.Nat.{ℕ}
use Rattle.basis.specs.Choice.{pick}
use Rattle.value.specs.Rows.{is_moment}
use Rattle.value.specs.declared.Kind.{Kind}
use Rattle.text_blanks.specs.Blanks.{bare}
use Rattle.text_layouts.specs.Reading.{read_layout}
use Rattle.text_durations.specs.Walks.{read_duration}
use Rattle.text.specs.Reading.{read_bare, read_as}

pub reads_bare : (k : Kind) (s : List ℕ) → read_as k s ≡ read_bare k (bare s)
unfolding read_as
reads_bare k s = refl

-- those of a moment are read along a layout, the others by a form
module _ (k : Kind) (s : List ℕ) where
  pub moment_reads : is_moment k ≡ true → read_bare k s ≡ read_layout k s
  unfolding read_bare
  moment_reads e = λ i. pick (e i) (read_layout k s) (read_duration k s)

  pub duration_reads : is_moment k ≡ false → read_bare k s ≡ read_duration k s
  unfolding read_bare
  duration_reads e = λ i. pick (e i) (read_layout k s) (read_duration k s)
