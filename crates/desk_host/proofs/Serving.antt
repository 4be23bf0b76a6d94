-- The program's parts one after the other: it stops at its first piece, or goes on from the desk and the bytes that it left.
use native.Mathlib.Omega.{arith}
use mathlib.Core.Path.{◌≡◌, sym, ap, ◌∙◌}
use mathlib.Core.Bool.{Bool, true, false}
use mathlib.Core.List.{List}
use Prim.Native.Nat.{ℕ, ◌+◌, ◌^◌, ◌<◌}
use lib.ListN.{length}
use Rattle.desk_seat.specs.Files.{over}
use Rattle.desk.specs.declared.Desk.{Desk}
use Rattle.output_pieces.specs.Pieces.{Piece, start_piece, served_all, desk_at_end}
use Rattle.output_pieces.specs.Carried.{served_told, told_at_end}
use Rattle.output.specs.Output.{output_of}
use Rattle.output.proofs.Amounts.{told_is_the_output, bounded}

module _ (t input : List ℕ) where
  abbrev first : Piece
  first = start_piece (length t) (length input)

  abbrev pub Told : Desk → ℕ → Type 0
  Told d n = (d ≡ desk_at_end (over t) input) × (n ≡ length (output_of (over t) input))

  -- after the first piece
  module _ (d : Desk) (told : ℕ) (is : d ≡ (start_piece (length t) (length input)).desk) (n : told ≡ length (start_piece (length t) (length input)).text)
      (b : Bool) (due : b ≡ (start_piece (length t) (length input)).more) where
    -- the program stops
    pub stops : b ≡ false → Told d told
    stops off =
        let m : first.more ≡ false = sym due ∙ off in
        let w : told_at_end (over t) input ≡ length first.text + 0 = rw m in
        (is ∙ rw m, omega (arith, n, w, told_is_the_output (over t) input))

    -- it goes on
    module _ (on : b ≡ true) where
      more : (start_piece (length t) (length input)).more ≡ true
      more = sym due ∙ on

      total : told + served_told (over t) input d ≡ length (output_of (over t) input)
      total =
          let w : told_at_end (over t) input ≡ length first.text + served_told (over t) input first.desk = rw more in
          omega (arith, n, ap (served_told (over t) input) is, w, told_is_the_output (over t) input)

      pub goes_within : told + served_told (over t) input d < 2 ^ 64
      goes_within = omega (arith, total, bounded (over t) input)

      pub goes_on : (h : Desk) (k : ℕ) → (h ≡ served_all (over t) input d) × (k ≡ told + served_told (over t) input d) → Told h k
      goes_on h k p = (p.0 ∙ ap (served_all (over t) input) is ∙ rw more, p.1 ∙ total)
