-- What a lent room holds afterwards: as it was after a refusal, else the text and after it the bytes that stood there.
use mathlib.Core.Path.{◌≡◌}
use mathlib.Core.Bool.{true, false}
use mathlib.Core.List.{List, ◌++◌}
use Prim.Native.Nat.{ℕ, ◌≤◌, ◌<◌}
use native.Mathlib.Omega.{arith}
use lib.ListN.{length, drop}
use borrow.Author.Tests.{le-leb, lt-leb}
use Rattle.basis.specs.Answer.{gives, refuses}
use Rattle.value.specs.Refusals.{no_room, outside}
use Rattle.value.specs.Kinds.{ok_value}
use Rattle.value.specs.declared.Value.{Value}
use Rattle.text.specs.Writing.{text_of, written, after_write}

module _ (v : Value) (room : List ℕ) where
  pub outside_leaves : ok_value v ≡ false → (refuses outside ≡ written v (length room)) × (room ≡ after_write v room)
  unfolding written after_write
  outside_leaves e = (rw e, rw e)

  pub no_room_leaves : ok_value v ≡ true → (n : ℕ) → n ≡ length (text_of v) → length room < n
      → (refuses no_room ≡ written v (length room)) × (room ≡ after_write v room)
  unfolding written after_write
  no_room_leaves e n en h =
      let l = lt-leb (length (text_of v)) (length room) (omega arith) in
      (rw (e, l), rw (e, l))

  pub copied : ok_value v ≡ true → (n : ℕ) → n ≡ length (text_of v) → n ≤ length room → (s : List ℕ) → s ≡ text_of v
      → (gives n ≡ written v (length room)) × (s ++ drop n room ≡ after_write v room)
  unfolding written after_write
  copied e n en h s es =
      let l = le-leb (length (text_of v)) (length room) (omega arith) in
      (rw (e, l, en), rw (e, l, es, en))
