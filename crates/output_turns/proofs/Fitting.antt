-- A line put into the room from an offset on: what it tells that it fitted, and that it did not.
use mathlib.Core.Path.{◌≡◌, refl, sym, ◌∙◌}
use mathlib.Core.Bool.{Bool, true, false}
use mathlib.Core.List.{List}
use Prim.Native.Nat.{ℕ, ◌+◌, ◌-◌, ◌≤◌, ◌<◌}
use native.Mathlib.Omega.{arith}
use borrow.Author.Tests.{leb-true, leb-false}
use lib.Dec.{leb}
use lib.ListN.{length}
use Rattle.std.specs.Prelude.{Option, Some, None}
use Rattle.basis.specs.Choice.{pick}
use Rattle.output_turns.specs.Carried.{with_line, Put}

-- it fitted and ends there
pub record Fitted (at : ℕ) (line : List ℕ) (room : List ℕ) (end : ℕ) (after : List ℕ) : Type 0 where
  pub fits : length line ≤ length room - at
  pub end_is : end ≡ at + length line
  pub room_is : after ≡ with_line at line room

-- it did not fit, and the room is as it was
pub record Lacking (at : ℕ) (line : List ℕ) (room after : List ℕ) : Type 0 where
  pub lacks : length room - at < length line
  pub same : after ≡ room

module _ {at : ℕ} {line : List ℕ} {room after : List ℕ} {o : Option ℕ} (p : Put at line room o after) where
  fits : Bool
  fits = leb (length line) (length room - at)

  pub put_some : {end : ℕ} → o ≡ Some end → Fitted at line room end after
  put_some {end} e = go (leb (length line) (length room - at)) refl (sym p.end_is ∙ e) p.room_is
    where
      go : (b : Bool) → leb (length line) (length room - at) ≡ b → pick b (Some (at + length line)) None ≡ Some end → after ≡ pick b (with_line at line room) room
          → Fitted at line room end after
      go true h q r = record { fits = leb-true _ _ h; end_is = cc; room_is = r }
      go false h q r = absurd (let z : ◌≡◌ {A = ℕ} 0 1 = cc in omega arith)

  pub put_none : o ≡ None → Lacking at line room after
  put_none e = go (leb (length line) (length room - at)) refl (sym p.end_is ∙ e) p.room_is
    where
      go : (b : Bool) → leb (length line) (length room - at) ≡ b → pick b (Some (at + length line)) None ≡ None → after ≡ pick b (with_line at line room) room
          → Lacking at line room after
      go true h q r = absurd (let z : ◌≡◌ {A = ℕ} 0 1 = cc in omega arith)
      go false h q r = record { lacks = leb-false _ _ h; same = r }
