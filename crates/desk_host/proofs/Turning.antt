-- Turns until Idle: what one piece of the loop leaves to the others.
use native.Mathlib.Omega.{arith}
use mathlib.Core.Path.{◌≡◌, refl, sym, ap, ◌∙◌}
use mathlib.Core.Bool.{Bool, true, false, not}
use Prim.Native.Nat.{ℕ, suc, ◌+◌, ◌-◌, ◌<◌, ◌≤◌, ◌^◌}
use lib.ListN.{length}
use Rattle.basis.specs.Choice.{pick}
use Rattle.desk_seat.specs.Files.{Files}
use Rattle.desk.specs.declared.Desk.{Desk}
use Rattle.output_pieces.specs.Bounds.{room_size}
use Rattle.output_pieces.specs.Pieces.{turns_piece, until_idle, most_turns}
use Rattle.output_pieces.specs.Carried.{until_idle_told}
use Rattle.desk_host.specs.declared.Sent.{Sent}
use borrow.Author.Tests.{not-true, not-false}

-- ---- the loop, which takes at most so many pieces
abbrev pub N : ℕ
N = most_turns

left_is : (i : ℕ) → i < N → N - i ≡ suc (N - (i + 1))
left_is i h = omega arith

none_left : (i : ℕ) → N ≤ i → N - i ≡ 0
none_left i h = omega arith

one : (f : Files) (d h : Desk) (b : Bool) (m : ℕ) → h ≡ (turns_piece f d room_size).desk → (turns_piece f d room_size).more ≡ b
    → (until_idle f (suc m) d ≡ pick b (until_idle f m h) h) × (until_idle_told f (suc m) d ≡ length (turns_piece f d room_size).text + pick b (until_idle_told f m h) 0)
unfolding until_idle until_idle_told
one f d h b m p q = (rw (p, ← q), rw (p, ← q))

-- what was told, and what is still to be told after i pieces
abbrev pub to_tell : Files → Desk → ℕ → ℕ → ℕ
to_tell f d i k = k + until_idle_told f (N - i) d

-- all pieces are taken
pub all_made : (f : Files) (d : Desk) (i : ℕ) (x : Desk) → N ≤ i → until_idle f (N - i) d ≡ x → d ≡ x
unfolding until_idle
all_made f d i x l v = ap (λ (m : ℕ). until_idle f m d) (sym (none_left i l)) ∙ v

pub all_told : (f : Files) (d : Desk) (i k m : ℕ) → N ≤ i → to_tell f d i k ≡ m → k ≡ m
unfolding until_idle_told
all_told f d i k m l v = omega (arith, ap (λ (n : ℕ). until_idle_told f n d) (none_left i l))

-- the bytes of a piece are among those still to be told
pub one_told : (f : Files) (d : Desk) (i k m : ℕ) → i < N → to_tell f d i k ≡ m → m < 2 ^ 64 → k + length (turns_piece f d room_size).text < 2 ^ 64
one_told f d i k m l v w =
    omega (arith, ap (λ (n : ℕ). until_idle_told f n d) (left_is i l), (one f d (turns_piece f d room_size).desk (turns_piece f d room_size).more (N - (i + 1)) refl refl).1)

module _ (f : Files) (d h : Desk) (z : Sent) (i k : ℕ) (x : Desk) (m : ℕ) (l : i < N) (v : until_idle f (N - i) d ≡ x) (v' : to_tell f d i k ≡ m)
    (e : h ≡ (turns_piece f d room_size).desk) (y : (z.told ≡ k + length (turns_piece f d room_size).text) × (z.more ≡ (turns_piece f d room_size).more)) where
  step : (b : Bool) → (turns_piece f d room_size).more ≡ b
      → (pick b (until_idle f (N - (i + 1)) h) h ≡ x) × (z.told + pick b (until_idle_told f (N - (i + 1)) h) 0 ≡ m)
  step b p =
      let w = one f d h b (N - (i + 1)) e p in
      (sym w.0 ∙ ap (λ (n : ℕ). until_idle f n d) (sym (left_is i l)) ∙ v, omega (arith, w.1, ap (λ (n : ℕ). until_idle_told f n d) (left_is i l), y.0, v'))

  -- more turns are due
  pub more_due : not z.more ≡ false → (until_idle f (N - (i + 1)) h ≡ x) × (to_tell f h (i + 1) z.told ≡ m)
  more_due on = step true (sym y.1 ∙ not-false _ on)

  -- none are due
  pub none_due : not z.more ≡ true → (h ≡ x) × (z.told ≡ m)
  none_due off =
      let w = step false (sym y.1 ∙ not-true _ off) in
      (w.0, omega (arith, w.1))
