-- The lines of the turns up to and with Idle: the count of turns makes no difference as long as it is more than what is left to do,
-- and without it they are the lines of m turns and one more, the first that is Idle.
use native.Mathlib.Omega.{arith}
use mathlib.Core.Path.{◌≡◌, refl, sym, ap, ◌∙◌}
use mathlib.Core.Bool.{Bool, true, false, true≢false}
use mathlib.Core.List.{List, [], ◌++◌, append_assoc, append-nil}
use mathlib.Core.Logic.{⊎_elim, ◌⊎◌, inl, inr}
use Prim.Native.Nat.{ℕ, zero, suc, ◌-◌, ◌≤◌, ◌<◌}
use lib.Dec.{leb}
use lib.ListN.{length}
use Rattle.basis.specs.Choice.{pick}
use Rattle.basis.specs.Answer.{gives}
use Rattle.desk_seat.specs.Files.{Files}
use Rattle.desk_seat.specs.Answers.{Turned, idle}
use Rattle.desk.specs.Answers.{After}
use Rattle.desk.specs.Desk.{turn_of}
use Rattle.desk.specs.declared.Desk.{Desk}
use Rattle.output_lines.specs.Text.{turn_line}
use Rattle.output_turns.specs.Turns.{is_idle, Taken, none, at_most, desk_after, lines_of_turns, answer_after}
use Rattle.output_pieces.specs.Pieces.{most_turns}
use Rattle.output.specs.Output.{turn_lines}
use Rattle.output.proofs.Left.{desk_left}
use Rattle.output.proofs.Ready.{Ready, AtIdle, Works, turn_goes, turn_ready, enough}

-- by the next turn
pub lines_next : (n : ℕ) (f : Files) (d : Desk) → turn_lines (suc n) f d ≡ turn_line (turn_of f d).answer ++ pick (is_idle (turn_of f d).answer) [] (turn_lines n f (turn_of f d).desk)
unfolding turn_lines
lines_next n f d = go (is_idle (turn_of f d).answer)
  where
    go : (b : Bool) → (turn_line (turn_of f d).answer ++ elim b [ true ↦ [] | false ↦ turn_lines n f (turn_of f d).desk ]) ≡ (turn_line (turn_of f d).answer ++ pick b [] (turn_lines n f (turn_of f d).desk))
    go true = refl
    go false = refl

lines_idle : (n : ℕ) (f : Files) (d : Desk) → AtIdle f d → turn_lines (suc n) f d ≡ turn_line (turn_of f d).answer ++ []
lines_idle n f d i = lines_next n f d ∙ rw i

lines_on : (n : ℕ) (f : Files) (d : Desk) → Works f d → turn_lines (suc n) f d ≡ turn_line (turn_of f d).answer ++ turn_lines n f (turn_of f d).desk
lines_on n f d w = lines_next n f d ∙ rw w.busy

-- more turns than are left change nothing
lines_enough : (n m : ℕ) (f : Files) (d : Desk) → Ready f d → desk_left f d < n → desk_left f d < m → turn_lines n f d ≡ turn_lines m f d
lines_enough zero m f d o a b = absurd (omega arith)
lines_enough (suc n) zero f d o a b = absurd (omega arith)
lines_enough (suc n) (suc m) f d o a b =
    ⊎_elim (λ i. lines_idle n f d i ∙ sym (lines_idle m f d i))
    (λ w.
    let l = w.less in
    lines_on n f d w ∙ ap (λ (x : List ℕ). turn_line (turn_of f d).answer ++ x) (lines_enough n m f (turn_of f d).desk (turn_ready f d o) (omega arith) (omega arith)) ∙ sym (lines_on m f d w))
    (turn_goes f d o)

-- ---- with a count that is enough for any desk of the program
abbrev pub told : Files → Desk → List ℕ
told f d = turn_lines most_turns f d

-- a path `refl` alone would unroll the count
count_is : most_turns ≡ suc (most_turns - 1)
count_is = omega arith

told_idle : (f : Files) (d : Desk) → AtIdle f d → told f d ≡ turn_line (turn_of f d).answer ++ []
told_idle f d i = ap (λ (n : ℕ). turn_lines n f d) count_is ∙ lines_idle (most_turns - 1) f d i

told_last : (f : Files) (d : Desk) → AtIdle f d → told f d ≡ (turn_line (gives idle) ++ []) ++ []
told_last f d i = told_idle f d i ∙ ap (λ (x : After Turned). turn_line x.answer ++ []) i ∙ sym (append-nil (turn_line (gives idle) ++ []))

pub told_on : (f : Files) (d : Desk) → Ready f d → Works f d → told f d ≡ turn_line (turn_of f d).answer ++ told f (turn_of f d).desk
told_on f d o w =
    let l = w.less in
    let e = enough f d o in
    ap (λ (n : ℕ). turn_lines n f d) count_is ∙ lines_on (most_turns - 1) f d w
    ∙ ap (λ (x : List ℕ). turn_line (turn_of f d).answer ++ x) (lines_enough (most_turns - 1) most_turns f (turn_of f d).desk (turn_ready f d o) (omega arith) (omega arith))

-- ---- without a count
pub record Idles (f : Files) (d : Desk) (text : List ℕ) (m : ℕ) : Type 0 where
  pub whole : text ≡ lines_of_turns (suc m) f d
  pub earlier : (j : ℕ) → j < m → is_idle (answer_after j f d) ≡ false
  pub last : answer_after m f d ≡ gives idle

idles_now : (f : Files) (d : Desk) (text : List ℕ) → AtIdle f d → text ≡ turn_line (turn_of f d).answer ++ [] → Idles f d text 0
unfolding lines_of_turns desk_after
idles_now f d text i e = record { whole = e; earlier = λ j l. absurd (omega arith); last = ap (λ (x : After Turned). x.answer) i }

idles_later : (f : Files) (d : Desk) (text rest : List ℕ) (m : ℕ) → Works f d → text ≡ turn_line (turn_of f d).answer ++ rest → Idles f (turn_of f d).desk rest m → Idles f d text (suc m)
unfolding lines_of_turns desk_after
idles_later f d text rest m w e r =
    record {
      whole = e ∙ ap (λ (x : List ℕ). turn_line (turn_of f d).answer ++ x) r.whole;
      earlier = before;
      last = r.last;
    }
  where
    before : (j : ℕ) → j < suc m → is_idle (answer_after j f d) ≡ false
    before zero l = w.busy
    before (suc j) l = r.earlier j (omega arith)

pub idles : (n : ℕ) (f : Files) (d : Desk) → Ready f d → desk_left f d < n → (m : ℕ) × Idles f d (turn_lines n f d) m
idles zero f d o l = absurd (omega arith)
idles (suc n) f d o l =
    ⊎_elim (λ i. (0, idles_now f d _ i (lines_idle n f d i)))
    (λ w.
    let b = w.less in
    let r = idles n f (turn_of f d).desk (turn_ready f d o) (omega arith) in
    (suc r.0, idles_later f d _ _ r.0 w (lines_on n f d w) r.1))
    (turn_goes f d o)

-- the last of so many lines
pub lines_last : (m : ℕ) (f : Files) (d : Desk) → lines_of_turns (suc m) f d ≡ lines_of_turns m f d ++ turn_line (answer_after m f d)
unfolding lines_of_turns desk_after
lines_last zero f d = append-nil (turn_line (turn_of f d).answer)
lines_last (suc m) f d =
    ap (λ (x : List ℕ). turn_line (turn_of f d).answer ++ x) (lines_last m f (turn_of f d).desk)
    ∙ sym (append_assoc (turn_line (turn_of f d).answer) (lines_of_turns m f (turn_of f d).desk) (turn_line (answer_after m f (turn_of f d).desk)))

-- ---- many turns at once
pub record Leads (f : Files) (d : Desk) (k : Taken) : Type 0 where
  pub ready : Ready f k.desk
  pub left : desk_left f k.desk ≤ desk_left f d
  pub ends : k.idle ≡ true → AtIdle f k.desk
  pub lines : told f d ≡ k.text ++ pick k.idle [] (told f k.desk)

stays : (f : Files) (d : Desk) → Ready f d → Leads f d (none d)
stays f d o = record { ready = o; left = omega arith; ends = λ h. absurd (true≢false (sym h)); lines = refl }

pub at_most_leads : (n : ℕ) (f : Files) (d : Desk) (left : ℕ) → Ready f d → Leads f d (at_most n f d left)
unfolding at_most
at_most_leads zero f d left o = stays f d o
at_most_leads (suc n) f d left o =
    go (leb (length (turn_line (turn_of f d).answer)) left) refl (turn_goes f d o)
    (at_most_leads n f (turn_of f d).desk (left - length (turn_line (turn_of f d).answer)) (turn_ready f d o))
  where
    go : (b : Bool) → leb (length (turn_line (turn_of f d).answer)) left ≡ b → AtIdle f d ⊎ Works f d
        → Leads f (turn_of f d).desk (at_most n f (turn_of f d).desk (left - length (turn_line (turn_of f d).answer))) → Leads f d (at_most (suc n) f d left)
    go false e c next = rw e (stays f d o)
    go true e (inl i) next = rw (e, i) (record { ready = o; left = omega arith; ends = λ h. i; lines = told_last f d i })
    go true e (inr w) next =
        rw (e, w.busy)
        (record {
          ready = next.ready;
          left = (let a = next.left in let c = w.less in omega arith);
          ends = next.ends;
          lines = told_on f d o w ∙ ap (λ (x : List ℕ). turn_line (turn_of f d).answer ++ x) next.lines ∙ sym (append_assoc (turn_line (turn_of f d).answer) (at_most n f (turn_of f d).desk (left - length (turn_line (turn_of f d).answer))).text (pick (at_most n f (turn_of f d).desk (left - length (turn_line (turn_of f d).answer))).idle [] (told f (at_most n f (turn_of f d).desk (left - length (turn_line (turn_of f d).answer))).desk)));
        })
