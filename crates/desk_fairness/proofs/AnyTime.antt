-- At any earlier time the answers so far are the first of the expected ones: a course can be gone on with until enough turns
-- are taken, and what it has answered stays.
use mathlib.Core.Path.{◌≡◌, refl, sym, ap, ◌∙◌}
use mathlib.Core.Bool.{Bool, true, false}
use mathlib.Core.List.{List, [], ◌∷◌, ◌++◌}
use Prim.Native.Nat.{ℕ, ◌≤◌}
use native.Mathlib.Omega.{arith}
use lib.Dec.{eqb}
use lib.ListN.{replicate}
use Rattle.basis.specs.Choice.{pick}
use Rattle.basis.specs.Answer.{Answer, gives, refuses_for}
use Rattle.desk_seat.specs.Files.{Files}
use Rattle.desk_seat.specs.Answers.{Turned, ticket_of}
use Rattle.desk.specs.Desk.{open_of, close_of, turn_of}
use Rattle.desk.specs.declared.Desk.{Desk}
use Rattle.desk_fairness.specs.Events.{Event, opens, closes, turns, after_all, mine, answers_of, turn_count, Unclosed}
use Rattle.desk_fairness.specs.Demand3.{turns_for, Demand3AnyTime}
use Rattle.desk_fairness.proofs.Aside.{only_turns, turns_count}
use Rattle.desk_fairness.proofs.LineForLine.{demand3_lines}

mine_append : (k : ℕ) (a : Answer Turned) (xs ys : List Turned) → mine k a (xs ++ ys) ≡ mine k a xs ++ ys
mine_append k (refuses_for r) xs ys = refl
mine_append k (gives a) xs ys = go (eqb (ticket_of a) k)
  where
    go : (b : Bool) → pick b (a ∷ (xs ++ ys)) (xs ++ ys) ≡ pick b (a ∷ xs) xs ++ ys
    go true = refl
    go false = refl

pub answers_append : (k : ℕ) (f : Files) (d : Desk) (es fs : List Event)
    → answers_of k f d (es ++ fs) ≡ answers_of k f d es ++ answers_of k f (after_all f d es) fs
unfolding answers_of after_all
answers_append k f d [] fs = refl
answers_append k f d (opens c ∷ es) fs = answers_append k f (open_of c d).desk es fs
answers_append k f d (closes j ∷ es) fs = answers_append k f (close_of j d).desk es fs
answers_append k f d (turns ∷ es) fs =
    ap (mine k (turn_of f d).answer) (answers_append k f (turn_of f d).desk es fs)
    ∙ mine_append k (turn_of f d).answer (answers_of k f (turn_of f d).desk es) (answers_of k f (after_all f (turn_of f d).desk es) fs)

unclosed_append : (k : ℕ) (es fs : List Event) → Unclosed k es → Unclosed k fs → Unclosed k (es ++ fs)
unfolding Unclosed
unclosed_append k [] fs u v = v
unclosed_append k (opens c ∷ es) fs u v = unclosed_append k es fs u v
unclosed_append k (closes j ∷ es) fs u v = (u.0, unclosed_append k es fs u.1 v)
unclosed_append k (turns ∷ es) fs u v = unclosed_append k es fs u v

count_append : (es fs : List Event) → turn_count fs ≤ turn_count (es ++ fs)
unfolding turn_count
count_append [] fs = omega arith
count_append (opens c ∷ es) fs = count_append es fs
count_append (closes j ∷ es) fs = count_append es fs
count_append (turns ∷ es) fs = omega (arith, count_append es fs)

pub demand3_any_time : Demand3AnyTime
demand3_any_time f c d k es q u =
    let m = turns_count (turns_for f) in
    let g = count_append es (replicate (turns_for f) turns) in (
      answers_of k f (after_all f (open_of c d).desk es) (replicate (turns_for f) turns),
      sym (answers_append k f (open_of c d).desk es (replicate (turns_for f) turns))
          ∙ demand3_lines f c d k (es ++ replicate (turns_for f) turns) q
          (record {
            unclosed = unclosed_append k es (replicate (turns_for f) turns) u (only_turns k (turns_for f));
            taken = omega arith;
          }),
    )
