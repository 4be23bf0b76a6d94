-- The ways out of the checks, and of the result.
use Rattle.std.specs.Prelude.{Err, Ok}
use Rattle.std.specs.Prelude as std
use Rattle.std.specs.Result.{result_and}
use mathlib.Core.Path.{◌≡◌, refl, sym, ap, ◌∙◌}
use mathlib.Core.Bool.{Bool, true, false}
use mathlib.Core.List.{List, []}
use Prim.Native.Nat.{ℕ, ◌<◌, ◌≤◌}
use lib.ListN.{length}
use borrow.Author.Tests.{le-leb, lt-leb}
use Rattle.std.specs.Prelude.{Option, Some, None}
use Rattle.basis.specs.Choice.{both}
use Rattle.basis.specs.Answer.{Answer, gives, refuses_for, only_number, refuses}
use Rattle.value.specs.Reasons.{reason_of}
use Rattle.value.specs.Refusals.{bad_condition, too_deep, wrong_kind}
use Rattle.value.specs.declared.Offset.{Offset}
use Rattle.value_instants.specs.Ticks.{utc}
use Rattle.timetable.specs.Rows.{Row, row_with}
use Rattle.value.specs.declared.Refusal.{Refusal}
use Rattle.condition_depth.specs.Depth.{deep}
use Rattle.condition_givens.specs.Data.{Datum, value, truth}
use Rattle.condition_givens.specs.Carried.{given_of, bad_of}
use Rattle.condition_sorts.specs.declared.Sort.{Sort}
use Rattle.condition_sorts.specs.declared.Sort.TheVariants as S
use Rattle.condition_givens.specs.declared.Given.{Given}
use Rattle.condition_givens.specs.declared.Given.TheVariants as G
use Rattle.value.specs.declared.Kind.{Kind}
use Rattle.value.specs.declared.Value.{Value}
use Rattle.condition_givens.specs.declared.Mode.TheVariants.{Check, Live}
use Rattle.condition_grammar.specs.Grammar.{Parsed, none, got}
use Rattle.condition_grammar.specs.Trees.{Tree, parse}
use Rattle.condition_readers.specs.Meaning.{sort_of, first, first_bad, eval}
use Rattle.condition_readers.specs.Lengths.{parse_within}
use Rattle.condition_readers.specs.Carried.{given_in, part_of, read_of}
use Rattle.condition_readers.specs.declared.Read.{Read}
use Rattle.condition_readers.proofs.Wholes.{good_length}
use Rattle.condition.specs.Condition.{min_length, max_length, check_of, by_kinds, by_tree, checked, Result, hit, miss, unreadable, as_result, of_tree, if_accepted, result_at, result_of}
use Rattle.condition.specs.Carried.{literals, resulting}

-- what was checked says the leftmost bad literal, and what was evaluated the verdict
literals_bad : (a : Answer (Unit {0})) → literals (bad_of a) ≡ a
unfolding literals
literals_bad (gives tt) = refl
literals_bad (refuses_for r) = refl

shown_live : (a : Answer Datum) → resulting (given_of a) ≡ as_result a
unfolding resulting as_result
shown_live (gives (value v)) = refl
shown_live (gives (truth x)) = refl
shown_live (refuses_for r) = refl

module _ (s : List ℕ) (a : Answer (Unit {0})) where
  pub check_short : length s < min_length → a ≡ refuses bad_condition → a ≡ check_of s
  unfolding check_of both
  check_short h e = rw (lt-leb min_length (length s) h) e

  module _ (h : min_length ≤ length s) where
    pub check_long : max_length < length s → a ≡ refuses bad_condition → a ≡ check_of s
    unfolding check_of both
    check_long k e = rw (le-leb min_length (length s) h, lt-leb (length s) max_length k) e

    module _ (k : length s ≤ max_length) {t : Bool} (d : t ≡ deep s) where
      pub check_deep : t ≡ true → a ≡ refuses too_deep → a ≡ check_of s
      unfolding check_of both
      check_deep f e = rw (le-leb min_length (length s) h, le-leb (length s) max_length k, ← d, f) e

      by_tree_lem : t ≡ false → a ≡ by_tree s (parse s) → a ≡ check_of s
      unfolding check_of both
      by_tree_lem f e = rw (le-leb min_length (length s) h, le-leb (length s) max_length k, ← d, f) e

      module _ (f : t ≡ false) (zone : Offset) (row : Row) (g : Option Read) (q : g ≡ read_of zone s row Check (parse_within s)) where
        of_parse : g ≡ read_of zone s row Check (parse s)
        of_parse = q ∙ ap (read_of zone s row Check) (good_length s k)

        tree_bad : (p : Parsed Tree) → None ≡ read_of zone s row Check p → a ≡ refuses bad_condition → a ≡ by_tree s p
        unfolding by_tree read_of
        tree_bad none i e = e
        tree_bad (got u n) i e = cc

        tree_got : (p : Parsed Tree) (x : Read) → Some x ≡ read_of zone s row Check p → a ≡ first (by_kinds x.part.sort) (literals x.part.given) → a ≡ by_tree s p
        unfolding by_tree read_of given_in
        tree_got none x i e = cc
        tree_got (got u j) x i e = let w : x.part ≡ part_of zone s row Check u = cc in
            e ∙ ap (λ v. first (by_kinds v.sort) (literals v.given)) w ∙ ap (first (by_kinds (sort_of u))) (literals_bad (first_bad s u))

        pub check_bad : g ≡ None → a ≡ refuses bad_condition → a ≡ check_of s
        check_bad b e = by_tree_lem f (tree_bad (parse s) (sym b ∙ of_parse) e)

        pub check_got : (x : Read) → g ≡ Some x → a ≡ first (by_kinds x.part.sort) (literals x.part.given) → a ≡ check_of s
        check_got x b e = by_tree_lem f (tree_got (parse s) x (sym b ∙ of_parse) e)

module _ (zone : Offset) (s : List ℕ) (row : Row) (g : Option Read) (q : g ≡ read_of zone s row Live (parse_within s)) where
  live_bad : (p : Parsed Tree) → None ≡ read_of zone s row Live p → unreadable (only_number bad_condition) ≡ of_tree zone s row p
  unfolding read_of of_tree
  live_bad none i = refl
  live_bad (got u n) i = cc

  live_got : (p : Parsed Tree) (x : Read) → Some x ≡ read_of zone s row Live p → resulting x.part.given ≡ of_tree zone s row p
  unfolding read_of of_tree given_in
  live_got none x i = cc
  live_got (got u j) x i = let w : x.part ≡ part_of zone s row Live u = cc in ap (λ v. resulting v.given) w ∙ shown_live (eval zone s row u)

  pub judge_bad : (a : Result) → g ≡ None → a ≡ unreadable (only_number bad_condition) → a ≡ result_at zone s row
  unfolding result_at
  judge_bad a b e = e ∙ live_bad (parse_within s) (sym b ∙ q)

  pub judge_got : (x : Read) (a : Result) → g ≡ Some x → a ≡ resulting x.part.given → a ≡ result_at zone s row
  unfolding result_at
  judge_got x a b e = e ∙ live_got (parse_within s) x (sym b ∙ q)

module _ (s line : List ℕ) (x : std.Result Unit Refusal) (e : checked x ≡ check_of s) where
  pub result_refused : (r : Refusal) → x ≡ Err r → refuses_for (reason_of r) ≡ result_of s line
  unfolding result_of if_accepted
  result_refused r b = let k : refuses_for (reason_of r) ≡ check_of s = sym (ap checked b) ∙ e in rw (← k)

  -- with no made text, and in UTC
  pub result_judged : (zone : Offset) (made : List ℕ) (a : Result) → x ≡ Ok tt → zone ≡ utc → made ≡ [] → a ≡ result_at zone s (row_with line made)
      → gives a ≡ result_of s line
  unfolding result_of if_accepted row_with
  result_judged zone made a b z m h =
      let k : gives tt ≡ check_of s = sym (ap checked b) ∙ e in
      rw (← k) (ap gives (h ∙ (λ i. result_at (z i) s (row_with line (m i)))))

-- what the kinds say, what the literals say, and the first refusal of the two, case by case
module _ (x : Sort) where
  pub kinds_clash : (a : Answer (Unit {0})) → x ≡ S.Clash → a ≡ refuses wrong_kind → a ≡ by_kinds x
  unfolding by_kinds
  kinds_clash a e h = rw e h

  pub kinds_truth : x ≡ S.Truth → gives tt ≡ by_kinds x
  unfolding by_kinds
  kinds_truth e = rw e

  pub kinds_value : (a : Answer (Unit {0})) (k : Kind) → x ≡ S.Of k → a ≡ refuses wrong_kind → a ≡ by_kinds x
  unfolding by_kinds
  kinds_value a k e h = rw e h

module _ (g : Given) where
  pub none_bad : g ≡ G.Nothing → gives tt ≡ literals g
  unfolding literals
  none_bad h = rw h

  pub value_good : (v : Value) → g ≡ G.Is v → gives tt ≡ literals g
  unfolding literals
  value_good v h = rw h

  pub truth_good : (b : Bool) → g ≡ G.Truth b → gives tt ≡ literals g
  unfolding literals
  truth_good b h = rw h

  pub one_bad : (r : Refusal) → g ≡ G.Refused r → refuses_for (reason_of r) ≡ literals g
  unfolding literals
  one_bad r h = rw h

-- of two answers the first refusal counts
both_checked : (a b : std.Result Unit Refusal) → checked (result_and a b) ≡ first (checked a) (checked b)
unfolding first
both_checked (Ok tt) b = refl
both_checked (Err r) b = refl

pub kinds_first : (x : Sort) (g : Given) (a b : std.Result Unit Refusal) {r : std.Result Unit Refusal} → checked a ≡ by_kinds x → checked b ≡ literals g → r ≡ result_and a b
    → checked r ≡ first (by_kinds x) (literals g)
kinds_first x g a b e f h = ap checked h ∙ both_checked a b ∙ (λ i. first (e i) (f i))

module _ (g : Given) where
  pub shows_nothing : (a : Result) → g ≡ G.Nothing → a ≡ unreadable (only_number wrong_kind) → a ≡ resulting g
  unfolding resulting
  shows_nothing a h e = rw h e

  pub shows_value : (a : Result) (v : Value) → g ≡ G.Is v → a ≡ unreadable (only_number wrong_kind) → a ≡ resulting g
  unfolding resulting
  shows_value a v h e = rw h e

  pub shows_hit : (b : Bool) → g ≡ G.Truth b → b ≡ true → hit ≡ resulting g
  unfolding resulting
  shows_hit b h e = rw (h, e)

  pub shows_miss : (b : Bool) → g ≡ G.Truth b → b ≡ false → miss ≡ resulting g
  unfolding resulting
  shows_miss b h e = rw (h, e)

  pub shows_refused : (r : Refusal) → g ≡ G.Refused r → unreadable (reason_of r) ≡ resulting g
  unfolding resulting
  shows_refused r h = rw h
