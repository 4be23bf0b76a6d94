-- The ways out of the reader of the whole text.
use mathlib.Core.Path.{◌≡◌, refl, sym, ap, ◌∙◌}
use mathlib.Core.List.{List}
use Prim.Native.Nat.{ℕ, ◌<◌, ◌≤◌}
use lib.ListN.{length}
use borrow.Author.Tests.{le-leb, lt-leb}
use Rattle.std.specs.Prelude.{Some, None}
use Rattle.value.specs.declared.Offset.{Offset}
use Rattle.timetable.specs.Rows.{Row}
use Rattle.condition_words.specs.Words.{skipped}
use Rattle.condition_depth.specs.Depth.{max_depth}
use Rattle.condition_parts.specs.declared.Part.{Part}
use Rattle.condition_givens.specs.declared.Mode.{Mode}
use Rattle.condition_grammar.specs.Grammar.{Parsed, none, got, condition}
use Rattle.condition_grammar.specs.Trees.{Tree, trees, whole_text, parse}
use Rattle.condition_readers.specs.Lengths.{max_length, parse_within}
use Rattle.condition_readers.specs.Carried.{told, parts, chain_in, part_of, read_of}
use Rattle.condition_readers.specs.declared.Read.{Read}
use Rattle.condition_readers.specs.declared.Rule.TheVariants.{Condition}
use Rattle.condition_grammar.proofs.Folds.{each, grammar_folds}
use Rattle.condition_readers.proofs.Carried.{code_meets}

-- a text that is no longer than a condition states what it states
pub good_length : (s : List ℕ) → length s ≤ max_length → parse_within s ≡ parse s
unfolding parse_within
good_length s h = rw (le-leb (length s) max_length h)

module _ (zone : Offset) (s : List ℕ) (row : Row) (m : Mode) where
  -- what the code carries of a tree that was found, or of none
  carried : told (chain_in zone max_depth s row Condition 0 m) ≡ told (each (part_of zone s row m) (condition Tree (Unit {0}) trees s max_depth 0 tt))
  unfolding chain_in
  carried = ap told (grammar_folds Part Mode (parts zone s row) s (part_of zone s row) (code_meets zone s row) max_depth 0 m)

  fails : (p : Parsed Tree) → told (each (part_of zone s row m) p) ≡ None → None ≡ read_of zone s row m (whole_text s p)
  unfolding read_of
  fails none e = refl
  fails (got t k) e = cc

  goes_on : (x : Read) (p : Parsed Tree) → told (each (part_of zone s row m) p) ≡ Some x → skipped s x.end < length s → None ≡ read_of zone s row m (whole_text s p)
  unfolding read_of
  goes_on x none e h = refl
  goes_on x (got t k) e h = let q : x.end ≡ k = cc in let h' : skipped s k < length s = rw q at h in rw (lt-leb _ _ h')

  ends : (x : Read) (p : Parsed Tree) → told (each (part_of zone s row m) p) ≡ Some x → length s ≤ skipped s x.end → Some x ≡ read_of zone s row m (whole_text s p)
  unfolding read_of
  ends x none e h = cc
  ends x (got t k) e h = let q : x.end ≡ k = cc in let h' : length s ≤ skipped s k = rw q at h in rw (le-leb _ _ h') (sym e)

  -- a text that is longer than a condition
  pub whole_long : max_length < length s → None ≡ read_of zone s row m (parse_within s)
  unfolding read_of parse_within
  whole_long h = rw (lt-leb (length s) max_length h)

  module _ (h : length s ≤ max_length) where
    pub whole_bad : told (chain_in zone max_depth s row Condition 0 m) ≡ None → None ≡ read_of zone s row m (parse_within s)
    unfolding parse
    whole_bad e = rw (good_length s h) (fails (condition Tree (Unit {0}) trees s max_depth 0 tt) (sym carried ∙ e))

    module _ (x : Read) (e : told (chain_in zone max_depth s row Condition 0 m) ≡ Some x) where
      pub whole_more : skipped s x.end < length s → None ≡ read_of zone s row m (parse_within s)
      unfolding parse
      whole_more l = rw (good_length s h) (goes_on x (condition Tree (Unit {0}) trees s max_depth 0 tt) (sym carried ∙ e) l)

      pub whole_got : length s ≤ skipped s x.end → Some x ≡ read_of zone s row m (parse_within s)
      unfolding parse
      whole_got l = rw (good_length s h) (ends x (condition Tree (Unit {0}) trees s max_depth 0 tt) (sym carried ∙ e) l)

pub ruleset wholes = (whole_long, whole_bad, whole_more, whole_got)
