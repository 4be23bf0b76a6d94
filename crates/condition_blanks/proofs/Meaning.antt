-- The same tree of another text, with literals that read as the same, means the same.
use mathlib.Core.Path.{◌≡◌, refl, ap}
use mathlib.Core.List.{List}
use Prim.Native.Nat.{ℕ}
use Rattle.value.specs.declared.Kind.{Kind}
use Rattle.value.specs.declared.Offset.{Offset}
use Rattle.timetable.specs.Rows.{Row}
use Rattle.text.specs.Reading.{read_as}
use Rattle.condition_words.specs.Words.{between}
use Rattle.condition_symbols.specs.declared.Op.{Op}
use Rattle.condition_sorts.specs.Sorts.{sort_cast, sort_times}
use Rattle.condition_givens.specs.Data.{valued}
use Rattle.condition_grammar.specs.Trees.{Tree, Below, leaf, one, two, literal, field, cast, times}
use Rattle.condition_readers.specs.Meaning.{sort_of, fits, first_bad, eval}

-- the same tree, the one of the text s and the other of s': whatever its offsets, with literals that read as the same
pub data Same (s s' : List ℕ) : Tree → Tree → Type 0 where
  literals : {k : Kind} {w i j w' i' j' : ℕ} → read_as k (between s' i' j') ≡ read_as k (between s i j) →
      Same s s' (leaf k w (literal i j)) (leaf k w' (literal i' j'))
  fields : {k : Kind} {w i p w' p' : ℕ} → Same s s' (leaf k w (field i p)) (leaf k w' (field i p'))
  ones : {b : Below} {p p' : ℕ} {t t' : Tree} → Same s s' t t' → Same s s' (one b p t) (one b p' t')
  twos : {o : Op} {z p z' p' : ℕ} {t u t' u' : Tree} → Same s s' t t' → Same s s' u u' → Same s s' (two o z p t u) (two o z' p' t' u')

module _ {s s' : List ℕ} where
  pub same_sort : {t t' : Tree} → Same s s' t t' → sort_of t' ≡ sort_of t
  unfolding sort_of
  same_sort (literals e) = refl
  same_sort fields = refl
  same_sort (ones {b = cast k} x) = ap (sort_cast k) (same_sort x)
  same_sort (ones {b = times negative n} x) = ap sort_times (same_sort x)
  same_sort (twos x y) = rw (same_sort x, same_sort y)

  pub same_bad : {t t' : Tree} → Same s s' t t' → first_bad s' t' ≡ first_bad s t
  unfolding first_bad
  same_bad (literals e) = ap fits e
  same_bad fields = refl
  same_bad (ones x) = same_bad x
  same_bad (twos x y) = rw (same_bad x, same_bad y)

  module _ (zone : Offset) (row : Row) where
    pub same_value_lem : {t t' : Tree} → Same s s' t t' → eval zone s' row t' ≡ eval zone s row t
    unfolding eval
    same_value_lem (literals e) = ap valued e
    same_value_lem fields = refl
    same_value_lem (ones {b = cast k} x) = rw (same_value_lem x)
    same_value_lem (ones {b = times negative n} x) = rw (same_value_lem x)
    same_value_lem (twos x y) = rw (same_value_lem x, same_value_lem y)
