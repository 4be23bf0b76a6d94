-- What the code carries of each part is what the definitions give of its tree: in each mode the code's operations meet those
-- on trees.
use mathlib.Core.Path.{◌≡◌, refl, sym, ap, ◌∙◌}
use mathlib.Core.Bool.{Bool, true, false}
use mathlib.Core.List.{List}
use Prim.Native.Nat.{ℕ}
use Rattle.basis.specs.Choice.{pick}
use Rattle.basis.specs.Answer.{Answer, gives, refuses_for, and_then}
use Rattle.value.specs.declared.Kind.{Kind}
use Rattle.value.specs.declared.Offset.{Offset}
use Rattle.timetable.specs.Rows.{Row}
use Rattle.condition_symbols.specs.declared.Op.{Op}
use Rattle.text.specs.Reading.{read_as}
use Rattle.text_fields.specs.Fields.{read_field}
use Rattle.condition_words.specs.Words.{between}
use Rattle.condition_operators.specs.Roles.{role_of, settles}
use Rattle.condition_operators.specs.declared.Role.{Role}
use Rattle.condition_givens.specs.Data.{Datum, value, truth}
use Rattle.condition_givens.specs.Carried.{given_of, bad_of, given_of_text, field_in}
use Rattle.condition_parts.specs.Evaluation.{applied, joined, cast_datum, times_datum}
use Rattle.condition_parts.specs.Carried.{onto_given, refused_given, two_given, after_given, literal_part, field_part, cast_part, times_part, two_part, after_part}
use Rattle.condition_sorts.specs.declared.Sort.{Sort}
use Rattle.condition_givens.specs.declared.Given.{Given}
use Rattle.condition_givens.specs.declared.Given.TheVariants as G
use Rattle.condition_parts.specs.declared.Part.{Part}
use Rattle.condition_givens.specs.declared.Mode.{Mode}
use Rattle.condition_givens.specs.declared.Mode.TheVariants.{Check, Live, Dead}
use Rattle.condition_grammar.specs.Trees.{Tree, leaf, one, two, literal, field, cast, times}
use Rattle.condition_readers.specs.Meaning.{sort_of, fits, first, first_bad, eval}
use Rattle.condition_readers.specs.Carried.{parts, given_in, part_of}
use Rattle.condition_grammar.proofs.Folds.{Meets}

with_given : (x : Sort) (g h : Given) → g ≡ h → ◌≡◌ {A = Part} (record { sort = x; given = g }) (record { sort = x; given = h })
with_given x g h e = ap (λ y. record { sort = x; given = y }) e

bad_fits : {A : Type 0} (a : Answer A) → bad_of a ≡ bad_of (fits a)
unfolding fits
bad_fits (gives v) = refl
bad_fits (refuses_for r) = refl

-- one part below, checked and evaluated
onto_bad : (f : Datum → Answer Datum) (a : Answer (Unit {0})) → onto_given (bad_of a) f ≡ bad_of a
onto_bad f (gives x) = refl
onto_bad f (refuses_for r) = refl

onto_live : (f : Datum → Answer Datum) (a : Answer Datum) → onto_given (given_of a) f ≡ given_of (and_then a f)
unfolding and_then
onto_live f (gives (value v)) = refl
onto_live f (gives (truth x)) = refl
onto_live f (refuses_for r) = refl

refused_bad : (a : Answer (Unit {0})) → refused_given (bad_of a) ≡ bad_of a
refused_bad (gives x) = refl
refused_bad (refuses_for r) = refl

module _ (zone : Offset) (s : List ℕ) (row : Row) where
  literal_carried : (m : Mode) (k : Kind) (w from to : ℕ) → given_of_text m (read_as k (between s from to)) ≡ given_in zone s row m (leaf k w (literal from to))
  unfolding given_in first_bad eval
  literal_carried Check k w from to = bad_fits (read_as k (between s from to))
  literal_carried Live k w from to = refl
  literal_carried Dead k w from to = refl

  field_carried : (m : Mode) (k : Kind) (w n p : ℕ) → field_in m (read_field k row n) ≡ given_in zone s row m (leaf k w (field n p))
  unfolding given_in first_bad eval
  field_carried Check k w n p = refl
  field_carried Live k w n p = refl
  field_carried Dead k w n p = refl

  onto_carried : (m : Mode) (f : Datum → Answer Datum) (t u : Tree) → first_bad s u ≡ first_bad s t → eval zone s row u ≡ and_then (eval zone s row t) f →
      onto_given (given_in zone s row m t) f ≡ given_in zone s row m u
  unfolding given_in
  onto_carried Check f t u d e = onto_bad f (first_bad s t) ∙ ap bad_of (sym d)
  onto_carried Live f t u d e = onto_live f (eval zone s row t) ∙ ap given_of (sym e)
  onto_carried Dead f t u d e = refl

  -- the right side of an operator, checked or evaluated after its left side
  two_bad : (o : Op) (a : Answer (Unit {0})) (u : Tree) → two_given zone o (bad_of a) (given_in zone s row (after_given o Check (bad_of a)) u) ≡ bad_of (first a (first_bad s u))
  unfolding given_in first
  two_bad o (gives x) u = refused_bad (first_bad s u)
  two_bad o (refuses_for r) u = refl

  settled_live : (r : Role) (x : Bool) (u : Tree) (b : Bool) → pick b (G.Truth x) (onto_given (given_in zone s row (pick b Dead Live) u) (applied zone r (truth x))) ≡
      given_of (pick b (gives (truth x)) (and_then (eval zone s row u) (applied zone r (truth x))))
  unfolding given_in
  settled_live r x u true = refl
  settled_live r x u false = onto_live (applied zone r (truth x)) (eval zone s row u)

  two_live : (o : Op) (a : Answer Datum) (u : Tree) → two_given zone o (given_of a) (given_in zone s row (after_given o Live (given_of a)) u) ≡ given_of (joined zone o a (eval zone s row u))
  unfolding given_in joined and_then
  two_live o (gives (value v)) u = onto_live (applied zone (role_of o) (value v)) (eval zone s row u)
  two_live o (gives (truth x)) u = settled_live (role_of o) x u (settles (role_of o) x)
  two_live o (refuses_for r) u = refl

  two_carried : (m : Mode) (o : Op) (b p : ℕ) (t u : Tree) →
      two_given zone o (given_in zone s row m t) (given_in zone s row (after_given o m (given_in zone s row m t)) u) ≡ given_in zone s row m (two o b p t u)
  unfolding given_in first_bad eval
  two_carried Check o b p t u = two_bad o (first_bad s t) u
  two_carried Live o b p t u = two_live o (eval zone s row t) u
  two_carried Dead o b p t u = refl

  pub code_meets : Meets Part Mode (parts zone s row) (part_of zone s row)
  unfolding sort_of first_bad eval literal_part field_part cast_part times_part two_part after_part
  code_meets =
      record {
        a_literal = λ m k w from to. with_given _ _ _ (literal_carried m k w from to);
        a_field = λ m k w n p. with_given _ _ _ (field_carried m k w n p);
        a_cast = λ m k w t. with_given _ _ _ (onto_carried m (cast_datum k) t (one (cast k) w t) refl refl);
        a_times = λ m b v p t. with_given _ _ _ (onto_carried m (times_datum b v) t (one (times b v) p t) refl refl);
        a_two = λ m o b p t u. with_given _ _ _ (two_carried m o b p t u);
      }
