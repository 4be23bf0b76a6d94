-- The result depends on the row's texts alone, and not on the blanks round them; at a plain line on its own fields.
use mathlib.Core.Path.{◌≡◌, refl, sym, ap, ◌∙◌}
use mathlib.Core.List.{List, map}
use Prim.Native.Nat.{ℕ}
use Rattle.basis.specs.Answer.{and_then}
use Rattle.value.specs.declared.Offset.{Offset}
use Rattle.timetable.specs.Rows.{Row, row_of}
use Rattle.timetable.proofs.Rows.{row_texts}
use Rattle.text_blanks.specs.Blanks.{bare}
use Rattle.text_fields.specs.Fields.{bare_texts}
use Rattle.text_fields.proofs.Fields.{plain_field, same_field}
use Rattle.condition_givens.specs.Data.{valued}
use Rattle.condition_parts.specs.Evaluation.{joined, cast_datum, times_datum}
use Rattle.condition_grammar.specs.Grammar.{Parsed, none, got}
use Rattle.condition_grammar.specs.Trees.{Tree, leaf, one, two, literal, field, cast, times}
use Rattle.condition_readers.specs.Lengths.{parse_within}
use Rattle.condition_readers.specs.Meaning.{eval}
use Rattle.condition.specs.Condition.{as_result, of_tree, result_at}
use Rattle.condition.specs.Laws.{FieldsAlone, PlainFields}

module _ (zone : Offset) (s : List ℕ) (a b : Row) (e : bare_texts a ≡ bare_texts b) where
  eval_same : (t : Tree) → eval zone s a t ≡ eval zone s b t
  unfolding eval
  eval_same (leaf k w (literal from to)) = refl
  eval_same (leaf k w (field n p)) = ap valued (same_field k a b n e)
  eval_same (one (cast k) p t) = ap (λ x. and_then x (cast_datum k)) (eval_same t)
  eval_same (one (times c v) p t) = ap (λ x. and_then x (times_datum c v)) (eval_same t)
  eval_same (two o c p l r) = λ i. joined zone o (eval_same l i) (eval_same r i)

  tree_same : (p : Parsed Tree) → of_tree zone s a p ≡ of_tree zone s b p
  unfolding of_tree
  tree_same none = refl
  tree_same (got t n) = ap as_result (eval_same t)

rows_alone : (zone : Offset) (s : List ℕ) (a b : Row) → bare_texts a ≡ bare_texts b → result_at zone s a ≡ result_at zone s b
unfolding result_at
rows_alone zone s a b e = tree_same zone s a b e (parse_within s)

pub fields_alone : FieldsAlone
fields_alone =
    record {
      of_values = rows_alone;
      of_rows = λ zone s a b e. rows_alone zone s a b (ap (map bare) e);
      of_lines = λ zone s a b e. rows_alone zone s (row_of a) (row_of b) (ap (map bare) (row_texts a ∙ e ∙ sym (row_texts b)));
    }

pub plain_fields : PlainFields
unfolding eval
plain_fields zone s line k w n p = ap valued (plain_field k line n)
