-- Worked cases: conditions with blanks round a literal, each with the condition without them that it means the same as.
use mathlib.Core.Path.{◌≡◌, refl}
use mathlib.Core.Bool.{true, false}
use mathlib.Core.List.{List}
use Prim.Native.Nat.{ℕ}
use lib.Dec.{leb}
use lib.ListN.{length}
use borrow.Author.Tests.{leb-true}
use Rattle.basis.specs.Choice.{both}
use Rattle.basis.specs.Letters.{bytes}
use Rattle.numerals.specs.Reading.{is_digit, number}
use Rattle.value.specs.declared.Kind.TheVariants as K
use Rattle.text_blanks.specs.Blanks.{is_blank, only_blanks}
use Rattle.condition_words.specs.Words.{letter, belongs, stretch_end_in, stretch_end, same}
use Rattle.condition_depth.specs.Depth.{max_depth}
use Rattle.condition_symbols.specs.Symbols as the
use Rattle.condition_symbols.specs.declared.Op.TheVariants as O
use Rattle.condition_grammar.specs.Grammar.{got, closed_at, many, repeated, inner, condition_in, condition_more_in, clause_in, clause_more_in, test_in, sum_in, sum_more_in, term_in, term_more_in, factor_in, held_in}
use Rattle.condition_grammar.specs.Trees.{Tree, leaf, one, two, literal, field, times, parse}
use Rattle.condition_grammar.proofs.Derived.{parsed_is_stated}
use Rattle.condition_grammar.proofs.Cases.{openings, few_not_deep}
use Rattle.condition.specs.Condition.{max_length}
use Rattle.condition_blanks.specs.Literals.{LiteralIn, here, below, left, right, around, MeanTheSame}
use Rattle.condition_blanks.proofs.Literals.{literal_blanks}

with_blanks : (s : List ℕ) (t : Tree) (n from to : ℕ) (p q : List ℕ) → parse s ≡ got t n → LiteralIn from to t → only_blanks p ≡ true → only_blanks q ≡ true
    → leb (length (around s from to p q)) max_length ≡ true → leb (openings s) max_depth ≡ true → MeanTheSame (around s from to p q) s
with_blanks s t n from to p q e l f g h d =
    literal_blanks s t from to p q (parsed_is_stated s t n e) l f g (leb-true (length (around s from to p q)) max_length h) (few_not_deep s d)

-- on both sides of a date; before a duration, in what is multiplied; and alone in the quotes, where no value is, with them or without
pub blanks_alike :
    MeanTheSame (bytes "xs:date(\" \t2024-03-31\n\") eq xs:date($2)") (bytes "xs:date(\"2024-03-31\") eq xs:date($2)") ×
    MeanTheSame (bytes "xs:time($3) - xs:time($2) lt xs:dayTimeDuration(\"\rPT5M\") * 2") (bytes "xs:time($3) - xs:time($2) lt xs:dayTimeDuration(\"PT5M\") * 2") ×
    MeanTheSame (bytes "xs:date($1) eq xs:date(\"  \")") (bytes "xs:date($1) eq xs:date(\"\")")
unfolding is_blank only_blanks openings parse condition_in condition_more_in clause_in clause_more_in test_in sum_in sum_more_in term_in term_more_in factor_in held_in inner many repeated closed_at the.mark_at the.operator_at the.comparing the.comparison_at the.sign_at the.named the.start_at the.text_from the.field_of the.field_from the.held_at the.whole_of the.whole_from the.multiplier_at number is_digit both letter belongs stretch_end_in stretch_end same
blanks_alike = (
  with_blanks (bytes "xs:date(\"2024-03-31\") eq xs:date($2)") (two O.Eq 0 22 (leaf K.Date 0 (literal 9 19)) (leaf K.Date 25 (field 2 33)))
      36 9 19 (bytes " \t") (bytes "\n") refl (left here) refl refl refl refl,
  with_blanks (bytes "xs:time($3) - xs:time($2) lt xs:dayTimeDuration(\"PT5M\") * 2")
      (two O.Lt 0 26 (two O.Minus 0 12 (leaf K.Time 0 (field 3 8)) (leaf K.Time 14 (field 2 22))) (one (times false 2) 58 (leaf K.DayTimeDuration 29 (literal 49 53))))
      59 49 53 (bytes "\r") (bytes "") refl (right (below here)) refl refl refl refl,
  with_blanks (bytes "xs:date($1) eq xs:date(\"\")") (two O.Eq 0 12 (leaf K.Date 0 (field 1 8)) (leaf K.Date 15 (literal 24 24)))
      26 24 24 (bytes " ") (bytes " ") refl (right here) refl refl refl refl,
)
