use native.Mathlib.Omega.{arith}
use Rattle.basis.specs.Choice.{both}
use Rattle.std.proofs.lemmas.Bool.Decides.{nat_tests}
use Rattle.condition_words.specs.Words.{letter}
use Rattle.condition_words.proofs.letter.Goals as goal

pub returns-then-is_ascii_alphabetic : goal.returns-then-is_ascii_alphabetic
unfolding letter both
returns-then-is_ascii_alphabetic c = grind (arith, nat_tests)

pub returns-else-is_ascii_alphabetic : goal.returns-else-is_ascii_alphabetic
unfolding letter both
returns-else-is_ascii_alphabetic c = grind (arith, nat_tests)
