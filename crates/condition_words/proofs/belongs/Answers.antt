use Rattle.condition_words.proofs.Letters.{of_space, of_letter, of_unquoted}
use Rattle.condition_words.proofs.belongs.Goals as goal

pub returns-in-Space : goal.returns-in-Space
returns-in-Space c = of_space _ _ c.in-Space.is

pub returns-in-Letter : goal.returns-in-Letter
returns-in-Letter c = search of_letter

pub returns-in-Unquoted : goal.returns-in-Unquoted
returns-in-Unquoted c = search of_unquoted
