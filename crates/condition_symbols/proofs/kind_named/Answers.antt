use native.Mathlib.Omega.{arith}
use borrow.Author.Rules.{rules}
use Rattle.std.proofs.lemmas.Slice.Eq.{text_from_reads}
use Rattle.basis.specs.Choice.{both}
use Rattle.basis.specs.Letters.{bytes}
use Rattle.condition_words.specs.Words.{same}
use Rattle.condition_symbols.specs.Symbols.{named}
use Rattle.condition_symbols.proofs.kind_named.Goals as goal

-- a name that was matched byte by byte
pub returns-in-120 : goal.returns-in-120
unfolding named same both
returns-in-120 c = rw (text_from_reads c.args.w.now (bytes "xs:date") (omega arith) (search rules))

pub returns-in-120-2 : goal.returns-in-120-2
unfolding named same both
returns-in-120-2 c = rw (text_from_reads c.args.w.now (bytes "xs:time") (omega arith) (search rules))

pub returns-in-120-3 : goal.returns-in-120-3
unfolding named same both
returns-in-120-3 c = rw (text_from_reads c.args.w.now (bytes "xs:dateTime") (omega arith) (search rules))

pub returns-in-120-4 : goal.returns-in-120-4
unfolding named same both
returns-in-120-4 c = rw (text_from_reads c.args.w.now (bytes "xs:dayTimeDuration") (omega arith) (search rules))

pub returns-in-120-5 : goal.returns-in-120-5
unfolding named same both
returns-in-120-5 c = rw (text_from_reads c.args.w.now (bytes "xs:yearMonthDuration") (omega arith) (search rules))
