use mathlib.Core.List.{append_assoc, append-nil}
use Prim.Native.Nat.{ℕ}
use native.Mathlib.Omega.{arith}
use borrow.Author.Rules.{rules}
use lib.ListN.{length-append}
use Rattle.numerals.proofs.Decimals.{length_digits, no_digit, last_digit}
use Rattle.numerals.proofs.Text.+push_digits.Goals as goal

pub push-requires : goal.push-requires
push-requires g t c = (search rules, rw (c.push_digits.ensures, length-append {A = ℕ}, length_digits) (omega arith))

pub returns-then-k-gt0 : goal.returns-then-k-gt0
returns-then-k-gt0 g t c = rw (c.push.ensures, c.push_digits.ensures, last_digit c.args.k c.args.n c.if-k-gt0.true, append_assoc)

pub returns-else-k-gt0 : goal.returns-else-k-gt0
returns-else-k-gt0 g t c = rw (no_digit c.args.k c.args.n c.if-k-gt0.false, append-nil)
