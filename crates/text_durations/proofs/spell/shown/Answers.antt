use mathlib.Core.Path.{sym, ◌∙◌}
use mathlib.Core.List.{append_assoc, append-nil}
use Prim.Native.Nat.{ℕ}
use native.Mathlib.Omega.{arith}
use lib.ListN.{length-append}
use Rattle.text_durations.proofs.Written.{is_dropped, is_shown, shown_length}
use Rattle.text_durations.proofs.spell.shown.Goals as goal

pub returns-then-is_zero : goal.returns-then-is_zero
returns-then-is_zero c = rw (is_dropped c.args.letter c.args.n c.args.ticks c.fraction_in-u.ensures (sym c.is_zero.ensures ∙ c.if-is_zero.true), append-nil)

pub push_decimal-requires : goal.push_decimal-requires
push_decimal-requires c = (omega arith, omega (arith, shown_length c.args.letter c.args.n c.args.ticks c.fraction_in-u.ensures (sym c.is_zero.ensures ∙ c.if-is_zero.false)))

pub push_fraction-requires : goal.push_fraction-requires
push_fraction-requires c =
    (omega arith, rw (c.push_decimal.ensures, length-append {A = ℕ}) (omega (arith, shown_length c.args.letter c.args.n c.args.ticks c.fraction_in-u.ensures (sym c.is_zero.ensures ∙ c.if-is_zero.false))))

pub push-requires : goal.push-requires
push-requires c =
    (omega arith, rw (c.push_fraction.ensures, c.push_decimal.ensures) (simp length-append (omega (arith, shown_length c.args.letter c.args.n c.args.ticks c.fraction_in-u.ensures (sym c.is_zero.ensures ∙ c.if-is_zero.false)))))

pub returns : goal.returns
returns c =
    rw (c.push.ensures, c.push_fraction.ensures, c.push_decimal.ensures, is_shown c.args.letter c.args.n c.args.ticks c.fraction_in-u.ensures (sym c.is_zero.ensures ∙ c.if-is_zero.false))
    (simp append_assoc)
