use Prim.Native.Nat.{◌^◌, ◌<◌}
use native.Mathlib.Omega.{arith}
use Rattle.numerals.specs.Reading.{numeral_at}
use Rattle.numerals.proofs.Powers.{widened}
use Rattle.numerals.proofs.Stretches.{stretch_lt}
use Rattle.condition_symbols.specs.Symbols.{max_digits, whole_of}
use Rattle.condition_symbols.proofs.whole.Goals as goal

-- a stretch of at most six digits says less than 1,000,000, which is the cap
pub returns : goal.returns
unfolding whole_of
returns c =
    let n = numeral_at c.args.s.now c.args.from in
    let f = c.digits-n.ensures in
    let small : n.value < 10 ^ max_digits = widened n.value n.count max_digits (omega (arith, f.ends)) (stretch_lt c.args.s.now c.args.from) in
    grind arith
