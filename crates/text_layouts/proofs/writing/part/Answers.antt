use native.Mathlib.Omega.{arith}
use Rattle.numerals.proofs.Fractions.{fraction_short}
use Rattle.text_scan.specs.Carried.{width}
use Rattle.text_layouts.specs.Writing.{part_text}
use Rattle.text_layouts.proofs.Pieces.{text_pair, text_mark}
use Rattle.text_layouts.proofs.writing.part.Goals as goal

pub push_digits-requires : goal.push_digits-requires
unfolding width
push_digits-requires c =
    let h = rw c.in-89.is at c.requires.0 in
    (omega arith, omega arith)

pub push_fraction-requires : goal.push_fraction-requires
unfolding width
push_fraction-requires c =
    let h = rw c.in-102.is at c.requires.0 in
    (omega arith, omega (arith, fraction_short c.clock.result.part))

pub with_zone-requires : goal.with_zone-requires
unfolding width
with_zone-requires c = rw c.in-122.is at c.requires.0

pub push_digits-requires-in_default : goal.push_digits-requires-in_default
push_digits-requires-in_default c =
    (omega arith, omega (arith, (text_pair c.args.p c.args.d (λ q. omega arith) (λ q. omega arith) (λ q. omega arith) c.is_pair.ensures c.if-is_pair.true).1))

pub push-requires : goal.push-requires
push-requires c =
    (omega arith, omega (arith, (text_mark c.args.p c.args.d (λ q. omega arith) (λ q. omega arith) (λ q. omega arith) c.is_pair.ensures c.if-is_pair.false).1))

pub returns-in-89 : goal.returns-in-89
unfolding part_text
returns-in-89 c = rw c.in-89.is c.push_digits.ensures

pub returns-in-102 : goal.returns-in-102
unfolding part_text
returns-in-102 c = rw (c.in-102.is, c.push_fraction.ensures, c.clock.ensures)

pub returns-in-122 : goal.returns-in-122
unfolding part_text
returns-in-122 c = rw c.in-122.is c.with_zone.ensures

pub returns-in_default : goal.returns-in_default
returns-in_default c =
    rw ((text_pair c.args.p c.args.d (λ q. omega arith) (λ q. omega arith) (λ q. omega arith) c.is_pair.ensures c.if-is_pair.true).0, ← c.pair_of.ensures)
    c.push_digits-in_default.ensures

pub returns-in_default-2 : goal.returns-in_default-2
returns-in_default-2 c =
    rw (text_mark c.args.p c.args.d (λ q. omega arith) (λ q. omega arith) (λ q. omega arith) c.is_pair.ensures c.if-is_pair.false).0 c.push.ensures
