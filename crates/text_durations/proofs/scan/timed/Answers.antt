use Rattle.text_forms.specs.Forms.{time_mark}
use Rattle.text_durations.proofs.Going.{no_time_lem, no_letters, no_mark, the_time}
use Rattle.numerals.proofs.Positions.{within}
use native.Mathlib.Omega.{arith}
use mathlib.Core.Path.{sym, ◌∙◌}
use Rattle.text_durations.proofs.scan.timed.Goals as goal

pub returns-then-after-eq0 : goal.returns-then-after-eq0
returns-then-after-eq0 c = no_time_lem c.args.s.now c.args.after.now _ _ c.args.t c.requires.1 (no_letters c.args.s.now c.args.after.now c.args.t.at c.if-after-eq0.true) c.ended.ensures

pub returns-then-byte-ne84 : goal.returns-then-byte-ne84
returns-then-byte-ne84 c = no_time_lem c.args.s.now c.args.after.now _ _ c.args.t c.requires.1 (no_mark c.args.s.now c.args.after.now c.args.t.at c.byte.ensures c.if-byte-ne84.true) c.ended-then-byte-ne84.ensures

pub components-requires : goal.components-requires
components-requires c = (omega (arith, within c.args.s.now _ time_mark (sym c.byte.ensures ∙ c.if-byte-ne84.false) (omega arith)), c.requires.1, c.requires.2)

pub returns : goal.returns
returns c = the_time _ _ _ _ c.args.t c.if-after-eq0.false (sym c.byte.ensures ∙ c.if-byte-ne84.false) c.components.ensures c.ended-2.ensures
