-- Document 01, "Conditions": what a part of a condition gives is a value or a truth value, or a refusal.
use Rattle.std.specs.Prelude.{Bool}
use Rattle.basis.specs.Answer.{Answer, gives, refuses_for}
use Rattle.value.specs.declared.Value.{Value}

pub data Datum : Type 0 where
  value : Value → Datum
  truth : Bool → Datum

-- a value that was answered
abbrev pub valued : Answer Value → Answer Datum
valued (gives v) = gives (value v)
valued (refuses_for r) = refuses_for r
