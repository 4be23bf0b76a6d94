-- Carried: a run in code is four spans; here it is their ticks, and what is known of them. No promise to a caller rests on it: runs are
-- Occurrences.antt.
use Rattle.std.specs.Prelude.{◌<◌, ◌≤◌, Err, Ok, Result}
use Rattle.basis.specs.Answer.{Answer, gives, refuses_for}
use Rattle.value.specs.Reasons.{reason_of}
use Rattle.value.specs.Bounds.{second_ticks, max_day_time}
use Rattle.value.specs.declared.Span.{Span}
use Rattle.value.specs.Carried.{ticks_of}
use Rattle.run_times.specs.Occurrences.{Times}
use Rattle.run_times.specs.declared.Run.{Run}
use Rattle.value.specs.declared.Refusal.{Refusal}

abbrev pub span_times : Run → Times
span_times r =
    record { first = ticks_of r.first; last = ticks_of r.last; local = ticks_of r.local; step = ticks_of r.step }

-- no instant, local time or step of values is longer than the greatest duration
pub record Short (s : Span) : Type 0 where
  pub part : s.part < second_ticks
  pub ticks : ticks_of s ≤ max_day_time

-- the spans are those of values
pub record Good (r : Run) : Type 0 where
  pub first : Short r.first
  pub last : Short r.last
  pub local : Short r.local
  pub step : Short r.step

-- a run whose step is above zero
pub record Going (r : Run) : Type 0 where
  pub good : Good r
  pub above : 0 < ticks_of r.step

-- what a verdict says
abbrev pub verdict_meaning : Result Unit Refusal → Answer (Unit {0})
verdict_meaning (Ok tt) = gives tt
verdict_meaning (Err r) = refuses_for (reason_of r)
