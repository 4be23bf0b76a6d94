-- Carried: time as whole seconds and a part of a second, where a machine number has no room for the ticks; the last
-- tick of a day; and answers that hold only valid values. No promise to a caller rests on it.
use Rattle.std.specs.Prelude.{Bool, true, ℕ, ◌+◌, ◌-◌, ◌*◌, ◌/◌, ◌%◌}
use Rattle.basis.specs.Answer.{Answer, gives, refuses_for}
use Rattle.value.specs.Bounds.{second_ticks, day_ticks}
use Rattle.value.specs.Kinds.{ok_value}
use Rattle.value.specs.declared.Span.{Span}
use Rattle.value.specs.declared.Value.{Value}

-- a span of time in code is whole seconds and a part of a second; here it is its ticks
abbrev pub ticks_of : Span → ℕ
ticks_of s = s.seconds * second_ticks + s.part

abbrev pub span_of : ℕ → Span
span_of t = record { seconds = t / second_ticks; part = t % second_ticks }

-- the last tick of a day
abbrev pub max_clock : ℕ
max_clock = day_ticks - 1

-- an answer whose value, if it gives one, is within its kind's bounds
abbrev pub valid : Answer Value → Bool
valid (gives v) = ok_value v
valid (refuses_for r) = true
