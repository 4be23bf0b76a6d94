-- Carried: what the call that serves a seat hands to a turn. No promise to a caller rests on it: a turn is stated over
-- `serve_of` of Serving.antt.
use Rattle.std.specs.Prelude.{◌≡◌}
use Rattle.basis.specs.Answer.{gives}
use Rattle.desk_seat.specs.Answers.{turn_meaning}
use Rattle.desk_seat.specs.Serving.{Step}
use Rattle.desk_seat.specs.declared.Seat.{Seat}
use Rattle.desk_seat.specs.declared.TurnAnswer.{TurnAnswer}

-- the seat that a call leaves and its answer are such a step
pub record Steps (s : Seat) (r : TurnAnswer) (x : Step) : Type 0 where
  pub seat : s ≡ x.seat
  pub answer : turn_meaning r ≡ gives x.answer
