-- What the code's record of a refusal says, and the record that says it.
use Rattle.basis.specs.Answer.{Reason}
use Rattle.value.specs.declared.Refusal.{Refusal}

abbrev pub reason_of : Refusal → Reason
reason_of r = record { number = r.number }

abbrev pub refusal_of : Reason → Refusal
refusal_of r = record { number = r.number }
