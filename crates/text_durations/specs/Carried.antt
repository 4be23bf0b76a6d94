-- Carried: the sums of a walk and of a shape as far as a cap each, and what was read with the offset at which its
-- shape ends. No promise to a caller rests on it: what a text reads as is Walks.antt.
use Rattle.std.specs.Prelude.{◌≡◌, List, ℕ, ◌+◌, ◌≤◌, min, Err, Ok, Result}
use Rattle.basis.specs.Answer.{Answer, gives, refuses_for}
use Rattle.value.specs.Bounds.{max_day_time_seconds, max_year_month}
use Rattle.value.specs.Reasons.{reason_of}
use Rattle.value.specs.Kinds as kinds
use Rattle.value.specs.declared.Value.{Value}
use Rattle.text_forms.specs.Forms.{Form}
use Rattle.text_durations.specs.Walks.{shape}
use Rattle.text_durations.specs.declared.Sums.{Sums}
use Rattle.text_durations.specs.declared.Walk.{Walk}
use Rattle.text_durations.specs.declared.Shape.{Shape}
use Rattle.text_durations.specs.declared.Amount.{Amount}
use Rattle.text_durations.specs.declared.Reading.{Reading}
use Rattle.value.specs.declared.Refusal.{Refusal}

-- a sum is kept as far as one above its bound
abbrev pub months_cap : ℕ
months_cap = max_year_month + 1

abbrev pub seconds_cap : ℕ
seconds_cap = max_day_time_seconds + 1

abbrev pub capped_sums : Sums → Sums
capped_sums a = record { months = min months_cap a.months; seconds = min seconds_cap a.seconds }

abbrev pub up_to : Walk → Walk
up_to t = record { sums = capped_sums t.sums; ticks = t.ticks; long = t.long; at = t.at; far = t.far }

abbrev pub shape_up_to : Shape → Shape
shape_up_to t =
    record {
      negative = t.negative;
      sums = capped_sums t.sums;
      ticks = t.ticks;
      long = t.long;
      good = t.good;
      offset = t.offset;
    }

-- sums within the caps
abbrev pub Small : Sums → Type 0
Small a = (a.months ≤ months_cap) × (a.seconds ≤ seconds_cap)

-- how far a text is one of a form
abbrev pub shape_end : Form → List ℕ → ℕ
shape_end f s = (shape f.before f.after s).offset

-- what an answer of the code says
abbrev pub count_meaning : Result Amount Refusal → Answer Amount
count_meaning (Ok a) = gives a
count_meaning (Err r) = refuses_for (reason_of r)

-- what a reading is to say: what the text reads as, and the offset at which its shape ends
abbrev pub Reads : Answer Value → ℕ → Reading → Type 0
Reads a n r = (kinds.meaning r.outcome ≡ a) × (r.offset ≡ n)
