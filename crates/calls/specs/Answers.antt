-- docs/LINES.md, "The calculator": the answer to a line. Which call it is stands first; "Then each text is read, from the
-- left; the first that does not read gives `refused→` and its number." "Then the call is made; a refusal gives `refused→` and
-- its number".
use Rattle.std.specs.Prelude.{false, List, ◌∷◌, ◌++◌, ℕ}
use Rattle.basis.specs.Answer.{Answer, gives, refuses_for}
use Rattle.basis.specs.Letters.{bytes}
use Rattle.timetable.specs.Fields.{tab, field_at}
use Rattle.value_components.specs.Components.{components_of}
use Rattle.value.specs.Refusals.{bad_condition}
use Rattle.value_instants.specs.Ticks.{utc}
use Rattle.value.specs.declared.Value.{Value}
use Rattle.text.specs.Reading.{read_as}
use Rattle.text.specs.Writing.{text_of}
use Rattle.operation_ordering.specs.Order.{Order, less, equal, greater, order_in}
use Rattle.operation_arithmetic.specs.Sums.{plus_of, minus_in}
use Rattle.operation_arithmetic.specs.Products.{times_of}
use Rattle.operation_casting.specs.Casts as casts
use Rattle.operation_adjusting.specs.Adjustment.{adjust_of, unzone_of}
use Rattle.calls_replies.specs.Replies.{number_text}
use Rattle.calls_asked.specs.Asked.{has_minus, whole_magnitude, form_of}
use Rattle.calls_replies.specs.ReplyParts.{parts_text}
use Rattle.calls_asked.specs.declared.One.{One}
use Rattle.calls_asked.specs.declared.One.TheVariants as O
use Rattle.calls_asked.specs.declared.Two.{Two}
use Rattle.calls_asked.specs.declared.Two.TheVariants as T
use Rattle.calls_asked.specs.declared.CallForm.{CallForm}
use Rattle.calls_asked.specs.declared.CallForm.TheVariants as F

-- `refused`, a tab and the number
unfoldable pub refused_text : ℕ → List ℕ
refused_text number = bytes "refused" ++ (tab ∷ number_text false number 0)

-- what was answered, put into words by f; a refusal by its number
abbrev pub said : {A : Type 0} → (A → List ℕ) → Answer A → List ℕ
said f (gives a) = f a
said f (refuses_for r) = refused_text r.number

abbrev pub order_text : Order → List ℕ
order_text less = bytes "lt"
order_text equal = bytes "eq"
order_text greater = bytes "gt"

-- the calls on one value
unfoldable pub one_text : One → Value → List ℕ
one_text O.Read v = text_of v
one_text O.Unzone v = said text_of (unzone_of v)
one_text O.Components v = said parts_text (components_of v)

-- the calls on two values
unfoldable pub two_text : Two → Value → Value → List ℕ
two_text T.Compare a b = said order_text (order_in utc a b)
two_text T.Add a b = said text_of (plus_of a b)
two_text T.Subtract a b = said text_of (minus_in utc a b)
two_text T.Adjust a z = said text_of (adjust_of a z)

-- a line that is no call, and an input that is too long
abbrev pub no_call : List ℕ
no_call = refused_text bad_condition

-- "Input of over 65,536 bytes is answered with the one line `refused→7` and nothing else."
abbrev pub max_calls_input : ℕ
max_calls_input = 65_536

unfoldable pub answer_by : List ℕ → CallForm → List ℕ
answer_by line F.No = no_call
answer_by line (F.OfOne o k) = said (one_text o) (read_as k (field_at line 3))
answer_by line (F.OfTwo o k l) = said (λ a. said (two_text o a) (read_as l (field_at line 5))) (read_as k (field_at line 3))
answer_by line (F.Product k) =
    said (λ a. said text_of (times_of a (has_minus (field_at line 4)) (whole_magnitude (field_at line 4)))) (read_as k (field_at line 3))
answer_by line (F.Cast k l) = said (λ a. said text_of (casts.cast_of a l)) (read_as k (field_at line 3))

-- a line without its byte 10, and the answer without its byte 10
unfoldable pub answer_of : List ℕ → List ℕ
answer_of line = answer_by line (form_of line)
