-- docs/LINES.md, "Hostile desks": which event a line is, with its names and numbers, in the order of the table there.
-- "Any other line is answered with `refused→7`": it is no event.
use Rattle.std.specs.Prelude.{Bool, not, List, ℕ, ◌+◌, ◌-◌, Option, Some, None, option_map, option_and_then, leb, eqb, length}
use Rattle.basis.specs.Choice.{pick}
use Rattle.basis.specs.Letters.{bytes}
use Rattle.timetable.specs.Fields.{has_field, field_at}
use Rattle.condition_words.specs.Words.{same}
use Rattle.desk_seat.specs.Bounds.{condition_room}
use Rattle.desk.specs.Bounds.{seat_count, last_ticket}
use Rattle.hostile.specs.Fields.{condition_text}
use Rattle.line_fields.specs.Numbers.{greatest, number_of}
use Rattle.hostile.specs.declared.DeskNumber.TheVariants as D
use Rattle.hostile.specs.declared.SeatNumber.TheVariants as S
use Rattle.hostile.specs.declared.ScriptEvent.{ScriptEvent}
use Rattle.hostile.specs.declared.ScriptEvent.TheVariants as E

-- N where it is the last field of a line, the n-th: "`fresh`, `part`, `close` and `turns` have one, `set` two, `seat`
-- three" after the word
unfoldable pub last_number : List ℕ → ℕ → ℕ → Option ℕ
last_number line n most = pick (has_field line (n + 1)) None (number_of most (field_at line n))

-- an event where a test holds, else none
abbrev pub only_if : Bool → ScriptEvent → Option ScriptEvent
only_if good e = pick good (Some e) None

-- `fresh→N`, `part→N`, `close→N`, `turns→N`; that a room has at most 4,096 bytes is asked where it is made
abbrev pub fresh_with : Option ℕ → Option ScriptEvent
fresh_with n = option_map E.Fresh n

abbrev pub part_with : Option ℕ → Option ScriptEvent
part_with n = option_map E.Part n

abbrev pub close_with : Option ℕ → Option ScriptEvent
close_with n = option_map E.Close n

abbrev pub turns_with : Option ℕ → Option ScriptEvent
turns_with n = option_map E.Turns n

-- `set→NAME→N`: "NAME is `last_served`, `length` or `issued`"
abbrev pub last_served_with : Option ℕ → Option ScriptEvent
last_served_with n = option_map (λ (v : ℕ). E.Set (D.LastServed v)) n

abbrev pub length_with : Option ℕ → Option ScriptEvent
length_with n = option_map (λ (v : ℕ). E.Set (D.Length v)) n

abbrev pub issued_with : Option ℕ → Option ScriptEvent
issued_with n = option_map (λ (v : ℕ). E.Set (D.Issued v)) n

unfoldable pub set_by : List ℕ → List ℕ → Option ScriptEvent
set_by line name =
    pick (same name (bytes "last_served")) (last_served_with (last_number line 3 greatest))
    (pick (same name (bytes "length")) (length_with (last_number line 3 greatest))
    (pick (same name (bytes "issued")) (issued_with (last_number line 3 last_ticket)) None))

abbrev pub set_event : List ℕ → Option ScriptEvent
set_event line = set_by line (field_at line 2)

-- `seat→I→NAME→N`: "NAME is `held`, `ticket`, `offset`, `hits`, `unreadable`, `place` or `condition_length`";
-- "`held` takes 0 and 1"; a place may be as great as a ticket
abbrev pub held_with : ℕ → Option ℕ → Option ScriptEvent
held_with index n = option_map (λ (v : ℕ). E.Seat index (S.Held (eqb v 1))) n

abbrev pub ticket_with : ℕ → Option ℕ → Option ScriptEvent
ticket_with index n = option_map (λ (v : ℕ). E.Seat index (S.Ticket v)) n

abbrev pub offset_with : ℕ → Option ℕ → Option ScriptEvent
offset_with index n = option_map (λ (v : ℕ). E.Seat index (S.Offset v)) n

abbrev pub hits_with : ℕ → Option ℕ → Option ScriptEvent
hits_with index n = option_map (λ (v : ℕ). E.Seat index (S.Hits v)) n

abbrev pub unreadable_with : ℕ → Option ℕ → Option ScriptEvent
unreadable_with index n = option_map (λ (v : ℕ). E.Seat index (S.Unreadable v)) n

abbrev pub place_with : ℕ → Option ℕ → Option ScriptEvent
place_with index n = option_map (λ (v : ℕ). E.Seat index (S.Place v)) n

abbrev pub condition_length_with : ℕ → Option ℕ → Option ScriptEvent
condition_length_with index n = option_map (λ (v : ℕ). E.Seat index (S.ConditionLength v)) n

-- `seat→I→condition→TEXT`: "0 to 240 bytes"
unfoldable pub condition_event : List ℕ → ℕ → Option ScriptEvent
condition_event line index =
    pick (leb (length (condition_text line)) condition_room) (only_if (has_field line 4) (E.Condition index)) None

unfoldable pub last_names_by : List ℕ → ℕ → List ℕ → Option ScriptEvent
last_names_by line index name =
    pick (same name (bytes "unreadable")) (unreadable_with index (last_number line 4 greatest))
    (pick (same name (bytes "place")) (place_with index (last_number line 4 last_ticket))
    (pick (same name (bytes "condition_length")) (condition_length_with index (last_number line 4 greatest))
    (pick (same name (bytes "condition")) (condition_event line index) None)))

unfoldable pub seat_by : List ℕ → ℕ → List ℕ → Option ScriptEvent
seat_by line index name =
    pick (same name (bytes "held")) (held_with index (last_number line 4 1))
    (pick (same name (bytes "ticket")) (ticket_with index (last_number line 4 last_ticket))
    (pick (same name (bytes "offset")) (offset_with index (last_number line 4 greatest))
    (pick (same name (bytes "hits")) (hits_with index (last_number line 4 greatest)) (last_names_by line index name))))

-- "I is one to twenty digits and at most 15"
abbrev pub seat_event_with : List ℕ → Option ℕ → Option ScriptEvent
seat_event_with line index = option_and_then (λ (i : ℕ). seat_by line i (field_at line 3)) index

abbrev pub seat_event : List ℕ → Option ScriptEvent
seat_event line = seat_event_with line (number_of (seat_count - 1) (field_at line 2))

-- the events by their word
unfoldable pub building_by : List ℕ → List ℕ → Option ScriptEvent
building_by line word =
    pick (same word (bytes "set")) (set_event line) (pick (same word (bytes "seat")) (seat_event line) None)

-- "`turn`, `sound` and `show` have no further field"
abbrev pub if_alone : List ℕ → ScriptEvent → Option ScriptEvent
if_alone line e = only_if (not (has_field line 2)) e

unfoldable pub asking_by : List ℕ → List ℕ → Option ScriptEvent
asking_by line word =
    pick (same word (bytes "turn")) (if_alone line E.Turn)
    (pick (same word (bytes "turns")) (turns_with (last_number line 2 greatest))
    (pick (same word (bytes "sound")) (if_alone line E.Sound)
    (pick (same word (bytes "show")) (if_alone line E.Show) (building_by line word))))

-- the file has so many bytes: "N greater than what was read: `refused→7`"
unfoldable pub event_by : List ℕ → List ℕ → ℕ → Option ScriptEvent
event_by line word file =
    pick (same word (bytes "fresh")) (fresh_with (last_number line 2 greatest))
    (pick (same word (bytes "part")) (part_with (last_number line 2 file))
    (pick (same word (bytes "open")) (only_if (has_field line 2) E.Open)
    (pick (same word (bytes "close")) (close_with (last_number line 2 last_ticket)) (asking_by line word))))

abbrev pub event_of : List ℕ → ℕ → Option ScriptEvent
event_of line file = event_by line (field_at line 1) file
