-- Carried: the room that the parts of a reply take. No promise to a caller rests on it: what a reply says is Replies.antt and
-- ReplyParts.antt.
use Rattle.std.specs.Prelude.{ℕ, ◌+◌, ◌*◌}

-- as many bytes are enough for a number's text: a sign, ten digits, a point and nine digits
abbrev pub number_width : ℕ
number_width = 21

-- no text of a clock or a zone is longer than this: its names, and its numbers with their width
abbrev pub clock_room : ℕ
clock_room = 24 + 3 * number_width

abbrev pub zone_room : ℕ
zone_room = 5 + number_width
