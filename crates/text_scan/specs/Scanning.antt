-- Document 01, "Reading text", check 1, the shape: the parts of a text, found before they are judged. A kind has a
-- layout (crate `value`), the letters of its parts with the bytes that stand between them, and a text's parts are
-- found one after the other along it. A byte past the text's end counts as 0, which is no digit and no punctuation.
use Rattle.std.specs.Prelude.{Bool, true, false, List, [], ◌∷◌, ℕ, ◌+◌, ◌-◌, ◌*◌, ◌/◌, ◌%◌, eqb, ltb, length}
use Prim.Native.Char.{code}
use Rattle.basis.specs.Choice.{both, every, pick}
use Rattle.value.specs.Bounds.{second_ticks, minute_seconds, hour_minutes, minute_ticks, hour_ticks}
use Rattle.value.specs.Clocks.{clock_of}
use Rattle.value.specs.Rows.{layout_of, template_of}
use Rattle.value.specs.declared.DateTime.{DateTime}
use Rattle.value.specs.declared.Kind.{Kind}
use Rattle.numerals.specs.Reading.{is_digit, Number, numeral_at, at, fraction_at}
use Rattle.numerals.specs.declared.Fraction.{Fraction}
use Rattle.text_scan.specs.declared.FoundDate.{FoundDate}
use Rattle.text_scan.specs.declared.FoundClock.{FoundClock}
use Rattle.text_scan.specs.declared.FoundZone.{FoundZone}

-- What is found in a text is a date, a clock and a zone, each a record; the zone's sign is 0 where there is none.
-- With them go the offset that is reached and whether every part up to there was found; where not, the offset is that
-- of the first byte at which no text of good shape could go on.
pub record Scan : Type 0 where
  pub date : FoundDate
  pub clock : FoundClock
  pub zone : FoundZone
  pub at : ℕ
  pub good : Bool

-- two digits, and a year, with the offset after them; or the offset of the first byte that they could not have there
pub record Pair : Type 0 where
  pub value : ℕ
  pub at : ℕ
  pub good : Bool

pub record Year : Type 0 where
  pub value : ℕ
  pub at : ℕ
  pub good : Bool

-- a time of day in ticks, as the clock that shows it
abbrev pub clock_fields : ℕ → FoundClock
clock_fields u =
    record {
      hour = u / hour_ticks;
      minute = u / minute_ticks % hour_minutes;
      second = u / second_ticks % minute_seconds;
      part = u % second_ticks;
      long = false;
      point = 0;
    }

-- before the first byte: the template's fields, for the parts that the kind has not, and no zone
abbrev pub start_of : DateTime → Scan
start_of d =
    record {
      date = record { negative = false; year = d.year; month = d.month; day = d.day };
      clock = clock_fields (clock_of d);
      zone = record { sign = 0; hours = 0; minutes = 0 };
      at = 0;
      good = true;
    }

-- another offset, and nothing more that was found
abbrev pub reached : Scan → ℕ → Bool → Scan
reached t i g = record { date = t.date; clock = t.clock; zone = t.zone; at = i; good = g }

-- a year that was found, or not
abbrev pub with_year : Scan → Bool → Year → Scan
with_year t n y =
    record {
      date = record { negative = n; year = y.value; month = t.date.month; day = t.date.day };
      clock = t.clock;
      zone = t.zone;
      at = y.at;
      good = y.good;
    }

-- a fraction that was found
abbrev pub with_fraction : Scan → Fraction → Scan
with_fraction t f =
    record {
      date = t.date;
      clock = record { hour = t.clock.hour; minute = t.clock.minute; second = t.clock.second; part = f.ticks; long = f.long; point = t.at };
      zone = t.zone;
      at = f.end;
      good = true;
    }

-- a zone that was found
abbrev pub with_zone_part : Scan → FoundZone → ℕ → Scan
with_zone_part t z i = record { date = t.date; clock = t.clock; zone = z; at = i; good = true }

-- two digits at i, or the first offset at which there is none
unfoldable pub pair_at : List ℕ → ℕ → Pair
pair_at s i =
    pick (is_digit (at s i))
    (pick (is_digit (at s (i + 1))) (record { value = (at s i - code "0") * 10 + (at s (i + 1) - code "0"); at = i + 2; good = true })
    (record { value = 0; at = i + 1; good = false }))
    (record { value = 0; at = i; good = false })

-- M, D, h, m, s: two digits
unfoldable pub is_pair : ℕ → Bool
is_pair p = pick (eqb p (code "M")) true (pick (eqb p (code "D")) true (pick (eqb p (code "h")) true (pick (eqb p (code "m")) true (eqb p (code "s")))))

-- a number as the field of a date, or of a clock, that a letter stands for; other letters leave it
abbrev pub date_with : ℕ → FoundDate → ℕ → FoundDate
date_with p d n = record { negative = d.negative; year = d.year; month = pick (eqb p (code "M")) n d.month; day = pick (eqb p (code "D")) n d.day }

abbrev pub clock_with : ℕ → FoundClock → ℕ → FoundClock
clock_with p c n =
    record {
      hour = pick (eqb p (code "h")) n c.hour;
      minute = pick (eqb p (code "m")) n c.minute;
      second = pick (eqb p (code "s")) n c.second;
      part = c.part;
      long = c.long;
      point = c.point;
    }

unfoldable pub with_pair : ℕ → Scan → Pair → Scan
with_pair p t g =
    record {
      date = date_with p t.date g.value;
      clock = clock_with p t.clock g.value;
      zone = t.zone;
      at = g.at;
      good = g.good;
    }

-- f: nothing, or a point and at least one digit
abbrev pub fraction_is : Scan → ℕ → Fraction → Scan
fraction_is t i f = pick (eqb f.end i) (reached t i false) (with_fraction t f)

unfoldable pub fraction_part : List ℕ → Scan → Scan
fraction_part s t = pick (eqb (at s t.at) (code ".")) (fraction_is t (t.at + 1) (fraction_at s (t.at + 1))) t

-- z: the text's end, or Z, or a sign with hh:mm
abbrev pub zone_minutes : Scan → ℕ → Pair → Pair → Scan
zone_minutes t z h m = pick m.good (with_zone_part t (record { sign = z; hours = h.value; minutes = m.value }) m.at) (reached t m.at false)

abbrev pub zone_hours : List ℕ → Scan → ℕ → Pair → Scan
zone_hours s t z h =
    pick h.good (pick (eqb (at s h.at) (code ":")) (zone_minutes t z h (pair_at s (h.at + 1))) (reached t h.at false)) (reached t h.at false)

unfoldable pub zone_signed : List ℕ → Scan → ℕ → Scan
zone_signed s t z = zone_hours s t z (pair_at s (t.at + 1))

unfoldable pub zone_part : List ℕ → Scan → Scan
zone_part s t =
    pick (eqb (length s) t.at) t
    (pick (eqb (at s t.at) (code "Z")) (with_zone_part t (record { sign = code "Z"; hours = 0; minutes = 0 }) (t.at + 1))
    (pick (eqb (at s t.at) (code "+")) (zone_signed s t (code "+")) (pick (eqb (at s t.at) (code "-")) (zone_signed s t (code "-")) (reached t t.at false))))

-- What is kept of a year's number: all of it here; in the code less (Carried.antt).
abbrev pub uncapped : ℕ → ℕ
uncapped n = n

-- a year has four digits, or more
abbrev pub year_digits : ℕ
year_digits = 4

-- its first four digits are all 0, or it has more and the first is 0
unfoldable pub four_zeros : List ℕ → ℕ → Bool
four_zeros s i =
    every
    (eqb (at s i) (code "0")
    ∷ eqb (at s (i + 1)) (code "0")
    ∷ eqb (at s (i + 2)) (code "0")
    ∷ eqb (at s (i + 3)) (code "0")
    ∷ [])

abbrev pub leading_zero : List ℕ → ℕ → ℕ → Bool
leading_zero s i n = both (ltb year_digits n) (eqb (at s i) (code "0"))

module _ (keep : ℕ → ℕ) where
  -- four digits, not all 0; or more, the first not 0
  abbrev pub year_is : List ℕ → ℕ → Number → Year
  year_is s i n =
      pick (ltb n.count year_digits) (record { value = 0; at = i + n.count; good = false })
      (pick (four_zeros s i) (record { value = 0; at = i + 3; good = false })
      (pick (leading_zero s i n.count) (record { value = 0; at = i + 4; good = false })
      (record { value = keep n.value; at = i + n.count; good = true })))

  unfoldable pub year_at : List ℕ → ℕ → Year
  year_at s i = year_is s i (numeral_at s i)

  -- Y: a year, after an optional minus
  unfoldable pub year_part : List ℕ → Scan → Scan
  year_part s t = pick (eqb (at s t.at) (code "-")) (with_year t true (year_at s (t.at + 1))) (with_year t false (year_at s t.at))

  -- one letter of a layout
  unfoldable pub part_at : ℕ → List ℕ → Scan → Scan
  part_at p s t =
      pick (eqb p (code "Y")) (year_part s t)
      (pick (eqb p (code "f")) (fraction_part s t)
      (pick (eqb p (code "z")) (zone_part s t)
      (pick (is_pair p) (with_pair p t (pair_at s t.at)) (pick (eqb (at s t.at) p) (reached t (t.at + 1) true) (reached t t.at false)))))

  -- after a part that is not there nothing more is looked for
  abbrev pub scanned_part : ℕ → List ℕ → Scan → Scan
  scanned_part p s t = pick t.good (part_at p s t) t

  -- the parts of a layout, one after the other
  unfoldable pub scanned : List ℕ → List ℕ → Scan → Scan
  scanned [] s t = t
  scanned (p ∷ ps) s t = scanned ps s (scanned_part p s t)

  -- the parts of a text of a kind
  abbrev pub scanned_parts : Kind → List ℕ → Scan
  scanned_parts k s = scanned (layout_of k) s (start_of (template_of k))
