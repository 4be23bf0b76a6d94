-- The test of a row, over any layout and template: what is kept of a date, and what is read along the layout, is then a
-- date. Each row passes it by computing; a law over every row that passes holds of every kind.
use mathlib.Core.Path.{◌≡◌, refl}
use mathlib.Core.Bool.{Bool, true, false}
use mathlib.Core.List.{List, [], ◌∷◌}
use Prim.Native.Nat.{ℕ, zero, suc}
use Prim.Native.Char.{code}
use lib.Dec.{eqb, leb, ltb}
use lib.ListN.{length}
use Rattle.basis.specs.Choice.{pick, both, every}
use Rattle.calendar.specs.Calendar.{month_days}
use Rattle.value.specs.Clocks.{clock_of}
use Rattle.value.specs.Values.{ok_date}
use Rattle.value.specs.Rows.{has, layout_of, template_of, kind_number}
use Rattle.value.specs.declared.Kind.{Kind}
use Rattle.value.specs.declared.Kind.TheVariants as KV
use Rattle.value.specs.declared.DateTime.{DateTime}

-- Where the year, the month or the day is missing (a, b, c: they are there), the template's stands for it and is a date
-- with whatever is read: a month of 31 days for any day, a leap year for any month and day, a day within the shortest
-- month that it may meet.
abbrev pub meets : Bool → Bool → Bool → DateTime → Bool
meets a b c t =
    pick c
    (pick b (pick a true (leb 29 (month_days t.year 2))) (leb 31 (month_days (pick a 1 t.year) t.month)))
    (leb t.day (month_days (pick a 1 t.year) (pick b 2 t.month)))

-- both or neither
abbrev pub together : Bool → Bool → Bool
together true b = b
together false b = pick b false true

-- the clock's letters are all there or none is; hour 24 moves to the next day, so that a clock stands with the whole
-- date or with none of it
unfoldable pub clock_whole : List ℕ → Bool
clock_whole ps =
    every
    (together (has ps (code "h")) (has ps (code "m"))
    ∷ together (has ps (code "h")) (has ps (code "s"))
    ∷ together (has ps (code "h")) (has ps (code "f"))
    ∷ pick (has ps (code "h")) (together (has ps (code "Y")) (has ps (code "M"))) true
    ∷ pick (has ps (code "h")) (together (has ps (code "Y")) (has ps (code "D"))) true
    ∷ [])

-- the template is a date at 00:00:00, and a layout that is not empty has a zone
unfoldable pub ok_row : List ℕ → DateTime → Bool
ok_row ps t =
    every
    (ok_date t.year t.month t.day
    ∷ meets (has ps (code "Y")) (has ps (code "M")) (has ps (code "D")) t
    ∷ clock_whole ps
    ∷ eqb (clock_of t) 0
    ∷ pick (ltb 0 (length ps)) (has ps (code "z")) true
    ∷ [])

-- THE ROWS PASS
pub rows_pass : (k : Kind) → ok_row (layout_of k) (template_of k) ≡ true
unfolding ok_row clock_whole has ok_date clock_of every both
rows_pass KV.Date = refl
rows_pass KV.Time = refl
rows_pass KV.DateTime = refl
rows_pass KV.DayTimeDuration = refl
rows_pass KV.YearMonthDuration = refl

-- and each kind has a number of its own
abbrev pub kind_at : ℕ → Kind
kind_at zero = KV.Date
kind_at (suc zero) = KV.Time
kind_at (suc (suc zero)) = KV.DateTime
kind_at (suc (suc (suc zero))) = KV.DayTimeDuration
kind_at (suc (suc (suc (suc n)))) = KV.YearMonthDuration

pub numbered : (k : Kind) → kind_at (kind_number k) ≡ k
numbered KV.Date = refl
numbered KV.Time = refl
numbered KV.DateTime = refl
numbered KV.DayTimeDuration = refl
numbered KV.YearMonthDuration = refl
