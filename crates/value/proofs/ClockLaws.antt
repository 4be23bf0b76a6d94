-- What there is to know of a record's time of day and of a duration's size: that they come back as they were put in,
-- and that within the bounds a record is told by its date, its time of day and its zone, a duration by its sign and
-- its size.
use Rattle.std.specs.Prelude.{Option}
use mathlib.Core.Path.{◌≡◌, refl, ap, sym, ◌∙◌}
use mathlib.Core.Bool.{Bool, true}
use Prim.Native.Nat.{ℕ, ◌+◌, ◌-◌, ◌*◌, ◌/◌, ◌%◌, ◌≤◌, ◌<◌}
use native.Mathlib.Omega.{arith}
use lib.Dec.{ltb}
use borrow.Author.Tests.{leb-true, le-leb, eq-eqb, eqb-true}
use Rattle.basis.specs.Choice.{both, every}
use Rattle.basis.proofs.Tests.{both_left, both_right, both_true, both_end}
use Rattle.calendar.specs.declared.Date.{Date}
use Rattle.value.specs.Bounds.{second_ticks, max_second, max_nanosecond, max_day_time}
use Rattle.value.specs.Clocks.{clock_of, with_time, at_clock, at_clock_of, same_clock, ticks_in, with_size, duration_of}
use Rattle.value.specs.Values.{ok_time_part, ok_signed, ok_day_time, date_in}
use Rattle.value.specs.Durations.{plus_half, minus_half, plus_ticks, minus_ticks, apart, less_ticks}
use Rattle.value.specs.declared.DateTime.{DateTime}
use Rattle.value.specs.declared.DayTime.{DayTime}
use Rattle.value.specs.Carried.{span_of, max_clock}
use Rattle.value.proofs.Spans.{span_is}
use Rattle.value.proofs.Signs.{signed_within, plus_apart, minus_apart, difference_ok}
use Rattle.value.specs.declared.Offset.{Offset}

-- a time of day that was put in comes back
pub clock_at : (e : Date) (t : ℕ) (z : Option Offset) → clock_of (at_clock e t z) ≡ t
unfolding clock_of
clock_at e t z = omega arith

pub clock_kept : (e : Date) (d : DateTime) (z : Option Offset) → clock_of (at_clock_of e d z) ≡ clock_of d
unfolding clock_of
clock_kept e d z = refl

-- the bounds on the two numbers of a time part
pub second_to : (d : DateTime) → ok_time_part d ≡ true → d.second ≤ max_second
unfolding ok_time_part every
second_to d g = leb-true _ _ (both_left _ _ g)

pub nanosecond_below : (d : DateTime) → ok_time_part d ≡ true → d.nanosecond < second_ticks
unfolding ok_time_part every
nanosecond_below d g = let h : d.nanosecond ≤ max_nanosecond = leb-true _ _ (both_left _ _ (both_right _ _ g)) in omega arith

-- its two numbers are the span of its ticks, and a span is the record's time part
pub clock_span : (d : DateTime) → ok_time_part d ≡ true → record { seconds = d.second; part = d.nanosecond } ≡ span_of (clock_of d)
unfolding clock_of
clock_span d g = span_is d.second d.nanosecond (clock_of d) (nanosecond_below d g) refl

pub at_span : (e : Date) (s p : ℕ) (z : Option Offset) → p < second_ticks → with_time e s p z ≡ at_clock e (s * second_ticks + p) z
at_span e s p z h =
    let x = span_is s p (s * second_ticks + p) h refl in
    λ i. with_time e (x i).seconds (x i).part z

-- a time part within the bounds is told by its ticks
pub one_time_part : (a b : DateTime) → ok_time_part a ≡ true → ok_time_part b ≡ true → clock_of a ≡ clock_of b → (a.second ≡ b.second) × (a.nanosecond ≡ b.nanosecond)
unfolding clock_of
one_time_part a b ga gb e =
    let ha = nanosecond_below a ga in
    let hb = nanosecond_below b gb in
    (omega arith, omega arith)

-- a record within the bounds is that of its date, its time of day and its zone
pub at_its_clock : (d : DateTime) → ok_time_part d ≡ true → at_clock (date_in d) (clock_of d) d.zone ≡ d
unfolding clock_of
at_its_clock d g =
    let h = nanosecond_below d g in
    let s : clock_of d / second_ticks ≡ d.second = omega arith in
    let n : clock_of d % second_ticks ≡ d.nanosecond = omega arith in
    λ i. with_time (date_in d) (s i) (n i) d.zone

-- so two records with one date, one time of day and one zone are one
pub one_record : (a b : DateTime) → ok_time_part a ≡ true → ok_time_part b ≡ true → date_in a ≡ date_in b → clock_of a ≡ clock_of b → a.zone ≡ b.zone → a ≡ b
one_record a b ga gb e t z = sym (at_its_clock a ga) ∙ (λ i. at_clock (e i) (t i) (z i)) ∙ at_its_clock b gb

-- of one time of day, records that share all else are one
pub same_clock_self : (d : DateTime) → same_clock d d ≡ true
unfolding same_clock
same_clock_self d = both_true _ _ (eq-eqb d.second d.second refl) (eq-eqb d.nanosecond d.nanosecond refl)

pub same_clock_one : (a b : DateTime) (e : Date) (z : Option Offset) → same_clock a b ≡ true → at_clock_of e a z ≡ at_clock_of e b z
unfolding same_clock
same_clock_one a b e z h =
    let s = eqb-true _ _ (both_left _ _ h) in
    let n = eqb-true _ _ (both_right _ _ h) in
    λ i. with_time e (s i) (n i) z

-- the bound on the time of day
pub clock_to : (d : DateTime) → ok_time_part d ≡ true → clock_of d ≤ max_clock
unfolding clock_of
clock_to d g =
    let hs = second_to d g in
    let hn = nanosecond_below d g in
    omega arith

pub time_part_at : (e : Date) (t : ℕ) (z : Option Offset) → t ≤ max_clock → ok_time_part (at_clock e t z) ≡ true
unfolding ok_time_part every
time_part_at e t z h =
    let hs : t / second_ticks ≤ max_second = omega arith in
    let hn : t % second_ticks ≤ max_nanosecond = omega arith in
    both_true _ _ (le-leb _ _ hs) (both_true _ _ (le-leb _ _ hn) refl)

pub time_part_kept : (e : Date) (d : DateTime) (z : Option Offset) → ok_time_part d ≡ true → ok_time_part (at_clock_of e d z) ≡ true
unfolding ok_time_part
time_part_kept e d z g = g

-- the time of day of a record, put into another, is its time part
pub own_clock : (e : Date) (d : DateTime) (z : Option Offset) → ok_time_part d ≡ true → at_clock e (clock_of d) z ≡ at_clock_of e d z
own_clock e d z g =
    one_record (at_clock e (clock_of d) z) (at_clock_of e d z) (time_part_at e (clock_of d) z (clock_to d g)) (time_part_kept e d z g) refl (clock_at e (clock_of d) z ∙ sym (clock_kept e d z)) refl

-- a size that was put in comes back
pub ticks_of_duration : (negative : Bool) (t : ℕ) → ticks_in (duration_of negative t) ≡ t
unfolding ticks_in
ticks_of_duration negative t = omega arith

-- the bound on the nanoseconds of a duration
pub nanoseconds_below : (d : DayTime) → ok_day_time d ≡ true → d.nanoseconds < second_ticks
unfolding ok_day_time every
nanoseconds_below d g = let h : d.nanoseconds ≤ max_nanosecond = leb-true _ _ (both_left _ _ g) in omega arith

-- its two numbers are the span of its size, and a span is a duration's size
pub size_span : (d : DayTime) → ok_day_time d ≡ true → record { seconds = d.seconds; part = d.nanoseconds } ≡ span_of (ticks_in d)
unfolding ticks_in
size_span d g = span_is d.seconds d.nanoseconds (ticks_in d) (nanoseconds_below d g) refl

pub lasting_span : (negative : Bool) (s p : ℕ) → p < second_ticks → with_size negative s p ≡ duration_of negative (s * second_ticks + p)
lasting_span negative s p h =
    let x = span_is s p (s * second_ticks + p) h refl in
    λ i. with_size negative (x i).seconds (x i).part

-- a duration within the bounds is that of its sign and its size
pub duration_is : (d : DayTime) → ok_day_time d ≡ true → duration_of d.negative (ticks_in d) ≡ d
unfolding ticks_in
duration_is d g =
    let h = nanoseconds_below d g in
    let s : ticks_in d / second_ticks ≡ d.seconds = omega arith in
    let n : ticks_in d % second_ticks ≡ d.nanoseconds = omega arith in
    λ i. with_size d.negative (s i) (n i)

pub one_duration : (a b : DayTime) → ok_day_time a ≡ true → ok_day_time b ≡ true → a.negative ≡ b.negative → ticks_in a ≡ ticks_in b → a ≡ b
one_duration a b ga gb n t = sym (duration_is a ga) ∙ (λ i. duration_of (n i) (t i)) ∙ duration_is b gb

-- the bound on the size, and zero without a sign
pub day_time_signed : (d : DayTime) → ok_day_time d ≡ true → ok_signed max_day_time d.negative (ticks_in d) ≡ true
unfolding ok_day_time every
day_time_signed d g = both_left _ _ (both_right _ _ g)

pub day_time_is : (negative : Bool) (t : ℕ) → ok_day_time (duration_of negative t) ≡ ok_signed max_day_time negative t
unfolding ok_day_time every both
day_time_is negative t =
    let h : t % second_ticks ≤ max_nanosecond = omega arith in
    rw (le-leb _ _ h) (both_end _ ∙ ap (ok_signed max_day_time negative) (ticks_of_duration negative t))

pub day_time_ok : (negative : Bool) (t : ℕ) → ok_signed max_day_time negative t ≡ true → ok_day_time (duration_of negative t) ≡ true
day_time_ok negative t g = day_time_is negative t ∙ g

pub ticks_to : (d : DayTime) → ok_day_time d ≡ true → ticks_in d ≤ max_day_time
ticks_to d g = signed_within max_day_time (ticks_in d) d.negative (day_time_signed d g)

-- the halves of the duration of p - q, and that it is within the bounds
pub plus_less : (p q : ℕ) → plus_ticks (less_ticks p q) ≡ p - q
plus_less p q = ap (plus_half (ltb p q)) (ticks_of_duration (ltb p q) (apart p q)) ∙ plus_apart p q

pub minus_less : (p q : ℕ) → minus_ticks (less_ticks p q) ≡ q - p
minus_less p q = ap (minus_half (ltb p q)) (ticks_of_duration (ltb p q) (apart p q)) ∙ minus_apart p q

pub less_ok : (p q : ℕ) → apart p q ≤ max_day_time → ok_day_time (less_ticks p q) ≡ true
less_ok p q h = day_time_ok (ltb p q) (apart p q) (difference_ok max_day_time p q h)
