-- What `dated_of` answers: a date exactly when the day's year is not later than the last one, and then the date of that
-- day. From the answer back to the year, and from a day's year and its number there to the answer.
use Rattle.std.specs.Prelude.{None, Option, Some}
use mathlib.Core.Path.{◌≡◌, refl, ap, sym, ◌∙◌}
use mathlib.Core.Bool.{Bool, true, false, true≢false}
use Prim.Native.Nat.{ℕ, ◌+◌, ◌≤◌, ◌<◌}
use native.Mathlib.Omega.{arith}
use lib.Dec.{leb}
use borrow.Author.Tests.{le-leb, lt-leb, leb-true, leb-false}
use Rattle.basis.specs.Choice.{pick}
use Rattle.calendar.specs.declared.Date.{Date}
use Rattle.calendar.specs.Calendar.{total, year_days, date_within, date_of, dated_of}
use Rattle.calendar.proofs.Years.{dated_by, days_up_to, year_up_to, years_next, years_grow}

pub on_time : (n last : ℕ) → (date_of n).year ≤ last → dated_of n last ≡ Some (date_of n)
unfolding dated_of
on_time n last h = ap (λ (b : Bool). pick b (Some (date_of n)) None) (le-leb (date_of n).year last h)

pub too_late : (n last : ℕ) → last < (date_of n).year → dated_of n last ≡ None
unfolding dated_of
too_late n last h = ap (λ (b : Bool). pick b (Some (date_of n)) None) (lt-leb (date_of n).year last h)

-- the day's year was found, up to the last one
pub on_from_lem : (n last y k : ℕ) (d : Date) → k < year_days y → total year_days y + k ≡ n → y ≤ last
    → d ≡ date_within (record { number = y; left = k }) → Some d ≡ dated_of n last
on_from_lem n last y k d hk e hy ed =
    let q : d ≡ date_of n = ed ∙ dated_by n y k hk e in
    let hq : (date_of n).year ≤ last = year_up_to n last (omega (arith, years_next y, years_grow (y + 1) (last + 1) (omega arith))) in
    ap Some q ∙ sym (on_time n last hq)

-- the year is the last one, and the day lies beyond
pub later_from : (n last y k : ℕ) → year_days y ≤ k → total year_days y + k ≡ n → y ≡ last → None ≡ dated_of n last
later_from n last y k hk e ey = sym (too_late n last (go (leb (date_of n).year last) refl))
  where
    go : (b : Bool) → leb (date_of n).year last ≡ b → last < (date_of n).year
    go true h = absurd (bad (days_up_to n last (leb-true _ _ h)))
      where
        bad : n < total year_days (last + 1) → ⊥
        bad g =
            let t : total year_days y ≡ total year_days last = ap (total year_days) ey in
            let s : year_days y ≡ year_days last = ap year_days ey in
            omega (arith, years_next last)
    go false h = leb-false _ _ h

-- a date that was answered is that day's, of a year up to the last one
pub record OnTime (n last : ℕ) (d : Date) : Type 0 where
  pub date : d ≡ date_of n
  pub year_to : d.year ≤ last

abbrev is_later : Option Date → Bool
is_later (Some d) = false
is_later None = true

not_later : (d : Date) → Some d ≡ None → ⊥
not_later d q = true≢false (sym (ap is_later q))

pub on_says : (n last : ℕ) (d : Date) → dated_of n last ≡ Some d → OnTime n last d
unfolding dated_of
on_says n last d = go (leb (date_of n).year last) refl
  where
    go : (b : Bool) → leb (date_of n).year last ≡ b → pick b (Some (date_of n)) None ≡ Some d → OnTime n last d
    go true h q =
        let e : d ≡ date_of n = cc in
        record { date = e; year_to = rw e (leb-true _ _ h) }
    go false h q = absurd (not_later d (sym q))

-- where no date was answered, the day's year is later than the last one
pub later_says : (n last : ℕ) → dated_of n last ≡ None → last < (date_of n).year
unfolding dated_of
later_says n last = go (leb (date_of n).year last) refl
  where
    go : (b : Bool) → leb (date_of n).year last ≡ b → pick b (Some (date_of n)) None ≡ None → last < (date_of n).year
    go true h q = absurd (not_later (date_of n) q)
    go false h q = leb-false _ _ h
