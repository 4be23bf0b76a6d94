-- The text of a valid value is not empty: the empty text does not read as any kind, and what is written does.
use mathlib.Core.Path.{◌≡◌, refl, sym, ◌∙◌}
use mathlib.Core.Bool.{true}
use mathlib.Core.List.{List, [], ◌∷◌}
use Prim.Native.Nat.{ℕ, ◌<◌}
use native.Mathlib.Omega.{arith}
use lib.ListN.{length}
use Rattle.basis.specs.Choice.{both}
use Rattle.basis.specs.Answer.{gives, refuses}
use Rattle.value.specs.Refusals.{bad_text}
use Rattle.value.specs.Rows.{is_moment}
use Rattle.value.specs.Kinds.{kind_of, ok_value}
use Rattle.value.specs.declared.Kind.{Kind}
use Rattle.value.specs.declared.Kind.TheVariants as KV
use Rattle.value.specs.declared.Value.{Value}
use Rattle.numerals.specs.Reading.{is_digit, number}
use Rattle.text_scan.specs.Scanning.{pair_at, is_pair, with_pair, fraction_part, zone_signed, zone_part, four_zeros, year_at, year_part, part_at, scanned}
use Rattle.text_checks.specs.Reading.{judge}
use Rattle.text_layouts.specs.Reading.{read_layout}
use Rattle.text_durations.specs.Walks.{component, components, shape_from, shape, counted, read_by}
use Rattle.text.specs.Reading.{read_bare}
use Rattle.text.specs.Writing.{text_of}
use Rattle.text.proofs.RoundTrip.{bytes_read_back}

-- the rows: along none of them the empty text reads
pub empty_refused : (k : Kind) → read_bare k [] ≡ refuses bad_text
unfolding read_bare read_layout is_moment judge scanned part_at year_part year_at four_zeros zone_part zone_signed fraction_part pair_at is_pair with_pair number is_digit both read_by counted shape shape_from components component
empty_refused KV.Date = refl
empty_refused KV.Time = refl
empty_refused KV.DateTime = refl
empty_refused KV.DayTimeDuration = refl
empty_refused KV.YearMonthDuration = refl

pub written_some : (v : Value) → ok_value v ≡ true → 0 < length (text_of v)
written_some v g = go (text_of v) (bytes_read_back v g)
  where
    go : (s : List ℕ) → read_bare (kind_of v) s ≡ gives v → 0 < length s
    go [] e = let f : gives v ≡ refuses bad_text = sym e ∙ empty_refused (kind_of v) in absurd (let z : ◌≡◌ {A = ℕ} 0 1 = cc in omega arith)
    go (b ∷ bs) e = omega arith
