-- Document 02, a: blanks round the fields 3 to 5 of a run change nothing of what is read there.
use mathlib.Core.Path.{◌≡◌}
use mathlib.Core.List.{List}
use Prim.Native.Nat.{ℕ}
use Rattle.value.specs.declared.Kind.TheVariants as KV
use Rattle.value.specs.declared.Offset.{Offset}
use Rattle.timetable.specs.Rows.{row_of}
use Rattle.text_fields.specs.Fields.{bare_texts}
use Rattle.text_fields.proofs.Fields.{same_field}
use Rattle.run_cases.specs.StandsFor.{fields_read, run_of}

module _ (a b : List ℕ) (e : bare_texts (row_of a) ≡ bare_texts (row_of b)) where
  same_fields_read : fields_read a ≡ fields_read b
  unfolding fields_read
  same_fields_read =
      rw
      (same_field KV.DateTime (row_of a) (row_of b) 3 e, same_field KV.DateTime (row_of a) (row_of b) 4 e, same_field KV.DayTimeDuration (row_of a) (row_of b) 5 e)

  -- so it is the same run, or refused with the same number
  pub same_run : (zone : Offset) → run_of zone a ≡ run_of zone b
  unfolding run_of
  same_run zone = rw same_fields_read
