-- Lines that are alike but for blanks round their fields stand for cases with the same results.
use mathlib.Core.Path.{◌≡◌, refl, ap, sym, ◌∙◌}
use mathlib.Core.Bool.{Bool, true, false}
use mathlib.Core.List.{List, [], ◌∷◌, ◌++◌, map}
use Prim.Native.Nat.{ℕ, zero, suc}
use Rattle.basis.specs.Choice.{pick, both}
use Rattle.basis.specs.Answer.{Answer, gives, refuses_for}
use Rattle.basis.specs.Letters.{bytes}
use Rattle.value.specs.declared.Kind.TheVariants as KV
use Rattle.value.specs.declared.Value.TheVariants as VV
use Rattle.value_instants.specs.Ticks.{utc}
use Rattle.timetable.specs.Rows.{row_of, with_second}
use Rattle.timetable.proofs.Rows.{row_texts, alike_second}
use Rattle.timetable.proofs.LastFields.{alike_fields, second_field}
use Rattle.condition_words.specs.Words.{same}
use Rattle.text_blanks.specs.Blanks.{is_blank, only_blanks, bare}
use Rattle.text_blanks.proofs.Laws.{bare_around}
use Rattle.text.specs.Writing.{text_of}
use Rattle.text_fields.specs.Fields.{bare_texts}
use Rattle.condition.specs.Condition.{Result}
use Rattle.condition.proofs.FieldsAlone.{fields_alone}
use Rattle.run_times.specs.Occurrences.{count_of}
use Rattle.run_cases.specs.Cases.{Case, row_case, miss_case}
use Rattle.run_cases.specs.StandsFor.{is_run, RunFields, times_in, run_of, occurrence_at, occurrences, or_miss, run_cases, stands_for}
use Rattle.run_cases.proofs.Blanks.{same_run}
use Rattle.desk_seat.specs.Serving.{case_result}
use Rattle.desk_laws.specs.Blanks.{AlikeLines, BlanksChangeNoResult, CarriageReturns}

module _ (c a b : List ℕ) (h : AlikeLines a b) where
  abbrev Results : List Case → List Result
  Results cs = map (case_result c) cs

  texts : bare_texts (row_of a) ≡ bare_texts (row_of b)
  texts = ap (map bare) (row_texts a) ∙ h.fields ∙ sym (ap (map bare) (row_texts b))

  -- the occurrences of a run
  made_same : (made : List ℕ) → case_result c (row_case (with_second made (row_of a))) ≡ case_result c (row_case (with_second made (row_of b)))
  made_same made = fields_alone.of_values utc c (with_second made (row_of a)) (with_second made (row_of b)) (alike_second bare made (row_of a) (row_of b) texts)

  all_same : (r : RunFields) (n p : ℕ) → Results (occurrences a r p n) ≡ Results (occurrences b r p n)
  unfolding occurrences
  all_same r zero p = refl
  all_same r (suc n) p = λ i. made_same (text_of (VV.Moment KV.DateTime (occurrence_at r p))) i ∷ all_same r n (suc p) i

  abbrev results_or : List Result → List Result
  results_or [] = case_result c miss_case ∷ []
  results_or (x ∷ xs) = x ∷ xs

  or_miss_lem : (cs : List Case) → Results (or_miss cs) ≡ results_or (Results cs)
  or_miss_lem [] = refl
  or_miss_lem (x ∷ cs) = refl

  run_same : (r : Answer RunFields) → Results (run_cases utc a r) ≡ Results (run_cases utc b r)
  run_same (gives r) =
      or_miss_lem (occurrences a r 0 (count_of (times_in utc r))) ∙ ap results_or (all_same r (count_of (times_in utc r)) 0) ∙ sym (or_miss_lem (occurrences b r 0 (count_of (times_in utc r))))
  run_same (refuses_for r) = refl

  lines_same : Results (stands_for utc a) ≡ Results (stands_for utc b)
  unfolding stands_for
  lines_same = rw (h.runs, same_run a b texts utc) (go (is_run b))
    where
      go : (x : Bool) → Results (pick x (run_cases utc a (run_of utc b)) (row_case (row_of a) ∷ [])) ≡ Results (pick x (run_cases utc b (run_of utc b)) (row_case (row_of b) ∷ []))
      go true = run_same (run_of utc b)
      go false = ap (λ x. x ∷ []) (fields_alone.of_values utc c (row_of a) (row_of b) texts)

pub blanks_change_no_result : BlanksChangeNoResult
blanks_change_no_result c a b h = lines_same c a b h

-- a carriage return at the end of a text is a blank
return_same : (f : List ℕ) → bare (f ++ 13 ∷ []) ≡ bare f
unfolding only_blanks is_blank both
return_same f = bare_around [] f (13 ∷ []) refl refl

pub carriage_return : CarriageReturns
unfolding is_run
carriage_return line =
    record {
      same_runs = λ r. record { fields = alike_fields 13 refl line bare return_same; runs = r };
      three_fields = λ l. record { fields = alike_fields 13 refl line bare return_same; runs = ap (λ f. same f (bytes "every")) (second_field 13 refl line l) };
    }
