-- Whatever a text of a kind reads as is a valid value of that kind: along the kind's layout the fraction stays below a
-- second, and the fields that the layout has no letter for stay the template's.
use mathlib.Core.Path.{◌≡◌, refl, ap, sym, ◌∙◌}
use mathlib.Core.Bool.{Bool, true, false}
use mathlib.Core.List.{List, [], ◌∷◌}
use Prim.Native.Nat.{ℕ, ◌<◌}
use Prim.Native.Char.{code}
use native.Mathlib.Omega.{arith}
use lib.Dec.{eqb, leb}
use lib.ListN.{length}
use borrow.Author.Tests.{eq-eqb, eqb-true}
use Rattle.basis.specs.Choice.{pick}
use Rattle.basis.specs.Answer.{Answer, gives}
use Rattle.basis.proofs.Tests.{never}
use Rattle.value.specs.Bounds.{max_year, second_ticks}
use Rattle.value.specs.Rows.{is_moment, has, layout_of, template_of}
use Rattle.value.specs.declared.DateTime.{DateTime}
use Rattle.value.specs.declared.Kind.{Kind}
use Rattle.value.specs.declared.Value.{Value}
use Rattle.value.proofs.RowTests.{ok_row, rows_pass}
use Rattle.value.proofs.RowLaws.{row_start}
use Rattle.text_scan.specs.declared.FoundDate.{FoundDate}
use Rattle.text_scan.specs.declared.FoundClock.{FoundClock}
use Rattle.text_scan.specs.Scanning.{Scan, Pair, uncapped, with_pair, scanned, start_of, scanned_parts}
use Rattle.text_scan.proofs.Lasting.{Leaves, Everywhere, ended, letter, lasts}
use Rattle.text_scan.proofs.BelowSecond.{part_below}
use Rattle.text_checks.specs.Reading.{clock_ticks, day_found, bounded, judge}
use Rattle.text_layouts.specs.Reading.{read_layout}
use Rattle.value.proofs.ClockLetters.{with_minute, with_second_lem, with_fraction_lem}
use Rattle.text_layouts.proofs.Valid.{Valid, Fine, Suits, fine_refusal, fine_pick, fine_on_calendar}

-- THE FIELDS THAT A LAYOUT HAS NO LETTER FOR stay the template's
module _ (qs : List ℕ) (t₀ : Scan) where
  abbrev Left : Scan → Type 0
  Left t =
      (has qs (code "Y") ≡ false → t.date.year ≡ t₀.date.year)
      × (has qs (code "M") ≡ false → t.date.month ≡ t₀.date.month)
      × (has qs (code "D") ≡ false → t.date.day ≡ t₀.date.day)
      × (has qs (code "h") ≡ false → t.clock.hour ≡ t₀.clock.hour)
      × (has qs (code "m") ≡ false → t.clock.minute ≡ t₀.clock.minute)
      × (has qs (code "s") ≡ false → t.clock.second ≡ t₀.clock.second)
      × (has qs (code "f") ≡ false → t.clock.part ≡ t₀.clock.part)

  there : {A : Type 0} {p q : ℕ} → has qs p ≡ true → p ≡ q → has qs q ≡ false → A
  there h e n = absurd (never (sym n ∙ ap (has qs) (sym e) ∙ h))

  -- a number as the field that a letter stands for
  field : (p q n : ℕ) {x y : ℕ} → has qs p ≡ true → (has qs q ≡ false → x ≡ y) → has qs q ≡ false → pick (eqb p q) n x ≡ y
  field p q n {x} {y} h f = by (eqb p q) refl
    where
      by : (b : Bool) → eqb p q ≡ b → has qs q ≡ false → pick b n x ≡ y
      by true e = there h (eqb-true p q e)
      by false e = f

  left_pair : (p : ℕ) → has qs p ≡ true → (t : Scan) (g : Pair) → Left t → Left (with_pair p t g)
  unfolding with_pair
  left_pair p h t g a = (
    a.0,
    field p (code "M") g.value h a.1,
    field p (code "D") g.value h a.2,
    field p (code "h") g.value h a.3,
    field p (code "m") g.value h a.4,
    field p (code "s") g.value h a.5,
    a.6,
  )

  left_letter : (p : ℕ) → has qs p ≡ true → Leaves Left p
  left_letter p h =
      record {
        year = λ q t n y a. (there h q, a.1, a.2, a.3, a.4, a.5, a.6);
        fraction = λ q t s i a. (a.0, a.1, a.2, a.3, a.4, a.5, there h q);
        zone = λ q t z i a. a;
        pair = λ w t g a. left_pair p h t g a;
      }

  left_everywhere : (ps : List ℕ) → ((p : ℕ) → has ps p ≡ true → has qs p ≡ true) → Everywhere Left ps
  unfolding has
  left_everywhere [] f = ended
  left_everywhere (p ∷ ps) f = letter (left_letter p (f p (rw (eq-eqb p p refl) refl))) (left_everywhere ps (λ q h. f q (either (eqb p q) h)))
    where
      either : {x : Bool} (b : Bool) → x ≡ true → pick b true x ≡ true
      either true h = refl
      either false h = h

  left : (s : List ℕ) → Left (scanned uncapped qs s t₀)
  left s =
      lasts Left (λ t i g a. a) uncapped (left_everywhere qs (λ p h. h)) s t₀
      ((λ n. refl), (λ n. refl), (λ n. refl), (λ n. refl), (λ n. refl), (λ n. refl), (λ n. refl))

suits : (ps : List ℕ) (t : DateTime) → ok_row ps t ≡ true → (s : List ℕ) (x : Scan) → x ≡ scanned uncapped ps s (start_of t)
    → Suits ps t (day_found x.date) (clock_ticks x.clock)
unfolding clock_ticks
suits ps t r s x e =
    let a : Left ps (start_of t) x = rw e (left ps (start_of t) s) in
    record {
      year = a.0;
      month = a.1;
      day = a.2;
      clock = λ q. omega (arith, row_start ps t r, a.3 q, a.4 (sym (with_minute ps t r) ∙ q), a.5 (sym (with_second_lem ps t r) ∙ q), a.6 (sym (with_fraction_lem ps t r) ∙ q));
    }

fine_bounded : (k : Kind) (d : FoundDate) (c : FoundClock) (x : Answer Value) → Fine k x → Fine k (bounded d c x)
unfolding bounded
fine_bounded k d c x f =
    fine_pick k c.long _ _ (λ a. fine_refusal k _)
    (λ a. fine_pick k d.negative _ _ (λ b. fine_refusal k _) (λ b. fine_pick k (leb d.year max_year) _ _ (λ e. f) (λ e. fine_refusal k _)))

fine_judge : (k : Kind) (n : ℕ) (t : Scan) → is_moment k ≡ true → t.clock.part < second_ticks
    → Suits (layout_of k) (template_of k) (day_found t.date) (clock_ticks t.clock) → Fine k (judge k n t)
unfolding judge
fine_judge k n t m l e =
    fine_pick k t.good _ _
    (λ a. fine_pick k (eqb t.at n) _ _ (λ b. fine_bounded k t.date t.clock _ (fine_on_calendar k t.date t.clock t.zone m l e)) (λ b. fine_refusal k 1))
    (λ a. fine_refusal k 1)

-- WHAT READS IS VALID
pub reads_valid : (k : Kind) (s : List ℕ) (v : Value) → read_layout k s ≡ gives v → Valid k v
unfolding read_layout
reads_valid k s =
    fine_pick k (is_moment k) _ _
    (λ m. fine_judge k (length s) (scanned_parts uncapped k s) m (part_below uncapped k s) (suits (layout_of k) (template_of k) (rows_pass k) s (scanned_parts uncapped k s) refl))
    (λ m. fine_refusal k 1)
