-- Going through a layout: a letter a step, each from within the text to within the text. Then the way of a kind, along
-- its row, and where it starts.
use mathlib.Core.Path.{◌≡◌, refl, ap, sym, ◌∙◌}
use mathlib.Core.Bool.{Bool, true, false}
use mathlib.Core.List.{List, [], ◌∷◌}
use Prim.Native.Nat.{ℕ, suc, ◌+◌, ◌≤◌, ◌<◌}
use native.Mathlib.Omega.{arith}
use native.Mathlib.Numerals.{add-one}
use lib.ListN.{length, get_or, drop, drop_of_length-le}
use lib.Seq.{drop-cons}
use Rattle.basis.specs.Choice.{both}
use Rattle.value.specs.Clocks.{clock_of}
use Rattle.value.specs.Rows.{layout_of, template_of}
use Rattle.value.specs.declared.DateTime.{DateTime}
use Rattle.value.proofs.RowTests.{rows_pass}
use Rattle.value.proofs.RowLaws.{row_start}
use Rattle.value.specs.declared.Kind.{Kind}
use Rattle.value.specs.declared.Kind.TheVariants as KV
use Rattle.numerals.specs.Carried.{without_zero}
use Rattle.numerals.proofs.Positions.{nonzero}
use Rattle.text_scan.specs.Scanning.{Scan, clock_fields, part_at, scanned, start_of, scanned_parts}
use Rattle.text_scan.specs.Carried.{capped, scan}
use Rattle.text_scan.specs.declared.FoundParts.{FoundParts}
use Rattle.text_scan.proofs.Ways.{on, off}
use Rattle.text_scan.proofs.Ends.{part_le}

pub record Going (layout s : List ℕ) (t₀ t : Scan) (k : ℕ) : Type 0 where
  pub to : k ≤ length layout
  pub within : t.at ≤ length s
  pub rest : scanned capped (drop k layout) s t ≡ scanned capped layout s t₀

-- from a letter on: with its part, whether that is found or not
letter_on : (layout s : List ℕ) (t₀ t : Scan) (k : ℕ) → Going layout s t₀ t k → k < length layout → t.good ≡ true
    → scanned capped (drop (suc k) layout) s (part_at capped (get_or layout k 0) s t) ≡ scanned capped layout s t₀
unfolding scanned
letter_on layout s t₀ t k g h q =
    ap (scanned capped (drop (suc k) layout) s) (sym (on capped (get_or layout k 0) s t q))
    ∙ ap (λ (r : List ℕ). scanned capped r s t) (sym (drop-cons layout k 0 h))
    ∙ g.rest

-- after a part that is not there nothing more is looked for
stays : (ps s : List ℕ) (t : Scan) → t.good ≡ false → scanned capped ps s t ≡ t
unfolding scanned
stays [] s t e = refl
stays (p ∷ ps) s t e = ap (scanned capped ps s) (off capped p s t e) ∙ stays ps s t e

module _ (layout s : List ℕ) (t₀ : Scan) (t : FoundParts) (k : ℕ) (g : Going layout s t₀ (scan true t) k) (h : k < length layout)
    {b : Bool} {r : FoundParts} (e : scan b r ≡ part_at capped (get_or layout k 0) s (scan true t)) where
  rest_on : scanned capped (drop (suc k) layout) s (scan b r) ≡ scanned capped layout s t₀
  rest_on = ap (scanned capped (drop (suc k) layout) s) e ∙ letter_on layout s t₀ (scan true t) k g h refl

  pub step : b ≡ true → without_zero layout ≡ true → Going layout s t₀ (scan true r) (k + 1)
  step q m =
      let within : r.at ≤ length s = rw (ap (λ (x : Scan). x.at) e) (part_le capped s (scan true t) g.within (get_or layout k 0) (nonzero layout k m h)) in
      rw add-one (record { to = omega arith; within = within; rest = ap (λ (x : Bool). scanned capped (drop (suc k) layout) s (scan x r)) (sym q) ∙ rest_on })

  pub stopped : b ≡ false → scan false r ≡ scanned capped layout s t₀
  stopped q =
      sym (stays (drop (suc k) layout) s (scan false r) refl) ∙ ap (λ (x : Bool). scanned capped (drop (suc k) layout) s (scan x r)) (sym q) ∙ rest_on

pub finish : (layout s : List ℕ) (t₀ t : Scan) (k : ℕ) → Going layout s t₀ t k → length layout ≤ k → t ≡ scanned capped layout s t₀
unfolding scanned
finish layout s t₀ t k g h = sym (ap (λ (q : List ℕ). scanned capped q s t) (drop_of_length-le layout h)) ∙ g.rest

-- the rows hold no byte 0, and a reader starts at the text's first byte
rows_marked : (k : Kind) → without_zero (layout_of k) ≡ true
unfolding without_zero both
rows_marked KV.Date = refl
rows_marked KV.Time = refl
rows_marked KV.DateTime = refl
rows_marked KV.DayTimeDuration = refl
rows_marked KV.YearMonthDuration = refl

pub marks : (k : Kind) (s : List ℕ) {t : Scan} {ps : List ℕ} → ps ≡ layout_of k → t ≡ start_of (template_of k) → (t.at ≤ length s) × (without_zero ps ≡ true)
marks k s q e = (omega (arith, ap (λ (x : Scan). x.at) e), ap without_zero q ∙ rows_marked k)

-- a kind's way through the reader
pub way : (k : Kind) (s : List ℕ) {t r : Scan} {ps : List ℕ} → ps ≡ layout_of k → t ≡ start_of (template_of k) → r ≡ scanned capped ps s t → r ≡ scanned_parts capped k s
way k s q et er = er ∙ (λ i. scanned capped (q i) s (et i))

-- before the first byte: the day of the kind's template, at 00:00:00
pub template_midnight : (k : Kind) → clock_of (template_of k) ≡ 0
template_midnight k = row_start (layout_of k) (template_of k) (rows_pass k)

pub started : (k : Kind) {d : DateTime} → d ≡ template_of k
    → record {
      date = record { negative = false; year = d.year; month = d.month; day = d.day };
      clock = record { hour = 0; minute = 0; second = 0; part = 0; long = false; point = 0 };
      zone = record { sign = 0; hours = 0; minutes = 0 };
      at = 0;
      good = true;
    }
    ≡ start_of (template_of k)
started k {d} e =
    let z : clock_of d ≡ 0 = ap clock_of e ∙ template_midnight k in
    (λ i.
    record {
      date = record { negative = false; year = d.year; month = d.month; day = d.day };
      clock = clock_fields (sym z i);
      zone = record { sign = 0; hours = 0; minutes = 0 };
      at = 0;
      good = true;
    })
    ∙ ap start_of e
