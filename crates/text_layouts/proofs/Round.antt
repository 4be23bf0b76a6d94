-- What was written by a layout is found by it: a part after the other, each as the part that the layout keeps, and the
-- texts of a layout can be told apart where after a year or a fraction comes no digit and no point, after a zone nothing.
use Rattle.std.specs.Prelude.{None, Option, Some}
use mathlib.Core.Path.{◌≡◌, refl, ap, sym, ◌∙◌}
use mathlib.Core.Bool.{Bool, true, false}
use mathlib.Core.List.{List, [], ◌∷◌, ◌++◌, append-nil}
use Prim.Native.Nat.{ℕ, suc, ◌+◌, ◌%◌, ◌≤◌, ◌<◌}
use Prim.Native.Char.{code}
use native.Mathlib.Omega.{arith}
use lib.Dec.{eqb}
use lib.ListN.{length, drop, length-append, length-drop}
use borrow.Author.Tests.{eq-eqb, ne_eqb, eqb-true, eqb-false}
use Rattle.basis.specs.Choice.{both, pick}
use Rattle.basis.proofs.Tests.{never, both_left, both_right}
use Rattle.value.specs.Bounds.{second_ticks}
use Rattle.value.specs.Clocks.{clock_of}
use Rattle.value.specs.declared.Offset.TheVariants.{East, West}
use Rattle.value.specs.declared.DateTime.{DateTime}
use Rattle.numerals.specs.Reading.{is_digit, at}
use Rattle.numerals.specs.Writing.{digits, fraction_text}
use Rattle.numerals.proofs.Positions.{head, beyond}
use Rattle.numerals.proofs.Fractions.{kept, no_fraction, a_fraction}
use Rattle.text_scan.specs.Scanning.{Scan, uncapped, is_pair, with_pair, scanned_part, scanned, with_year, with_fraction, reached}
use Rattle.text_scan.proofs.Ways.{the_year, the_fraction, the_zone, a_pair, a_mark}
use Rattle.text_layouts.specs.Writing.{zone_text, pair_of, part_text, layout_text}
use Rattle.text_layouts.proofs.Pieces.{text_year, text_fraction, text_zone, text_pair, text_mark}
use Rattle.text_layouts.proofs.Keeping.{zone_kept, part_kept, all_kept, quiet_head, is_nil, follows, sane, Small}
use Rattle.text_layouts.proofs.Back.{Quiet, pair_back, year_back, no_fraction_back, a_fraction_back, zone_back}
use Rattle.value.specs.declared.Offset.{Offset}

-- what may follow a part
pub record After (p : ℕ) (rest : List ℕ) : Type 0 where
  pub year : p ≡ code "Y" → Quiet rest
  pub fraction : p ≡ code "f" → Quiet rest
  pub zone : p ≡ code "z" → rest ≡ []

pair_lt : (p : ℕ) (v : DateTime) → Small v → pair_of p v < 100
unfolding pair_of
pair_lt p v m = go (eqb p (code "M")) (eqb p (code "D")) (eqb p (code "h")) (eqb p (code "m")) refl refl refl refl
  where
    go : (a b c d : Bool) → eqb p (code "M") ≡ a → eqb p (code "D") ≡ b → eqb p (code "h") ≡ c → eqb p (code "m") ≡ d → pair_of p v < 100
    go true b c d e f g h = rw e m.month
    go false true c d e f g h = rw (e, f) m.day
    go false false true d e f g h = rw (e, f, g) (omega (arith, m.clock))
    go false false false true e f g h = rw (e, f, g, h) (omega arith)
    go false false false false e f g h = rw (e, f, g, h) (omega arith)

module _ (p : ℕ) (v : DateTime) (m : Small v) (s : List ℕ) (t : Scan) (g : t.good ≡ true) (le : t.at ≤ length s) where
  -- the part's text stands here
  module _ (rest : List ℕ) (a : After p rest) (e : drop t.at s ≡ part_text p v ++ rest) where
    here : {w : List ℕ} → part_text p v ≡ w → drop t.at s ≡ w ++ rest
    here {w} q = e ∙ ap (λ (x : List ℕ). x ++ rest) q

    back_year : p ≡ code "Y" → scanned_part uncapped p s t ≡ part_kept p v t
    unfolding part_kept digits
    back_year q =
        let x : part_text p v ≡ digits 4 v.year = (text_year p v q).0 in
        let k : part_kept p v t ≡ with_year t false (record { value = v.year; at = t.at + 4; good = true }) = rw (eq-eqb p (code "Y") q, x) in
        sym (the_year uncapped p s t g q) ∙ year_back s t rest v.year m.year_from m.year (a.year q).no_digit (here x) ∙ sym k

    module _ (n1 : p ≡ code "Y" → ⊥) where
      back_fraction : p ≡ code "f" → scanned_part uncapped p s t ≡ part_kept p v t
      unfolding part_kept
      back_fraction q = go (eqb (clock_of v % second_ticks) 0) refl
        where
          x : part_text p v ≡ fraction_text (clock_of v % second_ticks)
          x = (text_fraction p v n1 q).0

          go : (b : Bool) → eqb (clock_of v % second_ticks) 0 ≡ b → scanned_part uncapped p s t ≡ part_kept p v t
          go true z =
              let y : fraction_text (clock_of v % second_ticks) ≡ [] = no_fraction (clock_of v % second_ticks) (eqb-true (clock_of v % second_ticks) 0 z) in
              let k : part_kept p v t ≡ t = rw (ne_eqb p (code "Y") n1, eq-eqb p (code "f") q, z) in
              sym (the_fraction uncapped p s t g n1 q) ∙ no_fraction_back s t rest (a.fraction q) (here (x ∙ y)) ∙ sym k
          go false z =
              let u : ℕ = clock_of v % second_ticks in
              let nz : (u ≡ 0 → ⊥) = eqb-false u 0 z in
              let y : fraction_text u ≡ code "." ∷ kept u = a_fraction u nz in
              let l : length (part_text p v) ≡ suc (length (kept u)) = ap length (x ∙ y) in
              let j : t.at + length (part_text p v) ≡ t.at + 1 + length (kept u) = omega arith in
              let k : part_kept p v t ≡ with_fraction t (record { ticks = u; long = false; end = t.at + 1 + length (kept u) }) = rw (ne_eqb p (code "Y") n1, eq-eqb p (code "f") q, z, j) in
              sym (the_fraction uncapped p s t g n1 q) ∙ a_fraction_back s t rest u nz (omega arith) (a.fraction q).no_digit (here (x ∙ y)) ∙ sym k

      module _ (n2 : p ≡ code "f" → ⊥) where
        back_zone : p ≡ code "z" → scanned_part uncapped p s t ≡ part_kept p v t
        unfolding part_kept
        back_zone q =
            let x : part_text p v ≡ zone_text v.zone = (text_zone p v n1 n2 q).0 in
            let k : part_kept p v t ≡ zone_kept v.zone t (t.at + length (zone_text v.zone)) = rw (ne_eqb p (code "Y") n1, ne_eqb p (code "f") n2, eq-eqb p (code "z") q, x) in
            let f : drop t.at s ≡ zone_text v.zone = here x ∙ ap (λ (r : List ℕ). zone_text v.zone ++ r) (a.zone q) ∙ append-nil (zone_text v.zone) in
            sym (the_zone uncapped p s t g n1 n2 q) ∙ zone_back s t le v.zone m.zone f ∙ sym k

        module _ (n3 : p ≡ code "z" → ⊥) where
          back_pair : is_pair p ≡ true → scanned_part uncapped p s t ≡ part_kept p v t
          unfolding part_kept digits
          back_pair q =
              let x : part_text p v ≡ digits 2 (pair_of p v) = (text_pair p v n1 n2 n3 refl q).0 in
              let k : part_kept p v t ≡ with_pair p t (record { value = pair_of p v; at = t.at + 2; good = true }) = rw (ne_eqb p (code "Y") n1, ne_eqb p (code "f") n2, ne_eqb p (code "z") n3, q, x) in
              sym (a_pair uncapped p s t g n1 n2 n3 refl q) ∙ ap (with_pair p t) (pair_back s t.at (pair_of p v) rest (pair_lt p v m) (here x)) ∙ sym k

          back_mark : is_pair p ≡ false → scanned_part uncapped p s t ≡ part_kept p v t
          unfolding part_kept
          back_mark q =
              let x : part_text p v ≡ p ∷ [] = (text_mark p v n1 n2 n3 refl q).0 in
              let k : part_kept p v t ≡ reached t (t.at + 1) true = rw (ne_eqb p (code "Y") n1, ne_eqb p (code "f") n2, ne_eqb p (code "z") n3, q, x) in
              let h : eqb (at s t.at) p ≡ true = eq-eqb (at s t.at) p (head s t.at (here x)) in
              sym (a_mark uncapped p s t g n1 n2 n3 refl q) ∙ (λ i. pick (h i) (reached t (t.at + 1) true) (reached t t.at false)) ∙ sym k

    pub back : scanned_part uncapped p s t ≡ part_kept p v t
    back = go (eqb p (code "Y")) (eqb p (code "f")) (eqb p (code "z")) (is_pair p) refl refl refl refl
      where
        go : (b c d f : Bool) → eqb p (code "Y") ≡ b → eqb p (code "f") ≡ c → eqb p (code "z") ≡ d → is_pair p ≡ f → scanned_part uncapped p s t ≡ part_kept p v t
        go true c d f x y z w = back_year (eqb-true p (code "Y") x)
        go false true d f x y z w = back_fraction (eqb-false p (code "Y") x) (eqb-true p (code "f") y)
        go false false true f x y z w = back_zone (eqb-false p (code "Y") x) (eqb-false p (code "f") y) (eqb-true p (code "z") z)
        go false false false true x y z w = back_pair (eqb-false p (code "Y") x) (eqb-false p (code "f") y) (eqb-false p (code "z") z) w
        go false false false false x y z w = back_mark (eqb-false p (code "Y") x) (eqb-false p (code "f") y) (eqb-false p (code "z") z) w

-- the offset after a part, and that all is well there
module _ (p : ℕ) (v : DateTime) (t : Scan) (g : t.good ≡ true) where
  abbrev Next : Scan → ℕ → Type 0
  Next r i = (r.good ≡ true) × (r.at ≡ i)

  placed_next : (n i : ℕ) → Next (with_pair p t (record { value = n; at = i; good = true })) i
  unfolding with_pair
  placed_next n i = (refl, refl)

  zone_next : (z : Option Offset) (i : ℕ) → (z ≡ None → t.at ≡ i) → Next (zone_kept z t i) i
  zone_next None i h = (g, h refl)
  zone_next (Some (East n)) i h = go (eqb n 0) refl
    where
      go : (b : Bool) → eqb n 0 ≡ b → Next (zone_kept (Some (East n)) t i) i
      go true e = rw e (refl, refl)
      go false e = rw e (refl, refl)
  zone_next (Some (West n)) i h = (refl, refl)

  pub next : Next (part_kept p v t) (t.at + length (part_text p v))
  unfolding part_kept
  next = go (eqb p (code "Y")) (eqb p (code "f")) (eqb p (code "z")) (is_pair p) refl refl refl refl
    where
      absent : eqb p (code "Y") ≡ false → eqb p (code "f") ≡ false → eqb p (code "z") ≡ true → v.zone ≡ None → t.at ≡ t.at + length (part_text p v)
      absent x y z e =
          let l : length (part_text p v) ≡ 0 = ap length (text_zone p v (eqb-false p (code "Y") x) (eqb-false p (code "f") y) (eqb-true p (code "z") z)).0 ∙ ap (λ (q : Option Offset). length (zone_text q)) e in
          omega arith

      uncapped : eqb p (code "Y") ≡ false → eqb p (code "f") ≡ true → eqb (clock_of v % second_ticks) 0 ≡ true → t.at ≡ t.at + length (part_text p v)
      uncapped x y z =
          let f : fraction_text (clock_of v % second_ticks) ≡ [] = no_fraction (clock_of v % second_ticks) (eqb-true (clock_of v % second_ticks) 0 z) in
          let l : length (part_text p v) ≡ 0 = ap length ((text_fraction p v (eqb-false p (code "Y") x) (eqb-true p (code "f") y)).0 ∙ f) in
          omega arith

      frac : (b : Bool) → eqb p (code "Y") ≡ false → eqb p (code "f") ≡ true → eqb (clock_of v % second_ticks) 0 ≡ b → Next (part_kept p v t) (t.at + length (part_text p v))
      frac true x y z = rw (x, y, z) (g, uncapped x y z)
      frac false x y z = rw (x, y, z) (refl, refl)

      go : (b c d f : Bool) → eqb p (code "Y") ≡ b → eqb p (code "f") ≡ c → eqb p (code "z") ≡ d → is_pair p ≡ f → Next (part_kept p v t) (t.at + length (part_text p v))
      go true c d f x y z w = rw x (refl, refl)
      go false true d f x y z w = frac (eqb (clock_of v % second_ticks) 0) x y refl
      go false false true f x y z w = rw (x, y, z) (zone_next v.zone (t.at + length (part_text p v)) (absent x y z))
      go false false false true x y z w = rw (x, y, z, w) (placed_next (pair_of p v) (t.at + length (part_text p v)))
      go false false false false x y z w = rw (x, y, z, w) (refl, refl)

-- the texts of a sane layout can be told apart
zone_quiet : (z : Option Offset) → Quiet (zone_text z)
unfolding is_digit both
zone_quiet None = record { no_digit = refl; no_point = λ e. omega arith }
zone_quiet (Some (East n)) = go (eqb n 0) refl
  where
    go : (b : Bool) → eqb n 0 ≡ b → Quiet (zone_text (Some (East n)))
    go true e = rw e (record { no_digit = refl; no_point = λ q. omega arith })
    go false e = rw e (record { no_digit = refl; no_point = λ q. omega arith })
zone_quiet (Some (West n)) = record { no_digit = refl; no_point = λ e. omega arith }

pub none : (ps : List ℕ) → is_nil ps ≡ true → ps ≡ []
unfolding is_nil
none [] e = refl
none (p ∷ ps) e = cc

pub quiet : (v : DateTime) (ps : List ℕ) → quiet_head ps ≡ true → sane ps ≡ true → Quiet (layout_text ps v)
unfolding layout_text quiet_head sane follows is_digit both
quiet v [] h e = record { no_digit = refl; no_point = λ q. omega arith }
quiet v (p ∷ ps) h e = go (eqb p (code "z")) (eqb p (code "Y")) (eqb p (code "f")) (is_pair p) (eqb p (code ".")) (is_digit p) refl refl refl refl refl refl
  where
    go : (a b c d f i : Bool) → eqb p (code "z") ≡ a → eqb p (code "Y") ≡ b → eqb p (code "f") ≡ c → is_pair p ≡ d → eqb p (code ".") ≡ f → is_digit p ≡ i → Quiet (part_text p v ++ layout_text ps v)
    go true true c d f i x y z w j k = absurd (clash (eqb-true p (code "z") x) (eqb-true p (code "Y") y))
      where
        clash : p ≡ code "z" → p ≡ code "Y" → ⊥
        clash q r = omega arith
    go true false true d f i x y z w j k = absurd (clash (eqb-true p (code "z") x) (eqb-true p (code "f") z))
      where
        clash : p ≡ code "z" → p ≡ code "f" → ⊥
        clash q r = omega arith
    go true false false d f i x y z w j k =
        let n : ps ≡ [] = none ps (rw x at (both_left (follows p ps) (sane ps) e)) in
        let q : part_text p v ++ layout_text ps v ≡ zone_text v.zone = ap (λ (l : List ℕ). part_text p v ++ layout_text l v) n ∙ append-nil (part_text p v) ∙ (text_zone p v (eqb-false p (code "Y") y) (eqb-false p (code "f") z) (eqb-true p (code "z") x)).0 in
        rw q (zone_quiet v.zone)
    go false true c d f i x y z w j k = absurd (never (rw (x, y) at h))
    go false false true d f i x y z w j k = absurd (never (rw (x, y, z) at h))
    go false false false true f i x y z w j k = absurd (never (rw (x, y, z, w) at h))
    go false false false false true i x y z w j k = absurd (never (rw (x, y, z, w, j) at h))
    go false false false false false true x y z w j k = absurd (never (rw (x, y, z, w, j, k) at h))
    go false false false false false false x y z w j k =
        let t : part_text p v ≡ p ∷ [] = (text_mark p v (eqb-false p (code "Y") y) (eqb-false p (code "f") z) (eqb-false p (code "z") x) refl w).0 in
        rw t (record { no_digit = k; no_point = eqb-false p (code ".") j })

after : (v : DateTime) (p : ℕ) (ps : List ℕ) → sane (p ∷ ps) ≡ true → After p (layout_text ps v)
unfolding sane follows layout_text
after v p ps e =
    let f : follows p ps ≡ true = both_left (follows p ps) (sane ps) e in
    let g : sane ps ≡ true = both_right (follows p ps) (sane ps) e in
    record {
      year = λ q. quiet v ps (rw (ne_eqb p (code "z") (λ w. omega arith), eq-eqb p (code "Y") q) at f) g;
      fraction = λ q. quiet v ps (rw (ne_eqb p (code "z") (λ w. omega arith), ne_eqb p (code "Y") (λ w. omega arith), eq-eqb p (code "f") q) at f) g;
      zone = λ q. ap (λ (l : List ℕ). layout_text l v) (none ps (rw (eq-eqb p (code "z") q) at f));
    }

pub record Through (ps : List ℕ) (v : DateTime) (s : List ℕ) (t : Scan) : Type 0 where
  pub same : scanned uncapped ps s t ≡ all_kept ps v t
  pub good : (all_kept ps v t).good ≡ true
  pub end : (all_kept ps v t).at ≡ t.at + length (layout_text ps v)

-- what was written by a layout is found by it
pub through : (ps : List ℕ) (v : DateTime) → Small v → (s : List ℕ) (t : Scan) → t.good ≡ true → t.at ≤ length s → sane ps ≡ true
    → drop t.at s ≡ layout_text ps v → Through ps v s t
unfolding scanned all_kept layout_text sane
through [] v m s t g le h e = record { same = refl; good = g; end = omega arith }
through (p ∷ ps) v m s t g le h e =
    let b : scanned_part uncapped p s t ≡ part_kept p v t = back p v m s t g le (layout_text ps v) (after v p ps h) e in
    let n = next p v t g in
    let l : length (part_text p v ++ layout_text ps v) ≡ length (part_text p v) + length (layout_text ps v) = length-append (part_text p v) (layout_text ps v) in
    let d : drop (part_kept p v t).at s ≡ layout_text ps v = ap (λ (i : ℕ). drop i s) n.1 ∙ beyond s t.at (part_text p v) (layout_text ps v) e in
    let i : (part_kept p v t).at ≤ length s = omega (arith, n.1, length-drop t.at s, ap length e) in
    let r : Through ps v s (part_kept p v t) = through ps v m s (part_kept p v t) n.0 i (both_right (follows p ps) (sane ps) h) d in
    record { same = ap (scanned uncapped ps s) b ∙ r.same; good = r.good; end = omega (arith, r.end, n.1) }
