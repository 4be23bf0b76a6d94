-- What stripping does: a text is blanks, the value's bytes and blanks; what is left neither begins nor ends with a blank; stripping twice
-- is stripping once; blanks put round a text change nothing of what is left; and where a value is left, there is no other way to part a text so.
use mathlib.Core.Path.{◌≡◌, refl, ap, sym, ◌∙◌}
use mathlib.Core.Bool.{Bool, true, false}
use mathlib.Core.List.{List, [], ◌∷◌, ◌++◌, append-nil}
use Prim.Native.Nat.{ℕ, suc, ◌+◌, ◌-◌, ◌≤◌, ◌<◌}
use native.Mathlib.Omega.{arith}
use lib.Dec.{eqb}
use lib.ListN.{length, get_or, take, drop, replicate, length-drop, take-append-drop, drop_of_length-le}
use lib.Seq.{drop-append-add, take-append-le, take-length, length-take-le, drop-drop}
use borrow.Author.Tests.{eqb-true, ne_eqb}
use Rattle.basis.specs.Choice.{pick, both}
use Rattle.basis.specs.Letters.{bytes}
use Rattle.basis.proofs.Tests.{both_left, both_right, both_true}
use Rattle.text_blanks.specs.Blanks.{is_blank, only_blanks, leading_blanks, untrailed, stripped, bare}
use Rattle.text_blanks.specs.declared.Stripped.{Stripped}
use Rattle.text_blanks.proofs.Ends.{lead_le, lead_more, untrailed_le, untrailed_same}

-- ---- worked cases of document 02, a

abbrev span : ℕ → ℕ → Stripped
span a z = record { start = a; end = z }

abbrev all : List ℕ
all = 32 ∷ 9 ∷ 13 ∷ 10 ∷ []

-- on one side, and on both
before_it : (stripped (all ++ bytes "05:00:00") ≡ span 4 12) × (bare (all ++ bytes "05:00:00") ≡ bytes "05:00:00")
unfolding is_blank leading_blanks untrailed stripped bare both
before_it = (refl, refl)

after_it : (stripped (bytes "05:00:00" ++ all) ≡ span 0 8) × (bare (bytes "05:00:00" ++ all) ≡ bytes "05:00:00")
unfolding is_blank leading_blanks untrailed stripped bare both
after_it = (refl, refl)

round_it : (stripped (all ++ (bytes "05:00:00" ++ all)) ≡ span 4 12) × (bare (all ++ (bytes "05:00:00" ++ all)) ≡ bytes "05:00:00")
unfolding is_blank leading_blanks untrailed stripped bare both
round_it = (refl, refl)

-- inside they stay
inside_it : (stripped (bytes " 05:00 :00 ") ≡ span 1 10) × (bare (bytes " 05:00 :00 ") ≡ bytes "05:00 :00")
unfolding is_blank leading_blanks untrailed stripped bare both
inside_it = (refl, refl)

-- alone, nothing is left: it would stand at the text's end
alone : (stripped all ≡ span 4 4) × (bare all ≡ []) × (stripped [] ≡ span 0 0) × (bare [] ≡ [])
unfolding is_blank leading_blanks untrailed stripped bare both
alone = (refl, refl, refl, refl)

-- other bytes at the ends stay, with the blanks inside them
others_stay : (bare (11 ∷ 32 ∷ 53 ∷ 32 ∷ 12 ∷ []) ≡ 11 ∷ 32 ∷ 53 ∷ 32 ∷ 12 ∷ []) × (bare (32 ∷ 0 ∷ 53 ∷ 160 ∷ 32 ∷ []) ≡ 0 ∷ 53 ∷ 160 ∷ [])
unfolding is_blank leading_blanks untrailed stripped bare both
others_stay = (refl, refl)

-- a hundred on either side
many : stripped (replicate 100 32 ++ (bytes "P1D" ++ replicate 100 9)) ≡ span 100 103
unfolding is_blank leading_blanks untrailed stripped bare both
many = refl

-- ---- what is left, in two steps

-- a text from its first other byte on, and up to its last
abbrev front : List ℕ → List ℕ
front s = drop (leading_blanks s) s

abbrev rear : List ℕ → List ℕ
rear s = take (untrailed s) s

pub bare_is : (s : List ℕ) → bare s ≡ rear (front s)
unfolding bare stripped
bare_is s =
    let e : leading_blanks s + untrailed (front s) - leading_blanks s ≡ untrailed (front s) = omega arith in
    ap (λ (n : ℕ). take n (front s)) e

-- ---- where the value stands

pub stripped_by : (s : List ℕ) {start end : ℕ} → start ≡ leading_blanks s → end ≡ start + untrailed (drop start s) → record { start = start; end = end } ≡ stripped s
unfolding stripped
stripped_by s {start} {end} a b =
    let e : end ≡ leading_blanks s + untrailed (front s) = b ∙ ap (λ (n : ℕ). n + untrailed (drop n s)) a in
    λ i. record { start = a i; end = e i }

pub bare_by : (s : List ℕ) (x : Stripped) → x ≡ stripped s → take (x.end - x.start) (drop x.start s) ≡ bare s
unfolding bare
bare_by s x e = ap (λ (y : Stripped). take (y.end - y.start) (drop y.start s)) e

-- it stands within the text
pub start_le : (s : List ℕ) → (stripped s).start ≤ (stripped s).end
unfolding stripped
start_le s = omega arith

pub end_le : (s : List ℕ) → (stripped s).end ≤ length s
unfolding stripped
end_le s = omega (arith, lead_le s, untrailed_le (front s), length-drop (leading_blanks s) s)

pub found_within : (s : List ℕ) (x : Stripped) → x ≡ stripped s → (x.start ≤ x.end) × (x.end ≤ length s)
found_within s x e =
    let a : x.start ≡ (stripped s).start = ap (λ (y : Stripped). y.start) e in
    let z : x.end ≡ (stripped s).end = ap (λ (y : Stripped). y.end) e in
    (omega (arith, a, z, start_le s), omega (arith, z, end_le s))

-- blanks alone stand before it
lead_blank : (s : List ℕ) → only_blanks (take (leading_blanks s) s) ≡ true
unfolding only_blanks leading_blanks both
lead_blank [] = refl
lead_blank (b ∷ s) = go (is_blank b) refl (lead_blank s)
  where
    go : (x : Bool) → is_blank b ≡ x → only_blanks (take (leading_blanks s) s) ≡ true → only_blanks (take (pick x (suc (leading_blanks s)) 0) (b ∷ s)) ≡ true
    go true e h = rw e h
    go false e h = refl

-- and after it
rest_blank : (s : List ℕ) → only_blanks (drop (untrailed s) s) ≡ true
unfolding only_blanks untrailed both
rest_blank [] = refl
rest_blank (b ∷ s) = go (both (is_blank b) (eqb (untrailed s) 0)) refl (rest_blank s)
  where
    go : (x : Bool) → both (is_blank b) (eqb (untrailed s) 0) ≡ x → only_blanks (drop (untrailed s) s) ≡ true → only_blanks (drop (pick x 0 (suc (untrailed s))) (b ∷ s)) ≡ true
    go true e h =
        let z : untrailed s ≡ 0 = eqb-true (untrailed s) 0 (both_right (is_blank b) (eqb (untrailed s) 0) e) in
        let w : only_blanks s ≡ true = rw z at h in
        rw (both_left (is_blank b) (eqb (untrailed s) 0) e, w)
    go false e h = h

-- a text is blanks, the value's bytes, and blanks
pub record InParts (s : List ℕ) : Type 0 where
  pub whole : s ≡ take (stripped s).start s ++ (bare s ++ drop (stripped s).end s)
  pub before : only_blanks (take (stripped s).start s) ≡ true
  pub after : only_blanks (drop (stripped s).end s) ≡ true

pub in_parts : (s : List ℕ) → InParts s
unfolding stripped
in_parts s =
    let t : List ℕ = front s in
    let d : drop (untrailed t) t ≡ drop (leading_blanks s + untrailed t) s = drop-drop (untrailed t) (leading_blanks s) s in
    record {
      whole =
          sym
          (ap (λ (x : List ℕ). take (leading_blanks s) s ++ (x ++ drop (leading_blanks s + untrailed t) s)) (bare_is s)
          ∙ ap (λ (x : List ℕ). take (leading_blanks s) s ++ (rear t ++ x)) (sym d)
          ∙ ap (λ (x : List ℕ). take (leading_blanks s) s ++ x) (take-append-drop (untrailed t) t)
          ∙ take-append-drop (leading_blanks s) s);
      before = lead_blank s;
      after = ap only_blanks (sym d) ∙ rest_blank t;
    }

only_joined : (p q : List ℕ) → only_blanks p ≡ true → only_blanks q ≡ true → only_blanks (p ++ q) ≡ true
unfolding only_blanks
only_joined [] q e f = f
only_joined (b ∷ p) q e f = both_true (is_blank b) (only_blanks (p ++ q)) (both_left (is_blank b) (only_blanks p) e) (only_joined p q (both_right (is_blank b) (only_blanks p) e) f)

-- ---- what is left

front_begins : (s : List ℕ) → leading_blanks (front s) ≡ 0
unfolding leading_blanks
front_begins [] = refl
front_begins (b ∷ s) = go (is_blank b) refl (front_begins s)
  where
    go : (x : Bool) → is_blank b ≡ x → leading_blanks (front s) ≡ 0 → leading_blanks (drop (pick x (suc (leading_blanks s)) 0) (b ∷ s)) ≡ 0
    go true e h = h
    go false e h = rw e

rear_ends : (s : List ℕ) → untrailed (rear s) ≡ length (rear s)
unfolding untrailed
rear_ends s = same s ∙ sym (length-take-le (untrailed s) s (untrailed_le s))
  where
    same : (s : List ℕ) → untrailed (take (untrailed s) s) ≡ untrailed s
    same [] = refl
    same (b ∷ s) = go (both (is_blank b) (eqb (untrailed s) 0)) refl (same s)
      where
        go : (x : Bool) → both (is_blank b) (eqb (untrailed s) 0) ≡ x → untrailed (take (untrailed s) s) ≡ untrailed s
            → untrailed (take (pick x 0 (suc (untrailed s))) (b ∷ s)) ≡ pick x 0 (suc (untrailed s))
        go true e h = refl
        go false e h = rw (h, e)

-- the first byte of a text that no blank begins
first_other : (s : List ℕ) → leading_blanks s ≡ 0 → 0 < length s → is_blank (get_or s 0 0) ≡ false
unfolding leading_blanks
first_other [] e h = absurd (bad h)
  where
    bad : 0 < 0 → ⊥
    bad g = omega arith
first_other (b ∷ s) e h = go (is_blank b) refl e
  where
    go : (x : Bool) → is_blank b ≡ x → pick x (suc (leading_blanks s)) 0 ≡ 0 → is_blank b ≡ false
    go true q z = absurd (bad z)
      where
        bad : suc (leading_blanks s) ≡ 0 → ⊥
        bad g = omega arith
    go false q z = q

no_lead : (s : List ℕ) → is_blank (get_or s 0 0) ≡ false → leading_blanks s ≡ 0
unfolding leading_blanks
no_lead [] e = refl
no_lead (b ∷ s) e = rw e

-- the last byte of a text is that of what follows its first byte
same_last : (b c : ℕ) (s : List ℕ) → get_or (b ∷ c ∷ s) (length (b ∷ c ∷ s) - 1) 0 ≡ get_or (c ∷ s) (length (c ∷ s) - 1) 0
same_last b c s =
    let e : suc (suc (length s)) - 1 ≡ suc (length s) = omega arith in
    let f : suc (length s) - 1 ≡ length s = omega arith in
    ap (λ (n : ℕ). get_or (b ∷ c ∷ s) n 0) e ∙ sym (ap (λ (n : ℕ). get_or (c ∷ s) n 0) f)

-- and the last of one that no blank ends
last_other : (s : List ℕ) → untrailed s ≡ length s → 0 < length s → is_blank (get_or s (length s - 1) 0) ≡ false
unfolding untrailed both
last_other [] e h = absurd (bad h)
  where
    bad : 0 < 0 → ⊥
    bad g = omega arith
last_other (b ∷ []) e h = go (is_blank b) refl e
  where
    go : (x : Bool) → is_blank b ≡ x → ◌≡◌ {A = ℕ} (pick (both x (eqb 0 0)) 0 1) 1 → is_blank b ≡ false
    go true q z = absurd (bad z)
      where
        bad : ◌≡◌ {A = ℕ} 0 1 → ⊥
        bad g = omega arith
    go false q z = q
last_other (b ∷ c ∷ s) e h = go (both (is_blank b) (eqb (untrailed (c ∷ s)) 0)) e (λ q. last_other (c ∷ s) q (omega arith))
  where
    go : (x : Bool) → pick x 0 (suc (untrailed (c ∷ s))) ≡ suc (suc (length s))
        → (untrailed (c ∷ s) ≡ suc (length s) → is_blank (get_or (c ∷ s) (length (c ∷ s) - 1) 0) ≡ false)
        → is_blank (get_or (b ∷ c ∷ s) (length (b ∷ c ∷ s) - 1) 0) ≡ false
    go true z r = absurd (bad z)
      where
        bad : 0 ≡ suc (suc (length s)) → ⊥
        bad g = omega arith
    go false z r = ap is_blank (same_last b c s) ∙ r (omega arith)

no_rest : (s : List ℕ) → is_blank (get_or s (length s - 1) 0) ≡ false → untrailed s ≡ length s
unfolding untrailed both
no_rest [] e = refl
no_rest (b ∷ []) e = rw e
no_rest (b ∷ c ∷ s) e = rw (no_rest (c ∷ s) (ap is_blank (sym (same_last b c s)) ∙ e)) (go (is_blank b))
  where
    go : (x : Bool) → pick (both x (eqb (suc (length s)) 0)) 0 (suc (suc (length s))) ≡ suc (suc (length s))
    go true = rw (ne_eqb (suc (length s)) 0 (λ q. omega arith))
    go false = refl

rear_begins : (t : List ℕ) → leading_blanks t ≡ 0 → leading_blanks (rear t) ≡ 0
unfolding leading_blanks untrailed both
rear_begins [] e = refl
rear_begins (b ∷ t) e =
    let n : is_blank b ≡ false = first_other (b ∷ t) e (omega arith) in
    rw (n, n)

bare_begins : (s : List ℕ) → leading_blanks (bare s) ≡ 0
bare_begins s = ap leading_blanks (bare_is s) ∙ rear_begins (front s) (front_begins s)

bare_ends : (s : List ℕ) → untrailed (bare s) ≡ length (bare s)
bare_ends s = rw (bare_is s) (rear_ends (front s))

-- what is left neither begins nor ends with a blank
pub no_blank_ends : (s : List ℕ) → 0 < length (bare s) → (is_blank (get_or (bare s) 0 0) ≡ false) × (is_blank (get_or (bare s) (length (bare s) - 1) 0) ≡ false)
no_blank_ends s h = (first_other (bare s) (bare_begins s) h, last_other (bare s) (bare_ends s) h)

-- a text that neither begins nor ends with a blank is left as it is
whole_kept : (s : List ℕ) → leading_blanks s ≡ 0 → untrailed s ≡ length s → bare s ≡ s
whole_kept s e f = bare_is s ∙ ap (λ (n : ℕ). rear (drop n s)) e ∙ ap (λ (n : ℕ). take n s) f ∙ take-length s

pub bare_itself : (s : List ℕ) → is_blank (get_or s 0 0) ≡ false → is_blank (get_or s (length s - 1) 0) ≡ false → bare s ≡ s
bare_itself s a z = whole_kept s (no_lead s a) (no_rest s z)

-- and so is one without any
pub without_blanks : (s : List ℕ) → ((j : ℕ) → j < length s → is_blank (get_or s j 0) ≡ false) → bare s ≡ s
unfolding is_blank
without_blanks [] h = bare_itself [] refl refl
without_blanks (b ∷ s) h = bare_itself (b ∷ s) (h 0 (omega arith)) (h (suc (length s) - 1) (omega arith))

-- stripping twice is stripping once
pub bare_twice : (s : List ℕ) → bare (bare s) ≡ bare s
bare_twice s = whole_kept (bare s) (bare_begins s) (bare_ends s)

-- ---- blanks round a text

before_same : (p s : List ℕ) → only_blanks p ≡ true → front (p ++ s) ≡ front s
before_same p s e = ap (λ (n : ℕ). drop n (p ++ s)) (lead_more p s e) ∙ drop-append-add p s (leading_blanks s)

after_same : (s q : List ℕ) → only_blanks q ≡ true → rear (front (s ++ q)) ≡ rear (front s)
unfolding leading_blanks
after_same [] q e =
    let l : leading_blanks (q ++ []) ≡ length q + 0 = lead_more q [] e in
    let m : length q ≤ leading_blanks q = omega (arith, ap leading_blanks (append-nil q)) in
    let f : front q ≡ [] = drop_of_length-le q m in
    ap rear f
after_same (b ∷ s) q e = go (is_blank b) (after_same s q e)
  where
    go : (x : Bool) → rear (front (s ++ q)) ≡ rear (front s)
        → rear (drop (pick x (suc (leading_blanks (s ++ q))) 0) (b ∷ (s ++ q))) ≡ rear (drop (pick x (suc (leading_blanks s)) 0) (b ∷ s))
    go true h = h
    go false h =
        ap (λ (n : ℕ). take n ((b ∷ s) ++ q)) (untrailed_same (b ∷ s) q e)
        ∙ take-append-le (untrailed (b ∷ s)) (b ∷ s) q (untrailed_le (b ∷ s))

-- they change nothing of what is left
pub bare_around : (p s q : List ℕ) → only_blanks p ≡ true → only_blanks q ≡ true → bare (p ++ (s ++ q)) ≡ bare s
bare_around p s q ep eq =
    bare_is (p ++ (s ++ q)) ∙ ap rear (before_same p (s ++ q) ep) ∙ after_same s q eq ∙ sym (bare_is s)

-- ---- blanks alone

-- both ends are the text's end
pub stripped_alone : (s : List ℕ) → only_blanks s ≡ true → stripped s ≡ record { start = length s; end = length s }
unfolding stripped leading_blanks untrailed
stripped_alone s e = λ i. record { start = l i; end = n i }
  where
    l : leading_blanks s ≡ length s
    l = omega (arith, ap leading_blanks (append-nil s), lead_more s [] e)

    n : leading_blanks s + untrailed (front s) ≡ length s
    n = omega (arith, l, ap untrailed (drop_of_length-le s (whole l)))
      where
        whole : leading_blanks s ≡ length s → length s ≤ leading_blanks s
        whole q = omega arith

-- nothing is left of them
pub bare_none : (s : List ℕ) → only_blanks s ≡ true → bare s ≡ []
unfolding bare stripped leading_blanks untrailed only_blanks
bare_none s e = ap bare (sym (append-nil s)) ∙ bare_around s [] [] e refl

-- and nothing is left of no other text
pub none_bare : (s : List ℕ) → bare s ≡ [] → only_blanks s ≡ true
none_bare s e =
    let x = in_parts s in
    let w : s ≡ take (stripped s).start s ++ drop (stripped s).end s = x.whole ∙ ap (λ (v : List ℕ). take (stripped s).start s ++ (v ++ drop (stripped s).end s)) e in
    ap only_blanks w ∙ only_joined (take (stripped s).start s) (drop (stripped s).end s) x.before x.after

-- ---- one way

-- a value that neither begins nor ends with a blank starts after the blanks before it, and ends before those after it
pub one_way : (p v q : List ℕ) → only_blanks p ≡ true → only_blanks q ≡ true → 0 < length v → is_blank (get_or v 0 0) ≡ false → is_blank (get_or v (length v - 1) 0) ≡ false
    → stripped (p ++ (v ++ q)) ≡ record { start = length p; end = length p + length v }
unfolding stripped leading_blanks
one_way p v q ep eq h a z = λ i. record { start = l i; end = n i }
  where
    begins : (v : List ℕ) → 0 < length v → is_blank (get_or v 0 0) ≡ false → leading_blanks (v ++ q) ≡ 0
    begins [] g e = absurd (bad g)
      where
        bad : 0 < 0 → ⊥
        bad k = omega arith
    begins (b ∷ w) g e = rw e

    l : leading_blanks (p ++ (v ++ q)) ≡ length p
    l = omega (arith, lead_more p (v ++ q) ep, begins v h a)

    d : drop (leading_blanks (p ++ (v ++ q))) (p ++ (v ++ q)) ≡ v ++ q
    d = before_same p (v ++ q) ep ∙ ap (λ (k : ℕ). drop k (v ++ q)) (begins v h a)

    n : leading_blanks (p ++ (v ++ q)) + untrailed (drop (leading_blanks (p ++ (v ++ q))) (p ++ (v ++ q))) ≡ length p + length v
    n = omega (arith, l, ap untrailed d, untrailed_same v q eq, no_rest v z)
