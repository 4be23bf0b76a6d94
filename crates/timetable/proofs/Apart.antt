-- No line holds a byte 10, and no field a tab or, of a line, a byte 10.
use mathlib.Core.Path.{◌≡◌, refl, sym}
use mathlib.Core.Logic.{⊎_elim}
use mathlib.Core.Bool.{Bool, true, false}
use mathlib.Core.List.{List, [], ◌∷◌, Memᴰ}
use Prim.Native.Nat.{ℕ}
use lib.Dec.{eqb}
use borrow.Author.Tests.{eqb-false}
use Rattle.basis.specs.Choice.{pick}
use Rattle.timetable.specs.Parted.{onto, parted}
use Rattle.timetable.specs.Lines.{newline, less_empty_last, lines_of}
use Rattle.timetable.specs.Fields.{tab, fields_of}
use Rattle.timetable.proofs.Parting.{first_part}

in_none : {b : ℕ} {p : List ℕ} → p ≡ [] → Memᴰ b p → ⊥
in_none e m = mathlib.Core.List.Memᴰ.not-nil (rw e at m)

-- no part holds the byte that parts
pub part_lacks : (c : ℕ) (s p : List ℕ) → Memᴰ p (parted c s) → Memᴰ c p → ⊥
unfolding parted onto
part_lacks c [] p m h = in_none (mathlib.Core.List.Memᴰ.eq_of_singleton m) h
part_lacks c (b ∷ bs) p m h = go (eqb b c) refl (first_part c bs) (part_lacks c bs) m
  where
    go : (x : Bool) → eqb b c ≡ x → {q : List ℕ} {qs : List (List ℕ)} → parted c bs ≡ q ∷ qs
        → ((o : List ℕ) → Memᴰ o (parted c bs) → Memᴰ c o → ⊥)
        → Memᴰ p (pick x ([] ∷ parted c bs) (onto b (parted c bs))) → ⊥
    go true e f below n = ⊎_elim (λ k. in_none k h) (λ k. below p k h) (mathlib.Core.List.Memᴰ.cases_cons n)
    go false e {q} {qs} f below n =
        let n2 : Memᴰ p ((b ∷ q) ∷ qs) = rw f at n in
        let first : Memᴰ q (parted c bs) = rw f (mathlib.Core.List.Memᴰ.head refl) in
        ⊎_elim
        (λ k. let h2 : Memᴰ c (b ∷ q) = rw k at h in ⊎_elim (λ y. eqb-false b c e (sym y)) (λ y. below q first y) (mathlib.Core.List.Memᴰ.cases_cons h2))
        (λ k. let later : Memᴰ p (parted c bs) = rw f (mathlib.Core.List.Memᴰ.tail k) in below p later h)
        (mathlib.Core.List.Memᴰ.cases_cons n2)

-- a part holds only bytes of what was parted
pub part_bytes : (c : ℕ) (s p : List ℕ) (a : ℕ) → Memᴰ p (parted c s) → Memᴰ a p → Memᴰ a s
unfolding parted onto
part_bytes c [] p a m h = absurd (in_none (mathlib.Core.List.Memᴰ.eq_of_singleton m) h)
part_bytes c (b ∷ bs) p a m h = go (eqb b c) (first_part c bs) (λ o. part_bytes c bs o a) m
  where
    go : (x : Bool) {q : List ℕ} {qs : List (List ℕ)} → parted c bs ≡ q ∷ qs
        → ((o : List ℕ) → Memᴰ o (parted c bs) → Memᴰ a o → Memᴰ a bs)
        → Memᴰ p (pick x ([] ∷ parted c bs) (onto b (parted c bs))) → Memᴰ a (b ∷ bs)
    go true f below n = ⊎_elim (λ k. absurd (in_none k h)) (λ k. mathlib.Core.List.Memᴰ.tail (below p k h)) (mathlib.Core.List.Memᴰ.cases_cons n)
    go false {q} {qs} f below n =
        let n2 : Memᴰ p ((b ∷ q) ∷ qs) = rw f at n in
        let first : Memᴰ q (parted c bs) = rw f (mathlib.Core.List.Memᴰ.head refl) in
        ⊎_elim
        (λ k. let h2 : Memᴰ a (b ∷ q) = rw k at h in ⊎_elim (λ y. mathlib.Core.List.Memᴰ.head y) (λ y. mathlib.Core.List.Memᴰ.tail (below q first y)) (mathlib.Core.List.Memᴰ.cases_cons h2))
        (λ k. let later : Memᴰ p (parted c bs) = rw f (mathlib.Core.List.Memᴰ.tail k) in mathlib.Core.List.Memᴰ.tail (below p later h))
        (mathlib.Core.List.Memᴰ.cases_cons n2)

a_part : (l : List ℕ) (ps : List (List ℕ)) → Memᴰ l (less_empty_last ps) → Memᴰ l ps
unfolding less_empty_last
a_part l [] m = m
a_part l ([] ∷ []) m = absurd (mathlib.Core.List.Memᴰ.not-nil m)
a_part l ((b ∷ bs) ∷ []) m = m
a_part l ([] ∷ q ∷ ps) m = ⊎_elim (λ e. mathlib.Core.List.Memᴰ.head e) (λ k. mathlib.Core.List.Memᴰ.tail (a_part l (q ∷ ps) k)) (mathlib.Core.List.Memᴰ.cases_cons m)
a_part l ((b ∷ bs) ∷ q ∷ ps) m = ⊎_elim (λ e. mathlib.Core.List.Memᴰ.head e) (λ k. mathlib.Core.List.Memᴰ.tail (a_part l (q ∷ ps) k)) (mathlib.Core.List.Memᴰ.cases_cons m)

pub no_newline_in_line : (t l : List ℕ) → Memᴰ l (lines_of t) → Memᴰ newline l → ⊥
unfolding lines_of
no_newline_in_line t l m h = part_lacks newline t l (a_part l (parted newline t) m) h

pub no_tab_in_field : (line f : List ℕ) → Memᴰ f (fields_of line) → Memᴰ tab f → ⊥
unfolding fields_of
no_tab_in_field line f m h = part_lacks tab line f m h

pub no_newline_in_field : (t l f : List ℕ) → Memᴰ l (lines_of t) → Memᴰ f (fields_of l) → Memᴰ newline f → ⊥
unfolding fields_of
no_newline_in_field t l f m n h = no_newline_in_line t l m (part_bytes tab l f newline n h)
