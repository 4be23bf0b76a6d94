-- A byte more at a line's end: it is the last byte of the last field, if it is no tab.
use mathlib.Core.Path.{◌≡◌, refl, ap, sym, ◌∙◌}
use mathlib.Core.Bool.{Bool, true, false}
use mathlib.Core.List.{List, [], ◌∷◌, ◌++◌, map}
use Prim.Native.Nat.{ℕ, suc, ◌<◌}
use native.Mathlib.Omega.{arith}
use lib.Dec.{eqb}
use lib.ListN.{length, get_or}
use Rattle.basis.specs.Choice.{pick}
use Rattle.timetable.specs.Parted.{onto, parted}
use Rattle.timetable.specs.Fields.{tab, fields_of, has_field, field_at}

-- a byte more at the end of the last of some fields
abbrev pub at_last : ℕ → List (List ℕ) → List (List ℕ)
at_last x [] = []
at_last x (f ∷ []) = (f ++ x ∷ []) ∷ []
at_last x (f ∷ g ∷ gs) = f ∷ at_last x (g ∷ gs)

onto_last : (b x : ℕ) (f : List ℕ) (fs : List (List ℕ)) → at_last x (onto b (f ∷ fs)) ≡ onto b (at_last x (f ∷ fs))
unfolding onto
onto_last b x f [] = refl
onto_last b x f (g ∷ gs) = refl

module _ (c x : ℕ) (e : eqb x c ≡ false) where
  some_part : (s : List ℕ) → (ps : List (List ℕ)) → parted c s ≡ ps → 0 < length ps
  unfolding parted onto
  some_part [] ps q = rw (sym q) (omega arith)
  some_part (b ∷ s) ps q = rw (sym q) (go (eqb b c) (parted c s))
    where
      go : (y : Bool) (qs : List (List ℕ)) → 0 < length (pick y ([] ∷ qs) (onto b qs))
      go true qs = omega arith
      go false [] = omega arith
      go false (p ∷ qs) = omega arith

  pub last_part : (s : List ℕ) → parted c (s ++ x ∷ []) ≡ at_last x (parted c s)
  unfolding parted onto
  last_part [] = rw e
  last_part (b ∷ s) = rw (last_part s) (go (eqb b c) (parted c s) (some_part s (parted c s) refl))
    where
      go : (y : Bool) (ps : List (List ℕ)) → 0 < length ps → pick y ([] ∷ at_last x ps) (onto b (at_last x ps)) ≡ at_last x (pick y ([] ∷ ps) (onto b ps))
      go y [] h = absurd (bad h)
        where
          bad : 0 < 0 → ⊥
          bad g = omega arith
      go true (p ∷ ps) h = refl
      go false (p ∷ ps) h = sym (onto_last b x p ps)

-- a byte more changes no other field, and nothing of what it does not alter in the last
module _ (x : ℕ) (e : eqb x tab ≡ false) (line : List ℕ) where
  pub last_field : fields_of (line ++ x ∷ []) ≡ at_last x (fields_of line)
  unfolding fields_of
  last_field = last_part tab x e line

  alike_last : {A : Type 0} (f : List ℕ → A) → ((g : List ℕ) → f (g ++ x ∷ []) ≡ f g) → (fs : List (List ℕ)) → map f (at_last x fs) ≡ map f fs
  alike_last f h [] = refl
  alike_last f h (g ∷ []) = ap (λ y. y ∷ []) (h g)
  alike_last f h (g ∷ k ∷ ks) = ap (λ y. f g ∷ y) (alike_last f h (k ∷ ks))

  pub alike_fields : {A : Type 0} (f : List ℕ → A) → ((g : List ℕ) → f (g ++ x ∷ []) ≡ f g) → map f (fields_of (line ++ x ∷ [])) ≡ map f (fields_of line)
  alike_fields f h = ap (map f) last_field ∙ alike_last f h (fields_of line)

  -- of three fields or more the second stays
  second_stays : (fs : List (List ℕ)) → 2 < length fs → (length (at_last x fs) ≡ length fs) × (get_or (at_last x fs) 1 [] ≡ get_or fs 1 [])
  second_stays [] h = absurd (bad h)
    where
      bad : 2 < 0 → ⊥
      bad g = omega arith
  second_stays (a ∷ []) h = absurd (bad h)
    where
      bad : 2 < 1 → ⊥
      bad g = omega arith
  second_stays (a ∷ b ∷ []) h = absurd (bad h)
    where
      bad : 2 < 2 → ⊥
      bad g = omega arith
  second_stays (a ∷ b ∷ c ∷ fs) h = (ap (λ n. suc (suc n)) (long (c ∷ fs)), refl)
    where
      long : (gs : List (List ℕ)) → length (at_last x gs) ≡ length gs
      long [] = refl
      long (g ∷ []) = refl
      long (g ∷ k ∷ ks) = ap suc (long (k ∷ ks))

  pub second_field : 2 < length (fields_of line) → field_at (line ++ x ∷ []) 2 ≡ field_at line 2
  unfolding field_at has_field
  second_field h =
      let w = second_stays (fields_of line) h in
      rw (last_field, w.0, w.1)
