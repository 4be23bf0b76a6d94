-- No byte is lost: the parts joined again are what was parted, and the lines, each with its byte 10, are the timetable,
-- with a byte 10 more where its last line lacks one.
use mathlib.Core.Path.{◌≡◌, refl, ap}
use mathlib.Core.Bool.{Bool, true, false}
use mathlib.Core.List.{List, [], ◌∷◌, ◌++◌}
use Prim.Native.Nat.{ℕ, ◌<◌}
use native.Mathlib.Omega.{arith}
use lib.Dec.{eqb}
use lib.ListN.{length}
use borrow.Author.Tests.{eqb-true}
use Rattle.basis.specs.Choice.{pick}
use Rattle.timetable.specs.Parted.{onto, parted}
use Rattle.timetable.specs.Lines.{newline, less_empty_last, lines_of}
use Rattle.timetable.specs.Fields.{tab, fields_of}
use Rattle.timetable.proofs.Parting.{first_part}

-- parts with a byte c between one and the next
unfoldable pub joined : ℕ → List (List ℕ) → List ℕ
joined c [] = []
joined c (p ∷ []) = p
joined c (p ∷ q ∷ ps) = p ++ c ∷ joined c (q ∷ ps)

-- lines with a byte 10 after each
unfoldable pub ended : List (List ℕ) → List ℕ
ended [] = []
ended (l ∷ ls) = l ++ newline ∷ ended ls

-- the byte 10 that the last line lacks: none where the timetable is empty or ends with one
unfoldable pub lacking : List ℕ → List ℕ
lacking [] = []
lacking (b ∷ []) = pick (eqb b newline) [] (newline ∷ [])
lacking (b ∷ c ∷ cs) = lacking (c ∷ cs)

join_onto : (c b : ℕ) (p : List ℕ) (ps : List (List ℕ)) → joined c ((b ∷ p) ∷ ps) ≡ b ∷ joined c (p ∷ ps)
unfolding joined
join_onto c b p [] = refl
join_onto c b p (q ∷ ps) = refl

pub parts_joined : (c : ℕ) (s : List ℕ) → joined c (parted c s) ≡ s
unfolding parted joined onto
parts_joined c [] = refl
parts_joined c (b ∷ bs) = go (eqb b c) refl (first_part c bs) (parts_joined c bs)
  where
    go : (x : Bool) → eqb b c ≡ x → {q : List ℕ} {qs : List (List ℕ)} → parted c bs ≡ q ∷ qs → joined c (parted c bs) ≡ bs
        → joined c (pick x ([] ∷ parted c bs) (onto b (parted c bs))) ≡ b ∷ bs
    go true e {q} {qs} f h =
        let k : joined c (q ∷ qs) ≡ bs = rw f at h in
        rw (f, eqb-true b c e, k)
    go false e {q} {qs} f h =
        let k : joined c (q ∷ qs) ≡ bs = rw f at h in
        rw (f, join_onto c b q qs, k)

-- the fields of a line with the tabs between them are the line
pub fields_joined : (line : List ℕ) → joined tab (fields_of line) ≡ line
unfolding fields_of
fields_joined line = parts_joined tab line

end_onto : (b : ℕ) (q : List ℕ) (qs : List (List ℕ)) → 0 < length (joined newline (q ∷ qs))
    → ended (less_empty_last ((b ∷ q) ∷ qs)) ≡ b ∷ ended (less_empty_last (q ∷ qs))
unfolding joined ended less_empty_last
end_onto b [] [] h = absurd (omega arith)
end_onto b (x ∷ xs) [] h = refl
end_onto b [] (r ∷ rs) h = refl
end_onto b (x ∷ xs) (r ∷ rs) h = refl

pub lines_ended : (t : List ℕ) → ended (lines_of t) ≡ t ++ lacking t
unfolding lines_of parted less_empty_last ended lacking onto
lines_ended [] = refl
lines_ended (b ∷ []) = go (eqb b newline) refl
  where
    go : (x : Bool) → eqb b newline ≡ x
        → ended (less_empty_last (pick x ([] ∷ [] ∷ []) (onto b ([] ∷ [])))) ≡ b ∷ pick x [] (newline ∷ [])
    go true e = rw (eqb-true b newline e)
    go false e = refl
lines_ended (b ∷ c ∷ cs) = go (eqb b newline) refl (first_part newline (c ∷ cs)) (parts_joined newline (c ∷ cs)) (lines_ended (c ∷ cs))
  where
    bs : List ℕ
    bs = c ∷ cs

    go : (x : Bool) → eqb b newline ≡ x → {q : List ℕ} {qs : List (List ℕ)} → parted newline bs ≡ q ∷ qs
        → joined newline (parted newline bs) ≡ bs → ended (lines_of bs) ≡ bs ++ lacking bs
        → ended (less_empty_last (pick x ([] ∷ parted newline bs) (onto b (parted newline bs)))) ≡ b ∷ bs ++ lacking bs
    go true e {q} {qs} f j h =
        let k : ended (less_empty_last (q ∷ qs)) ≡ bs ++ lacking bs = rw f at h in
        rw (f, eqb-true b newline e, k)
    go false e {q} {qs} f j h =
        let k : ended (less_empty_last (q ∷ qs)) ≡ bs ++ lacking bs = rw f at h in
        let m : joined newline (q ∷ qs) ≡ bs = rw f at j in
        let n = ap length m in
        rw (f, end_onto b q qs (omega arith), k)
