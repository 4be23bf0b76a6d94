-- A field compared with a word: it is the word where what is left of the line begins with the word, the word has no tab, and a tab or
-- the line's end follows.
use mathlib.Core.Path.{◌≡◌, refl, ap, sym, ◌∙◌}
use mathlib.Core.Bool.{Bool, true, false, not, ◌||◌}
use mathlib.Core.List.{List, [], ◌∷◌, ◌++◌}
use Prim.Native.Nat.{ℕ, suc}
use native.Mathlib.Omega.{arith}
use lib.Dec.{eqb}
use lib.ListN.{length, take, drop, take-append-drop}
use borrow.Author.Tests.{eq-eqb, eqb-true}
use Rattle.std.specs.List.{list_any}
use Rattle.basis.specs.Exactly.{Exactly}
use Rattle.basis.specs.Choice.{pick, both}
use Rattle.basis.proofs.Tests.{both_end}
use Rattle.timetable.specs.Parted.{bytes_before}
use Rattle.timetable.specs.Fields.{tab, has_field, field_at}
use Rattle.timetable.specs.Carried.{StartsAt, up_to_tab, ends_field}
use Rattle.timetable.proofs.Counting.{no_field_empty}
use Rattle.timetable.proofs.Tabs.{field_from_lem}

-- whether a word has a tab
abbrev tabbed : List ℕ → Bool
tabbed w = list_any (λ y. eqb y tab) w

-- what stands up to the first tab is the word, where the bytes begin with it
abbrev IsWord : List ℕ → List ℕ → Type 0
IsWord w a = Exactly (both (not (tabbed w)) (ends_field a) ≡ true) (up_to_tab (w ++ a) ≡ w)

word_is : (w a : List ℕ) → IsWord w a
unfolding both bytes_before
word_is [] [] = record { only = λ e. refl; always = λ e. refl }
word_is [] (b ∷ bs) = go (eqb b tab)
  where
    go : (t : Bool) → Exactly (t ≡ true) (take (pick t 0 (suc (bytes_before tab bs))) (b ∷ bs) ≡ [])
    go true = record { only = λ e. refl; always = λ e. refl }
    go false = record { only = λ e. cc; always = λ e. absurd (omega (arith, ap length e)) }
word_is (x ∷ w) a = go (eqb x tab) (word_is w a)
  where
    go : (t : Bool) → IsWord w a
        → Exactly (both (not (t || tabbed w)) (ends_field a) ≡ true) (take (pick t 0 (suc (bytes_before tab (w ++ a)))) (x ∷ (w ++ a)) ≡ x ∷ w)
    go true h = record { only = λ e. cc; always = λ e. absurd (omega (arith, ap length e)) }
    go false h = record { only = λ e. ap (λ l. x ∷ l) (h.only e); always = λ e. h.always (ap (drop 1) e) }

module _ (line : List ℕ) (at n : ℕ) (s : StartsAt at line n) (word : List ℕ) where
  -- the rest of the line begins with the word: a test of what follows it, and of the word
  by_word : (after : List ℕ) → drop at line ≡ word ++ after → {t : Bool} → t ≡ both (not (tabbed word)) (ends_field after)
      → Exactly (t ≡ true) (field_at line n ≡ word)
  by_word after e q =
      let f : field_at line n ≡ up_to_tab (word ++ after) = field_from_lem line at n s ∙ ap up_to_tab e in
      let w : IsWord word after = word_is word after in
      record { only = λ h. f ∙ w.only (sym q ∙ h); always = λ h. q ∙ w.always (sym f ∙ h) }

  pub word_ends : (after : List ℕ) → drop at line ≡ word ++ after → ends_field after ≡ true → {r : Bool} → r ≡ tabbed word
      → Exactly (not r ≡ true) (field_at line n ≡ word)
  word_ends after e p q = by_word after e (rw p (ap not q ∙ sym (both_end (not (tabbed word)))))

  pub word_goes_on : (after : List ℕ) → drop at line ≡ word ++ after → ends_field after ≡ false → Exactly (false ≡ true) (field_at line n ≡ word)
  unfolding both
  word_goes_on after e p = by_word after e (rw p (go (tabbed word)))
    where
      go : (t : Bool) → false ≡ both (not t) false
      go true = refl
      go false = refl

  -- it does not begin with the word
  pub not_begun : ((after : List ℕ) → drop at line ≡ word ++ after → ⊥) → Exactly (false ≡ true) (field_at line n ≡ word)
  not_begun none =
      let b = bytes_before tab (drop at line) in
      record {
        only = λ e. cc;
        always = λ e. absurd (none (drop b (drop at line)) (sym (take-append-drop b (drop at line)) ∙ ap (λ l. l ++ drop b (drop at line)) (sym (field_from_lem line at n s) ∙ e)));
      }

no_bytes : (w : List ℕ) → length w ≡ 0 → [] ≡ w
no_bytes [] e = refl
no_bytes (b ∷ bs) e = absurd (omega arith)

-- a field that is not there is the empty word
pub none_is : (line : List ℕ) (n : ℕ) (word : List ℕ) → has_field line n ≡ false → Exactly (eqb (length word) 0 ≡ true) (field_at line n ≡ word)
none_is line n word e =
    let f : field_at line n ≡ [] = no_field_empty line n e in
    record {
      only = λ t. f ∙ no_bytes word (eqb-true (length word) 0 t);
      always = λ q. eq-eqb (length word) 0 (ap length (sym q ∙ f));
    }
