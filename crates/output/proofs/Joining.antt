-- The pieces joined are the output: from the turns, from a condition on, and from the start.
use native.Mathlib.Omega.{arith}
use mathlib.Core.Path.{◌≡◌, refl, sym, ap, ◌∙◌}
use mathlib.Core.Bool.{Bool, true, false, not, true≢false}
use mathlib.Core.List.{List, [], ◌++◌, append_assoc, append-nil}
use mathlib.Core.Logic.{⊎_elim, ◌⊎◌, inl, inr}
use Prim.Native.Nat.{ℕ, zero, suc, ◌+◌, ◌-◌, ◌≤◌, ◌<◌}
use borrow.Author.Tests.{le-leb, le-ltb, lt-ltb, ltb-true, ltb-false}
use lib.Dec.{leb, ltb}
use lib.ListN.{length}
use Rattle.basis.specs.Choice.{pick}
use Rattle.timetable.specs.Lines.{line_at, next_line, lines_from, offset_lines}
use Rattle.timetable.proofs.Offsets.{line_or_end, lines_end, lines_next, next_further}
use Rattle.value.specs.Refusals.{bad_condition, wrong_timetable}
use Rattle.desk_seat.specs.Bounds.{max_timetable}
use Rattle.desk_seat.specs.Files.{Files}
use Rattle.desk_seat.specs.Request.{asking}
use Rattle.desk_seat.specs.Answers.{Turned}
use Rattle.desk.specs.Answers.{After}
use Rattle.desk.specs.Desk.{fresh_for, turn_of, no_desk}
use Rattle.desk.specs.declared.Desk.{Desk}
use Rattle.desk_laws.proofs.Sound.{sound_out}
use Rattle.output_lines.specs.Text.{refused_line, turn_line}
use Rattle.output_turns.specs.Turns.{is_idle, none, onto_taken, taken, turns_of}
use Rattle.output_pieces.specs.Bounds.{max_input, room_size}
use Rattle.output_pieces.specs.Pieces.{Piece, stopped, start_piece, open_piece, turns_piece, Stage, starting, opening, turning, stage_at, next_stage, piece_of, opened_all, until_idle, most_turns}
use Rattle.output_pieces.proofs.Starting.{long_timetable, long_input, both_fit}
use Rattle.output_turns.proofs.Counting.{taken_next}
use Rattle.output.specs.Output.{open_lines, output_of}
use Rattle.output.specs.Joined.{piece_after, joined_pieces, Pieces, PiecesAreTheOutput, EndsIdle}
use Rattle.output.proofs.Left.{desk_left}
use Rattle.output.proofs.Ready.{Ready, AtIdle, Works, turn_goes, line_fits, turn_ready, enough, open_ready, opened_ready, fresh_ready}
use Rattle.output.proofs.TurnLines.{told, Leads, at_most_leads}

-- ---- pieces from a stage on: m of them and one more, the last, with a text and a desk at the end
record From (f : Files) (input : List ℕ) (s : Stage) (d : Desk) (text : List ℕ) (end : Desk) (m : ℕ) : Type 0 where
  earlier : (j : ℕ) → j < m → (piece_after j f input s d).more ≡ true
  last : (piece_after m f input s d).more ≡ false
  whole : joined_pieces (suc m) f input s d ≡ text
  desk : (piece_after m f input s d).desk ≡ end

module _ (f : Files) (input : List ℕ) (s : Stage) (d : Desk) where
  -- nothing more is due after this piece
  ends : (text : List ℕ) (end : Desk) → (piece_of f input s d).more ≡ false → (piece_of f input s d).text ≡ text → (piece_of f input s d).desk ≡ end → From f input s d text end 0
  unfolding piece_after joined_pieces
  ends text end e t h = record { earlier = λ j l. absurd (omega arith); last = e; whole = append-nil _ ∙ t; desk = h }

  -- more is due after it
  goes : (text rest : List ℕ) (end : Desk) (m : ℕ) → (piece_of f input s d).more ≡ true → (piece_of f input s d).text ++ rest ≡ text
      → From f input (next_stage input s) (piece_of f input s d).desk rest end m → From f input s d text end (suc m)
  unfolding piece_after joined_pieces
  goes text rest end m e t r =
      record {
        earlier = before;
        last = r.last;
        whole = ap (λ (x : List ℕ). (piece_of f input s d).text ++ x) r.whole ∙ t;
        desk = r.desk;
      }
    where
      before : (j : ℕ) → j < suc m → (piece_after j f input s d).more ≡ true
      before zero l = e
      before (suc j) l = r.earlier j (omega arith)

with_end : {f : Files} {input : List ℕ} {s : Stage} {d : Desk} {text : List ℕ} {end end' : Desk} {m : ℕ} → From f input s d text end m → end ≡ end' → From f input s d text end' m
with_end r e = record { earlier = r.earlier; last = r.last; whole = r.whole; desk = r.desk ∙ e }

with_text : {f : Files} {input : List ℕ} {s : Stage} {d : Desk} {text text' : List ℕ} {end : Desk} {m : ℕ} → From f input s d text end m → text ≡ text' → From f input s d text' end m
with_text r e = record { earlier = r.earlier; last = r.last; whole = r.whole ∙ e; desk = r.desk }

-- ---- the turns
module _ (f : Files) (d : Desk) (o : Ready f d) where
  abbrev line : List ℕ
  line = turn_line (turn_of f d).answer

  fits : length (turn_line (turn_of f d).answer) ≤ room_size
  fits = omega (arith, line_fits f d o)

  -- what the piece of a desk of the program is
  piece_is : turns_piece f d room_size ≡ record { text = (taken f d room_size).text; desk = (taken f d room_size).desk; more = not (taken f d room_size).idle }
  unfolding turns_piece turns_of
  piece_is = rw (sound_out d o.sound, o.lengths, le-leb _ _ fits)

  abbrev Lines : Type 0
  Lines = told f d ≡ (turns_piece f d room_size).text ++ pick (turns_piece f d room_size).more (told f (turns_piece f d room_size).desk) []

  pick_not : (b : Bool) (x : List ℕ) → pick b [] x ≡ pick (not b) x []
  pick_not true x = refl
  pick_not false x = refl

  leads : Leads f d (taken f d room_size)
  leads = at_most_leads room_size f d room_size o

  pub piece_lines : Lines
  piece_lines = rw piece_is (leads.lines ∙ ap (λ (x : List ℕ). (taken f d room_size).text ++ x) (pick_not (taken f d room_size).idle (told f (taken f d room_size).desk)))

  pub piece_ready : Ready f (turns_piece f d room_size).desk
  piece_ready = rw piece_is leads.ready

  -- nothing is due after Idle alone
  piece_ends : (turns_piece f d room_size).more ≡ false → AtIdle f (turns_piece f d room_size).desk
  piece_ends h =
      let m : not (taken f d room_size).idle ≡ false = sym (ap (λ (x : Piece). x.more) piece_is) ∙ h in
      rw piece_is (leads.ends (was_true (taken f d room_size).idle m))
    where
      was_true : (b : Bool) → not b ≡ false → b ≡ true
      was_true true e = refl
      was_true false e = absurd (true≢false e)

  -- more is due only after a turn that was not Idle, and then less is left
  pub piece_less : (turns_piece f d room_size).more ≡ true → desk_left f (turns_piece f d room_size).desk < desk_left f d
  piece_less h = go (turn_goes f d o)
    where
      first_is : taken f d room_size ≡ pick (leb (length line) room_size) (onto_taken line (pick (is_idle (turn_of f d).answer) (record { desk = (turn_of f d).desk; text = []; idle = true }) (taken f (turn_of f d).desk (room_size - length line)))) (none d)
      first_is = taken_next f d room_size

      go : AtIdle f d ⊎ Works f d → desk_left f (turns_piece f d room_size).desk < desk_left f d
      go (inl i) =
          let e : (turns_piece f d room_size).more ≡ false = rw (piece_is, first_is, le-leb _ _ fits, i) in
          absurd (true≢false (sym h ∙ e))
      go (inr w) =
          let k = at_most_leads (room_size - length line) f (turn_of f d).desk (room_size - length line) (turn_ready f d o) in
          let a = k.left in
          let c = w.less in
          rw (piece_is, first_is, le-leb _ _ fits, w.busy) (omega arith)

turning_from : (n : ℕ) (f : Files) (input : List ℕ) (d : Desk) → Ready f d → desk_left f d < n
    → (m : ℕ) × ((m < n) × From f input turning d (told f d) (until_idle f n d) m)
unfolding until_idle
turning_from zero f input d o l = absurd (omega arith)
turning_from (suc n) f input d o l =
    go (turns_piece f d room_size).more refl (λ e. turning_from n f input (turns_piece f d room_size).desk (piece_ready f d o) (let less = piece_less f d o e in omega arith))
  where
    go : (b : Bool) → (turns_piece f d room_size).more ≡ b
        → ((turns_piece f d room_size).more ≡ true → (m : ℕ) × ((m < n) × From f input turning (turns_piece f d room_size).desk (told f (turns_piece f d room_size).desk) (until_idle f n (turns_piece f d room_size).desk) m))
        → (m : ℕ) × ((m < suc n) × From f input turning d (told f d) (until_idle f (suc n) d) m)
    go false e next =
        let x : (turns_piece f d room_size).text ++ pick (turns_piece f d room_size).more (told f (turns_piece f d room_size).desk) [] ≡ (turns_piece f d room_size).text =
        rw e (append-nil (turns_piece f d room_size).text) in
        let h : (turns_piece f d room_size).desk ≡ until_idle f (suc n) d = rw e in
        (0, (omega arith, ends f input turning d (told f d) (until_idle f (suc n) d) e (sym (piece_lines f d o ∙ x)) h))
    go true e next =
        let x : (turns_piece f d room_size).text ++ pick (turns_piece f d room_size).more (told f (turns_piece f d room_size).desk) []
        ≡ (turns_piece f d room_size).text ++ told f (turns_piece f d room_size).desk =
        rw e in
        let h : until_idle f n (turns_piece f d room_size).desk ≡ until_idle f (suc n) d = rw e in
        let r = next e in
        let b = r.1.0 in
        (suc r.0, (omega arith, goes f input turning d (told f d) (told f (turns_piece f d room_size).desk) (until_idle f (suc n) d) r.0 e (sym (piece_lines f d o ∙ x)) (with_end r.1.1 h)))

-- ---- from a condition on
module _ (f : Files) (input : List ℕ) where
  -- what is still to be told from an offset of the input on, and the desk at the end
  abbrev rest : ℕ → Desk → List ℕ
  rest at d = open_lines (lines_from input at) d ++ told f (opened_all (lines_from input at) d)

  abbrev end_of : ℕ → Desk → Desk
  end_of at d = until_idle f most_turns (opened_all (lines_from input at) d)

  none_left : (at : ℕ) (d : Desk) → length input ≤ at → (rest at d ≡ told f d) × (end_of at d ≡ until_idle f most_turns d)
  unfolding open_lines opened_all
  none_left at d l = (rw (lines_end input at l), rw (lines_end input at l))

  one_more : (at : ℕ) (d : Desk) → at < length input
      → (rest at d ≡ (open_piece (asking (line_at input at).text) d).text ++ rest (next_line input at) (open_piece (asking (line_at input at).text) d).desk)
      × (end_of at d ≡ end_of (next_line input at) (open_piece (asking (line_at input at).text) d).desk)
  unfolding open_lines opened_all
  one_more at d l =
      let x = open_piece (asking (line_at input at).text) d in
      let ls = lines_from input (next_line input at) in
      (rw (lines_next input at l) (append_assoc x.text (open_lines ls x.desk) (told f (opened_all ls x.desk))), rw (lines_next input at l))

  abbrev Runs : ℕ → ℕ → Desk → Type 0
  Runs k at d = (m : ℕ) × ((m < k + most_turns) × From f input (stage_at input at) d (rest at d) (end_of at d) m)

  over : (k at : ℕ) (d : Desk) → Ready f d → length input ≤ at → Runs k at d
  over k at d o e =
      let r = turning_from most_turns f input d o (enough f d o) in
      let b = r.1.0 in
      let z = none_left at d e in
      (r.0, (omega arith, rw (le-ltb at (length input) e) (with_text (with_end r.1.1 (sym z.1)) (sym z.0))))

  on : (k at : ℕ) (d : Desk) → at < length input → Runs k (next_line input at) (open_piece (asking (line_at input at).text) d).desk → Runs (suc k) at d
  on k at d l r =
      let b = r.1.0 in
      let z = one_more at d l in
      let w = goes f input (opening at) d (rest at d) (rest (next_line input at) (open_piece (asking (line_at input at).text) d).desk) (end_of at d) r.0 refl (sym z.0) (with_end r.1.1 (sym z.1)) in
      (suc r.0, (omega arith, rw (lt-ltb at (length input) l) w))

  opening_from : (k at : ℕ) (d : Desk) → Ready f d → length input - at ≤ k
      → Runs k at d
  opening_from zero at d o h = over zero at d o (omega arith)
  opening_from (suc k) at d o h =
      ⊎_elim
      (λ l. on k at d l (opening_from k (next_line input at) (open_piece (asking (line_at input at).text) d).desk (open_ready f (asking (line_at input at).text) d o) (omega (arith, next_further input at l))))
      (λ e. over (suc k) at d o e)
      (line_or_end input at)

-- ---- the start
from_start : (f : Files) (input : List ℕ) (d : Desk) → (open_lines (lines_from input 0) d ≡ open_lines (offset_lines input) d) × (opened_all (lines_from input 0) d ≡ opened_all (offset_lines input) d)
unfolding offset_lines
from_start f input d = (refl, refl)

module _ (f : Files) (input : List ℕ) where
  abbrev start : Piece
  start = start_piece (length f.timetable) (length input)

  -- the program stops at its first piece
  stops : (n : ℕ) → start ≡ stopped (fresh_for f).desk n → output_of f input ≡ refused_line n → (m : ℕ) × Pieces f input m
  stops n e t =
      let r = ends f input starting no_desk (refused_line n) (fresh_for f).desk (rw e) (rw e) (rw e) in
      (0, record { within = omega arith; earlier = r.earlier; last = r.last; whole = r.whole ∙ sym t; desk = r.desk ∙ rw e })

  -- it goes on
  runs : length f.timetable ≤ max_timetable → length input ≤ max_input → (m : ℕ) × Pieces f input m
  unfolding output_of
  runs l h =
      let e = both_fit (length f.timetable) (length input) l h in
      let r = opening_from f input max_input 0 (fresh_for f).desk (fresh_ready f l) (omega arith) in
      let b = r.1.0 in
      let z = from_start f input (fresh_for f).desk in
      let w = goes f input starting no_desk (rest f input 0 (fresh_for f).desk) (rest f input 0 (fresh_for f).desk) (end_of f input 0 (fresh_for f).desk) r.0 (rw e) (rw e) (rw e r.1.1) in (
        suc r.0,
        record {
          within = omega arith;
          earlier = w.earlier;
          last = w.last;
          whole = w.whole ∙ rw (le-ltb max_timetable (length f.timetable) l, le-ltb max_input (length input) h, z.0, z.1);
          desk = w.desk ∙ rw (e, z.1);
        },
      )

pub pieces_are_the_output : PiecesAreTheOutput
unfolding output_of
pieces_are_the_output f input = go (ltb max_timetable (length f.timetable)) (ltb max_input (length input)) refl refl
  where
    go : (a b : Bool) → ltb max_timetable (length f.timetable) ≡ a → ltb max_input (length input) ≡ b → (m : ℕ) × Pieces f input m
    go true b p q = stops f input wrong_timetable (long_timetable _ _ (ltb-true max_timetable (length f.timetable) p)) (rw p)
    go false true p q = stops f input bad_condition (long_input _ _ (ltb-false max_timetable (length f.timetable) p) (ltb-true max_input (length input) q)) (rw (p, q))
    go false false p q = runs f input (ltb-false max_timetable (length f.timetable) p) (ltb-false max_input (length input) q)

-- ---- the desk at the end
until_idle_lem : (n : ℕ) (f : Files) (d : Desk) → Ready f d → desk_left f d < n → AtIdle f (until_idle f n d)
unfolding until_idle
until_idle_lem zero f d o l = absurd (omega arith)
until_idle_lem (suc n) f d o l =
    go (turns_piece f d room_size).more refl (λ e. until_idle_lem n f (turns_piece f d room_size).desk (piece_ready f d o) (let less = piece_less f d o e in omega arith))
  where
    go : (b : Bool) → (turns_piece f d room_size).more ≡ b → ((turns_piece f d room_size).more ≡ true → AtIdle f (until_idle f n (turns_piece f d room_size).desk)) → AtIdle f (until_idle f (suc n) d)
    go true e next = rw e (next e)
    go false e next = rw e (piece_ends f d o e)

pub ends_idle : EndsIdle
ends_idle f input l h =
    let e = both_fit (length f.timetable) (length input) l h in
    let o = opened_ready f (offset_lines input) (fresh_for f).desk (fresh_ready f l) in
    let i = until_idle_lem most_turns f (opened_all (offset_lines input) (fresh_for f).desk) o (enough f _ o) in
    rw e (ap (λ (x : After Turned). x.answer) i)
