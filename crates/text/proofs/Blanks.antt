-- Document 02, a: a value with blanks round it reads as the value without them; blanks alone are 1, and so is a blank inside.
use mathlib.Core.Path.{◌≡◌, ap, sym, ◌∙◌}
use mathlib.Core.Bool.{true, false}
use mathlib.Core.List.{List, ◌++◌}
use Prim.Native.Nat.{ℕ, ◌<◌}
use lib.ListN.{length}
use Rattle.basis.specs.Answer.{gives, refuses}
use Rattle.value.specs.Refusals.{bad_text}
use Rattle.value.specs.Kinds.{kind_of, ok_value}
use Rattle.value.specs.declared.Kind.{Kind}
use Rattle.value.specs.declared.Value.{Value}
use Rattle.numerals.specs.Reading.{at}
use Rattle.text_blanks.specs.Blanks.{is_blank, only_blanks, bare}
use Rattle.text_blanks.proofs.Laws.{bare_around, bare_twice, bare_none, without_blanks}
use Rattle.text.specs.Reading.{read_bare, read_as}
use Rattle.text.specs.Writing.{text_of}
use Rattle.text.proofs.ReadsBare.{reads_bare}
use Rattle.text.proofs.Strangers.{byte_of, stranger_refused, blank_among}
use Rattle.text.proofs.RoundTrip.{written_reads_back}
use Rattle.text.proofs.NotEmpty.{empty_refused}

-- a text is read for the bytes of its value alone
pub same_bare_reads : (k : Kind) (s t : List ℕ) → bare s ≡ bare t → read_as k s ≡ read_as k t
same_bare_reads k s t e = reads_bare k s ∙ ap (read_bare k) e ∙ sym (reads_bare k t)

-- blanks round a text change nothing of what it reads as
pub padded_reads : (k : Kind) (p s q : List ℕ) → only_blanks p ≡ true → only_blanks q ≡ true → read_as k (p ++ (s ++ q)) ≡ read_as k s
padded_reads k p s q ep eq = same_bare_reads k (p ++ (s ++ q)) s (bare_around p s q ep eq)

-- nor does stripping it before
pub stripped_reads : (k : Kind) (s : List ℕ) → read_as k (bare s) ≡ read_as k s
stripped_reads k s = same_bare_reads k (bare s) s (bare_twice s)

-- a text without a blank reads as its bytes do
pub unblanked_reads : (k : Kind) (s : List ℕ) → ((j : ℕ) → j < length s → is_blank (at s j) ≡ false) → read_as k s ≡ read_bare k s
unblanked_reads k s h = reads_bare k s ∙ ap (read_bare k) (without_blanks s h)

-- what is written reads back, also with blanks round it
pub padded_reads_back : (v : Value) (p q : List ℕ) → ok_value v ≡ true → only_blanks p ≡ true → only_blanks q ≡ true → read_as (kind_of v) (p ++ (text_of v ++ q)) ≡ gives v
padded_reads_back v p q g ep eq = padded_reads (kind_of v) p (text_of v) q ep eq ∙ written_reads_back v g

-- blanks alone are 1
pub blanks_alone : (k : Kind) (s : List ℕ) → only_blanks s ≡ true → read_as k s ≡ refuses bad_text
blanks_alone k s e = reads_bare k s ∙ ap (read_bare k) (bare_none s e) ∙ empty_refused k

-- a blank that is left, which stands inside, is 1
pub blank_inside : (k : Kind) (s : List ℕ) (j : ℕ) → j < length (bare s) → is_blank (at (bare s) j) ≡ true → read_as k s ≡ refuses bad_text
blank_inside k s j h e = reads_bare k s ∙ blank_among k (bare s) j h e

-- and so is any other byte than the digits and marks of the kind, at an end or inside
pub stranger_inside : (k : Kind) (s : List ℕ) (j : ℕ) → j < length (bare s) → byte_of k (at (bare s) j) ≡ false → read_as k s ≡ refuses bad_text
stranger_inside k s j h e = reads_bare k s ∙ stranger_refused (bare s) j h k e
