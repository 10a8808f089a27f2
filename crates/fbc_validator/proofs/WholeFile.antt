-- What is found in a file that was opened.
use Rattle.std.proofs.Common.{◌≡◌, ◌*◌, ◌/◌, ◌%◌, ◌+◌, ◌==◌, ℕ, Bool, true, false, not, nat_lt, if◌then◌else◌, List, [], length, take, Option, None, Some, Result, Ok, Err, IfOk, refl, sym, subst, ap, ◌∙◌, arith}
use Rattle.std.proofs.lemmas.Nat.{div-add-mod'}
use Rattle.fbc_kinds.specs.declared.rules.Rule.{Rule}
use Rattle.fbc_kinds.specs.declared.rules.Rule.TheVariants as rule
use Rattle.fbc_kinds.specs.declared.pages.Page.{Page}
use Rattle.fbc_kinds.specs.File.{IsViewOf, Shows, page_bytes}
use Rattle.fbc_kinds.specs.Head.{broken_head, or_else}
use Rattle.fbc_kinds.specs.HeaderSpelling.{ShowsShape, as_recognised, broken_beginning, broken_content, broken_file, broken_front, broken_length, page_size_in}
use Rattle.fbc_kinds.specs.Limits.{IsPageSize, is_page_size}
use Rattle.fbc_kinds.specs.Spelling.{IsSpelling}
use Rattle.fbc_kinds.specs.View.{View}
use Rattle.fbc_kinds.specs.declared.shapes.Shape.{Shape}
use Rattle.fbc_kinds.proofs.HeaderRules.{both_unbroken}
use Rattle.fbc_kinds.proofs.Tests.{same_from_test}
use Rattle.fbc_files.specs.Opening.{IsOpened}
use Rattle.fbc_files.specs.declared.opening.Opened.{Opened}
use Rattle.fbc_validator.specs.Checked.{AreFindings, AreSoundFile, HasFound}
use Rattle.fbc_validator.specs.declared.faults.ValidateFault.{ValidateFault}
use Rattle.fbc_validator.specs.declared.findings.Findings.{Findings}

-- A file that is recognised has whole pages.
whole_from_test : (rest : ℕ) (b : Bool) → (rest == 0) ≡ b → (if not b then Some rule.Length else None) ≡ None → rest ≡ 0
whole_from_test rest true test e = same_from_test rest 0 test
whole_from_test rest false test e = cc

not_short : (b : Bool) (rest : Option Rule) → (if b then Some rule.Short else rest) ≡ None → rest ≡ None
not_short true rest e = cc
not_short false rest e = e

whole_pages : (first : List ℕ) (count : ℕ) → broken_file first count ≡ None → count % page_size_in first ≡ 0
whole_pages first count unbroken =
    let front : Option Rule = broken_front (is_page_size (page_size_in first)) first in
    let by_length : Option Rule = broken_length (page_size_in first) count in
    let content : Option Rule = broken_content (page_size_in first) first in
    let began = not_short (nat_lt count 1024) (broken_beginning first count) unbroken in
    let one = both_unbroken (as_recognised (broken_head 1 0 first)) (or_else front (or_else by_length content)) began in
    let two = both_unbroken front (or_else by_length content) one.1 in
    let three = both_unbroken by_length content two.1 in
    whole_from_test (count % page_size_in first) (count % page_size_in first == 0) refl three.0

pages_of : (count size : ℕ) → count % size ≡ 0 → (count / size) * size ≡ count
pages_of count size whole =
    let all : (count / size) * size + count % size ≡ count = div-add-mod' count size in
    omega arith

-- Shapes that the same first bytes show give the same views.
abbrev IsOneShape : List ℕ → ℕ → Type 0
IsOneShape first reach = (shape other : Shape) (page : Page) (bytes : List ℕ) → ShowsShape first reach shape → ShowsShape first reach other → IsSpelling shape page bytes → IsSpelling other page bytes

module _ (reach : ℕ) (bytes : List ℕ) (one : IsOneShape (take 1024 bytes) reach) (shape other : Shape) (a : ShowsShape (take 1024 bytes) reach shape) (b : ShowsShape (take 1024 bytes) reach other) where
  shows_too : (number : ℕ) (part : List ℕ) (page : Option Page) → Shows shape number part page → Shows other number part page
  shows_too number part None none = λ page shows. none page (record { spelled = one other shape page part b a shows.spelled; stands = shows.stands })
  shows_too number part (Some page) shows = record { spelled = one shape other page part a b shows.spelled; stands = shows.stands }

  view_of_both : (view : View) → IsViewOf shape bytes view → IsViewOf other bytes view
  view_of_both view is number =
      let same : shape.size ≡ other.size = a.size ∙ sym b.size in
      let P : ℕ → Type 0 = λ size. Shows other number (page_bytes size bytes number) (view number) in
      subst P same (shows_too number (page_bytes shape.size bytes number) (view number) (is number))

-- Where no damage was found the file is sound, and in a sound file none was found.
module _ (reach : ℕ) (bytes : List ℕ) (shape : Shape) (found : Findings) (recognised : broken_file (take 1024 bytes) (length bytes) ≡ None) (shown : ShowsShape (take 1024 bytes) reach shape)
    (is : (view : View) → IsViewOf shape bytes view → AreFindings shape bytes view found) where
  sound_file : ((view : View) × IsViewOf shape bytes view) → found.damages ≡ [] → AreSoundFile reach bytes
  sound_file given none = (
    given.0,
    record {
      shape = shape;
      file = record { unbroken = recognised; shown = shown; spelled = given.1 };
      sound = (is given.0 given.1).sound.0 none;
    },
  )

  undamaged : IsOneShape (take 1024 bytes) reach → AreSoundFile reach bytes → found.damages ≡ []
  undamaged one sound =
      let file = sound.1.file in
      (is sound.0 (view_of_both reach bytes one sound.1.shape shape file.shown shown sound.0 file.spelled)).sound.1 sound.1.sound

pub has_found : (reach : ℕ) (file now : Option (List ℕ)) (opened : Opened) (pages : ℕ) (r : Result Findings ValidateFault) → IsOpened reach file opened → now ≡ file
    → pages ≡ opened.length / opened.shape.size
    → IfOk r (λ found. (bytes : List ℕ) (view : View) → now ≡ Some bytes → IsViewOf opened.shape bytes view → AreFindings opened.shape bytes view found)
    → IfOk r (λ found. found.pages ≡ pages)
    → ((shape : Shape) (bytes : List ℕ) → IsPageSize shape.size → (view : View) × IsViewOf shape bytes view)
    → ((reach : ℕ) (first : List ℕ) → IsOneShape first reach)
    → IfOk r (HasFound reach file)
has_found reach file now opened pages (Err fault) is same count found counted given one = tt
has_found reach None now opened pages (Ok findings) is same count found counted given one = tt
has_found reach (Some bytes) now opened pages (Ok findings) is same count found counted given one =
    let size : ℕ = opened.shape.size in
    let whole : length bytes % size ≡ 0 = ap (λ s. length bytes % s) is.shown.size ∙ whole_pages (take 1024 bytes) (length bytes) is.recognised in
    record {
      shape = opened.shape;
      recognised = is.recognised;
      shown = is.shown;
      pages = ap (λ p. p * size) (counted ∙ count ∙ ap (λ n. n / size) is.whole) ∙ pages_of (length bytes) size whole;
      findings = λ view shown. found bytes view same shown;
      sound = (
        sound_file reach bytes opened.shape findings is.recognised is.shown (λ view shown. found bytes view same shown) (given opened.shape bytes is.limits.size),
        undamaged reach bytes opened.shape findings is.recognised is.shown (λ view shown. found bytes view same shown) (λ shape other. one reach (take 1024 bytes) shape other),
      );
    }
