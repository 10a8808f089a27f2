-- How the ways and the answers of a read are put together.
use Rattle.std.proofs.Common.{◌≡◌, ◌<◌, ◌/◌, ◌%◌, ◌&&◌, ◌==◌, ℕ, Bool, true, nat_lt, List, Option, Some, refl, sym, subst, unwrap_or, arith}
use Rattle.std.proofs.lemmas.Bool.Decides.{nat_tests}
use Rattle.fbc_kinds.specs.declared.pages.Cell.{Cell}
use Rattle.fbc_kinds.specs.declared.rules.Rule.{Rule}
use Rattle.fbc_kinds.specs.Limits.{slots}
use Rattle.fbc_kinds.specs.View.{is_back, is_top, slot_in}
use Rattle.fbc_notes.specs.Sights.{TellsBelow, TellsSeen}
use Rattle.fbc_cache.specs.declared.readers.Place.{Place}
use Rattle.fbc_cache.specs.Readers.{number_at, place, place_in}
use Rattle.fbc_cache.specs.Remembered.{pointers_of}
use Rattle.fbc_desk.specs.Roles.{misplaced}
use Rattle.fbc_chains.specs.declared.parts.ReadPart.{ReadPart}
use Rattle.fbc_chains.specs.declared.parts.ReadPart.TheVariants as part
use Rattle.fbc_chains.specs.declared.parts.ReadStep.{ReadStep}
use Rattle.fbc_chains.specs.declared.places.RowPlace.{RowPlace}
use Rattle.fbc_chains.specs.Pages.{IsThere, StandsAt, StandsElsewhere, data_due}
use Rattle.fbc_chains.specs.Reading.{Answers, ComesTo, GoesTo, LeadsTo}
use Rattle.fbc_chains.specs.Showing.{Showing}
use Rattle.fbc_chains.specs.Slots.{NamesBy}
use Rattle.fbc_chains.specs.Versions.{cell_below, page_below, version_at, version_below}

-- An answer where the read stands.
pub comes-here : (s : Showing) (at : RowPlace) (seen : ℕ → Bool) (from to : ReadPart) (answer : ReadStep) → to ≡ from → Answers s at seen from answer → ComesTo s at seen from to answer
comes-here s at seen from to answer is answers =
    subst (λ (p : ReadPart). ComesTo s at seen from p answer) (sym is) (record { way = LeadsTo.stays from; answers = answers })

leads-first : (s : Showing) (at : RowPlace) (seen : ℕ → Bool) (from between to : ReadPart) → GoesTo s at seen from between → LeadsTo s at seen between to → LeadsTo s at seen from to
leads-first s at seen from between to first (LeadsTo.stays _) = LeadsTo.goes from from between (LeadsTo.stays from) first
leads-first s at seen from between to first (LeadsTo.goes _ last _ way on) = LeadsTo.goes from last to (leads-first s at seen from between last first way) on

-- A read goes on, and comes to its answer from there, over the same copies.
pub comes-on : (s t : Showing) (at : RowPlace) (seen : ℕ → Bool) (from between to : ReadPart) (answer : ReadStep) → GoesTo s at seen from between → t ≡ s → ComesTo t at seen between to answer → ComesTo s at seen from to answer
comes-on s t at seen from between to answer first same comes =
    let on : ComesTo s at seen between to answer = subst (λ (u : Showing). ComesTo u at seen between to answer) same comes in
    record { way = leads-first s at seen from between to first on.way; answers = on.answers }

-- What is told by one newest version.
pub tells-seen : (seen : ℕ → Bool) (version : Cell) (value : Option (List ℕ)) → is_top version.flag ≡ true → TellsBelow seen version value → TellsSeen seen version value
tells-seen seen version value top (TellsBelow.of_held held is) = TellsSeen.of_held top held is
tells-seen seen version value top (TellsBelow.of_last held last none) = TellsSeen.of_lone top held (grind (arith, nat_tests, last)) none

-- The slot names what its pointer page shows.
pub named-by : (s t : Showing) (at : RowPlace) (pointer count named : ℕ) → t ≡ s → count ≡ slots s.shape.size
    → pointer ≡ number_at (pointers_of s.pointers at.relation) (at.sequence / count)
    → StandsAt s pointer (place 4 at.relation (at.sequence / count))
    → named ≡ unwrap_or (slot_in (t.copies pointer) (at.sequence % count)) 0
    → NamesBy true s at named
named-by s t at pointer count named same is_count is_pointer stands is_named = (
  subst (λ (n : ℕ). StandsAt s (number_at (pointers_of s.pointers at.relation) (at.sequence / n)) (place 4 at.relation (at.sequence / n))) is_count
      (subst (λ (p : ℕ). StandsAt s p (place 4 at.relation (at.sequence / count))) is_pointer stands),
  subst (λ (n : ℕ). named ≡ unwrap_or (slot_in (s.copies (number_at (pointers_of s.pointers at.relation) (at.sequence / n))) (at.sequence % n)) 0) is_count
      (subst (λ (p : ℕ). named ≡ unwrap_or (slot_in (s.copies p) (at.sequence % count)) 0) is_pointer
      (subst (λ (u : Showing). named ≡ unwrap_or (slot_in (u.copies pointer) (at.sequence % count)) 0) same is_named)),
)

-- A page that is there stands elsewhere than is due.
pub stands-elsewhere : (s t : Showing) (at : RowPlace) (page : ℕ) (found due : Place) (broken : Rule) → t ≡ s → found ≡ place_in (t.copies page) → due ≡ data_due at → Some broken ≡ misplaced found due → IsThere s page → StandsElsewhere s page (data_due at) page broken
stands-elsewhere s t at page found due broken same is_found is_due judged there = record {
  there = there;
  is_page = refl;
  misplaced_by =
      sym (subst (λ (u : Showing). Some broken ≡ misplaced (place_in (u.copies page)) (data_due at)) same
      (subst (λ (f : Place). Some broken ≡ misplaced f (data_due at)) is_found (subst (λ (p : Place). Some broken ≡ misplaced found p) is_due judged)));
}

-- A test of a version, told of the copies at hand.
pub told-of : (s t : Showing) (test : Showing → Bool) (result is : Bool) → t ≡ s → result ≡ test t → result ≡ is → test s ≡ is
told-of s t test result is same told known = subst (λ (b : Bool). test s ≡ b) known (subst (λ (u : Showing). test u ≡ result) same (sym told))

-- The same of a number.
pub number-of : (s t : Showing) (number : Showing → ℕ) (result : ℕ) → t ≡ s → result ≡ number t → result ≡ number s
number-of s t number result same told = subst (λ (u : Showing). result ≡ number u) same told

-- Which page it is that stands below, after calls that change nothing of what is shown; and that it is there.
pub below-is : (s t now : Showing) (page cell below : ℕ) → t ≡ s → below ≡ page_below t page cell → now ≡ s → below ≡ page_below now page cell
below-is s t now page cell below same is_below after = number-of now t (λ (u : Showing). page_below u page cell) below (subst (λ (u : Showing). t ≡ u) (sym after) same) is_below

pub below-there : (s t now : Showing) (page cell below : ℕ) → t ≡ s → below ≡ page_below t page cell → now ≡ s → IsThere s below → IsThere now (page_below now page cell)
below-there s t now page cell below same is_below after there =
    subst (λ (b : ℕ). IsThere now b) (below-is s t now page cell below same is_below after) (subst (λ (u : Showing). IsThere u below) (sym after) there)

-- What is true of the version in the cell below.
pub of-below : (s t : Showing) (P : Cell → Type 0) (page cell below older : ℕ) → t ≡ s → below ≡ page_below s page cell → older ≡ cell_below s page cell → P (version_at t below older) → P (version_below s page cell)
of-below s t P page cell below older same is_below is_cell holds =
    subst (λ (b : ℕ). P (version_at s b (cell_below s page cell))) is_below
    (subst (λ (o : ℕ). P (version_at s below o)) is_cell (subst (λ (u : Showing). P (version_at u below older)) same holds))

last-test : (a b c : Bool) (m n : ℕ) → (a && b && c && nat_lt m n) ≡ true → m < n
last-test a b c m n all = grind (arith, nat_tests, all)

-- The number falls on the way down.
pub number-falls : (s t : Showing) (at : RowPlace) (seen : ℕ → Bool) (page cell below older : ℕ) → t ≡ s → GoesTo t at seen (part.Walk page cell) (part.Walk below older) → (version_at s below older).number < (version_at s page cell).number
number-falls s t at seen page cell below older same on =
    subst (λ (w : Showing). (version_at w below older).number < (version_at w page cell).number) same
    (subst (λ (b : ℕ). (version_at t b older).number < (version_at t page cell).number) (sym on.0)
    (subst (λ (o : ℕ). (version_at t (page_below t page cell) o).number < (version_at t page cell).number) (sym on.1)
    (last-test ((place_in (t.copies (page_below t page cell))).kind == 5) ((place_in (t.copies (page_below t page cell))).relation == at.relation) (is_back (version_below t page cell).flag) (version_below t page cell).number (version_at t page cell).number on.3)))
