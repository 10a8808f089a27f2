-- A device of whole pages keeps whole pages over a step; and what a read of a page leaves are that page's bytes.
use Rattle.std.proofs.Common.{◌≡◌, ◌∙◌, ap, ℕ, ◌+◌, ◌-◌, ◌*◌, ◌<◌, ◌≤◌, inl, inr, Bool, true, false, List, ◌++◌, length, take, drop, replicate, Option, Some, None, sym, subst, arith, rules}
use Rattle.std.proofs.Math.Nat.{mul-le-mul_left, mul_comm}
use Rattle.std.proofs.lemmas.Bool.{cases_lt}
use Rattle.std.proofs.lemmas.List.{places, same_lists}
use Rattle.fbc_kinds.specs.declared.shapes.Shape.{Shape}
use Rattle.fbc_kinds.specs.File.{IsViewOf, Shows, page_bytes}
use Rattle.fbc_kinds.specs.View.{View}
use Rattle.fbc_outside.specs.Bytes.{written}
use Rattle.fbc_outside.specs.Landings.{landed_bytes}
use Rattle.fbc_files.proofs.PageWrites.{length-written}
use Rattle.fbc_world.specs.declared.answers.Answer.{Answer}
use Rattle.fbc_world.specs.declared.answers.Answer.TheVariants as answers
use Rattle.fbc_world.specs.declared.asks.Ask.{Ask}
use Rattle.fbc_world.specs.declared.asks.Ask.TheVariants as ask
use Rattle.fbc_world.specs.declared.events.LocalEvent.{LocalEvent}
use Rattle.fbc_world.specs.History.{History, Recording}
use Rattle.fbc_world.specs.PageCell.{kept}
use Rattle.fbc_world.specs.World.{world_of}
use Rattle.fbc_world.proofs.WorldLaws.{IsReplayed-world}
use Rattle.fbc_region.specs.Lawful.{IsLawfulOver, with_locals}
use Rattle.fbc_region.specs.Shared.{history_of}
use Rattle.fbc_region.specs.WholePages.{AreWholePages}
use Rattle.fbc_region.specs.Stepping.{IsPageRead, PagesComeTo, WriteLeaves}
use Rattle.fbc_region.proofs.Calm.{kept_locals}

whole_written : (size number : ℕ) (image bytes : List ℕ) → length image ≡ size → AreWholePages size (Some bytes) → AreWholePages size (Some (written (number * size) image bytes))
whole_written size number image bytes fits (pages, is) =
    elim (cases_lt pages (number + 1)) [
      | inl below ↦ (number + 1, omega (arith, length-written size number image bytes fits, is, mul-le-mul_left size (at_most pages (number + 1) below), mul_comm size pages, mul_comm size (number + 1)))
      | inr above ↦ (pages, omega (arith, length-written size number image bytes fits, is, mul-le-mul_left size above, mul_comm size pages, mul_comm size (number + 1)))
    ]
  where
    at_most : (m n : ℕ) → m < n → m ≤ n
    at_most m n below = omega arith

module _ (size page : ℕ) (image : List ℕ) (fits : length image ≡ size) where
  landed_whole : (bytes : List ℕ) (landed : Bool) → AreWholePages size (Some bytes) → AreWholePages size (Some (landed_bytes landed (page * size) image bytes))
  landed_whole bytes true whole = whole_written size page image bytes fits whole
  landed_whole bytes false whole = whole

  wrote_whole : (bytes now : Option (List ℕ)) (landings landings_now : List Bool) (answer : Answer) → AreWholePages size bytes
      → WriteLeaves bytes now landings landings_now (page * size) image answer → AreWholePages size now
  wrote_whole None now landings landings_now answers.Written whole leaves = rw leaves.0 tt
  wrote_whole (Some bytes) now landings landings_now answers.Written whole leaves = rw leaves.0 (whole_written size page image bytes fits whole)
  wrote_whole None now landings landings_now answers.WriteFault whole leaves = rw leaves tt
  wrote_whole (Some bytes) now landings landings_now answers.WriteFault whole (landed, more, is) = rw is (landed_whole bytes landed whole)
  wrote_whole bytes now landings landings_now _ whole leaves = absurd leaves

pub stays_whole : (size : ℕ) (bytes now : Option (List ℕ)) (landings landings_now : List Bool) (image image_now : List ℕ) (answer : Answer) (asked : Ask) → length image ≡ size → AreWholePages size bytes
    → PagesComeTo size bytes now landings landings_now image image_now answer asked → AreWholePages size now
stays_whole size bytes now landings landings_now image image_now answer (ask.Read page) fits whole come = rw come.1 whole
stays_whole size bytes now landings landings_now image image_now answer (ask.Write page cause) fits whole come = wrote_whole size page image fits bytes now landings landings_now answer whole come.0
stays_whole size bytes now landings landings_now image image_now answer _ fits whole come = rw come.0 whole

-- What a read of a page leaves are the bytes of that page.
pub page_was_read : (size page count : ℕ) (bytes image : List ℕ) → length image ≡ size → IsPageRead (Some bytes) (page * size) image count → image ≡ page_bytes size bytes page
page_was_read size page count bytes image fits (counts, is) =
    is ∙ ap (λ n. take count (drop (page * size) bytes) ++ replicate (n - count) 0) fits ∙ same_lists _ _ (search (rules, places)) (λ k d h. grind (arith, places))

-- So they show what the device's bytes show.
pub seen_there : (shape : Shape) (page count : ℕ) (bytes image : List ℕ) (view : View) → IsViewOf shape bytes view → length image ≡ shape.size → IsPageRead (Some bytes) (page * shape.size) image count
    → Shows shape page image (view page)
seen_there shape page count bytes image view gives fits read = rw (page_was_read shape.size page count bytes image fits read) (gives page)

-- Over a lawful journal they show what the file keeps behind the local events of the step.
pub seen_in_journal : (size page count : ℕ) (bytes : Option (List ℕ)) (journal : Recording) (file : View) (landings : List Bool) (who : ℕ) (events : List LocalEvent) (image : List ℕ)
    → IsLawfulOver size bytes journal file landings → length image ≡ size → IsPageRead bytes (page * size) image count
    → Shows journal.shape page image (kept journal.shape file (with_locals (history_of journal landings) who events) page)
seen_in_journal size page count None journal file landings who events image lawful fits read = absurd lawful.shown
seen_in_journal size page count (Some bytes) journal file landings who events image lawful fits read =
    let h : History = history_of journal landings in
    subst (Shows journal.shape page image)
    (sym (ap (λ (k : View). k page) (kept_locals journal.shape file h who events)) ∙ (IsReplayed-world journal.shape file (with_locals h who events)).kept_is page)
    (seen_there journal.shape page count bytes image (world_of journal.shape file h).kept lawful.shown (fits ∙ lawful.sized)
    (subst (λ s. IsPageRead (Some bytes) (page * s) image count) lawful.sized read))
