-- A mark of dead takes no commit back: each view that sees it allows it, and stays sound.
use Rattle.std.proofs.Common.{◌≡◌, ◌<◌, ◌⊎◌, ℕ, false, inl, inr, refl, sym, subst}
use Rattle.std.proofs.Math.Path.{fun_ext}
use Rattle.fbc_kinds.specs.declared.edits.Edit.TheVariants.{Mark}
use Rattle.fbc_kinds.specs.declared.pages.Page.{Page}
use Rattle.fbc_kinds.specs.declared.pages.State.TheVariants.{Committed, Dead}
use Rattle.fbc_kinds.specs.declared.pages.State.{State}
use Rattle.fbc_kinds.specs.Sound.{IsSound}
use Rattle.fbc_kinds.specs.declared.shapes.Shape.{Shape}
use Rattle.fbc_kinds.specs.View.{View, next_of}
use Rattle.fbc_version_edits.specs.Forms.{AllowsMark}
use Rattle.fbc_page_edits.specs.Edited.{with_page}
use Rattle.fbc_version_edits.proofs.Marked.{marked_view}
use Rattle.fbc_world.specs.History.{History}
use Rattle.fbc_legal.specs.Facts.{Fact, HasNextAbove}
use Rattle.fbc_legal.specs.Guards.{GuardOfEdit}
use Rattle.fbc_legal.specs.Leans.{IsShown}
use Rattle.fbc_legal.specs.Scene.{HasDraft, IsBefore, Scene, newest_at, scene_of}
use Rattle.fbc_legal.specs.Stamps.{Stamps, newest_stamps}
use Rattle.fbc_closed_cuts.specs.Owed.{IsSeenEdit, IsSeenNewest, KeepsViewsSound, SeesEdit}
use Rattle.fbc_closed_cuts.proofs.LeansSeen.{lean-seen}
use Rattle.fbc_numbers.specs.Numbers.{IsNumbered, is_committed_in}
use Rattle.fbc_numbers.proofs.CutFacts.{never-committed}
use Rattle.fbc_numbers.proofs.EditCommits.{dead-number}

module _ (at : Scene) (k : IsNumbered at) (owner page number : ℕ) (g : GuardOfEdit at owner page (Mark number Dead)) (seen : View) (stamps : ℕ → Stamps) (sees : SeesEdit at owner page seen stamps) where
  uncommitted : is_committed_in seen number ≡ false
  uncommitted =
      subst (λ (v : View). is_committed_in v number ≡ false) (sym (fun_ext sees.pages))
      (never-committed at.world k.grow number (dead-number at owner number k.uncommitted g.unmarked g.row) sees.cut sees.closed)

  pub allows-dead : AllowsMark seen number Dead
  allows-dead = record { begun = begun; stays = inr uncommitted } where
    begun : number < next_of seen
    begun = let has = lean-seen at owner page seen stamps sees (HasNextAbove number) 0 g.leans in rw has.1 has.2

-- A marked number was begun, in each view that sees the mark.
pub begun-seen : (at : Scene) (owner page number : ℕ) (state : State) → GuardOfEdit at owner page (Mark number state) → (seen : View) (stamps : ℕ → Stamps) → SeesEdit at owner page seen stamps → number < next_of seen
begun-seen at owner page number state g seen stamps sees = let has = lean-seen at owner page seen stamps sees (HasNextAbove number) 0 g.leans in rw has.1 has.2

-- A mark that the view allows leaves it sound.
module _ (shape : Shape) (file : View) (past : History) (owner page number : ℕ) (state : State) (content : Page) (seen : View) (stamps : ℕ → Stamps)
    (is : IsSeenEdit shape file past owner page (Mark number state) content seen stamps) (allowed : AllowsMark seen number state) where
  marks-sound : IsSound (with_page seen page content)
  marks-sound = (marked_view shape seen page number state content (record { of_shape = is.of_shape; sound = is.sound; own = tt; fits = is.fits; allowed = allowed })).sound

pub dead-sound : (shape : Shape) (file : View) (past : History) (number : ℕ) → IsNumbered (scene_of shape file past) → KeepsViewsSound shape file past (Mark number Dead)
dead-sound shape file past number k owner page content seen stamps is =
    marks-sound shape file past owner page number Dead content seen stamps is (allows-dead (scene_of shape file past) k owner page number is.guard seen stamps is.sees)

pub commit-sound : (shape : Shape) (file : View) (past : History) (number : ℕ) → KeepsViewsSound shape file past (Mark number Committed)
commit-sound shape file past number owner page content seen stamps is =
    marks-sound shape file past owner page number Committed content seen stamps is (record { begun = begun-seen (scene_of shape file past) owner page number Committed is.guard seen stamps is.sees; stays = inl refl })
