-- Every legal history over a sound file is upheld, where what is owed of edits is given.
use Rattle.std.proofs.Common.{◌≡◌, ℕ, Bool, true, false, [], ◌∷◌, Option, Some, None, is_some, refl, sym, subst}
use Rattle.std.specs.Prelude.{if◌then◌else◌}
use Rattle.std.proofs.Math.Path.{fun_ext}
use Rattle.fbc_kinds.specs.declared.edits.Edit.{Edit}
use Rattle.fbc_kinds.specs.declared.pages.Page.{Page}
use Rattle.fbc_kinds.specs.declared.shapes.Shape.{Shape}
use Rattle.fbc_kinds.specs.Sound.{IsSound}
use Rattle.fbc_kinds.specs.View.{View}
use Rattle.fbc_page_edits.specs.Edited.{IsOfShape}
use Rattle.fbc_world.specs.declared.events.Act.{Act}
use Rattle.fbc_world.specs.declared.events.Act.TheVariants.{Local}
use Rattle.fbc_world.specs.declared.events.LocalEvent.TheVariants as local
use Rattle.fbc_world.specs.History.{History, happens}
use Rattle.fbc_world.specs.World.{page_after, world_of}
use Rattle.fbc_legal.specs.Guards.{GuardOfEdit}
use Rattle.fbc_legal.specs.Legal.{IsLegal}
use Rattle.fbc_legal.specs.Scene.{scene_of}
use Rattle.fbc_legal.proofs.Induction.{IsCoherent-legal}
use Rattle.fbc_closed_cuts.specs.Cut.{Cut, view}
use Rattle.fbc_closed_cuts.specs.Owed.{KeepsViewsSound}
use Rattle.fbc_closed_cuts.specs.Upheld.{IsUpheld, IsUpheldThroughout}
use Rattle.fbc_closed_cuts.proofs.HeadersGrow.{headers-grow}
use Rattle.fbc_closed_cuts.proofs.UpheldActs.{acts-uphold}
use Rattle.fbc_closed_cuts.proofs.UpheldEdits.{edits-uphold}

module _ (shape : Shape) (file : View) (of_shape : IsOfShape shape file) (sound : IsSound file) where
  first_view : (cut : Cut) → (c : Bool) → (page : ℕ) → (if c then file page else file page) ≡ file page
  first_view cut true page = refl
  first_view cut false page = refl

  one_file : (cut : Cut) → file ≡ view (world_of shape file []) cut
  one_file cut = sym (fun_ext (λ page. first_view cut (cut page) page))

  pub first-upheld : IsUpheld (scene_of shape file [])
  first-upheld = record {
    coherent = IsCoherent-legal shape file [] tt;
    headers = headers-grow shape file [] tt;
    marks = λ owner. tt;
    of_shape = λ cut closed. subst (IsOfShape shape) (one_file cut) of_shape;
    sound = λ cut closed. subst IsSound (one_file cut) sound;
  }

-- One edit upholds what is upheld, where it keeps views true after the history.
pub edit-upholds : (shape : Shape) (file : View) (before : History) (owner page : ℕ) (e : Edit) (landed : Bool) → IsLegal shape file (happens owner (Local (local.Edit page e)) landed ∷ before)
    → IsUpheld (scene_of shape file before) → KeepsViewsSound shape file before e → IsUpheld (scene_of shape file (happens owner (Local (local.Edit page e)) landed ∷ before))
edit-upholds shape file before owner page e landed legal u owed = go (page_after shape (world_of shape file before) owner page e) refl (fits legal.1.guard) where
  fits : GuardOfEdit (scene_of shape file before) owner page e → is_some (page_after shape (world_of shape file before) owner page e) ≡ true
  fits g = g.fits

  go : (after : Option Page) → page_after shape (world_of shape file before) owner page e ≡ after → is_some after ≡ true → IsUpheld (scene_of shape file (happens owner (Local (local.Edit page e)) landed ∷ before))
  go None is fits' = absurd cc
  go (Some content) is fits' = edits-uphold shape file before owner page e landed legal u owed content is

module _ (shape : Shape) (file : View) (before : History) (owed : (edit : Edit) → KeepsViewsSound shape file before edit) (u : IsUpheld (scene_of shape file before)) (owner : ℕ) (landed : Bool) where
  abbrev Upholds : Act → Type 0
  Upholds act = IsLegal shape file (happens owner act landed ∷ before) → IsUpheld (scene_of shape file (happens owner act landed ∷ before))

  pub event-upholds : (act : Act) → Upholds act
  event-upholds (Local (local.Edit page e)) legal = edit-upholds shape file before owner page e landed legal u (owed e)
  event-upholds (Local (local.Before high low)) legal = acts-uphold shape file before (happens owner (Local (local.Before high low)) landed) legal u refl
  event-upholds (Local (local.Pin page)) legal = acts-uphold shape file before (happens owner (Local (local.Pin page)) landed) legal u refl
  event-upholds (Local (local.Unpin page)) legal = acts-uphold shape file before (happens owner (Local (local.Unpin page)) landed) legal u refl
  event-upholds act legal = acts-uphold shape file before (happens owner act landed) legal u refl

pub upheld-now : (shape : Shape) (file : View) (history : History) → IsUpheldThroughout shape file history → IsUpheld (scene_of shape file history)
upheld-now shape file [] upheld = upheld
upheld-now shape file (moment ∷ before) upheld = upheld.0
