-- What is committed in a view is so in each wider one: before the first event, after every act, and after every edit.
use Rattle.std.proofs.Common.{◌≡◌, ◌∙◌, ◌&&◌, ◌∷◌, [], ℕ, Bool, true, false, if◌then◌else◌, Option, Some, None, is_some, refl, sym, ap, subst}
use Rattle.std.proofs.Math.Path.{fun_ext}
use Rattle.fbc_kinds.specs.declared.edits.Edit.{Edit}
use Rattle.fbc_kinds.specs.declared.pages.Page.{Page}
use Rattle.fbc_kinds.specs.declared.pages.State.{State}
use Rattle.fbc_kinds.specs.declared.shapes.Shape.{Shape}
use Rattle.fbc_kinds.specs.View.{View}
use Rattle.fbc_world.specs.declared.events.Act.TheVariants.{Local}
use Rattle.fbc_world.specs.declared.events.LocalEvent.TheVariants as local
use Rattle.fbc_world.specs.History.{History, happens}
use Rattle.fbc_world.specs.World.{World, page_after, world_of}
use Rattle.fbc_legal.specs.Legal.{IsLegal}
use Rattle.fbc_legal.specs.Scene.{scene_of}
use Rattle.fbc_closed_cuts.specs.Cut.{Cut, IsClosedCut, view}
use Rattle.fbc_closed_cuts.specs.Upheld.{IsUpheld}
use Rattle.fbc_closed_cuts.specs.Views.{drafted_in}
use Rattle.fbc_numbers.specs.Numbers.{CommitsGrow, IsWithinCut, OpensAreUncommitted, is_committed_in}
use Rattle.fbc_numbers.proofs.CutFacts.{clash}
use Rattle.fbc_numbers.proofs.EditCommits.{committed_by, mark_of, stays-committed, with-closed, with-page, without-closed, without-page}

-- Before the first event each view is the file.
pub grow-start : (shape : Shape) (file : View) → CommitsGrow (world_of shape file [])
grow-start shape file cut wider number closed wide_closed within is = subst (λ (v : View). is_committed_in v number ≡ true) (fun_ext (λ page. go (cut page) (wider page) page)) is where
  go : (b c : Bool) (page : ℕ) → (if b then file page else file page) ≡ (if c then file page else file page)
  go true true page = refl
  go true false page = refl
  go false true page = refl
  go false false page = refl

still_more : (mark : Option State) (a b : Bool) → (a ≡ true → b ≡ true) → committed_by mark a ≡ true → committed_by mark b ≡ true
still_more None a b more is = more is
still_more (Some state) a b more is = is

both : (a b c : Bool) → (a ≡ true → b ≡ true) → (a && c) ≡ true → (b && c) ≡ true
both true b c more is = rw (more refl) is
both false b c more is = absurd cc

module _ (shape : Shape) (file : View) (before : History) (owner page : ℕ) (e : Edit) (landed : Bool) (legal : IsLegal shape file (happens owner (Local (local.Edit page e)) landed ∷ before)) (u : IsUpheld (scene_of shape file before))
    (grow : CommitsGrow (world_of shape file before)) (uncommitted : OpensAreUncommitted (world_of shape file before)) (content : Page) (is : page_after shape (world_of shape file before) owner page e ≡ Some content) where
  abbrev w : World
  w = world_of shape file before

  abbrev after : World
  after = world_of shape file (happens owner (Local (local.Edit page e)) landed ∷ before)

  module _ (cut wider : Cut) (number : ℕ) (closed : IsClosedCut after cut) (wide_closed : IsClosedCut after wider) (within : IsWithinCut cut wider) (committed : is_committed_in (view after cut) number ≡ true) where
    more : IsClosedCut w (drafted_in w cut) → IsClosedCut w (drafted_in w wider) → is_committed_in (view w (drafted_in w cut)) number ≡ true → is_committed_in (view w (drafted_in w wider)) number ≡ true
    more c d was = grow (drafted_in w cut) (drafted_in w wider) number c d (λ p. both (cut p) (wider p) (is_some (w.draft p)) (within p)) was

    by : (b : Bool) → cut page ≡ b → (c : Bool) → wider page ≡ c → is_committed_in (view after wider) number ≡ true
    by true in_cut true in_wider =
        with-page shape file before owner page e landed legal u grow uncommitted content is wider wide_closed in_wider number
        ∙ still_more (mark_of e number) _ _
        (more (with-closed shape file before owner page e landed legal u grow uncommitted content is cut closed in_cut) (with-closed shape file before owner page e landed legal u grow uncommitted content is wider wide_closed in_wider))
        (sym (with-page shape file before owner page e landed legal u grow uncommitted content is cut closed in_cut number) ∙ committed)
    by true in_cut false out = absurd (clash (wider page) (within page in_cut) out)
    by false out true in_wider =
        let c = without-closed shape file before owner page e landed legal u grow uncommitted content is cut closed out in
        let was = sym (without-page shape file before owner page e landed legal u grow uncommitted content is cut closed out number) ∙ committed in
        let now = more c (with-closed shape file before owner page e landed legal u grow uncommitted content is wider wide_closed in_wider) was in
        with-page shape file before owner page e landed legal u grow uncommitted content is wider wide_closed in_wider number ∙ ap (committed_by (mark_of e number)) now
        ∙ stays-committed shape file before owner page e landed legal u grow uncommitted content is (drafted_in w cut) c number was
    by false out false out_wider =
        without-page shape file before owner page e landed legal u grow uncommitted content is wider wide_closed out_wider number
        ∙ more (without-closed shape file before owner page e landed legal u grow uncommitted content is cut closed out) (without-closed shape file before owner page e landed legal u grow uncommitted content is wider wide_closed out_wider)
        (sym (without-page shape file before owner page e landed legal u grow uncommitted content is cut closed out number) ∙ committed)

  pub edits-grow : CommitsGrow after
  edits-grow cut wider number closed wide_closed within committed = by cut wider number closed wide_closed within committed (cut page) refl (wider page) refl
