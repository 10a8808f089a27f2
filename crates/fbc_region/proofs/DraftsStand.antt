-- After a legal history each draft stands under its page's number, where what is kept there does.
use Rattle.std.proofs.Common.{◌≡◌, ℕ, Bool, true, false, ◌==◌, if◌then◌else◌, [], ◌∷◌, Option, Some, None, is_some, sym, subst, refl, arith}
use Rattle.std.proofs.lemmas.Bool.Decides.{nat_tests}
use Rattle.fbc_kinds.specs.declared.edits.Edit.{Edit}
use Rattle.fbc_kinds.specs.declared.edits.Edit.TheVariants as edit
use Rattle.fbc_kinds.specs.declared.pages.Page.{Page}
use Rattle.fbc_kinds.specs.declared.shapes.Shape.{Shape}
use Rattle.fbc_kinds.specs.View.{View}
use Rattle.fbc_world.specs.declared.drafts.Draft.{Draft}
use Rattle.fbc_world.specs.declared.events.Act.{Act}
use Rattle.fbc_world.specs.declared.events.Act.TheVariants.{Die, Local, Write}
use Rattle.fbc_world.specs.declared.events.LocalEvent.TheVariants as local
use Rattle.fbc_world.specs.History.{History}
use Rattle.fbc_world.specs.Holdings.{is_draft_of}
use Rattle.fbc_world.specs.PageCell.{drafted, newest_in, page_for, without}
use Rattle.fbc_world.specs.World.{World, acted, page_after, world_of}
use Rattle.fbc_legal.specs.Guards.{Guard, GuardOfEdit, HasBase}
use Rattle.fbc_legal.specs.Legal.{IsLegal}
use Rattle.fbc_legal.specs.Scene.{Scene, scene_of}
use Rattle.fbc_region.proofs.Standing.{CarriesNumber, Stands, edited_stands}

-- Where what is kept stands, so does the newest content.
abbrev pub DraftStands : ℕ → Option Page → Option Draft → Type 0
DraftStands number kept draft = Stands number kept → Stands number (newest_in kept draft)

-- And what an owner has.
pub own_stands : (number owner : ℕ) (kept : Option Page) (draft : Option Draft) → DraftStands number kept draft → Stands number kept → Stands number (page_for owner kept draft)
own_stands number owner kept None stands here = here
own_stands number owner kept (Some draft) stands here = go (draft.owner == owner) where
  go : (b : Bool) → Stands number (if b then Some draft.content else kept)
  go true = stands here
  go false = here

stands_without : (number owner : ℕ) (kept : Option Page) (draft : Option Draft) → DraftStands number kept draft → DraftStands number kept (without owner draft)
stands_without number owner kept None stands = stands
stands_without number owner kept (Some draft) stands = go (draft.owner == owner) where
  go : (b : Bool) → DraftStands number kept (if b then None else Some draft)
  go true = λ here. here
  go false = stands

stands_written : (number owner : ℕ) (kept : Option Page) (draft : Option Draft) → is_draft_of owner draft ≡ true → DraftStands number (page_for owner kept draft) (without owner draft)
stands_written number owner kept None its = absurd cc
stands_written number owner kept (Some draft) its = rw its (λ here. here)

module _ (at : Scene) (number : ℕ) (stands : DraftStands number (at.world.kept number) (at.world.draft number)) (actor : ℕ) where
  abbrev w : World
  w = at.world

  carries : (e : Edit) → HasBase at actor number e → CarriesNumber at.shape number e
  carries (edit.Format page_kind page relation sequence) base = base
  carries (edit.SetNext next) base = tt
  carries _ base = tt

  by_edit : (e : Edit) → GuardOfEdit at actor number e → DraftStands number (w.kept number) (drafted actor (w.draft number) (page_after at.shape w actor number e))
  by_edit e g here = go (page_after at.shape w actor number e) refl g.fits where
    go : (after : Option Page) → page_after at.shape w actor number e ≡ after → is_some after ≡ true → Stands number (newest_in (w.kept number) (drafted actor (w.draft number) after))
    go None is fits = absurd cc
    go (Some content) is fits = edited_stands at.shape number e (page_for actor (w.kept number) (w.draft number)) content (carries e g.base) (own_stands number actor (w.kept number) (w.draft number) stands here) is

  edits : (page : ℕ) (e : Edit) → GuardOfEdit at actor page e → DraftStands number (w.kept number) (if number == page then drafted actor (w.draft number) (page_after at.shape w actor page e) else w.draft number)
  edits page e g = go (number == page) refl where
    go : (b : Bool) → number == page ≡ b → DraftStands number (w.kept number) (if b then drafted actor (w.draft number) (page_after at.shape w actor page e) else w.draft number)
    go true is =
        subst (λ p. GuardOfEdit at actor p e → DraftStands number (w.kept number) (drafted actor (w.draft number) (page_after at.shape w actor p e))) (grind (arith, nat_tests, is)) (by_edit e) g
    go false is = stands

  writes : (page : ℕ) → is_draft_of actor (w.draft page) ≡ true
      → DraftStands number (if number == page then page_for actor (w.kept number) (w.draft number) else w.kept number) (if number == page then without actor (w.draft number) else w.draft number)
  writes page its = go (number == page) refl where
    go : (b : Bool) → number == page ≡ b → DraftStands number (if b then page_for actor (w.kept number) (w.draft number) else w.kept number) (if b then without actor (w.draft number) else w.draft number)
    go true is = stands_written number actor (w.kept number) (w.draft number) (subst (λ p. is_draft_of actor (w.draft p) ≡ true) (sym (grind (arith, nat_tests, is))) its)
    go false is = stands

  pub stands_acted : (act : Act) (landed : Bool) → Guard at actor act → DraftStands number ((acted at.shape w actor act landed).kept number) ((acted at.shape w actor act landed).draft number)
  stands_acted Die landed g = stands_without number actor (w.kept number) (w.draft number) stands
  stands_acted (Write page reason true) true g =
      stands_without number actor (if number == page then page_for actor (w.kept number) (w.draft number) else w.kept number) (if number == page then without actor (w.draft number) else w.draft number) (writes page g.drafted)
  stands_acted (Write page reason true) false g = stands_without number actor (w.kept number) (w.draft number) stands
  stands_acted (Write page reason false) landed g = writes page g.drafted
  stands_acted (Local (local.Edit page e)) landed g = edits page e g
  stands_acted (Local (local.Before high low)) landed g = stands
  stands_acted (Local (local.Pin page)) landed g = stands
  stands_acted (Local (local.Unpin page)) landed g = stands
  stands_acted _ landed g = stands

pub stands_legal : (shape : Shape) (file : View) (history : History) → IsLegal shape file history → (number : ℕ) → DraftStands number ((world_of shape file history).kept number) ((world_of shape file history).draft number)
stands_legal shape file [] legal number = λ here. here
stands_legal shape file (moment ∷ before) legal number =
    stands_acted (scene_of shape file before) number (stands_legal shape file before legal.0 number) moment.event.actor moment.event.act moment.landed legal.1.guard
