-- What holds between a page and itself, and is kept by each edit of the newer one, holds between what is kept and what is
-- newest.
use Rattle.std.proofs.Common.{◌≡◌, ℕ, Bool, true, false, ◌==◌, if◌then◌else◌, Option, Some, None, is_some, refl, subst}
use Rattle.fbc_kinds.specs.declared.edits.Edit.{Edit}
use Rattle.fbc_kinds.specs.declared.pages.Page.{Page}
use Rattle.fbc_world.specs.declared.drafts.Draft.{Draft}
use Rattle.fbc_world.specs.declared.events.Act.{Act}
use Rattle.fbc_world.specs.declared.events.Act.TheVariants.{Die, Local, Write}
use Rattle.fbc_world.specs.declared.events.LocalEvent.TheVariants as local
use Rattle.fbc_world.specs.Holdings.{is_draft_of}
use Rattle.fbc_world.specs.PageCell.{drafted, newest_in, page_for, without}
use Rattle.fbc_world.specs.World.{World, acted, newest_of, page_after, written}
use Rattle.fbc_legal.specs.Guards.{Guard, GuardOfEdit}
use Rattle.fbc_legal.specs.Scene.{Scene}
use Rattle.fbc_legal.proofs.Exclusion.{same_number}

module _ (R : Option Page → Option Page → Type 0) (reflexive : (page : Option Page) → R page page) where
  lost : (owner : ℕ) (kept : Option Page) (draft : Option Draft) → R kept (newest_in kept draft) → R kept (newest_in kept (without owner draft))
  lost owner kept None r = r
  lost owner kept (Some draft) r = go (draft.owner == owner) where
    go : (b : Bool) → R kept (newest_in kept (if b then None else Some draft))
    go true = reflexive kept
    go false = r

  in_file : (owner : ℕ) (kept : Option Page) (draft : Option Draft) → is_draft_of owner draft ≡ true → R (page_for owner kept draft) (newest_in (page_for owner kept draft) (without owner draft))
  in_file owner kept None its = absurd cc
  in_file owner kept (Some draft) its = rw its (reflexive (Some draft.content))

  module _ (at : Scene) (owner number : ℕ) where
    abbrev w : World
    w = at.world

    -- What holds of the page's kept and newest content.
    abbrev pub Holds : World → Type 0
    Holds world = R (world.kept number) (newest_of world number)

    -- Each edit of the page keeps it.
    abbrev pub EditsKeep : Type 0
    EditsKeep = (e : Edit) → GuardOfEdit at owner number e → (content : Page) → page_after at.shape w owner number e ≡ Some content → Holds w → R (w.kept number) (Some content)

    wrote : (page : ℕ) → is_draft_of owner (w.draft page) ≡ true → Holds w → Holds (written w owner page)
    wrote page its r = go (number == page) refl where
      go : (b : Bool) → number == page ≡ b
          → R (if b then page_for owner (w.kept number) (w.draft number) else w.kept number) (newest_in (if b then page_for owner (w.kept number) (w.draft number) else w.kept number) (if b then without owner (w.draft number) else w.draft number))
      go true same = in_file owner (w.kept number) (w.draft number) (rw (same_number number page same) its)
      go false other = r

    edited_to : (e : Edit) → GuardOfEdit at owner number e → EditsKeep → (after : Option Page) → page_after at.shape w owner number e ≡ after → is_some after ≡ true → Holds w
        → R (w.kept number) (newest_in (w.kept number) (drafted owner (w.draft number) after))
    edited_to e g keep None is fits r = absurd cc
    edited_to e g keep (Some content) is fits r = keep e g content is r

    edit : (page : ℕ) (e : Edit) → GuardOfEdit at owner page e → EditsKeep → Holds w → (b : Bool) → number == page ≡ b
        → R (w.kept number) (newest_in (w.kept number) (if b then drafted owner (w.draft number) (page_after at.shape w owner page e) else w.draft number))
    edit page e g keep r true same =
        subst (λ p. GuardOfEdit at owner p e → R (w.kept number) (newest_in (w.kept number) (drafted owner (w.draft number) (page_after at.shape w owner p e)))) (same_number number page same)
        (λ guard. edited_to e guard keep (page_after at.shape w owner number e) refl guard.fits r) g
    edit page e g keep r false other = r

    pub lineage-acted : (act : Act) (landed : Bool) → Guard at owner act → EditsKeep → Holds w → Holds (acted at.shape w owner act landed)
    lineage-acted Die landed g keep r = lost owner (w.kept number) (w.draft number) r
    lineage-acted (Write page reason true) true g keep r = lost owner ((written w owner page).kept number) ((written w owner page).draft number) (wrote page g.drafted r)
    lineage-acted (Write page reason true) false g keep r = lost owner (w.kept number) (w.draft number) r
    lineage-acted (Write page reason false) landed g keep r = wrote page g.drafted r
    lineage-acted (Local (local.Edit page e)) landed g keep r = edit page e g keep r (number == page) refl
    lineage-acted (Local (local.Before high low)) landed g keep r = r
    lineage-acted (Local (local.Pin page)) landed g keep r = r
    lineage-acted (Local (local.Unpin page)) landed g keep r = r
    lineage-acted _ landed g keep r = r
