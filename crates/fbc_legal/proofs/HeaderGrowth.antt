-- What the file's header says of ranks, the newest header says of the same or higher ones, after each event.
use Rattle.std.proofs.Common.{◌≡◌, inr, subst, ℕ, Bool, true, false, ◌==◌, if◌then◌else◌, Option, Some, None, is_some, refl, arith}
use Rattle.std.proofs.lemmas.Bool.Decides.{nat_tests}
use Rattle.fbc_kinds.specs.declared.edits.Edit.{Edit}
use Rattle.fbc_kinds.specs.declared.edits.Edit.TheVariants as edit
use Rattle.fbc_kinds.specs.declared.pages.Page.{Page}
use Rattle.fbc_kinds.specs.View.{header_in}
use Rattle.fbc_levels.specs.declared.levels.Level.TheVariants.{Ex}
use Rattle.fbc_world.specs.declared.drafts.Draft.{Draft}
use Rattle.fbc_world.specs.declared.events.Act.{Act}
use Rattle.fbc_world.specs.declared.events.Act.TheVariants.{Die, Local, Write}
use Rattle.fbc_world.specs.declared.events.LocalEvent.TheVariants as local
use Rattle.fbc_world.specs.Holdings.{is_draft_of}
use Rattle.fbc_levels.specs.Resources.{page_resource}
use Rattle.fbc_world.specs.PageCell.{drafted, newest_in, page_for, without}
use Rattle.fbc_world.specs.World.{World, acted, page_after, written}
use Rattle.fbc_legal.specs.Guards.{Guard, GuardOfEdit}
use Rattle.fbc_legal.specs.Ranks.{rank_in}
use Rattle.fbc_legal.specs.Rows.{IsEditOfRow}
use Rattle.fbc_legal.specs.Scene.{Scene}
use Rattle.fbc_legal.proofs.EditRanks.{ranks_rise-edited}
use Rattle.fbc_legal.proofs.HeaderRanks.{is_format}
use Rattle.fbc_legal.proofs.RankOrder.{IsAtMost, at_most-self, at_most-trans}
use Rattle.fbc_legal.specs.Coherent.{IsCoherent}
use Rattle.fbc_legal.proofs.Exclusion.{IsOwnDraft, own_draft, usable}

-- The ranks by what is kept of page 0 are at most those by its newest content.
abbrev pub Grows : ℕ → Option Page → Option Draft → Type 0
Grows size kept draft = (page : ℕ) → IsAtMost (rank_in size (header_in kept) page) (rank_in size (header_in (newest_in kept draft)) page)

abbrev pub RanksGrow : ℕ → World → Type 0
RanksGrow size w = Grows size (w.kept 0) (w.draft 0)

-- An own draft is the newest content.
pub newest-own : (owner : ℕ) (kept : Option Page) (draft : Option Draft) → IsOwnDraft owner draft → newest_in kept draft ≡ page_for owner kept draft
newest-own owner kept None own = refl
newest-own owner kept (Some draft) own = grind (arith, nat_tests, own)

pub own_from : (owner : ℕ) (draft : Option Draft) → is_draft_of owner draft ≡ true → IsOwnDraft owner draft
own_from owner None is = absurd cc
own_from owner (Some draft) is = grind (arith, nat_tests, is)

-- The draft of a page that an owner has in EX is its own.
pub exclusive-own : (w : World) → IsCoherent w → (owner page : ℕ) → w.granted owner (page_resource page) ≡ Ex → IsOwnDraft owner (w.draft page)
exclusive-own w x owner page is = own_draft w x owner page (usable _ (inr is))

-- Page 0 is never formatted.
pub never_format : (at : Scene) (owner : ℕ) (e : Edit) → IsEditOfRow at owner 0 e → is_format e ≡ false
never_format at owner (edit.Format page_kind number relation sequence) g = absurd (g.no_header refl)
never_format at owner _ g = refl

module _ (size : ℕ) where
  grows-without : (owner : ℕ) (kept : Option Page) (draft : Option Draft) → Grows size kept draft → Grows size kept (without owner draft)
  grows-without owner kept None h = h
  grows-without owner kept (Some draft) h = go (draft.owner == owner) where
    go : (b : Bool) → Grows size kept (if b then None else Some draft)
    go true page = at_most-self _
    go false page = h page

  -- An own draft that is written is newest and kept.
  grows-written : (owner : ℕ) (kept : Option Page) (draft : Option Draft) → is_draft_of owner draft ≡ true → Grows size (page_for owner kept draft) (without owner draft)
  grows-written owner kept None its = absurd cc
  grows-written owner kept (Some draft) its = rw its (λ page. at_most-self _)

module _ (at : Scene) (h : RanksGrow at.shape.size at.world) (x : IsCoherent at.world) (owner : ℕ) where
  abbrev w : World
  w = at.world

  grows-write : (page : ℕ) → is_draft_of owner (w.draft page) ≡ true → RanksGrow at.shape.size (written w owner page)
  grows-write page its = go (0 == page) refl where
    go : (b : Bool) → 0 == page ≡ b → Grows at.shape.size (if b then page_for owner (w.kept 0) (w.draft 0) else w.kept 0) (if b then without owner (w.draft 0) else w.draft 0)
    go true is = grows-written at.shape.size owner (w.kept 0) (w.draft 0) (subst (λ p. is_draft_of owner (w.draft p) ≡ true) (grind (arith, nat_tests, is)) its)
    go false is = h

  module _ (e : Edit) where
    grows_edit-zero : GuardOfEdit at owner 0 e → Grows at.shape.size (w.kept 0) (drafted owner (w.draft 0) (page_after at.shape w owner 0 e))
    grows_edit-zero g = go (page_after at.shape w owner 0 e) refl g.fits where
      go : (after : Option Page) → page_after at.shape w owner 0 e ≡ after → is_some after ≡ true → Grows at.shape.size (w.kept 0) (drafted owner (w.draft 0) after)
      go None is fits = absurd cc
      go (Some content) is fits = λ page.
          at_most-trans _ _ _ (rw (newest-own owner (w.kept 0) (w.draft 0) (exclusive-own at.world x owner 0 g.exclusive)) at (h page))
          (ranks_rise-edited at.shape at.shape.size page e (page_for owner (w.kept 0) (w.draft 0)) content (never_format at owner e g.row) is)

    grows-edit : (page : ℕ) → GuardOfEdit at owner page e → Grows at.shape.size (w.kept 0) (if 0 == page then drafted owner (w.draft 0) (page_after at.shape w owner page e) else w.draft 0)
    grows-edit page g = go (0 == page) refl where
      go : (b : Bool) → 0 == page ≡ b → Grows at.shape.size (w.kept 0) (if b then drafted owner (w.draft 0) (page_after at.shape w owner page e) else w.draft 0)
      go true is =
          subst (λ p. GuardOfEdit at owner p e → Grows at.shape.size (w.kept 0) (drafted owner (w.draft 0) (page_after at.shape w owner p e))) (grind (arith, nat_tests, is)) grows_edit-zero g
      go false is = h

  pub grows-acted : (act : Act) (landed : Bool) → Guard at owner act → RanksGrow at.shape.size (acted at.shape w owner act landed)
  grows-acted Die landed g = grows-without at.shape.size owner (w.kept 0) (w.draft 0) h
  grows-acted (Write page reason true) true g = grows-without at.shape.size owner ((written w owner page).kept 0) ((written w owner page).draft 0) (grows-write page g.drafted)
  grows-acted (Write page reason true) false g = grows-without at.shape.size owner (w.kept 0) (w.draft 0) h
  grows-acted (Write page reason false) landed g = grows-write page g.drafted
  grows-acted (Local (local.Edit page e)) landed g = grows-edit e page g
  grows-acted (Local (local.Before high low)) landed g = h
  grows-acted (Local (local.Pin page)) landed g = h
  grows-acted (Local (local.Unpin page)) landed g = h
  grows-acted _ landed g = h
