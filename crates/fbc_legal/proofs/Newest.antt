-- What an owner may use of a page is the newest content of it, after each event.
use Rattle.std.proofs.Common.{◌≡◌, ◌≢◌, ℕ, Bool, true, false, ◌==◌, ◌&&◌, if◌then◌else◌, Option, Some, None, is_some, refl, sym, arith}
use Rattle.std.proofs.lemmas.Bool.Decides.{nat_tests}
use Rattle.fbc_kinds.specs.declared.edits.Edit.{Edit}
use Rattle.fbc_kinds.specs.declared.pages.Page.{Page}
use Rattle.fbc_levels.specs.declared.levels.Level.TheVariants.{Ex}
use Rattle.fbc_world.specs.declared.drafts.Draft.{Draft}
use Rattle.fbc_world.specs.declared.events.Act.{Act}
use Rattle.fbc_world.specs.declared.events.Act.TheVariants.{Die, Local, Lower, Read, Write}
use Rattle.fbc_world.specs.declared.events.LocalEvent.TheVariants as local
use Rattle.fbc_levels.specs.Resources.{page_resource}
use Rattle.fbc_world.specs.PageCell.{newest_in, page_for, without}
use Rattle.fbc_world.specs.World.{World, acted, newest_of, page_after, with_edit}
use Rattle.fbc_legal.specs.Coherent.{CopiesAreNewest, IsCoherent, IsDraftHeld, IsNewest}
use Rattle.fbc_levels.specs.Levels.{is_page_level}
use Rattle.fbc_legal.specs.Guards.{Guard}
use Rattle.fbc_legal.specs.Scene.{Scene}
use Rattle.fbc_legal.proofs.Exclusion.{is_plain, no_other_copy, same_number, undrafted, usable}

-- What is kept is the newest content where there is no draft.
kept_newest : (kept : Option Page) (draft : Option Draft) → draft ≡ None → IsNewest kept (newest_in kept draft)
kept_newest None draft none = tt
kept_newest (Some content) draft none = rw none refl

-- A write leaves the newest content.
written_newest : (owner : ℕ) (kept : Option Page) (draft : Option Draft) → newest_in (page_for owner kept draft) (without owner draft) ≡ newest_in kept draft
written_newest owner kept None = refl
written_newest owner kept (Some d) = go (d.owner == owner) where
  go : (b : Bool) → newest_in (if b then Some d.content else kept) (if b then None else Some d) ≡ Some d.content
  go true = refl
  go false = refl

module _ (at : Scene) (h : IsCoherent at.world) (owner : ℕ) (landed : Bool) where
  abbrev w : World
  w = at.world

  read : (page : ℕ) (fault : Bool) → is_page_level (w.granted owner (page_resource page)) ≡ true → w.copy owner page ≡ None → CopiesAreNewest (acted at.shape w owner (Read page fault) landed)
  read page fault may none o p = go ((o == owner) && (p == page)) refl fault where
    go : (b : Bool) → (o == owner) && (p == page) ≡ b → (f : Bool) → IsNewest (if b then (if f then None else w.kept p) else w.copy o p) (newest_of w p)
    go true key true = tt
    go true key false = kept_newest (w.kept p) (w.draft p) (grind (arith, nat_tests, key, undrafted w h owner page may none))
    go false key f = h.newest o p

  write : (page o p : ℕ) → IsNewest (w.copy o p) (newest_in (if p == page then page_for owner (w.kept p) (w.draft p) else w.kept p) (if p == page then without owner (w.draft p) else w.draft p))
  write page o p = go (p == page) where
    go : (b : Bool) → IsNewest (w.copy o p) (newest_in (if b then page_for owner (w.kept p) (w.draft p) else w.kept p) (if b then without owner (w.draft p) else w.draft p))
    go true = rw (written_newest owner (w.kept p) (w.draft p)) (h.newest o p)
    go false = h.newest o p

  was : (o p : ℕ) (draft : Option Draft) → w.draft p ≡ draft → IsNewest (w.copy o p) (newest_in (w.kept p) draft)
  was o p draft is = rw (← is) (h.newest o p)

  -- A draft is lost with its owner; nobody else had a copy of that page.
  pub newest-died : CopiesAreNewest (acted at.shape w owner Die landed)
  newest-died o p = go (o == owner) refl (w.draft p) refl (h.drafts p) where
    go : (b : Bool) → o == owner ≡ b → (draft : Option Draft) → w.draft p ≡ draft → IsDraftHeld w p draft → IsNewest (if b then None else w.copy o p) (newest_in (w.kept p) (without owner draft))
    go true key draft is held = tt
    go false key None is held = was o p None is
    go false key (Some d) is held = lost (d.owner == owner) refl where
      other : d.owner == owner ≡ true → o ≢ d.owner
      other same = grind (arith, nat_tests, key, same)

      lost : (c : Bool) → d.owner == owner ≡ c → IsNewest (w.copy o p) (newest_in (w.kept p) (if c then None else Some d))
      lost true same = rw (no_other_copy w h d.owner o p (λ e. other same (sym e)) held.1) tt
      lost false same = was o p (Some d) is

  edit : (page : ℕ) (e : Edit) (after : Option Page) → is_some after ≡ true → w.granted owner (page_resource page) ≡ Ex → CopiesAreNewest (with_edit w owner page e after)
  edit page e None fits exclusive o p = absurd cc
  edit page e (Some content) fits exclusive o p = go (p == page) refl (o == owner) refl where
    go : (b : Bool) → p == page ≡ b → (c : Bool) → o == owner ≡ c
        → IsNewest (if c && b then Some content else w.copy o p) (newest_in (w.kept p) (if b then Some (record { owner = owner; content = content }) else w.draft p))
    go true key true own = refl
    go true key false own = rw (no_other_copy w h owner o p (λ e. grind (arith, nat_tests, own, e)) (rw (same_number p page key) exclusive)) tt
    go false key true own = h.newest o p
    go false key false own = h.newest o p

  pub newest-acted : (act : Act) → Guard at owner act → is_plain act ≡ true → CopiesAreNewest (acted at.shape w owner act landed)
  newest-acted Die g plain = newest-died
  newest-acted (Lower r level) g plain = λ o p. grind (arith, h.newest o p)
  newest-acted (Read page fault) g plain = read page fault (usable (w.granted owner (page_resource page)) g.held) g.none
  newest-acted (Write page reason true) g plain = absurd cc
  newest-acted (Write page reason false) g plain = write page
  newest-acted (Local (local.Edit page e)) g plain = edit page e (page_after at.shape w owner page e) g.fits g.exclusive
  newest-acted (Local (local.Before high low)) g plain = h.newest
  newest-acted (Local (local.Pin page)) g plain = h.newest
  newest-acted (Local (local.Unpin page)) g plain = h.newest
  newest-acted _ g plain = h.newest
