-- Who has a draft is alive, has the page in EX and uses the draft, after each event.
use Rattle.std.proofs.Common.{◌≡◌, ℕ, Bool, true, false, ◌==◌, ◌&&◌, if◌then◌else◌, Option, Some, None, is_some, refl, arith}
use Rattle.std.proofs.lemmas.Bool.Decides.{nat_tests}
use Rattle.fbc_kinds.specs.declared.edits.Edit.{Edit}
use Rattle.fbc_kinds.specs.declared.pages.Page.{Page}
use Rattle.fbc_levels.specs.declared.levels.Level.{Level}
use Rattle.fbc_levels.specs.declared.levels.Level.TheVariants.{Ex, Free}
use Rattle.fbc_levels.specs.declared.resources.Resource.{Resource}
use Rattle.fbc_levels.specs.declared.resources.Series.{Series}
use Rattle.fbc_levels.specs.declared.resources.Series.TheVariants as series
use Rattle.fbc_levels.specs.Resources.{is_same_resource, page_resource}
use Rattle.fbc_lock_table.proofs.Ways.{same_resource}
use Rattle.fbc_world.specs.declared.drafts.Draft.{Draft}
use Rattle.fbc_world.specs.declared.events.Act.{Act}
use Rattle.fbc_world.specs.declared.events.Act.TheVariants.{Die, Enter, Grant, Leave, Local, Lower, Opened, Read, Reap, Write}
use Rattle.fbc_world.specs.declared.events.LocalEvent.TheVariants as local
use Rattle.fbc_world.specs.Holdings.{is_draft_of}
use Rattle.fbc_world.specs.Locks.{waiting_of}
use Rattle.fbc_world.specs.PageCell.{without}
use Rattle.fbc_world.specs.World.{World, acted, page_after, with_edit}
use Rattle.fbc_legal.specs.Coherent.{DraftsAreHeld, IsCoherent, IsDraftHeld}
use Rattle.fbc_legal.specs.Guards.{Guard, GuardOfSeriesLowering}
use Rattle.fbc_legal.specs.Legal.{MayAct}
use Rattle.fbc_legal.specs.Scene.{Scene}
use Rattle.fbc_legal.proofs.Exclusion.{AreRequestsTrue, both_of, is_plain, same_number, waits_bare}

-- One draft, whose facts are known, after an event.
module _ (at : Scene) (h : IsCoherent at.world) (t : AreRequestsTrue at.world) (owner : ℕ) (landed : Bool) where
  abbrev w : World
  w = at.world

  abbrev Stays : Act → ℕ → Option Draft → Type 0
  Stays act page draft = IsDraftHeld w page draft → IsDraftHeld (acted at.shape w owner act landed) page draft

  opened : (locks page : ℕ) (draft : Option Draft) → ((o : ℕ) → w.is_alive o ≡ false) → Stays (Opened locks) page draft
  opened locks page None g held = tt
  opened locks page (Some d) g held = absurd (grind (arith, g d.owner, held.0))

  enter : (buffers name page : ℕ) (draft : Option Draft) → Stays (Enter buffers name) page draft
  enter buffers name page None held = tt
  enter buffers name page (Some d) held = grind (arith, nat_tests, held)

  leave : (page : ℕ) (draft : Option Draft) → (is_draft_of owner draft ≡ true → ⊥) → Stays Leave page draft
  leave page None g held = tt
  leave page (Some d) g held = grind (arith, nat_tests, g, held)

  die : (page : ℕ) (draft : Option Draft) → IsDraftHeld w page draft → IsDraftHeld (acted at.shape w owner Die landed) page (without owner draft)
  die page None held = tt
  die page (Some d) held = grind (arith, nat_tests, held)

  grant : (r : Resource) (level : Level) (page : ℕ) (draft : Option Draft) → waiting_of w.locks owner r ≡ Some level → Stays (Grant r level) page draft
  grant r level page None waits held = tt
  grant r level page (Some d) waits held = go ((d.owner == owner) && is_same_resource r (page_resource page)) refl where
    not_granted : (d.owner == owner) && is_same_resource r (page_resource page) ≡ true → ⊥
    not_granted key =
        let keys = both_of (d.owner == owner) (is_same_resource r (page_resource page)) key in
        let bare : w.granted owner (page_resource page) ≡ Free = waits_bare w h t owner page level (rw (← same_resource r (page_resource page) keys.1) waits) in
        grind (arith, bare, held.1, same_number d.owner owner keys.0)

    go : (b : Bool) → (d.owner == owner) && is_same_resource r (page_resource page) ≡ b → IsDraftHeld (acted at.shape w owner (Grant r level) landed) page (Some d)
    go true key = absurd (not_granted key)
    go false key = grind (arith, key, held)

  lower : (kind : Series) (number : ℕ) (level : Level) (page : ℕ) → GuardOfSeriesLowering at owner kind number level
      → (draft : Option Draft) → w.draft page ≡ draft → Stays (Lower (record { series = kind; key = number }) level) page draft
  lower kind number level page g None is held = tt
  lower series.Page number level page g (Some d) is held = grind (arith, nat_tests, is, g.clean, held)
  lower _ number level page g (Some d) is held = grind (arith, held)

  reap : (dead page : ℕ) (draft : Option Draft) → w.is_alive dead ≡ false → IsDraftHeld w page draft → IsDraftHeld (record w { granted = λ o r. if o == dead then Free else w.granted o r }) page draft
  reap dead page None gone held = tt
  reap dead page (Some d) gone held = grind (arith, nat_tests, gone, held)

  read : (page p : ℕ) (fault : Bool) (draft : Option Draft) → w.copy owner page ≡ None → Stays (Read page fault) p draft
  read page p fault None none held = tt
  read page p fault (Some d) none held = grind (arith, nat_tests, none, held)

  write : (page p : ℕ) (draft : Option Draft) → IsDraftHeld w p draft → IsDraftHeld w p (if p == page then without owner draft else draft)
  write page p None held = grind (arith)
  write page p (Some d) held = grind (arith, nat_tests, held)

  edit : (page : ℕ) (e : Edit) (after : Option Page) → is_some after ≡ true → w.is_alive owner ≡ true → w.granted owner (page_resource page) ≡ Ex
      → DraftsAreHeld (with_edit w owner page e after)
  edit page e None fits alive exclusive p = absurd cc
  edit page e (Some content) fits alive exclusive p = go (p == page) refl (w.draft p) (h.drafts p) where
    go : (b : Bool) → p == page ≡ b → (draft : Option Draft) → IsDraftHeld w p draft
        → IsDraftHeld (with_edit w owner page e (Some content)) p (if b then Some (record { owner = owner; content = content }) else draft)
    go true key draft held = grind (arith, nat_tests, key, alive, exclusive)
    go false key None held = tt
    go false key (Some d) held = grind (arith, nat_tests, key, held)

  pub drafts-acted : (act : Act) → MayAct at owner act → Guard at owner act → is_plain act ≡ true → DraftsAreHeld (acted at.shape w owner act landed)
  drafts-acted (Opened locks) may g plain = λ p. opened locks p (w.draft p) g.none_alive (h.drafts p)
  drafts-acted (Enter buffers name) may g plain = λ p. enter buffers name p (w.draft p) (h.drafts p)
  drafts-acted Leave may g plain = λ p. leave p (w.draft p) (g.drafts p) (h.drafts p)
  drafts-acted Die may g plain = λ p. die p (w.draft p) (h.drafts p)
  drafts-acted (Grant r level) may g plain = λ p. grant r level p (w.draft p) g.wanted (h.drafts p)
  drafts-acted (Lower r level) may g plain = λ p. lower r.series r.key level p g.by_series (w.draft p) refl (h.drafts p)
  drafts-acted (Reap dead by) may g plain = λ p. reap dead p (w.draft p) g.is_dead (h.drafts p)
  drafts-acted (Read page fault) may g plain = λ p. read page p fault (w.draft p) g.none (h.drafts p)
  drafts-acted (Write page reason true) may g plain = absurd cc
  drafts-acted (Write page reason false) may g plain = λ p. write page p (w.draft p) (h.drafts p)
  drafts-acted (Local (local.Edit page e)) may g plain = edit page e (page_after at.shape w owner page e) g.fits may g.exclusive
  drafts-acted (Local (local.Before high low)) may g plain = h.drafts
  drafts-acted (Local (local.Pin page)) may g plain = h.drafts
  drafts-acted (Local (local.Unpin page)) may g plain = h.drafts
  drafts-acted _ may g plain = h.drafts
