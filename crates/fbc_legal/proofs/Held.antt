-- Who has a copy may use the page, and who has a draft has the page in EX, after each event.
use Rattle.std.proofs.Common.{◌≡◌, ℕ, Bool, true, false, ◌==◌, ◌&&◌, if◌then◌else◌, Option, Some, None, refl, arith}
use Rattle.std.proofs.lemmas.Bool.Decides.{nat_tests}
use Rattle.fbc_kinds.specs.declared.pages.Page.{Page}
use Rattle.fbc_levels.specs.declared.levels.Level.{Level}
use Rattle.fbc_levels.specs.declared.levels.Level.TheVariants.{Ex}
use Rattle.fbc_levels.specs.declared.resources.Resource.{Resource}
use Rattle.fbc_levels.specs.declared.resources.Series.{Series}
use Rattle.fbc_levels.specs.declared.resources.Series.TheVariants as series
use Rattle.fbc_levels.specs.LockState.{request_of}
use Rattle.fbc_levels.specs.Resources.{is_same_resource, page_resource}
use Rattle.fbc_lock_table.proofs.Ways.{same_resource}
use Rattle.fbc_world.specs.declared.events.Act.{Act}
use Rattle.fbc_world.specs.declared.events.Act.TheVariants.{Die, Enter, Grant, Leave, Local, Lower, Opened, Read, Reap, Write}
use Rattle.fbc_world.specs.declared.events.LocalEvent.TheVariants as local
use Rattle.fbc_world.specs.Locks.{waiting_of}
use Rattle.fbc_world.specs.PageCell.{recopied}
use Rattle.fbc_world.specs.World.{World, acted, page_after}
use Rattle.fbc_legal.specs.Coherent.{CopiesAreHeld, IsCoherent, IsCopyHeld}
use Rattle.fbc_levels.specs.Levels.{is_page_level}
use Rattle.fbc_legal.specs.Guards.{Guard, GuardOfSeriesLowering}
use Rattle.fbc_legal.specs.Legal.{MayAct}
use Rattle.fbc_legal.specs.Scene.{Scene}
use Rattle.fbc_legal.proofs.Lowering.{lowered_to_use}
use Rattle.fbc_legal.proofs.Exclusion.{AreRequestsTrue, both_of, is_plain, no_copy, same_number, usable, waits_bare}

module _ (at : Scene) (h : IsCoherent at.world) (t : AreRequestsTrue at.world) (owner : ℕ) (landed : Bool) where
  abbrev w : World
  w = at.world

  -- Who has no request for a page has no copy of it.
  unasked : (page : ℕ) → request_of w.locks owner (page_resource page) ≡ None → w.copy owner page ≡ None
  unasked page none = no_copy w h owner page (rw (← t.agrees owner (page_resource page), none) refl)

  -- Who waits for a page has no copy of it.
  grant_held : (r : Resource) (level : Level) → waiting_of w.locks owner r ≡ Some level → CopiesAreHeld (acted at.shape w owner (Grant r level) landed)
  grant_held r level waits o p = go ((o == owner) && is_same_resource r (page_resource p)) refl where
    none : (o == owner) && is_same_resource r (page_resource p) ≡ true → w.copy o p ≡ None
    none key =
        let keys = both_of (o == owner) (is_same_resource r (page_resource p)) key in
        rw (same_number o owner keys.0) (no_copy w h owner p (rw (waits_bare w h t owner p level (rw (← same_resource r (page_resource p) keys.1) waits)) refl))

    go : (b : Bool) → (o == owner) && is_same_resource r (page_resource p) ≡ b → IsCopyHeld (acted at.shape w owner (Grant r level) landed) o p (w.copy o p)
    go true key = rw (none key) tt
    go false key = grind (arith, key, h.held o p)

  lower_held : (kind : Series) (number : ℕ) (level : Level) → GuardOfSeriesLowering at owner kind number level → CopiesAreHeld (acted at.shape w owner (Lower (record { series = kind; key = number }) level) landed)
  lower_held series.Page number level g o p = grind (arith, nat_tests, lowered_to_use at owner number level g.reason, h.held o p)
  lower_held _ number level g o p = grind (arith, h.held o p)

  edit_held : (page : ℕ) (after : Option Page) → w.is_alive owner ≡ true → w.granted owner (page_resource page) ≡ Ex
      → (o p : ℕ) → IsCopyHeld w o p (if (o == owner) && (p == page) then recopied (w.copy o p) after else w.copy o p)
  edit_held page after alive exclusive o p = go ((o == owner) && (p == page)) refl where
    own : (o == owner) && (p == page) ≡ true → (w.is_alive o ≡ true) × (is_page_level (w.granted o (page_resource p)) ≡ true)
    own key =
        let keys = both_of (o == owner) (p == page) key in
        rw (same_number o owner keys.0, same_number p page keys.1, exclusive) (alive, refl)

    any : (copy : Option Page) → (w.is_alive o ≡ true) × (is_page_level (w.granted o (page_resource p)) ≡ true) → IsCopyHeld w o p copy
    any None both = tt
    any (Some content) both = both

    go : (b : Bool) → (o == owner) && (p == page) ≡ b → IsCopyHeld w o p (if b then recopied (w.copy o p) after else w.copy o p)
    go true key = any (recopied (w.copy o p) after) (own key)
    go false key = h.held o p

  pub held-acted : (act : Act) → MayAct at owner act → Guard at owner act → is_plain act ≡ true → CopiesAreHeld (acted at.shape w owner act landed)
  held-acted (Opened locks) may g plain = λ o p. grind (arith, nat_tests, h.held o p, g.none_alive o)
  held-acted (Enter buffers name) may g plain = λ o p. grind (arith, nat_tests, h.held o p)
  held-acted Leave may g plain = λ o p. grind (arith, nat_tests, h.held o p, unasked p (g.requests (page_resource p)))
  held-acted Die may g plain = λ o p. grind (arith, nat_tests, h.held o p)
  held-acted (Grant r level) may g plain = grant_held r level g.wanted
  held-acted (Lower r level) may g plain = lower_held r.series r.key level g.by_series
  held-acted (Reap dead by) may g plain = λ o p. grind (arith, nat_tests, h.held o p, g.is_dead)
  held-acted (Read page fault) may g plain = λ o p. grind (arith, nat_tests, h.held o p, usable (w.granted owner (page_resource page)) g.held, may)
  held-acted (Write page reason true) may g plain = absurd cc
  held-acted (Write page reason false) may g plain = h.held
  held-acted (Local (local.Edit page edit)) may g plain = edit_held page (page_after at.shape w owner page edit) may g.exclusive
  held-acted (Local (local.Before high low)) may g plain = h.held
  held-acted (Local (local.Pin page)) may g plain = h.held
  held-acted (Local (local.Unpin page)) may g plain = h.held
  held-acted _ may g plain = h.held
