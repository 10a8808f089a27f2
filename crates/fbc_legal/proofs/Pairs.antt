-- Who has a pair has the high page's draft and the low page in EX, and pairs form no circle, after each event.
use Rattle.std.proofs.Common.{◌≡◌, ℕ, Bool, true, false, ◌==◌, ◌&&◌, if◌then◌else◌, Option, Some, None, is_some, refl, arith}
use Rattle.std.proofs.lemmas.Bool.Decides.{nat_tests}
use Rattle.fbc_kinds.specs.declared.edits.Edit.{Edit}
use Rattle.fbc_kinds.specs.declared.pages.Page.{Page}
use Rattle.fbc_levels.specs.declared.levels.Level.{Level}
use Rattle.fbc_levels.specs.declared.levels.Level.TheVariants.{Ex, Free}
use Rattle.fbc_levels.specs.declared.resources.Resource.{Resource}
use Rattle.fbc_levels.specs.declared.resources.Series.{Series}
use Rattle.fbc_levels.specs.declared.resources.Series.TheVariants as series
use Rattle.fbc_levels.specs.Resources.{is_same_resource, page_resource}
use Rattle.fbc_lock_table.proofs.Ways.{same_resource}
use Rattle.fbc_world.specs.declared.drafts.Draft.{Draft}
use Rattle.fbc_world.specs.declared.events.Act.{Act}
use Rattle.fbc_world.specs.declared.events.Act.TheVariants.{Die, Enter, Grant, Leave, Local, Lower, Opened, Reap, Write}
use Rattle.fbc_world.specs.declared.events.LocalEvent.TheVariants as local
use Rattle.fbc_world.specs.Holdings.{is_draft_of}
use Rattle.fbc_world.specs.Locks.{waiting_of}
use Rattle.fbc_world.specs.PageCell.{without}
use Rattle.fbc_world.specs.World.{World, acted, page_after, with_edit}
use Rattle.fbc_kinds.specs.Order.{StandsBefore}
use Rattle.fbc_legal.specs.Coherent.{IsCoherent, IsDraftHeld, IsPairHeld, PairsAreHeld}
use Rattle.fbc_legal.specs.Guards.{Guard, GuardOfBefore, GuardOfSeriesLowering}
use Rattle.fbc_legal.specs.Legal.{MayAct}
use Rattle.fbc_legal.specs.Scene.{Scene}
use Rattle.fbc_legal.proofs.Exclusion.{AreRequestsTrue, both_of, excluded, is_plain, same_number, waits_bare}

-- A draft that is not lost.
pub kept_draft : (owner other : ℕ) (draft : Option Draft) → other == owner ≡ false → is_draft_of other draft ≡ true → is_draft_of other (without owner draft) ≡ true
kept_draft owner other None apart is = is
kept_draft owner other (Some d) apart is = grind (arith, nat_tests, apart, is)

module _ (at : Scene) (h : IsCoherent at.world) (t : AreRequestsTrue at.world) (owner : ℕ) (landed : Bool) where
  abbrev w : World
  w = at.world

  grant : (r : Resource) (level : Level) → waiting_of w.locks owner r ≡ Some level → PairsAreHeld (acted at.shape w owner (Grant r level) landed)
  grant r level waits o high low has = go ((o == owner) && is_same_resource r (page_resource low)) refl where
    pair : IsPairHeld w o high low
    pair = h.pairs o high low has

    not_granted : (o == owner) && is_same_resource r (page_resource low) ≡ true → ⊥
    not_granted key =
        let keys = both_of (o == owner) (is_same_resource r (page_resource low)) key in
        let bare : w.granted owner (page_resource low) ≡ Free = waits_bare w h t owner low level (rw (← same_resource r (page_resource low) keys.1) waits) in
        grind (arith, bare, pair.2, same_number o owner keys.0)

    go : (b : Bool) → (o == owner) && is_same_resource r (page_resource low) ≡ b → IsPairHeld (acted at.shape w owner (Grant r level) landed) o high low
    go true key = absurd (not_granted key)
    go false key = (pair.0, pair.1, rw key pair.2)

  -- Before a page that is lowered none stands.
  lower : (kind : Series) (number : ℕ) (level : Level) → GuardOfSeriesLowering at owner kind number level → PairsAreHeld (acted at.shape w owner (Lower (record { series = kind; key = number }) level) landed)
  lower series.Page number level g o high low has = go ((o == owner) && (number == low)) refl where
    pair : IsPairHeld w o high low
    pair = h.pairs o high low has

    go : (b : Bool) → (o == owner) && (number == low) ≡ b → IsPairHeld (acted at.shape w owner (Lower (record { series = series.Page; key = number }) level) landed) o high low
    go true key = absurd (g.last high (rw (same_number number low (both_of (o == owner) (number == low) key).1) (StandsBefore.straight high low (o, has))))
    go false key = (pair.0, pair.1, rw key pair.2)
  lower _ number level g o high low has =
      let pair = h.pairs o high low has in
      (pair.0, pair.1, grind (arith, pair.2))

  -- The page that is edited is the draft of no other.
  drafter : (page : ℕ) → w.granted owner (page_resource page) ≡ Ex → (o : ℕ) (draft : Option Draft) → IsDraftHeld w page draft → is_draft_of o draft ≡ true → o ≡ owner
  drafter page exclusive o None held is = absurd cc
  drafter page exclusive o (Some d) held is = grind (arith, nat_tests, excluded w h d.owner owner (page_resource page), exclusive, held.1, is)

  edit : (page : ℕ) (e : Edit) (after : Option Page) → is_some after ≡ true → w.granted owner (page_resource page) ≡ Ex → PairsAreHeld (with_edit w owner page e after)
  edit page e None fits exclusive o high low has = absurd cc
  edit page e (Some content) fits exclusive o high low has =
      let pair = h.pairs o high low has in
      (pair.0, go (high == page) refl pair.1, pair.2) where
        go : (b : Bool) → high == page ≡ b → is_draft_of o (w.draft high) ≡ true → is_draft_of o (if b then Some (record { owner = owner; content = content }) else w.draft high) ≡ true
        go true key own = grind (arith, nat_tests, drafter high (rw (same_number high page key) exclusive) o (w.draft high) (h.drafts high) own)
        go false key own = own

  before : (high low : ℕ) → w.is_alive owner ≡ true → GuardOfBefore at owner high low → PairsAreHeld (acted at.shape w owner (Local (local.Before high low)) landed)
  before high low may g o a b has = go ((o == owner) && (a == high) && (b == low)) refl has where
    go : (c : Bool) → (o == owner) && (a == high) && (b == low) ≡ c → (if c then true else w.has_pair o a b) ≡ true → IsPairHeld w o a b
    go true key is = grind (arith, nat_tests, key, may, g.drafted, g.exclusive)
    go false key is = h.pairs o a b is

  pub pairs-acted : (act : Act) → MayAct at owner act → Guard at owner act → is_plain act ≡ true → PairsAreHeld (acted at.shape w owner act landed)
  pairs-acted (Opened locks) may g plain = λ o high low has. absurd (grind (arith, g.none_alive o, (h.pairs o high low has).0))
  pairs-acted (Enter buffers name) may g plain = λ o high low has. grind (arith, nat_tests, has, h.pairs o high low)
  pairs-acted Leave may g plain = λ o high low has. grind (arith, nat_tests, has, h.pairs o high low, g.drafts high)
  pairs-acted Die may g plain = λ o high low has. grind (arith, nat_tests, has, h.pairs o high low, kept_draft owner o (w.draft high))
  pairs-acted (Grant r level) may g plain = grant r level g.wanted
  pairs-acted (Lower r level) may g plain = lower r.series r.key level g.by_series
  pairs-acted (Reap dead by) may g plain = λ o high low has. grind (arith, nat_tests, has, h.pairs o high low, g.is_dead)
  pairs-acted (Write page reason true) may g plain = absurd cc
  pairs-acted (Write page reason false) may g plain = λ o high low has. grind (arith, nat_tests, has, h.pairs o high low)
  pairs-acted (Local (local.Edit page e)) may g plain = edit page e (page_after at.shape w owner page e) g.fits g.exclusive
  pairs-acted (Local (local.Before high low)) may g plain = before high low may g
  pairs-acted (Local (local.Pin page)) may g plain = h.pairs
  pairs-acted (Local (local.Unpin page)) may g plain = h.pairs
  pairs-acted _ may g plain = h.pairs
