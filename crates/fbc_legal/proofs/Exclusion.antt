-- Who may use a page, and who may not beside whom.
use Rattle.std.proofs.Common.{◌≡◌, ◌≢◌, ◌∙◌, ℕ, Bool, true, false, not, ◌==◌, ◌&&◌, ◌⊎◌, inl, inr, Option, Some, None, refl, sym, arith}
use Rattle.std.specs.Option.{option_and_then, option_map_or}
use Rattle.std.proofs.lemmas.Bool.Decides.{nat_tests}
use Rattle.fbc_kinds.specs.declared.pages.Page.{Page}
use Rattle.fbc_levels.specs.declared.levels.Level.{Level}
use Rattle.fbc_levels.specs.declared.levels.Level.TheVariants.{Ex, Free, Pr}
use Rattle.fbc_levels.specs.declared.resources.Request.{Request}
use Rattle.fbc_levels.specs.declared.resources.Resource.{Resource}
use Rattle.fbc_levels.specs.Levels.{is_compatible, is_page_level}
use Rattle.fbc_levels.specs.LockState.{granted_of, request_of}
use Rattle.fbc_world.specs.declared.drafts.Draft.{Draft}
use Rattle.fbc_world.specs.declared.events.Act.{Act}
use Rattle.fbc_world.specs.declared.events.Act.TheVariants.{Write}
use Rattle.fbc_levels.specs.Resources.{page_resource}
use Rattle.fbc_world.specs.Locks.{waiting_of}
use Rattle.fbc_world.specs.World.{World}
use Rattle.fbc_world.proofs.Apart.{IsApart}
use Rattle.fbc_world.proofs.Requests.{level_in}
use Rattle.fbc_legal.specs.Coherent.{IsCoherent, IsCopyHeld, IsDraftHeld, is_raise}

pub both_of : (a b : Bool) → a && b ≡ true → (a ≡ true) × (b ≡ true)
both_of true true is = (refl, refl)
both_of true false is = absurd cc
both_of false b is = absurd cc

pub same_number : (a b : ℕ) → a == b ≡ true → a ≡ b
same_number a b is = grind (arith, nat_tests, is)

-- What the requests of a world say is what is granted, and an owner has one for a resource.
pub record AreRequestsTrue (w : World) : Type 0 where
  pub agrees : (owner : ℕ) (resource : Resource) → granted_of w.locks owner resource ≡ w.granted owner resource
  pub apart : IsApart w.locks

-- Every act but a failed write, which is two: a write, if it landed, and a death.
abbrev pub is_plain : Act → Bool
is_plain (Write page cause failed) = not failed
is_plain _ = true

-- Beside the exclusive level nobody may use a page.
beside_exclusive : (a b : Level) → a ≡ Ex → is_compatible a b ≡ true → is_page_level b ≡ false
beside_exclusive a b is beside = grind (arith, is, beside)

-- The level in which a page may be used.
pub usable : (level : Level) → (level ≡ Pr) ⊎ (level ≡ Ex) → is_page_level level ≡ true
usable level (inl is) = grind (arith, is)
usable level (inr is) = grind (arith, is)

-- A page's draft, if there is one, is the owner's.
abbrev pub IsOwnDraft : ℕ → Option Draft → Type 0
IsOwnDraft owner None = Unit {0}
IsOwnDraft owner (Some draft) = draft.owner ≡ owner

module _ (w : World) (h : IsCoherent w) where
  pub excluded : (owner other : ℕ) (resource : Resource) → owner ≢ other → w.granted owner resource ≡ Ex → is_page_level (w.granted other resource) ≡ false
  excluded owner other resource apart is = beside_exclusive (w.granted owner resource) (w.granted other resource) is (h.beside owner other resource apart)

  -- Who may not use a page has no copy.
  pub no_copy : (owner page : ℕ) → is_page_level (w.granted owner (page_resource page)) ≡ false → w.copy owner page ≡ None
  no_copy owner page unusable = go (w.copy owner page) (h.held owner page) where
    go : (copy : Option Page) → IsCopyHeld w owner page copy → copy ≡ None
    go None held = refl
    go (Some content) held = absurd (clash (is_page_level (w.granted owner (page_resource page))) unusable held.1) where
      clash : (b : Bool) → b ≡ false → b ≡ true → ⊥
      clash true e k = cc
      clash false e k = cc

  -- Beside an exclusive lock nobody has a copy.
  pub no_other_copy : (owner other page : ℕ) → owner ≢ other → w.granted owner (page_resource page) ≡ Ex → w.copy other page ≡ None
  no_other_copy owner other page apart is = no_copy other page (excluded owner other (page_resource page) apart is)

  -- A draft is that of who may use the page.
  pub own_draft : (owner page : ℕ) → is_page_level (w.granted owner (page_resource page)) ≡ true → IsOwnDraft owner (w.draft page)
  own_draft owner page usable = go (w.draft page) (h.drafts page) where
    go : (draft : Option Draft) → IsDraftHeld w page draft → IsOwnDraft owner draft
    go None held = tt
    go (Some draft) held = grind (arith, nat_tests, excluded draft.owner owner (page_resource page), held.1, usable)

  -- Who may use a page and has no copy: it has no draft.
  pub undrafted : (owner page : ℕ) → is_page_level (w.granted owner (page_resource page)) ≡ true → w.copy owner page ≡ None → w.draft page ≡ None
  undrafted owner page usable none = go (w.draft page) (own_draft owner page usable) (h.drafts page) where
    go : (draft : Option Draft) → IsOwnDraft owner draft → IsDraftHeld w page draft → draft ≡ None
    go None own held = refl
    go (Some draft) own held = grind (arith, own, none, held.2)

  -- Who waits for a page has no level on it.
  pub waits_bare : AreRequestsTrue w → (owner page : ℕ) (level : Level) → waiting_of w.locks owner (page_resource page) ≡ Some level → w.granted owner (page_resource page) ≡ Free
  waits_bare true_ owner page level waits = sym (true_.agrees owner (page_resource page)) ∙ go (request_of w.locks owner (page_resource page)) waits (h.bare owner page) where
    go : (found : Option Request) → option_and_then (λ (r : Request). r.waiting) found ≡ Some level → option_map_or is_raise found false ≡ false → level_in found ≡ Free
    go None is bare = refl
    go (Some r) is bare = grind (arith, is, bare)
