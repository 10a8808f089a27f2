-- What the coherence of a world tells of the parts of a history.
use Rattle.std.proofs.Common.{◌≡◌, ◌≢◌, ◌∙◌, ◌⊎◌, inl, inr, ap, ℕ, true, false, Option, Some, None, refl, sym, subst, arith}
use Rattle.std.specs.Option.{option_map}
use Rattle.std.proofs.lemmas.Bool.Decides.{nat_tests}
use Rattle.fbc_kinds.specs.declared.pages.Page.{Page}
use Rattle.fbc_kinds.specs.declared.shapes.Shape.{Shape}
use Rattle.fbc_kinds.specs.View.{View}
use Rattle.fbc_levels.specs.declared.levels.Level.{Level}
use Rattle.fbc_levels.specs.declared.levels.Level.TheVariants.{Ex, Free, Pr}
use Rattle.fbc_levels.specs.declared.resources.Resource.{Resource}
use Rattle.fbc_levels.specs.Levels.{is_compatible, is_page_level}
use Rattle.fbc_levels.specs.LockState.{LockState}
use Rattle.fbc_world.specs.declared.drafts.Draft.{Draft}
use Rattle.fbc_world.specs.History.{History}
use Rattle.fbc_world.specs.Holdings.{is_draft_of}
use Rattle.fbc_levels.specs.Resources.{page_resource}
use Rattle.fbc_world.specs.Locks.{waiting, waiting_of}
use Rattle.fbc_world.specs.Owners.{granted, is_alive}
use Rattle.fbc_world.specs.PageCell.{copy_of, draft, draft_owner, newest}
use Rattle.fbc_world.specs.World.{World, IsPairIn, newest_of, world_of}
use Rattle.fbc_world.specs.WriteOrder.{IsPair, pairs_of}
use Rattle.fbc_kinds.specs.Order.{StandsBefore}
use Rattle.fbc_world.proofs.WorldLaws.{IsReplayed, IsReplayed-world, newest-world}
use Rattle.fbc_legal.specs.Coherent.{IsCoherent, IsCopyHeld, IsDraftHeld, IsNewest}
use Rattle.fbc_legal.specs.Legal.{IsLegal}
use Rattle.fbc_legal.proofs.Induction.{IsCoherent-legal, requests_true}
use Rattle.fbc_legal.proofs.Exclusion.{excluded, no_other_copy, waits_bare}
use Rattle.fbc_legal.proofs.Order.{stands_by_more}

held_of : (w : World) (owner page : ℕ) (copy : Option Page) (content : Page) → copy ≡ Some content → IsCopyHeld w owner page copy → IsCopyHeld w owner page (Some content)
held_of w owner page copy content is held = subst (IsCopyHeld w owner page) is held

draft_of : (w : World) (page : ℕ) (found : Option Draft) (drafted : Draft) → found ≡ Some drafted → IsDraftHeld w page found → IsDraftHeld w page (Some drafted)
draft_of w page found drafted is held = subst (IsDraftHeld w page) is held

newest_is : (copy shown : Option Page) (content : Page) → copy ≡ Some content → IsNewest copy shown → shown ≡ Some content
newest_is None shown content is held = absurd cc
newest_is (Some c) shown content is held = grind (arith, is, held)

pub in_use : (level : Level) → is_page_level level ≡ true → (level ≡ Pr) ⊎ (level ≡ Ex)
in_use Pr is = inl refl
in_use Ex is = inr refl
in_use _ is = absurd cc

not_in_use : (level : Level) → is_page_level level ≡ false → (level ≡ Pr) ⊎ (level ≡ Ex) → ⊥
not_in_use level is (inl e) = grind (arith, is, e)
not_in_use level is (inr e) = grind (arith, is, e)

owner_of : (owner : ℕ) (draft : Option Draft) → is_draft_of owner draft ≡ true → option_map (λ (d : Draft). d.owner) draft ≡ Some owner
owner_of owner None is = absurd cc
owner_of owner (Some d) is = grind (arith, nat_tests, is)

module _ (shape : Shape) (file : View) (history : History) (legal : IsLegal shape file history) where
  abbrev w : World
  w = world_of shape file history

  abbrev h : IsCoherent w
  h = IsCoherent-legal shape file history legal

  abbrev r : IsReplayed shape file history w
  r = IsReplayed-world shape file history

  pub beside : (owner other : ℕ) (resource : Resource) → owner ≢ other → is_compatible (granted history owner resource) (granted history other resource) ≡ true
  beside owner other resource apart = rw (← r.granted_is owner resource, ← r.granted_is other resource) (h.beside owner other resource apart)

  pub bare : (owner page : ℕ) (wanted : Level) → waiting history owner (page_resource page) ≡ Some wanted → granted history owner (page_resource page) ≡ Free
  bare owner page wanted waits =
      rw (← r.granted_is owner (page_resource page)) (waits_bare w h (requests_true shape file history) owner page wanted (ap (λ (s : LockState). waiting_of s owner (page_resource page)) r.locks_is ∙ waits))

  copy_held : (owner page : ℕ) (content : Page) → copy_of shape file history owner page ≡ Some content → IsCopyHeld w owner page (Some content)
  copy_held owner page content is = held_of w owner page (w.copy owner page) content (r.copy_is owner page ∙ is) (h.held owner page)

  pub copy_alive : (owner page : ℕ) (content : Page) → copy_of shape file history owner page ≡ Some content → is_alive history owner ≡ true
  copy_alive owner page content is = rw (← r.alive_is owner) (copy_held owner page content is).0

  pub copy_level : (owner page : ℕ) (content : Page) → copy_of shape file history owner page ≡ Some content → (granted history owner (page_resource page) ≡ Pr) ⊎ (granted history owner (page_resource page) ≡ Ex)
  copy_level owner page content is = rw (← r.granted_is owner (page_resource page)) (in_use (w.granted owner (page_resource page)) (copy_held owner page content is).1)

  draft_held : (page : ℕ) (drafted : Draft) → draft shape file history page ≡ Some drafted → IsDraftHeld w page (Some drafted)
  draft_held page drafted is = draft_of w page (w.draft page) drafted (r.draft_is page ∙ is) (h.drafts page)

  pub draft_alive : (page : ℕ) (drafted : Draft) → draft shape file history page ≡ Some drafted → is_alive history drafted.owner ≡ true
  draft_alive page drafted is = rw (← r.alive_is drafted.owner) (draft_held page drafted is).0

  pub draft_level : (page : ℕ) (drafted : Draft) → draft shape file history page ≡ Some drafted → granted history drafted.owner (page_resource page) ≡ Ex
  draft_level page drafted is = rw (← r.granted_is drafted.owner (page_resource page)) (draft_held page drafted is).1

  pub draft_copy : (page : ℕ) (drafted : Draft) → draft shape file history page ≡ Some drafted → copy_of shape file history drafted.owner page ≡ Some drafted.content
  draft_copy page drafted is = rw (← r.copy_is drafted.owner page) (draft_held page drafted is).2

  pub copy_newest : (owner page : ℕ) (content : Page) → copy_of shape file history owner page ≡ Some content → newest shape file history page ≡ Some content
  copy_newest owner page content is =
      sym (newest-world shape file history page) ∙ newest_is (w.copy owner page) (newest_of w page) content (r.copy_is owner page ∙ is) (h.newest owner page)

  pub exclusive_copy : (owner other page : ℕ) → granted history owner (page_resource page) ≡ Ex → other ≢ owner → copy_of shape file history other page ≡ None
  exclusive_copy owner other page is apart = sym (r.copy_is other page) ∙ no_other_copy w h owner other page (λ e. apart (sym e)) (r.granted_is owner (page_resource page) ∙ is)

  pub draft_alone : (page : ℕ) (drafted : Draft) (other : ℕ) → draft shape file history page ≡ Some drafted → other ≢ drafted.owner
      → (granted history other (page_resource page) ≡ Pr) ⊎ (granted history other (page_resource page) ≡ Ex) → ⊥
  draft_alone page drafted other is apart =
      rw (← r.granted_is other (page_resource page)) (not_in_use (w.granted other (page_resource page)) (excluded w h drafted.owner other (page_resource page) (λ e. apart (sym e)) (draft_held page drafted is).1))

  pub pair_alive : (owner high low : ℕ) → pairs_of history owner high low ≡ true → is_alive history owner ≡ true
  pair_alive owner high low has = rw (← r.alive_is owner) (h.pairs owner high low (r.pairs_is owner high low ∙ has)).0

  pub pair_draft : (owner high low : ℕ) → pairs_of history owner high low ≡ true → draft_owner shape file history high ≡ Some owner
  pair_draft owner high low has = rw (← r.draft_is high) (owner_of owner (w.draft high) (h.pairs owner high low (r.pairs_is owner high low ∙ has)).1)

  pub pair_level : (owner high low : ℕ) → pairs_of history owner high low ≡ true → granted history owner (page_resource low) ≡ Ex
  pair_level owner high low has = rw (← r.granted_is owner (page_resource low)) (h.pairs owner high low (r.pairs_is owner high low ∙ has)).2

  pub no_circle : (page : ℕ) → StandsBefore (IsPair history) page page → ⊥
  no_circle page circle = h.order page (stands_by_more (IsPair history) (IsPairIn w) (λ x y pair. (pair.0, r.pairs_is pair.0 x y ∙ pair.1)) page page circle)
