-- Where an owner comes, a cache that holds nothing fits.
use Rattle.std.proofs.Common.{◌≡◌, ◌∙◌, ap, ℕ, suc, Bool, true, false, ◌==◌, ◌∷◌, [], List, length, Option, Some, None, refl, sym, subst, arith}
use Rattle.std.proofs.lemmas.Bool.Decides.{nat_tests}
use Rattle.std.specs.List.{filter, find}
use Rattle.std.specs.Option.{option_map_or}
use Rattle.fbc_kinds.specs.declared.pages.Page.{Page}
use Rattle.fbc_kinds.specs.declared.shapes.Shape.{Shape}
use Rattle.fbc_kinds.specs.View.{View}
use Rattle.fbc_levels.specs.declared.levels.Level.TheVariants.{Free}
use Rattle.fbc_levels.specs.declared.resources.Request.{Request}
use Rattle.fbc_levels.specs.declared.resources.Resource.{Resource}
use Rattle.fbc_levels.specs.LockState.{is_of, request_of}
use Rattle.fbc_world.specs.declared.drafts.Draft.{Draft}
use Rattle.fbc_world.specs.declared.events.Act.TheVariants as act
use Rattle.fbc_world.specs.History.{History, happens}
use Rattle.fbc_world.specs.Holdings.{is_draft_of, is_page_request_of}
use Rattle.fbc_levels.specs.Resources.{page_resource}
use Rattle.fbc_world.specs.World.{World, world_of}
use Rattle.fbc_world.proofs.FirstOf.{filter-kept}
use Rattle.fbc_legal.specs.Coherent.{IsCoherent, IsCopyHeld, IsDraftHeld}
use Rattle.fbc_legal.specs.Legal.{IsLegal}
use Rattle.fbc_legal.specs.Lives.{entered}
use Rattle.fbc_legal.specs.Scene.{scene_of}
use Rattle.fbc_legal.proofs.Exclusion.{same_number}
use Rattle.fbc_legal.proofs.Induction.{IsCoherent-legal, requests_true}
use Rattle.fbc_legal.proofs.Ranked.{IsRanked, IsRanked-legal}
use Rattle.fbc_fit.specs.Fit.{Fits, FitsPage, ShowsBuffer}
use Rattle.fbc_fit.proofs.Left.{own-request}
use Rattle.fbc_fit.proofs.NewOwners.{none-asked}

not_true : (b : Bool) → (b ≡ true → ⊥) → b ≡ false
not_true true never = absurd (never refl)
not_true false never = refl

module _ (shape : Shape) (file : View) (history : History) (legal : IsLegal shape file history) (owner : ℕ) (new : owner ≡ suc (entered history)) where
  abbrev w : World
  w = world_of shape file history

  h : IsCoherent w
  h = IsCoherent-legal shape file history legal

  ranked : IsRanked (scene_of shape file history)
  ranked = IsRanked-legal shape file history legal

  not_alive : w.is_alive owner ≡ true → ⊥
  not_alive alive = grind (arith, ranked.came.living owner alive, new)

  no_request : (resource : Resource) → request_of w.locks owner resource ≡ None
  no_request resource = sym (own-request w.locks owner resource) ∙ ap (find (is_of owner resource)) (none-asked shape file history legal owner (grind (arith, new)))

  no_level : (resource : Resource) → w.granted owner resource ≡ Free
  no_level resource = sym ((requests_true shape file history).agrees owner resource) ∙ ap (λ (r : Option Request). option_map_or (λ (t : Request). t.granted) r Free) (no_request resource)

  no_copy : (page : ℕ) → w.copy owner page ≡ None
  no_copy page = go (w.copy owner page) (h.held owner page) where
    go : (copy : Option Page) → IsCopyHeld w owner page copy → copy ≡ None
    go None held = refl
    go (Some content) held = absurd (not_alive held.0)

  no_draft : (page : ℕ) → is_draft_of owner (w.draft page) ≡ false
  no_draft page = go (w.draft page) (h.drafts page) where
    go : (draft : Option Draft) → IsDraftHeld w page draft → is_draft_of owner draft ≡ false
    go None held = refl
    go (Some d) held = not_true (d.owner == owner) (λ its. not_alive (subst (λ o. w.is_alive o ≡ true) (same_number d.owner owner its) held.0))

  no_pin : (page : ℕ) → w.is_pinned owner page ≡ false
  no_pin page = not_true (w.is_pinned owner page) (λ pinned. not_alive (ranked.pins owner page pinned).alive)

  no_pair : (high low : ℕ) → w.has_pair owner high low ≡ false
  no_pair high low = not_true (w.has_pair owner high low) (λ has. not_alive (h.pairs owner high low has).0)

  none_counted : length (filter (is_page_request_of owner) w.locks.requests) ≡ 0
  none_counted =
      ap (λ (rs : List Request). length rs) (sym (filter-kept (is_page_request_of owner) (λ (r : Request). r.owner == owner) (λ x is. grind (arith, is)) w.locks.requests))
      ∙ ap (λ (rs : List Request). length (filter (is_page_request_of owner) rs)) (none-asked shape file history legal owner (grind (arith, new)))

  new_page : (buffers name : ℕ) (landed : Bool) (page : ℕ) → FitsPage (world_of shape file (happens owner (act.Enter buffers name) landed ∷ history)) owner [] page
  new_page buffers name landed page = record {
    lock = subst (λ (r : Option Request). ShowsBuffer (w.granted owner (page_resource page)) r None) (sym (no_request (page_resource page))) (no_level (page_resource page));
    copy = no_copy page;
    draft = no_draft page;
    pin = no_pin page;
  }

  pub fits-new : (buffers name : ℕ) (landed : Bool)
      → Fits shape (world_of shape file (happens owner (act.Enter buffers name) landed ∷ history)) owner (record { shape = shape; room = buffers; held = []; pairs = []; pointers = [] })
  fits-new buffers name landed = record {
    shape_is = refl;
    room = grind (arith, nat_tests);
    count = sym none_counted;
    pages = new_page buffers name landed;
    pairs = λ high low. no_pair high low;
  }
