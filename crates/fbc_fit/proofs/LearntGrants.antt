-- Where the owner waits for nothing, a look tells that all is granted, and the cache fits then.
use Rattle.std.proofs.Common.{◌≡◌, ◌∙◌, inl, inr, ℕ, Bool, true, false, map, Option, Some, None, refl, sym}
use Rattle.std.proofs.lemmas.List.{length-map}
use Rattle.std.specs.Option.{option_map}
use Rattle.fbc_kinds.specs.declared.pages.Page.{Page}
use Rattle.fbc_kinds.specs.declared.shapes.Shape.{Shape}
use Rattle.fbc_levels.specs.declared.levels.Level.{Level}
use Rattle.fbc_levels.specs.declared.resources.Request.{Request}
use Rattle.fbc_levels.specs.declared.resources.Resource.{Resource}
use Rattle.fbc_levels.specs.LockState.{LockState, is_of, request_of, wait_of}
use Rattle.fbc_levels.specs.Resources.{page_resource}
use Rattle.fbc_world.specs.World.{World}
use Rattle.fbc_world.proofs.Found.{find_passes}
use Rattle.fbc_legal.proofs.ListTests.{found_any}
use Rattle.fbc_legal.proofs.Waiters.{waits_by, waits_free}
use Rattle.fbc_buffers.specs.declared.buffers.Buffer.{Buffer}
use Rattle.fbc_buffers.specs.Holding.{buffer_of, granted_wait}
use Rattle.fbc_buffers.proofs.Found.{buffer_of-map}
use Rattle.fbc_cache.specs.Cache.{CacheState}
use Rattle.fbc_fit.specs.Fit.{Fits, ShowsBuffer}
use Rattle.fbc_fit.proofs.Pages.{page-shows, shows-page}
use Rattle.fbc_fit.proofs.Shown.{Shows}

-- Who waits for nothing has no request that waits.
pub waits-nothing : (s : LockState) (owner : ℕ) (resource : Resource) → wait_of s owner ≡ None → (r : Request) → request_of s owner resource ≡ Some r → r.waiting ≡ None
waits-nothing s owner resource free r found = go r.waiting refl where
  go : (waits : Option Level) → r.waiting ≡ waits → waits ≡ None
  go None waits = refl
  go (Some level) waits =
      let its : is_of owner resource r ≡ true = find_passes (is_of owner resource) s.requests r found in
      let passes : waits_by owner resource r ≡ true = rw (its, waits) refl in
      let some = found_any (is_of owner resource) (waits_by owner resource) r passes s.requests found in
      absurd (let no : false ≡ true = sym (waits_free owner resource s free) ∙ some in cc)

-- The buffer of a page whose request waits for nothing.
shows-learnt : (granted : Level) (asked : Option Request) (found : Option Buffer) → ((r : Request) → asked ≡ Some r → r.waiting ≡ None) → ShowsBuffer granted asked found → ShowsBuffer granted asked (option_map granted_wait found)
shows-learnt granted None None free shows = shows
shows-learnt granted None (Some b) free shows = absurd shows
shows-learnt granted (Some r) None free shows = absurd shows
shows-learnt granted (Some r) (Some b) free (inl same) =
    let none : b.wanted ≡ None = sym same.1 ∙ free r refl in
    inl (rw none same.0, free r refl)
shows-learnt granted (Some r) (Some b) free (inr late) = inl (rw late.0 refl, late.1)

learnt : (granted : Level) (asked : Option Request) (copied : Option Page) (drafted pinned : Bool) (found : Option Buffer) → ((r : Request) → asked ≡ Some r → r.waiting ≡ None) → Shows granted asked copied drafted pinned found
    → Shows granted asked copied drafted pinned (option_map granted_wait found)
learnt granted asked copied drafted pinned None free shows = shows
learnt granted asked copied drafted pinned (Some b) free shows = record { lock = shows-learnt granted asked (Some b) free shows.lock; copy = shows.copy; draft = shows.draft; pin = shows.pin }

pub fits-learnt : (shape : Shape) (w : World) (owner : ℕ) (c : CacheState) → wait_of w.locks owner ≡ None → Fits shape w owner c → Fits shape w owner (record c { held = map granted_wait c.held })
fits-learnt shape w owner c free fits = record {
  shape_is = fits.shape_is;
  room = fits.room;
  count = length-map c.held granted_wait ∙ fits.count;
  pages = λ page. shows-page w owner page (map granted_wait c.held) _ (buffer_of-map granted_wait (λ b. refl) c.held page)
      (learnt _ _ _ _ _ (buffer_of c.held page) (waits-nothing w.locks owner (page_resource page) free) (page-shows w owner page c.held (fits.pages page)));
  pairs = fits.pairs;
}
