-- Where no buffer waits, a withdrawal leaves its owner's pages.
use Rattle.std.proofs.Common.{◌≡◌, ◌∙◌, ℕ, Bool, true, false, not, List, [], ◌∷◌, get_or, Option, Some, is_some, refl, sym, subst, arith}
use Rattle.std.proofs.lemmas.Grind.{common_steps}
use Rattle.std.proofs.lemmas.List.Folds.{list_any_none}
use Rattle.std.specs.List.{All, filter, list_any}
use Rattle.fbc_kinds.specs.declared.shapes.Shape.{Shape}
use Rattle.fbc_levels.specs.declared.resources.Request.{Request}
use Rattle.fbc_levels.specs.LockState.{is_of, request_of}
use Rattle.fbc_lock_table.proofs.Pairs.{find-only}
use Rattle.fbc_world.specs.declared.events.Act.TheVariants as act
use Rattle.fbc_world.specs.Holdings.{is_page_request_of}
use Rattle.fbc_levels.specs.Resources.{page_resource}
use Rattle.fbc_world.specs.World.{World, acted}
use Rattle.fbc_world.proofs.Apart.{once}
use Rattle.fbc_legal.proofs.Exclusion.{AreRequestsTrue}
use Rattle.fbc_buffers.specs.declared.buffers.Buffer.{Buffer}
use Rattle.fbc_buffers.specs.Holding.{buffer_of, is_waiting}
use Rattle.fbc_cache.specs.Cache.{CacheState}
use Rattle.fbc_fit.specs.Fit.{Fits, ShowsBuffer}
use Rattle.fbc_fit.proofs.AwaitedPage.{shows-idle}
use Rattle.fbc_fit.proofs.Covering.{own_key}
use Rattle.fbc_fit.proofs.PageRequests.{is_page_wait, same-withdrawn}
use Rattle.fbc_fit.proofs.SamePages.{HasSamePages, fits-same}
use Rattle.fbc_fit.proofs.Waited.{found_waits}
use Rattle.fbc_fit.proofs.WaitingBuffers.{is_awaited}

-- Where no buffer waits, each is left.
all_left : (held : List Buffer) → list_any is_waiting held ≡ false → filter (λ b. not (is_waiting b)) held ≡ held
all_left [] none = refl
all_left (b ∷ bs) none = grind (arith, common_steps, none, all_left bs (grind (arith, none)))

module _ (shape : Shape) (w : World) (owner : ℕ) (landed : Bool) (c : CacheState) (none : list_any is_waiting c.held ≡ false) (t : AreRequestsTrue w) (fits : Fits shape w owner c) where
  abbrev after : World
  after = acted shape w owner act.Withdraw landed

  idle_buffer : (page : ℕ) → is_awaited (buffer_of c.held page) ≡ false
  idle_buffer page = go (is_awaited (buffer_of c.held page)) refl where
    go : (waits : Bool) → is_awaited (buffer_of c.held page) ≡ waits → waits ≡ false
    go true waits = absurd (let no : false ≡ true = sym none ∙ found_waits c.held page waits in cc)
    go false waits = refl

  idle_request : (page : ℕ) (r : Request) → request_of w.locks owner (page_resource page) ≡ Some r → is_some r.waiting ≡ false
  idle_request page r found =
      shows-idle _ r (buffer_of c.held page) (subst (λ (asked : Option Request). ShowsBuffer (w.granted owner (page_resource page)) asked (buffer_of c.held page)) found (fits.pages page).lock) (idle_buffer page)

  idle_own : (r : Request) (own : Bool) → is_page_request_of owner r ≡ own → (own ≡ true → request_of w.locks owner (page_resource r.resource.key) ≡ Some r) → is_page_wait owner r ≡ false
  idle_own r true own found = rw own (idle_request r.resource.key r (found refl))
  idle_own r false own found = rw own refl

  -- No request of the owner for a page waits.
  idle : All (λ (r : Request). is_page_wait owner r ≡ false) w.locks.requests
  idle i d within =
      let r = get_or w.locks.requests i d in
      let page = page_resource r.resource.key in
      idle_own r (is_page_request_of owner r) refl (λ own. find-only (is_of owner page) w.locks.requests (once owner page w.locks.requests t.apart) i d within (own_key owner r own))

  same : HasSamePages owner w after
  same = record {
    granted = λ page. refl;
    requests = same-withdrawn owner w.locks.requests (list_any_none (is_page_wait owner) w.locks.requests idle);
    copy = λ page. refl;
    draft = λ page. refl;
    pin = λ page. refl;
    pair = λ high low. refl;
    room = refl;
  }

  pub fits-idle : Fits shape after owner (record c { held = filter (λ b. not (is_waiting b)) c.held })
  fits-idle = subst (λ (held : List Buffer). Fits shape after owner (record c { held = held })) (sym (all_left c.held none)) (fits-same shape owner w after c same fits)
