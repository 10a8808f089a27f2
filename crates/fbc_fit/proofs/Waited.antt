-- Where no buffer waits, an owner that waits for no number and no relation waits for nothing.
use Rattle.std.proofs.Common.{◌≡◌, ◌∙◌, inl, inr, ap, ℕ, Bool, true, false, cond, List, [], ◌∷◌, Option, Some, None, is_some, refl, sym, subst, arith}
use Rattle.std.proofs.lemmas.Bool.Decides.{nat_tests}
use Rattle.std.proofs.lemmas.List.Elements.{All-head, All-tail}
use Rattle.std.specs.List.{All, find, list_any}
use Rattle.std.specs.Option.{option_map_or}
use Rattle.fbc_kinds.specs.declared.shapes.Shape.{Shape}
use Rattle.fbc_levels.specs.declared.levels.Level.{Level}
use Rattle.fbc_levels.specs.declared.resources.Request.{Request}
use Rattle.fbc_levels.specs.LockState.{is_of, is_wait_of, request_of, wait_of}
use Rattle.fbc_lock_table.proofs.Pairs.{find-only}
use Rattle.fbc_levels.specs.Resources.{page_resource}
use Rattle.fbc_world.specs.World.{World}
use Rattle.fbc_world.proofs.Apart.{IsApart, once}
use Rattle.fbc_world.proofs.Found.{find_passes}
use Rattle.fbc_buffers.specs.declared.buffers.Buffer.{Buffer}
use Rattle.fbc_buffers.specs.Holding.{buffer_of, is_waiting}
use Rattle.fbc_cache.specs.Cache.{CacheState}
use Rattle.fbc_cache.specs.Wants.{is_page_series}
use Rattle.fbc_fit.specs.Fit.{Fits, ShowsBuffer, WaitsForPages}

-- What is true of all is true of the one that is found.
pub found_one : {X : Type 0} (P : X → Type 0) (q : X → Bool) (xs : List X) → All P xs → (x : X) → find q xs ≡ Some x → P x
found_one P q [] all x found = absurd (cc)
found_one {X} P q (y ∷ ys) all x found = go (q y) (found_one P q ys (All-tail P y ys all) x) found where
  go : (b : Bool) → (find q ys ≡ Some x → P x) → cond b (Some y) (find q ys) ≡ Some x → P x
  go true rest is =
      let same : y ≡ x = cc in
      subst P same (All-head P y ys all)
  go false rest is = rest is

-- The buffer of a page that is waited for.
wait_shown : (level : Level) (r : Request) (found : Option Buffer) → is_some r.waiting ≡ true → ShowsBuffer level (Some r) found → option_map_or is_waiting found false ≡ true
wait_shown level r (Some b) waits (inl same) = ap (λ (wanted : Option Level). is_some wanted) (sym same.1) ∙ waits
wait_shown level r (Some b) waits (inr late) = absurd (let no : false ≡ true = rw late.1 at waits in cc)
wait_shown level r None waits shows = absurd shows

-- Where the buffer of a page waits, some buffer does.
pub found_waits : (held : List Buffer) (page : ℕ) → option_map_or is_waiting (buffer_of held page) false ≡ true → list_any is_waiting held ≡ true
found_waits [] page waits = absurd (cc)
found_waits (b ∷ bs) page waits = grind (arith, waits, found_waits bs page)

module _ (shape : Shape) (w : World) (owner : ℕ) (c : CacheState) (apart : IsApart w.locks) (fits : Fits shape w owner c) where
  own_page : (r : Request) → is_wait_of owner r ≡ true → is_page_series r.resource ≡ true → is_of owner (page_resource r.resource.key) r ≡ true
  own_page r waits page = grind (arith, nat_tests, waits, page)

  waits : (r : Request) → is_wait_of owner r ≡ true → is_some r.waiting ≡ true
  waits r is = grind (arith, is)

  -- The request by which the owner waits is the one for its page.
  pub is_its_request : (r : Request) → wait_of w.locks owner ≡ Some r → is_page_series r.resource ≡ true → request_of w.locks owner (page_resource r.resource.key) ≡ Some r
  is_its_request r found page =
      found_one (λ x. is_of owner (page_resource r.resource.key) x ≡ true → request_of w.locks owner (page_resource r.resource.key) ≡ Some x) (is_wait_of owner) w.locks.requests
      (find-only (is_of owner (page_resource r.resource.key)) w.locks.requests (once owner (page_resource r.resource.key) w.locks.requests apart)) r found
      (own_page r (find_passes (is_wait_of owner) w.locks.requests r found) page)

  some_waits : (r : Request) → wait_of w.locks owner ≡ Some r → is_page_series r.resource ≡ true → list_any is_waiting c.held ≡ true
  some_waits r found page =
      found_waits c.held r.resource.key
      (wait_shown _ r (buffer_of c.held r.resource.key) (waits r (find_passes (is_wait_of owner) w.locks.requests r found))
      (subst (λ (asked : Option Request). ShowsBuffer (w.granted owner (page_resource r.resource.key)) asked (buffer_of c.held r.resource.key)) (is_its_request r found page) (fits.pages r.resource.key).lock))

  pub nothing_waited : WaitsForPages w owner → list_any is_waiting c.held ≡ false → wait_of w.locks owner ≡ None
  nothing_waited pages none = go (wait_of w.locks owner) refl where
    go : (found : Option Request) → wait_of w.locks owner ≡ found → found ≡ None
    go None is = refl
    go (Some r) is = absurd (let no : false ≡ true = sym none ∙ some_waits r is (pages r is) in cc)
