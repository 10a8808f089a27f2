-- Who may begin a number and waits for nothing has no request for it yet.
use Rattle.std.proofs.Common.{◌≡◌, ◌∙◌, ◌⊎◌, inl, inr, ap, ℕ, suc, ◌≤◌, ◌<◌, Bool, true, false, ◌==◌, ◌||◌, if◌then◌else◌, List, [], ◌∷◌, Option, Some, None, sym, subst, refl, arith}
use Rattle.std.specs.List.{AllByRecursion}
use Rattle.std.proofs.lemmas.Bool.Decides.{nat_tests}
use Rattle.fbc_kinds.specs.declared.shapes.Shape.{Shape}
use Rattle.fbc_kinds.specs.Machine.{begun}
use Rattle.fbc_kinds.specs.Meaning.{meaning_of}
use Rattle.fbc_kinds.specs.View.{View}
use Rattle.fbc_levels.specs.declared.levels.Level.{Level}
use Rattle.fbc_levels.specs.declared.levels.Level.TheVariants.{Ex}
use Rattle.fbc_levels.specs.declared.resources.Request.{Request}
use Rattle.fbc_levels.specs.declared.resources.Resource.{Resource}
use Rattle.fbc_levels.specs.declared.resources.Series.TheVariants as series
use Rattle.fbc_levels.specs.LockState.{LockState, granted_of, is_of, request_of}
use Rattle.fbc_lock_table.specs.declared.answers.Asked.TheVariants.{Granted}
use Rattle.fbc_lock_table.specs.Answers.{answer_to_ask}
use Rattle.fbc_lock_table.proofs.Ways.{same_resource}
use Rattle.fbc_legal.specs.Circles.{HasJustAsked}
use Rattle.fbc_legal.specs.Guards.{Guard, GuardOfAsk, MayBegin}
use Rattle.fbc_legal.specs.Legal.{ComesNext, IsGrantOf, IsLegal, MayAct}
use Rattle.fbc_legal.specs.Lives as lives
use Rattle.fbc_legal.specs.Scene.{Scene, number_resource, scene_of}
use Rattle.fbc_legal.proofs.HeaderGrowth.{exclusive-own, newest-own}
use Rattle.fbc_legal.proofs.Induction.{IsCoherent-legal, requests_true}
use Rattle.fbc_legal.proofs.ListTests.{found_any}
use Rattle.fbc_world.specs.declared.events.Act.{Act}
use Rattle.fbc_world.specs.declared.events.Act.TheVariants.{Ask, Die, Enter, Grant, Leave, Lower, Opened, Write}
use Rattle.fbc_world.specs.History.{History, happens}
use Rattle.fbc_world.specs.Locks.{locks_of, locks_step}
use Rattle.fbc_world.specs.Owners.{alive_step}
use Rattle.fbc_world.specs.World.{World, acted, is_begin, newest_of, world_of}
use Rattle.fbc_world.proofs.Found.{find_passes}
use Rattle.fbc_world.proofs.WorldLaws.{IsReplayed-world}
use Rattle.fbc_world.proofs.WorldSteps.{alive-acted}
use Rattle.fbc_region.specs.Kept.{IsOfCome}
use Rattle.fbc_region.proofs.BeginsTold.{no_wait}
use Rattle.fbc_region.proofs.Ending.{Ends}
use Rattle.fbc_region.proofs.Fated.{come_legal}
use Rattle.fbc_region.proofs.NextRises.{next_in}
use Rattle.fbc_region.proofs.OwnHeaders.{grows_legal, is_last, next_for, next_kept}
use Rattle.fbc_region.proofs.OwnNumbers.{HasJustBegun, IsKnown, IsOpenAs, begins_number, rises, stays}
use Rattle.fbc_region.proofs.OwnRequests.{IsNewAsk, IsThere, StaysAsked, has_in, has_step}

last_dies : (act : Act) (alive : Bool) → is_last act ≡ true → alive_step alive act ≡ false
last_dies Die alive last = refl
last_dies (Write page cause failed) alive last = rw last refl
last_dies _ alive last = absurd cc

-- Nobody that comes later has a request.
no_later : (history : History) (owner : ℕ) (resource : Resource) → owner ≡ suc (lives.entered history) → (rs : List Request) → AllByRecursion (IsOfCome history) rs → has_in rs owner resource ≡ true → ⊥
no_later history owner resource next [] come is = cc
no_later history owner resource next (r ∷ rs) come is = go (is_of owner resource r) refl is (no_later history owner resource next rs come.1) where
  go : (b : Bool) → is_of owner resource r ≡ b → b || has_in rs owner resource ≡ true → (has_in rs owner resource ≡ true → ⊥) → ⊥
  go true own is' rest = let its : r.owner ≡ owner = grind (arith, nat_tests, own) in omega (arith, its, next, come.0.1)
  go false other is' rest = rest is'

module _ (shape : Shape) (file : View) (before : History) (legal : IsLegal shape file before) (actor : ℕ) (landed : Bool) (owner number : ℕ) where
  abbrev at : Scene
  at = scene_of shape file before

  abbrev w : World
  w = at.world

  abbrev s : LockState
  s = locks_of before

  abbrev After : Act → World
  After act = acted shape w actor act landed

  abbrev HasAfter : Act → Type 0
  HasAfter act = has_in (locks_step s actor act).requests owner (number_resource number) ≡ true

  locks_is : w.locks ≡ s
  locks_is = (IsReplayed-world shape file before).locks_is

  alive_is : (act : Act) → (After act).is_alive owner ≡ true → (if owner == actor then alive_step (w.is_alive owner) act else w.is_alive owner) ≡ true
  alive_is act alive = turned (actor == owner) refl (sym (alive-acted shape w actor act landed owner) ∙ alive) where
    turned : (b : Bool) → actor == owner ≡ b → (if b then alive_step (w.is_alive owner) act else w.is_alive owner) ≡ true → (if owner == actor then alive_step (w.is_alive owner) act else w.is_alive owner) ≡ true
    turned true its is = let own : owner == actor ≡ true = grind (arith, nat_tests, its) in rw own is
    turned false other is = let others : owner == actor ≡ false = grind (arith, nat_tests, other) in rw others is

  lives_on : (act : Act) → (After act).is_alive owner ≡ true → is_last act ≡ true → owner == actor ≡ false
  lives_on act alive last = go (owner == actor) (alive_is act alive) where
    go : (b : Bool) → (if b then alive_step (w.is_alive owner) act else w.is_alive owner) ≡ true → b ≡ false
    go true is = absurd (let dead : false ≡ true = sym (last_dies act (w.is_alive owner) last) ∙ is in cc)
    go false is = refl

  alive_before : (act : Act) → MayAct at actor act → Guard at actor act → (After act).is_alive owner ≡ true → HasAfter act → w.is_alive owner ≡ true
  alive_before act may g alive has = go (owner == actor) refl (alive_is act alive) where
    own : (a : Act) → owner ≡ actor → MayAct at actor a → Guard at actor a → HasAfter a → w.is_alive owner ≡ true
    own (Opened locks) its may' g' has' = absurd cc
    own (Enter buffers name) its may' g' has' = absurd (no_later before owner (number_resource number) (its ∙ g'.next) s.requests (come_legal shape file before legal) has')
    own _ its may' g' has' = subst (λ o. w.is_alive o ≡ true) (sym its) may'

    go : (b : Bool) → owner == actor ≡ b → (if b then alive_step (w.is_alive owner) act else w.is_alive owner) ≡ true → w.is_alive owner ≡ true
    go true its is = own act (grind (arith, nat_tests, its)) may g has
    go false other is = is

  there : (act : Act) → Guard at actor act → IsThere s actor act
  there (Grant resource level) g = rw locks_is at g.wanted
  there (Lower resource level) g =
      let same : granted_of s actor resource ≡ w.granted actor resource = sym (ap (λ t. granted_of t actor resource) locks_is) ∙ (requests_true shape file before).agrees actor resource in
      rw same g.part
  there (Opened locks) g = tt
  there (Enter buffers name) g = tt
  there Leave g = tt
  there Die g = tt
  there (Ask resource level wait word) g = tt
  there _ g = tt

  opened_by : (act : Act) → actor ≡ owner → act ≡ Grant (number_resource number) Ex → IsOpenAs (After act) owner number
  opened_by act its is = (begun (meaning_of (newest_of w)) actor number, open_is, refl) where
    own : owner == actor ≡ true
    own = grind (arith, nat_tests, its)

    open_is : (After act).transaction owner ≡ Some (begun (meaning_of (newest_of w)) actor number)
    open_is = rw (is, own) refl

  abbrev KnownAfter : Act → Type 0
  KnownAfter act = IsKnown (After act) (happens actor act landed ∷ before) owner number

  -- What was known stays so.
  known_before : (act : Act) → Guard at actor act → ComesNext before (happens actor act landed) → (After act).is_alive owner ≡ true → IsKnown w before owner number → KnownAfter act
  known_before act g follows alive (inl below) = inl (omega (arith, below, risen)) where
    risen : next_for owner (w.kept 0) (w.draft 0) ≤ next_for owner ((After act).kept 0) ((After act).draft 0)
    risen = rises shape file before legal actor landed owner number act g (λ last same. absurd (let other : owner == actor ≡ false = lives_on act alive last in grind (arith, nat_tests, other, same)))
  known_before act g follows alive (inr (inl (t, open_is, same))) = go (stays shape file before legal actor landed owner number t open_is act g (lives_on act alive)) where
    risen : next_for owner (w.kept 0) (w.draft 0) ≤ next_for owner ((After act).kept 0) ((After act).draft 0)
    risen = rises shape file before legal actor landed owner number act g (λ last its. absurd (let other : owner == actor ≡ false = lives_on act alive last in grind (arith, nat_tests, other, its)))

    go : ((After act).transaction owner ≡ Some t) ⊎ (t.number < next_for owner (w.kept 0) (w.draft 0)) → KnownAfter act
    go (inl still) = inr (inl (t, still, same))
    go (inr below) = inl (omega (arith, below, risen, same))
  known_before act g follows alive (inr (inr just)) =
      let grant : IsGrantOf owner (number_resource number) Ex (happens actor act landed) = begins_number before (happens actor act landed) owner number follows just in
      inr (inl (opened_by act grant.actor grant.act))

  -- What has just been asked for is known.
  new_known : (level : Level) (wait : Bool) (word : ℕ) → actor ≡ owner → GuardOfAsk at actor (number_resource number) level wait word → StaysAsked s actor (number_resource number) level wait word
      → KnownAfter (Ask (number_resource number) level wait word)
  new_known Ex wait word its g (inl free) = inr (inr (record { wait = wait; word = word; actor = its; act = refl; free = subst (λ o. answer_to_ask s o (number_resource number) Ex wait ≡ Granted) its free }))
  new_known Ex wait word its g (inr (queued, closes)) =
      absurd (no_wait at actor series.Transaction number Ex word refl g.asked (g.upward (rw locks_is queued) (rw locks_is closes)))
  new_known _ wait word its g asked = inl (begun_below g.asked.begun) where
    begun_below : number < next_in (w.kept 0) → number < next_for owner (w.kept 0) (w.draft 0)
    begun_below below = omega (arith, below, next_kept owner (w.kept 0) (w.draft 0) (grows_legal shape file before legal))

  new_ask : (act : Act) → Guard at actor act → IsNewAsk owner (number_resource number) s actor act → KnownAfter act
  new_ask (Ask r level wait word) g (its, same, asked) =
      subst (λ q. GuardOfAsk at actor q level wait word → StaysAsked s actor q level wait word → KnownAfter (Ask q level wait word)) (sym same) (new_known level wait word its) g asked
  new_ask _ g new = absurd new

  pub known_acted : (act : Act) → MayAct at actor act → Guard at actor act → ComesNext before (happens actor act landed)
      → (w.is_alive owner ≡ true → has_in s.requests owner (number_resource number) ≡ true → IsKnown w before owner number)
      → (After act).is_alive owner ≡ true → HasAfter act → KnownAfter act
  known_acted act may g follows known alive has = go (has_step owner (number_resource number) s actor act (there act g) has) where
    go : (has_in s.requests owner (number_resource number) ≡ true) ⊎ IsNewAsk owner (number_resource number) s actor act → KnownAfter act
    go (inl had) = known_before act g follows alive (known (alive_before act may g alive has) had)
    go (inr new) = new_ask act g new

pub known_legal : (shape : Shape) (file : View) (history : History) → IsLegal shape file history → (owner number : ℕ) → (world_of shape file history).is_alive owner ≡ true
    → has_in (locks_of history).requests owner (number_resource number) ≡ true → IsKnown (world_of shape file history) history owner number
known_legal shape file [] legal owner number alive has = absurd cc
known_legal shape file (moment ∷ before) legal owner number alive has =
    known_acted shape file before legal.0 moment.event.actor moment.landed owner number moment.event.act legal.1.alive legal.1.guard legal.1.follows (known_legal shape file before legal.0 owner number) alive has

-- An owner that begins has just asked for nothing.
just_begun : (history : History) (owner number : ℕ) → HasJustBegun history owner number → HasJustAsked history owner (number_resource number)
just_begun [] owner number just = just
just_begun (last ∷ before) owner number just = record { level = Ex; wait = just.wait; word = just.word; actor = just.actor; act = just.act; free = just.free }

module _ (shape : Shape) (file : View) (history : History) (ends : Ends shape file history) (owner number word : ℕ) (alive : (world_of shape file history).is_alive owner ≡ true)
    (m : MayBegin (scene_of shape file history) owner number word) where
  abbrev v : World
  v = world_of shape file history

  next_is : next_for owner (v.kept 0) (v.draft 0) ≡ number
  next_is = sym (ap next_in (newest-own owner (v.kept 0) (v.draft 0) (exclusive-own v (IsCoherent-legal shape file history ends.legal) owner 0 m.exclusive))) ∙ m.next

  unknown : IsKnown v history owner number → ⊥
  unknown (inl below) = omega (arith, below, next_is)
  unknown (inr (inl (t, open_is, same))) = let clash : None ≡ Some t = sym m.none_open ∙ open_is in cc
  unknown (inr (inr just)) = ends.rests owner (number_resource number) (just_begun history owner number just)

  pub fresh_begin : request_of (locks_of history) owner (number_resource number) ≡ None
  fresh_begin = go (request_of (locks_of history) owner (number_resource number)) refl where
    go : (found : Option Request) → request_of (locks_of history) owner (number_resource number) ≡ found → found ≡ None
    go None is = refl
    go (Some r) is =
        absurd (unknown (known_legal shape file history ends.legal owner number alive
        (found_any (is_of owner (number_resource number)) (is_of owner (number_resource number)) r (find_passes (is_of owner (number_resource number)) (locks_of history).requests r is) (locks_of history).requests is)))

-- The same of a resource that is a number.
pub fresh_ask : (shape : Shape) (file : View) (history : History) → Ends shape file history → (owner : ℕ) (resource : Resource) (level : Level) (word : ℕ) → (world_of shape file history).is_alive owner ≡ true
    → is_begin resource level ≡ true → MayBegin (scene_of shape file history) owner resource.key word → request_of (locks_of history) owner resource ≡ None
fresh_ask shape file history ends owner resource level word alive high m =
    subst (λ r. request_of (locks_of history) owner r ≡ None) (sym (same_resource resource (number_resource resource.key) (grind (arith, nat_tests, high)))) (fresh_begin shape file history ends owner resource.key word alive m)
