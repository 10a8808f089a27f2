-- An ask in whose way nobody stands, with its grant.
use Rattle.std.proofs.Common.{◌≡◌, ◌∙◌, ap, ℕ, Bool, true, false, ◌&&◌, if◌then◌else◌, ◌∷◌, length, Option, Some, None, is_some, sym, subst, refl, arith}
use Rattle.std.specs.List.{find}
use Rattle.std.specs.Option.{option_and_then, option_map, option_or}
use Rattle.fbc_kinds.specs.declared.shapes.Shape.{Shape}
use Rattle.fbc_kinds.specs.View.{View}
use Rattle.fbc_levels.specs.declared.levels.Level.{Level}
use Rattle.fbc_levels.specs.declared.levels.Level.TheVariants.{Ex}
use Rattle.fbc_levels.specs.declared.resources.Request.{Request}
use Rattle.fbc_levels.specs.declared.resources.Resource.{Resource}
use Rattle.fbc_levels.specs.declared.resources.Series.{Series}
use Rattle.fbc_levels.specs.declared.resources.Series.TheVariants as series
use Rattle.fbc_levels.specs.Levels.{is_exclusive}
use Rattle.fbc_levels.specs.LockState.{LockState, dead_of, holder_of, is_of, request_of}
use Rattle.fbc_levels.specs.Resources.{is_same_series}
use Rattle.fbc_lock_table.specs.declared.answers.Asked.TheVariants.{Granted, Queued}
use Rattle.fbc_lock_table.specs.Answers.{answer_beside, answer_in_full, answer_to_ask, lacks_room}
use Rattle.fbc_lock_table.specs.Effects.{after_ask, entered, new_request, with_waiting}
use Rattle.fbc_legal.specs.Guards.{BeginsWell, GuardOfAsk, GuardOfSeries, MayBegin, word_of}
use Rattle.fbc_legal.specs.Legal.{MayHappen}
use Rattle.fbc_legal.specs.Scene.{Scene, scene_of}
use Rattle.fbc_legal.proofs.Induction.{requests_true}
use Rattle.fbc_legal.proofs.ListTests.{found_image}
use Rattle.fbc_world.specs.declared.events.Act.TheVariants.{Ask, Grant}
use Rattle.fbc_world.specs.History.{History, happens}
use Rattle.fbc_world.specs.Locks.{locks_of, waiting_of}
use Rattle.fbc_world.specs.World.{World, is_begin, world_of}
use Rattle.fbc_world.proofs.Found.{find_map, find_passes}
use Rattle.fbc_world.proofs.Requests.{find_entered, is_key}
use Rattle.fbc_world.proofs.WorldLaws.{IsReplayed-world}
use Rattle.fbc_region.proofs.Asking.{own_key, waits_there}
use Rattle.fbc_region.proofs.Ending.{Ends, follows_rest, rests_after}
use Rattle.fbc_region.proofs.NextGrants.{beside_all}

-- Nobody is in the way where an ask is granted at once.
pub free_way : (s : LockState) (owner : ℕ) (resource : Resource) (level : Level) (wait : Bool) → answer_to_ask s owner resource level wait ≡ Granted → holder_of s owner resource level ≡ None
free_way s owner resource level wait is = go (lacks_room s owner resource) (dead_of s) (holder_of s owner resource level) is where
  beside : (holder : Request) (waits : Bool) → answer_beside waits (Some holder) ≡ Granted → ⊥
  beside holder waits is' = grind (arith, is')

  go : (b : Bool) (buried holder : Option Request) → (if b then answer_in_full (length s.requests) buried else answer_beside wait holder) ≡ Granted → holder ≡ None
  go true None holder is' = absurd cc
  go true (Some r) holder is' = absurd cc
  go false buried None is' = refl
  go false buried (Some r) is' = absurd (beside r wait is')

-- An ask to begin meets what a begin asks.
pub begin_asked : (at : Scene) (owner : ℕ) (kind : Series) (key : ℕ) (level : Level) (word : ℕ) → is_same_series kind series.Transaction && is_exclusive level ≡ true → GuardOfSeries at owner kind key level word
    → MayBegin at owner key word
begin_asked at owner series.Transaction key Ex word high g = g
begin_asked at owner series.Transaction key _ word high g = absurd cc
begin_asked at owner _ key level word high g = absurd cc

module _ (s : LockState) (owner : ℕ) (resource : Resource) (level : Level) (word : ℕ) where
  abbrev queued : LockState
  queued = after_ask s owner resource level word Queued

  -- Who has asked waits for what it asked.
  pub waits_queued : waiting_of queued owner resource ≡ Some level
  waits_queued = go (request_of queued owner resource) refl (waits_there owner resource level word s.requests) where
    as_asked : (x : Request) → is_of owner resource (with_waiting owner resource level x) ≡ true → (with_waiting owner resource level x).waiting ≡ Some level
    as_asked x own = rw own refl

    go : (found : Option Request) → request_of queued owner resource ≡ found → is_some found ≡ true → option_and_then (λ (r : Request). r.waiting) found ≡ Some level
    go None is there = absurd cc
    go (Some r) is there =
        found_image (is_of owner resource) (with_waiting owner resource level) (λ y. is_of owner resource y ≡ true → y.waiting ≡ Some level) as_asked (entered s.requests owner resource word) r is
        (find_passes (is_of owner resource) queued.requests r is)

  -- A new request has the data word that was given.
  new_found : request_of s owner resource ≡ None → option_or (find (is_of owner resource) s.requests) (if is_key owner resource owner resource then Some (new_request owner resource word) else None) ≡ Some (new_request owner resource word)
  new_found none = rw (none, own_key owner resource level word) refl

  pub word_queued : request_of s owner resource ≡ None → word_of (request_of queued owner resource) ≡ word
  word_queued none =
      ap word_of (
      find_map (is_of owner resource) (with_waiting owner resource level) (λ x. refl) (entered s.requests owner resource word)
      ∙ ap (option_map (with_waiting owner resource level)) (find_entered owner resource s.requests owner resource word ∙ new_found none))

module _ (shape : Shape) (file : View) (history : History) (ends : Ends shape file history) (owner : ℕ) (resource : Resource) (level : Level) (wait : Bool) (word : ℕ)
    (alive : (world_of shape file history).is_alive owner ≡ true) (g : GuardOfAsk (scene_of shape file history) owner resource level wait word)
    (free : answer_to_ask (locks_of history) owner resource level wait ≡ Granted)
    (fresh : is_begin resource level ≡ true → request_of (locks_of history) owner resource ≡ None) where
  abbrev w : World
  w = world_of shape file history

  abbrev past : History
  past = happens owner (Ask resource level wait word) false ∷ history

  abbrev at : Scene
  at = scene_of shape file past

  locks_is : w.locks ≡ locks_of history
  locks_is = (IsReplayed-world shape file history).locks_is

  locks_now : at.world.locks ≡ after_ask (locks_of history) owner resource level word Queued
  locks_now = rw (locks_is, free) refl

  wanted : waiting_of at.world.locks owner resource ≡ Some level
  wanted = rw locks_now (waits_queued (locks_of history) owner resource level word)

  nobody : holder_of w.locks owner resource level ≡ None
  nobody = rw locks_is (free_way (locks_of history) owner resource level wait free)

  begun : MayBegin (scene_of shape file history) owner resource.key word → MayBegin at owner resource.key word
  begun m = record { next = m.next; none_open = m.none_open; one_number = m.one_number; header = m.header; exclusive = m.exclusive; tips = m.tips; word_is = m.word_is }

  begins : BeginsWell at owner resource level
  begins high =
      let word_is : word_of (request_of at.world.locks owner resource) ≡ word =
      ap (λ s. word_of (request_of s owner resource)) locks_now ∙ word_queued (locks_of history) owner resource level word (fresh high) in
      subst (λ n. MayBegin at owner resource.key n) (sym word_is) (begun (begin_asked (scene_of shape file history) owner resource.series resource.key level word high g.asked))

  asks : MayHappen (scene_of shape file history) (happens owner (Ask resource level wait word) false)
  asks = record { alive = alive; follows = follows_rest history (happens owner (Ask resource level wait word) false) ends.rests; guard = g }

  grants : MayHappen at (happens owner (Grant resource level) false)
  grants = record {
    alive = alive;
    follows = λ is. record { actor = refl; act = refl };
    guard = record { wanted = wanted; beside = beside_all w (requests_true shape file history) owner resource level nobody; begins = begins };
  }

  pub ends_free : Ends shape file (happens owner (Grant resource level) false ∷ past)
  ends_free = record { legal = ((ends.legal, asks), grants); rests = rests_after past owner (Grant resource level) false refl }
