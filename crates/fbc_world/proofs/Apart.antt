-- No owner has two requests for one resource.
use Rattle.std.proofs.Common.{◌≡◌, ◌∙◌, ℕ, Bool, true, false, not, ◌==◌, if◌then◌else◌, List, [], ◌∷◌, ◌++◌, map, get_or, Option, Some, None, is_some, refl, sym, arith}
use Rattle.std.specs.List.{All, AllPairs, filter, find}
use Rattle.std.proofs.lemmas.List.Kept.{AllPairs-filter}
use Rattle.std.proofs.lemmas.List.Quantifiers.{all_pairs_push}
use Rattle.fbc_levels.specs.declared.levels.Level.{Level}
use Rattle.fbc_levels.specs.declared.levels.Level.TheVariants.{Free}
use Rattle.fbc_levels.specs.declared.resources.Request.{Request}
use Rattle.fbc_levels.specs.declared.resources.Resource.{Resource}
use Rattle.fbc_levels.specs.LockState.{LockState, AreApart, is_of}
use Rattle.fbc_lock_table.specs.declared.answers.Asked.{Asked}
use Rattle.fbc_lock_table.specs.declared.answers.Asked.TheVariants.{Granted, Queued}
use Rattle.fbc_lock_table.specs.Answers.{answer_to_ask}
use Rattle.fbc_lock_table.specs.Effects.{after_ask, entered, is_bare_wait_of, new_request, of_dead, with_granted, with_waiting, without_wait, withdrawn}
use Rattle.fbc_lock_table.proofs.Pairs.{AllPairs-map, NotBoth, none-find}
use Rattle.fbc_lock_table.proofs.Ways.{apart-new, is_of-owner, is_of-resource}
use Rattle.fbc_owner_queues.specs.Circles.{circle_from}
use Rattle.fbc_world.specs.declared.events.Act.{Act}
use Rattle.fbc_world.specs.declared.events.Act.TheVariants.{Ask, Die, Grant, Lower, Opened, Reap, Withdraw, Write}
use Rattle.fbc_world.specs.History.{History}
use Rattle.fbc_world.specs.Locks.{asked, locks_of, locks_step, lowered_to, unless_circle, with_grant}

abbrev pub IsApart : LockState → Type 0
IsApart s = AllPairs AreApart s.requests

-- Nothing is asked of single requests.
abbrev Any : Request → Type 0
Any r = Unit {0}

any : (rs : List Request) → All Any rs
any rs k d within = tt

-- One request at most is found under a key.
pub once : (owner : ℕ) (resource : Resource) (rs : List Request) → AllPairs AreApart rs → AllPairs (NotBoth (is_of owner resource)) rs
once owner resource rs apart i j d below within a b =
    apart i j d below within
    (is_of-owner owner resource (get_or rs i d) a ∙ sym (is_of-owner owner resource (get_or rs j d) b))
    (is_of-resource owner resource (get_or rs i d) a ∙ sym (is_of-resource owner resource (get_or rs j d) b))

apart_nothing : AllPairs AreApart []
apart_nothing i j d below within = grind (arith)

-- The changes.
apart_map : (f : Request → Request) → ((r t : Request) → AreApart r t → AreApart (f r) (f t)) → (rs : List Request) → AllPairs AreApart rs → AllPairs AreApart (map f rs)
apart_map f keeps rs apart = AllPairs-map AreApart AreApart Any f (λ r t _ _ h. keeps r t h) rs (any rs) apart

pub apart_entered : (rs : List Request) (owner : ℕ) (resource : Resource) (word : ℕ) → AllPairs AreApart rs → AllPairs AreApart (entered rs owner resource word)
apart_entered rs owner resource word apart = go (find (is_of owner resource) rs) refl where
  go : (found : Option Request) → find (is_of owner resource) rs ≡ found → AllPairs AreApart (if is_some found then rs else rs ++ new_request owner resource word ∷ [])
  go None is = all_pairs_push AreApart rs (new_request owner resource word) apart (λ k d within. apart-new owner resource word (get_or rs k d) (none-find (is_of owner resource) rs is k d within))
  go (Some r) is = apart

pub apart_queued : (s : LockState) (owner : ℕ) (resource : Resource) (level : Level) (word : ℕ) → IsApart s → IsApart (after_ask s owner resource level word Queued)
apart_queued s owner resource level word apart =
    apart_map (with_waiting owner resource level) (λ r t h. h) (entered s.requests owner resource word) (apart_entered s.requests owner resource word apart)

apart_withdrawn : (s : LockState) (owner : ℕ) → IsApart s → IsApart (withdrawn s owner)
apart_withdrawn s owner apart =
    apart_map (without_wait owner) (λ r t h. h) (filter (λ r. not (is_bare_wait_of owner r)) s.requests) (AllPairs-filter AreApart (λ r. not (is_bare_wait_of owner r)) s.requests apart)

apart_unless : (s : LockState) (owner : ℕ) → IsApart s → IsApart (unless_circle s owner)
apart_unless s owner apart = go (is_some (circle_from s owner)) where
  go : (b : Bool) → IsApart (if b then withdrawn s owner else s)
  go true = apart_withdrawn s owner apart
  go false = apart

apart_asked : (s : LockState) (owner : ℕ) (resource : Resource) (level : Level) (word : ℕ) (answer : Asked) → IsApart s → IsApart (asked s owner resource level word answer)
apart_asked s owner resource level word Granted apart = apart_queued s owner resource level word apart
apart_asked s owner resource level word Queued apart = apart_unless (after_ask s owner resource level word Queued) owner (apart_queued s owner resource level word apart)
apart_asked s owner resource level word _ apart = apart

apart_lowered : (s : LockState) (owner : ℕ) (resource : Resource) (level : Level) → IsApart s → IsApart (lowered_to s owner resource level)
apart_lowered s owner resource Free apart = AllPairs-filter AreApart (λ r. not (is_of owner resource r)) s.requests apart
apart_lowered s owner resource _ apart =
    apart_map (with_granted owner resource _) (λ r t h. h) (entered s.requests owner resource 0) (apart_entered s.requests owner resource 0 apart)

apart_died : (s : LockState) (owner : ℕ) → IsApart s → AllPairs AreApart (map (of_dead owner) s.requests)
apart_died s owner apart = apart_map (of_dead owner) (λ r t h. h) s.requests apart

pub apart-step : (s : LockState) (owner : ℕ) (act : Act) → IsApart s → IsApart (locks_step s owner act)
apart-step s owner (Opened locks) apart = apart_nothing
apart-step s owner (Ask resource level wait word) apart = apart_asked s owner resource level word (answer_to_ask s owner resource level wait) apart
apart-step s owner (Grant resource level) apart =
    apart_map (with_grant owner resource level) (λ r t h. h) (entered s.requests owner resource 0) (apart_entered s.requests owner resource 0 apart)
apart-step s owner Withdraw apart = apart_withdrawn s owner apart
apart-step s owner (Lower resource level) apart = apart_lowered s owner resource level apart
apart-step s owner (Reap dead by) apart = AllPairs-filter AreApart (λ r. not (r.owner == dead)) s.requests apart
apart-step s owner (Write page cause true) apart = apart_died s owner apart
apart-step s owner (Write page cause false) apart = apart
apart-step s owner Die apart = apart_died s owner apart
apart-step s owner _ apart = apart

pub apart-history : (history : History) → IsApart (locks_of history)
apart-history [] = apart_nothing
apart-history (moment ∷ before) = apart-step (locks_of before) moment.event.actor moment.event.act (apart-history before)
