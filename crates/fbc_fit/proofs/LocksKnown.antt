-- What is known of a lock, after each change of the requests.
use Rattle.std.proofs.Common.{◌≡◌, ◌≢◌, ◌∙◌, inl, inr, ap, ℕ, Bool, true, false, not, ◌&&◌, ◌==◌, if◌then◌else◌, List, ◌∷◌, map, Option, Some, None, is_some, refl, sym, subst, arith}
use Rattle.std.proofs.lemmas.Bool.Decides.{nat_tests}
use Rattle.std.specs.List.{filter, find}
use Rattle.std.specs.Option.{option_and_then, option_map, option_map_or, option_or}
use Rattle.fbc_kinds.specs.declared.shapes.Shape.{Shape}
use Rattle.fbc_kinds.specs.View.{View}
use Rattle.fbc_levels.specs.declared.levels.Level.{Level}
use Rattle.fbc_levels.specs.declared.levels.Level.TheVariants.{Free}
use Rattle.fbc_levels.specs.declared.resources.Request.{Request}
use Rattle.fbc_levels.specs.declared.resources.Resource.{Resource}
use Rattle.fbc_levels.specs.LockState.{LockState, is_of, request_of, wait_of}
use Rattle.fbc_levels.specs.Resources.{is_same_resource}
use Rattle.fbc_lock_table.specs.declared.answers.Asked.TheVariants as asked
use Rattle.fbc_lock_table.specs.Effects.{after_ask, entered, new_request, with_granted, with_waiting}
use Rattle.fbc_lock_table.proofs.Ways.{same_resource}
use Rattle.fbc_world.specs.declared.events.Act.{Act}
use Rattle.fbc_world.specs.declared.events.Act.TheVariants as act
use Rattle.fbc_world.specs.History.{History, Moment}
use Rattle.fbc_world.specs.Locks.{asked as asked_by, granted_to, locks_of, locks_step, lowered_to, waiting_of, with_grant}
use Rattle.fbc_world.specs.Owners.{is_alive}
use Rattle.fbc_world.proofs.Found.{find_filter-all, find_filter-none, find_map, find_passes}
use Rattle.fbc_world.proofs.Requests.{find_entered, is_key}
use Rattle.fbc_legal.specs.Legal.{IsLegal}
use Rattle.fbc_legal.proofs.Frame.{requests_left}
use Rattle.fbc_region.specs.Adding.{is_quiet}
use Rattle.fbc_fit.specs.Fit.{KnownLock, ShowsLock}
use Rattle.fbc_fit.specs.KnownLocks.{IsEntered, KnowsLock, asked_lock, held_lock, learnt_lock, lowered_lock}
use Rattle.fbc_fit.proofs.AskedPages.{asked-queued}
use Rattle.fbc_fit.proofs.Entering.{entered-there}
use Rattle.fbc_fit.proofs.LateGrants.{waits-asked}
use Rattle.fbc_fit.proofs.LearntGrants.{waits-nothing}
use Rattle.fbc_fit.proofs.Left.{own-request}

-- What a request that is found tells of its lock.
abbrev pub TellsOf : Option KnownLock → Option Request → Type 0
TellsOf known found = ShowsLock (option_map_or (λ (r : Request). r.granted) found Free) found known

-- A change that leaves what is granted and waited for.
abbrev Leaves : (Request → Request) → Request → Type 0
Leaves f r = ((f r).granted ≡ r.granted) × ((f r).waiting ≡ r.waiting)

pub tells-left : (f : Request → Request) (known : Option KnownLock) (found : Option Request) → ((r : Request) → found ≡ Some r → Leaves f r) → TellsOf known found → TellsOf known (option_map f found)
tells-left f None None leaves tells = tells
tells-left f (Some k) None leaves tells = tells
tells-left f None (Some r) leaves tells = tells
tells-left f (Some k) (Some r) leaves (inl same) = inl ((leaves r refl).0 ∙ same.0, (leaves r refl).1 ∙ same.1)
tells-left f (Some k) (Some r) leaves (inr late) = inr (late.0 ∙ ap Some (sym (leaves r refl).0), (leaves r refl).1 ∙ late.1)

tells-late : (f : Request → Request) (level : Level) (known : Option KnownLock) (found : Option Request) → ((r : Request) → found ≡ Some r → ((f r).granted ≡ level) × ((f r).waiting ≡ None))
    → option_and_then (λ (r : Request). r.waiting) found ≡ Some level → TellsOf known found → TellsOf known (option_map f found)
tells-late f level known None goes waits tells = absurd (cc)
tells-late f level None (Some r) goes waits tells = tells
tells-late f level (Some k) (Some r) goes waits (inl same) = inr (sym same.1 ∙ waits ∙ ap Some (sym (goes r refl).0), (goes r refl).1)
tells-late f level (Some k) (Some r) goes waits (inr late) = absurd (let no : None ≡ Some level = sym late.1 ∙ waits in cc)

tells-learnt : (known : Option KnownLock) (found : Option Request) → ((r : Request) → found ≡ Some r → r.waiting ≡ None) → TellsOf known found → TellsOf (option_map learnt_lock known) found
tells-learnt None None free tells = tells
tells-learnt (Some k) None free tells = tells
tells-learnt None (Some r) free tells = tells
tells-learnt (Some k) (Some r) free (inl same) =
    let none : k.wanted ≡ None = sym same.1 ∙ free r refl in
    inl (rw none same.0, free r refl)
tells-learnt (Some k) (Some r) free (inr late) = inl (rw late.0 refl, late.1)

tells-asked : (known : Option KnownLock) (level : Level) (found : Option Request) (r : Request) → ((x : Request) → found ≡ Some x → x.waiting ≡ None) → TellsOf known found
    → r.granted ≡ option_map_or (λ (x : Request). x.granted) found Free → r.waiting ≡ Some level → TellsOf (Some (asked_lock known level)) (Some r)
tells-asked None level None r free tells granted waits = inl (granted, waits)
tells-asked (Some k) level None r free tells granted waits = absurd tells
tells-asked None level (Some x) r free tells granted waits = absurd tells
tells-asked (Some k) level (Some x) r free (inl same) granted waits =
    let none : k.wanted ≡ None = sym same.1 ∙ free x refl in
    inl (granted ∙ rw none same.0, waits)
tells-asked (Some k) level (Some x) r free (inr late) granted waits = inl (granted ∙ rw late.0 refl, waits)

and-second : (a b : Bool) → a && b ≡ true → b ≡ true
and-second true b is = is
and-second false b is = absurd (cc)

-- A request for one lock is none for another.
other-request : (owner : ℕ) (on resource : Resource) (r : Request) → is_same_resource on resource ≡ false → is_of owner resource r ≡ true → is_of owner on r ≡ false
other-request owner on resource r other its = go (is_of owner on r) refl where
  both : is_of owner on r ≡ true → is_same_resource on resource ≡ true
  both is =
      let first : r.resource ≡ on = same_resource r.resource on (and-second (r.owner == owner) (is_same_resource r.resource on) is) in
      subst (λ (t : Resource). is_same_resource t resource ≡ true) first (and-second (r.owner == owner) (is_same_resource r.resource resource) its)

  go : (b : Bool) → is_of owner on r ≡ b → is_of owner on r ≡ false
  go true is = absurd (let no : false ≡ true = sym other ∙ both is in cc)
  go false is = is

-- Others' acts.
pub knows-left : (shape : Shape) (file : View) (history : History) (moment : Moment) (owner : ℕ) (resource : Resource) (known : Option KnownLock) → IsLegal shape file (moment ∷ history) → is_alive history owner ≡ true
    → moment.event.actor ≢ owner → KnowsLock (locks_of history) owner resource known → KnowsLock (locks_of (moment ∷ history)) owner resource known
knows-left shape file history moment owner resource known legal lives apart =
    let left = requests_left shape file history moment owner legal lives apart in
    let same = sym (own-request (locks_of (moment ∷ history)) owner resource) ∙ ap (find (is_of owner resource)) left ∙ own-request (locks_of history) owner resource in
    subst (TellsOf known) (sym same)

-- Own acts that change no request.
quiet-same : (s : LockState) (owner : ℕ) (done : Act) → is_quiet done ≡ true → locks_step s owner done ≡ s
quiet-same s owner (act.Write page cause true) quiet = absurd (cc)
quiet-same s owner (act.Write page cause false) quiet = refl
quiet-same s owner act.Look quiet = refl
quiet-same s owner (act.Read page fault) quiet = refl
quiet-same s owner (act.Poll above) quiet = refl
quiet-same s owner act.Least quiet = refl
quiet-same s owner (act.Note reply) quiet = refl
quiet-same s owner (act.Local event) quiet = refl
quiet-same s owner _ quiet = absurd (cc)

pub knows-quiet : (s : LockState) (owner : ℕ) (done : Act) (resource : Resource) (known : Option KnownLock) → is_quiet done ≡ true → KnowsLock s owner resource known → KnowsLock (locks_step s owner done) owner resource known
knows-quiet s owner done resource known quiet = subst (λ (t : LockState). KnowsLock t owner resource known) (sym (quiet-same s owner done quiet))

pub knows-learnt : (s : LockState) (owner : ℕ) (resource : Resource) (known : Option KnownLock) → wait_of s owner ≡ None → KnowsLock s owner resource known → KnowsLock s owner resource (option_map learnt_lock known)
knows-learnt s owner resource known free = tells-learnt known (request_of s owner resource) (waits-nothing s owner resource free)

-- A grant, of this lock or of another.
module _ (s : LockState) (owner : ℕ) (on : Resource) (level : Level) (wanted : waiting_of s owner on ≡ Some level) where
  abbrev grants : Request → Request
  grants = with_grant owner on level

  granted-is : (resource : Resource) → request_of (granted_to s owner on level) owner resource ≡ option_map grants (request_of s owner resource)
  granted-is resource =
      ap (λ (rs : List Request). find (is_of owner resource) (map grants rs)) (entered-there s.requests owner on 0 (waits-asked (request_of s owner on) level wanted))
      ∙ find_map (is_of owner resource) grants (λ r. refl) s.requests

  here : (r : Request) → request_of s owner on ≡ Some r → ((grants r).granted ≡ level) × ((grants r).waiting ≡ None)
  here r found = let its : is_of owner on r ≡ true = find_passes (is_of owner on) s.requests r found in (rw its refl, rw its refl)

  there : (resource : Resource) → is_same_resource on resource ≡ false → (r : Request) → request_of s owner resource ≡ Some r → Leaves grants r
  there resource other r found =
      let its : is_of owner resource r ≡ true = find_passes (is_of owner resource) s.requests r found in
      let not_on : is_of owner on r ≡ false = other-request owner on resource r other its in
      (rw not_on refl, rw not_on refl)

  pub knows-granted : (resource : Resource) (known : Option KnownLock) → KnowsLock s owner resource known → KnowsLock (granted_to s owner on level) owner resource known
  knows-granted resource known knows = subst (TellsOf known) (sym (granted-is resource)) (go (is_same_resource on resource) refl) where
    own : TellsOf known (request_of s owner on) → TellsOf known (option_map grants (request_of s owner on))
    own = tells-late grants level known (request_of s owner on) here wanted

    go : (same : Bool) → is_same_resource on resource ≡ same → TellsOf known (option_map grants (request_of s owner resource))
    go true is = subst (λ (t : Resource). TellsOf known (request_of s owner t) → TellsOf known (option_map grants (request_of s owner t))) (same_resource on resource is) own knows
    go false is = tells-left grants known (request_of s owner resource) (there resource is) knows

-- An ask that is granted or waited for without a circle.
pub entered-asks : (s : LockState) (owner : ℕ) (on : Resource) (level : Level) (wait : Bool) (word : ℕ) → IsEntered s owner on level wait word
    → locks_step s owner (act.Ask on level wait word) ≡ after_ask s owner on level word asked.Queued
entered-asks s owner on level wait word (inl granted) = ap (asked_by s owner on level word) granted
entered-asks s owner on level wait word (inr queued) = asked-queued s owner on level word wait queued.0 queued.1

module _ (s : LockState) (owner : ℕ) (on : Resource) (level : Level) (word : ℕ) where
  abbrev waits : Request → Request
  waits = with_waiting owner on level

  abbrev fresh : Request
  fresh = new_request owner on word

  asked-is : (resource : Resource) → request_of (after_ask s owner on level word asked.Queued) owner resource
      ≡ option_map waits (option_or (request_of s owner resource) (if is_key owner on owner resource then Some fresh else None))
  asked-is resource = find_map (is_of owner resource) waits (λ r. refl) (entered s.requests owner on word) ∙ ap (option_map waits) (find_entered owner resource s.requests owner on word)

  key-other : (resource : Resource) → is_same_resource on resource ≡ false → is_key owner on owner resource ≡ false
  key-other resource other = grind (arith, nat_tests, other)

  or-none : (found : Option Request) → option_or found None ≡ found
  or-none None = refl
  or-none (Some r) = refl

  left-there : (resource : Resource) → is_same_resource on resource ≡ false → (r : Request) → request_of s owner resource ≡ Some r → Leaves waits r
  left-there resource other r found =
      let its : is_of owner resource r ≡ true = find_passes (is_of owner resource) s.requests r found in
      let not_on : is_of owner on r ≡ false = other-request owner on resource r other its in
      (refl, rw not_on refl)

  pub knows-asked_elsewhere : (resource : Resource) (known : Option KnownLock) → is_same_resource on resource ≡ false → KnowsLock s owner resource known
      → KnowsLock (after_ask s owner on level word asked.Queued) owner resource known
  knows-asked_elsewhere resource known other knows =
      let found = asked-is resource ∙ ap (λ (b : Bool). option_map waits (option_or (request_of s owner resource) (if b then Some fresh else None))) (key-other resource other) ∙ ap (option_map waits) (or-none (request_of s owner resource)) in
      subst (TellsOf known) (sym found) (tells-left waits known (request_of s owner resource) (left-there resource other) knows)

  key-own : is_key owner on owner on ≡ true
  key-own = grind (arith, nat_tests)

  fresh-on : is_of owner on fresh ≡ true
  fresh-on = grind (arith, nat_tests)

  pub knows-asked : (known : Option KnownLock) → wait_of s owner ≡ None → KnowsLock s owner on known → KnowsLock (after_ask s owner on level word asked.Queued) owner on (Some (asked_lock known level))
  knows-asked known free knows =
      let found = asked-is on ∙ ap (λ (b : Bool). option_map waits (option_or (request_of s owner on) (if b then Some fresh else None))) key-own in
      subst (TellsOf (Some (asked_lock known level))) (sym found) (go (request_of s owner on) refl) where
        go : (asked : Option Request) → request_of s owner on ≡ asked → TellsOf (Some (asked_lock known level)) (option_map waits (option_or asked (Some fresh)))
        go None is = tells-asked known level None (waits fresh) (λ x no. absurd (cc)) (subst (TellsOf known) is knows) refl (rw fresh-on refl)
        go (Some r) is =
            let its : is_of owner on r ≡ true = find_passes (is_of owner on) s.requests r is in
            tells-asked known level (Some r) (waits r) (λ x same. waits-nothing s owner on free x (is ∙ same)) (subst (TellsOf known) is knows) refl (rw its refl)

  -- What is asked for is waited for.
  pub waits-for : option_and_then (λ (r : Request). r.waiting) (request_of (after_ask s owner on level word asked.Queued) owner on) ≡ Some level
  waits-for =
      ap (option_and_then (λ (r : Request). r.waiting)) (asked-is on ∙ ap (λ (b : Bool). option_map waits (option_or (request_of s owner on) (if b then Some fresh else None))) key-own)
      ∙ go (request_of s owner on) refl where
        go : (found : Option Request) → request_of s owner on ≡ found → option_and_then (λ (r : Request). r.waiting) (option_map waits (option_or found (Some fresh))) ≡ Some level
        go None is = rw fresh-on refl
        go (Some r) is =
            let its : is_of owner on r ≡ true = find_passes (is_of owner on) s.requests r is in
            rw its refl

-- A lowering of a lock that is held and not waited for.
module _ (s : LockState) (owner : ℕ) (on : Resource) where
  abbrev lowers : Level → Request → Request
  lowers level = with_granted owner on level

  gone : (resource : Resource) → is_same_resource on resource ≡ false → (r : Request) → is_of owner resource r ≡ true → not (is_of owner on r) ≡ true
  gone resource other r its = rw (other-request owner on resource r other its) refl

  there-asked : (before : KnownLock) → KnowsLock s owner on (Some before) → is_some (request_of s owner on) ≡ true
  there-asked before knows = go (request_of s owner on) knows where
    go : (found : Option Request) → TellsOf (Some before) found → is_some found ≡ true
    go None tells = absurd tells
    go (Some r) tells = refl

  lowered-is : (level : Level) → is_some (request_of s owner on) ≡ true → (resource : Resource)
      → find (is_of owner resource) (map (lowers level) (entered s.requests owner on 0)) ≡ option_map (lowers level) (request_of s owner resource)
  lowered-is level there resource =
      ap (λ (rs : List Request). find (is_of owner resource) (map (lowers level) rs)) (entered-there s.requests owner on 0 there)
      ∙ find_map (is_of owner resource) (lowers level) (λ r. refl) s.requests

  tells-held : (before level : Level) (found : Option Request) → ((r : Request) → found ≡ Some r → is_of owner on r ≡ true) → TellsOf (Some (held_lock before)) found → TellsOf (Some (held_lock level)) (option_map (lowers level) found)
  tells-held before level None its tells = absurd tells
  tells-held before level (Some r) its (inl same) = inl (rw (its r refl) refl, same.1)
  tells-held before level (Some r) its (inr late) = absurd (cc)

  held-at : (before level : Level) → KnowsLock s owner on (Some (held_lock before)) → KnowsLock (record s { requests = map (lowers level) (entered s.requests owner on 0) }) owner on (Some (held_lock level))
  held-at before level knows =
      subst (TellsOf (Some (held_lock level))) (sym (lowered-is level (there-asked (held_lock before) knows) on))
      (tells-held before level (request_of s owner on) (λ r found. find_passes (is_of owner on) s.requests r found) knows)

  none-left : find (is_of owner on) (filter (λ (r : Request). not (is_of owner on r)) s.requests) ≡ None
  none-left = find_filter-none (is_of owner on) (λ (r : Request). not (is_of owner on r)) (λ r is. rw is refl) s.requests

  pub knows-lowered : (before level : Level) → KnowsLock s owner on (Some (held_lock before)) → KnowsLock (lowered_to s owner on level) owner on (lowered_lock level)
  knows-lowered before Free knows = subst (TellsOf None) (sym none-left) refl
  knows-lowered before level knows = held-at before level knows

  elsewhere-at : (before level : Level) (resource : Resource) (known : Option KnownLock) → is_same_resource on resource ≡ false → KnowsLock s owner on (Some (held_lock before)) → KnowsLock s owner resource known
      → KnowsLock (record s { requests = map (lowers level) (entered s.requests owner on 0) }) owner resource known
  elsewhere-at before level resource known other held knows =
      subst (TellsOf known) (sym (lowered-is level (there-asked (held_lock before) held) resource))
      (tells-left (lowers level) known (request_of s owner resource) (λ r found.
      let its : is_of owner resource r ≡ true = find_passes (is_of owner resource) s.requests r found in
      let not_on : is_of owner on r ≡ false = other-request owner on resource r other its in
      (rw not_on refl, refl)) knows)

  pub knows-lowered_elsewhere : (before level : Level) (resource : Resource) (known : Option KnownLock) → is_same_resource on resource ≡ false → KnowsLock s owner on (Some (held_lock before)) → KnowsLock s owner resource known
      → KnowsLock (lowered_to s owner on level) owner resource known
  knows-lowered_elsewhere before Free resource known other held knows =
      subst (TellsOf known) (sym (find_filter-all (is_of owner resource) (λ (r : Request). not (is_of owner on r)) (gone resource other) s.requests)) knows
  knows-lowered_elsewhere before level resource known other held knows = elsewhere-at before level resource known other held knows
