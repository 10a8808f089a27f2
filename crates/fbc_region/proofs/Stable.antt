-- What an owner does in its own cache changes nothing of what a step asks for.
use Rattle.std.proofs.Common.{◌≡◌, ◌∙◌, ap, ℕ, suc, ◌+◌, ◌*◌, ◌≤◌, true, false, List, [], ◌∷◌, length, sym, subst, refl, arith}
use Rattle.fbc_levels.specs.Levels.{join}
use Rattle.fbc_levels.specs.LockState.{granted_of}
use Rattle.fbc_lock_table.specs.Answers.{MayAsk}
use Rattle.fbc_owner_queues.specs.Grants.{first_of}
use Rattle.fbc_legal.specs.Guards.{GuardOfEnter}
use Rattle.fbc_legal.specs.Lives.{name_of}
use Rattle.fbc_world.proofs.WorldLaws.{IsReplayed-world}
use Rattle.fbc_world.specs.declared.asks.Ask.{Ask}
use Rattle.fbc_world.specs.declared.asks.Ask.TheVariants as ask
use Rattle.fbc_world.specs.declared.events.Act.TheVariants.{Local}
use Rattle.fbc_world.specs.declared.events.LocalEvent.{LocalEvent}
use Rattle.fbc_world.specs.History.{History, Recording, happens, recorded}
use Rattle.fbc_world.specs.Locks.{locks_of}
use Rattle.fbc_world.specs.Owners.{is_alive}
use Rattle.fbc_world.specs.PageCell.{blank_file}
use Rattle.fbc_region.specs.Adding.{Adds, UsesRoom, local_events}
use Rattle.fbc_region.specs.Shared.{HasReserved, HasRoom}
use Rattle.fbc_region.specs.Stepping.{MayPerform, MeetsConditions, recorded_scene}
use Rattle.fbc_region.proofs.Grown.{SameLives, lengthened, recorded_adds}

-- Locks, lives and names stay.
pub record Leaves (h later : History) : Type 0 where
  pub locks : locks_of later ≡ locks_of h
  pub same : SameLives h later
  pub names : (owner : ℕ) → name_of later owner ≡ name_of h owner

leaves_none : (h : History) → Leaves h h
leaves_none h = record { locks = refl; same = record { living_is = refl; entered_is = refl; alive_is = λ owner. refl }; names = λ owner. refl }

leaves_one : (h : History) (owner : ℕ) (event : LocalEvent) → Leaves h (happens owner (Local event) false ∷ h)
leaves_one h owner event = record {
  locks = refl;
  same = record { living_is = refl; entered_is = refl; alive_is = λ other. grind (arith) };
  names = λ other. grind (arith);
}

leaves_both : (h mid later : History) → Leaves h mid → Leaves mid later → Leaves h later
leaves_both h mid later a b = record {
  locks = b.locks ∙ a.locks;
  same = record {
    living_is = b.same.living_is ∙ a.same.living_is;
    entered_is = b.same.entered_is ∙ a.same.entered_is;
    alive_is = λ owner. b.same.alive_is owner ∙ a.same.alive_is owner;
  };
  names = λ owner. b.names owner ∙ a.names owner;
}

leaves_all : (h : History) (owner : ℕ) (events : List LocalEvent) → Leaves h (lengthened h (local_events owner events))
leaves_all h owner [] = leaves_none h
leaves_all h owner (event ∷ events) =
    leaves_both h (happens owner (Local event) false ∷ h) (lengthened (happens owner (Local event) false ∷ h) (local_events owner events))
    (leaves_one h owner event) (leaves_all (happens owner (Local event) false ∷ h) owner events)

module _ (before mid : Recording) (who : ℕ) (events : List LocalEvent) (adds : Adds before mid (local_events who events)) where
  pub leaves : Leaves (recorded before) (recorded mid)
  leaves = rw (recorded_adds before mid (local_events who events) adds.longer) (leaves_all (recorded before) who events)

  alive_too : is_alive (recorded before) who ≡ true → is_alive (recorded mid) who ≡ true
  alive_too alive = leaves.same.alive_is who ∙ alive

  enter_too : (name : ℕ) → GuardOfEnter (recorded_scene before) who name → GuardOfEnter (recorded_scene mid) who name
  enter_too name g = record {
    next = g.next ∙ sym (ap suc leaves.same.entered_is);
    few = g.few;
    room = omega (arith, g.room, ap length leaves.same.living_is);
    name_from = g.name_from;
    name_to = g.name_to;
    fresh = λ other alive same. g.fresh other (was other alive) (sym (leaves.names other) ∙ same);
  } where
    was : (other : ℕ) → (recorded_scene mid).world.is_alive other ≡ true → (recorded_scene before).world.is_alive other ≡ true
    was other alive =
        (IsReplayed-world before.shape blank_file (recorded before)).alive_is other ∙ sym (leaves.same.alive_is other)
        ∙ sym ((IsReplayed-world mid.shape blank_file (recorded mid)).alive_is other) ∙ alive

  meets_too : (reach size : ℕ) (asked : Ask) → MeetsConditions reach size before who asked → MeetsConditions reach size mid who asked
  meets_too reach size (ask.Enter buffers name) meets = tt
  meets_too reach size ask.Leave meets = ap (λ s. first_of s who) leaves.locks ∙ meets
  meets_too reach size (ask.Lock resource level wait word) meets = subst (λ s. MayAsk s who resource level) (sym leaves.locks) meets
  meets_too reach size ask.Look meets = tt
  meets_too reach size ask.Withdraw meets = tt
  meets_too reach size (ask.Lower resource level) meets = subst (λ s. join (granted_of s who resource) level ≡ granted_of s who resource) (sym leaves.locks) meets
  meets_too reach size (ask.Read page) meets = tt
  meets_too reach size (ask.Write page cause) meets = meets
  meets_too reach size (ask.Poll above) meets = tt
  meets_too reach size ask.Least meets = tt
  meets_too reach size (ask.Note reply) meets = tt

  pub may_too : (reach size : ℕ) (asked : Ask) → MayPerform reach size before who asked → MayPerform reach size mid who asked
  may_too reach size (ask.Enter buffers name) may = enter_too name may
  may_too reach size ask.Leave may = (alive_too may.0, meets_too reach size ask.Leave may.1)
  may_too reach size (ask.Lock resource level wait word) may = (alive_too may.0, meets_too reach size (ask.Lock resource level wait word) may.1)
  may_too reach size ask.Look may = (alive_too may.0, tt)
  may_too reach size ask.Withdraw may = (alive_too may.0, tt)
  may_too reach size (ask.Lower resource level) may = (alive_too may.0, meets_too reach size (ask.Lower resource level) may.1)
  may_too reach size (ask.Read page) may = (alive_too may.0, tt)
  may_too reach size (ask.Write page cause) may = (alive_too may.0, may.1)
  may_too reach size (ask.Poll above) may = (alive_too may.0, tt)
  may_too reach size ask.Least may = (alive_too may.0, tt)
  may_too reach size (ask.Note reply) may = (alive_too may.0, tt)

-- What uses little room uses no more than a step may.
pub uses_upto : (given after before : Recording) (used : ℕ) → used ≤ 9 → before ≡ given → UsesRoom before after used → UsesRoom given after 9
uses_upto given after before used few seen uses = subst (λ j. UsesRoom j after 9) seen (λ n room. uses n (omega (arith, few, room)))

-- A reserved step is enough for what it adds.
pub step_room : (before mid : Recording) (count : ℕ) → count ≤ 64 → UsesRoom before mid count → HasReserved before 1 → HasRoom mid 9
step_room before mid count few uses room = uses 9 (omega (arith, few, room))

pub step_reserved : (before mid after : Recording) (count : ℕ) → count ≤ 64 → UsesRoom before mid count → UsesRoom mid after 9 → (n : ℕ) → HasReserved before (suc n) → HasReserved after n
step_reserved before mid after count few first second n room = second (n * 73) (first (9 + n * 73) (omega (arith, few, room)))
