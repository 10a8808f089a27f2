-- What follows an owner's own moment in a step are grants.
use Rattle.std.proofs.Common.{◌≡◌, ℕ, List, [], ◌∷◌, ◌++◌, refl}
use Rattle.std.specs.List.{AllByRecursion}
use Rattle.fbc_levels.specs.declared.levels.Level.{Level}
use Rattle.fbc_levels.specs.declared.resources.Resource.{Resource}
use Rattle.fbc_levels.specs.LockState.{LockState}
use Rattle.fbc_world.specs.declared.answers.Answer.{Answer}
use Rattle.fbc_world.specs.declared.answers.Answer.TheVariants as answers
use Rattle.fbc_world.specs.declared.events.Act.{Act}
use Rattle.fbc_world.specs.declared.events.Act.TheVariants as act
use Rattle.fbc_world.specs.declared.events.Event.{Event}
use Rattle.fbc_world.specs.Locks.{locks_step}
use Rattle.fbc_region.specs.Granting.{AreGrants, GrantedOn, ended, granted, resources_of}
use Rattle.fbc_region.specs.Steps.{FollowAct, IsGrant, own_grant}

append_grants : (first rest : List Event) → AllByRecursion IsGrant first → AllByRecursion IsGrant rest → AllByRecursion IsGrant (first ++ rest)
append_grants [] rest one other = other
append_grants (event ∷ first) rest one other = (one.0, append_grants first rest one.1 other)

granted_are : (resource : Resource) (s later : LockState) (grants : List Event) → GrantedOn resource s grants later → AllByRecursion IsGrant grants
granted_are resource _ _ _ (ended s later grants none same empty) = rw empty tt
granted_are resource _ _ _ (granted s later grants rest r level next waits is more) =
    rw is (record { owner = r.owner; resource = resource; level = level; is = refl }, granted_are resource _ later rest more)

on_all : (resources : List Resource) (s : LockState) (grants : List Event) → AreGrants resources s grants → AllByRecursion IsGrant grants
on_all [] s grants are = rw are tt
on_all (resource ∷ others) s grants (first, rest, later, split, on, more) =
    rw split (append_grants first rest (granted_are resource s later first on) (on_all others later rest more))

own_is : (who : ℕ) (resource : Resource) (answer : Answer) (own : List Event) (level : Level) → own ≡ own_grant who resource level answer → AllByRecursion IsGrant own
own_is who resource answers.Granted own level is = rw is (record { owner = who; resource = resource; level = level; is = refl }, tt)
own_is who resource _ own level is = rw is tt

pub follow_are_grants : (locks : LockState) (who : ℕ) (answer : Answer) (own : Act) (grants : List Event) → FollowAct locks who answer own grants → AllByRecursion IsGrant grants
follow_are_grants locks who answer (act.Ask resource level wait word) grants follow = own_is who resource answer grants level follow
follow_are_grants locks who answer (act.Lower resource level) grants follow = on_all (resource ∷ []) (locks_step locks who (act.Lower resource level)) grants follow
follow_are_grants locks who answer (act.Reap dead for) grants follow = on_all (resources_of locks dead) (locks_step locks who (act.Reap dead for)) grants follow
follow_are_grants locks who answer _ grants follow = rw follow tt
