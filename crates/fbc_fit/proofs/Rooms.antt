-- No owner asks for more pages than it has room for.
use Rattle.std.proofs.Common.{◌≡◌, ◌∙◌, ap, ℕ, ◌≤◌, ◌<◌, Bool, true, false, not, ◌==◌, if◌then◌else◌, List, [], ◌∷◌, map, length, Option, Some, None, is_some, refl, sym, arith}
use Rattle.std.proofs.lemmas.Bool.Decides.{nat_tests}
use Rattle.std.specs.List.{filter}
use Rattle.std.specs.Option.{option_and_then, option_map_or}
use Rattle.fbc_kinds.specs.declared.shapes.Shape.{Shape}
use Rattle.fbc_kinds.specs.View.{View}
use Rattle.fbc_levels.specs.declared.levels.Level.{Level}
use Rattle.fbc_levels.specs.declared.levels.Level.TheVariants.{Free}
use Rattle.fbc_levels.specs.declared.resources.Request.{Request}
use Rattle.fbc_levels.specs.declared.resources.Resource.{Resource}
use Rattle.fbc_levels.specs.declared.resources.Series.{Series}
use Rattle.fbc_levels.specs.declared.resources.Series.TheVariants as series
use Rattle.fbc_levels.specs.Levels.{is_free, join}
use Rattle.fbc_levels.specs.LockState.{is_of, request_of}
use Rattle.fbc_lock_table.specs.Answers.{answer_to_ask}
use Rattle.fbc_lock_table.specs.Effects.{entered as with_entered, new_request, of_dead, with_granted}
use Rattle.fbc_world.specs.declared.events.Act.{Act}
use Rattle.fbc_world.specs.declared.events.Act.TheVariants.{Ask, Die, Enter, Grant, Local, Lower, Opened, Reap, Withdraw, Write}
use Rattle.fbc_world.specs.declared.events.LocalEvent.TheVariants as local
use Rattle.fbc_world.specs.Frames.{requests_of}
use Rattle.fbc_world.specs.History.{History}
use Rattle.fbc_world.specs.Holdings.{holdings_of, is_page_request_of}
use Rattle.fbc_world.specs.Locks.{lowered_to, with_grant}
use Rattle.fbc_world.specs.World.{World, acted, world_of}
use Rattle.fbc_world.proofs.FirstOf.{filter-kept}
use Rattle.fbc_legal.specs.Guards.{Guard, GuardOfSeries}
use Rattle.fbc_legal.specs.Legal.{IsLegal}
use Rattle.fbc_legal.specs.Lives.{entered}
use Rattle.fbc_legal.specs.Scene.{Scene, scene_of}
use Rattle.fbc_legal.proofs.Exclusion.{AreRequestsTrue}
use Rattle.fbc_legal.proofs.Induction.{requests_true}
use Rattle.fbc_fit.proofs.NewOwners.{none-asked}
use Rattle.fbc_fit.proofs.RequestCounts.{count_filter, count_in, few_asked, few_map, few_there, few_withdrawn}

-- Who waits has asked, and so has who has a level.
waits_there : (found : Option Request) (level : Level) → option_and_then (λ (r : Request). r.waiting) found ≡ Some level → is_some found ≡ true
waits_there None level waits = absurd (cc)
waits_there (Some r) level waits = refl

part_there : (found : Option Request) (level : Level) → is_free level ≡ false → join (option_map_or (λ (r : Request). r.granted) found Free) level ≡ option_map_or (λ (r : Request). r.granted) found Free → is_some found ≡ true
part_there None level held part = grind (arith, held, part)
part_there (Some r) level held part = refl

module _ (at : Scene) (agree : AreRequestsTrue at.world) (actor : ℕ) (other : ℕ) (few : count_in other at.world.locks.requests ≤ at.world.buffers other) where
  abbrev w : World
  w = at.world

  abbrev room : ℕ
  room = w.buffers other

  -- A page is asked for where there is room.
  fresh_page : (series : Series) (key : ℕ) (level : Level) (word : ℕ) → GuardOfSeries at actor series key level word → is_page_request_of other (new_request actor (record { series = series; key = key }) word) ≡ true → count_in other w.locks.requests < room
  fresh_page series.Page key level word g is = go (actor == other) refl is where
    go : (same : Bool) → actor == other ≡ same → is_page_request_of other (new_request actor (record { series = series.Page; key = key }) word) ≡ true → count_in other w.locks.requests < room
    go true same is' =
        let its : actor ≡ other = grind (arith, nat_tests, same) in
        rw its at g.room
    go false differs is' = absurd (grind (arith, nat_tests, differs, is'))
  fresh_page series.Transaction key level word g is = absurd (grind (arith, is))
  fresh_page series.Relation key level word g is = absurd (grind (arith, is))

  -- Who has a level that is lowered has asked already.
  few_lowered : (resource : Resource) (level : Level) → is_free level ≡ false → join (w.granted actor resource) level ≡ w.granted actor resource → count_in other (map (with_granted actor resource level) (with_entered w.locks.requests actor resource 0)) ≤ room
  few_lowered resource level held part =
      few_there other w.locks actor resource (with_granted actor resource level) (λ r. refl) room
      (part_there (request_of w.locks actor resource) level held (rw (agree.agrees actor resource) part)) few

  few_lowering : (resource : Resource) (level : Level) → join (w.granted actor resource) level ≡ w.granted actor resource → count_in other (lowered_to w.locks actor resource level).requests ≤ room
  few_lowering resource Free part = grind (arith, few, count_filter (is_page_request_of other) (λ r. not (is_of actor resource r)) w.locks.requests)
  few_lowering resource level part = few_lowered resource level refl part

  -- After each act there is room for what an owner asks for.
  few_after : (act : Act) (landed : Bool) → Guard at actor act → (entered at.past < actor → requests_of w.locks actor ≡ []) → count_in other (acted at.shape w actor act landed).locks.requests ≤ (acted at.shape w actor act landed).buffers other
  few_after (Opened locks) landed g new = grind (arith)
  few_after (Enter buffers name) landed g new = go (other == actor) refl where
    none : requests_of w.locks actor ≡ []
    none = new (grind (arith, g.next))

    none_counted : count_in actor w.locks.requests ≡ 0
    none_counted =
        ap (λ (rs : List Request). length rs) (sym (filter-kept (is_page_request_of actor) (λ (r : Request). r.owner == actor) (λ x is. grind (arith, is)) w.locks.requests))
        ∙ ap (λ (rs : List Request). length (filter (is_page_request_of actor) rs)) none

    go : (same : Bool) → other == actor ≡ same → count_in other w.locks.requests ≤ (if same then buffers else w.buffers other)
    go true same =
        let its : other ≡ actor = grind (arith, nat_tests, same) in
        rw (its, none_counted) (grind (arith))
    go false differs = few
  few_after (Ask resource level wait word) landed g new =
      few_asked other w.locks actor resource level word room (answer_to_ask w.locks actor resource level wait) (fresh_page resource.series resource.key level word g.asked) few
  few_after (Grant resource level) landed g new = few_there other w.locks actor resource (with_grant actor resource level) (λ r. refl) room (waits_there (request_of w.locks actor resource) level g.wanted) few
  few_after Withdraw landed g new = few_withdrawn other w.locks actor room few
  few_after (Lower resource level) landed g new = few_lowering resource level g.part
  few_after (Reap dead by) landed g new = grind (arith, few, count_filter (is_page_request_of other) (λ (r : Request). not (r.owner == dead)) w.locks.requests)
  few_after (Write page cause true) true g new = few_map other (of_dead actor) (λ r. refl) w.locks.requests room few
  few_after (Write page cause true) false g new = few_map other (of_dead actor) (λ r. refl) w.locks.requests room few
  few_after (Write page cause false) landed g new = few
  few_after Die landed g new = few_map other (of_dead actor) (λ r. refl) w.locks.requests room few
  few_after (Local (local.Edit page edit)) landed g new = few
  few_after (Local (local.Before high low)) landed g new = few
  few_after (Local (local.Pin page)) landed g new = few
  few_after (Local (local.Unpin page)) landed g new = few
  few_after _ landed g new = few

pub asks_few : (shape : Shape) (file : View) (history : History) → IsLegal shape file history → (owner : ℕ) → (holdings_of (world_of shape file history) owner).count ≤ (holdings_of (world_of shape file history) owner).buffers
asks_few shape file [] legal owner = grind (arith)
asks_few shape file (moment ∷ before) legal owner =
    few_after (scene_of shape file before) (requests_true shape file before) moment.event.actor owner (asks_few shape file before legal.0 owner) moment.event.act moment.landed legal.1.guard
    (none-asked shape file before legal.0 moment.event.actor)
