-- Every owner with an open transaction is listed among those that are alive.
use Rattle.std.proofs.Common.{◌≡◌, ◌∙◌, ◌==◌, ◌⊎◌, ◌++◌, inl, inr, ℕ, Bool, true, false, not, List, [], ◌∷◌, Option, Some, None, refl, sym, ap, subst, if◌then◌else◌, arith}
use Rattle.std.specs.Prelude.{Contains, filter_map, is_some}
use Rattle.std.specs.List.{cons_option}
use Rattle.std.proofs.lemmas.List.Elements.{Contains-append_left, Contains-append_right}
use Rattle.std.proofs.lemmas.Option.{same_Some}
use Rattle.fbc_kinds.specs.declared.shapes.Shape.{Shape}
use Rattle.fbc_kinds.specs.declared.snapshots.Transaction.{Transaction}
use Rattle.fbc_kinds.specs.View.{View}
use Rattle.fbc_kinds.proofs.Tests.{differ_from_test, same_from_test}
use Rattle.fbc_runs.proofs.Numbers.{first_in, first_or_later, later_in}
use Rattle.fbc_world.specs.declared.events.Act.{Act}
use Rattle.fbc_world.specs.declared.events.Act.TheVariants.{Die, Enter, Leave, Local, Write}
use Rattle.fbc_world.specs.declared.events.LocalEvent.TheVariants as local
use Rattle.fbc_world.specs.Holdings.{is_draft_of}
use Rattle.fbc_world.specs.History.{History}
use Rattle.fbc_world.specs.World.{World, acted, world_of}
use Rattle.fbc_world.specs.declared.drafts.Draft.{Draft}
use Rattle.fbc_legal.specs.Lives.{all_but, living, living_step}
use Rattle.fbc_legal.specs.Scene.{Scene, scene_of}
use Rattle.fbc_numbers.specs.Numbers.{OpenNumbersStand}
use Rattle.fbc_simulation.specs.Beside.{AreOpenIn}
use Rattle.fbc_simulation.specs.Newest.{all_drafts, opens_at}

left_out : (gone other : ℕ) (owners : List ℕ) → ¬ (other ≡ gone) → Contains owners other → Contains (all_but gone owners) other
left_out gone other [] apart at = absurd (omega (arith, at.1))
left_out gone other (o ∷ owners) apart at = go (o == gone) refl (first_or_later o owners other at) (left_out gone other owners apart) where
  go : (b : Bool) → (o == gone) ≡ b → (o ≡ other) ⊎ Contains owners other → (Contains owners other → Contains (all_but gone owners) other)
      → Contains (if not b then o ∷ all_but gone owners else all_but gone owners) other
  go true is (inl same) later = absurd (apart (sym same ∙ same_from_test o gone is))
  go true is (inr at) later = later at
  go false is (inl same) later = rw (← same) (first_in o (all_but gone owners))
  go false is (inr at) later = later_in o (all_but gone owners) other (later at)

module _ (shape : Shape) (w : World) (owners : List ℕ) (owner other : ℕ) (listed : w.is_alive other ≡ true → Contains owners other) where
  -- Who is alive after a death was so before, and is another one.
  after_death : (b : Bool) → (other == owner) ≡ b → (if b then false else w.is_alive other) ≡ true → Contains (all_but owner owners) other
  after_death true is alive = absurd cc
  after_death false is alive = left_out owner other owners (differ_from_test other owner is) (listed alive)

  after_coming : (b : Bool) → (other == owner) ≡ b → (if b then true else w.is_alive other) ≡ true → Contains (owners ++ owner ∷ []) other
  after_coming true is alive = rw (same_from_test other owner is) (Contains-append_right owners (owner ∷ []) owner (first_in owner []))
  after_coming false is alive = Contains-append_left owners (owner ∷ []) other (listed alive)

  listed-acted : (act : Act) (landed : Bool) → (acted shape w owner act landed).is_alive other ≡ true → Contains (living_step owners owner act) other
  listed-acted (Enter buffers name) landed alive = after_coming (other == owner) refl alive
  listed-acted Leave landed alive = after_death (other == owner) refl alive
  listed-acted Die landed alive = after_death (other == owner) refl alive
  listed-acted (Write page cause true) true alive = after_death (other == owner) refl alive
  listed-acted (Write page cause true) false alive = after_death (other == owner) refl alive
  listed-acted (Write page cause false) landed alive = listed alive
  listed-acted (Local (local.Edit page edit)) landed alive = listed alive
  listed-acted (Local (local.Before high low)) landed alive = listed alive
  listed-acted (Local (local.Pin page)) landed alive = listed alive
  listed-acted (Local (local.Unpin page)) landed alive = listed alive
  listed-acted _ landed alive = listed alive

pub alive-listed : (shape : Shape) (file : View) (past : History) (other : ℕ) → (world_of shape file past).is_alive other ≡ true → Contains (living past) other
alive-listed shape file [] other alive = absurd cc
alive-listed shape file (moment ∷ before) other alive =
    listed-acted shape (world_of shape file before) (living before) moment.event.actor other (alive-listed shape file before other) moment.event.act moment.landed alive

-- What is found of the listed ones.
module _ {X Y : Type 0} (find : X → Option Y) where
  pub found-listed : (xs : List X) (x : X) (y : Y) → Contains xs x → find x ≡ Some y → Contains (filter_map find xs) y
  found-listed [] x y at is = absurd (omega (arith, at.1))
  found-listed (first ∷ xs) x y at is = go (find first) refl (first_or_later first xs x at) (λ later. found-listed xs x y later is) where
    go : (found : Option Y) → find first ≡ found → (first ≡ x) ⊎ Contains xs x → (Contains xs x → Contains (filter_map find xs) y) → Contains (cons_option found (filter_map find xs)) y
    go (Some z) here (inl same) later = subst (Contains (z ∷ filter_map find xs)) (same_Some z y (sym here ∙ ap find same ∙ is)) (first_in z (filter_map find xs))
    go None here (inl same) later = absurd (let none : None ≡ Some y = sym here ∙ ap find same ∙ is in cc)
    go (Some z) here (inr at) later = later_in z (filter_map find xs) y (later at)
    go None here (inr at) later = later at

  pub record IsFoundFor (y : Y) : Type 0 where
    pub key : X
    pub is : find key ≡ Some y

  pub listed-found : (xs : List X) (y : Y) → Contains (filter_map find xs) y → IsFoundFor y
  listed-found [] y at = absurd (omega (arith, at.1))
  listed-found (first ∷ xs) y at = go (find first) refl at (listed-found xs y) where
    go : (found : Option Y) → find first ≡ found → Contains (cons_option found (filter_map find xs)) y → (Contains (filter_map find xs) y → IsFoundFor y) → IsFoundFor y
    go None is at later = later at
    go (Some z) is at later = either (first_or_later z (filter_map find xs) y at) where
      either : (z ≡ y) ⊎ Contains (filter_map find xs) y → IsFoundFor y
      either (inl same) = record { key = first; is = is ∙ ap Some same }
      either (inr rest) = later rest

module _ (shape : Shape) (file : View) (past : History) (stand : OpenNumbersStand (world_of shape file past)) where
  abbrev at : Scene
  at = scene_of shape file past

  pub open-listed : (owner : ℕ) (t : Transaction) → at.world.transaction owner ≡ Some t → Contains (opens_at at) t
  open-listed owner t is = found-listed at.world.transaction (living past) owner t (alive-listed shape file past owner (stand owner t is).alive) is

  pub listed-open : (t : Transaction) → Contains (opens_at at) t → at.world.transaction t.owner ≡ Some t
  listed-open t lives =
      let found : IsFoundFor at.world.transaction t = listed-found at.world.transaction (living past) t lives in
      ap at.world.transaction (stand found.key t found.is).own ∙ found.is

  some_draft : (owner : ℕ) (draft : Option Draft) → is_draft_of owner draft ≡ true → is_some draft ≡ true
  some_draft owner None is = cc
  some_draft owner (Some draft) is = refl

  pub all-open : AreOpenIn at.world (all_drafts at.world) (opens_at at)
  all-open = record { each = listed-open; drafts = λ t page lives own. some_draft t.owner (at.world.draft page) own }
