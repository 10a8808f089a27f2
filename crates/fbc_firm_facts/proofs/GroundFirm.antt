-- Grounds are made of names, and stay through every event of others, and through their owner's own events that are no edits.
use Rattle.std.proofs.Common.{◌≡◌, ◌≢◌, ◌∙◌, ◌∷◌, ◌==◌, ◌&&◌, ℕ, Bool, true, false, if◌then◌else◌, Option, Some, None, refl, sym, subst}
use Rattle.fbc_kinds.specs.declared.shapes.Shape.{Shape}
use Rattle.fbc_kinds.specs.declared.snapshots.Transaction.{Transaction}
use Rattle.fbc_kinds.specs.Machine.{Machine, is_held, seen_by}
use Rattle.fbc_kinds.specs.View.{View}
use Rattle.fbc_page_edits.proofs.HeaderStands.{size_is}
use Rattle.fbc_world.specs.declared.events.Act.{Act}
use Rattle.fbc_world.specs.declared.events.Act.TheVariants as act
use Rattle.fbc_world.specs.declared.events.LocalEvent.TheVariants as local
use Rattle.fbc_world.specs.History.{History, Moment, happens}
use Rattle.fbc_world.specs.World.{World, acted, is_begin, world_of}
use Rattle.fbc_legal.specs.Guards.{Guard}
use Rattle.fbc_legal.specs.Legal.{IsLegal}
use Rattle.fbc_legal.specs.Scene.{Scene, scene_of}
use Rattle.fbc_closed_cuts.specs.Cut.{view}
use Rattle.fbc_closed_cuts.specs.Firm.{IsFirm}
use Rattle.fbc_closed_cuts.specs.Upheld.{IsUpheld}
use Rattle.fbc_closed_cuts.specs.Views.{is_edit}
use Rattle.fbc_soundness.specs.Whole.{IsWhole}
use Rattle.fbc_simulation.specs.Beside.{machine_of}
use Rattle.fbc_simulation.specs.Simulated.{IsSimulated}
use Rattle.fbc_notes.specs.RowNames.{names_row}
use Rattle.fbc_firm_facts.specs.Grounds.{IsGround, IsGroundIn}
use Rattle.fbc_firm_facts.proofs.EditsLeave.{edits-leave}
use Rattle.fbc_firm_facts.proofs.EventsLeave.{others-keep}
use Rattle.fbc_firm_facts.proofs.GroundRows.{by-row}
use Rattle.fbc_firm_facts.proofs.GroundStays.{ground-on}
use Rattle.fbc_firm_facts.proofs.NamesStay.{row-named}
use Rattle.fbc_firm_facts.proofs.OwnActs.{died, own-acts-keep}

-- A page that every own view names is a ground.
pub named-ground : (shape : Shape) (file : View) (history : History) → IsUpheld (scene_of shape file history) → (owner relation sequence pointer page : ℕ)
    → IsFirm (world_of shape file history) owner (names_row shape relation sequence pointer page) → (t : Transaction) → IsGround shape file history owner relation sequence page t
named-ground shape file history u owner relation sequence pointer page firm t cut own =
    let seen : View = view (world_of shape file history) cut in
    IsGroundIn.named
    (by-row shape seen (size_is shape seen (u.of_shape cut own.closed) (u.sound cut own.closed)) relation sequence pointer page (row-named shape relation sequence pointer page seen (firm cut own)))

-- Machines on which the owner sees the same have the same grounds.
same-ground : (shape : Shape) (machine later : Machine) (owner : ℕ) (held : ℕ → Bool) (relation sequence page : ℕ) (seen : View)
    → ((r row : ℕ) → seen_by later owner r row ≡ seen_by machine owner r row)
    → IsGroundIn shape machine owner held relation sequence page seen → IsGroundIn shape later owner held relation sequence page seen
same-ground shape machine later owner held relation sequence page seen same (IsGroundIn.named reached) = IsGroundIn.named reached
same-ground shape machine later owner held relation sequence page seen same (IsGroundIn.bare none lone) =
    IsGroundIn.bare (λ row its. same relation row ∙ none row its) lone

module _ (shape : Shape) (file : View) (before : History) (whole : IsWhole (scene_of shape file before)) (simulated : IsSimulated (scene_of shape file before))
    (owner actor : ℕ) (landed : Bool) (done : Act) (legal : IsLegal shape file (happens actor done landed ∷ before)) (apart : actor ≢ owner)
    (t : Transaction) (open_is : (world_of shape file before).transaction owner ≡ Some t) (relation sequence page : ℕ)
    (same_seen : (r row : ℕ) → seen_by (machine_of shape file (happens actor done landed ∷ before)) owner r row ≡ seen_by (machine_of shape file before) owner r row) where
  abbrev IsGroundOf : View → Type 0
  IsGroundOf seen = IsGroundIn shape (machine_of shape file before) owner (is_held t.snapshot) relation sequence page seen

  pub ground-kept : IsGround shape file before owner relation sequence page t → IsGround shape file (happens actor done landed ∷ before) owner relation sequence page t
  ground-kept ground cut own =
      same-ground shape (machine_of shape file before) (machine_of shape file (happens actor done landed ∷ before)) owner (is_held t.snapshot) relation sequence page (view (world_of shape file (happens actor done landed ∷ before)) cut) same_seen
      (others-keep shape file before owner IsGroundOf actor landed apart done legal
      (λ number e is edits holds.
      edits-leave shape file before actor number e landed edits whole.order.upheld owner IsGroundOf
      (λ content shown seen. ground-on shape file before legal.0 whole simulated actor owner number e apart t open_is content shown seen relation sequence page) holds)
      ground cut own)

-- An owner's own events that are no edits leave its open transaction, while it lives and has marked none.
module _ (at : Scene) (owner : ℕ) (t : Transaction) (open_is : at.world.transaction owner ≡ Some t) (unmarked : at.world.marked owner ≡ None) where
  abbrev w : World
  w = at.world

  left : (a : Bool) (new old : Option Transaction) → (if a && false then new else old) ≡ old
  left true new old = refl
  left false new old = refl

  still-open : (done : Act) (landed : Bool) → Guard at owner done → is_edit done ≡ false → (acted at.shape w owner done landed).is_alive owner ≡ true → (acted at.shape w owner done landed).transaction owner ≡ Some t
  still-open (act.Grant resource level) landed g plain lives = go (is_begin resource level) refl where
    go : (b : Bool) → is_begin resource level ≡ b → (acted at.shape w owner (act.Grant resource level) landed).transaction owner ≡ Some t
    go true begins = absurd (let both : Some t ≡ None = sym open_is ∙ (g.begins begins).none_open in cc)
    go false others = rw others (left (owner == owner) _ (w.transaction owner) ∙ open_is)
  still-open (act.Write number reason true) true g plain lives = absurd (died at.shape w owner (w.is_alive owner) lives)
  still-open (act.Write number reason true) false g plain lives = absurd (died at.shape w owner (w.is_alive owner) lives)
  still-open (act.Write number reason false) landed g plain lives = rw unmarked (left (owner == owner) None (w.transaction owner) ∙ open_is)
  still-open act.Die landed g plain lives = absurd (died at.shape w owner (w.is_alive owner) lives)
  still-open (act.Local (local.Edit number e)) landed g plain lives = absurd cc
  still-open (act.Local (local.Before high low)) landed g plain lives = open_is
  still-open (act.Local (local.Pin page)) landed g plain lives = open_is
  still-open (act.Local (local.Unpin page)) landed g plain lives = open_is
  still-open _ landed g plain lives = open_is

module _ (shape : Shape) (file : View) (before : History) (moment : Moment) (t : Transaction) (legal : IsLegal shape file (moment ∷ before)) (plain : is_edit moment.event.act ≡ false)
    (lives : (world_of shape file (moment ∷ before)).is_alive moment.event.actor ≡ true)
    (open_is : (world_of shape file before).transaction moment.event.actor ≡ Some t) (unmarked : (world_of shape file before).marked moment.event.actor ≡ None) where
  abbrev owner : ℕ
  owner = moment.event.actor

  pub open-stays : (world_of shape file (moment ∷ before)).transaction owner ≡ Some t
  open-stays = still-open (scene_of shape file before) owner t open_is unmarked moment.event.act moment.landed legal.1.guard plain lives

  pub own-ground-kept : machine_of shape file (moment ∷ before) ≡ machine_of shape file before → (relation sequence page : ℕ)
      → IsGround shape file before owner relation sequence page t → IsGround shape file (moment ∷ before) owner relation sequence page t
  own-ground-kept same relation sequence page ground cut own =
      subst (λ (m : Machine). IsGroundIn shape m owner (is_held t.snapshot) relation sequence page (view (world_of shape file (moment ∷ before)) cut)) (sym same)
      (own-acts-keep shape file before moment legal plain (IsGroundIn shape (machine_of shape file before) owner (is_held t.snapshot) relation sequence page) lives ground cut own)
