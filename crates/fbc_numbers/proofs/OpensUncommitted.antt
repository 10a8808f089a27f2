-- An open transaction that is not marked as committed is not so in the newest pages: after every act but a failed write.
use Rattle.std.proofs.Common.{◌≡◌, ◌∙◌, ◌==◌, ◌∷◌, ◌⊎◌, ℕ, Bool, true, false, if◌then◌else◌, Some, None, inl, inr, refl, sym, ap, subst, arith}
use Rattle.std.proofs.lemmas.Bool.{cases_eq, false_from_ne_true}
use Rattle.fbc_kinds.specs.declared.edits.Edit.{Edit}
use Rattle.fbc_kinds.specs.declared.edits.Edit.TheVariants as edit
use Rattle.fbc_kinds.specs.declared.pages.Page.{Page}
use Rattle.fbc_kinds.specs.declared.pages.State.{State}
use Rattle.fbc_kinds.specs.declared.pages.State.TheVariants.{Active, Committed, Dead, Limbo}
use Rattle.fbc_kinds.specs.declared.shapes.Shape.{Shape}
use Rattle.fbc_kinds.specs.declared.snapshots.Transaction.{Transaction}
use Rattle.fbc_kinds.specs.Sound.{IsSound}
use Rattle.fbc_kinds.specs.View.{View, is_committed_state}
use Rattle.fbc_world.specs.declared.events.Act.TheVariants.{Local}
use Rattle.fbc_world.specs.declared.events.LocalEvent.TheVariants as local
use Rattle.fbc_world.specs.History.{History, Moment, happens}
use Rattle.fbc_world.specs.World.{World, newest_of, page_after, with_edit, world_of}
use Rattle.fbc_legal.specs.Guards.{GuardOfEdit}
use Rattle.fbc_legal.specs.Legal.{IsLegal}
use Rattle.fbc_legal.specs.Rows.{IsEditOfRow, IsMark}
use Rattle.fbc_legal.specs.Scene.{Scene, scene_of}
use Rattle.fbc_legal.proofs.Exclusion.{is_plain, same_number}
use Rattle.fbc_closed_cuts.specs.Upheld.{IsUpheld}
use Rattle.fbc_closed_cuts.specs.Views.{is_edit}
use Rattle.fbc_numbers.specs.Numbers.{CommitsGrow, NumbersDiffer, OpensAreUncommitted, is_committed_in}
use Rattle.fbc_numbers.proofs.ActCommits.{newest-before}
use Rattle.fbc_numbers.proofs.CutFacts.{all-closed, all-view, all_drafts, clash}
use Rattle.fbc_numbers.proofs.EditCommits.{committed_by, mark_of, newest-edited}
use Rattle.fbc_numbers.proofs.Opens.{Begins, WasOpen, open-acted, unmarked-edited, open-edited}
use Rattle.fbc_numbers.proofs.StatesNamed.{committed-begun}

-- The newest pages are sound.
pub newest-sound : (at : Scene) → IsUpheld at → IsSound (newest_of at.world)
newest-sound at u = subst IsSound (all-view at.world) (u.sound (all_drafts at.world) (all-closed at.world))

module _ (shape : Shape) (file : View) (before : History) (moment : Moment) (legal : IsLegal shape file (moment ∷ before)) (u : IsUpheld (scene_of shape file before)) (grow : CommitsGrow (world_of shape file before)) (uncommitted : OpensAreUncommitted (world_of shape file before))
    (plain : is_plain moment.event.act ≡ true) (no_edit : is_edit moment.event.act ≡ false) where
  abbrev at : Scene
  at = scene_of shape file before

  abbrev w : World
  w = at.world

  abbrev after : World
  after = world_of shape file (moment ∷ before)

  new-uncommitted : (other : ℕ) (t : Transaction) → Begins at after moment.event.actor other t → is_committed_in (newest_of w) t.number ≡ true → ⊥
  new-uncommitted other t begins committed =
      let below = committed-begun (newest_of w) (newest-sound at u) t.number committed in
      let number_is : t.number ≡ begins.number = ap (λ (v : Transaction). v.number) begins.is in
      absurd (grind (arith, below, begins.may.next, number_is))

  pub uncommitted-acted : OpensAreUncommitted after
  uncommitted-acted other t is unmarked = false_from_ne_true _ (λ committed. go (newest-before shape file before moment legal no_edit grow t.number committed) (open-acted at moment.event.actor moment.event.act moment.landed legal.1.alive legal.1.guard plain no_edit other t is)) where
    go : is_committed_in (newest_of w) t.number ≡ true → WasOpen w after other t ⊎ Begins at after moment.event.actor other t → ⊥
    go committed (inl was) = clash _ committed (uncommitted other t was.was (sym was.mark ∙ unmarked))
    go committed (inr begins) = new-uncommitted other t begins committed

module _ (shape : Shape) (file : View) (before : History) (owner page : ℕ) (e : Edit) (landed : Bool) (legal : IsLegal shape file (happens owner (Local (local.Edit page e)) landed ∷ before)) (u : IsUpheld (scene_of shape file before))
    (grow : CommitsGrow (world_of shape file before)) (uncommitted : OpensAreUncommitted (world_of shape file before)) (differ : NumbersDiffer (world_of shape file before)) (content : Page) (is : page_after shape (world_of shape file before) owner page e ≡ Some content) where
  abbrev scene : Scene
  scene = scene_of shape file before

  abbrev world : World
  world = scene.world

  abbrev now : World
  now = world_of shape file (happens owner (Local (local.Edit page e)) landed ∷ before)

  guard : GuardOfEdit scene owner page e
  guard = legal.1.guard

  module _ (other : ℕ) (t : Transaction) (was : world.transaction other ≡ Some t) where
    -- The number is not marked as committed by an owner of which it is not.
    not_commit : (number : ℕ) (state : State) → IsMark scene owner page number state → t.number ≡ number → (other ≡ owner → state ≡ Committed → ⊥) → is_committed_state state ≡ false
    not_commit number Committed row same never = elim (cases_eq other owner) [
      | inl own ↦ absurd (never own refl)
      | inr apart ↦ absurd (differ other owner t row.0 apart was row.1 (same ∙ row.2))
    ]
    not_commit number Dead row same never = refl
    not_commit number Active row same never = absurd row
    not_commit number Limbo row same never = absurd row

    still : (x : Edit) → e ≡ x → IsEditOfRow scene owner page x → (other ≡ owner → e ≡ edit.Mark t.number Committed → ⊥) → committed_by (mark_of x t.number) false ≡ false
    still (edit.Mark number state) it row never = go (t.number == number) refl where
      go : (b : Bool) → t.number == number ≡ b → committed_by (if b then Some state else None) false ≡ false
      go true same =
          let number_is : t.number ≡ number = same_number t.number number same in
          not_commit number state row number_is (λ own commit. never own (it ∙ ap (λ n. edit.Mark n state) (sym number_is) ∙ ap (edit.Mark t.number) commit))
      go false apart = refl
    still x it row never = refl

  pub uncommitted-edited : OpensAreUncommitted now
  uncommitted-edited other t is_open unmarked =
      let opened : (with_edit world owner page e (Some content)).transaction other ≡ Some t = subst (λ o. (with_edit world owner page e o).transaction other ≡ Some t) is is_open in
      let bare : (with_edit world owner page e (Some content)).marked other ≡ None = subst (λ o. (with_edit world owner page e o).marked other ≡ None) is unmarked in
      let was = open-edited world owner page e content guard.unmarked other t opened in
      let not_made = unmarked-edited world owner page e content guard.unmarked other t opened bare in
      newest-edited shape file before owner page e landed legal u grow uncommitted content is t.number
      ∙ ap (committed_by (mark_of e t.number)) (uncommitted other t was not_made.0)
      ∙ still other t was e refl guard.row not_made.1
