-- No view shows an open number as dead: after every act but a failed write.
use Rattle.std.proofs.Common.{◌≡◌, ◌≢◌, ◌≤◌, ◌∙◌, ◌<◌, ◌/◌, ◌%◌, ◌∷◌, ◌⊎◌, ℕ, Bool, true, false, if◌then◌else◌, Option, Some, None, inl, inr, refl, sym, ap, subst, arith}
use Rattle.std.specs.Option.{unwrap_or}
use Rattle.std.proofs.Math.Nat.{div-add-mod'}
use Rattle.std.proofs.Math.Path.{fun_ext}
use Rattle.std.proofs.lemmas.Bool.{cases_eq}
use Rattle.std.proofs.lemmas.Bool.Decides.{nat_tests}
use Rattle.fbc_kinds.specs.declared.edits.Edit.{Edit}
use Rattle.fbc_kinds.specs.declared.edits.Edit.TheVariants as edit
use Rattle.fbc_kinds.specs.declared.pages.Page.{Page}
use Rattle.fbc_kinds.specs.declared.pages.State.{State}
use Rattle.fbc_kinds.specs.declared.pages.State.TheVariants.{Active, Dead}
use Rattle.fbc_kinds.specs.declared.shapes.Shape.{Shape}
use Rattle.fbc_kinds.specs.declared.snapshots.Transaction.{Transaction}
use Rattle.fbc_kinds.specs.Chain.{state_of}
use Rattle.fbc_kinds.specs.Limits.{tip_numbers}
use Rattle.fbc_kinds.specs.Sound.{IsSound}
use Rattle.fbc_kinds.specs.View.{View, next_of, size_of, state_in, tip_of}
use Rattle.fbc_levels.specs.declared.levels.Level.{Level}
use Rattle.fbc_levels.specs.declared.levels.Level.TheVariants.{Ex, Sr}
use Rattle.fbc_levels.specs.Levels.{is_compatible}
use Rattle.fbc_world.specs.declared.events.Act.TheVariants.{Local}
use Rattle.fbc_world.specs.declared.events.LocalEvent.TheVariants as local
use Rattle.fbc_world.specs.History.{History, Moment, happens}
use Rattle.fbc_world.specs.World.{World, newest_of, page_after, with_edit, world_of}
use Rattle.fbc_legal.specs.Legal.{IsLegal}
use Rattle.fbc_legal.specs.Rows.{IsDeadMark, IsEditOfRow}
use Rattle.fbc_legal.specs.Scene.{Scene, number_resource, scene_of}
use Rattle.fbc_legal.specs.Stamps.{stamps_of}
use Rattle.fbc_legal.proofs.Exclusion.{is_plain}
use Rattle.fbc_closed_cuts.specs.Cut.{Cut, IsClosedCut, view}
use Rattle.fbc_closed_cuts.specs.Upheld.{IsUpheld}
use Rattle.fbc_closed_cuts.specs.Views.{IsSameView, cut_before, drafted_in, is_edit}
use Rattle.fbc_closed_cuts.proofs.CutLaws.{no-new-views}
use Rattle.fbc_numbers.specs.Numbers.{CommitsGrow, NumbersDiffer, OpensAreUncommitted}
use Rattle.fbc_numbers.specs.Opens.{OpensAreHeld, OpensAreNotDead}
use Rattle.fbc_numbers.proofs.CutFacts.{all-closed, all-view, all_drafts}
use Rattle.fbc_numbers.proofs.EditStates.{StateComes, edited-closed, edited-state}
use Rattle.fbc_numbers.proofs.NamedTips.{next_grown, next_in}
use Rattle.fbc_numbers.proofs.Opens.{Begins, WasOpen, open-acted, open-edited}
use Rattle.fbc_numbers.proofs.PageStates.{state_at}

-- A number that is dead in a sound view was begun.
pub dead-begun : (seen : View) → IsSound seen → (number : ℕ) → state_of seen number ≡ Dead → number < next_of seen
dead-begun seen sound number is = go (tip_of seen (number / tip_numbers (size_of seen))) refl is where
  there : (page : ℕ) → tip_of seen (number / tip_numbers (size_of seen)) ≡ Some page → (o : Option State) → state_in (seen page) (number % tip_numbers (size_of seen)) ≡ o → unwrap_or o Active ≡ Dead → number < next_of seen
  there page named None shown dead = absurd cc
  there page named (Some s) shown dead =
      subst (λ n. n < next_of seen) (div-add-mod' number (tip_numbers (size_of seen)))
      (sound.states (number / tip_numbers (size_of seen)) page (number % tip_numbers (size_of seen)) s named shown (rw dead refl))

  go : (o : Option ℕ) → tip_of seen (number / tip_numbers (size_of seen)) ≡ o → state_at seen (number % tip_numbers (size_of seen)) o ≡ Dead → number < next_of seen
  go None named dead = absurd cc
  go (Some page) named dead = there page named (state_in (seen page) (number % tip_numbers (size_of seen))) refl dead

-- The next number of a view is at most the newest one.
pub next_within : (at : Scene) → IsUpheld at → (cut : Cut) → next_of (view at.world cut) ≤ next_of (newest_of at.world)
next_within at u cut = go (cut 0) where
  grown : next_in (at.world.kept 0) ≤ next_in (newest_of at.world 0)
  grown = next_grown (at.world.kept 0) (newest_of at.world 0) u.headers

  go : (b : Bool) → next_in (if b then newest_of at.world 0 else at.world.kept 0) ≤ next_of (newest_of at.world)
  go true = grind (arith)
  go false = grown

module _ (shape : Shape) (file : View) (before : History) (moment : Moment) (legal : IsLegal shape file (moment ∷ before)) (u : IsUpheld (scene_of shape file before)) (not_dead : OpensAreNotDead (world_of shape file before))
    (plain : is_plain moment.event.act ≡ true) (no_edit : is_edit moment.event.act ≡ false) where
  abbrev at : Scene
  at = scene_of shape file before

  abbrev w : World
  w = at.world

  abbrev after : World
  after = world_of shape file (moment ∷ before)

  new-not_dead : (other : ℕ) (t : Transaction) → Begins at after moment.event.actor other t → (cut : Cut) → IsClosedCut w cut → state_of (view w cut) t.number ≡ Dead → ⊥
  new-not_dead other t begins cut closed dead =
      let below = dead-begun (view w cut) (u.sound cut closed) t.number dead in
      let within = next_within at u cut in
      let number_is : t.number ≡ begins.number = ap (λ (v : Transaction). v.number) begins.is in
      absurd (grind (arith, below, within, begins.may.next, number_is))

  module _ (cut : Cut) (closed : IsClosedCut after cut) where
    abbrev earlier : Cut
    earlier = cut_before moment.event.act moment.landed cut

    same : IsSameView w (stamps_of shape file before) after (stamps_of shape file (moment ∷ before)) cut earlier
    same = no-new-views shape file before moment cut legal no_edit closed

    was-dead : (number : ℕ) → state_of (view after cut) number ≡ Dead → state_of (view w earlier) number ≡ Dead
    was-dead number dead = subst (λ (v : View). state_of v number ≡ Dead) (fun_ext (λ page. same.pages page)) dead

    dead-before : (other : ℕ) (t : Transaction) → state_of (view after cut) t.number ≡ Dead → WasOpen w after other t ⊎ Begins at after moment.event.actor other t → ⊥
    dead-before other t dead (inl was) = not_dead other t earlier was.was same.closed (was-dead t.number dead)
    dead-before other t dead (inr begins) = new-not_dead other t begins earlier same.closed (was-dead t.number dead)

  pub not_dead-acted : OpensAreNotDead after
  not_dead-acted other t cut is closed dead = dead-before cut closed other t dead (open-acted at moment.event.actor moment.event.act moment.landed legal.1.alive legal.1.guard plain no_edit other t is)

-- SR does not go beside EX.
shared_beside : (a b : Level) → a ≡ Sr → b ≡ Ex → is_compatible a b ≡ true → ⊥
shared_beside a b shared exclusive beside = absurd (grind (arith, shared, exclusive, beside))

module _ (shape : Shape) (file : View) (before : History) (owner page : ℕ) (e : Edit) (landed : Bool) (legal : IsLegal shape file (happens owner (Local (local.Edit page e)) landed ∷ before)) (u : IsUpheld (scene_of shape file before))
    (grow : CommitsGrow (world_of shape file before)) (uncommitted : OpensAreUncommitted (world_of shape file before)) (differ : NumbersDiffer (world_of shape file before)) (held : OpensAreHeld (world_of shape file before)) (not_dead : OpensAreNotDead (world_of shape file before))
    (content : Page) (is : page_after shape (world_of shape file before) owner page e ≡ Some content) where
  abbrev scene : Scene
  scene = scene_of shape file before

  abbrev world : World
  world = scene.world

  abbrev now : World
  now = world_of shape file (happens owner (Local (local.Edit page e)) landed ∷ before)

  -- A mark of dead ends the owner's own transaction.
  ends : (other number : ℕ) (t : Transaction) → other ≡ owner → t.number ≡ number → world.transaction other ≡ Some t → (with_edit world owner page (edit.Mark number Dead) (Some content)).transaction other ≡ None
  ends other number t its same open_is = rw open_is (grind (arith, nat_tests, its, same))

  module _ (other : ℕ) (t : Transaction) (was : world.transaction other ≡ Some t) (still : (with_edit world owner page e (Some content)).transaction other ≡ Some t) (marks : e ≡ edit.Mark t.number Dead) where
    not_own : other ≡ owner → ⊥
    not_own its =
        let over : (with_edit world owner page e (Some content)).transaction other ≡ None = subst (λ x. (with_edit world owner page x (Some content)).transaction other ≡ None) (sym marks) (ends other t.number t its refl was) in
        let both : None ≡ Some t = sym over ∙ still in cc

    no_mark : IsDeadMark scene owner t.number → other ≢ owner → ⊥
    no_mark (inl own) apart = differ other owner t own.0 apart was own.1 own.2
    no_mark (inr shared) apart =
        shared_beside _ _ shared.0 (held other t was) (u.coherent.beside owner other (number_resource t.number) (λ same. apart (sym same)))

    never-marked : ⊥
    never-marked = elim (cases_eq other owner) [
      | inl its ↦ not_own its
      | inr apart ↦ no_mark (subst (IsEditOfRow scene owner page) marks legal.1.guard.row) apart
    ]

  pub not_dead-edited : OpensAreNotDead now
  not_dead-edited other t cut is_open closed dead =
      go (edited-state shape file before owner page e landed legal u grow uncommitted content is cut closed t.number) where
        opened : (with_edit world owner page e (Some content)).transaction other ≡ Some t
        opened = subst (λ o. (with_edit world owner page e o).transaction other ≡ Some t) is is_open

        was : world.transaction other ≡ Some t
        was = open-edited world owner page e content legal.1.guard.unmarked other t opened

        go : StateComes e t.number (state_of (view world (drafted_in world cut)) t.number) (state_of (view now cut) t.number) → ⊥
        go (inl same) = not_dead other t (drafted_in world cut) was (edited-closed shape file before owner page e landed legal u grow uncommitted content is cut closed) (sym same ∙ dead)
        go (inr marks) = never-marked other t was opened (subst (λ s. e ≡ edit.Mark t.number s) dead marks)

-- Nor do the newest pages.
pub newest-not_dead : (w : World) → OpensAreNotDead w → (owner : ℕ) (t : Transaction) → w.transaction owner ≡ Some t → ¬ (state_of (newest_of w) t.number ≡ Dead)
newest-not_dead w not_dead owner t is = subst (λ (v : View). ¬ (state_of v t.number ≡ Dead)) (all-view w) (not_dead owner t (all_drafts w) is (all-closed w))
