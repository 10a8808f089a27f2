-- A snapshot holds its own number, and smaller ones that are committed in the file: after every act but a failed write.
use Rattle.std.proofs.Common.{◌≡◌, ◌≢◌, ◌∙◌, ◌<◌, ◌==◌, ◌||◌, ◌∷◌, ◌/◌, [], ◌⊎◌, ℕ, Bool, true, false, Option, Some, None, inl, inr, refl, sym, ap, subst}
use Rattle.fbc_kinds.specs.declared.edits.Edit.{Edit}
use Rattle.fbc_kinds.specs.declared.pages.Page.{Page}
use Rattle.fbc_kinds.specs.declared.shapes.Shape.{Shape}
use Rattle.fbc_kinds.specs.declared.snapshots.Transaction.{Transaction}
use Rattle.fbc_kinds.specs.Limits.{tip_numbers}
use Rattle.fbc_kinds.specs.Machine.{begun, committed_numbers, is_held}
use Rattle.fbc_kinds.specs.Meaning.{meaning_of, transactions_up_to}
use Rattle.fbc_kinds.specs.View.{View, next_of, tip_of}
use Rattle.fbc_levels.specs.declared.levels.Level.TheVariants.{Ex}
use Rattle.fbc_world.specs.declared.drafts.Draft.{Draft}
use Rattle.fbc_world.specs.declared.events.Act.{Act}
use Rattle.fbc_world.specs.History.{History, happens}
use Rattle.fbc_world.specs.Holdings.{is_draft_of}
use Rattle.fbc_levels.specs.Resources.{page_resource}
use Rattle.fbc_world.specs.World.{World, newest_of, with_edit, world_of}
use Rattle.fbc_legal.specs.Coherent.{IsDraftHeld}
use Rattle.fbc_legal.specs.Guards.{MayBegin}
use Rattle.fbc_legal.specs.Legal.{IsLegal}
use Rattle.fbc_legal.specs.Scene.{Scene, scene_of}
use Rattle.fbc_legal.proofs.Exclusion.{excluded, is_plain, same_number}
use Rattle.fbc_legal.proofs.Pins.{PinsAreHeld}
use Rattle.fbc_closed_cuts.specs.Upheld.{IsUpheld}
use Rattle.fbc_closed_cuts.specs.Views.{is_edit}
use Rattle.fbc_numbers.specs.Numbers.{CommitsAreMarked, CommitsGrow, IsMarkedBy, IsSnapshotNumber, MarksAreTrue, SnapshotsAreTrue, is_committed_in}
use Rattle.fbc_numbers.proofs.ActCommits.{kept-after}
use Rattle.fbc_numbers.proofs.CommitsMarked.{mark-of}
use Rattle.fbc_numbers.proofs.CommittedNumbers.{held-committed}
use Rattle.fbc_numbers.proofs.CutFacts.{clash}
use Rattle.fbc_numbers.proofs.NamedTips.{tip_grown}
use Rattle.fbc_numbers.proofs.Opens.{open-acted, open-edited}
use Rattle.fbc_numbers.proofs.OpensUncommitted.{newest-sound}
use Rattle.fbc_numbers.proofs.StatesNamed.{committed-begun}

module _ (at : Scene) (u : IsUpheld at) (pins : PinsAreHeld at.world) (marked : CommitsAreMarked at.world) (true_marks : MarksAreTrue at.shape at.world) (owner begins word : ℕ) (may : MayBegin at owner begins word) where
  abbrev w : World
  w = at.world

  draft_held : (other page : ℕ) → is_draft_of other (w.draft page) ≡ true → w.granted other (page_resource page) ≡ Ex
  draft_held other page its = go (w.draft page) its (u.coherent.drafts page) where
    go : (d : Option Draft) → is_draft_of other d ≡ true → IsDraftHeld w page d → w.granted other (page_resource page) ≡ Ex
    go None own held = absurd cc
    go (Some d) own held = subst (λ o. w.granted o (page_resource page) ≡ Ex) (same_number d.owner other own) held.1

  -- Who begins has every transaction inventory page pinned, so nobody has a mark in a draft.
  no_mark : (number other : ℕ) → IsMarkedBy w other number → ⊥
  no_mark number other m =
      let mark = mark-of at u true_marks owner number other m in
      let named : tip_of (newest_of w) (number / tip_numbers at.shape.size) ≡ Some mark.0 = tip_grown (w.kept 0) (newest_of w 0) u.headers (number / tip_numbers at.shape.size) mark.0 mark.1.named in
      let held = pins owner mark.0 (may.tips (number / tip_numbers at.shape.size) mark.0 named) in
      clash _ held.usable (excluded w u.coherent other owner (page_resource mark.0) apart (draft_held other mark.0 mark.1.on.draft)) where
        apart : other ≢ owner
        apart same = let both : None ≡ Some m.t = sym may.none_open ∙ ap w.transaction (sym same) ∙ m.open_is in cc

  committed-kept : (number : ℕ) → is_committed_in (newest_of w) number ≡ true → is_committed_in w.kept number ≡ true
  committed-kept number committed = go (is_committed_in w.kept number) refl where
    go : (b : Bool) → is_committed_in w.kept number ≡ b → b ≡ true
    go true is = refl
    go false is = let by = marked number committed is in absurd (no_mark number by.0 by.1)

  -- A snapshot as it is taken.
  pub taken : (number : ℕ) → is_held (begun (meaning_of (newest_of w)) owner begins).snapshot number ≡ true → (number ≡ begins) ⊎ ((is_committed_in w.kept number ≡ true) × (number < begins))
  taken number = go (begins == number) refl where
    go : (b : Bool) → begins == number ≡ b → (b || is_held (committed_numbers (transactions_up_to (newest_of w) [] (next_of (newest_of w)))) number) ≡ true → (number ≡ begins) ⊎ ((is_committed_in w.kept number ≡ true) × (number < begins))
    go true same held = inl (sym (same_number begins number same))
    go false apart held =
        let committed = held-committed (newest_of w) number (next_of (newest_of w)) held in
        inr (committed-kept number committed, subst (λ n. number < n) may.next (committed-begun (newest_of w) (newest-sound at u) number committed))

module _ (shape : Shape) (file : View) (before : History) (owner : ℕ) (act : Act) (landed : Bool) (legal : IsLegal shape file (happens owner act landed ∷ before)) (u : IsUpheld (scene_of shape file before)) (pins : PinsAreHeld (world_of shape file before))
    (grow : CommitsGrow (world_of shape file before)) (true_marks : MarksAreTrue shape (world_of shape file before)) (marked : CommitsAreMarked (world_of shape file before)) (snapshots : SnapshotsAreTrue (world_of shape file before)) (plain : is_plain act ≡ true) (no_edit : is_edit act ≡ false) where
  abbrev scene : Scene
  scene = scene_of shape file before

  abbrev after : World
  after = world_of shape file (happens owner act landed ∷ before)

  kept_on : (t : Transaction) (number : ℕ) → IsSnapshotNumber scene.world t number → IsSnapshotNumber after t number
  kept_on t number (inl own) = inl own
  kept_on t number (inr held) = inr (kept-after shape file before (happens owner act landed) legal no_edit grow number held.0, held.1)

  pub snapshots-acted : SnapshotsAreTrue after
  snapshots-acted other t number is held = elim (open-acted scene owner act landed legal.1.alive legal.1.guard plain no_edit other t is) [
    | inl was ↦ kept_on t number (snapshots other t number was.was held)
    | inr begins ↦
        subst (λ v. is_held v.snapshot number ≡ true → IsSnapshotNumber after v number) (sym begins.is)
        (λ h. kept_on (begun (meaning_of (newest_of scene.world)) owner begins.number) number (taken scene u pins marked true_marks owner begins.number begins.word begins.may number h))
        held
  ]

-- An edit takes no snapshot, and leaves the file.
pub snapshots-edited : (w : World) (owner page : ℕ) (e : Edit) (content : Page) → w.marked owner ≡ None → SnapshotsAreTrue w → SnapshotsAreTrue (with_edit w owner page e (Some content))
snapshots-edited w owner page e content unmarked snapshots other t number is held = snapshots other t number (open-edited w owner page e content unmarked other t is) held
