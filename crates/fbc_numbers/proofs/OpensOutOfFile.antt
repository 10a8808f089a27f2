-- The file shows no open number as committed: after every act but a failed write.
use Rattle.std.proofs.Common.{◌≡◌, ◌≢◌, ◌∙◌, ◌==◌, ◌&&◌, ◌∷◌, ◌/◌, ℕ, Bool, true, false, if◌then◌else◌, Some, None, inl, inr, refl, sym, ap, subst, arith}
use Rattle.std.proofs.lemmas.Bool.{cases_eq, false_from_ne_true}
use Rattle.std.proofs.lemmas.Bool.Decides.{nat_tests}
use Rattle.fbc_kinds.specs.declared.edits.Edit.{Edit}
use Rattle.fbc_kinds.specs.declared.pages.Page.{Page}
use Rattle.fbc_kinds.specs.declared.shapes.Shape.{Shape}
use Rattle.fbc_kinds.specs.declared.snapshots.Transaction.{Transaction}
use Rattle.fbc_kinds.specs.Limits.{tip_numbers}
use Rattle.fbc_kinds.specs.View.{View, is_committed_state, size_of, tip_of}
use Rattle.fbc_world.specs.declared.asks.Cause.{Cause}
use Rattle.fbc_world.specs.declared.events.Act.{Act}
use Rattle.fbc_world.specs.declared.events.Act.TheVariants.{Local, Write}
use Rattle.fbc_world.specs.declared.events.LocalEvent.TheVariants as local
use Rattle.fbc_world.specs.History.{History, happens}
use Rattle.fbc_world.specs.Holdings.{is_draft_of}
use Rattle.fbc_world.specs.World.{World, is_mark_on, newest_of, with_edit, world_of, written}
use Rattle.fbc_legal.specs.Legal.{IsLegal}
use Rattle.fbc_legal.specs.Scene.{Scene, scene_of}
use Rattle.fbc_legal.proofs.Exclusion.{is_plain, same_number}
use Rattle.fbc_legal.proofs.HeaderGrowth.{own_from}
use Rattle.fbc_closed_cuts.specs.Upheld.{IsUpheld}
use Rattle.fbc_closed_cuts.specs.Views.{is_edit}
use Rattle.fbc_closed_cuts.proofs.MarksKept.{own_of}
use Rattle.fbc_numbers.specs.Numbers.{CommitsAreMarked, CommitsGrow, IsMarkedBy, MarksAreTrue, NumbersDiffer, is_committed_in}
use Rattle.fbc_numbers.specs.Opens.{OpensAreOutOfFile}
use Rattle.fbc_numbers.proofs.ActCommits.{acts-grow, newest-before}
use Rattle.fbc_numbers.proofs.CommitsMarked.{kept-size, mark-of}
use Rattle.fbc_numbers.proofs.CutFacts.{clash, committed-newest, no_draft, none-closed}
use Rattle.fbc_numbers.proofs.NamedTips.{tip_grown}
use Rattle.fbc_numbers.proofs.Opens.{Begins, open-acted, open-edited, open-written}
use Rattle.fbc_numbers.proofs.OpensNotDead.{next_within}
use Rattle.fbc_numbers.proofs.PageDrafts.{written-kept}
use Rattle.fbc_numbers.proofs.PageStates.{tip_in}
use Rattle.fbc_numbers.proofs.StatesNamed.{committed-begun, same-named}

module _ (at : Scene) (u : IsUpheld at) (true_marks : MarksAreTrue at.shape at.world) (owner page : ℕ) (its : is_draft_of owner (at.world.draft page) ≡ true) where
  abbrev w : World
  w = at.world

  -- A number that a write brings into the file has its mark on that page, and is open no more.
  module _ (other : ℕ) (t : Transaction) (still : (written w owner page).transaction other ≡ Some t) (size : size_of (written w owner page).kept ≡ at.shape.size) where
    over : other ≡ owner → is_mark_on page (w.marked other) ≡ true → ⊥
    over same on = by ((other == owner) && is_mark_on page (w.marked other)) (grind (arith, nat_tests, same, on)) still where
      by : (b : Bool) → b ≡ true → (if b then None else w.transaction other) ≡ Some t → ⊥
      by true key is = cc
      by false key is = cc

    on_page : (mark : ℕ) → w.marked other ≡ Some mark → is_draft_of other (w.draft mark) ≡ true → mark ≡ page → ⊥
    on_page mark marked draft same =
        over
        (same_number other owner (own_of owner other (w.draft page) (own_from owner (w.draft page) its) (subst (λ p. is_draft_of other (w.draft p) ≡ true) same draft)))
        (subst (λ m. is_mark_on page m ≡ true) (sym marked) (grind (arith, nat_tests, same)))

    names : (sequence mark : ℕ) → tip_of w.kept sequence ≡ Some mark → tip_of (written w owner page).kept sequence ≡ Some mark
    names sequence mark named = go (0 == page) refl where
      go : (b : Bool) → 0 == page ≡ b → tip_of (written w owner page).kept sequence ≡ Some mark
      go true same = subst (λ o. tip_in o sequence ≡ Some mark) (sym (written-kept w owner page its 0 same)) (tip_grown (w.kept 0) (newest_of w 0) u.headers sequence mark named)
      go false apart = rw apart named

    elsewhere : (mark : ℕ) → mark ≢ page → (written w owner page).kept mark ≡ w.kept mark
    elsewhere mark apart = grind (arith, nat_tests, apart)

    pub mark-elsewhere : IsMarkedBy w other t.number → is_committed_in (written w owner page).kept t.number ≡ true → is_committed_in w.kept t.number ≡ true
    mark-elsewhere m committed =
        let mark = mark-of at u true_marks owner t.number other m in
        elim (cases_eq mark.0 page) [
          | inl same ↦ absurd (on_page mark.0 mark.1.on.marked mark.1.on.draft same)
          | inr apart ↦
              ap is_committed_state
              (sym (same-named (written w owner page).kept w.kept at.shape.size t.number mark.0 size (kept-size at u) (names (t.number / tip_numbers at.shape.size) mark.0 mark.1.named) mark.1.named (elsewhere mark.0 apart)))
              ∙ committed
        ]

module _ (shape : Shape) (file : View) (before : History) (owner : ℕ) (u : IsUpheld (scene_of shape file before)) (grow : CommitsGrow (world_of shape file before)) (differ : NumbersDiffer (world_of shape file before)) (true_marks : MarksAreTrue shape (world_of shape file before))
    (marked : CommitsAreMarked (world_of shape file before)) (out : OpensAreOutOfFile (world_of shape file before)) where
  abbrev scene : Scene
  scene = scene_of shape file before

  abbrev world : World
  world = scene.world

  -- A write.
  module _ (page : ℕ) (reason : Cause) (landed : Bool) (legal : IsLegal shape file (happens owner (Write page reason false) landed ∷ before)) (v : IsUpheld (scene_of shape file (happens owner (Write page reason false) landed ∷ before))) where
    abbrev after : World
    after = world_of shape file (happens owner (Write page reason false) landed ∷ before)

    out-written : OpensAreOutOfFile after
    out-written other t is = false_from_ne_true (is_committed_in after.kept t.number) (λ committed. go committed (by committed)) where
      was : world.transaction other ≡ Some t
      was = (open-written world owner page other t is).was

      newest : is_committed_in after.kept t.number ≡ true → is_committed_in (newest_of world) t.number ≡ true
      newest committed =
          newest-before shape file before (happens owner (Write page reason false) landed) legal refl grow t.number
          (committed-newest after (acts-grow shape file before (happens owner (Write page reason false) landed) legal refl grow) t.number no_draft (none-closed after) committed)

      by : is_committed_in after.kept t.number ≡ true → (first : ℕ) × IsMarkedBy world first t.number
      by committed = marked t.number (newest committed) (out other t was)

      its_own : (first : ℕ) → IsMarkedBy world first t.number → first ≡ other
      its_own first m = elim (cases_eq first other) [
        | inl same ↦ same
        | inr apart ↦ absurd (differ first other m.t t apart m.open_is was m.number_is)
      ]

      go : is_committed_in after.kept t.number ≡ true → (first : ℕ) × IsMarkedBy world first t.number → ⊥
      go committed m =
          clash (is_committed_in world.kept t.number)
          (mark-elsewhere scene u true_marks owner page legal.1.guard.drafted other t is (kept-size (scene_of shape file (happens owner (Write page reason false) landed ∷ before)) v) (subst (λ o. IsMarkedBy world o t.number) (its_own m.0 m.1) m.1) committed)
          (out other t was)

  -- Any other act leaves the file; what begins is not there yet.
  module _ (act : Act) (landed : Bool) (legal : IsLegal shape file (happens owner act landed ∷ before)) (plain : is_plain act ≡ true) (no_edit : is_edit act ≡ false) where
    abbrev later : World
    later = world_of shape file (happens owner act landed ∷ before)

    new-out : (other : ℕ) (t : Transaction) → Begins scene later owner other t → is_committed_in world.kept t.number ≡ false
    new-out other t begins = false_from_ne_true _ never where
      never : is_committed_in world.kept t.number ≡ true → ⊥
      never committed =
          let below = committed-begun world.kept (u.sound no_draft (none-closed world)) t.number committed in
          let within = next_within scene u no_draft in
          let number_is : t.number ≡ begins.number = ap (λ (x : Transaction). x.number) begins.is in
          absurd (grind (arith, below, within, begins.may.next, number_is))

    out-still : later.kept ≡ world.kept → OpensAreOutOfFile later
    out-still same other t is = elim (open-acted scene owner act landed legal.1.alive legal.1.guard plain no_edit other t is) [
      | inl was ↦ subst (λ (seen : View). is_committed_in seen t.number ≡ false) (sym same) (out other t was.was)
      | inr begins ↦ subst (λ (seen : View). is_committed_in seen t.number ≡ false) (sym same) (new-out other t begins)
    ]

  pub out-acted : (act : Act) (landed : Bool) (legal : IsLegal shape file (happens owner act landed ∷ before)) → IsUpheld (scene_of shape file (happens owner act landed ∷ before)) → is_plain act ≡ true → is_edit act ≡ false
      → OpensAreOutOfFile (world_of shape file (happens owner act landed ∷ before))
  out-acted (Write page reason false) landed legal v plain no_edit = out-written page reason landed legal v
  out-acted (Write page reason true) landed legal v plain no_edit = absurd cc
  out-acted (Local (local.Edit page e)) landed legal v plain no_edit = absurd cc
  out-acted (Local (local.Before high low)) landed legal v plain no_edit = out-still (Local (local.Before high low)) landed legal plain no_edit refl
  out-acted (Local (local.Pin page)) landed legal v plain no_edit = out-still (Local (local.Pin page)) landed legal plain no_edit refl
  out-acted (Local (local.Unpin page)) landed legal v plain no_edit = out-still (Local (local.Unpin page)) landed legal plain no_edit refl
  out-acted act landed legal v plain no_edit = out-still act landed legal plain no_edit refl

-- An edit leaves the file.
pub out-edited : (w : World) (owner page : ℕ) (e : Edit) (content : Page) → w.marked owner ≡ None → OpensAreOutOfFile w → OpensAreOutOfFile (with_edit w owner page e (Some content))
out-edited w owner page e content unmarked out other t is = out other t (open-edited w owner page e content unmarked other t is)
