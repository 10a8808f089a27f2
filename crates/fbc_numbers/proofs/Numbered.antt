-- What legal histories keep of numbers: before the first event, after each event, and so after all.
use Rattle.std.proofs.Common.{◌≡◌, ◌∙◌, ◌∷◌, [], ℕ, Bool, true, false, Option, Some, None, is_some, refl, sym, subst}
use Rattle.fbc_kinds.specs.declared.edits.Edit.{Edit}
use Rattle.fbc_kinds.specs.declared.pages.Page.{Page}
use Rattle.fbc_kinds.specs.declared.shapes.Shape.{Shape}
use Rattle.fbc_kinds.specs.View.{View}
use Rattle.fbc_levels.specs.declared.levels.Level.{Level}
use Rattle.fbc_levels.specs.declared.resources.Resource.{Resource}
use Rattle.fbc_page_edits.specs.Allowed.{Fits}
use Rattle.fbc_world.specs.declared.asks.Cause.{Cause}
use Rattle.fbc_world.specs.declared.events.Act.{Act}
use Rattle.fbc_world.specs.declared.events.Act.TheVariants.{Die, Local, Write}
use Rattle.fbc_world.specs.declared.events.LocalEvent.TheVariants as local
use Rattle.fbc_world.specs.History.{History, Moment, happens}
use Rattle.fbc_world.specs.World.{newest_of, page_after, with_edit, world_of}
use Rattle.fbc_legal.specs.Guards.{GuardOfEdit}
use Rattle.fbc_legal.specs.Legal.{IsGrantOf, IsLegal}
use Rattle.fbc_legal.specs.Scene.{scene_of}
use Rattle.fbc_legal.proofs.Exclusion.{is_plain}
use Rattle.fbc_legal.proofs.Induction.{requests_true}
use Rattle.fbc_legal.proofs.Ranked.{IsRanked-legal}
use Rattle.fbc_closed_cuts.specs.Upheld.{IsUpheld, IsUpheldThroughout}
use Rattle.fbc_closed_cuts.specs.Views.{is_edit}
use Rattle.fbc_closed_cuts.proofs.UpheldActs.{acts-uphold}
use Rattle.fbc_closed_cuts.proofs.UpheldEdits.{newest_fits}
use Rattle.fbc_closed_cuts.proofs.UpheldLegal.{upheld-now}
use Rattle.fbc_numbers.specs.Numbers.{IsNumbered, MarksAreTrue, NumbersDiffer, OpenNumbersStand, SnapshotsAreTrue}
use Rattle.fbc_numbers.proofs.ActCommits.{acts-grow}
use Rattle.fbc_numbers.proofs.CommitsGrown.{edits-grow, grow-start}
use Rattle.fbc_numbers.proofs.CommitsMarked.{marked-acted, marked-edited}
use Rattle.fbc_numbers.proofs.FailedWrites.{follows-also}
use Rattle.fbc_numbers.proofs.MarksTrue.{true_marks-acted, true_marks-edited}
use Rattle.fbc_numbers.proofs.NumbersApart.{differ-acted, differ-edited}
use Rattle.fbc_numbers.proofs.OpensStand.{stand-acted}
use Rattle.fbc_numbers.proofs.OpensStandEdits.{stand-edited}
use Rattle.fbc_numbers.proofs.OpensUncommitted.{uncommitted-acted, uncommitted-edited}
use Rattle.fbc_numbers.proofs.SnapshotsTrue.{snapshots-acted, snapshots-edited}

-- Before the first event nothing is open or marked.
pub numbered-start : (shape : Shape) (file : View) → IsNumbered (scene_of shape file [])
numbered-start shape file = record {
  grow = grow-start shape file;
  stand = λ owner t is. absurd cc;
  differ = λ owner other t u apart is also. absurd cc;
  uncommitted = λ owner t is unmarked. absurd cc;
  marked = λ number is isnt. absurd (let both : true ≡ false = sym is ∙ isnt in cc);
  true_marks = λ owner page t marked is. absurd cc;
  snapshots = λ owner t number is held. absurd cc;
}

module _ (shape : Shape) (file : View) (before : History) (owner : ℕ) (u : IsUpheld (scene_of shape file before)) (k : IsNumbered (scene_of shape file before)) where
  -- After an act that is neither an edit nor a failed write.
  numbered-plain : (act : Act) (landed : Bool) → IsLegal shape file (happens owner act landed ∷ before) → is_plain act ≡ true → is_edit act ≡ false → IsNumbered (scene_of shape file (happens owner act landed ∷ before))
  numbered-plain act landed legal plain no_edit = record {
    grow = acts-grow shape file before (happens owner act landed) legal no_edit k.grow;
    stand = stand-acted (scene_of shape file before) u.coherent (requests_true shape file before) owner k.stand act landed legal.1.alive legal.1.guard plain no_edit;
    differ = differ-acted (scene_of shape file before) u.coherent k.stand k.differ owner act landed legal.1.alive legal.1.guard plain no_edit;
    uncommitted = uncommitted-acted shape file before (happens owner act landed) legal u k.grow k.uncommitted plain no_edit;
    marked = marked-acted shape file before owner act landed legal u (acts-uphold shape file before (happens owner act landed) legal u no_edit) k.grow k.true_marks k.marked plain no_edit;
    true_marks = true_marks-acted (scene_of shape file before) u k.true_marks owner act landed legal.1.alive legal.1.guard plain no_edit;
    snapshots = snapshots-acted shape file before owner act landed legal u (IsRanked-legal shape file before legal.0).pins k.grow k.true_marks k.marked k.snapshots plain no_edit;
  }

  -- After an edit.
  module _ (page : ℕ) (e : Edit) (landed : Bool) (legal : IsLegal shape file (happens owner (Local (local.Edit page e)) landed ∷ before)) where
    g : GuardOfEdit (scene_of shape file before) owner page e
    g = legal.1.guard

    fitted : (content : Page) → page_after shape (world_of shape file before) owner page e ≡ Some content → IsNumbered (scene_of shape file (happens owner (Local (local.Edit page e)) landed ∷ before))
    fitted content is = record {
      grow = edits-grow shape file before owner page e landed legal u k.grow k.uncommitted content is;
      stand = subst (λ o. OpenNumbersStand (with_edit (world_of shape file before) owner page e o)) (sym is) (stand-edited (scene_of shape file before) u.coherent owner e content k.stand page g fits);
      differ = subst (λ o. NumbersDiffer (with_edit (world_of shape file before) owner page e o)) (sym is) (differ-edited (world_of shape file before) owner page e content g.unmarked k.differ);
      uncommitted = uncommitted-edited shape file before owner page e landed legal u k.grow k.uncommitted k.differ content is;
      marked = marked-edited shape file before owner page e landed legal u k.grow k.uncommitted k.marked content is;
      true_marks = subst (λ o. MarksAreTrue shape (with_edit (world_of shape file before) owner page e o)) (sym is) (true_marks-edited (scene_of shape file before) u k.true_marks owner page e content g fits);
      snapshots = subst (λ o. SnapshotsAreTrue (with_edit (world_of shape file before) owner page e o)) (sym is) (snapshots-edited (world_of shape file before) owner page e content g.unmarked k.snapshots);
    } where
      fits : Fits shape e (newest_of (world_of shape file before) page) content
      fits = newest_fits shape file before owner page e content legal.0 g.exclusive is

    numbered-edit : IsNumbered (scene_of shape file (happens owner (Local (local.Edit page e)) landed ∷ before))
    numbered-edit = go (page_after shape (world_of shape file before) owner page e) refl g.fits where
      go : (after : Option Page) → page_after shape (world_of shape file before) owner page e ≡ after → is_some after ≡ true → IsNumbered (scene_of shape file (happens owner (Local (local.Edit page e)) landed ∷ before))
      go None is fits = absurd cc
      go (Some content) is fits = fitted content is

-- A failed write is a death, behind a write if it landed.
module _ (shape : Shape) (file : View) (before : History) (owner page : ℕ) (reason : Cause) (u : IsUpheld (scene_of shape file before)) (k : IsNumbered (scene_of shape file before)) where
  no_grant : (landed : Bool) (actor : ℕ) (resource : Resource) (level : Level) → ¬ IsGrantOf actor resource level (happens owner (Write page reason true) landed)
  no_grant landed actor resource level grant = absurd (let is = grant.act in cc)

  lost : IsLegal shape file (happens owner (Write page reason true) false ∷ before) → IsNumbered (scene_of shape file (happens owner (Write page reason true) false ∷ before))
  lost legal =
      let dies : IsLegal shape file (happens owner Die false ∷ before) =
      (legal.0, record { alive = legal.1.alive; follows = follows-also before (happens owner (Write page reason true) false) (happens owner Die false) legal.1.follows (no_grant false); guard = tt }) in
      let n = numbered-plain shape file before owner u k Die false dies refl refl in
      record { grow = n.grow; stand = n.stand; differ = n.differ; uncommitted = n.uncommitted; marked = n.marked; true_marks = n.true_marks; snapshots = n.snapshots }

  landed_too : IsLegal shape file (happens owner (Write page reason true) true ∷ before) → IsNumbered (scene_of shape file (happens owner (Write page reason true) true ∷ before))
  landed_too legal =
      let writes : IsLegal shape file (happens owner (Write page reason false) true ∷ before) =
      (legal.0, record { alive = legal.1.alive; follows = follows-also before (happens owner (Write page reason true) true) (happens owner (Write page reason false) true) legal.1.follows (no_grant true); guard = legal.1.guard }) in
      let between = numbered-plain shape file before owner u k (Write page reason false) true writes refl refl in
      let held = acts-uphold shape file before (happens owner (Write page reason false) true) writes u refl in
      let dies : IsLegal shape file (happens owner Die true ∷ happens owner (Write page reason false) true ∷ before) = (writes, record { alive = legal.1.alive; follows = tt; guard = tt }) in
      let n = numbered-plain shape file (happens owner (Write page reason false) true ∷ before) owner held between Die true dies refl refl in
      record { grow = n.grow; stand = n.stand; differ = n.differ; uncommitted = n.uncommitted; marked = n.marked; true_marks = n.true_marks; snapshots = n.snapshots }

-- After any event.
step : (shape : Shape) (file : View) (before : History) (owner : ℕ) (act : Act) (landed : Bool) → IsLegal shape file (happens owner act landed ∷ before) → IsUpheld (scene_of shape file before) → IsNumbered (scene_of shape file before)
    → IsNumbered (scene_of shape file (happens owner act landed ∷ before))
step shape file before owner (Write page reason true) true legal u k = landed_too shape file before owner page reason u k legal
step shape file before owner (Write page reason true) false legal u k = lost shape file before owner page reason u k legal
step shape file before owner (Write page reason false) landed legal u k = numbered-plain shape file before owner u k (Write page reason false) landed legal refl refl
step shape file before owner (Local (local.Edit page e)) landed legal u k = numbered-edit shape file before owner u k page e landed legal
step shape file before owner (Local (local.Before high low)) landed legal u k = numbered-plain shape file before owner u k (Local (local.Before high low)) landed legal refl refl
step shape file before owner (Local (local.Pin page)) landed legal u k = numbered-plain shape file before owner u k (Local (local.Pin page)) landed legal refl refl
step shape file before owner (Local (local.Unpin page)) landed legal u k = numbered-plain shape file before owner u k (Local (local.Unpin page)) landed legal refl refl
step shape file before owner act landed legal u k = numbered-plain shape file before owner u k act landed legal refl refl

pub numbered-step : (shape : Shape) (file : View) (before : History) (moment : Moment) → IsLegal shape file (moment ∷ before) → IsUpheld (scene_of shape file before) → IsNumbered (scene_of shape file before) → IsNumbered (scene_of shape file (moment ∷ before))
numbered-step shape file before moment legal u k = step shape file before moment.event.actor moment.event.act moment.landed legal u k

-- After a whole history.
pub legal-numbered : (shape : Shape) (file : View) (history : History) → IsLegal shape file history → IsUpheldThroughout shape file history → IsNumbered (scene_of shape file history)
legal-numbered shape file [] legal upheld = numbered-start shape file
legal-numbered shape file (moment ∷ before) legal upheld =
    numbered-step shape file before moment legal (upheld-now shape file before upheld.1) (legal-numbered shape file before legal.0 upheld.1)
