-- The number of each open transaction stands apart: before the first event, after each event, and so after all.
use Rattle.std.proofs.Common.{◌≡◌, ◌==◌, ◌||◌, ◌∷◌, [], ℕ, Bool, true, false, Option, Some, None, is_some, inl, inr, refl, sym, subst, arith}
use Rattle.std.proofs.lemmas.Bool.Decides.{nat_tests}
use Rattle.fbc_kinds.specs.declared.edits.Edit.{Edit}
use Rattle.fbc_kinds.specs.declared.pages.Page.{Page}
use Rattle.fbc_kinds.specs.declared.shapes.Shape.{Shape}
use Rattle.fbc_kinds.specs.Machine.{begun, committed_numbers, is_held}
use Rattle.fbc_kinds.specs.Meaning.{meaning_of}
use Rattle.fbc_kinds.specs.View.{View}
use Rattle.fbc_world.specs.declared.asks.Cause.{Cause}
use Rattle.fbc_world.specs.declared.events.Act.{Act}
use Rattle.fbc_world.specs.declared.events.Act.TheVariants.{Die, Local, Write}
use Rattle.fbc_world.specs.declared.events.LocalEvent.TheVariants as local
use Rattle.fbc_world.specs.History.{History, Moment, happens}
use Rattle.fbc_world.specs.World.{World, acted, newest_of, page_after, with_edit, world_of}
use Rattle.fbc_legal.specs.Guards.{Guard, GuardOfEdit, MayBegin}
use Rattle.fbc_legal.specs.Legal.{IsLegal, MayAct}
use Rattle.fbc_legal.specs.Scene.{Scene, scene_of}
use Rattle.fbc_legal.proofs.Exclusion.{is_plain}
use Rattle.fbc_legal.proofs.Induction.{requests_true}
use Rattle.fbc_closed_cuts.specs.Upheld.{IsUpheld, IsUpheldThroughout}
use Rattle.fbc_closed_cuts.specs.Views.{is_edit}
use Rattle.fbc_closed_cuts.proofs.UpheldActs.{acts-uphold}
use Rattle.fbc_closed_cuts.proofs.UpheldLegal.{upheld-now}
use Rattle.fbc_numbers.specs.Numbers.{IsNumbered}
use Rattle.fbc_numbers.specs.Opens.{HoldsOwnNumber, OpensAreHeld, OpensAreOutOfFile, OpensStandApart, SnapshotsHoldOwn}
use Rattle.fbc_numbers.proofs.FailedWrites.{landed-dies, landed-writes, lost-dies}
use Rattle.fbc_numbers.proofs.NumberWaits.{number_waits_bare}
use Rattle.fbc_numbers.proofs.Numbered.{legal-numbered, numbered-step}
use Rattle.fbc_numbers.proofs.Opens.{open-acted, open-edited}
use Rattle.fbc_numbers.proofs.OpensHeld.{held-acted, held-edited}
use Rattle.fbc_numbers.proofs.OpensNotDead.{not_dead-acted, not_dead-edited}
use Rattle.fbc_numbers.proofs.OpensOutOfFile.{out-acted, out-edited}

-- Before the first event nothing is open.
pub apart-start : (shape : Shape) (file : View) → OpensStandApart (scene_of shape file [])
apart-start shape file = record {
  held = λ owner t is. absurd cc;
  not_dead = λ owner t cut is. absurd cc;
  out_of_file = λ owner t is. absurd cc;
  own = λ owner t is. absurd cc;
}

-- A snapshot as it is taken.
own-taken : (at : Scene) (owner number word : ℕ) → MayBegin at owner number word → HoldsOwnNumber (begun (meaning_of (newest_of at.world)) owner number)
own-taken at owner number word may = record { held = first (number == number) (grind (arith, nat_tests)); above = grind (arith, may.word_is.from_one, may.word_is.to) } where
  first : (b : Bool) → b ≡ true → (b || is_held (committed_numbers (meaning_of (newest_of at.world)).transactions) number) ≡ true
  first true is = refl
  first false is = absurd cc

own-acted : (at : Scene) (owner : ℕ) → SnapshotsHoldOwn at.world → (act : Act) (landed : Bool) → MayAct at owner act → Guard at owner act → is_plain act ≡ true → is_edit act ≡ false → SnapshotsHoldOwn (acted at.shape at.world owner act landed)
own-acted at owner own act landed may g plain no_edit other t is = elim (open-acted at owner act landed may g plain no_edit other t is) [
  | inl was ↦ own other t was.was
  | inr begins ↦ subst HoldsOwnNumber (sym begins.is) (own-taken at owner begins.number begins.word begins.may)
]

module _ (shape : Shape) (file : View) (before : History) (owner : ℕ) (u : IsUpheld (scene_of shape file before)) (k : IsNumbered (scene_of shape file before)) (o : OpensStandApart (scene_of shape file before)) where
  -- After an act that is neither an edit nor a failed write.
  apart-plain : (act : Act) (landed : Bool) → IsLegal shape file (happens owner act landed ∷ before) → is_plain act ≡ true → is_edit act ≡ false → OpensStandApart (scene_of shape file (happens owner act landed ∷ before))
  apart-plain act landed legal plain no_edit = record {
    held = held-acted (scene_of shape file before) (requests_true shape file before) (number_waits_bare shape file before legal.0) k.stand o.held owner act landed legal.1.guard plain no_edit;
    not_dead = not_dead-acted shape file before (happens owner act landed) legal u o.not_dead plain no_edit;
    out_of_file = out-acted shape file before owner u k.grow k.differ k.true_marks k.marked o.out_of_file act landed legal (acts-uphold shape file before (happens owner act landed) legal u no_edit) plain no_edit;
    own = own-acted (scene_of shape file before) owner o.own act landed legal.1.alive legal.1.guard plain no_edit;
  }

  -- After an edit.
  module _ (page : ℕ) (e : Edit) (landed : Bool) (legal : IsLegal shape file (happens owner (Local (local.Edit page e)) landed ∷ before)) where
    abbrev w : World
    w = world_of shape file before

    g : GuardOfEdit (scene_of shape file before) owner page e
    g = legal.1.guard

    fitted : (content : Page) → page_after shape w owner page e ≡ Some content → OpensStandApart (scene_of shape file (happens owner (Local (local.Edit page e)) landed ∷ before))
    fitted content is = record {
      held = subst (λ x. OpensAreHeld (with_edit w owner page e x)) (sym is) (held-edited w owner page e content g.unmarked o.held);
      not_dead = not_dead-edited shape file before owner page e landed legal u k.grow k.uncommitted k.differ o.held o.not_dead content is;
      out_of_file = subst (λ x. OpensAreOutOfFile (with_edit w owner page e x)) (sym is) (out-edited w owner page e content g.unmarked o.out_of_file);
      own = subst (λ x. SnapshotsHoldOwn (with_edit w owner page e x)) (sym is) (λ other t found. o.own other t (open-edited w owner page e content g.unmarked other t found));
    }

    apart-edit : OpensStandApart (scene_of shape file (happens owner (Local (local.Edit page e)) landed ∷ before))
    apart-edit = go (page_after shape w owner page e) refl g.fits where
      go : (after : Option Page) → page_after shape w owner page e ≡ after → is_some after ≡ true → OpensStandApart (scene_of shape file (happens owner (Local (local.Edit page e)) landed ∷ before))
      go None is fits = absurd cc
      go (Some content) is fits = fitted content is

-- A failed write is a death, behind a write if it landed.
module _ (shape : Shape) (file : View) (before : History) (owner page : ℕ) (reason : Cause) (u : IsUpheld (scene_of shape file before)) (k : IsNumbered (scene_of shape file before)) (o : OpensStandApart (scene_of shape file before)) where
  lost : IsLegal shape file (happens owner (Write page reason true) false ∷ before) → OpensStandApart (scene_of shape file (happens owner (Write page reason true) false ∷ before))
  lost legal =
      let n = apart-plain shape file before owner u k o Die false (lost-dies shape file before owner page reason legal) refl refl in
      record { held = n.held; not_dead = n.not_dead; out_of_file = n.out_of_file; own = n.own }

  landed_too : IsLegal shape file (happens owner (Write page reason true) true ∷ before) → OpensStandApart (scene_of shape file (happens owner (Write page reason true) true ∷ before))
  landed_too legal =
      let writes = landed-writes shape file before owner page reason legal in
      let dies = landed-dies shape file before owner page reason legal in
      let between = apart-plain shape file before owner u k o (Write page reason false) true writes refl refl in
      let held = acts-uphold shape file before (happens owner (Write page reason false) true) writes u refl in
      let numbered = numbered-step shape file before (happens owner (Write page reason false) true) writes u k in
      let n = apart-plain shape file (happens owner (Write page reason false) true ∷ before) owner held numbered between Die true dies refl refl in
      record { held = n.held; not_dead = n.not_dead; out_of_file = n.out_of_file; own = n.own }

-- After any event.
step : (shape : Shape) (file : View) (before : History) (owner : ℕ) (act : Act) (landed : Bool) → IsLegal shape file (happens owner act landed ∷ before) → IsUpheld (scene_of shape file before) → IsNumbered (scene_of shape file before)
    → OpensStandApart (scene_of shape file before) → OpensStandApart (scene_of shape file (happens owner act landed ∷ before))
step shape file before owner (Write page reason true) true legal u k o = landed_too shape file before owner page reason u k o legal
step shape file before owner (Write page reason true) false legal u k o = lost shape file before owner page reason u k o legal
step shape file before owner (Write page reason false) landed legal u k o = apart-plain shape file before owner u k o (Write page reason false) landed legal refl refl
step shape file before owner (Local (local.Edit page e)) landed legal u k o = apart-edit shape file before owner u k o page e landed legal
step shape file before owner (Local (local.Before high low)) landed legal u k o = apart-plain shape file before owner u k o (Local (local.Before high low)) landed legal refl refl
step shape file before owner (Local (local.Pin page)) landed legal u k o = apart-plain shape file before owner u k o (Local (local.Pin page)) landed legal refl refl
step shape file before owner (Local (local.Unpin page)) landed legal u k o = apart-plain shape file before owner u k o (Local (local.Unpin page)) landed legal refl refl
step shape file before owner act landed legal u k o = apart-plain shape file before owner u k o act landed legal refl refl

pub apart-step : (shape : Shape) (file : View) (before : History) (moment : Moment) → IsLegal shape file (moment ∷ before) → IsUpheld (scene_of shape file before) → IsNumbered (scene_of shape file before) → OpensStandApart (scene_of shape file before)
    → OpensStandApart (scene_of shape file (moment ∷ before))
apart-step shape file before moment legal u k o = step shape file before moment.event.actor moment.event.act moment.landed legal u k o

-- After a whole history.
pub legal-apart : (shape : Shape) (file : View) (history : History) → IsLegal shape file history → IsUpheldThroughout shape file history → OpensStandApart (scene_of shape file history)
legal-apart shape file [] legal upheld = apart-start shape file
legal-apart shape file (moment ∷ before) legal upheld =
    apart-step shape file before moment legal (upheld-now shape file before upheld.1) (legal-numbered shape file before legal.0 upheld.1) (legal-apart shape file before legal.0 upheld.1)
