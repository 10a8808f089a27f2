-- What is committed or dead in each view with all drafts of an owner stays so through every edit.
use Rattle.std.proofs.Common.{◌≡◌, ◌==◌, ◌∷◌, inl, inr, ℕ, Bool, true, false, if◌then◌else◌, Option, Some, None, is_some, refl, subst, arith}
use Rattle.std.proofs.lemmas.Bool.Decides.{nat_tests}
use Rattle.fbc_kinds.specs.declared.edits.Edit.{Edit}
use Rattle.fbc_kinds.specs.declared.edits.Edit.TheVariants as edit
use Rattle.fbc_kinds.specs.declared.pages.Page.{Page}
use Rattle.fbc_kinds.specs.declared.pages.State.{State}
use Rattle.fbc_kinds.specs.declared.pages.State.TheVariants.{Active, Committed, Dead, Limbo}
use Rattle.fbc_kinds.specs.declared.shapes.Shape.{Shape}
use Rattle.fbc_kinds.specs.Chain.{state_of}
use Rattle.fbc_kinds.specs.View.{View, is_committed_state}
use Rattle.fbc_world.specs.declared.events.Act.{Act}
use Rattle.fbc_world.specs.declared.events.Act.TheVariants.{Local}
use Rattle.fbc_world.specs.declared.events.LocalEvent.TheVariants as local
use Rattle.fbc_world.specs.History.{History, happens}
use Rattle.fbc_world.specs.World.{World, page_after, world_of}
use Rattle.fbc_legal.specs.Guards.{GuardOfEdit}
use Rattle.fbc_legal.specs.Legal.{IsLegal}
use Rattle.fbc_legal.specs.Rows.{IsEditOfRow, IsMark}
use Rattle.fbc_legal.specs.Scene.{Scene, scene_of}
use Rattle.fbc_closed_cuts.specs.Cut.{Cut, IsClosedCut, view}
use Rattle.fbc_closed_cuts.specs.Firm.{HasOwnDrafts}
use Rattle.fbc_closed_cuts.specs.Views.{drafted_in}
use Rattle.fbc_numbers.specs.Numbers.{is_committed_in}
use Rattle.fbc_numbers.proofs.EditCommits.{Stays, committed_by, stays-committed}
use Rattle.fbc_numbers.proofs.EditStates.{StateComes, edited-state}
use Rattle.fbc_soundness.specs.Whole.{IsWhole}
use Rattle.fbc_notes.specs.DeadNumbers.{is_dead_in, is_dead_state}
use Rattle.fbc_firm_facts.proofs.EditsLeave.{own-cut-before-edit}
use Rattle.fbc_firm_facts.proofs.EventsLeave.{IsKeptWhereEdited}

-- A mark that leaves a committed number so is a mark as committed.
marks_committed : (number : ℕ) (now : State) → Stays (edit.Mark number now) number → is_committed_state now ≡ true
marks_committed number now stays = go (number == number) (grind (arith, nat_tests)) stays where
  go : (b : Bool) → b ≡ true → committed_by (if b then Some now else None) true ≡ true → is_committed_state now ≡ true
  go true same is = is
  go false never is = cc

was_dead : (state : State) → is_dead_state state ≡ true → state ≡ Dead
was_dead Dead is = refl
was_dead Active is = absurd cc
was_dead Committed is = absurd cc
was_dead Limbo is = absurd cc

module _ (shape : Shape) (file : View) (before : History) (owner actor : ℕ) (landed : Bool) (whole : IsWhole (scene_of shape file before)) where
  abbrev w : World
  w = world_of shape file before

  abbrev at : Scene
  at = scene_of shape file before

  module _ (page : ℕ) (e : Edit) (legal : IsLegal shape file (happens actor (Local (local.Edit page e)) landed ∷ before)) (number : ℕ) where
    g : GuardOfEdit at actor page e
    g = legal.1.guard

    abbrev after : World
    after = world_of shape file (happens actor (Local (local.Edit page e)) landed ∷ before)

    comes : (cut : Cut) → IsClosedCut after cut → StateComes e number (state_of (view w (drafted_in w cut)) number) (state_of (view after cut) number)
    comes cut closed = go (page_after shape w actor page e) refl g.fits where
      go : (o : Option Page) → page_after shape w actor page e ≡ o → is_some o ≡ true → StateComes e number (state_of (view w (drafted_in w cut)) number) (state_of (view after cut) number)
      go None is fits = absurd cc
      go (Some content) is fits = edited-state shape file before actor page e landed legal whole.order.upheld whole.order.numbered.grow whole.order.numbered.uncommitted content is cut closed number

    still_committed : (cut : Cut) → IsClosedCut w cut → is_committed_in (view w cut) number ≡ true → Stays e number
    still_committed cut closed committed = go (page_after shape w actor page e) refl g.fits where
      go : (o : Option Page) → page_after shape w actor page e ≡ o → is_some o ≡ true → Stays e number
      go None is fits = absurd cc
      go (Some content) is fits = stays-committed shape file before actor page e landed legal whole.order.upheld whole.order.numbered.grow whole.order.numbered.uncommitted content is cut closed number committed

    committed_after : (earlier : Cut) (now : State) → IsClosedCut w earlier → is_committed_in (view w earlier) number ≡ true → StateComes e number (state_of (view w earlier) number) now → is_committed_state now ≡ true
    committed_after earlier now closed was (inl same) = rw same was
    committed_after earlier now closed was (inr marks) = marks_committed number now (subst (λ x. Stays x number) marks (still_committed earlier closed was))

    -- An open number is dead in no view, and only such are marked as committed.
    marked_dead : (earlier : Cut) (now : State) → IsClosedCut w earlier → state_of (view w earlier) number ≡ Dead → IsMark at actor page number now → is_dead_state now ≡ true
    marked_dead earlier Committed closed dead row =
        absurd (whole.apart.not_dead actor row.0 earlier row.1 closed (subst (λ n. state_of (view w earlier) n ≡ Dead) row.2 dead))
    marked_dead earlier Dead closed dead row = refl
    marked_dead earlier Active closed dead row = absurd row
    marked_dead earlier Limbo closed dead row = absurd row

    dead_after : (earlier : Cut) (now : State) → IsClosedCut w earlier → is_dead_in (view w earlier) number ≡ true → StateComes e number (state_of (view w earlier) number) now → is_dead_state now ≡ true
    dead_after earlier now closed was (inl same) = rw same was
    dead_after earlier now closed was (inr marks) = marked_dead earlier now closed (was_dead _ was) (subst (IsEditOfRow at actor page) marks g.row)

  module _ (number : ℕ) (act : Act) where
    pub commits-kept : IsKeptWhereEdited shape file before owner (λ seen. is_committed_in seen number ≡ true) actor landed act
    commits-kept page e is legal holds cut own =
        let earlier : HasOwnDrafts w owner (drafted_in w cut) = own-cut-before-edit shape file before actor page e landed legal whole.order.upheld owner cut own in
        committed_after page e legal number (drafted_in w cut) _ earlier.closed (holds (drafted_in w cut) earlier) (comes page e legal number cut own.closed)

    pub dead-kept : IsKeptWhereEdited shape file before owner (λ seen. is_dead_in seen number ≡ true) actor landed act
    dead-kept page e is legal holds cut own =
        let earlier : HasOwnDrafts w owner (drafted_in w cut) = own-cut-before-edit shape file before actor page e landed legal whole.order.upheld owner cut own in
        dead_after page e legal number (drafted_in w cut) _ earlier.closed (holds (drafted_in w cut) earlier) (comes page e legal number cut own.closed)
