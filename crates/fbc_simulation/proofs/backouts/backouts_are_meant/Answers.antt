use Rattle.std.proofs.Common.{◌≡◌, ◌⊎◌, ◌==◌, Bool, true, false, inl, inr, refl, sym, subst, ◌∙◌}
use Rattle.std.proofs.lemmas.Option.{same_Some}
use Rattle.fbc_kinds.specs.declared.edits.Edit.TheVariants.{PutCell}
use Rattle.fbc_kinds.specs.declared.pages.Cell.{Cell}
use Rattle.fbc_kinds.specs.Meaning.{meaning_with}
use Rattle.fbc_kinds.proofs.Tests.{same_from_test, test_of_same}
use Rattle.fbc_numbers.proofs.CutFacts.{clash}
use Rattle.fbc_runs.specs.Reading.{ReadsAs}
use Rattle.fbc_version_edits.specs.Forms.{IsBackout, IsRaised, NamesNone}
use Rattle.fbc_page_edits.specs.Facing.{NameTheSame}
use Rattle.fbc_closed_cuts.specs.Cut.{view}
use Rattle.fbc_page_edits.specs.Edited.{with_page}
use Rattle.fbc_world.specs.Commands.{change_on}
use Rattle.fbc_world.specs.PageCell.{page_for}
use Rattle.fbc_world.specs.World.{is_number_of, world_of}
use Rattle.fbc_legal.specs.Scene.{Scene, scene_of}
use Rattle.fbc_origins.proofs.PutsAllowed.{allows-backout}
use Rattle.fbc_simulation.proofs.BackoutLinks.{alone-settled, backout-apart, both-none, raised}
use Rattle.fbc_simulation.proofs.CellEdits.{beside, living-open, owners-differ, reads-before}
use Rattle.fbc_simulation.proofs.OpenNumbers.{dead-closed}
use Rattle.fbc_simulation.proofs.PutsIn.{before, no-command, not-own, origin, put-in, reads-meant}
use Rattle.fbc_simulation.proofs.backouts.backouts_are_meant.Goals as goal

pub returns : goal.returns
returns c shape file past owner page cell new content cut living is f =
    reads-meant shape file past owner page cell new content cut living is (by_link lower.link)
    (no-command (is_number_of new.number (at.world.transaction owner)) (change_on shape owner cell new (page_for owner (at.world.kept page) (at.world.draft page)))
    (not-own new.number (at.world.transaction owner) (backout-apart shape file past owner page cell new content cut living is f)))
  where
    at : Scene
    at = scene_of shape file past

    lower : IsRaised (view (world_of shape file past) cut) new f.old.back_page f.old.back_cell
    lower = raised shape file past owner page cell new content cut living is f

    form : IsBackout (view (world_of shape file past) cut) page cell new
    form = allows-backout at is.whole.order.upheld is.whole.order.numbered is.whole.order.original owner page cell new is.sees.guard (before shape file past owner page cell new content cut living is) (origin shape file past owner page cell new content cut living is) is.sees.sees f

    whole : NameTheSame lower.below new → ReadsAs (meaning_with living (with_page (before shape file past owner page cell new content cut living is) page content)) (beside shape file past owner page (PutCell cell new) content cut living is)
    whole same =
        c.backouts_are_not_read.ensures.whole shape (before shape file past owner page cell new content cut living is) page cell new content living
        (beside shape file past owner page (PutCell cell new) content cut living is)
        (put-in shape file past owner page cell new content cut living is) form
        (dead-closed at is.whole cut is.closed living is.opens f.old.number f.dead)
        (λ below there. subst (λ (v : Cell). NameTheSame v new) (same_Some lower.below below (sym lower.stands ∙ there)) same)
        (owners-differ shape file past owner page (PutCell cell new) content cut living is)
        (reads-before shape file past owner page (PutCell cell new) content cut living is)

    alone : lower.below.back_page == 0 ≡ false → NamesNone new → ReadsAs (meaning_with living (with_page (before shape file past owner page cell new content cut living is) page content)) (beside shape file past owner page (PutCell cell new) content cut living is)
    alone some none =
        c.backouts_are_not_read.ensures.alone shape (before shape file past owner page cell new content cut living is) page cell new content living
        (beside shape file past owner page (PutCell cell new) content cut living is)
        (put-in shape file past owner page cell new content cut living is) form
        (living-open shape file past owner page (PutCell cell new) content cut living is)
        (dead-closed at is.whole cut is.closed living is.opens f.old.number f.dead)
        (alone-settled shape file past owner page cell new content cut living is f (λ zero. absurd (clash (lower.below.back_page == 0) (test_of_same lower.below.back_page 0 zero) some)) none)
        (owners-differ shape file past owner page (PutCell cell new) content cut living is)
        (reads-before shape file past owner page (PutCell cell new) content cut living is)

    by_test : NamesNone new → (b : Bool) → (lower.below.back_page == 0) ≡ b → ReadsAs (meaning_with living (with_page (before shape file past owner page cell new content cut living is) page content)) (beside shape file past owner page (PutCell cell new) content cut living is)
    by_test none true is_zero = whole (both-none shape file past owner page cell new content cut living is f (same_from_test lower.below.back_page 0 is_zero) none)
    by_test none false other = alone other none

    by_link : NamesNone new ⊎ NameTheSame lower.below new → ReadsAs (meaning_with living (with_page (before shape file past owner page cell new content cut living is) page content)) (beside shape file past owner page (PutCell cell new) content cut living is)
    by_link (inl none) = by_test none (lower.below.back_page == 0) refl
    by_link (inr same) = whole same
