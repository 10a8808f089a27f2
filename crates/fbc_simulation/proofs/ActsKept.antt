-- An act that neither edits nor begins keeps the machine beside the history.
use Rattle.std.proofs.Common.{◌≡◌, ◌∷◌, false, List, sym, subst}
use Rattle.std.proofs.Math.Path.{fun_ext}
use Rattle.fbc_kinds.specs.declared.commands.Command.{Command}
use Rattle.fbc_kinds.specs.declared.shapes.Shape.{Shape}
use Rattle.fbc_kinds.specs.declared.snapshots.Transaction.{Transaction}
use Rattle.fbc_kinds.specs.Machine.{Machine}
use Rattle.fbc_kinds.specs.Meaning.{meaning_of, meaning_with}
use Rattle.fbc_kinds.specs.View.{View}
use Rattle.fbc_runs.specs.Ended.{settled_by}
use Rattle.fbc_runs.specs.Orderly.{IsOrderly}
use Rattle.fbc_runs.specs.Reading.{ReadsAs}
use Rattle.fbc_runs.specs.Runs.{MayAllCome, machine_after}
use Rattle.fbc_runs.proofs.Steps.{run_orderly}
use Rattle.fbc_world.specs.Commands.{commands_at, commands_of}
use Rattle.fbc_world.specs.History.{History, Moment}
use Rattle.fbc_world.specs.World.{World, world_of}
use Rattle.fbc_legal.specs.Legal.{IsLegal}
use Rattle.fbc_legal.specs.Scene.{scene_of}
use Rattle.fbc_closed_cuts.specs.Cut.{Cut, IsClosedCut, view}
use Rattle.fbc_closed_cuts.specs.Upheld.{MarksAreDrafted}
use Rattle.fbc_closed_cuts.specs.Views.{cut_before, is_edit}
use Rattle.fbc_closed_cuts.proofs.CutLaws.{no-new-views}
use Rattle.fbc_simulation.specs.Beside.{AreOpenIn, commits_in, machine_of}
use Rattle.fbc_simulation.specs.Simulated.{IsSimulated}
use Rattle.fbc_simulation.proofs.ActOpens.{OpensAlike}
use Rattle.fbc_simulation.proofs.ActsPlain.{IsBeside, acts_beside, begins_one}
use Rattle.fbc_simulation.proofs.RunsLonger.{machine_after-append, may_all_come-append}

module _ (shape : Shape) (file : View) (before : History) (moment : Moment) (s : IsSimulated (scene_of shape file before)) where
  abbrev pub w : World
  w = world_of shape file before

  abbrev pub after : World
  after = world_of shape file (moment ∷ before)

  abbrev pub machine : Machine
  machine = machine_of shape file before

  abbrev pub commands : List Command
  commands = commands_at shape w moment.event.actor moment.event.act moment.landed

  -- The view of a cut after reads as the machine after the act's commands.
  abbrev pub IsMeantNow : Cut → List Transaction → Type 0
  IsMeantNow cut living = ReadsAs (meaning_with living (view after cut)) (settled_by living (commits_in after cut) (machine_after machine commands))

  one_run : machine_of shape file (moment ∷ before) ≡ machine_after machine commands
  one_run = machine_after-append (meaning_of file) (commands_of shape file before) commands

  -- What is shown of the act's own commands holds of the whole run.
  pub simulated_by : MayAllCome machine commands → OpensAlike after (machine_after machine commands)
      → ((cut : Cut) (living : List Transaction) → IsClosedCut after cut → AreOpenIn after cut living → IsMeantNow cut living)
      → IsSimulated (scene_of shape file (moment ∷ before))
  simulated_by comes opens meant = record {
    comes = may_all_come-append (meaning_of file) (commands_of shape file before) commands s.comes comes;
    orderly = subst IsOrderly (sym one_run) (run_orderly machine commands s.orderly comes);
    opens = subst (OpensAlike after) (sym one_run) opens;
    meant = λ cut living closed open_in.
        subst (λ (n : Machine). ReadsAs (meaning_with living (view after cut)) (settled_by living (commits_in after cut) n)) (sym one_run) (meant cut living closed open_in);
  }

  module _ (legal : IsLegal shape file (moment ∷ before)) (no_edit : is_edit moment.event.act ≡ false) where
    pub one_view : (cut : Cut) → IsClosedCut after cut → view after cut ≡ view w (cut_before moment.event.act moment.landed cut)
    one_view cut closed = fun_ext (λ page. (no-new-views shape file before moment cut legal no_edit closed).pages page)

    pub acts_kept : MarksAreDrafted w → begins_one moment.event.act ≡ false → IsSimulated (scene_of shape file (moment ∷ before))
    acts_kept marks plain = simulated_by beside.comes beside.opens meant where
      beside : IsBeside w machine after commands (cut_before moment.event.act moment.landed)
      beside = acts_beside (scene_of shape file before) marks moment.event.actor machine s.opens moment.event.act moment.landed legal.1.guard no_edit plain

      meant : (cut : Cut) (living : List Transaction) → IsClosedCut after cut → AreOpenIn after cut living → IsMeantNow cut living
      meant cut living closed opens =
          let from = beside.leads cut living closed opens in
          let earlier = no-new-views shape file before moment cut legal no_edit closed in
          subst (λ (v : View). ReadsAs (meaning_with living v) (settled_by living (commits_in after cut) (machine_after machine commands))) (sym (one_view cut closed))
          (subst (ReadsAs (meaning_with living (view w (cut_before moment.event.act moment.landed cut)))) (sym from.same)
          (s.meant (cut_before moment.event.act moment.landed cut) living earlier.closed from.opens))
