-- The snapshot is taken, or a page is missed, or damaged.
use Rattle.std.proofs.Common.{Option, sym, subst}
use Rattle.fbc_tip.specs.declared.inventories.TipStep.{TipStep}
use Rattle.fbc_tip.specs.declared.inventories.TipStep.TheVariants as tip
use Rattle.fbc_tip.specs.Inventories.{InventoryComesTo}
use Rattle.fbc_tra.specs.declared.beginning.BeginStage.TheVariants as stages
use Rattle.fbc_tra.specs.declared.steps.BodyStep.{BodyStep}
use Rattle.fbc_tra.specs.declared.steps.BodyStep.TheVariants as step
use Rattle.fbc_tra.specs.Begins.{BarredOrNot, BeginAnswers, BeginMoves, BeginWants, TakesSnapshot}
use Rattle.fbc_tra.proofs.Runs.{calls-first}
use Rattle.fbc_tra.proofs.Tips.{turns-of}
use Rattle.fbc_tra.proofs.Ways.{any-err, comes-here, on-ok, stops-here, stops-on}
use Rattle.fbc_tra.proofs.beginning.hold_tips.Goals as goal

takes : (c : goal.After-from_number) → TakesSnapshot c.args.wait c.args.desk.now c.args.part.held c.try_inventory-step.new.desk c.in-Done.snapshot c.lock_of-waiting.result
takes c = record {
  free = c.requires;
  new = c.try_inventory-step.new.part.held;
  holds = record {
    held = c.in_ok-snapshot.ensures.held;
    turns = turns-of c.args.desk.now c.try_inventory-step.new.desk c.args.part.held c.try_inventory-step.new.part.held c.in_ok-snapshot.field-0 (tip.Done c.in-Done.snapshot) c.in-Done.is c.in_ok-snapshot.ensures.turns;
    same = c.in_ok-snapshot.ensures.same;
  };
  taken = subst (λ (s : TipStep). InventoryComesTo c.try_inventory-step.new.desk c.try_inventory-step.new.part.held s) c.in-Done.is c.in_ok-snapshot.ensures.step;
  lock = c.lock_of-waiting.ensures;
}

pub returns-in-Done-clause-comes : goal.returns-in-Done-clause-comes
returns-in-Done-clause-comes c =
    on-ok (BeginMoves c.args.wait) BeginAnswers c.args.desk.now c.try_inventory-step.new.desk c.from_number.new.desk (stages.Tips c.args.part) (stages.Number c.in-Done.snapshot c.lock_of-waiting.result)
    c.from_number.new.stage c.from_number.result (takes c) (c.from_number.ensures.comes c.args.wait)

pub returns-in-Done-clause-err : goal.returns-in-Done-clause-err
returns-in-Done-clause-err c =
    stops-on (BeginMoves c.args.wait) BeginWants c.args.desk.now c.try_inventory-step.new.desk c.from_number.new.desk (stages.Tips c.args.part) (stages.Number c.in-Done.snapshot c.lock_of-waiting.result)
    c.from_number.new.stage c.from_number.result (takes c) (c.from_number.ensures.err c.args.wait)

pub returns-in_err-snapshot-clause-err : goal.returns-in_err-snapshot-clause-err
returns-in_err-snapshot-clause-err c =
    any-err c.from_residual.result (stops-here (BeginMoves c.args.wait) BeginWants c.args.desk.now c.try_inventory-step.new.desk (stages.Tips c.args.part) (stages.Tips c.try_inventory-step.new.part) (record {
      free = c.requires;
      holds = record { held = c.in_err-snapshot.ensures.held; turns = c.in_err-snapshot.ensures.turns; same = c.in_err-snapshot.ensures.same };
    }))

pub returns-in-Done-clause-goes : goal.returns-in-Done-clause-goes
returns-in-Done-clause-goes c = calls-first c.args.desk.now c.try_inventory-step.new.desk c.from_number.new.desk c.try_inventory-step.ensures.goes c.from_number.ensures.goes

pub returns-in-Miss-clause-comes : goal.returns-in-Miss-clause-comes
returns-in-Miss-clause-comes c =
    comes-here c.args.desk.now c.try_inventory-step.new.desk (stages.Tips c.args.part) (stages.Tips c.try_inventory-step.new.part) (step.Miss c.in-Miss.need)
    (subst (λ (barred : Option BodyStep). BarredOrNot barred c.args.desk.now c.args.part.held c.try_inventory-step.new.desk c.try_inventory-step.new.part.held (step.Miss c.in-Miss.need)) (sym c.requires) (
      record {
        held = c.in_ok-snapshot.ensures.held;
        turns = turns-of c.args.desk.now c.try_inventory-step.new.desk c.args.part.held c.try_inventory-step.new.part.held c.in_ok-snapshot.field-0 (tip.Miss c.in-Miss.need) c.in-Miss.is c.in_ok-snapshot.ensures.turns;
        same = c.in_ok-snapshot.ensures.same;
      },
      subst (λ (s : TipStep). InventoryComesTo c.try_inventory-step.new.desk c.try_inventory-step.new.part.held s) c.in-Miss.is c.in_ok-snapshot.ensures.step,
    ))

pub returns-in-Damaged-clause-comes : goal.returns-in-Damaged-clause-comes
returns-in-Damaged-clause-comes c =
    comes-here c.args.desk.now c.try_inventory-step.new.desk (stages.Tips c.args.part) (stages.Tips c.try_inventory-step.new.part) (step.Damaged c.in-Damaged.page c.in-Damaged.rule)
    (subst (λ (barred : Option BodyStep). BarredOrNot barred c.args.desk.now c.args.part.held c.try_inventory-step.new.desk c.try_inventory-step.new.part.held (step.Damaged c.in-Damaged.page c.in-Damaged.rule)) (sym c.requires) (
      record {
        held = c.in_ok-snapshot.ensures.held;
        turns = turns-of c.args.desk.now c.try_inventory-step.new.desk c.args.part.held c.try_inventory-step.new.part.held c.in_ok-snapshot.field-0 (tip.Damaged c.in-Damaged.page c.in-Damaged.rule) c.in-Damaged.is c.in_ok-snapshot.ensures.turns;
        same = c.in_ok-snapshot.ensures.same;
      },
      subst (λ (s : TipStep). InventoryComesTo c.try_inventory-step.new.desk c.try_inventory-step.new.part.held s) c.in-Damaged.is c.in_ok-snapshot.ensures.step,
    ))
