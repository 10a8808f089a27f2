-- Acts that neither edit nor begin: what the machine does beside them.
use Rattle.std.proofs.Common.{◌≡◌, ◌∙◌, ℕ, Bool, true, false, ◌==◌, List, [], ◌∷◌, ◌++◌, Some, is_some, refl, sym, ap, subst}
use Rattle.fbc_kinds.specs.declared.commands.Command.{Command}
use Rattle.fbc_kinds.specs.declared.commands.Command.TheVariants as command
use Rattle.fbc_kinds.specs.declared.snapshots.Standing.TheVariants as standing
use Rattle.fbc_kinds.specs.declared.snapshots.Transaction.{Transaction}
use Rattle.fbc_kinds.specs.Machine.{Machine, after_end}
use Rattle.fbc_kinds.proofs.Tests.{and_fails_right}
use Rattle.fbc_levels.specs.declared.levels.Level.{Level}
use Rattle.fbc_levels.specs.declared.resources.Resource.{Resource}
use Rattle.fbc_runs.specs.Ended.{settled_by}
use Rattle.fbc_runs.specs.Runs.{MayAllCome, machine_after}
use Rattle.fbc_world.specs.Commands.{commands_at, where_true}
use Rattle.fbc_world.specs.declared.asks.Cause.{Cause}
use Rattle.fbc_world.specs.declared.events.Act.{Act}
use Rattle.fbc_world.specs.declared.events.Act.TheVariants.{Die, Grant, Local, Write}
use Rattle.fbc_world.specs.declared.events.LocalEvent.TheVariants as local
use Rattle.fbc_world.specs.Holdings.{is_draft_of}
use Rattle.fbc_world.specs.PageCell.{without}
use Rattle.fbc_world.specs.World.{World, acted, dead, granted_level, is_begin, is_mark_on, written}
use Rattle.fbc_legal.specs.Guards.{Guard}
use Rattle.fbc_legal.specs.Scene.{Scene}
use Rattle.fbc_closed_cuts.specs.Cut.{Cut, IsClosedCut}
use Rattle.fbc_closed_cuts.specs.Upheld.{MarksAreDrafted}
use Rattle.fbc_closed_cuts.specs.Views.{cut_before, is_edit, with_one}
use Rattle.fbc_closed_cuts.proofs.MarksKept.{wrote}
use Rattle.fbc_simulation.specs.Beside.{AreOpenIn, commits_in}
use Rattle.fbc_simulation.proofs.ActEnds.{LeadsTo, died-leads, wrote-leads}
use Rattle.fbc_simulation.proofs.ActOpens.{OpensAlike, died-alike, granted-alike, wrote-alike}
use Rattle.fbc_simulation.proofs.RunsLonger.{machine_after-append, may_all_come-append}

-- Whether an act begins a transaction.
abbrev pub begins_one : Act → Bool
begins_one (Grant resource level) = is_begin resource level
begins_one _ = false

-- The commands may come, and the machine has the owners' open transactions afterwards. Each cut after comes from the one before.
pub record IsBeside (w : World) (machine : Machine) (after : World) (commands : List Command) (earlier : Cut → Cut) : Type 0 where
  pub comes : MayAllCome machine commands
  pub opens : OpensAlike after (machine_after machine commands)
  pub leads : (cut : Cut) (living : List Transaction) → IsClosedCut after cut → AreOpenIn after cut living → LeadsTo w machine (earlier cut) after (machine_after machine commands) cut living

module _ (at : Scene) (m : MarksAreDrafted at.world) (owner : ℕ) (machine : Machine) (alike : OpensAlike at.world machine) where
  abbrev w : World
  w = at.world

  commit_comes : (b : Bool) → MayAllCome machine (where_true b (command.Commit owner ∷ []))
  commit_comes true = (refl, tt)
  commit_comes false = tt

  -- A death, where the pages of the cut are left.
  dies : (landed : Bool) → IsBeside w machine (acted at.shape w owner Die landed) (command.Kill owner ∷ []) (λ cut. cut)
  dies landed = record {
    comes = (refl, tt);
    opens = died-alike w machine alike owner;
    leads = λ cut living closed opens.
        let from = died-leads w m owner cut living machine closed.drafted (record { each = opens.each; drafts = opens.drafts }) in
        record { opens = from.opens; same = from.same };
  }

  abbrev commit : ℕ → List Command
  commit page = where_true (is_mark_on page (w.marked owner)) (command.Commit owner ∷ [])

  module _ (page : ℕ) (its : is_draft_of owner (w.draft page) ≡ true) where
    abbrev between : Machine
    between = machine_after machine (commit page)

    write_alone : machine_after machine (commit page ++ []) ≡ between
    write_alone = machine_after-append machine (commit page) []

    write_and_death : machine_after machine (commit page ++ command.Kill owner ∷ []) ≡ after_end between owner standing.RolledBack
    write_and_death = machine_after-append machine (commit page) (command.Kill owner ∷ [])

    wrote_opens : (cut : Cut) (living : List Transaction) → AreOpenIn (written w owner page) cut living → LeadsTo w machine (with_one page cut) (written w owner page) between cut living
    wrote_opens cut living opens = wrote-leads w m owner cut living machine page its opens

    -- A death behind the write.
    died_opens : (cut : Cut) (living : List Transaction) → ((p : ℕ) → cut p ≡ true → is_some (without owner ((written w owner page).draft p)) ≡ true) → AreOpenIn (dead (written w owner page) owner) cut living
        → LeadsTo w machine (with_one page cut) (dead (written w owner page) owner) (after_end between owner standing.RolledBack) cut living
    died_opens cut living fits opens =
        let late = died-leads (written w owner page) (wrote w m owner page its) owner cut living between fits opens in
        let early = wrote_opens cut living late.opens in
        record { opens = early.opens; same = late.same ∙ early.same }

    writes : (landed : Bool) (reason : Cause) → IsBeside w machine (acted at.shape w owner (Write page reason false) landed) (commit page ++ []) (with_one page)
    writes landed reason = record {
      comes = may_all_come-append machine (commit page) [] (commit_comes (is_mark_on page (w.marked owner))) tt;
      opens = subst (OpensAlike (written w owner page)) (sym write_alone) (wrote-alike w machine alike owner page);
      leads = λ cut living closed opens.
          let from = wrote_opens cut living (record { each = opens.each; drafts = opens.drafts }) in
          record { opens = from.opens; same = ap (settled_by living (commits_in (written w owner page) cut)) write_alone ∙ from.same };
    }

    writes_and_dies : (reason : Cause) → IsBeside w machine (acted at.shape w owner (Write page reason true) true) (commit page ++ command.Kill owner ∷ []) (with_one page)
    writes_and_dies reason = record {
      comes = may_all_come-append machine (commit page) (command.Kill owner ∷ []) (commit_comes (is_mark_on page (w.marked owner))) (refl, tt);
      opens = subst (OpensAlike (dead (written w owner page) owner)) (sym write_and_death) (died-alike (written w owner page) between (wrote-alike w machine alike owner page) owner);
      leads = λ cut living closed opens.
          let from = died_opens cut living closed.drafted (record { each = opens.each; drafts = opens.drafts }) in
          record { opens = from.opens; same = ap (settled_by living (commits_in (dead (written w owner page) owner) cut)) write_and_death ∙ from.same };
    }

  -- A write that fails and does not land.
  loses : (page : ℕ) (reason : Cause) → IsBeside w machine (acted at.shape w owner (Write page reason true) false) (command.Kill owner ∷ []) (λ cut. cut)
  loses page reason = let died = dies false in record {
    comes = died.comes;
    opens = died.opens;
    leads = λ cut living closed opens.
        let from = died.leads cut living (record { drafted = closed.drafted; closed = closed.closed }) (record { each = opens.each; drafts = opens.drafts }) in
        record { opens = from.opens; same = from.same };
  }

  -- A grant that begins nothing.
  grants : (resource : Resource) (level : Level) (landed : Bool) → is_begin resource level ≡ false → IsBeside w machine (acted at.shape w owner (Grant resource level) landed) [] (λ cut. cut)
  grants resource level landed plain = record {
    comes = tt;
    opens = granted-alike w machine alike owner resource level plain;
    leads = λ cut living closed opens. record {
      opens = record { each = λ t lives. was t (opens.each t lives); drafts = opens.drafts };
      same = refl;
    };
  } where
    same : (o : ℕ) → (granted_level w owner resource level).transaction o ≡ w.transaction o
    same o = rw (plain, and_fails_right (o == owner) false refl) refl

    was : (t : Transaction) → (granted_level w owner resource level).transaction t.owner ≡ Some t → w.transaction t.owner ≡ Some t
    was t is = sym (same t.owner) ∙ is

  pub acts_beside : (act : Act) (landed : Bool) → Guard at owner act → is_edit act ≡ false → begins_one act ≡ false
      → IsBeside w machine (acted at.shape w owner act landed) (commands_at at.shape w owner act landed) (cut_before act landed)
  acts_beside Die landed g no_edit plain = dies landed
  acts_beside (Write page reason false) landed g no_edit plain = writes page g.drafted landed reason
  acts_beside (Write page reason true) true g no_edit plain = writes_and_dies page g.drafted reason
  acts_beside (Write page reason true) false g no_edit plain = loses page reason
  acts_beside (Grant resource level) landed g no_edit plain = rw plain (grants resource level landed plain)
  acts_beside (Local (local.Edit page e)) landed g no_edit plain = absurd cc
  acts_beside (Local (local.Before high low)) landed g no_edit plain = record { comes = tt; opens = alike; leads = λ cut living closed opens. record { opens = record { each = opens.each; drafts = opens.drafts }; same = refl } }
  acts_beside (Local (local.Pin page)) landed g no_edit plain = record { comes = tt; opens = alike; leads = λ cut living closed opens. record { opens = record { each = opens.each; drafts = opens.drafts }; same = refl } }
  acts_beside (Local (local.Unpin page)) landed g no_edit plain = record { comes = tt; opens = alike; leads = λ cut living closed opens. record { opens = record { each = opens.each; drafts = opens.drafts }; same = refl } }
  acts_beside _ landed g no_edit plain = record { comes = tt; opens = alike; leads = λ cut living closed opens. record { opens = record { each = opens.each; drafts = opens.drafts }; same = refl } }
