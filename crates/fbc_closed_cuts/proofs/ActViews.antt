-- No act but an edit makes a new view.
use Rattle.std.proofs.Common.{◌≡◌, ◌∙◌, ℕ, Bool, true, false, if◌then◌else◌, refl}
use Rattle.fbc_world.specs.declared.asks.Cause.{Cause}
use Rattle.fbc_world.specs.declared.events.Act.{Act}
use Rattle.fbc_world.specs.declared.events.Act.TheVariants.{Die, Local, Write}
use Rattle.fbc_world.specs.declared.events.LocalEvent.TheVariants as local
use Rattle.fbc_world.specs.World.{World, IsPairIn, acted}
use Rattle.fbc_legal.specs.Coherent.{IsCoherent}
use Rattle.fbc_legal.specs.Guards.{Guard, GuardOfWrite}
use Rattle.fbc_legal.specs.Legal.{MayAct}
use Rattle.fbc_legal.specs.Scene.{Scene}
use Rattle.fbc_legal.specs.Stamps.{stamps_step, stamps_written}
use Rattle.fbc_legal.proofs.Exclusion.{AreRequestsTrue}
use Rattle.fbc_legal.proofs.Induction.{IsCoherent-acted}
use Rattle.fbc_legal.proofs.Order.{stands_by_more}
use Rattle.fbc_closed_cuts.specs.Cut.{Cut, IsClosedCut}
use Rattle.fbc_closed_cuts.specs.Views.{IsSameView, cut_before, is_edit, with_one}
use Rattle.fbc_closed_cuts.proofs.DeathViews.{death-view}
use Rattle.fbc_closed_cuts.proofs.WriteViews.{write-view}

module _ (at : Scene) (h : IsCoherent at.world) (t : AreRequestsTrue at.world) (owner : ℕ) (stamp : ℕ) where
  abbrev w : World
  w = at.world

  -- A failed write that lands is a write and a death.
  failed : (page : ℕ) (reason : Cause) → w.is_alive owner ≡ true → GuardOfWrite at owner page reason → (cut : Cut) → IsClosedCut (acted at.shape w owner (Write page reason true) true) cut
      → IsSameView w at.stamps (acted at.shape w owner (Write page reason true) true) (stamps_written w owner page at.stamps) cut (with_one page cut)
  failed page reason may g cut closed =
      let between : Scene = record at { world = acted at.shape w owner (Write page reason false) true; stamps = stamps_written w owner page at.stamps } in
      let coherent : IsCoherent between.world = IsCoherent-acted at h t owner true (Write page reason false) may g in
      let late = death-view between coherent owner true cut (record { drafted = closed.drafted; closed = closed.closed }) in
      let early = write-view at owner page reason true g cut (record { drafted = late.closed.drafted; closed = late.closed.closed }) in
      record {
        closed = early.closed;
        pages = λ p. late.pages p ∙ early.pages p;
        stamps = λ p. late.stamps p ∙ early.stamps p;
      }

  pub act-views : (act : Act) (landed : Bool) → MayAct at owner act → Guard at owner act → is_edit act ≡ false → (cut : Cut) → IsClosedCut (acted at.shape w owner act landed) cut
      → IsSameView w at.stamps (acted at.shape w owner act landed) (stamps_step at.shape w stamp owner act landed at.stamps) cut (cut_before act landed cut)
  act-views Die landed may g plain cut closed = death-view at h owner landed cut closed
  act-views (Write page reason true) true may g plain cut closed = failed page reason may g cut closed
  act-views (Write page reason true) false may g plain cut closed =
      let late = death-view at h owner false cut (record { drafted = closed.drafted; closed = closed.closed }) in
      record { closed = late.closed; pages = late.pages; stamps = late.stamps }
  act-views (Write page reason false) landed may g plain cut closed = write-view at owner page reason landed g cut closed
  act-views (Local (local.Edit page e)) landed may g plain cut closed = absurd cc
  act-views (Local (local.Before high low)) landed may g plain cut closed = record {
    closed = record {
      drafted = closed.drafted;
      closed = λ x y path. closed.closed x y (stands_by_more (IsPairIn w) (IsPairIn (acted at.shape w owner (Local (local.Before high low)) landed)) (λ a b pair. (pair.0, more pair.0 a b pair.1)) x y path);
    };
    pages = λ p. refl;
    stamps = λ p. refl;
  } where
    more : (o a b : ℕ) → w.has_pair o a b ≡ true → (acted at.shape w owner (Local (local.Before high low)) landed).has_pair o a b ≡ true
    more o a b is = rw is (always _) where
      always : (c : Bool) → (if c then true else true) ≡ true
      always true = refl
      always false = refl
  act-views (Local (local.Pin page)) landed may g plain cut closed = record { closed = record { drafted = closed.drafted; closed = closed.closed }; pages = λ p. refl; stamps = λ p. refl }
  act-views (Local (local.Unpin page)) landed may g plain cut closed = record { closed = record { drafted = closed.drafted; closed = closed.closed }; pages = λ p. refl; stamps = λ p. refl }
  act-views _ landed may g plain cut closed = record { closed = record { drafted = closed.drafted; closed = closed.closed }; pages = λ p. refl; stamps = λ p. refl }
