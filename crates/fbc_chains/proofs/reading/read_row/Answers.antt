-- The read at the row's own cell.
use Rattle.std.proofs.Common.{◌≡◌, ℕ, Bool, true, false, refl, subst}
use Rattle.fbc_kinds.specs.Chain.{holds}
use Rattle.fbc_kinds.specs.View.{is_top}
use Rattle.fbc_notes.specs.Sights.{TellsBelow, TellsSeen}
use Rattle.fbc_cache.specs.Cache.{CacheState}
use Rattle.fbc_desk.specs.Calls.{GoesOn}
use Rattle.fbc_chains.specs.declared.parts.ReadPart.TheVariants as parts
use Rattle.fbc_chains.specs.Showing.{Showing, shown_by}
use Rattle.fbc_chains.specs.Versions.{LeadsOn, version_at}
use Rattle.fbc_chains.proofs.Showing.{lent-is}
use Rattle.fbc_chains.proofs.Ways.{comes-here, comes-on, tells-seen, told-of}
use Rattle.fbc_chains.proofs.reading.read_row.Goals as goal

-- Whether the version in the row's own cell is a newest one.
top-is : (now lent : CacheState) (page cell : ℕ) (result is : Bool) → lent ≡ now → result ≡ is_top (version_at (shown_by lent) page cell).flag → result ≡ is → is_top (version_at (shown_by now) page cell).flag ≡ is
top-is now lent page cell result is same told known =
    told-of (shown_by now) (shown_by lent) (λ (u : Showing). is_top (version_at u page cell).flag) result is (lent-is lent now same) told known

pub returns-then-not-is_top-clause-comes : goal.returns-then-not-is_top-clause-comes
returns-then-not-is_top-clause-comes c =
    comes-here _ _ _ (parts.Page c.args.page) _ _ c.requires.part
    (c.requires.stands, TellsSeen.of_none (top-is c.args.desk.now.cache c.cache.result.now c.args.page c.args.at.cell c.is_top.result false c.cache.ensures c.is_top.ensures c.if-not-is_top.true) refl)

pub returns-then-not-is_top-clause-goes : goal.returns-then-not-is_top-clause-goes
returns-then-not-is_top-clause-goes c = GoesOn.stays c.args.desk.now

pub returns-in-Sees-clause-comes : goal.returns-in-Sees-clause-comes
returns-in-Sees-clause-comes c =
    comes-here _ _ _ (parts.Page c.args.page) _ _ c.requires.part (
      c.requires.stands,
      tells-seen (holds c.args.snapshot.now) (version_at (shown_by c.args.desk.now.cache) c.args.page c.args.at.cell) c.in-Sees.value
          (top-is c.args.desk.now.cache c.cache.result.now c.args.page c.args.at.cell c.is_top.result true c.cache.ensures c.is_top.ensures c.if-not-is_top.false)
          (subst (λ (u : Showing). TellsBelow (holds c.args.snapshot.now) (version_at u c.args.page c.args.at.cell) c.in-Sees.value)
          (lent-is c.cache-2.result.now c.args.desk.now.cache c.cache-2.ensures) c.in-Sees.ensures),
    )

pub returns-in-LeadsOn-clause-comes : goal.returns-in-LeadsOn-clause-comes
returns-in-LeadsOn-clause-comes c =
    comes-on (shown_by c.args.desk.now.cache) (shown_by c.args.desk.now.cache) c.args.at (holds c.args.snapshot.now) (parts.Page c.args.page)
    (parts.Walk c.args.page c.args.at.cell) c.walk.new.part c.walk.result (
      refl,
      refl,
      c.requires.stands,
      record {
        top = top-is c.args.desk.now.cache c.cache.result.now c.args.page c.args.at.cell c.is_top.result true c.cache.ensures c.is_top.ensures c.if-not-is_top.false;
        on =
            subst (λ (u : Showing). LeadsOn (holds c.args.snapshot.now) (version_at u c.args.page c.args.at.cell))
            (lent-is c.cache-2.result.now c.args.desk.now.cache c.cache-2.ensures) c.in-LeadsOn.ensures;
      },
    )
    refl c.walk.ensures.comes
