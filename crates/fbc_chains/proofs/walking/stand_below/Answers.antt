-- What the version below comes to.
use Rattle.std.proofs.Common.{◌≡◌, ℕ, Bool, true, false, refl, subst, sym, inr}
use Rattle.fbc_kinds.specs.declared.pages.Cell.{Cell}
use Rattle.fbc_kinds.specs.Chain.{holds}
use Rattle.fbc_notes.specs.Sights.{TellsBelow}
use Rattle.fbc_cache.specs.Cache.{CacheState}
use Rattle.fbc_desk.specs.Calls.{GoesOn}
use Rattle.fbc_chains.specs.Pages.{IsThere}
use Rattle.fbc_chains.specs.Showing.{Showing, shown_by}
use Rattle.fbc_chains.specs.Versions.{LeadsOn, cell_below, is_older, page_below, version_at}
use Rattle.fbc_chains.proofs.Showing.{lent-is, lent-shows}
use Rattle.fbc_chains.proofs.Ways.{number-of, of-below, told-of}
use Rattle.fbc_chains.proofs.walking.stand_below.Goals as goal

-- Whether it is an older one, where it stands, and what is shown after the page above was left.
older-is : (now lent : CacheState) (relation page cell : ℕ) (result is : Bool) → lent ≡ now → result ≡ is_older (shown_by lent) relation page cell → result ≡ is → is_older (shown_by now) relation page cell ≡ is
older-is now lent relation page cell result is same told known =
    told-of (shown_by now) (shown_by lent) (λ (u : Showing). is_older u relation page cell) result is (lent-is lent now same) told known

page-is : (now lent : CacheState) (page cell result : ℕ) → lent ≡ now → result ≡ page_below (shown_by lent) page cell → result ≡ page_below (shown_by now) page cell
page-is now lent page cell result same told = number-of (shown_by now) (shown_by lent) (λ (u : Showing). page_below u page cell) result (lent-is lent now same) told

cell-is : (now lent : CacheState) (page cell result : ℕ) → lent ≡ now → result ≡ cell_below (shown_by lent) page cell → result ≡ cell_below (shown_by now) page cell
cell-is now lent page cell result same told = number-of (shown_by now) (shown_by lent) (λ (u : Showing). cell_below u page cell) result (lent-is lent now same) told

pub returns-then-not-leads_to_older-clause-steps : goal.returns-then-not-leads_to_older-clause-steps
returns-then-not-leads_to_older-clause-steps c =
    inr (record {
      there = c.requires.there;
      none = older-is c.args.desk.now.cache c.cache.result.now c.args.at.relation c.args.page c.args.cell c.leads_to_older.result false c.cache.ensures c.leads_to_older.ensures c.if-not-leads_to_older.true;
      is_page = refl;
      is_rule = refl;
    })

pub returns-then-not-leads_to_older-clause-goes : goal.returns-then-not-leads_to_older-clause-goes
returns-then-not-leads_to_older-clause-goes c = GoesOn.stays c.args.desk.now

pub returns-in-Sees-clause-steps : goal.returns-in-Sees-clause-steps
returns-in-Sees-clause-steps c = (
  c.requires.there,
  older-is c.args.desk.now.cache c.cache.result.now c.args.at.relation c.args.page c.args.cell c.leads_to_older.result true c.cache.ensures c.leads_to_older.ensures c.if-not-leads_to_older.false,
  of-below (shown_by c.args.desk.now.cache) (shown_by c.cache-4.result.now) (λ (v : Cell). TellsBelow (holds c.args.snapshot.now) v c.in-Sees.value)
      c.args.page c.args.cell c.back_page-below.result c.back_cell-older.result
      (lent-shows c.cache-4.result.now c.leave_for.new.desk.cache c.args.desk.now.cache c.cache-4.ensures c.leave_for.ensures.same)
      (page-is c.args.desk.now.cache c.cache-2.result.now c.args.page c.args.cell c.back_page-below.result c.cache-2.ensures c.back_page-below.ensures)
      (cell-is c.args.desk.now.cache c.cache-3.result.now c.args.page c.args.cell c.back_cell-older.result c.cache-3.ensures c.back_cell-older.ensures)
      c.in-Sees.ensures,
)

pub returns-in-LeadsOn-clause-steps : goal.returns-in-LeadsOn-clause-steps
returns-in-LeadsOn-clause-steps c =
    let below : c.back_page-below.result ≡ page_below (shown_by c.args.desk.now.cache) c.args.page c.args.cell =
    page-is c.args.desk.now.cache c.cache-2.result.now c.args.page c.args.cell c.back_page-below.result c.cache-2.ensures c.back_page-below.ensures in (
      below,
      cell-is c.args.desk.now.cache c.cache-3.result.now c.args.page c.args.cell c.back_cell-older.result c.cache-3.ensures c.back_cell-older.ensures,
      subst (λ (b : ℕ). IsThere (shown_by c.args.desk.now.cache) b) (sym below) c.requires.there,
      older-is c.args.desk.now.cache c.cache.result.now c.args.at.relation c.args.page c.args.cell c.leads_to_older.result true c.cache.ensures c.leads_to_older.ensures c.if-not-leads_to_older.false,
      subst (λ (u : Showing). LeadsOn (holds c.args.snapshot.now) (version_at u c.back_page-below.result c.back_cell-older.result))
          (lent-shows c.cache-4.result.now c.leave_for.new.desk.cache c.args.desk.now.cache c.cache-4.ensures c.leave_for.ensures.same) c.in-LeadsOn.ensures,
    )
