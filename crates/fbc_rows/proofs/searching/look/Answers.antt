-- What is called damaged.
use Rattle.fbc_rows.proofs.Remembered.{damages-now-some, named-then-some}
use Rattle.fbc_chains.specs.Showing.{shown_by}
use Rattle.fbc_rows.proofs.Gone.{named-gone, none-gone, page-gone}
use Rattle.fbc_rows.proofs.searching.look.Goals as goal

pub returns-in-Page-clause-damages : goal.returns-in-Page-clause-damages
returns-in-Page-clause-damages c = damages-now-some c.look_at_page.new.desk c.args.relation c.args.part.now c.look_at_page.result c.look_at_page.ensures.damages

pub returns-in-Named-clause-damages : goal.returns-in-Named-clause-damages
returns-in-Named-clause-damages c =
    named-then-some c.look_at_name.new.desk c.args.relation c.args.part.now c.in-Named.page c.in-Named.broken c.look_at_name.result c.in-Named.is c.look_at_name.ensures.damages

pub returns-in_default : goal.returns-in_default
returns-in_default c = record {
  passes = c.look_from_slot.ensures.passes;
  rest = c.look_from_slot.ensures.rest;
  gone = none-gone _ c.look_from_slot.result c.look_from_slot.ensures.gone;
  same = c.look_from_slot.ensures.same;
  misses = c.look_from_slot.ensures.misses;
  damages = damages-now-some c.look_from_slot.new.desk c.args.relation c.args.part.now c.look_from_slot.result c.look_from_slot.ensures.damages;
  goes = c.look_from_slot.ensures.goes;
}

pub returns-in-Page-clause-gone : goal.returns-in-Page-clause-gone
returns-in-Page-clause-gone c = page-gone (shown_by c.args.desk.now.cache) c.args.relation c.in-Page.page c.args.part.now c.look_at_page.result c.in-Page.is c.look_at_page.ensures.gone

pub returns-in-Named-clause-gone : goal.returns-in-Named-clause-gone
returns-in-Named-clause-gone c =
    named-gone (shown_by c.args.desk.now.cache) c.args.relation c.in-Named.page c.in-Named.broken c.args.part.now c.look_at_name.result c.in-Named.is c.look_at_name.ensures.gone
