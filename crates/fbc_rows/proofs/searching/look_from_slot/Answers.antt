-- What it comes to.
use Rattle.fbc_chains.specs.Showing.{shown_by}
use Rattle.fbc_rows.proofs.Gone.{never-gone}
use Rattle.fbc_rows.proofs.searching.look_from_slot.Goals as goal

pub returns-in-Names-clause-gone : goal.returns-in-Names-clause-gone
returns-in-Names-clause-gone c =
    never-gone (shown_by c.args.desk.now.cache) (shown_by c.look_at_slot.new.desk.cache) c.args.relation c.args.part.now.at c.in-Names.page c.look_at_page.result
    c.look_at_slot.ensures.same c.in-Names.ensures.slot c.look_at_page.ensures.gone
