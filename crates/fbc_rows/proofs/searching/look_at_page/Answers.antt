-- What is called damaged.
use Rattle.std.proofs.Common.{◌∙◌}
use Rattle.fbc_chains.specs.Showing.{shown_by}
use Rattle.fbc_rows.proofs.Remembered.{named-now-some}
use Rattle.fbc_rows.proofs.searching.look_at_page.Goals as goal

pub returns-in-Here-clause-damages : goal.returns-in-Here-clause-damages
returns-in-Here-clause-damages c =
    named-now-some c.look_at_name.new.desk (shown_by c.hold_data.new.desk.cache) c.args.relation c.args.part.now.at c.args.page c.leave_if_broken-broken.result c.look_at_name.result
    c.leave_if_broken-broken.ensures.broken (c.look_at_name.ensures.same ∙ c.leave_if_broken-broken.ensures.same) c.look_at_name.ensures.damages
