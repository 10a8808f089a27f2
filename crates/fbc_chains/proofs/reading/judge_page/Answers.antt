-- A page that stands elsewhere: the read goes on to the slot once more.
use Rattle.fbc_kinds.specs.Chain.{holds}
use Rattle.fbc_chains.specs.declared.parts.ReadPart.TheVariants as parts
use Rattle.fbc_chains.specs.Showing.{shown_by}
use Rattle.fbc_chains.proofs.Showing.{lent-is}
use Rattle.fbc_chains.proofs.Ways.{comes-on, stands-elsewhere}
use Rattle.fbc_chains.proofs.reading.judge_page.Goals as goal

pub returns-in-Some-clause-comes : goal.returns-in-Some-clause-comes
returns-in-Some-clause-comes c =
    comes-on (shown_by c.args.desk.now.cache) (shown_by c.leave.new.desk.cache) c.args.at (holds c.args.snapshot.now) (parts.Page c.args.page)
    (parts.Named c.args.page c.in-Some.rule) c.read_name.new.part c.read_name.result
    (stands-elsewhere (shown_by c.args.desk.now.cache) (shown_by c.cache.result.now) c.args.at c.args.page c.place.result c.data_place.result c.in-Some.rule
    (lent-is c.cache.result.now c.args.desk.now.cache c.cache.ensures) c.place.ensures c.data_place.ensures c.in-Some.ensures c.requires.there)
    c.leave.ensures.same (c.read_name.ensures.comes (holds c.args.snapshot.now))
