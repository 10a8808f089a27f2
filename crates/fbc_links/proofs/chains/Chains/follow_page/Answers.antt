use Rattle.std.proofs.Common.{◌++◌, List, sym, subst, ap, append-nil, ◌∙◌}
use Rattle.std.proofs.lemmas.Result.{on_ok_weaker}
use Rattle.fbc_kinds.specs.Limits.{IsPageSize}
use Rattle.fbc_links.specs.Following.{AreFollowed}
use Rattle.fbc_links.specs.Links.{Link}
use Rattle.fbc_links.specs.Versions.{cells_walked}
use Rattle.fbc_links.proofs.PageLinks.{few_walked, none_walked, walked_links}
use Rattle.fbc_links.proofs.chains.Chains.follow_page.Goals as goal

pub returns-in-Data-clause-followed : goal.returns-in-Data-clause-followed
returns-in-Data-clause-followed c =
    on_ok_weaker c.follow_tops.result
    (λ now view all walked followed.
    let n = c.args.naming in
    let few = few_walked walked.shape walked.bytes view walked.shown (subst IsPageSize (sym walked.shape_size) c.requires) n in
    let P : List Link → Type 0 = λ links. AreFollowed view links c.follow_tops.new.self in
    subst P (ap (λ links. all ++ links) (walked_links view n c.in-Data.relation c.in-Data.sequence c.in-Data.is))
    (now view all (cells_walked view n) walked (c.cells.ensures view walked) few followed))
    c.follow_tops.ensures.followed

pub returns-in_default-clause-followed : goal.returns-in_default-clause-followed
returns-in_default-clause-followed c view all walked followed =
    let P : List Link → Type 0 = λ links. AreFollowed view links c.args.self.now in
    subst P (sym (ap (λ links. all ++ links) (none_walked view c.args.naming c.in_default.not-Data) ∙ append-nil all)) followed
