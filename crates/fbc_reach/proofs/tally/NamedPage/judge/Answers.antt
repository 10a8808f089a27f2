use Rattle.std.proofs.Common.{◌==◌, not, ap}
use Rattle.fbc_reach.proofs.Tallied.{flag_more, walked_step}
use Rattle.fbc_reach.proofs.tally.NamedPage.judge.Goals as goal

pub returns-clause-judged : goal.returns-clause-judged
returns-clause-judged c late_version page done judged =
    let named = c.args.self.now in
    let other = ap (λ code. not (named.read.kind == code)) c.kind_code.ensures in
    record {
      walked = walked_step done page named.read.kind c.args.role named.walked _ _ judged.walked other c.walked_for-self.ensures;
      kind = flag_more done page c.args.role _ named.other_kind _ judged.kind other;
      relation = flag_more done page c.args.role _ named.other_relation _ judged.relation c.has_other_relation.ensures;
      sequence = flag_more done page c.args.role _ named.other_sequence _ judged.sequence c.has_other_sequence.ensures;
      twice = flag_more done page c.args.role _ named.other_role _ judged.twice (ap not c.is_same_role.ensures);
      future = flag_more done page c.args.role _ named.late _ judged.future (c.is_late_in.ensures late_version);
    }
