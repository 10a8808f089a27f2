use Rattle.fbc_region.proofs.FollowingGrants.{follow_are_grants}
use Rattle.fbc_region.proofs.steps_laws.grants_alone_follow_acts.Goals as goal

pub returns : goal.returns
returns c locks who answer own grants follow = follow_are_grants locks who answer own grants follow
