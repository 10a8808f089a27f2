use Rattle.fbc_kinds.proofs.Roles.{reached_once}
use Rattle.fbc_files.proofs.ReachedRoles.{HasRole-reached}
use Rattle.fbc_files.proofs.view_laws.reached_pages.Goals as goal

pub returns-clause-role : goal.returns-clause-role
returns-clause-role c = λ view header role page fits data_fits is. HasRole-reached view header fits data_fits role page is

pub returns-clause-once : goal.returns-clause-once
returns-clause-once c = λ view header role other page fits data_fits here there.
    reached_once view (λ r p is. (HasRole-reached view header fits data_fits r p is).shows) role other page here there
