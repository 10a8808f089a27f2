use Rattle.fbc_files.proofs.RowlessViews.{IsSound-rowless, MeanTheSame-rowless}
use Rattle.fbc_files.proofs.view_laws.rowless_view.Goals as goal

pub returns-clause-sound : goal.returns-clause-sound
returns-clause-sound c = λ view header fits no_rows active. IsSound-rowless view no_rows header fits active

pub returns-clause-meaning : goal.returns-clause-meaning
returns-clause-meaning c = MeanTheSame-rowless
