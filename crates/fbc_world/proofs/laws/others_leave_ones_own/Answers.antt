use Rattle.fbc_world.proofs.HoldingsFrame.{holdings-frame}
use Rattle.fbc_world.proofs.WorldFrame.{alive-frame, buffers-frame, copy-frame, draft-frame, granted-frame, mark-frame, own-requests-frame, pair-frame, pin-frame, transaction-frame}
use Rattle.fbc_world.proofs.laws.others_leave_ones_own.Goals as goal

pub returns : goal.returns
returns c = λ shape w owner other act landed apart. record {
  copy = copy-frame shape w owner other apart act landed;
  draft = draft-frame shape w owner other apart act landed;
  pin = pin-frame shape w owner other apart act landed;
  pair = pair-frame shape w owner other apart act landed;
  requests = own-requests-frame shape w owner other apart act landed;
  granted = granted-frame shape w owner other apart act landed;
  transaction = transaction-frame shape w owner other apart act landed;
  mark = mark-frame shape w owner other apart act landed;
  life = alive-frame shape w owner other apart act landed;
  holdings = holdings-frame owner other apart shape w act landed;
  buffers = buffers-frame shape w owner other apart act landed;
}
