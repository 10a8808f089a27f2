use Rattle.std.proofs.Common.{sym, ◌∙◌}
use Rattle.fbc_script.proofs.laws.bytes_spell_one_script.Goals as goal

pub returns : goal.returns
returns c threads bytes script other is also =
    λ i. record { lines = (is.lines ∙ sym also.lines) i; length = (is.length ∙ sym also.length) i }
