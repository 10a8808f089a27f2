use Rattle.std.proofs.Common.{◌≡◌, ◌++◌, drop}
use Rattle.std.specs.Option.{option_map}
use Rattle.fbc_command_line.specs.NewFile.{relations_of}
use Rattle.fbc_command_line.proofs.new_file.relations_of.Given as goal

-- The relations so far and those that are left.
abbrev pub invariant-loop-word : goal.invariant-loop-word
invariant-loop-word l = option_map (λ later. l.relations ++ later) (relations_of (drop l.word-index l.words)) ≡ relations_of l.words
