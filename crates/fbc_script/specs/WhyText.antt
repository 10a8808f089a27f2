-- The words that name the causes of faulty lines.
use Rattle.std.specs.Prelude.{ℕ, List, ◌++◌, codes}
use Rattle.std.specs.Fmt.{decimal}
use Rattle.fbc_script.specs.declared.faults.ScriptFault.{ScriptFault}
use Rattle.fbc_script.specs.declared.faults.Why.{Why}
use Rattle.fbc_script.specs.declared.faults.Why.TheVariants as why

-- The word that names a cause.
abbrev pub why_text : Why → List ℕ
why_text why.Space = codes "space"
why_text why.Attachment = codes "attachment"
why_text why.Word = codes "word"
why_text why.Count = codes "count"
why_text why.Name = codes "name"
why_text why.Number = codes "number"
why_text why.Text = codes "text"

-- The text of a fault: the line's number and the cause.
abbrev pub fault_text : ScriptFault → List ℕ
fault_text fault = decimal fault.line ++ codes " " ++ why_text fault.why
