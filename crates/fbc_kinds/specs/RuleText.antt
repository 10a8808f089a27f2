use Rattle.std.specs.Prelude.{ℕ, List, codes}
use Rattle.fbc_kinds.specs.declared.rules.Rule.{Rule}
use Rattle.fbc_kinds.specs.declared.rules.Rule.TheVariants as rule

-- The word that names a rule.
abbrev pub rule_text : Rule → List ℕ
rule_text rule.Short = codes "short"
rule_text rule.Kind = codes "kind"
rule_text rule.Head = codes "head"
rule_text rule.Number = codes "number"
rule_text rule.Magic = codes "magic"
rule_text rule.Size = codes "size"
rule_text rule.Version = codes "version"
rule_text rule.Length = codes "length"
rule_text rule.Next = codes "next"
rule_text rule.Count = codes "count"
rule_text rule.Name = codes "name"
rule_text rule.Value = codes "value"
rule_text rule.Pointers = codes "pointers"
rule_text rule.Tips = codes "tips"
rule_text rule.Oldest = codes "oldest"
rule_text rule.Rest = codes "rest"
rule_text rule.Bits = codes "bits"
rule_text rule.Zero = codes "zero"
rule_text rule.State = codes "state"
rule_text rule.Relation = codes "relation"
rule_text rule.Flag = codes "flag"
rule_text rule.Cell = codes "cell"
rule_text rule.Sequence = codes "sequence"
rule_text rule.Taken = codes "taken"
rule_text rule.Twice = codes "twice"
rule_text rule.Chain = codes "chain"
rule_text rule.Future = codes "future"
rule_text rule.Below = codes "below"
