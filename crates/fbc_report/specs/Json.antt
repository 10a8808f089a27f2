-- The report as one JSON value.
use Rattle.std.specs.Prelude.{ℕ, Bool, true, false, List, [], ◌∷◌, ◌++◌, codes, map}
use Rattle.std.specs.List.{flat_map}
use Rattle.std.specs.Fmt.{decimal}
use Rattle.fbc_kinds.specs.declared.rules.Rule.{Rule}
use Rattle.fbc_kinds.specs.RuleText.{rule_text}
use Rattle.fbc_report.specs.Text.{is_sound}
use Rattle.fbc_validator.specs.declared.findings.Findings.{Findings}

-- Texts with commas between them.
abbrev pub with_commas : List (List ℕ) → List ℕ
with_commas [] = []
with_commas (text ∷ texts) = text ++ flat_map (λ (other : List ℕ). 44 ∷ other) texts

-- A JSON array of values that have these texts.
abbrev pub array_text : List (List ℕ) → List ℕ
array_text texts = 91 ∷ with_commas texts ++ 93 ∷ []

-- A damage is the pair of the page and, in quotes, the rule.
abbrev pub damage_json : ℕ × Rule → List ℕ
damage_json damage = array_text (decimal damage.0 ∷ (34 ∷ rule_text damage.1 ++ 34 ∷ []) ∷ [])

-- A lost cell is the pair of its page and its place there.
abbrev pub lost_cell_json : ℕ × ℕ → List ℕ
lost_cell_json lost = array_text (decimal lost.0 ∷ decimal lost.1 ∷ [])

-- The word of a Bool.
abbrev pub bool_json : Bool → List ℕ
bool_json true = codes "true"
bool_json false = codes "false"

-- The report: one object without spaces, its members by rising names, and a line feed.
abbrev pub report_json : Findings → List ℕ
report_json findings =
    codes "{\"damages\":" ++ array_text (map damage_json findings.damages)
    ++ codes ",\"lost_cells\":" ++ array_text (map lost_cell_json findings.lost_cells)
    ++ codes ",\"lost_pages\":" ++ array_text (map decimal findings.lost_pages)
    ++ codes ",\"pages\":" ++ decimal findings.pages
    ++ codes ",\"sound\":" ++ bool_json (is_sound findings.damages)
    ++ codes "}\n"
