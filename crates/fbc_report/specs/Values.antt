-- The report as JSON data.
use Rattle.std.specs.Prelude.{ℕ, Bool, List, codes, map}
use Rattle.fbc_kinds.specs.declared.rules.Rule.{Rule}
use Rattle.fbc_kinds.specs.RuleText.{rule_text}
use Rattle.fbc_validator.specs.declared.findings.Findings.{Findings}
use Rattle.fbc_report.specs.Text.{is_sound}
use Rattle.serde_json.specs.Data.{Data, boolean, number, unsigned, string, array, object, no_items, item, no_members, member}
use Rattle.serde_json.specs.View.{items_of}

-- A number.
abbrev pub number_data : ℕ → Data
number_data n = number (unsigned n)

-- An array of these.
abbrev pub array_of : List Data → Data
array_of parts = array (items_of parts)

-- A damage is the pair of the page and the rule.
abbrev pub damage_data : ℕ × Rule → Data
damage_data damage = array (item (number_data damage.0) (item (string (rule_text damage.1)) no_items))

-- A lost cell is the pair of its page and its place there.
abbrev pub lost_cell_data : ℕ × ℕ → Data
lost_cell_data lost = array (item (number_data lost.0) (item (number_data lost.1) no_items))

-- The report of these parts.
abbrev pub report_data : Data → Data → Data → ℕ → Bool → Data
report_data damages lost_cells lost_pages pages sound =
    object
    (member (codes "damages") damages
    (member (codes "lost_cells") lost_cells
    (member (codes "lost_pages") lost_pages
    (member (codes "pages") (number_data pages)
    (member (codes "sound") (boolean sound) no_members)))))

-- The report of what was found.
abbrev pub found_data : Findings → Data
found_data found =
    report_data
    (array_of (map damage_data found.damages))
    (array_of (map lost_cell_data found.lost_cells))
    (array_of (map number_data found.lost_pages))
    found.pages
    (is_sound found.damages)
