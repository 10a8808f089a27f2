-- The report as lines of text.
use Rattle.std.specs.Prelude.{ℕ, Bool, true, false, List, [], ◌∷◌, ◌++◌, codes}
use Rattle.std.specs.List.{flat_map}
use Rattle.std.specs.Fmt.{decimal}
use Rattle.fbc_kinds.specs.declared.rules.Rule.{Rule}
use Rattle.fbc_kinds.specs.RuleText.{rule_text}
use Rattle.fbc_validator.specs.declared.findings.Findings.{Findings}

-- A line: its words and a line feed.
abbrev pub line : List ℕ → List ℕ
line words = words ++ 10 ∷ []

-- The line of the file's length in pages.
abbrev pub pages_line : ℕ → List ℕ
pages_line pages = line (codes "pages " ++ decimal pages)

-- The line of a damaged page: its number, and the rule that it breaks.
abbrev pub damage_line : ℕ × Rule → List ℕ
damage_line damage = line (codes "damaged " ++ decimal damage.0 ++ 32 ∷ rule_text damage.1)

-- The line of a lost page.
abbrev pub lost_page_line : ℕ → List ℕ
lost_page_line page = line (codes "lost page " ++ decimal page)

-- The line of a lost cell: its page and its place there.
abbrev pub lost_cell_line : ℕ × ℕ → List ℕ
lost_cell_line lost = line (codes "lost cell " ++ decimal lost.0 ++ 32 ∷ decimal lost.1)

-- A file is sound where no page is damaged.
abbrev pub is_sound : List (ℕ × Rule) → Bool
is_sound [] = true
is_sound _ = false

-- The last line says whether it is.
abbrev pub verdict_line : Bool → List ℕ
verdict_line true = line (codes "sound")
verdict_line false = line (codes "damaged")

-- The report: the length, the damages, the lost pages, the lost cells, and the verdict.
abbrev pub report_text : Findings → List ℕ
report_text findings =
    pages_line findings.pages
    ++ flat_map damage_line findings.damages
    ++ flat_map lost_page_line findings.lost_pages
    ++ flat_map lost_cell_line findings.lost_cells
    ++ verdict_line (is_sound findings.damages)
