-- The texts of the report's JSON data.
use Rattle.std.proofs.Common.{◌≡◌, ℕ, Bool, true, false, List, [], ◌∷◌, ◌++◌, codes, map, refl, ap, ◌∙◌, append_assoc, sym}
use Rattle.std.specs.List.{flat_map}
use Rattle.std.specs.Fmt.{decimal}
use Rattle.serde_json.specs.Data.{Data, string, boolean}
use Rattle.serde_json.proofs.OnLiterals.{serde_json_on_literals}
use Rattle.serde_json.specs.View.{items_of}
use Rattle.serde_json.specs.Written.{compact_text, items_text, has_float, items_have_float}
use Rattle.fbc_kinds.specs.declared.rules.Rule.{Rule}
use Rattle.fbc_kinds.specs.declared.rules.Rule.TheVariants as rule
use Rattle.fbc_kinds.specs.RuleText.{rule_text}
use Rattle.fbc_validator.specs.declared.findings.Findings.{Findings}
use Rattle.fbc_report.specs.Json.{array_text, damage_json, lost_cell_json, bool_json, report_json}
use Rattle.fbc_report.specs.Text.{is_sound}
use Rattle.fbc_report.specs.Values.{number_data, array_of, damage_data, lost_cell_data, report_data, found_data}

-- No byte of a rule's word is escaped.
compact_text-rule : (r : Rule) → compact_text (string (rule_text r)) ≡ 34 ∷ rule_text r ++ 34 ∷ []
unfolding serde_json_on_literals
compact_text-rule rule.Short = refl
compact_text-rule rule.Kind = refl
compact_text-rule rule.Head = refl
compact_text-rule rule.Number = refl
compact_text-rule rule.Magic = refl
compact_text-rule rule.Size = refl
compact_text-rule rule.Version = refl
compact_text-rule rule.Length = refl
compact_text-rule rule.Next = refl
compact_text-rule rule.Count = refl
compact_text-rule rule.Name = refl
compact_text-rule rule.Value = refl
compact_text-rule rule.Pointers = refl
compact_text-rule rule.Tips = refl
compact_text-rule rule.Oldest = refl
compact_text-rule rule.Rest = refl
compact_text-rule rule.Bits = refl
compact_text-rule rule.Zero = refl
compact_text-rule rule.State = refl
compact_text-rule rule.Relation = refl
compact_text-rule rule.Flag = refl
compact_text-rule rule.Cell = refl
compact_text-rule rule.Sequence = refl
compact_text-rule rule.Taken = refl
compact_text-rule rule.Twice = refl
compact_text-rule rule.Chain = refl
compact_text-rule rule.Future = refl
compact_text-rule rule.Below = refl

items_text-later : (ds : List Data) → items_text true (items_of ds) ≡ flat_map (λ (other : List ℕ). 44 ∷ other) (map compact_text ds) ++ 93 ∷ []
items_text-later [] = refl
items_text-later (d ∷ ds) = ap (λ rest. 44 ∷ (compact_text d ++ rest)) (items_text-later ds) ∙ ap (λ all. 44 ∷ all) (sym (append_assoc (compact_text d) _ _))

-- An array's text has the texts of its items.
pub compact_text-array_of : (ds : List Data) → compact_text (array_of ds) ≡ array_text (map compact_text ds)
compact_text-array_of [] = refl
compact_text-array_of (d ∷ ds) = ap (λ rest. 91 ∷ (compact_text d ++ rest)) (items_text-later ds) ∙ ap (λ all. 91 ∷ all) (sym (append_assoc (compact_text d) _ _))

compact_text-damage : (d : ℕ × Rule) → compact_text (damage_data d) ≡ damage_json d
compact_text-damage d = ap (λ word. 91 ∷ (decimal d.0 ++ 44 ∷ (word ++ 93 ∷ []))) (compact_text-rule d.1) ∙ simp append_assoc

compact_text-lost_cell : (c : ℕ × ℕ) → compact_text (lost_cell_data c) ≡ lost_cell_json c
compact_text-lost_cell c = simp append_assoc

compact_text-damages : (ds : List (ℕ × Rule)) → map compact_text (map damage_data ds) ≡ map damage_json ds
compact_text-damages [] = refl
compact_text-damages (d ∷ ds) = rw (compact_text-damage d, compact_text-damages ds)

compact_text-lost_cells : (cs : List (ℕ × ℕ)) → map compact_text (map lost_cell_data cs) ≡ map lost_cell_json cs
compact_text-lost_cells [] = refl
compact_text-lost_cells (c ∷ cs) = rw (compact_text-lost_cell c, compact_text-lost_cells cs)

compact_text-pages : (ps : List ℕ) → map compact_text (map number_data ps) ≡ map decimal ps
compact_text-pages [] = refl
compact_text-pages (p ∷ ps) = ap (λ rest. decimal p ∷ rest) (compact_text-pages ps)

pub damages_text : (ds : List (ℕ × Rule)) → compact_text (array_of (map damage_data ds)) ≡ array_text (map damage_json ds)
damages_text ds = compact_text-array_of (map damage_data ds) ∙ ap array_text (compact_text-damages ds)

pub lost_cells_text : (cs : List (ℕ × ℕ)) → compact_text (array_of (map lost_cell_data cs)) ≡ array_text (map lost_cell_json cs)
lost_cells_text cs = compact_text-array_of (map lost_cell_data cs) ∙ ap array_text (compact_text-lost_cells cs)

pub pages_text : (ps : List ℕ) → compact_text (array_of (map number_data ps)) ≡ array_text (map decimal ps)
pages_text ps = compact_text-array_of (map number_data ps) ∙ ap array_text (compact_text-pages ps)

damages_float : (ds : List (ℕ × Rule)) → items_have_float (items_of (map damage_data ds)) ≡ false
damages_float [] = refl
damages_float (d ∷ ds) = damages_float ds

lost_cells_float : (cs : List (ℕ × ℕ)) → items_have_float (items_of (map lost_cell_data cs)) ≡ false
lost_cells_float [] = refl
lost_cells_float (c ∷ cs) = lost_cells_float cs

pages_float : (ps : List ℕ) → items_have_float (items_of (map number_data ps)) ≡ false
pages_float [] = refl
pages_float (p ∷ ps) = pages_float ps

-- The report has no float.
pub no_float : (found : Findings) → has_float (found_data found) ≡ false
no_float found = rw (damages_float found.damages, lost_cells_float found.lost_cells, pages_float found.lost_pages)

-- The text of the whole report.
compact_text-report : (damages lost_cells lost_pages : Data) (pages : ℕ) (sound : Bool)
    → compact_text (report_data damages lost_cells lost_pages pages sound)
    ≡ codes "{\"damages\":" ++ compact_text damages
    ++ codes ",\"lost_cells\":" ++ compact_text lost_cells
    ++ codes ",\"lost_pages\":" ++ compact_text lost_pages
    ++ codes ",\"pages\":" ++ decimal pages
    ++ codes ",\"sound\":" ++ compact_text (boolean sound)
    ++ codes "}"
unfolding serde_json_on_literals
compact_text-report damages lost_cells lost_pages pages sound = simp append_assoc

bool_text : (b : Bool) → compact_text (boolean b) ≡ bool_json b
unfolding serde_json_on_literals
bool_text true = refl
bool_text false = refl

joined : (a b c : List ℕ) (pages : ℕ) (d : List ℕ)
    → codes "{\"damages\":" ++ a ++ codes ",\"lost_cells\":" ++ b ++ codes ",\"lost_pages\":" ++ c ++ codes ",\"pages\":" ++ decimal pages ++ codes ",\"sound\":" ++ d ++ codes "}" ++ 10 ∷ []
    ≡ codes "{\"damages\":" ++ a ++ codes ",\"lost_cells\":" ++ b ++ codes ",\"lost_pages\":" ++ c ++ codes ",\"pages\":" ++ decimal pages ++ codes ",\"sound\":" ++ d ++ codes "}\n"
joined a b c pages d = simp append_assoc

-- And its text, with a line feed, is that of the definition.
pub found_text : (found : Findings) → compact_text (found_data found) ++ 10 ∷ [] ≡ report_json found
found_text found =
    ap (λ text. text ++ 10 ∷ []) (compact_text-report (array_of (map damage_data found.damages)) (array_of (map lost_cell_data found.lost_cells)) (array_of (map number_data found.lost_pages)) found.pages (is_sound found.damages))
    ∙ joined (compact_text (array_of (map damage_data found.damages))) (compact_text (array_of (map lost_cell_data found.lost_cells))) (compact_text (array_of (map number_data found.lost_pages))) found.pages (compact_text (boolean (is_sound found.damages)))
    ∙ same (damages_text found.damages) (lost_cells_text found.lost_cells) (pages_text found.lost_pages) (bool_text (is_sound found.damages))
  where
    same : {a b c d e f g h : List ℕ} → a ≡ b → c ≡ d → e ≡ f → g ≡ h
        → codes "{\"damages\":" ++ a ++ codes ",\"lost_cells\":" ++ c ++ codes ",\"lost_pages\":" ++ e ++ codes ",\"pages\":" ++ decimal found.pages ++ codes ",\"sound\":" ++ g ++ codes "}\n"
        ≡ codes "{\"damages\":" ++ b ++ codes ",\"lost_cells\":" ++ d ++ codes ",\"lost_pages\":" ++ f ++ codes ",\"pages\":" ++ decimal found.pages ++ codes ",\"sound\":" ++ h ++ codes "}\n"
    same p q r s = cc
