-- The findings of a file, by its damages and its lost space.
use Rattle.std.proofs.Common.{◌≡◌, ◌↔◌, ℕ, ◌<◌, true, nat_eq, List, [], ◌∷◌, length, Option, None, Some, is_some, refl, sym, subst, ◌∙◌, arith}
use Rattle.indexmap.specs.IndexMap.{get}
use Rattle.fbc_kinds.specs.declared.rules.Rule.{Rule}
use Rattle.fbc_kinds.specs.declared.shapes.Shape.{Shape}
use Rattle.fbc_kinds.specs.File.{IsViewOf}
use Rattle.fbc_kinds.specs.Lost.{IsLostSpace}
use Rattle.fbc_kinds.specs.Sound.{IsSound}
use Rattle.fbc_kinds.specs.View.{View}
use Rattle.fbc_validator.specs.Checked.{AreFindings}
use Rattle.fbc_validator.specs.Damage.{AreDamages, AreSpelled}
use Rattle.fbc_reach.specs.Tally.{IsKept, IsTallyOf}
use Rattle.fbc_reach.specs.Walk.{namings}
use Rattle.fbc_validator.specs.declared.findings.Findings.{Findings}
use Rattle.fbc_reach.specs.declared.tally.NamedPage.{NamedPage}
use Rattle.fbc_reach.specs.declared.tally.Tally.{Tally}
use Rattle.fbc_validator.proofs.KeptDamages.{any_found}

none_from_length : (damages : List (ℕ × Rule)) → length damages ≡ 0 → damages ≡ []
none_from_length [] e = refl
none_from_length (d ∷ ds) e = absurd (omega arith)

not_none : (damages : List (ℕ × Rule)) → 0 < length damages → damages ≡ [] → ⊥
not_none [] some e = omega arith
not_none (d ∷ ds) some e = cc

module _ (shape : Shape) (bytes : List ℕ) (view : View) where
  -- A tally shows that each page that is named and breaks no rule by itself is spelled.
  pub spelled_by : IsViewOf shape bytes view → (tally : Tally) → IsTallyOf shape (Some bytes) (namings view) tally → AreSpelled shape bytes view
  spelled_by shown tally kept page named unbroken = by (get nat_eq tally.pages page) (kept page)
    where
      by : (o : Option NamedPage) → IsKept shape (Some bytes) tally.next (namings view) page o → is_some (view page) ≡ true
      by None none = absurd (any_found (namings view) page none named)
      by (Some known) k = k.read.spelled (k.read.rule_is ∙ unbroken) (view page) (shown page)

  pub with_damage : (damages : List (ℕ × Rule)) → ((damages ≡ []) ↔ IsSound view) → AreDamages shape bytes view damages → 0 < length damages
      → (found : Findings) → found.damages ≡ damages → found.lost_pages ≡ [] → found.lost_cells ≡ [] → AreFindings shape bytes view found
  with_damage damages sound are some found is pages cells = record {
    damages = subst (AreDamages shape bytes view) (sym is) are;
    sound = ((λ none. sound.0 (sym is ∙ none)), (λ s. is ∙ sound.1 s));
    lost = λ none. absurd (not_none damages some (sym is ∙ none));
    hidden = λ any. (pages, cells);
  }

  pub without_damage : (found : Findings) → ((found.damages ≡ []) ↔ IsSound view) → AreDamages shape bytes view found.damages → length found.damages ≡ 0
      → (IsSound view → IsLostSpace view found.lost_pages found.lost_cells) → AreFindings shape bytes view found
  without_damage found sound are none lost =
      let empty : found.damages ≡ [] = none_from_length found.damages none in
      record {
        damages = are;
        sound = sound;
        lost = λ e. lost (sound.0 empty);
        hidden = λ some. absurd (some empty);
      }
