-- When a view stays sound as one cell changes: what is left to show of its links.
use Rattle.std.proofs.Common.{◌≡◌, ◌∙◌, ◌<◌, ◌+◌, ◌*◌, ℕ, true, false, ◌⊎◌, inl, inr, sym, ap, subst}
use Rattle.std.specs.Prelude.{Some}
use Rattle.std.specs.Option.{option_map_or}
use Rattle.fbc_kinds.specs.declared.pages.Cell.{Cell}
use Rattle.fbc_kinds.specs.declared.pages.Header.{Header}
use Rattle.fbc_kinds.specs.Chain.{state_of}
use Rattle.fbc_kinds.specs.Limits.{tip_numbers}
use Rattle.fbc_kinds.specs.Reach.{DataRole, TipRole, Reaches, LinksTo}
use Rattle.fbc_kinds.specs.Sound.{IsBackValue, IsSound}
use Rattle.fbc_kinds.specs.View.{View, cell_at, is_committed_state, is_empty, next_of}
use Rattle.fbc_page_edits.specs.Alike.{KeepsLostPages}
use Rattle.fbc_version_edits.specs.Differences.{IsPlace}
use Rattle.fbc_version_edits.proofs.OneCell.{IsOneCell, here_or_not, is_new, reached_after, reached_before, state_same}

-- The links of the later view are as a sound view's are.
pub record HasSoundLinks (before after : View) : Type 0 where
  pub back : (relation page cell back_page back_cell : ℕ) (version : Cell) → LinksTo after relation page cell version back_page back_cell
      → IsBackValue after relation back_page back_cell version.number
  pub once : (relation page cell other_relation other_page other_cell back_page back_cell : ℕ) (version other : Cell)
      → LinksTo after relation page cell version back_page back_cell → LinksTo after other_relation other_page other_cell other back_page back_cell
      → (page ≡ other_page) × (cell ≡ other_cell)
  pub below : (relation page cell back_page back_cell : ℕ) (version back : Cell) → LinksTo after relation page cell version back_page back_cell
      → cell_at after back_page back_cell ≡ Some back → is_committed_state (state_of before back.number) ≡ true

module _ {before after : View} {page cell : ℕ} {old new : Cell} (one : IsOneCell before after page cell old new) where
  -- Lost pages stay lost.
  pub pages_stay : KeepsLostPages before after
  pages_stay other lost = record {
    taken = one.taken other ∙ lost.taken;
    unreached = λ reached. lost.unreached (reached.0, reached_before one reached.0 other reached.1);
  }

  -- A back value in another cell is still one.
  pub value_elsewhere : (relation other place number : ℕ) → ¬ IsPlace page cell other place → IsBackValue before relation other place number → IsBackValue after relation other place number
  value_elsewhere relation other place number differ is = record {
    sequence = is.sequence;
    back = is.back;
    named = reached_after one (DataRole relation is.sequence) other is.named;
    stands = one.others other place differ ∙ is.stands;
    is_value = is.is_value;
    smaller = is.smaller;
  }

module _ {before after : View} {page cell : ℕ} {old new : Cell} (sound : IsSound before) (one : IsOneCell before after page cell old new)
    (begun : (relation sequence : ℕ) → Reaches before (DataRole relation sequence) page → is_empty new.flag ≡ false → new.number < next_of before) where
  number_after : (relation sequence other place : ℕ) (version : Cell) → Reaches after (DataRole relation sequence) other → cell_at after other place ≡ Some version → is_empty version.flag ≡ false
      → version.number < next_of before
  number_after relation sequence other place version named stands some = go (here_or_not page cell other place)
    where
      named_before : Reaches before (DataRole relation sequence) other
      named_before = reached_before one (DataRole relation sequence) other named

      go : IsPlace page cell other place ⊎ ¬ IsPlace page cell other place → version.number < next_of before
      go (inr differ) = sound.numbers relation sequence other place version named_before (sym (one.others other place differ) ∙ stands) some
      go (inl at) =
          let same = is_new one other place version at stands in
          subst (λ (v : Cell). v.number < next_of before) (sym same)
          (begun relation sequence (subst (λ n. Reaches before (DataRole relation sequence) n) at.0 named_before) (ap (λ (v : Cell). is_empty v.flag) (sym same) ∙ some))

  -- The view stays sound.
  pub sound_with : HasSoundLinks before after → IsSound after
  sound_with links = record {
    fitting = λ role other e. one.shows role other ∙ sound.fitting role other (reached_before one role other e);
    taken = λ role other e. one.taken other ∙ sound.taken role other (reached_before one role other e);
    once = λ role second other e f. sound.once role second other (reached_before one role other e) (reached_before one second other f);
    back = links.back;
    back_once = links.once;
    numbers = λ relation sequence other place version named stands some.
        subst (λ h. version.number < option_map_or (λ (x : Header). x.next) h 0) (sym one.names.header) (number_after relation sequence other place version named stands some);
    states = λ sequence other place state named stands active.
        subst (λ h. sequence * tip_numbers (option_map_or (λ (x : Header). x.size) h 0) + place < option_map_or (λ (x : Header). x.next) h 0) (sym one.names.header)
        (sound.states sequence other place state (reached_before one (TipRole sequence) other named) (sym (one.states other place) ∙ stands) active);
    below = λ relation other place back_page back_cell version back link stands.
        ap is_committed_state (state_same one back.number) ∙ links.below relation other place back_page back_cell version back link stands;
  }
