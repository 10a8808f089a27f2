-- An owner's edit of the header leaves the ranks of what others have pinned, and wait for.
use Rattle.std.proofs.Common.{◌≡◌, ◌≢◌, ◌∙◌, ap, subst, ℕ, Bool, true, false, ◌==◌, if◌then◌else◌, Option, Some, None, is_some, refl, sym, arith}
use Rattle.std.proofs.lemmas.Bool.Decides.{nat_tests}
use Rattle.fbc_kinds.specs.declared.edits.Edit.{Edit}
use Rattle.fbc_kinds.specs.declared.edits.Edit.TheVariants as edit
use Rattle.fbc_kinds.specs.declared.pages.Header.{Header}
use Rattle.fbc_kinds.specs.declared.pages.Page.{Page}
use Rattle.fbc_kinds.specs.declared.pages.Relation.{Relation}
use Rattle.fbc_kinds.specs.View.{header_in, relation_of}
use Rattle.fbc_world.specs.declared.drafts.Draft.{Draft}
use Rattle.fbc_levels.specs.Resources.{page_resource}
use Rattle.fbc_world.specs.PageCell.{drafted, newest_in, page_for}
use Rattle.fbc_world.specs.World.{World, page_after, with_edit}
use Rattle.fbc_legal.specs.Guards.{GuardOfEdit}
use Rattle.fbc_legal.specs.Leans.{LeansOn, PointerLeans, TipLeans}
use Rattle.fbc_legal.specs.Ranks.{rank_in}
use Rattle.fbc_legal.specs.Scene.{Scene, HasExclusive, newest_at}
use Rattle.fbc_legal.proofs.EditRanks.{rank_stays-edited}
use Rattle.fbc_legal.proofs.HeaderGrowth.{exclusive-own, never_format, newest-own}
use Rattle.fbc_legal.proofs.HeaderRanks.{NamesAnother}
use Rattle.fbc_legal.proofs.RankOrder.{at_most-same}
use Rattle.fbc_legal.proofs.Pins.{PinsAreHeld, clash}
use Rattle.fbc_legal.specs.Coherent.{IsCoherent}
use Rattle.fbc_legal.proofs.Exclusion.{IsOwnDraft, excluded}
use Rattle.fbc_legal.proofs.Rising.{StaysUpward}

-- An owner's edit leaves what others have.
for-drafted : (owner actor : ℕ) (kept : Option Page) (draft : Option Draft) (content : Page) → owner == actor ≡ false → IsOwnDraft actor draft
    → page_for owner kept draft ≡ page_for owner kept (drafted actor draft (Some content))
for-drafted owner actor kept None content other own = grind (arith, nat_tests, other)
for-drafted owner actor kept (Some draft) content other own = grind (arith, nat_tests, other, own)

module _ (at : Scene) (owner actor : ℕ) (x : IsCoherent at.world) (held : PinsAreHeld at.world) (e : Edit) (other : owner == actor ≡ false) where
  abbrev w : World
  w = at.world

  -- A page that the actor has in EX is none that the owner has pinned.
  not_pinned : (number pin : ℕ) → HasExclusive at actor number → w.is_pinned owner pin ≡ true → number ≢ pin
  not_pinned number pin exclusive pinned same =
      clash _ (excluded w x actor owner (page_resource number) (λ its. grind (arith, nat_tests, its, other)) exclusive) (rw same (held owner pin pinned).usable)

  tip : (number : ℕ) (header : Option Header) → TipLeans at actor 0 number header → HasExclusive at actor number
  tip number None leans = absurd leans
  tip number (Some header) leans = leans.1

  pointer : (number relation : ℕ) (entry : Option Relation) → PointerLeans at actor 0 number relation entry → HasExclusive at actor number
  pointer number relation None leans = absurd leans
  pointer number relation (Some entry) leans = leans.1

  names_another : (edited : Edit) → LeansOn at actor 0 edited → (pin : ℕ) → w.is_pinned owner pin ≡ true → NamesAnother edited pin
  names_another (edit.AddTip number) leans pin pinned = not_pinned number pin (tip number (header_in (newest_at at 0)) leans) pinned
  names_another (edit.AddPointer relation number) leans pin pinned = not_pinned number pin (pointer number relation (relation_of (newest_at at) relation) leans) pinned
  names_another _ leans pin pinned = tt

  -- After an edit of page 0.
  module _ (g : GuardOfEdit at actor 0 e) (content : Page) (is : page_after at.shape w actor 0 e ≡ Some content) where
    own : IsOwnDraft actor (w.draft 0)
    own = exclusive-own w x actor 0 g.exclusive

    pin_stays : (pin : ℕ) → w.is_pinned owner pin ≡ true → rank_in at.shape.size (header_in (Some content)) pin ≡ rank_in at.shape.size (header_in (newest_in (w.kept 0) (w.draft 0))) pin
    pin_stays pin pinned =
        sym (ap (λ before. rank_in at.shape.size (header_in before) pin) (newest-own actor (w.kept 0) (w.draft 0) own)
        ∙ rank_stays-edited at.shape at.shape.size pin e (page_for actor (w.kept 0) (w.draft 0)) content (never_format at actor e g.row) is (names_another e g.leans pin pinned))

    wanted_stays : (page : ℕ) → rank_in at.shape.size (header_in (page_for owner (w.kept 0) (w.draft 0))) page ≡ rank_in at.shape.size (header_in (page_for owner (w.kept 0) (drafted actor (w.draft 0) (Some content)))) page
    wanted_stays page = ap (λ before. rank_in at.shape.size (header_in before) page) (for-drafted owner actor (w.kept 0) (w.draft 0) content other own)

  abbrev draft_after : Bool → ℕ → Option Draft
  draft_after b page = if b then drafted actor (w.draft 0) (page_after at.shape w actor page e) else w.draft 0

  abbrev PinStays : Option Draft → Type 0
  PinStays draft = (pin : ℕ) → w.is_pinned owner pin ≡ true → rank_in at.shape.size (header_in (newest_in (w.kept 0) draft)) pin ≡ rank_in at.shape.size (header_in (newest_in (w.kept 0) (w.draft 0))) pin

  abbrev WantStays : Option Draft → Type 0
  WantStays draft = (page : ℕ) → rank_in at.shape.size (header_in (page_for owner (w.kept 0) (w.draft 0))) page ≡ rank_in at.shape.size (header_in (page_for owner (w.kept 0) draft)) page

  both_zero : GuardOfEdit at actor 0 e → PinStays (drafted actor (w.draft 0) (page_after at.shape w actor 0 e)) × WantStays (drafted actor (w.draft 0) (page_after at.shape w actor 0 e))
  both_zero g = go (page_after at.shape w actor 0 e) refl g.fits where
    go : (after : Option Page) → page_after at.shape w actor 0 e ≡ after → is_some after ≡ true → PinStays (drafted actor (w.draft 0) after) × WantStays (drafted actor (w.draft 0) after)
    go None is fits = absurd cc
    go (Some content) is fits = (pin_stays g content is, wanted_stays g content is)

  both : (page : ℕ) → GuardOfEdit at actor page e → PinStays (draft_after (0 == page) page) × WantStays (draft_after (0 == page) page)
  both page g = go (0 == page) refl where
    go : (b : Bool) → 0 == page ≡ b → PinStays (draft_after b page) × WantStays (draft_after b page)
    go true is = subst (λ p. GuardOfEdit at actor p e → PinStays (draft_after true p) × WantStays (draft_after true p)) (grind (arith, nat_tests, is)) both_zero g
    go false is = ((λ pin pinned. refl), (λ wanted. refl))

  pub stays-edited : (page : ℕ) → GuardOfEdit at actor page e → StaysUpward at (with_edit w actor page e (page_after at.shape w actor page e)) owner
  stays-edited page g =
      let stay = both page g in
      record {
        pins = λ pin pinned. pinned;
        fall = λ pin pinned. at_most-same _ _ (stay.0 pin pinned);
        rise = λ wanted. at_most-same _ _ (stay.1 wanted);
      }
