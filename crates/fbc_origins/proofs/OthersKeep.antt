-- An edit of what is no cell leaves the newest pages all their links.
use Rattle.std.proofs.Common.{◌≡◌, ◌∙◌, ℕ, Bool, true, false, Option, Some, None, refl, sym, ap, slice_get}
use Rattle.std.specs.Prelude.{option_and_then}
use Rattle.fbc_kinds.specs.declared.edits.Edit.{Edit}
use Rattle.fbc_kinds.specs.declared.edits.Edit.TheVariants as edit
use Rattle.fbc_kinds.specs.declared.pages.Cell.{Cell}
use Rattle.fbc_kinds.specs.declared.pages.Header.{Header}
use Rattle.fbc_kinds.specs.declared.pages.Page.{Page}
use Rattle.fbc_kinds.specs.declared.pages.Page.TheVariants as kind
use Rattle.fbc_kinds.specs.declared.pages.Relation.{Relation}
use Rattle.fbc_kinds.specs.declared.shapes.Shape.{Shape}
use Rattle.fbc_kinds.specs.Reach.{ReachesCell, along, top}
use Rattle.fbc_kinds.specs.Sound.{IsSound}
use Rattle.fbc_kinds.specs.View.{View, cell_at, slot_in}
use Rattle.fbc_page_edits.specs.Allowed.{Fits}
use Rattle.fbc_page_edits.specs.Facing.{IsLinked}
use Rattle.fbc_page_edits.proofs.Fitted.{adds_inventory, adds_pointer, adds_tip, frees_mark, given_some, raises_next, takes_mark}
use Rattle.fbc_page_edits.proofs.SameVersions.{ShowsVersions, reached_holds, top_holds}
use Rattle.fbc_closed_cuts.specs.Growth.{HasGrown, HasRelation}

module _ (before after : View) (sound : IsSound before) (kept : ShowsVersions before after) where
  -- The versions that are reached stand.
  stands_on : (relation page cell : ℕ) → ReachesCell before relation page cell → (version : Cell) → cell_at before page cell ≡ Some version → cell_at after page cell ≡ Some version
  stands_on relation page cell reached version stands =
      let here = reached_holds before sound relation page cell reached in
      let there = kept relation here.sequence page cell here.version here.is in
      there.stands ∙ sym here.is.stands ∙ stands

  reached_on : (relation page cell : ℕ) → ReachesCell before relation page cell → ReachesCell after relation page cell
  reached_on relation _ _ (top sequence page cell version named stands is) =
      let there = kept relation sequence page cell version (record { named = named; stands = stands; holds = top_holds version.flag is }) in
      top sequence page cell version there.named there.stands is
  reached_on relation _ _ (along page cell back_page back_cell version reached stands names) =
      along page cell back_page back_cell version (reached_on relation page cell reached) (stands_on relation page cell reached version stands) names

  pub linked-on : (back_page back_cell : ℕ) → IsLinked before back_page back_cell → IsLinked after back_page back_cell
  linked-on back_page back_cell l = record {
    relation = l.relation;
    from_page = l.from_page;
    from_cell = l.from_cell;
    version = l.version;
    links = record {
      reached = reached_on l.relation l.from_page l.from_cell l.links.reached;
      stands = stands_on l.relation l.from_page l.from_cell l.links.reached l.version l.links.stands;
      names = l.links.names;
    };
  }

-- The pointer page in a header.
abbrev pointer_in : Option Header → ℕ → ℕ → Option ℕ
pointer_in header relation sequence = option_and_then (λ (r : Relation). slice_get r.pointers sequence) (option_and_then (λ (h : Header). slice_get h.relations relation) header)

-- A header that grows names the pointer pages that it named.
pub pointer-on : (old new : Header) → HasGrown old new → (relation sequence pointer : ℕ) → pointer_in (Some old) relation sequence ≡ Some pointer → pointer_in (Some new) relation sequence ≡ Some pointer
pointer-on old new grown relation sequence pointer pointed = go (slice_get old.relations relation) refl pointed where
  go : (found : Option Relation) → slice_get old.relations relation ≡ found → option_and_then (λ (r : Relation). slice_get r.pointers sequence) found ≡ Some pointer → pointer_in (Some new) relation sequence ≡ Some pointer
  go None is has = absurd cc
  go (Some entry) is has =
      let there : HasRelation entry (slice_get new.relations relation) = grown.relations relation entry is in
      ap (option_and_then (λ (r : Relation). slice_get r.pointers sequence)) there.is ∙ there.pointers sequence pointer has

-- Whether an edit leaves all slots.
abbrev pub leaves_slots : Edit → Bool
leaves_slots (edit.Name slot page) = false
leaves_slots (edit.Unname slot) = false
leaves_slots (edit.PutCell cell content) = false
leaves_slots (edit.ClearCell cell) = false
leaves_slots (edit.Format k page relation sequence) = false
leaves_slots _ = true

pub slots-left : (shape : Shape) (e : Edit) (before : Option Page) (content : Page) → leaves_slots e ≡ true → Fits shape e before content → (slot : ℕ) → slot_in (Some content) slot ≡ slot_in before slot
slots-left shape (edit.SetNext next) before content left fits slot = let r = raises_next shape next before content fits in rw (r.changes.stands, ← r.changes.made) refl
slots-left shape (edit.AddTip page) before content left fits slot = let r = adds_tip shape page before content fits in rw (r.changes.stands, ← r.changes.made) refl
slots-left shape (edit.AddPointer relation page) before content left fits slot = let r = adds_pointer shape relation page before content fits in rw (r.changes.stands, ← r.changes.made) refl
slots-left shape edit.AddInventory before content left fits slot = let r = adds_inventory shape before content fits in rw (r.changes.stands, ← r.changes.made) refl
slots-left shape (edit.TakePage page) before content left fits slot = let r = takes_mark shape page before content fits in rw (r.stands, ← r.made) refl
slots-left shape (edit.FreePage page) before content left fits slot = let r = frees_mark shape page before content fits in rw (r.stands, ← r.made) refl
slots-left shape (edit.Mark number state) (Some (kind.Tip tip)) content left fits slot = let r = given_some _ _ content fits in rw (← r.1) refl
slots-left shape (edit.Mark number state) None content left fits slot = absurd fits
slots-left shape (edit.Mark number state) (Some _) content left fits slot = cc
slots-left shape (edit.Name place page) before content left fits slot = cc
slots-left shape (edit.Unname place) before content left fits slot = cc
slots-left shape (edit.PutCell place new) before content left fits slot = cc
slots-left shape (edit.ClearCell place) before content left fits slot = cc
slots-left shape (edit.Format k page relation sequence) before content left fits slot = cc
