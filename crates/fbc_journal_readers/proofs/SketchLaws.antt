-- A sketch goes on showing the cell.
use Rattle.std.proofs.Common.{◌≡◌, ap, refl, sym, ℕ, Bool, true, false, not, ◌==◌, ◌&&◌, ◌||◌, if◌then◌else◌, Option, Some, None}
use Rattle.std.specs.Option.{option_map}
use Rattle.fbc_kinds.specs.declared.edits.Edit.{Edit}
use Rattle.fbc_kinds.specs.declared.pages.Page.{Page}
use Rattle.fbc_kinds.specs.declared.shapes.Shape.{Shape}
use Rattle.fbc_world.specs.declared.drafts.Draft.{Draft}
use Rattle.fbc_world.specs.declared.events.Act.{Act}
use Rattle.fbc_world.specs.declared.events.Act.TheVariants.{Die, Local, Write}
use Rattle.fbc_world.specs.declared.events.Event.{Event}
use Rattle.fbc_world.specs.declared.events.LocalEvent.TheVariants as local
use Rattle.fbc_journal_readers.specs.declared.outlines.Outline.{Outline}
use Rattle.fbc_journal_readers.specs.declared.sketches.DraftOutline.{DraftOutline}
use Rattle.fbc_journal_readers.specs.declared.sketches.Sketch.{Sketch}
use Rattle.fbc_journal_readers.specs.Outlines.{Matches, outline_after}
use Rattle.fbc_world.specs.PageCell.{PageCell, cell_step, draft_step, drafted, edited, kept_step, page_for, without}
use Rattle.fbc_journal_readers.specs.Sketches.{IsDraftOutline, IsKeptOutline, IsSketch, draft_outline_step, kept_outline_step, outline_drafted, outline_for, outline_without, sketch_step}
use Rattle.fbc_journal_readers.proofs.OutlineLaws.{Matches-applied}

or_false : (b : Bool) → b || false ≡ b
or_false true = refl
or_false false = refl

-- The sketch has the draft's owner.
pub owner-sketch : (shape : Shape) (draft : Option Draft) (sketched : Option DraftOutline) → IsDraftOutline shape draft sketched
    → option_map (λ (d : DraftOutline). d.owner) sketched ≡ option_map (λ (d : Draft). d.owner) draft
owner-sketch shape None None h = refl
owner-sketch shape (Some draft) (Some sketched) h = ap (λ k. Some k) (sym h.0)
owner-sketch shape _ _ h = absurd h

module _ (shape : Shape) where
  kept_when : (b c : Bool) (p q : Option Page) (o r : Outline) → b ≡ c → IsKeptOutline shape p o → IsKeptOutline shape q r
      → IsKeptOutline shape (if b then p else q) (if c then o else r)
  kept_when true true p q o r e h k = h
  kept_when false false p q o r e h k = k
  kept_when true false p q o r e h k = absurd cc
  kept_when false true p q o r e h k = absurd cc

  draft_when : (b c : Bool) (p q : Option Draft) (o r : Option DraftOutline) → b ≡ c → IsDraftOutline shape p o → IsDraftOutline shape q r
      → IsDraftOutline shape (if b then p else q) (if c then o else r)
  draft_when true true p q o r e h k = h
  draft_when false false p q o r e h k = k
  draft_when true false p q o r e h k = absurd cc
  draft_when false true p q o r e h k = absurd cc

  own : (owner : ℕ) (kept : Option Page) (outline : Outline) (draft : Option Draft) (sketched : Option DraftOutline)
      → IsKeptOutline shape kept outline → IsDraftOutline shape draft sketched → IsKeptOutline shape (page_for owner kept draft) (outline_for owner outline sketched)
  own owner kept outline None None h k = h
  own owner kept outline (Some draft) (Some sketched) h k = kept_when _ _ (Some draft.content) kept sketched.outline outline (ap (λ n. n == owner) k.0) k.1 h
  own owner kept outline _ _ h k = absurd k

  lost : (owner : ℕ) (draft : Option Draft) (sketched : Option DraftOutline) → IsDraftOutline shape draft sketched → IsDraftOutline shape (without owner draft) (outline_without owner sketched)
  lost owner None None k = tt
  lost owner (Some draft) (Some sketched) k = draft_when _ _ None (Some draft) None (Some sketched) (ap (λ n. n == owner) k.0) tt k
  lost owner _ _ k = absurd k

  fitting : (e : Edit) (content : Option Page) (outline : Outline) → IsKeptOutline shape content outline → Matches shape (edited shape e content) (outline_after shape e outline)
  fitting e (Some content) outline h = Matches-applied shape e content outline h
  fitting e None outline h = absurd h

  made : (owner : ℕ) (after : Option Page) (outline : Option Outline) (draft : Option Draft) (sketched : Option DraftOutline)
      → Matches shape after outline → IsDraftOutline shape draft sketched → IsDraftOutline shape (drafted owner draft after) (outline_drafted owner sketched outline)
  made owner None None draft sketched m k = k
  made owner (Some content) (Some outline) draft sketched m k = (refl, m)
  made owner _ _ draft sketched m k = absurd m

  module _ (page : ℕ) (cell : PageCell) (sketch : Sketch) (h : IsSketch shape cell sketch) (owner : ℕ) where
    own_kept : IsKeptOutline shape (page_for owner cell.kept cell.draft) (outline_for owner sketch.kept sketch.draft)
    own_kept = own owner cell.kept sketch.kept cell.draft sketch.draft h.kept_shown h.draft_shown

    kept_goes : (act : Act) → IsKeptOutline shape (kept_step page cell.kept cell.draft owner act false) (kept_outline_step page sketch owner act)
    kept_goes (Write number cause failed) = kept_when _ _ _ _ _ _ (ap (λ b. (number == page) && b) (or_false (not failed))) own_kept h.kept_shown
    kept_goes _ = h.kept_shown

    draft_goes : (act : Act) → IsDraftOutline shape (draft_step shape page cell.kept cell.draft owner act) (draft_outline_step shape page sketch owner act)
    draft_goes (Local (local.Edit number e)) =
        draft_when (number == page) _ _ _ _ _ refl (made owner _ _ cell.draft sketch.draft (fitting e _ _ own_kept) h.draft_shown) h.draft_shown
    draft_goes (Write number cause failed) = draft_when ((number == page) || failed) _ _ _ _ _ refl (lost owner cell.draft sketch.draft h.draft_shown) h.draft_shown
    draft_goes Die = lost owner cell.draft sketch.draft h.draft_shown
    draft_goes _ = h.draft_shown

  -- The sketch after an event shows the cell after it.
  pub IsSketch-step : (page : ℕ) (cell : PageCell) (sketch : Sketch) (event : Event) → IsSketch shape cell sketch
      → IsSketch shape (cell_step shape page cell (record { event = event; landed = false })) (sketch_step shape page sketch event.actor event.act)
  IsSketch-step page cell sketch event h = record {
    kept_shown = kept_goes page cell sketch h event.actor event.act;
    draft_shown = draft_goes page cell sketch h event.actor event.act;
  }
