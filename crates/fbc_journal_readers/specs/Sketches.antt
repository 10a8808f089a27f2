-- Sketches: the cell of a page with outlines in place of pages.
use Rattle.std.specs.Prelude.{◌≡◌, ℕ, not, ◌==◌, ◌&&◌, ◌||◌, if◌then◌else◌, Option, Some, None}
use Rattle.std.specs.Option.{option_map}
use Rattle.fbc_kinds.specs.declared.pages.Page.{Page}
use Rattle.fbc_kinds.specs.declared.shapes.Shape.{Shape}
use Rattle.fbc_world.specs.declared.drafts.Draft.{Draft}
use Rattle.fbc_world.specs.declared.events.Act.{Act}
use Rattle.fbc_world.specs.declared.events.Act.TheVariants.{Die, Local, Write}
use Rattle.fbc_world.specs.declared.events.LocalEvent.TheVariants as local
use Rattle.fbc_journal_readers.specs.declared.outlines.Outline.{Outline}
use Rattle.fbc_journal_readers.specs.declared.sketches.DraftOutline.{DraftOutline}
use Rattle.fbc_journal_readers.specs.declared.sketches.Sketch.{Sketch}
use Rattle.fbc_journal_readers.specs.Outlines.{HasOutline, outline_after}
use Rattle.fbc_world.specs.PageCell.{PageCell}

-- A page that is spelled has the outline.
abbrev pub IsKeptOutline : Shape → Option Page → Outline → Type 0
IsKeptOutline shape (Some content) outline = HasOutline shape content outline
IsKeptOutline shape None outline = ⊥

-- The drafts have one owner and the outline, or there is none.
abbrev pub IsDraftOutline : Shape → Option Draft → Option DraftOutline → Type 0
IsDraftOutline shape None None = Unit {0}
IsDraftOutline shape (Some draft) (Some sketched) = (draft.owner ≡ sketched.owner) × HasOutline shape draft.content sketched.outline
IsDraftOutline shape _ _ = ⊥

-- The sketch shows the cell.
pub record IsSketch (shape : Shape) (cell : PageCell) (sketch : Sketch) : Type 0 where
  pub kept_shown : IsKeptOutline shape cell.kept sketch.kept
  pub draft_shown : IsDraftOutline shape cell.draft sketch.draft

-- The outline of the page as its owner has it.
abbrev pub outline_for : ℕ → Outline → Option DraftOutline → Outline
outline_for owner kept (Some draft) = if draft.owner == owner then draft.outline else kept
outline_for owner kept None = kept

-- The draft's outline, unless it is this owner's.
abbrev pub outline_without : ℕ → Option DraftOutline → Option DraftOutline
outline_without owner (Some draft) = if draft.owner == owner then None else Some draft
outline_without owner None = None

-- The outline of the owner's new draft, and of the one that was there where no edit fitted.
abbrev pub outline_drafted : ℕ → Option DraftOutline → Option Outline → Option DraftOutline
outline_drafted owner before (Some outline) = Some (record { owner = owner; outline = outline })
outline_drafted owner before None = before

-- The outline of what is kept after an act of this owner.
abbrev pub kept_outline_step : ℕ → Sketch → ℕ → Act → Outline
kept_outline_step page sketch owner (Write number cause failed) = if (number == page) && not failed then outline_for owner sketch.kept sketch.draft else sketch.kept
kept_outline_step page sketch owner _ = sketch.kept

-- The outline of the draft after an act of this owner.
abbrev pub draft_outline_step : Shape → ℕ → Sketch → ℕ → Act → Option DraftOutline
draft_outline_step shape page sketch owner (Local (local.Edit number edit)) =
    if number == page then outline_drafted owner sketch.draft (outline_after shape edit (outline_for owner sketch.kept sketch.draft)) else sketch.draft
draft_outline_step shape page sketch owner (Write number cause failed) = if (number == page) || failed then outline_without owner sketch.draft else sketch.draft
draft_outline_step shape page sketch owner Die = outline_without owner sketch.draft
draft_outline_step shape page sketch owner _ = sketch.draft

-- The sketch after an act of this owner.
abbrev pub sketch_step : Shape → ℕ → Sketch → ℕ → Act → Sketch
sketch_step shape page sketch owner act = record { kept = kept_outline_step page sketch owner act; draft = draft_outline_step shape page sketch owner act }

-- The owner of the draft that is shown.
abbrev pub sketched_owner : Sketch → Option ℕ
sketched_owner sketch = option_map (λ (d : DraftOutline). d.owner) sketch.draft
