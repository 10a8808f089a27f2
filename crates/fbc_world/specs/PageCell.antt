-- The cell of one page over a history: what is kept in the file, one draft at most, and the owners' copies.
use Rattle.std.specs.Prelude.{ℕ, Bool, not, ◌==◌, ◌&&◌, ◌||◌, if◌then◌else◌, [], ◌∷◌, Option, Some, None}
use Rattle.std.specs.Option.{option_map}
use Rattle.fbc_kinds.specs.declared.edits.Edit.{Edit}
use Rattle.fbc_kinds.specs.declared.edits.Edit.TheVariants.{Format}
use Rattle.fbc_kinds.specs.declared.pages.Page.{Page}
use Rattle.fbc_kinds.specs.declared.pages.Page.TheVariants.{Blank}
use Rattle.fbc_kinds.specs.declared.shapes.Shape.{Shape}
use Rattle.fbc_kinds.specs.Edits.{applied, formatted}
use Rattle.fbc_kinds.specs.View.{View}
use Rattle.fbc_levels.specs.declared.resources.Resource.{Resource}
use Rattle.fbc_levels.specs.declared.resources.Series.TheVariants as series
use Rattle.fbc_levels.specs.Levels.{is_free}
use Rattle.fbc_levels.specs.Resources.{is_same_resource}
use Rattle.fbc_world.specs.declared.drafts.Draft.{Draft}
use Rattle.fbc_world.specs.declared.events.Act.{Act}
use Rattle.fbc_world.specs.declared.events.Act.TheVariants.{Die, Local, Lower, Read, Write}
use Rattle.fbc_world.specs.declared.events.LocalEvent.TheVariants as local
use Rattle.fbc_world.specs.History.{History, Moment}

-- What is kept, None where the bytes spell no page; and the draft, if some owner has one.
pub record PageCell : Type 0 where
  pub kept : Option Page
  pub draft : Option Draft

-- The page as its owner has it: the owner's own draft, and otherwise what is kept.
abbrev pub page_for : ℕ → Option Page → Option Draft → Option Page
page_for owner kept (Some draft) = if draft.owner == owner then Some draft.content else kept
page_for owner kept None = kept

-- The draft, unless it is this owner's.
abbrev pub without : ℕ → Option Draft → Option Draft
without owner (Some draft) = if draft.owner == owner then None else Some draft
without owner None = None

-- The page after an edit that fits. Where the bytes spell no page, a format alone fits.
abbrev pub edited : Shape → Edit → Option Page → Option Page
edited shape edit (Some before) = applied shape edit before
edited shape (Format kind number relation sequence) None = formatted shape kind number relation sequence
edited shape _ None = None

-- The owner's new draft, and the draft that was there where no edit fitted.
abbrev pub drafted : ℕ → Option Draft → Option Page → Option Draft
drafted owner before (Some content) = Some (record { owner = owner; content = content })
drafted owner before None = before

-- What is kept of the page after an act of this owner: a write that lands keeps the owner's draft.
abbrev pub kept_step : ℕ → Option Page → Option Draft → ℕ → Act → Bool → Option Page
kept_step page kept draft owner (Write number cause failed) landed = if (number == page) && (not failed || landed) then page_for owner kept draft else kept
kept_step page kept draft owner _ landed = kept

-- The page's draft after an act of this owner: an edit that fits makes it anew; it ends with its write, and with its
-- owner's death, and a failed write is one.
abbrev pub draft_step : Shape → ℕ → Option Page → Option Draft → ℕ → Act → Option Draft
draft_step shape page kept draft owner (Local (local.Edit number edit)) = if number == page then drafted owner draft (edited shape edit (page_for owner kept draft)) else draft
draft_step shape page kept draft owner (Write number cause failed) = if (number == page) || failed then without owner draft else draft
draft_step shape page kept draft owner Die = without owner draft
draft_step shape page kept draft owner _ = draft

-- The cell after a moment.
abbrev pub cell_step : Shape → ℕ → PageCell → Moment → PageCell
cell_step shape page cell moment = record {
  kept = kept_step page cell.kept cell.draft moment.event.actor moment.event.act moment.landed;
  draft = draft_step shape page cell.kept cell.draft moment.event.actor moment.event.act;
}

-- The cell after a history over a file.
abbrev pub cell_of : Shape → View → ℕ → History → PageCell
cell_of shape file page [] = record { kept = file page; draft = None }
cell_of shape file page (moment ∷ before) = cell_step shape page (cell_of shape file page before) moment

-- What the file keeps of a page after a history.
abbrev pub kept : Shape → View → History → ℕ → Option Page
kept shape file history page = (cell_of shape file page history).kept

-- The draft of a page after a history.
abbrev pub draft : Shape → View → History → ℕ → Option Draft
draft shape file history page = (cell_of shape file page history).draft

-- The owner of the draft of a page after a history.
abbrev pub draft_owner : Shape → View → History → ℕ → Option ℕ
draft_owner shape file history page = option_map (λ (d : Draft). d.owner) (draft shape file history page)

-- The newest content in a cell: the draft's where there is one, and otherwise what is kept.
abbrev pub newest_in : Option Page → Option Draft → Option Page
newest_in kept (Some draft) = Some draft.content
newest_in kept None = kept

-- The newest content of a page after a history.
abbrev pub newest : Shape → View → History → ℕ → Option Page
newest shape file history page = newest_in (kept shape file history page) (draft shape file history page)

-- The content after an edit that fits, and the copy that was there where it does not.
abbrev pub recopied : Option Page → Option Page → Option Page
recopied copy (Some content) = Some content
recopied copy None = copy

-- Whether this resource is the page.
abbrev pub is_page : ℕ → Resource → Bool
is_page page resource = is_same_resource resource (record { series = series.Page; key = page })

-- The owner's copy of the page after an act of its own: a read makes it of what is kept, an edit changes it, and it ends
-- with the lock on the page and with its owner.
abbrev pub own_copy_step : Shape → ℕ → Option Page → PageCell → ℕ → Act → Option Page
own_copy_step shape page copy cell owner (Read number fault) = if number == page then (if fault then None else cell.kept) else copy
own_copy_step shape page copy cell owner (Local (local.Edit number edit)) = if number == page then recopied copy (edited shape edit (page_for owner cell.kept cell.draft)) else copy
own_copy_step shape page copy cell owner (Lower resource level) = if is_page page resource && is_free level then None else copy
own_copy_step shape page copy cell owner (Write number cause failed) = if failed then None else copy
own_copy_step shape page copy cell owner Die = None
own_copy_step shape page copy cell owner _ = copy

-- The owner's copy of the page after a moment. What another owner does leaves it.
abbrev pub copy_step : Shape → ℕ → ℕ → Option Page → PageCell → Moment → Option Page
copy_step shape owner page copy cell moment = if moment.event.actor == owner then own_copy_step shape page copy cell owner moment.event.act else copy

-- The page that an owner may use after a history, if it has one.
abbrev pub copy_of : Shape → View → History → ℕ → ℕ → Option Page
copy_of shape file [] owner page = None
copy_of shape file (moment ∷ before) owner page = copy_step shape owner page (copy_of shape file before owner page) (cell_of shape file page before) moment

-- The file of which every page is blank.
abbrev pub blank_file : View
blank_file page = Some Blank
