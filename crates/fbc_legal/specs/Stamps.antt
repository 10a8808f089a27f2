-- Where the content of a page comes from. Each edit has a number, its place in the history counted from 1, and each cell
-- of a page remembers the edit that put what stands in it. So a version is known from another that looks the same.
use Rattle.std.specs.Prelude.{ℕ, suc, Bool, true, false, not, ◌==◌, ◌&&◌, ◌||◌, if◌then◌else◌, List, [], ◌∷◌, length, Option, Some, None, is_some}
use Rattle.fbc_kinds.specs.declared.edits.Edit.{Edit}
use Rattle.fbc_kinds.specs.declared.edits.Edit.TheVariants.{ClearCell, Format, PutCell}
use Rattle.fbc_kinds.specs.declared.pages.Cell.{Cell}
use Rattle.fbc_kinds.specs.declared.pages.Flag.{Flag}
use Rattle.fbc_kinds.specs.declared.pages.Flag.TheVariants as flag
use Rattle.fbc_kinds.specs.declared.pages.Page.{Page}
use Rattle.fbc_kinds.specs.declared.shapes.Shape.{Shape}
use Rattle.fbc_kinds.specs.View.{View, cell_in}
use Rattle.fbc_world.specs.declared.events.Act.{Act}
use Rattle.fbc_world.specs.declared.events.Act.TheVariants.{Local, Write}
use Rattle.fbc_world.specs.declared.events.LocalEvent.TheVariants as local
use Rattle.fbc_world.specs.Holdings.{is_draft_of}
use Rattle.fbc_world.specs.History.{History}
use Rattle.fbc_world.specs.PageCell.{page_for}
use Rattle.fbc_world.specs.World.{World, page_after, world_of}

-- The stamps of one content of a page.
pub record Stamps : Type 0 where
  -- The numbers of the edits that it has taken in since the first file.
  pub edits : List ℕ
  -- For each cell the number of the edit that put what stands there; 0 where that stood in the first file.
  pub born : ℕ → ℕ
  -- For each cell that names a back version: the number of the edit that had put that version there, when it was named.
  pub meant : ℕ → ℕ

-- The stamps of the first file.
abbrev pub unstamped : Stamps
unstamped = record { edits = []; born = λ cell. 0; meant = λ cell. 0 }

-- The stamps of what is kept of each page, and of its draft.
pub record PageStamps : Type 0 where
  pub kept : ℕ → Stamps
  pub draft : ℕ → Stamps

-- Whether both flags are one.
abbrev pub is_same_flag : Flag → Flag → Bool
is_same_flag flag.Empty flag.Empty = true
is_same_flag flag.Primary flag.Primary = true
is_same_flag flag.Deletion flag.Deletion = true
is_same_flag flag.Back flag.Back = true
is_same_flag _ _ = false

-- Whether the new content of a cell takes the link to its back version from the version that stands there, and leaves the
-- version.
abbrev pub takes_link : Cell → Cell → Bool
takes_link old new = is_same_flag old.flag new.flag && (old.number == new.number) && not (old.back_page == 0) && (new.back_page == 0)

-- The stamp of a cell with a new content: a version that only loses its link keeps its own.
abbrev pub born_after : ℕ → ℕ → Cell → Option Cell → ℕ
born_after stamp before new None = stamp
born_after stamp before new (Some old) = if takes_link old new then before else stamp

-- The stamp of the back version that a new content names, if it names one, by the stamps of the newest pages. A version
-- that only loses its link keeps what it meant.
abbrev pub meant_by : (ℕ → ℕ → ℕ) → Cell → ℕ
meant_by born new = if new.back_page == 0 then 0 else born new.back_page new.back_cell

abbrev pub meant_after : (ℕ → ℕ → ℕ) → ℕ → Cell → Option Cell → ℕ
meant_after born before new None = meant_by born new
meant_after born before new (Some old) = if takes_link old new then before else meant_by born new

-- The stamps of a page after an edit of this number. `born` has the stamps of the cells of the newest pages before it.
abbrev pub stamped : ℕ → (ℕ → ℕ → ℕ) → Option Page → Edit → Stamps → Stamps
stamped stamp born before (PutCell cell content) s = record {
  edits = stamp ∷ s.edits;
  born = λ c. if c == cell then born_after stamp (s.born c) content (cell_in before c) else s.born c;
  meant = λ c. if c == cell then meant_after born (s.meant c) content (cell_in before c) else s.meant c;
}
stamped stamp born before (ClearCell cell) s = record {
  edits = stamp ∷ s.edits;
  born = λ c. if c == cell then stamp else s.born c;
  meant = λ c. if c == cell then 0 else s.meant c;
}
stamped stamp born before (Format kind page relation sequence) s = record { edits = stamp ∷ s.edits; born = λ c. stamp; meant = λ c. 0 }
stamped stamp born before _ s = record s { edits = stamp ∷ s.edits }

-- The stamps of a page as an owner has it: those of its own draft, and otherwise those of what is kept.
abbrev pub stamps_for : ℕ → World → PageStamps → ℕ → Stamps
stamps_for owner w s page = if is_draft_of owner (w.draft page) then s.draft page else s.kept page

-- The stamps of the newest content of a page.
abbrev pub newest_stamps : World → PageStamps → ℕ → Stamps
newest_stamps w s page = if is_some (w.draft page) then s.draft page else s.kept page

-- The stamp of a cell of the newest pages.
abbrev pub born_in_newest : World → PageStamps → ℕ → ℕ → ℕ
born_in_newest w s page cell = (newest_stamps w s page).born cell

-- What a cell of the newest pages meant by its link.
abbrev pub meant_in_newest : World → PageStamps → ℕ → ℕ → ℕ
meant_in_newest w s page cell = (newest_stamps w s page).meant cell

-- The stamps after an owner's edit of this number, if it fits.
abbrev pub stamps_edited : Shape → World → ℕ → ℕ → ℕ → Edit → PageStamps → PageStamps
stamps_edited shape w stamp owner page edit s =
    if is_some (page_after shape w owner page edit)
    then record s { draft = λ p. if p == page then stamped stamp (born_in_newest w s) (page_for owner (w.kept page) (w.draft page)) edit (stamps_for owner w s page) else s.draft p }
    else s

-- The stamps after an owner's write of its draft that reaches the file.
abbrev pub stamps_written : World → ℕ → ℕ → PageStamps → PageStamps
stamps_written w owner page s = record s { kept = λ p. if p == page then stamps_for owner w s p else s.kept p }

-- The stamps after an act of this number.
abbrev pub stamps_step : Shape → World → ℕ → ℕ → Act → Bool → PageStamps → PageStamps
stamps_step shape w stamp owner (Local (local.Edit page edit)) landed s = stamps_edited shape w stamp owner page edit s
stamps_step shape w stamp owner (Write page cause failed) landed s = if not failed || landed then stamps_written w owner page s else s
stamps_step shape w stamp owner _ landed s = s

-- The number of the event that comes next.
abbrev pub stamp_after : History → ℕ
stamp_after before = suc (length before)

-- The stamps after a history over a file.
abbrev pub stamps_of : Shape → View → History → PageStamps
stamps_of shape file [] = record { kept = λ page. unstamped; draft = λ page. unstamped }
stamps_of shape file (moment ∷ before) =
    stamps_step shape (world_of shape file before) (stamp_after before) moment.event.actor moment.event.act moment.landed (stamps_of shape file before)
