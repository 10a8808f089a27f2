-- Versions by what is kept of the pages that were walked.
use Rattle.std.specs.Prelude.{◌≡◌, ℕ, Bool, false, ◌&&◌, nat_lt, List, [], Option, Some, None, if◌then◌else◌, slice_get}
use Rattle.std.specs.Option.{option_map, option_map_or}
use Rattle.fbc_kinds.specs.declared.pages.Cell.{Cell}
use Rattle.fbc_kinds.specs.declared.pages.Header.{Header}
use Rattle.fbc_kinds.specs.declared.shapes.Shape.{Shape}
use Rattle.fbc_kinds.specs.File.{IsViewOf}
use Rattle.fbc_kinds.specs.View.{View, cell_at, header_of, is_back, is_committed_state}
use Rattle.fbc_reach.specs.Content.{version_kept}
use Rattle.fbc_links.specs.Links.{cells_of, is_back_value}
use Rattle.fbc_reach.specs.Tally.{IsTallyOf}
use Rattle.fbc_reach.specs.Walk.{data_namings, is_first, namings, relation_of_role}
use Rattle.fbc_reach.specs.declared.content.Content.{Content}
use Rattle.fbc_reach.specs.declared.content.Content.TheVariants as content
use Rattle.fbc_reach.specs.declared.content.Version.{Version}
use Rattle.fbc_reach.specs.declared.namings.Naming.{Naming}
use Rattle.fbc_reach.specs.declared.namings.Role.{Role}
use Rattle.fbc_links.specs.declared.versions.Walked.{Walked}

-- The tally is that of a file's namings, and the page size and the transaction inventory pages are those of its header.
pub record IsWalked (view : View) (walked : Walked) : Type 0 where
  pub shape : Shape
  pub bytes : List ℕ
  pub header : Header
  pub shape_size : shape.size ≡ walked.size
  pub shown : IsViewOf shape bytes view
  pub header_is : header_of view ≡ Some header
  pub header_size : header.size ≡ walked.size
  pub header_tips : header.tips ≡ walked.tips.now
  pub kept : IsTallyOf shape (Some bytes) (namings view) walked.tally.now

-- The back value that stands in a cell, for a version of this relation and number.
abbrev pub back_value : View → ℕ → ℕ → ℕ → ℕ → Option Version
back_value view relation number page cell =
    if is_back_value view relation number page cell then option_map version_kept (cell_at view page cell) else None

-- The cells of a data page that is walked for the role of this naming.
abbrev pub cells_walked : View → Naming → List Cell
cells_walked view n = if is_first (data_namings view) n then cells_of (view n.page) else []

-- The relation of a data page's role.
abbrev pub relation_of_walked : Option Role → Option ℕ
relation_of_walked None = None
relation_of_walked (Some walked) = relation_of_role walked

-- The cells of a data page, by what is kept of it.
abbrev pub versions_of : Content → List Version
versions_of (content.Data relation sequence versions) = versions
versions_of _ = []

-- The version, if it is a back value of a number below this one.
abbrev pub if_smaller_back : ℕ → Option Version → Option Version
if_smaller_back number None = None
if_smaller_back number (Some version) = if is_back version.flag && nat_lt version.number number then Some version else None

-- The back value of a number below this one in a cell of a page, by what is kept of it.
abbrev pub back_of_content : ℕ → ℕ → Content → Option Version
back_of_content number cell kept = if_smaller_back number (slice_get (versions_of kept) cell)

-- A transaction inventory page has a committed state at this place, by what is kept of it.
abbrev pub is_committed_in : ℕ → Content → Bool
is_committed_in place (content.Tip sequence states) = option_map_or is_committed_state (slice_get states place) false
is_committed_in place _ = false
