-- Lost space, by what is kept of the pages of a file.
use Rattle.std.specs.Prelude.{ℕ, suc, ◌^◌, Bool, ◌&&◌, not, nat_eq, if◌then◌else◌, List, [], ◌∷◌, take, Option, Some, None, is_some}
use Rattle.indexmap.specs.IndexMap.{get}
use Rattle.fbc_kinds.specs.View.{is_back}
use Rattle.fbc_kinds.specs.declared.pages.Header.{Header}
use Rattle.fbc_links.specs.Chains.{is_linked}
use Rattle.fbc_validator.specs.Marks.{is_taken_by}
use Rattle.fbc_links.specs.declared.chains.Chains.{Chains}
use Rattle.fbc_reach.specs.declared.content.Content.{Content}
use Rattle.fbc_reach.specs.declared.content.Content.TheVariants as content
use Rattle.fbc_reach.specs.declared.content.Version.{Version}
use Rattle.fbc_reach.specs.declared.tally.NamedPage.{NamedPage}
use Rattle.fbc_reach.specs.declared.tally.Tally.{Tally}
use Rattle.fbc_links.specs.Versions.{versions_of}

abbrev pub versions_kept : Option NamedPage → List Version
versions_kept None = []
versions_kept (Some named) = versions_of named.read.content

-- A page is lost where it is taken and was not named.
abbrev pub is_lost_by : Tally → Header → ℕ → Bool
is_lost_by tally h page = is_taken_by tally h page && not (is_some (get nat_eq tally.pages page))

-- A cell is lost where it holds a back version that no good link names: a top is reached.
abbrev pub is_unlinked : Chains → ℕ → ℕ → Version → Bool
is_unlinked chains page cell version = is_back version.flag && not (is_linked chains page cell)

-- The lost cells among those of a page from this one on.
abbrev pub unlinked_from : Chains → ℕ → ℕ → List Version → List (ℕ × ℕ)
unlinked_from chains page cell [] = []
unlinked_from chains page cell (version ∷ versions) =
    if is_unlinked chains page cell version then (page, cell) ∷ unlinked_from chains page (suc cell) versions
    else unlinked_from chains page (suc cell) versions

-- The place of a cell has two bytes.
abbrev pub cell_limit : ℕ
cell_limit = 2 ^ 16

-- The lost cells of a page, by what is kept of it.
abbrev pub unlinked_in : Tally → Chains → ℕ → List (ℕ × ℕ)
unlinked_in tally chains page = unlinked_from chains page 0 (take cell_limit (versions_kept (get nat_eq tally.pages page)))
