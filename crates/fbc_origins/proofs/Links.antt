-- Links within a relation, and chains of them.
use Rattle.std.proofs.Common.{◌≡◌, ◌∙◌, ℕ, true, Some, sym, ap}
use Rattle.std.proofs.lemmas.Option.{same_Some}
use Rattle.fbc_kinds.specs.declared.pages.Cell.{Cell}
use Rattle.fbc_kinds.specs.Reach.{LinksTo, ReachesCell, along, top}
use Rattle.fbc_kinds.specs.View.{View, cell_at, is_back}
use Rattle.fbc_page_edits.specs.Facing.{IsLinked}
use Rattle.fbc_legal.specs.Leans.{LeadsTo}
use Rattle.fbc_version_edits.proofs.Flags.{top_of_back}

-- A version of the relation that is reached names the cell.
pub record IsLinkedFor (view : View) (relation back_page back_cell : ℕ) : Type 0 where
  pub from_page : ℕ
  pub from_cell : ℕ
  pub version : Cell
  pub links : LinksTo view relation from_page from_cell version back_page back_cell

pub linked-any : {view : View} {relation back_page back_cell : ℕ} → IsLinkedFor view relation back_page back_cell → IsLinked view back_page back_cell
linked-any {relation = relation} l = record { relation = relation; from_page = l.from_page; from_cell = l.from_cell; version = l.version; links = l.links }

pub linked-reached : (view : View) (relation back_page back_cell : ℕ) → IsLinkedFor view relation back_page back_cell → ReachesCell view relation back_page back_cell
linked-reached view relation back_page back_cell l = along l.from_page l.from_cell back_page back_cell l.version l.links.reached l.links.stands l.links.names

-- The last link of a chain from a cell that is reached.
pub leads-linked : (view : View) (relation page cell back_page back_cell : ℕ) → ReachesCell view relation page cell → LeadsTo view page cell back_page back_cell → IsLinkedFor view relation back_page back_cell
leads-linked view relation page cell _ _ reached (LeadsTo.straight back_page back_cell version stands names) =
    record { from_page = page; from_cell = cell; version = version; links = record { reached = reached; stands = stands; names = names } }
leads-linked view relation page cell _ _ reached (LeadsTo.along between_page between_cell back_page back_cell version leads stands names) =
    record {
      from_page = between_page;
      from_cell = between_cell;
      version = version;
      links = record { reached = linked-reached view relation between_page between_cell (leads-linked view relation page cell between_page between_cell reached leads); stands = stands; names = names };
    }

-- A back value that is reached is linked.
pub reached-linked : (view : View) (relation page cell : ℕ) (value : Cell) → ReachesCell view relation page cell → cell_at view page cell ≡ Some value → is_back value.flag ≡ true → IsLinked view page cell
reached-linked view relation _ _ value (top sequence page cell version named stands is) holds back =
    absurd (let no = top_of_back version.flag (ap (λ (v : Cell). is_back v.flag) (same_Some version value (sym stands ∙ holds)) ∙ back) in cc)
reached-linked view relation _ _ value (along page cell back_page back_cell version reached stands names) holds back =
    record { relation = relation; from_page = page; from_cell = cell; version = version; links = record { reached = reached; stands = stands; names = names } }
