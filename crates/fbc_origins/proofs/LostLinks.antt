-- What an edit of one cell makes unreached stood below that cell.
use Rattle.std.proofs.Common.{◌≡◌, ◌∙◌, ℕ, true, ◌⊎◌, inl, inr, Some, ap, subst}
use Rattle.fbc_kinds.specs.declared.pages.Cell.{Cell}
use Rattle.fbc_kinds.specs.Reach.{DataRole, LinksTo, NamesBack, Reaches, ReachesCell, along, top}
use Rattle.fbc_kinds.specs.View.{View, cell_at, is_top}
use Rattle.fbc_page_edits.specs.Facing.{IsLinked}
use Rattle.fbc_legal.specs.Leans.{LeadsTo}
use Rattle.fbc_version_edits.specs.Differences.{IsPlace}
use Rattle.fbc_version_edits.proofs.OneCell.{IsOneCell, here_or_not, is_old, reached_after}

-- A chain with one more link.
pub leads-on : (view : View) (page cell other place back_page back_cell : ℕ) (version : Cell) → IsPlace page cell other place ⊎ LeadsTo view page cell other place
    → cell_at view other place ≡ Some version → NamesBack version back_page back_cell → LeadsTo view page cell back_page back_cell
leads-on view page cell other place back_page back_cell version (inl at) stands names =
    LeadsTo.straight back_page back_cell version (subst (λ n. cell_at view page n ≡ Some version) at.1 (subst (λ n. cell_at view n place ≡ Some version) at.0 stands)) names
leads-on view page cell other place back_page back_cell version (inr leads) stands names = LeadsTo.along other place back_page back_cell version leads stands names

module _ {before after : View} {page cell : ℕ} {old new : Cell} (one : IsOneCell before after page cell old new) where
  -- A cell that is reached is the edited one or below it.
  pub record IsBelow (relation other place : ℕ) : Type 0 where
    pub reached : ReachesCell before relation page cell
    pub place_is : IsPlace page cell other place ⊎ LeadsTo before page cell other place

  at_cell : (relation other place : ℕ) → IsPlace page cell other place → ReachesCell before relation other place → ReachesCell before relation page cell
  at_cell relation other place at reached = subst (λ n. ReachesCell before relation page n) at.1 (subst (λ n. ReachesCell before relation n place) at.0 reached)

  -- What was reached is reached still, or is there.
  pub stays : (relation other place : ℕ) → ReachesCell before relation other place → ReachesCell after relation other place ⊎ IsBelow relation other place
  stays relation _ _ (top sequence other place version named stands is) = go (here_or_not page cell other place) where
    go : IsPlace page cell other place ⊎ ¬ IsPlace page cell other place → ReachesCell after relation other place ⊎ IsBelow relation other place
    go (inl at) = inr (record { reached = at_cell relation other place at (top sequence other place version named stands is); place_is = inl at })
    go (inr differ) = inl (top sequence other place version (reached_after one (DataRole relation sequence) other named) (one.others other place differ ∙ stands) is)
  stays relation _ _ (along other place back_page back_cell version reached stands names) = go (stays relation other place reached) (here_or_not page cell other place) where
    go : ReachesCell after relation other place ⊎ IsBelow relation other place → IsPlace page cell other place ⊎ ¬ IsPlace page cell other place
        → ReachesCell after relation back_page back_cell ⊎ IsBelow relation back_page back_cell
    go (inr below) either = inr (record { reached = below.reached; place_is = inr (leads-on before page cell other place back_page back_cell version below.place_is stands names) })
    go (inl still) (inl at) = inr (record { reached = at_cell relation other place at reached; place_is = inr (leads-on before page cell other place back_page back_cell version (inl at) stands names) })
    go (inl still) (inr differ) = inl (along other place back_page back_cell version still (one.others other place differ ∙ stands) names)

  -- A chain from the edited cell, which is reached, leads there.
  pub record IsReachedThrough (back_page back_cell : ℕ) : Type 0 where
    pub relation : ℕ
    pub reached : ReachesCell before relation page cell
    pub leads : LeadsTo before page cell back_page back_cell

  -- What is linked no more was reached through the edited cell.
  pub lost-below : (back_page back_cell : ℕ) → IsLinked before back_page back_cell → ¬ IsLinked after back_page back_cell → IsReachedThrough back_page back_cell
  lost-below back_page back_cell linked lost = go (stays linked.relation linked.from_page linked.from_cell linked.links.reached) (here_or_not page cell linked.from_page linked.from_cell) where
    through : ReachesCell before linked.relation page cell → IsPlace page cell linked.from_page linked.from_cell ⊎ LeadsTo before page cell linked.from_page linked.from_cell → IsReachedThrough back_page back_cell
    through reached place_is = record {
      relation = linked.relation;
      reached = reached;
      leads = leads-on before page cell linked.from_page linked.from_cell back_page back_cell linked.version place_is linked.links.stands linked.links.names;
    }

    go : ReachesCell after linked.relation linked.from_page linked.from_cell ⊎ IsBelow linked.relation linked.from_page linked.from_cell
        → IsPlace page cell linked.from_page linked.from_cell ⊎ ¬ IsPlace page cell linked.from_page linked.from_cell → IsReachedThrough back_page back_cell
    go (inr below) either = through below.reached below.place_is
    go (inl still) (inl at) = through (at_cell linked.relation linked.from_page linked.from_cell at linked.links.reached) (inl at)
    go (inl still) (inr differ) = absurd (lost (record {
      relation = linked.relation;
      from_page = linked.from_page;
      from_cell = linked.from_cell;
      version = linked.version;
      links = record { reached = still; stands = one.others linked.from_page linked.from_cell differ ∙ linked.links.stands; names = linked.links.names };
    }))

  -- A version of the relation that is reached afterwards names the cell.
  pub record IsNamedAfter (relation back_page back_cell : ℕ) : Type 0 where
    pub from_page : ℕ
    pub from_cell : ℕ
    pub version : Cell
    pub links : LinksTo after relation from_page from_cell version back_page back_cell

  -- A new top that leads to where the old version led loses nothing.
  module _ (is_first : is_top new.flag ≡ true) (keeps : (relation back_page back_cell : ℕ) → ReachesCell after relation page cell → NamesBack old back_page back_cell → IsNamedAfter relation back_page back_cell) where
    from_cell_on : (relation other place back_page back_cell : ℕ) (version : Cell) → IsPlace page cell other place → ReachesCell after relation other place → cell_at before other place ≡ Some version → NamesBack version back_page back_cell
        → IsNamedAfter relation back_page back_cell
    from_cell_on relation other place back_page back_cell version at reached stands names =
        keeps relation back_page back_cell (subst (λ n. ReachesCell after relation page n) at.1 (subst (λ n. ReachesCell after relation n place) at.0 reached))
        (subst (λ (v : Cell). NamesBack v back_page back_cell) (is_old one other place version at stands) names)

    named_on : (relation other place back_page back_cell : ℕ) (version : Cell) → ReachesCell after relation other place → cell_at before other place ≡ Some version → NamesBack version back_page back_cell
        → IsPlace page cell other place ⊎ ¬ IsPlace page cell other place → IsNamedAfter relation back_page back_cell
    named_on relation other place back_page back_cell version reached stands names (inl at) = from_cell_on relation other place back_page back_cell version at reached stands names
    named_on relation other place back_page back_cell version reached stands names (inr differ) =
        record { from_page = other; from_cell = place; version = version; links = record { reached = reached; stands = one.others other place differ ∙ stands; names = names } }

    reached_by : (relation back_page back_cell : ℕ) → IsNamedAfter relation back_page back_cell → ReachesCell after relation back_page back_cell
    reached_by relation back_page back_cell n = along n.from_page n.from_cell back_page back_cell n.version n.links.reached n.links.stands n.links.names

    reached_still : (relation other place : ℕ) → ReachesCell before relation other place → ReachesCell after relation other place
    reached_still relation _ _ (top sequence other place version named stands is) = go (here_or_not page cell other place) where
      there : Reaches after (DataRole relation sequence) other
      there = reached_after one (DataRole relation sequence) other named

      go : IsPlace page cell other place ⊎ ¬ IsPlace page cell other place → ReachesCell after relation other place
      go (inr differ) = top sequence other place version there (one.others other place differ ∙ stands) is
      go (inl at) = top sequence other place new there (ap (λ n. cell_at after n place) at.0 ∙ ap (cell_at after page) at.1 ∙ one.is) is_first
    reached_still relation _ _ (along other place back_page back_cell version reached stands names) =
        reached_by relation back_page back_cell (named_on relation other place back_page back_cell version (reached_still relation other place reached) stands names (here_or_not page cell other place))

    pub nothing-lost : (back_page back_cell : ℕ) → IsLinked before back_page back_cell → IsLinked after back_page back_cell
    nothing-lost back_page back_cell linked =
        let still = reached_still linked.relation linked.from_page linked.from_cell linked.links.reached in
        let n = named_on linked.relation linked.from_page linked.from_cell back_page back_cell linked.version still linked.links.stands linked.links.names (here_or_not page cell linked.from_page linked.from_cell) in
        record { relation = linked.relation; from_page = n.from_page; from_cell = n.from_cell; version = n.version; links = n.links }
