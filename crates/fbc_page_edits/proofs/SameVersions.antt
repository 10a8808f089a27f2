-- Two views with the same versions in the pages that they name have the same links and chains.
use Rattle.std.proofs.Common.{◌≡◌, ℕ, true, false, Some, refl, sym, ◌∙◌}
use Rattle.fbc_kinds.specs.declared.pages.Cell.{Cell}
use Rattle.fbc_kinds.specs.declared.pages.Flag.{Flag}
use Rattle.fbc_kinds.specs.declared.pages.Flag.TheVariants as flag
use Rattle.fbc_kinds.specs.Reach.{DataRole, LinksTo, Reaches, ReachesCell, along, top}
use Rattle.fbc_kinds.specs.Sound.{IsBackValue, IsSound}
use Rattle.fbc_kinds.specs.View.{View, cell_at, data_of, is_back, is_empty, is_top}
use Rattle.fbc_page_edits.specs.Alike.{HasNoMoreLinks, KeepsLostCells}

-- A version stands in a cell of a data page, which the view names.
pub record IsNamedVersion (view : View) (relation sequence page cell : ℕ) (version : Cell) : Type 0 where
  pub named : Reaches view (DataRole relation sequence) page
  pub stands : cell_at view page cell ≡ Some version
  pub holds : is_empty version.flag ≡ false

-- Each version of one view stands in the other, in the same page of the same name.
abbrev pub ShowsVersions : View → View → Type 0
ShowsVersions view other = (relation sequence page cell : ℕ) (version : Cell) → IsNamedVersion view relation sequence page cell version → IsNamedVersion other relation sequence page cell version

-- Two views have the same versions.
pub record HaveSameVersions (before after : View) : Type 0 where
  pub kept : ShowsVersions before after
  pub no_more : ShowsVersions after before

-- Tops and back values are versions.
pub top_holds : (mark : Flag) → is_top mark ≡ true → is_empty mark ≡ false
top_holds flag.Empty is = cc
top_holds flag.Primary is = refl
top_holds flag.Deletion is = refl
top_holds flag.Back is = cc

pub back_holds : (mark : Flag) → is_back mark ≡ true → is_empty mark ≡ false
back_holds flag.Empty is = cc
back_holds flag.Primary is = cc
back_holds flag.Deletion is = cc
back_holds flag.Back is = refl

-- A view with the same data pages, cell by cell, has the same versions.
pub versions_same : (before after : View) → ((relation sequence : ℕ) → data_of after relation sequence ≡ data_of before relation sequence)
    → ((page cell : ℕ) → cell_at after page cell ≡ cell_at before page cell) → HaveSameVersions before after
versions_same before after names cells = record {
  kept = λ relation sequence page cell version is. record {
    named = names relation sequence ∙ is.named;
    stands = cells page cell ∙ is.stands;
    holds = is.holds;
  };
  no_more = λ relation sequence page cell version is. record {
    named = sym (names relation sequence) ∙ is.named;
    stands = sym (cells page cell) ∙ is.stands;
    holds = is.holds;
  };
}

-- A version that is named somewhere for a relation.
pub record IsVersionOf (view : View) (relation page cell : ℕ) : Type 0 where
  pub sequence : ℕ
  pub version : Cell
  pub is : IsNamedVersion view relation sequence page cell version

-- In a sound view each cell that is reached holds a version, in a page that is named.
pub reached_holds : (view : View) → IsSound view → (relation page cell : ℕ) → ReachesCell view relation page cell → IsVersionOf view relation page cell
reached_holds view sound relation page cell (top sequence p c version named stands is_top_of) = record {
  sequence = sequence;
  version = version;
  is = record { named = named; stands = stands; holds = top_holds version.flag is_top_of };
}
reached_holds view sound relation page cell (along p c back_page back_cell version reached stands names) =
    let below = sound.back relation p c back_page back_cell version (record { reached = reached; stands = stands; names = names }) in
    record {
      sequence = below.sequence;
      version = below.back;
      is = record { named = below.named; stands = below.stands; holds = back_holds below.back.flag below.is_value };
    }

module _ (before after : View) (sound : IsSound before) (same : HaveSameVersions before after) where
  -- A cell that is reached is the same in both views.
  pub reached_same : (relation page cell : ℕ) → ReachesCell before relation page cell → cell_at after page cell ≡ cell_at before page cell
  reached_same relation page cell reached =
      let here = reached_holds before sound relation page cell reached in
      let there = same.kept relation here.sequence page cell here.version here.is in
      there.stands ∙ sym here.is.stands

  -- The cells that are reached are the same.
  pub reached_after : (relation page cell : ℕ) → ReachesCell before relation page cell → ReachesCell after relation page cell
  reached_after relation page cell (top sequence p c version named stands is_top_of) =
      let is = same.kept relation sequence page cell version (record { named = named; stands = stands; holds = top_holds version.flag is_top_of }) in
      top sequence page cell version is.named is.stands is_top_of
  reached_after relation page cell (along p c back_page back_cell version reached stands names) =
      along p c page cell version (reached_after relation p c reached) (reached_same relation p c reached ∙ stands) names

  pub reached_before : (relation page cell : ℕ) → ReachesCell after relation page cell → ReachesCell before relation page cell
  reached_before relation page cell (top sequence p c version named stands is_top_of) =
      let is = same.no_more relation sequence page cell version (record { named = named; stands = stands; holds = top_holds version.flag is_top_of }) in
      top sequence page cell version is.named is.stands is_top_of
  reached_before relation page cell (along p c back_page back_cell version reached stands names) =
      let earlier = reached_before relation p c reached in
      along p c page cell version earlier (sym (reached_same relation p c earlier) ∙ stands) names

  -- The links are the same.
  pub links_after : (relation page cell back_page back_cell : ℕ) (version : Cell) → LinksTo before relation page cell version back_page back_cell → LinksTo after relation page cell version back_page back_cell
  links_after relation page cell back_page back_cell version link = record {
    reached = reached_after relation page cell link.reached;
    stands = reached_same relation page cell link.reached ∙ link.stands;
    names = link.names;
  }

  pub links_before : HasNoMoreLinks before after
  links_before relation page cell back_page back_cell version link =
      let earlier = reached_before relation page cell link.reached in
      record { reached = earlier; stands = sym (reached_same relation page cell earlier) ∙ link.stands; names = link.names }

  -- Lost cells stay lost.
  pub lost_cells_same : KeepsLostCells before after
  lost_cells_same page cell lost =
      let is = same.kept lost.relation lost.sequence page cell lost.version (record { named = lost.reached; stands = lost.stands; holds = lost.holds }) in
      record {
        relation = lost.relation;
        sequence = lost.sequence;
        version = lost.version;
        reached = is.named;
        stands = is.stands;
        holds = lost.holds;
        unreached = λ any reached. lost.unreached any (reached_before any page cell reached);
      }

  -- Back versions are back values.
  pub back_same : (relation page cell number : ℕ) → IsBackValue before relation page cell number → IsBackValue after relation page cell number
  back_same relation page cell number value =
      let is = same.kept relation value.sequence page cell value.back (record { named = value.named; stands = value.stands; holds = back_holds value.back.flag value.is_value }) in
      record {
        sequence = value.sequence;
        back = value.back;
        named = is.named;
        stands = is.stands;
        is_value = value.is_value;
        smaller = value.smaller;
      }
