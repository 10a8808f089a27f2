-- Edits of a cell that make no new link: what is reached afterwards, and that the view stays sound.
use Rattle.std.proofs.Common.{◌≡◌, ◌∙◌, ◌<◌, ◌==◌, ℕ, true, false, ◌⊎◌, inl, inr, refl, sym, ap, subst}
use Rattle.std.specs.Prelude.{Some}
use Rattle.fbc_kinds.specs.declared.pages.Cell.{Cell}
use Rattle.fbc_kinds.specs.Chain.{state_of}
use Rattle.fbc_kinds.specs.Reach.{DataRole, Reaches, ReachesCell, top, along, NamesBack, LinksTo}
use Rattle.fbc_kinds.specs.Sound.{IsBackValue, IsSound}
use Rattle.fbc_kinds.specs.View.{View, cell_at, is_back, is_committed_state, is_empty, is_top, next_of}
use Rattle.fbc_kinds.proofs.Tests.{test_of_same}
use Rattle.fbc_kinds.specs.Lost.{IsLostCell}
use Rattle.fbc_page_edits.specs.Alike.{HasNoMoreLinks, KeepsLostCells}
use Rattle.fbc_version_edits.specs.Forms.{NamesNone}
use Rattle.fbc_page_edits.specs.Facing.{IsLinked}
use Rattle.fbc_version_edits.specs.Differences.{HasOtherLinks, IsPlace, KeepsLostCellsBut}
use Rattle.fbc_version_edits.proofs.SoundCells.{sound_with, value_elsewhere}
use Rattle.fbc_version_edits.proofs.OneCell.{IsOneCell, here_or_not, is_new, is_old, new_stands, old_stands, reached_after, reached_before}

-- A version begins a row: it is a top that stands where none stood, and has no link.
pub record BeginsRow (old new : Cell) : Type 0 where
  pub begins : is_top new.flag ≡ true
  pub over : is_empty old.flag ≡ true
  pub alone : NamesNone new

-- A cell gets another version without a new link.
pub record MakesNoLink (before : View) (page cell : ℕ) (old new : Cell) : Type 0 where
  -- Where the cell is reached, the new version's link is the old one's.
  pub link : (relation back_page back_cell : ℕ) → ReachesCell before relation page cell → NamesBack new back_page back_cell → NamesBack old back_page back_cell × (new.number ≡ old.number)
  -- A new top stands where one stood, or begins a row.
  pub tops : is_top new.flag ≡ true → (is_top old.flag ≡ true) ⊎ BeginsRow old new
  -- A back version that is named keeps its flag and number.
  pub value : IsLinked before page cell → (is_back new.flag ≡ is_back old.flag) × (new.number ≡ old.number)
  -- The new version's number was begun.
  pub begun : (relation sequence : ℕ) → Reaches before (DataRole relation sequence) page → is_empty new.flag ≡ false → new.number < next_of before

-- A version that names none names no cell.
pub names_none : (version : Cell) (page cell : ℕ) → NamesNone version → NamesBack version page cell → ⊥
names_none version page cell none names = let zero : (version.back_page == 0) ≡ true = test_of_same version.back_page 0 none in let some = names.some in cc

module _ {before after : View} {page cell : ℕ} {old new : Cell} (sound : IsSound before) (one : IsOneCell before after page cell old new) (no_link : MakesNoLink before page cell old new) where
  -- What is reached after the edit.
  abbrev pub WasReached : ℕ → ℕ → ℕ → Type 0
  WasReached relation other place = ReachesCell before relation other place ⊎ (IsPlace page cell other place × BeginsRow old new)

  top_was : (relation sequence other place : ℕ) (version : Cell) → Reaches after (DataRole relation sequence) other → cell_at after other place ≡ Some version → is_top version.flag ≡ true
      → WasReached relation other place
  top_was relation sequence other place version named stands is = go (here_or_not page cell other place)
    where
      named_before : Reaches before (DataRole relation sequence) other
      named_before = reached_before one (DataRole relation sequence) other named

      go : IsPlace page cell other place ⊎ ¬ IsPlace page cell other place → WasReached relation other place
      go (inr differ) = inl (top sequence other place version named_before (sym (one.others other place differ) ∙ stands) is)
      go (inl at) = by (no_link.tops (ap (λ (v : Cell). is_top v.flag) (sym (is_new one other place version at stands)) ∙ is))
        where
          by : (is_top old.flag ≡ true) ⊎ BeginsRow old new → WasReached relation other place
          by (inl was) = inl (top sequence other place old named_before (old_stands one other place at) was)
          by (inr none) = inr (at, none)

  along_was : (relation other place back_page back_cell : ℕ) (version : Cell) → WasReached relation other place → cell_at after other place ≡ Some version → NamesBack version back_page back_cell
      → WasReached relation back_page back_cell
  along_was relation other place back_page back_cell version (inr at) stands names =
      let same = is_new one other place version at.0 stands in
      absurd (names_none new back_page back_cell at.1.alone (subst (λ (v : Cell). NamesBack v back_page back_cell) same names))
  along_was relation other place back_page back_cell version (inl reached) stands names = go (here_or_not page cell other place)
    where
      go : IsPlace page cell other place ⊎ ¬ IsPlace page cell other place → WasReached relation back_page back_cell
      go (inr differ) = inl (along other place back_page back_cell version reached (sym (one.others other place differ) ∙ stands) names)
      go (inl at) =
          let same = is_new one other place version at stands in
          let here = subst (λ n. ReachesCell before relation page n) at.1 (subst (λ n. ReachesCell before relation n place) at.0 reached) in
          let link = no_link.link relation back_page back_cell here (subst (λ (v : Cell). NamesBack v back_page back_cell) same names) in
          inl (along other place back_page back_cell old reached (old_stands one other place at) link.0)

  pub was_reached : (relation other place : ℕ) → ReachesCell after relation other place → WasReached relation other place
  was_reached relation _ _ (top sequence other place version named stands is) = top_was relation sequence other place version named stands is
  was_reached relation _ _ (along other place back_page back_cell version reached stands names) =
      along_was relation other place back_page back_cell version (was_reached relation other place reached) stands names

  -- The link that a link afterwards was before.
  pub record WasLink (relation other place : ℕ) (version : Cell) (back_page back_cell : ℕ) : Type 0 where
    pub before_it : Cell
    pub links : LinksTo before relation other place before_it back_page back_cell
    pub number : version.number ≡ before_it.number
    pub same : ¬ IsPlace page cell other place → version ≡ before_it

  pub was_link : (relation other place back_page back_cell : ℕ) (version : Cell) → LinksTo after relation other place version back_page back_cell → WasLink relation other place version back_page back_cell
  was_link relation other place back_page back_cell version link = go (was_reached relation other place link.reached) (here_or_not page cell other place)
    where
      go : WasReached relation other place → IsPlace page cell other place ⊎ ¬ IsPlace page cell other place → WasLink relation other place version back_page back_cell
      go (inr at) either =
          let same = is_new one other place version at.0 link.stands in
          absurd (names_none new back_page back_cell at.1.alone (subst (λ (v : Cell). NamesBack v back_page back_cell) same link.names))
      go (inl reached) (inr differ) = record {
        before_it = version;
        links = record { reached = reached; stands = sym (one.others other place differ) ∙ link.stands; names = link.names };
        number = refl;
        same = λ _. refl;
      }
      go (inl reached) (inl at) =
          let same = is_new one other place version at link.stands in
          let here = subst (λ n. ReachesCell before relation page n) at.1 (subst (λ n. ReachesCell before relation n place) at.0 reached) in
          let was = no_link.link relation back_page back_cell here (subst (λ (v : Cell). NamesBack v back_page back_cell) same link.names) in
          record {
            before_it = old;
            links = record { reached = reached; stands = old_stands one other place at; names = was.0 };
            number = ap (λ (v : Cell). v.number) same ∙ was.1;
            same = λ differ. absurd (differ at);
          }

  value_after : (relation other place number : ℕ) → IsLinked before other place → IsBackValue before relation other place number → IsBackValue after relation other place number
  value_after relation other place number linked is = go (here_or_not page cell other place)
    where
      named_after : Reaches after (DataRole relation is.sequence) other
      named_after = reached_after one (DataRole relation is.sequence) other is.named

      go : IsPlace page cell other place ⊎ ¬ IsPlace page cell other place → IsBackValue after relation other place number
      go (inr differ) = value_elsewhere one relation other place number differ is
      go (inl at) =
          let same = is_old one other place is.back at is.stands in
          let kept = no_link.value (subst (λ n. IsLinked before page n) at.1 (subst (λ n. IsLinked before n place) at.0 linked)) in
          record {
            sequence = is.sequence;
            back = new;
            named = named_after;
            stands = new_stands one other place at;
            is_value = kept.0 ∙ sym (ap (λ (v : Cell). is_back v.flag) same) ∙ is.is_value;
            smaller = subst (λ n. n < number) (ap (λ (v : Cell). v.number) same ∙ sym kept.1) is.smaller;
          }

  committed_after : (relation other place back_page back_cell : ℕ) (version back : Cell) → LinksTo after relation other place version back_page back_cell → cell_at after back_page back_cell ≡ Some back
      → is_committed_state (state_of before back.number) ≡ true
  committed_after relation other place back_page back_cell version back link stands = go (was_link relation other place back_page back_cell version link) (here_or_not page cell back_page back_cell)
    where
      go : WasLink relation other place version back_page back_cell → IsPlace page cell back_page back_cell ⊎ ¬ IsPlace page cell back_page back_cell
          → is_committed_state (state_of before back.number) ≡ true
      go was (inr differ) = sound.below relation other place back_page back_cell was.before_it back was.links (sym (one.others back_page back_cell differ) ∙ stands)
      go was (inl at) =
          let same = is_new one back_page back_cell back at stands in
          let linked : IsLinked before back_page back_cell = record { relation = relation; from_page = other; from_cell = place; version = was.before_it; links = was.links } in
          let kept = no_link.value (subst (λ n. IsLinked before page n) at.1 (subst (λ n. IsLinked before n back_cell) at.0 linked)) in
          ap (λ n. is_committed_state (state_of before n)) (ap (λ (v : Cell). v.number) same ∙ kept.1)
          ∙ sound.below relation other place back_page back_cell was.before_it old was.links (old_stands one back_page back_cell at)

  -- The view stays sound.
  pub sound_after : IsSound after
  sound_after =
      sound_with sound one no_link.begun
      (record {
        back = λ relation other place back_page back_cell version link.
            let was = was_link relation other place back_page back_cell version link in
            subst (λ n. IsBackValue after relation back_page back_cell n) (sym was.number)
            (value_after relation back_page back_cell was.before_it.number
            (record { relation = relation; from_page = other; from_cell = place; version = was.before_it; links = was.links })
            (sound.back relation other place back_page back_cell was.before_it was.links));
        once = λ relation other place second_relation second second_place back_page back_cell version another link also.
            let was = was_link relation other place back_page back_cell version link in
            let also_was = was_link second_relation second second_place back_page back_cell another also in
            sound.back_once relation other place second_relation second second_place back_page back_cell was.before_it also_was.before_it was.links also_was.links;
        below = committed_after;
      })

  -- Lost cells stay lost.
  pub cells_stay : KeepsLostCellsBut page cell before after
  cells_stay other place differ lost = record {
    relation = lost.relation;
    sequence = lost.sequence;
    version = lost.version;
    reached = reached_after one (DataRole lost.relation lost.sequence) other lost.reached;
    stands = one.others other place differ ∙ lost.stands;
    holds = lost.holds;
    unreached = λ any reached. go any (was_reached any other place reached);
  }
    where
      go : (any : ℕ) → WasReached any other place → ⊥
      go any (inl reached) = lost.unreached any reached
      go any (inr at) = differ at.0

  -- The same for every cell, where this one stays lost too.
  pub all_cells_stay : (IsLostCell before page cell → IsLostCell after page cell) → KeepsLostCells before after
  all_cells_stay here other place lost = go (here_or_not page cell other place)
    where
      go : IsPlace page cell other place ⊎ ¬ IsPlace page cell other place → IsLostCell after other place
      go (inr differ) = cells_stay other place differ lost
      go (inl at) =
          let lost_here = here (subst (λ n. IsLostCell before page n) at.1 (subst (λ n. IsLostCell before n place) at.0 lost)) in
          subst (λ n. IsLostCell after n place) (sym at.0) (subst (λ n. IsLostCell after page n) (sym at.1) lost_here)

  -- Links from other cells are links that were there.
  pub other_links : HasOtherLinks page cell before after
  other_links relation other place back_page back_cell version differ link =
      let was = was_link relation other place back_page back_cell version link in
      subst (λ (v : Cell). LinksTo before relation other place v back_page back_cell) (sym (was.same differ)) was.links

  -- And there are no others, where there is none from this cell.
  pub no_more_links : ((relation back_page back_cell : ℕ) → ReachesCell after relation page cell → NamesBack new back_page back_cell → ⊥) → HasNoMoreLinks before after
  no_more_links none relation other place back_page back_cell version link = go (here_or_not page cell other place)
    where
      go : IsPlace page cell other place ⊎ ¬ IsPlace page cell other place → LinksTo before relation other place version back_page back_cell
      go (inr differ) = other_links relation other place back_page back_cell version differ link
      go (inl at) =
          let same = is_new one other place version at link.stands in
          let here = subst (λ n. ReachesCell after relation page n) at.1 (subst (λ n. ReachesCell after relation n place) at.0 link.reached) in
          absurd (none relation back_page back_cell here (subst (λ (v : Cell). NamesBack v back_page back_cell) same link.names))

  -- A link from this cell leads where the old version's led.
  pub own_links : (relation back_page back_cell : ℕ) (version : Cell) → LinksTo after relation page cell version back_page back_cell → LinksTo before relation page cell old back_page back_cell
  own_links relation back_page back_cell version link =
      let was = was_link relation page cell back_page back_cell version link in
      subst (λ (v : Cell). LinksTo before relation page cell v back_page back_cell) (is_old one page cell was.before_it (refl, refl) was.links.stands) was.links

  -- A cell that is lost stays lost with another version in it.
  pub stays_lost : is_empty new.flag ≡ is_empty old.flag → IsLostCell before page cell → IsLostCell after page cell
  stays_lost same lost =
      let here : is_empty old.flag ≡ false = ap (λ (v : Cell). is_empty v.flag) (sym (is_old one page cell lost.version (refl, refl) lost.stands)) ∙ lost.holds in
      record {
        relation = lost.relation;
        sequence = lost.sequence;
        version = new;
        reached = reached_after one (DataRole lost.relation lost.sequence) page lost.reached;
        stands = one.is;
        holds = same ∙ here;
        unreached = λ any reached. go here any (was_reached any page cell reached);
      }
    where
      go : is_empty old.flag ≡ false → (any : ℕ) → WasReached any page cell → ⊥
      go here any (inl reached) = lost.unreached any reached
      go here any (inr at) = let over = at.1.over in cc
