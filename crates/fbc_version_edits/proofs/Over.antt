-- A new top over a moved one: what is reached afterwards, that the view stays sound, and the row's chain.
use Rattle.std.proofs.Common.{◌≡◌, ◌∙◌, ◌<◌, ◌/◌, ℕ, zero, suc, true, ◌∷◌, ◌⊎◌, inl, inr, refl, sym, ap, subst, arith}
use Rattle.std.specs.Prelude.{Some}
use Rattle.std.proofs.lemmas.Option.{same_Some}
use Rattle.fbc_kinds.specs.declared.pages.Cell.{Cell}
use Rattle.fbc_kinds.specs.declared.pages.Flag.TheVariants as flag
use Rattle.fbc_kinds.specs.declared.pages.Page.{Page}
use Rattle.fbc_kinds.specs.declared.pages.Page.TheVariants as kind
use Rattle.fbc_kinds.specs.declared.shapes.Shape.{Shape}
use Rattle.fbc_kinds.specs.Chain.{below, cells_of, chain, state_of, value_of, version_of, versions_from}
use Rattle.fbc_kinds.specs.Lost.{IsLostCell}
use Rattle.fbc_kinds.specs.Reach.{DataRole, Reaches, ReachesCell, top, along, NamesBack, LinksTo}
use Rattle.fbc_kinds.specs.Sound.{IsBackValue, IsSound}
use Rattle.fbc_kinds.specs.View.{View, cell_at, is_back, is_committed_state, is_top}
use Rattle.fbc_version_edits.specs.Forms.{IsOver}
use Rattle.fbc_page_edits.specs.Facing.{IsLinked, IsRowAt}
use Rattle.fbc_page_edits.proofs.ReachedRoles.{own_role}
use Rattle.fbc_page_edits.proofs.SameVersions.{reached_holds}
use Rattle.fbc_version_edits.specs.Differences.{IsPlace, KeepsLostCellsBut}
use Rattle.fbc_version_edits.specs.Puts.{IsPutIn}
use Rattle.fbc_version_edits.proofs.Chains.{below_some, enough_below}
use Rattle.fbc_version_edits.proofs.Flags.{top_stays, unlinked}
use Rattle.fbc_version_edits.proofs.Frames.{below_frame, chain_of_top, row_after_stands, row_before_stands}
use Rattle.fbc_version_edits.proofs.OneCell.{IsOneCell, here_or_not, is_new, old_stands, reached_after, reached_before}
use Rattle.fbc_version_edits.proofs.SoundCells.{sound_with, value_elsewhere}

-- The version as it was moved.
abbrev pub moved : Cell → Cell
moved old = record old { flag = flag.Back }

-- The page is reached for its own relation alone.
pub own_relation : {shape : Shape} {view : View} {number cell : ℕ} {new : Cell} {content : Page} (put : IsPutIn shape view number cell new content)
    → (other sequence : ℕ) → Reaches view (DataRole other sequence) number → other ≡ put.page.relation
own_relation {view = view} {number = number} put other sequence reached =
    let role : DataRole other sequence ≡ DataRole put.page.relation put.page.sequence = own_role view put.sound number (kind.Data put.page) put.stands (DataRole other sequence) reached in
    cc

module _ {before after : View} {relation page cell : ℕ} {new : Cell} (sound : IsSound before) (over : IsOver before relation page cell new)
    (one : IsOneCell before after page cell over.old new) (own : (other sequence : ℕ) → Reaches before (DataRole other sequence) page → other ≡ relation) where
  was_top : is_top over.old.flag ≡ true
  was_top = ap is_top over.over

  pub over_unlinked : ¬ IsLinked before page cell
  over_unlinked = unlinked sound page cell over.old over.stands (ap is_back over.over)

  -- The moved version stands in another cell.
  pub elsewhere : ¬ IsPlace page cell new.back_page new.back_cell
  elsewhere at =
      let same : moved over.old ≡ over.old = same_Some (moved over.old) over.old (sym over.below ∙ old_stands one new.back_page new.back_cell at) in
      let flags : flag.Back ≡ flag.Primary = ap (λ (v : Cell). v.flag) same ∙ over.over in
      cc

  pub moved_stands : cell_at after new.back_page new.back_cell ≡ Some (moved over.old)
  moved_stands = one.others new.back_page new.back_cell elsewhere ∙ over.below

  -- What is reached afterwards was reached before, or is the moved version.
  abbrev WasReached : ℕ → ℕ → ℕ → Type 0
  WasReached other_relation other place =
      ReachesCell before other_relation other place ⊎ (IsPlace new.back_page new.back_cell other place × ReachesCell before other_relation page cell)

  reached_here : (other_relation other place : ℕ) → IsPlace page cell other place → ReachesCell before other_relation other place → ReachesCell before other_relation page cell
  reached_here other_relation other place at reached = subst (λ n. ReachesCell before other_relation page n) at.1 (subst (λ n. ReachesCell before other_relation n place) at.0 reached)

  is_moved : (other place : ℕ) (version : Cell) → IsPlace new.back_page new.back_cell other place → cell_at after other place ≡ Some version → version ≡ moved over.old
  is_moved other place version at stands =
      same_Some version (moved over.old) (sym stands ∙ ap (λ n. cell_at after n place) at.0 ∙ ap (cell_at after new.back_page) at.1 ∙ moved_stands)

  -- What the moved version names, the old one named.
  moved_names : (version : Cell) (back_page back_cell : ℕ) → version ≡ moved over.old → NamesBack version back_page back_cell → NamesBack over.old back_page back_cell
  moved_names version back_page back_cell same names =
      let is = subst (λ (v : Cell). NamesBack v back_page back_cell) same names in
      record { some = is.some; page_is = is.page_is; cell_is = is.cell_is }

  top_was : (other_relation sequence other place : ℕ) (version : Cell) → Reaches after (DataRole other_relation sequence) other → cell_at after other place ≡ Some version → is_top version.flag ≡ true
      → WasReached other_relation other place
  top_was other_relation sequence other place version named stands is = go (here_or_not page cell other place)
    where
      named_before : Reaches before (DataRole other_relation sequence) other
      named_before = reached_before one (DataRole other_relation sequence) other named

      go : IsPlace page cell other place ⊎ ¬ IsPlace page cell other place → WasReached other_relation other place
      go (inr differ) = inl (top sequence other place version named_before (sym (one.others other place differ) ∙ stands) is)
      go (inl at) = inl (top sequence other place over.old named_before (old_stands one other place at) was_top)

  along_was : (other_relation other place back_page back_cell : ℕ) (version : Cell) → WasReached other_relation other place → cell_at after other place ≡ Some version → NamesBack version back_page back_cell
      → WasReached other_relation back_page back_cell
  along_was other_relation other place back_page back_cell version (inr at) stands names =
      inl (along page cell back_page back_cell over.old at.1 over.stands (moved_names version back_page back_cell (is_moved other place version at.0 stands) names))
  along_was other_relation other place back_page back_cell version (inl reached) stands names = go (here_or_not page cell other place)
    where
      go : IsPlace page cell other place ⊎ ¬ IsPlace page cell other place → WasReached other_relation back_page back_cell
      go (inr differ) = inl (along other place back_page back_cell version reached (sym (one.others other place differ) ∙ stands) names)
      go (inl at) =
          let is = subst (λ (v : Cell). NamesBack v back_page back_cell) (is_new one other place version at stands) names in
          inr ((sym is.page_is, sym is.cell_is), reached_here other_relation other place at reached)

  pub over_reached : (other_relation other place : ℕ) → ReachesCell after other_relation other place → WasReached other_relation other place
  over_reached other_relation _ _ (top sequence other place version named stands is) = top_was other_relation sequence other place version named stands is
  over_reached other_relation _ _ (along other place back_page back_cell version reached stands names) =
      along_was other_relation other place back_page back_cell version (over_reached other_relation other place reached) stands names

  -- A link afterwards is one of before from another cell, the new one, or one of the old version that now begins at the moved one.
  pub data FromOver (other_relation other place : ℕ) (version : Cell) (back_page back_cell : ℕ) : Type 0 where
    kept : ¬ IsPlace page cell other place → LinksTo before other_relation other place version back_page back_cell → FromOver other_relation other place version back_page back_cell
    made : IsPlace page cell other place → version ≡ new → IsPlace new.back_page new.back_cell back_page back_cell → ReachesCell before other_relation page cell
        → FromOver other_relation other place version back_page back_cell
    taken_along : IsPlace new.back_page new.back_cell other place → version ≡ moved over.old → LinksTo before other_relation page cell over.old back_page back_cell
        → FromOver other_relation other place version back_page back_cell

  pub from_over : (other_relation other place back_page back_cell : ℕ) (version : Cell) → LinksTo after other_relation other place version back_page back_cell
      → FromOver other_relation other place version back_page back_cell
  from_over other_relation other place back_page back_cell version link = go (over_reached other_relation other place link.reached) (here_or_not page cell other place)
    where
      go : WasReached other_relation other place → IsPlace page cell other place ⊎ ¬ IsPlace page cell other place → FromOver other_relation other place version back_page back_cell
      go (inr at) either =
          let same = is_moved other place version at.0 link.stands in
          taken_along at.0 same (record { reached = at.1; stands = over.stands; names = moved_names version back_page back_cell same link.names })
      go (inl reached) (inr differ) = kept differ (record { reached = reached; stands = sym (one.others other place differ) ∙ link.stands; names = link.names })
      go (inl reached) (inl at) =
          let same = is_new one other place version at link.stands in
          let is = subst (λ (v : Cell). NamesBack v back_page back_cell) same link.names in
          made at same (sym is.page_is, sym is.cell_is) (reached_here other_relation other place at reached)

  -- A link of before leads to neither of the two cells.
  not_here : (other_relation other place back_page back_cell : ℕ) (version : Cell) → LinksTo before other_relation other place version back_page back_cell → ¬ IsPlace page cell back_page back_cell
  not_here other_relation other place back_page back_cell version link at =
      over_unlinked
      (subst (λ n. IsLinked before page n) at.1
      (subst (λ n. IsLinked before n back_cell) at.0 (record { relation = other_relation; from_page = other; from_cell = place; version = version; links = link })))

  not_moved : (other_relation other place back_page back_cell : ℕ) (version : Cell) → LinksTo before other_relation other place version back_page back_cell → ¬ IsPlace new.back_page new.back_cell back_page back_cell
  not_moved other_relation other place back_page back_cell version link at =
      over.unreached
      (subst (λ n. IsLinked before new.back_page n) at.1
      (subst (λ n. IsLinked before n back_cell) at.0 (record { relation = other_relation; from_page = other; from_cell = place; version = version; links = link })))

  over_back : (other_relation other place back_page back_cell : ℕ) (version : Cell) → LinksTo after other_relation other place version back_page back_cell
      → IsBackValue after other_relation back_page back_cell version.number
  over_back other_relation other place back_page back_cell version link = go (from_over other_relation other place back_page back_cell version link)
    where
      go : FromOver other_relation other place version back_page back_cell → IsBackValue after other_relation back_page back_cell version.number
      go (kept differ was) =
          value_elsewhere one other_relation back_page back_cell version.number (not_here other_relation other place back_page back_cell version was)
          (sound.back other_relation other place back_page back_cell version was)
      go (taken_along at same was) =
          subst (λ n. IsBackValue after other_relation back_page back_cell n) (sym (ap (λ (v : Cell). v.number) same))
          (value_elsewhere one other_relation back_page back_cell over.old.number (not_here other_relation page cell back_page back_cell over.old was)
          (sound.back other_relation page cell back_page back_cell over.old was))
      go (made at same to reached) =
          let holder = reached_holds before sound other_relation page cell reached in
          let relation_is : relation ≡ other_relation = sym (own other_relation holder.sequence holder.is.named) in
          let named : Reaches before (DataRole other_relation over.sequence) back_page =
          subst (λ n. Reaches before (DataRole other_relation over.sequence) n) (sym to.0) (subst (λ r. Reaches before (DataRole r over.sequence) new.back_page) relation_is over.named) in
          record {
            sequence = over.sequence;
            back = moved over.old;
            named = reached_after one (DataRole other_relation over.sequence) back_page named;
            stands = ap (λ n. cell_at after n back_cell) to.0 ∙ ap (cell_at after new.back_page) to.1 ∙ moved_stands;
            is_value = refl;
            smaller = subst (λ (v : Cell). over.old.number < v.number) (sym same) over.newer;
          }

  over_once : (other_relation other place second_relation second second_place back_page back_cell : ℕ) (version another : Cell)
      → LinksTo after other_relation other place version back_page back_cell → LinksTo after second_relation second second_place another back_page back_cell
      → (other ≡ second) × (place ≡ second_place)
  over_once other_relation other place second_relation second second_place back_page back_cell version another link also =
      go (from_over other_relation other place back_page back_cell version link) (from_over second_relation second second_place back_page back_cell another also)
    where
      go : FromOver other_relation other place version back_page back_cell → FromOver second_relation second second_place another back_page back_cell → (other ≡ second) × (place ≡ second_place)
      go (kept differ was) (kept differs is) = sound.back_once other_relation other place second_relation second second_place back_page back_cell version another was is
      go (kept differ was) (made at same to reached) = absurd (not_moved other_relation other place back_page back_cell version was to)
      go (kept differ was) (taken_along at same is) = absurd (differ (sound.back_once other_relation other place second_relation page cell back_page back_cell version over.old was is))
      go (made at same to reached) (kept differ is) = absurd (not_moved second_relation second second_place back_page back_cell another is to)
      go (made at same to reached) (made at_second same_second to_second reached_second) = (at.0 ∙ sym at_second.0, at.1 ∙ sym at_second.1)
      go (made at same to reached) (taken_along at_second same_second is) = absurd (not_moved second_relation page cell back_page back_cell over.old is to)
      go (taken_along at same was) (kept differ is) = absurd (differ (sound.back_once second_relation second second_place other_relation page cell back_page back_cell another over.old is was))
      go (taken_along at same was) (made at_second same_second to reached) = absurd (not_moved other_relation page cell back_page back_cell over.old was to)
      go (taken_along at same was) (taken_along at_second same_second is) = (at.0 ∙ sym at_second.0, at.1 ∙ sym at_second.1)

  over_below : (other_relation other place back_page back_cell : ℕ) (version back : Cell) → LinksTo after other_relation other place version back_page back_cell → cell_at after back_page back_cell ≡ Some back
      → is_committed_state (state_of before back.number) ≡ true
  over_below other_relation other place back_page back_cell version back link stands = go (from_over other_relation other place back_page back_cell version link)
    where
      go : FromOver other_relation other place version back_page back_cell → is_committed_state (state_of before back.number) ≡ true
      go (kept differ was) =
          sound.below other_relation other place back_page back_cell version back was
          (sym (one.others back_page back_cell (not_here other_relation other place back_page back_cell version was)) ∙ stands)
      go (taken_along at same was) =
          sound.below other_relation page cell back_page back_cell over.old back was
          (sym (one.others back_page back_cell (not_here other_relation page cell back_page back_cell over.old was)) ∙ stands)
      go (made at same to reached) =
          let is = is_moved back_page back_cell back to stands in
          ap (λ (v : Cell). is_committed_state (state_of before v.number)) is ∙ over.committed

  -- The view stays sound.
  pub over_sound : IsSound after
  over_sound = sound_with sound one (λ other_relation sequence named some. over.begun) (record { back = over_back; once = over_once; below = over_below })

  -- Cells that were lost stay lost, but the moved version.
  pub over_lost : KeepsLostCellsBut new.back_page new.back_cell before after
  over_lost other place differ lost = go (here_or_not page cell other place)
    where
      go : IsPlace page cell other place ⊎ ¬ IsPlace page cell other place → IsLostCell after other place
      go (inl at) =
          absurd (top_stays page cell over.old over.stands was_top (subst (λ n. IsLostCell before page n) at.1 (subst (λ n. IsLostCell before n place) at.0 lost)))
      go (inr apart) = record {
        relation = lost.relation;
        sequence = lost.sequence;
        version = lost.version;
        reached = reached_after one (DataRole lost.relation lost.sequence) other lost.reached;
        stands = one.others other place apart ∙ lost.stands;
        holds = lost.holds;
        unreached = λ any reached. by any (over_reached any other place reached);
      }
        where
          by : (any : ℕ) → WasReached any other place → ⊥
          by any (inl reached) = lost.unreached any reached
          by any (inr at) = differ at.0

  -- The chain of the row has the new version in front.
  pub over_chain : (other_relation row : ℕ) → IsRowAt before other_relation row page cell → chain after other_relation row ≡ version_of new ∷ chain before other_relation row
  over_chain other_relation row at =
      chain_of_top after other_relation row new (row_after_stands one other_relation row at) over.top
      ∙ ap (λ rest. version_of new ∷ rest)
      (go new.number over.newer
      ∙ sym (chain_of_top before other_relation row over.old (row_before_stands one other_relation row at) was_top))
    where
      reached : ReachesCell before other_relation page cell
      reached = top (row / cells_of before other_relation) page cell over.old at.named over.stands was_top

      go : (count : ℕ) → over.old.number < count → versions_from after count (below after new) ≡ version_of over.old ∷ versions_from before over.old.number (below before over.old)
      go zero newer = absurd (omega arith)
      go (suc count) newer =
          ap (versions_from after (suc count)) (below_some after new over.linked ∙ moved_stands)
          ∙ ap (λ f. (record { number = over.old.number; value = f }) ∷ versions_from after count (below after over.old)) (sym (ap (λ f. value_of f over.old.value) over.over))
          ∙ ap (λ rest. version_of over.old ∷ rest)
          (below_frame one over_unlinked count other_relation page cell over.old reached over.stands
          ∙ enough_below before sound count over.old.number other_relation page cell over.old reached over.stands (omega arith) (omega arith))

  -- Where the page is named, the moved version is reached.
  pub over_reaches : (other_relation sequence : ℕ) → Reaches before (DataRole other_relation sequence) page → ReachesCell after other_relation new.back_page new.back_cell
  over_reaches other_relation sequence named =
      along page cell new.back_page new.back_cell new (top sequence page cell new (reached_after one (DataRole other_relation sequence) page named) one.is over.top) one.is
      (record { some = over.linked; page_is = refl; cell_is = refl })
