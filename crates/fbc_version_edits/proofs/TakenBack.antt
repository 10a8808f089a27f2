-- A top that is taken back, whose back version becomes the primary: what is reached afterwards, that the view stays sound, and the row's chain.
use Rattle.std.proofs.Common.{◌≡◌, ◌∙◌, ◌<◌, ◌==◌, ◌/◌, ℕ, zero, suc, true, false, List, ◌∷◌, ◌⊎◌, inl, inr, refl, sym, ap, subst, arith}
use Rattle.std.specs.Prelude.{Option, Some}
use Rattle.std.proofs.lemmas.Option.{same_Some}
use Rattle.fbc_kinds.specs.declared.pages.Cell.{Cell}
use Rattle.fbc_kinds.specs.declared.pages.Flag.{Flag}
use Rattle.fbc_kinds.specs.declared.pages.Flag.TheVariants as flag
use Rattle.fbc_kinds.specs.Chain.{Version, below, cells_of, chain, state_of, value_of, version_of, versions_from}
use Rattle.fbc_kinds.specs.Lost.{IsLostCell}
use Rattle.fbc_kinds.specs.Reach.{DataRole, Reaches, ReachesCell, top, along, NamesBack, LinksTo}
use Rattle.fbc_kinds.specs.Sound.{IsBackValue, IsSound}
use Rattle.fbc_kinds.specs.View.{View, cell_at, is_back, is_committed_state, is_empty, is_top, next_of}
use Rattle.fbc_page_edits.specs.Alike.{KeepsLostCells}
use Rattle.fbc_version_edits.specs.Forms.{IsBackout, IsRaised, NamesNone}
use Rattle.fbc_page_edits.specs.Facing.{NameTheSame, IsLinked, IsRowAt}
use Rattle.fbc_page_edits.proofs.SameVersions.{back_holds}
use Rattle.fbc_version_edits.specs.Differences.{HasOtherLinks, IsLeftAlone, IsPlace, LinksBelow}
use Rattle.fbc_version_edits.proofs.Chains.{below_some, enough_below, link_of}
use Rattle.fbc_version_edits.proofs.Flags.{back_of_top, top_stays, unlinked}
use Rattle.fbc_version_edits.proofs.Frames.{below_frame, chain_of_lone, chain_of_top, row_after_stands, row_before_stands, same_below}
use Rattle.fbc_version_edits.proofs.OneCell.{IsOneCell, here_or_not, is_new, old_stands, reached_after, reached_before}
use Rattle.fbc_version_edits.proofs.SoundCells.{sound_with, value_elsewhere}
use Rattle.fbc_version_edits.proofs.NoNewLinks.{names_none}

abbrev versioned : ℕ → Option (List ℕ) → Version
versioned number value = record { number = number; value = value }

value_of_back : (f : Flag) (value : List ℕ) → is_back f ≡ true → value_of f value ≡ Some value
value_of_back flag.Empty value is = cc
value_of_back flag.Primary value is = cc
value_of_back flag.Deletion value is = cc
value_of_back flag.Back value is = refl

module _ {before after : View} {page cell : ℕ} {new : Cell} (sound : IsSound before) (backout : IsBackout before page cell new)
    (one : IsOneCell before after page cell backout.old new) where
  abbrev pub old : Cell
  old = backout.old

  pub taken_unlinked : ¬ IsLinked before page cell
  taken_unlinked = unlinked sound page cell old backout.stands (back_of_top old.flag backout.over)

  -- Where the top is reached, it links to its back version, which is a back value.
  abbrev pub IsHere : ℕ → Type 0
  IsHere relation = ReachesCell before relation page cell

  link_here : (relation : ℕ) → IsHere relation → LinksTo before relation page cell old old.back_page old.back_cell
  link_here relation reached = link_of before relation page cell old reached backout.stands backout.linked

  value_here : (relation : ℕ) → IsHere relation → IsBackValue before relation old.back_page old.back_cell old.number
  value_here relation reached = sound.back relation page cell old.back_page old.back_cell old (link_here relation reached)

  pub raised_here : (relation : ℕ) → IsHere relation → IsRaised before new old.back_page old.back_cell
  raised_here relation reached = backout.raised relation (link_here relation reached)

  -- The back version that is raised is that value.
  value_is : (relation : ℕ) (reached : IsHere relation) → (raised_here relation reached).below ≡ (value_here relation reached).back
  value_is relation reached = same_Some _ _ (sym (raised_here relation reached).stands ∙ (value_here relation reached).stands)

  below_is_value : (relation : ℕ) (reached : IsHere relation) → is_back (raised_here relation reached).below.flag ≡ true
  below_is_value relation reached = ap (λ (v : Cell). is_back v.flag) (value_is relation reached) ∙ (value_here relation reached).is_value

  below_is_smaller : (relation : ℕ) (reached : IsHere relation) → (raised_here relation reached).below.number < old.number
  below_is_smaller relation reached = subst (λ (v : Cell). v.number < old.number) (sym (value_is relation reached)) (value_here relation reached).smaller

  -- It is reached through the top, and a link of the new version is its own.
  below_reached_here : (relation : ℕ) → IsHere relation → ReachesCell before relation old.back_page old.back_cell
  below_reached_here relation reached =
      along page cell old.back_page old.back_cell old reached backout.stands (record { some = backout.linked; page_is = refl; cell_is = refl })

  link_below : (relation back_page back_cell : ℕ) (reached : IsHere relation) → NamesBack new back_page back_cell
      → LinksTo before relation old.back_page old.back_cell (raised_here relation reached).below back_page back_cell
  link_below relation back_page back_cell reached names = go (raised_here relation reached).link
    where
      go : NamesNone new ⊎ NameTheSame (raised_here relation reached).below new → LinksTo before relation old.back_page old.back_cell (raised_here relation reached).below back_page back_cell
      go (inl none) = absurd (names_none new back_page back_cell none names)
      go (inr same) = record {
        reached = below_reached_here relation reached;
        stands = (raised_here relation reached).stands;
        names = record { some = ap (λ n. n == 0) (sym same.page) ∙ names.some; page_is = sym same.page ∙ names.page_is; cell_is = sym same.cell ∙ names.cell_is };
      }

  -- What is reached afterwards was reached before, and is not the back version, which has become the top.
  pub record WasElsewhere (relation other place : ℕ) : Type 0 where
    pub reached : ReachesCell before relation other place
    pub apart : (any : ℕ) → IsHere any → ¬ IsPlace old.back_page old.back_cell other place

  -- A top is not the back version.
  top_apart : (other place : ℕ) (version : Cell) → cell_at before other place ≡ Some version → is_top version.flag ≡ true → (any : ℕ) → IsHere any → ¬ IsPlace old.back_page old.back_cell other place
  top_apart other place version stands is any reached at =
      let value = value_here any reached in
      let there : cell_at before other place ≡ Some value.back = ap (λ n. cell_at before n place) at.0 ∙ ap (cell_at before old.back_page) at.1 ∙ value.stands in
      let same : version ≡ value.back = same_Some version value.back (sym stands ∙ there) in
      let not_back : is_back value.back.flag ≡ false = ap (λ (v : Cell). is_back v.flag) (sym same) ∙ back_of_top version.flag is in
      let is_value = value.is_value in
      cc

  top_was : (relation sequence other place : ℕ) (version : Cell) → Reaches after (DataRole relation sequence) other → cell_at after other place ≡ Some version → is_top version.flag ≡ true
      → WasElsewhere relation other place
  top_was relation sequence other place version named stands is = go (here_or_not page cell other place)
    where
      named_before : Reaches before (DataRole relation sequence) other
      named_before = reached_before one (DataRole relation sequence) other named

      with : (was : Cell) → cell_at before other place ≡ Some was → is_top was.flag ≡ true → WasElsewhere relation other place
      with was there also = record { reached = top sequence other place was named_before there also; apart = top_apart other place was there also }

      go : IsPlace page cell other place ⊎ ¬ IsPlace page cell other place → WasElsewhere relation other place
      go (inr differ) = with version (sym (one.others other place differ) ∙ stands) is
      go (inl at) = with old (old_stands one other place at) backout.over

  reached_at : (relation other place : ℕ) → IsPlace page cell other place → ReachesCell before relation other place → IsHere relation
  reached_at relation other place at reached = subst (λ n. ReachesCell before relation page n) at.1 (subst (λ n. ReachesCell before relation n place) at.0 reached)

  -- A link of before from another cell does not lead to the back version.
  link_apart : (relation other place back_page back_cell : ℕ) (version : Cell) → ¬ IsPlace page cell other place → LinksTo before relation other place version back_page back_cell
      → (any : ℕ) → IsHere any → ¬ IsPlace old.back_page old.back_cell back_page back_cell
  link_apart relation other place back_page back_cell version differ link any reached at =
      differ
      (sound.back_once relation other place any page cell old.back_page old.back_cell version old
      (subst (λ n. LinksTo before relation other place version old.back_page n) at.1 (subst (λ n. LinksTo before relation other place version n back_cell) at.0 link))
      (link_here any reached))

  -- Nor does its own link.
  own_apart : (relation back_page back_cell : ℕ) (reached : IsHere relation) → LinksTo before relation old.back_page old.back_cell (raised_here relation reached).below back_page back_cell
      → ¬ IsPlace old.back_page old.back_cell back_page back_cell
  own_apart relation back_page back_cell reached link at =
      let raised = raised_here relation reached in
      let value = sound.back relation old.back_page old.back_cell back_page back_cell raised.below link in
      let there : cell_at before back_page back_cell ≡ Some raised.below = ap (λ n. cell_at before n back_cell) at.0 ∙ ap (cell_at before old.back_page) at.1 ∙ raised.stands in
      let same : value.back ≡ raised.below = same_Some value.back raised.below (sym value.stands ∙ there) in
      let number : value.back.number ≡ raised.below.number = ap (λ (v : Cell). v.number) same in
      let smaller : value.back.number < raised.below.number = value.smaller in
      absurd (omega arith)

  along_was : (relation other place back_page back_cell : ℕ) (version : Cell) → WasElsewhere relation other place → cell_at after other place ≡ Some version → NamesBack version back_page back_cell
      → WasElsewhere relation back_page back_cell
  along_was relation other place back_page back_cell version was stands names = go (here_or_not page cell other place)
    where
      go : IsPlace page cell other place ⊎ ¬ IsPlace page cell other place → WasElsewhere relation back_page back_cell
      go (inr differ) =
          let link : LinksTo before relation other place version back_page back_cell = record { reached = was.reached; stands = sym (one.others other place differ) ∙ stands; names = names } in
          record { reached = along other place back_page back_cell version was.reached link.stands names; apart = link_apart relation other place back_page back_cell version differ link }
      go (inl at) =
          let reached = reached_at relation other place at was.reached in
          let link = link_below relation back_page back_cell reached (subst (λ (v : Cell). NamesBack v back_page back_cell) (is_new one other place version at stands) names) in
          record {
            reached = along old.back_page old.back_cell back_page back_cell (raised_here relation reached).below link.reached link.stands link.names;
            apart = λ any here. own_apart relation back_page back_cell reached link;
          }

  pub was_elsewhere : (relation other place : ℕ) → ReachesCell after relation other place → WasElsewhere relation other place
  was_elsewhere relation _ _ (top sequence other place version named stands is) = top_was relation sequence other place version named stands is
  was_elsewhere relation _ _ (along other place back_page back_cell version reached stands names) =
      along_was relation other place back_page back_cell version (was_elsewhere relation other place reached) stands names

  -- A link afterwards is one of before from another cell, or the back version's.
  pub data FromBelow (relation other place : ℕ) (version : Cell) (back_page back_cell : ℕ) : Type 0 where
    kept : ¬ IsPlace page cell other place → ((any : ℕ) → IsHere any → ¬ IsPlace old.back_page old.back_cell other place) → LinksTo before relation other place version back_page back_cell
        → FromBelow relation other place version back_page back_cell
    raised : IsPlace page cell other place → (reached : IsHere relation) → version ≡ new → LinksTo before relation old.back_page old.back_cell (raised_here relation reached).below back_page back_cell
        → FromBelow relation other place version back_page back_cell

  pub from_below : (relation other place back_page back_cell : ℕ) (version : Cell) → LinksTo after relation other place version back_page back_cell → FromBelow relation other place version back_page back_cell
  from_below relation other place back_page back_cell version link = go (here_or_not page cell other place) (was_elsewhere relation other place link.reached)
    where
      go : IsPlace page cell other place ⊎ ¬ IsPlace page cell other place → WasElsewhere relation other place → FromBelow relation other place version back_page back_cell
      go (inr differ) was = kept differ was.apart (record { reached = was.reached; stands = sym (one.others other place differ) ∙ link.stands; names = link.names })
      go (inl at) was =
          let reached = reached_at relation other place at was.reached in
          let same = is_new one other place version at link.stands in
          raised at reached same (link_below relation back_page back_cell reached (subst (λ (v : Cell). NamesBack v back_page back_cell) same link.names))

  -- A link of before does not lead here.
  not_here : (relation other place back_page back_cell : ℕ) (version : Cell) → LinksTo before relation other place version back_page back_cell → ¬ IsPlace page cell back_page back_cell
  not_here relation other place back_page back_cell version link at =
      taken_unlinked
      (subst (λ n. IsLinked before page n) at.1
      (subst (λ n. IsLinked before n back_cell) at.0 (record { relation = relation; from_page = other; from_cell = place; version = version; links = link })))

  taken_back : (relation other place back_page back_cell : ℕ) (version : Cell) → LinksTo after relation other place version back_page back_cell → IsBackValue after relation back_page back_cell version.number
  taken_back relation other place back_page back_cell version link = go (from_below relation other place back_page back_cell version link)
    where
      go : FromBelow relation other place version back_page back_cell → IsBackValue after relation back_page back_cell version.number
      go (kept differ apart was) =
          value_elsewhere one relation back_page back_cell version.number (not_here relation other place back_page back_cell version was) (sound.back relation other place back_page back_cell version was)
      go (raised at reached same was) =
          let lower = raised_here relation reached in
          subst (λ n. IsBackValue after relation back_page back_cell n) (sym (ap (λ (v : Cell). v.number) same ∙ lower.same_number))
          (value_elsewhere one relation back_page back_cell lower.below.number (not_here relation old.back_page old.back_cell back_page back_cell lower.below was)
          (sound.back relation old.back_page old.back_cell back_page back_cell lower.below was))

  taken_once : (relation other place second_relation second second_place back_page back_cell : ℕ) (version another : Cell)
      → LinksTo after relation other place version back_page back_cell → LinksTo after second_relation second second_place another back_page back_cell
      → (other ≡ second) × (place ≡ second_place)
  taken_once relation other place second_relation second second_place back_page back_cell version another link also =
      go (from_below relation other place back_page back_cell version link) (from_below second_relation second second_place back_page back_cell another also)
    where
      go : FromBelow relation other place version back_page back_cell → FromBelow second_relation second second_place another back_page back_cell → (other ≡ second) × (place ≡ second_place)
      go (kept differ apart was) (kept differs aparts is) = sound.back_once relation other place second_relation second second_place back_page back_cell version another was is
      go (kept differ apart was) (raised at reached same is) =
          absurd
          (apart second_relation reached
          (sound.back_once relation other place second_relation old.back_page old.back_cell back_page back_cell version (raised_here second_relation reached).below was is))
      go (raised at reached same was) (kept differ apart is) =
          absurd
          (apart relation reached
          (sound.back_once second_relation second second_place relation old.back_page old.back_cell back_page back_cell another (raised_here relation reached).below is was))
      go (raised at reached same was) (raised at_second reached_second same_second is) = (at.0 ∙ sym at_second.0, at.1 ∙ sym at_second.1)

  taken_below : (relation other place back_page back_cell : ℕ) (version back : Cell) → LinksTo after relation other place version back_page back_cell → cell_at after back_page back_cell ≡ Some back
      → is_committed_state (state_of before back.number) ≡ true
  taken_below relation other place back_page back_cell version back link stands = go (from_below relation other place back_page back_cell version link)
    where
      go : FromBelow relation other place version back_page back_cell → is_committed_state (state_of before back.number) ≡ true
      go (kept differ apart was) =
          sound.below relation other place back_page back_cell version back was (sym (one.others back_page back_cell (not_here relation other place back_page back_cell version was)) ∙ stands)
      go (raised at reached same was) =
          let lower = raised_here relation reached in
          sound.below relation old.back_page old.back_cell back_page back_cell lower.below back was
          (sym (one.others back_page back_cell (not_here relation old.back_page old.back_cell back_page back_cell lower.below was)) ∙ stands)

  taken_begun : (relation sequence : ℕ) → Reaches before (DataRole relation sequence) page → is_empty new.flag ≡ false → new.number < next_of before
  taken_begun relation sequence named some =
      let reached : IsHere relation = top sequence page cell old named backout.stands backout.over in
      let value = value_here relation reached in
      let same : new.number ≡ value.back.number = (raised_here relation reached).same_number ∙ ap (λ (v : Cell). v.number) (value_is relation reached) in
      subst (λ n. n < next_of before) (sym same)
      (sound.numbers relation value.sequence old.back_page old.back_cell value.back value.named value.stands (back_holds value.back.flag value.is_value))

  -- The view stays sound.
  pub taken_sound : IsSound after
  taken_sound = sound_with sound one taken_begun (record { back = taken_back; once = taken_once; below = taken_below })

  -- Lost cells stay lost, and the back version is lost where the page is named.
  pub taken_lost : KeepsLostCells before after
  taken_lost other place lost = go (here_or_not page cell other place)
    where
      go : IsPlace page cell other place ⊎ ¬ IsPlace page cell other place → IsLostCell after other place
      go (inl at) =
          absurd (top_stays page cell old backout.stands backout.over (subst (λ n. IsLostCell before page n) at.1 (subst (λ n. IsLostCell before n place) at.0 lost)))
      go (inr apart) = record {
        relation = lost.relation;
        sequence = lost.sequence;
        version = lost.version;
        reached = reached_after one (DataRole lost.relation lost.sequence) other lost.reached;
        stands = one.others other place apart ∙ lost.stands;
        holds = lost.holds;
        unreached = λ any reached. lost.unreached any (was_elsewhere any other place reached).reached;
      }

  pub taken_loses : (relation sequence : ℕ) → Reaches before (DataRole relation sequence) page → IsLostCell after old.back_page old.back_cell
  taken_loses relation sequence named =
      let reached : IsHere relation = top sequence page cell old named backout.stands backout.over in
      let value = value_here relation reached in
      record {
        relation = relation;
        sequence = value.sequence;
        version = value.back;
        reached = reached_after one (DataRole relation value.sequence) old.back_page value.named;
        stands = one.others old.back_page old.back_cell (not_here relation page cell old.back_page old.back_cell old (link_here relation reached)) ∙ value.stands;
        holds = back_holds value.back.flag value.is_value;
        unreached = λ any found. (was_elsewhere any old.back_page old.back_cell found).apart relation reached (refl, refl);
      }

  -- The version that is raised is the one below.
  same_version : (relation : ℕ) (reached : IsHere relation) → version_of (raised_here relation reached).below ≡ version_of new
  same_version relation reached =
      let lower = raised_here relation reached in
      ap (λ n. versioned n (value_of lower.below.flag lower.below.value)) (sym lower.same_number)
      ∙ ap (versioned new.number) (value_of_back lower.below.flag lower.below.value (below_is_value relation reached) ∙ ap Some (sym lower.same_value) ∙ sym (ap (λ f. value_of f new.value) backout.value))

  from_back : (relation : ℕ) (reached : IsHere relation) (count : ℕ) → (raised_here relation reached).below.number < count
      → versions_from before count (Some (raised_here relation reached).below) ≡ version_of new ∷ versions_from before new.number (below before (raised_here relation reached).below)
  from_back relation reached zero more = absurd (omega arith)
  from_back relation reached (suc count) more =
      let lower = raised_here relation reached in
      let number : new.number ≡ lower.below.number = lower.same_number in
      ap (λ v. v ∷ versions_from before count (below before lower.below)) (same_version relation reached)
      ∙ ap (λ rest. version_of new ∷ rest)
      (enough_below before sound count new.number relation old.back_page old.back_cell lower.below (below_reached_here relation reached) lower.stands (omega arith) (omega arith))

  module _ (relation row : ℕ) (at : IsRowAt before relation row page cell) where
    reached_at_row : IsHere relation
    reached_at_row = top (row / cells_of before relation) page cell old at.named backout.stands backout.over

    abbrev lower : Cell
    lower = (raised_here relation reached_at_row).below

    abbrev rest : List Version
    rest = versions_from before new.number (below before lower)

    whole_chain : chain before relation row ≡ version_of old ∷ version_of new ∷ rest
    whole_chain =
        chain_of_top before relation row old (row_before_stands one relation row at) backout.over
        ∙ ap (λ found. version_of old ∷ versions_from before old.number found) (below_some before old backout.linked ∙ (raised_here relation reached_at_row).stands)
        ∙ ap (λ found. version_of old ∷ found) (from_back relation reached_at_row old.number (below_is_smaller relation reached_at_row))

    -- The row's chain loses its newest version, where the next one keeps its link.
    kept_chain : NameTheSame lower new → chain before relation row ≡ version_of old ∷ chain after relation row
    kept_chain same =
        whole_chain
        ∙ ap (λ found. version_of old ∷ version_of new ∷ found)
        (sym (below_frame one taken_unlinked new.number relation old.back_page old.back_cell lower (below_reached_here relation reached_at_row) (raised_here relation reached_at_row).stands)
        ∙ sym (ap (versions_from after new.number) (same_below after lower new same)))
        ∙ sym (ap (λ found. version_of old ∷ found) (chain_of_top after relation row new (row_after_stands one relation row at) (ap is_top backout.value)))

    -- And all below the next one, where that one has lost its link.
    pub taken_chain : (chain before relation row ≡ version_of old ∷ chain after relation row) ⊎ IsLeftAlone (version_of old) (version_of new) (chain before relation row) (chain after relation row)
    taken_chain = go (raised_here relation reached_at_row).link
      where
        go : NamesNone new ⊎ NameTheSame lower new
            → (chain before relation row ≡ version_of old ∷ chain after relation row) ⊎ IsLeftAlone (version_of old) (version_of new) (chain before relation row) (chain after relation row)
        go (inl none) = inr (record { older = rest; whole = whole_chain; left = chain_of_lone after relation row new (row_after_stands one relation row at) (ap is_top backout.value) none })
        go (inr same) = inl (kept_chain same)

    pub taken_chain_kept : ((version : Cell) → cell_at before old.back_page old.back_cell ≡ Some version → NameTheSame version new) → chain before relation row ≡ version_of old ∷ chain after relation row
    taken_chain_kept names = kept_chain (names lower (raised_here relation reached_at_row).stands)

  -- A link from here leads where the back version's led.
  pub taken_own_link : (relation back_page back_cell : ℕ) → LinksTo after relation page cell new back_page back_cell → LinksBelow before relation old back_page back_cell
  taken_own_link relation back_page back_cell link = go (from_below relation page cell back_page back_cell new link)
    where
      go : FromBelow relation page cell new back_page back_cell → LinksBelow before relation old back_page back_cell
      go (kept differ apart was) = absurd (differ (refl, refl))
      go (raised at reached same was) = record { below = (raised_here relation reached).below; links = was }

  pub taken_other_links : HasOtherLinks page cell before after
  taken_other_links relation other place back_page back_cell version differ link = go (from_below relation other place back_page back_cell version link)
    where
      go : FromBelow relation other place version back_page back_cell → LinksTo before relation other place version back_page back_cell
      go (kept differs apart was) = was
      go (raised at reached same was) = absurd (differ at)
