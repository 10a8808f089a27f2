-- Down a way over versions that are not held one sees what the chain shows.
use Rattle.std.proofs.Common.{◌≡◌, ◌∙◌, ◌==◌, ◌/◌, ◌%◌, ◌<◌, inl, ℕ, suc, Bool, true, false, if◌then◌else◌, List, Option, Some, None, find, refl, sym, ap, subst, arith}
use Rattle.std.specs.Option.{option_and_then}
use Rattle.std.proofs.lemmas.Option.{same_Some}
use Rattle.fbc_kinds.specs.declared.pages.Cell.{Cell}
use Rattle.fbc_kinds.specs.Chain.{Version, below, cells_of, chain, see, value_of, version_of, versions_from}
use Rattle.fbc_kinds.specs.Reach.{NamesBack, ReachesCell}
use Rattle.fbc_kinds.specs.Sound.{IsBackValue, IsSound}
use Rattle.fbc_kinds.specs.View.{View, cell_at, data_of, is_top}
use Rattle.fbc_page_edits.specs.Facing.{IsRowAt}
use Rattle.fbc_version_edits.proofs.Chains.{below_none, below_some, enough, no_versions}
use Rattle.fbc_version_edits.proofs.Frames.{chain_of_top, row_stands}
use Rattle.fbc_firm_facts.specs.Standing.{IsLinkedBelow, IsStanding, LeadsUnheld}

module _ (seen : View) (sound : IsSound seen) (held : ℕ → Bool) (relation sequence place : ℕ) where
  pub led-reached : (page cell : ℕ) → LeadsUnheld seen held relation sequence place page cell → ReachesCell seen relation page cell
  led-reached page cell (LeadsUnheld.begins _ _ version at_place reached stands first) = ReachesCell.top sequence page cell version reached stands first
  led-reached page cell (LeadsUnheld.goes_on upper_page upper_cell _ _ version leads stands unheld names) =
      ReachesCell.along upper_page upper_cell page cell version (led-reached upper_page upper_cell leads) stands names

  pub link-of : (page cell : ℕ) (version : Cell) → LeadsUnheld seen held relation sequence place page cell → cell_at seen page cell ≡ Some version → (back_page back_cell : ℕ) → NamesBack version back_page back_cell
      → IsBackValue seen relation back_page back_cell version.number
  link-of page cell version leads stands back_page back_cell names =
      sound.back relation page cell back_page back_cell version (record { reached = led-reached page cell leads; stands = stands; names = names })

  -- What is seen of a version that is held, and of one that is not.
  pub see-held-first : (count : ℕ) (version : Cell) → held version.number ≡ true → see (versions_from seen (suc count) (Some version)) held ≡ value_of version.flag version.value
  see-held-first count version is =
      ap (λ b. option_and_then (λ (v : Version). v.value) (if b then Some (version_of version) else find (λ (v : Version). held v.number) (versions_from seen count (below seen version)))) is

  pub see-unheld : (count : ℕ) (version : Cell) → held version.number ≡ false → see (versions_from seen (suc count) (Some version)) held ≡ see (versions_from seen count (below seen version)) held
  see-unheld count version is =
      ap (λ b. option_and_then (λ (v : Version). v.value) (if b then Some (version_of version) else find (λ (v : Version). held v.number) (versions_from seen count (below seen version)))) is

  -- What is seen from a version that is not held is seen from the one below it, of a smaller number.
  pub see-below : (version back : Cell) (back_page back_cell : ℕ) → held version.number ≡ false → NamesBack version back_page back_cell → cell_at seen back_page back_cell ≡ Some back
      → back.number < version.number → ReachesCell seen relation back_page back_cell
      → see (versions_from seen (suc version.number) (Some version)) held ≡ see (versions_from seen (suc back.number) (Some back)) held
  see-below version back back_page back_cell unheld names stands smaller reached =
      see-unheld version.number version unheld
      ∙ ap (λ o. see (versions_from seen version.number o) held)
      (below_some seen version names.some ∙ ap (λ p. cell_at seen p version.back_cell) names.page_is ∙ ap (cell_at seen back_page) names.cell_is ∙ stands)
      ∙ ap (λ (versions : List Version). see versions held) (enough seen sound version.number (suc back.number) relation back_page back_cell back reached stands smaller (omega arith))

  pub see-alone : (version : Cell) → held version.number ≡ false → (version.back_page == 0) ≡ true → see (versions_from seen (suc version.number) (Some version)) held ≡ None
  see-alone version unheld alone =
      see-unheld version.number version unheld
      ∙ ap (λ o. see (versions_from seen version.number o) held) (below_none seen version alone)
      ∙ ap (λ (versions : List Version). see versions held) (no_versions seen version.number)

  module _ (row : ℕ) (value : Option (List ℕ)) (row_is : row / cells_of seen relation ≡ sequence) (place_is : row % cells_of seen relation ≡ place) (shows : see (chain seen relation row) held ≡ value) where
    pub led-sees : (page cell : ℕ) (version : Cell) → LeadsUnheld seen held relation sequence place page cell → cell_at seen page cell ≡ Some version
        → see (versions_from seen (suc version.number) (Some version)) held ≡ value
    led-sees page cell version (LeadsUnheld.begins _ _ found at_place reached stands first) here =
        let one : found ≡ version = same_Some found version (sym stands ∙ here) in
        let row_at : IsRowAt seen relation row page cell = record { named = ap (data_of seen relation) row_is ∙ reached; place = place_is ∙ sym at_place } in
        ap (λ (versions : List Version). see versions held)
        (sym (chain_of_top seen relation row version (row_stands seen relation row page cell row_at ∙ here) (subst (λ (v : Cell). is_top v.flag ≡ true) one first)))
        ∙ shows
    led-sees page cell version (LeadsUnheld.goes_on upper_page upper_cell _ _ upper leads stands unheld names) here =
        let value_of_link : IsBackValue seen relation page cell upper.number = link-of upper_page upper_cell upper leads stands page cell names in
        let one : value_of_link.back ≡ version = same_Some value_of_link.back version (sym value_of_link.stands ∙ here) in
        sym (see-below upper version page cell unheld names here (subst (λ (v : Cell). v.number < upper.number) one value_of_link.smaller)
        (ReachesCell.along upper_page upper_cell page cell upper (led-reached upper_page upper_cell leads) stands names))
        ∙ led-sees upper_page upper_cell upper leads stands

    -- A version from which ways lead to what it names sees what the chain shows, where it is led to itself or seen so before.
    pub led-stands : (page cell : ℕ) (version : Cell) → LeadsUnheld seen held relation sequence place page cell → cell_at seen page cell ≡ Some version
        → IsStanding seen held value relation sequence place page cell version
    led-stands page cell version leads here = record {
      stands = here;
      sees = led-sees page cell version leads here;
      below = λ unheld back_page back_cell names. record { page = page; cell = cell; version = version; leads = leads; stands = here; same = refl; unheld = unheld; names = names; sure = inl (refl, refl) };
    }

    -- A version that is held shows its value. One that is not sees what is seen from the cell that it names.
    pub linked-sees : (pinned_page pinned_cell : ℕ) (version : Cell) → held version.number ≡ false → (back_page back_cell : ℕ) → NamesBack version back_page back_cell
        → IsLinkedBelow seen held relation sequence place version.number pinned_page pinned_cell back_page back_cell
        → see (versions_from seen (suc version.number) (Some version)) held ≡ value
    linked-sees pinned_page pinned_cell version unheld back_page back_cell names by =
        let link : IsBackValue seen relation back_page back_cell by.version.number = link-of by.page by.cell by.version by.leads by.stands back_page back_cell by.names in
        see-below version link.back back_page back_cell unheld names link.stands (subst (λ n. link.back.number < n) by.same link.smaller)
        (ReachesCell.along by.page by.cell back_page back_cell by.version (led-reached by.page by.cell by.leads) by.stands by.names)
        ∙ led-sees back_page back_cell link.back (LeadsUnheld.goes_on by.page by.cell back_page back_cell by.version by.leads by.stands by.unheld by.names) link.stands
