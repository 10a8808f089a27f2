-- What a tally keeps of a page tells which versions and states stand there.
use Rattle.std.proofs.Common.{◌≡◌, ℕ, ◌&&◌, ◌/◌, ◌%◌, Bool, true, false, if◌then◌else◌, List, [], ◌++◌, map, find, Option, Some, None, inr, refl, sym, ap, ◌∙◌, slice_get}
use Rattle.std.specs.Option.{option_and_then, option_map, option_map_or, unwrap_or}
use Rattle.std.proofs.lemmas.Option.{slice_get-map}
use Rattle.fbc_kinds.specs.declared.pages.Cell.{Cell}
use Rattle.fbc_kinds.specs.declared.pages.Data.{Data}
use Rattle.fbc_kinds.specs.declared.pages.Header.{Header}
use Rattle.fbc_kinds.specs.declared.pages.Page.{Page}
use Rattle.fbc_kinds.specs.declared.pages.Page.TheVariants as kind
use Rattle.fbc_kinds.specs.declared.pages.State.{State}
use Rattle.fbc_kinds.specs.declared.pages.State.TheVariants as state
use Rattle.fbc_kinds.specs.declared.shapes.Shape.{Shape}
use Rattle.fbc_kinds.specs.Chain.{state_of}
use Rattle.fbc_kinds.specs.File.{page_bytes, IsViewOf}
use Rattle.fbc_kinds.specs.Limits.{tip_numbers}
use Rattle.fbc_kinds.specs.View.{View, cell_in, header_of, is_committed_state, size_of, state_in, tip_of}
use Rattle.fbc_kinds.proofs.Tests.{test_of_same}
use Rattle.fbc_reach.specs.Content.{content_of, version_kept}
use Rattle.fbc_links.specs.Links.{cells_of, is_relation, is_smaller_back}
use Rattle.fbc_reach.specs.Tally.{IsKept, IsNamedPage, is_walked_for, role_of, role_walked}
use Rattle.fbc_links.specs.Versions.{back_of_content, back_value, cells_walked, if_smaller_back, is_committed_in, relation_of_walked, versions_of}
use Rattle.fbc_reach.specs.Walk.{naming, data_namings, inventory_namings, is_in_role, is_of_page, namings, pointer_namings, relation_of_naming, relation_walked, tip_namings}
use Rattle.fbc_reach.specs.declared.content.Version.{Version}
use Rattle.fbc_reach.specs.declared.namings.Naming.{Naming}
use Rattle.fbc_reach.specs.declared.namings.Role.{Role}
use Rattle.fbc_reach.specs.declared.namings.Role.TheVariants as role
use Rattle.fbc_reach.specs.declared.tally.NamedPage.{NamedPage}
use Rattle.fbc_reach.proofs.DataRoles.{fronts, not_walked, walked_as}
use Rattle.fbc_reach.proofs.HeaderNamings.{tip_named}
use Rattle.fbc_reach.proofs.Members.{In, find_some, in_left, in_right}
use Rattle.fbc_spelling.proofs.Shows.{shown_code}
use Rattle.fbc_reach.proofs.ShownPages.{all_slots, shows}
use Rattle.fbc_reach.proofs.Walks.{walked_in}

relation_by_role : (o : Option Naming) → relation_of_walked (role_of o) ≡ relation_of_naming o
relation_by_role None = refl
relation_by_role (Some n) = refl

smaller_kept : (number : ℕ) (o : Option Cell) → if_smaller_back number (option_map version_kept o) ≡ (if is_smaller_back number o then option_map version_kept o else None)
smaller_kept number None = refl
smaller_kept number (Some cell) = refl

committed_kept : (o : Option State) → option_map_or is_committed_state o false ≡ is_committed_state (unwrap_or o state.Active)
committed_kept None = refl
committed_kept (Some s) = refl

-- What was kept of a page's cells and states is what stands there.
both_if : (a b : Bool) (o : Option Version) → (if a then (if b then o else None) else None) ≡ (if a && b then o else None)
both_if true b o = refl
both_if false b o = refl

back_shown : (number cell : ℕ) (o : Option Page) → back_of_content number cell (content_of o) ≡ (if is_smaller_back number (cell_in o cell) then option_map version_kept (cell_in o cell) else None)
back_shown number cell (Some (kind.Data d)) = ap (if_smaller_back number) (slice_get-map version_kept d.cells cell) ∙ smaller_kept number (slice_get d.cells cell)
back_shown number cell _ = refl

versions_shown : (o : Option Page) → versions_of (content_of o) ≡ map version_kept (cells_of o)
versions_shown (Some (kind.Data d)) = refl
versions_shown _ = refl

committed_shown : (place : ℕ) (o : Option Page) → is_committed_in place (content_of o) ≡ is_committed_state (unwrap_or (state_in o place) state.Active)
committed_shown place (Some (kind.Tip t)) = committed_kept (slice_get t.states place)
committed_shown place _ = refl

-- A choice between one thing and itself.
pub either_same : {X : Type 0} (b : Bool) (x : X) → (if b then x else x) ≡ x
either_same true x = refl
either_same false x = refl

abbrev no_version : Option Version
no_version = None

nothing : (a b : Bool) → (if a then no_version else no_version) ≡ (if b && false then no_version else no_version)
nothing a b = either_same a no_version ∙ sym (either_same (b && false) no_version)

mapped : (b : Bool) (cells : List Cell) → (if b then map version_kept cells else []) ≡ map version_kept (if b then cells else [])
mapped true cells = refl
mapped false cells = refl

abbrev no_list : List Version
no_list = []

no_cells : (a b : Bool) → (if a then no_list else no_list) ≡ map version_kept (if b then [] else [])
no_cells a b = either_same a no_list ∙ sym (either_same b no_list) ∙ mapped b []

-- By what was kept of a page: the back value in a cell, the cells, and whether a state is committed.
abbrev pub kept_back : ℕ → ℕ → ℕ → Option NamedPage → Option Version
kept_back relation number cell None = None
kept_back relation number cell (Some named) =
    if is_relation relation (relation_of_walked named.walked) then back_of_content number cell named.read.content else None

abbrev pub kept_cells : Role → Option NamedPage → List Version
kept_cells named_as None = []
kept_cells named_as (Some named) = if is_walked_for named_as named.walked then versions_of named.read.content else []

abbrev pub kept_state : ℕ → Option NamedPage → Bool
kept_state place None = false
kept_state place (Some named) = is_committed_in place named.read.content

-- The tally of a file of this header.
module _ (shape : Shape) (bytes : List ℕ) (view : View) (shown : IsViewOf shape bytes view) (h : Header) (is : header_of view ≡ Some h) (next : ℕ) where
  role_kept : (page : ℕ) (named : NamedPage) → IsNamedPage shape (Some bytes) next (namings view) page named → (d : Data) → view page ≡ Some (kind.Data d)
      → named.walked ≡ role_of (find (is_of_page page) (data_namings view))
  role_kept page named kept d stands =
      let code : named.read.kind ≡ 5 =
      kept.read.kind_is ∙ shown_code shape page (page_bytes shape.size bytes page) (kind.Data d) (shows shape bytes view shown page (kind.Data d) stands)
      in
      kept.judged.walked ∙ ap (role_walked (namings view) page) code ∙ ap role_of (walked_as view h is (all_slots shape bytes view shown h is) page)

  content_kept : (page : ℕ) (named : NamedPage) → IsNamedPage shape (Some bytes) next (namings view) page named → named.read.content ≡ content_of (view page)
  content_kept page named kept = kept.read.shown (view page) (shown page)

  pub back_kept : (relation number page cell : ℕ) (o : Option NamedPage) → IsKept shape (Some bytes) next (namings view) page o
      → kept_back relation number cell o ≡ back_value view relation number page cell
  back_kept relation number page cell None none =
      ap (λ n. if is_relation relation (relation_of_naming n) && is_smaller_back number (cell_in (view page) cell) then option_map version_kept (cell_in (view page) cell) else None)
      (sym (not_walked view page none))
  back_kept relation number page cell (Some named) kept =
      ap (λ c. if is_relation relation (relation_of_walked named.walked) then back_of_content number cell c else None) (content_kept page named kept)
      ∙ go (view page) refl
    where
      go : (o : Option Page) → view page ≡ o
          → (if is_relation relation (relation_of_walked named.walked) then back_of_content number cell (content_of o) else None)
          ≡ (if is_relation relation (relation_walked view page) && is_smaller_back number (cell_in o cell) then option_map version_kept (cell_in o cell) else None)
      go (Some (kind.Data d)) stands =
          ap (λ r. if is_relation relation (relation_of_walked r) then back_of_content number cell (content_of (Some (kind.Data d))) else None) (role_kept page named kept d stands)
          ∙ ap (λ r. if is_relation relation r then back_of_content number cell (content_of (Some (kind.Data d))) else None) (relation_by_role (find (is_of_page page) (data_namings view)))
          ∙ ap (λ b. if is_relation relation (relation_walked view page) then b else None) (back_shown number cell (Some (kind.Data d)))
          ∙ both_if (is_relation relation (relation_walked view page)) _ _
      go None stands = nothing (is_relation relation (relation_of_walked named.walked)) (is_relation relation (relation_walked view page))
      go (Some (kind.Header x)) stands = nothing (is_relation relation (relation_of_walked named.walked)) (is_relation relation (relation_walked view page))
      go (Some (kind.Inventory x)) stands = nothing (is_relation relation (relation_of_walked named.walked)) (is_relation relation (relation_walked view page))
      go (Some (kind.Tip x)) stands = nothing (is_relation relation (relation_of_walked named.walked)) (is_relation relation (relation_walked view page))
      go (Some (kind.Pointer x)) stands = nothing (is_relation relation (relation_of_walked named.walked)) (is_relation relation (relation_walked view page))
      go (Some kind.Blank) stands = nothing (is_relation relation (relation_of_walked named.walked)) (is_relation relation (relation_walked view page))

  pub cells_kept : (page : ℕ) (named_as : Role) (o : Option NamedPage) → IsKept shape (Some bytes) next (namings view) page o
      → kept_cells named_as o ≡ map version_kept (cells_walked view (naming page named_as))
  cells_kept page named_as None none =
      ap (λ n. map version_kept (if is_in_role named_as n then cells_of (view page) else [])) (sym (not_walked view page none))
  cells_kept page named_as (Some named) kept =
      ap (λ c. if is_walked_for named_as named.walked then versions_of c else []) (content_kept page named kept)
      ∙ ap (λ v. if is_walked_for named_as named.walked then v else []) (versions_shown (view page))
      ∙ go (view page) refl
    where
      go : (o : Option Page) → view page ≡ o
          → (if is_walked_for named_as named.walked then map version_kept (cells_of o) else [])
          ≡ map version_kept (if is_in_role named_as (find (is_of_page page) (data_namings view)) then cells_of o else [])
      go (Some (kind.Data d)) stands =
          ap (λ r. if is_walked_for named_as r then map version_kept d.cells else []) (role_kept page named kept d stands)
          ∙ ap (λ b. if b then map version_kept d.cells else []) (walked_in named_as (find (is_of_page page) (data_namings view)))
          ∙ mapped (is_in_role named_as (find (is_of_page page) (data_namings view))) d.cells
      go None stands = no_cells (is_walked_for named_as named.walked) (is_in_role named_as (find (is_of_page page) (data_namings view)))
      go (Some (kind.Header x)) stands = no_cells (is_walked_for named_as named.walked) (is_in_role named_as (find (is_of_page page) (data_namings view)))
      go (Some (kind.Inventory x)) stands = no_cells (is_walked_for named_as named.walked) (is_in_role named_as (find (is_of_page page) (data_namings view)))
      go (Some (kind.Tip x)) stands = no_cells (is_walked_for named_as named.walked) (is_in_role named_as (find (is_of_page page) (data_namings view)))
      go (Some (kind.Pointer x)) stands = no_cells (is_walked_for named_as named.walked) (is_in_role named_as (find (is_of_page page) (data_namings view)))
      go (Some kind.Blank) stands = no_cells (is_walked_for named_as named.walked) (is_in_role named_as (find (is_of_page page) (data_namings view)))

  -- The state of a number stands in the transaction inventory page of its sequence, active where none is named.
  state_from : (size number : ℕ) → size_of view ≡ size → state_of view number
      ≡ unwrap_or (option_and_then (λ (tip : ℕ). state_in (view tip) (number % tip_numbers size)) (slice_get h.tips (number / tip_numbers size))) state.Active
  state_from size number same =
      ap
      (λ s. unwrap_or (option_and_then (λ (tip : ℕ). state_in (view tip) (number % tip_numbers s)) (tip_of view (number / tip_numbers s))) state.Active)
      same
      ∙ ap
      (λ o. unwrap_or
      (option_and_then (λ (tip : ℕ). state_in (view tip) (number % tip_numbers size)) (option_and_then (λ (g : Header). slice_get g.tips (number / tip_numbers size)) o))
      state.Active)
      is

  pub state_kept : (size number tip : ℕ) → size_of view ≡ size → slice_get h.tips (number / tip_numbers size) ≡ Some tip
      → (o : Option NamedPage) → IsKept shape (Some bytes) next (namings view) tip o → kept_state (number % tip_numbers size) o ≡ is_committed_state (state_of view number)
  state_kept size number tip same at None none =
      let s : ℕ = number / tip_numbers size in
      let n : Naming = naming tip (role.Tip s) in
      let there : tip_of view s ≡ Some tip = ap (option_and_then (λ (g : Header). slice_get g.tips s)) is ∙ at in
      let member : In (namings view) n =
      inr
      (in_left (fronts view) (data_namings view) n
      (in_left (inventory_namings (header_of view) ++ tip_namings (header_of view)) (pointer_namings (header_of view)) n
      (in_right (inventory_namings (header_of view)) (tip_namings (header_of view)) n (tip_named view h is s tip there))))
      in
      let some = find_some (is_of_page tip) (namings view) n member (test_of_same tip tip refl) in
      let no : None ≡ Some some.0 = sym none ∙ some.1 in
      cc
  state_kept size number tip same at (Some named) kept =
      let place : ℕ = number % tip_numbers size in
      ap (is_committed_in place) (content_kept tip named kept)
      ∙ committed_shown place (view tip)
      ∙ sym
      (ap is_committed_state
      (state_from size number same ∙ ap (λ o. unwrap_or (option_and_then (λ (t : ℕ). state_in (view t) place) o) state.Active) at))
