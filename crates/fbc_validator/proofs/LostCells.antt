-- In a sound view the cells of its data pages that hold a back version which no good link names are the lost ones.
use Rattle.std.proofs.Common.{◌≡◌, ◌↔◌, ℕ, zero, suc, ◌+◌, ◌-◌, ◌*◌, ◌/◌, ◌<◌, ◌≤◌, Bool, true, false, not, nat_eq, List, [], ◌∷◌, map, length, take, slice_get, Option, Some, None, refl, sym, subst, ap, ◌∙◌, arith}
use Rattle.std.specs.Prelude.{AllPairs, Contains}
use Rattle.std.specs.List.{flat_map, list_any}
use Rattle.std.specs.List.Sorted.{IsStrictlyIncreasing}
use Rattle.std.proofs.lemmas.List.Kept.{AllPairs-from_increasing}
use Rattle.std.proofs.lemmas.List.{length-map, take_all}
use Rattle.std.proofs.lemmas.Nat.{div_below}
use Rattle.indexmap.specs.IndexMap.{get}
use Rattle.fbc_kinds.specs.declared.pages.Cell.{Cell}
use Rattle.fbc_kinds.specs.declared.pages.Flag.{Flag}
use Rattle.fbc_kinds.specs.declared.pages.Flag.TheVariants as flag
use Rattle.fbc_kinds.specs.declared.pages.Page.{Page}
use Rattle.fbc_kinds.specs.declared.pages.Page.TheVariants as kind
use Rattle.fbc_kinds.specs.declared.shapes.Shape.{Shape}
use Rattle.fbc_kinds.specs.File.{IsViewOf}
use Rattle.fbc_kinds.specs.Limits.{IsPageSize}
use Rattle.fbc_kinds.specs.Lost.{ComesBefore, IsLostCell}
use Rattle.fbc_kinds.specs.Reach.{top}
use Rattle.fbc_kinds.specs.Sound.{IsSound}
use Rattle.fbc_kinds.specs.Spelling.{listed_length}
use Rattle.fbc_kinds.specs.View.{View, cell_at, is_empty, is_top, is_back}
use Rattle.fbc_kinds.proofs.Heads.{both_pass}
use Rattle.fbc_kinds.proofs.Tests.{test_of_same, same_from_test, false_from_not}
use Rattle.fbc_links.specs.Chains.{AreChainsOf, is_linked}
use Rattle.fbc_reach.specs.Content.{content_of, version_kept}
use Rattle.fbc_links.specs.Links.{cells_of}
use Rattle.fbc_validator.specs.Lost.{cell_limit, versions_kept, is_unlinked, unlinked_in}
use Rattle.fbc_links.specs.Versions.{versions_of}
use Rattle.fbc_reach.specs.Tally.{IsTallyOf}
use Rattle.fbc_reach.specs.Walk.{naming, is_of_page, data_namings, namings}
use Rattle.fbc_links.specs.declared.chains.Chains.{Chains}
use Rattle.fbc_reach.specs.declared.content.Version.{Version}
use Rattle.fbc_reach.specs.declared.namings.Naming.{Naming}
use Rattle.fbc_reach.specs.declared.namings.Role.TheVariants as role
use Rattle.fbc_reach.specs.declared.tally.Tally.{Tally}
use Rattle.fbc_links.proofs.Chained.{cell_stands}
use Rattle.fbc_reach.proofs.KeptPages.{keeps_content}
use Rattle.fbc_validator.proofs.Linked.{target_of_reached, reached_target}
use Rattle.fbc_reach.proofs.Members.{In, any_some, any_here, flat_map_in, in_flat_map}
use Rattle.fbc_validator.proofs.Places.{contains_in, in_contains}
use Rattle.fbc_reach.proofs.Reached.{from_data, data_of_naming, data_walked}
use Rattle.fbc_validator.proofs.Rising.{pairs_rise, pages_rise}
use Rattle.fbc_reach.proofs.SameRoles.{both_true}
use Rattle.fbc_links.proofs.SoundLinks.{stands_cell}
use Rattle.fbc_validator.proofs.SoundPages.{one}
use Rattle.fbc_reach.proofs.ShownPages.{all_slots, shows}
use Rattle.fbc_validator.proofs.Unlinked.{unlinked_at, at_unlinked, unlinked_rise}

versions_shown : (o : Option Page) → versions_of (content_of o) ≡ map version_kept (cells_of o)
versions_shown (Some (kind.Data d)) = refl
versions_shown _ = refl

-- No data page has more cells than two bytes can count.
few_cells : (shape : Shape) (bytes : List ℕ) (view : View) → IsPageSize shape.size → IsViewOf shape bytes view → (page : ℕ) → length (cells_of (view page)) ≤ cell_limit
few_cells shape bytes view size shown page = go (view page) refl
  where
    go : (o : Option Page) → view page ≡ o → length (cells_of o) ≤ cell_limit
    go (Some (kind.Data d)) is =
        let greatest : ℕ = listed_length shape d.relation in
        let count : length d.cells ≡ (shape.size - 16) / (12 + greatest) = (shows shape bytes view shown page (kind.Data d) is).spelled.fits.count in
        let most : (shape.size - 16) / (12 + greatest) < cell_limit = div_below (shape.size - 16) (12 + greatest) cell_limit (omega arith) (small greatest) in
        omega arith
      where
        small : (greatest : ℕ) → shape.size - 16 < cell_limit * (12 + greatest)
        small greatest = grind (arith, size)
    go None is = omega arith
    go (Some (kind.Header h)) is = omega arith
    go (Some (kind.Inventory i)) is = omega arith
    go (Some (kind.Tip t)) is = omega arith
    go (Some (kind.Pointer p)) is = omega arith
    go (Some kind.Blank) is = omega arith

-- A version that was kept is that of a cell.
version_from : (cells : List Cell) (k : ℕ) (v : Version) → slice_get (map version_kept cells) k ≡ Some v → (cell : Cell) × (slice_get cells k ≡ Some cell) × (version_kept cell ≡ v)
version_from [] k v e = cc
version_from (c ∷ cs) zero v e = (c, refl, (let same : version_kept c ≡ v = cc in same))
version_from (c ∷ cs) (suc k) v e = version_from cs k v e

version_to : (cells : List Cell) (k : ℕ) (cell : Cell) → slice_get cells k ≡ Some cell → slice_get (map version_kept cells) k ≡ Some (version_kept cell)
version_to [] k cell e = cc
version_to (c ∷ cs) zero cell e = let same : c ≡ cell = cc in ap (λ x. Some (version_kept x)) same
version_to (c ∷ cs) (suc k) cell e = version_to cs k cell e

-- A cell holds a back version where it holds one that is no top.
back_flag : (f : Flag) → is_empty f ≡ false → is_top f ≡ false → is_back f ≡ true
back_flag flag.Back holds below = refl
back_flag flag.Empty holds below = cc
back_flag flag.Primary holds below = cc
back_flag flag.Deletion holds below = cc

flag_back : (f : Flag) → is_back f ≡ true → (is_empty f ≡ false) × (is_top f ≡ false)
flag_back flag.Back back = (refl, refl)
flag_back flag.Empty back = cc
flag_back flag.Primary back = cc
flag_back flag.Deletion back = cc

module _ (shape : Shape) (bytes : List ℕ) (view : View) (size : IsPageSize shape.size) (shown : IsViewOf shape bytes view) (sound : IsSound view)
    (tally : Tally) (kept : IsTallyOf shape (Some bytes) (namings view) tally) (chains : Chains) (are : AreChainsOf view chains) where
  versions_stand : (page : ℕ) (n : Naming) → In (data_namings view) n → n.page ≡ page
      → take cell_limit (versions_kept (get nat_eq tally.pages page)) ≡ map version_kept (cells_of (view page))
  versions_stand page n i same =
      let found = keeps_content shape bytes view shown tally.next page n (from_data view n i) same (get nat_eq tally.pages page) (kept page) in
      let count : length (map version_kept (cells_of (view page))) ≡ length (cells_of (view page)) = length-map (cells_of (view page)) version_kept in
      let few = few_cells shape bytes view size shown page in
      ap (λ o. take cell_limit (versions_kept o)) found.is
      ∙ ap (λ c. take cell_limit (versions_of c)) found.content
      ∙ ap (take cell_limit) (versions_shown (view page))
      ∙ take_all cell_limit (map version_kept (cells_of (view page))) (omega arith)

  lost_cell : (page cell : ℕ) (n : Naming) (version : Cell) → In (data_namings view) n → n.page ≡ page → cell_at view page cell ≡ Some version
      → is_unlinked chains page cell (version_kept version) ≡ true → IsLostCell view page cell
  lost_cell page cell n version i same stands passes =
      let both = both_pass _ _ passes in
      let flags = flag_back version.flag both.0 in
      let known = data_of_naming view (all_slots shape bytes view shown) n i in
      record {
        relation = known.relation;
        sequence = known.sequence;
        version = version;
        reached = known.reached ∙ ap Some same;
        stands = stands;
        holds = flags.0;
        unreached = λ any reached.
            let target = target_of_reached shape bytes view size shown sound any page cell version reached stands flags.1 in
            let no : true ≡ false = sym target ∙ sym (are.linked page cell) ∙ false_from_not _ both.1 in
            cc;
      }

  cell_lost : (page cell : ℕ) (lost : IsLostCell view page cell) → is_unlinked chains page cell (version_kept lost.version) ≡ true
  cell_lost page cell lost = both_true _ _ (back_flag lost.version.flag lost.holds (no_top (is_top lost.version.flag) refl)) (no_link (is_linked chains page cell) refl)
    where
      no_top : (b : Bool) → is_top lost.version.flag ≡ b → b ≡ false
      no_top true is = absurd (lost.unreached lost.relation (top lost.sequence page cell lost.version lost.reached lost.stands is))
      no_top false is = refl

      no_link : (b : Bool) → is_linked chains page cell ≡ b → not b ≡ true
      no_link true is = let reached = reached_target shape bytes view size shown sound page cell (sym (are.linked page cell) ∙ is) in absurd (lost.unreached reached.0 reached.1)
      no_link false is = refl

  listed : (pages : List ℕ) → ((page : ℕ) → Contains pages page → list_any (is_of_page page) (data_namings view) ≡ true)
      → (page cell : ℕ) → In (flat_map (unlinked_in tally chains) pages) (page, cell) → IsLostCell view page cell
  listed pages named page cell i =
      let from = flat_map_in (unlinked_in tally chains) pages (page, cell) i in
      let p : ℕ = from.0 in
      let found = unlinked_at chains p 0 (take cell_limit (versions_kept (get nat_eq tally.pages p))) (page, cell) from.2 in
      let naming_of = any_some (is_of_page p) (data_namings view) (named p (in_contains pages p from.1)) in
      let same : naming_of.0.page ≡ p = same_from_test _ _ naming_of.2 in
      let stands = version_from (cells_of (view p)) found.at found.version (ap (λ (vs : List Version). slice_get vs found.at) (sym (versions_stand p naming_of.0 naming_of.1 same)) ∙ found.stands) in
      let start : 0 + found.at ≡ found.at = omega arith in
      let passes : is_unlinked chains p found.at (version_kept stands.0) ≡ true = ap (is_unlinked chains p found.at) stands.2 ∙ ap (λ at. is_unlinked chains p at found.version) (sym start) ∙ found.passes in
      let lost = lost_cell p found.at naming_of.0 stands.0 naming_of.1 same (stands_cell (view p) found.at stands.0 stands.1) passes in
      let P : ℕ × ℕ → Type 0 = λ x. IsLostCell view x.0 x.1 in
      subst P (ap (λ at. (p, at)) (sym start) ∙ found.is) lost

  unlisted : (pages : List ℕ) → ((page : ℕ) → list_any (is_of_page page) (data_namings view) ≡ true → Contains pages page)
      → (page cell : ℕ) → IsLostCell view page cell → In (flat_map (unlinked_in tally chains) pages) (page, cell)
  unlisted pages has page cell lost =
      let n : Naming = naming page (role.Data lost.relation lost.sequence) in
      let i = data_walked view (one shape bytes view size shown sound) lost.relation lost.sequence page lost.reached in
      let there = contains_in pages page (has page (any_here (is_of_page page) (data_namings view) n i (test_of_same page page refl))) in
      let stands = version_to (cells_of (view page)) cell lost.version (cell_stands (view page) cell lost.version lost.stands) in
      let kept_there : slice_get (take cell_limit (versions_kept (get nat_eq tally.pages page))) cell ≡ Some (version_kept lost.version) =
      ap (λ (vs : List Version). slice_get vs cell) (versions_stand page n i refl) ∙ stands
      in
      let start : 0 + cell ≡ cell = omega arith in
      let passes : is_unlinked chains page (0 + cell) (version_kept lost.version) ≡ true = ap (λ at. is_unlinked chains page at (version_kept lost.version)) start ∙ cell_lost page cell lost in
      let P : ℕ → Type 0 = λ at. In (unlinked_in tally chains page) (page, at) in
      in_flat_map (unlinked_in tally chains) pages page (page, cell) there
      (subst P start (at_unlinked chains page 0 (take cell_limit (versions_kept (get nat_eq tally.pages page))) cell (version_kept lost.version) kept_there passes))

  -- So they are those of the list over all data pages.
  pub cells_lost : (found : List Naming) → found ≡ data_namings view → (pages : List ℕ) → ((page : ℕ) → Contains pages page ↔ (list_any (is_of_page page) found ≡ true))
      → (lost : List (ℕ × ℕ)) → lost ≡ flat_map (unlinked_in tally chains) pages
      → (page cell : ℕ) → Contains lost (page, cell) ↔ IsLostCell view page cell
  cells_lost found same pages named lost all page cell =
      let P : List Naming → Type 0 = λ ns. (page : ℕ) → Contains pages page ↔ (list_any (is_of_page page) ns ≡ true) in
      let names = subst P same named in
      let Q : List (ℕ × ℕ) → Type 0 = λ cells. Contains cells (page, cell) ↔ IsLostCell view page cell in
      subst Q (sym all) (
        (λ there. listed pages (λ p. (names p).0) page cell (contains_in _ (page, cell) there)),
        (λ space. in_contains _ (page, cell) (unlisted pages (λ p. (names p).1) page cell space)),
      )

-- In a rising list where the pages rise.
pub lost_rise : (tally : Tally) (chains : Chains) (pages : List ℕ) → IsStrictlyIncreasing pages → (lost : List (ℕ × ℕ)) → lost ≡ flat_map (unlinked_in tally chains) pages → AllPairs ComesBefore lost
lost_rise tally chains pages rise lost all =
    let Q : List (ℕ × ℕ) → Type 0 = AllPairs ComesBefore in
    subst Q (sym all)
    (pairs_rise (flat_map (unlinked_in tally chains) pages)
    (pages_rise (unlinked_in tally chains)
    (λ page x i.
    let found = unlinked_at chains page 0 (take cell_limit (versions_kept (get nat_eq tally.pages page))) x i in
    sym (ap (λ (y : ℕ × ℕ). y.0) found.is))
    (λ page. unlinked_rise chains page 0 (take cell_limit (versions_kept (get nat_eq tally.pages page))))
    pages (AllPairs-from_increasing pages rise)))
