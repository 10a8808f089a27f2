-- The links below the tops of a page, cell by cell, and those of the data pages, page by page.
use Rattle.std.proofs.Common.{◌≡◌, ℕ, zero, suc, ◌+◌, ◌<◌, List, [], ◌∷◌, ◌++◌, length, map, take, get_or, Option, Some, None, refl, sym, subst, ap, ◌∙◌, arith, append_assoc, append-nil, slice_get}
use Rattle.std.specs.Option.{option_map}
use Rattle.std.proofs.lemmas.Option.{slice_get-map, slice_get-get_or}
use Rattle.fbc_kinds.specs.declared.pages.Cell.{Cell}
use Rattle.fbc_kinds.specs.View.{View}
use Rattle.fbc_links.specs.Following.{AreFollowed, links_of_version}
use Rattle.fbc_reach.specs.Content.{version_kept}
use Rattle.fbc_links.specs.Links.{Link, links_of_cells, links_of_top}
use Rattle.fbc_links.specs.declared.chains.Chains.{Chains}
use Rattle.fbc_reach.specs.declared.content.Version.{Version}

module _ (view : View) (relation page : ℕ) where
  one_cell_more : (place : ℕ) (cells : List Cell) (k : ℕ) (cell : Cell) → slice_get cells k ≡ Some cell
      → links_of_cells view relation page place (take (suc k) cells)
      ≡ links_of_cells view relation page place (take k cells) ++ links_of_top view relation page (place + k) cell
  one_cell_more place [] k cell is = cc
  one_cell_more place (x ∷ xs) zero cell is =
      let same : x ≡ cell = cc in
      let start : place ≡ place + 0 = omega arith in
      append-nil (links_of_top view relation page place x)
      ∙ ap (links_of_top view relation page place) same
      ∙ ap (λ at. links_of_top view relation page at cell) start
  one_cell_more place (x ∷ xs) (suc k) cell is =
      let next : suc place + k ≡ place + suc k = omega arith in
      ap (λ links. links_of_top view relation page place x ++ links) (one_cell_more (suc place) xs k cell is)
      ∙ sym (append_assoc (links_of_top view relation page place x) (links_of_cells view relation page (suc place) (take k xs)) (links_of_top view relation page (suc place + k) cell))
      ∙ ap (λ at. links_of_top view relation page place x ++ links_of_cells view relation page (suc place) (take k xs) ++ links_of_top view relation page at cell) next

  cell_from : (o : Option Cell) (version : Version) → option_map version_kept o ≡ Some version → (cell : Cell) × (o ≡ Some cell) × (version_kept cell ≡ version)
  cell_from None version is = cc
  cell_from (Some cell) version is = (cell, refl, (let same : version_kept cell ≡ version = cc in same))

  pub next_cell : (all : List Link) (cells : List Cell) (versions : List Version) (k at : ℕ) (other : Version) (chains : Chains)
      → versions ≡ map version_kept cells → k < length versions → at ≡ k
      → AreFollowed view (all ++ links_of_cells view relation page 0 (take k cells) ++ links_of_version view relation page at (get_or versions k other)) chains
      → AreFollowed view (all ++ links_of_cells view relation page 0 (take (k + 1) cells)) chains
  next_cell all cells versions k at other chains same within place followed =
      let stands : slice_get (map version_kept cells) k ≡ Some (get_or versions k other) =
      ap (λ list. slice_get list k) (sym same) ∙ slice_get-get_or versions k other within
      in
      let found = cell_from (slice_get cells k) (get_or versions k other) (sym (slice_get-map version_kept cells k) ∙ stands) in
      let before : List Link = links_of_cells view relation page 0 (take k cells) in
      let P : List Link → Type 0 = λ links. AreFollowed view links chains in
      let start : k ≡ 0 + k = omega arith in
      let next : suc k ≡ k + 1 = omega arith in
      subst P
      (ap (λ v. all ++ before ++ links_of_version view relation page at v) (sym found.2)
      ∙ ap (λ p. all ++ before ++ links_of_top view relation page p found.0) (place ∙ start)
      ∙ append_assoc all before (links_of_top view relation page (0 + k) found.0)
      ∙ ap (λ links. all ++ links) (sym (one_cell_more 0 cells k found.0 found.1))
      ∙ ap (λ n. all ++ links_of_cells view relation page 0 (take n cells)) next)
      followed
