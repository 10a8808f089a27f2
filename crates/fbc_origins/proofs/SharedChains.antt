-- A chain of the newest pages, followed down in another view: as long as a link stands in the newest pages, it stands there.
use Rattle.std.proofs.Common.{◌≡◌, ◌∙◌, ◌==◌, ◌⊎◌, inl, inr, ℕ, Bool, true, false, if◌then◌else◌, Option, Some, refl, sym, ap, subst}
use Rattle.std.proofs.Math.Path.{fun_ext}
use Rattle.std.proofs.lemmas.Option.{same_Some}
use Rattle.fbc_kinds.specs.declared.pages.Cell.{Cell}
use Rattle.fbc_kinds.specs.declared.pages.Page.{Page}
use Rattle.fbc_kinds.specs.Reach.{LinksTo, NamesBack, ReachesCell, along}
use Rattle.fbc_kinds.specs.Sound.{IsBackValue}
use Rattle.fbc_kinds.specs.View.{View, cell_at, cell_in}
use Rattle.fbc_version_edits.specs.Forms.{NamesNone}
use Rattle.fbc_page_edits.specs.Facing.{NameTheSame}
use Rattle.fbc_world.specs.World.{World}
use Rattle.fbc_legal.specs.Leans.{LeadsTo}
use Rattle.fbc_legal.specs.Scene.{Scene, born_at, meant_at, newest_at}
use Rattle.fbc_legal.specs.Stamps.{PageStamps, Stamps, newest_stamps}
use Rattle.fbc_closed_cuts.specs.Cut.{Cut, IsClosedCut, view}
use Rattle.fbc_closed_cuts.specs.Owed.{IsSeenKept, IsSeenNewest}
use Rattle.fbc_closed_cuts.specs.Upheld.{IsUpheld}
use Rattle.fbc_closed_cuts.specs.Views.{view_stamps}
use Rattle.fbc_version_edits.proofs.NoNewLinks.{names_none}
use Rattle.fbc_origins.specs.Origins.{CellsKeepVersions, LinksAreMeant}
use Rattle.fbc_origins.proofs.PutPages.{every_draft, newest-closed, newest-sound, newest-view}

pub newest-stamps : (w : World) (s : PageStamps) → view_stamps w s (every_draft w) ≡ newest_stamps w s
newest-stamps w s = fun_ext (λ page. pick (every_draft w page) (s.draft page) (s.kept page)) where
  pick : (c : Bool) (x y : Stamps) → (if c then (if c then x else y) else y) ≡ (if c then x else y)
  pick true x y = refl
  pick false x y = refl

-- Where the new version names a cell, the old one of one stamp does.
pub names_too : (old new : Cell) (page cell : ℕ) → NameTheSame old new ⊎ NamesNone new → NamesBack new page cell → NamesBack old page cell
names_too old new page cell (inr none) names = absurd (names_none new page cell none names)
names_too old new page cell (inl same) names = record {
  some = ap (λ n. n == 0) (sym same.page) ∙ names.some;
  page_is = sym same.page ∙ names.page_is;
  cell_is = sym same.cell ∙ names.cell_is;
}

-- A version that names the cell stands there.
pub record IsNamingIn (view : View) (page cell back_page back_cell : ℕ) : Type 0 where
  pub version : Cell
  pub stands : cell_at view page cell ≡ Some version
  pub names : NamesBack version back_page back_cell

module _ (at : Scene) (u : IsUpheld at) (versions : CellsKeepVersions at) (meant : LinksAreMeant at) (cut : Cut) (closed : IsClosedCut at.world cut) where
  abbrev seen : View
  seen = view at.world cut

  abbrev stamps : ℕ → Stamps
  stamps = view_stamps at.world at.stamps cut

  pub each-seen : (page : ℕ) → IsSeenNewest at page (seen page) (stamps page) ⊎ IsSeenKept at page (seen page) (stamps page)
  each-seen page = go (cut page) refl where
    go : (b : Bool) → cut page ≡ b → IsSeenNewest at page (seen page) (stamps page) ⊎ IsSeenKept at page (seen page) (stamps page)
    go true is = inl (record { page = rw is refl; stamps = rw is refl })
    go false is = inr (record { page = rw is refl; stamps = rw is refl })

  -- Both views reach the cell. What stands there in the newest pages names, in the other view it names too, and it means the same.
  pub record IsSharedCell (relation page cell : ℕ) : Type 0 where
    pub newest : ReachesCell (newest_at at) relation page cell
    pub seen_too : ReachesCell seen relation page cell
    pub names_too : (version : Cell) (back_page back_cell : ℕ) → cell_at (newest_at at) page cell ≡ Some version → NamesBack version back_page back_cell → IsNamingIn seen page cell back_page back_cell
    pub means : (stamps page).meant cell ≡ meant_at at page cell

  -- A cell that stands with one stamp in both.
  pub one-stamp : (relation page cell : ℕ) (old new : Cell) → ReachesCell (newest_at at) relation page cell → ReachesCell seen relation page cell
      → cell_at seen page cell ≡ Some old → cell_at (newest_at at) page cell ≡ Some new → (stamps page).born cell ≡ born_at at page cell → IsSharedCell relation page cell
  one-stamp relation page cell old new reached seen_reached stands now one = go (each-seen page) where
    go : IsSeenNewest at page (seen page) (stamps page) ⊎ IsSeenKept at page (seen page) (stamps page) → IsSharedCell relation page cell
    go (inl shown) = record {
      newest = reached;
      seen_too = seen_reached;
      names_too = λ version back_page back_cell is names. record { version = version; stands = ap (λ (o : Option Page). cell_in o cell) shown.page ∙ is; names = names };
      means = ap (λ (s : Stamps). s.meant cell) shown.stamps;
    }
    go (inr shown) =
        let same = versions page cell old new (ap (λ (o : Option Page). cell_in o cell) (sym shown.page) ∙ stands) now (ap (λ (s : Stamps). s.born cell) (sym shown.stamps) ∙ one) in
        record {
          newest = reached;
          seen_too = seen_reached;
          names_too = λ version back_page back_cell is names. record {
            version = old;
            stands = stands;
            names = names_too old new back_page back_cell same.0.link (subst (λ (v : Cell). NamesBack v back_page back_cell) (same_Some version new (sym is ∙ now)) names);
          };
          means = ap (λ (s : Stamps). s.meant cell) shown.stamps ∙ same.1;
        }

  newest_meant : (relation page cell back_page back_cell : ℕ) (version : Cell) → LinksTo (newest_at at) relation page cell version back_page back_cell → meant_at at page cell ≡ born_at at back_page back_cell
  newest_meant relation page cell back_page back_cell version link =
      ap (λ (s : ℕ → Stamps). (s page).meant cell) (sym (newest-stamps at.world at.stamps))
      ∙ meant (every_draft at.world) (newest-closed at.world) relation page cell back_page back_cell version (subst (λ (v : View). LinksTo v relation page cell version back_page back_cell) (sym (newest-view at.world)) link)
      ∙ ap (λ (s : ℕ → Stamps). (s back_page).born back_cell) (newest-stamps at.world at.stamps)

  -- One link further down.
  pub shared-below : (relation page cell back_page back_cell : ℕ) (version : Cell) → IsSharedCell relation page cell → cell_at (newest_at at) page cell ≡ Some version → NamesBack version back_page back_cell
      → IsSharedCell relation back_page back_cell
  shared-below relation page cell back_page back_cell version shared stands names =
      let there : IsNamingIn seen page cell back_page back_cell = shared.names_too version back_page back_cell stands names in
      let link : LinksTo (newest_at at) relation page cell version back_page back_cell = record { reached = shared.newest; stands = stands; names = names } in
      let seen_link : LinksTo seen relation page cell there.version back_page back_cell = record { reached = shared.seen_too; stands = there.stands; names = there.names } in
      let value : IsBackValue (newest_at at) relation back_page back_cell version.number = (newest-sound at u).back relation page cell back_page back_cell version link in
      let seen_value : IsBackValue seen relation back_page back_cell there.version.number = (u.sound cut closed).back relation page cell back_page back_cell there.version seen_link in
      one-stamp relation back_page back_cell seen_value.back value.back (along page cell back_page back_cell version shared.newest stands names) (along page cell back_page back_cell there.version shared.seen_too there.stands there.names)
      seen_value.stands value.stands
      (sym (meant cut closed relation page cell back_page back_cell there.version seen_link) ∙ shared.means ∙ newest_meant relation page cell back_page back_cell version link)

  pub shared-chain : (relation page cell back_page back_cell : ℕ) → IsSharedCell relation page cell → LeadsTo (newest_at at) page cell back_page back_cell → IsSharedCell relation back_page back_cell
  shared-chain relation page cell _ _ shared (LeadsTo.straight back_page back_cell version stands names) = shared-below relation page cell back_page back_cell version shared stands names
  shared-chain relation page cell _ _ shared (LeadsTo.along between_page between_cell back_page back_cell version leads stands names) =
      shared-below relation between_page between_cell back_page back_cell version (shared-chain relation page cell between_page between_cell shared leads) stands names

  -- The chain of the newest pages is one of the view.
  pub shared-leads : (relation page cell back_page back_cell : ℕ) → IsSharedCell relation page cell → LeadsTo (newest_at at) page cell back_page back_cell → LeadsTo seen page cell back_page back_cell
  shared-leads relation page cell _ _ shared (LeadsTo.straight back_page back_cell version stands names) =
      let there : IsNamingIn seen page cell back_page back_cell = shared.names_too version back_page back_cell stands names in
      LeadsTo.straight back_page back_cell there.version there.stands there.names
  shared-leads relation page cell _ _ shared (LeadsTo.along between_page between_cell back_page back_cell version leads stands names) =
      let between : IsSharedCell relation between_page between_cell = shared-chain relation page cell between_page between_cell shared leads in
      let there : IsNamingIn seen between_page between_cell back_page back_cell = between.names_too version back_page back_cell stands names in
      LeadsTo.along between_page between_cell back_page back_cell there.version (shared-leads relation page cell between_page between_cell shared leads) there.stands there.names
