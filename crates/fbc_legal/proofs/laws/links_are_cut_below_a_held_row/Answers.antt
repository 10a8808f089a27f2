use Rattle.std.proofs.Common.{◌≡◌, ◌∙◌, ℕ, true, Option, Some, None, refl, sym, subst}
use Rattle.std.proofs.Math.Path.{fun_ext}
use Rattle.std.proofs.lemmas.Option.{same_Some}
use Rattle.fbc_kinds.specs.declared.pages.Cell.{Cell}
use Rattle.fbc_kinds.specs.declared.pages.Page.{Page}
use Rattle.fbc_kinds.specs.declared.pages.Page.TheVariants as kind
use Rattle.fbc_kinds.specs.View.{View, cell_at, is_back}
use Rattle.fbc_levels.specs.Resources.{page_resource}
use Rattle.fbc_world.specs.PageCell.{newest}
use Rattle.fbc_world.specs.World.{newest_of, world_of}
use Rattle.fbc_world.proofs.WorldLaws.{IsReplayed-world, newest-world}
use Rattle.fbc_legal.specs.Leans.{CutLeans, LeadsTo, MayCut, PutLeansOn}
use Rattle.fbc_legal.specs.Scene.{Scene, newest_at, scene_of}
use Rattle.fbc_legal.specs.Stamps.{takes_link}
use Rattle.fbc_legal.proofs.laws.links_are_cut_below_a_held_row.Goals as goal

module _ (at : Scene) (owner page cell : ℕ) (content old : Cell) (there : cell_at (newest_at at) page cell ≡ Some old)
    (value : is_back old.flag ≡ true) (taken : takes_link old content ≡ true) where
  by_cut : (found : Option Cell) → found ≡ Some old → MayCut at owner page cell content found → CutLeans at owner page cell
  by_cut None is leans = absurd leans
  by_cut (Some other) is leans = leans (rw (same_Some other old is, value, taken) refl)

  in_page : (found : Option Page) → PutLeansOn at owner page cell content found → CutLeans at owner page cell
  in_page (Some (kind.Data d)) leans = by_cut (cell_at (newest_at at) page cell) there leans.cut
  in_page _ leans = absurd leans

pub returns : goal.returns
returns c = λ shape file before owner page cell old content landed legal there value taken.
    let at : Scene = scene_of shape file before in
    let same : newest_of (world_of shape file before) ≡ newest shape file before = fun_ext (λ p. newest-world shape file before p) in
    let here : cell_at (newest_of (world_of shape file before)) page cell ≡ Some old = subst (λ (v : View). cell_at v page cell ≡ Some old) (sym same) there in
    let leans : CutLeans at owner page cell = in_page at owner page cell content old here value taken (newest_at at page) legal.1.guard.leans in
    record {
      row_page = leans.page;
      row_cell = leans.place;
      top = leans.top;
      stands = subst (λ (v : View). cell_at v leans.page leans.place ≡ Some leans.top) same leans.stands;
      is_first = leans.is_first;
      leads = subst (λ (v : View). LeadsTo v leans.page leans.place page cell) same leans.leads;
      held = sym ((IsReplayed-world shape file before).granted_is owner (page_resource leans.page)) ∙ leans.exclusive;
    }
