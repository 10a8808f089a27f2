-- The page of a cell that is edited: a data page that the newest pages reach.
use Rattle.std.proofs.Common.{◌≡◌, ◌∙◌, ℕ, Option, Some, None, is_some, if◌then◌else◌, refl, sym, ap, subst}
use Rattle.std.specs.Prelude.{◌/◌, ◌%◌, option_and_then}
use Rattle.std.proofs.Math.Path.{fun_ext}
use Rattle.fbc_kinds.specs.declared.edits.Edit.TheVariants.{PutCell}
use Rattle.fbc_kinds.specs.declared.pages.Cell.{Cell}
use Rattle.fbc_kinds.specs.declared.pages.Data.{Data}
use Rattle.fbc_kinds.specs.declared.pages.Page.{Page}
use Rattle.fbc_kinds.specs.declared.pages.Page.TheVariants as kind
use Rattle.fbc_kinds.specs.declared.shapes.Shape.{Shape}
use Rattle.fbc_kinds.specs.Limits.{slots}
use Rattle.fbc_kinds.specs.Reach.{DataRole, Reaches}
use Rattle.fbc_kinds.specs.Sound.{IsSound}
use Rattle.fbc_kinds.specs.View.{View, named_in, pointer_of}
use Rattle.fbc_page_edits.specs.Edited.{IsOfShape}
use Rattle.fbc_page_edits.proofs.HeaderStands.{size_is}
use Rattle.fbc_world.specs.declared.drafts.Draft.{Draft}
use Rattle.fbc_world.specs.PageCell.{newest_in}
use Rattle.fbc_world.specs.World.{World, newest_of}
use Rattle.fbc_legal.specs.Guards.{GuardOfEdit}
use Rattle.fbc_legal.specs.Leans.{PutLeans, PutLeansOn}
use Rattle.fbc_legal.specs.Naming.{IsNamedData, IsNamedFor}
use Rattle.fbc_legal.specs.Scene.{Scene, newest_at}
use Rattle.fbc_closed_cuts.specs.Cut.{Cut, IsClosedCut, view}
use Rattle.fbc_closed_cuts.specs.Upheld.{IsUpheld}

-- The view of all drafts is the newest one.
abbrev pub every_draft : World → Cut
every_draft w page = is_some (w.draft page)

pub newest-closed : (w : World) → IsClosedCut w (every_draft w)
newest-closed w = record { drafted = λ page is. is; closed = λ high low path there is. there }

pub newest-view : (w : World) → view w (every_draft w) ≡ newest_of w
newest-view w = fun_ext (λ page. one (w.kept page) (w.draft page)) where
  one : (kept : Option Page) (draft : Option Draft) → (if is_some draft then newest_in kept draft else kept) ≡ newest_in kept draft
  one kept None = refl
  one kept (Some draft) = refl

module _ (at : Scene) (u : IsUpheld at) where
  pub newest-sound : IsSound (newest_at at)
  newest-sound = subst IsSound (newest-view at.world) (u.sound (every_draft at.world) (newest-closed at.world))

  pub newest-shape : IsOfShape at.shape (newest_at at)
  newest-shape = subst (IsOfShape at.shape) (newest-view at.world) (u.of_shape (every_draft at.world) (newest-closed at.world))

-- A page that a pointer page names, as the shape counts, is reached.
module _ (shape : Shape) (seen : View) (of_shape : IsOfShape shape seen) (sound : IsSound seen) where
  abbrev data_by : ℕ → ℕ → ℕ → Option ℕ
  data_by size relation sequence = option_and_then (λ (pointer : ℕ). named_in (seen pointer) (sequence % slots size)) (pointer_of seen relation (sequence / slots size))

  pub named-reached : (relation sequence pointer page : ℕ) → pointer_of seen relation (sequence / slots shape.size) ≡ Some pointer → named_in (seen pointer) (sequence % slots shape.size) ≡ Some page
      → Reaches seen (DataRole relation sequence) page
  named-reached relation sequence pointer page pointed named =
      subst (λ size. data_by size relation sequence ≡ Some page) (sym (size_is shape seen of_shape sound))
      (ap (option_and_then (λ (p : ℕ). named_in (seen p) (sequence % slots shape.size))) pointed ∙ named)

-- A version is put into a data page, which is named, and what that leans on is shown.
pub record IsPutPage (at : Scene) (owner page cell : ℕ) (content : Cell) : Type 0 where
  pub data_page : Data
  pub stands : newest_at at page ≡ Some (kind.Data data_page)
  pub named : IsNamedData at owner page data_page.relation data_page.sequence
  pub leans : PutLeans at owner page data_page.relation cell content

module _ (at : Scene) (owner page cell : ℕ) (content : Cell) (g : GuardOfEdit at owner page (PutCell cell content)) where
  pub put-page : IsPutPage at owner page cell content
  put-page = go (newest_at at page) refl g.leans g.named where
    go : (found : Option Page) → newest_at at page ≡ found → PutLeansOn at owner page cell content found → IsNamedFor at owner page found → IsPutPage at owner page cell content
    go (Some (kind.Data d)) is leans named = record { data_page = d; stands = is; named = named; leans = leans }
    go None is leans named = absurd leans
    go (Some _) is leans named = absurd leans

  module _ (u : IsUpheld at) where
    pub put-reached : Reaches (newest_at at) (DataRole put-page.data_page.relation put-page.data_page.sequence) page
    put-reached =
        let p : IsPutPage at owner page cell content = put-page in
        named-reached at.shape (newest_at at) (newest-shape at u) (newest-sound at u) p.data_page.relation p.data_page.sequence p.named.pointer page p.named.pointed p.named.named
