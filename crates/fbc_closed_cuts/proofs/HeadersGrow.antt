-- In a legal history the newest header has grown out of the one that is kept.
use Rattle.std.proofs.Common.{◌≡◌, ◌∙◌, ℕ, false, [], ◌∷◌, Option, Some, None, refl, sym, arith}
use Rattle.fbc_kinds.specs.declared.edits.Edit.{Edit}
use Rattle.fbc_kinds.specs.declared.edits.Edit.TheVariants as edit
use Rattle.fbc_kinds.specs.declared.pages.Header.{Header}
use Rattle.fbc_kinds.specs.declared.pages.Page.{Page}
use Rattle.fbc_kinds.specs.declared.pages.Page.TheVariants as kind
use Rattle.fbc_kinds.specs.declared.shapes.Shape.{Shape}
use Rattle.fbc_kinds.specs.View.{View, header_in, next_of}
use Rattle.fbc_world.specs.History.{History}
use Rattle.fbc_world.specs.PageCell.{edited, page_for}
use Rattle.fbc_world.specs.World.{World, newest_of, page_after, world_of}
use Rattle.fbc_legal.specs.Coherent.{IsCoherent}
use Rattle.fbc_legal.specs.Guards.{GuardOfEdit}
use Rattle.fbc_legal.specs.Legal.{IsLegal}
use Rattle.fbc_legal.specs.Rows.{IsEditOfRow}
use Rattle.fbc_legal.specs.Scene.{Scene, newest_at, scene_of}
use Rattle.fbc_legal.proofs.HeaderGrowth.{exclusive-own, never_format, newest-own}
use Rattle.fbc_legal.proofs.HeaderRanks.{is_format}
use Rattle.fbc_legal.proofs.Induction.{IsCoherent-legal}
use Rattle.fbc_closed_cuts.specs.Growth.{GrowsInto}
use Rattle.fbc_closed_cuts.proofs.Growing.{IsNoFall, grows-on, grows-self, header-grows}
use Rattle.fbc_closed_cuts.proofs.Lineage.{lineage-acted}

-- What is no header is under no header that grows.
from_none : (before after : Option Page) → header_in before ≡ None → GrowsInto before after
from_none before after none header is = absurd (let both : None ≡ Some header = sym none ∙ is in cc)

pub edit-grows : (shape : Shape) (e : Edit) (before : Option Page) (content : Page) → is_format e ≡ false → IsNoFall before e → edited shape e before ≡ Some content → GrowsInto before (Some content)
edit-grows shape e None content plain more is = from_none None (Some content) refl
edit-grows shape e (Some (kind.Header header)) content plain more is = header-grows shape header e content plain more is
edit-grows shape e (Some (kind.Inventory i)) content plain more is = from_none (Some (kind.Inventory i)) (Some content) refl
edit-grows shape e (Some (kind.Tip t)) content plain more is = from_none (Some (kind.Tip t)) (Some content) refl
edit-grows shape e (Some (kind.Pointer p)) content plain more is = from_none (Some (kind.Pointer p)) (Some content) refl
edit-grows shape e (Some (kind.Data d)) content plain more is = from_none (Some (kind.Data d)) (Some content) refl
edit-grows shape e (Some kind.Blank) content plain more is = from_none (Some kind.Blank) (Some content) refl

module _ (at : Scene) (h : IsCoherent at.world) (owner : ℕ) where
  abbrev w : World
  w = at.world

  pub no_fall : (e : Edit) → IsEditOfRow at owner 0 e → IsNoFall (newest_of w 0) e
  no_fall (edit.SetNext next) row = λ header is. grind (arith, row.2, row.3, next_is header is) where
    next_is : (header : Header) → header_in (newest_of w 0) ≡ Some header → next_of (newest_at at) ≡ header.next
    next_is header is = rw is refl
  no_fall _ row = tt

  pub edits-grow : (e : Edit) → GuardOfEdit at owner 0 e → (content : Page) → page_after at.shape w owner 0 e ≡ Some content → GrowsInto (w.kept 0) (newest_of w 0) → GrowsInto (w.kept 0) (Some content)
  edits-grow e g content is grown =
      let own : newest_of w 0 ≡ page_for owner (w.kept 0) (w.draft 0) = newest-own owner (w.kept 0) (w.draft 0) (exclusive-own w h owner 0 g.exclusive) in
      let more : IsNoFall (newest_of w 0) e = no_fall e g.row in
      grows-on (w.kept 0) (newest_of w 0) (Some content) grown (edit-grows at.shape e (newest_of w 0) content (never_format at owner e g.row) more (rw own is))

pub headers-grow : (shape : Shape) (file : View) (history : History) → IsLegal shape file history → GrowsInto ((world_of shape file history).kept 0) (newest_of (world_of shape file history) 0)
headers-grow shape file [] legal = grows-self (file 0)
headers-grow shape file (moment ∷ before) legal =
    lineage-acted GrowsInto grows-self (scene_of shape file before) moment.event.actor 0 moment.event.act moment.landed legal.1.guard
    (edits-grow (scene_of shape file before) (IsCoherent-legal shape file before legal.0) moment.event.actor)
    (headers-grow shape file before legal.0)
