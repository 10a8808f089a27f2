-- Every act but an edit upholds what is upheld.
use Rattle.std.proofs.Common.{◌≡◌, ◌∷◌, false, sym, subst}
use Rattle.std.proofs.Math.Path.{fun_ext}
use Rattle.fbc_kinds.specs.declared.shapes.Shape.{Shape}
use Rattle.fbc_kinds.specs.Sound.{IsSound}
use Rattle.fbc_kinds.specs.View.{View}
use Rattle.fbc_page_edits.specs.Edited.{IsOfShape}
use Rattle.fbc_world.specs.History.{History, Moment}
use Rattle.fbc_world.specs.World.{World, world_of}
use Rattle.fbc_legal.specs.Legal.{IsLegal}
use Rattle.fbc_legal.specs.Scene.{scene_of}
use Rattle.fbc_legal.specs.Stamps.{stamps_of}
use Rattle.fbc_legal.proofs.Induction.{IsCoherent-legal}
use Rattle.fbc_closed_cuts.specs.Cut.{Cut, IsClosedCut, view}
use Rattle.fbc_closed_cuts.specs.Upheld.{IsUpheld}
use Rattle.fbc_closed_cuts.specs.Views.{IsSameView, cut_before, is_edit}
use Rattle.fbc_closed_cuts.proofs.CutLaws.{no-new-views}
use Rattle.fbc_closed_cuts.proofs.HeadersGrow.{headers-grow}
use Rattle.fbc_closed_cuts.proofs.MarksKept.{marks-acted}

module _ (shape : Shape) (file : View) (before : History) (moment : Moment) (legal : IsLegal shape file (moment ∷ before)) (u : IsUpheld (scene_of shape file before)) (plain : is_edit moment.event.act ≡ false) where
  abbrev w : World
  w = world_of shape file before

  abbrev after : World
  after = world_of shape file (moment ∷ before)

  module _ (cut : Cut) (closed : IsClosedCut after cut) where
    abbrev earlier : Cut
    earlier = cut_before moment.event.act moment.landed cut

    same : IsSameView w (stamps_of shape file before) after (stamps_of shape file (moment ∷ before)) cut earlier
    same = no-new-views shape file before moment cut legal plain closed

    one_view : view w earlier ≡ view after cut
    one_view = sym (fun_ext (λ page. same.pages page))

    of_shape : IsOfShape shape (view after cut)
    of_shape = subst (IsOfShape shape) one_view (u.of_shape earlier same.closed)

    sound : IsSound (view after cut)
    sound = subst IsSound one_view (u.sound earlier same.closed)

  pub acts-uphold : IsUpheld (scene_of shape file (moment ∷ before))
  acts-uphold = record {
    coherent = IsCoherent-legal shape file (moment ∷ before) legal;
    headers = headers-grow shape file (moment ∷ before) legal;
    marks = marks-acted (scene_of shape file before) u.coherent u.marks moment.event.actor moment.event.act moment.landed legal.1.guard;
    of_shape = of_shape;
    sound = sound;
  }
