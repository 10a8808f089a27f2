-- What stamps tell of cells, after each event.
use Rattle.std.proofs.Common.{◌∷◌}
use Rattle.fbc_kinds.specs.declared.shapes.Shape.{Shape}
use Rattle.fbc_kinds.specs.View.{View}
use Rattle.fbc_legal.specs.Legal.{IsLegal}
use Rattle.fbc_legal.specs.Scene.{scene_of}
use Rattle.fbc_world.specs.History.{History, Moment}
use Rattle.fbc_origins.specs.Origins.{IsOriginal, UnlinkedAreGone}
use Rattle.fbc_origins.specs.Owed.{IsInOrder, MakeNoLinks}
use Rattle.fbc_origins.proofs.EditsKept.{edits-stay}
use Rattle.fbc_origins.proofs.LinksKept.{links_kept-next}
use Rattle.fbc_origins.proofs.MeantNext.{links-next}
use Rattle.fbc_origins.proofs.MovesBack.{backs-next}
use Rattle.fbc_origins.proofs.MovesUnreached.{unreached-next}
use Rattle.fbc_origins.proofs.PastStamps.{stamps-past}
use Rattle.fbc_origins.proofs.VersionsKept.{next-versions}
use Rattle.fbc_origins.specs.Rows.{RowsAreNamed}
use Rattle.fbc_origins.proofs.GoneStep.{gone-next}
use Rattle.fbc_origins.proofs.NamedEverywhere.{named-everywhere}

module _ (shape : Shape) (file : View) (before : History) (order : IsInOrder (scene_of shape file before)) (rows : RowsAreNamed (scene_of shape file before)) (no_links : MakeNoLinks (scene_of shape file before)) (moment : Moment)
    (legal : IsLegal shape file (moment ∷ before)) where
  pub gone-after : UnlinkedAreGone (scene_of shape file (moment ∷ before))
  gone-after = gone-next shape file before order (named-everywhere (scene_of shape file before) order.upheld rows) no_links moment legal

  pub origins-next : IsOriginal (scene_of shape file (moment ∷ before))
  origins-next = record {
    past = stamps-past shape file (moment ∷ before);
    versions = next-versions shape file before moment legal order.upheld order.original.versions;
    edits = edits-stay shape file (moment ∷ before) legal;
    meant = links-next shape file before order no_links moment legal;
    moves = unreached-next shape file before order no_links moment legal;
    backs = backs-next shape file before order moment legal;
    links = links_kept-next shape file before order moment legal;
    gone = gone-after;
  }
