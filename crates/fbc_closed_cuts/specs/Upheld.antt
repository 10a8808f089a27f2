-- What every legal history upholds.
use Rattle.std.specs.Prelude.{◌≡◌, ℕ, [], ◌∷◌, Option, Some, None, true, is_some}
use Rattle.fbc_kinds.specs.declared.shapes.Shape.{Shape}
use Rattle.fbc_kinds.specs.Sound.{IsSound}
use Rattle.fbc_kinds.specs.View.{View}
use Rattle.fbc_page_edits.specs.Edited.{IsOfShape}
use Rattle.fbc_world.specs.History.{History}
use Rattle.fbc_world.specs.Holdings.{is_draft_of}
use Rattle.fbc_world.specs.World.{World, newest_of}
use Rattle.fbc_legal.specs.Coherent.{IsCoherent}
use Rattle.fbc_legal.specs.Scene.{Scene, scene_of}
use Rattle.fbc_closed_cuts.specs.Cut.{Cut, IsClosedCut, view}
use Rattle.fbc_closed_cuts.specs.Growth.{GrowsInto}

-- The page that an owner has marked its commit on is a draft of its own, and its transaction is open.
abbrev pub IsMarkDrafted : World → ℕ → Option ℕ → Type 0
IsMarkDrafted w owner None = Unit {0}
IsMarkDrafted w owner (Some page) = (is_draft_of owner (w.draft page) ≡ true) × (is_some (w.transaction owner) ≡ true)

abbrev pub MarksAreDrafted : World → Type 0
MarksAreDrafted w = (owner : ℕ) → IsMarkDrafted w owner (w.marked owner)

pub record IsUpheld (at : Scene) : Type 0 where
  -- Locks, copies, drafts and pairs are coherent.
  pub coherent : IsCoherent at.world
  -- The newest header has grown out of the one in the file.
  pub headers : GrowsInto (at.world.kept 0) (newest_of at.world 0)
  -- Each owner's commit is marked on a draft of its own.
  pub marks : MarksAreDrafted at.world
  -- What the file holds with the drafts of a closed cut are pages of a file of its shape.
  pub of_shape : (cut : Cut) → IsClosedCut at.world cut → IsOfShape at.shape (view at.world cut)
  -- They are sound.
  pub sound : (cut : Cut) → IsClosedCut at.world cut → IsSound (view at.world cut)

-- A history is upheld, and so was each part of it that came before.
abbrev pub IsUpheldThroughout : Shape → View → History → Type 0
IsUpheldThroughout shape file [] = IsUpheld (scene_of shape file [])
IsUpheldThroughout shape file (moment ∷ before) = IsUpheld (scene_of shape file (moment ∷ before)) × IsUpheldThroughout shape file before
