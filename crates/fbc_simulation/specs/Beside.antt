-- The one-thread machine beside a history, and what of it a cut leaves in the file.
use Rattle.std.specs.Prelude.{◌≡◌, ℕ, Bool, true, false, List, Contains, Some}
use Rattle.std.specs.Option.{option_map_or}
use Rattle.fbc_kinds.specs.declared.shapes.Shape.{Shape}
use Rattle.fbc_kinds.specs.declared.snapshots.Transaction.{Transaction}
use Rattle.fbc_kinds.specs.Machine.{Machine}
use Rattle.fbc_kinds.specs.Meaning.{meaning_of}
use Rattle.fbc_kinds.specs.View.{View}
use Rattle.fbc_runs.specs.Runs.{machine_after}
use Rattle.fbc_world.specs.Commands.{commands_of}
use Rattle.fbc_world.specs.History.{History}
use Rattle.fbc_world.specs.Holdings.{is_draft_of}
use Rattle.fbc_world.specs.World.{World}
use Rattle.fbc_closed_cuts.specs.Cut.{Cut}

-- The machine after the commands of a history, from the meaning of the file on.
abbrev pub machine_of : Shape → View → History → Machine
machine_of shape file history = machine_after (meaning_of file) (commands_of shape file history)

-- Whose commit is in the cut: the owners whose marks stand in drafts of it.
abbrev pub commits_in : World → Cut → ℕ → Bool
commits_in w cut owner = option_map_or cut (w.marked owner) false

-- These transactions are open, and the cut has all drafts of their owners.
pub record AreOpenIn (w : World) (cut : Cut) (living : List Transaction) : Type 0 where
  pub each : (t : Transaction) → Contains living t → w.transaction t.owner ≡ Some t
  pub drafts : (t : Transaction) (page : ℕ) → Contains living t → is_draft_of t.owner (w.draft page) ≡ true → cut page ≡ true
