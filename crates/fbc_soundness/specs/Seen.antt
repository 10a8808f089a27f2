-- What an edit leaves of a view that sees it.
use Rattle.std.specs.Prelude.{◌≤◌, ℕ}
use Rattle.fbc_kinds.specs.declared.edits.Edit.{Edit}
use Rattle.fbc_kinds.specs.declared.pages.Page.{Page}
use Rattle.fbc_kinds.specs.declared.shapes.Shape.{Shape}
use Rattle.fbc_kinds.specs.Sound.{IsSound}
use Rattle.fbc_kinds.specs.View.{View, next_of}
use Rattle.fbc_page_edits.specs.Alike.{ReadAlike}
use Rattle.fbc_page_edits.specs.Edited.{with_page}
use Rattle.fbc_world.specs.History.{History}
use Rattle.fbc_legal.specs.Stamps.{Stamps}
use Rattle.fbc_closed_cuts.specs.Owed.{IsSeenEdit}

-- The later view is sound, and reads as the earlier one. Its next number is no less.
pub record IsKept (before after : View) : Type 0 where
  pub sound : IsSound after
  pub alike : ReadAlike before after
  pub next : next_of before ≤ next_of after

-- After every history each view that sees the edit is kept.
abbrev pub KeepsViews : Shape → View → Edit → Type 0
KeepsViews shape file edit =
    (past : History) (owner page : ℕ) (content : Page) (seen : View) (stamps : ℕ → Stamps)
    → IsSeenEdit shape file past owner page edit content seen stamps → IsKept seen (with_page seen page content)
