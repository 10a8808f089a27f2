-- A version in place of the transaction's own leaves the rest of its row's chain.
use Rattle.std.proofs.Common.{◌≡◌, ◌∙◌, ◌∷◌, ◌/◌, ℕ, true, ap}
use Rattle.fbc_kinds.specs.declared.pages.Cell.{Cell}
use Rattle.fbc_kinds.specs.Chain.{below, cells_of, chain, version_of, versions_from}
use Rattle.fbc_kinds.specs.Reach.{ReachesCell, top}
use Rattle.fbc_kinds.specs.Sound.{IsSound}
use Rattle.fbc_kinds.specs.View.{View, is_top}
use Rattle.fbc_version_edits.specs.Forms.{IsOwnAgain}
use Rattle.fbc_page_edits.specs.Facing.{IsRowAt}
use Rattle.fbc_version_edits.specs.Differences.{HasOtherTop}
use Rattle.fbc_version_edits.proofs.Frames.{below_frame, chain_of_top, row_after_stands, row_before_stands, same_below}
use Rattle.fbc_version_edits.proofs.OneCell.{IsOneCell}
use Rattle.fbc_version_edits.proofs.NoLinkForms.{own_unlinked}

pub own_chain : {view after : View} {page cell : ℕ} {new : Cell} (sound : IsSound view) (own : IsOwnAgain view page cell new) → IsOneCell view after page cell own.old new
    → (relation row : ℕ) → IsRowAt view relation row page cell → HasOtherTop (version_of own.old) (version_of new) (chain view relation row) (chain after relation row)
own_chain {view = view} {after = after} {page = page} {cell = cell} {new = new} sound own one relation row at =
    let is : is_top own.old.flag ≡ true = ap is_top own.over in
    let reached : ReachesCell view relation page cell = top (row / cells_of view relation) page cell own.old at.named own.stands is in
    record {
      older = versions_from view own.old.number (below view own.old);
      was = chain_of_top view relation row own.old (row_before_stands one relation row at) is;
      is =
          chain_of_top after relation row new (row_after_stands one relation row at) own.top
          ∙ ap (λ rest. version_of new ∷ rest)
          (ap (λ n. versions_from after n (below after new)) own.same_number
          ∙ ap (versions_from after own.old.number) (same_below after own.old new own.link)
          ∙ below_frame one (own_unlinked sound page cell new own) own.old.number relation page cell own.old reached own.stands);
    }
