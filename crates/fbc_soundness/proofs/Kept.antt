-- A view is kept where it reads as it did.
use Rattle.std.proofs.Common.{◌≡◌, ℕ, arith}
use Rattle.fbc_kinds.specs.declared.pages.Page.{Page}
use Rattle.fbc_kinds.specs.Reach.{ReachesPage}
use Rattle.fbc_kinds.specs.Sound.{IsSound}
use Rattle.fbc_kinds.specs.View.{View, next_of}
use Rattle.fbc_soundness.specs.Seen.{IsKept}
use Rattle.fbc_page_edits.specs.Alike.{ReadAlike}
use Rattle.fbc_page_edits.specs.Edited.{with_page}
use Rattle.fbc_page_edits.proofs.OffReach.{off_reach_alike, off_reach_next, off_reach_sound}

pub kept_alike : (before after : View) → IsSound after → ReadAlike before after → next_of after ≡ next_of before → IsKept before after
kept_alike before after sound alike next = record { sound = sound; alike = alike; next = grind (arith, next) }

-- A page that is not reached may become any.
pub kept_off : (view : View) (number : ℕ) (content : Page) → IsSound view → ¬ ReachesPage view number → IsKept view (with_page view number content)
kept_off view number content sound off =
    kept_alike view (with_page view number content) (off_reach_sound view number content off sound) (off_reach_alike view number content off sound) (off_reach_next view number content off)
