-- An edit that changes a header changes page 0, or a page that is not reached.
use Rattle.std.proofs.Common.{◌≡◌, ℕ, Some, inl, inr, ap, subst₂, ◌∙◌}
use Rattle.fbc_kinds.specs.declared.pages.Header.{Header}
use Rattle.fbc_kinds.specs.declared.pages.Page.{Page}
use Rattle.fbc_kinds.specs.declared.pages.Page.TheVariants as kind
use Rattle.fbc_kinds.specs.Reach.{ReachesPage}
use Rattle.fbc_kinds.specs.Sound.{IsSound}
use Rattle.fbc_kinds.specs.View.{View}
use Rattle.fbc_page_edits.specs.Edited.{with_page}
use Rattle.fbc_page_edits.proofs.Fitted.{ChangesHeader}
use Rattle.fbc_page_edits.proofs.HeaderChanged.{header_or_unreached}

pub header_cases : (P : View → Type 0) (view : View) (number : ℕ) (content : Page) (before after : Header) → IsSound view → ChangesHeader (view number) content before after
    → (view 0 ≡ Some (kind.Header before) → P (with_page view 0 (kind.Header after)))
    → (¬ ReachesPage view number → P (with_page view number content))
    → P (with_page view number content)
header_cases P view number content before after sound changes at_header off_reach = elim (header_or_unreached view number before sound changes.stands) [
  | inl here ↦
      let Q : ℕ → Page → Type 0 = λ n page. P (with_page view n page) in
      subst₂ Q here changes.made (at_header (ap view here ∙ changes.stands))
  | inr off ↦ off_reach off
]
