-- Each open transaction is its living owner's, and has begun: after every edit.
use Rattle.std.proofs.Common.{◌≡◌, ◌≢◌, ◌<◌, ◌==◌, ◌⊎◌, ℕ, Bool, true, false, Some, inl, inr, refl, sym, subst, arith}
use Rattle.std.proofs.lemmas.Bool.{cases_eq}
use Rattle.std.proofs.lemmas.Bool.Decides.{nat_tests}
use Rattle.fbc_kinds.specs.declared.edits.Edit.{Edit}
use Rattle.fbc_kinds.specs.declared.pages.Page.{Page}
use Rattle.fbc_kinds.specs.declared.snapshots.Transaction.{Transaction}
use Rattle.fbc_kinds.specs.View.{next_of}
use Rattle.fbc_page_edits.specs.Allowed.{Fits}
use Rattle.fbc_world.specs.Holdings.{is_draft_of}
use Rattle.fbc_levels.specs.Resources.{page_resource}
use Rattle.fbc_world.specs.World.{World, newest_of, with_edit}
use Rattle.fbc_legal.specs.Coherent.{IsCoherent}
use Rattle.fbc_levels.specs.Levels.{is_page_level}
use Rattle.fbc_legal.specs.Guards.{GuardOfEdit}
use Rattle.fbc_legal.specs.Rows.{IsEditOfRow, IsNext}
use Rattle.fbc_legal.specs.Scene.{Scene}
use Rattle.fbc_legal.proofs.Exclusion.{excluded, same_number}
use Rattle.fbc_legal.proofs.HeaderGrowth.{exclusive-own, never_format}
use Rattle.fbc_closed_cuts.proofs.MarksKept.{own_of}
use Rattle.fbc_numbers.specs.Numbers.{IsUnraised, OpenNumbersStand}
use Rattle.fbc_numbers.proofs.CutFacts.{clash}
use Rattle.fbc_numbers.proofs.NamedTips.{next_in}
use Rattle.fbc_numbers.proofs.NextNumbers.{SetsNext, next-after}
use Rattle.fbc_numbers.proofs.Opens.{open-edited}
use Rattle.fbc_numbers.proofs.OpensStand.{HasBegun, carried}

module _ (at : Scene) (h : IsCoherent at.world) (owner : ℕ) (e : Edit) (content : Page) where
  abbrev w : World
  w = at.world

  abbrev edited : ℕ → World
  edited page = with_edit w owner page e (Some content)

  module _ (other : ℕ) (u : Transaction) (is_open : w.transaction other ≡ Some u) where
    -- An edit of the header.
    module _ (g : GuardOfEdit at owner 0 e) (fits : Fits at.shape e (newest_of w 0) content) where
      no_other : other ≢ owner → is_draft_of other (w.draft 0) ≡ true → ⊥
      no_other apart its = apart (same_number other owner (own_of owner other (w.draft 0) (exclusive-own w h owner 0 g.exclusive) its))

      no_next : other ≢ owner → IsUnraised w other u.number → ⊥
      no_next apart next = clash (is_page_level (w.granted other (page_resource 0))) (rw next.exclusive refl) (excluded w h owner other (page_resource 0) (λ same. apart (sym same)) g.exclusive)

      draft-kept : is_draft_of other (w.draft 0) ≡ true → is_draft_of other ((edited 0).draft 0) ≡ true
      draft-kept its = elim (cases_eq other owner) [
        | inl same ↦ grind (arith, nat_tests, same)
        | inr apart ↦ absurd (no_other apart its)
      ]

      -- The next number is the same.
      same-next : next_in (Some content) ≡ next_in (newest_of w 0) → HasBegun w other u.number → HasBegun (edited 0) other u.number
      same-next same begun = carried w (edited 0) other u.number (record { newest = same; kept = refl; draft = draft-kept; pinned = λ n. n.pinned; exclusive = λ n. n.exclusive }) begun

      -- The next number is raised.
      module _ (sets : SetsNext e content) (row : IsNext at owner sets.next) where
        now : next_of (newest_of (edited 0)) ≡ sets.next
        now = sets.now

        in_file : other ≢ owner ⊎ (other ≡ owner) → (u.number < next_of w.kept) ⊎ (is_draft_of other (w.draft 0) ≡ true) → (u.number < next_of w.kept) ⊎ (is_draft_of other ((edited 0).draft 0) ≡ true)
        in_file (inl apart) (inl below) = inl below
        in_file (inl apart) (inr its) = absurd (no_other apart its)
        in_file (inr same) found = inr (grind (arith, nat_tests, same))

        raised : HasBegun w other u.number → HasBegun (edited 0) other u.number
        raised (inl was) = elim (cases_eq other owner) [
          | inl same ↦ inl (record { newest = rw now (grind (arith, was.newest, row.2, row.3)); in_file = in_file (inr same) was.in_file })
          | inr apart ↦ inl (record { newest = rw now (grind (arith, was.newest, row.2, row.3)); in_file = in_file (inl apart) was.in_file })
        ]
        raised (inr next) = elim (cases_eq other owner) [
          | inl same ↦ inl (record { newest = rw now (grind (arith, next.next, row.2, row.3)); in_file = inr (grind (arith, nat_tests, same)) })
          | inr apart ↦ absurd (no_next apart next)
        ]

      begun-header : HasBegun w other u.number → HasBegun (edited 0) other u.number
      begun-header begun = elim (next-after at.shape e (newest_of w 0) content fits (never_format at owner e g.row)) [
        | inl same ↦ same-next same begun
        | inr sets ↦ raised sets (subst (IsEditOfRow at owner 0) sets.is g.row) begun
      ]

    -- An edit of another page.
    begun-elsewhere : (page : ℕ) → 0 == page ≡ false → HasBegun w other u.number → HasBegun (edited page) other u.number
    begun-elsewhere page apart begun =
        carried w (edited page) other u.number (record { newest = rw apart refl; kept = refl; draft = λ d. rw apart d; pinned = λ n. n.pinned; exclusive = λ n. n.exclusive }) begun

    begun-edited : (page : ℕ) → GuardOfEdit at owner page e → Fits at.shape e (newest_of w page) content → HasBegun w other u.number → HasBegun (edited page) other u.number
    begun-edited page g fits begun = go (0 == page) refl where
      at_header : 0 ≡ page → HasBegun (edited page) other u.number
      at_header same =
          subst (λ p. GuardOfEdit at owner p e → Fits at.shape e (newest_of w p) content → HasBegun (edited p) other u.number) same
          (λ guard fit. begun-header guard fit begun) g fits

      go : (b : Bool) → 0 == page ≡ b → HasBegun (edited page) other u.number
      go true same = at_header (same_number 0 page same)
      go false apart = begun-elsewhere page apart begun

  pub stand-edited : OpenNumbersStand w → (page : ℕ) → GuardOfEdit at owner page e → Fits at.shape e (newest_of w page) content → OpenNumbersStand (edited page)
  stand-edited stand page g fits other u is =
      let before = open-edited w owner page e content g.unmarked other u is in
      let was = stand other u before in
      record { own = was.own; opened = was.opened; alive = was.alive; begun = begun-edited other u before page g fits was.begun }
