-- The views of no draft and of all drafts, and what is committed in them.
use Rattle.std.proofs.Common.{◌≡◌, ◌&&◌, ℕ, Bool, true, false, if◌then◌else◌, Option, Some, None, is_some, refl, subst}
use Rattle.std.proofs.Math.Path.{fun_ext}
use Rattle.std.proofs.lemmas.Bool.{false_from_ne_true}
use Rattle.fbc_kinds.specs.declared.pages.Page.{Page}
use Rattle.fbc_kinds.specs.View.{View}
use Rattle.fbc_world.specs.declared.drafts.Draft.{Draft}
use Rattle.fbc_world.specs.PageCell.{newest_in}
use Rattle.fbc_world.specs.World.{World, newest_of}
use Rattle.fbc_closed_cuts.specs.Cut.{Cut, IsClosedCut, view}
use Rattle.fbc_closed_cuts.specs.Views.{drafted_in}
use Rattle.fbc_numbers.specs.Numbers.{CommitsGrow, is_committed_in}

abbrev pub no_draft : Cut
no_draft page = false

abbrev pub all_drafts : World → Cut
all_drafts w page = is_some (w.draft page)

pub clash : (b : Bool) → b ≡ true → b ≡ false → ⊥
clash true is isnt = cc
clash false is isnt = cc

module _ (w : World) where
  pub none-closed : IsClosedCut w no_draft
  none-closed = record { drafted = λ page is. absurd cc; closed = λ high low path there is. absurd cc }

  pub all-closed : IsClosedCut w (all_drafts w)
  all-closed = record { drafted = λ page is. is; closed = λ high low path there is. there }

  all_page : (kept : Option Page) (d : Option Draft) → (if is_some d then newest_in kept d else kept) ≡ newest_in kept d
  all_page kept None = refl
  all_page kept (Some d) = refl

  pub all-view : view w (all_drafts w) ≡ newest_of w
  all-view = fun_ext (λ page. all_page (w.kept page) (w.draft page))

  -- A cut that has all drafts.
  wide_page : (kept : Option Page) (d : Option Draft) (b : Bool) → (is_some d ≡ true → b ≡ true) → (if b && is_some d then newest_in kept d else kept) ≡ newest_in kept d
  wide_page kept None true has = refl
  wide_page kept None false has = refl
  wide_page kept (Some d) true has = refl
  wide_page kept (Some d) false has = absurd (let is : false ≡ true = has refl in cc)

  pub wide-view : (cut : Cut) → ((page : ℕ) → is_some (w.draft page) ≡ true → cut page ≡ true) → view w (drafted_in w cut) ≡ newest_of w
  wide-view cut has = fun_ext (λ page. wide_page (w.kept page) (w.draft page) (cut page) (has page))

  module _ (grow : CommitsGrow w) (number : ℕ) where
    pub committed-newest : (cut : Cut) → IsClosedCut w cut → is_committed_in (view w cut) number ≡ true → is_committed_in (newest_of w) number ≡ true
    committed-newest cut closed is = subst (λ (v : View). is_committed_in v number ≡ true) all-view (grow cut (all_drafts w) number closed all-closed closed.drafted is)

    pub kept-committed : (cut : Cut) → IsClosedCut w cut → is_committed_in w.kept number ≡ true → is_committed_in (view w cut) number ≡ true
    kept-committed cut closed is = grow no_draft cut number none-closed closed (λ page never. absurd cc) is

    -- What is not committed in the newest pages is so in no view.
    pub never-committed : is_committed_in (newest_of w) number ≡ false → (cut : Cut) → IsClosedCut w cut → is_committed_in (view w cut) number ≡ false
    never-committed none cut closed = false_from_ne_true _ (λ is. clash _ (committed-newest cut closed is) none)
