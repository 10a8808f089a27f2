-- An edit makes of each view with the edited page the view with that page edited, and leaves every other view.
use Rattle.std.proofs.Common.{◌≡◌, ℕ, Bool, true, false, ◌==◌, ◌&&◌, if◌then◌else◌, Option, Some, None, is_some, refl, sym, ◌∙◌, arith}
use Rattle.std.proofs.lemmas.Bool.Decides.{nat_tests}
use Rattle.fbc_kinds.specs.declared.edits.Edit.{Edit}
use Rattle.fbc_kinds.specs.declared.pages.Page.{Page}
use Rattle.fbc_world.specs.declared.drafts.Draft.{Draft}
use Rattle.fbc_world.specs.PageCell.{drafted, newest_in}
use Rattle.fbc_world.specs.World.{World, newest_of, with_edit}
use Rattle.fbc_legal.specs.Stamps.{PageStamps, Stamps, newest_stamps}
use Rattle.fbc_legal.proofs.Exclusion.{both_of, same_number}
use Rattle.fbc_closed_cuts.specs.Cut.{Cut, IsClosedCut, view}
use Rattle.fbc_closed_cuts.specs.Views.{IsSameView, IsViewOfEdit, drafted_in, view_stamps}

-- A page without a draft shows what is kept, in any cut.
undrafted_page : (b : Bool) (kept : Option Page) (draft : Option Draft) → (if b && is_some draft then newest_in kept draft else kept) ≡ (if b then newest_in kept draft else kept)
undrafted_page true kept None = refl
undrafted_page true kept (Some draft) = refl
undrafted_page false kept draft = refl

undrafted_stamps : (b : Bool) (draft : Option Draft) (drafts keeps : Stamps)
    → (if b && is_some draft then (if is_some draft then drafts else keeps) else keeps) ≡ (if b then (if is_some draft then drafts else keeps) else keeps)
undrafted_stamps true None drafts keeps = refl
undrafted_stamps true (Some draft) drafts keeps = refl
undrafted_stamps false draft drafts keeps = refl

both_true : (a b : Bool) → a ≡ true → b ≡ true → a && b ≡ true
both_true a b is also = rw (is, also) refl

module _ (w : World) (s : PageStamps) (owner page : ℕ) (e : Edit) (content : Page) (edited : Stamps) where
  abbrev pub after : World
  after = with_edit w owner page e (Some content)

  abbrev pub after_stamps : PageStamps
  after_stamps = record s { draft = λ p. if p == page then edited else s.draft p }

  -- Who had a draft has one.
  pub still_drafted : (p : ℕ) → is_some (w.draft p) ≡ true → is_some (after.draft p) ≡ true
  still_drafted p there = go (p == page) where
    go : (b : Bool) → is_some (if b then drafted owner (w.draft p) (Some content) else w.draft p) ≡ true
    go true = refl
    go false = there

  module _ (cut : Cut) (closed : IsClosedCut after cut) where
    pub is_closed : IsClosedCut w (drafted_in w cut)
    is_closed = record {
      drafted = λ p is. (both_of (cut p) (is_some (w.draft p)) is).1;
      closed = λ high low path there is. both_true (cut high) (is_some (w.draft high)) (closed.closed high low path (still_drafted high there) (both_of (cut low) (is_some (w.draft low)) is).0) there;
    }

    pub edit-leaves : cut page ≡ false → IsSameView w s after after_stamps cut (drafted_in w cut)
    edit-leaves out = record {
      closed = is_closed;
      pages = λ p. page_of p (p == page) refl;
      stamps = λ p. stamps_of p (p == page) refl;
    } where
      out_of : (p : ℕ) → p == page ≡ true → cut p ≡ false
      out_of p same = rw (same_number p page same) out

      page_of : (p : ℕ) (b : Bool) → p == page ≡ b → (if cut p then newest_in (w.kept p) (if b then drafted owner (w.draft p) (Some content) else w.draft p) else w.kept p) ≡ view w (drafted_in w cut) p
      page_of p true same = rw (out_of p same) refl
      page_of p false other = sym (undrafted_page (cut p) (w.kept p) (w.draft p))

      stamps_of : (p : ℕ) (b : Bool) → p == page ≡ b
          → (if cut p then (if is_some (if b then drafted owner (w.draft p) (Some content) else w.draft p) then (if b then edited else s.draft p) else s.kept p) else s.kept p) ≡ view_stamps w s (drafted_in w cut) p
      stamps_of p true same = rw (out_of p same) refl
      stamps_of p false other = sym (undrafted_stamps (cut p) (w.draft p) (s.draft p) (s.kept p))

    pub edit-changes : cut page ≡ true → IsViewOfEdit w s after after_stamps page content cut
    edit-changes in_cut = record {
      closed = is_closed;
      was = undrafted_page (cut page) (w.kept page) (w.draft page) ∙ shown;
      stamps_were = undrafted_stamps (cut page) (w.draft page) (s.draft page) (s.kept page) ∙ shown_stamps;
      pages = λ p. page_of p (p == page) refl;
      now = now;
      others = λ p apart. stamps_of p (p == page) refl apart;
    } where
      shown : (if cut page then newest_of w page else w.kept page) ≡ newest_of w page
      shown = rw in_cut refl

      shown_stamps : (if cut page then newest_stamps w s page else s.kept page) ≡ newest_stamps w s page
      shown_stamps = rw in_cut refl

      page_of : (p : ℕ) (b : Bool) → p == page ≡ b
          → (if cut p then newest_in (w.kept p) (if b then drafted owner (w.draft p) (Some content) else w.draft p) else w.kept p) ≡ (if b then Some content else view w (drafted_in w cut) p)
      page_of p true same = rw (same_number p page same, in_cut) refl
      page_of p false other = sym (undrafted_page (cut p) (w.kept p) (w.draft p))

      now : view_stamps after after_stamps cut page ≡ after_stamps.draft page
      now = rw in_cut (drafted_now (page == page) (grind (arith, nat_tests))) where
        drafted_now : (b : Bool) → b ≡ true → (if is_some (if b then drafted owner (w.draft page) (Some content) else w.draft page) then (if b then edited else s.draft page) else s.kept page) ≡ (if b then edited else s.draft page)
        drafted_now true is = refl
        drafted_now false is = cc

      stamps_of : (p : ℕ) (b : Bool) → p == page ≡ b → ¬ (p ≡ page)
          → (if cut p then (if is_some (if b then drafted owner (w.draft p) (Some content) else w.draft p) then (if b then edited else s.draft p) else s.kept p) else s.kept p) ≡ view_stamps w s (drafted_in w cut) p
      stamps_of p true same apart = absurd (apart (same_number p page same))
      stamps_of p false other apart = sym (undrafted_stamps (cut p) (w.draft p) (s.draft p) (s.kept p))
