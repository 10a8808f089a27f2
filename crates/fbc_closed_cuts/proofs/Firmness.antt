-- What is firm for an owner stays so while others write and die.
use Rattle.std.proofs.Common.{◌≡◌, ◌≢◌, ◌∙◌, ℕ, Bool, true, false, ◌==◌, if◌then◌else◌, ◌∷◌, Option, Some, None, is_some, refl, sym, subst, arith}
use Rattle.std.proofs.Math.Path.{fun_ext}
use Rattle.std.proofs.lemmas.Bool.Decides.{nat_tests}
use Rattle.fbc_kinds.specs.declared.pages.Page.{Page}
use Rattle.fbc_kinds.specs.declared.shapes.Shape.{Shape}
use Rattle.fbc_kinds.specs.View.{View}
use Rattle.fbc_world.specs.declared.drafts.Draft.{Draft}
use Rattle.fbc_world.specs.declared.events.Act.{Act}
use Rattle.fbc_world.specs.declared.events.Act.TheVariants.{Write}
use Rattle.fbc_world.specs.History.{History, Moment}
use Rattle.fbc_world.specs.Holdings.{is_draft_of}
use Rattle.fbc_levels.specs.Resources.{page_resource}
use Rattle.fbc_world.specs.Owners.{is_alive}
use Rattle.fbc_world.specs.PageCell.{draft, newest_in}
use Rattle.fbc_world.specs.World.{World, newest_of, world_of}
use Rattle.fbc_world.proofs.WorldLaws.{IsReplayed-world}
use Rattle.fbc_legal.specs.Coherent.{IsCoherent, IsCopyHeld, IsDraftHeld, IsNewest}
use Rattle.fbc_levels.specs.Levels.{is_page_level}
use Rattle.fbc_legal.specs.Legal.{IsLegal}
use Rattle.fbc_legal.proofs.Exclusion.{IsOwnDraft, own_draft}
use Rattle.fbc_legal.proofs.Frame.{draft_left}
use Rattle.fbc_legal.proofs.Induction.{IsCoherent-legal}
use Rattle.fbc_closed_cuts.specs.Cut.{Cut, view}
use Rattle.fbc_closed_cuts.specs.Firm.{HasOwnDrafts, IsFirm}
use Rattle.fbc_closed_cuts.specs.Views.{cut_before, is_edit, with_one}
use Rattle.fbc_closed_cuts.proofs.CutLaws.{no-new-views}

-- The page of a copy shows it in every view that has the owner's drafts.
module _ (w : World) (h : IsCoherent w) (owner page : ℕ) (content : Page) (has : w.copy owner page ≡ Some content) (cut : Cut) (own : HasOwnDrafts w owner cut) where
  newest_is : newest_of w page ≡ Some content
  newest_is = subst (λ c. IsNewest c (newest_of w page)) has (h.newest owner page)

  out_case : (b : Bool) (d : Option Draft) → cut page ≡ b → w.draft page ≡ d → IsOwnDraft owner d → newest_in (w.kept page) d ≡ Some content → (if b then newest_in (w.kept page) d else w.kept page) ≡ Some content
  out_case true d at is its newest = newest
  out_case false None at is its newest = newest
  out_case false (Some d) at is its newest =
      let drafted : is_draft_of owner (w.draft page) ≡ true = rw is (grind (arith, nat_tests, its)) in
      absurd (let both : true ≡ false = sym (own.own page drafted) ∙ at in cc)

  pub copy-firm : view w cut page ≡ Some content
  copy-firm = out_case (cut page) (w.draft page) refl refl (own_draft w h owner page (usable (h.held owner page))) newest_is where
    usable : IsCopyHeld w owner page (w.copy owner page) → is_page_level (w.granted owner (page_resource page)) ≡ true
    usable held = go held where
      go : IsCopyHeld w owner page (w.copy owner page) → is_page_level (w.granted owner (page_resource page)) ≡ true
      go is = (subst (IsCopyHeld w owner page) has is).1

-- A cut with one page more has the pages of the cut.
more_in : (page : ℕ) (cut : Cut) (p : ℕ) → cut p ≡ true → with_one page cut p ≡ true
more_in page cut p is = go (p == page) where
  go : (b : Bool) → (if b then true else cut p) ≡ true
  go true = refl
  go false = is

before_in : (act : Act) (landed : Bool) (cut : Cut) (p : ℕ) → cut p ≡ true → cut_before act landed cut p ≡ true
before_in (Write page cause true) true cut p is = more_in page cut p is
before_in (Write page cause true) false cut p is = is
before_in (Write page cause false) landed cut p is = more_in page cut p is
before_in _ landed cut p is = is

owner_lives : (w : World) → IsCoherent w → (owner page : ℕ) → is_draft_of owner (w.draft page) ≡ true → (d : Draft) × (w.draft page ≡ Some d) × (d.owner ≡ owner) × (w.is_alive owner ≡ true)
owner_lives w h owner page its = go (w.draft page) refl its (h.drafts page) where
  go : (o : Option Draft) → w.draft page ≡ o → is_draft_of owner o ≡ true → IsDraftHeld w page o → (d : Draft) × (w.draft page ≡ Some d) × (d.owner ≡ owner) × (w.is_alive owner ≡ true)
  go None is own held = absurd cc
  go (Some d) is own held =
      let same : d.owner ≡ owner = grind (arith, nat_tests, own) in
      (d, is, same, subst (λ o. w.is_alive o ≡ true) same held.0)

module _ (shape : Shape) (file : View) (before : History) (moment : Moment) (owner : ℕ) (legal : IsLegal shape file (moment ∷ before)) (apart : moment.event.actor ≢ owner) (plain : is_edit moment.event.act ≡ false) where
  abbrev w : World
  w = world_of shape file before

  abbrev after : World
  after = world_of shape file (moment ∷ before)

  left : (page : ℕ) → is_draft_of owner (w.draft page) ≡ true → is_draft_of owner (after.draft page) ≡ true
  left page its =
      let found = owner_lives w (IsCoherent-legal shape file before legal.0) owner page its in
      let lives : is_alive before owner ≡ true = sym ((IsReplayed-world shape file before).alive_is owner) ∙ found.3 in
      let stays : draft shape file (moment ∷ before) page ≡ Some found.0 =
      draft_left shape file before moment owner legal lives apart page found.0 (sym ((IsReplayed-world shape file before).draft_is page) ∙ found.1) found.2 in
      rw ((IsReplayed-world shape file (moment ∷ before)).draft_is page ∙ stays) (grind (arith, nat_tests, found.2))

  pub own-before : (cut : Cut) → HasOwnDrafts after owner cut → HasOwnDrafts w owner (cut_before moment.event.act moment.landed cut)
  own-before cut own = record {
    closed = (no-new-views shape file before moment cut legal plain own.closed).closed;
    own = λ page its. before_in moment.event.act moment.landed cut page (own.own page (left page its));
  }

  pub one-view : (cut : Cut) → HasOwnDrafts after owner cut → view after cut ≡ view w (cut_before moment.event.act moment.landed cut)
  one-view cut own = fun_ext (λ page. (no-new-views shape file before moment cut legal plain own.closed).pages page)

  pub firm-stays : (passes : View → Bool) → IsFirm w owner passes → IsFirm after owner passes
  firm-stays passes firm cut own =
      subst (λ (v : View). passes v ≡ true) (sym (one-view cut own)) (firm (cut_before moment.event.act moment.landed cut) (own-before cut own))

-- What is firm is so of the newest pages.
pub firm-newest : (w : World) (owner : ℕ) (passes : View → Bool) → IsFirm w owner passes → passes (newest_of w) ≡ true
firm-newest w owner passes firm = subst (λ (v : View). passes v ≡ true) (fun_ext all_pages) (firm (λ page. is_some (w.draft page)) has) where
  draft_there : (d : Option Draft) → is_draft_of owner d ≡ true → is_some d ≡ true
  draft_there None its = absurd cc
  draft_there (Some d) its = refl

  has : HasOwnDrafts w owner (λ page. is_some (w.draft page))
  has = record { closed = record { drafted = λ page is. is; closed = λ high low path there is. there }; own = λ page its. draft_there (w.draft page) its }

  all_pages : (page : ℕ) → (if is_some (w.draft page) then newest_in (w.kept page) (w.draft page) else w.kept page) ≡ newest_in (w.kept page) (w.draft page)
  all_pages page = go (w.draft page) where
    go : (d : Option Draft) → (if is_some d then newest_in (w.kept page) d else w.kept page) ≡ newest_in (w.kept page) d
    go None = refl
    go (Some d) = refl
