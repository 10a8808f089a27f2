-- What stands where a transaction may begin, and where one is open: of commits, of numbers and of headers.
use Rattle.std.proofs.Common.{◌≡◌, ◌≢◌, ◌≤◌, ◌<◌, ◌∙◌, ◌/◌, ◌⊎◌, ℕ, Bool, true, false, if◌then◌else◌, Option, Some, None, inl, inr, refl, sym, ap, subst, arith}
use Rattle.std.proofs.lemmas.Bool.Decides.{nat_tests}
use Rattle.fbc_kinds.specs.declared.pages.Page.{Page}
use Rattle.fbc_kinds.specs.declared.shapes.Shape.{Shape}
use Rattle.fbc_kinds.specs.declared.snapshots.Transaction.{Transaction}
use Rattle.fbc_kinds.specs.Limits.{tip_numbers}
use Rattle.fbc_kinds.specs.View.{View, next_of, tip_of}
use Rattle.fbc_levels.specs.declared.levels.Level.TheVariants.{Ex}
use Rattle.fbc_world.specs.declared.drafts.Draft.{Draft}
use Rattle.fbc_world.specs.History.{History}
use Rattle.fbc_world.specs.Holdings.{is_draft_of}
use Rattle.fbc_levels.specs.Resources.{page_resource}
use Rattle.fbc_world.specs.PageCell.{newest_in}
use Rattle.fbc_world.specs.World.{World, newest_of, world_of}
use Rattle.fbc_legal.specs.Coherent.{IsDraftHeld}
use Rattle.fbc_levels.specs.Levels.{is_page_level}
use Rattle.fbc_legal.specs.Guards.{MayBegin}
use Rattle.fbc_legal.specs.Legal.{IsLegal}
use Rattle.fbc_legal.specs.Scene.{Scene, scene_of}
use Rattle.fbc_legal.proofs.Exclusion.{IsOwnDraft, excluded, same_number}
use Rattle.fbc_legal.proofs.HeaderGrowth.{exclusive-own}
use Rattle.fbc_legal.proofs.Pins.{PinsAreHeld}
use Rattle.fbc_legal.proofs.Ranked.{IsRanked-legal}
use Rattle.fbc_closed_cuts.specs.Cut.{Cut, view}
use Rattle.fbc_closed_cuts.specs.Firm.{HasOwnDrafts}
use Rattle.fbc_closed_cuts.specs.Upheld.{IsUpheld}
use Rattle.fbc_numbers.specs.Numbers.{IsMarkedBy, IsNumbered, IsRaised, IsUnraised, is_committed_in}
use Rattle.fbc_numbers.proofs.CommitsMarked.{mark-of}
use Rattle.fbc_numbers.proofs.CutFacts.{all-view, all_drafts, all-closed, clash, kept-committed}
use Rattle.fbc_numbers.proofs.NamedTips.{next_grown, next_in, tip_grown}
use Rattle.fbc_numbers.proofs.OpensNotDead.{next_within}

-- Who has the header in EX sees the newest one in each view that has all its drafts.
header_page : (owner : ℕ) (kept : Option Page) (draft : Option Draft) (b : Bool) → IsOwnDraft owner draft → (is_draft_of owner draft ≡ true → b ≡ true) → (if b then newest_in kept draft else kept) ≡ newest_in kept draft
header_page owner kept None true own has = refl
header_page owner kept None false own has = refl
header_page owner kept (Some d) true own has = refl
header_page owner kept (Some d) false own has = absurd (let is : false ≡ true = has (grind (arith, nat_tests, own)) in cc)

module _ (at : Scene) (u : IsUpheld at) (owner : ℕ) where
  abbrev w : World
  w = at.world

  newest-header : w.granted owner (page_resource 0) ≡ Ex → (cut : Cut) → HasOwnDrafts w owner cut → view w cut 0 ≡ newest_of w 0
  newest-header exclusive cut has = header_page owner (w.kept 0) (w.draft 0) (cut 0) (exclusive-own w u.coherent owner 0 exclusive) (has.own 0)

  -- The next number of the file is at most that of a view.
  next-kept : (cut : Cut) → next_of w.kept ≤ next_of (view w cut)
  next-kept cut = go (cut 0) where
    go : (b : Bool) → next_of w.kept ≤ next_in (if b then newest_of w 0 else w.kept 0)
    go true = next_grown (w.kept 0) (newest_of w 0) u.headers
    go false = grind (arith)

  pub open-within : IsNumbered at → (t : Transaction) → w.transaction owner ≡ Some t → (cut : Cut) → HasOwnDrafts w owner cut → t.number ≤ next_of (view w cut)
  open-within k t is cut has = go (k.stand owner t is).begun where
    drafted : IsRaised w owner t.number → is_draft_of owner (w.draft 0) ≡ true → t.number ≤ next_of (view w cut)
    drafted raised its =
        let below : t.number < next_in (view w cut 0) = rw (has.own 0 its) raised.newest in
        grind (arith, below)

    raised_by : IsRaised w owner t.number → (t.number < next_of w.kept) ⊎ (is_draft_of owner (w.draft 0) ≡ true) → t.number ≤ next_of (view w cut)
    raised_by raised (inl below) = let grown = next-kept cut in grind (arith, below, grown)
    raised_by raised (inr its) = drafted raised its

    go : IsRaised w owner t.number ⊎ IsUnraised w owner t.number → t.number ≤ next_of (view w cut)
    go (inl raised) = raised_by raised raised.in_file
    go (inr next) =
        let same : next_of (view w cut) ≡ next_of (newest_of w) = ap next_in (newest-header next.exclusive cut has) in
        let is_next = next.next in
        grind (arith, same, is_next)

  module _ (number word : ℕ) (may : MayBegin at owner number word) where
    pub begin-header : (cut : Cut) → HasOwnDrafts w owner cut → view w cut 0 ≡ newest_of w 0
    begin-header cut has = newest-header may.exclusive cut has

    pub begin-new : (cut : Cut) → next_of (view w cut) ≤ number
    begin-new cut = subst (λ n. next_of (view w cut) ≤ n) may.next (next_within at u cut)

    -- The header is in EX of one owner alone.
    pub begin-greatest : IsNumbered at → (other : ℕ) (t : Transaction) → w.transaction other ≡ Some t → t.number < number
    begin-greatest k other t is = go (k.stand other t is).begun where
      apart : owner ≢ other
      apart same = let both : None ≡ Some t = sym may.none_open ∙ ap w.transaction same ∙ is in cc

      go : IsRaised w other t.number ⊎ IsUnraised w other t.number → t.number < number
      go (inl raised) = subst (λ n. t.number < n) may.next raised.newest
      go (inr next) = absurd (clash (is_page_level (w.granted other (page_resource 0))) (rw next.exclusive refl) (excluded w u.coherent owner other (page_resource 0) apart may.exclusive))

    -- Every transaction inventory page is pinned, so nobody has a mark in a draft.
    module _ (k : IsNumbered at) (pins : PinsAreHeld w) (committed : ℕ) where
      drafter-holds : (other page : ℕ) → is_draft_of other (w.draft page) ≡ true → w.granted other (page_resource page) ≡ Ex
      drafter-holds other page its = go (w.draft page) its (u.coherent.drafts page) where
        go : (d : Option Draft) → is_draft_of other d ≡ true → IsDraftHeld w page d → w.granted other (page_resource page) ≡ Ex
        go None own held = absurd cc
        go (Some d) own held = subst (λ o. w.granted o (page_resource page) ≡ Ex) (same_number d.owner other own) held.1

      unmarked : (other : ℕ) → IsMarkedBy w other committed → ⊥
      unmarked other m =
          let mark = mark-of at u k.true_marks owner committed other m in
          let named : tip_of (newest_of w) (committed / tip_numbers at.shape.size) ≡ Some mark.0 = tip_grown (w.kept 0) (newest_of w 0) u.headers (committed / tip_numbers at.shape.size) mark.0 mark.1.named in
          let held = pins owner mark.0 (may.tips (committed / tip_numbers at.shape.size) mark.0 named) in
          clash _ held.usable (excluded w u.coherent other owner (page_resource mark.0) apart (drafter-holds other mark.0 mark.1.on.draft)) where
            apart : other ≢ owner
            apart same = let both : None ≡ Some m.t = sym may.none_open ∙ ap w.transaction (sym same) ∙ m.open_is in cc

      pub begin-committed : is_committed_in (newest_of w) committed ≡ is_committed_in w.kept committed
      begin-committed = go (is_committed_in (newest_of w) committed) refl (is_committed_in w.kept committed) refl where
        grown : is_committed_in w.kept committed ≡ true → is_committed_in (newest_of w) committed ≡ true
        grown is = subst (λ (v : View). is_committed_in v committed ≡ true) (all-view w) (kept-committed w k.grow committed (all_drafts w) (all-closed w) is)

        go : (a : Bool) → is_committed_in (newest_of w) committed ≡ a → (b : Bool) → is_committed_in w.kept committed ≡ b → a ≡ b
        go true newest true kept = refl
        go true newest false kept = let by = k.marked committed newest kept in absurd (unmarked by.0 by.1)
        go false newest true kept = absurd (clash _ (grown kept) newest)
        go false newest false kept = refl

-- Where a legal history led.
pub legal-begin-committed : (shape : Shape) (file : View) (past : History) (owner number word other : ℕ) → IsLegal shape file past → IsUpheld (scene_of shape file past) → IsNumbered (scene_of shape file past)
    → MayBegin (scene_of shape file past) owner number word → is_committed_in (newest_of (world_of shape file past)) other ≡ is_committed_in (world_of shape file past).kept other
legal-begin-committed shape file past owner number word other legal u k may = begin-committed (scene_of shape file past) u owner number word may k (IsRanked-legal shape file past legal).pins other
