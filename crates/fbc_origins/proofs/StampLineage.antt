-- What holds between a page with its stamps and itself, and is kept by each edit of the newer one, holds between what is
-- kept and what is newest.
use Rattle.std.proofs.Common.{◌≡◌, ℕ, Bool, true, false, ◌==◌, if◌then◌else◌, Option, Some, None, is_some, refl, subst, arith}
use Rattle.std.proofs.lemmas.Bool.Decides.{nat_tests}
use Rattle.fbc_kinds.specs.declared.edits.Edit.{Edit}
use Rattle.fbc_kinds.specs.declared.pages.Page.{Page}
use Rattle.fbc_world.specs.declared.drafts.Draft.{Draft}
use Rattle.fbc_world.specs.declared.events.Act.{Act}
use Rattle.fbc_world.specs.declared.events.Act.TheVariants.{Die, Local, Write}
use Rattle.fbc_world.specs.declared.events.LocalEvent.TheVariants as local
use Rattle.fbc_world.specs.Holdings.{is_draft_of}
use Rattle.fbc_world.specs.PageCell.{drafted, newest_in, page_for, without}
use Rattle.fbc_world.specs.World.{World, acted, newest_of, page_after, with_edit, written}
use Rattle.fbc_legal.specs.Coherent.{IsCoherent}
use Rattle.fbc_legal.specs.Guards.{Guard, GuardOfEdit}
use Rattle.fbc_legal.specs.Scene.{Scene, newest_at}
use Rattle.fbc_legal.specs.Stamps.{PageStamps, Stamps, born_in_newest, newest_stamps, stamped, stamps_for, stamps_step, stamps_written}
use Rattle.fbc_legal.proofs.Exclusion.{IsOwnDraft, same_number}
use Rattle.fbc_legal.proofs.HeaderGrowth.{exclusive-own, newest-own}

-- An owner that has a page in EX has its newest stamps.
pub stamps-own : (owner : ℕ) (draft : Option Draft) (drafts keeps : Stamps) → IsOwnDraft owner draft
    → (if is_draft_of owner draft then drafts else keeps) ≡ (if is_some draft then drafts else keeps)
stamps-own owner None drafts keeps own = refl
stamps-own owner (Some draft) drafts keeps own = grind (arith, nat_tests, own)

module _ (R : Option Page → Stamps → Option Page → Stamps → Type 0) (reflexive : (page : Option Page) (s : Stamps) → R page s page s) where
  lost : (owner : ℕ) (kept : Option Page) (draft : Option Draft) (keeps drafts : Stamps)
      → R kept keeps (newest_in kept draft) (if is_some draft then drafts else keeps)
      → R kept keeps (newest_in kept (without owner draft)) (if is_some (without owner draft) then drafts else keeps)
  lost owner kept None keeps drafts r = r
  lost owner kept (Some draft) keeps drafts r = go (draft.owner == owner) where
    go : (b : Bool) → R kept keeps (newest_in kept (if b then None else Some draft)) (if is_some (if b then None else Some draft) then drafts else keeps)
    go true = reflexive kept keeps
    go false = r

  in_file : (owner : ℕ) (kept : Option Page) (draft : Option Draft) (keeps drafts : Stamps) → is_draft_of owner draft ≡ true
      → R (page_for owner kept draft) (if is_draft_of owner draft then drafts else keeps) (newest_in (page_for owner kept draft) (without owner draft))
      (if is_some (without owner draft) then drafts else (if is_draft_of owner draft then drafts else keeps))
  in_file owner kept None keeps drafts its = absurd cc
  in_file owner kept (Some draft) keeps drafts its = rw its (reflexive (Some draft.content) drafts)

  module _ (at : Scene) (stamp owner number : ℕ) where
    abbrev w : World
    w = at.world

    -- What holds of the page's kept and newest content.
    abbrev pub Holds : World → PageStamps → Type 0
    Holds world stamps = R (world.kept number) (stamps.kept number) (newest_of world number) (newest_stamps world stamps number)

    -- The page with its stamps after an edit.
    abbrev pub restamped : Edit → Stamps
    restamped e = stamped stamp (born_in_newest w at.stamps) (newest_at at number) e (newest_stamps w at.stamps number)

    -- Each edit of the page keeps it.
    abbrev pub EditsKeep : Type 0
    EditsKeep = (e : Edit) → GuardOfEdit at owner number e → (content : Page) → page_after at.shape w owner number e ≡ Some content → Holds w at.stamps
        → R (w.kept number) (at.stamps.kept number) (Some content) (restamped e)

    wrote : (page : ℕ) → is_draft_of owner (w.draft page) ≡ true → Holds w at.stamps → Holds (written w owner page) (stamps_written w owner page at.stamps)
    wrote page its r = go (number == page) refl where
      go : (b : Bool) → number == page ≡ b
          → R (if b then page_for owner (w.kept number) (w.draft number) else w.kept number)
          (if b then stamps_for owner w at.stamps number else at.stamps.kept number)
          (newest_in (if b then page_for owner (w.kept number) (w.draft number) else w.kept number) (if b then without owner (w.draft number) else w.draft number))
          (if is_some (if b then without owner (w.draft number) else w.draft number) then at.stamps.draft number else (if b then stamps_for owner w at.stamps number else at.stamps.kept number))
      go true same = in_file owner (w.kept number) (w.draft number) (at.stamps.kept number) (at.stamps.draft number) (rw (same_number number page same) its)
      go false other = r

    -- The stamps after an edit of a page by which this one comes.
    abbrev made_of : ℕ → Edit → Stamps
    made_of page e = stamped stamp (born_in_newest w at.stamps) (page_for owner (w.kept page) (w.draft page)) e (stamps_for owner w at.stamps page)

    abbrev pub stamps_to : ℕ → Edit → Option Page → PageStamps
    stamps_to page e after = if is_some after then record at.stamps { draft = λ p. if p == page then made_of page e else at.stamps.draft p } else at.stamps

    module _ (h : IsCoherent w) where
      edited_to : (e : Edit) → GuardOfEdit at owner number e → EditsKeep → (after : Option Page) → page_after at.shape w owner number e ≡ after → is_some after ≡ true → Holds w at.stamps
          → R (w.kept number) (at.stamps.kept number) (newest_in (w.kept number) (drafted owner (w.draft number) after))
          (if is_some (drafted owner (w.draft number) after) then made_of number e else at.stamps.kept number)
      edited_to e g keep None is fits r = absurd cc
      edited_to e g keep (Some content) is fits r =
          let own : IsOwnDraft owner (w.draft number) = exclusive-own w h owner number g.exclusive in
          rw (← newest-own owner (w.kept number) (w.draft number) own, stamps-own owner (w.draft number) (at.stamps.draft number) (at.stamps.kept number) own) (keep e g content is r)

      spare : (page : ℕ) (e : Edit) (after : Option Page) → number == page ≡ false → Holds w at.stamps → Holds (with_edit w owner page e after) (stamps_to page e after)
      spare page e None other r = rw other r
      spare page e (Some content) other r = rw other r

      here : (e : Edit) → GuardOfEdit at owner number e → EditsKeep → (after : Option Page) → page_after at.shape w owner number e ≡ after → is_some after ≡ true → Holds w at.stamps
          → Holds (with_edit w owner number e after) (stamps_to number e after)
      here e g keep None is fits r = absurd cc
      here e g keep (Some content) is fits r = go (number == number) (grind (arith, nat_tests)) where
        go : (b : Bool) → b ≡ true
            → R (w.kept number) (at.stamps.kept number) (newest_in (w.kept number) (if b then drafted owner (w.draft number) (Some content) else w.draft number))
            (if is_some (if b then drafted owner (w.draft number) (Some content) else w.draft number) then (if b then made_of number e else at.stamps.draft number) else at.stamps.kept number)
        go true sure = edited_to e g keep (Some content) is fits r
        go false sure = absurd cc

      edit : (page : ℕ) (e : Edit) → GuardOfEdit at owner page e → EditsKeep → Holds w at.stamps → (b : Bool) → number == page ≡ b
          → Holds (with_edit w owner page e (page_after at.shape w owner page e)) (stamps_to page e (page_after at.shape w owner page e))
      edit page e g keep r true same =
          subst (λ p. GuardOfEdit at owner p e → Holds (with_edit w owner p e (page_after at.shape w owner p e)) (stamps_to p e (page_after at.shape w owner p e))) (same_number number page same)
          (λ guard. here e guard keep (page_after at.shape w owner number e) refl guard.fits r) g
      edit page e g keep r false other = spare page e (page_after at.shape w owner page e) other r

      pub stamp-lineage : (act : Act) (landed : Bool) → Guard at owner act → EditsKeep → Holds w at.stamps → Holds (acted at.shape w owner act landed) (stamps_step at.shape w stamp owner act landed at.stamps)
      stamp-lineage Die landed g keep r = lost owner (w.kept number) (w.draft number) (at.stamps.kept number) (at.stamps.draft number) r
      stamp-lineage (Write page reason true) true g keep r =
          lost owner ((written w owner page).kept number) ((written w owner page).draft number) ((stamps_written w owner page at.stamps).kept number) (at.stamps.draft number) (wrote page g.drafted r)
      stamp-lineage (Write page reason true) false g keep r = lost owner (w.kept number) (w.draft number) (at.stamps.kept number) (at.stamps.draft number) r
      stamp-lineage (Write page reason false) landed g keep r = wrote page g.drafted r
      stamp-lineage (Local (local.Edit page e)) landed g keep r = edit page e g keep r (number == page) refl
      stamp-lineage (Local (local.Before high low)) landed g keep r = r
      stamp-lineage (Local (local.Pin page)) landed g keep r = r
      stamp-lineage (Local (local.Unpin page)) landed g keep r = r
      stamp-lineage _ landed g keep r = r
