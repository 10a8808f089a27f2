-- Each mark of a commit stands in a draft of its owner, after each event.
use Rattle.std.proofs.Common.{◌≡◌, ℕ, Bool, true, false, ◌==◌, ◌&&◌, if◌then◌else◌, Option, Some, None, is_some, refl, arith}
use Rattle.std.proofs.lemmas.Bool.Decides.{nat_tests}
use Rattle.fbc_kinds.specs.declared.edits.Edit.{Edit}
use Rattle.fbc_kinds.specs.declared.edits.Edit.TheVariants as edit
use Rattle.fbc_kinds.specs.declared.pages.Page.{Page}
use Rattle.fbc_kinds.specs.declared.pages.State.TheVariants.{Active, Committed, Dead, Limbo}
use Rattle.fbc_kinds.specs.declared.snapshots.Transaction.{Transaction}
use Rattle.fbc_kinds.specs.Machine.{begun}
use Rattle.fbc_kinds.specs.Meaning.{meaning_of}
use Rattle.fbc_levels.specs.declared.levels.Level.{Level}
use Rattle.fbc_levels.specs.declared.resources.Resource.{Resource}
use Rattle.fbc_world.specs.declared.drafts.Draft.{Draft}
use Rattle.fbc_world.specs.declared.events.Act.{Act}
use Rattle.fbc_world.specs.declared.events.Act.TheVariants.{Die, Grant, Local, Write}
use Rattle.fbc_world.specs.declared.events.LocalEvent.TheVariants as local
use Rattle.fbc_world.specs.Holdings.{is_draft_of}
use Rattle.fbc_world.specs.PageCell.{without}
use Rattle.fbc_world.specs.World.{World, acted, dead, granted_level, is_begin, is_mark_on, is_number_of, mark_after_edit, newest_of, page_after, transaction_after_edit, with_edit, written}
use Rattle.fbc_legal.specs.Coherent.{IsCoherent}
use Rattle.fbc_legal.specs.Guards.{Guard, GuardOfEdit}
use Rattle.fbc_legal.specs.Scene.{Scene}
use Rattle.fbc_legal.proofs.Exclusion.{IsOwnDraft, same_number}
use Rattle.fbc_legal.proofs.HeaderGrowth.{exclusive-own}
use Rattle.fbc_legal.proofs.Pairs.{kept_draft}
use Rattle.fbc_closed_cuts.specs.Upheld.{IsMarkDrafted, MarksAreDrafted}

same_drafter : (owner other : ℕ) (draft : Option Draft) → is_draft_of owner draft ≡ true → is_draft_of other draft ≡ true → other == owner ≡ true
same_drafter owner other None its also = absurd cc
same_drafter owner other (Some draft) its also = grind (arith, nat_tests, its, also)

pub own_of : (owner other : ℕ) (draft : Option Draft) → IsOwnDraft owner draft → is_draft_of other draft ≡ true → other == owner ≡ true
own_of owner other None own also = absurd cc
own_of owner other (Some draft) own also = grind (arith, nat_tests, own, also)

module _ (w : World) (m : MarksAreDrafted w) (owner : ℕ) where
  died-mark : (o : ℕ) (b : Bool) (mark : Option ℕ) → o == owner ≡ b → IsMarkDrafted w o mark → IsMarkDrafted (dead w owner) o (if b then None else mark)
  died-mark o true mark key is = tt
  died-mark o false None key is = tt
  died-mark o false (Some page) key is = (kept_draft owner o (w.draft page) key is.0, rw key is.1)

  pub died : MarksAreDrafted (dead w owner)
  died o = died-mark o (o == owner) (w.marked o) refl (m o)

  module _ (page : ℕ) (its : is_draft_of owner (w.draft page) ≡ true) where
    in_draft : (o p : ℕ) → (o == owner) && (p == page) ≡ false → is_draft_of o (w.draft p) ≡ true → (b : Bool) → p == page ≡ b → is_draft_of o (if b then without owner (w.draft p) else w.draft p) ≡ true
    in_draft o p key own true same = absurd (grind (arith, same_drafter owner o (w.draft page) its (rw (← same_number p page same) own), key, same))
    in_draft o p key own false other = own

    wrote-mark : (o : ℕ) (mark : Option ℕ) (b : Bool) → w.marked o ≡ mark → (o == owner) && is_mark_on page mark ≡ b → IsMarkDrafted w o mark → IsMarkDrafted (written w owner page) o (if b then None else mark)
    wrote-mark o mark true is key held = tt
    wrote-mark o None false is key held = tt
    wrote-mark o (Some p) false is key held = (in_draft o p key held.0 (p == page) refl, rw (is, key) held.1)

    pub wrote : MarksAreDrafted (written w owner page)
    wrote o = wrote-mark o (w.marked o) ((o == owner) && is_mark_on page (w.marked o)) refl refl (m o)

  granted-mark : (r : Resource) (level : Level) (o : ℕ) (mark : Option ℕ) → IsMarkDrafted w o mark → IsMarkDrafted (granted_level w owner r level) o mark
  granted-mark r level o None is = tt
  granted-mark r level o (Some page) is = (is.0, still ((o == owner) && is_begin r level) (begun (meaning_of (newest_of w)) owner r.key)) where
    still : (b : Bool) (t : Transaction) → is_some (if b then Some t else w.transaction o) ≡ true
    still true t = refl
    still false t = is.1

  pub granted : (r : Resource) (level : Level) → MarksAreDrafted (granted_level w owner r level)
  granted r level o = granted-mark r level o (w.marked o) (m o)

-- What an edit of an owner without a mark leaves as its mark, and as its transaction.
number_there : (number : ℕ) (t : Option Transaction) → is_number_of number t ≡ true → is_some t ≡ true
number_there number None is = absurd cc
number_there number (Some t) is = refl

module _ (at : Scene) (h : IsCoherent at.world) (m : MarksAreDrafted at.world) (owner page : ℕ) (e : Edit) (content : Page) (g : GuardOfEdit at owner page e) where
  abbrev w : World
  w = at.world

  abbrev after : World
  after = with_edit w owner page e (Some content)

  drafts_it : is_draft_of owner (after.draft page) ≡ true
  drafts_it = go (page == page) (grind (arith, nat_tests)) where
    go : (b : Bool) → b ≡ true → is_draft_of owner (if b then Some (record { owner = owner; content = content }) else w.draft page) ≡ true
    go true is = grind (arith, nat_tests)
    go false is = absurd cc

  other-mark : (o : ℕ) (mark : Option ℕ) → o == owner ≡ false → IsMarkDrafted w o mark → IsMarkDrafted after o mark
  other-mark o None apart is = tt
  other-mark o (Some p) apart is = (kept (p == page) refl, rw apart is.1) where
    kept : (b : Bool) → p == page ≡ b → is_draft_of o (if b then Some (record { owner = owner; content = content }) else w.draft p) ≡ true
    kept true same = absurd (grind (arith, own_of owner o (w.draft page) (exclusive-own w h owner page g.exclusive) (rw (← same_number p page same) is.0), apart))
    kept false other = is.0

  -- The mark of the actor, which had none.
  made : (t : Option Transaction) → w.transaction owner ≡ t → (edit : Edit) → IsMarkDrafted (record after { transaction = λ o. transaction_after_edit edit t }) owner (mark_after_edit page edit t None)
  made t is (edit.Mark number Committed) = go (is_number_of number t) refl where
    go : (b : Bool) → is_number_of number t ≡ b → IsMarkDrafted (record after { transaction = λ o. t }) owner (if b then Some page else None)
    go true its = (drafts_it, number_there number t its)
    go false its = tt
  made t is (edit.Mark number Active) = no_mark (is_number_of number t) where
    no_mark : (b : Bool) → IsMarkDrafted (record after { transaction = λ o. t }) owner (if b then None else None)
    no_mark true = tt
    no_mark false = tt
  made t is (edit.Mark number Limbo) = no_mark (is_number_of number t) where
    no_mark : (b : Bool) → IsMarkDrafted (record after { transaction = λ o. t }) owner (if b then None else None)
    no_mark true = tt
    no_mark false = tt
  made t is (edit.Mark number Dead) = no_mark (is_number_of number t) where
    no_mark : (b : Bool) → IsMarkDrafted (record after { transaction = λ o. if is_number_of number t then None else t }) owner (if b then None else None)
    no_mark true = tt
    no_mark false = tt
  made t is _ = tt

  at_own : (o : ℕ) → o == owner ≡ true → IsMarkDrafted (record after { transaction = λ p. transaction_after_edit e (w.transaction owner) }) owner (mark_after_edit page e (w.transaction owner) None)
      → IsMarkDrafted after o (mark_after_edit page e (w.transaction o) (w.marked o))
  at_own o same is = rw (same_number o owner same, g.unmarked) (moved (mark_after_edit page e (w.transaction owner) None) is) where
    moved : (mark : Option ℕ) → IsMarkDrafted (record after { transaction = λ p. transaction_after_edit e (w.transaction owner) }) owner mark → IsMarkDrafted after owner mark
    moved None held = tt
    moved (Some p) held = (held.0, its_own (owner == owner) (grind (arith, nat_tests))) where
      its_own : (b : Bool) → b ≡ true → is_some (if b && true then transaction_after_edit e (w.transaction owner) else w.transaction owner) ≡ true
      its_own true key = held.1
      its_own false key = absurd cc

  pub edited-marks : MarksAreDrafted after
  edited-marks o = go (o == owner) refl where
    go : (b : Bool) → o == owner ≡ b → IsMarkDrafted after o (if b && true then mark_after_edit page e (w.transaction o) (w.marked o) else w.marked o)
    go true same = at_own o same (made (w.transaction owner) refl e)
    go false apart = other-mark o (w.marked o) apart (m o)

module _ (at : Scene) (h : IsCoherent at.world) (m : MarksAreDrafted at.world) (owner : ℕ) where
  abbrev v : World
  v = at.world

  fitted : (page : ℕ) (e : Edit) → GuardOfEdit at owner page e → (after : Option Page) → is_some after ≡ true → MarksAreDrafted (with_edit v owner page e after)
  fitted page e g None fits = absurd cc
  fitted page e g (Some content) fits = edited-marks at h m owner page e content g

  pub marks-acted : (act : Act) (landed : Bool) → Guard at owner act → MarksAreDrafted (acted at.shape v owner act landed)
  marks-acted Die landed g = died v m owner
  marks-acted (Write page reason true) true g = died (written v owner page) (wrote v m owner page g.drafted) owner
  marks-acted (Write page reason true) false g = died v m owner
  marks-acted (Write page reason false) landed g = wrote v m owner page g.drafted
  marks-acted (Grant r level) landed g = granted v m owner r level
  marks-acted (Local (local.Edit page e)) landed g = fitted page e g (page_after at.shape v owner page e) g.fits
  marks-acted (Local (local.Before high low)) landed g = m
  marks-acted (Local (local.Pin page)) landed g = m
  marks-acted (Local (local.Unpin page)) landed g = m
  marks-acted _ landed g = m
