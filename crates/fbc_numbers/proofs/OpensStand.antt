-- Each open transaction is its living owner's, and has begun: after every act but an edit or a failed write.
use Rattle.std.proofs.Common.{◌≡◌, ◌∙◌, ◌<◌, ◌==◌, ◌&&◌, ◌⊎◌, ℕ, Bool, true, false, if◌then◌else◌, Some, None, inl, inr, refl, sym, ap, subst, arith}
use Rattle.fbc_kinds.specs.declared.snapshots.Transaction.{Transaction}
use Rattle.fbc_kinds.specs.View.{next_of}
use Rattle.fbc_levels.specs.declared.levels.Level.{Level}
use Rattle.fbc_levels.specs.declared.levels.Level.TheVariants.{Ex, Free}
use Rattle.fbc_levels.specs.declared.resources.Resource.{Resource}
use Rattle.fbc_levels.specs.Resources.{is_same_resource, page_resource}
use Rattle.fbc_world.specs.declared.events.Act.{Act}
use Rattle.fbc_world.specs.declared.events.Act.TheVariants.{Die, Enter, Grant, Leave, Local, Lower, Opened, Reap, Write}
use Rattle.fbc_world.specs.declared.events.LocalEvent.TheVariants as local
use Rattle.fbc_world.specs.Holdings.{is_draft_of}
use Rattle.fbc_world.specs.World.{World, acted, dead, newest_of, written}
use Rattle.fbc_legal.specs.Coherent.{IsCoherent}
use Rattle.fbc_legal.specs.Guards.{Guard, GuardOfGrant, GuardOfLower}
use Rattle.fbc_legal.specs.Legal.{MayAct}
use Rattle.fbc_legal.specs.Scene.{Scene}
use Rattle.fbc_legal.proofs.Exclusion.{AreRequestsTrue, is_plain, same_number, waits_bare}
use Rattle.fbc_legal.proofs.HeaderGrowth.{exclusive-own, own_from}
use Rattle.fbc_closed_cuts.specs.Views.{is_edit}
use Rattle.fbc_closed_cuts.proofs.MarksKept.{own_of}
use Rattle.fbc_numbers.specs.Numbers.{IsOpenNumber, IsRaised, IsUnraised, OpenNumbersStand}
use Rattle.fbc_numbers.proofs.CutFacts.{clash}
use Rattle.fbc_numbers.proofs.NamedTips.{next_in}
use Rattle.fbc_numbers.proofs.Opens.{Begins, IsOther, open-acted, open-dead}
use Rattle.fbc_numbers.proofs.PageDrafts.{dead-kept, dead-newest, draft_spared, not_drafter, written-kept, written-newest}
use Rattle.fbc_lock_table.proofs.Ways.{same_resource}

abbrev pub HasBegun : World → ℕ → ℕ → Type 0
HasBegun w owner number = IsRaised w owner number ⊎ IsUnraised w owner number

-- What keeps a number that has begun so.
pub record Carries (w after : World) (owner number : ℕ) : Type 0 where
  pub newest : next_of (newest_of after) ≡ next_of (newest_of w)
  pub kept : next_of after.kept ≡ next_of w.kept
  pub draft : is_draft_of owner (w.draft 0) ≡ true → is_draft_of owner (after.draft 0) ≡ true
  pub pinned : IsUnraised w owner number → after.is_pinned owner 0 ≡ true
  pub exclusive : IsUnraised w owner number → after.granted owner (page_resource 0) ≡ Ex

pub carried : (w after : World) (owner number : ℕ) → Carries w after owner number → HasBegun w owner number → HasBegun after owner number
carried w after owner number c (inl raised) = inl (record { newest = rw c.newest raised.newest; in_file = in_file raised.in_file }) where
  in_file : (number < next_of w.kept) ⊎ (is_draft_of owner (w.draft 0) ≡ true) → (number < next_of after.kept) ⊎ (is_draft_of owner (after.draft 0) ≡ true)
  in_file (inl below) = inl (rw c.kept below)
  in_file (inr own) = inr (c.draft own)
carried w after owner number c (inr next) = inr (record { next = next.next ∙ sym c.newest; pinned = c.pinned next; exclusive = c.exclusive next })

module _ (w : World) (h : IsCoherent w) (owner other number : ℕ) where
  -- Another's death.
  begun-dead : other == owner ≡ false → HasBegun w other number → HasBegun (dead w owner) other number
  begun-dead apart (inl raised) = go (is_draft_of owner (w.draft 0)) refl raised.in_file where
    go : (b : Bool) → is_draft_of owner (w.draft 0) ≡ b → (number < next_of w.kept) ⊎ (is_draft_of other (w.draft 0) ≡ true) → HasBegun (dead w owner) other number
    go true its (inl below) = inl (record { newest = subst (λ o. number < next_in o) (sym (dead-kept w owner 0 its)) below; in_file = inl below })
    go true its (inr own) = absurd (clash _ (own_of owner other (w.draft 0) (own_from owner (w.draft 0) its) own) apart)
    go false none (inl below) = inl (record { newest = subst (λ o. number < next_in o) (sym (dead-newest w owner 0 none)) raised.newest; in_file = inl below })
    go false none (inr own) =
        inl (record {
          newest = subst (λ o. number < next_in o) (sym (dead-newest w owner 0 none)) raised.newest;
          in_file = inr (subst (λ d. is_draft_of other d ≡ true) (sym (draft_spared owner (w.draft 0) none)) own);
        })
  begun-dead apart (inr next) =
      let none = not_drafter owner other (w.draft 0) apart (exclusive-own w h other 0 next.exclusive) in
      inr (record { next = next.next ∙ sym (ap next_in (dead-newest w owner 0 none)); pinned = rw apart next.pinned; exclusive = next.exclusive })

  -- A write.
  begun-written : (page : ℕ) → is_draft_of owner (w.draft page) ≡ true → HasBegun w other number → HasBegun (written w owner page) other number
  begun-written page its (inl raised) = inl (record { newest = subst (λ o. number < next_in o) (sym (written-newest w owner page its 0)) raised.newest; in_file = go (0 == page) refl raised.in_file }) where
    go : (b : Bool) → 0 == page ≡ b → (number < next_of w.kept) ⊎ (is_draft_of other (w.draft 0) ≡ true) → (number < next_of (written w owner page).kept) ⊎ (is_draft_of other ((written w owner page).draft 0) ≡ true)
    go true same in_file = inl (subst (λ o. number < next_in o) (sym (written-kept w owner page its 0 same)) raised.newest)
    go false apart (inl below) = inl (rw apart below)
    go false apart (inr own) = inr (rw apart own)
  begun-written page its (inr next) = inr (record { next = next.next ∙ sym (ap next_in (written-newest w owner page its 0)); pinned = next.pinned; exclusive = next.exclusive })

module _ (at : Scene) (h : IsCoherent at.world) (t : AreRequestsTrue at.world) (owner : ℕ) where
  abbrev w : World
  w = at.world

  module _ (resource : Resource) (level : Level) (other number : ℕ) (next : IsUnraised w other number) where
    -- A changed level is not that of the header.
    elsewhere : (other ≡ owner → resource ≡ page_resource 0 → ⊥) → (if (other == owner) && is_same_resource resource (page_resource 0) then level else w.granted other (page_resource 0)) ≡ Ex
    elsewhere never = go (other == owner) refl (is_same_resource resource (page_resource 0)) refl where
      go : (a : Bool) → other == owner ≡ a → (b : Bool) → is_same_resource resource (page_resource 0) ≡ b → (if a && b then level else w.granted other (page_resource 0)) ≡ Ex
      go true its true same = absurd (never (same_number other owner its) (same_resource resource (page_resource 0) same))
      go true its false same = next.exclusive
      go false its b same = next.exclusive

    granting : GuardOfGrant at owner resource level → other ≡ owner → resource ≡ page_resource 0 → ⊥
    granting g its same =
        let bare : w.granted owner (page_resource 0) ≡ Free = waits_bare w h t owner 0 level (rw same at g.wanted) in
        let both : Ex ≡ Free = sym (rw its at next.exclusive) ∙ bare in cc

    lowering : GuardOfLower at owner resource level → other ≡ owner → resource ≡ page_resource 0 → ⊥
    lowering g its same = clash _ (rw its at next.pinned) (rw same at g.by_series).unpinned

  module _ (other : ℕ) (u : Transaction) (was : IsOpenNumber w other u) where
    lives : (b : Bool) → (if b then true else w.is_alive other) ≡ true
    lives true = refl
    lives false = was.alive

    goes : w.transaction owner ≡ None → w.transaction other ≡ Some u → (if other == owner then false else w.is_alive other) ≡ true
    goes none is_open = go (other == owner) refl where
      go : (b : Bool) → other == owner ≡ b → (if b then false else w.is_alive other) ≡ true
      go true its = absurd (let both : None ≡ Some u = sym none ∙ ap w.transaction (sym (same_number other owner its)) ∙ is_open in cc)
      go false apart = was.alive

    reaping : (gone : ℕ) → w.is_alive gone ≡ false → IsUnraised w other u.number → (if other == gone then Free else w.granted other (page_resource 0)) ≡ Ex
    reaping gone is_dead next = go (other == gone) refl where
      go : (b : Bool) → other == gone ≡ b → (if b then Free else w.granted other (page_resource 0)) ≡ Ex
      go true its = absurd (clash _ was.alive (rw (same_number other gone its) is_dead))
      go false apart = next.exclusive

    pinning : (page : ℕ) → IsUnraised w other u.number → (if (other == owner) && (0 == page) then true else w.is_pinned other 0) ≡ true
    pinning page next = go ((other == owner) && (0 == page)) where
      go : (b : Bool) → (if b then true else w.is_pinned other 0) ≡ true
      go true = refl
      go false = next.pinned

    unpinning : (page : ℕ) → (page ≡ 0 → (v : Transaction) → w.transaction owner ≡ Some v → v.number < next_of (newest_of w)) → w.transaction other ≡ Some u → IsUnraised w other u.number
        → (if (other == owner) && (0 == page) then false else w.is_pinned other 0) ≡ true
    unpinning page g is_open next = go (other == owner) refl (0 == page) refl where
      go : (a : Bool) → other == owner ≡ a → (b : Bool) → 0 == page ≡ b → (if a && b then false else w.is_pinned other 0) ≡ true
      go true its true zero_ =
          let below : u.number < next_of (newest_of w) = g (sym (same_number 0 page zero_)) u (ap w.transaction (sym (same_number other owner its)) ∙ is_open) in
          absurd (grind (arith, below, next.next))
      go true its false apart = next.pinned
      go false its b any = next.pinned

    -- What was open has begun after each act.
    begun-acted : (act : Act) (landed : Bool) → Guard at owner act → is_plain act ≡ true → is_edit act ≡ false → w.transaction other ≡ Some u → (acted at.shape w owner act landed).transaction other ≡ Some u → IsOpenNumber (acted at.shape w owner act landed) other u
    begun-acted (Opened locks) landed g plain no_edit before after = absurd (clash _ was.alive (g.none_alive other))
    begun-acted (Enter buffers name) landed g plain no_edit before after =
        record { own = was.own; opened = was.opened; alive = lives (other == owner); begun = carried w _ other u.number (record { newest = refl; kept = refl; draft = λ d. d; pinned = λ n. n.pinned; exclusive = λ n. n.exclusive }) was.begun }
    begun-acted Leave landed g plain no_edit before after =
        record { own = was.own; opened = was.opened; alive = goes g.settled before; begun = carried w _ other u.number (record { newest = refl; kept = refl; draft = λ d. d; pinned = λ n. n.pinned; exclusive = λ n. n.exclusive }) was.begun }
    begun-acted Die landed g plain no_edit before after =
        let left : IsOther w owner (dead w owner) other u = open-dead w owner other u after in
        let now = begun-dead w h owner other u.number left.apart was.begun in
        record {
          own = was.own;
          opened = was.opened;
          alive = rw left.apart was.alive;
          begun = carried (dead w owner) _ other u.number (record { newest = refl; kept = refl; draft = λ d. d; pinned = λ n. n.pinned; exclusive = λ n. n.exclusive }) now;
        }
    begun-acted (Write page reason false) landed g plain no_edit before after =
        let now = begun-written w h owner other u.number page g.drafted was.begun in
        record {
          own = was.own;
          opened = was.opened;
          alive = was.alive;
          begun = carried (written w owner page) _ other u.number (record { newest = refl; kept = refl; draft = λ d. d; pinned = λ n. n.pinned; exclusive = λ n. n.exclusive }) now;
        }
    begun-acted (Write page reason true) landed g plain no_edit before after = absurd cc
    begun-acted (Grant resource level) landed g plain no_edit before after =
        record {
          own = was.own;
          opened = was.opened;
          alive = was.alive;
          begun = carried w _ other u.number (record { newest = refl; kept = refl; draft = λ d. d; pinned = λ n. n.pinned; exclusive = λ n. elsewhere resource level other u.number n (granting resource level other u.number n g) }) was.begun;
        }
    begun-acted (Lower resource level) landed g plain no_edit before after =
        record {
          own = was.own;
          opened = was.opened;
          alive = was.alive;
          begun = carried w _ other u.number (record { newest = refl; kept = refl; draft = λ d. d; pinned = λ n. n.pinned; exclusive = λ n. elsewhere resource level other u.number n (lowering resource level other u.number n g) }) was.begun;
        }
    begun-acted (Reap gone by) landed g plain no_edit before after =
        record { own = was.own; opened = was.opened; alive = was.alive; begun = carried w _ other u.number (record { newest = refl; kept = refl; draft = λ d. d; pinned = λ n. n.pinned; exclusive = reaping gone g.is_dead }) was.begun }
    begun-acted (Local (local.Edit page e)) landed g plain no_edit before after = absurd cc
    begun-acted (Local (local.Before high low)) landed g plain no_edit before after =
        record { own = was.own; opened = was.opened; alive = was.alive; begun = carried w _ other u.number (record { newest = refl; kept = refl; draft = λ d. d; pinned = λ n. n.pinned; exclusive = λ n. n.exclusive }) was.begun }
    begun-acted (Local (local.Pin page)) landed g plain no_edit before after =
        record { own = was.own; opened = was.opened; alive = was.alive; begun = carried w _ other u.number (record { newest = refl; kept = refl; draft = λ d. d; pinned = pinning page; exclusive = λ n. n.exclusive }) was.begun }
    begun-acted (Local (local.Unpin page)) landed g plain no_edit before after =
        record { own = was.own; opened = was.opened; alive = was.alive; begun = carried w _ other u.number (record { newest = refl; kept = refl; draft = λ d. d; pinned = unpinning page g before; exclusive = λ n. n.exclusive }) was.begun }
    begun-acted _ landed g plain no_edit before after =
        record { own = was.own; opened = was.opened; alive = was.alive; begun = carried w _ other u.number (record { newest = refl; kept = refl; draft = λ d. d; pinned = λ n. n.pinned; exclusive = λ n. n.exclusive }) was.begun }

  -- What begins has begun.
  begins-stands : (after : World) (other : ℕ) (u : Transaction) → Begins at after owner other u → IsOpenNumber after other u
  begins-stands after other u b =
      subst (λ v. IsOpenNumber after other v) (sym b.is)
      (record {
        own = sym b.same;
        opened = refl;
        alive = subst (λ o. after.is_alive o ≡ true) (sym b.same) b.alive;
        begun = inr (record {
          next = sym b.may.next ∙ ap next_of (sym b.newest);
          pinned = subst (λ o. after.is_pinned o 0 ≡ true) (sym b.same) b.pinned;
          exclusive = subst (λ o. after.granted o (page_resource 0) ≡ Ex) (sym b.same) b.exclusive;
        });
      })

  pub stand-acted : OpenNumbersStand w → (act : Act) (landed : Bool) → MayAct at owner act → Guard at owner act → is_plain act ≡ true → is_edit act ≡ false → OpenNumbersStand (acted at.shape w owner act landed)
  stand-acted stand act landed may g plain no_edit other u is = elim (open-acted at owner act landed may g plain no_edit other u is) [
    | inl was ↦ begun-acted other u (stand other u was.was) act landed g plain no_edit was.was is
    | inr begins ↦ begins-stands (acted at.shape w owner act landed) other u begins
  ]
