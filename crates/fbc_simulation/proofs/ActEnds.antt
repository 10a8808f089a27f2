-- Deaths and writes end transactions as the cut before says.
use Rattle.std.proofs.Common.{◌≡◌, ◌∙◌, ℕ, Bool, true, false, ◌==◌, ◌&&◌, if◌then◌else◌, List, [], ◌∷◌, Contains, Option, Some, None, is_some, refl, sym, ap, subst, arith}
use Rattle.std.specs.Option.{option_map_or}
use Rattle.std.proofs.lemmas.Bool.Decides.{nat_tests}
use Rattle.fbc_kinds.specs.declared.commands.Command.TheVariants as command
use Rattle.fbc_kinds.specs.declared.snapshots.Standing.TheVariants as standing
use Rattle.fbc_kinds.specs.declared.snapshots.Transaction.{Transaction}
use Rattle.fbc_kinds.specs.Machine.{Machine, after_end}
use Rattle.fbc_kinds.proofs.Tests.{same_from_test, test_of_different, test_of_same}
use Rattle.fbc_runs.specs.Ended.{end_by, is_owner_of, settled_by}
use Rattle.fbc_runs.specs.Runs.{machine_after}
use Rattle.fbc_runs.proofs.Ends.{ends_same, other_commits_same}
use Rattle.fbc_world.specs.Commands.{where_true}
use Rattle.fbc_world.specs.declared.drafts.Draft.{Draft}
use Rattle.fbc_world.specs.Holdings.{is_draft_of}
use Rattle.fbc_world.specs.PageCell.{without}
use Rattle.fbc_world.specs.World.{World, dead, is_mark_on, written}
use Rattle.fbc_closed_cuts.specs.Cut.{Cut}
use Rattle.fbc_closed_cuts.specs.Upheld.{IsMarkDrafted, MarksAreDrafted}
use Rattle.fbc_closed_cuts.specs.Views.{with_one}
use Rattle.fbc_numbers.proofs.CutFacts.{clash}
use Rattle.fbc_numbers.proofs.Opens.{IsOther, open-dead, open-written}
use Rattle.fbc_simulation.specs.Beside.{AreOpenIn, commits_in}
use Rattle.fbc_simulation.proofs.LivingOwners.{none_living}
use Rattle.fbc_legal.proofs.Pairs.{kept_draft}

-- What is open beside a cut was open beside the cut before, and with the others at their ends the machine is the same.
pub record LeadsTo (w : World) (machine : Machine) (earlier : Cut) (after : World) (later : Machine) (cut : Cut) (living : List Transaction) : Type 0 where
  pub opens : AreOpenIn w earlier living
  pub same : settled_by living (commits_in after cut) later ≡ settled_by living (commits_in w earlier) machine

-- A dead owner's draft is lost, and another's is left.
lost_draft : (owner : ℕ) (draft : Option Draft) → is_draft_of owner draft ≡ true → is_some (without owner draft) ≡ false
lost_draft owner None its = absurd cc
lost_draft owner (Some draft) its = grind (arith, its)

two_drafters : (owner other : ℕ) (draft : Option Draft) → is_draft_of owner draft ≡ true → is_draft_of other draft ≡ true → other ≡ owner
two_drafters owner other None its also = absurd cc
two_drafters owner other (Some draft) its also = grind (arith, nat_tests, its, also)

module _ (w : World) (m : MarksAreDrafted w) (owner : ℕ) (cut : Cut) (living : List Transaction) (machine : Machine) where
  module _ (fits : (page : ℕ) → cut page ≡ true → is_some (without owner (w.draft page)) ≡ true) (opens : AreOpenIn (dead w owner) cut living) where
    other_one : (t : Transaction) → Contains living t → IsOther w owner (dead w owner) t.owner t
    other_one t lives = open-dead w owner t.owner t (opens.each t lives)

    died-opens : AreOpenIn w cut living
    died-opens = record {
      each = λ t lives. (other_one t lives).open_is.was;
      drafts = λ t page lives its. opens.drafts t page lives (kept_draft owner t.owner (w.draft page) (other_one t lives).apart its);
    }

    gone : is_owner_of living owner ≡ false
    gone = none_living living owner (λ t lives same. clash (t.owner == owner) (test_of_same t.owner owner same) (other_one t lives).apart)

    no_commit : (mark : Option ℕ) → IsMarkDrafted w owner mark → option_map_or cut mark false ≡ false
    no_commit None held = refl
    no_commit (Some page) held = go (cut page) refl where
      go : (b : Bool) → cut page ≡ b → b ≡ false
      go true is = absurd (clash (is_some (without owner (w.draft page))) (fits page is) (lost_draft owner (w.draft page) held.0))
      go false is = refl

    others : (o : ℕ) → ¬ (o ≡ owner) → commits_in (dead w owner) cut o ≡ commits_in w cut o
    others o differ = rw (test_of_different o owner differ) refl

    died-same : settled_by living (commits_in (dead w owner) cut) (after_end machine owner standing.RolledBack) ≡ settled_by living (commits_in w cut) machine
    died-same =
        subst (λ b. settled_by living (commits_in (dead w owner) cut) (after_end machine owner (end_by b)) ≡ settled_by living (commits_in w cut) machine)
        (no_commit (w.marked owner) (m owner))
        (ends_same living owner gone (commits_in w cut) (commits_in (dead w owner) cut) others machine)

    pub died-leads : LeadsTo w machine cut (dead w owner) (after_end machine owner standing.RolledBack) cut living
    died-leads = record { opens = died-opens; same = died-same }

  module _ (page : ℕ) (its : is_draft_of owner (w.draft page) ≡ true) (opens : AreOpenIn (written w owner page) cut living) where
    abbrev after : World
    after = written w owner page

    wrote-opens : AreOpenIn w (with_one page cut) living
    wrote-opens = record {
      each = λ t lives. (open-written w owner page t.owner t (opens.each t lives)).was;
      drafts = λ t p lives own. in_wider t p lives own (p == page) refl;
    } where
      in_wider : (t : Transaction) (p : ℕ) → Contains living t → is_draft_of t.owner (w.draft p) ≡ true → (b : Bool) → p == page ≡ b → (if b then true else cut p) ≡ true
      in_wider t p lives own true same = refl
      in_wider t p lives own false other = opens.drafts t p lives (rw other own)

    -- Whose mark is written is open no more.
    ended : is_mark_on page (w.marked owner) ≡ true → is_owner_of living owner ≡ false
    ended marked = none_living living owner (λ t lives same. over t (subst (λ o. after.transaction o ≡ Some t) same (opens.each t lives))) where
      over : (t : Transaction) → after.transaction owner ≡ Some t → ⊥
      over t is = go (owner == owner) (test_of_same owner owner refl) is where
        go : (b : Bool) → b ≡ true → (if b && is_mark_on page (w.marked owner) then None else w.transaction owner) ≡ Some t → ⊥
        go true key found = absurd (let none : None ≡ Some t = sym (ap (λ c. if c then None else w.transaction owner) marked) ∙ found in cc)
        go false key found = cc

    -- The marks of the others stand on other pages.
    other_mark : (o : ℕ) (mark : Option ℕ) → ¬ (o ≡ owner) → IsMarkDrafted w o mark → option_map_or cut mark false ≡ option_map_or (with_one page cut) mark false
    other_mark o None differ held = refl
    other_mark o (Some p) differ held = go (p == page) refl where
      go : (b : Bool) → p == page ≡ b → cut p ≡ (if b then true else cut p)
      go true same = absurd (differ (two_drafters owner o (w.draft page) its (subst (λ q. is_draft_of o (w.draft q) ≡ true) (same_from_test p page same) held.0)))
      go false other = refl

    others_mark : (o : ℕ) → ¬ (o ≡ owner) → commits_in after cut o ≡ commits_in w (with_one page cut) o
    others_mark o differ = rw (test_of_different o owner differ) (other_mark o (w.marked o) differ (m o))

    -- Without the mark nothing is committed by the write.
    same_mark : (mark : Option ℕ) → is_mark_on page mark ≡ false → option_map_or cut mark false ≡ option_map_or (with_one page cut) mark false
    same_mark None is = refl
    same_mark (Some p) is = rw is refl

    marked_page : (mark : Option ℕ) → is_mark_on page mark ≡ true → option_map_or (with_one page cut) mark false ≡ true
    marked_page None is = absurd cc
    marked_page (Some p) is = rw is refl

    all_same : is_mark_on page (w.marked owner) ≡ false → (o : ℕ) → commits_in after cut o ≡ commits_in w (with_one page cut) o
    all_same no_mark o = go (o == owner) refl where
      go : (b : Bool) → o == owner ≡ b → option_map_or cut (if b && is_mark_on page (w.marked o) then None else w.marked o) false ≡ option_map_or (with_one page cut) (w.marked o) false
      go true same = rw (same_from_test o owner same, no_mark) (same_mark (w.marked owner) no_mark)
      go false apart = other_mark o (w.marked o) (λ same. clash (o == owner) (test_of_same o owner same) apart) (m o)

    abbrev pub wrote_machine : Machine
    wrote_machine = machine_after machine (where_true (is_mark_on page (w.marked owner)) (command.Commit owner ∷ []))

    wrote-same : settled_by living (commits_in after cut) wrote_machine ≡ settled_by living (commits_in w (with_one page cut)) machine
    wrote-same = go (is_mark_on page (w.marked owner)) refl where
      go : (b : Bool) → is_mark_on page (w.marked owner) ≡ b → settled_by living (commits_in after cut) (machine_after machine (where_true b (command.Commit owner ∷ []))) ≡ settled_by living (commits_in w (with_one page cut)) machine
      go true is =
          subst (λ b. settled_by living (commits_in after cut) (after_end machine owner (end_by b)) ≡ settled_by living (commits_in w (with_one page cut)) machine)
          (marked_page (w.marked owner) is)
          (ends_same living owner (ended is) (commits_in w (with_one page cut)) (commits_in after cut) others_mark machine)
      go false is = other_commits_same living (commits_in after cut) (commits_in w (with_one page cut)) (λ o none. all_same is o) machine

    pub wrote-leads : LeadsTo w machine (with_one page cut) after wrote_machine cut living
    wrote-leads = record { opens = wrote-opens; same = wrote-same }
