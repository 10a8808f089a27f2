-- A mark as committed: where its owner is living it is not read, and otherwise it commits the owner's transaction.
use Rattle.std.proofs.Common.{◌≡◌, ◌∙◌, ◌<◌, ◌/◌, ℕ, Bool, true, false, ◌∷◌, List, Some, refl, sym, subst, ap, inl}
use Rattle.std.specs.Prelude.{Contains}
use Rattle.std.proofs.lemmas.Option.{same_Some}
use Rattle.fbc_kinds.specs.declared.edits.Edit.TheVariants.{Mark}
use Rattle.fbc_kinds.specs.declared.pages.Page.{Page}
use Rattle.fbc_kinds.specs.declared.pages.State.TheVariants.{Committed}
use Rattle.fbc_kinds.specs.declared.shapes.Shape.{Shape}
use Rattle.fbc_kinds.specs.declared.snapshots.Standing.TheVariants as standing
use Rattle.fbc_kinds.specs.declared.snapshots.Transaction.{Transaction}
use Rattle.fbc_kinds.specs.Chain.{state_of}
use Rattle.fbc_kinds.specs.Limits.{tip_numbers}
use Rattle.fbc_kinds.specs.Machine.{Machine, after_end}
use Rattle.fbc_kinds.specs.Meaning.{meaning_with}
use Rattle.fbc_kinds.specs.Reach.{Reaches, TipRole}
use Rattle.fbc_kinds.specs.View.{View, is_committed_state}
use Rattle.fbc_kinds.proofs.Tests.{test_of_same}
use Rattle.fbc_meanings.specs.Beside.{IsApart}
use Rattle.fbc_numbers.proofs.CutFacts.{clash, never-committed}
use Rattle.fbc_numbers.proofs.DeadMarks.{begun-seen}
use Rattle.fbc_numbers.proofs.NamedTips.{commit-named, tip_seen}
use Rattle.fbc_version_edits.specs.Forms.{IsAdmittedEdit}
use Rattle.fbc_version_edits.specs.Open.{AreOpen}
use Rattle.fbc_runs.specs.Ended.{is_owner_of, settled_by}
use Rattle.fbc_runs.specs.Orderly.{IsInFront, IsOrderly, OwnersDiffer}
use Rattle.fbc_runs.specs.Reading.{ReadsAs}
use Rattle.fbc_runs.proofs.Ends.{commit_same, other_commits_same}
use Rattle.fbc_runs.proofs.Endings.{settled_by_orderly}
use Rattle.fbc_runs.proofs.InFrontOfOpens.{own_in_front}
use Rattle.fbc_runs.proofs.Numbers.{first_in, later_in}
use Rattle.fbc_page_edits.specs.Allowed.{Fits}
use Rattle.fbc_page_edits.specs.Edited.{with_page}
use Rattle.fbc_world.specs.History.{History}
use Rattle.fbc_world.specs.Holdings.{is_draft_of}
use Rattle.fbc_world.specs.World.{World, is_number_of, world_of}
use Rattle.fbc_legal.specs.Scene.{Scene, scene_of}
use Rattle.fbc_closed_cuts.specs.Cut.{Cut, view}
use Rattle.fbc_closed_cuts.proofs.WriteViews.{draft_there}
use Rattle.fbc_simulation.specs.Beside.{AreOpenIn, commits_in, machine_of}
use Rattle.fbc_simulation.specs.EditIn.{EditIsMeant, IsEditIn, commits_made}
use Rattle.fbc_simulation.proofs.LivingOwners.{HasLiving, has_living, lives_of, other_value, own_value}
use Rattle.fbc_simulation.proofs.OpensBeside.{of_owner, one_more_open, opens_are_open}

module _ (shape : Shape) (file : View) (past : History) (owner page number : ℕ) (content : Page) (cut : Cut) (living : List Transaction)
    (is : IsEditIn shape file past owner page (Mark number Committed) content cut living) where
  abbrev at : Scene
  at = scene_of shape file past

  abbrev w : World
  w = world_of shape file past

  abbrev seen : View
  seen = view w cut

  abbrev m : Machine
  m = machine_of shape file past

  -- The owner's open transaction, which is marked.
  abbrev pub marked : Transaction
  marked = is.sees.guard.row.0

  is_open : w.transaction owner ≡ Some marked
  is_open = is.sees.guard.row.1

  its_own : marked.owner ≡ owner
  its_own = (is.whole.order.numbered.stand owner marked is_open).own

  is_open_of_own : w.transaction marked.owner ≡ Some marked
  is_open_of_own = subst (λ o. w.transaction o ≡ Some marked) (sym its_own) is_open

  pub same_number : marked.number ≡ number
  same_number = sym is.sees.guard.row.2

  abbrev also : ℕ → Bool
  also = commits_made w owner (Mark number Committed) cut

  apart_same : (other : ℕ) → ¬ (other ≡ owner) → also other ≡ commits_in w cut other
  apart_same other apart = other_value (is_number_of number (w.transaction owner)) (commits_in w cut) owner other apart

  pub commit_admitted : IsAdmittedEdit shape seen page (Mark number Committed) content
  commit_admitted = record {
    of_shape = is.sees.of_shape;
    sound = is.sees.sound;
    own = tt;
    fits = is.sees.fits;
    allowed = record { begun = begun-seen at owner page number Committed is.sees.guard seen _ is.sees.sees; stays = inl refl };
  }

  -- Where the owner is living, it is so with the marked transaction.
  module _ (yes : is_owner_of living owner ≡ true) where
    found : HasLiving living owner
    found = has_living living owner yes

    found_is : found.t ≡ marked
    found_is = same_Some found.t marked (sym (of_owner w found.t owner (is.opens.each found.t found.lives) found.own) ∙ is_open)

    pub lives_still : Contains living marked
    lives_still = subst (Contains living) found_is found.lives

    pub still_meant : ReadsAs (meaning_with living (with_page seen page content)) (settled_by living (commits_in w cut) m) → EditIsMeant shape file past owner page (Mark number Committed) content cut living
    still_meant reads =
        subst (ReadsAs (meaning_with living (with_page seen page content)))
        (other_commits_same living (commits_in w cut) also (λ other ends. sym (apart_same other (λ same. clash (is_owner_of living owner) yes (subst (λ o. is_owner_of living o ≡ false) same ends)))) m)
        reads

  -- Where it is not, its transaction is open beside the cut too.
  module _ (gone : is_owner_of living owner ≡ false) where
    in_cut : (p : ℕ) → is_draft_of marked.owner (w.draft p) ≡ true → cut p ≡ true
    in_cut p own =
        let of_own : is_draft_of owner (w.draft p) ≡ true = subst (λ o. is_draft_of o (w.draft p) ≡ true) its_own own in
        let here : p ≡ page = is.sees.guard.row.3 p of_own in
        subst (λ q. cut q ≡ true) (sym here) (is.drafted (draft_there owner (w.draft page) (subst (λ q. is_draft_of owner (w.draft q) ≡ true) here of_own)))

    more : AreOpenIn w cut (marked ∷ living)
    more = one_more_open w cut marked living is.opens is_open_of_own in_cut

    abbrev pub before : Machine
    before = settled_by (marked ∷ living) (commits_in w cut) m

    pub reads_before : ReadsAs (meaning_with (marked ∷ living) seen) before
    reads_before = is.simulated.meant cut (marked ∷ living) is.closed more

    pub open_ones : AreOpen (marked ∷ living)
    open_ones = opens_are_open w is.whole.order.numbered.stand is.whole.order.numbered.differ cut (marked ∷ living) more

    other_owner : (u : Transaction) → Contains living u → ¬ (u.owner ≡ marked.owner)
    other_owner u lives same = clash (is_owner_of living owner) (subst (λ o. is_owner_of living o ≡ true) (same ∙ its_own) (lives_of living u lives)) gone

    pub apart : IsApart living marked
    apart = record {
      owner = other_owner;
      number = λ u lives same. other_owner u lives (ap (λ (t : Transaction). t.owner) (open_ones.one_number u marked (later_in marked living u lives) (first_in marked living) same));
    }

    pub above : 0 < marked.number
    above = (is.whole.apart.own owner marked is_open).above

    pub uncommitted : is_committed_state (state_of seen number) ≡ false
    uncommitted =
        subst (λ n. is_committed_state (state_of seen n) ≡ false) same_number
        (never-committed w is.whole.order.numbered.grow marked.number (is.whole.order.numbered.uncommitted owner marked is_open is.sees.guard.unmarked) cut is.closed)

    pub reached : Reaches seen (TipRole (number / tip_numbers shape.size)) page
    reached =
        tip_seen w is.whole.order.upheld.headers cut (number / tip_numbers shape.size) page
        (commit-named at owner page number content is.sees.guard.named is.sees.guard.row
        (subst (λ o. Fits shape (Mark number Committed) o content) is.sees.sees.edited_page.page is.sees.fits))

    orderly : IsOrderly before
    orderly = settled_by_orderly (marked ∷ living) (commits_in w cut) m is.simulated.orderly

    pub in_front : IsInFront before marked.owner
    in_front = own_in_front before orderly marked.owner

    pub owners_differ : OwnersDiffer before.transactions
    owners_differ = orderly.owners

    commits : also marked.owner ≡ true
    commits =
        own_value (is_number_of number (w.transaction owner)) (commits_in w cut) owner marked.owner its_own
        ∙ ap (is_number_of number) is_open
        ∙ test_of_same marked.number number same_number

    pub commit_meant : ReadsAs (meaning_with living (with_page seen page content)) (after_end before marked.owner standing.Committed) → EditIsMeant shape file past owner page (Mark number Committed) content cut living
    commit_meant reads =
        subst (ReadsAs (meaning_with living (with_page seen page content)))
        (commit_same marked living (subst (λ o. is_owner_of living o ≡ false) (sym its_own) gone) (commits_in w cut) also commits
        (λ other apart_from. apart_same other (λ same. apart_from (same ∙ sym its_own))) m)
        reads
