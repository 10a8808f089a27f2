-- What stands beside the machine where a transaction may begin.
use Rattle.std.proofs.Common.{◌≡◌, ◌∙◌, ◌<◌, ◌≤◌, ◌||◌, ℕ, Bool, true, false, List, [], Contains, Option, Some, None, find, refl, sym, ap, subst, arith}
use Rattle.std.specs.Prelude.{nat_lt, slice_get}
use Rattle.std.specs.Option.{option_map_or}
use Rattle.std.proofs.lemmas.Bool.Decides.{nat_tests}
use Rattle.fbc_kinds.specs.declared.shapes.Shape.{Shape}
use Rattle.fbc_kinds.specs.declared.snapshots.Standing.{Standing}
use Rattle.fbc_kinds.specs.declared.snapshots.Standing.TheVariants as standing
use Rattle.fbc_kinds.specs.declared.snapshots.Transaction.{Transaction}
use Rattle.fbc_kinds.specs.Machine.{Machine, committed_numbers, is_committed, is_greater_number, is_held, is_open, is_open_of, is_rolled_back}
use Rattle.fbc_kinds.specs.Meaning.{IsSameOpen, meaning_of, meaning_with}
use Rattle.fbc_kinds.specs.Sound.{IsSound}
use Rattle.fbc_kinds.specs.View.{View, next_of}
use Rattle.fbc_runs.specs.Orderly.{StandsAt}
use Rattle.fbc_runs.proofs.CommittedNumbers.{held_by_committed}
use Rattle.fbc_runs.proofs.CommittedOnes.{both_ways}
use Rattle.fbc_runs.proofs.Opens.{own_found}
use Rattle.fbc_runs.proofs.Searches.{all_from}
use Rattle.fbc_world.specs.History.{History}
use Rattle.fbc_world.specs.World.{World, newest_of, world_of}
use Rattle.fbc_legal.specs.Guards.{MayBegin}
use Rattle.fbc_legal.specs.Legal.{IsLegal}
use Rattle.fbc_legal.specs.Scene.{scene_of}
use Rattle.fbc_closed_cuts.specs.Cut.{Cut, IsClosedCut, view}
use Rattle.fbc_closed_cuts.specs.Upheld.{IsUpheld}
use Rattle.fbc_numbers.specs.Numbers.{IsNumbered, is_committed_in}
use Rattle.fbc_numbers.proofs.BeginFacts.{begin-greatest, begin-new, legal-begin-committed}
use Rattle.fbc_numbers.proofs.CutFacts.{all-closed, all-view, all_drafts, committed-newest, kept-committed, no_draft, none-closed}
use Rattle.fbc_soundness.specs.Whole.{IsWhole}
use Rattle.fbc_simulation.specs.Beside.{commits_in, machine_of}
use Rattle.fbc_simulation.specs.Simulated.{IsSimulated}
use Rattle.fbc_simulation.proofs.CommittedOnes.{IsCommittedNumber, committed_begun, committed_is_held, ends_commit_nothing, held_is_committed}

none_in : (t : Transaction) → ¬ Contains [] t
none_in t at = absurd (grind (arith, at.1))

module _ (shape : Shape) (file : View) (past : History) (legal : IsLegal shape file past) (whole : IsWhole (scene_of shape file past)) (s : IsSimulated (scene_of shape file past)) where
  abbrev pub w : World
  w = world_of shape file past

  abbrev pub machine : Machine
  machine = machine_of shape file past

  u : IsUpheld (scene_of shape file past)
  u = whole.order.upheld

  k : IsNumbered (scene_of shape file past)
  k = whole.order.numbered

  pub sound_newest : IsSound (newest_of w)
  sound_newest = subst IsSound (all-view w) (u.sound (all_drafts w) (all-closed w))

  sound_kept : IsSound w.kept
  sound_kept = u.sound no_draft (none-closed w)

  no_commits : (mark : Option ℕ) → option_map_or no_draft mark false ≡ false
  no_commits None = refl
  no_commits (Some page) = refl

  -- The machine has committed what the file shows as committed.
  pub machine_commits : (number : ℕ) → is_held (committed_numbers (meaning_of w.kept).transactions) number ≡ is_held (committed_numbers machine.transactions) number
  machine_commits number =
      (s.meant no_draft [] (none-closed w) (record { each = λ t lives. absurd (none_in t lives); drafts = λ t page lives its. absurd (none_in t lives) })).means.committed number
      ∙ ap (λ (numbers : List ℕ). is_held numbers number) (ends_commit_nothing [] (commits_in w no_draft) (λ o. no_commits (w.marked o)) machine.transactions)

  module _ (owner number word : ℕ) (may : MayBegin (scene_of shape file past) owner number word) where
    newest_kept : (n : ℕ) → is_committed_in (newest_of w) n ≡ is_committed_in w.kept n
    newest_kept n = legal-begin-committed shape file past owner number word n legal u k may

    -- A snapshot that is taken now holds the same in every view.
    module _ (cut : Cut) (closed : IsClosedCut w cut) (living : List Transaction) (opened : (t : Transaction) → Contains living t → t.standing ≡ standing.Open)
        (out : (t : Transaction) → Contains living t → is_committed_in w.kept t.number ≡ false) where
      sound_view : IsSound (view w cut)
      sound_view = u.sound cut closed

      in_newest : (n : ℕ) → IsCommittedNumber (view w cut) living n → IsCommittedNumber (newest_of w) [] n
      in_newest n is = record { above = is.above; committed = committed-newest w k.grow n cut closed is.committed; closed = λ t lives. absurd (none_in t lives) }

      in_view : (n : ℕ) → IsCommittedNumber (newest_of w) [] n → IsCommittedNumber (view w cut) living n
      in_view n is =
          let kept : is_committed_in w.kept n ≡ true = sym (newest_kept n) ∙ is.committed in
          record {
            above = is.above;
            committed = kept-committed w k.grow n cut closed kept;
            closed = λ t lives same. absurd (let both : true ≡ false = sym kept ∙ ap (is_committed_in w.kept) (sym same) ∙ out t lives in cc);
          }

      pub view_commits : (n : ℕ) → is_held (committed_numbers (meaning_of (newest_of w)).transactions) n ≡ is_held (committed_numbers (meaning_with living (view w cut)).transactions) n
      view_commits n =
          both_ways _ _
          (λ held. committed_is_held (view w cut) living sound_view opened n (in_view n (held_is_committed (newest_of w) [] sound_newest (λ t lives. absurd (none_in t lives)) n held)))
          (λ held. committed_is_held (newest_of w) [] sound_newest (λ t lives. absurd (none_in t lives)) n (in_newest n (held_is_committed (view w cut) living sound_view opened n held)))

    -- And so it does in the machine.
    pub snapshot_commits : (n : ℕ) → is_held (committed_numbers (meaning_of (newest_of w)).transactions) n ≡ is_held (committed_numbers machine.transactions) n
    snapshot_commits n = view_commits no_draft (none-closed w) [] (λ t lives. absurd (none_in t lives)) (λ t lives. absurd (none_in t lives)) n ∙ machine_commits n

    -- Every transaction of the machine that is not rolled back has a smaller number.
    pub smaller_stand : (place : ℕ) (t : Transaction) → StandsAt machine.transactions place t → t.number < number
    smaller_stand place t stands = go t.standing refl where
      open_one : (o : Option Transaction) → w.transaction t.owner ≡ o → IsSameOpen o (Some t) → t.number < number
      open_one None is same = absurd same
      open_one (Some x) is same = subst (λ n. n < number) same.number (begin-greatest (scene_of shape file past) u owner number word may k t.owner x is)

      go : (st : Standing) → t.standing ≡ st → t.number < number
      go standing.Open is =
          let found : find (is_open_of t.owner) machine.transactions ≡ Some t = own_found machine.transactions s.orderly.owners place t stands.0 (ap is_open is) in
          open_one (w.transaction t.owner) refl (subst (IsSameOpen (w.transaction t.owner)) found (s.opens t.owner))
      go standing.Committed is =
          let held : is_held (committed_numbers machine.transactions) t.number ≡ true = held_by_committed machine.transactions t.number (record { place = place; maker = t; at = stands.0; committed = ap is_committed is; same = refl }) in
          let committed = held_is_committed w.kept [] sound_kept (λ v lives. absurd (none_in v lives)) t.number (machine_commits t.number ∙ held) in
          let below = committed_begun w.kept t.number sound_kept committed.committed in
          let new : next_of w.kept ≤ number = begin-new (scene_of shape file past) u owner number word may no_draft in
          grind (arith, below, new)
      go standing.RolledBack is = absurd (let rolled : true ≡ false = sym (ap is_rolled_back is) ∙ stands.1 in cc)

    -- So the begin may come.
    pub begin_comes : is_greater_number machine.transactions number ≡ true
    begin_comes = all_from (λ (t : Transaction). is_rolled_back t.standing || nat_lt t.number number) machine.transactions (λ place t at. each place t at (is_rolled_back t.standing) refl) where
      each : (place : ℕ) (t : Transaction) → slice_get machine.transactions place ≡ Some t → (b : Bool) → is_rolled_back t.standing ≡ b → (b || nat_lt t.number number) ≡ true
      each place t at true rolled = refl
      each place t at false stands = let less = smaller_stand place t (at, stands) in grind (arith, nat_tests, less)
