-- Ends of owners that end anyway, and what an end depends on.
use Rattle.std.proofs.Common.{◌≡◌, ◌∙◌, ℕ, Bool, true, false, not, ◌&&◌, List, ◌∷◌, refl, sym, ap, if◌then◌else◌}
use Rattle.fbc_kinds.specs.declared.snapshots.Standing.TheVariants as standing
use Rattle.fbc_kinds.specs.declared.snapshots.Transaction.{Transaction}
use Rattle.fbc_kinds.specs.Machine.{Machine, after_end, ended, is_open}
use Rattle.fbc_kinds.proofs.Tests.{test_of_different, test_of_same}
use Rattle.fbc_runs.specs.Ended.{end_by, ended_by, is_owner_of, settled_by}
use Rattle.fbc_runs.proofs.EndedOnes.{Stands, closed, closed_end, closed_is_not_own, closed_stays, is_not_own, is_own, living_one, living_stays, map_same, map_twice, other_ends, other_one, others_stay, own, own_ends, stands, with_same}

module _ (living : List Transaction) (who : ℕ) (none : is_owner_of living who ≡ false) (commits also : ℕ → Bool) (others : (owner : ℕ) → ¬ (owner ≡ who) → also owner ≡ commits owner) where
  end_once : (t : Transaction) → ended_by living also (ended who (end_by (commits who)) t) ≡ ended_by living commits t
  end_once t = go (stands living who t)
    where
      go : Stands living who t → ended_by living also (ended who (end_by (commits who)) t) ≡ ended_by living commits t
      go (closed is) = ap (ended_by living also) (others_stay who _ t (closed_is_not_own who t is)) ∙ closed_stays living also t is ∙ sym (closed_stays living commits t is)
      go (own is same) =
          ap (ended_by living also) (own_ends who (end_by (commits who)) t (is_own who t is same))
          ∙ closed_stays living also (record t { standing = end_by (commits who) }) (closed_end (commits who))
          ∙ ap (λ owner. let u : Transaction = record t { standing = end_by (commits owner) } in u) (sym same)
          ∙ sym (other_ends living commits t is (ap (is_owner_of living) same ∙ none))
      go (living_one is differ lives) =
          ap (ended_by living also) (others_stay who _ t (is_not_own who t is differ)) ∙ living_stays living also t lives ∙ sym (living_stays living commits t lives)
      go (other_one is differ ends) =
          ap (ended_by living also) (others_stay who _ t (is_not_own who t is differ))
          ∙ other_ends living also t is ends
          ∙ ap (λ b. let u : Transaction = record t { standing = end_by b } in u) (others t.owner differ)
          ∙ sym (other_ends living commits t is ends)

  -- An owner's end that comes anyway changes nothing.
  pub ends_same : (m : Machine) → settled_by living also (after_end m who (end_by (commits who))) ≡ settled_by living commits m
  ends_same m = with_same m _ _ (map_twice (ended_by living also) (ended who (end_by (commits who))) (ended_by living commits) m.transactions end_once)

-- Only the commits of owners that are not living matter.
pub other_commits_same : (living : List Transaction) (commits also : ℕ → Bool) → ((owner : ℕ) → is_owner_of living owner ≡ false → commits owner ≡ also owner) → (m : Machine) → settled_by living commits m ≡ settled_by living also m
other_commits_same living commits also same m = with_same m _ _ (map_same (ended_by living commits) (ended_by living also) m.transactions each)
  where
    each : (t : Transaction) → ended_by living commits t ≡ ended_by living also t
    each t = go (is_owner_of living t.owner) refl
      where
        go : (b : Bool) → is_owner_of living t.owner ≡ b → ended_by living commits t ≡ ended_by living also t
        go true lives = living_stays living commits t lives ∙ sym (living_stays living also t lives)
        go false ends = ap (λ b. if is_open t.standing && not (is_owner_of living t.owner) then record t { standing = end_by b } else t) (same t.owner ends)

-- And of the living ones only their owners.
pub other_living_same : (living others : List Transaction) (commits : ℕ → Bool) → ((owner : ℕ) → is_owner_of living owner ≡ is_owner_of others owner) → (m : Machine) → settled_by living commits m ≡ settled_by others commits m
other_living_same living others commits same m = with_same m _ _ (map_same (ended_by living commits) (ended_by others commits) m.transactions each)
  where
    each : (t : Transaction) → ended_by living commits t ≡ ended_by others commits t
    each t = ap (λ b. if is_open t.standing && not b then record t { standing = end_by (commits t.owner) } else t) (same t.owner)

-- The commit of a living owner ends it.
module _ (first : Transaction) (living : List Transaction) (none : is_owner_of living first.owner ≡ false) (commits also : ℕ → Bool)
    (commit : also first.owner ≡ true) (others : (owner : ℕ) → ¬ (owner ≡ first.owner) → also owner ≡ commits owner) where
  first_lives : (owner : ℕ) → owner ≡ first.owner → is_owner_of (first ∷ living) owner ≡ true
  first_lives owner same = rw (test_of_same first.owner owner (sym same)) refl

  one_more : (owner : ℕ) → ¬ (owner ≡ first.owner) → is_owner_of (first ∷ living) owner ≡ is_owner_of living owner
  one_more owner differ = rw (test_of_different first.owner owner (λ same. differ (sym same))) refl

  commit_once : (t : Transaction) → ended first.owner standing.Committed (ended_by (first ∷ living) commits t) ≡ ended_by living also t
  commit_once t = go (stands living first.owner t)
    where
      go : Stands living first.owner t → ended first.owner standing.Committed (ended_by (first ∷ living) commits t) ≡ ended_by living also t
      go (closed is) =
          ap (ended first.owner standing.Committed) (closed_stays (first ∷ living) commits t is)
          ∙ others_stay first.owner standing.Committed t (closed_is_not_own first.owner t is)
          ∙ sym (closed_stays living also t is)
      go (own is same) =
          ap (ended first.owner standing.Committed) (living_stays (first ∷ living) commits t (first_lives t.owner same))
          ∙ own_ends first.owner standing.Committed t (is_own first.owner t is same)
          ∙ ap (λ b. let u : Transaction = record t { standing = end_by b } in u) (sym (ap also same ∙ commit))
          ∙ sym (other_ends living also t is (ap (is_owner_of living) same ∙ none))
      go (living_one is differ lives) =
          ap (ended first.owner standing.Committed) (living_stays (first ∷ living) commits t (one_more t.owner differ ∙ lives))
          ∙ others_stay first.owner standing.Committed t (is_not_own first.owner t is differ)
          ∙ sym (living_stays living also t lives)
      go (other_one is differ ends) =
          ap (ended first.owner standing.Committed) (other_ends (first ∷ living) commits t is (one_more t.owner differ ∙ ends))
          ∙ others_stay first.owner standing.Committed (record t { standing = end_by (commits t.owner) })
          (closed_is_not_own first.owner (record t { standing = end_by (commits t.owner) }) (closed_end (commits t.owner)))
          ∙ ap (λ b. let u : Transaction = record t { standing = end_by b } in u) (sym (others t.owner differ))
          ∙ sym (other_ends living also t is ends)

  pub commit_same : (m : Machine) → after_end (settled_by (first ∷ living) commits m) first.owner standing.Committed ≡ settled_by living also m
  commit_same m = with_same m _ _ (map_twice (ended first.owner standing.Committed) (ended_by (first ∷ living) commits) (ended_by living also) m.transactions commit_once)
