-- A living owner's transaction goes on where others end, and what it changes comes to the same.
use Rattle.std.proofs.Common.{◌≡◌, ◌∙◌, ◌+◌, ℕ, Bool, true, false, ◌==◌, ◌&&◌, List, [], ◌∷◌, refl, sym, ap, map, find, if◌then◌else◌}
use Rattle.std.specs.Prelude.{Option, Some, None, is_none, is_some}
use Rattle.std.specs.List.{position_from}
use Rattle.fbc_kinds.specs.declared.replies.Reply.TheVariants as reply
use Rattle.fbc_kinds.specs.declared.snapshots.Transaction.{Transaction}
use Rattle.fbc_kinds.specs.Chain.{Version, see}
use Rattle.fbc_kinds.specs.Machine.{Machine, after_change, change_reply, changed, is_done, is_held, is_open, is_open_of, open_place, open_transaction, reply_in, standing_versions, with_version}
use Rattle.fbc_kinds.proofs.Heads.{both_pass}
use Rattle.fbc_kinds.proofs.Tests.{same_from_test}
use Rattle.fbc_runs.specs.Ended.{end_by, ended_by, is_owner_of, settled_by}
use Rattle.fbc_runs.proofs.EndedOnes.{Stands, closed, closed_end, closed_is_not_own, closed_stays, is_not_own, living_one, living_stays, other_ends, other_one, own, stands}

module _ (living : List Transaction) (commits : ℕ → Bool) (who : ℕ) (lives : is_owner_of living who ≡ true) where
  -- The owner's transaction is as before, and no other becomes its.
  same_own : (t : Transaction) → is_open_of who (ended_by living commits t) ≡ is_open_of who t
  same_own t = go (stands living who t)
    where
      go : Stands living who t → is_open_of who (ended_by living commits t) ≡ is_open_of who t
      go (closed is) = ap (is_open_of who) (closed_stays living commits t is)
      go (own is same) = ap (is_open_of who) (living_stays living commits t (ap (is_owner_of living) same ∙ lives))
      go (living_one is differ also) = ap (is_open_of who) (living_stays living commits t also)
      go (other_one is differ ends) =
          ap (is_open_of who) (other_ends living commits t is ends)
          ∙ closed_is_not_own who (record t { standing = end_by (commits t.owner) }) (closed_end (commits t.owner))
          ∙ sym (is_not_own who t is differ)

  own_stays : (t : Transaction) → is_open_of who t ≡ true → ended_by living commits t ≡ t
  own_stays t key =
      let both = both_pass (is_open t.standing) (t.owner == who) key in
      living_stays living commits t (ap (is_owner_of living) (same_from_test t.owner who both.1) ∙ lives)

  same_place : (ts : List Transaction) (from : ℕ) → position_from (is_open_of who) from (map (ended_by living commits) ts) ≡ position_from (is_open_of who) from ts
  same_place [] from = refl
  same_place (t ∷ ts) from = λ i. if same_own t i then Some from else same_place ts (from + 1) i

  same_found : (ts : List Transaction) → find (is_open_of who) (map (ended_by living commits) ts) ≡ find (is_open_of who) ts
  same_found [] = refl
  same_found (t ∷ ts) =
      ap (λ b. if b then Some (ended_by living commits t) else find (is_open_of who) (map (ended_by living commits) ts)) (same_own t)
      ∙ go (is_open_of who t) refl (same_found ts)
    where
      go : (b : Bool) → is_open_of who t ≡ b → find (is_open_of who) (map (ended_by living commits) ts) ≡ find (is_open_of who) ts
          → (if b then Some (ended_by living commits t) else find (is_open_of who) (map (ended_by living commits) ts)) ≡ (if b then Some t else find (is_open_of who) ts)
      go true key later = ap Some (own_stays t key)
      go false key later = later

  pub living_place : (m : Machine) → open_place (settled_by living commits m) who ≡ open_place m who
  living_place m = same_place m.transactions 0

  pub living_open : (m : Machine) → open_transaction (settled_by living commits m) who ≡ open_transaction m who
  living_open m = same_found m.transactions

  module _ (m : Machine) (relation row : ℕ) (value : Option (List ℕ)) where
    put_at : (o : Option ℕ) → settled_by living commits (with_version m o relation row value) ≡ with_version (settled_by living commits m) o relation row value
    put_at None = refl
    put_at (Some maker) = refl

    pub put_same : settled_by living commits (with_version m (open_place m who) relation row value) ≡ with_version (settled_by living commits m) (open_place (settled_by living commits m) who) relation row value
    put_same = put_at (open_place m who) ∙ sym (ap (λ o. with_version (settled_by living commits m) o relation row value) (living_place m))

-- A change that is answered so is done.
done_from_reply : (snapshot : List ℕ) (versions : List Version) → reply.Ok ≡ change_reply snapshot versions → is_done snapshot versions ≡ true
done_from_reply snapshot [] ok = cc
done_from_reply snapshot (version ∷ older) ok = go (see (version ∷ older) (is_held snapshot)) (is_held snapshot version.number) ok
  where
    go : (o : Option (List ℕ)) (b : Bool) → reply.Ok ≡ (if is_none o then reply.NoRow else if b then reply.Ok else reply.Conflict version.number) → (is_some o && b) ≡ true
    go None b ok = cc
    go (Some value) false ok = cc
    go (Some value) true ok = refl

pub done_change : (m : Machine) (who relation row : ℕ) (value : Option (List ℕ)) → reply.Ok ≡ reply_in (open_transaction m who) (changed m relation row)
    → after_change m who relation row value (open_transaction m who) ≡ with_version m (open_place m who) relation row value
done_change m who relation row value ok = go (open_transaction m who) ok
  where
    go : (o : Option Transaction) → reply.Ok ≡ reply_in o (changed m relation row) → after_change m who relation row value o ≡ with_version m (open_place m who) relation row value
    go None ok = cc
    go (Some t) ok = ap (λ b. if b then with_version m (open_place m who) relation row value else m) (done_from_reply t.snapshot (standing_versions m relation row) ok)

-- A done change of a living owner.
pub change_same : (living : List Transaction) (commits : ℕ → Bool) (who : ℕ) → is_owner_of living who ≡ true → (m : Machine) (relation row : ℕ) (value : Option (List ℕ))
    → reply.Ok ≡ reply_in (open_transaction m who) (changed m relation row)
    → reply.Ok ≡ reply_in (open_transaction (settled_by living commits m) who) (changed (settled_by living commits m) relation row)
    → settled_by living commits (after_change m who relation row value (open_transaction m who))
    ≡ after_change (settled_by living commits m) who relation row value (open_transaction (settled_by living commits m) who)
change_same living commits who lives m relation row value first second =
    ap (settled_by living commits) (done_change m who relation row value first)
    ∙ put_same living commits who lives m relation row value
    ∙ sym (done_change (settled_by living commits m) who relation row value second)
