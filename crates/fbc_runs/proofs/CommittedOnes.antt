-- What the commit of an owner's open transaction changes.
use Rattle.std.proofs.Common.{◌≡◌, ◌∙◌, ◌==◌, ◌&&◌, ◌||◌, ℕ, zero, suc, Bool, true, false, not, List, [], ◌∷◌, refl, sym, ap, map, filter, find, if◌then◌else◌}
use Rattle.std.proofs.lemmas.Bool.{or_left, or_right}
use Rattle.std.specs.Prelude.{Option, Some, None, filter_map, slice_get}
use Rattle.std.specs.List.{cons_option}
use Rattle.std.specs.Option.{option_and_then}
use Rattle.std.proofs.lemmas.Option.{same_Some}
use Rattle.fbc_kinds.specs.declared.snapshots.Standing.{Standing}
use Rattle.fbc_kinds.specs.declared.snapshots.Standing.TheVariants as standing
use Rattle.fbc_kinds.specs.declared.snapshots.Transaction.{Transaction}
use Rattle.fbc_kinds.specs.Chain.{Version}
use Rattle.fbc_kinds.specs.Machine.{Machine, Made, after_end, committed_numbers, ended, is_committed, is_held, is_held_by_open, is_open, is_open_of, numbered, open_transaction, standing_versions}
use Rattle.fbc_kinds.proofs.Heads.{both_pass}
use Rattle.fbc_kinds.proofs.Tests.{same_from_test, test_of_different}
use Rattle.fbc_runs.specs.Orderly.{OwnersDiffer}
use Rattle.fbc_runs.proofs.Added.{maker_of}
use Rattle.fbc_runs.proofs.EndedOnes.{others_stay, own_ends}
use Rattle.fbc_runs.proofs.Places.{map_at}
use Rattle.fbc_runs.proofs.Searches.{all_at, all_from}
use Rattle.fbc_runs.proofs.Standings.{open_stands}

-- A committed transaction of a number.
pub record IsCommittedIn (ts : List Transaction) (number : ℕ) : Type 0 where
  pub place : ℕ
  pub item : Transaction
  pub at : slice_get ts place ≡ Some item
  pub committed : is_committed item.standing ≡ true
  pub numbered : (item.number == number) ≡ true

later_committed : (t : Transaction) (ts : List Transaction) (number : ℕ) → IsCommittedIn ts number → IsCommittedIn (t ∷ ts) number
later_committed t ts number is = record { place = suc is.place; item = is.item; at = is.at; committed = is.committed; numbered = is.numbered }

pub committed_in : (ts : List Transaction) (number : ℕ) → is_held (committed_numbers ts) number ≡ true → IsCommittedIn ts number
committed_in [] number is = cc
committed_in (t ∷ ts) number is = go (is_committed t.standing) refl (t.number == number) refl is (committed_in ts number)
  where
    go : (c : Bool) → is_committed t.standing ≡ c → (e : Bool) → (t.number == number) ≡ e
        → is_held (map (λ (u : Transaction). u.number) (if c then t ∷ filter (λ (u : Transaction). is_committed u.standing) ts else filter (λ (u : Transaction). is_committed u.standing) ts)) number ≡ true
        → (is_held (committed_numbers ts) number ≡ true → IsCommittedIn ts number) → IsCommittedIn (t ∷ ts) number
    go true committed true test is later = record { place = 0; item = t; at = refl; committed = committed; numbered = test }
    go true committed false test is later = later_committed t ts number (later (sym (ap (λ e. e || is_held (committed_numbers ts) number) test) ∙ is))
    go false committed e test is later = later_committed t ts number (later is)

pub committed_from : (ts : List Transaction) (number place : ℕ) (t : Transaction) → slice_get ts place ≡ Some t → is_committed t.standing ≡ true → (t.number == number) ≡ true → is_held (committed_numbers ts) number ≡ true
committed_from [] number place t at committed test = cc
committed_from (x ∷ ts) number zero t at committed test =
    let same = same_Some x t at in
    rw (ap (λ (u : Transaction). is_committed u.standing) same ∙ committed, ap (λ (u : Transaction). u.number == number) same ∙ test) refl
committed_from (x ∷ ts) number (suc place) t at committed test = go (is_committed x.standing) refl (committed_from ts number place t at committed test)
  where
    go : (c : Bool) → is_committed x.standing ≡ c → is_held (committed_numbers ts) number ≡ true → is_held (committed_numbers (x ∷ ts)) number ≡ true
    go true is later = rw is (or_right (x.number == number) (is_held (committed_numbers ts) number) later)
    go false is later = rw is later

-- What stands at a place of a mapped list.
pub record IsMapped {X Y : Type 0} (f : X → Y) (xs : List X) (place : ℕ) (y : Y) : Type 0 where
  pub item : X
  pub at : slice_get xs place ≡ Some item
  pub same : f item ≡ y

pub mapped_from : {X Y : Type 0} (f : X → Y) (xs : List X) (place : ℕ) (y : Y) → slice_get (map f xs) place ≡ Some y → IsMapped f xs place y
mapped_from f [] place y at = cc
mapped_from f (x ∷ xs) zero y at = record { item = x; at = refl; same = same_Some (f x) y at }
mapped_from f (x ∷ xs) (suc place) y at = let rest = mapped_from f xs place y at in record { item = rest.item; at = rest.at; same = rest.same }

-- The later machine has the owner's transaction of this number committed, and is as before in all else.
pub record Commits (before after : Machine) (who number : ℕ) : Type 0 where
  pub none : open_transaction after who ≡ None
  pub others : (other : ℕ) → ¬ (other ≡ who) → open_transaction after other ≡ open_transaction before other
  pub committed : (n : ℕ) → is_held (committed_numbers after.transactions) n ≡ ((number == n) || is_held (committed_numbers before.transactions) n)
  pub held : (n : ℕ) → is_held_by_open before.transactions n ≡ true → is_held_by_open after.transactions n ≡ true
  pub versions : (relation row : ℕ) → standing_versions after relation row ≡ standing_versions before relation row

committed_not_own : (who : ℕ) (t : Transaction) → is_committed t.standing ≡ true → is_open_of who t ≡ false
committed_not_own who t is = go t.standing is
  where
    go : (s : Standing) → is_committed s ≡ true → (is_open s && (t.owner == who)) ≡ false
    go standing.Open is = cc
    go standing.Committed is = refl
    go standing.RolledBack is = refl

pub both_ways : (x y : Bool) → (x ≡ true → y ≡ true) → (y ≡ true → x ≡ true) → x ≡ y
both_ways true y there back = sym (there refl)
both_ways false true there back = back refl
both_ways false false there back = refl

module _ (who : ℕ) where
  abbrev commit : Transaction → Transaction
  commit = ended who standing.Committed

  commit_own : (t : Transaction) → is_open_of who t ≡ true → commit t ≡ record t { standing = standing.Committed }
  commit_own t own = own_ends who standing.Committed t own

  commit_other : (t : Transaction) → is_open_of who t ≡ false → commit t ≡ t
  commit_other t other = others_stay who standing.Committed t other

  none_open : (ts : List Transaction) → find (is_open_of who) (map commit ts) ≡ None
  none_open [] = refl
  none_open (t ∷ ts) = ap (λ b. if b then Some (commit t) else find (is_open_of who) (map commit ts)) (closed (is_open_of who t) refl) ∙ none_open ts
    where
      closed : (b : Bool) → is_open_of who t ≡ b → is_open_of who (commit t) ≡ false
      closed true own = ap (is_open_of who) (commit_own t own)
      closed false other = ap (is_open_of who) (commit_other t other) ∙ other

  other_open : (other : ℕ) → ¬ (other ≡ who) → (ts : List Transaction) → find (is_open_of other) (map commit ts) ≡ find (is_open_of other) ts
  other_open other differ [] = refl
  other_open other differ (t ∷ ts) = go (is_open_of who t) refl (other_open other differ ts)
    where
      not_other : is_open_of who t ≡ true → is_open_of other t ≡ false
      not_other own =
          let both = both_pass (is_open t.standing) (t.owner == who) own in
          let same = same_from_test t.owner who both.1 in
          rw (both.0, test_of_different t.owner other (λ is. differ (sym is ∙ same))) refl

      go : (b : Bool) → is_open_of who t ≡ b → find (is_open_of other) (map commit ts) ≡ find (is_open_of other) ts → find (is_open_of other) (commit t ∷ map commit ts) ≡ find (is_open_of other) (t ∷ ts)
      go true own later =
          ap (λ u. find (is_open_of other) (u ∷ map commit ts)) (commit_own t own)
          ∙ later
          ∙ sym (ap (λ b. if b then Some t else find (is_open_of other) ts) (not_other own))
      go false apart later = ap (λ u. find (is_open_of other) (u ∷ map commit ts)) (commit_other t apart) ∙ ap (λ o. if is_open_of other t then Some t else o) later

  -- A version stands as before.
  numbered_same : (value : Option (List ℕ)) (t : Transaction) → numbered value (commit t) ≡ numbered value t
  numbered_same value t = go (is_open_of who t) refl
    where
      go : (b : Bool) → is_open_of who t ≡ b → numbered value (commit t) ≡ numbered value t
      go true own =
          let opened = (both_pass (is_open t.standing) (t.owner == who) own).0 in
          ap (numbered value) (commit_own t own)
          ∙ sym (ap (λ b. if b then None else Some (let v : Version = record { number = t.number; value = value } in v)) (open_stands t.standing opened))
      go false other = ap (numbered value) (commit_other t other)

  made_same : (value : Option (List ℕ)) (ts : List Transaction) (place : ℕ) → option_and_then (numbered value) (slice_get (map commit ts) place) ≡ option_and_then (numbered value) (slice_get ts place)
  made_same value [] place = refl
  made_same value (t ∷ ts) zero = numbered_same value t
  made_same value (t ∷ ts) (suc place) = made_same value ts place

  versions_same : (ts : List Transaction) (rows : List Made)
      → filter_map (λ (v : Made). option_and_then (numbered v.value) (slice_get (map commit ts) v.maker)) rows
      ≡ filter_map (λ (v : Made). option_and_then (numbered v.value) (slice_get ts v.maker)) rows
  versions_same ts [] = refl
  versions_same ts (v ∷ rows) = λ i. cons_option (made_same v.value ts v.maker i) (versions_same ts rows i)

  held_after : (ts : List Transaction) (number : ℕ) → is_held_by_open ts number ≡ true → is_held_by_open (map commit ts) number ≡ true
  held_after ts number all =
      all_from (λ (t : Transaction). not (is_open t.standing) || is_held t.snapshot number) (map commit ts)
      (λ place u at. each place u (mapped_from commit ts place u at))
    where
      each : (place : ℕ) (u : Transaction) → IsMapped commit ts place u → (not (is_open u.standing) || is_held u.snapshot number) ≡ true
      each place u is = ap (λ (t : Transaction). not (is_open t.standing) || is_held t.snapshot number) (sym is.same) ∙ go (is_open_of who is.item) refl
        where
          go : (b : Bool) → is_open_of who is.item ≡ b → (not (is_open (commit is.item).standing) || is_held (commit is.item).snapshot number) ≡ true
          go true own = ap (λ (t : Transaction). not (is_open t.standing) || is_held t.snapshot number) (commit_own is.item own)
          go false other =
              ap (λ (t : Transaction). not (is_open t.standing) || is_held t.snapshot number) (commit_other is.item other)
              ∙ all_at (λ (t : Transaction). not (is_open t.standing) || is_held t.snapshot number) ts place is.item all is.at

  module _ (m : Machine) (t : Transaction) (found : open_transaction m who ≡ Some t) (differ : OwnersDiffer m.transactions) where
    one_committed : (number : ℕ) → is_held (committed_numbers (map commit m.transactions)) number ≡ true → ((t.number == number) || is_held (committed_numbers m.transactions) number) ≡ true
    one_committed number is =
        let one_in = committed_in (map commit m.transactions) number is in
        let was = mapped_from commit m.transactions one_in.place one_in.item one_in.at in
        go one_in was (is_open_of who was.item) refl
      where
        go : (one_in : IsCommittedIn (map commit m.transactions) number) (was : IsMapped commit m.transactions one_in.place one_in.item) (b : Bool) → is_open_of who was.item ≡ b
            → ((t.number == number) || is_held (committed_numbers m.transactions) number) ≡ true
        go one_in was true own =
            let both = both_pass (is_open was.item.standing) (was.item.owner == who) own in
            let maker = maker_of m who t found in
            let place = differ one_in.place maker.maker was.item t (was.at, both.0) (maker.at, maker.opened) (same_from_test was.item.owner who both.1 ∙ sym maker.owner) in
            let one = same_Some was.item t (sym was.at ∙ ap (slice_get m.transactions) place ∙ maker.at) in
            or_left (t.number == number) (is_held (committed_numbers m.transactions) number)
            (ap (λ (u : Transaction). u.number == number) (sym one)
            ∙ ap (λ (u : Transaction). u.number == number) (sym (commit_own was.item own))
            ∙ ap (λ (u : Transaction). u.number == number) was.same
            ∙ one_in.numbered)
        go one_in was false other =
            let same = sym (commit_other was.item other) ∙ was.same in
            or_right (t.number == number) (is_held (committed_numbers m.transactions) number)
            (committed_from m.transactions number one_in.place was.item was.at
            (ap (λ (u : Transaction). is_committed u.standing) same ∙ one_in.committed)
            (ap (λ (u : Transaction). u.number == number) same ∙ one_in.numbered))

    still_committed : (number : ℕ) → ((t.number == number) || is_held (committed_numbers m.transactions) number) ≡ true → is_held (committed_numbers (map commit m.transactions)) number ≡ true
    still_committed number is = go (t.number == number) refl is
      where
        go : (b : Bool) → (t.number == number) ≡ b → (b || is_held (committed_numbers m.transactions) number) ≡ true → is_held (committed_numbers (map commit m.transactions)) number ≡ true
        go true test is =
            let maker = maker_of m who t found in
            let ends = commit_own t maker.own in
            committed_from (map commit m.transactions) number maker.maker (commit t) (map_at commit m.transactions maker.maker t maker.at)
            (ap (λ (u : Transaction). is_committed u.standing) ends)
            (ap (λ (u : Transaction). u.number == number) ends ∙ test)
        go false test is =
            let one_in = committed_in m.transactions number is in
            let stays = commit_other one_in.item (committed_not_own who one_in.item one_in.committed) in
            committed_from (map commit m.transactions) number one_in.place (commit one_in.item) (map_at commit m.transactions one_in.place one_in.item one_in.at)
            (ap (λ (u : Transaction). is_committed u.standing) stays ∙ one_in.committed)
            (ap (λ (u : Transaction). u.number == number) stays ∙ one_in.numbered)

    pub commits : Commits m (after_end m who standing.Committed) who t.number
    commits = record {
      none = none_open m.transactions;
      others = λ other differ. other_open other differ m.transactions;
      committed = λ number. both_ways _ _ (one_committed number) (still_committed number);
      held = held_after m.transactions;
      versions = λ relation row. versions_same m.transactions (m.rows relation row);
    }
