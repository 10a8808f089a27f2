-- Transactions that are rolled back, behind all others, change nothing of what a machine means.
use Rattle.std.proofs.Common.{◌≡◌, ◌++◌, ◌∷◌, [], ℕ, Bool, true, false, List, Option, Some, None, filter, find, filter_map, map, if◌then◌else◌, slice_get, inl, inr, refl, sym, ap, subst, ◌∙◌}
use Rattle.std.specs.Option.{option_and_then}
use Rattle.fbc_kinds.specs.declared.snapshots.Standing.{Standing}
use Rattle.fbc_kinds.specs.declared.snapshots.Standing.TheVariants as standing
use Rattle.fbc_kinds.specs.declared.snapshots.Transaction.{Transaction}
use Rattle.fbc_kinds.specs.Chain.{see}
use Rattle.fbc_kinds.specs.Machine.{Machine, Made, committed_numbers, is_committed, is_held, is_open, is_open_of, is_rolled_back, newest, numbered, open_transaction, standing_versions}
use Rattle.fbc_kinds.specs.Meaning.{IsSameNewest, IsSameOpen, MeanTheSame}
use Rattle.fbc_page_edits.proofs.Pushed.{pushed}
use Rattle.fbc_page_edits.proofs.SameMeaning.{same_newest, same_open}

-- Two lists of transactions have the same open and committed ones, and those that stand in the same places.
pub record StandAlike (ts us : List Transaction) : Type 0 where
  pub opened : (who : ℕ) → find (is_open_of who) us ≡ find (is_open_of who) ts
  pub committed : committed_numbers us ≡ committed_numbers ts
  pub placed : (value : Option (List ℕ)) (place : ℕ) → option_and_then (numbered value) (slice_get us place) ≡ option_and_then (numbered value) (slice_get ts place)

pub stand_alike_itself : (ts : List Transaction) → StandAlike ts ts
stand_alike_itself ts = record { opened = λ who. refl; committed = refl; placed = λ value place. refl }

rolled_not_open : (s : Standing) → is_rolled_back s ≡ true → is_open s ≡ false
rolled_not_open standing.Open is = cc
rolled_not_open standing.Committed is = refl
rolled_not_open standing.RolledBack is = refl

rolled_not_committed : (s : Standing) → is_rolled_back s ≡ true → is_committed s ≡ false
rolled_not_committed standing.Open is = refl
rolled_not_committed standing.Committed is = cc
rolled_not_committed standing.RolledBack is = refl

find_push : {X : Type 0} (test : X → Bool) (xs : List X) (x : X) → test x ≡ false → find test (xs ++ x ∷ []) ≡ find test xs
find_push test [] x fails = rw fails refl
find_push test (y ∷ ys) x fails = ap (λ o. if test y then Some y else o) (find_push test ys x fails)

filter_push : {X : Type 0} (test : X → Bool) (xs : List X) (x : X) → test x ≡ false → filter test (xs ++ x ∷ []) ≡ filter test xs
filter_push test [] x fails = rw fails refl
filter_push test (y ∷ ys) x fails = ap (λ kept. if test y then y ∷ kept else kept) (filter_push test ys x fails)

-- One more that is rolled back.
pub push_rolled_back : (ts us : List Transaction) (t : Transaction) → is_rolled_back t.standing ≡ true → StandAlike ts us → StandAlike ts (us ++ t ∷ [])
push_rolled_back ts us t rolled alike = record {
  opened = λ who. find_push (is_open_of who) us t (rw (rolled_not_open t.standing rolled) refl) ∙ alike.opened who;
  committed = ap (map (λ (u : Transaction). u.number)) (filter_push (λ (u : Transaction). is_committed u.standing) us t (rolled_not_committed t.standing rolled)) ∙ alike.committed;
  placed = λ value place. elim (pushed us t place) [
    | inl same ↦ ap (option_and_then (numbered value)) same ∙ alike.placed value place
    | inr is ↦
        let gone : numbered value t ≡ None = rw rolled refl in
        ap (option_and_then (numbered value)) is.new ∙ gone ∙ sym (ap (option_and_then (numbered value)) is.none) ∙ alike.placed value place
  ];
}

module _ (rows : ℕ → ℕ → List Made) (ts us : List Transaction) (alike : StandAlike ts us) where
  abbrev before : Machine
  before = record { rows = rows; transactions = ts }

  abbrev after : Machine
  after = record { rows = rows; transactions = us }

  pub standing_same : (relation row : ℕ) → standing_versions after relation row ≡ standing_versions before relation row
  standing_same relation row = λ i. filter_map (λ (v : Made). alike.placed v.value v.maker i) (rows relation row)

  -- Machines with the same rows mean the same.
  pub stand_alike_means_the_same : MeanTheSame before after
  stand_alike_means_the_same = record {
    same_open = λ who. subst (IsSameOpen (open_transaction before who)) (sym (alike.opened who)) (same_open (open_transaction before who));
    committed = λ number. ap (λ (numbers : List ℕ). is_held numbers number) (sym alike.committed);
    seen = λ who relation row. sym (λ i. option_and_then (λ (t : Transaction). see (standing_same relation row i) (is_held t.snapshot)) (alike.opened who i));
    seen_by_committed = λ relation row. sym (λ i. see (standing_same relation row i) (is_held (alike.committed i)));
    same_newest = λ relation row.
        subst (IsSameNewest before after (newest (standing_versions before relation row))) (ap newest (sym (standing_same relation row)))
        (same_newest before after (newest (standing_versions before relation row)));
  }
