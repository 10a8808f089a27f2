-- Where a version of an open transaction stands in a row, the newest version is of that transaction.
use Rattle.std.proofs.Common.{◌≡◌, ◌∙◌, ◌++◌, ◌⊎◌, ◌==◌, inl, inr, ℕ, true, List, ◌∷◌, Contains, sym, ap, subst}
use Rattle.std.specs.Prelude.{Some, filter_map, slice_get}
use Rattle.std.proofs.lemmas.Option.{same_Some}
use Rattle.fbc_kinds.specs.declared.snapshots.Transaction.{Transaction}
use Rattle.fbc_kinds.specs.Machine.{Machine, Made, is_open, is_open_of, newest, standing_versions}
use Rattle.fbc_kinds.proofs.Heads.{both_pass}
use Rattle.fbc_kinds.proofs.Tests.{same_from_test}
use Rattle.fbc_runs.specs.Orderly.{HasNewest, IsInFront, IsOpenAt, IsOrderly, StandsAt}
use Rattle.fbc_runs.proofs.FrontVersions.{newest_before, of_row, shown}
use Rattle.fbc_runs.proofs.Places.{found_at}
use Rattle.fbc_runs.proofs.Standings.{open_stands}

pub open_stands_at : (ts : List Transaction) (place : ℕ) (t : Transaction) → IsOpenAt ts place t → StandsAt ts place t
open_stands_at ts place t opens = (opens.0, open_stands t.standing opens.1)

-- An owner's open transaction is open at a place, and is the owner's.
pub open_of : (who : ℕ) (t : Transaction) → is_open_of who t ≡ true → (is_open t.standing ≡ true) × (t.owner ≡ who)
open_of who t passes = let both = both_pass (is_open t.standing) (t.owner == who) passes in (both.0, same_from_test t.owner who both.1)

pub same_at : (ts : List Transaction) (place other : ℕ) (t u : Transaction) → slice_get ts place ≡ Some t → slice_get ts other ≡ Some u → place ≡ other → t ≡ u
same_at ts place other t u at also same = same_Some t u (sym at ∙ ap (slice_get ts) same ∙ also)

module _ (machine : Machine) (orderly : IsOrderly machine) where
  pub opens_are_newest : (relation row : ℕ) (newer older : List Made) (w : Made) (t : Transaction)
      → machine.rows relation row ≡ newer ++ w ∷ older
      → IsOpenAt machine.transactions w.maker t
      → HasNewest t.number (newest (standing_versions machine relation row))
  opens_are_newest relation row newer older w t whole opens =
      let first = newest_before machine.transactions newer older w t (open_stands_at machine.transactions w.maker t opens) in
      let maker : first.made.maker ≡ w.maker = near first.near first.shows.maker first.shows.stands in
      let one : first.shows.maker ≡ t = same_at machine.transactions first.made.maker w.maker first.shows.maker t first.shows.stands.0 opens.0 maker in
      record {
        version = first.version;
        is = ap (λ vs. newest (filter_map (shown machine.transactions) vs)) whole ∙ first.is;
        same = first.shows.same ∙ ap (λ (u : Transaction). u.number) one;
      }
    where
      near : {v : Made} → (v ≡ w) ⊎ Contains newer v → (u : Transaction) → StandsAt machine.transactions v.maker u → v.maker ≡ w.maker
      near (inl same) u stands = ap (λ (x : Made). x.maker) same
      near {v} (inr within) u stands = orderly.front relation row newer older v w t u whole opens within stands

  -- A transaction that stands with an open one's number is that one.
  pub opens_by_number : (place other : ℕ) (t u : Transaction) → IsOpenAt machine.transactions place t → StandsAt machine.transactions other u → u.number ≡ t.number → other ≡ place
  opens_by_number place other t u opens stands same = orderly.numbers other place u t stands (open_stands_at machine.transactions place t opens) same

  pub own_in_front : (who : ℕ) → IsInFront machine who
  own_in_front who relation row t version is within same =
      let found = found_at (is_open_of who) machine.transactions t is in
      let opens : IsOpenAt machine.transactions found.0 t = (found.1.at, (open_of who t found.1.passes).0) in
      let made = of_row machine.transactions (machine.rows relation row) version within in
      let place : made.made.maker ≡ found.0 = opens_by_number found.0 made.made.maker t made.shows.maker opens made.shows.stands (sym made.shows.same ∙ same) in
      opens_are_newest relation row made.newer made.older made.made t made.is (subst (λ k. IsOpenAt machine.transactions k t) (sym place) opens)
