-- A version that an owner's open transaction puts in front of a row.
use Rattle.std.proofs.Common.{◌≡◌, ◌∙◌, ◌+◌, ℕ, Bool, true, false, ◌==◌, ◌&&◌, List, ◌∷◌, refl, ap, arith, if◌then◌else◌}
use Rattle.std.specs.Prelude.{Option, Some, None, filter_map, slice_get}
use Rattle.std.specs.List.{cons_option}
use Rattle.std.specs.Option.{option_and_then}
use Rattle.fbc_kinds.specs.declared.snapshots.Transaction.{Transaction}
use Rattle.fbc_kinds.specs.Chain.{Version}
use Rattle.fbc_kinds.specs.Machine.{Machine, Made, is_open, is_open_of, numbered, open_place, open_transaction, standing_versions, with_version}
use Rattle.fbc_kinds.proofs.Heads.{both_pass}
use Rattle.fbc_kinds.proofs.Tests.{same_from_test}
use Rattle.fbc_runs.proofs.Searches.{no_place, placed}
use Rattle.fbc_runs.proofs.Standings.{open_stands}

-- A version in front of the others, where it belongs there.
abbrev pub with_first : Bool → Version → List Version → List Version
with_first true version versions = version ∷ versions
with_first false version versions = versions

-- The later machine has the version in front of the row, and is as before in all else.
pub record Adds (before after : Machine) (relation row : ℕ) (version : Version) : Type 0 where
  pub transactions : after.transactions ≡ before.transactions
  pub versions : (r k : ℕ) → standing_versions after r k ≡ with_first ((relation == r) && (row == k)) version (standing_versions before r k)

-- The place that the machine names as the maker of what an owner puts.
pub record IsMaker (m : Machine) (who : ℕ) (t : Transaction) : Type 0 where
  pub maker : ℕ
  pub is : open_place m who ≡ Some maker
  pub at : slice_get m.transactions maker ≡ Some t
  pub own : is_open_of who t ≡ true
  pub opened : is_open t.standing ≡ true
  pub owner : t.owner ≡ who

pub maker_of : (m : Machine) (who : ℕ) (t : Transaction) → open_transaction m who ≡ Some t → IsMaker m who t
maker_of m who t is =
    let found = placed (is_open_of who) m.transactions t 0 is in
    let start : 0 + found.place ≡ found.place = omega arith in
    let both = both_pass (is_open t.standing) (t.owner == who) found.passes in
    record { maker = found.place; is = found.is ∙ ap Some start; at = found.at; own = found.passes; opened = both.0; owner = same_from_test t.owner who both.1 }

module _ (m : Machine) (who relation row : ℕ) (value : Option (List ℕ)) where
  abbrev stands : Made → Option Version
  stands v = option_and_then (numbered v.value) (slice_get m.transactions v.maker)

  module _ (maker : ℕ) (t : Transaction) (at : slice_get m.transactions maker ≡ Some t) (opened : is_open t.standing ≡ true) where
    made : stands (record { maker = maker; value = value }) ≡ Some (record { number = t.number; value = value })
    made = rw (at, open_stands t.standing opened) refl

    front : (rows : List Made) (b : Bool)
        → filter_map stands (if b then record { maker = maker; value = value } ∷ rows else rows)
        ≡ with_first b (record { number = t.number; value = value }) (filter_map stands rows)
    front rows true = ap (λ o. cons_option o (filter_map stands rows)) made
    front rows false = refl

    adds_at : Adds m (with_version m (Some maker) relation row value) relation row (record { number = t.number; value = value })
    adds_at = record { transactions = refl; versions = λ r k. front (m.rows r k) ((relation == r) && (row == k)) }

  pub adds : (t : Transaction) → open_transaction m who ≡ Some t → Adds m (with_version m (open_place m who) relation row value) relation row (record { number = t.number; value = value })
  adds t is = let found = maker_of m who t is in rw (found.is) (adds_at found.maker t found.at found.opened)

  pub adds_nothing : open_transaction m who ≡ None → with_version m (open_place m who) relation row value ≡ m
  adds_nothing is = ap (λ o. with_version m o relation row value) (no_place (is_open_of who) m.transactions 0 is)
