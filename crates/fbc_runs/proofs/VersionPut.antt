-- An open transaction puts a version in front of a row whose newest version its snapshot holds.
use Rattle.std.proofs.Common.{◌≡◌, ◌∙◌, ◌<◌, ◌++◌, ◌==◌, ◌&&◌, ◌⊎◌, inl, inr, ℕ, Bool, true, false, List, [], ◌∷◌, Contains, length, refl, sym, ap, subst, arith, if◌then◌else◌}
use Rattle.std.specs.Prelude.{Option, Some}
use Rattle.std.proofs.lemmas.Option.{slice_get_within}
use Rattle.fbc_kinds.specs.declared.snapshots.Transaction.{Transaction}
use Rattle.fbc_kinds.specs.Chain.{Version}
use Rattle.fbc_kinds.specs.Machine.{Machine, Made, committed_numbers, is_committed, is_held, newest, standing_versions, with_version}
use Rattle.fbc_kinds.proofs.Tests.{same_from_test}
use Rattle.fbc_runs.specs.Orderly.{IsOpenAt, IsOrderly, MakersAreThere, OpensStandInFront, StandsAt}
use Rattle.fbc_runs.proofs.CommittedNumbers.{committed_at}
use Rattle.fbc_runs.proofs.InFrontOfOpens.{open_stands_at, opens_are_newest, opens_by_number, same_at}
use Rattle.fbc_runs.proofs.Places.{head_or_tail}
use Rattle.fbc_runs.proofs.Standings.{committed_stands, open_not_committed}

module _ (machine : Machine) (orderly : IsOrderly machine) where
  -- No committed transaction has an open one's number.
  open_number_not_committed : (place : ℕ) (t : Transaction) → IsOpenAt machine.transactions place t → is_held (committed_numbers machine.transactions) t.number ≡ true → ⊥
  open_number_not_committed place t opens held =
      let c = committed_at machine.transactions t.number held in
      let one : c.place ≡ place = opens_by_number machine orderly place c.place t c.maker opens (c.at, committed_stands c.maker.standing c.committed) c.same in
      let same : c.maker ≡ t = same_at machine.transactions c.place place c.maker t c.at opens.0 one in
      let fails : is_committed t.standing ≡ false = open_not_committed t.standing opens.1 in
      let passes : is_committed t.standing ≡ true = ap (λ (u : Transaction). is_committed u.standing) (sym same) ∙ c.committed in
      cc

  -- An open snapshot holds no other open one's number.
  pub held_open_is_own : (place other : ℕ) (t u : Transaction) → IsOpenAt machine.transactions place t → IsOpenAt machine.transactions other u → is_held t.snapshot u.number ≡ true → other ≡ place
  held_open_is_own place other t u opens also held = go ((orderly.snapshots place t opens).1 u.number held)
    where
      go : (u.number ≡ t.number) ⊎ (is_held (committed_numbers machine.transactions) u.number ≡ true) → other ≡ place
      go (inl same) = opens_by_number machine orderly place other t u opens (open_stands_at machine.transactions other u also) same
      go (inr committed) = absurd (open_number_not_committed other u also committed)

  module _ (maker : ℕ) (t : Transaction) (opens : IsOpenAt machine.transactions maker t) (relation row : ℕ) (value : Option (List ℕ))
      (held : (version : Version) → newest (standing_versions machine relation row) ≡ Some version → is_held t.snapshot version.number ≡ true) where
    abbrev put : Made
    put = record { maker = maker; value = value }

    abbrev pub after_put : Machine
    after_put = with_version machine (Some maker) relation row value

    -- An open version in this row is of the one who puts.
    own_row : (newer older : List Made) (w : Made) (u : Transaction) → machine.rows relation row ≡ newer ++ w ∷ older → IsOpenAt machine.transactions w.maker u → maker ≡ w.maker
    own_row newer older w u whole also =
        let first = opens_are_newest machine orderly relation row newer older w u whole also in
        let holds : is_held t.snapshot u.number ≡ true = ap (is_held t.snapshot) (sym first.same) ∙ held first.version first.is in
        sym (held_open_is_own maker w.maker t u opens also holds)

    makers_after : MakersAreThere after_put
    makers_after r k v within = go ((relation == r) && (row == k)) within
      where
        go : (b : Bool) → Contains (if b then put ∷ machine.rows r k else machine.rows r k) v → v.maker < length machine.transactions
        go false at = orderly.makers r k v at
        go true at = each (head_or_tail put (machine.rows r k) v at)
          where
            each : (put ≡ v) ⊎ Contains (machine.rows r k) v → v.maker < length machine.transactions
            each (inl same) = subst (λ (m : Made). m.maker < length machine.transactions) same (slice_get_within machine.transactions maker t opens.0)
            each (inr before) = orderly.makers r k v before

    front_here : (newer older : List Made) (v w : Made) (x u : Transaction) → put ∷ machine.rows relation row ≡ newer ++ w ∷ older → IsOpenAt machine.transactions w.maker x → Contains newer v → StandsAt machine.transactions v.maker u → v.maker ≡ w.maker
    front_here [] older v w x u whole also within stands = absurd (omega (arith, within.1))
    front_here (first ∷ newer) older v w x u whole also within stands = each (head_or_tail first newer v within)
      where
        rest : machine.rows relation row ≡ newer ++ w ∷ older
        rest = cc

        each : (first ≡ v) ⊎ Contains newer v → v.maker ≡ w.maker
        each (inl same) = let is : put ≡ first = cc in ap (λ (m : Made). m.maker) (sym (is ∙ same)) ∙ own_row newer older w x rest also
        each (inr before) = orderly.front relation row newer older v w x u rest also before stands

    front_after : OpensStandInFront after_put
    front_after r k newer older v w x u whole also within stands = go (relation == r) refl (row == k) refl whole
      where
        go : (a : Bool) → (relation == r) ≡ a → (b : Bool) → (row == k) ≡ b → (if a && b then put ∷ machine.rows r k else machine.rows r k) ≡ newer ++ w ∷ older → v.maker ≡ w.maker
        go false is b also_is same = orderly.front r k newer older v w x u same also within stands
        go true is false also_is same = orderly.front r k newer older v w x u same also within stands
        go true is true also_is same =
            let one : relation ≡ r = same_from_test relation r is in
            let two : row ≡ k = same_from_test row k also_is in
            front_here newer older v w x u (ap (λ ms. put ∷ ms) (ap (λ n. machine.rows n row) one ∙ ap (machine.rows r) two) ∙ same) also within stands

    pub put_orderly : IsOrderly after_put
    put_orderly = record { numbers = orderly.numbers; owners = orderly.owners; snapshots = orderly.snapshots; makers = makers_after; front = front_after }
