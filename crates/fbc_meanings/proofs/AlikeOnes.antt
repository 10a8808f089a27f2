-- Lists of transactions in which each is the other's, or both are committed and have one number, stand alike.
use Rattle.std.proofs.Common.{◌≡◌, ◌∙◌, ◌++◌, ℕ, zero, suc, Bool, true, false, List, [], ◌∷◌, refl, sym, ap, find, filter, map, if◌then◌else◌}
use Rattle.std.specs.Prelude.{Option, Some, slice_get}
use Rattle.std.specs.Option.{option_and_then}
use Rattle.fbc_kinds.specs.declared.snapshots.Standing.TheVariants as standing
use Rattle.fbc_kinds.specs.declared.snapshots.Transaction.{Transaction}
use Rattle.fbc_kinds.specs.Chain.{Version}
use Rattle.fbc_kinds.specs.Machine.{committed_numbers, is_committed, is_open_of, numbered}
use Rattle.fbc_page_edits.proofs.RolledBack.{StandAlike, stand_alike_itself}

pub data IsAlike (t u : Transaction) : Type 0 where
  one : u ≡ t → IsAlike t u
  both_committed : t.standing ≡ standing.Committed → u.standing ≡ standing.Committed → u.number ≡ t.number → IsAlike t u

abbrev pub AreAlike : List Transaction → List Transaction → Type 0
AreAlike [] [] = Unit {0}
AreAlike (t ∷ ts) (u ∷ us) = IsAlike t u × AreAlike ts us
AreAlike _ _ = ⊥

pub push_alike : (ts us : List Transaction) (t u : Transaction) → AreAlike ts us → IsAlike t u → AreAlike (ts ++ t ∷ []) (us ++ u ∷ [])
push_alike [] [] t u all is = (is, tt)
push_alike (first ∷ ts) (other ∷ us) t u all is = (all.0, push_alike ts us t u all.1 is)
push_alike [] (other ∷ us) t u all is = absurd all
push_alike (first ∷ ts) [] t u all is = absurd all

committed_first : (t : Transaction) (ts : List Transaction) → committed_numbers (t ∷ ts) ≡ (if is_committed t.standing then t.number ∷ committed_numbers ts else committed_numbers ts)
committed_first t ts = go (is_committed t.standing)
  where
    go : (b : Bool)
        → map (λ (u : Transaction). u.number) (if b then t ∷ filter (λ (u : Transaction). is_committed u.standing) ts else filter (λ (u : Transaction). is_committed u.standing) ts)
        ≡ (if b then t.number ∷ committed_numbers ts else committed_numbers ts)
    go true = refl
    go false = refl

more_alike : (t u : Transaction) (ts us : List Transaction) → IsAlike t u → StandAlike ts us → StandAlike (t ∷ ts) (u ∷ us)
more_alike t u ts us (one same) rest = record {
  opened = λ who i. if is_open_of who (same i) then Some (same i) else rest.opened who i;
  committed = committed_first u us ∙ (λ i. if is_committed (same i).standing then (same i).number ∷ rest.committed i else rest.committed i) ∙ sym (committed_first t ts);
  placed = λ value place. places value place;
}
  where
    places : (value : Option (List ℕ)) (place : ℕ) → option_and_then (numbered value) (slice_get (u ∷ us) place) ≡ option_and_then (numbered value) (slice_get (t ∷ ts) place)
    places value zero = ap (numbered value) same
    places value (suc place) = rest.placed value place
more_alike t u ts us (both_committed first second same) rest = record {
  opened = λ who. ap (λ b. if b then Some u else find (is_open_of who) us) (closed who u second) ∙ rest.opened who ∙ sym (ap (λ b. if b then Some t else find (is_open_of who) ts) (closed who t first));
  committed =
      committed_first u us
      ∙ ap (λ b. if b then u.number ∷ committed_numbers us else committed_numbers us) (ap is_committed second)
      ∙ (λ i. same i ∷ rest.committed i)
      ∙ sym (ap (λ b. if b then t.number ∷ committed_numbers ts else committed_numbers ts) (ap is_committed first))
      ∙ sym (committed_first t ts);
  placed = λ value place. places value place;
}
  where
    closed : (who : ℕ) (w : Transaction) → w.standing ≡ standing.Committed → is_open_of who w ≡ false
    closed who w is = rw is refl

    stands : (value : Option (List ℕ)) (w : Transaction) → w.standing ≡ standing.Committed → numbered value w ≡ Some (record { number = w.number; value = value })
    stands value w is = rw is refl

    places : (value : Option (List ℕ)) (place : ℕ) → option_and_then (numbered value) (slice_get (u ∷ us) place) ≡ option_and_then (numbered value) (slice_get (t ∷ ts) place)
    places value zero = stands value u second ∙ ap (λ n. let v : Version = record { number = n; value = value } in Some v) same ∙ sym (stands value t first)
    places value (suc place) = rest.placed value place

pub all_stand_alike : (ts us : List Transaction) → AreAlike ts us → StandAlike ts us
all_stand_alike [] [] all = stand_alike_itself []
all_stand_alike (t ∷ ts) (u ∷ us) all = more_alike t u ts us all.0 (all_stand_alike ts us all.1)
all_stand_alike [] (u ∷ us) all = absurd all
all_stand_alike (t ∷ ts) [] all = absurd all
