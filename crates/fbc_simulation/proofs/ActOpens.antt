-- The machine has the open transactions of the owners after deaths, writes and begins.
use Rattle.std.proofs.Common.{◌≡◌, ◌∙◌, ◌++◌, ℕ, Bool, true, false, ◌==◌, ◌&&◌, ◌||◌, if◌then◌else◌, List, [], ◌∷◌, find, map, Option, Some, None, is_some, refl, sym, ap, subst}
use Rattle.fbc_kinds.specs.declared.commands.Command.TheVariants as command
use Rattle.fbc_kinds.specs.declared.snapshots.Standing.{Standing}
use Rattle.fbc_kinds.specs.declared.snapshots.Standing.TheVariants as standing
use Rattle.fbc_kinds.specs.declared.snapshots.Transaction.{Transaction}
use Rattle.fbc_kinds.specs.Machine.{Machine, after_begin, after_end, begun, committed_numbers, ended, is_held, is_open, is_open_of, open_transaction}
use Rattle.fbc_kinds.specs.Meaning.{IsSameOpen, IsSameTransaction, meaning_of}
use Rattle.fbc_kinds.proofs.Tests.{and_fails_left, and_fails_right, differ_from_test, same_from_test, test_of_different, test_of_same}
use Rattle.fbc_levels.specs.declared.levels.Level.{Level}
use Rattle.fbc_levels.specs.declared.resources.Resource.{Resource}
use Rattle.fbc_runs.specs.Runs.{machine_after}
use Rattle.fbc_runs.proofs.Pushed.{find_last, find_push}
use Rattle.fbc_world.specs.Commands.{where_true}
use Rattle.fbc_world.specs.World.{World, dead, granted_level, is_begin, is_mark_on, newest_of, written}

-- The machine has the open transactions that the owners have.
abbrev pub OpensAlike : World → Machine → Type 0
OpensAlike w machine = (owner : ℕ) → IsSameOpen (w.transaction owner) (open_transaction machine owner)

-- An owner's end leaves it none, and the others theirs.
module _ (who : ℕ) (now : Standing) (closed : is_open now ≡ false) where
  own_fails : (t : Transaction) → is_open_of who (ended who now t) ≡ false
  own_fails t = go (is_open_of who t) refl where
    go : (b : Bool) → is_open_of who t ≡ b → is_open_of who (if b then record t { standing = now } else t) ≡ false
    go true is = and_fails_left (is_open now) (t.owner == who) closed
    go false is = is

  none_left : (ts : List Transaction) → find (is_open_of who) (map (ended who now) ts) ≡ None
  none_left [] = refl
  none_left (t ∷ ts) = rw (own_fails t) (none_left ts)

  module _ (other : ℕ) (differ : ¬ (other ≡ who)) where
    other_passes : (t : Transaction) → is_open_of other t ≡ true → ended who now t ≡ t
    other_passes t is = ap (λ b. if b then record t { standing = now } else t) (go (t.owner == other) refl is) where
      go : (b : Bool) → t.owner == other ≡ b → (is_open t.standing && b) ≡ true → is_open_of who t ≡ false
      go true its passes = and_fails_right (is_open t.standing) (t.owner == who) (test_of_different t.owner who (λ same. differ (sym (same_from_test t.owner other its) ∙ same)))
      go false its passes = absurd (let fails : (is_open t.standing && false) ≡ false = and_fails_right (is_open t.standing) false refl in cc)

    other_fails : (t : Transaction) → is_open_of other t ≡ false → is_open_of other (ended who now t) ≡ false
    other_fails t is = go (is_open_of who t) where
      go : (b : Bool) → is_open_of other (if b then record t { standing = now } else t) ≡ false
      go true = and_fails_left (is_open now) (t.owner == other) closed
      go false = is

    others_left : (ts : List Transaction) → find (is_open_of other) (map (ended who now) ts) ≡ find (is_open_of other) ts
    others_left [] = refl
    others_left (t ∷ ts) = go (is_open_of other t) refl (others_left ts) where
      go : (b : Bool) → is_open_of other t ≡ b → find (is_open_of other) (map (ended who now) ts) ≡ find (is_open_of other) ts
          → (if is_open_of other (ended who now t) then Some (ended who now t) else find (is_open_of other) (map (ended who now) ts)) ≡ (if b then Some t else find (is_open_of other) ts)
      go true is later = rw (other_passes t is, is) refl
      go false is later = rw (other_fails t is) later

module _ (w : World) (machine : Machine) (alike : OpensAlike w machine) (owner : ℕ) where
  -- An owner's transaction ends on both sides.
  ended_alike : (now : Standing) → is_open now ≡ false → (o : ℕ) (b : Bool) → o == owner ≡ b → IsSameOpen (if b then None else w.transaction o) (open_transaction (after_end machine owner now) o)
  ended_alike now closed o true its =
      subst (IsSameOpen None) (sym (ap (open_transaction (after_end machine owner now)) (same_from_test o owner its) ∙ none_left owner now closed machine.transactions)) tt
  ended_alike now closed o false apart =
      subst (IsSameOpen (w.transaction o)) (sym (others_left owner now closed o (differ_from_test o owner apart) machine.transactions)) (alike o)

  pub died-alike : OpensAlike (dead w owner) (after_end machine owner standing.RolledBack)
  died-alike o = ended_alike standing.RolledBack refl o (o == owner) refl

  module _ (page : ℕ) where
    with_mark : is_mark_on page (w.marked owner) ≡ true → OpensAlike (written w owner page) (after_end machine owner standing.Committed)
    with_mark marked o = go (o == owner) refl where
      go : (b : Bool) → o == owner ≡ b → IsSameOpen (if b && is_mark_on page (w.marked o) then None else w.transaction o) (open_transaction (after_end machine owner standing.Committed) o)
      go true its = rw (ap (λ p. is_mark_on page (w.marked p)) (same_from_test o owner its) ∙ marked) (ended_alike standing.Committed refl o true its)
      go false apart = ended_alike standing.Committed refl o false apart

    without_mark : is_mark_on page (w.marked owner) ≡ false → OpensAlike (written w owner page) machine
    without_mark unmarked o = go (o == owner) refl where
      go : (b : Bool) → o == owner ≡ b → IsSameOpen (if b && is_mark_on page (w.marked o) then None else w.transaction o) (open_transaction machine o)
      go true its = rw (ap (λ p. is_mark_on page (w.marked p)) (same_from_test o owner its) ∙ unmarked) (alike o)
      go false apart = alike o

    pub wrote-alike : OpensAlike (written w owner page) (machine_after machine (where_true (is_mark_on page (w.marked owner)) (command.Commit owner ∷ [])))
    wrote-alike = go (is_mark_on page (w.marked owner)) refl where
      go : (b : Bool) → is_mark_on page (w.marked owner) ≡ b → OpensAlike (written w owner page) (machine_after machine (where_true b (command.Commit owner ∷ [])))
      go true marked = with_mark marked
      go false unmarked = without_mark unmarked

  module _ (resource : Resource) (level : Level) where
    pub granted-alike : is_begin resource level ≡ false → OpensAlike (granted_level w owner resource level) machine
    granted-alike plain o = rw (plain, and_fails_right (o == owner) false refl) (alike o)

    -- A transaction begins on both sides, with the same snapshot.
    module _ (begins : is_begin resource level ≡ true) (none : w.transaction owner ≡ None)
        (committed : (number : ℕ) → is_held (committed_numbers (meaning_of (newest_of w)).transactions) number ≡ is_held (committed_numbers machine.transactions) number) where
      pub none_there : open_transaction machine owner ≡ None
      none_there = go (open_transaction machine owner) (subst (λ o. IsSameOpen o (open_transaction machine owner)) none (alike owner)) where
        go : (o : Option Transaction) → IsSameOpen None o → o ≡ None
        go None is = refl
        go (Some t) is = absurd is

      abbrev new : Transaction
      new = begun machine owner resource.key

      pub begun_is : after_begin machine owner resource.key ≡ (record { rows = machine.rows; transactions = machine.transactions ++ new ∷ [] })
      begun_is = ap (λ o. if is_some o then machine else (record { rows = machine.rows; transactions = machine.transactions ++ new ∷ [] })) none_there

      pub same_begun : IsSameTransaction (begun (meaning_of (newest_of w)) owner resource.key) new
      same_begun = record { number = refl; snapshot = λ number. ap (λ b. (resource.key == number) || b) (committed number) }

      found_new : find (is_open_of owner) (machine.transactions ++ new ∷ []) ≡ Some new
      found_new = find_last (is_open_of owner) machine.transactions new (test_of_same owner owner refl) none_there

      found_other : (o : ℕ) → ¬ (o ≡ owner) → find (is_open_of o) (machine.transactions ++ new ∷ []) ≡ find (is_open_of o) machine.transactions
      found_other o differ = find_push (is_open_of o) machine.transactions new (test_of_different owner o (λ same. differ (sym same)))

      begun_alike : (o : ℕ) (b : Bool) → o == owner ≡ b → IsSameOpen (if b && true then Some (begun (meaning_of (newest_of w)) owner resource.key) else w.transaction o) (find (is_open_of o) (machine.transactions ++ new ∷ []))
      begun_alike o true its =
          subst (IsSameOpen (Some (begun (meaning_of (newest_of w)) owner resource.key)))
          (sym (ap (λ p. find (is_open_of p) (machine.transactions ++ new ∷ [])) (same_from_test o owner its) ∙ found_new))
          same_begun
      begun_alike o false apart = subst (IsSameOpen (w.transaction o)) (sym (found_other o (differ_from_test o owner apart))) (alike o)

      pub began-alike : OpensAlike (granted_level w owner resource level) (after_begin machine owner resource.key)
      began-alike o = rw (begins, begun_is) (begun_alike o (o == owner) refl)
