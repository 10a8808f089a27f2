-- When a change of a row may come, and that it is answered as done.
use Rattle.std.proofs.Common.{◌≡◌, ◌∙◌, ◌==◌, ◌&&◌, ◌∷◌, [], ℕ, zero, suc, Bool, true, false, not, List, refl, sym, ap, if◌then◌else◌}
use Rattle.std.proofs.lemmas.Bool.{or_right}
use Rattle.std.specs.Prelude.{Option, Some, None, Contains, is_none, is_some}
use Rattle.std.proofs.lemmas.List.Folds.{list_any-append}
use Rattle.fbc_kinds.specs.declared.replies.Reply.TheVariants as reply
use Rattle.fbc_kinds.specs.declared.snapshots.Transaction.{Transaction}
use Rattle.fbc_kinds.specs.Chain.{Version}
use Rattle.fbc_kinds.specs.Machine.{Machine, change_reply, changed, is_held, is_open, is_open_of_other, is_settled_row, may_change, newest, open_transaction, reply_in, seen_by, standing_versions}
use Rattle.fbc_kinds.specs.Meaning.{transaction_of, transactions_up_to}
use Rattle.fbc_kinds.specs.View.{View}
use Rattle.fbc_kinds.proofs.Tests.{neither, same_from_test, test_of_same}
use Rattle.fbc_version_edits.specs.Open.{IsChangeDone}
use Rattle.fbc_version_edits.proofs.Living.{open_lives}
use Rattle.fbc_version_edits.proofs.Sights.{see_first}

not_none : {X : Type 0} (o : Option X) → is_some o ≡ true → is_none o ≡ false
not_none None is = cc
not_none (Some x) is = refl

-- A number is no other's open one where each open transaction that has it is the owner's.
pub not_of_other : (view : View) (living : List Transaction) (who number : ℕ) → ((t : Transaction) → Contains living t → t.number ≡ number → t.owner ≡ who)
    → (count : ℕ) → is_open_of_other (transactions_up_to view living count) who number ≡ false
not_of_other view living who number mine zero = refl
not_of_other view living who number mine (suc count) =
    list_any-append (λ (t : Transaction). is_open t.standing && (t.number == number) && not (t.owner == who)) (transactions_up_to view living count) (transaction_of view living (suc count) ∷ [])
    ∙ neither (is_open_of_other (transactions_up_to view living count) who number) _ (not_of_other view living who number mine count)
    (neither (fails (transaction_of view living (suc count))) false (one (transaction_of view living (suc count)) (open_lives view living (suc count))) refl)
  where
    fails : Transaction → Bool
    fails t = is_open t.standing && (t.number == number) && not (t.owner == who)

    one : (t : Transaction) → (is_open t.standing ≡ true → Contains living t) → fails t ≡ false
    one t lives = go (is_open t.standing) refl (t.number == number) refl
      where
        go : (a : Bool) → is_open t.standing ≡ a → (b : Bool) → (t.number == number) ≡ b → fails t ≡ false
        go false is b also = rw is refl
        go true is false also = rw (is, also) refl
        go true is true also = rw (is, also, test_of_same t.owner who (mine t (lives is) (same_from_test t.number number also))) refl

-- A change of a row whose newest version is held, has a value, and is no other's.
module _ (machine : Machine) (who relation row : ℕ) (t : Transaction) (found : open_transaction machine who ≡ Some t) (version : Version) (older : List Version)
    (stands : standing_versions machine relation row ≡ version ∷ older) (held : is_held t.snapshot version.number ≡ true) (some : is_some version.value ≡ true)
    (mine : is_open_of_other machine.transactions who version.number ≡ false) where
  comes : may_change machine who relation row ≡ true
  comes =
      or_right (is_none (seen_by machine who relation row)) (is_settled_row machine.transactions who (newest (standing_versions machine relation row)))
      (ap (λ versions. is_settled_row machine.transactions who (newest versions)) stands ∙ ap not mine)

  done : reply_in (open_transaction machine who) (changed machine relation row) ≡ reply.Ok
  done =
      ap (λ o. reply_in o (changed machine relation row)) found
      ∙ ap (change_reply t.snapshot) stands
      ∙ ap (λ o. if is_none o then reply.NoRow else if is_held t.snapshot version.number then reply.Ok else reply.Conflict version.number) (see_first (is_held t.snapshot) version older held)
      ∙ ap (λ b. if b then reply.NoRow else if is_held t.snapshot version.number then reply.Ok else reply.Conflict version.number) (not_none version.value some)
      ∙ ap (λ b. if b then reply.Ok else reply.Conflict version.number) held

  pub change_done : IsChangeDone machine who relation row
  change_done = record { update_comes = λ value. comes; update_done = λ value. sym done; delete_comes = comes; delete_done = sym done }
