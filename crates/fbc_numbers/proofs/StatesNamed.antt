-- The state of a number by the page that a view names for it.
use Rattle.std.proofs.Common.{◌≡◌, ◌∙◌, ◌<◌, ◌/◌, ◌%◌, ℕ, true, Option, Some, None, refl, sym, ap, subst}
use Rattle.std.specs.Option.{unwrap_or}
use Rattle.std.proofs.Math.Nat.{div-add-mod'}
use Rattle.fbc_kinds.specs.declared.pages.State.{State}
use Rattle.fbc_kinds.specs.declared.pages.State.TheVariants.{Active}
use Rattle.fbc_kinds.specs.Chain.{state_of}
use Rattle.fbc_kinds.specs.Limits.{tip_numbers}
use Rattle.fbc_kinds.specs.Sound.{IsSound}
use Rattle.fbc_kinds.specs.View.{View, is_committed_state, next_of, size_of, state_in, tip_of}
use Rattle.fbc_numbers.specs.Numbers.{is_committed_in}
use Rattle.fbc_numbers.proofs.PageStates.{state_at}
use Rattle.fbc_page_edits.proofs.NextMeaning.{committed_not_active}

pub named-state : (seen : View) (size number page : ℕ) → size_of seen ≡ size → tip_of seen (number / tip_numbers size) ≡ Some page → state_of seen number ≡ unwrap_or (state_in (seen page) (number % tip_numbers size)) Active
named-state seen size number page is named =
    ap (λ n. state_at seen (number % tip_numbers n) (tip_of seen (number / tip_numbers n))) is ∙ ap (state_at seen (number % tip_numbers size)) named

-- Where two views name one page for a number, and it shows the same, they have the same state.
pub same-named : (seen other : View) (size number page : ℕ) → size_of seen ≡ size → size_of other ≡ size → tip_of seen (number / tip_numbers size) ≡ Some page → tip_of other (number / tip_numbers size) ≡ Some page
    → seen page ≡ other page → state_of seen number ≡ state_of other number
same-named seen other size number page is also named same_named same =
    named-state seen size number page is named ∙ ap (λ o. unwrap_or (state_in o (number % tip_numbers size)) Active) same ∙ sym (named-state other size number page also same_named)

-- A number that is committed in a sound view was begun.
pub committed-begun : (seen : View) → IsSound seen → (number : ℕ) → is_committed_in seen number ≡ true → number < next_of seen
committed-begun seen sound number is = go (tip_of seen (number / tip_numbers (size_of seen))) refl is where
  there : (page : ℕ) → tip_of seen (number / tip_numbers (size_of seen)) ≡ Some page → (o : Option State) → state_in (seen page) (number % tip_numbers (size_of seen)) ≡ o → is_committed_state (unwrap_or o Active) ≡ true → number < next_of seen
  there page named None shown committed = absurd cc
  there page named (Some s) shown committed =
      subst (λ n. n < next_of seen) (div-add-mod' number (tip_numbers (size_of seen)))
      (sound.states (number / tip_numbers (size_of seen)) page (number % tip_numbers (size_of seen)) s named shown (committed_not_active s committed))

  go : (o : Option ℕ) → tip_of seen (number / tip_numbers (size_of seen)) ≡ o → is_committed_state (state_at seen (number % tip_numbers (size_of seen)) o) ≡ true → number < next_of seen
  go None named committed = absurd cc
  go (Some page) named committed = there page named (state_in (seen page) (number % tip_numbers (size_of seen))) refl committed
