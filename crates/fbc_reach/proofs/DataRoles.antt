-- A data page is walked for the first role in which a pointer page names it.
use Rattle.std.proofs.Common.{◌≡◌, ℕ, ◌==◌, ◌&&◌, true, false, cond, List, ◌++◌, find, Some, None, ◌⊎◌, inl, inr, sym, ap, ◌∙◌}
use Rattle.std.specs.Option.{option_or}
use Rattle.std.proofs.lemmas.List.Folds.{find-append}
use Rattle.fbc_kinds.specs.declared.pages.Header.{Header}
use Rattle.fbc_kinds.specs.View.{View, header_of}
use Rattle.fbc_reach.specs.Roles.{kind_code}
use Rattle.fbc_reach.specs.Tally.{is_of_kind}
use Rattle.fbc_reach.specs.Walk.{naming, data_namings, inventory_namings, is_of_page, namings, pointer_namings, tip_namings}
use Rattle.fbc_reach.specs.declared.namings.Naming.{Naming}
use Rattle.fbc_reach.specs.declared.namings.Role.TheVariants as role
use Rattle.fbc_reach.proofs.DataNamings.{HaveAllSlots, data_reached}
use Rattle.fbc_reach.proofs.HeaderNamings.{inventory_reached, pointer_reached, tip_reached}
use Rattle.fbc_reach.proofs.Members.{In, in_either}
use Rattle.fbc_reach.proofs.Searches.{find_agrees, find_fails}
use Rattle.fbc_reach.proofs.Walks.{and_false, and_true, none_behind, none_later}

-- What a header names.
abbrev pub fronts : View → List Naming
fronts view = inventory_namings (header_of view) ++ tip_namings (header_of view) ++ pointer_namings (header_of view)

module _ (view : View) (h : Header) (is : header_of view ≡ Some h) (all : HaveAllSlots view) where
  front_kind : (n : Naming) → In (fronts view) n → (5 == kind_code n.role) ≡ false
  front_kind n i = go (in_either (inventory_namings (header_of view) ++ tip_namings (header_of view)) (pointer_namings (header_of view)) n i)
    where
      go : In (inventory_namings (header_of view) ++ tip_namings (header_of view)) n ⊎ In (pointer_namings (header_of view)) n → (5 == kind_code n.role) ≡ false
      go (inr p) = ap (λ r. 5 == kind_code r) (pointer_reached view h is n p).2
      go (inl l) = elim (in_either (inventory_namings (header_of view)) (tip_namings (header_of view)) n l) [
        | inl a ↦ ap (λ r. 5 == kind_code r) (inventory_reached view h is n a).1
        | inr b ↦ ap (λ r. 5 == kind_code r) (tip_reached view h is n b).1
      ]

  data_kind : (n : Naming) → In (data_namings view) n → (5 == kind_code n.role) ≡ true
  data_kind n i = ap (λ r. 5 == kind_code r) (data_reached view h is all n i).role_is

  -- A data page is walked for the first role in which a pointer page names it.
  pub walked_as : (page : ℕ) → find (is_of_kind page 5) (namings view) ≡ find (is_of_page page) (data_namings view)
  walked_as page =
      ap (λ b. cond b (Some (naming 0 role.Header)) (find (is_of_kind page 5) (fronts view ++ data_namings view))) (and_false (0 == page))
      ∙ find-append (is_of_kind page 5) (fronts view) (data_namings view)
      ∙ ap (λ o. option_or o (find (is_of_kind page 5) (data_namings view)))
      (find_fails (is_of_kind page 5) (fronts view) (λ n i. ap (λ b. (n.page == page) && b) (front_kind n i) ∙ and_false (n.page == page)))
      ∙ find_agrees (is_of_kind page 5) (is_of_page page) (data_namings view)
      (λ n i. ap (λ b. (n.page == page) && b) (data_kind n i) ∙ and_true (n.page == page))

pub not_walked : (view : View) (page : ℕ) → find (is_of_page page) (namings view) ≡ None → find (is_of_page page) (data_namings view) ≡ None
not_walked view page none =
    none_later (find (is_of_page page) (fronts view)) (find (is_of_page page) (data_namings view))
    (sym (find-append (is_of_page page) (fronts view) (data_namings view)) ∙ none_behind (0 == page) (naming 0 role.Header) _ none)
