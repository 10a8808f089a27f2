-- A page of a sound view is reached in the role that it gives itself, or not at all.
use Rattle.std.proofs.Common.{◌≡◌, ◌==◌, ◌⊎◌, ℕ, Bool, true, false, Option, Some, None, inl, inr, refl, sym, ap, ◌∙◌}
use Rattle.std.proofs.lemmas.Option.{same_Some}
use Rattle.fbc_kinds.specs.declared.pages.Page.{Page}
use Rattle.fbc_kinds.specs.Reach.{Reaches, ReachesPage, Role, page_for, shows_role}
use Rattle.fbc_kinds.specs.Sound.{IsSound}
use Rattle.fbc_kinds.specs.View.{View}
use Rattle.fbc_kinds.proofs.Roles.{has_role-role_of, role_of}
use Rattle.fbc_kinds.proofs.Tests.{differ_from_test, same_from_test}

module _ (view : View) (sound : IsSound view) (number : ℕ) (page : Page) (stands : view number ≡ Some page) where
  pub own_role : (role : Role) → Reaches view role number → role ≡ role_of page
  own_role role reached = has_role-role_of role number page (sym (ap (shows_role role number) stands) ∙ sound.fitting role number reached)

  pub reached_in_own_role : ReachesPage view number → Reaches view (role_of page) number
  reached_in_own_role reached = ap (page_for view) (sym (own_role reached.0 reached.1)) ∙ reached.1

  pub reached_or_not : Reaches view (role_of page) number ⊎ ¬ ReachesPage view number
  reached_or_not = go (page_for view (role_of page)) refl
    where
      named : (other : ℕ) (b : Bool) → (other == number) ≡ b → page_for view (role_of page) ≡ Some other → Reaches view (role_of page) number ⊎ ¬ ReachesPage view number
      named other true is there = inl (there ∙ ap Some (same_from_test other number is))
      named other false is there = inr (λ reached. differ_from_test other number is (same_Some other number (sym there ∙ reached_in_own_role reached)))

      go : (o : Option ℕ) → page_for view (role_of page) ≡ o → Reaches view (role_of page) number ⊎ ¬ ReachesPage view number
      go None none = inr (λ reached. let no : None ≡ Some number = sym none ∙ reached_in_own_role reached in cc)
      go (Some other) there = named other (other == number) refl there
