-- Where no page that is named breaks a rule, the view is sound.
use Rattle.std.proofs.Common.{◌≡◌, ℕ, ◌==◌, ◌&&◌, Bool, true, false, not, List, Option, Some, None, is_some, refl, sym, ap, ◌∙◌, find, slice_index}
use Rattle.std.specs.List.{list_any}
use Rattle.fbc_kinds.specs.declared.pages.Page.{Page}
use Rattle.fbc_kinds.specs.declared.shapes.Shape.{Shape}
use Rattle.fbc_kinds.specs.File.{page_bytes, IsViewOf}
use Rattle.fbc_kinds.specs.View.{View}
use Rattle.fbc_kinds.specs.Reach as reach
use Rattle.fbc_kinds.proofs.Heads.{true_from_not}
use Rattle.fbc_kinds.proofs.Tests.{same_from_test, test_of_same, fails_under}
use Rattle.fbc_reach.specs.declared.namings.Role.{Role}
use Rattle.fbc_reach.specs.declared.namings.Naming.{Naming}
use Rattle.fbc_reach.specs.Roles.{reached_as, kind_code, has_other_relation, has_other_sequence}
use Rattle.fbc_reach.specs.Walk.{is_of_page, is_in_role, namings}
use Rattle.fbc_validator.specs.Damage.{in_some_role, broken_page, AreSpelled}
use Rattle.fbc_reach.proofs.Members.{In, any_false, any_here}
use Rattle.fbc_validator.proofs.NoRule.{BreaksNone, tests_passed}
use Rattle.fbc_reach.proofs.ShownPages.{shows}
use Rattle.fbc_spelling.proofs.Shows.{shown_code}
use Rattle.fbc_reach.proofs.SameRoles.{same_role, has_role_from}
use Rattle.fbc_reach.proofs.Reached.{AreSingle}

-- No page that is named breaks a rule.
abbrev pub AreUnbroken : Shape → List ℕ → View → Type 0
AreUnbroken shape bytes view =
    (page : ℕ) → list_any (is_of_page page) (namings view) ≡ true → broken_page shape view page (page_bytes shape.size bytes page) ≡ None

page_from : (o : Option Page) → is_some o ≡ true → (page : Page) × (o ≡ Some page)
page_from None e = cc
page_from (Some page) e = (page, refl)

role_from : (named : Role) (o : Option Naming) → is_in_role named o ≡ true → (n : Naming) × (o ≡ Some n) × (named ≡ n.role)
role_from named None e = cc
role_from named (Some n) e = (n, refl, same_role named n.role e)

module _ (shape : Shape) (bytes : List ℕ) (view : View) (shown : IsViewOf shape bytes view)
    (spelled : AreSpelled shape bytes view) (unbroken : AreUnbroken shape bytes view) where
  is_named : (n : Naming) → In (namings view) n → list_any (is_of_page n.page) (namings view) ≡ true
  is_named n i = any_here (is_of_page n.page) (namings view) n i (test_of_same n.page n.page refl)

  pub passes : (n : Naming) → In (namings view) n → BreaksNone shape view n.page (page_bytes shape.size bytes n.page)
  passes n i = tests_passed shape view n.page (page_bytes shape.size bytes n.page) (unbroken n.page (is_named n i))

  pub in_role : (test : Role → Bool) (n : Naming) → In (namings view) n → in_some_role view n.page test ≡ false → test n.role ≡ false
  in_role test n i none =
      fails_under (n.page == n.page) (test n.role)
      (any_false (λ (m : Naming). (m.page == n.page) && test m.role) (namings view) n none i)
      (test_of_same n.page n.page refl)

  pub fits : (n : Naming) → In (namings view) n → reach.shows_role (reached_as n.role) n.page (view n.page) ≡ true
  fits n i =
      let p = passes n i in
      let b : List ℕ = page_bytes shape.size bytes n.page in
      let stands = page_from (view n.page) (spelled n.page (is_named n i) p.unbroken) in
      let s = shows shape bytes view shown n.page stands.0 stands.1 in
      let code : slice_index b 0 ≡ kind_code n.role = same_from_test _ _ (true_from_not _ (in_role (λ named. not (slice_index b 0 == kind_code named)) n i p.own_kind)) in
      ap (reach.shows_role (reached_as n.role) n.page) stands.1
      ∙ has_role_from n.role n.page stands.0 (sym (shown_code shape n.page b stands.0 s) ∙ code) s.stands
      (sym (ap (has_other_relation n.role) stands.1) ∙ in_role (λ named. has_other_relation named (view n.page)) n i p.own_relation)
      (sym (ap (has_other_sequence n.role) stands.1) ∙ in_role (λ named. has_other_sequence named (view n.page)) n i p.own_sequence)

  first_role : (n : Naming) → In (namings view) n → is_in_role n.role (find (is_of_page n.page) (namings view)) ≡ true
  first_role n i = true_from_not _ (in_role (λ named. not (is_in_role named (find (is_of_page n.page) (namings view)))) n i (passes n i).once)

  pub single : AreSingle view
  single n m i j same =
      let a = role_from n.role (find (is_of_page n.page) (namings view)) (first_role n i) in
      let b = role_from m.role (find (is_of_page m.page) (namings view)) (first_role m j) in
      let one : a.0 ≡ b.0 = (let both : Some a.0 ≡ Some b.0 = sym a.1 ∙ ap (λ p. find (is_of_page p) (namings view)) same ∙ b.1 in cc) in
      a.2 ∙ ap (λ (x : Naming). x.role) one ∙ sym b.2
