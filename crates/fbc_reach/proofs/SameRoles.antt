-- Roles: the test that two are one, and the roles by which a view reaches pages.
use Rattle.std.proofs.Common.{◌≡◌, ℕ, ◌==◌, ◌&&◌, Bool, true, false, refl, ap, ◌∙◌, Some, arith}
use Rattle.fbc_kinds.specs.declared.pages.Page.{Page}
use Rattle.fbc_kinds.specs.declared.pages.Page.TheVariants as kind
use Rattle.fbc_kinds.specs.Reach as reach
use Rattle.fbc_kinds.specs.File.{stands_under}
use Rattle.fbc_kinds.proofs.Heads.{both_pass, true_from_not}
use Rattle.fbc_kinds.proofs.Tests.{same_from_test, test_of_same, not_of_true}
use Rattle.fbc_reach.specs.declared.namings.Role.{Role}
use Rattle.fbc_reach.specs.declared.namings.Role.TheVariants as role
use Rattle.fbc_reach.specs.Roles.{reached_as, kind_code, is_same_role, has_other_relation, has_other_sequence}
use Rattle.fbc_spelling.proofs.Shows.{code_of}

pub both_true : (a b : Bool) → a ≡ true → b ≡ true → (a && b) ≡ true
both_true true b e f = f
both_true false b e f = cc

pub same_role : (a b : Role) → is_same_role a b ≡ true → a ≡ b
same_role role.Header role.Header e = refl
same_role (role.Inventory a) (role.Inventory b) e = ap role.Inventory (same_from_test a b e)
same_role (role.Tip a) (role.Tip b) e = ap role.Tip (same_from_test a b e)
same_role (role.Pointer r a) (role.Pointer s b) e =
    let both = both_pass (r == s) (a == b) e in
    ap (λ relation. role.Pointer relation a) (same_from_test r s both.0) ∙ ap (role.Pointer s) (same_from_test a b both.1)
same_role (role.Data r a) (role.Data s b) e =
    let both = both_pass (r == s) (a == b) e in
    ap (λ relation. role.Data relation a) (same_from_test r s both.0) ∙ ap (role.Data s) (same_from_test a b both.1)
same_role _ _ e = cc

pub own_role : (a : Role) → is_same_role a a ≡ true
own_role role.Header = refl
own_role (role.Inventory a) = test_of_same a a refl
own_role (role.Tip a) = test_of_same a a refl
own_role (role.Pointer r a) = both_true _ _ (test_of_same r r refl) (test_of_same a a refl)
own_role (role.Data r a) = both_true _ _ (test_of_same r r refl) (test_of_same a a refl)

-- Each role by which pages are reached is the same as one of these.
abbrev pub as_named : reach.Role → Role
as_named reach.HeaderRole = role.Header
as_named (reach.InventoryRole sequence) = role.Inventory sequence
as_named (reach.TipRole sequence) = role.Tip sequence
as_named (reach.PointerRole relation sequence) = role.Pointer relation sequence
as_named (reach.DataRole relation sequence) = role.Data relation sequence

pub reached_as_named : (r : reach.Role) → reached_as (as_named r) ≡ r
reached_as_named reach.HeaderRole = refl
reached_as_named (reach.InventoryRole sequence) = refl
reached_as_named (reach.TipRole sequence) = refl
reached_as_named (reach.PointerRole relation sequence) = refl
reached_as_named (reach.DataRole relation sequence) = refl

pub as_named_reached : (a : Role) → as_named (reached_as a) ≡ a
as_named_reached role.Header = refl
as_named_reached (role.Inventory sequence) = refl
as_named_reached (role.Tip sequence) = refl
as_named_reached (role.Pointer relation sequence) = refl
as_named_reached (role.Data relation sequence) = refl

-- A page of the role's kind, with its own number and of no other relation and sequence, has the role.
pub has_role_from : (named : Role) (number : ℕ) (page : Page) → code_of page ≡ kind_code named → stands_under number page ≡ true
    → has_other_relation named (Some page) ≡ false → has_other_sequence named (Some page) ≡ false
    → reach.has_role (reached_as named) number page ≡ true
has_role_from role.Header number (kind.Header h) code stands relation sequence = stands
has_role_from (role.Inventory s) number (kind.Inventory i) code stands relation sequence = both_true _ _ stands (true_from_not _ sequence)
has_role_from (role.Tip s) number (kind.Tip t) code stands relation sequence = both_true _ _ stands (true_from_not _ sequence)
has_role_from (role.Pointer r s) number (kind.Pointer p) code stands relation sequence =
    both_true _ _ (both_true _ _ stands (true_from_not _ relation)) (true_from_not _ sequence)
has_role_from (role.Data r s) number (kind.Data d) code stands relation sequence =
    both_true _ _ (both_true _ _ stands (true_from_not _ relation)) (true_from_not _ sequence)
has_role_from _ number _ code stands relation sequence = absurd (omega arith)

-- And a page that has the role is of its kind, its relation and its sequence.
pub record Fits (named : Role) (page : Page) : Type 0 where
  pub code : code_of page ≡ kind_code named
  pub relation : has_other_relation named (Some page) ≡ false
  pub sequence : has_other_sequence named (Some page) ≡ false

pub fits_from : (named : Role) (number : ℕ) (page : Page) → reach.has_role (reached_as named) number page ≡ true → Fits named page
fits_from role.Header number (kind.Header h) has = record { code = refl; relation = refl; sequence = refl }
fits_from (role.Inventory s) number (kind.Inventory i) has =
    record { code = refl; relation = refl; sequence = not_of_true _ (both_pass _ _ has).1 }
fits_from (role.Tip s) number (kind.Tip t) has =
    record { code = refl; relation = refl; sequence = not_of_true _ (both_pass _ _ has).1 }
fits_from (role.Pointer r s) number (kind.Pointer p) has =
    let outer = both_pass (p.page == number && p.relation == r) (p.sequence == s) has in
    record { code = refl; relation = not_of_true _ (both_pass _ _ outer.0).1; sequence = not_of_true _ outer.1 }
fits_from (role.Data r s) number (kind.Data d) has =
    let outer = both_pass (d.page == number && d.relation == r) (d.sequence == s) has in
    record { code = refl; relation = not_of_true _ (both_pass _ _ outer.0).1; sequence = not_of_true _ outer.1 }
fits_from _ number _ has = cc
