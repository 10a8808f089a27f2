-- A page has one role, so what every reached page shows says that it is reached once.
use Rattle.std.proofs.Common.{◌≡◌, ◌∙◌, ℕ, true, sym, arith}
use Rattle.std.specs.Prelude.{Option, Some, None}
use Rattle.std.proofs.lemmas.Bool.Decides.{nat_tests}
use Rattle.fbc_kinds.specs.declared.pages.Page.{Page}
use Rattle.fbc_kinds.specs.declared.pages.Page.TheVariants as kind
use Rattle.fbc_kinds.specs.View.{View}
use Rattle.fbc_kinds.specs.Reach.{Role, HeaderRole, InventoryRole, TipRole, PointerRole, DataRole, Reaches, has_role, shows_role}

-- The role that a page gives itself.
abbrev pub role_of : Page → Role
role_of (kind.Header h) = HeaderRole
role_of (kind.Inventory i) = InventoryRole i.sequence
role_of (kind.Tip t) = TipRole t.sequence
role_of (kind.Pointer p) = PointerRole p.relation p.sequence
role_of (kind.Data d) = DataRole d.relation d.sequence
role_of kind.Blank = HeaderRole

pub has_role-role_of : (role : Role) (number : ℕ) (page : Page) → has_role role number page ≡ true → role ≡ role_of page
has_role-role_of role number page is = grind (arith, nat_tests)

pub shows_one_role : (role other : Role) (number : ℕ) (page : Option Page) → shows_role role number page ≡ true → shows_role other number page ≡ true → role ≡ other
shows_one_role role other number None is also = cc
shows_one_role role other number (Some page) is also = has_role-role_of role number page is ∙ sym (has_role-role_of other number page also)

-- Every page that is reached is reached once.
pub reached_once : (view : View) → ((role : Role) (page : ℕ) → Reaches view role page → shows_role role page (view page) ≡ true) → (role other : Role) (page : ℕ) → Reaches view role page → Reaches view other page → role ≡ other
reached_once view fitting role other page here there = shows_one_role role other page (view page) (fitting role page here) (fitting other page there)
