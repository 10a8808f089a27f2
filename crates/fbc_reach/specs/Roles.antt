-- Roles of pages, and what a page breaks in the role in which it is named.
use Rattle.std.specs.Prelude.{ℕ, suc, ◌*◌, Bool, true, false, ◌==◌, ◌&&◌, ◌||◌, not, nat_lt, List, [], ◌∷◌, Option, Some}
use Rattle.std.specs.List.{list_any}
use Rattle.fbc_kinds.specs.declared.pages.Cell.{Cell}
use Rattle.fbc_kinds.specs.declared.pages.Page.{Page}
use Rattle.fbc_kinds.specs.declared.pages.Page.TheVariants as kind
use Rattle.fbc_kinds.specs.declared.pages.State.{State}
use Rattle.fbc_kinds.specs.Limits.{tip_numbers}
use Rattle.fbc_kinds.specs.Reach as reach
use Rattle.fbc_kinds.specs.View.{is_active_state, is_empty}
use Rattle.fbc_reach.specs.declared.namings.Role.{Role}
use Rattle.fbc_reach.specs.declared.namings.Role.TheVariants as role

-- The same as one of the roles by which a view reaches pages.
abbrev pub reached_as : Role → reach.Role
reached_as role.Header = reach.HeaderRole
reached_as (role.Inventory sequence) = reach.InventoryRole sequence
reached_as (role.Tip sequence) = reach.TipRole sequence
reached_as (role.Pointer relation sequence) = reach.PointerRole relation sequence
reached_as (role.Data relation sequence) = reach.DataRole relation sequence

-- The byte that names the kind of a role's pages.
abbrev pub kind_code : Role → ℕ
kind_code role.Header = 1
kind_code (role.Inventory sequence) = 2
kind_code (role.Tip sequence) = 3
kind_code (role.Pointer relation sequence) = 4
kind_code (role.Data relation sequence) = 5

-- Whether two roles are one.
abbrev pub is_same_role : Role → Role → Bool
is_same_role role.Header role.Header = true
is_same_role (role.Inventory a) (role.Inventory b) = a == b
is_same_role (role.Tip a) (role.Tip b) = a == b
is_same_role (role.Pointer r a) (role.Pointer s b) = (r == s) && (a == b)
is_same_role (role.Data r a) (role.Data s b) = (r == s) && (a == b)
is_same_role _ _ = false

-- A page of the role's kind is of another relation than the role's.
abbrev pub has_other_relation : Role → Option Page → Bool
has_other_relation (role.Pointer relation sequence) (Some (kind.Pointer p)) = not (p.relation == relation)
has_other_relation (role.Data relation sequence) (Some (kind.Data d)) = not (d.relation == relation)
has_other_relation _ _ = false

-- A page of the role's kind has another sequence than the role's.
abbrev pub has_other_sequence : Role → Option Page → Bool
has_other_sequence (role.Inventory sequence) (Some (kind.Inventory i)) = not (i.sequence == sequence)
has_other_sequence (role.Tip sequence) (Some (kind.Tip t)) = not (t.sequence == sequence)
has_other_sequence (role.Pointer relation sequence) (Some (kind.Pointer p)) = not (p.sequence == sequence)
has_other_sequence (role.Data relation sequence) (Some (kind.Data d)) = not (d.sequence == sequence)
has_other_sequence _ _ = false

-- A version has a number that is not below the next one.
abbrev pub is_late_version : ℕ → Cell → Bool
is_late_version next version = not (is_empty version.flag) && not (nat_lt version.number next)

-- One of these states, the first of them of this number, is not active and of a number that is not below the next.
abbrev pub has_late_state : ℕ → ℕ → List State → Bool
has_late_state next number [] = false
has_late_state next number (state ∷ states) =
    (not (is_active_state state) && not (nat_lt number next)) || has_late_state next (suc number) states

-- A data page has a number, or a transaction inventory page a state, that belongs to the future.
abbrev pub is_late_in : ℕ → ℕ → Role → Option Page → Bool
is_late_in size next (role.Tip sequence) (Some (kind.Tip t)) = has_late_state next (sequence * tip_numbers size) t.states
is_late_in size next (role.Data relation sequence) (Some (kind.Data d)) = list_any (is_late_version next) d.cells
is_late_in size next _ _ = false
