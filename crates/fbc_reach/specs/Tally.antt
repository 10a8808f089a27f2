-- What is kept of the pages that were named so far.
use Rattle.std.specs.Prelude.{◌≡◌, ◌≤◌, ◌<◌, ℕ, ◌*◌, Bool, false, ◌==◌, ◌&&◌, not, nat_eq, if◌then◌else◌, List, [], length, filter, find, Option, Some, None}
use Rattle.std.specs.List.{flat_map, list_any}
use Rattle.indexmap.specs.IndexMap.{get}
use Rattle.fbc_kinds.specs.Limits.{pointer_limit}
use Rattle.fbc_kinds.specs.declared.shapes.Shape.{Shape}
use Rattle.fbc_reach.specs.Content.{IsReadOf, differs_in_relation, differs_in_sequence, holds_late, is_late}
use Rattle.fbc_reach.specs.Roles.{is_same_role, kind_code}
use Rattle.fbc_reach.specs.Walk.{naming, named_in_row, names_a_page, is_of_page}
use Rattle.fbc_reach.specs.declared.content.Content.{Content}
use Rattle.fbc_reach.specs.declared.content.Content.TheVariants as content
use Rattle.fbc_reach.specs.declared.namings.Naming.{Naming}
use Rattle.fbc_reach.specs.declared.namings.Role.{Role}
use Rattle.fbc_reach.specs.declared.namings.Role.TheVariants as role
use Rattle.fbc_reach.specs.declared.tally.NamedPage.{NamedPage}
use Rattle.fbc_reach.specs.declared.tally.Tally.{Tally}

-- One of these namings names the page in a role that passes a test.
abbrev pub in_role_among : List Naming → ℕ → (Role → Bool) → Bool
in_role_among done page test = list_any (λ (n : Naming). (n.page == page) && test n.role) done

-- A naming names the page as one of this kind.
abbrev pub is_of_kind : ℕ → ℕ → Naming → Bool
is_of_kind page kind n = (n.page == page) && (kind == kind_code n.role)

-- The role of a naming, if there is one.
abbrev pub role_of : Option Naming → Option Role
role_of None = None
role_of (Some n) = Some n.role

-- The role for which a page of this kind is walked: that of the first naming that names it as one.
abbrev pub role_walked : List Naming → ℕ → ℕ → Option Role
role_walked done page kind = role_of (find (is_of_kind page kind) done)

-- A data page has a version whose number is not below the next one.
abbrev pub has_late_version : ℕ → Content → Bool
has_late_version next (content.Data relation sequence versions) = list_any (is_late next) versions
has_late_version next _ = false

-- What was found of a page in the roles in which it is named: the role for which it is walked, and for each rule of its
-- place whether one of the roles breaks it.
pub record IsJudged (size next : ℕ) (done : List Naming) (page : ℕ) (named : NamedPage) : Type 0 where
  pub walked : named.walked ≡ role_walked done page named.read.kind
  pub kind : named.other_kind ≡ in_role_among done page (λ named_as. not (named.read.kind == kind_code named_as))
  pub relation : named.other_relation ≡ in_role_among done page (λ named_as. differs_in_relation named_as named.read.content)
  pub sequence : named.other_sequence ≡ in_role_among done page (λ named_as. differs_in_sequence named_as named.read.content)
  pub twice : named.other_role ≡ in_role_among done page (λ named_as. not (is_same_role named_as named.first))
  pub future : named.late ≡ in_role_among done page (λ named_as. holds_late size next named_as named.read.content)

-- What is kept of a page that was named: what its bytes gave, the first of its roles, and what was found of it in them.
pub record IsNamedPage (shape : Shape) (file : Option (List ℕ)) (next : ℕ) (done : List Naming) (page : ℕ) (named : NamedPage) : Type 0 where
  pub read : IsReadOf shape page file named.read
  pub late_version : named.late_version ≡ has_late_version next named.read.content
  pub first : find (is_of_page page) done ≡ Some (naming page named.first)
  pub judged : IsJudged shape.size next done page named

-- The same of a page that may not have been named.
abbrev pub IsKept : Shape → Option (List ℕ) → ℕ → List Naming → ℕ → Option NamedPage → Type 0
IsKept shape file next done page None = find (is_of_page page) done ≡ None
IsKept shape file next done page (Some named) = IsNamedPage shape file next done page named

-- A tally is one of these namings: it keeps each page that they name and no other.
abbrev pub IsTallyOf : Shape → Option (List ℕ) → List Naming → Tally → Type 0
IsTallyOf shape file done tally = (page : ℕ) → IsKept shape file tally.next done page (get nat_eq tally.pages page)

-- The pages that a pointer page names in its slots, by what was read of it.
abbrev pub named_in_content : Role → Content → List Naming
named_in_content (role.Pointer relation sequence) (content.Pointer own number pages) =
    filter names_a_page (named_in_row (role.Data relation) (sequence * length pages) pages)
named_in_content _ _ = []

-- A page is walked for this role.
abbrev pub is_walked_for : Role → Option Role → Bool
is_walked_for named None = false
is_walked_for named (Some walked) = is_same_role named walked

-- The pages that a page names in this role, by what is kept of it: none if it is not walked for it.
abbrev pub named_as_kept : Role → Option NamedPage → List Naming
named_as_kept named None = []
named_as_kept named (Some page) = if is_walked_for named page.walked then named_in_content named page.read.content else []

-- The same of all pages that these namings name.
abbrev pub named_by_tally : Tally → List Naming → List Naming
named_by_tally tally pointers = flat_map (λ (n : Naming). named_as_kept n.role (get nat_eq tally.pages n.page)) pointers

-- A pointer page has at most as many slots as one of the greatest size.
abbrev pub HasFewSlots : Content → Type 0
HasFewSlots (content.Pointer relation sequence pages) = length pages ≤ 4092
HasFewSlots _ = Unit {0}

-- The same of what is kept of a page.
abbrev pub KeepsFewSlots : Option NamedPage → Type 0
KeepsFewSlots None = Unit {0}
KeepsFewSlots (Some page) = HasFewSlots page.read.content

-- A pointer page has a place among the few of its relation.
abbrev pub HasFewPlaces : Role → Type 0
HasFewPlaces (role.Pointer relation sequence) = sequence < pointer_limit
HasFewPlaces _ = Unit {0}
