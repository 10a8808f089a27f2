-- The walk through a file: which pages are named, in which roles, in which order.
use Rattle.std.specs.Prelude.{ℕ, zero, suc, Bool, false, ◌*◌, ◌==◌, not, List, [], ◌∷◌, ◌++◌, filter, find, Option, Some, None}
use Rattle.std.specs.List.{flat_map}
use Rattle.fbc_kinds.specs.declared.pages.Page.{Page}
use Rattle.fbc_kinds.specs.declared.pages.Page.TheVariants as kind
use Rattle.fbc_kinds.specs.declared.pages.Header.{Header}
use Rattle.fbc_kinds.specs.declared.pages.Relation.{Relation}
use Rattle.fbc_kinds.specs.Limits.{slots}
use Rattle.fbc_kinds.specs.View.{View, header_of, size_of, inventory_page}
use Rattle.fbc_reach.specs.Roles.{is_same_role}
use Rattle.fbc_reach.specs.declared.namings.Role.{Role}
use Rattle.fbc_reach.specs.declared.namings.Role.TheVariants as role
use Rattle.fbc_reach.specs.declared.namings.Naming.{Naming}

abbrev pub naming : ℕ → Role → Naming
naming page named = record { page = page; role = named }

-- Pages that stand in a row, each named in the role of its place.
abbrev pub named_in_row : (ℕ → Role) → ℕ → List ℕ → List Naming
named_in_row role_of place [] = []
named_in_row role_of place (page ∷ pages) = naming page (role_of place) ∷ named_in_row role_of (suc place) pages

-- The header counts the first page inventories, by their sequence.
abbrev pub inventories_named : ℕ → ℕ → List Naming
inventories_named size zero = []
inventories_named size (suc count) = inventories_named size count ++ naming (inventory_page size count) (role.Inventory count) ∷ []

-- The relations name their pointer pages, relation by relation.
abbrev pub pointers_named : ℕ → List Relation → List Naming
pointers_named number [] = []
pointers_named number (relation ∷ relations) =
    named_in_row (role.Pointer number) 0 relation.pointers ++ pointers_named (suc number) relations

-- The header names page inventories, transaction inventory pages and pointer pages.
abbrev pub inventory_namings : Option Header → List Naming
inventory_namings None = []
inventory_namings (Some h) = inventories_named h.size h.inventories

abbrev pub tip_namings : Option Header → List Naming
tip_namings None = []
tip_namings (Some h) = named_in_row role.Tip 0 h.tips

abbrev pub pointer_namings : Option Header → List Naming
pointer_namings None = []
pointer_namings (Some h) = pointers_named 0 h.relations

-- A page that is named several times is walked once: at the first of its namings.
abbrev pub is_of_page : ℕ → Naming → Bool
is_of_page page n = n.page == page

abbrev pub is_in_role : Role → Option Naming → Bool
is_in_role named None = false
is_in_role named (Some first) = is_same_role named first.role

abbrev pub is_first : List Naming → Naming → Bool
is_first namings n = is_in_role n.role (find (is_of_page n.page) namings)

abbrev pub walked : List Naming → List Naming
walked namings = filter (is_first namings) namings

-- A pointer page that is walked names data pages in the slots that are not 0.
abbrev pub slots_of : Option Page → List ℕ
slots_of (Some (kind.Pointer p)) = p.slots
slots_of _ = []

abbrev pub names_a_page : Naming → Bool
names_a_page n = not (n.page == 0)

abbrev pub slots_named : ℕ → Option Page → Role → List Naming
slots_named size pointer (role.Pointer relation sequence) =
    filter names_a_page (named_in_row (role.Data relation) (sequence * slots size) (slots_of pointer))
slots_named size pointer _ = []

abbrev pub named_by : View → Naming → List Naming
named_by view pointer = slots_named (size_of view) (view pointer.page) pointer.role

abbrev pub data_namings : View → List Naming
data_namings view = flat_map (named_by view) (walked (pointer_namings (header_of view)))

-- All namings of a file, in the order of the walk. Where page 0 is no header, it alone is named.
abbrev pub namings : View → List Naming
namings view =
    naming 0 role.Header
    ∷ inventory_namings (header_of view)
    ++ tip_namings (header_of view)
    ++ pointer_namings (header_of view)
    ++ data_namings view

-- The relation for which a data page is walked, if it is.
abbrev pub relation_of_role : Role → Option ℕ
relation_of_role (role.Data relation sequence) = Some relation
relation_of_role _ = None

abbrev pub relation_of_naming : Option Naming → Option ℕ
relation_of_naming None = None
relation_of_naming (Some n) = relation_of_role n.role

abbrev pub relation_walked : View → ℕ → Option ℕ
relation_walked view page = relation_of_naming (find (is_of_page page) (data_namings view))
