-- Which pages of a file are damaged, and the first rule that each of them breaks.
use Rattle.std.specs.Prelude.{◌≡◌, ◌↔◌, ℕ, Bool, true, ◌==◌, ◌&&◌, not, List, if◌then◌else◌, find, map, Contains, Option, Some, None, is_some, slice_index}
use Rattle.std.specs.List.{list_any}
use Rattle.std.specs.List.Sorted.{IsStrictlyIncreasing}
use Rattle.fbc_kinds.specs.declared.rules.Rule.{Rule}
use Rattle.fbc_kinds.specs.declared.rules.Rule.TheVariants as rule
use Rattle.fbc_kinds.specs.declared.shapes.Shape.{Shape}
use Rattle.fbc_kinds.specs.Head.{or_else}
use Rattle.fbc_kinds.specs.Spelling.{first_broken_rule}
use Rattle.fbc_kinds.specs.File.{page_bytes}
use Rattle.fbc_kinds.specs.View.{View, size_of, next_of, is_taken}
use Rattle.fbc_links.specs.Links.{breaks_below, breaks_chain}
use Rattle.fbc_reach.specs.Roles.{kind_code, has_other_relation, has_other_sequence, is_late_in}
use Rattle.fbc_reach.specs.Walk.{namings, is_of_page, is_in_role}
use Rattle.fbc_reach.specs.declared.namings.Role.{Role}
use Rattle.fbc_reach.specs.declared.namings.Naming.{Naming}

-- A rule, where it is broken.
abbrev pub broken_if : Bool → Rule → Option Rule
broken_if broken named = if broken then Some named else None

-- A page under check: the roles in which it is named, and whether one of them passes a test.
abbrev pub in_some_role : View → ℕ → (Role → Bool) → Bool
in_some_role view page test = list_any (λ (n : Naming). (n.page == page) && test n.role) (namings view)

-- It is of another kind than one of its roles.
abbrev pub has_other_kind : View → ℕ → List ℕ → Bool
has_other_kind view page bytes = in_some_role view page (λ named. not (slice_index bytes 0 == kind_code named))

-- It is named in another role than the first.
abbrev pub is_named_twice : View → ℕ → Bool
is_named_twice view page = in_some_role view page (λ named. not (is_in_role named (find (is_of_page page) (namings view))))

-- It has a number or a state of the future.
abbrev pub breaks_future : View → ℕ → Bool
breaks_future view page = in_some_role view page (λ named. is_late_in (size_of view) (next_of view) named (view page))

-- The rules that its bytes break by themselves, as a page of the kind that it is named for.
abbrev pub broken_alone : Shape → View → ℕ → List ℕ → Option Rule
broken_alone shape view page bytes = or_else (broken_if (has_other_kind view page bytes) rule.Kind) (first_broken_rule shape page bytes)

-- The rules of its place in the file, in their order.
abbrev pub broken_in_place : View → ℕ → Option Rule
broken_in_place view page =
    or_else (broken_if (in_some_role view page (λ named. has_other_relation named (view page))) rule.Relation)
    (or_else (broken_if (in_some_role view page (λ named. has_other_sequence named (view page))) rule.Sequence)
    (or_else (broken_if (not (is_taken view page)) rule.Taken)
    (or_else (broken_if (is_named_twice view page) rule.Twice)
    (or_else (broken_if (breaks_chain view page) rule.Chain)
    (or_else (broken_if (breaks_future view page) rule.Future)
    (broken_if (breaks_below view page) rule.Below))))))

-- The first rule that a page of these bytes breaks, of all rules.
abbrev pub broken_page : Shape → View → ℕ → List ℕ → Option Rule
broken_page shape view page bytes = or_else (broken_alone shape view page bytes) (broken_in_place view page)

-- The damages of a file: each page that is named and breaks a rule, with the first, by rising page numbers.
pub record AreDamages (shape : Shape) (bytes : List ℕ) (view : View) (damages : List (ℕ × Rule)) : Type 0 where
  pub listed : (page : ℕ) (broken : Rule)
      → Contains damages (page, broken)
      ↔ ((list_any (is_of_page page) (namings view) ≡ true) × (broken_page shape view page (page_bytes shape.size bytes page) ≡ Some broken))
  pub rise : IsStrictlyIncreasing (map (λ (damage : ℕ × Rule). damage.0) damages)

-- Each page that is named and breaks no rule by itself is one that its bytes show. A decoder shows this of the pages
-- that it reads.
abbrev pub AreSpelled : Shape → List ℕ → View → Type 0
AreSpelled shape bytes view =
    (page : ℕ)
    → list_any (is_of_page page) (namings view) ≡ true
    → first_broken_rule shape page (page_bytes shape.size bytes page) ≡ None
    → is_some (view page) ≡ true
