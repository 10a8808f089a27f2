-- The damages of a file by what is kept of its pages and chains.
use Rattle.std.specs.Prelude.{ℕ, not, nat_eq, List, [], ◌∷◌, Option, Some, None}
use Rattle.indexmap.specs.IndexMap.{get}
use Rattle.fbc_kinds.specs.declared.pages.Header.{Header}
use Rattle.fbc_kinds.specs.declared.rules.Rule.{Rule}
use Rattle.fbc_kinds.specs.declared.rules.Rule.TheVariants as rule
use Rattle.fbc_kinds.specs.Head.{or_else}
use Rattle.fbc_links.specs.Chains.{has_below, has_fault}
use Rattle.fbc_validator.specs.Damage.{broken_if}
use Rattle.fbc_validator.specs.Marks.{is_taken_by}
use Rattle.fbc_links.specs.declared.chains.Chains.{Chains}
use Rattle.fbc_reach.specs.declared.tally.NamedPage.{NamedPage}
use Rattle.fbc_reach.specs.declared.tally.Tally.{Tally}

-- The rules that a page breaks by itself, and those of its place.
abbrev pub broken_alone_in : NamedPage → Option Rule
broken_alone_in named = or_else (broken_if named.other_kind rule.Kind) named.read.rule

abbrev pub broken_in_place_in : Header → Tally → Chains → ℕ → NamedPage → Option Rule
broken_in_place_in header tally chains page named =
    or_else (broken_if named.other_relation rule.Relation)
    (or_else (broken_if named.other_sequence rule.Sequence)
    (or_else (broken_if (not (is_taken_by tally header page)) rule.Taken)
    (or_else (broken_if named.other_role rule.Twice)
    (or_else (broken_if (has_fault chains page) rule.Chain)
    (or_else (broken_if named.late rule.Future)
    (broken_if (has_below chains page) rule.Below))))))

-- The first rule that a page breaks, if it was named.
abbrev pub broken_in : Header → Tally → Chains → ℕ → Option NamedPage → Option Rule
broken_in header tally chains page None = None
broken_in header tally chains page (Some named) = or_else (broken_alone_in named) (broken_in_place_in header tally chains page named)

-- A page with its rule, if it breaks one.
abbrev pub damage_of : ℕ → Option Rule → List (ℕ × Rule)
damage_of page None = []
damage_of page (Some broken) = (page, broken) ∷ []

abbrev pub damage_in : Header → Tally → Chains → ℕ → List (ℕ × Rule)
damage_in header tally chains page = damage_of page (broken_in header tally chains page (get nat_eq tally.pages page))
