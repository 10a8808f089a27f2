-- The tests by what is kept of a page are those of the page.
use Rattle.std.proofs.Common.{◌≡◌, ℕ, ◌||◌, List, [], ◌∷◌, map, Option, Some, refl, ap}
use Rattle.std.specs.List.{list_any}
use Rattle.fbc_kinds.specs.declared.pages.Page.{Page}
use Rattle.fbc_kinds.specs.declared.pages.Page.TheVariants as kind
use Rattle.fbc_kinds.specs.declared.pages.Cell.{Cell}
use Rattle.fbc_reach.specs.declared.namings.Role.{Role}
use Rattle.fbc_reach.specs.declared.namings.Role.TheVariants as role
use Rattle.fbc_reach.specs.Roles.{has_other_relation, has_other_sequence, is_late_in, is_late_version}
use Rattle.fbc_reach.specs.Content.{content_of, version_kept, differs_in_relation, differs_in_sequence, is_late, holds_late}

pub kept_relation : (named : Role) (o : Option Page) → differs_in_relation named (content_of o) ≡ has_other_relation named o
kept_relation (role.Pointer r s) (Some (kind.Pointer p)) = refl
kept_relation (role.Data r s) (Some (kind.Data d)) = refl
kept_relation _ _ = refl

pub kept_sequence : (named : Role) (o : Option Page) → differs_in_sequence named (content_of o) ≡ has_other_sequence named o
kept_sequence (role.Inventory s) (Some (kind.Inventory i)) = refl
kept_sequence (role.Tip s) (Some (kind.Tip t)) = refl
kept_sequence (role.Pointer r s) (Some (kind.Pointer p)) = refl
kept_sequence (role.Data r s) (Some (kind.Data d)) = refl
kept_sequence _ _ = refl

late_versions : (next : ℕ) (cells : List Cell) → list_any (is_late next) (map version_kept cells) ≡ list_any (is_late_version next) cells
late_versions next [] = refl
late_versions next (c ∷ cs) = ap (λ rest. is_late_version next c || rest) (late_versions next cs)

pub kept_future : (size next : ℕ) (named : Role) (o : Option Page) → holds_late size next named (content_of o) ≡ is_late_in size next named o
kept_future size next (role.Data r s) (Some (kind.Data d)) = late_versions next d.cells
kept_future size next (role.Tip s) (Some (kind.Tip t)) = refl
kept_future size next _ _ = refl
