-- Which resources are the same.
use Rattle.std.specs.Prelude.{ℕ, Bool, true, false, ◌&&◌, ◌==◌}
use Rattle.fbc_levels.specs.declared.resources.Series.{Series}
use Rattle.fbc_levels.specs.declared.resources.Series.TheVariants.{Page, Transaction, Relation}
use Rattle.fbc_levels.specs.declared.resources.Resource.{Resource}

-- Whether both are pages, transactions or relations.
abbrev pub is_same_series : Series → Series → Bool
is_same_series Page Page = true
is_same_series Transaction Transaction = true
is_same_series Relation Relation = true
is_same_series _ _ = false

-- Whether both are the same page, transaction or relation.
abbrev pub is_same_resource : Resource → Resource → Bool
is_same_resource a b = is_same_series a.series b.series && (a.key == b.key)

-- The page of this number as what is locked.
abbrev pub page_resource : ℕ → Resource
page_resource page = record { series = Page; key = page }
