-- A relation as what is locked, and the ask for its lock.
use Rattle.std.specs.Prelude.{ℕ, Bool}
use Rattle.fbc_levels.specs.declared.levels.Level.{Level}
use Rattle.fbc_levels.specs.declared.resources.Resource.{Resource}
use Rattle.fbc_levels.specs.declared.resources.Series.TheVariants.{Relation}
use Rattle.fbc_world.specs.declared.asks.Ask.{Ask}
use Rattle.fbc_world.specs.declared.asks.Ask.TheVariants.{Lock}

-- The relation of this number as what is locked.
abbrev pub relation_resource : ℕ → Resource
relation_resource relation = record { series = Relation; key = relation }

-- The ask for a lock on a relation. Its data word is 0.
abbrev pub relation_lock : ℕ → Level → Bool → Ask
relation_lock relation level wait = Lock (relation_resource relation) level wait 0
