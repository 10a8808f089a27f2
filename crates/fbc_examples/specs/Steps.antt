-- What the examples are made of: what an owner does, and how it gets a page.
use Rattle.std.specs.Prelude.{ℕ, true, false, [], ◌∷◌}
use Rattle.fbc_kinds.specs.declared.edits.Edit.{Edit}
use Rattle.fbc_levels.specs.declared.levels.Level.TheVariants.{Ex, Free}
use Rattle.fbc_levels.specs.declared.resources.Resource.{Resource}
use Rattle.fbc_levels.specs.declared.resources.Series.TheVariants as series
use Rattle.fbc_world.specs.declared.asks.Cause.TheVariants.{Commit}
use Rattle.fbc_world.specs.declared.events.Act.{Act}
use Rattle.fbc_world.specs.declared.events.Act.TheVariants.{Ask, Enter, Grant, Local, Lower, Opened, Read, Write}
use Rattle.fbc_world.specs.declared.events.LocalEvent.TheVariants as local
use Rattle.fbc_world.specs.History.{History, happens}
use Rattle.fbc_levels.specs.Resources.{page_resource}
use Rattle.fbc_legal.specs.Scene.{number_resource}

-- The relation of the files as what is locked.
abbrev pub relation_resource : Resource
relation_resource = record { series = series.Relation; key = 0 }

-- What an owner does.
abbrev pub does : ℕ → Act → History → History
does owner act before = happens owner act false ∷ before

-- An owner edits a page.
abbrev pub edits_by : ℕ → ℕ → Edit → History → History
edits_by owner page edit before = does owner (Local (local.Edit page edit)) before

-- Owner 1 edits a page.
abbrev pub edits : ℕ → Edit → History → History
edits page edit before = edits_by 1 page edit before

-- An owner records that the high page is to be written before the low one.
abbrev pub orders_by : ℕ → ℕ → ℕ → History → History
orders_by owner high low before = does owner (Local (local.Before high low)) before

-- Owner 1 records it.
abbrev pub orders : ℕ → ℕ → History → History
orders high low before = orders_by 1 high low before

-- An owner writes a page.
abbrev pub writes_by : ℕ → ℕ → History → History
writes_by owner page before = does owner (Write page Commit false) before

-- Owner 1 writes a page.
abbrev pub writes : ℕ → History → History
writes page before = writes_by 1 page before

-- An owner gives up a resource.
abbrev pub frees : ℕ → Resource → History → History
frees owner resource before = does owner (Lower resource Free) before

-- An owner asks for a resource in EX, with a data word.
abbrev pub asks : ℕ → Resource → ℕ → History → History
asks owner resource word before = does owner (Ask resource Ex true word) before

-- It gets what it asked for.
abbrev pub gets : ℕ → Resource → ℕ → History → History
gets owner resource word before = does owner (Grant resource Ex) (asks owner resource word before)

-- An owner gets a page in EX, reads it and pins it.
abbrev pub holds_by : ℕ → ℕ → History → History
holds_by owner page before = does owner (Local (local.Pin page)) (does owner (Read page false) (gets owner (page_resource page) 0 before))

-- Owner 1 gets a page so.
abbrev pub holds : ℕ → History → History
holds page before = holds_by 1 page before

-- It begins the transaction of this number, which is the least active one.
abbrev pub begins : ℕ → History → History
begins number before = gets 1 (number_resource number) number before

-- The file is opened, and owner 1 comes.
abbrev pub with_owner : History
with_owner = does 1 (Enter 8 1) (does 0 (Opened 16) [])
