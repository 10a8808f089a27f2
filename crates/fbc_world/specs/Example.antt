-- An example: a transaction that puts a row on a new page, gives it another value, and ends.
use Rattle.std.specs.Prelude.{ℕ, Bool, false, ◌==◌, if◌then◌else◌, [], ◌∷◌, Some}
use Rattle.fbc_kinds.specs.declared.edits.Edit.TheVariants.{Format, Mark, PutCell}
use Rattle.fbc_kinds.specs.declared.pages.Cell.{Cell}
use Rattle.fbc_kinds.specs.declared.pages.Flag.TheVariants as flag
use Rattle.fbc_kinds.specs.declared.pages.Page.TheVariants as page
use Rattle.fbc_kinds.specs.declared.pages.State.{State}
use Rattle.fbc_kinds.specs.declared.shapes.Shape.{Shape}
use Rattle.fbc_kinds.specs.View.{View}
use Rattle.fbc_levels.specs.declared.levels.Level.TheVariants.{Ex}
use Rattle.fbc_levels.specs.declared.resources.Series.TheVariants as series
use Rattle.fbc_world.specs.declared.asks.Cause.TheVariants.{Commit}
use Rattle.fbc_world.specs.declared.events.Act.{Act}
use Rattle.fbc_world.specs.declared.events.Act.TheVariants.{Enter, Grant, Local, Write}
use Rattle.fbc_world.specs.declared.events.LocalEvent.TheVariants as local
use Rattle.fbc_world.specs.History.{History, happens}

-- A file of one relation, whose values have at most 10 bytes.
abbrev pub example_shape : Shape
example_shape = record { size = 1024; count = 1; names = []; lengths = 10 ∷ []; limit = 100 }

-- Page 2 has the states of transactions.
abbrev pub example_file : View
example_file number = if number == 2 then Some (page.Tip (record { page = 2; sequence = 0; states = [] })) else Some page.Blank

-- A version of transaction 1 whose value is this byte, with no version before it.
abbrev pub value_cell : ℕ → Cell
value_cell byte = record { flag = flag.Primary; number = 1; back_page = 0; back_cell = 0; value = byte ∷ [] }

-- What owner 1 does.
abbrev pub does : Act → History → History
does act before = happens 1 act false ∷ before

-- Owner 1 comes, begins transaction 1, makes page 4 the third data page of relation 0, and puts a value into its cell 5, and
-- another one.
abbrev pub with_row : History
with_row =
    does (Local (local.Edit 4 (PutCell 5 (value_cell 66))))
    (does (Local (local.Edit 4 (PutCell 5 (value_cell 65))))
    (does (Local (local.Edit 4 (Format 5 4 0 2)))
    (does (Grant (record { series = series.Transaction; key = 1 }) Ex)
    (does (Enter 24 1) []))))

-- Then it marks the transaction on page 2.
abbrev pub with_mark : State → History
with_mark state = does (Local (local.Edit 2 (Mark 1 state))) with_row

-- And then it writes that page.
abbrev pub with_write : Bool → Bool → State → History
with_write failed landed state = happens 1 (Write 2 Commit failed) landed ∷ with_mark state
