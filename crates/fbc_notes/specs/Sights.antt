-- What cells tell of what an open transaction sees of a row, and where it stands on the way down the row's versions.
use Rattle.std.specs.Prelude.{◌==◌, ◌≡◌, ◌⊎◌, ◌/◌, ◌%◌, ℕ, Bool, false, true, List, Option, Some, None, is_some}
use Rattle.std.specs.List.{Contains}
use Rattle.fbc_kinds.specs.declared.pages.Cell.{Cell}
use Rattle.fbc_kinds.specs.declared.shapes.Shape.{Shape}
use Rattle.fbc_kinds.specs.Chain.{value_of}
use Rattle.fbc_kinds.specs.Edits.{value_length}
use Rattle.fbc_kinds.specs.Limits.{cells, slots}
use Rattle.fbc_kinds.specs.Reach.{DataRole, NamesBack, shows_role}
use Rattle.fbc_kinds.specs.View.{View, cell_at, is_top, named_in, pointer_of}
use Rattle.fbc_notes.specs.declared.notes.Note.{Note}
use Rattle.fbc_notes.specs.declared.notes.Note.TheVariants as note

-- By the version in the row's own cell the value is seen, or nothing: the version is held, or is not and leads no further,
-- or is no newest one.
pub data TellsSeen (held : ℕ → Bool) (version : Cell) (value : Option (List ℕ)) : Type 0 where
  of_held : is_top version.flag ≡ true → held version.number ≡ true → value_of version.flag version.value ≡ value → TellsSeen held version value
  of_lone : is_top version.flag ≡ true → held version.number ≡ false → version.back_page ≡ 0 → value ≡ None → TellsSeen held version value
  of_none : is_top version.flag ≡ false → value ≡ None → TellsSeen held version value

-- What is seen of a row may be noted where a copy shows the row's own cell, on a page that is noted as named for it.
pub record MaySee (shape : Shape) (held : ℕ → Bool) (copies : View) (notes : List Note) (relation row : ℕ) (value : Option (List ℕ)) : Type 0 where
  pub pointer : ℕ
  pub page : ℕ
  pub version : Cell
  pub named : Contains notes (note.Named relation (row / cells shape.size (value_length shape relation)) pointer page)
  pub stands : cell_at copies page (row % cells shape.size (value_length shape relation)) ≡ Some version
  pub tells : TellsSeen held version value

-- A stand may be noted in the row's own cell of a page with a `Ground`, where a copy shows a newest version that is held or
-- leads on; and in the cell to which the version of another stand leads, which is not held.
pub data MayStand (shape : Shape) (held : ℕ → Bool) (copies : View) (notes : List Note) (relation row page cell : ℕ) (version : Cell) : Type 0 where
  at_first : Contains notes (note.Ground relation (row / cells shape.size (value_length shape relation)) page)
      → shows_role (DataRole relation (row / cells shape.size (value_length shape relation))) page (copies page) ≡ true
      → cell ≡ row % cells shape.size (value_length shape relation)
      → cell_at copies page cell ≡ Some version
      → is_top version.flag ≡ true
      → (held version.number ≡ true) ⊎ ((version.back_page == 0) ≡ false)
      → MayStand shape held copies notes relation row page cell version
  below : (upper_page upper_cell : ℕ) (upper : Cell)
      → Contains notes (note.Stands relation row upper_page upper_cell upper)
      → held upper.number ≡ false
      → NamesBack upper page cell
      → cell_at copies page cell ≡ Some version
      → MayStand shape held copies notes relation row page cell version

-- That nothing is seen of a row may be noted by a page with a `Ground`: where a copy shows that it is no data page for the row;
-- or in the row's own cell no newest version; or one that is not held and leads no further.
pub data MaySeeNone (shape : Shape) (held : ℕ → Bool) (copies : View) (notes : List Note) (relation row : ℕ) : Type 0 where
  elsewhere : (page : ℕ)
      → Contains notes (note.Ground relation (row / cells shape.size (value_length shape relation)) page)
      → is_some (copies page) ≡ true
      → shows_role (DataRole relation (row / cells shape.size (value_length shape relation))) page (copies page) ≡ false
      → MaySeeNone shape held copies notes relation row
  no_newest : (page : ℕ) (version : Cell)
      → Contains notes (note.Ground relation (row / cells shape.size (value_length shape relation)) page)
      → cell_at copies page (row % cells shape.size (value_length shape relation)) ≡ Some version
      → is_top version.flag ≡ false
      → MaySeeNone shape held copies notes relation row
  lone : (page : ℕ) (version : Cell)
      → Contains notes (note.Ground relation (row / cells shape.size (value_length shape relation)) page)
      → cell_at copies page (row % cells shape.size (value_length shape relation)) ≡ Some version
      → is_top version.flag ≡ true
      → held version.number ≡ false
      → (version.back_page == 0) ≡ true
      → MaySeeNone shape held copies notes relation row

-- That nothing is seen of a row may be noted where no page is named for it: a note gives the pointer page of its sequence, and a
-- copy of that names no page in the slot; or a copy of the header names no such pointer page.
pub data MaySeeNoPage (shape : Shape) (copies : View) (notes : List Note) (relation row : ℕ) : Type 0 where
  no_page : (pointer : ℕ)
      → Contains notes (note.Pointer relation ((row / cells shape.size (value_length shape relation)) / slots shape.size) pointer)
      → is_some (copies pointer) ≡ true
      → named_in (copies pointer) ((row / cells shape.size (value_length shape relation)) % slots shape.size) ≡ None
      → MaySeeNoPage shape copies notes relation row
  no_pointer : is_some (copies 0) ≡ true
      → pointer_of copies relation ((row / cells shape.size (value_length shape relation)) / slots shape.size) ≡ None
      → MaySeeNoPage shape copies notes relation row

-- By the version where one stands the value is seen, or nothing: the version is held, or it is not and leads no further.
pub data TellsBelow (held : ℕ → Bool) (version : Cell) (value : Option (List ℕ)) : Type 0 where
  of_held : held version.number ≡ true → value_of version.flag version.value ≡ value → TellsBelow held version value
  of_last : held version.number ≡ false → (version.back_page == 0) ≡ true → value ≡ None → TellsBelow held version value

-- What is seen of a row may be noted by a stand.
pub record MaySeeBelow (held : ℕ → Bool) (notes : List Note) (relation row : ℕ) (value : Option (List ℕ)) : Type 0 where
  pub page : ℕ
  pub cell : ℕ
  pub version : Cell
  pub stand : Contains notes (note.Stands relation row page cell version)
  pub tells : TellsBelow held version value
