-- Edits that change no cell of a data page and no state of a number.
use Rattle.std.specs.Prelude.{Bool, true, false}
use Rattle.fbc_kinds.specs.declared.edits.Edit.{Edit}
use Rattle.fbc_kinds.specs.declared.edits.Edit.TheVariants as edit

-- Whether an edit is a format, or one of the header, of a page inventory or of a pointer page.
abbrev pub is_plain : Edit → Bool
is_plain (edit.Mark number state) = false
is_plain (edit.PutCell cell content) = false
is_plain (edit.ClearCell cell) = false
is_plain _ = true
