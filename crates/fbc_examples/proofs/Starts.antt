-- The small files may begin an example.
use Rattle.std.proofs.Common.{◌≡◌, ℕ, zero, suc, Some, inl, refl, arith}
use Rattle.fbc_kinds.specs.declared.pages.Relation.{Relation}
use Rattle.fbc_kinds.specs.Edits.{IsShape, value_length}
use Rattle.fbc_kinds.specs.Sound.{IsSound}
use Rattle.fbc_kinds.specs.View.{View, relation_of}
use Rattle.fbc_examples.specs.Files.{IsStart, empty_file, new_file, row_file, small_shape, spread_file, stale_file, worn_file}
use Rattle.fbc_examples.proofs.SoundFiles.{sound_empty, sound_new, sound_row, sound_worn}
use Rattle.fbc_examples.proofs.SpreadFiles.{sound_spread, whole_spread_file}
use Rattle.fbc_examples.proofs.StaleFiles.{sound_stale, whole_stale_file}
use Rattle.fbc_examples.proofs.WholePages.{HasWholePages, whole_empty_file, whole_new_file, whole_row_file, whole_worn_file}

small : IsShape small_shape
small = record { size = inl refl; count = omega arith }

abbrev HaveLengths : View → Type 0
HaveLengths file = (relation : ℕ) (entry : Relation) → relation_of file relation ≡ Some entry → entry.length ≡ value_length small_shape relation

start : (file : View) → HasWholePages small_shape file → HaveLengths file → IsSound file → IsStart small_shape file
start file whole lengths sound = record {
  of_shape = record { is_shape = small; within = λ number content is. (whole number content is).0; lengths = lengths };
  own = λ number content is. (whole number content is).1;
  sound = sound;
}

lengths_new : HaveLengths new_file
lengths_new zero entry is = cc
lengths_new (suc relation) entry is = cc

lengths_empty : HaveLengths empty_file
lengths_empty zero entry is = cc
lengths_empty (suc relation) entry is = cc

lengths_row : HaveLengths row_file
lengths_row zero entry is = cc
lengths_row (suc relation) entry is = cc

lengths_worn : HaveLengths worn_file
lengths_worn zero entry is = cc
lengths_worn (suc relation) entry is = cc

lengths_spread : HaveLengths spread_file
lengths_spread zero entry is = cc
lengths_spread (suc relation) entry is = cc

lengths_stale : HaveLengths stale_file
lengths_stale zero entry is = cc
lengths_stale (suc relation) entry is = cc

pub start_new : IsStart small_shape new_file
start_new = start new_file whole_new_file lengths_new sound_new

pub start_empty : IsStart small_shape empty_file
start_empty = start empty_file whole_empty_file lengths_empty sound_empty

pub start_row : IsStart small_shape row_file
start_row = start row_file whole_row_file lengths_row sound_row

pub start_worn : IsStart small_shape worn_file
start_worn = start worn_file whole_worn_file lengths_worn sound_worn

pub start_spread : IsStart small_shape spread_file
start_spread = start spread_file whole_spread_file lengths_spread sound_spread

pub start_stale : IsStart small_shape stale_file
start_stale = start stale_file whole_stale_file lengths_stale sound_stale
