-- The levels in which pages are held.
use Rattle.std.proofs.Common.{◌≡◌, true, false, Option, Some, None, is_none, IfSome, arith}
use Rattle.std.specs.Option.{option_map_or}
use Rattle.fbc_kinds.specs.declared.shapes.Shape.{Shape}
use Rattle.fbc_levels.specs.declared.levels.Level.{Level}
use Rattle.fbc_levels.specs.declared.levels.Level.TheVariants.{Free}
use Rattle.fbc_levels.specs.Levels.{join, is_page_level}
use Rattle.fbc_buffers.specs.declared.buffers.Buffer.{Buffer}
use Rattle.fbc_cache.specs.Cache.{HasLevel, IsBuffer}
use Rattle.fbc_cache.specs.Wants.{is_part}

-- A part of a level adds nothing to it.
pub part_adds_nothing : (held level : Level) → is_part level held ≡ true → join held level ≡ held
part_adds_nothing held level part = grind (arith, part)

pub page_level_usable : (level : Level) → is_page_level level ≡ true → is_page_level level ≡ true
page_level_usable level is = grind (arith, is)

-- A page whose grant was learnt may be used.
own_level : (level : Level) (wanted : Option Level) → HasLevel level wanted → is_none wanted ≡ true → is_page_level level ≡ true
own_level level None has granted = page_level_usable level has
own_level level (Some wanted) has granted = absurd (cc)

pub held_usable : (shape : Shape) (found : Option Buffer) → IfSome found (IsBuffer shape) → option_map_or (λ (b : Buffer). is_none b.wanted) found false ≡ true
    → is_page_level (option_map_or (λ (b : Buffer). b.level) found Free) ≡ true
held_usable shape None is granted = absurd (cc)
held_usable shape (Some b) is granted = own_level b.level b.wanted is.level granted
