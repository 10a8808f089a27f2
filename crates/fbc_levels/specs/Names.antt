-- How levels are printed.
use Rattle.std.specs.Prelude.{ℕ, List, codes}
use Rattle.fbc_levels.specs.declared.levels.Level.{Level}
use Rattle.fbc_levels.specs.declared.levels.Level.TheVariants.{Free, Null, Sr, Pr, Sw, Pw, Ex}

-- The text of a level.
abbrev pub name_of : Level → List ℕ
name_of Free = codes "none"
name_of Null = codes "null"
name_of Sr = codes "SR"
name_of Pr = codes "PR"
name_of Sw = codes "SW"
name_of Pw = codes "PW"
name_of Ex = codes "EX"
