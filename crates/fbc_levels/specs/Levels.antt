-- The seven lock levels: their numbers, which of them go beside each other, and what two of them make.
use Rattle.std.specs.Prelude.{ℕ, Bool, true, false, List, if◌then◌else◌, nat_lt}
use Rattle.std.specs.List.{list_all}
use Rattle.fbc_levels.specs.declared.levels.Level.{Level}
use Rattle.fbc_levels.specs.declared.levels.Level.TheVariants.{Free, Null, Sr, Pr, Sw, Pw, Ex}

-- The number of a level: stronger levels have greater ones.
abbrev pub number_of : Level → ℕ
number_of Free = 0
number_of Null = 1
number_of Sr = 2
number_of Pr = 3
number_of Sw = 4
number_of Pw = 5
number_of Ex = 6

-- Whether one owner may be granted the first level while another is granted the second: all go together but these pairs.
abbrev pub is_compatible : Level → Level → Bool
is_compatible Sr Ex = false
is_compatible Pr Sw = false
is_compatible Pr Pw = false
is_compatible Pr Ex = false
is_compatible Sw Pr = false
is_compatible Sw Pw = false
is_compatible Sw Ex = false
is_compatible Pw Pr = false
is_compatible Pw Sw = false
is_compatible Pw Pw = false
is_compatible Pw Ex = false
is_compatible Ex Sr = false
is_compatible Ex Pr = false
is_compatible Ex Sw = false
is_compatible Ex Pw = false
is_compatible Ex Ex = false
is_compatible _ _ = true

-- The level that gives what both give: PW for PR with SW, and otherwise the one with the greater number.
abbrev pub join : Level → Level → Level
join Pr Sw = Pw
join Sw Pr = Pw
join a b = if nat_lt (number_of a) (number_of b) then b else a

-- The greatest of none, PR and EX that goes beside every wanted level.
abbrev pub highest_beside : List Level → Level
highest_beside wanted =
    if list_all (is_compatible Ex) wanted then Ex else (if list_all (is_compatible Pr) wanted then Pr else Free)

-- Whether it is no lock at all.
abbrev pub is_free : Level → Bool
is_free Free = true
is_free _ = false

-- Whether it is the exclusive level.
abbrev pub is_exclusive : Level → Bool
is_exclusive Ex = true
is_exclusive _ = false

-- Whether pages are used in this level.
abbrev pub is_page_level : Level → Bool
is_page_level Pr = true
is_page_level Ex = true
is_page_level _ = false
