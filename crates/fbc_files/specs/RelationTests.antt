-- The tests of the relations that a file is to be made with.
use Rattle.std.specs.Prelude.{◌&&◌, ℕ, Bool, true, not, nat_le, List, [], ◌∷◌, length}
use Rattle.std.specs.List.{list_all, list_any}
use Rattle.std.specs.Str.{bytes_eq}
use Rattle.fbc_kinds.specs.HeaderSpelling.{is_name}
use Rattle.fbc_kinds.specs.Limits.{relation_limit, value_limit}
use Rattle.fbc_files.specs.declared.relations.NewRelation.{NewRelation}

-- Whether a relation is within its limits.
abbrev pub is_new_relation : NewRelation → Bool
is_new_relation relation = is_name relation.name && nat_le 1 relation.length && nat_le relation.length value_limit

-- Whether a relation has this name.
abbrev pub has_name : List ℕ → List NewRelation → Bool
has_name name relations = list_any (λ (relation : NewRelation). bytes_eq relation.name name) relations

-- Whether no two relations have one name.
abbrev pub have_own_names : List NewRelation → Bool
have_own_names [] = true
have_own_names (relation ∷ relations) = not (has_name relation.name relations) && have_own_names relations

-- Whether there are one to eight relations.
abbrev pub has_right_count : List NewRelation → Bool
has_right_count relations = nat_le 1 (length relations) && nat_le (length relations) relation_limit

-- Whether a file can be made with the relations.
abbrev pub pass_tests : List NewRelation → Bool
pass_tests relations = has_right_count relations && list_all is_new_relation relations && have_own_names relations
