-- The entries of a new header.
use Rattle.std.proofs.Common.{◌≡◌, ◌+◌, ◌<◌, ◌++◌, ℕ, zero, suc, List, [], ◌∷◌, length, get_or, take, Some, refl, sym, ap, ◌∙◌, arith}
use Rattle.std.specs.Prelude.{slice_get}
use Rattle.std.proofs.lemmas.List.{take_more, length-take-le}
use Rattle.fbc_kinds.specs.declared.pages.Relation.{Relation}
use Rattle.fbc_files.specs.declared.relations.NewRelation.{NewRelation}
use Rattle.fbc_files.specs.NewPages.{new_entries}

-- The entry of a relation with this pointer page.
abbrev pub entry : ℕ → NewRelation → Relation
entry page relation = record { name = relation.name; length = relation.length; pointers = page ∷ [] }

pub length-new_entries : (page : ℕ) (relations : List NewRelation) → length (new_entries page relations) ≡ length relations
length-new_entries page [] = refl
length-new_entries page (relation ∷ relations) = ap suc (length-new_entries (page + 1) relations)

-- One relation more.
new_entries-push : (page : ℕ) (relations : List NewRelation) (relation : NewRelation) → new_entries page (relations ++ relation ∷ []) ≡ new_entries page relations ++ entry (page + length relations) relation ∷ []
new_entries-push page [] relation = let same : page ≡ page + 0 = omega arith in ap (λ (n : ℕ). entry n relation ∷ []) same
new_entries-push page (first ∷ relations) relation =
    let same : page + 1 + length relations ≡ page + suc (length relations) = omega arith in
    ap (λ (entries : List Relation). entry page first ∷ entries)
    (new_entries-push (page + 1) relations relation ∙ ap (λ (n : ℕ). new_entries (page + 1) relations ++ entry n relation ∷ []) same)

pub new_entries-more : (relations : List NewRelation) (i : ℕ) (entries : List Relation) (relation : NewRelation) (pointers : List ℕ) → i < length relations → relation ≡ get_or relations i relation → entries ≡ new_entries 3 (take i relations) → pointers ≡ (3 + i) ∷ [] → entries ++ record { name = relation.name; length = relation.length; pointers = pointers } ∷ [] ≡ new_entries 3 (take (i + 1) relations)
new_entries-more relations i entries relation pointers below is before there =
    let made : List ℕ → Relation = λ numbers. record { name = relation.name; length = relation.length; pointers = numbers } in
    let long : 3 + length (take i relations) ≡ 3 + i = ap (λ n. 3 + n) (length-take-le i relations (omega arith)) in
    ap (λ (numbers : List ℕ). entries ++ made numbers ∷ []) there
    ∙ (ap (λ (es : List Relation). es ++ entry (3 + i) relation ∷ []) before
    ∙ (ap (λ (n : ℕ). new_entries 3 (take i relations) ++ entry n relation ∷ []) (sym long)
    ∙ (sym (new_entries-push 3 (take i relations) relation)
    ∙ (ap (λ (r : NewRelation). new_entries 3 (take i relations ++ r ∷ [])) is
    ∙ ap (new_entries 3) (sym (take_more relations i relation below))))))

-- An entry is that of the relation in its place.
pub record IsEntryOf (page : ℕ) (relations : List NewRelation) (i : ℕ) (r : Relation) : Type 0 where
  pub relation : NewRelation
  pub found : slice_get relations i ≡ Some relation
  pub is : entry (page + i) relation ≡ r

pub new_entry_at : (page : ℕ) (relations : List NewRelation) (i : ℕ) (r : Relation) → slice_get (new_entries page relations) i ≡ Some r → IsEntryOf page relations i r
new_entry_at page [] i r at = cc
new_entry_at page (relation ∷ relations) zero r at = let same : page + 0 ≡ page = omega arith in record { relation = relation; found = refl; is = ap (λ (n : ℕ). entry n relation) same ∙ inside at }
  where
    inside : Some (entry page relation) ≡ Some r → entry page relation ≡ r
    inside e = cc
new_entry_at page (relation ∷ relations) (suc i) r at =
    let later = new_entry_at (page + 1) relations i r at in
    let same : page + suc i ≡ page + 1 + i = omega arith in
    record { relation = later.relation; found = later.found; is = ap (λ (n : ℕ). entry n later.relation) same ∙ later.is }
