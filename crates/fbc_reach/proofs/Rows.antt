-- One page more in a row of namings.
use Rattle.std.proofs.Common.{◌≡◌, ℕ, suc, ◌+◌, ◌<◌, Bool, true, false, cond, List, [], ◌∷◌, ◌++◌, length, filter, take, get_or, refl, sym, ap, ◌∙◌, arith, append_assoc}
use Rattle.std.proofs.lemmas.List.{take_more, length-take-le}
use Rattle.fbc_kinds.specs.declared.pages.Relation.{Relation}
use Rattle.fbc_reach.specs.declared.namings.Role.{Role}
use Rattle.fbc_reach.specs.declared.namings.Role.TheVariants as role
use Rattle.fbc_reach.specs.declared.namings.Naming.{Naming}
use Rattle.fbc_reach.specs.Walk.{naming, named_in_row, names_a_page, pointers_named}

row_push : (role_of : ℕ → Role) (place : ℕ) (pages : List ℕ) (page : ℕ) → named_in_row role_of place (pages ++ page ∷ []) ≡ named_in_row role_of place pages ++ naming page (role_of (place + length pages)) ∷ []
row_push role_of place [] page = ap (λ at. naming page (role_of at) ∷ []) (let here : place ≡ place + 0 = omega arith in here)
row_push role_of place (p ∷ ps) page =
    ap (λ rest. naming p (role_of place) ∷ rest) (row_push role_of (suc place) ps page)
    ∙ ap (λ at. naming p (role_of place) ∷ (named_in_row role_of (suc place) ps ++ naming page (role_of at) ∷ [])) (let next : suc place + length ps ≡ place + length (p ∷ ps) = omega arith in next)

-- One page more behind other namings.
pub row_more : (role_of : ℕ → Role) (before : List Naming) (pages : List ℕ) (page : ℕ)
    → (before ++ named_in_row role_of 0 pages) ++ naming page (role_of (length pages)) ∷ [] ≡ before ++ named_in_row role_of 0 (pages ++ page ∷ [])
row_more role_of before pages page =
    let start : length pages ≡ 0 + length pages = omega arith in
    append_assoc before (named_in_row role_of 0 pages) (naming page (role_of (length pages)) ∷ [])
    ∙ ap (λ at. before ++ (named_in_row role_of 0 pages ++ naming page (role_of at) ∷ [])) start
    ∙ ap (λ row. before ++ row) (sym (row_push role_of 0 pages page))

no_more : (ns : List Naming) → ns ++ [] ≡ ns
no_more [] = refl
no_more (n ∷ ns) = ap (λ rest. n ∷ rest) (no_more ns)

relations_push : (number : ℕ) (relations : List Relation) (relation : Relation)
    → pointers_named number (relations ++ relation ∷ []) ≡ pointers_named number relations ++ named_in_row (role.Pointer (number + length relations)) 0 relation.pointers
relations_push number [] relation =
    no_more (named_in_row (role.Pointer number) 0 relation.pointers)
    ∙ ap (λ at. named_in_row (role.Pointer at) 0 relation.pointers) (let here : number ≡ number + 0 = omega arith in here)
relations_push number (r ∷ rs) relation =
    ap (λ rest. named_in_row (role.Pointer number) 0 r.pointers ++ rest) (relations_push (suc number) rs relation)
    ∙ sym (append_assoc (named_in_row (role.Pointer number) 0 r.pointers) (pointers_named (suc number) rs) (named_in_row (role.Pointer (suc number + length rs)) 0 relation.pointers))
    ∙ ap (λ at. pointers_named number (r ∷ rs) ++ named_in_row (role.Pointer at) 0 relation.pointers) (let next : suc number + length rs ≡ number + length (r ∷ rs) = omega arith in next)

-- One relation more behind other namings.
pub relations_more : (before : List Naming) (relations : List Relation) (relation : Relation)
    → (before ++ pointers_named 0 relations) ++ named_in_row (role.Pointer (length relations)) 0 relation.pointers ≡ before ++ pointers_named 0 (relations ++ relation ∷ [])
relations_more before relations relation =
    let start : length relations ≡ 0 + length relations = omega arith in
    append_assoc before (pointers_named 0 relations) (named_in_row (role.Pointer (length relations)) 0 relation.pointers)
    ∙ ap (λ at. before ++ (pointers_named 0 relations ++ named_in_row (role.Pointer at) 0 relation.pointers)) start
    ∙ ap (λ all. before ++ all) (sym (relations_push 0 relations relation))

filter_both : (xs ys : List Naming) → filter names_a_page (xs ++ ys) ≡ filter names_a_page xs ++ filter names_a_page ys
filter_both [] ys = refl
filter_both (x ∷ xs) ys = go (names_a_page x) (filter_both xs ys)
  where
    go : (b : Bool) → filter names_a_page (xs ++ ys) ≡ filter names_a_page xs ++ filter names_a_page ys
        → cond b (x ∷ filter names_a_page (xs ++ ys)) (filter names_a_page (xs ++ ys)) ≡ cond b (x ∷ filter names_a_page xs) (filter names_a_page xs) ++ filter names_a_page ys
    go true later = ap (λ rest. x ∷ rest) later
    go false later = later

slot_push : (relation place : ℕ) (slots : List ℕ) (page : ℕ)
    → filter names_a_page (named_in_row (role.Data relation) place (slots ++ page ∷ []))
    ≡ filter names_a_page (named_in_row (role.Data relation) place slots) ++ filter names_a_page (naming page (role.Data relation (place + length slots)) ∷ [])
slot_push relation place slots page =
    ap (filter names_a_page) (row_push (role.Data relation) place slots page)
    ∙ filter_both (named_in_row (role.Data relation) place slots) (naming page (role.Data relation (place + length slots)) ∷ [])

-- A turn of each loop over a row.
pub row_step : (role_of : ℕ → Role) (before now new : List Naming) (pages : List ℕ) (i : ℕ) → i < length pages
    → now ≡ before ++ named_in_row role_of 0 (take i pages)
    → new ≡ now ++ naming (get_or pages i 0) (role_of i) ∷ []
    → new ≡ before ++ named_in_row role_of 0 (take (i + 1) pages)
row_step role_of before now new pages i below was is =
    let count : length (take i pages) ≡ i = length-take-le i pages (omega arith) in
    is
    ∙ ap (λ all. all ++ naming (get_or pages i 0) (role_of i) ∷ []) was
    ∙ ap (λ at. (before ++ named_in_row role_of 0 (take i pages)) ++ naming (get_or pages i 0) (role_of at) ∷ []) (sym count)
    ∙ row_more role_of before (take i pages) (get_or pages i 0)
    ∙ ap (λ row. before ++ named_in_row role_of 0 row) (sym (take_more pages i 0 below))

pub relations_step : (before now new : List Naming) (relations : List Relation) (i : ℕ) (relation : Relation) → i < length relations
    → relation ≡ get_or relations i relation
    → now ≡ before ++ pointers_named 0 (take i relations)
    → new ≡ now ++ named_in_row (role.Pointer i) 0 relation.pointers
    → new ≡ before ++ pointers_named 0 (take (i + 1) relations)
relations_step before now new relations i relation below here was is =
    let count : length (take i relations) ≡ i = length-take-le i relations (omega arith) in
    is
    ∙ ap (λ all. all ++ named_in_row (role.Pointer i) 0 relation.pointers) was
    ∙ ap (λ at. (before ++ pointers_named 0 (take i relations)) ++ named_in_row (role.Pointer at) 0 relation.pointers) (sym count)
    ∙ relations_more before (take i relations) relation
    ∙ ap (λ (r : Relation). before ++ pointers_named 0 (take i relations ++ r ∷ [])) here
    ∙ ap (λ all. before ++ pointers_named 0 all) (sym (take_more relations i relation below))

pub slots_step : (relation place sequence : ℕ) (before now new : List Naming) (slots : List ℕ) (i : ℕ) → i < length slots → sequence ≡ place + i
    → now ≡ before ++ filter names_a_page (named_in_row (role.Data relation) place (take i slots))
    → new ≡ now ++ filter names_a_page (naming (get_or slots i 0) (role.Data relation sequence) ∷ [])
    → new ≡ before ++ filter names_a_page (named_in_row (role.Data relation) place (take (i + 1) slots))
slots_step relation place sequence before now new slots i below at was is =
    let count : sequence ≡ place + length (take i slots) = (let l : length (take i slots) ≡ i = length-take-le i slots (omega arith) in omega arith) in
    let row : List Naming = filter names_a_page (named_in_row (role.Data relation) place (take i slots)) in
    is
    ∙ ap (λ all. all ++ filter names_a_page (naming (get_or slots i 0) (role.Data relation sequence) ∷ [])) was
    ∙ append_assoc before row (filter names_a_page (naming (get_or slots i 0) (role.Data relation sequence) ∷ []))
    ∙ ap (λ s. before ++ (row ++ filter names_a_page (naming (get_or slots i 0) (role.Data relation s) ∷ []))) count
    ∙ ap (λ all. before ++ all) (sym (slot_push relation place (take i slots) (get_or slots i 0)))
    ∙ ap (λ some. before ++ filter names_a_page (named_in_row (role.Data relation) place some)) (sym (take_more slots i 0 below))
