-- What is kept of a page, with one naming more.
use Rattle.std.proofs.Common.{◌≡◌, ℕ, ◌==◌, ◌&&◌, ◌||◌, Bool, true, false, not, cond, if◌then◌else◌, List, [], ◌∷◌, ◌++◌, find, Option, Some, None, refl, sym, ap, ◌∙◌}
use Rattle.std.specs.Option.{option_or}
use Rattle.std.proofs.lemmas.List.Folds.{find-append, list_any-append}
use Rattle.fbc_kinds.proofs.Tests.{test_of_same}
use Rattle.fbc_reach.specs.Roles.{kind_code}
use Rattle.fbc_reach.specs.Tally.{in_role_among, is_of_kind, role_of, role_walked}
use Rattle.fbc_reach.specs.Walk.{naming, is_of_page}
use Rattle.fbc_reach.specs.declared.namings.Naming.{Naming}
use Rattle.fbc_reach.specs.declared.namings.Role.{Role}

pub or_false : (b : Bool) → (b || false) ≡ b
or_false true = refl
or_false false = refl

-- A page that is named has its own number.
pub own_page : (page : ℕ) → (page == page) ≡ true
own_page page = test_of_same page page refl

-- It is in some role where it was in one, or is in this one.
pub one_role_more : (done : List Naming) (page : ℕ) (role : Role) (test : Role → Bool)
    → in_role_among (done ++ naming page role ∷ []) page test ≡ (in_role_among done page test || test role)
one_role_more done page role test =
    list_any-append (λ (n : Naming). (n.page == page) && test n.role) done (naming page role ∷ [])
    ∙ ap (λ own. in_role_among done page test || ((own && test role) || false)) (own_page page)
    ∙ ap (λ here. in_role_among done page test || here) (or_false (test role))

role_of_either : (a b : Option Naming) → role_of (option_or a b) ≡ option_or (role_of a) (role_of b)
role_of_either None b = refl
role_of_either (Some n) b = refl

role_if : (b : Bool) (n : Naming) → role_of (cond b (Some n) None) ≡ (if not b then None else Some n.role)
role_if true n = refl
role_if false n = refl

-- It is walked as before, or for this role where it has its kind.
pub walked_more : (done : List Naming) (page kind : ℕ) (role : Role)
    → role_walked (done ++ naming page role ∷ []) page kind ≡ option_or (role_walked done page kind) (if not (kind == kind_code role) then None else Some role)
walked_more done page kind role =
    ap role_of (find-append (is_of_kind page kind) done (naming page role ∷ []))
    ∙ role_of_either (find (is_of_kind page kind) done) (find (is_of_kind page kind) (naming page role ∷ []))
    ∙ ap (λ own. option_or (role_walked done page kind) (role_of (cond (own && kind == kind_code role) (Some (naming page role)) None))) (own_page page)
    ∙ ap (option_or (role_walked done page kind)) (role_if (kind == kind_code role) (naming page role))

-- A flag that says it of the namings before says it of one more.
pub flag_more : (done : List Naming) (page : ℕ) (role : Role) (test : Role → Bool) (flag here : Bool) → flag ≡ in_role_among done page test → here ≡ test role
    → (flag || here) ≡ in_role_among (done ++ naming page role ∷ []) page test
flag_more done page role test flag here was is =
    ap (λ f. f || here) was ∙ ap (λ h. in_role_among done page test || h) is ∙ sym (one_role_more done page role test)

pub walked_step : (done : List Naming) (page kind : ℕ) (role : Role) (old new : Option Role) (other : Bool)
    → old ≡ role_walked done page kind → other ≡ not (kind == kind_code role) → new ≡ option_or old (if other then None else Some role)
    → new ≡ role_walked (done ++ naming page role ∷ []) page kind
walked_step done page kind role old new other was differs is =
    is
    ∙ ap (λ o. option_or o (if other then None else Some role)) was
    ∙ ap (λ b. option_or (role_walked done page kind) (if b then None else Some role)) differs
    ∙ sym (walked_more done page kind role)

-- A page that is not named is in no role.
not_here : (b test rest : Bool) (n : Naming) (later : Option Naming) → (later ≡ None → rest ≡ false) → cond b (Some n) later ≡ None → ((b && test) || rest) ≡ false
not_here true test rest n later none e = cc
not_here false test rest n later none e = none e

pub in_no_role : (done : List Naming) (page : ℕ) (test : Role → Bool) → find (is_of_page page) done ≡ None → in_role_among done page test ≡ false
in_no_role [] page test none = refl
in_no_role (n ∷ ns) page test none = not_here (n.page == page) (test n.role) (in_role_among ns page test) n (find (is_of_page page) ns) (in_no_role ns page test) none

not_walked_here : (b own : Bool) (n : Naming) (later walked : Option Naming) → (later ≡ None → role_of walked ≡ None) → cond b (Some n) later ≡ None
    → role_of (cond (b && own) (Some n) walked) ≡ None
not_walked_here true own n later walked none e = cc
not_walked_here false own n later walked none e = none e

pub walked_for_none : (done : List Naming) (page kind : ℕ) → find (is_of_page page) done ≡ None → role_walked done page kind ≡ None
walked_for_none [] page kind none = refl
walked_for_none (n ∷ ns) page kind none =
    not_walked_here (n.page == page) (kind == kind_code n.role) n (find (is_of_page page) ns) (find (is_of_kind page kind) ns) (walked_for_none ns page kind) none
