-- Which requests stand in the way of a level.
use Rattle.std.proofs.Common.{◌≡◌, ◌≢◌, ℕ, Bool, true, false, not, ◌&&◌, ◌==◌, if◌then◌else◌, Option, Some, None, IsSome, IsNone, IfSome, is_some, unwrap_or, refl, sym, ◌∙◌, arith}
use Rattle.std.proofs.lemmas.Bool.Decides.{nat_tests}
use Rattle.fbc_levels.specs.declared.levels.Level.{Level}
use Rattle.fbc_levels.specs.declared.resources.Resource.{Resource}
use Rattle.fbc_levels.specs.declared.resources.Request.{Request}
use Rattle.fbc_levels.specs.Levels.{is_compatible}
use Rattle.fbc_levels.specs.Resources.{is_same_resource}
use Rattle.fbc_levels.specs.LockState.{is_of, is_wait_of, stands_in_way, GoBeside, AreApart, WaitOnce}
use Rattle.fbc_levels.specs.Levels.{join}
use Rattle.fbc_lock_table.specs.Effects.{with_granted, with_waiting, granting, new_request}

pub compatible-sym : (a b : Level) → is_compatible a b ≡ is_compatible b a
compatible-sym a b = grind (arith)

pub same_resource : (a b : Resource) → is_same_resource a b ≡ true → a ≡ b
same_resource a b same = grind (arith, nat_tests)

pub same_resource-self : (a : Resource) → is_same_resource a a ≡ true
same_resource-self a = grind (arith, nat_tests)

-- A level that nobody is in the way of goes beside each level that another is granted there.
pub beside_free : (owner : ℕ) (resource : Resource) (level : Level) (t : Request) → stands_in_way owner resource level t ≡ false → resource ≡ t.resource → owner ≢ t.owner → is_compatible level t.granted ≡ true
beside_free owner resource level t free same other =
    let here = same_resource-self resource in
    grind (arith, nat_tests)

-- What passes is a request of the owner for the resource.
pub is_of-owner : (owner : ℕ) (resource : Resource) (r : Request) → is_of owner resource r ≡ true → r.owner ≡ owner
is_of-owner owner resource r is = grind (arith, nat_tests)

pub is_of-resource : (owner : ℕ) (resource : Resource) (r : Request) → is_of owner resource r ≡ true → r.resource ≡ resource
is_of-resource owner resource r is = grind (arith, nat_tests, same_resource r.resource resource)

pub is_of-self : (r : Request) → is_of r.owner r.resource r ≡ true
is_of-self r =
    let same = same_resource-self r.resource in
    grind (arith, nat_tests)

-- A relation holds where each side may be replaced, but not both.
pub either : {X : Type 0} (P : X → X → Type 0) (u v x y : X) (a b : Bool) → (a ≡ true → b ≡ true → ⊥) → (a ≡ true → P u y) → (b ≡ true → P x v) → P x y → P (if a then u else x) (if b then v else y)
either P u v x y true true both first second neither = absurd (both refl refl)
either P u v x y true false both first second neither = first refl
either P u v x y false true both first second neither = second refl
either P u v x y false false both first second neither = neither

-- Two requests go beside each other after one of them got a level that nobody is in the way of.
pub beside-granted : (owner : ℕ) (resource : Resource) (level : Level) (r t : Request) → stands_in_way owner resource level r ≡ false → stands_in_way owner resource level t ≡ false → GoBeside r t → GoBeside (with_granted owner resource level r) (with_granted owner resource level t)
beside-granted owner resource level r t free_r free_t beside same other =
    either (λ x y. is_compatible x y ≡ true) level level r.granted t.granted (is_of owner resource r) (is_of owner resource t)
    (λ a b. other (is_of-owner owner resource r a ∙ sym (is_of-owner owner resource t b)))
    (λ a. beside_free owner resource level t free_t (sym (is_of-resource owner resource r a) ∙ same) (λ e. other (is_of-owner owner resource r a ∙ e)))
    (λ b. compatible-sym r.granted level ∙ beside_free owner resource level r free_r (sym (is_of-resource owner resource t b) ∙ sym same) (λ e. other (sym e ∙ sym (is_of-owner owner resource t b))))
    (beside same other)

-- A level that the held one gives goes beside what the held one goes beside.
pub lower_beside : (held lower other : Level) → join held lower ≡ held → is_compatible held other ≡ true → is_compatible lower other ≡ true
lower_beside held lower other gives beside = grind (arith)

-- Two requests go beside each other after one of them was lowered.
pub beside-lowered : (owner : ℕ) (resource : Resource) (level : Level) (r t : Request) → (is_of owner resource r ≡ true → join r.granted level ≡ r.granted) → (is_of owner resource t ≡ true → join t.granted level ≡ t.granted) → GoBeside r t → GoBeside (with_granted owner resource level r) (with_granted owner resource level t)
beside-lowered owner resource level r t gives_r gives_t beside same other =
    either (λ x y. is_compatible x y ≡ true) level level r.granted t.granted (is_of owner resource r) (is_of owner resource t)
    (λ a b. other (is_of-owner owner resource r a ∙ sym (is_of-owner owner resource t b)))
    (λ a. lower_beside r.granted level t.granted (gives_r a) (beside same other))
    (λ b. compatible-sym r.granted level ∙ lower_beside t.granted level r.granted (gives_t b) (compatible-sym t.granted r.granted ∙ beside same other))
    (beside same other)

-- An owner that waits for nothing does not wait by this request.
pub waits_not : (owner : ℕ) (r : Request) → is_wait_of owner r ≡ false → r.owner ≡ owner → is_some r.waiting ≡ false
waits_not owner r none by = grind (arith, nat_tests)

-- An owner that waited for nothing waits by one request after one of its requests was queued.
pub once-queued : (owner : ℕ) (resource : Resource) (level : Level) (r t : Request) → is_wait_of owner r ≡ false → is_wait_of owner t ≡ false → AreApart r t × WaitOnce r t → WaitOnce (with_waiting owner resource level r) (with_waiting owner resource level t)
once-queued owner resource level r t none_r none_t facts same =
    either (λ (x : Option Level) (y : Option Level). IsSome x → IsNone y) (Some level) (Some level) r.waiting t.waiting (is_of owner resource r) (is_of owner resource t)
    (λ a b. facts.0 same (is_of-resource owner resource r a ∙ sym (is_of-resource owner resource t b)))
    (λ a some. waits_not owner t none_t (sym same ∙ is_of-owner owner resource r a))
    (λ b some. absurd (let none : is_some r.waiting ≡ false = waits_not owner r none_r (same ∙ is_of-owner owner resource t b) in cc))
    (facts.1 same)

-- No level is waited for.
abbrev pub nothing : Option Level
nothing = None

-- Two requests wait once after one of them waits no more.
pub once-fewer : (r t : Request) (a b : Bool) → WaitOnce r t → r.owner ≡ t.owner → IsSome (if a then nothing else r.waiting) → IsNone (if b then nothing else t.waiting)
once-fewer r t true b once same some = absurd (cc)
once-fewer r t false true once same some = refl
once-fewer r t false false once same some = once same some

-- What the owner waits for by the first is granted, and nobody is in the way of that.
abbrev pub IsClearFor : ℕ → Resource → Request → Request → Type 0
IsClearFor owner resource r t = is_of owner resource r ≡ true → IfSome r.waiting (λ level. stands_in_way owner resource level t ≡ false)

-- The level that a wait gives goes beside each level that another is granted there.
beside_wait : (owner : ℕ) (resource : Resource) (waiting : Option Level) (held : Level) (t : Request) → IfSome waiting (λ level. stands_in_way owner resource level t ≡ false) → resource ≡ t.resource → owner ≢ t.owner → is_compatible held t.granted ≡ true → is_compatible (unwrap_or waiting held) t.granted ≡ true
beside_wait owner resource None held t clear same other beside = beside
beside_wait owner resource (Some level) held t clear same other beside = beside_free owner resource level t clear same other

-- Two requests go beside each other after what one of them waits for is granted.
pub beside-wait_granted : (owner : ℕ) (resource : Resource) (r t : Request) → IsClearFor owner resource r t → IsClearFor owner resource t r → GoBeside r t → GoBeside (granting owner resource r) (granting owner resource t)
beside-wait_granted owner resource r t clear_r clear_t beside same other =
    either (λ x y. is_compatible x y ≡ true) (unwrap_or r.waiting r.granted) (unwrap_or t.waiting t.granted) r.granted t.granted (is_of owner resource r) (is_of owner resource t)
    (λ a b. other (is_of-owner owner resource r a ∙ sym (is_of-owner owner resource t b)))
    (λ a. beside_wait owner resource r.waiting r.granted t (clear_r a) (sym (is_of-resource owner resource r a) ∙ same) (λ e. other (is_of-owner owner resource r a ∙ e)) (beside same other))
    (λ b. compatible-sym r.granted (unwrap_or t.waiting t.granted) ∙ beside_wait owner resource t.waiting t.granted r (clear_t b) (sym (is_of-resource owner resource t b) ∙ sym same) (λ e. other (sym e ∙ sym (is_of-owner owner resource t b))) (compatible-sym t.granted r.granted ∙ beside same other))
    (beside same other)

-- A new request is apart from each other one.
pub apart-new : (owner : ℕ) (resource : Resource) (word : ℕ) (r : Request) → is_of owner resource r ≡ false → AreApart r (new_request owner resource word)
apart-new owner resource word r none by of =
    let self = same_resource-self resource in
    let is : is_of owner resource r ≡ true = rw (by, of) (grind (arith, nat_tests)) in
    cc

-- A living owner's requests are alive.
pub alive-new : (owner : ℕ) (r : Request) → (r.owner == owner) && not r.alive ≡ false → r.owner ≡ owner → r.alive ≡ true
alive-new owner r lives by = grind (arith, nat_tests)

-- The owner's own new request is not in its way, and does not wait.
pub own_way : (owner : ℕ) (resource : Resource) (level : Level) (word : ℕ) → stands_in_way owner resource level (new_request owner resource word) ≡ false
own_way owner resource level word = grind (arith, nat_tests)

pub own_wait : (owner : ℕ) (resource : Resource) (word : ℕ) → is_wait_of owner (new_request owner resource word) ≡ false
own_wait owner resource word = grind (arith, nat_tests)
