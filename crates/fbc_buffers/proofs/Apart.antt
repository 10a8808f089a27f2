-- Each change leaves one buffer for each page, and no more than there is room for.
use Rattle.std.proofs.Common.{◌≡◌, ℕ, ◌+◌, ◌<◌, ◌≤◌, Bool, false, not, nat_eq, List, [], ◌∷◌, ◌++◌, map, length, None, refl, arith}
use Rattle.std.proofs.lemmas.Bool.Decides.{nat_tests}
use Rattle.std.proofs.lemmas.Grind.{common_steps}
use Rattle.std.proofs.lemmas.List.Filters.{length-filter_both}
use Rattle.std.specs.List.{filter}
use Rattle.fbc_buffers.specs.declared.buffers.Buffer.{Buffer}
use Rattle.fbc_buffers.specs.Holding.{AreApart, IsHolding, KeepsPage, buffer_of, is_of, touched, without}
use Rattle.fbc_buffers.proofs.InPlace.{untouched}
use Rattle.fbc_buffers.proofs.Found.{buffer_of-map, buffer_of-filter, buffer_of-append, buffer_of-others}

pub AreApart-map : (f : Buffer → Buffer) → KeepsPage f → (held : List Buffer) → AreApart held → AreApart (map f held)
AreApart-map f keeps [] apart = tt
AreApart-map f keeps (b ∷ bs) apart = grind (arith, keeps b, apart.0, buffer_of-map f keeps bs b.page, AreApart-map f keeps bs apart.1)

pub AreApart-filter : (p : Buffer → Bool) (held : List Buffer) → AreApart held → AreApart (filter p held)
AreApart-filter p [] apart = tt
AreApart-filter p (b ∷ bs) apart = grind (arith, apart.0, buffer_of-filter p bs b.page, AreApart-filter p bs apart.1)

pub AreApart-push : (held : List Buffer) (b : Buffer) → buffer_of held b.page ≡ None → AreApart held → AreApart (held ++ b ∷ [])
AreApart-push [] b none apart = (refl, tt)
AreApart-push (c ∷ bs) b none apart = grind (arith, nat_tests, none, apart.0, buffer_of-append bs (b ∷ []) c.page, AreApart-push bs b, apart.1)

-- Buffers of one page behind those of others.
apart-behind : (page : ℕ) (held ys : List Buffer) → AreApart held → AreApart ys → ((other : ℕ) → nat_eq page other ≡ false → buffer_of ys other ≡ None) → AreApart (without page held ++ ys)
apart-behind page [] ys apart apart' others = apart'
apart-behind page (b ∷ bs) ys apart apart' others =
    grind (arith, nat_tests, apart.0, others b.page, buffer_of-append (without page bs) ys b.page, buffer_of-filter (λ c. not (is_of page c)) bs b.page, apart-behind page bs ys apart.1 apart' others)

pub AreApart-touched : (page : ℕ) (held : List Buffer) → AreApart held → AreApart (touched page held)
AreApart-touched page held apart =
    apart-behind page held (filter (is_of page) held) apart (AreApart-filter (is_of page) held apart) (λ other differs. grind (arith, differs, buffer_of-others page held other))

-- A page has one buffer at most.
pub AreApart-once : (page : ℕ) (held : List Buffer) → AreApart held → length (filter (is_of page) held) ≤ 1
AreApart-once page [] apart = omega (arith)
AreApart-once page (b ∷ bs) apart = grind (arith, nat_tests, common_steps, apart.0, untouched page bs, AreApart-once page bs apart.1)

-- The same for all of what a Holding says.
pub IsHolding-map : (f : Buffer → Buffer) → KeepsPage f → (room : ℕ) (held : List Buffer) → IsHolding (record { room = room; held = held }) → IsHolding (record { room = room; held = map f held })
IsHolding-map f keeps room held h = record { few = grind (arith, common_steps, h.few); once = AreApart-map f keeps held h.once }

pub IsHolding-filter : (p : Buffer → Bool) (room : ℕ) (held : List Buffer) → IsHolding (record { room = room; held = held }) → IsHolding (record { room = room; held = filter p held })
IsHolding-filter p room held h =
    let fewer : length (filter p held) + length (filter (λ b. not (p b)) held) ≡ length held = length-filter_both p (λ b. not (p b)) (λ b. refl) held in
    record { few = omega (arith, fewer, h.few); once = AreApart-filter p held h.once }

pub IsHolding-push : (b : Buffer) (room : ℕ) (held : List Buffer) → length held < room → buffer_of held b.page ≡ None → IsHolding (record { room = room; held = held }) → IsHolding (record { room = room; held = held ++ b ∷ [] })
IsHolding-push b room held fits none h = record { few = grind (arith, common_steps, fits); once = AreApart-push held b none h.once }

pub IsHolding-touched : (page room : ℕ) (held : List Buffer) → IsHolding (record { room = room; held = held }) → IsHolding (record { room = room; held = touched page held })
IsHolding-touched page room held h =
    let same : length (without page held) + length (filter (is_of page) held) ≡ length held = length-filter_both (λ b. not (is_of page b)) (is_of page) (λ b. grind (arith)) held in
    record { few = grind (arith, common_steps, same, h.few); once = AreApart-touched page held h.once }
