-- What is found of a page after a change of the buffers.
use Rattle.std.proofs.Common.{◌≡◌, ℕ, Bool, cond, nat_eq, List, [], ◌∷◌, ◌++◌, map, Some, None, IfSome, refl, arith}
use Rattle.std.proofs.lemmas.Bool.Decides.{nat_tests}
use Rattle.std.proofs.lemmas.List.Elements.{All-head, All-tail}
use Rattle.std.specs.List.{All, filter}
use Rattle.std.specs.Option.{option_map, option_or}
use Rattle.fbc_buffers.specs.declared.buffers.Buffer.{Buffer}
use Rattle.fbc_buffers.specs.Holding.{KeepsPage, buffer_of, is_of, touched, without}

-- A change that keeps each buffer's page: what it made of the one that was found.
pub buffer_of-map : (f : Buffer → Buffer) → KeepsPage f → (held : List Buffer) (page : ℕ) → buffer_of (map f held) page ≡ option_map f (buffer_of held page)
buffer_of-map f keeps [] page = refl
buffer_of-map f keeps (b ∷ bs) page = grind (arith, nat_tests, keeps b, buffer_of-map f keeps bs page)

-- What is left out is found no more, and all else is.
pub buffer_of-without : (page : ℕ) (held : List Buffer) (other : ℕ) → buffer_of (without page held) other ≡ cond (nat_eq page other) None (buffer_of held other)
buffer_of-without page [] other = grind (arith, nat_tests)
buffer_of-without page (b ∷ bs) other = grind (arith, nat_tests, buffer_of-without page bs other)

-- A page that is not found is not found among some of the buffers.
pub buffer_of-filter : (p : Buffer → Bool) (held : List Buffer) (page : ℕ) → buffer_of held page ≡ None → buffer_of (filter p held) page ≡ None
buffer_of-filter p [] page none = refl
buffer_of-filter p (b ∷ bs) page none = grind (arith, nat_tests, none, buffer_of-filter p bs page)

-- Among two lists the first comes first.
pub buffer_of-append : (xs ys : List Buffer) (page : ℕ) → buffer_of (xs ++ ys) page ≡ option_or (buffer_of xs page) (buffer_of ys page)
buffer_of-append [] ys page = refl
buffer_of-append (b ∷ bs) ys page = grind (arith, nat_tests, buffer_of-append bs ys page)

-- A new buffer is found, and all else is.
pub buffer_of-push : (held : List Buffer) (b : Buffer) (other : ℕ) → buffer_of held b.page ≡ None → buffer_of (held ++ b ∷ []) other ≡ cond (nat_eq b.page other) (Some b) (buffer_of held other)
buffer_of-push held b other none = grind (arith, nat_tests, none, buffer_of-append held (b ∷ []) other)

-- Among the buffers of one page no other is found.
pub buffer_of-others : (page : ℕ) (held : List Buffer) (other : ℕ) → buffer_of (filter (is_of page) held) other ≡ cond (nat_eq page other) (buffer_of held page) None
buffer_of-others page [] other = grind (arith, nat_tests)
buffer_of-others page (b ∷ bs) other = grind (arith, nat_tests, buffer_of-others page bs other)

-- A use changes nothing but the order.
pub buffer_of-touched : (page : ℕ) (held : List Buffer) (other : ℕ) → buffer_of (touched page held) other ≡ buffer_of held other
buffer_of-touched page held other =
    grind (arith, nat_tests, buffer_of-append (without page held) (filter (is_of page) held) other, buffer_of-without page held other, buffer_of-others page held other)

-- What is found is of that page.
pub buffer_of-page : (held : List Buffer) (page : ℕ) → IfSome (buffer_of held page) (λ b. b.page ≡ page)
buffer_of-page [] page = tt
buffer_of-page (b ∷ bs) page = grind (arith, nat_tests, buffer_of-page bs page)

-- What is true of all is true of what is found.
pub buffer_of-all : (P : Buffer → Type 0) (held : List Buffer) (page : ℕ) → All P held → IfSome (buffer_of held page) P
buffer_of-all P [] page all = tt
buffer_of-all P (b ∷ bs) page all = grind (arith, nat_tests, All-head P b bs all, buffer_of-all P bs page (All-tail P b bs all))
