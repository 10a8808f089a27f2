-- The copy of the header is within its limits.
use Rattle.std.proofs.Common.{◌≡◌, ◌≤◌, ℕ, List, [], ◌∷◌, length, Option, Some, None, IfSome, Bor, arith}
use Rattle.std.proofs.lemmas.Bool.Decides.{nat_tests}
use Rattle.std.specs.List.{AllByRecursion}
use Rattle.std.specs.Option.{option_copied, option_map_or}
use Rattle.fbc_kinds.specs.declared.pages.Header.{Header}
use Rattle.fbc_kinds.specs.declared.pages.Page.{Page}
use Rattle.fbc_kinds.specs.declared.pages.Page.TheVariants as kind
use Rattle.fbc_kinds.specs.declared.shapes.Shape.{Shape}
use Rattle.fbc_kinds.specs.View.{header_in}
use Rattle.fbc_levels.specs.declared.levels.Level.{Level}
use Rattle.fbc_buffers.specs.declared.buffers.Buffer.{Buffer}
use Rattle.fbc_buffers.specs.Holding.{buffer_of}
use Rattle.fbc_cache.specs.Cache.{CacheState, IsBuffer, IsCache, HasCopy}

-- What all buffers are is what the one that is found is.
pub is_buffer-found : (shape : Shape) (held : List Buffer) (page : ℕ) → AllByRecursion (IsBuffer shape) held → IfSome (buffer_of held page) (IsBuffer shape)
is_buffer-found shape [] page all = tt
is_buffer-found shape (b ∷ bs) page all = grind (arith, nat_tests, all.0, is_buffer-found shape bs page all.1)

tips-copy : (shape : Shape) (wanted : Option Level) (copy : Option Page) → HasCopy shape wanted copy → length (option_map_or (λ (h : Header). h.tips) (header_in copy) []) ≤ 16
tips-copy shape wanted None has = omega (arith)
tips-copy shape wanted (Some (kind.Header h)) has = has.1.tips_to
tips-copy shape wanted (Some (kind.Inventory i)) has = omega (arith)
tips-copy shape wanted (Some (kind.Tip t)) has = omega (arith)
tips-copy shape wanted (Some (kind.Pointer p)) has = omega (arith)
tips-copy shape wanted (Some (kind.Data d)) has = omega (arith)
tips-copy shape wanted (Some kind.Blank) has = omega (arith)

-- The header names no more transaction inventory pages than it has room for.
pub tips-few : (c : CacheState) → IsCache c → (b : Buffer) → buffer_of c.held 0 ≡ Some b → length (option_map_or (λ (h : Header). h.tips) (header_in b.copy) []) ≤ 16
tips-few c is b found = go (buffer_of c.held 0) found (is_buffer-found c.shape c.held 0 is.buffers) where
  go : (held : Option Buffer) → held ≡ Some b → IfSome held (IsBuffer c.shape) → length (option_map_or (λ (h : Header). h.tips) (header_in b.copy) []) ≤ 16
  go None none known = absurd (cc)
  go (Some d) same known = let equal : d ≡ b = cc in rw (← equal) (tips-copy c.shape d.wanted d.copy known.copy)

-- The same of a header that is lent.
pub tips-lent : (copy : Option Page) (lent : Option (Bor Header)) → option_copied lent ≡ header_in copy → length (option_map_or (λ (h : Header). h.tips) (header_in copy) []) ≤ 16 → IfSome lent (λ h. length h.now.tips ≤ 16)
tips-lent copy None is few = tt
tips-lent copy (Some h) is few = rw (← is) at few
