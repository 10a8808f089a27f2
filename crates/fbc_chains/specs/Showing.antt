-- What a read goes by.
use Rattle.std.specs.Prelude.{ℕ, List}
use Rattle.fbc_kinds.specs.declared.shapes.Shape.{Shape}
use Rattle.fbc_kinds.specs.View.{View}
use Rattle.fbc_cache.specs.Cache.{CacheState, copy_in}

-- The shape of the file, the pointer pages that are known, and the copies at hand, as a view in which all other pages are missing.
pub record Showing : Type 0 where
  pub shape : Shape
  pub pointers : List (List ℕ)
  pub copies : View

-- What a cache shows.
abbrev pub shown_by : CacheState → Showing
shown_by c = record { shape = c.shape; pointers = c.pointers; copies = λ page. copy_in c.held page }
