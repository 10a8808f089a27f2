-- Free pages of a stretch of pages, as a page inventory shows them.
use Rattle.std.specs.Prelude.{◌&&◌, ℕ, Bool, not, nat_le, nat_lt, List}
use Rattle.fbc_cache.specs.Cache.{CacheState}
use Rattle.fbc_cache.specs.Readers.{is_taken_in}
use Rattle.fbc_space.specs.Passed.{is_passed}

-- Whether the page is one from the first number on and before the second, is shown as free, and is not passed over.
abbrev pub is_free_within : CacheState → ℕ → ℕ → ℕ → List ℕ → ℕ → Bool
is_free_within c inventory from end passed page =
    nat_le from page && nat_lt page end && not (is_taken_in c inventory page) && not (is_passed passed page)
