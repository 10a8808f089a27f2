-- Which pages may be waited for beside those in use.
use Rattle.std.specs.Prelude.{ℕ, Bool}
use Rattle.std.specs.List.{list_all}
use Rattle.fbc_cache.specs.Least.{is_below_if_pinned}
use Rattle.fbc_desk.specs.Desk.{DeskState}

-- A data page may be waited for where each page in use is a data page with a smaller number.
abbrev pub may_wait_for : DeskState → ℕ → Bool
may_wait_for d page = list_all (is_below_if_pinned page) d.cache.held
