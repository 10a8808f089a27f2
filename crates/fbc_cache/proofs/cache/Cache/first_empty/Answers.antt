-- The first empty cell is the least one, and its number is a cell's.
use Rattle.std.proofs.Common.{◌≡◌, ◌≤◌, ◌^◌, length, None, Some, arith}
use Rattle.fbc_kinds.specs.declared.pages.Page.TheVariants as kind
use Rattle.fbc_kinds.specs.Edits.{IsWithinLimits}
use Rattle.fbc_cache.specs.Cache.{copy_in}
use Rattle.fbc_cache.proofs.Editing.{used-limits}
use Rattle.fbc_cache.proofs.Empty.{empty-least, few-cells}
use Rattle.fbc_cache.proofs.cache.Cache.first_empty.Goals as goal

pub overflow_cast-result : goal.overflow_cast-result
overflow_cast-result c =
    let versions = c.in-Some-Data.data in
    let found : copy_in c.args.self.now.held c.args.page ≡ Some (kind.Data versions) = grind (arith, c.in-Some-Data.ensures, c.in-Some-Data.field-0-is) in
    let limits : IsWithinLimits c.args.self.now.shape (kind.Data versions) = used-limits c.args.self.now.shape c.args.self.now.held c.args.page (kind.Data versions) c.holds.ensures.cache.buffers found in
    let few : length versions.cells ≤ 2 ^ 16 = few-cells c.args.self.now.shape versions c.holds.ensures.file limits in
    record { fits = grind (arith, few, c.items.ensures, c.in-Some.ensures.within) }

pub returns-in-Some : goal.returns-in-Some
returns-in-Some c =
    let versions = c.in-Some-Data.data in
    let found : copy_in c.args.self.now.held c.args.page ≡ Some (kind.Data versions) = grind (arith, c.in-Some-Data.ensures, c.in-Some-Data.field-0-is) in
    empty-least _ versions c.items.result.now (Some c.in-Some.at) found c.items.ensures c.in-Some.ensures.first

pub returns-in-None : goal.returns-in-None
returns-in-None c =
    let versions = c.in-Some-Data.data in
    let found : copy_in c.args.self.now.held c.args.page ≡ Some (kind.Data versions) = grind (arith, c.in-Some-Data.ensures, c.in-Some-Data.field-0-is) in
    empty-least _ versions c.items.result.now None found c.items.ensures c.in-None.ensures.first
