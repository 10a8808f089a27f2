-- The least of the stretch is the least under the page inventory.
use Rattle.std.proofs.Common.{◌≡◌, sym, ◌∙◌, subst, Some, None, arith}
use Rattle.fbc_cache.specs.Cache.{CacheState}
use Rattle.fbc_cache.specs.Least.{IsLeast}
use Rattle.fbc_space.specs.FreePages.{is_free_within}
use Rattle.fbc_space.proofs.Choosing.{IsStretch, chosen, chosen-least, none-free}
use Rattle.fbc_space.proofs.free_pages.choose.Goals as goal

pub returns-in-None : goal.returns-in-None
returns-in-None c =
    let stretch : IsStretch c.args.desk.now.cache c.cache.result.now c.args.limit c.args.sequence
    c.inventory_page-inventory.result c.inventory_bits.result c.min-end.result c.new.result =
    record {
      same = c.cache.ensures;
      count = c.inventory_bits.ensures.bits;
      some = c.inventory_bits.ensures.some;
      stands = c.inventory_page-inventory.ensures;
      last = grind (arith, c.min-end.ensures, c.inventory_bits.ensures.bits, c.inventory_bits-2.ensures.bits);
      empty = c.new.ensures;
    } in
    none-free c.args.desk.now.cache c.cache.result.now c.args.limit c.args.sequence
    c.inventory_page-inventory.result c.inventory_bits.result c.min-end.result c.new.result c.args.passed.now stretch c.in-None.ensures

pub returns-in-Some-first_free : goal.returns-in-Some-first_free
returns-in-Some-first_free c =
    let stretch : IsStretch c.args.desk.now.cache c.cache.result.now c.args.limit c.args.sequence
    c.inventory_page-inventory.result c.inventory_bits.result c.min-end.result c.new.result =
    record {
      same = c.cache.ensures;
      count = c.inventory_bits.ensures.bits;
      some = c.inventory_bits.ensures.some;
      stands = c.inventory_page-inventory.ensures;
      last = grind (arith, c.min-end.ensures, c.inventory_bits.ensures.bits, c.inventory_bits-2.ensures.bits);
      empty = c.new.ensures;
    } in
    let one : c.cache-2.result.now ≡ c.cache.result.now = c.cache-2.ensures ∙ sym c.cache.ensures in
    chosen c.args.desk.now.cache c.cache.result.now c.args.limit c.args.sequence
    c.inventory_page-inventory.result c.inventory_bits.result c.min-end.result c.new.result c.args.passed.now stretch c.in-Some.page c.in-Some.ensures c.in-Some-first_free.page
    (subst (λ (seen : CacheState). IsLeast (is_free_within seen c.inventory_page-inventory.result c.in-Some.page c.min-end.result c.args.passed.now) (Some c.in-Some-first_free.page)) one
    c.in-Some-first_free.ensures)

pub returns-in-None-first_free : goal.returns-in-None-first_free
returns-in-None-first_free c =
    let stretch : IsStretch c.args.desk.now.cache c.cache.result.now c.args.limit c.args.sequence
    c.inventory_page-inventory.result c.inventory_bits.result c.min-end.result c.new.result =
    record {
      same = c.cache.ensures;
      count = c.inventory_bits.ensures.bits;
      some = c.inventory_bits.ensures.some;
      stands = c.inventory_page-inventory.ensures;
      last = grind (arith, c.min-end.ensures, c.inventory_bits.ensures.bits, c.inventory_bits-2.ensures.bits);
      empty = c.new.ensures;
    } in
    let one : c.cache-2.result.now ≡ c.cache.result.now = c.cache-2.ensures ∙ sym c.cache.ensures in
    chosen-least c.args.desk.now.cache c.cache.result.now c.args.limit c.args.sequence
    c.inventory_page-inventory.result c.inventory_bits.result c.min-end.result c.new.result c.args.passed.now stretch c.in-Some.page c.in-Some.ensures
    (subst (λ (seen : CacheState). IsLeast (is_free_within seen c.inventory_page-inventory.result c.in-Some.page c.min-end.result c.args.passed.now) None) one
    c.in-None-first_free.ensures)
