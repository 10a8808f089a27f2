use Rattle.fbc_benchmarks.proofs.pages.recode_inventory.Goals as goal

pub returns : goal.returns
returns c = c.one_inventory.ensures.spelling 4096 _ _ _ c.encode_inventory.ensures c.in_ok-inventory.ensures.page
