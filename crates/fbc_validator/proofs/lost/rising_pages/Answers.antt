use Rattle.std.proofs.lemmas.List.Filters.{dedup_is}
use Rattle.std.proofs.lemmas.Map.Keys.{IsStrictlyIncreasing-dedup}
use Rattle.fbc_validator.proofs.NamedPages.{pages_named}
use Rattle.fbc_validator.proofs.lost.rising_pages.Goals as goal

pub returns-clause-rise : goal.returns-clause-rise
returns-clause-rise c =
    let is = dedup_is _ _ _ c.dedup.ensures.filtered in
    rw is (IsStrictlyIncreasing-dedup _ c.sort_unstable.ensures.sorted)

pub returns-clause-named : goal.returns-clause-named
returns-clause-named c =
    pages_named c.args.namings.now c.sort_unstable.new.self.items c.dedup.new.self.items (rw c.in_ok-pages.ensures at c.sort_unstable.ensures.permutation)
    (dedup_is _ _ _ c.dedup.ensures.filtered)
