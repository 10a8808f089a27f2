use Rattle.std.proofs.Common.{◌≡◌, rules, sym, subst}
use Rattle.fbc_files.specs.Creating.{AreNewPages}
use Rattle.fbc_files.specs.NewPages.{new_pages}
use Rattle.fbc_files.proofs.NewFits.{AreNewPages-new}
use Rattle.fbc_files.proofs.new_pages.new_pages.Goals as goal

pub returns-clause-fits : goal.returns-clause-fits
returns-clause-fits c =
    let same : c.add_pointers.new.pages.items ≡ new_pages c.args.size c.args.relations.now = search rules in
    subst (AreNewPages c.args.size) (sym same) (AreNewPages-new c.args.size c.args.relations.now c.requires.size c.requires.relations)
