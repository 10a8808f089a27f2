use Rattle.std.proofs.Common.{◌≡◌, sym, subst}
use Rattle.std.proofs.Math.Path.{fun_ext}
use Rattle.fbc_kinds.specs.View.{View, pointer_of}
use Rattle.std.specs.Prelude.{Some}
use Rattle.fbc_world.specs.PageCell.{newest}
use Rattle.fbc_world.specs.World.{newest_of, world_of}
use Rattle.fbc_world.proofs.WorldLaws.{newest-world}
use Rattle.fbc_legal.specs.Facts.{Names}
use Rattle.fbc_legal.proofs.laws.freed_pages_are_named_nowhere.Goals as goal

pub returns-clause-header : goal.returns-clause-header
returns-clause-header c = λ shape file before owner page freed landed legal names.
    legal.1.guard.leans.header.newest (subst (λ o. Names o freed) (sym (newest-world shape file before 0)) names)

pub returns-clause-pointers : goal.returns-clause-pointers
returns-clause-pointers c = λ shape file before owner page freed relation sequence pointer landed legal points names.
    let same : newest shape file before ≡ newest_of (world_of shape file before) = sym (fun_ext (λ p. newest-world shape file before p)) in
    (legal.1.guard.leans.pointers relation sequence pointer (subst (λ (v : View). pointer_of v relation sequence ≡ Some pointer) same points)).newest
    (subst (λ o. Names o freed) (sym (newest-world shape file before pointer)) names)
