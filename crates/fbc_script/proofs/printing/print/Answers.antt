use Rattle.std.proofs.Common.{◌≡◌, ℕ, List, subst, sym, arith}
use Rattle.fbc_script.specs.Scripts.{IsScript}
use Rattle.fbc_script.specs.Spelling.{script_text}
use Rattle.fbc_script.proofs.Printed.{lines_text-onto, script_text-end}
use Rattle.fbc_script.proofs.ReadBack.{IsScript-script_text}
use Rattle.fbc_script.proofs.printing.print.Goals as goal

pub loop-before-preserved : goal.loop-before-preserved
loop-before-preserved c =
    lines_text-onto c.loop-before.text.items c.push_line.new.text.items _ c.args.script.now.length c.loop-before.before c.loop-before.kept.now c.in_ok-kept.kept.now (omega arith) c.loop-before.invariant c.in_ok-kept.ensures.text c.in_ok-kept.ensures.kept

pub returns-clause-reads_back : goal.returns-clause-reads_back
returns-clause-reads_back c threads bytes is =
    let P : List ℕ → Type 0 = λ text. IsScript threads text c.args.script.now in
    let all : c.loop-before.text.items ≡ script_text c.args.script.now = script_text-end c.loop-before.text.items (script_text c.args.script.now) c.args.script.now.length c.loop-before.before c.loop-before.kept.now (omega arith) c.loop-before.invariant in
    subst P (sym all) (IsScript-script_text threads bytes c.args.script.now is)
