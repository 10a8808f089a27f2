-- A step that was due is followed by a run, by what the desk made of the answer.
use Rattle.std.proofs.Common.{◌≡◌, ℕ, List, Some, None, true, false, refl, sym, subst}
use Rattle.fbc_kinds.specs.declared.rules.Rule.{Rule}
use Rattle.fbc_world.specs.declared.answers.Answer.{Answer}
use Rattle.fbc_world.specs.declared.asks.Ask.{Ask}
use Rattle.fbc_cache.specs.Takes.{broken_by}
use Rattle.fbc_desk.specs.Desk.{DeskState, sent}
use Rattle.fbc_desk.specs.Taking.{DeskTakes}
use Rattle.fbc_attachment.specs.Behind.{HearsOrDies, RunsBehind, TakesOrBreaks, is_write_fault}
use Rattle.fbc_attachment.specs.Running.{Runs}

-- The desk took the answer.
pub taken_runs : (a b c : DeskState) (asked : Ask) (answer : Answer) (bytes : List ℕ) → is_write_fault answer ≡ false
    → broken_by a.cache.shape asked answer bytes ≡ None → DeskTakes a b asked answer bytes → Runs b c → RunsBehind a c asked answer bytes
taken_runs a b c asked answer bytes written whole takes run = record {
  between = b;
  hears = subst (λ fails. HearsOrDies fails a b asked answer bytes) (sym written)
      (subst (λ broken. TakesOrBreaks broken a b asked answer bytes) (sym whole) takes);
  runs = run;
}

-- The bytes that were read break a rule.
pub broken_runs : (a c : DeskState) (asked : Ask) (answer : Answer) (bytes : List ℕ) (rule : Rule) → is_write_fault answer ≡ false
    → broken_by a.cache.shape asked answer bytes ≡ Some rule → Runs (sent a) c → RunsBehind a c asked answer bytes
broken_runs a c asked answer bytes rule written breaks run = record {
  between = sent a;
  hears = subst (λ fails. HearsOrDies fails a (sent a) asked answer bytes) (sym written)
      (subst (λ broken. TakesOrBreaks broken a (sent a) asked answer bytes) (sym breaks) refl);
  runs = run;
}

-- A write failed.
pub failed_runs : (a c : DeskState) (asked : Ask) (answer : Answer) (bytes : List ℕ) → is_write_fault answer ≡ true → Runs a c
    → RunsBehind a c asked answer bytes
failed_runs a c asked answer bytes failed run = record {
  between = a;
  hears = subst (λ fails. HearsOrDies fails a a asked answer bytes) (sym failed) refl;
  runs = run;
}

pub ruleset runs_behind = (taken_runs, broken_runs, failed_runs)
