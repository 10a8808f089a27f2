use Rattle.std.proofs.Common.{◌≡◌, ◌++◌, take}
use Rattle.std.specs.List.{flat_map}
use Rattle.fbc_report.specs.Text.{lost_page_line}
use Rattle.fbc_report.proofs.text_report.push_lost_pages.Given as goal

-- The lines so far.
abbrev pub invariant-loop-page : goal.invariant-loop-page
invariant-loop-page l = l.text.items ≡ l.initial.text.items ++ flat_map lost_page_line (take l.page-index l.pages)
