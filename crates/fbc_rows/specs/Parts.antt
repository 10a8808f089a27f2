-- What an insert keeps when it begins again.
use Rattle.std.specs.Prelude.{◌==◌, ◌&&◌, ℕ, Bool, true, false, not, nat_lt, if◌then◌else◌, Some, length}
use Rattle.std.specs.Option.{option_map_or}
use Rattle.fbc_space.specs.Passed.{is_passed, pass_limit, with_page}
use Rattle.fbc_rows.specs.declared.parts.InsertPart.{InsertPart}
use Rattle.fbc_rows.specs.declared.parts.Stage.{Stage}
use Rattle.fbc_rows.specs.declared.parts.Stage.TheVariants as stage

-- The part where it stands at another stage.
abbrev pub standing : Stage → InsertPart → InsertPart
standing at p = record p { stage = at }

-- Whether the page was the last one that was refused.
abbrev pub is_refused : InsertPart → ℕ → Bool
is_refused p page = option_map_or (λ last. last == page) p.refused false

-- Whether the page is not passed over, and there is a place for it.
abbrev pub may_pass : InsertPart → ℕ → Bool
may_pass p page = not (is_passed p.passed page) && nat_lt (length p.passed) pass_limit

-- A free page that is refused is passed over from now on where it was the last one that was refused before, too, and may be.
abbrev pub passes_over : InsertPart → ℕ → Bool
passes_over p page = is_refused p page && may_pass p page

abbrev pub after_refusal : InsertPart → ℕ → InsertPart
after_refusal p page = record p { refused = Some page; passed = if passes_over p page then with_page page p.passed else p.passed }

-- The search goes back to the place; in the last pass to the first sequence.
abbrev pub went_back : ℕ → InsertPart → InsertPart
went_back place p = record p { at = option_map_or (λ (pages : ℕ). 0) p.last place; stage = stage.Slot }

-- The last pass begins.
abbrev pub in_last : ℕ → InsertPart → InsertPart
in_last pages p = record p { at = 0; last = Some pages; stage = stage.Slot }

-- Whether the part stands in the search for an empty cell.
abbrev pub is_searching : Stage → Bool
is_searching stage.Slot = true
is_searching (stage.Page page) = true
is_searching (stage.Named page broken) = true
is_searching _ = false

-- Whether the part stands where the row is put.
abbrev pub is_to_put : Stage → Bool
is_to_put (stage.Put page sequence cell) = true
is_to_put _ = false

-- The place of a stage in the order of the stages.
abbrev pub rank : Stage → ℕ
rank (stage.Slots pointer) = 1
rank (stage.Header known) = 2
rank (stage.Find sequence search) = 3
rank (stage.Get new) = 4
rank (stage.Pointer new) = 5
rank (stage.Free new) = 6
rank (stage.Take new far) = 7
rank (stage.Name new) = 8
rank (stage.Put page sequence cell) = 9
rank _ = 0
