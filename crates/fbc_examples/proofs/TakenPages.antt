-- A page is taken, made a data page, named, unnamed and freed, legally.
use Rattle.std.proofs.Common.{◌≡◌, ◌<◌, ℕ, zero, suc, true, Some, inl, inr, refl, arith, slice_get}
use Rattle.std.specs.Prelude.{is_some, replicate}
use Rattle.std.proofs.lemmas.Bool.Decides.{nat_tests}
use Rattle.fbc_kinds.specs.declared.edits.Edit.TheVariants.{Format, FreePage, Name, TakePage, Unname}
use Rattle.fbc_kinds.specs.declared.pages.Cell.{Cell}
use Rattle.fbc_kinds.specs.DataSpelling.{empty_cell}
use Rattle.fbc_kinds.specs.Edits.{formatted}
use Rattle.fbc_kinds.specs.Limits.{number_limit}
use Rattle.fbc_kinds.specs.View.{is_empty}
use Rattle.fbc_world.specs.History.{History}
use Rattle.fbc_world.specs.World.{world_of}
use Rattle.fbc_kinds.specs.Order.{StandsBefore}
use Rattle.fbc_legal.specs.Leans.{IsInUse, IsReady, UnnameLeans}
use Rattle.fbc_legal.specs.Legal.{IsLegal}
use Rattle.fbc_legal.specs.Scene.{newest_after, scene_of}
use Rattle.fbc_legal.specs.Traces.{IsNamed, IsTakenBy, IsUnnamedBy}
use Rattle.fbc_examples.specs.Files.{header, new_file, small_shape}
use Rattle.fbc_examples.specs.Pages.{with_data_page, with_freed_page, with_taken_page}
use Rattle.fbc_examples.specs.Steps.{edits, holds, orders, with_owner}
use Rattle.fbc_examples.proofs.LegalSteps.{legal_edits, legal_holds, legal_orders, legal_owner}
use Rattle.fbc_examples.proofs.Nothing.{before_nothing, nothing_before}
use Rattle.fbc_examples.proofs.Nowhere.{IsOther, named_nowhere, no_inventory, not_named}

abbrev with_four : History
with_four = holds 1 (holds 0 (holds 3 (holds 4 with_owner)))

pub legal_four : IsLegal small_shape new_file with_four
legal_four =
    let one = legal_holds new_file with_owner 4 (legal_owner new_file) tt refl refl (omega arith) (λ other apart. refl) in
    let two = legal_holds new_file (holds 4 with_owner) 3 one tt refl refl (omega arith) (λ other apart. rw apart refl) in
    let three = legal_holds new_file (holds 3 (holds 4 with_owner)) 0 two tt refl refl (omega arith) (λ other apart. rw apart refl) in
    legal_holds new_file (holds 0 (holds 3 (holds 4 with_owner))) 1 three tt refl refl (omega arith) (λ other apart. rw apart refl)

pub legal_take : IsLegal small_shape new_file (edits 1 (TakePage 4) with_four)
legal_take = legal_edits new_file with_four 1 (TakePage 4) legal_four tt refl refl tt tt tt refl

pub legal_taken_page : IsLegal small_shape new_file with_taken_page
legal_taken_page =
    legal_orders new_file (edits 1 (TakePage 4) with_four) 1 4 legal_take tt refl (λ same. omega arith)
    (nothing_before (world_of small_shape new_file (edits 1 (TakePage 4) with_four)) 1 (λ owner high. refl) 4)

pub other_page : IsOther 4
other_page = record { no_header = λ is. omega arith; no_inventory = λ is. omega arith; no_tip = λ is. omega arith; no_pointer = λ is. omega arith }

-- The page inventory, which is to be written before page 4, shows that page as taken.
in_use : IsInUse (scene_of small_shape new_file with_taken_page) 1 4 4
in_use = record {
  taken = record { newest = refl; in_time = inr (inr (refl, StandsBefore.straight 1 4 (1, refl))) };
  counted = record { newest = (header 1, refl, omega arith); in_time = inr (inl (header 1, refl, omega arith)) };
}

-- Page 4 is named nowhere since it was taken.
still_taken : IsTakenBy small_shape new_file 1 4 with_taken_page
still_taken =
    IsTakenBy.still _ _ (IsTakenBy.taken _ _ (record { actor = refl; act = refl }))
    (λ owner is. cc)
    (not_named (newest_after small_shape new_file with_taken_page) 1 4 other_page refl refl)

-- Page 4 may be made a page of any kind but the page inventory's.
pub legal_made : (kind relation sequence : ℕ) → is_some (formatted small_shape kind 4 relation sequence) ≡ true → sequence < number_limit
    → IsLegal small_shape new_file (edits 4 (Format kind 4 relation sequence) with_taken_page)
legal_made kind relation sequence fits few =
    legal_edits new_file with_taken_page 4 (Format kind 4 relation sequence) legal_taken_page tt (rw fits refl) refl (omega arith, few)
    (record { nowhere = named_nowhere (scene_of small_shape new_file with_taken_page) 1 4 4 1 1 other_page refl refl refl refl; used = λ other. in_use })
    tt
    (record {
      no_header = λ is. omega arith;
      no_inventory = no_inventory (newest_after small_shape new_file with_taken_page) 1 4 other_page refl refl;
      taken = λ other. still_taken;
    })

abbrev formatted_page : History
formatted_page = edits 4 (Format 5 4 0 0) with_taken_page

legal_order : IsLegal small_shape new_file (orders 4 3 formatted_page)
legal_order =
    legal_orders new_file formatted_page 4 3 (legal_made 5 0 0 refl (omega arith)) tt refl (λ same. omega arith)
    (before_nothing (world_of small_shape new_file formatted_page) 3 (λ owner low. grind (arith, nat_tests)) 4)

-- Page 4 is empty and in use, and all that shows this is to be written before the pointer page.
ready : IsReady (scene_of small_shape new_file (orders 4 3 formatted_page)) 1 3 4 5 0 0
ready = record {
  empty = record { newest = (_, refl, refl); in_time = inr (inr (refl, StandsBefore.straight 4 3 (1, refl))) };
  used = record {
    taken = record { newest = refl; in_time = inr (inr (refl, StandsBefore.through 1 4 3 (1, refl) (StandsBefore.straight 4 3 (1, refl)))) };
    counted = record { newest = (header 1, refl, omega arith); in_time = inr (inl (header 1, refl, omega arith)) };
  };
}

pub legal_data_page : IsLegal small_shape new_file with_data_page
legal_data_page = legal_edits new_file (orders 4 3 formatted_page) 3 (Name 0 4) legal_order tt refl refl (omega arith) ready tt refl

-- All cells of an empty page are empty.
pub all_empty : (count place : ℕ) (cell : Cell) → slice_get (replicate count empty_cell) place ≡ Some cell → is_empty cell.flag ≡ true
all_empty zero place cell at = cc
all_empty (suc count) zero cell at = let same : empty_cell ≡ cell = cc in rw (← same) refl
all_empty (suc count) (suc place) cell at = all_empty count place cell at

unname_leans : (page : ℕ) → Some 4 ≡ Some page → UnnameLeans (scene_of small_shape new_file with_data_page) 1 3 page
unname_leans page is =
    let there : 4 ≡ page = cc in
    rw (← there) (record {
      empty = record { newest = λ cell version at. all_empty 45 cell version at; in_time = inr (inr (refl, StandsBefore.straight 4 3 (1, refl))) };
      exclusive = refl;
    })

abbrev unnamed_page : History
unnamed_page = edits 3 (Unname 0) with_data_page

pub legal_unname : IsLegal small_shape new_file unnamed_page
legal_unname = legal_edits new_file with_data_page 3 (Unname 0) legal_data_page tt refl refl tt unname_leans tt tt

unnamed_last : IsUnnamedBy small_shape new_file 1 4 unnamed_page
unnamed_last = IsUnnamedBy.unnamed _ _ (record {
  edited = 3;
  edit = Unname 0;
  is = record { actor = refl; act = refl };
  named = IsNamed.data_page 0 0 refl;
  unnamed = not_named (newest_after small_shape new_file unnamed_page) 1 4 other_page refl refl;
})

pub legal_freed_page : IsLegal small_shape new_file with_freed_page
legal_freed_page =
    legal_edits new_file unnamed_page 1 (FreePage 4) legal_unname tt refl refl tt
    (named_nowhere (scene_of small_shape new_file unnamed_page) 1 1 4 1 1 other_page refl refl refl refl)
    tt
    (record {
      no_header = λ is. omega arith;
      no_inventory = no_inventory (newest_after small_shape new_file unnamed_page) 1 4 other_page refl refl;
      unnamed = unnamed_last;
    })
