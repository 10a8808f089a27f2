-- A transaction makes the first data page, puts a row on it and is committed, legally.
use Rattle.std.proofs.Common.{◌≡◌, ℕ, true, false, inl, inr, refl, arith}
use Rattle.std.proofs.lemmas.Bool.Decides.{nat_tests}
use Rattle.fbc_kinds.specs.declared.edits.Edit.TheVariants.{Format, Mark, Name, PutCell, SetNext, TakePage}
use Rattle.fbc_kinds.specs.declared.pages.State.TheVariants.{Committed}
use Rattle.fbc_kinds.specs.DataSpelling.{empty_cell}
use Rattle.fbc_world.specs.declared.asks.Cause.TheVariants as cause
use Rattle.fbc_world.specs.History.{History}
use Rattle.fbc_world.specs.Holdings.{is_draft_of}
use Rattle.fbc_world.specs.World.{world_of}
use Rattle.fbc_kinds.specs.Order.{StandsBefore}
use Rattle.fbc_legal.specs.Guards.{IsLeastActive, MayBegin}
use Rattle.fbc_legal.specs.Leans.{FormatLeans, IsInUse, IsReady, PutLeans}
use Rattle.fbc_legal.specs.Legal.{IsLegal}
use Rattle.fbc_legal.specs.Rows.{IsFirstVersion, IsPut}
use Rattle.fbc_legal.specs.Scene.{newest_after, number_resource, scene_of}
use Rattle.fbc_legal.specs.Traces.{IsTakenBy}
use Rattle.fbc_examples.specs.Files.{header, new_file, small_shape, value}
use Rattle.fbc_examples.specs.Rows.{with_first_commit, with_first_row, with_new_page, with_whole_file}
use Rattle.fbc_examples.specs.Steps.{asks, begins, edits, holds, orders, with_owner, writes}
use Rattle.fbc_examples.proofs.ChangedRows.{first_transaction}
use Rattle.fbc_examples.proofs.LegalSteps.{legal_edits, legal_gets, legal_holds, legal_orders, legal_writes}
use Rattle.fbc_examples.proofs.Nothing.{before_nothing, nothing_before}
use Rattle.fbc_examples.proofs.Nowhere.{named_nowhere, no_inventory, not_named}
use Rattle.fbc_examples.proofs.SmallViews.{tip_is}
use Rattle.fbc_examples.proofs.TakenPages.{legal_four, other_page}

abbrev with_five : History
with_five = holds 2 (holds 1 (holds 0 (holds 3 (holds 4 with_owner))))

legal_five : IsLegal small_shape new_file with_five
legal_five = legal_holds new_file (holds 1 (holds 0 (holds 3 (holds 4 with_owner)))) 2 legal_four tt refl refl (omega arith) (λ other apart. rw apart refl)

least_is : IsLeastActive (newest_after small_shape new_file with_five) 1 1
least_is = record { from_one = omega arith; to = omega arith; active = inl refl; least = λ other from below is. omega arith }

may_begin : MayBegin (scene_of small_shape new_file with_five) 1 1 1
may_begin = record {
  next = refl;
  none_open = refl;
  one_number = λ other is. absurd cc;
  header = refl;
  exclusive = refl;
  tips = λ sequence page is. rw (tip_is (newest_after small_shape new_file with_five) 1 0 refl refl sequence page is).1 refl;
  word_is = least_is;
}

-- The same once it has asked.
still_may_begin : MayBegin (scene_of small_shape new_file (asks 1 (number_resource 1) 1 with_five)) 1 1 1
still_may_begin = record {
  next = refl;
  none_open = refl;
  one_number = λ other is. absurd cc;
  header = refl;
  exclusive = refl;
  tips = may_begin.tips;
  word_is = least_is;
}

legal_number : IsLegal small_shape new_file (begins 1 with_five)
legal_number = legal_gets new_file with_five 1 (number_resource 1) 1 legal_five tt refl may_begin (λ other apart. rw apart refl) (λ begins. still_may_begin)

legal_whole_file : IsLegal small_shape new_file with_whole_file
legal_whole_file = legal_edits new_file (begins 1 with_five) 0 (SetNext 2) legal_number tt refl refl tt tt tt (first_transaction, refl, refl, refl)

abbrev with_taken : History
with_taken = orders 1 4 (edits 1 (TakePage 4) with_whole_file)

legal_taken : IsLegal small_shape new_file with_taken
legal_taken =
    let taken = legal_edits new_file with_whole_file 1 (TakePage 4) legal_whole_file tt refl refl tt tt tt refl in
    legal_orders new_file (edits 1 (TakePage 4) with_whole_file) 1 4 taken tt refl (λ same. omega arith)
    (nothing_before (world_of small_shape new_file (edits 1 (TakePage 4) with_whole_file)) 1 (λ owner high. refl) 4)

-- Page 4 is in use, and is named nowhere since it was taken.
in_use : IsInUse (scene_of small_shape new_file with_taken) 1 4 4
in_use = record {
  taken = record { newest = refl; in_time = inr (inr (refl, StandsBefore.straight 1 4 (1, refl))) };
  counted = record { newest = (header 2, refl, omega arith); in_time = inr (inl (header 1, refl, omega arith)) };
}

still_taken : IsTakenBy small_shape new_file 1 4 with_taken
still_taken =
    IsTakenBy.still _ _ (IsTakenBy.taken _ _ (record { actor = refl; act = refl }))
    (λ owner is. cc)
    (not_named (newest_after small_shape new_file with_taken) 2 4 other_page refl refl)

format_leans : FormatLeans (scene_of small_shape new_file with_taken) 1 4 5
format_leans = record { nowhere = named_nowhere (scene_of small_shape new_file with_taken) 1 4 4 2 1 other_page refl refl refl refl; used = λ other. in_use }

abbrev with_made : History
with_made = edits 4 (Format 5 4 0 0) with_taken

legal_made : IsLegal small_shape new_file with_made
legal_made =
    legal_edits new_file with_taken 4 (Format 5 4 0 0) legal_taken tt refl refl (omega arith, omega arith) format_leans tt
    (record {
      no_header = λ is. omega arith;
      no_inventory = no_inventory (newest_after small_shape new_file with_taken) 2 4 other_page refl refl;
      taken = λ other. still_taken;
    })

legal_order : IsLegal small_shape new_file (orders 4 3 with_made)
legal_order =
    legal_orders new_file with_made 4 3 legal_made tt refl (λ same. omega arith)
    (before_nothing (world_of small_shape new_file with_made) 3 (λ owner low. grind (arith, nat_tests)) 4)

ready : IsReady (scene_of small_shape new_file (orders 4 3 with_made)) 1 3 4 5 0 0
ready = record {
  empty = record { newest = (_, refl, refl); in_time = inr (inr (refl, StandsBefore.straight 4 3 (1, refl))) };
  used = record {
    taken = record { newest = refl; in_time = inr (inr (refl, StandsBefore.through 1 4 3 (1, refl) (StandsBefore.straight 4 3 (1, refl)))) };
    counted = record { newest = (header 2, refl, omega arith); in_time = inr (inl (header 1, refl, omega arith)) };
  };
}

legal_new_page : IsLegal small_shape new_file with_new_page
legal_new_page = legal_edits new_file (orders 4 3 with_made) 3 (Name 0 4) legal_order tt refl refl (omega arith) ready tt refl

legal_second_order : IsLegal small_shape new_file (orders 0 4 with_new_page)
legal_second_order =
    legal_orders new_file with_new_page 0 4 legal_new_page tt refl (λ same. omega arith)
    (nothing_before (world_of small_shape new_file with_new_page) 0 (λ owner high. grind (arith, nat_tests)) 4)

first_version : IsFirstVersion (scene_of small_shape new_file (orders 0 4 with_new_page)) 1 4 0 (value 1 65)
first_version = record { t = first_transaction; old = empty_cell; open_is = refl; stands = refl; over = refl; value = refl; own = refl; alone = refl }

put_leans : PutLeans (scene_of small_shape new_file (orders 0 4 with_new_page)) 1 4 0 0 (value 1 65)
put_leans = record {
  begun = record { newest = (header 2, refl, omega arith); in_time = inr (inr (refl, StandsBefore.straight 0 4 (1, refl))) };
  link = λ linked. absurd (linked refl);
  cut = λ taken. absurd cc;
}

-- The owner's own draft of the pointer page names the data page.
legal_first_row : IsLegal small_shape new_file with_first_row
legal_first_row =
    legal_edits new_file (orders 0 4 with_new_page) 4 (PutCell 0 (value 1 65)) legal_second_order tt refl refl
    (record { number_fits = omega arith; back_page_fits = omega arith; back_cell_fits = omega arith })
    put_leans
    (record { pointer = 3; pointed = refl; named = refl; pointed_in_file = inl refl; named_in_file = inr refl })
    (IsPut.first first_version)

abbrev with_two_writes : History
with_two_writes = writes 1 (writes 0 with_first_row)

legal_two_writes : IsLegal small_shape new_file with_two_writes
legal_two_writes =
    let first = legal_writes new_file with_first_row 0 cause.Commit false false legal_first_row tt refl refl (λ owner high. grind (arith, nat_tests)) (inl tt) in
    legal_writes new_file (writes 0 with_first_row) 1 cause.Commit false false first tt refl refl (λ owner high. grind (arith, nat_tests)) (inl tt)

abbrev with_four_writes : History
with_four_writes = writes 3 (writes 4 with_two_writes)

legal_four_writes : IsLegal small_shape new_file with_four_writes
legal_four_writes =
    let third = legal_writes new_file with_two_writes 4 cause.Commit false false legal_two_writes tt refl refl (λ owner high. grind (arith, nat_tests)) (inl tt) in
    legal_writes new_file (writes 4 with_two_writes) 3 cause.Commit false false third tt refl refl (λ owner high. grind (arith, nat_tests)) (inl tt)

no_draft : (other : ℕ) → is_draft_of 1 ((world_of small_shape new_file with_four_writes).draft other) ≡ true → other ≡ 2
no_draft other drafted = grind (arith, nat_tests, drafted)

pub legal_first_commit : IsLegal small_shape new_file with_first_commit
legal_first_commit =
    let marked =
    legal_edits new_file with_four_writes 2 (Mark 1 Committed) legal_four_writes tt refl refl tt
    (record { newest = (header 2, refl, omega arith); in_time = inr (inl (header 2, refl, omega arith)) })
    (record { newest = refl; in_file = inl refl })
    (first_transaction, refl, refl, no_draft) in
    legal_writes new_file (edits 2 (Mark 1 Committed) with_four_writes) 2 cause.Commit false false marked tt refl refl (λ owner high. grind (arith, nat_tests)) (inl tt)
