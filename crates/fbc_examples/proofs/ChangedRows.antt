-- A transaction begins, puts a row, changes it and is committed, legally.
use Rattle.std.proofs.Common.{◌≡◌, ℕ, true, false, [], ◌∷◌, inl, inr, refl, arith}
use Rattle.std.proofs.lemmas.Bool.Decides.{nat_tests}
use Rattle.std.proofs.lemmas.Option.{same_Some}
use Rattle.fbc_kinds.specs.declared.edits.Edit.TheVariants.{Mark, PutCell, SetNext}
use Rattle.fbc_kinds.specs.declared.pages.State.TheVariants.{Committed}
use Rattle.fbc_kinds.specs.declared.snapshots.Standing.TheVariants as standing
use Rattle.fbc_kinds.specs.declared.snapshots.Transaction.{Transaction}
use Rattle.fbc_kinds.specs.DataSpelling.{empty_cell}
use Rattle.fbc_kinds.specs.View.{View}
use Rattle.fbc_world.specs.declared.asks.Cause.TheVariants as cause
use Rattle.fbc_world.specs.Holdings.{is_draft_of}
use Rattle.fbc_world.specs.World.{world_of}
use Rattle.fbc_kinds.specs.Order.{StandsBefore}
use Rattle.fbc_legal.specs.Guards.{IsLeastActive, MayBegin}
use Rattle.fbc_legal.specs.Leans.{PutLeans}
use Rattle.fbc_legal.specs.Legal.{IsLegal}
use Rattle.fbc_legal.specs.Rows.{IsFirstVersion, IsOwnChange, IsPut}
use Rattle.fbc_legal.specs.Scene.{newest_after, number_resource, scene_of}
use Rattle.fbc_examples.specs.Files.{empty_file, header, small_shape, value}
use Rattle.fbc_examples.specs.Rows.{with_begin, with_changed_row, with_commit, with_pages, with_row, with_unpinned_header}
use Rattle.fbc_examples.specs.Steps.{asks, begins, edits, holds, orders, with_owner, writes}
use Rattle.fbc_examples.proofs.LegalSteps.{legal_edits, legal_gets, legal_holds, legal_orders, legal_owner, legal_writes}
use Rattle.fbc_examples.proofs.Nothing.{nothing_before}
use Rattle.fbc_examples.proofs.SmallViews.{tip_is}

pub legal_pages : (file : View) → IsLegal small_shape file with_pages
legal_pages file =
    let one = legal_holds file with_owner 4 (legal_owner file) tt refl refl (omega arith) (λ other apart. refl) in
    let two = legal_holds file (holds 4 with_owner) 0 one tt refl refl (omega arith) (λ other apart. rw apart refl) in
    legal_holds file (holds 0 (holds 4 with_owner)) 2 two tt refl refl (omega arith) (λ other apart. rw apart refl)

abbrev pub first_transaction : Transaction
first_transaction = record { number = 1; owner = 1; standing = standing.Open; snapshot = 1 ∷ [] }

least_is : IsLeastActive (newest_after small_shape empty_file with_pages) 1 1
least_is = record { from_one = omega arith; to = omega arith; active = inl refl; least = λ other from below is. omega arith }

may_begin : MayBegin (scene_of small_shape empty_file with_pages) 1 1 1
may_begin = record {
  next = refl;
  none_open = refl;
  one_number = λ other is. absurd cc;
  header = refl;
  exclusive = refl;
  tips = λ sequence page is. rw (tip_is (newest_after small_shape empty_file with_pages) 1 4 refl refl sequence page is).1 refl;
  word_is = least_is;
}

-- The same once it has asked.
still_may_begin : MayBegin (scene_of small_shape empty_file (asks 1 (number_resource 1) 1 with_pages)) 1 1 1
still_may_begin = record {
  next = refl;
  none_open = refl;
  one_number = λ other is. absurd cc;
  header = refl;
  exclusive = refl;
  tips = may_begin.tips;
  word_is = least_is;
}

pub legal_number : IsLegal small_shape empty_file (begins 1 with_pages)
legal_number = legal_gets empty_file with_pages 1 (number_resource 1) 1 (legal_pages empty_file) tt refl may_begin (λ other apart. rw apart refl) (λ begins. still_may_begin)

pub legal_begin : IsLegal small_shape empty_file with_begin
legal_begin = legal_edits empty_file (begins 1 with_pages) 0 (SetNext 2) legal_number tt refl refl tt tt tt (first_transaction, refl, refl, refl)

pub legal_unpinned_header : IsLegal small_shape empty_file with_unpinned_header
legal_unpinned_header = (
  legal_begin,
  record { alive = refl; follows = tt; guard = λ is t open_is. rw (← same_Some first_transaction t open_is) (omega arith) },
)

legal_order : IsLegal small_shape empty_file (orders 0 4 with_begin)
legal_order =
    legal_orders empty_file with_begin 0 4 legal_begin tt refl (λ same. omega arith)
    (nothing_before (world_of small_shape empty_file with_begin) 0 (λ owner high. refl) 4)

pub first_version : IsFirstVersion (scene_of small_shape empty_file (orders 0 4 with_begin)) 1 4 0 (value 1 65)
first_version = record { t = first_transaction; old = empty_cell; open_is = refl; stands = refl; over = refl; value = refl; own = refl; alone = refl }

-- The header, which is to be written before the data page, shows that the number was begun.
first_leans : PutLeans (scene_of small_shape empty_file (orders 0 4 with_begin)) 1 4 0 0 (value 1 65)
first_leans = record {
  begun = record { newest = (header 2, refl, omega arith); in_time = inr (inr (refl, StandsBefore.straight 0 4 (1, refl))) };
  link = λ linked. absurd (linked refl);
  cut = λ taken. absurd cc;
}

pub legal_row : IsLegal small_shape empty_file with_row
legal_row =
    legal_edits empty_file (orders 0 4 with_begin) 4 (PutCell 0 (value 1 65)) legal_order tt refl refl
    (record { number_fits = omega arith; back_page_fits = omega arith; back_cell_fits = omega arith })
    first_leans
    (record { pointer = 3; pointed = refl; named = refl; pointed_in_file = inl refl; named_in_file = inl refl })
    (IsPut.first first_version)

pub own_change : IsOwnChange (scene_of small_shape empty_file with_row) 1 4 0 (value 1 66)
own_change = record {
  t = first_transaction;
  old = value 1 65;
  open_is = refl;
  stands = refl;
  over = refl;
  over_own = refl;
  top = refl;
  own = refl;
  link = record { page = refl; cell = refl };
}

own_leans : PutLeans (scene_of small_shape empty_file with_row) 1 4 0 0 (value 1 66)
own_leans = record {
  begun = record { newest = (header 2, refl, omega arith); in_time = inr (inr (refl, StandsBefore.straight 0 4 (1, refl))) };
  link = λ linked. absurd (linked refl);
  cut = λ taken. absurd cc;
}

pub legal_changed_row : IsLegal small_shape empty_file with_changed_row
legal_changed_row =
    legal_edits empty_file with_row 4 (PutCell 0 (value 1 66)) legal_row tt refl refl
    (record { number_fits = omega arith; back_page_fits = omega arith; back_cell_fits = omega arith })
    own_leans
    (record { pointer = 3; pointed = refl; named = refl; pointed_in_file = inl refl; named_in_file = inl refl })
    (IsPut.over_own own_change)

legal_header_write : IsLegal small_shape empty_file (writes 0 with_changed_row)
legal_header_write = legal_writes empty_file with_changed_row 0 cause.Commit false false legal_changed_row tt refl refl (λ owner high. grind (arith, nat_tests)) (inl tt)

pub legal_data_write : IsLegal small_shape empty_file (writes 4 (writes 0 with_changed_row))
legal_data_write =
    legal_writes empty_file (writes 0 with_changed_row) 4 cause.Commit false false legal_header_write tt refl refl (λ owner high. grind (arith, nat_tests)) (inl tt)

no_draft : (other : ℕ) → is_draft_of 1 ((world_of small_shape empty_file (writes 4 (writes 0 with_changed_row))).draft other) ≡ true → other ≡ 2
no_draft other drafted = grind (arith, nat_tests, drafted)

pub legal_mark : IsLegal small_shape empty_file (edits 2 (Mark 1 Committed) (writes 4 (writes 0 with_changed_row)))
legal_mark =
    legal_edits empty_file (writes 4 (writes 0 with_changed_row)) 2 (Mark 1 Committed) legal_data_write tt refl refl tt
    (record { newest = (header 2, refl, omega arith); in_time = inr (inl (header 2, refl, omega arith)) })
    (record { newest = refl; in_file = inl refl })
    (first_transaction, refl, refl, no_draft)

pub legal_commit : IsLegal small_shape empty_file with_commit
legal_commit =
    legal_writes empty_file (edits 2 (Mark 1 Committed) (writes 4 (writes 0 with_changed_row))) 2 cause.Commit false false legal_mark tt refl refl
    (λ owner high. grind (arith, nat_tests))
    (inl tt)
