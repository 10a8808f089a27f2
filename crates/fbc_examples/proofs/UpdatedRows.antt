-- A row is updated, swept, and updated again, legally.
use Rattle.std.proofs.Common.{◌≡◌, ◌<◌, ◌≤◌, ◌==◌, ◌∙◌, ℕ, Bool, true, false, [], ◌∷◌, None, inl, inr, refl, sym, arith}
use Rattle.std.specs.Prelude.{◌≢◌}
use Rattle.std.proofs.lemmas.Bool.Decides.{nat_tests}
use Rattle.std.proofs.lemmas.Option.{none-some}
use Rattle.fbc_kinds.specs.declared.edits.Edit.TheVariants.{ClearCell, Mark, PutCell, SetNext}
use Rattle.fbc_kinds.specs.declared.pages.State.TheVariants.{Active, Committed}
use Rattle.fbc_kinds.specs.declared.snapshots.Standing.TheVariants as standing
use Rattle.fbc_kinds.specs.declared.snapshots.Transaction.{Transaction}
use Rattle.fbc_kinds.specs.Chain.{state_of}
use Rattle.fbc_kinds.specs.DataSpelling.{empty_cell}
use Rattle.fbc_kinds.specs.Reach.{ReachesCell}
use Rattle.fbc_world.specs.declared.asks.Cause.TheVariants as cause
use Rattle.fbc_world.specs.History.{History}
use Rattle.fbc_world.specs.World.{world_of}
use Rattle.fbc_kinds.specs.Order.{StandsBefore}
use Rattle.fbc_legal.specs.Guards.{IsLeastActive, MayBegin}
use Rattle.fbc_legal.specs.Leans.{ClearLeans, LinkLeans, PutLeans}
use Rattle.fbc_legal.specs.Legal.{IsLegal}
use Rattle.fbc_legal.specs.Rows.{IsClearing, IsCut, IsMove, IsNewVersion, IsPut}
use Rattle.fbc_legal.specs.Scene.{meant_at, newest_after, number_resource, scene_of}
use Rattle.fbc_legal.specs.Stamps.{stamp_after}
use Rattle.fbc_legal.specs.Traces.{IsMovedBy, IsUnlinkedBy}
use Rattle.fbc_page_edits.specs.Facing.{IsLinked}
use Rattle.fbc_examples.specs.Files.{empty_file, first_cells, header, old_value, over, relation, small_shape, value}
use Rattle.fbc_examples.specs.Steps.{asks, begins, edits, orders, writes}
use Rattle.fbc_examples.specs.Updates.{with_free_update, with_last_begin, with_moved_first, with_moved_second, with_next_begin, with_next_update, with_swept_link, with_swept_row, with_update}
use Rattle.fbc_examples.specs.Writing.{with_free_number}
use Rattle.fbc_examples.proofs.FreedNumbers.{legal_free_number, written_next}
use Rattle.fbc_examples.proofs.LegalSteps.{legal_edits, legal_gets, legal_orders, legal_writes}
use Rattle.fbc_examples.proofs.NewVersions.{second_transaction}
use Rattle.fbc_examples.proofs.Nothing.{nothing_before}
use Rattle.fbc_examples.proofs.SmallViews.{not_linked, tip_is}
use Rattle.fbc_examples.proofs.Undrafted.{one_draft}

-- Number 1 is committed.
none_active : (other : ℕ) → 1 ≤ other → other < 2 → state_of (newest_after small_shape empty_file with_free_number) other ≡ Active → ⊥
none_active other from below is =
    let one : other ≡ 1 = omega arith in
    let active : state_of (newest_after small_shape empty_file with_free_number) 1 ≡ Active = rw one at is in
    absurd cc

least_is : IsLeastActive (newest_after small_shape empty_file with_free_number) 2 2
least_is = record { from_one = omega arith; to = omega arith; active = inl refl; least = none_active }

may_begin : MayBegin (scene_of small_shape empty_file with_free_number) 1 2 2
may_begin = record {
  next = refl;
  none_open = refl;
  one_number = λ other is. grind (arith, nat_tests, is);
  header = refl;
  exclusive = refl;
  tips = λ sequence page is. rw (tip_is (newest_after small_shape empty_file with_free_number) 2 4 refl refl sequence page is).1 refl;
  word_is = least_is;
}

-- The same once it has asked.
still_may_begin : MayBegin (scene_of small_shape empty_file (asks 1 (number_resource 2) 2 with_free_number)) 1 2 2
still_may_begin = record {
  next = refl;
  none_open = refl;
  one_number = λ other is. grind (arith, nat_tests, is);
  header = refl;
  exclusive = refl;
  tips = may_begin.tips;
  word_is = least_is;
}

legal_number : IsLegal small_shape empty_file (begins 2 with_free_number)
legal_number = legal_gets empty_file with_free_number 1 (number_resource 2) 2 legal_free_number tt refl may_begin (λ other apart. rw apart refl) (λ begins. still_may_begin)

legal_next_begin : IsLegal small_shape empty_file with_next_begin
legal_next_begin = legal_edits empty_file (begins 2 with_free_number) 0 (SetNext 3) legal_number tt refl refl tt tt tt (second_transaction, refl, refl, refl)

legal_order : IsLegal small_shape empty_file (orders 0 4 with_next_begin)
legal_order =
    legal_orders empty_file with_next_begin 0 4 legal_next_begin tt refl (λ same. omega arith)
    (nothing_before (world_of small_shape empty_file with_next_begin) 0 (λ owner high. grind (arith, nat_tests)) 4)

first_move : IsMove (scene_of small_shape empty_file (orders 0 4 with_next_begin)) 1 4 1 (old_value 1 66)
first_move = record { top_page = 4; top_cell = 0; top = value 1 66; old = empty_cell; stands = refl; over = refl; from = refl; is_first = refl; exclusive = refl; same = refl }

first_move_leans : PutLeans (scene_of small_shape empty_file (orders 0 4 with_next_begin)) 1 4 0 1 (old_value 1 66)
first_move_leans = record {
  begun = record { newest = (header 3, refl, omega arith); in_time = inr (inl (header 2, refl, omega arith)) };
  link = λ linked. absurd (linked refl);
  cut = λ taken. absurd cc;
}

legal_moved_first : IsLegal small_shape empty_file with_moved_first
legal_moved_first =
    legal_edits empty_file (orders 0 4 with_next_begin) 4 (PutCell 1 (old_value 1 66)) legal_order tt refl refl
    (record { number_fits = omega arith; back_page_fits = omega arith; back_cell_fits = omega arith })
    first_move_leans
    (record { pointer = 3; pointed = refl; named = refl; pointed_in_file = inl refl; named_in_file = inl refl })
    (IsPut.move first_move)

first_update : IsNewVersion (scene_of small_shape empty_file with_moved_first) 1 4 0 (over 1 (value 2 67))
first_update = record {
  t = second_transaction;
  old = value 1 66;
  open_is = refl;
  stands = refl;
  over = refl;
  over_other = λ same. omega arith;
  held = refl;
  top = refl;
  own = refl;
  moved = IsMovedBy.moved _ _ (old_value 1 66) (record { actor = refl; act = refl }) refl refl;
  back = refl;
  same_meant = λ linked. refl;
}

first_link : LinkLeans (scene_of small_shape empty_file with_moved_first) 1 4 0 (over 1 (value 2 67))
first_link = record {
  sequence = 0;
  pointer = 3;
  back = record {
    newest = record {
      sequence = 0;
      page = 4;
      cells = first_cells (value 1 66 ∷ old_value 1 66 ∷ []);
      back = old_value 1 66;
      is = refl;
      stands = refl;
      is_value = refl;
      smaller = omega arith;
      same = refl;
    };
    in_time = inl refl;
  };
  named = record { newest = refl; in_time = inr (inl refl) };
  pointed = record { newest = (header 3, relation, refl, refl, refl); in_time = inr (inl (header 2, relation, refl, refl, refl)) };
}

first_leans : PutLeans (scene_of small_shape empty_file with_moved_first) 1 4 0 0 (over 1 (value 2 67))
first_leans = record {
  begun = record { newest = (header 3, refl, omega arith); in_time = inr (inr (refl, StandsBefore.straight 0 4 (1, refl))) };
  link = λ linked. first_link;
  cut = λ taken. absurd cc;
}

legal_update : IsLegal small_shape empty_file with_update
legal_update =
    legal_edits empty_file with_moved_first 4 (PutCell 0 (over 1 (value 2 67))) legal_moved_first tt refl refl
    (record { number_fits = omega arith; back_page_fits = omega arith; back_cell_fits = omega arith })
    first_leans
    (record { pointer = 3; pointed = refl; named = refl; pointed_in_file = inl refl; named_in_file = inl refl })
    (IsPut.over first_update)

abbrev with_two_writes : History
with_two_writes = writes 4 (writes 0 with_update)

legal_two_writes : IsLegal small_shape empty_file with_two_writes
legal_two_writes =
    let first = legal_writes empty_file with_update 0 cause.Commit false false legal_update tt refl refl (λ owner high. grind (arith, nat_tests)) (inl tt) in
    legal_writes empty_file (writes 0 with_update) 4 cause.Commit false false first tt refl refl (λ owner high. grind (arith, nat_tests)) (inl tt)

abbrev with_mark : History
with_mark = edits 2 (Mark 2 Committed) with_two_writes

legal_mark : IsLegal small_shape empty_file with_mark
legal_mark =
    legal_edits empty_file with_two_writes 2 (Mark 2 Committed) legal_two_writes tt refl refl tt
    (record { newest = (header 3, refl, omega arith); in_time = inr (inl (header 3, refl, omega arith)) })
    (record { newest = refl; in_file = inl refl })
    (second_transaction, refl, refl, one_draft empty_file with_two_writes 1 4 4 2 refl refl refl (λ other no_header no_first no_second not_here. rw (no_header, no_first, not_here) refl))

legal_free_update : IsLegal small_shape empty_file with_free_update
legal_free_update = (
  legal_writes empty_file with_mark 2 cause.Commit false false legal_mark tt refl refl (λ owner high. grind (arith, nat_tests)) (inl tt),
  record {
    alive = refl;
    follows = tt;
    guard = record {
      part = refl;
      by_series = record {
        over = λ t open_is. absurd (none-some t open_is);
        written = λ own unwritten. written_next 2 unwritten.0 2 Committed cause.Commit _ _ with_two_writes refl refl refl refl unwritten.1;
      };
    };
  },
)

-- No owner has an open transaction.
none_open : (other : ℕ) (is_first : Bool) → (other == 1) ≡ is_first → (world_of small_shape empty_file with_free_update).transaction other ≡ None
none_open other true is = rw is refl
none_open other false is = rw is refl

top_reached : ReachesCell (newest_after small_shape empty_file with_free_update) 0 4 0
top_reached = ReachesCell.top 0 4 0 (over 1 (value 2 67)) refl refl refl

cut : IsCut (scene_of small_shape empty_file with_free_update) 4 0 (value 2 67)
cut = record {
  relation = 0;
  old = over 1 (value 2 67);
  stands = refl;
  reached = top_reached;
  settled = record { committed = refl; held = λ other t open_is. absurd (none-some t (sym (none_open other (other == 1) refl) ∙ open_is)) };
  linked = λ same. omega arith;
  same = refl;
}

cut_leans : PutLeans (scene_of small_shape empty_file with_free_update) 1 4 0 0 (value 2 67)
cut_leans = record {
  begun = record { newest = (header 3, refl, omega arith); in_time = inr (inl (header 3, refl, omega arith)) };
  link = λ linked. absurd (linked refl);
  cut = λ taken. absurd cc;
}

legal_swept_link : IsLegal small_shape empty_file with_swept_link
legal_swept_link =
    legal_edits empty_file with_free_update 4 (PutCell 0 (value 2 67)) legal_free_update tt refl refl
    (record { number_fits = omega arith; back_page_fits = omega arith; back_cell_fits = omega arith })
    cut_leans
    (record { pointer = 3; pointed = refl; named = refl; pointed_in_file = inl refl; named_in_file = inl refl })
    (IsPut.cut cut)

-- Before the cut the newest version names cell 1, and after it none does.
linked : IsLinked (newest_after small_shape empty_file with_free_update) 4 1
linked = record {
  relation = 0;
  from_page = 4;
  from_cell = 0;
  version = over 1 (value 2 67);
  links = record { reached = top_reached; stands = refl; names = record { some = refl; page_is = refl; cell_is = refl } };
}

unlinked : IsLinked (newest_after small_shape empty_file with_swept_link) 4 1 → ⊥
unlinked = not_linked (newest_after small_shape empty_file with_swept_link) 3 (first_cells (value 2 67 ∷ old_value 1 66 ∷ [])) refl refl refl refl 1 refl

clear_leans : ClearLeans (scene_of small_shape empty_file with_swept_link) 1 4 1
clear_leans = record {
  page = 4;
  stamp = stamp_after with_free_update;
  unlinked = IsUnlinkedBy.unlinked _ _ (PutCell 0 (value 2 67)) (record { actor = refl; act = refl }) linked unlinked refl refl;
  shown = record { newest = (0, omega arith, refl); in_time = inl refl };
  exclusive = refl;
}

legal_swept_row : IsLegal small_shape empty_file with_swept_row
legal_swept_row =
    legal_edits empty_file with_swept_link 4 (ClearCell 1) legal_swept_link tt refl refl tt
    (λ is_value. clear_leans)
    (record { pointer = 3; pointed = refl; named = refl; pointed_in_file = inl refl; named_in_file = inl refl })
    (IsClearing.unreached (old_value 1 66) refl refl unlinked)

abbrev third_transaction : Transaction
third_transaction = record { number = 3; owner = 1; standing = standing.Open; snapshot = 3 ∷ 1 ∷ 2 ∷ [] }

-- Numbers 1 and 2 are committed.
none_active_then : (other : ℕ) → 1 ≤ other → other < 3 → state_of (newest_after small_shape empty_file with_swept_row) other ≡ Active → ⊥
none_active_then other from below is = go (other == 1) refl where
  go : (first : Bool) → other == 1 ≡ first → ⊥
  go true same = let one : other ≡ 1 = grind (arith, nat_tests, same) in let active : state_of (newest_after small_shape empty_file with_swept_row) 1 ≡ Active = rw one at is in cc
  go false apart = let two : other ≡ 2 = grind (arith, nat_tests, apart, from, below) in let active : state_of (newest_after small_shape empty_file with_swept_row) 2 ≡ Active = rw two at is in cc

least_then : IsLeastActive (newest_after small_shape empty_file with_swept_row) 3 3
least_then = record { from_one = omega arith; to = omega arith; active = inl refl; least = none_active_then }

may_begin_then : MayBegin (scene_of small_shape empty_file with_swept_row) 1 3 3
may_begin_then = record {
  next = refl;
  none_open = refl;
  one_number = λ other is. grind (arith, nat_tests, is);
  header = refl;
  exclusive = refl;
  tips = λ sequence page is. rw (tip_is (newest_after small_shape empty_file with_swept_row) 3 4 refl refl sequence page is).1 refl;
  word_is = least_then;
}

still_may_begin_then : MayBegin (scene_of small_shape empty_file (asks 1 (number_resource 3) 3 with_swept_row)) 1 3 3
still_may_begin_then = record {
  next = refl;
  none_open = refl;
  one_number = λ other is. grind (arith, nat_tests, is);
  header = refl;
  exclusive = refl;
  tips = may_begin_then.tips;
  word_is = least_then;
}

legal_last_number : IsLegal small_shape empty_file (begins 3 with_swept_row)
legal_last_number = legal_gets empty_file with_swept_row 1 (number_resource 3) 3 legal_swept_row tt refl may_begin_then (λ other apart. rw apart refl) (λ begins. still_may_begin_then)

legal_last_begin : IsLegal small_shape empty_file with_last_begin
legal_last_begin = legal_edits empty_file (begins 3 with_swept_row) 0 (SetNext 4) legal_last_number tt refl refl tt tt tt (third_transaction, refl, refl, refl)

legal_last_order : IsLegal small_shape empty_file (orders 0 4 with_last_begin)
legal_last_order =
    legal_orders empty_file with_last_begin 0 4 legal_last_begin tt refl (λ same. omega arith)
    (nothing_before (world_of small_shape empty_file with_last_begin) 0 (λ owner high. grind (arith, nat_tests)) 4)

second_move : IsMove (scene_of small_shape empty_file (orders 0 4 with_last_begin)) 1 4 1 (old_value 2 67)
second_move = record { top_page = 4; top_cell = 0; top = value 2 67; old = empty_cell; stands = refl; over = refl; from = refl; is_first = refl; exclusive = refl; same = refl }

second_move_leans : PutLeans (scene_of small_shape empty_file (orders 0 4 with_last_begin)) 1 4 0 1 (old_value 2 67)
second_move_leans = record {
  begun = record { newest = (header 4, refl, omega arith); in_time = inr (inl (header 3, refl, omega arith)) };
  link = λ linked. absurd (linked refl);
  cut = λ taken. absurd cc;
}

legal_moved_second : IsLegal small_shape empty_file with_moved_second
legal_moved_second =
    legal_edits empty_file (orders 0 4 with_last_begin) 4 (PutCell 1 (old_value 2 67)) legal_last_order tt refl refl
    (record { number_fits = omega arith; back_page_fits = omega arith; back_cell_fits = omega arith })
    second_move_leans
    (record { pointer = 3; pointed = refl; named = refl; pointed_in_file = inl refl; named_in_file = inl refl })
    (IsPut.move second_move)

-- The version that was cut meant another, and the moved one means none.
pub meant_apart : meant_at (scene_of small_shape empty_file with_moved_second) 4 1 ≢ meant_at (scene_of small_shape empty_file with_moved_second) 4 0
meant_apart = λ same. omega (arith, same)

next_update : IsNewVersion (scene_of small_shape empty_file with_moved_second) 1 4 0 (over 1 (value 3 68))
next_update = record {
  t = third_transaction;
  old = value 2 67;
  open_is = refl;
  stands = refl;
  over = refl;
  over_other = λ same. omega arith;
  held = refl;
  top = refl;
  own = refl;
  moved = IsMovedBy.moved _ _ (old_value 2 67) (record { actor = refl; act = refl }) refl refl;
  back = refl;
  same_meant = λ linked. absurd (linked refl);
}

next_link : LinkLeans (scene_of small_shape empty_file with_moved_second) 1 4 0 (over 1 (value 3 68))
next_link = record {
  sequence = 0;
  pointer = 3;
  back = record {
    newest = record {
      sequence = 0;
      page = 4;
      cells = first_cells (value 2 67 ∷ old_value 2 67 ∷ []);
      back = old_value 2 67;
      is = refl;
      stands = refl;
      is_value = refl;
      smaller = omega arith;
      same = refl;
    };
    in_time = inl refl;
  };
  named = record { newest = refl; in_time = inr (inl refl) };
  pointed = record { newest = (header 4, relation, refl, refl, refl); in_time = inr (inl (header 3, relation, refl, refl, refl)) };
}

next_leans : PutLeans (scene_of small_shape empty_file with_moved_second) 1 4 0 0 (over 1 (value 3 68))
next_leans = record {
  begun = record { newest = (header 4, refl, omega arith); in_time = inr (inr (refl, StandsBefore.straight 0 4 (1, refl))) };
  link = λ linked. next_link;
  cut = λ taken. absurd cc;
}

pub legal_next_update : IsLegal small_shape empty_file with_next_update
legal_next_update =
    legal_edits empty_file with_moved_second 4 (PutCell 0 (over 1 (value 3 68))) legal_moved_second tt refl refl
    (record { number_fits = omega arith; back_page_fits = omega arith; back_cell_fits = omega arith })
    next_leans
    (record { pointer = 3; pointed = refl; named = refl; pointed_in_file = inl refl; named_in_file = inl refl })
    (IsPut.over next_update)
