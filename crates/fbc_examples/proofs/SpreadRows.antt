-- Older versions on another page than their row's are cut off and cleared, legally.
use Rattle.std.proofs.Common.{◌≡◌, ◌==◌, ◌∙◌, ℕ, Bool, true, false, [], ◌∷◌, None, inl, inr, refl, sym, arith}
use Rattle.std.proofs.lemmas.Bool.Decides.{nat_tests}
use Rattle.std.proofs.lemmas.Option.{none-some}
use Rattle.fbc_kinds.specs.declared.edits.Edit.TheVariants.{ClearCell, PutCell}
use Rattle.fbc_kinds.specs.DataSpelling.{empty_cell}
use Rattle.fbc_kinds.specs.Reach.{NamesBack, ReachesCell}
use Rattle.fbc_world.specs.declared.asks.Cause.TheVariants as cause
use Rattle.fbc_world.specs.History.{History}
use Rattle.fbc_world.specs.World.{world_of}
use Rattle.fbc_kinds.specs.Order.{StandsBefore}
use Rattle.fbc_legal.specs.Leans.{ClearLeans, CutLeans, LeadsTo, PutLeans}
use Rattle.fbc_legal.specs.Legal.{IsLegal}
use Rattle.fbc_legal.specs.Rows.{IsClearing, IsCut, IsPut}
use Rattle.fbc_legal.specs.Scene.{newest_after, scene_of}
use Rattle.fbc_legal.specs.Stamps.{stamp_after}
use Rattle.fbc_legal.specs.Traces.{IsUnlinkedBy}
use Rattle.fbc_page_edits.specs.Facing.{IsLinked}
use Rattle.fbc_examples.specs.Files.{first_cells, header, old_value, over_far, small_shape, spread_file, value}
use Rattle.fbc_examples.specs.Spread.{with_far_clearing, with_far_cut, with_far_oldest, with_far_writes, with_row_cut, with_spread_pages}
use Rattle.fbc_examples.specs.Steps.{edits, holds, with_owner, writes}
use Rattle.fbc_examples.proofs.LegalSteps.{legal_edits, legal_holds, legal_orders, legal_owner, legal_writes}
use Rattle.fbc_examples.proofs.Nothing.{nothing_before}
use Rattle.fbc_examples.proofs.WideViews.{far_unlinked}

pub legal_spread_pages : IsLegal small_shape spread_file with_spread_pages
legal_spread_pages =
    let one = legal_holds spread_file with_owner 4 (legal_owner spread_file) tt refl refl (omega arith) (λ other apart. refl) in
    let two = legal_holds spread_file (holds 4 with_owner) 5 one tt refl refl (omega arith) (λ other apart. rw apart refl) in
    let three = legal_holds spread_file (holds 5 (holds 4 with_owner)) 0 two tt refl refl (omega arith) (λ other apart. rw apart refl) in
    legal_holds spread_file (holds 0 (holds 5 (holds 4 with_owner))) 2 three tt refl refl (omega arith) (λ other apart. rw apart refl)

-- No owner has an open transaction.
none_open : (other : ℕ) (is_first : Bool) → (other == 1) ≡ is_first → (world_of small_shape spread_file with_spread_pages).transaction other ≡ None
none_open other true is = rw is refl
none_open other false is = rw is refl

none_open_then : (other : ℕ) (is_first : Bool) → (other == 1) ≡ is_first → (world_of small_shape spread_file with_far_oldest).transaction other ≡ None
none_open_then other true is = rw is refl
none_open_then other false is = rw is refl

-- The row of page 4 leads to the older version on page 5.
row_names : NamesBack (over_far 0 (value 3 67)) 5 0
row_names = record { some = refl; page_is = refl; cell_is = refl }

row_reached : ReachesCell (newest_after small_shape spread_file with_spread_pages) 0 4 0
row_reached = ReachesCell.top 0 4 0 (over_far 0 (value 3 67)) refl refl refl

older_reached : ReachesCell (newest_after small_shape spread_file with_spread_pages) 0 5 0
older_reached = ReachesCell.along 4 0 5 0 (over_far 0 (value 3 67)) row_reached refl row_names

pub row_leads : LeadsTo (newest_after small_shape spread_file with_spread_pages) 4 0 5 0
row_leads = LeadsTo.straight 5 0 (over_far 0 (value 3 67)) refl row_names

cut_under_row : CutLeans (scene_of small_shape spread_file with_spread_pages) 1 5 0
cut_under_row = record {
  relation = 0;
  sequence = 0;
  page = 4;
  place = 0;
  top = over_far 0 (value 3 67);
  named = refl;
  stands = refl;
  is_first = refl;
  leads = row_leads;
  shown = record { newest = (refl, refl); in_time = inr (inl (refl, refl)) };
  exclusive = refl;
}

pub far_cut : IsCut (scene_of small_shape spread_file with_spread_pages) 5 0 (old_value 2 66)
far_cut = record {
  relation = 0;
  old = over_far 1 (old_value 2 66);
  stands = refl;
  reached = older_reached;
  settled = record { committed = refl; held = λ other t open_is. absurd (none-some t (sym (none_open other (other == 1) refl) ∙ open_is)) };
  linked = λ same. omega arith;
  same = refl;
}

far_cut_leans : PutLeans (scene_of small_shape spread_file with_spread_pages) 1 5 0 0 (old_value 2 66)
far_cut_leans = record {
  begun = record { newest = (header 4, refl, omega arith); in_time = inr (inl (header 4, refl, omega arith)) };
  link = λ linked. absurd (linked refl);
  cut = λ taken. cut_under_row;
}

legal_far_cut : IsLegal small_shape spread_file with_far_cut
legal_far_cut =
    legal_edits spread_file with_spread_pages 5 (PutCell 0 (old_value 2 66)) legal_spread_pages tt refl refl
    (record { number_fits = omega arith; back_page_fits = omega arith; back_cell_fits = omega arith })
    far_cut_leans
    (record { pointer = 3; pointed = refl; named = refl; pointed_in_file = inl refl; named_in_file = inl refl })
    (IsPut.cut far_cut)

-- Before that cut cell 1 of page 5 is named from cell 0, and after it by none.
oldest_linked : IsLinked (newest_after small_shape spread_file with_spread_pages) 5 1
oldest_linked = record {
  relation = 0;
  from_page = 5;
  from_cell = 0;
  version = over_far 1 (old_value 2 66);
  links = record { reached = older_reached; stands = refl; names = record { some = refl; page_is = refl; cell_is = refl } };
}

oldest_unlinked : IsLinked (newest_after small_shape spread_file with_far_cut) 5 1 → ⊥
oldest_unlinked =
    far_unlinked (newest_after small_shape spread_file with_far_cut) 4
    (first_cells (over_far 0 (value 3 67) ∷ value 3 68 ∷ [])) (first_cells (old_value 2 66 ∷ old_value 1 65 ∷ [])) refl refl refl refl refl refl 5 1 refl refl

oldest_leans : ClearLeans (scene_of small_shape spread_file with_far_cut) 1 5 1
oldest_leans = record {
  page = 5;
  stamp = stamp_after with_spread_pages;
  unlinked = IsUnlinkedBy.unlinked _ _ (PutCell 0 (old_value 2 66)) (record { actor = refl; act = refl }) oldest_linked oldest_unlinked refl refl;
  shown = record { newest = (0, omega arith, refl); in_time = inl refl };
  exclusive = refl;
}

legal_far_oldest : IsLegal small_shape spread_file with_far_oldest
legal_far_oldest =
    legal_edits spread_file with_far_cut 5 (ClearCell 1) legal_far_cut tt refl refl tt
    (λ is_value. oldest_leans)
    (record { pointer = 3; pointed = refl; named = refl; pointed_in_file = inl refl; named_in_file = inl refl })
    (IsClearing.unreached (old_value 1 65) refl refl oldest_unlinked)

row_still_reached : ReachesCell (newest_after small_shape spread_file with_far_oldest) 0 4 0
row_still_reached = ReachesCell.top 0 4 0 (over_far 0 (value 3 67)) refl refl refl

row_cut : IsCut (scene_of small_shape spread_file with_far_oldest) 4 0 (value 3 67)
row_cut = record {
  relation = 0;
  old = over_far 0 (value 3 67);
  stands = refl;
  reached = row_still_reached;
  settled = record { committed = refl; held = λ other t open_is. absurd (none-some t (sym (none_open_then other (other == 1) refl) ∙ open_is)) };
  linked = λ same. omega arith;
  same = refl;
}

row_cut_leans : PutLeans (scene_of small_shape spread_file with_far_oldest) 1 4 0 0 (value 3 67)
row_cut_leans = record {
  begun = record { newest = (header 4, refl, omega arith); in_time = inr (inl (header 4, refl, omega arith)) };
  link = λ linked. absurd (linked refl);
  cut = λ taken. absurd cc;
}

abbrev with_cut_row : History
with_cut_row = edits 4 (PutCell 0 (value 3 67)) with_far_oldest

legal_cut_row : IsLegal small_shape spread_file with_cut_row
legal_cut_row =
    legal_edits spread_file with_far_oldest 4 (PutCell 0 (value 3 67)) legal_far_oldest tt refl refl
    (record { number_fits = omega arith; back_page_fits = omega arith; back_cell_fits = omega arith })
    row_cut_leans
    (record { pointer = 3; pointed = refl; named = refl; pointed_in_file = inl refl; named_in_file = inl refl })
    (IsPut.cut row_cut)

legal_row_cut : IsLegal small_shape spread_file with_row_cut
legal_row_cut =
    legal_orders spread_file with_cut_row 4 5 legal_cut_row tt refl (λ same. omega arith)
    (nothing_before (world_of small_shape spread_file with_cut_row) 4 (λ owner high. refl) 5)

-- Before that cut the row names cell 0 of page 5, and after it none does.
older_linked : IsLinked (newest_after small_shape spread_file with_far_oldest) 5 0
older_linked = record {
  relation = 0;
  from_page = 4;
  from_cell = 0;
  version = over_far 0 (value 3 67);
  links = record { reached = row_still_reached; stands = refl; names = row_names };
}

older_unlinked : IsLinked (newest_after small_shape spread_file with_cut_row) 5 0 → ⊥
older_unlinked =
    far_unlinked (newest_after small_shape spread_file with_cut_row) 4
    (first_cells (value 3 67 ∷ value 3 68 ∷ [])) (first_cells (old_value 2 66 ∷ empty_cell ∷ [])) refl refl refl refl refl refl 5 0 refl refl

-- By that edit of page 4 the version on page 5 came to be reached no more.
pub unlinked_by_row : IsUnlinkedBy small_shape spread_file 5 0 1 4 (stamp_after with_far_oldest) with_row_cut
unlinked_by_row =
    IsUnlinkedBy.still _ _
    (IsUnlinkedBy.unlinked _ _ (PutCell 0 (value 3 67)) (record { actor = refl; act = refl }) older_linked older_unlinked refl refl)
    older_unlinked refl

older_leans : ClearLeans (scene_of small_shape spread_file with_row_cut) 1 5 0
older_leans = record {
  page = 4;
  stamp = stamp_after with_far_oldest;
  unlinked = unlinked_by_row;
  shown = record { newest = (0, omega arith, refl); in_time = inr (inr (refl, StandsBefore.straight 4 5 (1, refl))) };
  exclusive = refl;
}

legal_far_clearing : IsLegal small_shape spread_file with_far_clearing
legal_far_clearing =
    legal_edits spread_file with_row_cut 5 (ClearCell 0) legal_row_cut tt refl refl tt
    (λ is_value. older_leans)
    (record { pointer = 3; pointed = refl; named = refl; pointed_in_file = inl refl; named_in_file = inl refl })
    (IsClearing.unreached (old_value 2 66) refl refl older_unlinked)

pub legal_far_writes : IsLegal small_shape spread_file with_far_writes
legal_far_writes =
    let first = legal_writes spread_file with_far_clearing 4 cause.Commit false false legal_far_clearing tt refl refl (λ owner high. grind (arith, nat_tests)) (inl tt) in
    legal_writes spread_file (writes 4 with_far_clearing) 5 cause.Commit false false first tt refl refl (λ owner high. grind (arith, nat_tests)) (inl tt)
