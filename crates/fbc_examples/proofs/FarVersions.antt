-- A row gets a new version over one that is moved to another page, and both are committed, legally.
use Rattle.std.proofs.Common.{◌≡◌, ◌<◌, ◌≤◌, ◌==◌, ℕ, Bool, true, false, [], ◌∷◌, inl, inr, refl, arith}
use Rattle.std.proofs.lemmas.Bool.Decides.{nat_tests}
use Rattle.fbc_kinds.specs.declared.edits.Edit.TheVariants.{Mark, PutCell, SetNext}
use Rattle.fbc_kinds.specs.declared.pages.State.TheVariants.{Active, Committed}
use Rattle.fbc_kinds.specs.declared.snapshots.Standing.TheVariants as standing
use Rattle.fbc_kinds.specs.declared.snapshots.Transaction.{Transaction}
use Rattle.fbc_kinds.specs.Chain.{state_of}
use Rattle.fbc_kinds.specs.DataSpelling.{empty_cell}
use Rattle.fbc_world.specs.declared.asks.Cause.TheVariants as cause
use Rattle.fbc_world.specs.History.{History}
use Rattle.fbc_world.specs.World.{world_of}
use Rattle.fbc_kinds.specs.Order.{StandsBefore}
use Rattle.fbc_legal.specs.Guards.{IsLeastActive, MayBegin}
use Rattle.fbc_legal.specs.Leans.{LinkLeans, PutLeans}
use Rattle.fbc_legal.specs.Legal.{IsLegal}
use Rattle.fbc_legal.specs.Rows.{IsMove, IsNewVersion, IsPut}
use Rattle.fbc_legal.specs.Scene.{newest_after, number_resource, scene_of}
use Rattle.fbc_legal.specs.Traces.{IsMovedBy}
use Rattle.fbc_page_edits.specs.Facing.{IsLinked}
use Rattle.fbc_examples.specs.Files.{first_cells, header, old_value, over_far, relation, small_shape, spread_file, value}
use Rattle.fbc_examples.specs.Spread.{with_far_commit, with_far_move, with_far_version, with_spread_begin, with_spread_pages}
use Rattle.fbc_examples.specs.Steps.{asks, begins, edits, orders, writes}
use Rattle.fbc_examples.proofs.LegalSteps.{legal_edits, legal_gets, legal_orders, legal_writes}
use Rattle.fbc_examples.proofs.Nothing.{before_nothing, nothing_before}
use Rattle.fbc_examples.proofs.SpreadRows.{legal_spread_pages}
use Rattle.fbc_examples.proofs.Undrafted.{one_draft}
use Rattle.fbc_examples.proofs.WideViews.{far_unlinked, wide_tip}

abbrev fourth_transaction : Transaction
fourth_transaction = record { number = 4; owner = 1; standing = standing.Open; snapshot = 4 ∷ 1 ∷ 2 ∷ 3 ∷ [] }

abbrev IsActive : ℕ → Type 0
IsActive number = state_of (newest_after small_shape spread_file with_spread_pages) number ≡ Active

-- Numbers 1 to 3 are committed.
none_active : (other : ℕ) → 1 ≤ other → other < 4 → state_of (newest_after small_shape spread_file with_spread_pages) other ≡ Active → ⊥
none_active other from below is = go (other == 1) refl (other == 2) refl where
  go : (first : Bool) → other == 1 ≡ first → (second : Bool) → other == 2 ≡ second → ⊥
  go true same _ _ = let one : other ≡ 1 = grind (arith, nat_tests, same) in let active : IsActive 1 = rw one at is in cc
  go false _ true same = let two : other ≡ 2 = grind (arith, nat_tests, same) in let active : IsActive 2 = rw two at is in cc
  go false apart false also = let three : other ≡ 3 = grind (arith, nat_tests, apart, also, from, below) in let active : IsActive 3 = rw three at is in cc

least_is : IsLeastActive (newest_after small_shape spread_file with_spread_pages) 4 4
least_is = record { from_one = omega arith; to = omega arith; active = inl refl; least = none_active }

may_begin : MayBegin (scene_of small_shape spread_file with_spread_pages) 1 4 4
may_begin = record {
  next = refl;
  none_open = refl;
  one_number = λ other is. absurd cc;
  header = refl;
  exclusive = refl;
  tips = λ sequence page is. rw (wide_tip (newest_after small_shape spread_file with_spread_pages) 4 refl refl sequence page is).1 refl;
  word_is = least_is;
}

-- The same once it has asked.
still_may_begin : MayBegin (scene_of small_shape spread_file (asks 1 (number_resource 4) 4 with_spread_pages)) 1 4 4
still_may_begin = record {
  next = refl;
  none_open = refl;
  one_number = λ other is. absurd cc;
  header = refl;
  exclusive = refl;
  tips = may_begin.tips;
  word_is = least_is;
}

legal_number : IsLegal small_shape spread_file (begins 4 with_spread_pages)
legal_number = legal_gets spread_file with_spread_pages 1 (number_resource 4) 4 legal_spread_pages tt refl may_begin (λ other apart. rw apart refl) (λ begins. still_may_begin)

legal_spread_begin : IsLegal small_shape spread_file with_spread_begin
legal_spread_begin = legal_edits spread_file (begins 4 with_spread_pages) 0 (SetNext 5) legal_number tt refl refl tt tt tt (fourth_transaction, refl, refl, refl)

abbrev with_order : History
with_order = orders 0 4 with_spread_begin

legal_order : IsLegal small_shape spread_file with_order
legal_order =
    legal_orders spread_file with_spread_begin 0 4 legal_spread_begin tt refl (λ same. omega arith)
    (nothing_before (world_of small_shape spread_file with_spread_begin) 0 (λ owner high. refl) 4)

move : IsMove (scene_of small_shape spread_file with_order) 1 5 2 (old_value 3 68)
move = record { top_page = 4; top_cell = 1; top = value 3 68; old = empty_cell; stands = refl; over = refl; from = refl; is_first = refl; exclusive = refl; same = refl }

move_leans : PutLeans (scene_of small_shape spread_file with_order) 1 5 0 2 (old_value 3 68)
move_leans = record {
  begun = record { newest = (header 5, refl, omega arith); in_time = inr (inl (header 4, refl, omega arith)) };
  link = λ linked. absurd (linked refl);
  cut = λ taken. absurd cc;
}

abbrev with_moved : History
with_moved = edits 5 (PutCell 2 (old_value 3 68)) with_order

legal_moved : IsLegal small_shape spread_file with_moved
legal_moved =
    legal_edits spread_file with_order 5 (PutCell 2 (old_value 3 68)) legal_order tt refl refl
    (record { number_fits = omega arith; back_page_fits = omega arith; back_cell_fits = omega arith })
    move_leans
    (record { pointer = 3; pointed = refl; named = refl; pointed_in_file = inl refl; named_in_file = inl refl })
    (IsPut.move move)

legal_far_move : IsLegal small_shape spread_file with_far_move
legal_far_move =
    legal_orders spread_file with_moved 5 4 legal_moved tt refl (λ same. omega arith)
    (before_nothing (world_of small_shape spread_file with_moved) 4 (λ owner low. grind (arith, nat_tests)) 5)

-- No version names it yet.
moved_unlinked : IsLinked (newest_after small_shape spread_file with_far_move) 5 2 → ⊥
moved_unlinked =
    far_unlinked (newest_after small_shape spread_file with_far_move) 5
    (first_cells (over_far 0 (value 3 67) ∷ value 3 68 ∷ [])) (first_cells (over_far 1 (old_value 2 66) ∷ old_value 1 65 ∷ old_value 3 68 ∷ [])) refl refl refl refl refl refl 5 2 refl refl

new_version : IsNewVersion (scene_of small_shape spread_file with_far_move) 1 4 1 (over_far 2 (value 4 69))
new_version = record {
  t = fourth_transaction;
  old = value 3 68;
  open_is = refl;
  stands = refl;
  over = refl;
  over_other = λ same. omega arith;
  held = refl;
  top = refl;
  own = refl;
  moved = IsMovedBy.still _ _ (IsMovedBy.moved _ _ (old_value 3 68) (record { actor = refl; act = refl }) refl refl) moved_unlinked;
  back = refl;
  same_meant = λ linked. absurd (linked refl);
}

far_link : LinkLeans (scene_of small_shape spread_file with_far_move) 1 4 0 (over_far 2 (value 4 69))
far_link = record {
  sequence = 1;
  pointer = 3;
  back = record {
    newest = record {
      sequence = 1;
      page = 5;
      cells = first_cells (over_far 1 (old_value 2 66) ∷ old_value 1 65 ∷ old_value 3 68 ∷ []);
      back = old_value 3 68;
      is = refl;
      stands = refl;
      is_value = refl;
      smaller = omega arith;
      same = refl;
    };
    in_time = inr (inr (refl, StandsBefore.straight 5 4 (1, refl)));
  };
  named = record { newest = refl; in_time = inr (inl refl) };
  pointed = record { newest = (header 5, relation, refl, refl, refl); in_time = inr (inl (header 4, relation, refl, refl, refl)) };
}

new_leans : PutLeans (scene_of small_shape spread_file with_far_move) 1 4 0 1 (over_far 2 (value 4 69))
new_leans = record {
  begun = record { newest = (header 5, refl, omega arith); in_time = inr (inr (refl, StandsBefore.straight 0 4 (1, refl))) };
  link = λ linked. far_link;
  cut = λ taken. absurd cc;
}

legal_far_version : IsLegal small_shape spread_file with_far_version
legal_far_version =
    legal_edits spread_file with_far_move 4 (PutCell 1 (over_far 2 (value 4 69))) legal_far_move tt refl refl
    (record { number_fits = omega arith; back_page_fits = omega arith; back_cell_fits = omega arith })
    new_leans
    (record { pointer = 3; pointed = refl; named = refl; pointed_in_file = inl refl; named_in_file = inl refl })
    (IsPut.over new_version)

abbrev with_three_writes : History
with_three_writes = writes 4 (writes 5 (writes 0 with_far_version))

legal_three_writes : IsLegal small_shape spread_file with_three_writes
legal_three_writes =
    let first = legal_writes spread_file with_far_version 0 cause.Commit false false legal_far_version tt refl refl (λ owner high. grind (arith, nat_tests)) (inl tt) in
    let second = legal_writes spread_file (writes 0 with_far_version) 5 cause.Commit false false first tt refl refl (λ owner high. grind (arith, nat_tests)) (inl tt) in
    legal_writes spread_file (writes 5 (writes 0 with_far_version)) 4 cause.Commit false false second tt refl refl (λ owner high. grind (arith, nat_tests)) (inl tt)

pub legal_far_commit : IsLegal small_shape spread_file with_far_commit
legal_far_commit =
    let marked =
    legal_edits spread_file with_three_writes 2 (Mark 4 Committed) legal_three_writes tt refl refl tt
    (record { newest = (header 5, refl, omega arith); in_time = inr (inl (header 5, refl, omega arith)) })
    (record { newest = refl; in_file = inl refl }) (
      fourth_transaction,
      refl,
      refl,
      one_draft spread_file with_three_writes 1 4 5 2 refl refl refl (λ other no_header no_first no_second not_here. rw (no_header, no_first, no_second) refl),
    ) in
    legal_writes spread_file (edits 2 (Mark 4 Committed) with_three_writes) 2 cause.Commit false false marked tt refl refl (λ owner high. grind (arith, nat_tests)) (inl tt)
