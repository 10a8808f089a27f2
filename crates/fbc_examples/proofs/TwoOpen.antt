-- Two owners have open transactions, and the number of the one that dies is marked as dead by the other, legally.
use Rattle.std.proofs.Common.{◌≡◌, ◌<◌, ◌≤◌, ◌==◌, ◌∙◌, ℕ, Bool, true, false, [], ◌∷◌, Some, None, inl, inr, refl, sym, arith, ◌&&◌, ◌||◌, not, List}
use Rattle.std.proofs.lemmas.Bool.Decides.{nat_tests}
use Rattle.std.proofs.lemmas.Option.{none-some, same_Some}
use Rattle.fbc_kinds.specs.declared.edits.Edit.TheVariants.{Mark, PutCell, SetNext}
use Rattle.fbc_kinds.specs.declared.pages.State.TheVariants.{Active, Dead}
use Rattle.fbc_kinds.specs.declared.snapshots.Standing.TheVariants as standing
use Rattle.fbc_kinds.specs.declared.snapshots.Transaction.{Transaction}
use Rattle.fbc_kinds.specs.Chain.{state_of}
use Rattle.fbc_kinds.specs.Machine.{is_held}
use Rattle.fbc_kinds.specs.Reach.{NamesBack, ReachesCell}
use Rattle.fbc_kinds.specs.View.{View}
use Rattle.fbc_levels.specs.declared.levels.Level.TheVariants.{Ex, Sr}
use Rattle.fbc_levels.specs.declared.resources.Request.{Request}
use Rattle.fbc_levels.specs.declared.resources.Series.TheVariants as series
use Rattle.fbc_levels.specs.Levels.{is_exclusive}
use Rattle.fbc_levels.specs.LockState.{is_of, request_of}
use Rattle.fbc_levels.specs.Resources.{is_same_series, page_resource}
use Rattle.fbc_kinds.proofs.Heads.{both_pass}
use Rattle.std.specs.List.{find, list_all}
use Rattle.fbc_levels.specs.declared.levels.Level.{Level}
use Rattle.fbc_world.specs.declared.asks.Cause.TheVariants as cause
use Rattle.fbc_world.specs.declared.events.Act.TheVariants.{Ask, Enter, Local}
use Rattle.fbc_world.specs.declared.events.LocalEvent.TheVariants as local
use Rattle.fbc_world.specs.History.{History}
use Rattle.fbc_world.specs.World.{world_of}
use Rattle.fbc_legal.specs.Guards.{IsInWayOfAsk, IsLeastActive, MayBegin}
use Rattle.fbc_legal.specs.Leans.{CutLeans, LeadsTo, PutLeans}
use Rattle.fbc_legal.specs.Legal.{IsLegal}
use Rattle.fbc_legal.specs.Rows.{HasOpen, IsCut, IsPut}
use Rattle.fbc_legal.specs.Scene.{newest_after, number_resource, scene_of}
use Rattle.fbc_examples.specs.Files.{header, old_value, over, small_shape, value, worn_file}
use Rattle.fbc_examples.specs.Steps.{asks, does, edits_by, frees, gets, holds, holds_by, with_owner, writes}
use Rattle.fbc_examples.specs.Survivors.{with_buried_number, with_first_open, with_free_pages, with_left_number, with_second_owner, with_shared_cut, with_survivor, with_two_open}
use Rattle.fbc_examples.proofs.LegalSteps.{legal_edits, legal_edits_by, legal_gets, legal_holds, legal_holds_by, legal_owner, legal_writes, legal_writes_by}
use Rattle.fbc_examples.proofs.Nothing.{nothing_before}
use Rattle.fbc_examples.proofs.SmallViews.{tip_is}

abbrev with_held_pages : History
with_held_pages = holds 2 (holds 0 with_owner)

legal_held_pages : IsLegal small_shape worn_file with_held_pages
legal_held_pages =
    let one = legal_holds worn_file with_owner 0 (legal_owner worn_file) tt refl refl (omega arith) (λ other apart. refl) in
    legal_holds worn_file (holds 0 with_owner) 2 one tt refl refl (omega arith) (λ other apart. rw apart refl)

abbrev pub fifth_transaction : Transaction
fifth_transaction = record { number = 5; owner = 1; standing = standing.Open; snapshot = 5 ∷ 1 ∷ 2 ∷ 3 ∷ [] }

abbrev pub sixth_transaction : Transaction
sixth_transaction = record { number = 6; owner = 2; standing = standing.Open; snapshot = 6 ∷ 1 ∷ 2 ∷ 3 ∷ [] }

-- Where numbers 1 to 3 are over, no number below 4 is active.
abbrev IsActive : View → ℕ → Type 0
IsActive view number = state_of view number ≡ Active

none_active : (view : View) → ¬ IsActive view 1 → ¬ IsActive view 2 → ¬ IsActive view 3 → (other : ℕ) → 1 ≤ other → other < 4 → ¬ IsActive view other
none_active view not_first not_second not_third other from below is = go (other == 1) refl (other == 2) refl where
  go : (first : Bool) → other == 1 ≡ first → (second : Bool) → other == 2 ≡ second → ⊥
  go true same _ _ = let one : other ≡ 1 = grind (arith, nat_tests, same) in not_first (rw one at is)
  go false _ true same = let two : other ≡ 2 = grind (arith, nat_tests, same) in not_second (rw two at is)
  go false apart false also = let three : other ≡ 3 = grind (arith, nat_tests, apart, also, from, below) in not_third (rw three at is)

first_least : IsLeastActive (newest_after small_shape worn_file with_held_pages) 5 4
first_least = record {
  from_one = omega arith;
  to = omega arith;
  active = inr refl;
  least = none_active (newest_after small_shape worn_file with_held_pages) (λ is. cc) (λ is. cc) (λ is. cc);
}

first_may_begin : MayBegin (scene_of small_shape worn_file with_held_pages) 1 5 4
first_may_begin = record {
  next = refl;
  none_open = refl;
  one_number = λ other is. absurd cc;
  header = refl;
  exclusive = refl;
  tips = λ sequence page is. rw (tip_is (newest_after small_shape worn_file with_held_pages) 5 4 refl refl sequence page is).1 refl;
  word_is = first_least;
}

-- The same once it has asked.
first_still_may_begin : MayBegin (scene_of small_shape worn_file (asks 1 (number_resource 5) 4 with_held_pages)) 1 5 4
first_still_may_begin = record {
  next = refl;
  none_open = refl;
  one_number = λ other is. absurd cc;
  header = refl;
  exclusive = refl;
  tips = first_may_begin.tips;
  word_is = first_least;
}

legal_first_number : IsLegal small_shape worn_file (gets 1 (number_resource 5) 4 with_held_pages)
legal_first_number = legal_gets worn_file with_held_pages 1 (number_resource 5) 4 legal_held_pages tt refl first_may_begin (λ other apart. rw apart refl) (λ begins. first_still_may_begin)

legal_first_open : IsLegal small_shape worn_file with_first_open
legal_first_open = legal_edits worn_file (gets 1 (number_resource 5) 4 with_held_pages) 0 (SetNext 6) legal_first_number tt refl refl tt tt tt (fifth_transaction, refl, refl, refl)

abbrev with_unpinned : History
with_unpinned = does 1 (Local (local.Unpin 2)) (does 1 (Local (local.Unpin 0)) with_first_open)

legal_unpinned : IsLegal small_shape worn_file with_unpinned
legal_unpinned = (
  (
    legal_first_open,
    record { alive = refl; follows = tt; guard = λ is t open_is. rw (← same_Some fifth_transaction t open_is) (omega arith) },
  ),
  record { alive = refl; follows = tt; guard = λ is. absurd (omega (arith, is)) },
)

legal_header_write : IsLegal small_shape worn_file (writes 0 with_unpinned)
legal_header_write = legal_writes worn_file with_unpinned 0 cause.Commit false false legal_unpinned tt refl refl (λ owner high. refl) (inl tt)

legal_free_pages : IsLegal small_shape worn_file with_free_pages
legal_free_pages = (
  (
    legal_header_write,
    record {
      alive = refl;
      follows = tt;
      guard = record {
        part = refl;
        by_series = record {
          clean = refl;
          unpinned = refl;
          last = nothing_before (world_of small_shape worn_file (writes 0 with_unpinned)) 0 (λ owner high. grind (arith, nat_tests));
          reason = inl refl;
        };
      };
    },
  ),
  record {
    alive = refl;
    follows = tt;
    guard = record {
      part = refl;
      by_series = record {
        clean = refl;
        unpinned = refl;
        last = nothing_before (world_of small_shape worn_file (frees 1 (page_resource 0) (writes 0 with_unpinned))) 2 (λ owner high. grind (arith, nat_tests));
        reason = inl refl;
      };
    };
  },
)

abbrev with_second_come : History
with_second_come = does 2 (Enter 8 2) with_free_pages

legal_second_come : IsLegal small_shape worn_file with_second_come
legal_second_come = (
  legal_free_pages,
  record {
    alive = tt;
    follows = tt;
    guard = record {
      next = refl;
      few = omega arith;
      room = omega arith;
      name_from = omega arith;
      name_to = omega arith;
      fresh = λ other lives same. grind (arith, nat_tests, lives, same);
    };
  },
)

legal_second_owner : IsLegal small_shape worn_file with_second_owner
legal_second_owner =
    let one = legal_holds_by 2 worn_file with_second_come 4 legal_second_come tt refl refl (omega arith) (λ other apart. grind (arith, nat_tests, apart)) in
    let two = legal_holds_by 2 worn_file (holds_by 2 4 with_second_come) 0 one tt refl refl (omega arith) (λ other apart. grind (arith, nat_tests, apart)) in
    legal_holds_by 2 worn_file (holds_by 2 0 (holds_by 2 4 with_second_come)) 2 two tt refl refl (omega arith) (λ other apart. grind (arith, nat_tests, apart))

second_least : IsLeastActive (newest_after small_shape worn_file with_second_owner) 6 4
second_least = record {
  from_one = omega arith;
  to = omega arith;
  active = inr refl;
  least = none_active (newest_after small_shape worn_file with_second_owner) (λ is. cc) (λ is. cc) (λ is. cc);
}

second_may_begin : MayBegin (scene_of small_shape worn_file with_second_owner) 2 6 4
second_may_begin = record {
  next = refl;
  none_open = refl;
  one_number = λ other is. absurd cc;
  header = refl;
  exclusive = refl;
  tips = λ sequence page is. rw (tip_is (newest_after small_shape worn_file with_second_owner) 6 4 refl refl sequence page is).1 refl;
  word_is = second_least;
}

second_still_may_begin : MayBegin (scene_of small_shape worn_file (asks 2 (number_resource 6) 4 with_second_owner)) 2 6 4
second_still_may_begin = record {
  next = refl;
  none_open = refl;
  one_number = λ other is. absurd cc;
  header = refl;
  exclusive = refl;
  tips = second_may_begin.tips;
  word_is = second_least;
}

legal_second_number : IsLegal small_shape worn_file (gets 2 (number_resource 6) 4 with_second_owner)
legal_second_number =
    legal_gets worn_file with_second_owner 2 (number_resource 6) 4 legal_second_owner tt refl second_may_begin (λ other apart. grind (arith, nat_tests, apart)) (λ begins. second_still_may_begin)

legal_two_open : IsLegal small_shape worn_file with_two_open
legal_two_open = legal_edits_by 2 worn_file (gets 2 (number_resource 6) 4 with_second_owner) 0 (SetNext 7) legal_second_number tt refl refl tt tt tt (sixth_transaction, refl, refl, refl)

-- Both snapshots hold number 2.
held_by_both : (other : ℕ) (t : Transaction) → HasOpen (scene_of small_shape worn_file with_two_open) other t → is_held t.snapshot 2 ≡ true
held_by_both other t open_is = go (other == 1) refl (other == 2) refl where
  go : (first : Bool) → other == 1 ≡ first → (second : Bool) → other == 2 ≡ second → is_held t.snapshot 2 ≡ true
  go true same _ _ =
      let one : other ≡ 1 = grind (arith, nat_tests, same) in
      let here : HasOpen (scene_of small_shape worn_file with_two_open) 1 t = rw one at open_is in
      rw (← same_Some fifth_transaction t here) refl
  go false _ true same =
      let two : other ≡ 2 = grind (arith, nat_tests, same) in
      let here : HasOpen (scene_of small_shape worn_file with_two_open) 2 t = rw two at open_is in
      rw (← same_Some sixth_transaction t here) refl
  go false apart false also =
      let none : (world_of small_shape worn_file with_two_open).transaction other ≡ None = rw (apart, also) refl in
      absurd (none-some t (sym none ∙ open_is))

top_names : NamesBack (over 1 (value 3 67)) 4 1
top_names = record { some = refl; page_is = refl; cell_is = refl }

top_reached : ReachesCell (newest_after small_shape worn_file with_two_open) 0 4 0
top_reached = ReachesCell.top 0 4 0 (over 1 (value 3 67)) refl refl refl

cut_under_row : CutLeans (scene_of small_shape worn_file with_two_open) 2 4 1
cut_under_row = record {
  relation = 0;
  sequence = 0;
  page = 4;
  place = 0;
  top = over 1 (value 3 67);
  named = refl;
  stands = refl;
  is_first = refl;
  leads = LeadsTo.straight 4 1 (over 1 (value 3 67)) refl top_names;
  shown = record { newest = (refl, refl); in_time = inl refl };
  exclusive = refl;
}

cut : IsCut (scene_of small_shape worn_file with_two_open) 4 1 (old_value 2 66)
cut = record {
  relation = 0;
  old = over 2 (old_value 2 66);
  stands = refl;
  reached = ReachesCell.along 4 0 4 1 (over 1 (value 3 67)) top_reached refl top_names;
  settled = record { committed = refl; held = held_by_both };
  linked = λ same. omega arith;
  same = refl;
}

cut_leans : PutLeans (scene_of small_shape worn_file with_two_open) 2 4 0 1 (old_value 2 66)
cut_leans = record {
  begun = record { newest = (header 7, refl, omega arith); in_time = inr (inl (header 6, refl, omega arith)) };
  link = λ linked. absurd (linked refl);
  cut = λ taken. cut_under_row;
}

legal_shared_cut : IsLegal small_shape worn_file with_shared_cut
legal_shared_cut =
    legal_edits_by 2 worn_file with_two_open 4 (PutCell 1 (old_value 2 66)) legal_two_open tt refl refl
    (record { number_fits = omega arith; back_page_fits = omega arith; back_cell_fits = omega arith })
    cut_leans
    (record { pointer = 3; pointed = refl; named = refl; pointed_in_file = inl refl; named_in_file = inl refl })
    (IsPut.cut cut)

legal_survivor : IsLegal small_shape worn_file with_survivor
legal_survivor = (
  (legal_shared_cut, record { alive = refl; follows = tt; guard = tt }),
  record { alive = refl; follows = tt; guard = record { is_dead = refl; in_way = IsInWayOfAsk.holds _ refl refl refl } },
)

-- Whether a request is no one of owner 2 for a number, unless it is granted EX.
abbrev is_rightful : Request → Bool
is_rightful r = not ((r.owner == 2) && is_same_series r.resource.series series.Transaction) || is_exclusive r.granted

only_last : (a b c e : Bool) → (a && (b && c)) ≡ true → (not (a && b) || e) ≡ true → e ≡ true
only_last true true c e all one = one
only_last true false c e all one = cc
only_last false b c e all one = cc

exclusive_is : (level : Level) → is_exclusive level ≡ true → level ≡ Ex
exclusive_is level is = grind (arith, is)

exclusive_among : (requests : List Request) (other : ℕ) (r : Request) → list_all is_rightful requests ≡ true → find (is_of 2 (number_resource other)) requests ≡ Some r → r.granted ≡ Ex
exclusive_among [] other r all is = cc
exclusive_among (one ∷ rest) other r all is = go (is_of 2 (number_resource other) one) refl (λ later. exclusive_among rest other r (both_pass (is_rightful one) (list_all is_rightful rest) all).1 later) where
  go : (here : Bool) → is_of 2 (number_resource other) one ≡ here → (find (is_of 2 (number_resource other)) rest ≡ Some r → r.granted ≡ Ex) → r.granted ≡ Ex
  go true found later =
      let first : Some one ≡ Some r = rw found at is in
      let rightful : is_rightful one ≡ true = (both_pass (is_rightful one) (list_all is_rightful rest) all).0 in
      rw (← same_Some one r first)
      (exclusive_is one.granted (only_last (one.owner == 2) (is_same_series one.resource.series series.Transaction) (one.resource.key == other) (is_exclusive one.granted) found rightful))
  go false not_here later = later (rw not_here at is)

-- The one number that owner 2 has is its own.
own_alone : (other : ℕ) (r : Request) → request_of (world_of small_shape worn_file with_survivor).locks 2 (number_resource other) ≡ Some r → r.granted ≡ Ex
own_alone other r is = exclusive_among (world_of small_shape worn_file with_survivor).locks.requests other r refl is

legal_left_ask : IsLegal small_shape worn_file (does 2 (Ask (number_resource 5) Sr true 0) with_survivor)
legal_left_ask = (
  legal_survivor,
  record {
    alive = refl;
    follows = tt;
    guard = record {
      free = refl;
      asked = record { from_one = omega arith; begun = omega arith; fresh = refl; alone = own_alone };
      upward = λ queued. absurd cc;
      no_dead = λ dead is. cc;
    };
  },
)

legal_left_number : IsLegal small_shape worn_file with_left_number
legal_left_number = (
  legal_left_ask,
  record {
    alive = refl;
    follows = λ granted. record { actor = refl; act = refl };
    guard = record { wanted = refl; beside = λ other apart. grind (arith, nat_tests, apart); begins = λ begins. absurd cc };
  },
)

pub legal_buried_number : IsLegal small_shape worn_file with_buried_number
legal_buried_number =
    let marked =
    legal_edits_by 2 worn_file with_left_number 2 (Mark 5 Dead) legal_left_number tt refl refl tt
    (record { newest = (header 7, refl, omega arith); in_time = inr (inl (header 6, refl, omega arith)) })
    (record { newest = refl; in_file = inl refl })
    (inr (refl, refl)) in
    legal_writes_by 2 worn_file (edits_by 2 2 (Mark 5 Dead) with_left_number) 2 cause.Mark false false marked tt refl refl (λ owner high. grind (arith, nat_tests))
    (inl (record { place = 5; drafted = refl; kept = λ is. cc }))
