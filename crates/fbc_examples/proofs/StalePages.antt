-- A page is made while a pointer page in the file names it, of which the file's header knows nothing, legally.
use Rattle.std.proofs.Common.{◌≡◌, ◌<◌, ◌%◌, ◌/◌, ℕ, zero, suc, [], ◌∷◌, List, Some, inl, inr, refl, sym, ap, arith, slice_get, subst}
use Rattle.std.specs.Prelude.{◌⊎◌, Contains, slice_index_or}
use Rattle.std.specs.Option.{option_and_then}
use Rattle.std.proofs.lemmas.Bool.Decides.{nat_tests}
use Rattle.fbc_kinds.specs.declared.edits.Edit.TheVariants.{AddPointer, Format, TakePage}
use Rattle.fbc_kinds.specs.declared.pages.Header.{Header}
use Rattle.fbc_kinds.specs.declared.pages.Page.TheVariants as kind
use Rattle.fbc_kinds.specs.declared.pages.Relation.{Relation}
use Rattle.fbc_kinds.specs.View.{View, named_in, pointer_of}
use Rattle.fbc_world.specs.History.{History}
use Rattle.fbc_world.specs.World.{IsPairIn, world_of}
use Rattle.fbc_kinds.specs.Order.{StandsBefore}
use Rattle.fbc_legal.specs.Facts.{Names}
use Rattle.fbc_legal.specs.Leans.{IsInUse, IsNamedNowhere, IsNotNamedBy, IsReady}
use Rattle.fbc_legal.specs.Legal.{IsLegal}
use Rattle.fbc_legal.specs.Scene.{IsBefore, newest_after, scene_of}
use Rattle.fbc_legal.specs.Traces.{IsNamed, IsTakenBy}
use Rattle.fbc_examples.specs.Files.{header, relation, small_shape, stale_file}
use Rattle.fbc_examples.specs.Steps.{edits, holds, orders, with_owner}
use Rattle.fbc_examples.specs.Unnaming.{with_new_pointer, with_page_beside, with_taken_beside, with_taken_stale}
use Rattle.fbc_examples.proofs.LegalSteps.{legal_edits, legal_holds, legal_orders, legal_owner}
use Rattle.fbc_examples.proofs.Nothing.{before_nothing, nothing_before}
use Rattle.fbc_examples.proofs.Nowhere.{IsOther, header_spares, named_nowhere, no_inventory, not_named, pointer_spares}
use Rattle.fbc_examples.proofs.SmallViews.{no_name, one_element, one_inventory, one_tip, same_at}
use Rattle.fbc_examples.proofs.TakenPages.{other_page}

abbrev with_four : History
with_four = holds 1 (holds 0 (holds 5 (holds 4 with_owner)))

legal_four : IsLegal small_shape stale_file with_four
legal_four =
    let one = legal_holds stale_file with_owner 4 (legal_owner stale_file) tt refl refl (omega arith) (λ other apart. refl) in
    let two = legal_holds stale_file (holds 4 with_owner) 5 one tt refl refl (omega arith) (λ other apart. rw apart refl) in
    let three = legal_holds stale_file (holds 5 (holds 4 with_owner)) 0 two tt refl refl (omega arith) (λ other apart. rw apart refl) in
    legal_holds stale_file (holds 0 (holds 5 (holds 4 with_owner))) 1 three tt refl refl (omega arith) (λ other apart. rw apart refl)

legal_take : IsLegal small_shape stale_file (edits 1 (TakePage 5) with_four)
legal_take = legal_edits stale_file with_four 1 (TakePage 5) legal_four tt refl refl tt tt tt refl

legal_taken_stale : IsLegal small_shape stale_file with_taken_stale
legal_taken_stale =
    legal_orders stale_file (edits 1 (TakePage 5) with_four) 1 5 legal_take tt refl (λ same. omega arith)
    (nothing_before (world_of small_shape stale_file (edits 1 (TakePage 5) with_four)) 1 (λ owner high. refl) 5)

stale_page : IsOther 5
stale_page = record { no_header = λ is. omega arith; no_inventory = λ is. omega arith; no_tip = λ is. omega arith; no_pointer = λ is. omega arith }

stale_in_use : IsInUse (scene_of small_shape stale_file with_taken_stale) 1 5 5
stale_in_use = record {
  taken = record { newest = refl; in_time = inr (inr (refl, StandsBefore.straight 1 5 (1, refl))) };
  counted = record { newest = (header 1, refl, omega arith); in_time = inr (inl (header 1, refl, omega arith)) };
}

stale_taken : IsTakenBy small_shape stale_file 1 5 with_taken_stale
stale_taken =
    IsTakenBy.still _ _ (IsTakenBy.taken _ _ (record { actor = refl; act = refl }))
    (λ owner is. cc)
    (not_named (newest_after small_shape stale_file with_taken_stale) 1 5 stale_page refl refl)

abbrev with_fresh_pointer : History
with_fresh_pointer = edits 5 (Format 4 5 0 1) with_taken_stale

legal_fresh_pointer : IsLegal small_shape stale_file with_fresh_pointer
legal_fresh_pointer =
    legal_edits stale_file with_taken_stale 5 (Format 4 5 0 1) legal_taken_stale tt refl refl (omega arith, omega arith)
    (record { nowhere = named_nowhere (scene_of small_shape stale_file with_taken_stale) 1 5 5 1 1 stale_page refl refl refl refl; used = λ other. stale_in_use })
    tt
    (record {
      no_header = λ is. omega arith;
      no_inventory = no_inventory (newest_after small_shape stale_file with_taken_stale) 1 5 stale_page refl refl;
      taken = λ other. stale_taken;
    })

abbrev with_header_order : History
with_header_order = orders 5 0 with_fresh_pointer

legal_header_order : IsLegal small_shape stale_file with_header_order
legal_header_order =
    legal_orders stale_file with_fresh_pointer 5 0 legal_fresh_pointer tt refl (λ same. omega arith)
    (before_nothing (world_of small_shape stale_file with_fresh_pointer) 0 (λ owner low. grind (arith, nat_tests)) 5)

pointer_ready : IsReady (scene_of small_shape stale_file with_header_order) 1 0 5 4 0 1
pointer_ready = record {
  empty = record { newest = (_, refl, refl); in_time = inr (inr (refl, StandsBefore.straight 5 0 (1, refl))) };
  used = record {
    taken = record { newest = refl; in_time = inr (inr (refl, StandsBefore.through 1 5 0 (1, refl) (StandsBefore.straight 5 0 (1, refl)))) };
    counted = record { newest = (header 1, refl, omega arith); in_time = inl refl };
  };
}

legal_new_pointer : IsLegal small_shape stale_file with_new_pointer
legal_new_pointer = legal_edits stale_file with_header_order 0 (AddPointer 0 5) legal_header_order tt refl refl (omega arith) (pointer_ready, refl) tt tt

abbrev with_both_taken : History
with_both_taken = edits 1 (TakePage 4) with_new_pointer

legal_both_taken : IsLegal small_shape stale_file with_both_taken
legal_both_taken = legal_edits stale_file with_new_pointer 1 (TakePage 4) legal_new_pointer tt refl refl tt tt tt refl

legal_taken_beside : IsLegal small_shape stale_file with_taken_beside
legal_taken_beside =
    legal_orders stale_file with_both_taken 1 4 legal_both_taken tt refl (λ same. omega arith)
    (before_nothing (world_of small_shape stale_file with_both_taken) 4 (λ owner low. grind (arith, nat_tests)) 1)

-- The newest header names both pointer pages.
abbrev both_pointers : Relation
both_pointers = record relation { pointers = 3 ∷ 5 ∷ [] }

abbrev grown_header : Header
grown_header = record (header 1) { relations = both_pointers ∷ [] }

abbrev newest : View
newest = newest_after small_shape stale_file with_taken_beside

one_of_both : (place page : ℕ) → place < 2 → slice_index_or (3 ∷ 5 ∷ []) place page ≡ page → (page ≡ 3) ⊎ (page ≡ 5)
one_of_both zero page below is = inl (sym is)
one_of_both (suc zero) page below is = inr (sym is)
one_of_both (suc (suc place)) page below is = absurd (omega arith)

contains_both : (pages : List ℕ) (page : ℕ) → pages ≡ 3 ∷ 5 ∷ [] → Contains pages page → (page ≡ 3) ⊎ (page ≡ 5)
contains_both pages page same contains = let one = rw same at contains in one_of_both one.0 page one.1 one.2

contains_tip : (pages : List ℕ) (page : ℕ) → pages ≡ 2 ∷ [] → Contains pages page → page ≡ 2
contains_tip pages page same contains = let one = rw same at contains in one_element 2 page one.0 one.1 one.2

both_of : (number : ℕ) (entry : Relation) → slice_get (both_pointers ∷ []) number ≡ Some entry → entry ≡ both_pointers
both_of zero entry is = let there : both_pointers ≡ entry = cc in sym there
both_of (suc number) entry is = cc

grown_names : (page : ℕ) → Names (Some (kind.Header grown_header)) page → (page ≡ 2) ⊎ (page ≡ 3) ⊎ (page ≡ 5)
grown_names page (Names.tip found is contains) =
    let same : grown_header ≡ found = cc in
    inl (contains_tip found.tips page (sym (ap (λ (h : Header). h.tips) same)) contains)
grown_names page (Names.pointer found number entry is at contains) =
    let same : grown_header ≡ found = cc in
    let there : slice_get (both_pointers ∷ []) number ≡ Some entry = rw (← same) at at in
    inr (contains_both entry.pointers page (ap (λ (r : Relation). r.pointers) (both_of number entry there)) contains)
grown_names page (Names.slot place is) = cc

spares_four : (page : ℕ) → page ≡ 4 → (page ≡ 2) ⊎ (page ≡ 3) ⊎ (page ≡ 5) → ⊥
spares_four page four (inl is) = omega (arith, four, is)
spares_four page four (inr (inl is)) = omega (arith, four, is)
spares_four page four (inr (inr is)) = omega (arith, four, is)

-- The newest pointer page on page 5 names nothing.
fresh_spares : Names (newest 5) 4 → ⊥
fresh_spares (Names.tip found is contains) = cc
fresh_spares (Names.pointer found number entry is at contains) = cc
fresh_spares (Names.slot place is) = let none = same_at 252 0 place 4 is in omega (arith, none)

from_both : (number chunk pointer : ℕ) → option_and_then (λ (entry : Relation). slice_get entry.pointers chunk) (slice_get (both_pointers ∷ []) number) ≡ Some pointer → (pointer ≡ 3) ⊎ (pointer ≡ 5)
from_both zero zero pointer is = inl (let there : 3 ≡ pointer = cc in sym there)
from_both zero (suc zero) pointer is = inr (let there : 5 ≡ pointer = cc in sym there)
from_both zero (suc (suc chunk)) pointer is = cc
from_both (suc number) chunk pointer is = cc

pointers_are : (number sequence pointer : ℕ) → pointer_of newest number sequence ≡ Some pointer → (pointer ≡ 3) ⊎ (pointer ≡ 5)
pointers_are number sequence pointer is = from_both number sequence pointer is

-- Neither pointer page names a data page.
no_data : (number chunk place page : ℕ)
    → option_and_then (λ (pointer : ℕ). named_in (newest pointer) place) (option_and_then (λ (entry : Relation). slice_get entry.pointers chunk) (slice_get (both_pointers ∷ []) number)) ≡ Some page → ⊥
no_data zero zero place page is = no_name 252 place page is
no_data zero (suc zero) place page is = no_name 252 place page is
no_data zero (suc (suc chunk)) place page is = cc
no_data (suc number) chunk place page is = cc

not_named_beside : IsNamed newest 4 → ⊥
not_named_beside (IsNamed.tip sequence is) = let two = (one_tip sequence 4 is).1 in omega (arith, two)
not_named_beside (IsNamed.pointer number sequence is) = spares_four 4 refl (inr (pointers_are number sequence 4 is))
not_named_beside (IsNamed.data_page number sequence is) = no_data number (sequence / 252) (sequence % 252) 4 is

-- In the file page 5 names page 4; its new content is to be written before the header, and not before page 4.
pub still_in_file : Names ((world_of small_shape stale_file with_taken_beside).kept 5) 4
still_in_file = Names.slot 0 refl

pub not_before : IsBefore (scene_of small_shape stale_file with_taken_beside) 5 4 → ⊥
not_before (StandsBefore.straight _ _ pair) = grind (arith, nat_tests, pair.1)
not_before (StandsBefore.through _ between _ pair rest) =
    let header_is : between ≡ 0 = grind (arith, nat_tests, pair.1) in
    before_nothing (world_of small_shape stale_file with_taken_beside) 0 (λ owner low. grind (arith, nat_tests)) 4
    (subst (λ b. StandsBefore (IsPairIn (world_of small_shape stale_file with_taken_beside)) b 4) header_is rest)

abbrev IsNotNamedThere : ℕ → Type 0
IsNotNamedThere pointer = IsNotNamedBy (scene_of small_shape stale_file with_taken_beside) 1 4 pointer 4

not_by_old : IsNotNamedThere 3
not_by_old = record { newest = λ names. pointer_spares 4 other_page names; in_time = inl (λ names. pointer_spares 4 other_page names) }

not_by_new : IsNotNamedThere 5
not_by_new = record {
  newest = fresh_spares;
  in_time = inr (inr ((λ names. header_spares 1 5 stale_page names), StandsBefore.straight 5 0 (1, refl)));
}

not_by : (pointer : ℕ) → (pointer ≡ 3) ⊎ (pointer ≡ 5) → IsNotNamedThere pointer
not_by pointer (inl is) = rw is not_by_old
not_by pointer (inr is) = rw is not_by_new

nowhere_beside : IsNamedNowhere (scene_of small_shape stale_file with_taken_beside) 1 4 4
nowhere_beside = record {
  header = record {
    newest = λ names. spares_four 4 refl (grown_names 4 names);
    in_time = inr (inl (λ names. header_spares 1 4 other_page names));
  };
  pointers = λ number sequence pointer is. not_by pointer (pointers_are number sequence pointer is);
}

in_use : IsInUse (scene_of small_shape stale_file with_taken_beside) 1 4 4
in_use = record {
  taken = record { newest = refl; in_time = inr (inr (refl, StandsBefore.straight 1 4 (1, refl))) };
  counted = record { newest = (grown_header, refl, omega arith); in_time = inr (inl (header 1, refl, omega arith)) };
}

still_taken : IsTakenBy small_shape stale_file 1 4 with_taken_beside
still_taken =
    IsTakenBy.still _ _ (IsTakenBy.taken _ _ (record { actor = refl; act = refl }))
    (λ owner is. cc)
    not_named_beside

pub legal_page_beside : IsLegal small_shape stale_file with_page_beside
legal_page_beside =
    legal_edits stale_file with_taken_beside 4 (Format 5 4 0 0) legal_taken_beside tt refl refl (omega arith, omega arith)
    (record { nowhere = nowhere_beside; used = λ other. in_use })
    tt
    (record {
      no_header = λ is. omega arith;
      no_inventory = λ sequence is. let one = (one_inventory sequence 4 is).1 in omega (arith, one);
      taken = λ other. still_taken;
    })
