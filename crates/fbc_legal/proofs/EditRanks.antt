-- The ranks of pages before and after an edit of page 0 that is no format.
use Rattle.std.proofs.Common.{◌≡◌, ℕ, ◌+◌, ◌/◌, Bool, true, false, ◌==◌, nat_lt, if◌then◌else◌, [], ◌∷◌, ◌++◌, length, Option, Some, None, refl, ap, arith}
use Rattle.std.specs.Prelude.{option_and_then, slice_get, slice_set}
use Rattle.fbc_kinds.specs.declared.edits.Edit.{Edit}
use Rattle.fbc_kinds.specs.declared.edits.Edit.TheVariants as edit
use Rattle.fbc_kinds.specs.declared.pages.Header.{Header}
use Rattle.fbc_kinds.specs.declared.pages.Page.{Page}
use Rattle.fbc_kinds.specs.declared.pages.Page.TheVariants as kind
use Rattle.fbc_kinds.specs.declared.pages.Relation.{Relation}
use Rattle.fbc_kinds.specs.declared.shapes.Shape.{Shape}
use Rattle.fbc_kinds.specs.Edits.{applied, is_next, pointed, takes_page, with_entry}
use Rattle.fbc_kinds.specs.Limits.{inventory_bits, inventory_limit, pointer_limit, tip_limit}
use Rattle.fbc_kinds.specs.View.{header_in}
use Rattle.fbc_world.specs.PageCell.{edited}
use Rattle.fbc_legal.specs.Ranks.{header_rank, inventory_rank, is_inventory_place, named_rank, rank_in}
use Rattle.fbc_legal.proofs.HeaderRanks.{NamesAnother, Rises, is_format, pointer_rises, rises-same, tip_rises}
use Rattle.fbc_legal.proofs.RankOrder.{IsAtMost, at_most-self}
use Rattle.fbc_page_edits.proofs.Fitted.{given_some}

module _ (shape : Shape) where
  -- Where page 0 is no header it becomes none.
  no_header : (e : Edit) (before after : Page) → is_format e ≡ false → header_in (Some before) ≡ None → applied shape e before ≡ Some after → header_in (Some after) ≡ None
  no_header e before after plain none is = grind (arith, plain, none, is)

  module _ (header : Header) (page : ℕ) where
    abbrev RisesTo : Edit → Page → Type 0
    RisesTo e after = Rises e (Some header) (header_in (Some after)) page

    next : (number : ℕ) (after : Page) → applied shape (edit.SetNext number) (kind.Header header) ≡ Some after → RisesTo (edit.SetNext number) after
    next number after is = rw (← (given_some (is_next shape.size (length header.tips) number) (kind.Header (record header { next = number })) after is).1) (rises-same _ _ _ page refl)

    inventory : (after : Page) → applied shape edit.AddInventory (kind.Header header) ≡ Some after → RisesTo edit.AddInventory after
    inventory after is = rw (← (given_some (nat_lt header.inventories inventory_limit) (kind.Header (record header { inventories = header.inventories + 1 })) after is).1) (rises-same _ _ _ page refl)

    tip : (number : ℕ) (after : Page) → applied shape (edit.AddTip number) (kind.Header header) ≡ Some after → RisesTo (edit.AddTip number) after
    tip number after is =
        rw (← (given_some (takes_page tip_limit header.tips number) (kind.Header (record header { tips = header.tips ++ number ∷ [] })) after is).1) (tip_rises header page number)

    pointer : (relation number : ℕ) (after : Page) → applied shape (edit.AddPointer relation number) (kind.Header header) ≡ Some after → RisesTo (edit.AddPointer relation number) after
    pointer relation number after is = entry_of (slice_get header.relations relation) refl is where
      fits : (entry : Relation) → slice_get header.relations relation ≡ Some entry → (b : Bool)
          → with_entry relation header (if b then Some (record entry { pointers = entry.pointers ++ number ∷ [] }) else None) ≡ Some after → RisesTo (edit.AddPointer relation number) after
      fits entry stands false is' = absurd cc
      fits entry stands true is' =
          let same : kind.Header (record header { relations = slice_set header.relations relation (record entry { pointers = entry.pointers ++ number ∷ [] }) }) ≡ after = cc in
          rw (← same) (pointer_rises header page relation number entry stands)

      entry_of : (o : Option Relation) → slice_get header.relations relation ≡ o → with_entry relation header (option_and_then (λ entry. pointed entry number) o) ≡ Some after
          → RisesTo (edit.AddPointer relation number) after
      entry_of None stands is' = absurd cc
      entry_of (Some entry) stands is' = fits entry stands (takes_page pointer_limit entry.pointers number) is'

    of_header : (e : Edit) (after : Page) → is_format e ≡ false → applied shape e (kind.Header header) ≡ Some after → RisesTo e after
    of_header (edit.SetNext number) after plain is = next number after is
    of_header (edit.AddTip number) after plain is = tip number after is
    of_header (edit.AddPointer relation number) after plain is = pointer relation number after is
    of_header edit.AddInventory after plain is = inventory after is
    of_header (edit.Format page_kind number relation sequence) after plain is = absurd cc
    of_header _ after plain is = absurd cc

  of_page : (page : ℕ) (e : Edit) (before after : Page) → is_format e ≡ false → applied shape e before ≡ Some after → Rises e (header_in (Some before)) (header_in (Some after)) page
  of_page page e (kind.Header header) after plain is = of_header header page e after plain is
  of_page page e (kind.Inventory i) after plain is = rises-same e _ _ page (rw (no_header e (kind.Inventory i) after plain refl is) refl)
  of_page page e (kind.Tip t) after plain is = rises-same e _ _ page (rw (no_header e (kind.Tip t) after plain refl is) refl)
  of_page page e (kind.Pointer p) after plain is = rises-same e _ _ page (rw (no_header e (kind.Pointer p) after plain refl is) refl)
  of_page page e (kind.Data d) after plain is = rises-same e _ _ page (rw (no_header e (kind.Data d) after plain refl is) refl)
  of_page page e kind.Blank after plain is = rises-same e _ _ page (rw (no_header e kind.Blank after plain refl is) refl)

  unspelled : (e : Edit) (after : Page) → is_format e ≡ false → edited shape e None ≡ Some after → ⊥
  unspelled e after plain is = grind (arith, plain, is)

  named-edited : (page : ℕ) (e : Edit) (before : Option Page) (after : Page) → is_format e ≡ false → edited shape e before ≡ Some after → Rises e (header_in before) (header_in (Some after)) page
  named-edited page e None after plain is = absurd (unspelled e after plain is)
  named-edited page e (Some before) after plain is = of_page page e before after plain is

-- What ranks of named pages do, ranks do.
module _ (size page : ℕ) (before after : Option Header) where
  ranks-rise : IsAtMost (named_rank before page) (named_rank after page) → IsAtMost (rank_in size before page) (rank_in size after page)
  ranks-rise rises = go (page == 0) (page == 1) (is_inventory_place size page) where
    go : (a b c : Bool)
        → IsAtMost
        (if a then header_rank else if b then inventory_rank 0 else if c then inventory_rank (page / inventory_bits size) else named_rank before page)
        (if a then header_rank else if b then inventory_rank 0 else if c then inventory_rank (page / inventory_bits size) else named_rank after page)
    go true b c = at_most-self header_rank
    go false true c = at_most-self (inventory_rank 0)
    go false false true = at_most-self (inventory_rank (page / inventory_bits size))
    go false false false = rises

  ranks-stay : named_rank before page ≡ named_rank after page → rank_in size before page ≡ rank_in size after page
  ranks-stay same = ap (λ r. if page == 0 then header_rank else if page == 1 then inventory_rank 0 else if is_inventory_place size page then inventory_rank (page / inventory_bits size) else r) same

-- The edit makes ranks rise, and leaves that of a page that it does not name.
module _ (shape : Shape) (size page : ℕ) (e : Edit) (before : Option Page) (after : Page) (plain : is_format e ≡ false) (is : edited shape e before ≡ Some after) where
  pub ranks_rise-edited : IsAtMost (rank_in size (header_in before) page) (rank_in size (header_in (Some after)) page)
  ranks_rise-edited = ranks-rise size page (header_in before) (header_in (Some after)) (named-edited shape page e before after plain is).rises

  pub rank_stays-edited : NamesAnother e page → rank_in size (header_in before) page ≡ rank_in size (header_in (Some after)) page
  rank_stays-edited another = ranks-stay size page (header_in before) (header_in (Some after)) ((named-edited shape page e before after plain is).stays another)
