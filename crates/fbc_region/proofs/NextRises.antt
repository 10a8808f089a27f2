-- What an edit makes of the next number of a page.
use Rattle.std.proofs.Common.{◌≡◌, ℕ, ◌≤◌, Bool, true, false, if◌then◌else◌, [], ◌∷◌, Option, Some, None, arith}
use Rattle.std.specs.Option.{option_map_or}
use Rattle.fbc_kinds.specs.declared.edits.Edit.{Edit}
use Rattle.fbc_kinds.specs.declared.edits.Edit.TheVariants as edit
use Rattle.fbc_kinds.specs.declared.pages.Header.{Header}
use Rattle.fbc_kinds.specs.declared.pages.Page.{Page}
use Rattle.fbc_kinds.specs.declared.pages.Page.TheVariants as kind
use Rattle.fbc_kinds.specs.declared.pages.Relation.{Relation}
use Rattle.fbc_kinds.specs.declared.shapes.Shape.{Shape}
use Rattle.std.specs.Prelude.{length, nat_lt, ◌+◌, ◌++◌, option_and_then, slice_get, slice_set}
use Rattle.fbc_kinds.specs.Edits.{applied, is_next, pointed, takes_page, with_entry}
use Rattle.fbc_kinds.specs.Limits.{inventory_limit, pointer_limit, tip_limit}
use Rattle.fbc_kinds.specs.View.{header_in}
use Rattle.fbc_legal.proofs.HeaderRanks.{is_format}
use Rattle.fbc_world.specs.PageCell.{edited}
use Rattle.fbc_page_edits.proofs.Fitted.{given_some}

-- The next number of a page, 0 where it is no header.
abbrev pub next_in : Option Page → ℕ
next_in page = option_map_or (λ (h : Header). h.next) (header_in page) 0

-- The edit sets a number that is not less.
abbrev pub IsNoLess : Edit → ℕ → Type 0
IsNoLess (edit.SetNext number) before = before ≤ number
IsNoLess _ before = Unit {0}

module _ (shape : Shape) where
  module _ (header : Header) where
    pointer : (relation number : ℕ) (after : Page) → applied shape (edit.AddPointer relation number) (kind.Header header) ≡ Some after → header.next ≤ next_in (Some after)
    pointer relation number after is = entry_of (slice_get header.relations relation) is where
      fits : (entry : Relation) (b : Bool) → with_entry relation header (if b then Some (record entry { pointers = entry.pointers ++ number ∷ [] }) else None) ≡ Some after → header.next ≤ next_in (Some after)
      fits entry false is' = absurd cc
      fits entry true is' =
          let same : kind.Header (record header { relations = slice_set header.relations relation (record entry { pointers = entry.pointers ++ number ∷ [] }) }) ≡ after = cc in
          rw (← same) (omega arith)

      entry_of : (o : Option Relation) → with_entry relation header (option_and_then (λ entry. pointed entry number) o) ≡ Some after → header.next ≤ next_in (Some after)
      entry_of None is' = absurd cc
      entry_of (Some entry) is' = fits entry (takes_page pointer_limit entry.pointers number) is'

    of_header : (e : Edit) (after : Page) → is_format e ≡ false → IsNoLess e header.next → applied shape e (kind.Header header) ≡ Some after → header.next ≤ next_in (Some after)
    of_header (edit.SetNext number) after plain less is =
        rw (← (given_some (is_next shape.size (length header.tips) number) (kind.Header (record header { next = number })) after is).1) less
    of_header (edit.AddTip number) after plain less is =
        rw (← (given_some (takes_page tip_limit header.tips number) (kind.Header (record header { tips = header.tips ++ number ∷ [] })) after is).1) (omega arith)
    of_header (edit.AddPointer relation number) after plain less is = pointer relation number after is
    of_header edit.AddInventory after plain less is =
        rw (← (given_some (nat_lt header.inventories inventory_limit) (kind.Header (record header { inventories = header.inventories + 1 })) after is).1) (omega arith)
    of_header (edit.Format page_kind number relation sequence) after plain less is = absurd cc
    of_header _ after plain less is = absurd cc

  -- An edit that is no format, and sets no less, leaves the next number or raises it.
  pub next_rises : (e : Edit) (before : Option Page) (after : Page) → is_format e ≡ false → IsNoLess e (next_in before) → edited shape e before ≡ Some after → next_in before ≤ next_in (Some after)
  next_rises e None after plain less is = omega arith
  next_rises e (Some (kind.Header header)) after plain less is = of_header header e after plain less is
  next_rises e (Some before) after plain less is = omega arith
