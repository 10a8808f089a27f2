-- What an edit that fits finds in its page, and makes of it.
use Rattle.std.proofs.Common.{◌≡◌, ◌<◌, ◌+◌, ◌/◌, ◌++◌, ◌∷◌, ◌&&◌, ◌==◌, [], ℕ, Bool, true, false, not, if◌then◌else◌, Option, Some, None, length, refl, set, slice_get}
use Rattle.std.specs.Option.{option_and_then}
use Rattle.std.proofs.lemmas.Option.{same_Some}
use Rattle.fbc_kinds.specs.declared.edits.Edit.TheVariants.{AddInventory, AddPointer, AddTip, FreePage, Name, SetNext, TakePage, Unname}
use Rattle.fbc_kinds.specs.declared.pages.Header.{Header}
use Rattle.fbc_kinds.specs.declared.pages.Inventory.{Inventory}
use Rattle.fbc_kinds.specs.declared.pages.Page.{Page}
use Rattle.fbc_kinds.specs.declared.pages.Page.TheVariants as kind
use Rattle.fbc_kinds.specs.declared.pages.Pointer.{Pointer}
use Rattle.fbc_kinds.specs.declared.pages.Relation.{Relation}
use Rattle.fbc_kinds.specs.declared.shapes.Shape.{Shape}
use Rattle.fbc_kinds.specs.Edits.{covers, given, pointed, takes_page, with_entry, with_mark}
use Rattle.fbc_kinds.specs.Limits.{inventory_bits, pointer_limit}
use Rattle.fbc_kinds.proofs.EditLimits.{below_from_test, both_hold}
use Rattle.fbc_kinds.proofs.Tests.{same_from_test}
use Rattle.fbc_page_edits.specs.Allowed.{Fits}

-- A page that is given where a test passes.
pub given_some : (b : Bool) (p q : Page) → given b p ≡ Some q → (b ≡ true) × (p ≡ q)
given_some true p q is = (refl, same_Some p q is)
given_some false p q is = cc

-- A header becomes another.
pub record ChangesHeader (old : Option Page) (content : Page) (before after : Header) : Type 0 where
  pub stands : old ≡ Some (kind.Header before)
  pub made : kind.Header after ≡ content

pub record RaisesNext (old : Option Page) (next : ℕ) (content : Page) : Type 0 where
  pub header : Header
  pub changes : ChangesHeader old content header (record header { next = next })

pub raises_next : (shape : Shape) (next : ℕ) (old : Option Page) (content : Page) → Fits shape (SetNext next) old content → RaisesNext old next content
raises_next shape next (Some (kind.Header header)) content fits = record { header = header; changes = record { stands = refl; made = (given_some _ _ content fits).1 } }
raises_next shape next None content fits = absurd fits
raises_next shape next _ content fits = cc

pub record AddsTip (old : Option Page) (page : ℕ) (content : Page) : Type 0 where
  pub header : Header
  pub changes : ChangesHeader old content header (record header { tips = header.tips ++ page ∷ [] })

pub adds_tip : (shape : Shape) (page : ℕ) (old : Option Page) (content : Page) → Fits shape (AddTip page) old content → AddsTip old page content
adds_tip shape page (Some (kind.Header header)) content fits = record { header = header; changes = record { stands = refl; made = (given_some _ _ content fits).1 } }
adds_tip shape page None content fits = absurd fits
adds_tip shape page _ content fits = cc

pub record AddsInventory (old : Option Page) (content : Page) : Type 0 where
  pub header : Header
  pub changes : ChangesHeader old content header (record header { inventories = header.inventories + 1 })

pub adds_inventory : (shape : Shape) (old : Option Page) (content : Page) → Fits shape AddInventory old content → AddsInventory old content
adds_inventory shape (Some (kind.Header header)) content fits = record { header = header; changes = record { stands = refl; made = (given_some _ _ content fits).1 } }
adds_inventory shape None content fits = absurd fits
adds_inventory shape _ content fits = cc

-- A relation's entry with one more pointer page.
abbrev pub pointing : Relation → ℕ → Relation
pointing entry page = record entry { pointers = entry.pointers ++ page ∷ [] }

pub record AddsPointer (old : Option Page) (relation page : ℕ) (content : Page) : Type 0 where
  pub header : Header
  pub entry : Relation
  pub entry_is : slice_get header.relations relation ≡ Some entry
  pub changes : ChangesHeader old content header (record header { relations = set header.relations relation (pointing entry page) })

pub adds_pointer : (shape : Shape) (relation page : ℕ) (old : Option Page) (content : Page) → Fits shape (AddPointer relation page) old content → AddsPointer old relation page content
adds_pointer shape relation page (Some (kind.Header header)) content fits = go (slice_get header.relations relation) refl fits
  where
    tested : (entry : Relation) (b : Bool) → slice_get header.relations relation ≡ Some entry
        → with_entry relation header (if b then Some (pointing entry page) else None) ≡ Some content → AddsPointer (Some (kind.Header header)) relation page content
    tested entry false there made = cc
    tested entry true there made = record { header = header; entry = entry; entry_is = there; changes = record { stands = refl; made = same_Some _ content made } }

    go : (found : Option Relation) → slice_get header.relations relation ≡ found
        → with_entry relation header (option_and_then (λ entry. pointed entry page) found) ≡ Some content → AddsPointer (Some (kind.Header header)) relation page content
    go None there made = cc
    go (Some entry) there made = tested entry (takes_page pointer_limit entry.pointers page) there made
adds_pointer shape relation page None content fits = absurd fits
adds_pointer shape relation page _ content fits = cc

-- A page inventory shows a page that it covers as taken, or as free.
pub record Marks (size : ℕ) (old : Option Page) (page : ℕ) (taken : Bool) (content : Page) : Type 0 where
  pub inventory : Inventory
  pub stands : old ≡ Some (kind.Inventory inventory)
  pub covered : page / inventory_bits size ≡ inventory.sequence
  pub made : kind.Inventory (with_mark size page taken inventory) ≡ content

pub takes_mark : (shape : Shape) (page : ℕ) (old : Option Page) (content : Page) → Fits shape (TakePage page) old content → Marks shape.size old page true content
takes_mark shape page (Some (kind.Inventory inventory)) content fits =
    let parts = given_some _ _ content fits in
    record { inventory = inventory; stands = refl; covered = same_from_test _ _ parts.0; made = parts.1 }
takes_mark shape page None content fits = absurd fits
takes_mark shape page _ content fits = cc

pub frees_mark : (shape : Shape) (page : ℕ) (old : Option Page) (content : Page) → Fits shape (FreePage page) old content → Marks shape.size old page false content
frees_mark shape page (Some (kind.Inventory inventory)) content fits =
    let parts = given_some _ _ content fits in
    let tests = both_hold (covers shape.size inventory.sequence page && not (page == 0)) (not (page == inventory.page)) parts.0 in
    let covered = both_hold (covers shape.size inventory.sequence page) (not (page == 0)) tests.0 in
    record { inventory = inventory; stands = refl; covered = same_from_test _ _ covered.0; made = parts.1 }
frees_mark shape page None content fits = absurd fits
frees_mark shape page _ content fits = cc

-- A slot of a pointer page names another page, or none.
pub record NamesSlot (old : Option Page) (slot page : ℕ) (content : Page) : Type 0 where
  pub pointer : Pointer
  pub stands : old ≡ Some (kind.Pointer pointer)
  pub within : slot < length pointer.slots
  pub made : kind.Pointer (record pointer { slots = set pointer.slots slot page }) ≡ content

pub names_slot : (shape : Shape) (slot page : ℕ) (old : Option Page) (content : Page) → Fits shape (Name slot page) old content → NamesSlot old slot page content
names_slot shape slot page (Some (kind.Pointer pointer)) content fits =
    let parts = given_some _ _ content fits in
    record { pointer = pointer; stands = refl; within = below_from_test _ _ parts.0; made = parts.1 }
names_slot shape slot page None content fits = absurd fits
names_slot shape slot page _ content fits = cc

pub unnames_slot : (shape : Shape) (slot : ℕ) (old : Option Page) (content : Page) → Fits shape (Unname slot) old content → NamesSlot old slot 0 content
unnames_slot shape slot (Some (kind.Pointer pointer)) content fits =
    let parts = given_some _ _ content fits in
    record { pointer = pointer; stands = refl; within = below_from_test _ _ parts.0; made = parts.1 }
unnames_slot shape slot None content fits = absurd fits
unnames_slot shape slot _ content fits = cc
