-- Edits make headers grow.
use Rattle.std.proofs.Common.{◌≡◌, ◌≤◌, ◌+◌, ◌∙◌, ◌⊎◌, inl, inr, ℕ, zero, suc, Bool, true, false, nat_lt, List, [], ◌∷◌, ◌++◌, length, Option, Some, None, refl, sym, subst, ap, arith}
use Rattle.std.specs.Prelude.{option_and_then, slice_get, slice_set, if◌then◌else◌}
use Rattle.std.proofs.lemmas.Bool.{cases_eq}
use Rattle.fbc_kinds.specs.declared.edits.Edit.{Edit}
use Rattle.fbc_kinds.specs.declared.edits.Edit.TheVariants as edit
use Rattle.fbc_kinds.specs.declared.pages.Header.{Header}
use Rattle.fbc_kinds.specs.declared.pages.Page.{Page}
use Rattle.fbc_kinds.specs.declared.pages.Page.TheVariants as kind
use Rattle.fbc_kinds.specs.declared.pages.Relation.{Relation}
use Rattle.fbc_kinds.specs.declared.shapes.Shape.{Shape}
use Rattle.fbc_kinds.specs.Edits.{applied, is_next, pointed, takes_page, with_entry}
use Rattle.fbc_kinds.specs.Limits.{inventory_limit, pointer_limit, tip_limit}
use Rattle.fbc_kinds.specs.View.{header_in}
use Rattle.fbc_kinds.proofs.EditLimits.{slice_get-set_other}
use Rattle.fbc_legal.proofs.HeaderRanks.{is_format}
use Rattle.fbc_closed_cuts.specs.Growth.{GrowsInto, HasGrown, HasRelation, IsContinued}
use Rattle.fbc_page_edits.proofs.Fitted.{given_some}

pub continued-self : (xs : List ℕ) → IsContinued xs xs
continued-self xs place page is = is

continued-push : (xs : List ℕ) (x : ℕ) → IsContinued xs (xs ++ x ∷ [])
continued-push [] x place page is = absurd cc
continued-push (y ∷ xs) x zero page is = is
continued-push (y ∷ xs) x (suc place) page is = continued-push xs x place page is

pub relation-self : (entry : Relation) (found : Option Relation) → found ≡ Some entry → HasRelation entry found
relation-self entry found is = record { entry = entry; is = is; length = refl; pointers = continued-self entry.pointers }

pub grown-self : (header : Header) → HasGrown header header
grown-self header = record {
  size = refl;
  next = grind (arith);
  inventories = grind (arith);
  tips = continued-self header.tips;
  relations = λ relation entry is. relation-self entry (slice_get header.relations relation) is;
}

relation-on : (earlier : Relation) (between found : Option Relation) → HasRelation earlier between → ((entry : Relation) → between ≡ Some entry → HasRelation entry found) → HasRelation earlier found
relation-on earlier between found first next =
    let second = next first.entry first.is in
    record { entry = second.entry; is = second.is; length = second.length ∙ first.length; pointers = λ place page is. second.pointers place page (first.pointers place page is) }

pub grown-on : (a b c : Header) → HasGrown a b → HasGrown b c → HasGrown a c
grown-on a b c first second = record {
  size = second.size ∙ first.size;
  next = grind (arith, first.next, second.next);
  inventories = grind (arith, first.inventories, second.inventories);
  tips = λ place page is. second.tips place page (first.tips place page is);
  relations = λ relation entry is. relation-on entry (slice_get b.relations relation) (slice_get c.relations relation) (first.relations relation entry is) (λ middle is'. second.relations relation middle is');
}

pub grows-self : (page : Option Page) → GrowsInto page page
grows-self page header is = record { later = header; is = is; grown = grown-self header }

pub grows-on : (a b c : Option Page) → GrowsInto a b → GrowsInto b c → GrowsInto a c
grows-on a b c first second header is =
    let middle = first header is in
    let last = second middle.later middle.is in
    record { later = last.later; is = last.is; grown = grown-on header middle.later last.later middle.grown last.grown }

-- A relation that names one more pointer page.
abbrev pointed_at : Relation → ℕ → Relation
pointed_at entry number = record entry { pointers = entry.pointers ++ number ∷ [] }

set_there : {X : Type 0} (xs : List X) (i : ℕ) (x y : X) → slice_get xs i ≡ Some x → slice_get (slice_set xs i y) i ≡ Some y
set_there [] i x y is = absurd cc
set_there (z ∷ xs) zero x y is = refl
set_there (z ∷ xs) (suc i) x y is = set_there xs i x y is

module _ (relations : List Relation) (relation number : ℕ) (entry : Relation) (stands : slice_get relations relation ≡ Some entry) where
  more_relation : (r : ℕ) (old : Relation) → slice_get relations r ≡ Some old → r ≡ relation → HasRelation old (slice_get (slice_set relations relation (pointed_at entry number)) r)
  more_relation r old found same =
      let both : Some old ≡ Some entry = sym found ∙ ap (slice_get relations) same ∙ stands in
      let is_entry : entry ≡ old = cc in
      record {
        entry = pointed_at entry number;
        is = rw same (set_there relations relation entry (pointed_at entry number) stands);
        length = ap (λ (e : Relation). e.length) is_entry;
        pointers = subst (λ (e : Relation). IsContinued e.pointers (entry.pointers ++ number ∷ [])) is_entry (continued-push entry.pointers number);
      }

  kept_relation : (r : ℕ) (old : Relation) → slice_get relations r ≡ Some old → HasRelation old (slice_get (slice_set relations relation (pointed_at entry number)) r)
  kept_relation r old found = go (cases_eq r relation) where
    go : (r ≡ relation) ⊎ (r ≡ relation → ⊥) → HasRelation old (slice_get (slice_set relations relation (pointed_at entry number)) r)
    go (inl same) = more_relation r old found same
    go (inr other) = relation-self old _ (slice_get-set_other relations relation r (pointed_at entry number) other ∙ found)

-- A next number that is set is no less.
abbrev pub IsNoFall : Option Page → Edit → Type 0
IsNoFall before (edit.SetNext next) = (header : Header) → header_in before ≡ Some header → header.next ≤ next
IsNoFall before _ = Unit {0}

module _ (shape : Shape) (header : Header) where
  abbrev Grows : Page → Type 0
  Grows after = GrowsInto (Some (kind.Header header)) (Some after)

  to : (later : Header) (after : Page) → kind.Header later ≡ after → HasGrown header later → Grows after
  to later after same grown = rw (← same) (λ h is. record { later = later; is = refl; grown = subst (λ e. HasGrown e later) (own h is) grown }) where
    own : (h : Header) → header_in (Some (kind.Header header)) ≡ Some h → header ≡ h
    own h is = cc

  next : (number : ℕ) (after : Page) → header.next ≤ number → applied shape (edit.SetNext number) (kind.Header header) ≡ Some after → Grows after
  next number after more is =
      to (record header { next = number }) after ((given_some (is_next shape.size (length header.tips) number) (kind.Header (record header { next = number })) after is).1) (record {
        size = refl;
        next = more;
        inventories = grind (arith);
        tips = continued-self header.tips;
        relations = λ relation entry is'. relation-self entry (slice_get header.relations relation) is';
      })

  inventory : (after : Page) → applied shape edit.AddInventory (kind.Header header) ≡ Some after → Grows after
  inventory after is =
      to (record header { inventories = header.inventories + 1 }) after ((given_some (nat_lt header.inventories inventory_limit) (kind.Header (record header { inventories = header.inventories + 1 })) after is).1) (record {
        size = refl;
        next = grind (arith);
        inventories = grind (arith);
        tips = continued-self header.tips;
        relations = λ relation entry is'. relation-self entry (slice_get header.relations relation) is';
      })

  tip : (number : ℕ) (after : Page) → applied shape (edit.AddTip number) (kind.Header header) ≡ Some after → Grows after
  tip number after is =
      to (record header { tips = header.tips ++ number ∷ [] }) after ((given_some (takes_page tip_limit header.tips number) (kind.Header (record header { tips = header.tips ++ number ∷ [] })) after is).1) (record {
        size = refl;
        next = grind (arith);
        inventories = grind (arith);
        tips = continued-push header.tips number;
        relations = λ relation entry is'. relation-self entry (slice_get header.relations relation) is';
      })

  pointer : (relation number : ℕ) (after : Page) → applied shape (edit.AddPointer relation number) (kind.Header header) ≡ Some after → Grows after
  pointer relation number after is = entry_of (slice_get header.relations relation) refl is where
    fits : (entry : Relation) → slice_get header.relations relation ≡ Some entry → (b : Bool)
        → with_entry relation header (if b then Some (pointed_at entry number) else None) ≡ Some after → Grows after
    fits entry stands false is' = absurd cc
    fits entry stands true is' =
        let later : Header = record header { relations = slice_set header.relations relation (pointed_at entry number) } in
        let same : kind.Header later ≡ after = cc in
        let grown : HasGrown header later = record {
          size = refl;
          next = grind (arith);
          inventories = grind (arith);
          tips = continued-self header.tips;
          relations = λ r old found. kept_relation header.relations relation number entry stands r old found;
        } in
        to later after same grown

    entry_of : (o : Option Relation) → slice_get header.relations relation ≡ o → with_entry relation header (option_and_then (λ entry. pointed entry number) o) ≡ Some after → Grows after
    entry_of None stands is' = absurd cc
    entry_of (Some entry) stands is' = fits entry stands (takes_page pointer_limit entry.pointers number) is'

  pub header-grows : (e : Edit) (after : Page) → is_format e ≡ false → IsNoFall (Some (kind.Header header)) e → applied shape e (kind.Header header) ≡ Some after → Grows after
  header-grows (edit.SetNext number) after plain more is = next number after (more header refl) is
  header-grows (edit.AddTip number) after plain more is = tip number after is
  header-grows (edit.AddPointer relation number) after plain more is = pointer relation number after is
  header-grows edit.AddInventory after plain more is = inventory after is
  header-grows (edit.Format page_kind number relation sequence) after plain more is = absurd cc
  header-grows _ after plain more is = absurd cc
