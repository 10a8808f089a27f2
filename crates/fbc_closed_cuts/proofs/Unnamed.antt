-- A page that is named nowhere, as an edit wants it, is reached in no view that comes to hold the edited page.
use Rattle.std.proofs.Common.{◌≡◌, ◌≢◌, ◌∙◌, ℕ, Bool, true, false, ◌==◌, ◌⊎◌, inl, inr, nat_lt, if◌then◌else◌, List, Option, Some, None, is_some, Contains, refl, sym, ap, subst, arith}
use Rattle.std.specs.Prelude.{◌/◌, ◌%◌, slice_get, option_and_then}
use Rattle.std.proofs.lemmas.Bool.Decides.{nat_tests}
use Rattle.std.proofs.lemmas.Bool.{both_ways}
use Rattle.std.proofs.lemmas.Option.{get_or_from_slice_get, slice_get_within}
use Rattle.fbc_kinds.specs.declared.pages.Header.{Header}
use Rattle.fbc_kinds.specs.declared.pages.Page.{Page}
use Rattle.fbc_kinds.specs.declared.pages.Relation.{Relation}
use Rattle.fbc_kinds.specs.Limits.{slots}
use Rattle.fbc_kinds.specs.Reach.{Role, HeaderRole, InventoryRole, TipRole, PointerRole, DataRole, Reaches, ReachesPage}
use Rattle.fbc_kinds.specs.View.{View, header_in, inventory_of, inventory_page, named_in, pointer_of, size_of, slot_in}
use Rattle.fbc_world.specs.World.{World, IsPairIn, newest_of}
use Rattle.fbc_kinds.specs.Order.{StandsBefore}
use Rattle.fbc_legal.specs.Coherent.{IsCoherent}
use Rattle.fbc_legal.specs.Facts.{Names, NamesNot}
use Rattle.fbc_legal.specs.Leans.{IsNamedNowhere, IsNotNamedBy}
use Rattle.fbc_legal.specs.Rows.{IsNoInventory}
use Rattle.fbc_legal.specs.Scene.{Scene, HasDraft, IsBefore}
use Rattle.fbc_closed_cuts.specs.Cut.{Cut, IsClosedCut, view}
use Rattle.fbc_closed_cuts.specs.Growth.{GrowsInto, IsGrownHeader}
use Rattle.fbc_closed_cuts.specs.Views.{drafted_in}
use Rattle.fbc_closed_cuts.proofs.LeanViews.{TakesBefore, lean-shown}
use Rattle.fbc_closed_cuts.proofs.WriteViews.{draft_there}

pub contains_got : (xs : List ℕ) (k x : ℕ) → slice_get xs k ≡ Some x → Contains xs x
contains_got xs k x is = (k, slice_get_within xs k x is, get_or_from_slice_get xs k x x is)

-- The pointer page of a sequence, as a page names it.
abbrev pub pointer_in : Option Page → ℕ → ℕ → Option ℕ
pointer_in page relation sequence =
    option_and_then (λ (r : Relation). slice_get r.pointers sequence) (option_and_then (λ (h : Header). slice_get h.relations relation) (header_in page))

names_pointer : (page : Option Page) (relation sequence number : ℕ) → pointer_in page relation sequence ≡ Some number → Names page number
names_pointer page relation sequence number is = of_header (header_in page) refl is where
  of_entry : (h : Header) → header_in page ≡ Some h → (o : Option Relation) → slice_get h.relations relation ≡ o → option_and_then (λ (r : Relation). slice_get r.pointers sequence) o ≡ Some number → Names page number
  of_entry h stands None found is' = absurd cc
  of_entry h stands (Some entry) found is' = Names.pointer h relation entry stands found (contains_got entry.pointers sequence number is')

  of_header : (o : Option Header) → header_in page ≡ o → option_and_then (λ (r : Relation). slice_get r.pointers sequence) (option_and_then (λ (h : Header). slice_get h.relations relation) o) ≡ Some number → Names page number
  of_header None stands is' = absurd cc
  of_header (Some h) stands is' = of_entry h stands (slice_get h.relations relation) refl is'

names_tip : (page : Option Page) (sequence number : ℕ) → option_and_then (λ (h : Header). slice_get h.tips sequence) (header_in page) ≡ Some number → Names page number
names_tip page sequence number is = of_header (header_in page) refl is where
  of_header : (o : Option Header) → header_in page ≡ o → option_and_then (λ (h : Header). slice_get h.tips sequence) o ≡ Some number → Names page number
  of_header None stands is' = absurd cc
  of_header (Some h) stands is' = Names.tip h stands (contains_got h.tips sequence number is')

names_slot : (page : Option Page) (place number : ℕ) → named_in page place ≡ Some number → Names page number
names_slot page place number is = of_slot (slot_in page place) refl is where
  of_slot : (o : Option ℕ) → slot_in page place ≡ o → option_and_then (λ (n : ℕ). if n == 0 then None else Some n) o ≡ Some number → Names page number
  of_slot None stands is' = absurd cc
  of_slot (Some n) stands is' = Names.slot place (stands ∙ ap Some (grind (arith, nat_tests, is')))

-- What a header names, a header that has grown out of it names.
module _ (earlier later : Option Page) (grows : GrowsInto earlier later) where
  pub pointer_grown : (relation sequence number : ℕ) → pointer_in earlier relation sequence ≡ Some number → pointer_in later relation sequence ≡ Some number
  pointer_grown relation sequence number is = of_header (header_in earlier) refl is where
    of_entry : (h : Header) (g : IsGrownHeader h (header_in later)) (o : Option Relation) → slice_get h.relations relation ≡ o → option_and_then (λ (r : Relation). slice_get r.pointers sequence) o ≡ Some number → pointer_in later relation sequence ≡ Some number
    of_entry h g None found is' = absurd cc
    of_entry h g (Some entry) found is' =
        let more = g.grown.relations relation entry found in
        rw (g.is, more.is) (more.pointers sequence number is')

    of_header : (o : Option Header) → header_in earlier ≡ o → option_and_then (λ (r : Relation). slice_get r.pointers sequence) (option_and_then (λ (h : Header). slice_get h.relations relation) o) ≡ Some number → pointer_in later relation sequence ≡ Some number
    of_header None stands is' = absurd cc
    of_header (Some h) stands is' = of_entry h (grows h stands) (slice_get h.relations relation) refl is'

  abbrev counted_in : Option Page → ℕ → Option ℕ
  counted_in page sequence = option_and_then (λ (h : Header). if nat_lt sequence h.inventories then Some (inventory_page h.size sequence) else None) (header_in page)

  pub inventory_grown : (sequence number : ℕ) → counted_in earlier sequence ≡ Some number → counted_in later sequence ≡ Some number
  inventory_grown sequence number is = of_header (header_in earlier) refl is where
    of_header : (o : Option Header) → header_in earlier ≡ o → option_and_then (λ (h : Header). if nat_lt sequence h.inventories then Some (inventory_page h.size sequence) else None) o ≡ Some number → counted_in later sequence ≡ Some number
    of_header None stands is' = absurd cc
    of_header (Some h) stands is' = counted h (grows h stands) (nat_lt sequence h.inventories) refl is' where
      counted : (h : Header) (g : IsGrownHeader h (header_in later)) (b : Bool) → nat_lt sequence h.inventories ≡ b → (if b then Some (inventory_page h.size sequence) else None) ≡ Some number → counted_in later sequence ≡ Some number
      counted h g false lt is'' = absurd cc
      counted h g true lt is'' =
          let more : nat_lt sequence g.later.inventories ≡ true = grind (arith, nat_tests, lt, g.grown.inventories) in
          rw (g.is, more, g.grown.size) is''

module _ (at : Scene) (h : IsCoherent at.world) (owner edited : ℕ) (cut : Cut) (takes : TakesBefore at owner edited cut) (closed : IsClosedCut at.world (drafted_in at.world cut))
    (grows : GrowsInto (at.world.kept 0) (newest_of at.world 0)) where
  abbrev w : World
  w = at.world

  abbrev seen : View
  seen = view w (drafted_in w cut)

  -- A page of a cut shows what is newest, and another what is kept.
  in_of : (page : ℕ) → drafted_in w cut page ≡ true → seen page ≡ newest_of w page
  in_of page is = rw is refl

  out_of : (page : ℕ) → drafted_in w cut page ≡ false → seen page ≡ w.kept page
  out_of page is = rw is refl

  -- What the view's header names the newest header names.
  pointed : (relation sequence pointer : ℕ) → pointer_in (seen 0) relation sequence ≡ Some pointer → pointer_in (newest_of w 0) relation sequence ≡ Some pointer
  pointed relation sequence pointer is = go (drafted_in w cut 0) refl where
    go : (b : Bool) → drafted_in w cut 0 ≡ b → pointer_in (newest_of w 0) relation sequence ≡ Some pointer
    go true at = subst (λ o. pointer_in o relation sequence ≡ Some pointer) (in_of 0 at) is
    go false at = pointer_grown (w.kept 0) (newest_of w 0) grows relation sequence pointer (subst (λ o. pointer_in o relation sequence ≡ Some pointer) (out_of 0 at) is)

  counted : (sequence number : ℕ) → inventory_of seen sequence ≡ Some number → inventory_of (newest_of w) sequence ≡ Some number
  counted sequence number is = go (drafted_in w cut 0) refl where
    go : (b : Bool) → drafted_in w cut 0 ≡ b → inventory_of (newest_of w) sequence ≡ Some number
    go true at = subst (λ o. counted_in (w.kept 0) (newest_of w 0) grows o sequence ≡ Some number) (in_of 0 at) is
    go false at = inventory_grown (w.kept 0) (newest_of w 0) grows sequence number (subst (λ o. counted_in (w.kept 0) (newest_of w 0) grows o sequence ≡ Some number) (out_of 0 at) is)

  -- Who stands before a page has a draft, and is in each cut with that page.
  before_in : (high low : ℕ) → StandsBefore (IsPairIn w) high low → drafted_in w cut low ≡ true → drafted_in w cut high ≡ true
  before_in high low path is = closed.closed high low path (high_there path) is where
    high_there : {x y : ℕ} → StandsBefore (IsPairIn w) x y → is_some (w.draft x) ≡ true
    high_there (StandsBefore.straight x y pair) = draft_there pair.0 (w.draft x) (h.pairs pair.0 x y pair.1).1
    high_there (StandsBefore.through x between y pair rest) = draft_there pair.0 (w.draft x) (h.pairs pair.0 x between pair.1).1

  module _ (page : ℕ) (nowhere : IsNamedNowhere at owner edited page) where
    header_unnamed : ¬ Names (seen 0) page
    header_unnamed = lean-shown at owner edited cut takes (NamesNot page) 0 nowhere.header

    pointer_unnamed : (relation sequence pointer : ℕ) → pointer_in (seen 0) relation sequence ≡ Some pointer → ¬ Names (seen pointer) page
    pointer_unnamed relation sequence pointer is = go (drafted_in w cut pointer) refl where
      by : IsNotNamedBy at owner edited pointer page
      by = nowhere.pointers relation sequence pointer (pointed relation sequence pointer is)

      header_kept : (b : Bool) → drafted_in w cut 0 ≡ b → drafted_in w cut pointer ≡ false → ¬ Names (w.kept 0) pointer → IsBefore at pointer 0 → ⊥
      header_kept true at out unnamed before = both_ways (drafted_in w cut pointer) out (before_in pointer 0 before at)
      header_kept false at out unnamed before = unnamed (names_pointer (w.kept 0) relation sequence pointer (subst (λ o. pointer_in o relation sequence ≡ Some pointer) (out_of 0 at) is))

      out_case : drafted_in w cut pointer ≡ false → (¬ Names (w.kept pointer) page) ⊎ (HasDraft at owner pointer × IsBefore at pointer edited) ⊎ ((¬ Names (w.kept 0) pointer) × IsBefore at pointer 0) → ¬ Names (w.kept pointer) page
      out_case out (inl kept) = kept
      out_case out (inr (inl own)) =
          absurd (both_ways (drafted_in w cut pointer) out (rw (takes.before_in pointer own.0 own.1, draft_there owner (w.draft pointer) own.0) refl))
      out_case out (inr (inr late)) = absurd (header_kept (drafted_in w cut 0) refl out late.0 late.1)

      go : (b : Bool) → drafted_in w cut pointer ≡ b → ¬ Names (seen pointer) page
      go true at = subst (λ o. ¬ Names o page) (sym (in_of pointer at)) by.newest
      go false at = subst (λ o. ¬ Names o page) (sym (out_of pointer at)) (out_case at by.in_time)

    module _ (apart : page ≢ 0) (none : IsNoInventory at page) where
      by_role : (role : Role) → ¬ Reaches seen role page
      by_role HeaderRole is = apart cc
      by_role (InventoryRole sequence) is = none sequence (counted sequence page is)
      by_role (TipRole sequence) is = header_unnamed (names_tip (seen 0) sequence page is)
      by_role (PointerRole relation sequence) is = header_unnamed (names_pointer (seen 0) relation sequence page is)
      by_role (DataRole relation sequence) is = of_pointer (pointer_of seen relation (sequence / slots (size_of seen))) refl is where
        of_pointer : (o : Option ℕ) → pointer_of seen relation (sequence / slots (size_of seen)) ≡ o → option_and_then (λ (pointer : ℕ). named_in (seen pointer) (sequence % slots (size_of seen))) o ≡ Some page → ⊥
        of_pointer None found is' = cc
        of_pointer (Some pointer) found is' = pointer_unnamed relation (sequence / slots (size_of seen)) pointer found (names_slot (seen pointer) (sequence % slots (size_of seen)) page is')

      pub unreached-view : ¬ ReachesPage seen page
      unreached-view reached = by_role reached.0 reached.1
