-- What the bytes of page 0 say of a file: the header of its view, or that it alone is damaged.
use Rattle.std.proofs.Common.{◌≡◌, ℕ, ◌==◌, ◌||◌, ◌&&◌, Bool, true, false, not, List, [], ◌∷◌, ◌++◌, Option, None, Some, Result, Ok, Err, IfOk, ◌≤◌, inl, inr, refl, sym, subst, ap, ◌∙◌, arith, slice_index}
use Rattle.std.specs.List.{flat_map, list_any}
use Rattle.fbc_kinds.specs.declared.faults.PageFault.{PageFault}
use Rattle.fbc_kinds.specs.declared.faults.PageFault.TheVariants.{Damaged}
use Rattle.fbc_kinds.specs.declared.pages.Header.{Header}
use Rattle.fbc_kinds.specs.declared.pages.Page.{Page}
use Rattle.fbc_kinds.specs.declared.pages.Page.TheVariants as kind
use Rattle.fbc_kinds.specs.declared.rules.Rule.{Rule}
use Rattle.fbc_kinds.specs.declared.rules.Rule.TheVariants as rule
use Rattle.fbc_kinds.specs.declared.shapes.Shape.{Shape}
use Rattle.fbc_kinds.specs.File.{page_bytes, IsViewOf, Shows}
use Rattle.fbc_kinds.specs.Head.{Tells, broken_head, or_else}
use Rattle.fbc_kinds.specs.HeaderSpelling.{SpellsHeader, broken_header}
use Rattle.fbc_kinds.specs.Limits.{IsPageSize}
use Rattle.fbc_kinds.specs.Reach as reach
use Rattle.fbc_kinds.specs.Sound.{IsSound}
use Rattle.fbc_kinds.specs.Spelling.{first_broken_rule}
use Rattle.fbc_kinds.specs.View.{View, header_in, header_of}
use Rattle.fbc_kinds.proofs.HeaderUnbroken.{SpellsHeader-unbroken}
use Rattle.fbc_kinds.proofs.Tests.{same_from_test}
use Rattle.fbc_outside.specs.Faults.{Rose}
use Rattle.fbc_validator.specs.declared.faults.ValidateFault.{ValidateFault}
use Rattle.fbc_validator.specs.declared.findings.Findings.{Findings}
use Rattle.fbc_reach.specs.declared.namings.Naming.{Naming}
use Rattle.fbc_reach.specs.declared.namings.Role.TheVariants as role
use Rattle.fbc_validator.specs.Checked.{AreFindings}
use Rattle.fbc_validator.specs.Damage.{AreDamages, broken_alone, broken_if, broken_in_place, broken_page, has_other_kind}
use Rattle.fbc_reach.specs.Reading.{AreBytesOf}
use Rattle.fbc_reach.specs.Roles.{kind_code}
use Rattle.fbc_reach.specs.Walk.{naming, is_of_page, inventory_namings, tip_namings, pointer_namings, named_by, walked, namings}
use Rattle.fbc_validator.proofs.Found.{with_damage}
use Rattle.fbc_reach.proofs.Members.{In}
use Rattle.fbc_validator.proofs.Places.{contains_in, in_contains}
use Rattle.fbc_spelling.proofs.Shows.{shown_is}

module _ (shape : Shape) (bytes : List ℕ) (view : View) (size : IsPageSize shape.size) (shown : IsViewOf shape bytes view) where
  -- A header that the first page spells is the view's.
  pub header_shown : (header : Header) → SpellsHeader shape.size header (page_bytes shape.size bytes 0) → header_of view ≡ Some header
  header_shown header spells =
      ap header_in (shown_is shape 0 (page_bytes shape.size bytes 0) (kind.Header header) (view 0) size (record { spelled = spells; stands = refl }) (shown 0))

no_header : (shape : Shape) (first : List ℕ) (broken : Rule) (o : Option Page) → IsPageSize shape.size → broken_header shape.size first ≡ Some broken → Shows shape 0 first o → header_in o ≡ None
no_header shape first broken (Some (kind.Header h)) size e shows = let both : None ≡ Some broken = sym (SpellsHeader-unbroken shape.size h first size shows.spelled) ∙ e in cc
no_header shape first broken (Some (kind.Inventory i)) size e shows = refl
no_header shape first broken (Some (kind.Tip t)) size e shows = refl
no_header shape first broken (Some (kind.Pointer p)) size e shows = refl
no_header shape first broken (Some (kind.Data d)) size e shows = refl
no_header shape first broken (Some kind.Blank) size e shows = refl
no_header shape first broken None size e shows = refl

no_role : (o : Option Page) → header_in o ≡ None → reach.shows_role reach.HeaderRole 0 o ≡ true → ⊥
no_role (Some (kind.Header h)) none shows = cc
no_role (Some (kind.Inventory i)) none shows = cc
no_role (Some (kind.Tip t)) none shows = cc
no_role (Some (kind.Pointer p)) none shows = cc
no_role (Some (kind.Data d)) none shows = cc
no_role (Some kind.Blank) none shows = cc
no_role None none shows = cc

-- A first page of another kind breaks the rule on kinds, and one of its kind those of a header.
rule_of_kind : (own : Bool) (by_header by_kind : Option Rule) (broken : Rule) → (own ≡ true → by_kind ≡ by_header) → (own ≡ false → by_header ≡ Some rule.Kind)
    → by_header ≡ Some broken → or_else (broken_if (not own || false) rule.Kind) by_kind ≡ Some broken
rule_of_kind true by_header by_kind broken same other e = same refl ∙ e
rule_of_kind false by_header by_kind broken same other e = sym (other refl) ∙ e

head_kind : (first : List ℕ) → (slice_index first 0 == 1) ≡ false → broken_head 1 0 first ≡ Some rule.Kind
head_kind first other = rw other refl

or_first : (a b : Option Rule) (r : Rule) → a ≡ Some r → or_else a b ≡ Some r
or_first a b r e = ap (λ o. or_else o b) e

module _ (shape : Shape) (size : IsPageSize shape.size) (bytes : List ℕ) (view : View) (shown : IsViewOf shape bytes view)
    (broken : Rule) (e : broken_header shape.size (page_bytes shape.size bytes 0) ≡ Some broken) where
  none : header_of view ≡ None
  none = no_header shape (page_bytes shape.size bytes 0) broken (view 0) size e (shown 0)

  alone : namings view ≡ naming 0 role.Header ∷ []
  alone = ap (λ o. naming 0 role.Header ∷ inventory_namings o ++ tip_namings o ++ pointer_namings o ++ flat_map (named_by view) (walked (pointer_namings o))) none

  first_kind : (first : List ℕ) → has_other_kind view 0 first ≡ (not (slice_index first 0 == 1) || false)
  first_kind first = ap (list_any (λ (n : Naming). (n.page == 0) && not (slice_index first 0 == kind_code n.role))) alone

  first_alone : (first : List ℕ) → broken_header shape.size first ≡ Some broken → broken_alone shape view 0 first ≡ Some broken
  first_alone first broken_is =
      ap (λ b. or_else (broken_if b rule.Kind) (first_broken_rule shape 0 first)) (first_kind first)
      ∙ rule_of_kind (slice_index first 0 == 1) (broken_header shape.size first) (first_broken_rule shape 0 first) broken
      (λ own. rw own refl)
      (λ other. or_first (broken_head 1 0 first) _ rule.Kind (head_kind first other))
      broken_is

  named_zero : (page : ℕ) → list_any (is_of_page page) (namings view) ≡ true → 0 ≡ page
  named_zero page named = same_from_test 0 page (or_nothing (0 == page) (sym (ap (list_any (is_of_page page)) alone) ∙ named))
    where
      or_nothing : (b : Bool) → (b || false) ≡ true → b ≡ true
      or_nothing true t = refl
      or_nothing false t = t

  breaks : (page : ℕ) → 0 ≡ page → broken_page shape view page (page_bytes shape.size bytes page) ≡ Some broken
  breaks page zero =
      let P : ℕ → Type 0 = λ p. broken_page shape view p (page_bytes shape.size bytes p) ≡ Some broken in
      subst P zero (or_first (broken_alone shape view 0 (page_bytes shape.size bytes 0)) (broken_in_place view 0) broken (first_alone (page_bytes shape.size bytes 0) e))

  names : (page : ℕ) → 0 ≡ page → list_any (is_of_page page) (namings view) ≡ true
  names page zero =
      let P : ℕ → Type 0 = λ p. list_any (is_of_page p) (namings view) ≡ true in
      subst P zero (ap (list_any (is_of_page 0)) alone)

  one_damage : AreDamages shape bytes view ((0, broken) ∷ [])
  one_damage = record {
    listed = λ page other. (
      (λ stands. is_it page other (contains_in ((0, broken) ∷ []) (page, other) stands)),
      (λ rule. in_contains ((0, broken) ∷ []) (page, other) (it_is page other (named_zero page rule.0) rule.1)),
    );
    rise = λ k below. absurd (omega arith);
  }
    where
      is_it : (page : ℕ) (other : Rule) → In {X = ℕ × Rule} ((0, broken) ∷ []) (page, other)
          → (list_any (is_of_page page) (namings view) ≡ true) × (broken_page shape view page (page_bytes shape.size bytes page) ≡ Some other)
      is_it page other (inl same) =
          let zero : 0 ≡ page = ap (λ (d : ℕ × Rule). d.0) same in
          (names page zero, breaks page zero ∙ ap (λ (d : ℕ × Rule). Some d.1) same)
      is_it page other (inr i) = absurd i

      it_is : (page : ℕ) (other : Rule) → 0 ≡ page → broken_page shape view page (page_bytes shape.size bytes page) ≡ Some other → In {X = ℕ × Rule} ((0, broken) ∷ []) (page, other)
      it_is page other zero is =
          let both : Some broken ≡ Some other = sym (breaks page zero) ∙ is in
          let same : broken ≡ other = cc in
          inl (ap (λ p. (p, broken)) zero ∙ ap (λ r. (page, r)) same)

  unsound : IsSound view → ⊥
  unsound sound = no_role (view 0) none (sound.fitting reach.HeaderRole 0 refl)

  -- Where the header breaks a rule it is the one damage.
  pub header_damaged : (found : Findings) → found.damages ≡ (0, broken) ∷ [] → found.lost_pages ≡ [] → found.lost_cells ≡ [] → AreFindings shape bytes view found
  header_damaged found is pages cells =
      with_damage shape bytes view ((0, broken) ∷ []) ((λ empty. cc), (λ sound. absurd (unsound sound))) one_damage (omega arith) found is pages cells

-- What is found by the header that a first page spells, whichever bytes the device tells.
pub file_found : (shape : Shape) (header : Header) (file now : Option (List ℕ)) (first : List ℕ) (r : Result Findings ValidateFault) → IsPageSize shape.size
    → now ≡ file → AreBytesOf file shape.size 0 first → SpellsHeader shape.size header first
    → IfOk r (λ found. (bytes : List ℕ) (view : View) → now ≡ Some bytes → IsViewOf shape bytes view → header_of view ≡ Some header → AreFindings shape bytes view found)
    → IfOk r (λ found. (bytes : List ℕ) (view : View) → file ≡ Some bytes → IsViewOf shape bytes view → AreFindings shape bytes view found)
file_found shape header file now first (Err fault) size same read spells found = tt
file_found shape header file now first (Ok findings) size same read spells found = λ bytes view told shown.
    let place : first ≡ page_bytes shape.size bytes 0 = subst (λ o. AreBytesOf o shape.size 0 first) told read in
    found bytes view (same ∙ told) shown (header_shown shape bytes view size shown header (subst (SpellsHeader shape.size header) place spells))

-- And a damaged header, likewise.
pub file_damaged : (shape : Shape) (file : Option (List ℕ)) (first : List ℕ) (fault : PageFault) (broken : Rule) (found : Findings) → IsPageSize shape.size
    → AreBytesOf file shape.size 0 first → fault ≡ Damaged broken → Tells fault (broken_header shape.size first)
    → found.damages ≡ (0, broken) ∷ [] → found.lost_pages ≡ [] → found.lost_cells ≡ []
    → (bytes : List ℕ) (view : View) → file ≡ Some bytes → IsViewOf shape bytes view → AreFindings shape bytes view found
file_damaged shape file first fault broken found size read is tells damages pages cells bytes view told shown =
    let place : first ≡ page_bytes shape.size bytes 0 = subst (λ o. AreBytesOf o shape.size 0 first) told read in
    let P : PageFault → Type 0 = λ f. Tells f (broken_header shape.size first) in
    let breaks : broken_header shape.size first ≡ Some broken = subst P is tells in
    header_damaged shape size bytes view shown broken (sym (ap (broken_header shape.size) place) ∙ breaks) found damages pages cells

-- A count that rose after a later one rose.
pub rose_before : (before later now : ℕ) → before ≤ later → Rose later now → Rose before now
rose_before before later now falls rose = grind arith
