-- What is kept of the pages that the header names tells the namings of the walk.
use Rattle.std.proofs.Common.{◌≡◌, ℕ, suc, zero, ◌==◌, ◌*◌, ◌&&◌, Bool, true, false, cond, nat_eq, if◌then◌else◌, List, [], ◌∷◌, ◌++◌, length, filter, find, Option, Some, None, ◌⊎◌, inl, inr, refl, sym, subst, ap, ◌∙◌}
use Rattle.std.specs.List.{flat_map}
use Rattle.std.specs.Option.{option_or}
use Rattle.std.proofs.lemmas.List.Folds.{find-append}
use Rattle.std.proofs.lemmas.List.Concat.{flat_map-append}
use Rattle.indexmap.specs.IndexMap.{get}
use Rattle.fbc_kinds.specs.declared.pages.Header.{Header}
use Rattle.fbc_kinds.specs.declared.pages.Page.{Page}
use Rattle.fbc_kinds.specs.declared.pages.Page.TheVariants as kind
use Rattle.fbc_kinds.specs.declared.pages.Pointer.{Pointer}
use Rattle.fbc_kinds.specs.declared.pages.Relation.{Relation}
use Rattle.fbc_kinds.specs.declared.shapes.Shape.{Shape}
use Rattle.fbc_kinds.specs.File.{page_bytes, IsViewOf}
use Rattle.fbc_kinds.specs.Limits.{slots}
use Rattle.fbc_kinds.specs.View.{View, header_of, size_of, inventory_page}
use Rattle.fbc_reach.specs.Content.{content_of}
use Rattle.fbc_reach.specs.Roles.{kind_code}
use Rattle.fbc_reach.specs.Tally.{is_of_kind, role_of, role_walked, IsNamedPage, IsKept, IsTallyOf, named_in_content, is_walked_for, named_as_kept, named_by_tally}
use Rattle.fbc_reach.specs.Walk.{naming, named_in_row, names_a_page, inventories_named, pointers_named, inventory_namings, tip_namings, pointer_namings, is_of_page, is_in_role, is_first, walked, slots_named, named_by, data_namings, namings}
use Rattle.fbc_reach.specs.declared.content.Content.{Content}
use Rattle.fbc_reach.specs.declared.namings.Naming.{Naming}
use Rattle.fbc_reach.specs.declared.namings.Role.{Role}
use Rattle.fbc_reach.specs.declared.namings.Role.TheVariants as role
use Rattle.fbc_reach.specs.declared.tally.NamedPage.{NamedPage}
use Rattle.fbc_reach.specs.declared.tally.Tally.{Tally}
use Rattle.fbc_spelling.proofs.Shows.{shown_code}
use Rattle.fbc_reach.proofs.ShownPages.{all_slots, shows}

pub and_false : (b : Bool) → (b && false) ≡ false
and_false true = refl
and_false false = refl

pub and_true : (b : Bool) → (b && true) ≡ b
and_true true = refl
and_true false = refl

-- Of the namings that a header has, those of pointer pages are the ones of the kind 4.
module _ (page : ℕ) where
  row_other : (role_of : ℕ → Role) → ((k : ℕ) → (4 == kind_code (role_of k)) ≡ false) → (place : ℕ) (pages : List ℕ)
      → find (is_of_kind page 4) (named_in_row role_of place pages) ≡ None
  row_other role_of other place [] = refl
  row_other role_of other place (x ∷ xs) =
      ap (λ b. cond ((x == page) && b) (Some (naming x (role_of place))) (find (is_of_kind page 4) (named_in_row role_of (suc place) xs))) (other place)
      ∙ ap (λ b. cond b (Some (naming x (role_of place))) (find (is_of_kind page 4) (named_in_row role_of (suc place) xs))) (and_false (x == page))
      ∙ row_other role_of other (suc place) xs

  row_own : (relation place : ℕ) (pages : List ℕ)
      → find (is_of_kind page 4) (named_in_row (role.Pointer relation) place pages) ≡ find (is_of_page page) (named_in_row (role.Pointer relation) place pages)
  row_own relation place [] = refl
  row_own relation place (x ∷ xs) =
      ap (λ b. cond b (Some (naming x (role.Pointer relation place))) (find (is_of_kind page 4) (named_in_row (role.Pointer relation) (suc place) xs))) (and_true (x == page))
      ∙ ap (cond (x == page) (Some (naming x (role.Pointer relation place)))) (row_own relation (suc place) xs)

  inventories_other : (size count : ℕ) → find (is_of_kind page 4) (inventories_named size count) ≡ None
  inventories_other size zero = refl
  inventories_other size (suc count) =
      find-append (is_of_kind page 4) (inventories_named size count) (naming (inventory_page size count) (role.Inventory count) ∷ [])
      ∙ ap (λ o. option_or o (find (is_of_kind page 4) (naming (inventory_page size count) (role.Inventory count) ∷ []))) (inventories_other size count)
      ∙ ap (λ b. cond b (Some (naming (inventory_page size count) (role.Inventory count))) None) (and_false (inventory_page size count == page))

  pointers_own : (number : ℕ) (relations : List Relation) → find (is_of_kind page 4) (pointers_named number relations) ≡ find (is_of_page page) (pointers_named number relations)
  pointers_own number [] = refl
  pointers_own number (r ∷ rs) =
      find-append (is_of_kind page 4) (named_in_row (role.Pointer number) 0 r.pointers) (pointers_named (suc number) rs)
      ∙ ap (λ o. option_or o (find (is_of_kind page 4) (pointers_named (suc number) rs))) (row_own number 0 r.pointers)
      ∙ ap (option_or (find (is_of_page page) (named_in_row (role.Pointer number) 0 r.pointers))) (pointers_own (suc number) rs)
      ∙ sym (find-append (is_of_page page) (named_in_row (role.Pointer number) 0 r.pointers) (pointers_named (suc number) rs))

-- The namings of a header, page 0 first.
abbrev pub header_done : Header → List Naming
header_done h = naming 0 role.Header ∷ inventory_namings (Some h) ++ tip_namings (Some h) ++ pointer_namings (Some h)

pointer_found : (h : Header) (page : ℕ) → find (is_of_kind page 4) (header_done h) ≡ find (is_of_page page) (pointer_namings (Some h))
pointer_found h page =
    ap (λ b. cond b (Some (naming 0 role.Header)) (find (is_of_kind page 4) (inventory_namings (Some h) ++ tip_namings (Some h) ++ pointer_namings (Some h)))) (and_false (0 == page))
    ∙ find-append (is_of_kind page 4) (inventory_namings (Some h) ++ tip_namings (Some h)) (pointer_namings (Some h))
    ∙ ap (λ o. option_or o (find (is_of_kind page 4) (pointer_namings (Some h))))
    (find-append (is_of_kind page 4) (inventory_namings (Some h)) (tip_namings (Some h))
    ∙ ap (λ o. option_or o (find (is_of_kind page 4) (tip_namings (Some h)))) (inventories_other page h.size h.inventories)
    ∙ row_other page role.Tip (λ k. refl) 0 h.tips)
    ∙ pointers_own page 0 h.relations

-- A page that no naming of a header names is named by none of its pointer pages' namings.
pub none_later : (a b : Option Naming) → option_or a b ≡ None → b ≡ None
none_later None b e = e
none_later (Some n) b e = cc

pub none_behind : (b : Bool) (n : Naming) (o : Option Naming) → cond b (Some n) o ≡ None → o ≡ None
none_behind true n o e = cc
none_behind false n o e = e

not_pointed : (h : Header) (page : ℕ) → find (is_of_page page) (header_done h) ≡ None → find (is_of_page page) (pointer_namings (Some h)) ≡ None
not_pointed h page none =
    let rest : List Naming = inventory_namings (Some h) ++ tip_namings (Some h) ++ pointer_namings (Some h) in
    let later = none_behind (0 == page) (naming 0 role.Header) (find (is_of_page page) rest) none in
    none_later (find (is_of_page page) (inventory_namings (Some h) ++ tip_namings (Some h))) (find (is_of_page page) (pointer_namings (Some h)))
    (sym (find-append (is_of_page page) (inventory_namings (Some h) ++ tip_namings (Some h)) (pointer_namings (Some h))) ∙ later)

pub walked_in : (named : Role) (o : Option Naming) → is_walked_for named (role_of o) ≡ is_in_role named o
walked_in named None = refl
walked_in named (Some n) = refl

abbrev no_namings : List Naming
no_namings = []

nothing_if : (b : Bool) → (if b then no_namings else no_namings) ≡ no_namings
nothing_if true = refl
nothing_if false = refl

if_either : (w f : Bool) (names : List Naming) → (names ≡ []) ⊎ (w ≡ f) → (if w then names else []) ≡ (if f then names else [])
if_either w f names (inl none) = ap (λ ns. if w then ns else []) none ∙ nothing_if w ∙ sym (nothing_if f) ∙ ap (λ ns. if f then ns else []) (sym none)
if_either w f names (inr same) = ap (λ b. if b then names else []) same

pointer_or_none : (size relation sequence : ℕ) (o : Option Page) → (slots_named size o (role.Pointer relation sequence) ≡ []) ⊎ ((p : Pointer) × (o ≡ Some (kind.Pointer p)))
pointer_or_none size relation sequence (Some (kind.Pointer p)) = inr (p, refl)
pointer_or_none size relation sequence None = inl refl
pointer_or_none size relation sequence (Some (kind.Header h)) = inl refl
pointer_or_none size relation sequence (Some (kind.Inventory i)) = inl refl
pointer_or_none size relation sequence (Some (kind.Tip t)) = inl refl
pointer_or_none size relation sequence (Some (kind.Data d)) = inl refl
pointer_or_none size relation sequence (Some kind.Blank) = inl refl

named_same : (size relation sequence : ℕ) (o : Option Page) → ((p : Pointer) → o ≡ Some (kind.Pointer p) → length p.slots ≡ slots size)
    → named_in_content (role.Pointer relation sequence) (content_of o) ≡ slots_named size o (role.Pointer relation sequence)
named_same size relation sequence (Some (kind.Pointer p)) full = ap (λ count. filter names_a_page (named_in_row (role.Data relation) (sequence * count) p.slots)) (full p refl)
named_same size relation sequence None full = refl
named_same size relation sequence (Some (kind.Header h)) full = refl
named_same size relation sequence (Some (kind.Inventory i)) full = refl
named_same size relation sequence (Some (kind.Tip t)) full = refl
named_same size relation sequence (Some (kind.Data d)) full = refl
named_same size relation sequence (Some kind.Blank) full = refl

none_kept : (named : Role) → ((c : Content) → named_in_content named c ≡ []) → (o : Option NamedPage) → named_as_kept named o ≡ []
none_kept named none None = refl
none_kept named none (Some page) = ap (λ names. if is_walked_for named page.walked then names else []) (none page.read.content) ∙ nothing_if (is_walked_for named page.walked)

-- What is kept of the pages that a header names gives what the pointer pages that are walked name.
module _ (shape : Shape) (bytes : List ℕ) (view : View) (shown : IsViewOf shape bytes view) (h : Header) (is : header_of view ≡ Some h) (next : ℕ) where
  abbrev first_of : ℕ → Option Naming
  first_of page = find (is_of_page page) (pointer_namings (Some h))

  as_pointer : (page relation sequence : ℕ) (o : Option NamedPage) → IsKept shape (Some bytes) next (header_done h) page o
      → named_as_kept (role.Pointer relation sequence) o
      ≡ (if is_in_role (role.Pointer relation sequence) (first_of page) then slots_named (size_of view) (view page) (role.Pointer relation sequence) else [])
  as_pointer page relation sequence None none =
      ap (λ found. if is_in_role (role.Pointer relation sequence) found then slots_named (size_of view) (view page) (role.Pointer relation sequence) else [])
      (sym (not_pointed h page none))
  as_pointer page relation sequence (Some named) kept =
      let own : Role = role.Pointer relation sequence in
      let names : List Naming = slots_named (size_of view) (view page) own in
      ap (λ c. if is_walked_for own named.walked then named_in_content own c else []) (kept.read.shown (view page) (shown page))
      ∙ ap (λ all. if is_walked_for own named.walked then all else []) (named_same (size_of view) relation sequence (view page) (all_slots shape bytes view shown h is page))
      ∙ if_either (is_walked_for own named.walked) (is_in_role own (first_of page)) names
      (by_page page own named kept names (pointer_or_none (size_of view) relation sequence (view page)))
    where
      by_page : (page : ℕ) (own : Role) (named : NamedPage) → IsNamedPage shape (Some bytes) next (header_done h) page named → (names : List Naming)
          → (names ≡ []) ⊎ ((p : Pointer) × (view page ≡ Some (kind.Pointer p)))
          → (names ≡ []) ⊎ (is_walked_for own named.walked ≡ is_in_role own (first_of page))
      by_page page own named kept names (inl none) = inl none
      by_page page own named kept names (inr found) =
          let code : named.read.kind ≡ 4 =
          kept.read.kind_is ∙ shown_code shape page (page_bytes shape.size bytes page) (kind.Pointer found.0) (shows shape bytes view shown page (kind.Pointer found.0) found.1)
          in
          inr
          (ap (is_walked_for own) (kept.judged.walked ∙ ap (role_walked (header_done h) page) code ∙ ap role_of (pointer_found h page))
          ∙ walked_in own (first_of page))

  as_named : (page : ℕ) (named : Role) (o : Option NamedPage) → IsKept shape (Some bytes) next (header_done h) page o
      → named_as_kept named o ≡ (if is_in_role named (first_of page) then slots_named (size_of view) (view page) named else [])
  as_named page (role.Pointer relation sequence) o kept = as_pointer page relation sequence o kept
  as_named page role.Header o kept = none_kept role.Header (λ c. refl) o ∙ sym (nothing_if (is_in_role role.Header (first_of page)))
  as_named page (role.Inventory s) o kept = none_kept (role.Inventory s) (λ c. refl) o ∙ sym (nothing_if (is_in_role (role.Inventory s) (first_of page)))
  as_named page (role.Tip s) o kept = none_kept (role.Tip s) (λ c. refl) o ∙ sym (nothing_if (is_in_role (role.Tip s) (first_of page)))
  as_named page (role.Data r s) o kept = none_kept (role.Data r s) (λ c. refl) o ∙ sym (nothing_if (is_in_role (role.Data r s) (first_of page)))

joined_if : {Y : Type 0} (f : Naming → List Y) (p : Naming → Bool) (x : Naming) (xs : List Naming) (b : Bool)
    → ((if b then f x else []) ++ flat_map f (filter p xs)) ≡ flat_map f (cond b (x ∷ filter p xs) (filter p xs))
joined_if f p x xs true = refl
joined_if f p x xs false = refl

pub flat_filter : {Y : Type 0} (f g : Naming → List Y) (p : Naming → Bool) → ((n : Naming) → g n ≡ (if p n then f n else [])) → (xs : List Naming) → flat_map g xs ≡ flat_map f (filter p xs)
flat_filter f g p same [] = refl
flat_filter f g p same (x ∷ xs) =
    ap (λ names. names ++ flat_map g xs) (same x)
    ∙ ap (λ rest. (if p x then f x else []) ++ rest) (flat_filter f g p same xs)
    ∙ joined_if f p x xs (p x)

-- No page but a pointer page names pages.
module _ (g : Naming → List Naming) where
  row_nothing : (role_of : ℕ → Role) → ((page k : ℕ) → g (naming page (role_of k)) ≡ []) → (place : ℕ) (pages : List ℕ) → flat_map g (named_in_row role_of place pages) ≡ []
  row_nothing role_of none place [] = refl
  row_nothing role_of none place (x ∷ xs) =
      ap (λ names. names ++ flat_map g (named_in_row role_of (suc place) xs)) (none x place) ∙ row_nothing role_of none (suc place) xs

  inventories_nothing : (size : ℕ) → ((page k : ℕ) → g (naming page (role.Inventory k)) ≡ []) → (count : ℕ) → flat_map g (inventories_named size count) ≡ []
  inventories_nothing size none zero = refl
  inventories_nothing size none (suc count) =
      flat_map-append g (inventories_named size count) (naming (inventory_page size count) (role.Inventory count) ∷ [])
      ∙ ap (λ names. names ++ flat_map g (naming (inventory_page size count) (role.Inventory count) ∷ [])) (inventories_nothing size none count)
      ∙ ap (λ names. names ++ []) (none (inventory_page size count) count)

pub tally_names : (shape : Shape) (bytes : List ℕ) (view : View) → IsViewOf shape bytes view → (h : Header) → header_of view ≡ Some h
    → (tally : Tally) → IsTallyOf shape (Some bytes) (header_done h) tally
    → named_by_tally tally (inventory_namings (Some h) ++ tip_namings (Some h) ++ pointer_namings (Some h)) ≡ data_namings view
tally_names shape bytes view shown h is tally kept =
    let g : Naming → List Naming = λ n. named_as_kept n.role (get nat_eq tally.pages n.page) in
    flat_map-append g (inventory_namings (Some h) ++ tip_namings (Some h)) (pointer_namings (Some h))
    ∙ ap (λ names. names ++ flat_map g (pointer_namings (Some h)))
    (flat_map-append g (inventory_namings (Some h)) (tip_namings (Some h))
    ∙ ap (λ names. names ++ flat_map g (tip_namings (Some h)))
    (inventories_nothing g h.size (λ page k. none_kept (role.Inventory k) (λ c. refl) (get nat_eq tally.pages page)) h.inventories)
    ∙ row_nothing g role.Tip (λ page k. none_kept (role.Tip k) (λ c. refl) (get nat_eq tally.pages page)) 0 h.tips)
    ∙ flat_filter (named_by view) g (is_first (pointer_namings (Some h)))
    (λ n. as_named shape bytes view shown h is tally.next n.page n.role (get nat_eq tally.pages n.page) (kept n.page))
    (pointer_namings (Some h))
    ∙ ap (λ o. flat_map (named_by view) (walked (pointer_namings o))) (sym is)

-- What a tally of a header's namings gives as the data pages is what the pointer pages name.
module _ (shape : Shape) (bytes : List ℕ) (view : View) (shown : IsViewOf shape bytes view) (h : Header) (is : header_of view ≡ Some h)
    (one : Tally) (told : Option (List ℕ)) (named found : List Naming) (tells : told ≡ Some bytes)
    (row : named ≡ inventory_namings (Some h) ++ tip_namings (Some h) ++ pointer_namings (Some h))
    (from : found ≡ named_by_tally one named)
    (kept : IsTallyOf shape told (naming 0 role.Header ∷ named) one) where
  kept_first : IsTallyOf shape (Some bytes) (header_done h) one
  kept_first =
      let by_row : List Naming → Type 0 = λ all. IsTallyOf shape told (naming 0 role.Header ∷ all) one in
      let by_file : Option (List ℕ) → Type 0 = λ file. IsTallyOf shape file (header_done h) one in
      subst by_file tells (subst by_row row kept)

  pub found_named : found ≡ data_namings view
  found_named = from ∙ ap (named_by_tally one) row ∙ tally_names shape bytes view shown h is one kept_first

  -- And with them it is a tally of all namings.
  pub all_named : (two : Tally) (now : Option (List ℕ)) → now ≡ told
      → ((done : List Naming) → IsTallyOf shape now done one → IsTallyOf shape now (done ++ found) two)
      → IsTallyOf shape (Some bytes) (namings view) two
  all_named two now same notes =
      let by_step : Option (List ℕ) → Type 0 = λ file. IsTallyOf shape file (header_done h) one → IsTallyOf shape file (header_done h ++ found) two in
      let second : IsTallyOf shape (Some bytes) (header_done h ++ found) two = subst by_step (same ∙ tells) (notes (header_done h)) kept_first in
      let by_data : List Naming → Type 0 = λ pages. IsTallyOf shape (Some bytes) (header_done h ++ pages) two in
      let by_header : Option Header → Type 0 =
      λ o. IsTallyOf shape (Some bytes) (naming 0 role.Header ∷ inventory_namings o ++ tip_namings o ++ pointer_namings o ++ data_namings view) two
      in
      subst by_header (sym is) (subst by_data found_named second)
