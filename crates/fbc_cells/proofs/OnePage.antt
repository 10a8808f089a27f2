use Rattle.std.proofs.Common.{◌≡◌, ◌<◌, ◌≤◌, ◌+◌, ◌-◌, ◌*◌, ◌^◌, ◌++◌, ◌∷◌, [], ℕ, zero, suc, List, length, take, drop, get_or, replicate, refl, sym, ap, ◌∙◌, arith}
use Rattle.std.specs.Prelude.{slice_index, slice_range}
use Rattle.std.specs.List.{All, flat_map}
use Rattle.std.proofs.lemmas.List.{append-nil, ext_get_or, take_at, drop_at}
use Rattle.fbc_kinds.specs.declared.pages.Cell.{Cell}
use Rattle.fbc_kinds.specs.declared.pages.Data.{Data}
use Rattle.fbc_kinds.specs.declared.pages.Flag.{Flag}
use Rattle.fbc_kinds.specs.declared.pages.Flag.TheVariants.{Empty, Primary, Deletion, Back}
use Rattle.fbc_kinds.specs.declared.pages.Pointer.{Pointer}
use Rattle.fbc_kinds.specs.Head.{HasHead, little_bytes, number_in}
use Rattle.fbc_kinds.specs.Limits.{cells, number_limit}
use Rattle.fbc_kinds.specs.Padding.{padded}
use Rattle.fbc_kinds.specs.DataSpelling.{IsCell, IsContent, IsData, SpellsCell, SpellsData, empty_cell, flag_code}
use Rattle.fbc_kinds.specs.PointerSpelling.{SpellsPointer}
use Rattle.fbc_kinds.proofs.Numbers.{number_in-little_2, number_in-little_4}

-- Numbers of four bytes with the same bytes are equal.
pub same_from_little_4 : (m n : ℕ) → m < 2 ^ 32 → n < 2 ^ 32 → little_bytes 4 m ≡ little_bytes 4 n → m ≡ n
same_from_little_4 m n small_m small_n same =
    sym (number_in-little_4 m small_m) ∙ ap (number_in 256) same ∙ number_in-little_4 n small_n

-- Numbers of two bytes with the same bytes are equal.
pub same_from_little_2 : (m n : ℕ) → m < 2 ^ 16 → n < 2 ^ 16 → little_bytes 2 m ≡ little_bytes 2 n → m ≡ n
same_from_little_2 m n small_m small_n same =
    sym (number_in-little_2 m small_m) ∙ ap (number_in 256) same ∙ number_in-little_2 n small_n

-- What two heads that the same bytes have share.
pub record SameHead (relation page sequence relation' page' sequence' : ℕ) : Type 0 where
  pub relation_same : relation ≡ relation'
  pub page_same : page ≡ page'
  pub sequence_same : sequence ≡ sequence'

-- The same bytes have one head.
pub one_head : (kind relation page sequence kind' relation' page' sequence' : ℕ) (bytes : List ℕ)
    → relation < 8 → relation' < 8 → page < number_limit → page' < number_limit → sequence < number_limit → sequence' < number_limit
    → HasHead kind relation page sequence bytes → HasHead kind' relation' page' sequence' bytes
    → SameHead relation page sequence relation' page' sequence'
one_head kind relation page sequence kind' relation' page' sequence' bytes r r' p p' s s' x y = record {
  relation_same = same_from_little_2 relation relation' (omega arith) (omega arith) (sym x.relation_is ∙ y.relation_is);
  page_same = same_from_little_4 page page' p p' (sym x.page_is ∙ y.page_is);
  sequence_same = same_from_little_4 sequence sequence' s s' (sym x.sequence_is ∙ y.sequence_is);
}

-- A flag is known by its byte.
pub one_flag : (f g : Flag) → flag_code f ≡ flag_code g → f ≡ g
one_flag Empty Empty same = refl
one_flag Empty Primary same = absurd (omega arith)
one_flag Empty Deletion same = absurd (omega arith)
one_flag Empty Back same = absurd (omega arith)
one_flag Primary Empty same = absurd (omega arith)
one_flag Primary Primary same = refl
one_flag Primary Deletion same = absurd (omega arith)
one_flag Primary Back same = absurd (omega arith)
one_flag Deletion Empty same = absurd (omega arith)
one_flag Deletion Primary same = absurd (omega arith)
one_flag Deletion Deletion same = refl
one_flag Deletion Back same = absurd (omega arith)
one_flag Back Empty same = absurd (omega arith)
one_flag Back Primary same = absurd (omega arith)
one_flag Back Deletion same = absurd (omega arith)
one_flag Back Back same = refl

-- The numbers of a cell within its limits have four and two bytes.
pub record HasCellNumbers (content : Cell) : Type 0 where
  pub number_fits : content.number < number_limit
  pub back_page_fits : content.back_page < number_limit
  pub back_cell_fits : content.back_cell < 2 ^ 16

HasCellNumbers-by : (f : Flag) (greatest : ℕ) (content : Cell) → IsContent f greatest content → HasCellNumbers content
HasCellNumbers-by Empty greatest content is = rw is (record { number_fits = omega arith; back_page_fits = omega arith; back_cell_fits = omega arith })
HasCellNumbers-by Deletion greatest content is = record { number_fits = is.0.number_fits; back_page_fits = is.0.back_page_fits; back_cell_fits = is.0.back_cell_fits }
HasCellNumbers-by Primary greatest content is = record { number_fits = is.0.number_fits; back_page_fits = is.0.back_page_fits; back_cell_fits = is.0.back_cell_fits }
HasCellNumbers-by Back greatest content is = record { number_fits = is.0.number_fits; back_page_fits = is.0.back_page_fits; back_cell_fits = is.0.back_cell_fits }

pub IsCell-numbers : (greatest : ℕ) (content : Cell) → IsCell greatest content → HasCellNumbers content
IsCell-numbers greatest content is = HasCellNumbers-by content.flag greatest content is

-- Texts of one length are equal where they are with zeros behind them.
pub one_padded : (width : ℕ) (a b : List ℕ) → length a ≡ length b → padded width a ≡ padded width b → a ≡ b
one_padded width a b long same =
    sym (take_at a (replicate (width - length a) 0) (length b) long) ∙ ap (take (length b)) same ∙ take_at b (replicate (width - length b) 0) (length b) refl

-- Cells with equal fields are equal.
pub same_cell : (f f' : Flag) (n n' p p' c c' : ℕ) (v v' : List ℕ) → f ≡ f' → n ≡ n' → p ≡ p' → c ≡ c' → v ≡ v'
    → (let x : Cell = record { flag = f; number = n; back_page = p; back_cell = c; value = v } in x) ≡ record { flag = f'; number = n'; back_page = p'; back_cell = c'; value = v' }
same_cell f f' n n' p p' c c' v v' sf sn sp sc sv = cc

-- No bytes spell two cells.
pub one_cell : (greatest : ℕ) (x y : Cell) (bytes : List ℕ) → IsCell greatest x → IsCell greatest y → SpellsCell greatest x bytes → SpellsCell greatest y bytes → x ≡ y
one_cell greatest x y bytes is_x is_y a b =
    let fx = IsCell-numbers greatest x is_x in
    let fy = IsCell-numbers greatest y is_y in
    same_cell x.flag y.flag x.number y.number x.back_page y.back_page x.back_cell y.back_cell x.value y.value
    (one_flag x.flag y.flag (sym a.flag_is ∙ b.flag_is))
    (same_from_little_4 x.number y.number fx.number_fits fy.number_fits (sym a.number_is ∙ b.number_is))
    (same_from_little_4 x.back_page y.back_page fx.back_page_fits fy.back_page_fits (sym a.back_page_is ∙ b.back_page_is))
    (same_from_little_2 x.back_cell y.back_cell fx.back_cell_fits fy.back_cell_fits (sym a.back_cell_is ∙ b.back_cell_is))
    (one_padded greatest x.value y.value (sym a.length_is ∙ b.length_is) (sym a.value_is ∙ b.value_is))

-- No bytes spell two lists of slots.
pub one_list : (xs ys : List ℕ) → length xs ≡ length ys → All (λ n. n < number_limit) xs → All (λ n. n < number_limit) ys → flat_map (little_bytes 4) xs ≡ flat_map (little_bytes 4) ys → xs ≡ ys
one_list [] [] long fits_x fits_y same = refl
one_list [] (y ∷ ys) long fits_x fits_y same = absurd (omega arith)
one_list (x ∷ xs) [] long fits_x fits_y same = absurd (omega arith)
one_list (x ∷ xs) (y ∷ ys) long fits_x fits_y same =
    let first : x ≡ y = same_from_little_4 x y (fits_x 0 0 (omega arith)) (fits_y 0 0 (omega arith)) (ap (take 4) same) in
    let rest : xs ≡ ys = one_list xs ys (omega arith) (λ k d inside. fits_x (suc k) d (omega arith)) (λ k d inside. fits_y (suc k) d (omega arith)) (ap (drop 4) same) in
    cc

-- Pointer pages with equal fields are equal.
same_pointer : (p q r r' s s' : ℕ) (xs ys : List ℕ) → p ≡ q → r ≡ r' → s ≡ s' → xs ≡ ys
    → (let x : Pointer = record { page = p; relation = r; sequence = s; slots = xs } in x) ≡ record { page = q; relation = r'; sequence = s'; slots = ys }
same_pointer p q r r' s s' xs ys sp sr ss sx = cc

-- No bytes spell two pointer pages.
pub one_pointer_page : (size : ℕ) (x y : Pointer) (bytes : List ℕ) → SpellsPointer size x bytes → SpellsPointer size y bytes → x ≡ y
one_pointer_page size x y bytes a b =
    let head = one_head 4 x.relation x.page x.sequence 4 y.relation y.page y.sequence bytes a.fits.relation_fits b.fits.relation_fits a.fits.page_fits b.fits.page_fits a.fits.sequence_fits b.fits.sequence_fits a.head b.head in
    let slots = one_list x.slots y.slots (a.fits.count ∙ sym b.fits.count) a.fits.slots_fit b.fits.slots_fit (sym a.slots_are ∙ b.slots_are) in
    same_pointer x.page y.page x.relation y.relation x.sequence y.sequence x.slots y.slots head.page_same head.relation_same head.sequence_same slots

-- Data pages with equal fields are equal.
same_data : (p q r r' s s' : ℕ) (xs ys : List Cell) → p ≡ q → r ≡ r' → s ≡ s' → xs ≡ ys
    → (let x : Data = record { page = p; relation = r; sequence = s; cells = xs } in x) ≡ record { page = q; relation = r'; sequence = s'; cells = ys }
same_data p q r r' s s' xs ys sp sr ss sx = cc

-- No bytes spell two data pages.
pub one_data_page : (size greatest : ℕ) (x y : Data) (bytes : List ℕ) → SpellsData size greatest x bytes → SpellsData size greatest y bytes → x ≡ y
one_data_page size greatest x y bytes a b =
    let head = one_head 5 x.relation x.page x.sequence 5 y.relation y.page y.sequence bytes a.fits.relation_fits b.fits.relation_fits a.fits.page_fits b.fits.page_fits a.fits.sequence_fits b.fits.sequence_fits a.head b.head in
    let each : (k : ℕ) → k < length x.cells → get_or x.cells k empty_cell ≡ get_or y.cells k empty_cell =
    λ k inside. one_cell greatest _ _ _ (a.fits.each k empty_cell inside) (b.fits.each k empty_cell (omega (arith, a.fits.count, b.fits.count))) (a.cell k (omega (arith, a.fits.count))) (b.cell k (omega (arith, a.fits.count))) in
    let items : x.cells ≡ y.cells = ext_get_or empty_cell x.cells y.cells (a.fits.count ∙ sym b.fits.count) each in
    same_data x.page y.page x.relation y.relation x.sequence y.sequence x.cells y.cells head.page_same head.relation_same head.sequence_same items
