use Rattle.std.specs.Prelude.{◌≡◌, ◌+◌, ◌*◌, ◌==◌, ◌&&◌, ◌||◌, ℕ, zero, suc, Bool, false, not, nat_le, if◌then◌else◌, List, [], ◌∷◌, slice_index, slice_range, replicate, Option, Some, None, Result, Ok, Err, ⊤}
use Rattle.std.specs.List.{list_all}
use Rattle.std.specs.Int.{bytes_low_first}
use Rattle.fbc_kinds.specs.declared.rules.Rule.{Rule}
use Rattle.fbc_kinds.specs.declared.rules.Rule.TheVariants as rule
use Rattle.fbc_kinds.specs.declared.faults.PageFault.{PageFault}
use Rattle.fbc_kinds.specs.declared.faults.PageFault.TheVariants.{Damaged, Memory}

-- The number with these digits, the lowest first.
abbrev pub number_in : ℕ → List ℕ → ℕ
number_in base [] = 0
number_in base (digit ∷ digits) = digit + base * number_in base digits

-- The lowest `count` bytes of a number, the lowest first.
abbrev pub little_bytes : ℕ → ℕ → List ℕ
little_bytes count number = bytes_low_first 0 count number

-- The number in the bytes from place `from` to before place `to`.
abbrev pub number_at : ℕ → ℕ → List ℕ → ℕ
number_at from to bytes = number_in 256 (slice_range bytes from to)

-- There are only zeros.
abbrev pub is_zeros : List ℕ → Bool
is_zeros bytes = list_all (λ byte. byte == 0) bytes

-- A number passes the test, of those below the limit.
unfoldable pub any_below : (ℕ → Bool) → ℕ → Bool
any_below test zero = false
any_below test (suc n) = any_below test n || test n

-- A number within these ends.
abbrev pub is_within : ℕ → ℕ → ℕ → Bool
is_within low high number = nat_le low number && nat_le number high

-- What the 16 bytes say with which every page begins.
pub record HasHead (kind relation page sequence : ℕ) (bytes : List ℕ) : Type 0 where
  pub kind_is : slice_index bytes 0 ≡ kind
  pub one : slice_index bytes 1 ≡ 1
  pub relation_is : slice_range bytes 2 4 ≡ little_bytes 2 relation
  pub page_is : slice_range bytes 4 8 ≡ little_bytes 4 page
  pub sequence_is : slice_range bytes 8 12 ≡ little_bytes 4 sequence
  pub zeros : slice_range bytes 12 16 ≡ replicate 4 0

-- The relation that the head names.
abbrev pub relation_in : List ℕ → ℕ
relation_in bytes = number_at 2 4 bytes

-- The page that the head names.
abbrev pub page_in : List ℕ → ℕ
page_in bytes = number_at 4 8 bytes

-- The sequence that the head names.
abbrev pub sequence_in : List ℕ → ℕ
sequence_in bytes = number_at 8 12 bytes

-- Only pointer and data pages have a relation.
abbrev pub has_stray_relation : ℕ → List ℕ → Bool
has_stray_relation kind bytes = nat_le kind 3 && not (relation_in bytes == 0)

-- The header has no sequence.
abbrev pub has_stray_sequence : ℕ → List ℕ → Bool
has_stray_sequence kind bytes = kind == 1 && not (sequence_in bytes == 0)

-- A byte of the head besides the kind and the page's own number is wrong.
abbrev pub has_bad_head : ℕ → List ℕ → Bool
has_bad_head kind bytes =
    not (slice_index bytes 1 == 1) || not (is_zeros (slice_range bytes 12 16)) || has_stray_relation kind bytes || has_stray_sequence kind bytes

-- The first rule that the head of a page of this kind and number breaks.
abbrev pub broken_head : ℕ → ℕ → List ℕ → Option Rule
broken_head kind page bytes =
    if not (slice_index bytes 0 == kind) then Some rule.Kind
    else if has_bad_head kind bytes then Some rule.Head
    else if not (page_in bytes == page) then Some rule.Number
    else None

-- `next`, unless a rule is broken already.
abbrev pub or_else : Option Rule → Option Rule → Option Rule
or_else None next = next
or_else (Some rule) next = Some rule

-- A reader of a part answers the first broken rule of that part.
abbrev pub GivesRule : {X : Type 0} → Result X Rule → Option Rule → Type 0
GivesRule (Ok x) broken = broken ≡ None
GivesRule (Err rule) broken = broken ≡ Some rule

-- A fault of a page, other than want of memory, names the first broken rule.
abbrev pub Tells : PageFault → Option Rule → Type 0
Tells (Damaged rule) broken = broken ≡ Some rule
Tells Memory broken = ⊤

-- A decoder answers a page where no rule is broken, and else the first broken rule.
abbrev pub Gives : {X : Type 0} → Result X PageFault → Option Rule → Type 0
Gives (Ok page) broken = broken ≡ None
Gives (Err fault) broken = Tells fault broken
