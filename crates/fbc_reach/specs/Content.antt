-- What is kept of a page that was read.
use Rattle.std.specs.Prelude.{◌≡◌, ◌==◌, ◌&&◌, ◌*◌, ℕ, Bool, true, false, not, nat_lt, List, map, length, Option, Some, None, is_some, slice_index}
use Rattle.std.specs.List.{list_any}
use Rattle.fbc_kinds.specs.declared.pages.Page.{Page}
use Rattle.fbc_kinds.specs.declared.pages.Page.TheVariants as kind
use Rattle.fbc_kinds.specs.declared.pages.Cell.{Cell}
use Rattle.fbc_kinds.specs.declared.shapes.Shape.{Shape}
use Rattle.fbc_kinds.specs.File.{Shows, page_bytes}
use Rattle.fbc_kinds.specs.Spelling.{first_broken_rule}
use Rattle.fbc_kinds.specs.Limits.{slots, tip_numbers}
use Rattle.fbc_kinds.specs.View.{is_empty}
use Rattle.fbc_reach.specs.Roles.{has_late_state}
use Rattle.fbc_reach.specs.declared.namings.Role.{Role}
use Rattle.fbc_reach.specs.declared.namings.Role.TheVariants as role
use Rattle.fbc_reach.specs.declared.content.Content.{Content}
use Rattle.fbc_reach.specs.declared.content.Content.TheVariants as content
use Rattle.fbc_reach.specs.declared.content.Version.{Version}
use Rattle.fbc_reach.specs.declared.content.PageRead.{PageRead}

-- Of a cell all but its value.
abbrev pub version_kept : Cell → Version
version_kept cell = record { flag = cell.flag; number = cell.number; back_page = cell.back_page; back_cell = cell.back_cell }

-- Of a page what the walk goes by; nothing of a header, of a blank page and of bytes that show no page.
abbrev pub content_of : Option Page → Content
content_of (Some (kind.Inventory i)) = content.Inventory i.sequence i.taken
content_of (Some (kind.Tip t)) = content.Tip t.sequence t.states
content_of (Some (kind.Pointer p)) = content.Pointer p.relation p.sequence p.slots
content_of (Some (kind.Data d)) = content.Data d.relation d.sequence (map version_kept d.cells)
content_of _ = content.Other

-- A pointer page has all its slots.
abbrev pub HasAllSlots : ℕ → Content → Type 0
HasAllSlots size (content.Pointer relation sequence pages) = length pages ≡ slots size
HasAllSlots size _ = Unit {0}

-- A page was read from these bytes: the byte of its kind, the first rule that it breaks by itself, and what it shows.
pub record IsReadFrom (shape : Shape) (number : ℕ) (bytes : List ℕ) (read : PageRead) : Type 0 where
  pub kind_is : read.kind ≡ slice_index bytes 0
  pub rule_is : read.rule ≡ first_broken_rule shape number bytes
  pub shown : (page : Option Page) → Shows shape number bytes page → read.content ≡ content_of page
  pub spelled : read.rule ≡ None → (page : Option Page) → Shows shape number bytes page → is_some page ≡ true
  pub full : HasAllSlots shape.size read.content

-- The same of a page of a device; where that does not tell its bytes, the page was read from some bytes.
abbrev pub IsReadOf : Shape → ℕ → Option (List ℕ) → PageRead → Type 0
IsReadOf shape number None read = (bytes : List ℕ) × IsReadFrom shape number bytes read
IsReadOf shape number (Some file) read = IsReadFrom shape number (page_bytes shape.size file number) read

-- The tests of a page in a role, by what is kept of it.
abbrev pub differs_in_relation : Role → Content → Bool
differs_in_relation (role.Pointer relation sequence) (content.Pointer own number slots) = not (own == relation)
differs_in_relation (role.Data relation sequence) (content.Data own number versions) = not (own == relation)
differs_in_relation _ _ = false

abbrev pub differs_in_sequence : Role → Content → Bool
differs_in_sequence (role.Inventory sequence) (content.Inventory own taken) = not (own == sequence)
differs_in_sequence (role.Tip sequence) (content.Tip own states) = not (own == sequence)
differs_in_sequence (role.Pointer relation sequence) (content.Pointer number own slots) = not (own == sequence)
differs_in_sequence (role.Data relation sequence) (content.Data number own versions) = not (own == sequence)
differs_in_sequence _ _ = false

abbrev pub is_late : ℕ → Version → Bool
is_late next version = not (is_empty version.flag) && not (nat_lt version.number next)

abbrev pub holds_late : ℕ → ℕ → Role → Content → Bool
holds_late size next (role.Tip sequence) (content.Tip own states) = has_late_state next (sequence * tip_numbers size) states
holds_late size next (role.Data relation sequence) (content.Data number own versions) = list_any (is_late next) versions
holds_late size next _ _ = false
