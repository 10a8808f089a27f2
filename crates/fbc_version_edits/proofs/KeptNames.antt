-- A data page in place of a data page, and a transaction inventory page in place of one, leave what the view names.
use Rattle.std.proofs.Common.{◌≡◌, ◌∙◌, ℕ, sym, ap}
use Rattle.std.specs.Prelude.{Some, slice_set}
use Rattle.fbc_kinds.specs.declared.edits.Edit.TheVariants.{Mark}
use Rattle.fbc_kinds.specs.declared.pages.Cell.{Cell}
use Rattle.fbc_kinds.specs.declared.pages.Data.{Data}
use Rattle.fbc_kinds.specs.declared.pages.Page.{Page}
use Rattle.fbc_kinds.specs.declared.pages.Page.TheVariants as kind
use Rattle.fbc_kinds.specs.declared.pages.State.{State}
use Rattle.fbc_kinds.specs.declared.shapes.Shape.{Shape}
use Rattle.fbc_kinds.specs.DataSpelling.{empty_cell}
use Rattle.fbc_kinds.specs.View.{View, header_in, slot_in}
use Rattle.fbc_page_edits.specs.Allowed.{Fits}
use Rattle.fbc_page_edits.specs.Edited.{with_page}
use Rattle.fbc_page_edits.proofs.Changed.{read_alike}
use Rattle.fbc_page_edits.proofs.Fitted.{given_some}
use Rattle.fbc_page_edits.proofs.SameNames.{HaveSameNames, same_page_for}
use Rattle.fbc_version_edits.specs.Differences.{NamesTheSame}
use Rattle.fbc_version_edits.specs.Puts.{IsClearIn, IsPutIn}
use Rattle.fbc_version_edits.proofs.Marked.{shows_state}

-- The page that a put or a clear makes.
pub made_put : {shape : Shape} {view : View} {number cell : ℕ} {new : Cell} {content : Page} → IsPutIn shape view number cell new content → (d : Data) × (kind.Data d ≡ content)
made_put {cell = cell} {new = new} {content = content} put = (record (put.page) { cells = slice_set put.page.cells cell new }, (given_some _ _ content put.fits).1)

pub made_clear : {shape : Shape} {view : View} {number cell : ℕ} {content : Page} → IsClearIn shape view number cell content → (d : Data) × (kind.Data d ≡ content)
made_clear {cell = cell} {content = content} clear = (record (clear.page) { cells = slice_set clear.page.cells cell empty_cell }, (given_some _ _ content clear.fits).1)

-- Pages that are neither headers nor pointer pages name nothing.
named_alike : (view : View) (number : ℕ) (content : Page) → header_in (Some content) ≡ header_in (view number) → ((slot : ℕ) → slot_in (Some content) slot ≡ slot_in (view number) slot)
    → NamesTheSame view (with_page view number content)
named_alike view number content header slots =
    let same : HaveSameNames view (with_page view number content) = record {
      header = read_alike view number content (λ n o. header_in o) header 0;
      slots = λ page slot. read_alike view number content (λ n o. slot_in o slot) (slots slot) page;
    } in
    record { header = same.header; named = same_page_for view (with_page view number content) same }

pub data_names : (view : View) (number : ℕ) (old new : Data) (content : Page) → view number ≡ Some (kind.Data old) → kind.Data new ≡ content → NamesTheSame view (with_page view number content)
data_names view number old new content stands made =
    named_alike view number content (ap (λ p. header_in (Some p)) (sym made) ∙ sym (ap header_in stands)) (λ slot. ap (λ p. slot_in (Some p) slot) (sym made) ∙ sym (ap (λ o. slot_in o slot) stands))

pub tip_names : (shape : Shape) (view : View) (number marked : ℕ) (now : State) (content : Page) → Fits shape (Mark marked now) (view number) content → NamesTheSame view (with_page view number content)
tip_names shape view number marked now content fits =
    let shows = shows_state shape marked now (view number) content fits in
    named_alike view number content (ap (λ p. header_in (Some p)) (sym shows.made) ∙ sym (ap header_in shows.stands))
    (λ slot. ap (λ p. slot_in (Some p) slot) (sym shows.made) ∙ sym (ap (λ o. slot_in o slot) shows.stands))
