-- An edit fits a page where it fits the page's outline.
use Rattle.std.proofs.Common.{◌≡◌, ◌∙◌, ap, refl, ℕ, Bool, true, false, not, ◌==◌, ◌&&◌, if◌then◌else◌, nat_lt, Option}
use Rattle.std.proofs.lemmas.List.{length-replicate, length-set}
use Rattle.fbc_kinds.specs.declared.edits.Edit.{Edit}
use Rattle.fbc_kinds.specs.declared.edits.Edit.TheVariants as edit
use Rattle.fbc_kinds.specs.declared.pages.Data.{Data}
use Rattle.fbc_kinds.specs.declared.pages.Inventory.{Inventory}
use Rattle.fbc_kinds.specs.declared.pages.Page.{Page}
use Rattle.fbc_kinds.specs.declared.pages.Page.TheVariants as page
use Rattle.fbc_kinds.specs.declared.pages.Pointer.{Pointer}
use Rattle.fbc_kinds.specs.declared.pages.Tip.{Tip}
use Rattle.fbc_kinds.specs.declared.shapes.Shape.{Shape}
use Rattle.fbc_kinds.specs.Edits.{applied, covers, formatted, given, is_version, may_be, stands_in, value_length}
use Rattle.fbc_kinds.specs.Limits.{cells}
use Rattle.fbc_journal_readers.specs.declared.outlines.Outline.{Outline}
use Rattle.fbc_journal_readers.specs.declared.outlines.Outline.TheVariants as outline
use Rattle.fbc_journal_readers.specs.Outlines.{HasOutline, Matches, outline_after, outline_formatted, outlined}

module _ (shape : Shape) where
  -- The same test gives both.
  when : (b c : Bool) (content : Page) (o : Outline) → b ≡ c → HasOutline shape content o → Matches shape (given b content) (outlined c o)
  when true true content o e h = h
  when false false content o e h = tt
  when true false content o e h = absurd cc
  when false true content o e h = absurd cc

  -- The same choice.
  either : (b : Bool) (p q : Option Page) (o r : Option Outline) → Matches shape p o → Matches shape q r → Matches shape (if b then p else q) (if b then o else r)
  either true p q o r h k = h
  either false p q o r h k = k

  format : (kind number relation sequence : ℕ) → Matches shape (formatted shape kind number relation sequence) (outline_formatted shape kind number relation sequence)
  format kind number relation sequence =
      either (kind == 2) _ _ _ _ (when _ _ _ _ refl (refl, refl))
      (either (kind == 3) _ _ _ _ refl
      (either (kind == 4) _ _ _ _ (when _ _ _ _ refl (length-replicate _ _))
      (either (kind == 5) _ _ _ _ (when _ _ _ _ refl (refl, length-replicate _ _)) tt)))

  blank : (e : Edit) → Matches shape (applied shape e page.Blank) (outline_after shape e outline.Blank)
  blank (edit.Format kind number relation sequence) = format kind number relation sequence
  blank _ = tt

  inventory : (i : Inventory) (n s : ℕ) → HasOutline shape (page.Inventory i) (outline.Inventory n s) → (e : Edit)
      → Matches shape (applied shape e (page.Inventory i)) (outline_after shape e (outline.Inventory n s))
  inventory i n s h (edit.Format kind number relation sequence) = format kind number relation sequence
  inventory i n s h (edit.TakePage number) = when _ _ _ _ (ap (λ k. covers shape.size k number) h.1) h
  inventory i n s h (edit.FreePage number) =
      when _ _ _ _ (ap (λ k. covers shape.size k number && not (number == 0) && not (number == i.page)) h.1 ∙ ap (λ k. covers shape.size s number && not (number == 0) && not (number == k)) h.0) h
  inventory i n s h _ = tt

  tip : (t : Tip) (s : ℕ) → HasOutline shape (page.Tip t) (outline.Tip s) → (e : Edit) → Matches shape (applied shape e (page.Tip t)) (outline_after shape e (outline.Tip s))
  tip t s h (edit.Format kind number relation sequence) = format kind number relation sequence
  tip t s h (edit.Mark number state) = when _ _ _ _ (ap (λ k. stands_in shape.size k number && may_be number state) h) h
  tip t s h _ = tt

  pointer : (p : Pointer) → HasOutline shape (page.Pointer p) outline.Pointer → (e : Edit) → Matches shape (applied shape e (page.Pointer p)) (outline_after shape e outline.Pointer)
  pointer p h (edit.Format kind number relation sequence) = format kind number relation sequence
  pointer p h (edit.Name slot number) = when _ _ _ _ (ap (λ k. nat_lt slot k) h) (length-set p.slots slot number ∙ h)
  pointer p h (edit.Unname slot) = when _ _ _ _ (ap (λ k. nat_lt slot k) h) (length-set p.slots slot 0 ∙ h)
  pointer p h _ = tt

  records : (d : Data) (r : ℕ) → HasOutline shape (page.Data d) (outline.Data r) → (e : Edit) → Matches shape (applied shape e (page.Data d)) (outline_after shape e (outline.Data r))
  records d r h (edit.Format kind number relation sequence) = format kind number relation sequence
  records d r h (edit.PutCell cell content) =
      when _ _ _ _ (ap (λ k. nat_lt cell k && is_version (value_length shape d.relation) content) h.1 ∙ ap (λ k. nat_lt cell (cells shape.size (value_length shape r)) && is_version (value_length shape k) content) h.0)
      (h.0, length-set d.cells cell content ∙ h.1)
  records d r h (edit.ClearCell cell) = when _ _ _ _ (ap (λ k. nat_lt cell k) h.1) (h.0, length-set d.cells cell _ ∙ h.1)
  records d r h _ = tt

  -- The page after an edit has the outline after it, where the edit fits; it fits both or none.
  pub Matches-applied : (e : Edit) (content : Page) (o : Outline) → HasOutline shape content o → Matches shape (applied shape e content) (outline_after shape e o)
  Matches-applied e page.Blank outline.Blank h = blank e
  Matches-applied e (page.Inventory i) (outline.Inventory n s) h = inventory i n s h e
  Matches-applied e (page.Tip t) (outline.Tip s) h = tip t s h e
  Matches-applied e (page.Pointer p) outline.Pointer h = pointer p h e
  Matches-applied e (page.Data d) (outline.Data r) h = records d r h e
  Matches-applied e _ _ h = absurd h
