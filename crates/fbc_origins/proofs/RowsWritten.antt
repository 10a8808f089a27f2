-- Rows that the file names, or that drafts name, after every act that edits nothing: writes of both outcomes and deaths among them.
use Rattle.std.proofs.Common.{◌≡◌, ◌∙◌, ◌⊎◌, ◌/◌, ◌%◌, ◌∷◌, ℕ, Bool, true, false, inl, inr, if◌then◌else◌, Option, Some, refl, sym, subst, slice_get}
use Rattle.std.specs.Prelude.{option_and_then}
use Rattle.std.proofs.Math.Path.{fun_ext}
use Rattle.fbc_kinds.specs.declared.pages.Header.{Header}
use Rattle.fbc_kinds.specs.declared.pages.Page.{Page}
use Rattle.fbc_kinds.specs.declared.pages.Relation.{Relation}
use Rattle.fbc_kinds.specs.declared.shapes.Shape.{Shape}
use Rattle.fbc_kinds.specs.declared.snapshots.Transaction.{Transaction}
use Rattle.fbc_kinds.specs.Limits.{slots}
use Rattle.fbc_kinds.specs.View.{View, header_in, named_in}
use Rattle.fbc_world.specs.History.{History, Moment}
use Rattle.fbc_world.specs.World.{World, newest_of, world_of}
use Rattle.fbc_legal.specs.Legal.{IsLegal}
use Rattle.fbc_legal.specs.Scene.{HasDraft, Scene, scene_of}
use Rattle.fbc_legal.specs.Stamps.{stamps_of}
use Rattle.fbc_closed_cuts.specs.Cut.{Cut, IsClosedCut, view}
use Rattle.fbc_closed_cuts.specs.Views.{IsSameView, cut_before, is_edit}
use Rattle.fbc_closed_cuts.proofs.CutLaws.{no-new-views}
use Rattle.fbc_numbers.proofs.CutFacts.{no_draft, none-closed}
use Rattle.fbc_origins.specs.Rows.{IsNamedOrDrafted, NamesRow}
use Rattle.fbc_origins.proofs.WriteDrafts.{comes-within, drafts-left}

-- The pointer page that the header in a page names.
abbrev pub pointer_by : Option Page → ℕ → ℕ → Option ℕ
pointer_by header relation sequence = option_and_then (λ (r : Relation). slice_get r.pointers sequence) (option_and_then (λ (h : Header). slice_get h.relations relation) (header_in header))

module _ (shape : Shape) (file : View) (before : History) (moment : Moment) (legal : IsLegal shape file (moment ∷ before)) (plain : is_edit moment.event.act ≡ false) where
  abbrev at : Scene
  at = scene_of shape file before

  abbrev w : World
  w = at.world

  abbrev after : World
  after = world_of shape file (moment ∷ before)

  -- The pages that come into the file.
  abbrev pub comes : Cut
  comes = cut_before moment.event.act moment.landed no_draft

  abbrev pub earlier : Cut → Cut
  earlier cut = cut_before moment.event.act moment.landed cut

  same : (cut : Cut) → IsClosedCut after cut → IsSameView w (stamps_of shape file before) after (stamps_of shape file (moment ∷ before)) cut (earlier cut)
  same cut closed = no-new-views shape file before moment cut legal plain closed

  pub was-closed : (cut : Cut) → IsClosedCut after cut → IsClosedCut w (earlier cut)
  was-closed cut closed = (same cut closed).closed

  pub one-view : (cut : Cut) → IsClosedCut after cut → view after cut ≡ view w (earlier cut)
  one-view cut closed = fun_ext (λ page. (same cut closed).pages page)

  pub comes-closed : IsClosedCut w comes
  comes-closed = was-closed no_draft (none-closed after)

  -- The file after the act is the view of these pages before it.
  pub kept-is : after.kept ≡ view w comes
  kept-is = one-view no_draft (none-closed after)

  module _ (cut : Cut) (closed : IsClosedCut after cut) where
    -- What a view shows of a page, the file does after the act, where what it keeps did, or a draft that comes into the file.
    pub in-file : (page : ℕ) (Shows : Option Page → Type 0) (Else : Type 0) → Shows (view after cut page) → Shows (w.kept page) ⊎ Else → Shows (after.kept page) ⊎ (Else × (comes page ≡ false))
    in-file page Shows Else seen was = go (comes page) refl where
      go : (b : Bool) → comes page ≡ b → Shows (after.kept page) ⊎ (Else × (comes page ≡ false))
      go true is =
          inl (subst (λ (v : View). Shows (v page)) (sym kept-is)
          (rw is (newest (earlier cut page) (comes-within moment.event.act moment.landed cut page is) (subst (λ (v : View). Shows (v page)) (one-view cut closed) seen))))
        where
          newest : (c : Bool) → c ≡ true → Shows (if c then newest_of w page else w.kept page) → Shows (newest_of w page)
          newest true sure shown = shown
          newest false sure shown = absurd cc
      go false is = elim was [ inl shown ↦ inl (subst (λ (v : View). Shows (v page)) (sym kept-is) (rw is shown)) | inr other ↦ inr (other, is) ]

    module _ (relation sequence pointer page : ℕ) (row : NamesRow shape (view after cut) relation sequence pointer page) where
      -- The file names a row that it named.
      pub named-on : NamesRow shape w.kept relation sequence pointer page → NamesRow shape after.kept relation sequence pointer page
      named-on was = record {
        pointed = sure 0 (in-file 0 (λ o. pointer_by o relation (sequence / slots shape.size) ≡ Some pointer) ⊥ row.pointed (inl was.pointed));
        named = sure pointer (in-file pointer (λ o. named_in o (sequence % slots shape.size) ≡ Some page) ⊥ row.named (inl was.named));
      } where
        sure : {X : Type 0} (q : ℕ) → X ⊎ (⊥ × (comes q ≡ false)) → X
        sure q (inl is) = is
        sure q (inr never) = absurd never.0

      -- So it does where all drafts of the owner come into the file.
      pub named-by : (owner : ℕ) → ((q : ℕ) → HasDraft at owner q → comes q ≡ true) → IsNamedOrDrafted at owner relation sequence pointer page → NamesRow shape after.kept relation sequence pointer page
      named-by owner all was = record {
        pointed = sure 0 (in-file 0 (λ o. pointer_by o relation (sequence / slots shape.size) ≡ Some pointer) (HasDraft at owner 0) row.pointed was.pointed);
        named = sure pointer (in-file pointer (λ o. named_in o (sequence % slots shape.size) ≡ Some page) (HasDraft at owner pointer) row.named was.named);
      } where
        sure : {X : Type 0} (q : ℕ) → X ⊎ (HasDraft at owner q × (comes q ≡ false)) → X
        sure q (inl is) = is
        sure q (inr left) = absurd (let comes_too : comes q ≡ true = all q left.0 in let out : comes q ≡ false = left.1 in let no : true ≡ false = sym comes_too ∙ out in cc)

      -- A row of an open number is named, or drafted, as it was.
      pub open-on : (owner : ℕ) (t : Transaction) → after.transaction owner ≡ Some t → IsNamedOrDrafted at owner relation sequence pointer page → IsNamedOrDrafted (scene_of shape file (moment ∷ before)) owner relation sequence pointer page
      open-on owner t is was = record {
        pointed = left 0 (in-file 0 (λ o. pointer_by o relation (sequence / slots shape.size) ≡ Some pointer) (HasDraft at owner 0) row.pointed was.pointed);
        named = left pointer (in-file pointer (λ o. named_in o (sequence % slots shape.size) ≡ Some page) (HasDraft at owner pointer) row.named was.named);
      } where
        left : {X : Type 0} (q : ℕ) → X ⊎ (HasDraft at owner q × (comes q ≡ false)) → X ⊎ HasDraft (scene_of shape file (moment ∷ before)) owner q
        left q (inl is) = inl is
        left q (inr out) = inr (drafts-left at moment.event.actor moment.event.act moment.landed plain owner t is q out.1 out.0)
