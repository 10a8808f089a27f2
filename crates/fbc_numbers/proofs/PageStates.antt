-- What of the pages the states of numbers depend on, and which changes of a page leave it.
use Rattle.std.proofs.Common.{◌≡◌, ◌≢◌, ◌∙◌, ◌++◌, ◌∷◌, ◌/◌, ◌%◌, [], ℕ, Bool, true, false, Option, Some, None, slice_get, inl, inr, refl, sym, ap, subst}
use Rattle.std.specs.Option.{option_and_then, option_map_or, unwrap_or}
use Rattle.std.proofs.lemmas.Bool.{cases_eq}
use Rattle.fbc_kinds.specs.declared.edits.Edit.{Edit}
use Rattle.fbc_kinds.specs.declared.edits.Edit.TheVariants as edit
use Rattle.fbc_kinds.specs.declared.pages.Header.{Header}
use Rattle.fbc_kinds.specs.declared.pages.Page.{Page}
use Rattle.fbc_kinds.specs.declared.pages.Page.TheVariants as kind
use Rattle.fbc_kinds.specs.declared.pages.State.{State}
use Rattle.fbc_kinds.specs.declared.pages.State.TheVariants.{Active}
use Rattle.fbc_kinds.specs.declared.shapes.Shape.{Shape}
use Rattle.fbc_kinds.specs.Edits.{given}
use Rattle.fbc_kinds.specs.Limits.{tip_numbers}
use Rattle.fbc_kinds.specs.View.{View, header_in, size_of, state_in, tip_of}
use Rattle.fbc_page_edits.specs.Alike.{HaveSameStates}
use Rattle.fbc_page_edits.specs.Allowed.{Fits}
use Rattle.fbc_page_edits.specs.Edited.{with_page}
use Rattle.fbc_page_edits.proofs.Changed.{changed_elsewhere, changed_here, read_alike}
use Rattle.fbc_page_edits.proofs.Fitted.{AddsTip, ChangesHeader, adds_inventory, adds_pointer, adds_tip, frees_mark, given_some, names_slot, raises_next, takes_mark, unnames_slot}
use Rattle.fbc_page_edits.proofs.Pushed.{pushed}

-- The size that a page gives as a header, and the transaction inventory page that it names.
abbrev pub size_in : Option Page → ℕ
size_in page = option_map_or (λ (h : Header). h.size) (header_in page) 0

abbrev pub tip_in : Option Page → ℕ → Option ℕ
tip_in page sequence = option_and_then (λ (h : Header). slice_get h.tips sequence) (header_in page)

-- The state at a place of a transaction inventory page.
abbrev pub state_at : View → ℕ → Option ℕ → State
state_at seen place tip = unwrap_or (option_and_then (λ (t : ℕ). state_in (seen t) place) tip) Active

-- Views that show the same of each sequence have the same states.
pub same_shown : (before after : View) → size_of after ≡ size_of before → ((sequence place : ℕ) → state_at after place (tip_of after sequence) ≡ state_at before place (tip_of before sequence)) → HaveSameStates before after
same_shown before after size same number =
    ap (λ n. state_at after (number % tip_numbers n) (tip_of after (number / tip_numbers n))) size ∙ same (number / tip_numbers (size_of before)) (number % tip_numbers (size_of before))

-- Two contents of a page show the same of the states.
pub record ShowTheSame (old new : Option Page) : Type 0 where
  pub size : size_in new ≡ size_in old
  pub tips : (sequence : ℕ) → tip_in new sequence ≡ tip_in old sequence
  pub states : (place : ℕ) → state_in new place ≡ state_in old place

module _ (view : View) (number : ℕ) (content : Page) where
  abbrev after : View
  after = with_page view number content

  pub same_page_states : ShowTheSame (view number) (Some content) → HaveSameStates view after
  same_page_states same = same_shown view after (read_alike view number content (λ n o. size_in o) same.size 0) shown where
    read : (place : ℕ) (o : Option ℕ) → state_at after place o ≡ state_at view place o
    read place None = refl
    read place (Some t) = ap (λ o. unwrap_or o Active) (read_alike view number content (λ n o. state_in o place) (same.states place) t)

    shown : (sequence place : ℕ) → state_at after place (tip_of after sequence) ≡ state_at view place (tip_of view sequence)
    shown sequence place = ap (state_at after place) (read_alike view number content (λ n o. tip_in o sequence) (same.tips sequence) 0) ∙ read place (tip_of view sequence)

  -- A page that is no header and no transaction inventory page of the view may change at will.
  pub off_states : number ≢ 0 → ((sequence : ℕ) → ¬ (tip_of view sequence ≡ Some number)) → HaveSameStates view after
  off_states apart none = same_shown view after (ap size_in header) shown where
    header : after 0 ≡ view 0
    header = changed_elsewhere view number content 0 (λ e. apart (sym e))

    read : (place sequence : ℕ) (o : Option ℕ) → tip_of view sequence ≡ o → state_at after place o ≡ state_at view place o
    read place sequence None is = refl
    read place sequence (Some t) is =
        ap (λ p. unwrap_or (state_in p place) Active) (changed_elsewhere view number content t (λ e. none sequence (is ∙ ap Some e)))

    shown : (sequence place : ℕ) → state_at after place (tip_of after sequence) ≡ state_at view place (tip_of view sequence)
    shown sequence place = ap (λ p. state_at after place (tip_in p sequence)) header ∙ read place sequence (tip_of view sequence) refl

-- A header that names one more transaction inventory page, on which every number is active.
module _ (view : View) (number page : ℕ) (content : Page) (adds : AddsTip (view number) page content) (active : (place : ℕ) → unwrap_or (state_in (view page) place) Active ≡ Active) where
  abbrev added : View
  added = with_page view number content

  content_is : kind.Header (record adds.header { tips = adds.header.tips ++ page ∷ [] }) ≡ content
  content_is = adds.changes.made

  states : (place other : ℕ) → state_in (added other) place ≡ state_in (view other) place
  states place other = read_alike view number content (λ n o. state_in o place) (ap (λ p. state_in (Some p) place) (sym content_is) ∙ sym (ap (λ o. state_in o place) adds.changes.stands)) other

  size : size_of added ≡ size_of view
  size = read_alike view number content (λ n o. size_in o) (ap (λ p. size_in (Some p)) (sym content_is) ∙ sym (ap size_in adds.changes.stands)) 0

  read_same : (place : ℕ) (o : Option ℕ) → state_at added place o ≡ state_at view place o
  read_same place None = refl
  read_same place (Some t) = ap (λ o. unwrap_or o Active) (states place t)

  in_header : number ≡ 0 → (sequence place : ℕ) → state_at added place (tip_of added sequence) ≡ state_at view place (tip_of view sequence)
  in_header zero_ sequence place = elim (pushed adds.header.tips page sequence) [
    | inl same ↦ ap (state_at added place) (tips_after ∙ same ∙ sym tips_before) ∙ read_same place (tip_of view sequence)
    | inr is ↦
        ap (state_at added place) (tips_after ∙ is.new) ∙ ap (λ o. unwrap_or o Active) (states place page) ∙ active place
        ∙ sym (ap (state_at view place) (tips_before ∙ is.none))
  ] where
    tips_after : tip_of added sequence ≡ slice_get (adds.header.tips ++ page ∷ []) sequence
    tips_after = ap (λ n. tip_in (added n) sequence) (sym zero_) ∙ ap (λ o. tip_in o sequence) (changed_here view number content) ∙ ap (λ p. tip_in (Some p) sequence) (sym content_is)

    tips_before : tip_of view sequence ≡ slice_get adds.header.tips sequence
    tips_before = ap (λ n. tip_in (view n) sequence) (sym zero_) ∙ ap (λ o. tip_in o sequence) adds.changes.stands

  elsewhere : number ≢ 0 → (sequence place : ℕ) → state_at added place (tip_of added sequence) ≡ state_at view place (tip_of view sequence)
  elsewhere apart sequence place = ap (λ p. state_at added place (tip_in p sequence)) (changed_elsewhere view number content 0 (λ e. apart (sym e))) ∙ read_same place (tip_of view sequence)

  pub added_tip_states : HaveSameStates view added
  added_tip_states = elim (cases_eq number 0) [
    | inl is ↦ same_shown view added size (in_header is)
    | inr apart ↦ same_shown view added size (elsewhere apart)
  ]

-- Every edit but a mark, a format and one more transaction inventory page.
abbrev pub is_still : Edit → Bool
is_still (edit.Mark number state) = false
is_still (edit.AddTip page) = false
is_still (edit.Format page_kind page relation sequence) = false
is_still _ = true

header_shows : (old : Option Page) (content : Page) (before after : Header) → ChangesHeader old content before after → after.size ≡ before.size → after.tips ≡ before.tips → ShowTheSame old (Some content)
header_shows old content before after changes size tips =
    subst (λ p. ShowTheSame old (Some p)) changes.made
    (subst (λ o. ShowTheSame o (Some (kind.Header after))) (sym changes.stands) (record { size = size; tips = λ sequence. ap (λ ts. slice_get ts sequence) tips; states = λ place. refl }))

cell_shows : (old : Page) (b : Bool) (after content : Page) → ShowTheSame (Some old) (Some after) → given b after ≡ Some content → ShowTheSame (Some old) (Some content)
cell_shows old b after content same is = subst (λ p. ShowTheSame (Some old) (Some p)) (given_some b after content is).1 same

page_shows : (old : Option Page) (before after content : Page) → old ≡ Some before → after ≡ content → ShowTheSame (Some before) (Some after) → ShowTheSame old (Some content)
page_shows old before after content stands made same = subst (λ p. ShowTheSame old (Some p)) made (subst (λ o. ShowTheSame o (Some after)) (sym stands) same)

still_shows : (shape : Shape) (e : Edit) (old : Option Page) (content : Page) → is_still e ≡ true → Fits shape e old content → ShowTheSame old (Some content)
still_shows shape (edit.PutCell cell new) (Some (kind.Data d)) content still fits = cell_shows (kind.Data d) _ _ content (record { size = refl; tips = λ s. refl; states = λ p. refl }) fits
still_shows shape (edit.PutCell cell new) None content still fits = absurd fits
still_shows shape (edit.PutCell cell new) _ content still fits = cc
still_shows shape (edit.ClearCell cell) (Some (kind.Data d)) content still fits = cell_shows (kind.Data d) _ _ content (record { size = refl; tips = λ s. refl; states = λ p. refl }) fits
still_shows shape (edit.ClearCell cell) None content still fits = absurd fits
still_shows shape (edit.ClearCell cell) _ content still fits = cc
still_shows shape (edit.SetNext next) old content still fits = header_shows old content _ _ (raises_next shape next old content fits).changes refl refl
still_shows shape (edit.AddPointer relation page) old content still fits = header_shows old content _ _ (adds_pointer shape relation page old content fits).changes refl refl
still_shows shape edit.AddInventory old content still fits = header_shows old content _ _ (adds_inventory shape old content fits).changes refl refl
still_shows shape (edit.TakePage page) old content still fits =
    let m = takes_mark shape page old content fits in
    page_shows old _ _ content m.stands m.made (record { size = refl; tips = λ s. refl; states = λ p. refl })
still_shows shape (edit.FreePage page) old content still fits =
    let m = frees_mark shape page old content fits in
    page_shows old _ _ content m.stands m.made (record { size = refl; tips = λ s. refl; states = λ p. refl })
still_shows shape (edit.Name slot page) old content still fits =
    let m = names_slot shape slot page old content fits in
    page_shows old _ _ content m.stands m.made (record { size = refl; tips = λ s. refl; states = λ p. refl })
still_shows shape (edit.Unname slot) old content still fits =
    let m = unnames_slot shape slot old content fits in
    page_shows old _ _ content m.stands m.made (record { size = refl; tips = λ s. refl; states = λ p. refl })
still_shows shape _ old content still fits = absurd cc

-- Such an edit leaves the states.
pub still_states : (shape : Shape) (view : View) (number : ℕ) (e : Edit) (content : Page) → is_still e ≡ true → Fits shape e (view number) content → HaveSameStates view (with_page view number content)
still_states shape view number e content still fits = same_page_states view number content (still_shows shape e (view number) content still fits)

-- So does one more transaction inventory page, on which every number is active.
pub tip_states : (shape : Shape) (view : View) (number page : ℕ) (content : Page) → Fits shape (edit.AddTip page) (view number) content → ((place : ℕ) → unwrap_or (state_in (view page) place) Active ≡ Active)
    → HaveSameStates view (with_page view number content)
tip_states shape view number page content fits active = added_tip_states view number page content (adds_tip shape page (view number) content fits) active
