-- Stamps are numbers of events before, after each event.
use Rattle.std.proofs.Common.{◌≡◌, ◌≤◌, ◌<◌, ◌==◌, ◌⊎◌, inl, inr, ℕ, zero, suc, Bool, true, false, not, ◌||◌, List, [], ◌∷◌, length, if◌then◌else◌, Option, Some, None, is_some, sym, arith}
use Rattle.std.specs.Prelude.{Contains, slice_index_or}
use Rattle.fbc_kinds.specs.declared.edits.Edit.{Edit}
use Rattle.fbc_kinds.specs.declared.edits.Edit.TheVariants as edit
use Rattle.fbc_kinds.specs.declared.pages.Cell.{Cell}
use Rattle.fbc_kinds.specs.declared.pages.Page.{Page}
use Rattle.fbc_kinds.specs.declared.shapes.Shape.{Shape}
use Rattle.fbc_kinds.specs.View.{View, cell_in}
use Rattle.fbc_world.specs.declared.events.Act.{Act}
use Rattle.fbc_world.specs.declared.events.Act.TheVariants.{Local, Write}
use Rattle.fbc_world.specs.declared.events.LocalEvent.TheVariants as local
use Rattle.fbc_world.specs.History.{History}
use Rattle.fbc_world.specs.Holdings.{is_draft_of}
use Rattle.fbc_world.specs.PageCell.{page_for}
use Rattle.fbc_world.specs.World.{World, page_after, world_of}
use Rattle.fbc_legal.specs.Scene.{scene_of}
use Rattle.fbc_legal.specs.Stamps.{PageStamps, Stamps, born_after, born_in_newest, meant_after, meant_by, stamped, stamps_for, stamps_of, stamps_step, stamps_written, takes_link}
use Rattle.fbc_origins.specs.Origins.{ArePast, StampsArePast}

-- What a list contains with one more in front.
in_front : (x : ℕ) (xs : List ℕ) (y k : ℕ) → k < length (x ∷ xs) → slice_index_or (x ∷ xs) k y ≡ y → (y ≡ x) ⊎ Contains xs y
in_front x xs y zero within is = inl (sym is)
in_front x xs y (suc k) within is = inr (k, grind (arith, within), is)

pub contains_front : (x : ℕ) (xs : List ℕ) (y : ℕ) → Contains (x ∷ xs) y → (y ≡ x) ⊎ Contains xs y
contains_front x xs y there = in_front x xs y there.0 there.1 there.2

either : (b : Bool) (n : ℕ) (x y : ℕ) → x ≤ n → y ≤ n → (if b then x else y) ≤ n
either true n x y one other = one
either false n x y one other = other

module _ (count : ℕ) where
  later : (s : Stamps) → ArePast count s → ArePast (suc count) s
  later s h = record { born = λ c. grind (arith, h.born c); meant = λ c. grind (arith, h.meant c); edits = λ e there. grind (arith, h.edits e there) }

  module _ (born : ℕ → ℕ → ℕ) (below : (page cell : ℕ) → born page cell ≤ count) where
    named : (b : Bool) (page cell : ℕ) → (if b then 0 else born page cell) ≤ suc count
    named true page cell = grind (arith)
    named false page cell = grind (arith, below page cell)

    born_past : (before : ℕ) (new : Cell) (old : Option Cell) → before ≤ count → born_after (suc count) before new old ≤ suc count
    born_past before new None past = grind (arith)
    born_past before new (Some old) past = either (takes_link old new) (suc count) before (suc count) (grind (arith, past)) (grind (arith))

    meant_past : (before : ℕ) (new : Cell) (old : Option Cell) → before ≤ count → meant_after born before new old ≤ suc count
    meant_past before new None past = named (new.back_page == 0) new.back_page new.back_cell
    meant_past before new (Some old) past = either (takes_link old new) (suc count) before (meant_by born new) (grind (arith, past)) (named (new.back_page == 0) new.back_page new.back_cell)

    edits_past : (s : Stamps) → ArePast count s → (e : ℕ) → Contains (suc count ∷ s.edits) e → e ≤ suc count
    edits_past s h e there = go (contains_front (suc count) s.edits e there) where
      go : (e ≡ suc count) ⊎ Contains s.edits e → e ≤ suc count
      go (inl is) = grind (arith, is)
      go (inr old) = grind (arith, h.edits e old)

    same_cells : (s : Stamps) → ArePast count s → ArePast (suc count) (record s { edits = suc count ∷ s.edits })
    same_cells s h = record { born = (later s h).born; meant = (later s h).meant; edits = edits_past s h }

    stamped-past : (before : Option Page) (e : Edit) (s : Stamps) → ArePast count s → ArePast (suc count) (stamped (suc count) born before e s)
    stamped-past before (edit.PutCell cell content) s h = record {
      born = λ c. either (c == cell) (suc count) (born_after (suc count) (s.born c) content (cell_in before c)) (s.born c) (born_past (s.born c) content (cell_in before c) (h.born c)) (grind (arith, h.born c));
      meant = λ c. either (c == cell) (suc count) (meant_after born (s.meant c) content (cell_in before c)) (s.meant c) (meant_past (s.meant c) content (cell_in before c) (h.meant c)) (grind (arith, h.meant c));
      edits = edits_past s h;
    }
    stamped-past before (edit.ClearCell cell) s h = record {
      born = λ c. either (c == cell) (suc count) (suc count) (s.born c) (grind (arith)) (grind (arith, h.born c));
      meant = λ c. either (c == cell) (suc count) 0 (s.meant c) (grind (arith)) (grind (arith, h.meant c));
      edits = edits_past s h;
    }
    stamped-past before (edit.Format k page relation sequence) s h = record { born = λ c. grind (arith); meant = λ c. grind (arith); edits = edits_past s h }
    stamped-past before (edit.SetNext next) s h = same_cells s h
    stamped-past before (edit.AddTip page) s h = same_cells s h
    stamped-past before (edit.AddPointer relation page) s h = same_cells s h
    stamped-past before edit.AddInventory s h = same_cells s h
    stamped-past before (edit.TakePage page) s h = same_cells s h
    stamped-past before (edit.FreePage page) s h = same_cells s h
    stamped-past before (edit.Mark number state) s h = same_cells s h
    stamped-past before (edit.Name slot page) s h = same_cells s h
    stamped-past before (edit.Unname slot) s h = same_cells s h

  module _ (shape : Shape) (w : World) (s : PageStamps) (past : (page : ℕ) → ArePast count (s.kept page) × ArePast count (s.draft page)) where
    chosen : (b : Bool) (page : ℕ) → ArePast count (if b then s.draft page else s.kept page)
    chosen true page = (past page).1
    chosen false page = (past page).0

    below_count : (page cell : ℕ) → born_in_newest w s page cell ≤ count
    below_count page cell = (chosen (is_some (w.draft page)) page).born cell

    stays : (page : ℕ) → ArePast (suc count) (s.kept page) × ArePast (suc count) (s.draft page)
    stays page = (later (s.kept page) (past page).0, later (s.draft page) (past page).1)

    edited : (owner number : ℕ) (e : Edit) (page : ℕ) (fits : Bool)
        → let made : PageStamps = record s { draft = λ p. if p == number then stamped (suc count) (born_in_newest w s) (page_for owner (w.kept number) (w.draft number)) e (stamps_for owner w s number) else s.draft p } in
        ArePast (suc count) ((if fits then made else s).kept page) × ArePast (suc count) ((if fits then made else s).draft page)
    edited owner number e page false = stays page
    edited owner number e page true = ((stays page).0, go (page == number)) where
      go : (b : Bool) → ArePast (suc count) (if b then stamped (suc count) (born_in_newest w s) (page_for owner (w.kept number) (w.draft number)) e (stamps_for owner w s number) else s.draft page)
      go true = stamped-past (born_in_newest w s) below_count (page_for owner (w.kept number) (w.draft number)) e (stamps_for owner w s number) (chosen (is_draft_of owner (w.draft number)) number)
      go false = (stays page).1

    wrote : (owner number page : ℕ) (lands : Bool) → ArePast (suc count) ((if lands then stamps_written w owner number s else s).kept page) × ArePast (suc count) ((if lands then stamps_written w owner number s else s).draft page)
    wrote owner number page false = stays page
    wrote owner number page true = (go (page == number), (stays page).1) where
      go : (b : Bool) → ArePast (suc count) (if b then stamps_for owner w s page else s.kept page)
      go true = later (stamps_for owner w s page) (chosen (is_draft_of owner (w.draft page)) page)
      go false = (stays page).0

    pub step-past : (owner : ℕ) (act : Act) (landed : Bool) (page : ℕ)
        → ArePast (suc count) ((stamps_step shape w (suc count) owner act landed s).kept page) × ArePast (suc count) ((stamps_step shape w (suc count) owner act landed s).draft page)
    step-past owner (Local (local.Edit number e)) landed page = edited owner number e page (is_some (page_after shape w owner number e))
    step-past owner (Local (local.Before high low)) landed page = stays page
    step-past owner (Local (local.Pin number)) landed page = stays page
    step-past owner (Local (local.Unpin number)) landed page = stays page
    step-past owner (Write number cause failed) landed page = wrote owner number page (not failed || landed)
    step-past owner _ landed page = stays page

-- After every history.
pub stamps-past : (shape : Shape) (file : View) (history : History) → StampsArePast (scene_of shape file history)
stamps-past shape file [] page = (record { born = λ c. grind (arith); meant = λ c. grind (arith); edits = none }, record { born = λ c. grind (arith); meant = λ c. grind (arith); edits = none }) where
  none : (e : ℕ) → Contains [] e → e ≤ 0
  none e there = absurd (grind (arith, there.1))
stamps-past shape file (moment ∷ before) page =
    step-past (length before) shape (world_of shape file before) (stamps_of shape file before) (stamps-past shape file before) moment.event.actor moment.event.act moment.landed page
