-- The cache after an edit, and which page is written next.
use Rattle.std.specs.Prelude.{◌≡◌, ◌⊎◌, ◌≤◌, ◌==◌, ◌&&◌, ◌||◌, ℕ, Bool, true, false, not, List, [], ◌∷◌, ◌++◌, Option, Some, None, is_some, map}
use Rattle.fbc_kinds.specs.declared.edges.Edge.{Edge}
use Rattle.fbc_kinds.specs.declared.edits.Edit.{Edit}
use Rattle.fbc_kinds.specs.declared.pages.Page.{Page}
use Rattle.fbc_levels.specs.declared.levels.Level.TheVariants.{Ex}
use Rattle.fbc_precedence.specs.declared.related.Related.{Related}
use Rattle.fbc_precedence.specs.declared.related.Related.TheVariants as related
use Rattle.fbc_precedence.specs.Precedence.{AreUnrelated, IsBlocked, ComesBefore, pair_of}
use Rattle.fbc_world.specs.PageCell.{edited}
use Rattle.fbc_buffers.specs.declared.buffers.Buffer.{Buffer}
use Rattle.fbc_buffers.specs.Holding.{with_copy, with_dirt}
use Rattle.fbc_cache.specs.declared.edits.Edited.{Edited}
use Rattle.fbc_cache.specs.declared.edits.Edited.TheVariants as edits
use Rattle.fbc_cache.specs.Cache.{CacheState, copy_in, is_dirty_in, is_pinned_in, level_in}
use Rattle.fbc_cache.specs.Remembered.{remembered_after}

-- What the page becomes by the edit; none where it does not fit.
abbrev pub page_after : CacheState → ℕ → Edit → Option Page
page_after c page edit = edited c.shape edit (copy_in c.held page)

-- A page of which the draft is to be written before an edited one: another page, and dirty.
abbrev pub needs_pair : List Buffer → ℕ → ℕ → Bool
needs_pair held page high = is_dirty_in held high && not (high == page)

-- The answer that another page is to be written first.
abbrev pub is_write_first : Related → Bool
is_write_first (related.WriteFirst page) = true
is_write_first _ = false

-- What the relating of one high page comes to: the pairs that stand afterwards, and whether the edited page is to be written before it.
abbrev pub RelatesTo : List Edge → ℕ → ℕ → List Edge → Bool → Type 0
RelatesTo pairs high page after true = ComesBefore pairs page high × (after ≡ pairs)
RelatesTo pairs high page after false =
    (AreUnrelated pairs high page × (after ≡ pairs ++ pair_of high page ∷ [])) ⊎ (ComesBefore pairs high page × (after ≡ pairs))

-- The high pages are related to the edited one in their order, up to the first that it is to be written before. The pairs that stand
-- afterwards, and that page, if there is one.
abbrev pub Relates : List Buffer → ℕ → List Edge → List ℕ → List Edge → Option ℕ → Type 0
Relates held page pairs [] after first = (after ≡ pairs) × (first ≡ None)
Relates held page pairs (high ∷ highs) after first =
    ((needs_pair held page high ≡ false) × Relates held page pairs highs after first)
    ⊎ ((needs_pair held page high ≡ true)
    × ((AreUnrelated pairs high page × Relates held page (pairs ++ pair_of high page ∷ []) highs after first)
    ⊎ ((ComesBefore pairs high page × Relates held page pairs highs after first)
    ⊎ (ComesBefore pairs page high × (after ≡ pairs) × (first ≡ Some high)))))

-- With these pairs, and with the edit.
abbrev pub with_edit : CacheState → ℕ → Option Page → CacheState
with_edit c page content = record c {
  held = map (with_dirt page true) (map (with_copy page content) c.held);
  pointers = remembered_after page content c.pointers;
}

-- Where a page stands in the way nothing was edited.
abbrev pub after_edit : CacheState → ℕ → Edit → List Edge → Option ℕ → CacheState
after_edit c page edit pairs None = with_edit (record c { pairs = pairs }) page (page_after c page edit)
after_edit c page edit pairs (Some high) = record c { pairs = pairs }

abbrev pub answer_to_edit : ℕ → Option ℕ → Edited
answer_to_edit page None = edits.Done
answer_to_edit page (Some high) = edits.WriteFirst page high

-- What an edit comes to.
pub record Edits (before after : CacheState) (page : ℕ) (edit : Edit) (highs : List ℕ) (answer : Edited) : Type 0 where
  pub pairs : List Edge
  pub first : Option ℕ
  pub relates : Relates before.held page before.pairs highs pairs first
  pub answered : answer ≡ answer_to_edit page first
  pub is_after : after ≡ after_edit before page edit pairs first

-- The page is dirty, and no dirty page is to be written before it.
pub record IsNextDirty (c : CacheState) (page : ℕ) : Type 0 where
  pub dirty : is_dirty_in c.held page ≡ true
  pub next : (other : ℕ) → is_dirty_in c.held other ≡ true → ¬ ComesBefore c.pairs other page

-- The page of this buffer is dirty, and no page stands before it.
pub record IsFree (pairs : List Edge) (b : Buffer) : Type 0 where
  pub dirty : b.is_dirty ≡ true
  pub free : ¬ IsBlocked pairs b.page

-- No page is dirty.
abbrev pub AllClean : CacheState → Type 0
AllClean c = (page : ℕ) → is_dirty_in c.held page ≡ false

-- Whether a buffer is clean, or is this page's.
abbrev pub is_clean_beside : ℕ → Buffer → Bool
is_clean_beside page b = (b.page == page) || not b.is_dirty

-- The least page that is written next; none where no page is dirty.
abbrev pub IsLeastDirty : CacheState → Option ℕ → Type 0
IsLeastDirty c (Some page) = IsNextDirty c page × ((other : ℕ) → IsNextDirty c other → page ≤ other)
IsLeastDirty c None = AllClean c

-- What an edit needs: the page is held in EX, is in use, and the edit fits it.
pub record MayEdit (c : CacheState) (page : ℕ) (edit : Edit) : Type 0 where
  pub exclusive : level_in c.held page ≡ Ex
  pub pinned : is_pinned_in c.held page ≡ true
  pub fits : is_some (page_after c page edit) ≡ true
