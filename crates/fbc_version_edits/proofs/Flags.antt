-- What the flag of a version tells: a cell that is reached holds a top or a back value, and only back values are named.
use Rattle.std.proofs.Common.{◌≡◌, ◌∙◌, ℕ, true, false, ◌⊎◌, inl, inr, refl, sym, ap}
use Rattle.std.specs.Prelude.{Some}
use Rattle.std.proofs.lemmas.Option.{same_Some}
use Rattle.fbc_kinds.specs.declared.pages.Cell.{Cell}
use Rattle.fbc_kinds.specs.declared.pages.Flag.{Flag}
use Rattle.fbc_kinds.specs.declared.pages.Flag.TheVariants as flag
use Rattle.fbc_kinds.specs.Lost.{IsLostCell}
use Rattle.fbc_kinds.specs.Reach.{ReachesCell, top, along}
use Rattle.fbc_kinds.specs.Sound.{IsSound}
use Rattle.fbc_kinds.specs.View.{View, cell_at, is_back, is_empty, is_top}
use Rattle.fbc_page_edits.specs.Facing.{IsLinked}

pub back_of_empty : (f : Flag) → is_empty f ≡ true → is_back f ≡ false
back_of_empty flag.Empty is = refl
back_of_empty flag.Primary is = cc
back_of_empty flag.Deletion is = cc
back_of_empty flag.Back is = cc

pub back_of_top : (f : Flag) → is_top f ≡ true → is_back f ≡ false
back_of_top flag.Empty is = cc
back_of_top flag.Primary is = refl
back_of_top flag.Deletion is = refl
back_of_top flag.Back is = cc

pub top_of_empty : (f : Flag) → is_empty f ≡ true → is_top f ≡ false
top_of_empty flag.Empty is = refl
top_of_empty flag.Primary is = cc
top_of_empty flag.Deletion is = cc
top_of_empty flag.Back is = cc

pub top_of_back : (f : Flag) → is_back f ≡ true → is_top f ≡ false
top_of_back flag.Empty is = cc
top_of_back flag.Primary is = cc
top_of_back flag.Deletion is = cc
top_of_back flag.Back is = refl

-- Neither an empty cell nor a top is lost.
pub empty_stays : {view : View} (page cell : ℕ) (version : Cell) → cell_at view page cell ≡ Some version → is_empty version.flag ≡ true → ¬ IsLostCell view page cell
empty_stays page cell version stands is lost = let same = same_Some version lost.version (sym stands ∙ lost.stands) in let holds = lost.holds in cc

pub top_stays : {view : View} (page cell : ℕ) (version : Cell) → cell_at view page cell ≡ Some version → is_top version.flag ≡ true → ¬ IsLostCell view page cell
top_stays page cell version stands is lost = lost.unreached lost.relation (top lost.sequence page cell version lost.reached stands is)

module _ {view : View} (sound : IsSound view) where
  -- A version that is named is a back value.
  pub linked_back : (page cell : ℕ) (version : Cell) → IsLinked view page cell → cell_at view page cell ≡ Some version → is_back version.flag ≡ true
  linked_back page cell version linked stands =
      let value = sound.back linked.relation linked.from_page linked.from_cell page cell linked.version linked.links in
      ap (λ (v : Cell). is_back v.flag) (same_Some version value.back (sym stands ∙ value.stands)) ∙ value.is_value

  -- So none names another version.
  pub unlinked : (page cell : ℕ) (version : Cell) → cell_at view page cell ≡ Some version → is_back version.flag ≡ false → ¬ IsLinked view page cell
  unlinked page cell version stands is linked = let back = linked_back page cell version linked stands in cc

  -- A cell is reached as a top, or by a link.
  pub reached_how : (relation page cell : ℕ) → ReachesCell view relation page cell → (version : Cell) → cell_at view page cell ≡ Some version
      → (is_top version.flag ≡ true) ⊎ IsLinked view page cell
  reached_how relation _ _ (top sequence page cell found named stands is) version here =
      inl (ap (λ (v : Cell). is_top v.flag) (same_Some version found (sym here ∙ stands)) ∙ is)
  reached_how relation _ _ (along page cell back_page back_cell found reached stands names) version here =
      inr (record { relation = relation; from_page = page; from_cell = cell; version = found; links = record { reached = reached; stands = stands; names = names } })

  -- An empty cell, or a back value that none names, is not reached.
  pub unreached : (relation page cell : ℕ) (version : Cell) → cell_at view page cell ≡ Some version → is_top version.flag ≡ false → ¬ IsLinked view page cell → ¬ ReachesCell view relation page cell
  unreached relation page cell version stands is none reached = go (reached_how relation page cell reached version stands)
    where
      go : (is_top version.flag ≡ true) ⊎ IsLinked view page cell → ⊥
      go (inl also) = cc
      go (inr linked) = none linked
