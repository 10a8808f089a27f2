-- Chains of a sound view: more turns than the number of a version change nothing.
use Rattle.std.proofs.Common.{◌≡◌, ◌∙◌, ◌<◌, ◌≤◌, ◌==◌, ℕ, zero, suc, Bool, true, false, [], ◌∷◌, refl, sym, ap, arith}
use Rattle.std.specs.Prelude.{Some, None, if◌then◌else◌}
use Rattle.fbc_kinds.specs.declared.pages.Cell.{Cell}
use Rattle.fbc_kinds.specs.Chain.{below, version_of, versions_from}
use Rattle.fbc_kinds.specs.Reach.{ReachesCell, along, LinksTo}
use Rattle.fbc_kinds.specs.Sound.{IsSound}
use Rattle.fbc_kinds.specs.View.{View, cell_at}

-- What stands below a version, by whether it names a back version.
pub below_none : (view : View) (version : Cell) → (version.back_page == 0) ≡ true → below view version ≡ None
below_none view version is = ap (λ b. if b then None else cell_at view version.back_page version.back_cell) is

pub below_some : (view : View) (version : Cell) → (version.back_page == 0) ≡ false → below view version ≡ cell_at view version.back_page version.back_cell
below_some view version is = ap (λ b. if b then None else cell_at view version.back_page version.back_cell) is

pub no_versions : (view : View) (count : ℕ) → versions_from view count None ≡ []
no_versions view zero = refl
no_versions view (suc count) = refl

-- The link of a version that is reached.
pub link_of : (view : View) (relation page cell : ℕ) (version : Cell) → ReachesCell view relation page cell → cell_at view page cell ≡ Some version → (version.back_page == 0) ≡ false
    → LinksTo view relation page cell version version.back_page version.back_cell
link_of view relation page cell version reached stands some = record { reached = reached; stands = stands; names = record { some = some; page_is = refl; cell_is = refl } }

pub below_reached : (view : View) (relation page cell : ℕ) (version : Cell) → ReachesCell view relation page cell → cell_at view page cell ≡ Some version → (version.back_page == 0) ≡ false
    → ReachesCell view relation version.back_page version.back_cell
below_reached view relation page cell version reached stands some =
    along page cell version.back_page version.back_cell version reached stands (record { some = some; page_is = refl; cell_is = refl })

pub enough : (view : View) → IsSound view → (count other relation page cell : ℕ) (version : Cell) → ReachesCell view relation page cell → cell_at view page cell ≡ Some version
    → version.number < count → version.number < other → versions_from view count (Some version) ≡ versions_from view other (Some version)
enough view sound zero other relation page cell version reached stands one two = absurd (omega arith)
enough view sound (suc count) zero relation page cell version reached stands one two = absurd (omega arith)
enough view sound (suc count) (suc other) relation page cell version reached stands one two =
    ap (λ rest. version_of version ∷ rest) (go (version.back_page == 0) refl (λ w. enough view sound count other relation version.back_page version.back_cell w))
  where
    go : (b : Bool) → (version.back_page == 0) ≡ b
        → ((w : Cell) → ReachesCell view relation version.back_page version.back_cell → cell_at view version.back_page version.back_cell ≡ Some w
        → w.number < count → w.number < other → versions_from view count (Some w) ≡ versions_from view other (Some w))
        → versions_from view count (below view version) ≡ versions_from view other (below view version)
    go true is later =
        let none = below_none view version is in
        ap (versions_from view count) none ∙ no_versions view count ∙ sym (ap (versions_from view other) none ∙ no_versions view other)
    go false is later =
        let value = sound.back relation page cell version.back_page version.back_cell version (link_of view relation page cell version reached stands is) in
        let here = below_some view version is ∙ value.stands in
        ap (versions_from view count) here
        ∙ later value.back (below_reached view relation page cell version reached stands is) value.stands (omega (arith, value.smaller)) (omega (arith, value.smaller))
        ∙ sym (ap (versions_from view other) here)

-- As many turns as its number is are enough for what is below a version.
pub enough_below : (view : View) → IsSound view → (count other relation page cell : ℕ) (version : Cell) → ReachesCell view relation page cell → cell_at view page cell ≡ Some version
    → version.number ≤ count → version.number ≤ other → versions_from view count (below view version) ≡ versions_from view other (below view version)
enough_below view sound count other relation page cell version reached stands one two =
    go (version.back_page == 0) refl
  where
    go : (b : Bool) → (version.back_page == 0) ≡ b → versions_from view count (below view version) ≡ versions_from view other (below view version)
    go true is =
        let none = below_none view version is in
        ap (versions_from view count) none ∙ no_versions view count ∙ sym (ap (versions_from view other) none ∙ no_versions view other)
    go false is =
        let value = sound.back relation page cell version.back_page version.back_cell version (link_of view relation page cell version reached stands is) in
        let here = below_some view version is ∙ value.stands in
        ap (versions_from view count) here
        ∙ enough view sound count other relation version.back_page version.back_cell value.back (below_reached view relation page cell version reached stands is) value.stands (omega (arith, value.smaller)) (omega (arith, value.smaller))
        ∙ sym (ap (versions_from view other) here)
