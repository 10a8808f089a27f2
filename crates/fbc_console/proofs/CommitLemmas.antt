-- What commit writes, where nothing was inserted and where something was.
use Rattle.std.proofs.Common.{◌≡◌, ◌<◌, Bool, subst, sym, ℕ, List, [], ◌∷◌, length, arith}
use Rattle.std.specs.Prelude.{◌↔◌, IsTrue}
use Rattle.fbc_kinds.specs.declared.pages.Data.{Data}
use Rattle.fbc_kinds.specs.DataSpelling.{SpellsData}
use Rattle.fbc_kinds.specs.declared.pages.Page.TheVariants as page
use Rattle.fbc_console.specs.declared.writes.PageImage.{PageImage}
use Rattle.fbc_console.specs.FreshFile.{begun_header, filled_inventory, committed_tip, filled_pointer, filled_data}
use Rattle.fbc_console.specs.Images.{IsImage, AreImages, commit_pages}

pub AreImages-empty : (values : List (List ℕ)) (header tip : PageImage) → length values ≡ 0 → IsImage (page.Header begun_header) header → IsImage (page.Tip committed_tip) tip → AreImages (commit_pages values) (header ∷ tip ∷ [])
AreImages-empty [] header tip none h t = (h, (t, tt))
AreImages-empty (value ∷ values) header tip none h t = let no : ⊥ = omega (arith, none) in absurd no

pub AreImages-filled : (values : List (List ℕ)) (header inventory held pointer tip : PageImage) → 0 < length values → IsImage (page.Header begun_header) header → IsImage (page.Inventory filled_inventory) inventory → IsImage (page.Data (filled_data values)) held → IsImage (page.Pointer filled_pointer) pointer → IsImage (page.Tip committed_tip) tip → AreImages (commit_pages values) (header ∷ inventory ∷ held ∷ pointer ∷ tip ∷ [])
AreImages-filled [] header inventory held pointer tip some h i d p t = let no : ⊥ = omega (arith, some) in absurd no
AreImages-filled (value ∷ values) header inventory held pointer tip some h i d p t = (h, (i, (d, (p, (t, tt)))))

-- Bytes are a fresh page's where they are the same as bytes that spell it.
pub is_fresh : {X : Type 0} (Spells : X → List ℕ → Type 0) (page fresh : X) (bytes image : List ℕ) (same : Bool) → page ≡ fresh → Spells page image → (IsTrue same ↔ (bytes ≡ image)) → ((a b : List ℕ) → Spells fresh a → Spells fresh b → a ≡ b) → IsTrue same ↔ Spells fresh bytes
is_fresh Spells page fresh bytes image same is spelled test once =
    let whole : Spells fresh image = subst (λ p. Spells p image) is spelled in
    (λ true_. subst (Spells fresh) (sym (test.0 true_)) whole, λ other. test.1 (once bytes image other whole))

pub IsImage-data : (held filled : Data) (image : PageImage) → held ≡ filled → image.page ≡ held.page → SpellsData 1024 10 held image.bytes → IsImage (page.Data filled) image
IsImage-data held filled image same place spelled = subst (λ (d : Data). (image.page ≡ d.page) × SpellsData 1024 10 d image.bytes) same (place, spelled)
