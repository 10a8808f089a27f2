-- Who has the draft of a page has it in EX.
use Rattle.std.proofs.Common.{◌≡◌, ℕ, true, Option, Some, None, subst}
use Rattle.fbc_levels.specs.declared.levels.Level.TheVariants.{Ex}
use Rattle.fbc_world.specs.declared.drafts.Draft.{Draft}
use Rattle.fbc_world.specs.Holdings.{is_draft_of}
use Rattle.fbc_levels.specs.Resources.{page_resource}
use Rattle.fbc_world.specs.World.{World}
use Rattle.fbc_legal.specs.Coherent.{IsCoherent, IsDraftHeld}
use Rattle.fbc_legal.proofs.Exclusion.{same_number}

pub drafted_exclusive : (w : World) → IsCoherent w → (owner page : ℕ) → is_draft_of owner (w.draft page) ≡ true → w.granted owner (page_resource page) ≡ Ex
drafted_exclusive w h owner page own = go (w.draft page) (h.drafts page) own where
  go : (draft : Option Draft) → IsDraftHeld w page draft → is_draft_of owner draft ≡ true → w.granted owner (page_resource page) ≡ Ex
  go None held own' = absurd (cc)
  go (Some d) held own' = subst (λ o. w.granted o (page_resource page) ≡ Ex) (same_number d.owner owner own') held.1
