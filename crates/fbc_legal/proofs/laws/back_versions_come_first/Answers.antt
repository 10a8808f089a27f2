use Rattle.std.proofs.Common.{◌≡◌, ◌≢◌, ◌∙◌, ◌⊎◌, inl, inr, ℕ, true, Option, Some, None, sym, ap, subst, arith}
use Rattle.std.specs.Option.{IsSomeAnd, option_map}
use Rattle.std.proofs.lemmas.Bool.Decides.{nat_tests}
use Rattle.fbc_kinds.specs.declared.pages.Cell.{Cell}
use Rattle.fbc_kinds.specs.declared.pages.Page.{Page}
use Rattle.fbc_kinds.specs.declared.pages.Page.TheVariants as kind
use Rattle.fbc_kinds.specs.View.{cell_in, is_back}
use Rattle.fbc_world.specs.declared.drafts.Draft.{Draft}
use Rattle.fbc_world.specs.Holdings.{is_draft_of}
use Rattle.fbc_world.specs.World.{world_of}
use Rattle.fbc_world.proofs.WorldLaws.{IsReplayed-world}
use Rattle.fbc_legal.specs.Facts.{HoldsBack}
use Rattle.fbc_legal.specs.Leans.{PutLeansOn}
use Rattle.fbc_legal.specs.Scene.{Scene, HasDraft, IsBefore, born_at, newest_at, scene_of}
use Rattle.fbc_legal.specs.Stamps.{Stamps}
use Rattle.fbc_legal.proofs.laws.back_versions_come_first.Goals as goal

drafter_is : (owner : ℕ) (found : Option Draft) → is_draft_of owner found ≡ true → option_map (λ (d : Draft). d.owner) found ≡ Some owner
drafter_is owner None own = absurd cc
drafter_is owner (Some d) own = grind (arith, nat_tests, own)

back_there : (relation cell number stamp : ℕ) (content : Option Page) (stamps : Stamps) → HoldsBack relation cell number stamp content stamps
    → IsSomeAnd (cell_in content cell) (λ (back : Cell). is_back back.flag ≡ true)
back_there relation cell number stamp content stamps holds = rw holds.stands holds.is_value

module _ (at : Scene) (owner page cell : ℕ) (content : Cell) (linked : content.back_page ≢ 0) (apart : content.back_page ≢ page) (other : ¬ HasDraft at owner content.back_page) where
  abbrev Stands : Type 0
  Stands = IsSomeAnd (cell_in (at.world.kept content.back_page) content.back_cell) (λ (back : Cell). is_back back.flag ≡ true)

  in_time : (relation : ℕ) → (content.back_page ≡ page) ⊎ HoldsBack relation content.back_cell content.number (born_at at content.back_page content.back_cell) (at.world.kept content.back_page) (at.stamps.kept content.back_page)
      ⊎ (HasDraft at owner content.back_page × IsBefore at content.back_page page) → Stands
  in_time relation (inl same) = absurd (apart same)
  in_time relation (inr (inl kept_shows)) = back_there relation content.back_cell content.number (born_at at content.back_page content.back_cell) (at.world.kept content.back_page) (at.stamps.kept content.back_page) kept_shows
  in_time relation (inr (inr own)) = absurd (other own.0)

  in_file : (found : Option Page) → PutLeansOn at owner page cell content found → Stands
  in_file (Some (kind.Data d)) leans = in_time d.relation (leans.link linked).back.in_time
  in_file _ leans = absurd leans

pub returns : goal.returns
returns c = λ shape file before owner page cell content landed legal linked apart other.
    let r = IsReplayed-world shape file before in
    let not_own : ¬ HasDraft (scene_of shape file before) owner content.back_page = λ own. other (ap (option_map (λ (d : Draft). d.owner)) (sym (r.draft_is content.back_page)) ∙ drafter_is owner ((world_of shape file before).draft content.back_page) own) in
    subst (λ (p : Option Page). IsSomeAnd (cell_in p content.back_cell) (λ (back : Cell). is_back back.flag ≡ true)) (r.kept_is content.back_page)
    (in_file (scene_of shape file before) owner page cell content linked apart not_own (newest_at (scene_of shape file before) page) legal.1.guard.leans)
