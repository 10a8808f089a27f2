-- The page below is there.
use Rattle.std.proofs.Common.{◌≡◌, ◌≢◌, ◌⊎◌, ℕ, refl, subst, inl, inr}
use Rattle.fbc_chains.specs.Versions.{page_below}
use Rattle.fbc_chains.specs.Using.{IsLeftBelow, IsUsed}
use Rattle.fbc_chains.specs.Showing.{Showing, shown_by}
use Rattle.fbc_chains.proofs.Showing.{lent-is}
use Rattle.fbc_chains.proofs.Ways.{below-is, below-there}
use Rattle.fbc_chains.proofs.walking.step_down.Goals as goal

pub stand_below-requires : goal.stand_below-requires
stand_below-requires c = record {
  there =
      below-there (shown_by c.args.desk.now.cache) (shown_by c.cache.result.now) (shown_by c.hold_data.new.desk.cache) c.args.page c.args.cell c.back_page-below.result
      (lent-is c.cache.result.now c.args.desk.now.cache c.cache.ensures) c.back_page-below.ensures c.hold_data.ensures.same c.in-Here.ensures.held;
  used =
      subst (λ (b : ℕ). IsUsed c.hold_data.new.desk b)
      (below-is (shown_by c.args.desk.now.cache) (shown_by c.cache.result.now) (shown_by c.hold_data.new.desk.cache) c.args.page c.args.cell c.back_page-below.result
      (lent-is c.cache.result.now c.args.desk.now.cache c.cache.ensures) c.back_page-below.ensures c.hold_data.ensures.same)
      (c.in-Here.ensures.used refl);
}

pub returns-in-Here-clause-left : goal.returns-in-Here-clause-left
returns-in-Here-clause-left c = λ other used. go other (c.stand_below.ensures.left other used) where
  below : c.back_page-below.result ≡ page_below (shown_by c.hold_data.new.desk.cache) c.args.page c.args.cell
  below =
      below-is (shown_by c.args.desk.now.cache) (shown_by c.cache.result.now) (shown_by c.hold_data.new.desk.cache) c.args.page c.args.cell c.back_page-below.result
      (lent-is c.cache.result.now c.args.desk.now.cache c.cache.ensures) c.back_page-below.ensures c.hold_data.ensures.same

  old : (other : ℕ) → other ≢ page_below (shown_by c.hold_data.new.desk.cache) c.args.page c.args.cell → IsUsed c.args.desk.now other ⊎ (other ≡ c.back_page-below.result) → IsUsed c.args.desk.now other
  old other differs (inl used) = used
  old other differs (inr is) = absurd (differs (subst (λ (b : ℕ). other ≡ b) below is))

  go : (other : ℕ)
      → (IsUsed c.hold_data.new.desk other × (other ≢ c.args.page) × (other ≢ page_below (shown_by c.hold_data.new.desk.cache) c.args.page c.args.cell)) ⊎ IsLeftBelow (shown_by c.hold_data.new.desk.cache) c.args.page c.args.cell c.stand_below.result other
      → (IsUsed c.args.desk.now other × (other ≢ c.args.page)) ⊎ IsLeftBelow (shown_by c.args.desk.now.cache) c.args.page c.args.cell c.stand_below.result other
  go other (inl used) = inl (old other used.2 (c.hold_data.ensures.more other used.0), used.1)
  go other (inr left) = inr (subst (λ (s : Showing). IsLeftBelow s c.args.page c.args.cell c.stand_below.result other) c.hold_data.ensures.same left)
