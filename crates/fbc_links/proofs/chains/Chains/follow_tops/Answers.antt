use Rattle.std.proofs.Common.{◌≡◌, ◌≤◌, ◌++◌, List, length, refl, sym, subst, ap, ◌∙◌, take, append-nil, arith}
use Rattle.std.proofs.lemmas.List.{take_all, length-map}
use Rattle.fbc_links.specs.Following.{AreFollowed}
use Rattle.fbc_reach.specs.Content.{version_kept}
use Rattle.fbc_links.specs.Links.{Link, links_of_cells}
use Rattle.fbc_links.specs.Versions.{IsWalked}
use Rattle.fbc_links.proofs.TopLinks.{next_cell}
use Rattle.fbc_links.proofs.chains.Chains.follow_tops.Goals as goal

pub loop-index-init : goal.loop-index-init
loop-index-init c = (
  refl,
  λ view all cells walked same few followed.
      let P : List Link → Type 0 = λ links. AreFollowed view links c.args.self.now in
      subst P (sym (append-nil all)) followed,
)

pub loop-index-preserved : goal.loop-index-preserved
loop-index-preserved c =
    let kept = c.loop-index.invariant.0 in (
      c.follow_top.ensures.walked ∙ kept,
      λ view all cells walked same few followed.
          let before = c.loop-index.invariant.1 view all cells walked same few followed in
          next_cell view c.args.relation c.args.page all cells c.args.versions.now c.loop-index.index c.in-Ok.cell _ c.follow_top.new.self same (omega arith) (grind (arith, c.in-Ok.ensures))
          (c.in_ok-follow_top.ensures.followed view (all ++ links_of_cells view c.args.relation c.args.page 0 (take c.loop-index.index cells))
          (subst (IsWalked view) (sym kept) walked) before),
    )

pub returns-after-loop-index-clause-followed : goal.returns-after-loop-index-clause-followed
returns-after-loop-index-clause-followed c view all cells walked same few followed =
    let P : List Link → Type 0 = λ links. AreFollowed view links c.loop-index.self in
    let count : length c.args.versions.now ≡ length cells = ap length same ∙ length-map cells version_kept in
    let end : length cells ≤ c.loop-index.index = omega (arith, count) in
    subst P (ap (λ done. all ++ links_of_cells view c.args.relation c.args.page 0 done) (take_all c.loop-index.index cells end))
    (c.loop-index.invariant.1 view all cells walked same few followed)
