use Rattle.std.proofs.Common.{◌≡◌, List, Some, sym, subst, ap, ◌∙◌, take, arith}
use Rattle.std.specs.List.{flat_map}
use Rattle.std.proofs.lemmas.List.{take_all}
use Rattle.fbc_links.specs.Following.{AreMarks, links_of_naming}
use Rattle.fbc_links.specs.Links.{Link}
use Rattle.fbc_reach.specs.Tally.{IsTallyOf}
use Rattle.fbc_links.specs.Versions.{IsWalked}
use Rattle.fbc_reach.specs.Walk.{namings}
use Rattle.fbc_links.specs.declared.versions.Walked.{Walked}
use Rattle.fbc_links.proofs.PageLinks.{all_links, are_chains, next_page}
use Rattle.fbc_links.proofs.chains.follow.Goals as goal

pub loop-naming-preserved : goal.loop-naming-preserved
loop-naming-preserved c =
    let before = c.loop-naming.invariant in
    let same = c.follow_page.ensures.walked in (
      ap (λ (w : Walked). w.tally.now) same ∙ before.0,
      ap (λ (w : Walked). w.size) same ∙ before.1,
      ap (λ (w : Walked). w.tips.now) same ∙ before.2,
      λ view walked.
          let here = subst (IsWalked view) same walked in
          next_page view c.args.found.now c.loop-naming.naming-index _ c.follow_page.new.self (omega arith)
          (c.in_ok-follow_page.ensures.followed view (flat_map (links_of_naming view) (take c.loop-naming.naming-index c.args.found.now)) here (before.3 view here)),
    )

pub returns : goal.returns
returns c shape bytes view header size shown is header_size tips kept all =
    let found = c.args.found.now in
    let last = c.loop-naming.invariant in
    let followed = last.3 view (record {
      shape = shape;
      bytes = bytes;
      header = header;
      shape_size = size ∙ sym last.1;
      shown = shown;
      header_is = is;
      header_size = header_size ∙ sym last.1;
      header_tips = tips ∙ sym last.2;
      kept = subst (IsTallyOf shape (Some bytes) (namings view)) (sym last.0) kept;
    })
    in
    let P : List Link → Type 0 = λ links. AreMarks view links c.loop-naming.chains in
    let whole : take c.loop-naming.naming-index found ≡ found = take_all c.loop-naming.naming-index found c.loop-naming-test.false in
    are_chains view c.loop-naming.chains (subst P (ap (flat_map (links_of_naming view)) (whole ∙ all) ∙ all_links view) followed.marks)
