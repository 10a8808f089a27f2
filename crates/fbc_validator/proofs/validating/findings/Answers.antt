use Rattle.std.proofs.Common.{rules, ◌≡◌, ◌<◌, length, refl, sym, subst, ◌∙◌}
use Rattle.fbc_kinds.specs.Limits.{IsPageSize}
use Rattle.fbc_validator.proofs.Found.{spelled_by, with_damage, without_damage}
use Rattle.fbc_validator.proofs.validating.findings.Goals as goal

pub returns-then-len-ne0-clause-found : goal.returns-then-len-ne0-clause-found
returns-then-len-ne0-clause-found c shape bytes view size shown is next kept found =
    let header = c.args.header.now in
    let chains = c.in_ok-chains.ensures shape bytes view header size shown is refl (sym c.items.ensures) kept (c.deref.ensures.value ∙ found) in
    let are = c.in_ok-damages.ensures shape bytes view shown is next kept chains in
    let spelled = spelled_by shape bytes view shown c.args.visited.now.tally kept in
    let sound = c.sound_without_damage.ensures shape bytes view c.in_ok-damages.damages (subst IsPageSize (sym size) c.requires.size) shown spelled are in
    let some : 0 < length c.in_ok-damages.damages = search rules in
    with_damage shape bytes view c.in_ok-damages.damages sound are some c.damaged.result c.damaged.ensures.damages c.damaged.ensures.lost_pages c.damaged.ensures.lost_cells

pub returns-clause-found : goal.returns-clause-found
returns-clause-found c shape bytes view size shown is next kept found =
    let header = c.args.header.now in
    let chains = c.in_ok-chains.ensures shape bytes view header size shown is refl (sym c.items.ensures) kept (c.deref.ensures.value ∙ found) in
    let are = c.in_ok-damages.ensures shape bytes view shown is next kept chains in
    let spelled = spelled_by shape bytes view shown c.args.visited.now.tally kept in
    let sound = c.sound_without_damage.ensures shape bytes view c.in_ok-damages.damages (subst IsPageSize (sym size) c.requires.size) shown spelled are in
    let none : length c.in_ok-damages.damages ≡ 0 = search rules in
    without_damage shape bytes view _ sound are none (λ s. c.in_ok-lost.ensures shape bytes view shown is kept (c.deref-2.ensures.value ∙ found) chains s)
