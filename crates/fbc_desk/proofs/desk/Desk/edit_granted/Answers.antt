-- An edit that may be made has its place, and is made or halted.
use Rattle.std.proofs.Common.{◌≡◌, ◌<◌, ◌∙◌, ℕ, length, ap, subst, sym}
use Rattle.fbc_cache.specs.declared.edits.Edited.TheVariants as edited
use Rattle.fbc_desk.specs.Calls.{Halts, Makes, MayMake}
use Rattle.fbc_desk.specs.Desk.{DeskState}
use Rattle.fbc_desk.specs.contracts.desk.Desk.{the_view}
use Rattle.fbc_desk.proofs.Editing.{first-page, halts-edit, has-place, has-room, known-few, makes-edit}
use Rattle.fbc_desk.proofs.desk.Desk.edit_granted.Goals as goal

pub add_pairs-requires-clause-known : goal.add_pairs-requires-clause-known
add_pairs-requires-clause-known c =
    known-few (the_view c.self.inside) c.args.page c.args.edit.now c.args.highs.now (subst (λ (s : DeskState). MayMake s c.args.page c.args.edit.now c.args.highs.now) (sym c.self.view_is) c.requires.may)
    c.edit.new.self (length c.pairs-known.result.now) (ap length c.pairs-known.ensures) c.in_ok-edit.field-0 c.in_ok-edit.ensures.edited

pub add_pairs-requires-clause-place : goal.add_pairs-requires-clause-place
add_pairs-requires-clause-place c =
    has-place (the_view c.self.inside) c.args.page c.args.edit.now c.args.highs.now (subst (λ (s : DeskState). MayMake s c.args.page c.args.edit.now c.args.highs.now) (sym c.self.view_is) c.requires.may)
    c.edit.new.self (length c.pairs-known.result.now) (ap length c.pairs-known.ensures) c.in_ok-edit.field-0 c.in_ok-edit.ensures.edited

pub finish-requires-clause-place : goal.finish-requires-clause-place
finish-requires-clause-place c =
    subst (λ (s : DeskState). length s.unsent < 64) (sym c.add_pairs.ensures)
    (has-room (the_view c.self.inside) c.args.page c.args.edit.now c.args.highs.now (subst (λ (s : DeskState). MayMake s c.args.page c.args.edit.now c.args.highs.now) (sym c.self.view_is) c.requires.may)
    c.edit.new.self (length c.pairs-known.result.now) (ap length c.pairs-known.ensures) c.in_ok-edit.field-0 c.in_ok-edit.ensures.edited)

pub add_pairs-requires-in-WriteFirst-clause-known : goal.add_pairs-requires-in-WriteFirst-clause-known
add_pairs-requires-in-WriteFirst-clause-known c =
    known-few (the_view c.self.inside) c.args.page c.args.edit.now c.args.highs.now (subst (λ (s : DeskState). MayMake s c.args.page c.args.edit.now c.args.highs.now) (sym c.self.view_is) c.requires.may)
    c.edit.new.self (length c.pairs-known.result.now) (ap length c.pairs-known.ensures) c.in_ok-edit.field-0 c.in_ok-edit.ensures.edited

pub add_pairs-requires-in-WriteFirst-clause-place : goal.add_pairs-requires-in-WriteFirst-clause-place
add_pairs-requires-in-WriteFirst-clause-place c =
    has-place (the_view c.self.inside) c.args.page c.args.edit.now c.args.highs.now (subst (λ (s : DeskState). MayMake s c.args.page c.args.edit.now c.args.highs.now) (sym c.self.view_is) c.requires.may)
    c.edit.new.self (length c.pairs-known.result.now) (ap length c.pairs-known.ensures) c.in_ok-edit.field-0 c.in_ok-edit.ensures.edited

pub returns-in-Done-clause-made : goal.returns-in-Done-clause-made
returns-in-Done-clause-made c =
    subst (λ (s : DeskState). Makes s c.args.page c.args.edit.now c.args.highs.now c.finish.new.self) c.self.view_is
    (makes-edit (the_view c.self.inside) c.args.page c.args.edit.now c.args.highs.now (subst (λ (s : DeskState). MayMake s c.args.page c.args.edit.now c.args.highs.now) (sym c.self.view_is) c.requires.may)
    c.edit.new.self (length c.pairs-known.result.now) (ap length c.pairs-known.ensures) c.in_ok-edit.field-0 c.in_ok-edit.ensures.edited
    c.add_pairs.new.self c.finish.new.self c.in-Done.is c.add_pairs.ensures c.finish.ensures)

pub returns-in-WriteFirst-clause-made : goal.returns-in-WriteFirst-clause-made
returns-in-WriteFirst-clause-made c =
    let may = subst (λ (s : DeskState). MayMake s c.args.page c.args.edit.now c.args.highs.now) (sym c.self.view_is) c.requires.may in
    let page-is : c.in-WriteFirst.page ≡ c.args.page = first-page (the_view c.self.inside) c.args.page c.args.edit.now c.args.highs.now may
    c.edit.new.self (length c.pairs-known.result.now) (ap length c.pairs-known.ensures) c.in_ok-edit.field-0 c.in_ok-edit.ensures.edited c.in-WriteFirst.page c.in-WriteFirst.high c.in-WriteFirst.is in (
      page-is,
      subst (λ (s : DeskState). Halts s c.args.page c.args.edit.now c.args.highs.now c.in-WriteFirst.high c.add_pairs-in-WriteFirst.new.self) c.self.view_is
          (halts-edit (the_view c.self.inside) c.args.page c.args.edit.now c.args.highs.now may
          c.edit.new.self (length c.pairs-known.result.now) (ap length c.pairs-known.ensures) c.in_ok-edit.field-0 c.in_ok-edit.ensures.edited
          c.in-WriteFirst.high c.add_pairs-in-WriteFirst.new.self (c.in-WriteFirst.is ∙ ap (λ (page : ℕ). edited.WriteFirst page c.in-WriteFirst.high) page-is) c.add_pairs-in-WriteFirst.ensures),
    )
