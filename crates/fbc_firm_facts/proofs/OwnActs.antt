-- An owner's own events that are no edits make no new view that has its drafts, while it lives.
use Rattle.std.proofs.Common.{◌≡◌, ℕ, Bool, true, false, ◌==◌, if◌then◌else◌, ◌∷◌, refl, sym, subst, arith}
use Rattle.std.proofs.Math.Path.{fun_ext}
use Rattle.std.proofs.lemmas.Bool.Decides.{nat_tests}
use Rattle.fbc_kinds.specs.declared.shapes.Shape.{Shape}
use Rattle.fbc_kinds.specs.View.{View}
use Rattle.fbc_world.specs.declared.events.Act.{Act}
use Rattle.fbc_world.specs.declared.events.Act.TheVariants.{Die, Local, Write}
use Rattle.fbc_world.specs.declared.events.LocalEvent.TheVariants as local
use Rattle.fbc_world.specs.History.{History, Moment}
use Rattle.fbc_world.specs.Holdings.{is_draft_of}
use Rattle.fbc_world.specs.PageCell.{without}
use Rattle.fbc_world.specs.World.{World, acted, world_of}
use Rattle.fbc_legal.specs.Legal.{IsLegal}
use Rattle.fbc_legal.specs.Stamps.{stamps_of}
use Rattle.fbc_closed_cuts.specs.Cut.{Cut, view}
use Rattle.fbc_closed_cuts.specs.Firm.{HasOwnDrafts}
use Rattle.fbc_closed_cuts.specs.Views.{IsSameView, cut_before, is_edit}
use Rattle.fbc_closed_cuts.proofs.CutLaws.{no-new-views}
use Rattle.fbc_firm_facts.proofs.OwnViews.{HoldsFirmly}

module _ (shape : Shape) (w : World) (owner : ℕ) where
  dead : (b : Bool) (was : Bool) → b ≡ true → (if b then false else was) ≡ true → ⊥
  dead true was is lives = absurd cc
  dead false was is lives = absurd cc

  pub died : (was : Bool) → (if owner == owner then false else was) ≡ true → ⊥
  died was lives = dead (owner == owner) was (grind (arith, nat_tests)) lives

  -- The cut before has the drafts that the owner had.
  had : (act : Act) (landed : Bool) → is_edit act ≡ false → (acted shape w owner act landed).is_alive owner ≡ true → (cut : Cut)
      → ((page : ℕ) → is_draft_of owner ((acted shape w owner act landed).draft page) ≡ true → cut page ≡ true)
      → (page : ℕ) → is_draft_of owner (w.draft page) ≡ true → cut_before act landed cut page ≡ true
  had Die landed plain lives cut own page its = absurd (died (w.is_alive owner) lives)
  had (Write written reason true) true plain lives cut own page its = absurd (died (w.is_alive owner) lives)
  had (Write written reason true) false plain lives cut own page its = absurd (died (w.is_alive owner) lives)
  had (Write written reason false) landed plain lives cut own page its = go (page == written) (own page) where
    go : (b : Bool) → (is_draft_of owner (if b then without owner (w.draft page) else w.draft page) ≡ true → cut page ≡ true) → (if b then true else cut page) ≡ true
    go true has = refl
    go false has = has its
  had (Local (local.Edit edited e)) landed plain lives cut own page its = absurd cc
  had (Local (local.Before high low)) landed plain lives cut own page its = own page its
  had (Local (local.Pin pinned)) landed plain lives cut own page its = own page its
  had (Local (local.Unpin pinned)) landed plain lives cut own page its = own page its
  had _ landed plain lives cut own page its = own page its

module _ (shape : Shape) (file : View) (before : History) (moment : Moment) (legal : IsLegal shape file (moment ∷ before)) (plain : is_edit moment.event.act ≡ false) where
  abbrev w : World
  w = world_of shape file before

  abbrev after : World
  after = world_of shape file (moment ∷ before)

  abbrev owner : ℕ
  owner = moment.event.actor

  module _ (lives : after.is_alive owner ≡ true) (cut : Cut) (own : HasOwnDrafts after owner cut) where
    same : IsSameView w (stamps_of shape file before) after (stamps_of shape file (moment ∷ before)) cut (cut_before moment.event.act moment.landed cut)
    same = no-new-views shape file before moment cut legal plain own.closed

    pub own-cut-before : HasOwnDrafts w owner (cut_before moment.event.act moment.landed cut)
    own-cut-before = record { closed = same.closed; own = had shape w owner moment.event.act moment.landed plain lives cut own.own }

    pub same-own-view : view after cut ≡ view w (cut_before moment.event.act moment.landed cut)
    same-own-view = fun_ext (λ page. same.pages page)

  pub own-acts-keep : (Holds : View → Type 0) → after.is_alive owner ≡ true → HoldsFirmly w owner Holds → HoldsFirmly after owner Holds
  own-acts-keep Holds lives holds cut own = subst Holds (sym (same-own-view lives cut own)) (holds (cut_before moment.event.act moment.landed cut) (own-cut-before lives cut own))
