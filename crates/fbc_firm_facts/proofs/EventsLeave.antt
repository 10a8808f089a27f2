-- What holds of each view with all drafts of an owner, through every event: by whether that is an edit.
use Rattle.std.proofs.Common.{◌≡◌, ◌≢◌, ℕ, Bool, true, false, ◌∷◌, refl, sym, subst}
use Rattle.fbc_kinds.specs.declared.edits.Edit.{Edit}
use Rattle.fbc_kinds.specs.declared.shapes.Shape.{Shape}
use Rattle.fbc_kinds.specs.View.{View}
use Rattle.fbc_world.specs.declared.events.Act.{Act}
use Rattle.fbc_world.specs.declared.events.Act.TheVariants.{Local}
use Rattle.fbc_world.specs.declared.events.LocalEvent.TheVariants as local
use Rattle.fbc_world.specs.History.{History, Moment, happens}
use Rattle.fbc_world.specs.World.{World, world_of}
use Rattle.fbc_legal.specs.Legal.{IsLegal}
use Rattle.fbc_closed_cuts.specs.Views.{cut_before, is_edit}
use Rattle.fbc_closed_cuts.proofs.Firmness.{one-view, own-before}
use Rattle.fbc_firm_facts.proofs.OwnActs.{own-acts-keep}
use Rattle.fbc_firm_facts.proofs.OwnViews.{HoldsFirmly}

-- An act is an edit, or it is none.
pub edit_or_not : (P : Act → Type 0) → ((page : ℕ) (e : Edit) → P (Local (local.Edit page e))) → ((act : Act) → is_edit act ≡ false → P act) → (act : Act) → P act
edit_or_not P edits others (Local (local.Edit page e)) = edits page e
edit_or_not P edits others (Local (local.Before high low)) = others (Local (local.Before high low)) refl
edit_or_not P edits others (Local (local.Pin page)) = others (Local (local.Pin page)) refl
edit_or_not P edits others (Local (local.Unpin page)) = others (Local (local.Unpin page)) refl
edit_or_not P edits others act = others act refl

module _ (shape : Shape) (file : View) (before : History) (owner : ℕ) (Holds : View → Type 0) where
  abbrev w : World
  w = world_of shape file before

  acts-leave : (moment : Moment) → IsLegal shape file (moment ∷ before) → moment.event.actor ≢ owner → is_edit moment.event.act ≡ false
      → HoldsFirmly w owner Holds → HoldsFirmly (world_of shape file (moment ∷ before)) owner Holds
  acts-leave moment legal apart plain holds cut own =
      subst Holds (sym (one-view shape file before moment owner legal apart plain cut own))
      (holds (cut_before moment.event.act moment.landed cut) (own-before shape file before moment owner legal apart plain cut own))

  module _ (actor : ℕ) (landed : Bool) where
    abbrev After : Act → World
    After act = world_of shape file (happens actor act landed ∷ before)

    -- If the act is an edit, it keeps what holds.
    abbrev pub IsKeptWhereEdited : Act → Type 0
    IsKeptWhereEdited act =
        (page : ℕ) (e : Edit) → act ≡ Local (local.Edit page e) → IsLegal shape file (happens actor (Local (local.Edit page e)) landed ∷ before)
        → HoldsFirmly w owner Holds → HoldsFirmly (After (Local (local.Edit page e))) owner Holds

    abbrev IsKept : Act → Type 0
    IsKept act = IsLegal shape file (happens actor act landed ∷ before) → IsKeptWhereEdited act → HoldsFirmly w owner Holds → HoldsFirmly (After act) owner Holds

    pub others-keep : actor ≢ owner → (act : Act) → IsKept act
    others-keep apart act =
        edit_or_not IsKept (λ page e legal edits holds. edits page e refl legal holds)
        (λ other plain legal edits holds. acts-leave (happens actor other landed) legal apart plain holds) act

module _ (shape : Shape) (file : View) (before : History) (owner : ℕ) (Holds : View → Type 0) (landed : Bool) where
  abbrev IsOwnKept : Act → Type 0
  IsOwnKept act =
      IsLegal shape file (happens owner act landed ∷ before) → (world_of shape file (happens owner act landed ∷ before)).is_alive owner ≡ true
      → IsKeptWhereEdited shape file before owner Holds owner landed act
      → HoldsFirmly (world_of shape file before) owner Holds → HoldsFirmly (world_of shape file (happens owner act landed ∷ before)) owner Holds

  pub own-keep : (act : Act) → IsOwnKept act
  own-keep act =
      edit_or_not IsOwnKept (λ page e legal lives edits holds. edits page e refl legal holds)
      (λ other plain legal lives edits holds. own-acts-keep shape file before (happens owner other landed) legal plain Holds lives holds) act
