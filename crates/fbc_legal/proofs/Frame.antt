-- What one legal event leaves to another owner that is alive.
use Rattle.std.proofs.Common.{◌≡◌, ◌≢◌, ◌∙◌, ◌∷◌, ap, sym, ℕ, true, Option, Some, arith}
use Rattle.fbc_kinds.specs.declared.shapes.Shape.{Shape}
use Rattle.fbc_kinds.specs.View.{View}
use Rattle.fbc_levels.specs.LockState.{LockState}
use Rattle.std.proofs.lemmas.Bool.Decides.{nat_tests}
use Rattle.fbc_world.specs.declared.drafts.Draft.{Draft}
use Rattle.fbc_world.specs.Frames.{Spares, requests_of}
use Rattle.fbc_world.specs.History.{History, Moment}
use Rattle.fbc_world.specs.Holdings.{holdings_of, is_draft_of}
use Rattle.fbc_world.specs.Locks.{locks_of}
use Rattle.fbc_world.specs.Owners.{is_alive}
use Rattle.fbc_world.specs.PageCell.{draft}
use Rattle.fbc_world.specs.World.{World, world_of}
use Rattle.fbc_world.proofs.HoldingsFrame.{holdings-frame}
use Rattle.fbc_world.proofs.WorldFrame.{draft-frame, mark-frame, own-requests-frame, transaction-frame}
use Rattle.fbc_world.proofs.WorldLaws.{IsReplayed, IsReplayed-world}
use Rattle.fbc_legal.specs.Legal.{IsLegal}
use Rattle.fbc_legal.specs.Scene.{scene_of}
use Rattle.fbc_legal.proofs.Induction.{IsCoherent-legal}
use Rattle.fbc_legal.proofs.Sparing.{legal_spares}

own_draft : (d : Draft) (other : ℕ) (found : Option Draft) → found ≡ Some d → d.owner ≡ other → is_draft_of other found ≡ true
own_draft d other found is own = rw is (grind (arith, nat_tests, own))

module _ (shape : Shape) (file : View) (before : History) (moment : Moment) (other : ℕ) (legal : IsLegal shape file (moment ∷ before)) (lives : is_alive before other ≡ true)
    (apart : moment.event.actor ≢ other) where
  abbrev w : World
  w = world_of shape file before

  r : IsReplayed shape file before w
  r = IsReplayed-world shape file before

  spares : Spares w other moment.event.act moment.landed
  spares =
      legal_spares (scene_of shape file before) (IsCoherent-legal shape file before legal.0) moment.event.actor other apart (r.alive_is other ∙ lives)
      moment.event.act moment.landed legal.1.guard

  pub holdings_left : holdings_of (world_of shape file (moment ∷ before)) other ≡ holdings_of w other
  holdings_left = holdings-frame moment.event.actor other apart shape w moment.event.act moment.landed spares

  pub draft_left : (page : ℕ) (drafted : Draft) → draft shape file before page ≡ Some drafted → drafted.owner ≡ other → draft shape file (moment ∷ before) page ≡ Some drafted
  draft_left page drafted is own =
      let there : w.draft page ≡ Some drafted = r.draft_is page ∙ is in
      sym ((IsReplayed-world shape file (moment ∷ before)).draft_is page)
      ∙ draft-frame shape w moment.event.actor other apart moment.event.act moment.landed page drafted there own (spares.draft page (own_draft drafted other (w.draft page) there own))

  pub requests_left : requests_of (locks_of (moment ∷ before)) other ≡ requests_of (locks_of before) other
  requests_left =
      ap (λ (s : LockState). requests_of s other) (sym (IsReplayed-world shape file (moment ∷ before)).locks_is)
      ∙ own-requests-frame shape w moment.event.actor other apart moment.event.act moment.landed spares.requests
      ∙ ap (λ (s : LockState). requests_of s other) r.locks_is

  pub transaction_left : (world_of shape file (moment ∷ before)).transaction other ≡ w.transaction other
  transaction_left = transaction-frame shape w moment.event.actor other apart moment.event.act moment.landed

  pub mark_left : (world_of shape file (moment ∷ before)).marked other ≡ w.marked other
  mark_left = mark-frame shape w moment.event.actor other apart moment.event.act moment.landed
