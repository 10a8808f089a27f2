-- The next number in the header as an owner has it never falls while the owner lives.
use Rattle.std.proofs.Common.{◌≡◌, ◌≢◌, ap, ℕ, ◌≤◌, Bool, true, false, ◌==◌, if◌then◌else◌, [], ◌∷◌, Option, Some, None, is_some, subst, refl, arith}
use Rattle.std.proofs.lemmas.Bool.Decides.{nat_tests}
use Rattle.fbc_kinds.specs.declared.edits.Edit.{Edit}
use Rattle.fbc_kinds.specs.declared.edits.Edit.TheVariants as edit
use Rattle.fbc_kinds.specs.declared.pages.Page.{Page}
use Rattle.fbc_kinds.specs.declared.shapes.Shape.{Shape}
use Rattle.fbc_kinds.specs.View.{View}
use Rattle.fbc_world.specs.declared.drafts.Draft.{Draft}
use Rattle.fbc_world.specs.declared.events.Act.{Act}
use Rattle.fbc_world.specs.declared.events.Act.TheVariants.{Die, Local, Write}
use Rattle.fbc_world.specs.declared.events.LocalEvent.TheVariants as local
use Rattle.fbc_world.specs.Holdings.{is_draft_of}
use Rattle.fbc_world.specs.PageCell.{drafted, newest_in, page_for, without}
use Rattle.fbc_world.specs.World.{World, acted, page_after, world_of}
use Rattle.fbc_legal.specs.Coherent.{IsCoherent}
use Rattle.fbc_legal.specs.Guards.{Guard, GuardOfEdit}
use Rattle.fbc_legal.specs.Rows.{IsEditOfRow}
use Rattle.fbc_legal.specs.Legal.{IsLegal}
use Rattle.fbc_legal.specs.Scene.{Scene, scene_of}
use Rattle.fbc_legal.proofs.Induction.{IsCoherent-legal}
use Rattle.fbc_world.specs.History.{History}
use Rattle.fbc_legal.proofs.Exclusion.{IsOwnDraft}
use Rattle.fbc_legal.proofs.HeaderGrowth.{exclusive-own, never_format, newest-own}
use Rattle.fbc_region.proofs.NextRises.{IsNoLess, next_in, next_rises}

-- The next number in the header as the owner has it.
abbrev pub next_for : ℕ → Option Page → Option Draft → ℕ
next_for owner kept draft = next_in (page_for owner kept draft)

-- A draft of the header has no smaller next number than the file.
abbrev pub NextGrows : Option Page → Option Draft → Type 0
NextGrows kept draft = next_in kept ≤ next_in (newest_in kept draft)

-- What an owner has is no less than what the file has.
pub next_kept : (owner : ℕ) (kept : Option Page) (draft : Option Draft) → NextGrows kept draft → next_in kept ≤ next_for owner kept draft
next_kept owner kept None grows = omega arith
next_kept owner kept (Some draft) grows = go (draft.owner == owner) where
  go : (b : Bool) → next_in kept ≤ next_in (if b then Some draft.content else kept)
  go true = grows
  go false = omega arith

-- Without the draft of another, who has none of its own has the same.
other_dies : (owner other : ℕ) (kept : Option Page) (draft : Option Draft) → other ≢ owner → page_for owner kept (without other draft) ≡ page_for owner kept draft
other_dies owner other kept None apart = refl
other_dies owner other kept (Some draft) apart = go (draft.owner == other) refl where
  go : (b : Bool) → draft.owner == other ≡ b → page_for owner kept (if b then None else Some draft) ≡ page_for owner kept (Some draft)
  go true its = grind (arith, nat_tests, its, apart)
  go false its = refl

grows_dead : (other : ℕ) (kept : Option Page) (draft : Option Draft) → NextGrows kept draft → NextGrows kept (without other draft)
grows_dead other kept None grows = grows
grows_dead other kept (Some draft) grows = go (draft.owner == other) where
  go : (b : Bool) → NextGrows kept (if b then None else Some draft)
  go true = omega arith
  go false = grows

-- A draft that is written.
grows_written : (actor : ℕ) (kept : Option Page) (draft : Option Draft) → is_draft_of actor draft ≡ true → NextGrows (page_for actor kept draft) (without actor draft)
grows_written actor kept None its = absurd cc
grows_written actor kept (Some draft) its = rw its (omega arith)

next_written : (owner actor : ℕ) (kept : Option Page) (draft : Option Draft) → NextGrows kept draft → is_draft_of actor draft ≡ true
    → next_for owner kept draft ≤ next_for owner (page_for actor kept draft) (without actor draft)
next_written owner actor kept None grows its = absurd cc
next_written owner actor kept (Some draft) grows its = rw its (go (draft.owner == owner)) where
  go : (b : Bool) → next_in (if b then Some draft.content else kept) ≤ next_in (Some draft.content)
  go true = omega arith
  go false = grows

-- An act by which its actor dies.
abbrev pub is_last : Act → Bool
is_last Die = true
is_last (Write page reason failed) = failed
is_last _ = false

module _ (at : Scene) (x : IsCoherent at.world) (grows : NextGrows (at.world.kept 0) (at.world.draft 0)) (actor : ℕ) where
  abbrev w : World
  w = at.world

  abbrev GrowsAfter : Act → Bool → Type 0
  GrowsAfter act landed = NextGrows ((acted at.shape w actor act landed).kept 0) ((acted at.shape w actor act landed).draft 0)

  module _ (e : Edit) (g : GuardOfEdit at actor 0 e) where
    own : IsOwnDraft actor (w.draft 0)
    own = exclusive-own w x actor 0 g.exclusive

    newest_is : newest_in (w.kept 0) (w.draft 0) ≡ page_for actor (w.kept 0) (w.draft 0)
    newest_is = newest-own actor (w.kept 0) (w.draft 0) own

    no_less : (f : Edit) → IsEditOfRow at actor 0 f → IsNoLess f (next_in (page_for actor (w.kept 0) (w.draft 0)))
    no_less (edit.SetNext number) row = omega (arith, ap next_in newest_is, row.2, row.3)
    no_less (edit.AddTip page) row = tt
    no_less (edit.AddPointer relation page) row = tt
    no_less edit.AddInventory row = tt
    no_less (edit.TakePage page) row = tt
    no_less (edit.FreePage page) row = tt
    no_less (edit.Mark number state) row = tt
    no_less (edit.Name slot page) row = tt
    no_less (edit.Unname slot) row = tt
    no_less (edit.PutCell cell content) row = tt
    no_less (edit.ClearCell cell) row = tt
    no_less (edit.Format page_kind page relation sequence) row = tt

    rises : (content : Page) → page_after at.shape w actor 0 e ≡ Some content → next_for actor (w.kept 0) (w.draft 0) ≤ next_in (Some content)
    rises content is = next_rises at.shape e (page_for actor (w.kept 0) (w.draft 0)) content (never_format at actor e g.row) (no_less e g.row) is

    grows_zero : NextGrows (w.kept 0) (drafted actor (w.draft 0) (page_after at.shape w actor 0 e))
    grows_zero = go (page_after at.shape w actor 0 e) refl g.fits where
      go : (after : Option Page) → page_after at.shape w actor 0 e ≡ after → is_some after ≡ true → NextGrows (w.kept 0) (drafted actor (w.draft 0) after)
      go None is fits = absurd cc
      go (Some content) is fits = omega (arith, rises content is, ap next_in newest_is, grows)

    other_same : (owner : ℕ) (draft : Option Draft) → IsOwnDraft actor draft → actor ≢ owner → page_for owner (w.kept 0) draft ≡ w.kept 0
    other_same owner None its apart = refl
    other_same owner (Some draft) its apart = grind (arith, nat_tests, its, apart)

    next_zero : (owner : ℕ) → next_for owner (w.kept 0) (w.draft 0) ≤ next_for owner (w.kept 0) (drafted actor (w.draft 0) (page_after at.shape w actor 0 e))
    next_zero owner = go (page_after at.shape w actor 0 e) refl g.fits where
      by : (content : Page) → page_after at.shape w actor 0 e ≡ Some content → (b : Bool) → actor == owner ≡ b → next_for owner (w.kept 0) (w.draft 0) ≤ next_in (if b then Some content else w.kept 0)
      by content is true its = let same : actor ≡ owner = grind (arith, nat_tests, its) in subst (λ o. next_for o (w.kept 0) (w.draft 0) ≤ next_in (Some content)) same (rises content is)
      by content is false other = omega (arith, ap next_in (other_same owner (w.draft 0) own (λ same. grind (arith, nat_tests, other, same))))

      go : (after : Option Page) → page_after at.shape w actor 0 e ≡ after → is_some after ≡ true → next_for owner (w.kept 0) (w.draft 0) ≤ next_for owner (w.kept 0) (drafted actor (w.draft 0) after)
      go None is fits = absurd cc
      go (Some content) is fits = by content is (actor == owner) refl

  grows_edit : (e : Edit) (page : ℕ) → GuardOfEdit at actor page e → NextGrows (w.kept 0) (if 0 == page then drafted actor (w.draft 0) (page_after at.shape w actor page e) else w.draft 0)
  grows_edit e page g = go (0 == page) refl where
    go : (b : Bool) → 0 == page ≡ b → NextGrows (w.kept 0) (if b then drafted actor (w.draft 0) (page_after at.shape w actor page e) else w.draft 0)
    go true is =
        subst (λ p. GuardOfEdit at actor p e → NextGrows (w.kept 0) (drafted actor (w.draft 0) (page_after at.shape w actor p e))) (grind (arith, nat_tests, is)) (grows_zero e) g
    go false is = grows

  next_edit : (owner : ℕ) (e : Edit) (page : ℕ) → GuardOfEdit at actor page e
      → next_for owner (w.kept 0) (w.draft 0) ≤ next_for owner (w.kept 0) (if 0 == page then drafted actor (w.draft 0) (page_after at.shape w actor page e) else w.draft 0)
  next_edit owner e page g = go (0 == page) refl where
    go : (b : Bool) → 0 == page ≡ b → next_for owner (w.kept 0) (w.draft 0) ≤ next_for owner (w.kept 0) (if b then drafted actor (w.draft 0) (page_after at.shape w actor page e) else w.draft 0)
    go true is =
        subst (λ p. GuardOfEdit at actor p e → next_for owner (w.kept 0) (w.draft 0) ≤ next_for owner (w.kept 0) (drafted actor (w.draft 0) (page_after at.shape w actor p e))) (grind (arith, nat_tests, is))
        (λ here. next_zero e here owner) g
    go false is = omega arith

  grows_write : (page : ℕ) → is_draft_of actor (w.draft page) ≡ true → NextGrows (if 0 == page then page_for actor (w.kept 0) (w.draft 0) else w.kept 0) (if 0 == page then without actor (w.draft 0) else w.draft 0)
  grows_write page its = go (0 == page) refl where
    go : (b : Bool) → 0 == page ≡ b → NextGrows (if b then page_for actor (w.kept 0) (w.draft 0) else w.kept 0) (if b then without actor (w.draft 0) else w.draft 0)
    go true is = grows_written actor (w.kept 0) (w.draft 0) (subst (λ p. is_draft_of actor (w.draft p) ≡ true) (grind (arith, nat_tests, is)) its)
    go false is = grows

  next_write : (owner page : ℕ) → is_draft_of actor (w.draft page) ≡ true
      → next_for owner (w.kept 0) (w.draft 0) ≤ next_for owner (if 0 == page then page_for actor (w.kept 0) (w.draft 0) else w.kept 0) (if 0 == page then without actor (w.draft 0) else w.draft 0)
  next_write owner page its = go (0 == page) refl where
    go : (b : Bool) → 0 == page ≡ b → next_for owner (w.kept 0) (w.draft 0) ≤ next_for owner (if b then page_for actor (w.kept 0) (w.draft 0) else w.kept 0) (if b then without actor (w.draft 0) else w.draft 0)
    go true is = next_written owner actor (w.kept 0) (w.draft 0) grows (subst (λ p. is_draft_of actor (w.draft p) ≡ true) (grind (arith, nat_tests, is)) its)
    go false is = omega arith

  -- After each act a draft of the header has no smaller next number than the file.
  pub grows_acted : (act : Act) (landed : Bool) → Guard at actor act → GrowsAfter act landed
  grows_acted Die landed g = grows_dead actor (w.kept 0) (w.draft 0) grows
  grows_acted (Write page reason true) true g = grows_dead actor (if 0 == page then page_for actor (w.kept 0) (w.draft 0) else w.kept 0) (if 0 == page then without actor (w.draft 0) else w.draft 0) (grows_write page g.drafted)
  grows_acted (Write page reason true) false g = grows_dead actor (w.kept 0) (w.draft 0) grows
  grows_acted (Write page reason false) landed g = grows_write page g.drafted
  grows_acted (Local (local.Edit page e)) landed g = grows_edit e page g
  grows_acted (Local (local.Before high low)) landed g = grows
  grows_acted (Local (local.Pin page)) landed g = grows
  grows_acted (Local (local.Unpin page)) landed g = grows
  grows_acted _ landed g = grows

  -- What an owner has rises or stays, unless the owner dies.
  pub next_acted : (owner : ℕ) (act : Act) (landed : Bool) → Guard at actor act → (is_last act ≡ true → actor ≢ owner)
      → next_for owner (w.kept 0) (w.draft 0) ≤ next_for owner ((acted at.shape w actor act landed).kept 0) ((acted at.shape w actor act landed).draft 0)
  next_acted owner Die landed g lives = omega (arith, ap next_in (other_dies owner actor (w.kept 0) (w.draft 0) (lives refl)))
  next_acted owner (Write page reason true) true g lives =
      omega (
        arith,
        next_write owner page g.drafted,
        ap next_in (other_dies owner actor (if 0 == page then page_for actor (w.kept 0) (w.draft 0) else w.kept 0) (if 0 == page then without actor (w.draft 0) else w.draft 0) (lives refl)),
      )
  next_acted owner (Write page reason true) false g lives = omega (arith, ap next_in (other_dies owner actor (w.kept 0) (w.draft 0) (lives refl)))
  next_acted owner (Write page reason false) landed g lives = next_write owner page g.drafted
  next_acted owner (Local (local.Edit page e)) landed g lives = next_edit owner e page g
  next_acted owner (Local (local.Before high low)) landed g lives = omega arith
  next_acted owner (Local (local.Pin page)) landed g lives = omega arith
  next_acted owner (Local (local.Unpin page)) landed g lives = omega arith
  next_acted owner _ landed g lives = omega arith

-- After each legal history.
pub grows_legal : (shape : Shape) (file : View) (history : History) → IsLegal shape file history → NextGrows ((world_of shape file history).kept 0) ((world_of shape file history).draft 0)
grows_legal shape file [] legal = omega arith
grows_legal shape file (moment ∷ before) legal =
    grows_acted (scene_of shape file before) (IsCoherent-legal shape file before legal.0) (grows_legal shape file before legal.0) moment.event.actor moment.event.act moment.landed legal.1.guard
