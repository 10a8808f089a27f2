-- Which open transactions and drafts there are after an act that edits nothing.
use Rattle.std.proofs.Common.{◌≡◌, ◌==◌, ◌⊎◌, ℕ, Bool, true, false, if◌then◌else◌, inl, inr, Some, refl}
use Rattle.fbc_kinds.specs.declared.snapshots.Transaction.{Transaction}
use Rattle.fbc_world.specs.declared.events.Act.{Act}
use Rattle.fbc_world.specs.declared.events.Act.TheVariants.{Die, Local, Write}
use Rattle.fbc_world.specs.declared.events.LocalEvent.TheVariants as local
use Rattle.fbc_world.specs.Holdings.{is_draft_of}
use Rattle.fbc_world.specs.World.{World, acted, dead, written}
use Rattle.fbc_legal.proofs.Pairs.{kept_draft}
use Rattle.fbc_legal.specs.Guards.{Guard, MayBegin}
use Rattle.fbc_legal.specs.Legal.{MayAct}
use Rattle.fbc_legal.specs.Scene.{Scene}
use Rattle.fbc_closed_cuts.specs.Cut.{Cut}
use Rattle.fbc_closed_cuts.specs.Views.{cut_before, is_edit, with_one}
use Rattle.fbc_numbers.proofs.CutFacts.{no_draft}
use Rattle.fbc_numbers.proofs.Opens.{Begins, WasOpen, open-acted, open-dead, open-written}

-- The transaction begins now, with the next number.
pub record IsBegun (at : Scene) (actor : ℕ) (t : Transaction) : Type 0 where
  pub word : ℕ
  pub may : MayBegin at actor t.number word

-- A page that is not among those that come into the file is another than the written one.
not_written : (page other : ℕ) → with_one page no_draft other ≡ false → other == page ≡ false
not_written page other = go (other == page) where
  go : (b : Bool) → (if b then true else false) ≡ false → b ≡ false
  go true is = absurd cc
  go false is = refl

-- What comes into the file is in the cut before.
with_more : (page : ℕ) (cut : Cut) (other : ℕ) → with_one page no_draft other ≡ true → with_one page cut other ≡ true
with_more page cut other = go (other == page) where
  go : (b : Bool) → (if b then true else false) ≡ true → (if b then true else cut other) ≡ true
  go true is = refl
  go false is = absurd cc

pub comes-within : (act : Act) (landed : Bool) (cut : Cut) (page : ℕ) → cut_before act landed no_draft page ≡ true → cut_before act landed cut page ≡ true
comes-within (Write page cause true) true cut other is = with_more page cut other is
comes-within (Write page cause true) false cut other is = absurd cc
comes-within (Write page cause false) landed cut other is = with_more page cut other is
comes-within _ landed cut other is = absurd cc

module _ (at : Scene) (owner : ℕ) where
  abbrev w : World
  w = at.world

  begun : (after : World) (other : ℕ) (t : Transaction) → WasOpen w after other t ⊎ Begins at after owner other t → (w.transaction other ≡ Some t) ⊎ IsBegun at owner t
  begun after other t (inl was) = inl was.was
  begun after other t (inr begins) = inr (record { word = begins.word; may = rw begins.is begins.may })

  -- An open transaction was open, or begins.
  pub opens-came : (act : Act) (landed : Bool) → MayAct at owner act → Guard at owner act → is_edit act ≡ false → (other : ℕ) (t : Transaction) → (acted at.shape w owner act landed).transaction other ≡ Some t
      → (w.transaction other ≡ Some t) ⊎ IsBegun at owner t
  opens-came (Write page reason true) true may g plain other t is = inl (open-written w owner page other t (open-dead (written w owner page) owner other t is).open_is.was).was
  opens-came (Write page reason true) false may g plain other t is = inl (open-dead w owner other t is).open_is.was
  opens-came (Write page reason false) landed may g plain other t is = begun _ other t (open-acted at owner (Write page reason false) landed may g refl refl other t is)
  opens-came act landed may g plain other t is = begun _ other t (open-acted at owner act landed may g refl plain other t is)

  -- A draft of an owner with an open transaction is left, unless its page comes into the file.
  dead-draft : (other page : ℕ) (t : Transaction) → (dead w owner).transaction other ≡ Some t → is_draft_of other (w.draft page) ≡ true → is_draft_of other ((dead w owner).draft page) ≡ true
  dead-draft other page t is its = kept_draft owner other (w.draft page) (open-dead w owner other t is).apart its

  written-draft : (number other page : ℕ) → with_one number no_draft page ≡ false → is_draft_of other (w.draft page) ≡ true → is_draft_of other ((written w owner number).draft page) ≡ true
  written-draft number other page out its = rw (not_written number page out) its

  pub drafts-left : (act : Act) (landed : Bool) → is_edit act ≡ false → (other : ℕ) (t : Transaction) → (acted at.shape w owner act landed).transaction other ≡ Some t
      → (page : ℕ) → cut_before act landed no_draft page ≡ false → is_draft_of other (w.draft page) ≡ true → is_draft_of other ((acted at.shape w owner act landed).draft page) ≡ true
  drafts-left Die landed plain other t is page out its = dead-draft other page t is its
  drafts-left (Write number reason true) true plain other t is page out its =
      kept_draft owner other ((written w owner number).draft page) (open-dead (written w owner number) owner other t is).apart (written-draft number other page out its)
  drafts-left (Write number reason true) false plain other t is page out its = dead-draft other page t is its
  drafts-left (Write number reason false) landed plain other t is page out its = written-draft number other page out its
  drafts-left (Local (local.Edit number e)) landed plain other t is page out its = absurd cc
  drafts-left (Local (local.Before high low)) landed plain other t is page out its = its
  drafts-left (Local (local.Pin number)) landed plain other t is page out its = its
  drafts-left (Local (local.Unpin number)) landed plain other t is page out its = its
  drafts-left _ landed plain other t is page out its = its
