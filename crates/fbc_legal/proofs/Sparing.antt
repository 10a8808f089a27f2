-- A legal act of one owner spares the living others.
use Rattle.std.proofs.Common.{◌≡◌, ◌≢◌, ◌==◌, ◌&&◌, ℕ, Bool, true, false, Option, Some, None, refl, subst, arith}
use Rattle.std.proofs.lemmas.Bool.Decides.{nat_tests}
use Rattle.fbc_levels.specs.declared.levels.Level.TheVariants.{Ex}
use Rattle.fbc_world.specs.declared.drafts.Draft.{Draft}
use Rattle.fbc_world.specs.declared.events.Act.{Act}
use Rattle.fbc_world.specs.declared.events.Act.TheVariants.{Local, Opened, Reap, Write}
use Rattle.fbc_world.specs.declared.events.LocalEvent.TheVariants as local
use Rattle.fbc_world.specs.Frames.{Spares, is_edit_of, is_landing_of, is_purge_of}
use Rattle.fbc_world.specs.Holdings.{is_draft_of}
use Rattle.fbc_levels.specs.Resources.{page_resource}
use Rattle.fbc_world.specs.World.{World}
use Rattle.fbc_legal.specs.Coherent.{IsCoherent, IsDraftHeld}
use Rattle.fbc_levels.specs.Levels.{is_page_level}
use Rattle.fbc_legal.specs.Guards.{Guard}
use Rattle.fbc_legal.specs.Scene.{Scene}
use Rattle.fbc_legal.proofs.Exclusion.{excluded, same_number}

-- Who has the draft of a page has the page in EX.
drafter_holds : (w : World) (page other : ℕ) (found : Option Draft) → is_draft_of other found ≡ true → IsDraftHeld w page found → w.granted other (page_resource page) ≡ Ex
drafter_holds w page other None is held = absurd cc
drafter_holds w page other (Some d) is held = subst (λ o. w.granted o (page_resource page) ≡ Ex) (same_number d.owner other is) held.1

-- A draft has one owner.
one_drafter : (found : Option Draft) (owner other : ℕ) → is_draft_of owner found ≡ true → is_draft_of other found ≡ true → owner ≡ other
one_drafter None owner other is also = absurd cc
one_drafter (Some d) owner other is also = grind (arith, nat_tests, is, also)

module _ (at : Scene) (h : IsCoherent at.world) (owner other : ℕ) (apart : owner ≢ other) (lives : at.world.is_alive other ≡ true) where
  abbrev w : World
  w = at.world

  spares-edit : (number page : ℕ) → w.granted owner (page_resource number) ≡ Ex → is_draft_of other (w.draft page) ≡ true → number == page ≡ false
  spares-edit number page exclusive drafted = go (number == page) refl where
    go : (same : Bool) → number == page ≡ same → same ≡ false
    go false is = refl
    go true is =
        let mine = subst (λ p. w.granted owner (page_resource p) ≡ Ex) (same_number number page is) exclusive in
        let out : is_page_level (w.granted other (page_resource page)) ≡ false = excluded w h owner other (page_resource page) apart mine in
        let theirs = drafter_holds w page other (w.draft page) drafted (h.drafts page) in
        grind (arith, out, theirs)

  spares-draft : (act : Act) → Guard at owner act → (page : ℕ) → is_draft_of other (w.draft page) ≡ true → is_edit_of page act ≡ false
  spares-draft (Local (local.Edit number edit)) g page drafted = spares-edit number page g.exclusive drafted
  spares-draft (Local (local.Before high low)) g page drafted = refl
  spares-draft (Local (local.Pin number)) g page drafted = refl
  spares-draft (Local (local.Unpin number)) g page drafted = refl
  spares-draft _ g page drafted = refl

  spares-high : (number high : ℕ) (rest : Bool) → is_draft_of owner (w.draft number) ≡ true → is_draft_of other (w.draft high) ≡ true → (number == high) && rest ≡ false
  spares-high number high rest mine theirs = go (number == high) refl where
    go : (same : Bool) → number == high ≡ same → same && rest ≡ false
    go false is = refl
    go true is = absurd (apart (one_drafter (w.draft high) owner other (subst (λ p. is_draft_of owner (w.draft p) ≡ true) (same_number number high is) mine) theirs))

  spares-pair : (act : Act) (landed : Bool) → Guard at owner act → (high low : ℕ) → w.has_pair other high low ≡ true → is_landing_of high act landed ≡ false
  spares-pair (Write number cause failed) landed g high low pair = spares-high number high _ g.drafted (h.pairs other high low pair).1
  spares-pair _ landed g high low pair = refl

  spares-requests : (act : Act) → Guard at owner act → is_purge_of other act ≡ false
  spares-requests (Opened locks) g = grind (arith, g.none_alive other, lives)
  spares-requests (Reap dead by) g = go (dead == other) refl where
    go : (same : Bool) → dead == other ≡ same → same ≡ false
    go false is = refl
    go true is = grind (arith, g.is_dead, same_number dead other is, lives)
  spares-requests _ g = refl

  pub legal_spares : (act : Act) (landed : Bool) → Guard at owner act → Spares w other act landed
  legal_spares act landed g = record {
    draft = λ page drafted. spares-draft act g page drafted;
    pair = λ high low pair. spares-pair act landed g high low pair;
    requests = spares-requests act g;
  }
