-- Pages that a history does not edit have no drafts.
use Rattle.std.proofs.Common.{◌≡◌, ◌==◌, ℕ, Bool, true, false, not, [], ◌∷◌, None, refl, arith}
use Rattle.std.specs.List.{list_all}
use Rattle.std.proofs.lemmas.Bool.Decides.{nat_tests}
use Rattle.fbc_kinds.specs.View.{View}
use Rattle.fbc_kinds.proofs.Heads.{both_pass}
use Rattle.fbc_kinds.proofs.Tests.{same_from_test}
use Rattle.fbc_world.specs.declared.events.Act.{Act}
use Rattle.fbc_world.specs.declared.events.Act.TheVariants.{Local}
use Rattle.fbc_world.specs.declared.events.LocalEvent.TheVariants as local
use Rattle.fbc_world.specs.History.{History, Moment}
use Rattle.fbc_world.specs.Holdings.{is_draft_of}
use Rattle.fbc_world.specs.World.{World, acted, world_of}
use Rattle.fbc_examples.specs.Files.{small_shape}

-- Whether the act does not edit the page.
abbrev pub edits_not : ℕ → Act → Bool
edits_not page (Local (local.Edit number edit)) = not (page == number)
edits_not page _ = true

-- No moment of a history edits it.
abbrev pub never_edits : ℕ → History → Bool
never_edits page past = list_all (λ (moment : Moment). edits_not page moment.event.act) past

-- An act that does not edit the page makes no draft of it.
none_made : (w : World) (page owner : ℕ) (act : Act) (landed : Bool) → edits_not page act ≡ true → w.draft page ≡ None → (acted small_shape w owner act landed).draft page ≡ None
none_made w page owner act landed other none = grind (arith, nat_tests, other, none)

pub undrafted : (file : View) (page : ℕ) (past : History) → never_edits page past ≡ true → (world_of small_shape file past).draft page ≡ None
undrafted file page [] all = refl
undrafted file page (moment ∷ before) all =
    let both = both_pass (edits_not page moment.event.act) (never_edits page before) all in
    none_made (world_of small_shape file before) page moment.event.actor moment.event.act moment.landed both.0 (undrafted file page before both.1)

-- Where the header and two data pages alone could have drafts beside one page, and have none, an owner's draft is of that page.
module _ (file : View) (past : History) (owner first second page : ℕ)
    (no_header : (world_of small_shape file past).draft 0 ≡ None)
    (no_first : (world_of small_shape file past).draft first ≡ None)
    (no_second : (world_of small_shape file past).draft second ≡ None)
    (no_other : (other : ℕ) → (other == 0) ≡ false → (other == first) ≡ false → (other == second) ≡ false → (other == page) ≡ false → never_edits other past ≡ true) where
  not_drafted : (other : ℕ) → (world_of small_shape file past).draft other ≡ None → is_draft_of owner ((world_of small_shape file past).draft other) ≡ true → ⊥
  not_drafted other none drafted = let own : is_draft_of owner None ≡ true = rw none at drafted in cc

  pub one_draft : (other : ℕ) → is_draft_of owner ((world_of small_shape file past).draft other) ≡ true → other ≡ page
  one_draft other drafted = go (other == 0) refl (other == first) refl (other == second) refl (other == page) refl where
    go : (header : Bool) → other == 0 ≡ header → (one : Bool) → other == first ≡ one → (two : Bool) → other == second ≡ two → (here : Bool) → other == page ≡ here → other ≡ page
    go _ _ _ _ _ _ true is = same_from_test other page is
    go true is _ _ _ _ false not_here = absurd (not_drafted other (rw (same_from_test other 0 is) no_header) drafted)
    go false _ true is _ _ false not_here = absurd (not_drafted other (rw (same_from_test other first is) no_first) drafted)
    go false _ false _ true is false not_here = absurd (not_drafted other (rw (same_from_test other second is) no_second) drafted)
    go false not_header false not_first false not_second false not_here = absurd (not_drafted other (undrafted file other past (no_other other not_header not_first not_second not_here)) drafted)
