-- An owner has the number of its open transaction in EX: after every act but a failed write.
use Rattle.std.proofs.Common.{◌≡◌, ◌∙◌, ◌==◌, ◌&&◌, ℕ, Bool, true, false, if◌then◌else◌, Some, None, refl, sym, ap, subst, arith}
use Rattle.std.proofs.lemmas.Bool.Decides.{nat_tests}
use Rattle.std.proofs.lemmas.Option.{same_Some}
use Rattle.fbc_kinds.specs.declared.edits.Edit.{Edit}
use Rattle.fbc_kinds.specs.declared.pages.Page.{Page}
use Rattle.fbc_kinds.specs.declared.snapshots.Transaction.{Transaction}
use Rattle.fbc_kinds.specs.Machine.{begun}
use Rattle.fbc_kinds.specs.Meaning.{meaning_of}
use Rattle.fbc_levels.specs.declared.levels.Level.{Level}
use Rattle.fbc_levels.specs.declared.levels.Level.TheVariants.{Ex, Free}
use Rattle.fbc_levels.specs.declared.resources.Resource.{Resource}
use Rattle.fbc_levels.specs.Levels.{is_exclusive}
use Rattle.fbc_levels.specs.Resources.{is_same_resource}
use Rattle.fbc_lock_table.proofs.Ways.{same_resource}
use Rattle.fbc_world.specs.declared.events.Act.{Act}
use Rattle.fbc_world.specs.declared.events.Act.TheVariants.{Die, Grant, Local, Lower, Opened, Reap, Write}
use Rattle.fbc_world.specs.declared.events.LocalEvent.TheVariants as local
use Rattle.fbc_world.specs.declared.asks.Ask.{Ask}
use Rattle.fbc_world.specs.Locks.{waiting_of}
use Rattle.fbc_world.specs.World.{World, acted, is_begin, newest_of, with_edit}
use Rattle.fbc_legal.specs.Guards.{Guard, GuardOfGrant, GuardOfLower, GuardOfSeriesLowering}
use Rattle.fbc_legal.specs.Scene.{Scene, number_resource}
use Rattle.fbc_legal.proofs.Exclusion.{AreRequestsTrue, is_plain, same_number}
use Rattle.fbc_closed_cuts.specs.Views.{is_edit}
use Rattle.fbc_numbers.specs.Numbers.{OpenNumbersStand}
use Rattle.fbc_numbers.specs.Opens.{OpensAreHeld}
use Rattle.fbc_numbers.proofs.CutFacts.{clash}
use Rattle.fbc_numbers.proofs.NumberWaits.{NumberWaitsAreBare, waits_bare-number}
use Rattle.fbc_numbers.proofs.Opens.{open-dead, open-edited, open-written}

exclusive_is : (level : Level) → is_exclusive level ≡ true → level ≡ Ex
exclusive_is level is = grind (arith, is)

-- What begins is a number.
begun_number : (resource : Resource) (level : Level) → is_begin resource level ≡ true → is_same_resource resource (number_resource resource.key) ≡ true
begun_number resource level begins = grind (arith, nat_tests, begins)

begun_exclusive : (resource : Resource) (level : Level) → is_begin resource level ≡ true → is_exclusive level ≡ true
begun_exclusive resource level begins = grind (arith, nat_tests, begins)

-- A number that does not begin is not granted in EX.
low_number : (resource : Resource) (level : Level) (number : ℕ) → is_begin resource level ≡ false → is_same_resource resource (number_resource number) ≡ true → is_exclusive level ≡ false
low_number resource level number never same = grind (arith, nat_tests, never, same)

module _ (at : Scene) (requests : AreRequestsTrue at.world) (bare : NumberWaitsAreBare at.world) (stand : OpenNumbersStand at.world) (held : OpensAreHeld at.world) (owner : ℕ) where
  abbrev w : World
  w = at.world

  -- The owner waits for nothing below EX on the number that it has in EX.
  raised : (resource : Resource) (level : Level) → GuardOfGrant at owner resource level → is_begin resource level ≡ false → (t : Transaction) → w.transaction owner ≡ Some t → is_same_resource resource (number_resource t.number) ≡ true → ⊥
  raised resource level g never t is same =
      let waits : waiting_of w.locks owner (number_resource t.number) ≡ Some level = subst (λ r. waiting_of w.locks owner r ≡ Some level) (same_resource resource (number_resource t.number) same) g.wanted in
      let free : w.granted owner (number_resource t.number) ≡ Free = waits_bare-number w bare requests owner t.number level waits (low_number resource level t.number never same) in
      let both : Ex ≡ Free = sym (held owner t is) ∙ free in cc

  -- A level that is changed is not that of the open number.
  elsewhere : (resource : Resource) (level : Level) (other : ℕ) (t : Transaction) → w.transaction other ≡ Some t → (other ≡ owner → is_same_resource resource (number_resource t.number) ≡ true → ⊥)
      → (if (other == owner) && is_same_resource resource (number_resource t.number) then level else w.granted other (number_resource t.number)) ≡ Ex
  elsewhere resource level other t is never = go (other == owner) refl (is_same_resource resource (number_resource t.number)) refl where
    go : (a : Bool) → other == owner ≡ a → (b : Bool) → is_same_resource resource (number_resource t.number) ≡ b → (if a && b then level else w.granted other (number_resource t.number)) ≡ Ex
    go true its true same = absurd (never (same_number other owner its) same)
    go true its false same = held other t is
    go false its b same = held other t is

  own_open : (other : ℕ) (t : Transaction) → other ≡ owner → w.transaction other ≡ Some t → w.transaction owner ≡ Some t
  own_open other t its is = subst (λ o. w.transaction o ≡ Some t) its is

  held-granted : (resource : Resource) (level : Level) (landed : Bool) → GuardOfGrant at owner resource level → OpensAreHeld (acted at.shape w owner (Grant resource level) landed)
  held-granted resource level landed g other t = go (other == owner) refl (is_begin resource level) refl where
    new : t ≡ begun (meaning_of (newest_of w)) owner resource.key → is_begin resource level ≡ true → other == owner ≡ true → (acted at.shape w owner (Grant resource level) landed).granted other (number_resource t.number) ≡ Ex
    new is begins its =
        let number_is : t.number ≡ resource.key = ap (λ (u : Transaction). u.number) is in
        let same : is_same_resource resource (number_resource t.number) ≡ true = rw number_is (begun_number resource level begins) in
        rw (its, same) (exclusive_is level (begun_exclusive resource level begins))

    go : (a : Bool) → other == owner ≡ a → (b : Bool) → is_begin resource level ≡ b → (if a && b then Some (begun (meaning_of (newest_of w)) owner resource.key) else w.transaction other) ≡ Some t
        → (acted at.shape w owner (Grant resource level) landed).granted other (number_resource t.number) ≡ Ex
    go true its true begins is = new (same_Some t _ (sym is)) begins its
    go true its false never is = elsewhere resource level other t is (λ own same. raised resource level g never t (own_open other t own is) same)
    go false its b begins is = elsewhere resource level other t is (λ own same. clash (other == owner) (grind (arith, nat_tests, own)) its)

  held-lowered : (resource : Resource) (level : Level) (landed : Bool) → GuardOfLower at owner resource level → OpensAreHeld (acted at.shape w owner (Lower resource level) landed)
  held-lowered resource level landed g other t is = elsewhere resource level other t is (λ own same. over (same_resource resource (number_resource t.number) same) (own_open other t own is)) where
    over : resource ≡ number_resource t.number → w.transaction owner ≡ Some t → ⊥
    over same open_is = (subst (λ (r : Resource). GuardOfSeriesLowering at owner r.series r.key level) same g.by_series).over t open_is refl

  held-reaped : (gone : ℕ) (by : Ask) (landed : Bool) → w.is_alive gone ≡ false → OpensAreHeld (acted at.shape w owner (Reap gone by) landed)
  held-reaped gone by landed is_dead other t is = go (other == gone) refl where
    go : (b : Bool) → other == gone ≡ b → (if b then Free else w.granted other (number_resource t.number)) ≡ Ex
    go true its = absurd (clash _ (stand other t is).alive (rw (same_number other gone its) is_dead))
    go false apart = held other t is

  pub held-acted : (act : Act) (landed : Bool) → Guard at owner act → is_plain act ≡ true → is_edit act ≡ false → OpensAreHeld (acted at.shape w owner act landed)
  held-acted (Opened locks) landed g plain no_edit other t is = absurd (clash _ (stand other t is).alive (g.none_alive other))
  held-acted Die landed g plain no_edit other t is = held other t (open-dead w owner other t is).open_is.was
  held-acted (Write page reason false) landed g plain no_edit other t is = held other t (open-written w owner page other t is).was
  held-acted (Write page reason true) landed g plain no_edit other t is = absurd cc
  held-acted (Grant resource level) landed g plain no_edit other t is = held-granted resource level landed g other t is
  held-acted (Lower resource level) landed g plain no_edit other t is = held-lowered resource level landed g other t is
  held-acted (Reap gone by) landed g plain no_edit other t is = held-reaped gone by landed g.is_dead other t is
  held-acted (Local (local.Edit page e)) landed g plain no_edit other t is = absurd cc
  held-acted (Local (local.Before high low)) landed g plain no_edit other t is = held other t is
  held-acted (Local (local.Pin page)) landed g plain no_edit other t is = held other t is
  held-acted (Local (local.Unpin page)) landed g plain no_edit other t is = held other t is
  held-acted _ landed g plain no_edit other t is = held other t is

-- An edit changes no level.
pub held-edited : (w : World) (owner page : ℕ) (e : Edit) (content : Page) → w.marked owner ≡ None → OpensAreHeld w → OpensAreHeld (with_edit w owner page e (Some content))
held-edited w owner page e content unmarked held other t is = held other t (open-edited w owner page e content unmarked other t is)
