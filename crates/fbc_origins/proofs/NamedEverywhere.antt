-- Where the file names what the newest pages name, every view does.
use Rattle.std.proofs.Common.{◌≡◌, ℕ, Bool, true, false, Option, Some, None, refl, sym, subst}
use Rattle.std.specs.Prelude.{◌/◌, ◌%◌, option_and_then}
use Rattle.fbc_kinds.specs.Limits.{slots}
use Rattle.fbc_kinds.specs.Reach.{DataRole, Reaches}
use Rattle.fbc_kinds.specs.View.{View, cell_at, named_in, pointer_of}
use Rattle.fbc_page_edits.proofs.HeaderStands.{size_is}
use Rattle.fbc_legal.specs.Scene.{Scene, newest_at}
use Rattle.fbc_closed_cuts.specs.Cut.{Cut, view}
use Rattle.fbc_closed_cuts.specs.Upheld.{IsUpheld}
use Rattle.fbc_origins.proofs.PutPages.{every_draft, named-reached, newest-closed, newest-shape, newest-sound, newest-view}
use Rattle.fbc_origins.specs.Rows.{NamesRow, RowsAreNamed, SettledRowsAreNamed}

-- The pointer page by which a page is reached.
pub record IsNamedBy (at : Scene) (seen : View) (relation sequence page : ℕ) : Type 0 where
  pub pointer : ℕ
  pub is : NamesRow at.shape seen relation sequence pointer page

module _ (at : Scene) (u : IsUpheld at) where
  newest_by : (relation sequence page : ℕ) → Reaches (newest_at at) (DataRole relation sequence) page → IsNamedBy at (newest_at at) relation sequence page
  newest_by relation sequence page reached = go (pointer_of (newest_at at) relation (sequence / slots at.shape.size)) refl
      (subst (λ size. option_and_then (λ (p : ℕ). named_in (newest_at at p) (sequence % slots size)) (pointer_of (newest_at at) relation (sequence / slots size)) ≡ Some page) (size_is at.shape (newest_at at) (newest-shape at u) (newest-sound at u)) reached)
    where
      go : (found : Option ℕ) → pointer_of (newest_at at) relation (sequence / slots at.shape.size) ≡ found → option_and_then (λ (p : ℕ). named_in (newest_at at p) (sequence % slots at.shape.size)) found ≡ Some page
          → IsNamedBy at (newest_at at) relation sequence page
      go None is has = absurd cc
      go (Some pointer) is has = record { pointer = pointer; is = record { pointed = is; named = has } }

  -- Each page of a view is the file's or the newest.
  both : (relation sequence pointer page : ℕ) → NamesRow at.shape (newest_at at) relation sequence pointer page → NamesRow at.shape at.world.kept relation sequence pointer page → (cut : Cut) → NamesRow at.shape (view at.world cut) relation sequence pointer page
  both relation sequence pointer page new old cut = record { pointed = header (cut 0) refl; named = slot (cut pointer) refl } where
    header : (b : Bool) → cut 0 ≡ b → pointer_of (view at.world cut) relation (sequence / slots at.shape.size) ≡ Some pointer
    header true is = rw is new.pointed
    header false is = rw is old.pointed

    slot : (b : Bool) → cut pointer ≡ b → named_in (view at.world cut pointer) (sequence % slots at.shape.size) ≡ Some page
    slot true is = rw is new.named
    slot false is = rw is old.named

  pub named-everywhere : RowsAreNamed at → SettledRowsAreNamed at
  named-everywhere rows relation sequence page cell top reached stands settled cut closed =
      let by : IsNamedBy at (newest_at at) relation sequence page = newest_by relation sequence page reached in
      let in_file : NamesRow at.shape at.world.kept relation sequence by.pointer page =
      rows (every_draft at.world) relation sequence by.pointer page cell top (newest-closed at.world)
      (subst (λ (v : View). NamesRow at.shape v relation sequence by.pointer page) (sym (newest-view at.world)) by.is)
      (subst (λ (v : View). cell_at v page cell ≡ Some top) (sym (newest-view at.world)) stands) settled in
      let there : NamesRow at.shape (view at.world cut) relation sequence by.pointer page = both relation sequence by.pointer page by.is in_file cut in
      named-reached at.shape (view at.world cut) (u.of_shape cut closed) (u.sound cut closed) relation sequence by.pointer page there.pointed there.named
