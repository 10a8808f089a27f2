-- Before the first event all stamps are those of the file.
use Rattle.std.proofs.Common.{◌≡◌, ◌∙◌, ℕ, Bool, true, false, if◌then◌else◌, [], inl, refl, sym, subst}
use Rattle.std.proofs.lemmas.Option.{same_Some}
use Rattle.fbc_kinds.specs.declared.shapes.Shape.{Shape}
use Rattle.fbc_kinds.specs.View.{View}
use Rattle.fbc_world.specs.History.{History}
use Rattle.fbc_legal.specs.Scene.{scene_of}
use Rattle.fbc_legal.specs.Stamps.{unstamped}
use Rattle.fbc_closed_cuts.specs.Cut.{Cut}
use Rattle.fbc_legal.specs.Traces.{IsMovedBy, IsUnlinkedBy}
use Rattle.fbc_origins.specs.Origins.{IsOriginal, IsSameVersion}
use Rattle.fbc_origins.proofs.PastStamps.{stamps-past}
use Rattle.fbc_origins.proofs.EditsKept.{edits-stay}

-- Nothing happened yet.
none_moved : (shape : Shape) (file : View) (owner page cell stamp : ℕ) (history : History) → history ≡ [] → IsMovedBy shape file owner page cell stamp history → ⊥
none_moved shape file owner page cell stamp _ none (IsMovedBy.moved before moment content edit back same) = cc
none_moved shape file owner page cell stamp _ none (IsMovedBy.still before moment moved apart) = cc

none_unlinked : (shape : Shape) (file : View) (page cell owner edited stamp : ℕ) (history : History) → history ≡ [] → IsUnlinkedBy shape file page cell owner edited stamp history → ⊥
none_unlinked shape file page cell owner edited stamp _ none (IsUnlinkedBy.unlinked before moment edit is was now born same) = cc
none_unlinked shape file page cell owner edited stamp _ none (IsUnlinkedBy.still before moment unlinked apart born) = cc

nothing_moved : (shape : Shape) (file : View) (owner page cell stamp : ℕ) → IsMovedBy shape file owner page cell stamp [] → ⊥
nothing_moved shape file owner page cell stamp moved = none_moved shape file owner page cell stamp [] refl moved

nothing_unlinked : (shape : Shape) (file : View) (page cell owner edited stamp : ℕ) → IsUnlinkedBy shape file page cell owner edited stamp [] → ⊥
nothing_unlinked shape file page cell owner edited stamp unlinked = none_unlinked shape file page cell owner edited stamp [] refl unlinked

-- In every view each cell has the stamp 0, and meant 0.
stamp_of : (b : Bool) (cell : ℕ) → (if b then unstamped else unstamped).born cell ≡ 0
stamp_of true cell = refl
stamp_of false cell = refl

meant_of : (b : Bool) (cell : ℕ) → (if b then unstamped else unstamped).meant cell ≡ 0
meant_of true cell = refl
meant_of false cell = refl

zero_in : (cut : Cut) (page back_page cell back_cell : ℕ) → (if cut page then unstamped else unstamped).meant cell ≡ (if cut back_page then unstamped else unstamped).born back_cell
zero_in cut page back_page cell back_cell = meant_of (cut page) cell ∙ sym (stamp_of (cut back_page) back_cell)

pub first-original : (shape : Shape) (file : View) → IsOriginal (scene_of shape file [])
first-original shape file = record {
  past = stamps-past shape file [];
  versions = λ page cell old new stands now same.
      let is : old ≡ new = same_Some old new (sym stands ∙ now) in
      (subst (IsSameVersion old) is (record { flag = refl; number = refl; value = refl; link = inl (record { page = refl; cell = refl }) }), refl);
  edits = edits-stay shape file [] tt;
  meant = λ cut closed relation page cell back_page back_cell version link. zero_in cut page back_page cell back_cell;
  moves = λ owner page cell stamp moved. absurd (nothing_moved shape file owner page cell stamp moved);
  backs = λ owner page cell stamp moved. absurd (nothing_moved shape file owner page cell stamp moved);
  links = λ owner page cell stamp old new moved. absurd (nothing_moved shape file owner page cell stamp moved);
  gone = λ page cell owner edited stamp unlinked. absurd (nothing_unlinked shape file page cell owner edited stamp unlinked);
}
