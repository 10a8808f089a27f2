-- A page that neither the small header nor the pointer page names is named nowhere, and is no page inventory.
use Rattle.std.proofs.Common.{◌≡◌, ℕ, Some, inl, inr}
use Rattle.std.specs.Prelude.{◌≢◌, ◌⊎◌}
use Rattle.fbc_kinds.specs.View.{View, inventory_of}
use Rattle.fbc_legal.specs.Facts.{Names}
use Rattle.fbc_legal.specs.Leans.{IsNamedNowhere, IsNotNamedBy}
use Rattle.fbc_legal.specs.Scene.{Scene, newest_at}
use Rattle.fbc_legal.specs.Traces.{IsNamed}
use Rattle.fbc_examples.specs.Files.{header_page, pointer_page}
use Rattle.fbc_examples.proofs.SmallViews.{header_names, inventory_is, named, pointer_is, pointer_names}

-- Another page than those that a small file names.
pub record IsOther (page : ℕ) : Type 0 where
  pub no_header : page ≢ 0
  pub no_inventory : page ≢ 1
  pub no_tip : page ≢ 2
  pub no_pointer : page ≢ 3

either : (page a b : ℕ) → page ≢ a → page ≢ b → (page ≡ a) ⊎ (page ≡ b) → ⊥
either page a b not_a not_b (inl is) = not_a is
either page a b not_a not_b (inr is) = not_b is

pub header_spares : (next page : ℕ) → IsOther page → Names (Some (header_page next)) page → ⊥
header_spares next page other names = either page 2 3 other.no_tip other.no_pointer (header_names next page names)

pub pointer_spares : (page : ℕ) → IsOther page → Names (Some (pointer_page 0)) page → ⊥
pointer_spares page other names = either page 0 0 other.no_header other.no_header (pointer_names 0 page names)

one_of : (page : ℕ) → IsOther page → (page ≡ 2) ⊎ (page ≡ 3) ⊎ (page ≡ 0) → ⊥
one_of page other (inl is) = other.no_tip is
one_of page other (inr (inl is)) = other.no_pointer is
one_of page other (inr (inr is)) = other.no_header is

pub not_named : (view : View) (next page : ℕ) → IsOther page → view 0 ≡ Some (header_page next) → view 3 ≡ Some (pointer_page 0) → IsNamed view page → ⊥
not_named view next page other at_header at_pointer is = one_of page other (named view next 0 at_header at_pointer page is)

pub no_inventory : (view : View) (next page : ℕ) → IsOther page → view 0 ≡ Some (header_page next) → view 3 ≡ Some (pointer_page 0) → (sequence : ℕ) → inventory_of view sequence ≡ Some page → ⊥
no_inventory view next page other at_header at_pointer sequence is = other.no_inventory (inventory_is view next 0 at_header at_pointer sequence page is).1

module _ (at : Scene) (owner edited page next kept_next : ℕ) (other : IsOther page)
    (header_is : newest_at at 0 ≡ Some (header_page next)) (pointer_page_is : newest_at at 3 ≡ Some (pointer_page 0))
    (kept_header : at.world.kept 0 ≡ Some (header_page kept_next)) (kept_pointer : at.world.kept 3 ≡ Some (pointer_page 0)) where
  not_by : IsNotNamedBy at owner edited 3 page
  not_by = record {
    newest = λ names. pointer_spares page other (rw pointer_page_is at names);
    in_time = inl (λ names. pointer_spares page other (rw kept_pointer at names));
  }

  pub named_nowhere : IsNamedNowhere at owner edited page
  named_nowhere = record {
    header = record {
      newest = λ names. header_spares next page other (rw header_is at names);
      in_time = inr (inl (λ names. header_spares kept_next page other (rw kept_header at names)));
    };
    pointers = λ relation sequence pointer is. rw (pointer_is (newest_at at) next 0 header_is pointer_page_is relation sequence pointer is).2 not_by;
  }
