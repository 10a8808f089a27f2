-- A page is made a pointer page, a transaction inventory or a page inventory, and the header names or counts it, legally.
use Rattle.std.proofs.Common.{inl, inr, refl, arith}
use Rattle.std.proofs.lemmas.Bool.Decides.{nat_tests}
use Rattle.fbc_kinds.specs.declared.edits.Edit.TheVariants.{AddInventory, AddPointer, AddTip, Format}
use Rattle.fbc_world.specs.History.{History}
use Rattle.fbc_world.specs.World.{world_of}
use Rattle.fbc_kinds.specs.Order.{StandsBefore}
use Rattle.fbc_legal.specs.Leans.{IsReady}
use Rattle.fbc_legal.specs.Legal.{IsLegal}
use Rattle.fbc_legal.specs.Scene.{newest_after, scene_of}
use Rattle.fbc_examples.specs.Files.{header, new_file, small_shape}
use Rattle.fbc_examples.specs.Pages.{with_inventory, with_pointer_page, with_taken_page, with_tip}
use Rattle.fbc_examples.specs.Steps.{edits, holds, orders, with_owner}
use Rattle.fbc_examples.proofs.LegalSteps.{legal_edits, legal_holds, legal_orders, legal_owner}
use Rattle.fbc_examples.proofs.Nothing.{before_nothing}
use Rattle.fbc_examples.proofs.Nowhere.{IsOther, named_nowhere, no_inventory}
use Rattle.fbc_examples.proofs.TakenPages.{legal_made}

abbrev with_made_pointer : History
with_made_pointer = edits 4 (Format 4 4 0 1) with_taken_page

legal_pointer_order : IsLegal small_shape new_file (orders 4 0 with_made_pointer)
legal_pointer_order =
    legal_orders new_file with_made_pointer 4 0 (legal_made 4 0 1 refl (omega arith)) tt refl (λ same. omega arith)
    (before_nothing (world_of small_shape new_file with_made_pointer) 0 (λ owner low. grind (arith, nat_tests)) 4)

-- Page 4 is empty and in use, and all that shows this is to be written before the header.
pointer_ready : IsReady (scene_of small_shape new_file (orders 4 0 with_made_pointer)) 1 0 4 4 0 1
pointer_ready = record {
  empty = record { newest = (_, refl, refl); in_time = inr (inr (refl, StandsBefore.straight 4 0 (1, refl))) };
  used = record {
    taken = record { newest = refl; in_time = inr (inr (refl, StandsBefore.through 1 4 0 (1, refl) (StandsBefore.straight 4 0 (1, refl)))) };
    counted = record { newest = (header 1, refl, omega arith); in_time = inl refl };
  };
}

pub legal_pointer_page : IsLegal small_shape new_file with_pointer_page
legal_pointer_page = legal_edits new_file (orders 4 0 with_made_pointer) 0 (AddPointer 0 4) legal_pointer_order tt refl refl (omega arith) (pointer_ready, refl) tt tt

abbrev with_made_tip : History
with_made_tip = edits 4 (Format 3 4 0 1) with_taken_page

legal_tip_order : IsLegal small_shape new_file (orders 4 0 with_made_tip)
legal_tip_order =
    legal_orders new_file with_made_tip 4 0 (legal_made 3 0 1 refl (omega arith)) tt refl (λ same. omega arith)
    (before_nothing (world_of small_shape new_file with_made_tip) 0 (λ owner low. grind (arith, nat_tests)) 4)

tip_ready : IsReady (scene_of small_shape new_file (orders 4 0 with_made_tip)) 1 0 4 3 0 1
tip_ready = record {
  empty = record { newest = (_, refl, refl); in_time = inr (inr (refl, StandsBefore.straight 4 0 (1, refl))) };
  used = record {
    taken = record { newest = refl; in_time = inr (inr (refl, StandsBefore.through 1 4 0 (1, refl) (StandsBefore.straight 4 0 (1, refl)))) };
    counted = record { newest = (header 1, refl, omega arith); in_time = inl refl };
  };
}

pub legal_tip : IsLegal small_shape new_file with_tip
legal_tip = legal_edits new_file (orders 4 0 with_made_tip) 0 (AddTip 4) legal_tip_order tt refl refl (omega arith) (tip_ready, refl) tt tt

abbrev with_next_page : History
with_next_page = holds 8064 (holds 0 with_owner)

legal_next_page : IsLegal small_shape new_file with_next_page
legal_next_page =
    let one = legal_holds new_file with_owner 0 (legal_owner new_file) tt refl refl (omega arith) (λ other apart. refl) in
    legal_holds new_file (holds 0 with_owner) 8064 one tt refl refl (omega arith) (λ other apart. rw apart refl)

next_is_other : IsOther 8064
next_is_other = record { no_header = λ is. omega arith; no_inventory = λ is. omega arith; no_tip = λ is. omega arith; no_pointer = λ is. omega arith }

abbrev with_made_inventory : History
with_made_inventory = edits 8064 (Format 2 8064 0 1) with_next_page

pub legal_made_inventory : IsLegal small_shape new_file with_made_inventory
legal_made_inventory =
    legal_edits new_file with_next_page 8064 (Format 2 8064 0 1) legal_next_page tt refl refl (omega arith, omega arith)
    (record {
      nowhere = named_nowhere (scene_of small_shape new_file with_next_page) 1 8064 8064 1 1 next_is_other refl refl refl refl;
      used = λ other. absurd (other refl);
    })
    tt
    (record {
      no_header = λ is. omega arith;
      no_inventory = no_inventory (newest_after small_shape new_file with_next_page) 1 8064 next_is_other refl refl;
      taken = λ other. absurd (other refl);
    })

legal_inventory_order : IsLegal small_shape new_file (orders 8064 0 with_made_inventory)
legal_inventory_order =
    legal_orders new_file with_made_inventory 8064 0 legal_made_inventory tt refl (λ same. omega arith)
    (before_nothing (world_of small_shape new_file with_made_inventory) 0 (λ owner low. refl) 8064)

pub legal_inventory : IsLegal small_shape new_file with_inventory
legal_inventory =
    legal_edits new_file (orders 8064 0 with_made_inventory) 0 AddInventory legal_inventory_order tt refl refl tt
    (record { newest = refl; in_time = inr (inr (refl, StandsBefore.straight 8064 0 (1, refl))) })
    tt tt
