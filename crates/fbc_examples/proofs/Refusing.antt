-- The guards refuse what comes too early.
use Rattle.std.proofs.Common.{◌≡◌, ◌<◌, inl, inr, ℕ, true, false, refl, sym, arith}
use Rattle.fbc_kinds.specs.declared.pages.Flag.TheVariants as flag
use Rattle.fbc_kinds.specs.Reach.{ReachesCell}
use Rattle.fbc_kinds.specs.View.{is_top}
use Rattle.fbc_kinds.specs.Order.{StandsBefore}
use Rattle.fbc_legal.specs.Legal.{IsLegal}
use Rattle.fbc_legal.specs.Ranks.{IsLower, data_rank, inventory_rank}
use Rattle.fbc_legal.specs.Rows.{IsClearing}
use Rattle.fbc_legal.specs.Scene.{newest_after, scene_of}
use Rattle.fbc_page_edits.specs.Facing.{IsLinked}
use Rattle.fbc_examples.specs.Clearing.{with_both}
use Rattle.fbc_examples.specs.Files.{empty_file, new_file, old_value, over, row_file, small_shape, value, worn_file}
use Rattle.fbc_examples.proofs.ChangedRows.{first_transaction}
use Rattle.fbc_examples.specs.Refused.{with_downward_wait, with_early_mark, with_early_unpin, with_early_write, with_lost_draft, with_lost_page, with_robbed_owner, with_torn_chain, with_two_holders}

no : false ≡ true → ⊥
no is = cc

-- Page 4 has another draft.
pub early_mark : IsLegal small_shape empty_file with_early_mark → ⊥
early_mark legal = let only : ◌≡◌ {A = ℕ} 4 2 = legal.1.guard.row.3 4 refl in omega arith

-- The header has a draft, and stands before page 4.
pub early_write : IsLegal small_shape empty_file with_early_write → ⊥
early_write legal = legal.1.guard.first 0 refl (StandsBefore.straight 0 4 (1, refl))

pub lost_page : IsLegal small_shape row_file with_lost_page → ⊥
lost_page legal = no ((legal.1.guard.leans 4 refl).empty.newest 0 (value 1 65) refl)

pub lost_draft : IsLegal small_shape new_file with_lost_draft → ⊥
lost_draft legal = no (sym legal.1.guard.by_series.clean)

pub two_holders : IsLegal small_shape new_file with_two_holders → ⊥
two_holders legal = no (legal.1.guard.beside 1 (λ same. omega arith))

pub robbed_owner : IsLegal small_shape new_file with_robbed_owner → ⊥
robbed_owner legal = no (sym legal.1.guard.is_dead)

-- The row's newest version names cell 1.
linked : IsLinked (newest_after small_shape worn_file with_both) 4 1
linked = record {
  relation = 0;
  from_page = 4;
  from_cell = 0;
  version = over 1 (value 3 67);
  links = record {
    reached = ReachesCell.top 0 4 0 (over 1 (value 3 67)) refl refl refl;
    stands = refl;
    names = record { some = refl; page_is = refl; cell_is = refl };
  };
}

no_clearing : IsClearing (scene_of small_shape worn_file with_both) 4 1 → ⊥
no_clearing (IsClearing.backout old stands top dead none) =
    let same : over 2 (old_value 2 66) ≡ old = cc in let back : is_top (over 2 (old_value 2 66)).flag ≡ true = rw (← same) at top in no back
no_clearing (IsClearing.deleted old stands deletion settled) =
    let same : over 2 (old_value 2 66) ≡ old = cc in let back : (over 2 (old_value 2 66)).flag ≡ flag.Deletion = rw (← same) at deletion in cc
no_clearing (IsClearing.unreached old stands back unlinked) = unlinked linked

pub torn_chain : IsLegal small_shape worn_file with_torn_chain → ⊥
torn_chain legal = no_clearing legal.1.guard.row

-- The open number is not below the next.
pub early_unpin : IsLegal small_shape empty_file with_early_unpin → ⊥
early_unpin legal = let below : 1 < 1 = legal.1.guard refl first_transaction refl in omega arith

is_no_lower : IsLower (inventory_rank 0) (data_rank 4) → ⊥
is_no_lower (inl below) = omega arith
is_no_lower (inr same) = omega (arith, same.0)

pub downward_wait : IsLegal small_shape new_file with_downward_wait → ⊥
downward_wait legal = is_no_lower (legal.1.guard.upward refl refl 1 refl)
