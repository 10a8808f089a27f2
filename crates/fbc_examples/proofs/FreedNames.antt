-- A page is freed that the pointer page in the file still names, legally.
use Rattle.std.proofs.Common.{◌≡◌, ℕ, Some, inl, inr, refl, arith}
use Rattle.fbc_kinds.specs.declared.edits.Edit.TheVariants.{FreePage, Unname}
use Rattle.fbc_world.specs.History.{History}
use Rattle.fbc_world.specs.World.{world_of}
use Rattle.fbc_kinds.specs.Order.{StandsBefore}
use Rattle.fbc_legal.specs.Facts.{Names}
use Rattle.fbc_legal.specs.Leans.{IsNamedNowhere, IsNotNamedBy, UnnameLeans}
use Rattle.fbc_legal.specs.Legal.{IsLegal}
use Rattle.fbc_legal.specs.Scene.{newest_after, newest_at, scene_of}
use Rattle.fbc_legal.specs.Traces.{IsNamed, IsUnnamedBy}
use Rattle.fbc_examples.specs.Files.{empty_file, small_shape}
use Rattle.fbc_examples.specs.Steps.{edits, holds, with_owner}
use Rattle.fbc_examples.specs.Unnaming.{with_free_page, with_unnamed_page}
use Rattle.fbc_examples.proofs.LegalSteps.{legal_edits, legal_holds, legal_orders, legal_owner}
use Rattle.fbc_examples.proofs.Nothing.{nothing_before}
use Rattle.fbc_examples.proofs.Nowhere.{header_spares, no_inventory, not_named, pointer_spares}
use Rattle.fbc_examples.proofs.SmallViews.{pointer_is}
use Rattle.fbc_examples.proofs.TakenPages.{all_empty, other_page}

abbrev with_three : History
with_three = holds 1 (holds 3 (holds 4 with_owner))

legal_three : IsLegal small_shape empty_file with_three
legal_three =
    let one = legal_holds empty_file with_owner 4 (legal_owner empty_file) tt refl refl (omega arith) (λ other apart. refl) in
    let two = legal_holds empty_file (holds 4 with_owner) 3 one tt refl refl (omega arith) (λ other apart. rw apart refl) in
    legal_holds empty_file (holds 3 (holds 4 with_owner)) 1 two tt refl refl (omega arith) (λ other apart. rw apart refl)

unname_leans : (page : ℕ) → Some 4 ≡ Some page → UnnameLeans (scene_of small_shape empty_file with_three) 1 3 page
unname_leans page is =
    let there : 4 ≡ page = cc in
    rw (← there) (record {
      empty = record { newest = λ cell version at. all_empty 45 cell version at; in_time = inr (inl (λ cell version at. all_empty 45 cell version at)) };
      exclusive = refl;
    })

abbrev without_name : History
without_name = edits 3 (Unname 0) with_three

legal_unname : IsLegal small_shape empty_file without_name
legal_unname = legal_edits empty_file with_three 3 (Unname 0) legal_three tt refl refl tt unname_leans tt tt

legal_unnamed_page : IsLegal small_shape empty_file with_unnamed_page
legal_unnamed_page =
    legal_orders empty_file without_name 3 1 legal_unname tt refl (λ same. omega arith)
    (nothing_before (world_of small_shape empty_file without_name) 3 (λ owner high. refl) 1)

-- The pointer page names page 4 in the file, and will not when the page inventory is written.
pub still_in_file : Names ((world_of small_shape empty_file with_unnamed_page).kept 3) 4
still_in_file = Names.slot 0 refl

not_by : IsNotNamedBy (scene_of small_shape empty_file with_unnamed_page) 1 1 3 4
not_by = record {
  newest = λ names. pointer_spares 4 other_page names;
  in_time = inr (inl (refl, StandsBefore.straight 3 1 (1, refl)));
}

nowhere : IsNamedNowhere (scene_of small_shape empty_file with_unnamed_page) 1 1 4
nowhere = record {
  header = record {
    newest = λ names. header_spares 1 4 other_page names;
    in_time = inr (inl (λ names. header_spares 1 4 other_page names));
  };
  pointers = λ relation sequence pointer is.
      rw (pointer_is (newest_at (scene_of small_shape empty_file with_unnamed_page)) 1 0 refl refl relation sequence pointer is).2 not_by;
}

unnamed_last : IsUnnamedBy small_shape empty_file 1 4 with_unnamed_page
unnamed_last =
    IsUnnamedBy.still _ _
    (IsUnnamedBy.unnamed _ _ (record {
      edited = 3;
      edit = Unname 0;
      is = record { actor = refl; act = refl };
      named = IsNamed.data_page 0 0 refl;
      unnamed = not_named (newest_after small_shape empty_file without_name) 1 4 other_page refl refl;
    }))
    (λ owner is. cc)
    (λ other unnames. let no = unnames.is.act in cc)

pub legal_free_page : IsLegal small_shape empty_file with_free_page
legal_free_page =
    legal_edits empty_file with_unnamed_page 1 (FreePage 4) legal_unnamed_page tt refl refl tt nowhere tt
    (record {
      no_header = λ is. omega arith;
      no_inventory = no_inventory (newest_after small_shape empty_file with_unnamed_page) 1 4 other_page refl refl;
      unnamed = unnamed_last;
    })
