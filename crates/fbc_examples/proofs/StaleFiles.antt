-- The file in which a free page spells a pointer page is sound, and has whole pages.
use Rattle.std.proofs.Common.{◌≡◌, ◌<◌, ℕ, zero, suc, true, ◌∷◌, [], List, refl, arith, slice_get}
use Rattle.std.specs.Prelude.{Some, replicate}
use Rattle.std.proofs.lemmas.List.Elements.{All-cons, All-replicate}
use Rattle.std.proofs.lemmas.Option.{same_Some}
use Rattle.fbc_kinds.specs.declared.pages.Page.{Page}
use Rattle.fbc_kinds.specs.declared.pages.Page.TheVariants.{Blank}
use Rattle.fbc_kinds.specs.Limits.{number_limit}
use Rattle.fbc_kinds.specs.Reach.{Role, shows_role}
use Rattle.fbc_kinds.specs.Sound.{IsSound}
use Rattle.fbc_kinds.specs.View.{is_taken}
use Rattle.fbc_examples.specs.Files.{header_page, inventory_page, pointer_page, small_shape, stale_file, stale_pointer_page, tip_page}
use Rattle.fbc_examples.proofs.SmallViews.{IsPlace}
use Rattle.fbc_examples.proofs.SoundFiles.{sound_bare}
use Rattle.fbc_examples.proofs.WholePages.{Fits, HasWholePages, in_place, whole_new}

stale_fits : (role : Role) (page : ℕ) → IsPlace 0 role page → (shows_role role page (stale_file page) ≡ true) × (is_taken stale_file page ≡ true)
stale_fits role page IsPlace.header_place = (refl, refl)
stale_fits role page IsPlace.inventory_place = (refl, refl)
stale_fits role page IsPlace.tip_place = (refl, refl)
stale_fits role page IsPlace.pointer_place = (refl, refl)
stale_fits role page (IsPlace.data_place some) = cc

pub sound_stale : IsSound stale_file
sound_stale = sound_bare stale_file refl refl refl stale_fits

abbrev stale_pages : List Page
stale_pages = header_page 1 ∷ inventory_page 4 ∷ tip_page [] ∷ pointer_page 0 ∷ Blank ∷ stale_pointer_page ∷ []

whole_stale : (number : ℕ) (page : Page) → slice_get stale_pages number ≡ Some page → Fits number page
whole_stale zero page at = whole_new zero page at
whole_stale (suc zero) page at = whole_new (suc zero) page at
whole_stale (suc (suc zero)) page at = whole_new (suc (suc zero)) page at
whole_stale (suc (suc (suc zero))) page at = whole_new (suc (suc (suc zero))) page at
whole_stale (suc (suc (suc (suc zero)))) page at = rw (← same_Some _ page at) (tt, refl)
whole_stale (suc (suc (suc (suc (suc zero))))) page at =
    rw (← same_Some _ page at) (
      record {
        page_fits = omega arith;
        sequence_fits = omega arith;
        relation_fits = omega arith;
        count = refl;
        slots_fit = All-cons (λ number. number < number_limit) 4 (replicate 251 0) (omega arith) (All-replicate (λ number. number < number_limit) 251 0 (omega arith));
      },
      refl,
    )
whole_stale (suc (suc (suc (suc (suc (suc number)))))) page at = cc

pub whole_stale_file : HasWholePages small_shape stale_file
whole_stale_file number content is = in_place number content (slice_get stale_pages number) (whole_stale number) is
