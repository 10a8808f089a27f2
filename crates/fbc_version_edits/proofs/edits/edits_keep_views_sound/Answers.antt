use Rattle.std.proofs.Common.{ℕ, subst}
use Rattle.fbc_kinds.specs.declared.edits.Edit.{Edit}
use Rattle.fbc_kinds.specs.declared.edits.Edit.TheVariants as edit
use Rattle.fbc_kinds.specs.declared.pages.Cell.{Cell}
use Rattle.fbc_kinds.specs.Sound.{IsSound}
use Rattle.fbc_version_edits.specs.Forms.{AllowsClear, AllowsPut, IsAdmittedEdit, backout, cut, deleted, first, lone, move, over, own_again, unnamed}
use Rattle.fbc_page_edits.specs.Allowed.{Allows, IsAllowedEdit}
use Rattle.fbc_page_edits.specs.Edited.{with_page}
use Rattle.fbc_version_edits.specs.Puts.{IsClearIn, IsPutIn}
use Rattle.fbc_version_edits.proofs.edits.edits_keep_views_sound.Goals as goal

pub returns : goal.returns
returns c shape view number any content is = go any is
  where
    put_sound : (cell : ℕ) (new : Cell) (put : IsPutIn shape view number cell new content) → AllowsPut view put.page.relation number cell new → IsSound (with_page view number content)
    put_sound cell new put (first form) = (c.first_versions_keep_views.ensures shape view number cell new content put form).sound
    put_sound cell new put (own_again form) = (c.own_versions_keep_views.ensures shape view number cell new content put form).sound
    put_sound cell new put (over form) = (c.new_versions_keep_views.ensures shape view number cell new content put form).sound
    put_sound cell new put (move form) = (c.moved_versions_keep_views.ensures shape view number cell new content put form).sound
    put_sound cell new put (backout form) = (c.backouts_keep_views.ensures shape view number cell new content put form).sound
    put_sound cell new put (cut form) = (c.cuts_keep_views.ensures shape view number cell new content put form).sound

    clear_sound : (cell : ℕ) → IsClearIn shape view number cell content → AllowsClear view number cell → IsSound (with_page view number content)
    clear_sound cell clear (lone form) = (c.cleared_versions_keep_views.ensures shape view number cell content clear form).sound
    clear_sound cell clear (deleted form) = (c.cleared_deletions_keep_views.ensures shape view number cell content clear form).sound
    clear_sound cell clear (unnamed form) = (c.cleared_values_keep_views.ensures shape view number cell content clear form).sound

    as_allowed : (any : Edit) → IsAdmittedEdit shape view number any content → Allows shape view number any → IsAllowedEdit shape view number any content
    as_allowed any is allowed = record { of_shape = is.of_shape; sound = is.sound; own = is.own; fits = is.fits; allowed = allowed }

    go : (any : Edit) → IsAdmittedEdit shape view number any content → IsSound (with_page view number content)
    go (edit.SetNext next) is = (c.raised_numbers_keep_views.ensures shape view number next content (as_allowed (edit.SetNext next) is is.allowed)).sound
    go (edit.AddTip page) is = (c.added_tips_keep_views.ensures shape view number page content (as_allowed (edit.AddTip page) is is.allowed)).sound
    go (edit.AddPointer relation page) is = (c.added_pointers_keep_views.ensures shape view number relation page content (as_allowed (edit.AddPointer relation page) is is.allowed)).sound
    go edit.AddInventory is = (c.added_inventories_keep_views.ensures shape view number content (as_allowed edit.AddInventory is is.allowed)).sound
    go (edit.TakePage page) is = (c.taken_pages_keep_views.ensures shape view number page content (as_allowed (edit.TakePage page) is is.allowed)).sound
    go (edit.FreePage page) is = (c.freed_pages_keep_views.ensures shape view number page content (as_allowed (edit.FreePage page) is is.allowed)).sound
    go (edit.Mark marked state) is = (c.marks_keep_views.ensures shape view number marked state content is).sound
    go (edit.Name slot page) is = c.named_pages_keep_views.ensures.sound shape view number slot page content (as_allowed (edit.Name slot page) is is.allowed)
    go (edit.Unname slot) is = c.unnamed_pages_keep_views.ensures.sound shape view number slot content (as_allowed (edit.Unname slot) is is.allowed)
    go (edit.PutCell cell new) is = let put = c.cell_edits_have_forms.ensures.put shape view number cell new content is in put_sound cell new put.put put.allowed
    go (edit.ClearCell cell) is = let clear = c.cell_edits_have_forms.ensures.clear shape view number cell content is in clear_sound cell clear.clear clear.allowed
    go (edit.Format page_kind page relation sequence) is =
        (c.formats_keep_views.ensures shape view number page_kind relation sequence content
        (subst (λ n. IsAllowedEdit shape view number (edit.Format page_kind n relation sequence) content) is.own (as_allowed (edit.Format page_kind page relation sequence) is is.allowed))).sound
