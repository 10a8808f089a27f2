-- What one owner holds after an act of another that spares it.
use Rattle.std.proofs.Common.{◌≡◌, ◌≢◌, ◌==◌, ◌∙◌, ap, sym, refl, ℕ, Bool, true, false, Option, Some, None, if◌then◌else◌, length, arith}
use Rattle.std.specs.Prelude.{filter}
use Rattle.std.specs.List.{find}
use Rattle.std.specs.Option.{option_and_then}
use Rattle.std.proofs.lemmas.Bool.Decides.{nat_tests}
use Rattle.fbc_kinds.specs.declared.pages.Page.{Page}
use Rattle.fbc_kinds.specs.declared.shapes.Shape.{Shape}
use Rattle.fbc_levels.specs.declared.resources.Request.{Request}
use Rattle.fbc_levels.specs.LockState.{LockState, is_wait_of, wait_of}
use Rattle.fbc_world.specs.declared.drafts.Draft.{Draft}
use Rattle.fbc_world.specs.declared.events.Act.{Act}
use Rattle.fbc_world.specs.declared.events.Act.TheVariants.{Die, Local, Write}
use Rattle.fbc_world.specs.declared.events.LocalEvent.TheVariants as local
use Rattle.fbc_world.specs.Frames.{Spares, is_edit_of, is_landing_of, requests_of}
use Rattle.fbc_world.specs.Holdings.{holdings_of, is_draft_of, is_page_request_of, want_of}
use Rattle.fbc_levels.specs.Resources.{page_resource}
use Rattle.fbc_world.specs.PageCell.{draft_step, drafted, without}
use Rattle.fbc_world.specs.World.{World, acted}
use Rattle.fbc_world.specs.WriteOrder.{pair_step}
use Rattle.fbc_world.proofs.FirstOf.{filter-kept, find-kept}
use Rattle.fbc_world.proofs.WorldFrame.{buffers-frame, copy-frame, granted-frame, own-requests-frame, pin-frame}
use Rattle.fbc_world.proofs.WorldSteps.{draft-acted, pairs-acted}

-- What an owner waits for, and how many pages it asked for, its own requests tell.
own-wait : (s : LockState) (owner : ℕ) → find (is_wait_of owner) (requests_of s owner) ≡ wait_of s owner
own-wait s owner = find-kept (is_wait_of owner) (λ (r : Request). r.owner == owner) (λ x is. grind (arith, is)) s.requests

own-count : (s : LockState) (owner : ℕ) → length (filter (is_page_request_of owner) (requests_of s owner)) ≡ length (filter (is_page_request_of owner) s.requests)
own-count s owner = ap (λ rs. length rs) (filter-kept (is_page_request_of owner) (λ (r : Request). r.owner == owner) (λ x is. grind (arith, is)) s.requests)

module _ (owner other : ℕ) (apart : owner ≢ other) where
  lost_own : (draft : Option Draft) → is_draft_of other (without owner draft) ≡ is_draft_of other draft
  lost_own None = refl
  lost_own (Some d) = grind (arith, nat_tests, apart)

  made_own : (draft : Option Draft) (after : Option Page) → is_draft_of other draft ≡ false → is_draft_of other (drafted owner draft after) ≡ is_draft_of other draft
  made_own draft None e = refl
  made_own draft (Some content) e = grind (arith, nat_tests, apart, e)

  module _ (shape : Shape) (page : ℕ) (kept : Option Page) (draft : Option Draft) where
    unless_edit : (edits : Bool) (after : Option Page) → (is_draft_of other draft ≡ true → edits ≡ false) → is_draft_of other (if edits then drafted owner draft after else draft) ≡ is_draft_of other draft
    unless_edit true after spares = made_own draft after (grind (arith, spares))
    unless_edit false after spares = refl

    unless_written : (writes : Bool) → is_draft_of other (if writes then without owner draft else draft) ≡ is_draft_of other draft
    unless_written true = lost_own draft
    unless_written false = refl

    draft_own : (act : Act) → (is_draft_of other draft ≡ true → is_edit_of page act ≡ false) → is_draft_of other (draft_step shape page kept draft owner act) ≡ is_draft_of other draft
    draft_own (Write number cause failed) spares = unless_written _
    draft_own Die spares = lost_own draft
    draft_own (Local (local.Edit number edit)) spares = unless_edit (number == page) _ spares
    draft_own (Local (local.Before high low)) spares = refl
    draft_own (Local (local.Pin number)) spares = refl
    draft_own (Local (local.Unpin number)) spares = refl
    draft_own _ spares = refl

  pair_own : (act : Act) (landed : Bool) (high low : ℕ) (stands : Bool) → (stands ≡ true → is_landing_of high act landed ≡ false) → pair_step other high low stands owner act landed ≡ stands
  pair_own (Write number cause failed) landed high low true spares = grind (arith, nat_tests, apart, spares)
  pair_own (Write number cause failed) landed high low false spares = grind (arith, nat_tests, apart)
  pair_own Die landed high low stands spares = grind (arith, nat_tests, apart)
  pair_own (Local (local.Edit number edit)) landed high low stands spares = refl
  pair_own (Local (local.Before above below)) landed high low stands spares = grind (arith, nat_tests, apart)
  pair_own (Local (local.Pin number)) landed high low stands spares = refl
  pair_own (Local (local.Unpin number)) landed high low stands spares = refl
  pair_own _ landed high low stands spares = refl

  pub holdings-frame : (shape : Shape) (w : World) (act : Act) (landed : Bool) → Spares w other act landed → holdings_of (acted shape w owner act landed) other ≡ holdings_of w other
  holdings-frame shape w act landed spares =
      let requests = own-requests-frame shape w owner other apart act landed spares.requests in
      let wait : wait_of (acted shape w owner act landed).locks other ≡ wait_of w.locks other = sym (own-wait (acted shape w owner act landed).locks other) ∙ ap (find (is_wait_of other)) requests ∙ own-wait w.locks other in
      let counts = sym (own-count (acted shape w owner act landed).locks other) ∙ ap (λ rs. length (filter (is_page_request_of other) rs)) requests ∙ own-count w.locks other in
      λ i. record {
        level = λ page. granted-frame shape w owner other apart act landed (page_resource page) spares.requests i;
        copy = λ page. copy-frame shape w owner other apart act landed page i;
        is_draft = λ page. (ap (is_draft_of other) (draft-acted shape w owner act landed page) ∙ draft_own shape page (w.kept page) (w.draft page) act (spares.draft page)) i;
        is_pinned = λ page. pin-frame shape w owner other apart act landed page i;
        has_pair = λ high low. (pairs-acted shape w owner act landed other high low ∙ pair_own act landed high low (w.has_pair other high low) (spares.pair high low)) i;
        wanted = option_and_then want_of (wait i);
        count = counts i;
        buffers = buffers-frame shape w owner other apart act landed i;
      }
