-- What was read of a page is what its bytes show.
use Rattle.std.proofs.Common.{◌≡◌, ℕ, List, Option, None, Some, is_some, refl, sym, ap, ◌∙◌, slice_index, subst}
use Rattle.fbc_kinds.specs.declared.pages.Page.{Page}
use Rattle.fbc_kinds.specs.declared.pages.Page.TheVariants as kind
use Rattle.fbc_kinds.specs.declared.rules.Rule.{Rule}
use Rattle.fbc_kinds.specs.declared.shapes.Shape.{Shape}
use Rattle.fbc_kinds.specs.declared.faults.PageFault.{PageFault}
use Rattle.fbc_kinds.specs.declared.faults.PageFault.TheVariants.{Damaged}
use Rattle.fbc_kinds.specs.File.{ShowsPage}
use Rattle.fbc_kinds.specs.Head.{Tells}
use Rattle.fbc_kinds.specs.Limits.{IsPageSize}
use Rattle.fbc_kinds.specs.Spelling.{first_broken_rule}
use Rattle.fbc_reach.specs.declared.content.Content.{Content}
use Rattle.fbc_reach.specs.declared.content.Content.TheVariants.{Other}
use Rattle.fbc_reach.specs.Content.{content_of, HasAllSlots, IsReadFrom, IsReadOf}
use Rattle.fbc_reach.specs.Reading.{AreBytesOf}
use Rattle.fbc_reach.specs.declared.content.PageRead.{PageRead}
use Rattle.fbc_spelling.proofs.Shows.{shown_is, none_is_shown}

-- A pointer page that bytes show has all its slots.
full_of : (shape : Shape) (number : ℕ) (bytes : List ℕ) (page : Page) → ShowsPage shape number bytes page → HasAllSlots shape.size (content_of (Some page))
full_of shape number bytes (kind.Pointer p) shows = shows.spelled.fits.count
full_of shape number bytes (kind.Header h) shows = tt
full_of shape number bytes (kind.Inventory i) shows = tt
full_of shape number bytes (kind.Tip t) shows = tt
full_of shape number bytes (kind.Data d) shows = tt
full_of shape number bytes kind.Blank shows = tt

module _ (shape : Shape) (number : ℕ) (bytes : List ℕ) (size : IsPageSize shape.size) where
  pub whole_read : (page : Page) (content : Content) → ShowsPage shape number bytes page → first_broken_rule shape number bytes ≡ None
      → content ≡ content_of (Some page) → IsReadFrom shape number bytes (record { kind = slice_index bytes 0; rule = None; content = content })
  whole_read page content shows none is = record {
    kind_is = refl;
    rule_is = sym none;
    shown = λ o s. is ∙ ap content_of (sym (shown_is shape number bytes page o size shows s));
    spelled = λ e o s. ap is_some (shown_is shape number bytes page o size shows s);
    full = subst (HasAllSlots shape.size) (sym is) (full_of shape number bytes page shows);
  }

  pub broken_read : (fault : PageFault) (rule : Rule) → fault ≡ Damaged rule → Tells fault (first_broken_rule shape number bytes)
      → IsReadFrom shape number bytes (record { kind = slice_index bytes 0; rule = Some rule; content = Other })
  broken_read fault rule is tells =
      let P : PageFault → Type 0 = λ f. Tells f (first_broken_rule shape number bytes) in
      let broken : first_broken_rule shape number bytes ≡ Some rule = subst P is tells in
      record {
        kind_is = refl;
        rule_is = sym broken;
        shown = λ o s. ap content_of (sym (none_is_shown shape number bytes rule o size broken s));
        spelled = λ e o s. cc;
        full = tt;
      }

-- What was read of the bytes of a device is what was read of the device.
pub read_of : (shape : Shape) (number : ℕ) (told : Option (List ℕ)) (buffer : List ℕ) (read : PageRead)
    → AreBytesOf told shape.size number buffer → IsReadFrom shape number buffer read → IsReadOf shape number told read
read_of shape number None buffer read are is = (buffer, is)
read_of shape number (Some file) buffer read are is = let P : List ℕ → Type 0 = λ b. IsReadFrom shape number b read in subst P are is
