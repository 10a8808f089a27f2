-- What the file has taken in the newest pages have, after each event.
use Rattle.std.proofs.Common.{ℕ, [], ◌∷◌, List, suc, Option, arith}
use Rattle.std.specs.Prelude.{Contains}
use Rattle.fbc_kinds.specs.declared.edits.Edit.{Edit}
use Rattle.fbc_kinds.specs.declared.edits.Edit.TheVariants as edit
use Rattle.fbc_kinds.specs.declared.pages.Page.{Page}
use Rattle.fbc_kinds.specs.declared.shapes.Shape.{Shape}
use Rattle.fbc_kinds.specs.View.{View}
use Rattle.fbc_world.specs.History.{History}
use Rattle.fbc_legal.specs.Legal.{IsLegal}
use Rattle.fbc_legal.specs.Scene.{scene_of}
use Rattle.fbc_legal.specs.Stamps.{Stamps, stamp_after, stamped}
use Rattle.fbc_legal.proofs.Induction.{IsCoherent-legal}
use Rattle.fbc_origins.specs.Origins.{EditsStay}
use Rattle.fbc_origins.proofs.StampLineage.{stamp-lineage}

-- The later stamps have the edits of the earlier ones.
abbrev HasEdits : Option Page → Stamps → Option Page → Stamps → Type 0
HasEdits kept old newest new = (edit : ℕ) → Contains old.edits edit → Contains new.edits edit

behind : (x : ℕ) (xs : List ℕ) (y : ℕ) → Contains xs y → Contains (x ∷ xs) y
behind x xs y there = (suc there.0, grind (arith, there.1), there.2)

edits-more : (stamp : ℕ) (born : ℕ → ℕ → ℕ) (before : Option Page) (e : Edit) (s : Stamps) (number : ℕ) → Contains s.edits number → Contains (stamped stamp born before e s).edits number
edits-more stamp born before (edit.PutCell cell content) s number there = behind stamp s.edits number there
edits-more stamp born before (edit.ClearCell cell) s number there = behind stamp s.edits number there
edits-more stamp born before (edit.Format k page relation sequence) s number there = behind stamp s.edits number there
edits-more stamp born before _ s number there = behind stamp s.edits number there

pub edits-stay : (shape : Shape) (file : View) (history : History) → IsLegal shape file history → EditsStay (scene_of shape file history)
edits-stay shape file [] legal page = λ number there. there
edits-stay shape file (moment ∷ before) legal page =
    stamp-lineage HasEdits (λ p s edit there. there) (scene_of shape file before) (stamp_after before) moment.event.actor page (IsCoherent-legal shape file before legal.0) moment.event.act moment.landed legal.1.guard
    (λ e g content is held number there. edits-more _ _ _ e _ number (held number there))
    (edits-stay shape file before legal.0 page)
