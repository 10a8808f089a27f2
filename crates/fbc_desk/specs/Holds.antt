-- What it comes to when a page is to be used.
use Rattle.std.specs.Prelude.{◌≡◌, ◌⊎◌, ◌≤◌, ◌<◌, ℕ, Option, Some, None}
use Rattle.fbc_kinds.specs.declared.rules.Rule.{Rule}
use Rattle.fbc_kinds.specs.declared.rules.Rule.TheVariants as rule
use Rattle.fbc_cache.specs.declared.needs.Need.{Need}
use Rattle.fbc_cache.specs.declared.readers.Place.{Place}
use Rattle.fbc_cache.specs.Cache.{copy_in}
use Rattle.fbc_cache.specs.Readers.{place_in}
use Rattle.fbc_cache.specs.Wants.{IsHere}
use Rattle.fbc_desk.specs.declared.holding.Held.{Held}
use Rattle.fbc_desk.specs.declared.holding.Held.TheVariants as held
use Rattle.fbc_desk.specs.Calls.{after_look, after_pin}
use Rattle.fbc_desk.specs.Desk.{DeskState}
use Rattle.fbc_desk.specs.Roles.{misplaced}

-- Here exactly where the page may be used; it is missed exactly where it may not, and is a page that the file may have; and past the
-- pages that the file may have it is damage.
abbrev pub Holds : DeskState → Need → Held → Type 0
Holds d need held.Here = (need.page < d.cache.shape.limit) × IsHere d.cache need
Holds d need (held.Miss missed) = (missed ≡ need) × (need.page < d.cache.shape.limit) × (¬ IsHere d.cache need)
Holds d need (held.Damaged page broken) = (d.cache.shape.limit ≤ need.page) × (page ≡ need.page) × (broken ≡ rule.Taken)

-- The same of a page of which kind and place are due: it is damage besides where it is there and stands elsewhere.
abbrev pub HoldsAs : DeskState → Need → Place → Held → Type 0
HoldsAs d need due held.Here = Holds d need held.Here × (misplaced (place_in (copy_in d.cache.held need.page)) due ≡ None)
HoldsAs d need due (held.Miss missed) = Holds d need (held.Miss missed)
HoldsAs d need due (held.Damaged page broken) =
    Holds d need (held.Damaged page broken)
    ⊎ (Holds d need held.Here × (page ≡ need.page) × (misplaced (place_in (copy_in d.cache.held need.page)) due ≡ Some broken))

-- A page that is there is damage where it breaks a rule.
abbrev pub judged : ℕ → Option Rule → Held
judged page None = held.Here
judged page (Some broken) = held.Damaged page broken

-- The desk afterwards: a page that is there is in use, also where it stands elsewhere than is due.
abbrev pub after_hold : DeskState → Need → Held → DeskState
after_hold d need held.Here = after_pin d need.page
after_hold d need (held.Miss missed) = d
after_hold d need (held.Damaged page rule.Taken) = d
after_hold d need (held.Damaged page broken) = after_pin d need.page

-- The same where a page is only looked at.
abbrev pub after_looking : DeskState → Need → Held → DeskState
after_looking d need held.Here = after_look d need.page
after_looking d need (held.Miss missed) = d
after_looking d need (held.Damaged page rule.Taken) = d
after_looking d need (held.Damaged page broken) = after_look d need.page
