-- What it comes to when a page is to be read.
use Rattle.std.specs.Prelude.{◌≡◌, ◌⊎◌, ◌<◌, ◌≤◌, ℕ, Bool, true, false, Some, None, is_some}
use Rattle.fbc_kinds.specs.declared.rules.Rule.{Rule}
use Rattle.fbc_kinds.specs.declared.rules.Rule.TheVariants as rule
use Rattle.fbc_levels.specs.declared.levels.Level.TheVariants.{Pr}
use Rattle.fbc_cache.specs.declared.needs.Need.{Need}
use Rattle.fbc_cache.specs.declared.readers.Place.{Place}
use Rattle.fbc_cache.specs.Readers.{place, place_in}
use Rattle.fbc_desk.specs.declared.holding.Held.{Held}
use Rattle.fbc_desk.specs.declared.holding.Held.TheVariants as held
use Rattle.fbc_desk.specs.Roles.{misplaced}
use Rattle.fbc_chains.specs.declared.places.RowPlace.{RowPlace}
use Rattle.fbc_chains.specs.Showing.{Showing}

-- A page is to be read.
abbrev pub to_read : ℕ → Bool → Need
to_read page wait = record { page = page; level = Pr; wait = wait; fresh = false }

-- The file may have the page, and a copy of it is at hand.
pub record IsThere (s : Showing) (page : ℕ) : Type 0 where
  pub below : page < s.shape.limit
  pub copy : is_some (s.copies page) ≡ true

-- The file may have the page, and no copy of it is at hand: it is to be read first.
pub record IsMissed (s : Showing) (page : ℕ) (need : Need) : Type 0 where
  pub below : page < s.shape.limit
  pub missing : s.copies page ≡ None
  pub is_need : need ≡ to_read page need.wait

-- The page lies past those that the file may have.
pub record IsPast (s : Showing) (page damaged : ℕ) (broken : Rule) : Type 0 where
  pub past : s.shape.limit ≤ page
  pub is_page : damaged ≡ page
  pub is_rule : broken ≡ rule.Taken

-- A page is there, missed, or past those that the file may have.
abbrev pub HoldsToRead : Showing → ℕ → Held → Type 0
HoldsToRead s page held.Here = IsThere s page
HoldsToRead s page (held.Miss need) = IsMissed s page need
HoldsToRead s page (held.Damaged damaged broken) = IsPast s page damaged broken

-- A page is there, and stands where it is due.
pub record StandsAt (s : Showing) (page : ℕ) (due : Place) : Type 0 where
  pub there : IsThere s page
  pub placed : misplaced (place_in (s.copies page)) due ≡ None

-- A page is there, and breaks a rule by standing elsewhere.
pub record StandsElsewhere (s : Showing) (page : ℕ) (due : Place) (damaged : ℕ) (broken : Rule) : Type 0 where
  pub there : IsThere s page
  pub misplaced_by : misplaced (place_in (s.copies page)) due ≡ Some broken
  pub is_page : damaged ≡ page

-- The same of a page of which kind and place are due, and that is waited for.
abbrev pub LooksAt : Showing → ℕ → Place → Held → Type 0
LooksAt s page due held.Here = StandsAt s page due
LooksAt s page due (held.Miss need) = IsMissed s page need × (need.wait ≡ true)
LooksAt s page due (held.Damaged damaged broken) = IsPast s page damaged broken ⊎ StandsElsewhere s page due damaged broken

-- Where the data page of a row is due.
abbrev pub data_due : RowPlace → Place
data_due at = place 5 at.relation at.sequence
