-- What stays of a desk while pages are used.
use Rattle.std.specs.Prelude.{◌≡◌, ◌⊎◌, ℕ, true, Option}
use Rattle.std.specs.Option.{option_map}
use Rattle.fbc_buffers.specs.declared.buffers.Buffer.{Buffer}
use Rattle.fbc_buffers.specs.Holding.{buffer_of}
use Rattle.fbc_desk.specs.Desk.{DeskState}

-- A buffer whose page is in use.
abbrev pub in_use : Buffer → Buffer
in_use b = record b { is_pinned = true }

-- What is held of a page stays, or is in use besides.
abbrev pub StaysOrIsUsed : Option Buffer → Option Buffer → Type 0
StaysOrIsUsed before after = (after ≡ before) ⊎ (after ≡ option_map in_use before)

-- Pages are used, and nothing else is done: what is held of each page stays but for its use, and so does all else but the order of
-- the last uses and what is unsent.
pub record OnlyUses (before after : DeskState) : Type 0 where
  pub buffers : (page : ℕ) → StaysOrIsUsed (buffer_of before.cache.held page) (buffer_of after.cache.held page)
  pub cache : after.cache ≡ record before.cache { held = after.cache.held }
  pub rest : after ≡ record before { cache = after.cache; unsent = after.unsent; is_spilled = after.is_spilled }
