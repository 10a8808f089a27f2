-- What a buffer shows after its page is pinned, or is pinned no more.
use Rattle.std.proofs.Common.{◌≡◌, ℕ, Bool, true, false, ◌==◌, if◌then◌else◌, Option, Some, None, IfSome, is_none, is_some, refl}
use Rattle.std.specs.Option.{option_map, option_map_or}
use Rattle.fbc_kinds.specs.declared.pages.Page.{Page}
use Rattle.fbc_levels.specs.declared.levels.Level.{Level}
use Rattle.fbc_levels.specs.declared.resources.Request.{Request}
use Rattle.fbc_buffers.specs.declared.buffers.Buffer.{Buffer}
use Rattle.fbc_buffers.specs.Holding.{is_of, with_pin}
use Rattle.fbc_fit.proofs.Shown.{Shows, shows-buffer}

-- The buffer of the page, and one of another page.
module _ (page number : ℕ) (pins : Bool) where
  pub shows-pinned : (same : Bool) → number == page ≡ same → (found : Option Buffer) → IfSome found (λ b. b.page ≡ number) → (same ≡ true → pins ≡ true → is_some found ≡ true)
      → (granted : Level) (asked : Option Request) (copied : Option Page) (drafted stands : Bool) → Shows granted asked copied drafted stands found
      → Shows granted asked copied drafted (if same then pins else stands) (option_map (with_pin page pins) found)
  shows-pinned true is None of there granted asked copied drafted stands shows = record { lock = shows.lock; copy = shows.copy; draft = shows.draft; pin = none pins (there refl) } where
    none : (p : Bool) → (p ≡ true → false ≡ true) → p ≡ false
    none true there' = absurd (let no : false ≡ true = there' refl in cc)
    none false there' = refl
  shows-pinned true is (Some b) of there granted asked copied drafted stands shows =
      let here : is_of page b ≡ true = rw of is in
      rw here (record { lock = shows-buffer b (record b { is_pinned = pins }) refl refl granted asked shows.lock; copy = shows.copy; draft = shows.draft; pin = refl })
  shows-pinned false is None of there granted asked copied drafted stands shows = shows
  shows-pinned false is (Some b) of there granted asked copied drafted stands shows =
      let elsewhere : is_of page b ≡ false = rw of is in
      rw elsewhere shows

pub granted-there : (found : Option Buffer) → option_map_or (λ (b : Buffer). is_none b.wanted) found false ≡ true → is_some found ≡ true
granted-there None granted = absurd (cc)
granted-there (Some b) granted = refl
