-- A death and an opening after a legal history at rest.
use Rattle.std.proofs.Common.{◌≡◌, ◌∙◌, ℕ, Bool, true, false, List, [], ◌∷◌, refl}
use Rattle.fbc_kinds.specs.View.{View}
use Rattle.fbc_world.specs.declared.events.Act.TheVariants.{Die, Opened}
use Rattle.fbc_world.specs.History.{Recording, recorded}
use Rattle.fbc_world.specs.Owners.{is_alive}
use Rattle.fbc_world.specs.World.{world_of}
use Rattle.fbc_world.proofs.WorldLaws.{IsReplayed-world}
use Rattle.fbc_region.specs.Adding.{Adds, by}
use Rattle.fbc_region.specs.Shared.{history_of}
use Rattle.fbc_region.proofs.Ending.{Ends, ends_on, rests_after}
use Rattle.fbc_region.proofs.Landed.{alive_same, history_push}

module _ (before after : Recording) (file : View) (landings : List Bool) (ends : Ends before.shape file (history_of before landings)) where
  alive_here : (owner : ℕ) → (world_of before.shape file (history_of before landings)).is_alive owner ≡ is_alive (recorded before) owner
  alive_here owner = (IsReplayed-world before.shape file (history_of before landings)).alive_is owner ∙ alive_same before landings owner

  pub ends_died : (owner : ℕ) → is_alive (recorded before) owner ≡ true → Adds before after (by owner Die ∷ []) → Ends after.shape file (history_of after landings)
  ends_died owner alive adds =
      rw (adds.shape, history_push before after (by owner Die) landings adds.longer refl)
      (ends_on before.shape file (history_of before landings) owner Die false ends (record { alive = alive_here owner ∙ alive; guard = tt }) (rests_after (history_of before landings) owner Die false refl))

  pub ends_opened : (locks : ℕ) → ((owner : ℕ) → is_alive (recorded before) owner ≡ false) → Adds before after (by 0 (Opened locks) ∷ []) → Ends after.shape file (history_of after landings)
  ends_opened locks none adds =
      rw (adds.shape, history_push before after (by 0 (Opened locks)) landings adds.longer refl)
      (ends_on before.shape file (history_of before landings) 0 (Opened locks) false ends
      (record { alive = tt; guard = record { nobody = refl; none_alive = λ owner. alive_here owner ∙ none owner } }) (rests_after (history_of before landings) 0 (Opened locks) false refl))
