-- What a journal records with one event more.
use Rattle.std.proofs.Common.{◌≡◌, ◌∙◌, ap, false, [], ◌∷◌, ◌++◌, reverse}
use Rattle.std.proofs.lemmas.List.{reverse-append}
use Rattle.fbc_world.specs.declared.events.Event.{Event}
use Rattle.fbc_world.specs.History.{Recording, none_landed, recorded}

pub recorded_push : (before after : Recording) (event : Event) → after.events ≡ before.events ++ event ∷ []
    → recorded after ≡ record { event = event; landed = false } ∷ recorded before
recorded_push before after event is = ap (λ es. none_landed (reverse es)) is ∙ ap none_landed (reverse-append before.events (event ∷ []))
