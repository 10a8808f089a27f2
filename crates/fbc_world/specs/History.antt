-- Histories: what happened to one file, event by event.
use Rattle.std.specs.Prelude.{ℕ, Bool, false, List, [], ◌∷◌, reverse}
use Rattle.fbc_kinds.specs.declared.shapes.Shape.{Shape}
use Rattle.fbc_world.specs.declared.events.Act.{Act}
use Rattle.fbc_world.specs.declared.events.Event.{Event}

-- What a journal holds: the shape of the file, the events in the order in which they happened, and how many more it takes without
-- memory.
pub record Recording : Type 0 where
  pub shape : Shape
  pub events : List Event
  pub spare : ℕ

-- An event with what the event itself does not tell: whether a failed write reached the file. It says nothing of others.
pub record Moment : Type 0 where
  pub event : Event
  pub landed : Bool

-- A history is the list of its moments, the newest first.
abbrev pub History : Type 0
History = List Moment

-- The moments of events of which no failed write landed.
abbrev pub none_landed : List Event → History
none_landed [] = []
none_landed (event ∷ before) = record { event = event; landed = false } ∷ none_landed before

-- What a journal records: its events, newest first, with no failed write landed.
abbrev pub recorded : Recording → History
recorded recording = none_landed (reverse recording.events)

-- An act of some actor as a moment.
abbrev pub happens : ℕ → Act → Bool → Moment
happens actor act landed = record { event = record { actor = actor; act = act }; landed = landed }
