-- Numbers that are over.
use Rattle.std.specs.Prelude.{ℕ, Bool, false, true}
use Rattle.fbc_kinds.specs.declared.pages.State.{State}
use Rattle.fbc_kinds.specs.declared.pages.State.TheVariants as state
use Rattle.fbc_kinds.specs.Chain.{state_of}
use Rattle.fbc_kinds.specs.View.{View}

abbrev pub is_dead_state : State → Bool
is_dead_state state.Dead = true
is_dead_state _ = false

-- Whether a number is dead in a view.
abbrev pub is_dead_in : View → ℕ → Bool
is_dead_in view number = is_dead_state (state_of view number)
