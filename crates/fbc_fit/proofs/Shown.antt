-- What a buffer shows of its page's lock.
use Rattle.std.proofs.Common.{◌≡◌, ◌∙◌, sym, inl, inr, Bool, true, false, Option, Some, None, is_none, is_some, refl, subst}
use Rattle.std.specs.Option.{option_and_then, option_map_or}
use Rattle.fbc_kinds.specs.declared.pages.Page.{Page}
use Rattle.fbc_levels.specs.declared.levels.Level.{Level}
use Rattle.fbc_levels.specs.declared.levels.Level.TheVariants.{Free}
use Rattle.fbc_levels.specs.declared.resources.Request.{Request}
use Rattle.fbc_buffers.specs.declared.buffers.Buffer.{Buffer}
use Rattle.fbc_fit.specs.Fit.{ShowsBuffer}

learnt : (b : Buffer) (level : Level) → is_none b.wanted ≡ true → b.wanted ≡ Some level → ⊥
learnt b level granted late = let is : false ≡ true = rw late at granted in cc

-- What a page is held in, as far as it was learnt, is what is granted.
pub granted-is : (level : Level) (asked : Option Request) (found : Option Buffer) → ShowsBuffer level asked found → option_map_or (λ (b : Buffer). is_none b.wanted) found false ≡ true
    → level ≡ option_map_or (λ (b : Buffer). b.level) found Free
granted-is level (Some r) (Some b) (inl same) granted = same.0
granted-is level (Some r) (Some b) (inr late) granted = absurd (learnt b level granted late.0)
granted-is level (Some r) None shows granted = absurd shows
granted-is level None (Some b) shows granted = absurd shows
granted-is level None None shows granted = absurd (cc)

-- A page that has a buffer is asked for, and one that is asked for has a buffer.
pub buffer-asked : (level : Level) (asked : Option Request) (found : Option Buffer) → ShowsBuffer level asked found → is_some found ≡ is_some asked
buffer-asked level (Some r) (Some b) shows = refl
buffer-asked level (Some r) None shows = absurd shows
buffer-asked level None (Some b) shows = absurd shows
buffer-asked level None None shows = refl

-- A change of the request that leaves what it waits for.
pub shows-request : (r after : Request) → after.waiting ≡ r.waiting → (level : Level) (found : Option Buffer) → ShowsBuffer level (Some r) found → ShowsBuffer level (Some after) found
shows-request r after waits level (Some b) (inl same) = inl (same.0, waits ∙ same.1)
shows-request r after waits level (Some b) (inr late) = inr (late.0, waits ∙ late.1)
shows-request r after waits level None shows = absurd shows

-- A change of the buffer that leaves its level and what it waits for.
pub shows-buffer : (b after : Buffer) → after.level ≡ b.level → after.wanted ≡ b.wanted → (level : Level) (asked : Option Request) → ShowsBuffer level asked (Some b) → ShowsBuffer level asked (Some after)
shows-buffer b after same waits level (Some r) (inl lock) = inl (lock.0 ∙ sym same, lock.1 ∙ sym waits)
shows-buffer b after same waits level (Some r) (inr late) = inr (waits ∙ late.0, late.1)
shows-buffer b after same waits level None shows = absurd shows

-- All that is said of one page, by its buffer.
pub record Shows (granted : Level) (asked : Option Request) (copied : Option Page) (drafted pinned : Bool) (found : Option Buffer) : Type 0 where
  pub lock : ShowsBuffer granted asked found
  pub copy : copied ≡ option_and_then (λ (b : Buffer). b.copy) found
  pub draft : drafted ≡ option_map_or (λ (b : Buffer). b.is_dirty) found false
  pub pin : pinned ≡ option_map_or (λ (b : Buffer). b.is_pinned) found false

pub shows-by : (granted granted' : Level) (asked asked' : Option Request) (copied copied' : Option Page) (drafted pinned : Bool) (found : Option Buffer) → granted' ≡ granted → asked' ≡ asked → copied' ≡ copied
    → Shows granted asked copied drafted pinned found → Shows granted' asked' copied' drafted pinned found
shows-by granted granted' asked asked' copied copied' drafted pinned found same request copy shows = record {
  lock = subst (λ (l : Level). ShowsBuffer l asked' found) (sym same) (subst (λ (r : Option Request). ShowsBuffer granted r found) (sym request) shows.lock);
  copy = copy ∙ shows.copy;
  draft = shows.draft;
  pin = shows.pin;
}
