use Rattle.std.proofs.Common.{◌≡◌, ◌∙◌, true, false, Option, ap, sym, subst, is_some}
use Rattle.std.specs.Option.{option_and_then, option_map_or}
use Rattle.fbc_levels.specs.declared.levels.Level.TheVariants.{Free}
use Rattle.fbc_buffers.specs.declared.buffers.Buffer.{Buffer}
use Rattle.fbc_buffers.specs.Holding.{buffer_of}
use Rattle.fbc_cache.proofs.PinnedPages.{after-answer, has-pin}
use Rattle.fbc_cache.proofs.staying.pinned_pages_stay.Goals as goal

pub returns-clause-pinned : goal.returns-clause-pinned
returns-clause-pinned _ = λ c asked answer shown page is pinned.
    let before = has-pin (buffer_of c.held page) pinned in
    let after = after-answer c page before.buffer is before.is before.pinned asked answer shown in
    ap (λ (found : Option Buffer). option_map_or (λ (b : Buffer). b.is_pinned) found false) after.is ∙ after.pinned

pub returns-clause-level : goal.returns-clause-level
returns-clause-level _ = λ c asked answer shown page is pinned.
    let before = has-pin (buffer_of c.held page) pinned in
    let after = after-answer c page before.buffer is before.is before.pinned asked answer shown in
    ap (λ (found : Option Buffer). option_map_or (λ (b : Buffer). b.level) found Free) after.is ∙ after.level
    ∙ sym (ap (λ (found : Option Buffer). option_map_or (λ (b : Buffer). b.level) found Free) before.is)

pub returns-clause-copy : goal.returns-clause-copy
returns-clause-copy _ = λ c asked answer shown page is pinned valid.
    let before = has-pin (buffer_of c.held page) pinned in
    let after = after-answer c page before.buffer is before.is before.pinned asked answer shown in
    let copied : is_some before.buffer.copy ≡ true = subst (λ (found : Option Buffer). is_some (option_and_then (λ (b : Buffer). b.copy) found) ≡ true) before.is valid in
    ap (λ (found : Option Buffer). option_and_then (λ (b : Buffer). b.copy) found) after.is ∙ after.copy copied
    ∙ sym (ap (λ (found : Option Buffer). option_and_then (λ (b : Buffer). b.copy) found) before.is)
