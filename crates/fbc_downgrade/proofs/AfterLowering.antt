-- After its lowering a callback is done.
use Rattle.std.proofs.Common.{◌≡◌, ◌∙◌, inl, inr, sym, ap, subst, refl, ℕ, true, false, List, map, Option, Some, None, IfSome, arith}
use Rattle.std.proofs.lemmas.Bool.Decides.{nat_tests}
use Rattle.std.specs.Option.{option_map, option_map_or}
use Rattle.fbc_levels.specs.declared.levels.Level.{Level}
use Rattle.fbc_levels.specs.declared.levels.Level.TheVariants.{Free, Pr}
use Rattle.fbc_levels.specs.declared.resources.Callback.{Callback}
use Rattle.fbc_world.specs.declared.answers.Answer.TheVariants.{Noted}
use Rattle.fbc_world.specs.declared.asks.Cause.TheVariants.{CallbackOf}
use Rattle.fbc_buffers.specs.declared.buffers.Buffer.{Buffer}
use Rattle.fbc_buffers.specs.Holding.{buffer_of, with_blocking, with_level, without}
use Rattle.fbc_buffers.proofs.Found.{buffer_of-map, buffer_of-page, buffer_of-without}
use Rattle.fbc_cache.specs.Cache.{CacheState, IsCache, is_pinned_in}
use Rattle.fbc_cache.specs.Takes.{after_lowering, after_take}
use Rattle.fbc_cache.specs.Wants.{is_due}
use Rattle.fbc_cache.proofs.GivesUp.{due-giving}
use Rattle.fbc_downgrade.specs.declared.serving.Serving.{Serving}
use Rattle.fbc_downgrade.specs.declared.serving.Serving.TheVariants.{Done, Later, Must}
use Rattle.fbc_downgrade.specs.Ending.{lowering_for}
use Rattle.fbc_downgrade.specs.Serving.{IsKeep, IsPassedOver, Serves, is_above}
use Rattle.fbc_downgrade.proofs.Lowering.{may-give_up}

-- The page is not in use, and is held in no level above.
record IsBelow (found : Option Buffer) (keep : Level) : Type 0 where
  loose : option_map_or (λ (b : Buffer). b.is_pinned) found false ≡ false
  above : is_above (option_map_or (λ (b : Buffer). b.level) found Free) keep ≡ false

-- A page that is given up has no buffer.
none-below : (held : List Buffer) (page : ℕ) → buffer_of (without page held) page ≡ None
none-below held page = grind (arith, nat_tests, buffer_of-without page held page)

-- A page that is lowered to PR is held in PR.
lowered-below : (page : ℕ) (found : Option Buffer) → IfSome found (λ b. b.page ≡ page) → option_map_or (λ (b : Buffer). b.is_pinned) found false ≡ false
    → IsBelow (option_map (with_blocking page false) (option_map (with_level page Pr) found)) Pr
lowered-below page None of loose = record { loose = refl; above = refl }
lowered-below page (Some b) of loose = record { loose = grind (arith, nat_tests, of, loose); above = grind (arith, nat_tests, of) }

found-lowered : (held : List Buffer) (page : ℕ) → buffer_of (map (with_blocking page false) (map (with_level page Pr) held)) page ≡ option_map (with_blocking page false) (option_map (with_level page Pr) (buffer_of held page))
found-lowered held page =
    buffer_of-map (with_blocking page false) (λ b. grind (arith)) (map (with_level page Pr) held) page
    ∙ ap (option_map (with_blocking page false)) (buffer_of-map (with_level page Pr) (λ b. grind (arith)) held page)

below-after : (c : CacheState) (page : ℕ) (keep : Level) → IsKeep keep → is_pinned_in c.held page ≡ false → IsBelow (buffer_of (after_lowering c page keep).held page) keep
below-after c page keep (inl free) loose =
    subst (λ (l : Level). IsBelow (buffer_of (after_lowering c page l).held page) l) (sym free)
    (subst (λ (found : Option Buffer). IsBelow found Free) (sym (none-below c.held page)) (record { loose = refl; above = refl }))
below-after c page keep (inr pr) loose =
    subst (λ (l : Level). IsBelow (buffer_of (after_lowering c page l).held page) l) (sym pr)
    (subst (λ (found : Option Buffer). IsBelow found Pr) (sym (found-lowered c.held page)) (lowered-below page (buffer_of c.held page) (buffer_of-page c.held page) loose))

module _ (c : CacheState) (callback : Callback) (is : IsCache c) (keep : IsKeep callback.keep) (serves : Serves c callback (Must (lowering_for callback))) where
  lowering-due : is_due c (lowering_for callback) ≡ true
  lowering-due =
      due-giving c is callback.page (CallbackOf callback.asker) callback.keep (lowering_for callback) (may-give_up c callback is keep serves.0) serves.1

  abbrev after : CacheState
  after = after_take c (lowering_for callback) Noted None

  lowered : after ≡ after_lowering c callback.page callback.keep
  lowered = rw (lowering-due) refl

  passed-over : IsPassedOver after callback
  passed-over =
      let below : IsBelow (buffer_of (after_lowering c callback.page callback.keep).held callback.page) callback.keep =
      below-after c callback.page callback.keep keep serves.0.loose in
      subst (λ s. IsPassedOver s callback) (sym lowered) (record { loose = below.loose; above = below.above })

  pub done-after : (serving : Serving) → Serves after callback serving → serving ≡ Done
  done-after Later pinned = let loose = passed-over.loose in absurd (cc)
  done-after Done over = refl
  done-after (Must asked) further = let below = passed-over.above in let above = further.0.above in absurd (cc)
