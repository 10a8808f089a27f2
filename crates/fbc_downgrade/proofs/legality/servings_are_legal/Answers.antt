use Rattle.std.proofs.Common.{◌≡◌, inr, refl, subst, sym}
use Rattle.fbc_levels.specs.declared.levels.Level.{Level}
use Rattle.fbc_levels.specs.declared.resources.Resource.{Resource}
use Rattle.fbc_world.specs.declared.asks.Ask.TheVariants as ask
use Rattle.fbc_world.specs.declared.asks.Cause.{Cause}
use Rattle.fbc_world.specs.declared.asks.Cause.TheVariants.{CallbackOf}
use Rattle.fbc_legal.specs.Guards.{GuardOfLower, GuardOfWrite}
use Rattle.fbc_legal.specs.Scene.{scene_of}
use Rattle.fbc_downgrade.specs.Serving.{Downgrades}
use Rattle.fbc_downgrade.proofs.Causing.{cause-is, lowering-is}
use Rattle.fbc_downgrade.proofs.Kept.{polled-keep}
use Rattle.fbc_downgrade.proofs.Lowering.{may-give_up}
use Rattle.fbc_downgrade.proofs.legality.servings_are_legal.Goals as goal

pub returns-clause-writes : goal.returns-clause-writes
returns-clause-writes k = λ shape file history owner callback c page cause legal may serves.
    let is : cause ≡ CallbackOf callback.asker = cause-is c callback page cause serves.1 in
    let gives : Downgrades c callback (ask.Write page (CallbackOf callback.asker)) = subst (λ (x : Cause). Downgrades c callback (ask.Write page x)) is serves.1 in
    subst (λ (x : Cause). GuardOfWrite (scene_of shape file history) owner page x) (sym is)
    (k.given_up_pages_are_written_legally.ensures shape file history owner c callback.page page (CallbackOf callback.asker) callback.keep legal may.cache may.fits gives (callback, may.polled, refl, refl))

pub returns-clause-lowerings : goal.returns-clause-lowerings
returns-clause-lowerings k = λ shape file history owner callback c resource level legal may serves.
    let keep = polled-keep owner callback history c may.polled serves.0 in
    let is = lowering-is c callback resource level serves.1 in
    let at : Downgrades c callback (ask.Lower resource callback.keep) = subst (λ (l : Level). Downgrades c callback (ask.Lower resource l)) is.keep serves.1 in
    let gives = subst (λ (r : Resource). Downgrades c callback (ask.Lower r callback.keep)) is.page at in
    subst (λ (l : Level). GuardOfLower (scene_of shape file history) owner resource l) (sym is.keep)
    (subst (λ (r : Resource). GuardOfLower (scene_of shape file history) owner r callback.keep) (sym is.page)
    (k.given_up_pages_are_lowered_legally.ensures shape file history owner c callback.page (CallbackOf callback.asker) callback.keep legal may.cache may.fits (may-give_up c callback may.cache keep serves.0) gives (inr (callback, may.polled, refl, refl))))
