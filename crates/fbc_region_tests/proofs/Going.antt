-- One owner more comes and dies.
use Rattle.std.proofs.Common.{◌≡◌, ◌∙◌, ap, ℕ, ◌+◌, ◌<◌, true, false, [], ◌∷◌, sym, subst, refl, arith}
use Rattle.std.proofs.lemmas.Bool.Decides.{nat_tests}
use Rattle.fbc_legal.specs.Guards.{GuardOfEnter}
use Rattle.fbc_legal.specs.Lives.{all_but, entered, living}
use Rattle.fbc_world.specs.declared.answers.Answer.{Answer}
use Rattle.fbc_world.specs.declared.asks.Ask.{Ask}
use Rattle.fbc_world.specs.declared.asks.Ask.TheVariants as ask
use Rattle.fbc_world.specs.declared.events.Act.TheVariants as act
use Rattle.fbc_world.specs.History.{History, Recording, happens, recorded}
use Rattle.fbc_world.specs.Owners.{is_alive}
use Rattle.fbc_region.specs.Adding.{Adds, by}
use Rattle.fbc_region.specs.Stepping.{MayPerform, Performs, recorded_scene}
use Rattle.fbc_region.proofs.Admitting.{guard_of}
use Rattle.fbc_region.proofs.Grown.{recorded_adds}
use Rattle.fbc_region.proofs.Pushed.{recorded_push}
use Rattle.fbc_region_tests.specs.Gone.{HaveGone}

-- A journal without events more.
pub still_gone : (before after : Recording) (owners : ℕ) → Adds before after [] → HaveGone before owners → HaveGone after owners
still_gone before after owners adds gone =
    let same : recorded after ≡ recorded before = recorded_adds before after [] adds.longer in
    record { came = ap entered same ∙ gone.came; nobody = ap living same ∙ gone.nobody }

-- The next one may come.
pub next_may_come : (reach size : ℕ) (journal : Recording) (owners : ℕ) (asked : Ask) → asked ≡ ask.Enter 4 1 → HaveGone journal owners → owners < 65536
    → MayPerform reach size journal (owners + 1) asked
next_may_come reach size journal owners asked is gone few =
    subst (λ a. MayPerform reach size journal (owners + 1) a) (sym is) (guard gone few) where
      guard : HaveGone journal owners → owners < 65536 → GuardOfEnter (recorded_scene journal) (owners + 1) 1
      guard gone few = guard_of journal (owners + 1) 1 (record {
        next = omega (arith, gone.came);
        within = omega (arith, few);
        few = rw gone.nobody (omega arith);
        name_from = omega arith;
        name_to = omega arith;
        fresh = rw gone.nobody refl;
      })

-- The history once it came.
came : (before after : Recording) (who : ℕ) (answer : Answer) (asked : Ask) → asked ≡ ask.Enter 4 1 → Performs before after who [] answer asked
    → recorded after ≡ happens who (act.Enter 4 1) false ∷ recorded before
came before after who answer asked is comes = told (subst (λ a. Performs before after who [] answer a) is comes) where
  told : Performs before after who [] answer (ask.Enter 4 1) → recorded after ≡ happens who (act.Enter 4 1) false ∷ recorded before
  told done =
      recorded_push done.between after (by who (act.Enter 4 1)) done.step.1.longer
      ∙ ap (λ (h : History). happens who (act.Enter 4 1) false ∷ h) (recorded_adds before done.between [] done.local.longer)

-- It is alive then.
pub alive_come : (before after : Recording) (who : ℕ) (answer : Answer) (asked : Ask) → asked ≡ ask.Enter 4 1 → Performs before after who [] answer asked
    → is_alive (recorded after) who ≡ true
alive_come before after who answer asked is comes = ap (λ h. is_alive h who) (came before after who answer asked is comes) ∙ alone (recorded before) where
  alone : (h : History) → is_alive (happens who (act.Enter 4 1) false ∷ h) who ≡ true
  alone h = grind (arith, nat_tests)

-- And it is gone once it died.
pub gone_then : (before between after : Recording) (owners : ℕ) (answer : Answer) (asked : Ask) → asked ≡ ask.Enter 4 1 → HaveGone before owners
    → Performs before between (owners + 1) [] answer asked → Adds between after (by (owners + 1) act.Die ∷ []) → HaveGone after (owners + 1)
gone_then before between after owners answer asked is gone comes dies =
    let whole : recorded after ≡ happens (owners + 1) act.Die false ∷ happens (owners + 1) (act.Enter 4 1) false ∷ recorded before =
    recorded_push between after (by (owners + 1) act.Die) dies.longer
    ∙ ap (λ (h : History). happens (owners + 1) act.Die false ∷ h) (came before between (owners + 1) answer asked is comes) in
    record {
      came = ap entered whole ∙ omega (arith, gone.came);
      nobody = ap living whole ∙ rw gone.nobody (alone (owners + 1));
    } where
      alone : (who : ℕ) → all_but who (who ∷ []) ≡ []
      alone who = grind (arith, nat_tests)
