-- A journal that is lawful over a file stays so: through a step, a death and an opening.
use Rattle.std.proofs.Common.{◌≡◌, ◌∙◌, ap, ℕ, ◌*◌, Bool, true, false, not, ◌||◌, if◌then◌else◌, List, [], ◌∷◌, ◌++◌, length, Option, Some, None, append-nil, sym, subst, refl}
use Rattle.fbc_kinds.specs.declared.shapes.Shape.{Shape}
use Rattle.fbc_kinds.specs.File.{IsViewOf}
use Rattle.fbc_kinds.specs.View.{View}
use Rattle.fbc_outside.specs.Bytes.{written}
use Rattle.fbc_world.specs.declared.answers.Answer.{Answer}
use Rattle.fbc_world.specs.declared.asks.Ask.{Ask}
use Rattle.fbc_world.specs.declared.asks.Ask.TheVariants as ask
use Rattle.fbc_world.specs.declared.asks.Cause.{Cause}
use Rattle.fbc_world.specs.declared.events.Act.{Act}
use Rattle.fbc_world.specs.declared.events.Act.TheVariants as act
use Rattle.fbc_world.specs.declared.events.LocalEvent.{LocalEvent}
use Rattle.fbc_world.specs.History.{History, Recording, happens, recorded}
use Rattle.fbc_world.specs.Owners.{is_alive}
use Rattle.fbc_world.specs.PageCell.{page_for}
use Rattle.fbc_world.specs.World.{world_of}
use Rattle.fbc_region.specs.Adding.{Adds, by}
use Rattle.fbc_region.specs.Kept.{IsAtRest}
use Rattle.fbc_region.specs.Lawful.{AreLandings, IsLawfulOver, MeetsStep, ShowsView, new_landings, with_locals}
use Rattle.fbc_region.specs.Shared.{history_of, is_failed_write}
use Rattle.fbc_region.specs.Stepping.{PagesComeTo, Performs, WriteLeaves, answers_write}
use Rattle.fbc_region.proofs.Calm.{calm_step, is_write, is_write_ask, kept_acted, kept_lengthened, kept_locals, no_landing_there}
use Rattle.fbc_region.proofs.DraftsStand.{own_stands, stands_legal}
use Rattle.fbc_region.proofs.Ending.{Ends, ends_locals}
use Rattle.fbc_region.proofs.Grown.{lengthened}
use Rattle.fbc_region.proofs.Landed.{history_adds, history_failed, history_push, rests_same}
use Rattle.fbc_region.proofs.LivesEnding.{ends_died, ends_opened}
use Rattle.fbc_region.proofs.Showing.{IsImage, calm_steady, is_image, none_new, one_new, pages_calm, stands_shown, view_after}
use Rattle.fbc_region.proofs.StepsLegal.{ends_performed, past_locals}

module _ (size : ℕ) (before after : Recording) (file : View) (landings landings_before landings_now : List Bool) (who : ℕ) (events : List LocalEvent) (answer : Answer) (image image_now : List ℕ) (fits : length image ≡ size)
    (rests : IsAtRest (recorded before)) where
  abbrev h : History
  h = history_of before landings

  abbrev past : History
  past = with_locals h who events

  -- A step that writes nothing.
  calmly : (bytes now : Option (List ℕ)) (asked : Ask) → is_write_ask asked ≡ false → IsLawfulOver size bytes before file landings → MeetsStep before file landings who events image asked
      → Performs before after who events answer asked → PagesComeTo size bytes now landings_before landings_now image image_now answer asked
      → IsLawfulOver size now after file (landings ++ new_landings landings_before landings_now)
  calmly bytes now asked other lawful meets done pages =
      let same = pages_calm size bytes now landings_before landings_now image image_now answer asked other pages in
      let calm = calm_step done.between after who answer asked other done.step in
      let none : new_landings landings_before landings_now ≡ [] = none_new landings_before landings_now same.1 in
      let shape_is : after.shape ≡ before.shape = calm.adds.shape ∙ done.local.shape in
      let ends : Ends after.shape file (history_of after (landings ++ [])) =
      ends_performed before after file landings [] who events answer asked (record { legal = lawful.legal; rests = rests_same before landings rests }) meets.guards done (no_landing_there answer calm.faultless) in
      let whole : history_of after (landings ++ []) ≡ lengthened past calm.events =
      ap (history_of after) (append-nil landings) ∙ history_adds done.between after calm.events landings calm.adds.longer (calm_steady calm.events calm.calm)
      ∙ ap (λ g. lengthened g calm.events) (past_locals before done.between landings who events done.local) in
      let kept_is : (world_of before.shape file (history_of after (landings ++ []))).kept ≡ (world_of before.shape file h).kept =
      ap (λ g. (world_of before.shape file g).kept) whole ∙ kept_lengthened before.shape file past calm.events calm.calm ∙ kept_locals before.shape file h who events in
      subst (λ new. IsLawfulOver size now after file (landings ++ new)) (sym none) (record {
        legal = ends.legal;
        sized = lawful.sized ∙ sym (ap (λ (s : Shape). s.size) shape_is);
        shown = subst (λ s. ShowsView s now (world_of s file (history_of after (landings ++ []))).kept) (sym shape_is)
            (subst (ShowsView before.shape now) (sym kept_is) (subst (λ b. ShowsView before.shape b (world_of before.shape file h).kept) (sym same.0) lawful.shown));
      })

  -- A write.
  module _ (bytes : List ℕ) (page : ℕ) (cause : Cause) (lawful : IsLawfulOver size (Some bytes) before file landings) (meets : MeetsStep before file landings who events image (ask.Write page cause))
      (done : Performs before after who events answer (ask.Write page cause)) where
    abbrev shape : Shape
    shape = before.shape

    shown_here : IsViewOf shape bytes (world_of shape file past).kept
    shown_here = subst (IsViewOf shape bytes) (sym (kept_locals shape file h who events)) lawful.shown

    legal_here : Ends shape file past
    legal_here = ends_locals shape file h who events (record { legal = lawful.legal; rests = rests_same before landings rests }) meets.guards.local

    it : IsImage shape page image (page_for who ((world_of shape file past).kept page) ((world_of shape file past).draft page))
    it =
        is_image shape page image (page_for who ((world_of shape file past).kept page) ((world_of shape file past).draft page)) meets.image_is
        (own_stands page who ((world_of shape file past).kept page) ((world_of shape file past).draft page) (stands_legal shape file past legal_here.legal page)
        (stands_shown shape page _ ((world_of shape file past).kept page) (shown_here page)))

    writes : (failed landed : Bool) (now : Option (List ℕ)) → now ≡ Some (if not failed || landed then written (page * size) image bytes else bytes)
        → Adds done.between after (by who (act.Write page cause failed) ∷ []) → AreLandings answer (new_landings landings_before landings_now)
        → history_of after (landings ++ new_landings landings_before landings_now) ≡ happens who (act.Write page cause failed) landed ∷ past
        → IsLawfulOver size now after file (landings ++ new_landings landings_before landings_now)
    writes failed landed now is adds are whole =
        let shape_is : after.shape ≡ shape = adds.shape ∙ done.local.shape in
        let ends : Ends after.shape file (history_of after (landings ++ new_landings landings_before landings_now)) =
        ends_performed before after file landings (new_landings landings_before landings_now) who events answer (ask.Write page cause) (record { legal = lawful.legal; rests = rests_same before landings rests }) meets.guards done are in
        let view : ShowsView shape now (world_of shape file (history_of after (landings ++ new_landings landings_before landings_now))).kept =
        rw (is, whole, lawful.sized) (view_after shape (world_of shape file past) who page bytes image (fits ∙ lawful.sized) shown_here it cause failed landed) in
        record {
          legal = ends.legal;
          sized = lawful.sized ∙ sym (ap (λ (s : Shape). s.size) shape_is);
          shown = subst (λ s. ShowsView s now (world_of s file (history_of after (landings ++ new_landings landings_before landings_now))).kept) (sym shape_is) view;
        }

    past_is : history_of done.between landings ≡ past
    past_is = past_locals before done.between landings who events done.local

    answered : (failed : Bool) (now : Option (List ℕ)) → answer ≡ answers_write failed → Adds done.between after (by who (act.Write page cause failed) ∷ [])
        → WriteLeaves (Some bytes) now landings_before landings_now (page * size) image (answers_write failed) → IsLawfulOver size now after file (landings ++ new_landings landings_before landings_now)
    answered true now is adds (landed, more, wrote) =
        writes true landed now wrote adds (rw is (landed, one_new landings_before landings_now landed more))
        (rw (one_new landings_before landings_now landed more) (history_failed done.between after (by who (act.Write page cause true)) landings landed adds.longer refl ∙ ap (λ g. happens who (act.Write page cause true) landed ∷ g) past_is))
    answered false now is adds (wrote, same) =
        writes false false now wrote adds (rw is (none_new landings_before landings_now same))
        (rw (none_new landings_before landings_now same, append-nil landings)
        (history_push done.between after (by who (act.Write page cause false)) landings adds.longer refl ∙ ap (λ g. happens who (act.Write page cause false) false ∷ g) past_is))

  pub stays_lawful : (bytes now : Option (List ℕ)) (asked : Ask) → IsLawfulOver size bytes before file landings → MeetsStep before file landings who events image asked
      → Performs before after who events answer asked → PagesComeTo size bytes now landings_before landings_now image image_now answer asked
      → IsLawfulOver size now after file (landings ++ new_landings landings_before landings_now)
  stays_lawful None now asked lawful meets done pages = absurd lawful.shown
  stays_lawful (Some bytes) now (ask.Write page cause) lawful meets done pages =
      let step = done.step in
      answered bytes page cause lawful meets done step.0 now step.1 step.2 (rw step.1 at pages.0)
  stays_lawful bytes now asked lawful meets done pages = calmly bytes now asked refl lawful meets done pages

-- One event more between two steps.
module _ (size : ℕ) (bytes : Option (List ℕ)) (before after : Recording) (file : View) (landings : List Bool) (rests : IsAtRest (recorded before))
    (lawful : IsLawfulOver size bytes before file landings) where
  one_more : (owner : ℕ) (own : Act) → is_write own ≡ false → is_failed_write own ≡ false → Adds before after (by owner own ∷ []) → Ends after.shape file (history_of after landings)
      → IsLawfulOver size bytes after file landings
  one_more owner own calm steady adds ends =
      let kept_is : (world_of before.shape file (history_of after landings)).kept ≡ (world_of before.shape file (history_of before landings)).kept =
      ap (λ g. (world_of before.shape file g).kept) (history_push before after (by owner own) landings adds.longer steady) ∙ kept_acted before.shape (world_of before.shape file (history_of before landings)) owner own false calm in
      record {
        legal = ends.legal;
        sized = lawful.sized ∙ sym (ap (λ (s : Shape). s.size) adds.shape);
        shown = subst (λ s. ShowsView s bytes (world_of s file (history_of after landings)).kept) (sym adds.shape) (subst (ShowsView before.shape bytes) (sym kept_is) lawful.shown);
      }

  pub lawful_died : (owner : ℕ) → is_alive (recorded before) owner ≡ true → Adds before after (by owner act.Die ∷ []) → IsLawfulOver size bytes after file landings
  lawful_died owner alive adds = one_more owner act.Die refl refl adds (ends_died before after file landings (record { legal = lawful.legal; rests = rests_same before landings rests }) owner alive adds)

  pub lawful_opened : (locks : ℕ) → ((owner : ℕ) → is_alive (recorded before) owner ≡ false) → Adds before after (by 0 (act.Opened locks) ∷ []) → IsLawfulOver size bytes after file landings
  lawful_opened locks none adds = one_more 0 (act.Opened locks) refl refl adds (ends_opened before after file landings (record { legal = lawful.legal; rests = rests_same before landings rests }) locks none adds)
