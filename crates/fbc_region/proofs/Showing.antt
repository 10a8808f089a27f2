-- After a step the device's bytes show what the journal keeps, where they did before.
use Rattle.std.proofs.Common.{◌≡◌, ◌∙◌, ap, ℕ, ◌*◌, Bool, true, false, not, ◌==◌, ◌||◌, if◌then◌else◌, List, [], ◌∷◌, ◌++◌, length, drop, Option, Some, None, append-nil, sym, subst, refl}
use Rattle.std.specs.List.{AllByRecursion}
use Rattle.fbc_kinds.specs.declared.pages.Page.{Page}
use Rattle.fbc_kinds.specs.declared.shapes.Shape.{Shape}
use Rattle.fbc_kinds.specs.File.{IsViewOf, Shows, ShowsPage, page_bytes}
use Rattle.fbc_kinds.specs.View.{View}
use Rattle.fbc_outside.specs.Bytes.{written}
use Rattle.fbc_legal.proofs.Exclusion.{same_number}
use Rattle.fbc_world.specs.declared.answers.Answer.{Answer}
use Rattle.fbc_world.specs.declared.asks.Ask.{Ask}
use Rattle.fbc_world.specs.declared.asks.Ask.TheVariants as ask
use Rattle.fbc_world.specs.declared.asks.Cause.{Cause}
use Rattle.fbc_world.specs.declared.events.Act.{Act}
use Rattle.fbc_world.specs.declared.events.Act.TheVariants as act
use Rattle.fbc_world.specs.declared.events.Event.{Event}
use Rattle.fbc_world.specs.PageCell.{page_for}
use Rattle.fbc_world.specs.World.{World, acted}
use Rattle.fbc_region.specs.Lawful.{Spells, new_landings}
use Rattle.fbc_region.specs.Shared.{is_failed_write}
use Rattle.fbc_region.specs.Stepping.{PagesComeTo}
use Rattle.fbc_region.proofs.Calm.{IsCalm, is_write, is_write_ask}
use Rattle.fbc_region.proofs.Landed.{IsSteady}
use Rattle.fbc_region.proofs.PageBytes.{shows_written}
use Rattle.fbc_region.proofs.Standing.{Stands}

drop_all : {X : Type 0} (xs ys : List X) → drop (length xs) (xs ++ ys) ≡ ys
drop_all [] ys = refl
drop_all (x ∷ xs) ys = drop_all xs ys

pub none_new : (landings now : List Bool) → now ≡ landings → new_landings landings now ≡ []
none_new landings now same = ap (drop (length landings)) (same ∙ sym (append-nil landings)) ∙ drop_all landings []

pub one_new : (landings now : List Bool) (landed : Bool) → now ≡ landings ++ landed ∷ [] → new_landings landings now ≡ landed ∷ []
one_new landings now landed is = ap (drop (length landings)) is ∙ drop_all landings (landed ∷ [])

steady_act : (own : Act) → is_write own ≡ false → is_failed_write own ≡ false
steady_act (act.Write page cause failed) calm = absurd cc
steady_act _ calm = refl

pub calm_steady : (events : List Event) → AllByRecursion IsCalm events → AllByRecursion IsSteady events
calm_steady [] calm = tt
calm_steady (event ∷ events) calm = (steady_act event.act calm.0, calm_steady events calm.1)

-- A step that writes nothing leaves the device as it is.
pub pages_calm : (size : ℕ) (bytes now : Option (List ℕ)) (landings landings_now : List Bool) (image image_now : List ℕ) (answer : Answer) (asked : Ask) → is_write_ask asked ≡ false
    → PagesComeTo size bytes now landings landings_now image image_now answer asked → (now ≡ bytes) × (landings_now ≡ landings)
pages_calm size bytes now landings landings_now image image_now answer (ask.Read page) other come = (come.1, come.2)
pages_calm size bytes now landings landings_now image image_now answer (ask.Write page cause) other come = absurd cc
pages_calm size bytes now landings landings_now image image_now answer _ other come = (come.0, come.1)

-- What a page shows stands under its number.
pub stands_shown : (shape : Shape) (number : ℕ) (bytes : List ℕ) (page : Option Page) → Shows shape number bytes page → Stands number page
stands_shown shape number bytes None shows = tt
stands_shown shape number bytes (Some page) shows = shows.stands

-- The page as its owner has it, with what it spells.
pub record IsImage (shape : Shape) (number : ℕ) (image : List ℕ) (page : Option Page) : Type 0 where
  pub content : Page
  pub is : page ≡ Some content
  pub shows : ShowsPage shape number image content

pub is_image : (shape : Shape) (number : ℕ) (image : List ℕ) (page : Option Page) → Spells shape image page → Stands number page → IsImage shape number image page
is_image shape number image None spells stands = absurd spells
is_image shape number image (Some page) spells stands = record { content = page; is = refl; shows = record { spelled = spells; stands = stands } }

-- The write of an owner's page.
module _ (shape : Shape) (w : World) (who page : ℕ) (bytes image : List ℕ) (fits : length image ≡ shape.size) (shown : IsViewOf shape bytes w.kept) (it : IsImage shape page image (page_for who (w.kept page) (w.draft page))) where
  abbrev after_write : View
  after_write number = if number == page then page_for who (w.kept number) (w.draft number) else w.kept number

  abbrev place : ℕ → List ℕ
  place number = page_bytes shape.size (written (page * shape.size) image bytes) number

  view_written : IsViewOf shape (written (page * shape.size) image bytes) after_write
  view_written number = go (number == page) refl (shows_written shape page it.content image bytes w.kept fits it.shows shown number) where
    go : (b : Bool) → number == page ≡ b → Shows shape number (place number) (if b then Some it.content else w.kept number)
        → Shows shape number (place number) (if b then page_for who (w.kept number) (w.draft number) else w.kept number)
    go true is shows =
        let same : number ≡ page = same_number number page is in
        subst (Shows shape number (place number)) (sym (ap (λ n. page_for who (w.kept n) (w.draft n)) same ∙ it.is)) shows
    go false is shows = shows

  pub view_after : (cause : Cause) (failed landed : Bool)
      → IsViewOf shape (if not failed || landed then written (page * shape.size) image bytes else bytes) (acted shape w who (act.Write page cause failed) landed).kept
  view_after cause false landed = view_written
  view_after cause true true = view_written
  view_after cause true false = shown
