use Rattle.std.proofs.Common.{◌≡◌, ◌<◌, ℕ, List, [], ◌∷◌, Option, Some, None, refl, sym, ◌∙◌, subst, arith, length}
use Rattle.fbc_kinds.specs.declared.rules.Rule.{Rule}
use Rattle.fbc_kinds.specs.declared.shapes.Shape.{Shape}
use Rattle.fbc_kinds.specs.File.{page_bytes}
use Rattle.fbc_kinds.specs.View.{View}
use Rattle.fbc_validator.specs.Damage.{AreDamages, broken_page}
use Rattle.fbc_validator.proofs.Undamaged.{AreUnbroken}
use Rattle.fbc_validator.proofs.SoundView as view
use Rattle.fbc_validator.proofs.SoundPages.{no_damage_in_sound}
use Rattle.fbc_validator.proofs.laws.sound_without_damage.Goals as goal

none_listed : (shape : Shape) (bytes : List ℕ) (v : View) → AreDamages shape bytes v [] → AreUnbroken shape bytes v
none_listed shape bytes v are page named = go (broken_page shape v page (page_bytes shape.size bytes page)) refl
  where
    go : (o : Option Rule) → broken_page shape v page (page_bytes shape.size bytes page) ≡ o → broken_page shape v page (page_bytes shape.size bytes page) ≡ None
    go None is = is
    go (Some broken) is =
        let stands = (are.listed page broken).1 (named, is) in
        let within : stands.0 < 0 = stands.1 in
        absurd (omega arith)

one_listed : (shape : Shape) (bytes : List ℕ) (v : View) (damages : List (ℕ × Rule)) → AreUnbroken shape bytes v → AreDamages shape bytes v damages → damages ≡ []
one_listed shape bytes v [] unbroken are = refl
one_listed shape bytes v (d ∷ ds) unbroken are =
    let here : 0 < length (d ∷ ds) = omega arith in
    let told = (are.listed d.0 d.1).0 (0, here, refl) in
    let both : None ≡ Some d.1 = sym (unbroken d.0 told.0) ∙ told.1 in
    cc

pub returns : goal.returns
returns c shape bytes v damages size shown spelled are = (
  (λ none.
      let P : List (ℕ × Rule) → Type 0 = AreDamages shape bytes v in
      view.sound_without_damage shape bytes v shown spelled (none_listed shape bytes v (subst P none are))),
  (λ sound. one_listed shape bytes v damages (no_damage_in_sound shape bytes v size shown sound) are),
)
