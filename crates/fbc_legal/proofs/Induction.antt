-- Where a legal history led, locks, copies, drafts and pairs are coherent.
use Rattle.std.proofs.Common.{◌≡◌, ◌∙◌, ap, ℕ, Bool, true, false, [], ◌∷◌, refl, sym}
use Rattle.fbc_kinds.specs.declared.shapes.Shape.{Shape}
use Rattle.fbc_kinds.specs.View.{View}
use Rattle.fbc_levels.specs.LockState.{LockState, granted_of}
use Rattle.fbc_world.specs.declared.events.Act.{Act}
use Rattle.fbc_world.specs.declared.events.Act.TheVariants.{Die, Write}
use Rattle.fbc_world.specs.History.{History}
use Rattle.fbc_world.specs.World.{IsPairIn, acted, start, world_of}
use Rattle.fbc_kinds.specs.Order.{StandsBefore}
use Rattle.fbc_world.proofs.Apart.{apart-history}
use Rattle.fbc_world.proofs.Granting.{granted-history}
use Rattle.fbc_world.proofs.WorldLaws.{IsReplayed-world}
use Rattle.fbc_legal.specs.Coherent.{IsCoherent}
use Rattle.fbc_legal.specs.Guards.{Guard}
use Rattle.fbc_legal.specs.Legal.{IsLegal, MayAct}
use Rattle.fbc_legal.specs.Scene.{Scene, scene_of}
use Rattle.fbc_legal.proofs.Drafts.{drafts-acted}
use Rattle.fbc_legal.proofs.Exclusion.{AreRequestsTrue, is_plain}
use Rattle.fbc_legal.proofs.Held.{held-acted}
use Rattle.fbc_legal.proofs.Levels.{beside-acted}
use Rattle.fbc_legal.proofs.Newest.{newest-acted}
use Rattle.fbc_legal.proofs.Order.{order-acted}
use Rattle.fbc_legal.proofs.Pairs.{pairs-acted}
use Rattle.fbc_legal.proofs.Waits.{bare-acted}

-- Before the first event there are no pairs.
none_before : (file : View) (x y : ℕ) → StandsBefore (IsPairIn (start file)) x y → ⊥
none_before file x y (StandsBefore.straight high low pair) = absurd (let is : false ≡ true = pair.1 in cc)
none_before file x y (StandsBefore.through high between low pair rest) = absurd (let is : false ≡ true = pair.1 in cc)

IsCoherent-start : (file : View) → IsCoherent (start file)
IsCoherent-start file = record {
  beside = λ a b r apart. refl;
  bare = λ o p. refl;
  held = λ o p. tt;
  drafts = λ p. tt;
  newest = λ o p. tt;
  pairs = λ o x y has. absurd cc;
  order = λ p. none_before file p p;
}

-- After an act that is no failed write.
plain : (at : Scene) → IsCoherent at.world → AreRequestsTrue at.world → (owner : ℕ) (landed : Bool) (act : Act) → MayAct at owner act → Guard at owner act → is_plain act ≡ true
    → IsCoherent (acted at.shape at.world owner act landed)
plain at h t owner landed act may g is = record {
  beside = beside-acted at h owner landed act g is;
  bare = bare-acted at h t owner landed act g is;
  held = held-acted at h t owner landed act may g is;
  drafts = drafts-acted at h t owner landed act may g is;
  newest = newest-acted at h owner landed act g is;
  pairs = pairs-acted at h t owner landed act may g is;
  order = order-acted at h owner landed act g is;
}

-- After any act: a failed write is a death, behind a write if it landed.
pub IsCoherent-acted : (at : Scene) → IsCoherent at.world → AreRequestsTrue at.world → (owner : ℕ) (landed : Bool) (act : Act) → MayAct at owner act → Guard at owner act
    → IsCoherent (acted at.shape at.world owner act landed)
IsCoherent-acted at h t owner true (Write page reason true) may g =
    let after = plain at h t owner true (Write page reason false) may g refl in
    plain (record at { world = acted at.shape at.world owner (Write page reason false) true }) after (record { agrees = t.agrees; apart = t.apart }) owner true Die may tt refl
IsCoherent-acted at h t owner false (Write page reason true) may g = plain at h t owner false Die may tt refl
IsCoherent-acted at h t owner landed (Write page reason false) may g = plain at h t owner landed (Write page reason false) may g refl
IsCoherent-acted at h t owner landed act may g = plain at h t owner landed act may g refl

-- What the requests say is granted.
pub requests_true : (shape : Shape) (file : View) (history : History) → AreRequestsTrue (world_of shape file history)
requests_true shape file history =
    let is = IsReplayed-world shape file history in
    record {
      agrees = λ owner resource. ap (λ (s : LockState). granted_of s owner resource) is.locks_is ∙ granted-history owner resource history ∙ sym (is.granted_is owner resource);
      apart = rw is.locks_is (apart-history history);
    }

pub IsCoherent-legal : (shape : Shape) (file : View) (history : History) → IsLegal shape file history → IsCoherent (world_of shape file history)
IsCoherent-legal shape file [] legal = IsCoherent-start file
IsCoherent-legal shape file (moment ∷ before) legal =
    IsCoherent-acted (scene_of shape file before) (IsCoherent-legal shape file before legal.0) (requests_true shape file before) moment.event.actor moment.landed moment.event.act legal.1.alive legal.1.guard
