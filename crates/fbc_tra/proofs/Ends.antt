-- At the end of a begin a transaction is open.
use Rattle.std.proofs.Common.{◌≡◌, ◌≢◌, ◌∙◌, ◌==◌, ◌+◌, ◌-◌, ◌*◌, ◌^◌, ◌++◌, ◌∷◌, [], ℕ, Bool, true, false, if◌then◌else◌, Option, Some, None, Result, Ok, Err, IfOk, length, min, nat_le, refl, ap, sym, subst, inl, inr, ◌⊎◌}
use Rattle.std.specs.List.{remove}
use Rattle.std.specs.Option.{option_map_or}
use Rattle.fbc_kinds.specs.declared.replies.Reply.TheVariants as reply
use Rattle.fbc_kinds.specs.Limits.{tip_numbers, transaction_limit}
use Rattle.fbc_world.specs.declared.events.LocalEvent.{LocalEvent}
use Rattle.fbc_world.specs.declared.events.LocalEvent.TheVariants as local
use Rattle.fbc_kinds.specs.declared.snapshots.Snapshot.{Snapshot}
use Rattle.fbc_reserve.specs.Waits.{WaitState}
use Rattle.fbc_desk.specs.Calls.{Makes, Unpins, UnpinsAll, is_taken_back, may_leave, next, none, with_event, with_leaving, with_unpin}
use Rattle.fbc_desk.specs.Desk.{DeskState, event_limit}
use Rattle.fbc_desk.specs.Grounds.{MayRaise, own_after}
use Rattle.fbc_tra.specs.declared.beginning.BeginStage.{BeginStage}
use Rattle.fbc_tra.specs.declared.beginning.BeginStage.TheVariants as at
use Rattle.fbc_tra.specs.declared.steps.BodyStep.{BodyStep}
use Rattle.fbc_tra.specs.declared.steps.BodyStep.TheVariants as step
use Rattle.fbc_tra.specs.Begins.{BarredOrNot, BeginAnswers, BeginComesTo, BeginMoves, BeginsWhole, IsBegun, Raises}
use Rattle.fbc_tra.specs.Goes.{begun}
use Rattle.fbc_tra.specs.Ways.{Leads}
use Rattle.fbc_tra.specs.Numbers.{bar, bar_at, own_number, raising}

-- An unpin leaves the open transaction.
event-own : (event : LocalEvent) (d : DeskState) → (with_event event d).own ≡ d.own
event-own event d = go (length d.unsent == event_limit) where
  go : (t : Bool) → (if t then record d { is_spilled = true } else record d { unsent = d.unsent ++ event ∷ [] }).own ≡ d.own
  go true = refl
  go false = refl

leaving-own : (page : ℕ) (d : DeskState) → (with_leaving page d).own ≡ d.own
leaving-own page d = go (may_leave page d.own) where
  go : (t : Bool) → (if t then with_event (local.Unpin page) d else record d { is_spilled = true }).own ≡ d.own
  go true = event-own (local.Unpin page) d
  go false = refl

unpin-own : (page : ℕ) (last : Option ℕ) (d : DeskState) → (with_unpin page last d).own ≡ d.own
unpin-own page last d = go (is_taken_back d.unsent last) where
  go : (t : Bool) → (if t then record d { unsent = option_map_or (remove d.unsent) last d.unsent } else with_leaving page d).own ≡ d.own
  go true = refl
  go false = leaving-own page d

unpins-own : (before : DeskState) (page : ℕ) (after : DeskState) → Unpins before page after → after.own ≡ before.own
unpins-own before page after unpins = ap (λ (d : DeskState). d.own) unpins.is_after ∙ unpin-own page unpins.last before

all-own : (before after : DeskState) → UnpinsAll before after → after.own ≡ before.own
all-own _ _ (none d clean) = refl
all-own _ _ (next d between after page least unpins rest) = all-own between after rest ∙ unpins-own d page between unpins

-- The edit of the header is remembered.
raised : (d after : DeskState) → Raises d after → IsBegun after
raised d after raises =
    let makes : Makes d 0 (raising d) [] raises.between = raises.raises in
    let ground : MayRaise d 0 (min (own_number d + 1) (2 ^ 32 - 1)) = makes.may.grounds.by_kind in
    record {
      own = record ground.own { is_raised = true };
      is_own = all-own raises.between after raises.unpins ∙ (ap (λ (s : DeskState). s.own) makes.is_after ∙ ap (own_after (raising d)) ground.is_own);
      raised = refl;
    }

-- What stands in the way of a number is no end.
bar-open : (size tips next_one : ℕ) → bar_at size tips next_one ≢ Some step.Done
bar-open size tips next_one = go (nat_le (transaction_limit size) next_one) (nat_le (tip_numbers size * tips) next_one) where
  go : (full placeless : Bool) → (if full then Some (step.Over (reply.TransactionLimit next_one)) else if placeless then Some step.Unbuilt else None) ≢ Some step.Done
  go true placeless = λ is. absurd (cc)
  go false true = λ is. absurd (cc)
  go false false = λ is. absurd (cc)

tips-open : (barred : Option BodyStep) (d after : DeskState) (old new : ℕ) → barred ≢ Some step.Done → BarredOrNot barred d old after new step.Done → ⊥
tips-open (Some barred) d after old new other is = other (ap Some (sym is.0))
tips-open None d after old new other is = is

done : (d after : DeskState) (from to : BeginStage) → BeginAnswers d from after to step.Done → IsBegun after
done d after at.Header to is = absurd is.0
done d after (at.Tips part) (at.Tips later) is = absurd (tips-open (bar d) d after part.held later.held (bar-open d.cache.shape.size (length d.tips) _) is)
done d after (at.Tips part) at.Header is = absurd is
done d after (at.Tips part) (at.Number snapshot waiting) is = absurd is
done d after (at.Tips part) at.Begun is = absurd is
done d after (at.Number snapshot waiting) to is = absurd is.0
done d after at.Begun to is = raised d after is.0

-- From the lock of the number it is the transaction with that snapshot.
abbrev OnFrom : DeskState → BeginStage → DeskState → BeginStage → Type 0
OnFrom d (at.Number snapshot waiting) between to = (to ≡ at.Number snapshot waiting) ⊎ ((to ≡ at.Begun) × (between ≡ begun snapshot d))
OnFrom d at.Begun between to = (to ≡ at.Begun) × (between ≡ d)
OnFrom d _ between to = Unit {0}

leads-on : (wait : Bool) (d between : DeskState) (from to : BeginStage) → Leads (BeginMoves wait) d from between to → OnFrom d from between to
leads-on wait _ _ _ _ (Leads.stays d at.Header) = tt
leads-on wait _ _ _ _ (Leads.stays d (at.Tips part)) = tt
leads-on wait _ _ _ _ (Leads.stays d (at.Number snapshot waiting)) = inl refl
leads-on wait _ _ _ _ (Leads.stays d at.Begun) = (refl, refl)
leads-on wait _ _ _ _ (Leads.goes d between after at.Header stage to move rest) = tt
leads-on wait _ _ _ _ (Leads.goes d between after (at.Tips part) stage to move rest) = tt
leads-on wait _ _ _ _ (Leads.goes d between after (at.Number snapshot waiting) at.Header to move rest) = absurd move
leads-on wait _ _ _ _ (Leads.goes d between after (at.Number snapshot waiting) (at.Tips part) to move rest) = absurd move
leads-on wait _ _ _ _ (Leads.goes d between after (at.Number snapshot waiting) (at.Number other later) to move rest) = absurd move
leads-on wait _ _ _ _ (Leads.goes d between after (at.Number snapshot waiting) at.Begun to move rest) =
    let on : OnFrom between at.Begun after to = leads-on wait between after at.Begun to rest in
    inr (on.0, on.1 ∙ move.1)
leads-on wait _ _ _ _ (Leads.goes d between after at.Begun stage to move rest) = absurd move

-- The edit of the header leaves the snapshot.
raised-as : (d after : DeskState) (snapshot : Snapshot) → Raises (begun snapshot d) after → after.own ≡ Some (record { snapshot = snapshot; is_raised = true; is_sealed = false })
raised-as d after snapshot raises =
    let makes : Makes (begun snapshot d) 0 (raising (begun snapshot d)) [] raises.between = raises.raises in
    all-own raises.between after raises.unpins ∙ ap (λ (s : DeskState). s.own) makes.is_after

ends-as : (d between after : DeskState) (snapshot : Snapshot) (waiting : WaitState) (stage to : BeginStage) → OnFrom d (at.Number snapshot waiting) between stage
    → BeginAnswers between stage after to step.Done → after.own ≡ Some (record { snapshot = snapshot; is_raised = true; is_sealed = false })
ends-as d between after snapshot waiting stage to (inl is) answers =
    let here : BeginAnswers between (at.Number snapshot waiting) after to step.Done = subst (λ (s : BeginStage). BeginAnswers between s after to step.Done) is answers in
    absurd here.0
ends-as d between after snapshot waiting stage to (inr is) answers =
    let here : BeginAnswers between at.Begun after to step.Done = subst (λ (s : BeginStage). BeginAnswers between s after to step.Done) is.0 answers in
    raised-as d after snapshot (subst (λ (s : DeskState). Raises s after) is.1 here.0)

whole : (wait : Bool) (d after : DeskState) (from to : BeginStage) (answer : BodyStep) → BeginComesTo wait d from after to answer → BeginsWhole from after answer
whole wait d after (at.Number snapshot waiting) to step.Done comes =
    ends-as d comes.between after snapshot waiting comes.at to (leads-on wait d comes.between (at.Number snapshot waiting) comes.at comes.way) comes.answers
whole wait d after at.Header to step.Done comes = done comes.between after comes.at to comes.answers
whole wait d after (at.Tips part) to step.Done comes = done comes.between after comes.at to comes.answers
whole wait d after at.Begun to step.Done comes = done comes.between after comes.at to comes.answers
whole wait d after from to (step.Miss need) comes = tt
whole wait d after from to (step.Must asked) comes = tt
whole wait d after from to (step.Over reply) comes = tt
whole wait d after from to (step.Damaged page rule) comes = tt
whole wait d after from to step.Refused comes = tt
whole wait d after from to step.Unbuilt comes = tt

pub begins-whole : {E : Type 0} (wait : Bool) (d after : DeskState) (from to : BeginStage) (result : Result BodyStep E) → IfOk result (BeginComesTo wait d from after to) → IfOk result (BeginsWhole from after)
begins-whole wait d after from to (Ok answer) comes = whole wait d after from to answer comes
begins-whole wait d after from to (Err error) comes = comes
