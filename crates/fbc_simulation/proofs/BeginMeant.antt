-- Views after a begin read as the machine that has begun too.
use Rattle.std.proofs.Common.{◌≡◌, ◌≢◌, ◌∙◌, ◌<◌, ◌==◌, ◌||◌, ◌∷◌, inl, inr, ℕ, Bool, true, false, List, Contains, Option, Some, None, is_some, refl, sym, ap, subst, arith}
use Rattle.std.specs.Option.{option_map_or}
use Rattle.std.proofs.lemmas.Bool.Decides.{nat_tests}
use Rattle.std.proofs.lemmas.Option.{same_Some}
use Rattle.fbc_kinds.specs.declared.shapes.Shape.{Shape}
use Rattle.fbc_kinds.specs.declared.snapshots.Transaction.{Transaction}
use Rattle.fbc_kinds.specs.Chain.{Version}
use Rattle.fbc_kinds.specs.Machine.{Machine, after_begin, begun, committed_numbers, is_held, open_transaction, standing_versions}
use Rattle.fbc_kinds.specs.Meaning.{meaning_of, meaning_with}
use Rattle.fbc_kinds.specs.View.{View, next_of}
use Rattle.fbc_kinds.proofs.Tests.{differ_from_test, same_from_test, test_of_different, test_of_same}
use Rattle.fbc_levels.specs.declared.levels.Level.{Level}
use Rattle.fbc_levels.specs.declared.resources.Resource.{Resource}
use Rattle.fbc_levels.specs.LockState.{request_of}
use Rattle.fbc_meanings.specs.Beside.{IsApart}
use Rattle.fbc_meanings.proofs.BegunOnes.{begun_gains, none_has_next}
use Rattle.fbc_version_edits.specs.Open.{AreOpen}
use Rattle.fbc_runs.specs.Ended.{is_owner_of, settled_by}
use Rattle.fbc_runs.specs.Reading.{Gains, ReadsAs}
use Rattle.fbc_runs.proofs.BeginsRead.{begun_reads}
use Rattle.fbc_runs.proofs.EndedReads.{begin_unread}
use Rattle.fbc_runs.proofs.Gained.{begun_gained}
use Rattle.fbc_runs.proofs.Places.{at_head, head_or_tail, in_tail}
use Rattle.fbc_world.specs.declared.events.Act.TheVariants.{Grant}
use Rattle.fbc_world.specs.History.{History, happens}
use Rattle.fbc_world.specs.World.{World, is_begin, newest_of, world_of}
use Rattle.fbc_legal.specs.Guards.{MayBegin, word_of}
use Rattle.fbc_legal.specs.Legal.{IsLegal}
use Rattle.fbc_legal.specs.Scene.{Scene, scene_of}
use Rattle.fbc_closed_cuts.specs.Cut.{Cut, IsClosedCut, view}
use Rattle.fbc_closed_cuts.specs.Firm.{HasOwnDrafts}
use Rattle.fbc_closed_cuts.specs.Upheld.{IsMarkDrafted, IsUpheld}
use Rattle.fbc_numbers.specs.Numbers.{IsNumbered}
use Rattle.fbc_numbers.proofs.BeginFacts.{begin-header}
use Rattle.fbc_numbers.proofs.CutFacts.{clash}
use Rattle.fbc_numbers.proofs.NamedTips.{next_in}
use Rattle.fbc_numbers.proofs.Numbered.{numbered-step}
use Rattle.fbc_soundness.specs.Whole.{IsWhole}
use Rattle.fbc_simulation.specs.Beside.{AreOpenIn, commits_in, machine_of}
use Rattle.fbc_simulation.specs.Simulated.{IsSimulated}
use Rattle.fbc_simulation.proofs.ActOpens.{none_there, same_begun}
use Rattle.fbc_simulation.proofs.BeginFacts.{snapshot_commits, view_commits}
use Rattle.fbc_simulation.proofs.BegunVersions.{ended_smaller}
use Rattle.fbc_simulation.proofs.OpensBeside.{opens_are_open}
use Rattle.fbc_simulation.proofs.OthersOf.{ends_of_others, in_others, of_others, others_of}
use Rattle.fbc_simulation.proofs.LivingOwners.{HasLiving, has_living, lives_of}
use Rattle.fbc_simulation.proofs.SameLiving.{HaveSameOnes, same_meaning}

same_test : (m n : ℕ) → (m == n) ≡ (n == m)
same_test m n = go (m == n) refl where
  go : (b : Bool) → m == n ≡ b → b ≡ (n == m)
  go true is = grind (arith, nat_tests)
  go false is = grind (arith, nat_tests)

module _ (shape : Shape) (file : View) (before : History) (owner : ℕ) (resource : Resource) (level : Level) (landed : Bool)
    (legal : IsLegal shape file (happens owner (Grant resource level) landed ∷ before)) (whole : IsWhole (scene_of shape file before)) (s : IsSimulated (scene_of shape file before))
    (begins : is_begin resource level ≡ true) where
  abbrev pub w : World
  w = world_of shape file before

  abbrev pub after : World
  after = world_of shape file (happens owner (Grant resource level) landed ∷ before)

  abbrev pub machine : Machine
  machine = machine_of shape file before

  abbrev pub number : ℕ
  number = resource.key

  abbrev at : Scene
  at = scene_of shape file before

  u : IsUpheld at
  u = whole.order.upheld

  k : IsNumbered at
  k = whole.order.numbered

  abbrev word : ℕ
  word = word_of (request_of w.locks owner resource)

  pub may : MayBegin at owner number word
  may = legal.1.guard.begins begins

  abbrev pub new : Transaction
  new = begun (meaning_of (newest_of w)) owner number

  k_after : IsNumbered (scene_of shape file (happens owner (Grant resource level) landed ∷ before))
  k_after = numbered-step shape file before (happens owner (Grant resource level) landed) legal u k

  pub commits_same : (n : ℕ) → is_held (committed_numbers (meaning_of (newest_of w)).transactions) n ≡ is_held (committed_numbers machine.transactions) n
  commits_same = snapshot_commits shape file before legal.0 whole s owner number word may

  none_open : open_transaction machine owner ≡ None
  none_open = none_there w machine s.opens owner resource level begins may.none_open commits_same

  -- Another's transaction was open before.
  was : (t : Transaction) → ¬ (t.owner ≡ owner) → after.transaction t.owner ≡ Some t → w.transaction t.owner ≡ Some t
  was t differ is = sym others_same ∙ is where
    others_same : after.transaction t.owner ≡ w.transaction t.owner
    others_same = rw (test_of_different t.owner owner differ) refl

  -- The owner's is the new one.
  is_new : (t : Transaction) → t.owner ≡ owner → after.transaction t.owner ≡ Some t → t ≡ new
  is_new t same is = same_Some t new (sym is ∙ now) where
    now : after.transaction t.owner ≡ Some new
    now = rw (test_of_same t.owner owner same, begins) refl

  module _ (cut : Cut) (living : List Transaction) (closed : IsClosedCut after cut) (opens : AreOpenIn after cut living) where
    closed_before : IsClosedCut w cut
    closed_before = record { drafted = closed.drafted; closed = closed.closed }

    abbrev seen : View
    seen = view w cut

    abbrev commits : ℕ → Bool
    commits = commits_in w cut

    unmarked : (mark : Option ℕ) → IsMarkDrafted w owner mark → option_map_or cut mark false ≡ false
    unmarked None held = refl
    unmarked (Some page) held = absurd (clash (is_some (w.transaction owner)) held.1 (rw may.none_open refl))

    -- Where the new transaction ends, it is not read.
    without_new : is_owner_of living owner ≡ false → ReadsAs (meaning_with living seen) (settled_by living commits (after_begin machine owner number))
    without_new none =
        begin_unread living commits owner none (unmarked (w.marked owner) (u.marks owner)) (meaning_with living seen) machine
        (s.meant cut living closed_before (record { each = λ t lives. was t (differ t lives) (opens.each t lives); drafts = opens.drafts })) number where
          differ : (t : Transaction) → Contains living t → ¬ (t.owner ≡ owner)
          differ t lives same = clash _ (ap (is_owner_of living) (sym same) ∙ lives_of living t lives) none

    abbrev others : List Transaction
    others = others_of owner living

    opens_others : AreOpenIn w cut others
    opens_others = record {
      each = λ t within. let is = of_others owner living t within in was t is.apart (opens.each t is.lives);
      drafts = λ t page within its. opens.drafts t page (of_others owner living t within).lives its;
    }

    module _ (mine : HasLiving living owner) where
      own_new : mine.t ≡ new
      own_new = is_new mine.t mine.own (opens.each mine.t mine.lives)

      new_lives : Contains living new
      new_lives = subst (Contains living) own_new mine.lives

      back : (t : Transaction) → Contains (new ∷ others) t → Contains living t
      back t within = elim (head_or_tail new others t within) [
        | inl one ↦ subst (Contains living) one new_lives
        | inr behind ↦ (of_others owner living t behind).lives
      ]

      there : (t : Transaction) → Contains living t → Contains (new ∷ others) t
      there t lives = go (t.owner == owner) refl where
        go : (b : Bool) → t.owner == owner ≡ b → Contains (new ∷ others) t
        go true its = subst (Contains (new ∷ others)) (sym (is_new t (same_from_test t.owner owner its) (opens.each t lives))) (at_head new others)
        go false apart = in_tail new others t (in_others owner living t lives (differ_from_test t.owner owner apart))

      opens_all : AreOpenIn after cut (new ∷ others)
      opens_all = record { each = λ t within. opens.each t (back t within); drafts = λ t page within its. opens.drafts t page (back t within) its }

      open_all : AreOpen (new ∷ others)
      open_all = opens_are_open after k_after.stand k_after.differ cut (new ∷ others) opens_all

      same_ones : HaveSameOnes living (new ∷ others)
      same_ones = record { there = there; back = back; one_number = open_all.one_number }

      apart_of : IsApart others new
      apart_of = record {
        owner = λ t within. (of_others owner living t within).apart;
        number = λ t within same.
            (of_others owner living t within).apart (ap (λ (x : Transaction). x.owner) (open_all.one_number t new (in_tail new others t within) (at_head new others) same));
      }

      own_drafts : HasOwnDrafts w owner cut
      own_drafts = record { closed = closed_before; own = λ page its. opens.drafts new page new_lives its }

      is_next : number ≡ next_of seen
      is_next = sym may.next ∙ sym (ap next_in (begin-header at u owner number word may cut own_drafts))

      above : 0 < number
      above = let one = may.word_is.from_one in let to = may.word_is.to in grind (arith, one, to)

      view_gains : Gains (meaning_with others seen) (meaning_with (new ∷ others) seen) owner new
      view_gains = begun_gains shape seen others (u.of_shape cut closed_before) (u.sound cut closed_before) new open_all apart_of is_next above

      machine_gains : Gains (settled_by others commits machine) (settled_by living commits (after_begin machine owner number)) owner (begun machine owner number)
      machine_gains =
          subst (λ (m : Machine). Gains m (settled_by living commits (after_begin machine owner number)) owner (begun machine owner number))
          (sym (ends_of_others owner living commits machine none_open))
          (begun_gained living commits machine owner number none_open (lives_of living new new_lives) s.orderly.makers)

      snapshot_is : (n : ℕ) → is_held new.snapshot n ≡ ((n == number) || is_held (committed_numbers (meaning_with others seen).transactions) n)
      snapshot_is n =
          ap (λ b. b || is_held (committed_numbers (meaning_of (newest_of w)).transactions) n) (same_test number n)
          ∙ ap (λ b. (n == number) || b)
          (view_commits shape file before legal.0 whole s owner number word may cut closed_before others
          (λ t within. open_all.opened t (in_tail new others t within))
          (λ t within. whole.apart.out_of_file t.owner t (opens_others.each t within)) n)

      unused : (relation row : ℕ) (version : Version) → Contains (standing_versions (meaning_with others seen) relation row) version → version.number ≢ number
      unused relation row version within same =
          let below = none_has_next shape seen others (u.of_shape cut closed_before) (u.sound cut closed_before) relation row version within in
          absurd (grind (arith, below, same, is_next))

      unused_there : (relation row : ℕ) (version : Version) → Contains (standing_versions (settled_by others commits machine) relation row) version → version.number ≢ number
      unused_there relation row version within same =
          let below = ended_smaller shape file before legal.0 whole s owner number word may others commits relation row version within in
          absurd (grind (arith, below, same))

      with_new : ReadsAs (meaning_with living seen) (settled_by living commits (after_begin machine owner number))
      with_new =
          subst (λ (m : Machine). ReadsAs m (settled_by living commits (after_begin machine owner number))) (sym (same_meaning living (new ∷ others) same_ones seen))
          (begun_reads (meaning_with others seen) (settled_by others commits machine) (meaning_with (new ∷ others) seen) (settled_by living commits (after_begin machine owner number)) owner new (begun machine owner number)
          (s.meant cut others closed_before opens_others) view_gains machine_gains
          (same_begun w machine s.opens owner resource level begins may.none_open commits_same) snapshot_is unused unused_there)

    pub begin_meant : ReadsAs (meaning_with living seen) (settled_by living commits (after_begin machine owner number))
    begin_meant = go (is_owner_of living owner) refl where
      go : (b : Bool) → is_owner_of living owner ≡ b → ReadsAs (meaning_with living seen) (settled_by living commits (after_begin machine owner number))
      go true is = with_new (has_living living owner is)
      go false none = without_new none
