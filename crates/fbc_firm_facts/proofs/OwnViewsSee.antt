-- Every view with all drafts of an owner shows its open transaction what the machine does.
use Rattle.std.proofs.Common.{◌≡◌, ◌∙◌, ◌⊎◌, inl, inr, ℕ, Bool, true, false, List, [], ◌∷◌, Contains, Some, find, filter, if◌then◌else◌, refl, sym, ap, subst, arith}
use Rattle.std.specs.Option.{option_and_then}
use Rattle.fbc_kinds.specs.declared.snapshots.Transaction.{Transaction}
use Rattle.fbc_kinds.specs.Chain.{Version, chain, see}
use Rattle.fbc_kinds.specs.Machine.{is_held, is_open, is_rolled_back, open_transaction, seen, seen_by, standing_versions}
use Rattle.fbc_kinds.specs.Meaning.{meaning_with, transaction_of}
use Rattle.fbc_kinds.specs.View.{View}
use Rattle.fbc_kinds.proofs.Meanings.{is_standing, standing_versions-meaning_with}
use Rattle.fbc_version_edits.proofs.ChainNumbers.{chain_begun}
use Rattle.fbc_version_edits.proofs.Living.{committed_one, open_transaction_is, own_transaction}
use Rattle.fbc_runs.specs.Ended.{is_owner_of}
use Rattle.fbc_runs.proofs.Places.{at_head, head_or_tail}
use Rattle.fbc_runs.proofs.Standings.{committed_stands, open_stands}
use Rattle.fbc_world.specs.Holdings.{is_draft_of}
use Rattle.fbc_world.specs.World.{World}
use Rattle.fbc_legal.specs.Scene.{Scene}
use Rattle.fbc_closed_cuts.specs.Cut.{Cut, view}
use Rattle.fbc_closed_cuts.specs.Firm.{HasOwnDrafts}
use Rattle.fbc_numbers.specs.Numbers.{IsSnapshotNumber}
use Rattle.fbc_numbers.proofs.BeginFacts.{open-within}
use Rattle.fbc_numbers.proofs.CutFacts.{clash, kept-committed}
use Rattle.fbc_soundness.specs.Whole.{IsWhole}
use Rattle.fbc_simulation.specs.Beside.{AreOpenIn, commits_in}
use Rattle.fbc_simulation.specs.Simulated.{IsSimulated, machine_at}
use Rattle.fbc_simulation.proofs.LivingOwners.{lives_of}
use Rattle.fbc_simulation.proofs.OpenNumbers.{committed-closed, opens-open}
use Rattle.fbc_firm_facts.proofs.SeenAlike.{seen-alike}

-- What is held stands among the versions that are kept, so it is seen there too.
see_filtered : (keep : Version → Bool) (held : ℕ → Bool) → ((version : Version) → held version.number ≡ true → keep version ≡ true) → (versions : List Version)
    → find (λ (v : Version). held v.number) (filter keep versions) ≡ find (λ (v : Version). held v.number) versions
see_filtered keep held kept [] = refl
see_filtered keep held kept (version ∷ older) = go (keep version) refl (held version.number) refl (see_filtered keep held kept older) where
  go : (b : Bool) → keep version ≡ b → (h : Bool) → held version.number ≡ h
      → find (λ (v : Version). held v.number) (filter keep older) ≡ find (λ (v : Version). held v.number) older
      → find (λ (v : Version). held v.number) (if b then version ∷ filter keep older else filter keep older)
      ≡ (if h then Some version else find (λ (v : Version). held v.number) older)
  go true is true its rest = rw its refl
  go true is false its rest = rw its rest
  go false is true its rest = absurd (clash (keep version) (kept version its) is)
  go false is false its rest = rest

module _ (at : Scene) (whole : IsWhole at) (simulated : IsSimulated at) (owner : ℕ) (t : Transaction) (open_is : at.world.transaction owner ≡ Some t) (cut : Cut) (own : HasOwnDrafts at.world owner cut) where
  abbrev w : World
  w = at.world

  abbrev living : List Transaction
  living = t ∷ []

  abbrev shown : View
  shown = view w cut

  owner_is : t.owner ≡ owner
  owner_is = (whole.order.numbered.stand owner t open_is).own

  is_one : (u : Transaction) → Contains living u → t ≡ u
  is_one u lives = go (head_or_tail t [] u lives) where
    go : (t ≡ u) ⊎ Contains [] u → t ≡ u
    go (inl same) = same
    go (inr behind) = absurd (grind (arith, behind.1))

  opens : AreOpenIn w cut living
  opens = record {
    each = λ u lives. subst (λ (x : Transaction). w.transaction x.owner ≡ Some x) (is_one u lives) (ap w.transaction owner_is ∙ open_is);
    drafts = λ u page lives its. own.own page (subst (λ o. is_draft_of o (w.draft page) ≡ true) (ap (λ (x : Transaction). x.owner) (sym (is_one u lives)) ∙ owner_is) its);
  }

  -- What the snapshot holds is open or committed in the view.
  held_stands : (number : ℕ) → is_held t.snapshot number ≡ true → is_rolled_back (transaction_of shown living number).standing ≡ false
  held_stands number held = go (whole.order.numbered.snapshots owner t number open_is held) where
    go : IsSnapshotNumber w t number → is_rolled_back (transaction_of shown living number).standing ≡ false
    go (inl same) =
        ap (λ n. is_rolled_back (transaction_of shown living n).standing) same
        ∙ ap (λ (x : Transaction). is_rolled_back x.standing) (own_transaction shown living (opens-open at whole cut own.closed living opens) t (at_head t []))
        ∙ open_stands t.standing (ap is_open (whole.order.numbered.stand owner t open_is).opened)
    go (inr committed) =
        committed_stands _
        (committed_one shown living number (committed-closed at whole cut own.closed living opens number committed.0)
        (kept-committed w whole.order.numbered.grow number cut own.closed committed.0))

  module _ (relation row : ℕ) where
    standing_is : standing_versions (meaning_with living shown) relation row ≡ filter (is_standing shown living) (chain shown relation row)
    standing_is =
        standing_versions-meaning_with shown living relation row
        (chain_begun at.shape shown (whole.order.upheld.of_shape cut own.closed) (whole.order.upheld.sound cut own.closed) relation row)

    found : open_transaction (meaning_with living shown) owner ≡ Some t
    found =
        subst (λ o. open_transaction (meaning_with living shown) o ≡ Some t) owner_is
        (open_transaction_is shown living (opens-open at whole cut own.closed living opens) t (at_head t []) (whole.apart.own owner t open_is).above
        (open-within at whole.order.upheld owner whole.order.numbered t open_is cut own))

    stands : (version : Version) → is_held t.snapshot version.number ≡ true → is_standing shown living version ≡ true
    stands version held = rw (held_stands version.number held) refl

    meant : seen_by (meaning_with living shown) owner relation row ≡ see (chain shown relation row) (is_held t.snapshot)
    meant =
        ap (option_and_then (seen (meaning_with living shown) relation row)) found
        ∙ ap (λ versions. see versions (is_held t.snapshot)) standing_is
        ∙ ap (option_and_then (λ (version : Version). version.value)) (see_filtered (is_standing shown living) (is_held t.snapshot) stands (chain shown relation row))

    pub own-view-shows : see (chain shown relation row) (is_held t.snapshot) ≡ seen_by (machine_at at) owner relation row
    own-view-shows =
        sym meant
        ∙ (simulated.meant cut living own.closed opens).means.seen owner relation row
        ∙ seen-alike living (commits_in w cut) (machine_at at) owner simulated.orderly
        (subst (λ o. is_owner_of living o ≡ true) owner_is (lives_of living t (at_head t []))) relation row
