-- What an owner does that ends rolled back is not read.
use Rattle.std.proofs.Common.{◌≡◌, ◌∙◌, ◌++◌, ℕ, Bool, true, false, ◌==◌, ◌&&◌, List, [], ◌∷◌, refl, sym, ap, subst, map, if◌then◌else◌}
use Rattle.std.specs.Prelude.{Option, Some, None, filter_map, is_some, slice_get}
use Rattle.std.specs.List.{cons_option}
use Rattle.std.specs.Option.{option_and_then}
use Rattle.std.proofs.lemmas.List.{map-append}
use Rattle.fbc_kinds.specs.declared.snapshots.Standing.TheVariants as standing
use Rattle.fbc_kinds.specs.declared.snapshots.Transaction.{Transaction}
use Rattle.fbc_kinds.specs.Chain.{Version}
use Rattle.fbc_kinds.specs.Machine.{Machine, Made, after_begin, after_change, begun, is_done, is_open, is_rolled_back, numbered, open_place, open_transaction, standing_versions, with_version}
use Rattle.fbc_runs.specs.Ended.{end_by, ended_by, is_owner_of, settled_by}
use Rattle.fbc_runs.specs.Reading.{ReadsAs}
use Rattle.fbc_runs.proofs.Added.{IsMaker, adds_nothing, maker_of}
use Rattle.fbc_runs.proofs.EndedOnes.{other_ends}
use Rattle.fbc_runs.proofs.Places.{map_at}
use Rattle.fbc_runs.proofs.Pushed.{reads_longer}
use Rattle.fbc_runs.proofs.RowReads.{reads_in_place}

module _ (living : List Transaction) (commits : ℕ → Bool) (who : ℕ) (none : is_owner_of living who ≡ false) (no_commit : commits who ≡ false) where
  -- A version that the owner's transaction made is rolled back.
  gone : (value : Option (List ℕ)) (t : Transaction) → is_open t.standing ≡ true → t.owner ≡ who → numbered value (ended_by living commits t) ≡ None
  gone value t opened same =
      ap (numbered value) (other_ends living commits t opened (ap (is_owner_of living) same ∙ none))
      ∙ ap (λ b. if is_rolled_back (end_by b) then None else Some (let v : Version = record { number = t.number; value = value } in v)) (ap commits same ∙ no_commit)

  module _ (a m : Machine) (reads : ReadsAs a (settled_by living commits m)) where
    abbrev stands : Made → Option Version
    stands v = option_and_then (numbered v.value) (slice_get (map (ended_by living commits) m.transactions) v.maker)

    pub put_unread : (relation row : ℕ) (value : Option (List ℕ)) → ReadsAs a (settled_by living commits (with_version m (open_place m who) relation row value))
    put_unread relation row value = go (open_transaction m who) refl
      where
        unread : (t : Transaction) (found : IsMaker m who t) → ReadsAs a (settled_by living commits (with_version m (Some found.maker) relation row value))
        unread t found =
            reads_in_place a (settled_by living commits m) a (settled_by living commits (with_version m (Some found.maker) relation row value)) refl refl
            (λ r k. refl) (λ r k. same ((relation == r) && (row == k)) (m.rows r k)) reads
          where
            nothing : stands (record { maker = found.maker; value = value }) ≡ None
            nothing =
                ap (option_and_then (numbered value)) (map_at (ended_by living commits) m.transactions found.maker t found.at)
                ∙ gone value t found.opened found.owner

            same : (b : Bool) (rows : List Made) → filter_map stands (if b then record { maker = found.maker; value = value } ∷ rows else rows) ≡ filter_map stands rows
            same true rows = ap (λ o. cons_option o (filter_map stands rows)) nothing
            same false rows = refl

        go : (o : Option Transaction) → open_transaction m who ≡ o → ReadsAs a (settled_by living commits (with_version m (open_place m who) relation row value))
        go None is = rw (adds_nothing m who relation row value is) reads
        go (Some t) is =
            let found = maker_of m who t is in
            subst (λ o. ReadsAs a (settled_by living commits (with_version m o relation row value))) (sym found.is) (unread t found)

    pub change_unread : (relation row : ℕ) (value : Option (List ℕ)) → ReadsAs a (settled_by living commits (after_change m who relation row value (open_transaction m who)))
    change_unread relation row value = go (open_transaction m who)
      where
        where_done : (b : Bool) → ReadsAs a (settled_by living commits (if b then with_version m (open_place m who) relation row value else m))
        where_done true = put_unread relation row value
        where_done false = reads

        go : (o : Option Transaction) → ReadsAs a (settled_by living commits (after_change m who relation row value o))
        go None = reads
        go (Some t) = where_done (is_done t.snapshot (standing_versions m relation row))

    -- A transaction that begins is rolled back.
    module _ (number : ℕ) where
      abbrev end : Transaction
      end = record (begun m who number) { standing = standing.RolledBack }

      at_end : ended_by living commits (begun m who number) ≡ end
      at_end = other_ends living commits (begun m who number) refl none ∙ ap (λ b. let t : Transaction = record (begun m who number) { standing = end_by b } in t) no_commit

      all : map (ended_by living commits) (m.transactions ++ begun m who number ∷ []) ≡ map (ended_by living commits) m.transactions ++ end ∷ []
      all = map-append (ended_by living commits) m.transactions (begun m who number ∷ []) ∙ ap (λ t. map (ended_by living commits) m.transactions ++ t ∷ []) at_end

      pub begin_unread : ReadsAs a (settled_by living commits (after_begin m who number))
      begin_unread = go (is_some (open_transaction m who))
        where
          go : (b : Bool) → ReadsAs a (settled_by living commits (if b then m else record { rows = m.rows; transactions = m.transactions ++ begun m who number ∷ [] }))
          go true = reads
          go false = subst (λ ts. let n : Machine = record { rows = m.rows; transactions = ts } in ReadsAs a n) (sym all) (reads_longer a (settled_by living commits m) end refl reads)
