-- A tally of one naming more.
use Rattle.std.proofs.Common.{◌≡◌, ℕ, ◌==◌, ◌&&◌, ◌||◌, Bool, true, false, cond, nat_eq, List, [], ◌∷◌, ◌++◌, find, Option, Some, None, refl, sym, subst, ap, ◌∙◌, ◌+◌, ◌<◌, length, get_or, take, append_assoc}
use Rattle.std.specs.Option.{option_or}
use Rattle.std.proofs.lemmas.List.{take_more}
use Rattle.std.proofs.lemmas.List.Folds.{find-append, list_any-append}
use Rattle.fbc_kinds.specs.declared.shapes.Shape.{Shape}
use Rattle.fbc_kinds.proofs.Tests.{same_from_test}
use Rattle.fbc_reach.specs.Content.{IsReadOf}
use Rattle.fbc_reach.specs.Roles.{kind_code}
use Rattle.fbc_reach.specs.Tally.{in_role_among, is_of_kind, role_of, role_walked, has_late_version, IsJudged, IsNamedPage, IsKept, IsTallyOf}
use Rattle.fbc_reach.specs.Walk.{naming, is_of_page}
use Rattle.fbc_reach.specs.declared.content.PageRead.{PageRead}
use Rattle.fbc_reach.specs.declared.namings.Naming.{Naming}
use Rattle.fbc_reach.specs.declared.namings.Role.{Role}
use Rattle.fbc_reach.specs.declared.tally.NamedPage.{NamedPage}
use Rattle.fbc_reach.specs.declared.tally.Tally.{Tally}
use Rattle.fbc_reach.proofs.Tallied.{own_page}

or_neither : (b : Bool) → (b || false) ≡ b
or_neither true = refl
or_neither false = refl

or_none : {X : Type 0} (o : Option X) → option_or o None ≡ o
or_none None = refl
or_none (Some x) = refl

-- A naming of another page changes nothing of a page.
module _ (done : List Naming) (n : Naming) (page : ℕ) (other : (n.page == page) ≡ false) where
  same_in_role : (test : Role → Bool) → in_role_among (done ++ n ∷ []) page test ≡ in_role_among done page test
  same_in_role test =
      list_any-append (λ (m : Naming). (m.page == page) && test m.role) done (n ∷ [])
      ∙ ap (λ own. in_role_among done page test || ((own && test n.role) || false)) other
      ∙ or_neither (in_role_among done page test)

  same_walked : (kind : ℕ) → role_walked (done ++ n ∷ []) page kind ≡ role_walked done page kind
  same_walked kind =
      ap role_of
      (find-append (is_of_kind page kind) done (n ∷ [])
      ∙ ap (λ own. option_or (find (is_of_kind page kind) done) (cond (own && kind == kind_code n.role) (Some n) None)) other
      ∙ or_none (find (is_of_kind page kind) done))

  same_first : find (is_of_page page) (done ++ n ∷ []) ≡ find (is_of_page page) done
  same_first =
      find-append (is_of_page page) done (n ∷ [])
      ∙ ap (λ own. option_or (find (is_of_page page) done) (cond own (Some n) None)) other
      ∙ or_none (find (is_of_page page) done)

  still_kept : (shape : Shape) (file : Option (List ℕ)) (next : ℕ) (o : Option NamedPage) → IsKept shape file next done page o → IsKept shape file next (done ++ n ∷ []) page o
  still_kept shape file next None none = same_first ∙ none
  still_kept shape file next (Some named) is = record {
    read = is.read;
    late_version = is.late_version;
    first = same_first ∙ is.first;
    judged = record {
      walked = is.judged.walked ∙ sym (same_walked named.read.kind);
      kind = is.judged.kind ∙ sym (same_in_role _);
      relation = is.judged.relation ∙ sym (same_in_role _);
      sequence = is.judged.sequence ∙ sym (same_in_role _);
      twice = is.judged.twice ∙ sym (same_in_role _);
      future = is.judged.future ∙ sym (same_in_role _);
    };
  }

-- A page that was judged in one role more.
abbrev pub JudgesMore : ℕ → ℕ → Role → NamedPage → NamedPage → Type 0
JudgesMore size next role old new =
    old.late_version ≡ has_late_version next old.read.content
    → (page : ℕ) (done : List Naming)
    → IsJudged size next done page old
    → IsJudged size next (done ++ naming page role ∷ []) page new

module _ (shape : Shape) (file : Option (List ℕ)) (next : ℕ) (done : List Naming) (page : ℕ) (role : Role) (old new : NamedPage)
    (judges : JudgesMore shape.size next role old new) (read : new.read ≡ old.read) (late : new.late_version ≡ old.late_version) (first : new.first ≡ old.first) where
  still_late : old.late_version ≡ has_late_version next old.read.content → new.late_version ≡ has_late_version next new.read.content
  still_late is = late ∙ is ∙ ap (λ (r : PageRead). has_late_version next r.content) (sym read)

  still_read : IsReadOf shape page file old.read → IsReadOf shape page file new.read
  still_read is = subst (IsReadOf shape page file) (sym read) is

  -- Again.
  pub named_again : IsNamedPage shape file next done page old → IsNamedPage shape file next (done ++ naming page role ∷ []) page new
  named_again is = record {
    read = still_read is.read;
    late_version = still_late is.late_version;
    first =
        find-append (is_of_page page) done (naming page role ∷ [])
        ∙ ap (λ o. option_or o (find (is_of_page page) (naming page role ∷ []))) is.first
        ∙ ap (λ r. Some (naming page r)) (sym first);
    judged = judges is.late_version page done is.judged;
  }

  -- Or for the first time.
  pub named_first : find (is_of_page page) done ≡ None → IsReadOf shape page file old.read → old.late_version ≡ has_late_version next old.read.content → old.first ≡ role
      → IsJudged shape.size next done page old → IsNamedPage shape file next (done ++ naming page role ∷ []) page new
  named_first none is late_version role_is judged = record {
    read = still_read is;
    late_version = still_late late_version;
    first =
        find-append (is_of_page page) done (naming page role ∷ [])
        ∙ ap (λ o. option_or o (find (is_of_page page) (naming page role ∷ []))) none
        ∙ ap (λ own. cond own (Some (naming page role)) None) (own_page page)
        ∙ ap (λ r. Some (naming page r)) (sym (first ∙ role_is));
    judged = judges late_version page done judged;
  }

-- A map in which that page was put.
pub tally_step : (shape : Shape) (file : Option (List ℕ)) (next : ℕ) (done : List Naming) (n : Naming) (old new : ℕ → Option NamedPage) (named : NamedPage)
    → ((q : ℕ) → new q ≡ cond (nat_eq n.page q) (Some named) (old q))
    → ((q : ℕ) → IsKept shape file next done q (old q))
    → IsNamedPage shape file next (done ++ n ∷ []) n.page named
    → (q : ℕ) → IsKept shape file next (done ++ n ∷ []) q (new q)
tally_step shape file next done n old new named puts kept is q =
    subst (IsKept shape file next (done ++ n ∷ []) q) (sym (puts q)) (go (nat_eq n.page q) refl)
  where
    go : (b : Bool) → nat_eq n.page q ≡ b → IsKept shape file next (done ++ n ∷ []) q (cond b (Some named) (old q))
    go true e =
        let P : ℕ → Type 0 = λ page. IsNamedPage shape file next (done ++ n ∷ []) page named in
        subst P (same_from_test n.page q e) is
    go false e = still_kept done n q e shape file next (old q) (kept q)

-- What a tally keeps of a page that it has, and of one that it has not.
pub kept_known : (shape : Shape) (file : Option (List ℕ)) (next : ℕ) (done : List Naming) (page : ℕ) (o : Option NamedPage) (named : NamedPage)
    → IsKept shape file next done page o → o ≡ Some named → IsNamedPage shape file next done page named
kept_known shape file next done page o named is e = subst (IsKept shape file next done page) e is

pub kept_unknown : (shape : Shape) (file : Option (List ℕ)) (next : ℕ) (done : List Naming) (page : ℕ) (o : Option NamedPage)
    → IsKept shape file next done page o → o ≡ None → find (is_of_page page) done ≡ None
kept_unknown shape file next done page o is e = subst (IsKept shape file next done page) e is

-- A tally of the namings so far, and of one more of a row.
pub note_step : (shape : Shape) (before now : Option (List ℕ)) (done row : List Naming) (i : ℕ) (d : Naming) (old new : Tally)
    → now ≡ before → i < length row
    → IsTallyOf shape before (done ++ take i row) old
    → ((all : List Naming) → IsTallyOf shape now all old → IsTallyOf shape now (all ++ get_or row i d ∷ []) new)
    → IsTallyOf shape before (done ++ take (i + 1) row) new
note_step shape before now done row i d old new file below tally notes =
    let P : Option (List ℕ) → Type 0 = λ f. IsTallyOf shape f (done ++ take i row) old → IsTallyOf shape f ((done ++ take i row) ++ get_or row i d ∷ []) new in
    let Q : List Naming → Type 0 = λ all. IsTallyOf shape before all new in
    let more : (done ++ take i row) ++ get_or row i d ∷ [] ≡ done ++ take (i + 1) row =
    append_assoc done (take i row) (get_or row i d ∷ []) ∙ ap (λ r. done ++ r) (sym (take_more row i d below))
    in
    subst Q more (subst P file (notes (done ++ take i row)) tally)
