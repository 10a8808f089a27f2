-- The ranks of pages before and after an edit of the header: they rise, and change only for the page that is named.
use Rattle.std.proofs.Common.{◌≡◌, ◌≢◌, ◌∙◌, ap, ℕ, zero, suc, ◌+◌, ◌≤◌, Bool, true, false, not, cond, ◌==◌, ◌||◌, nat_lt, List, [], ◌∷◌, ◌++◌, length, Option, Some, None, refl, sym, arith}
use Rattle.std.specs.Prelude.{position, slice_get, slice_set}
use Rattle.std.specs.List.{list_any, position_or_len}
use Rattle.std.proofs.lemmas.Bool.Decides.{nat_tests}
use Rattle.std.proofs.lemmas.List.Folds.{list_any-append, position_or_len_push}
use Rattle.std.proofs.lemmas.List.Sums.{prefix_len-le-length}
use Rattle.std.proofs.Common.{length-append}
use Rattle.fbc_kinds.specs.declared.edits.Edit.{Edit}
use Rattle.fbc_kinds.specs.declared.edits.Edit.TheVariants as edit
use Rattle.fbc_kinds.specs.declared.pages.Header.{Header}
use Rattle.fbc_kinds.specs.declared.pages.Relation.{Relation}
use Rattle.fbc_legal.specs.Ranks.{is_pointer_of, named_rank, ranked}
use Rattle.fbc_legal.proofs.RankOrder.{IsAtMost, at_most-same, at_most-self}

-- The first place that passes stays where one more comes behind.
abbrev first_place : Option ℕ → Bool → ℕ → Option ℕ
first_place (Some place) last count = Some place
first_place None true count = Some count
first_place None false count = None

place_push : (a b count longer : ℕ) (last : Bool) → a ≤ count → longer ≡ count + 1 → b ≡ cond (a == count) (count + cond last 0 1) a
    → cond (nat_lt b longer) (Some b) None ≡ first_place (cond (nat_lt a count) (Some a) None) last count
place_push a b count longer true within more is = grind (arith, nat_tests, within, more, is)
place_push a b count longer false within more is = grind (arith, nat_tests, within, more, is)

position-push : (p : ℕ → Bool) (xs : List ℕ) (y : ℕ) → position p (xs ++ y ∷ []) ≡ first_place (position p xs) (p y) (length xs)
position-push p xs y =
    place_push (position_or_len p xs) (position_or_len p (xs ++ y ∷ [])) (length xs) (length (xs ++ y ∷ [])) (p y)
    (prefix_len-le-length (λ x. not (p x)) xs) (length-append xs (y ∷ [])) (position_or_len_push p xs y)

-- A test of some element after one got a further chance.
any_set : {X : Type 0} (p : X → Bool) (xs : List X) (i : ℕ) (x y : X) (more : Bool) → slice_get xs i ≡ Some x → p y ≡ (p x || more)
    → list_any p (slice_set xs i y) ≡ (list_any p xs || more)
any_set p [] i x y more is passes = absurd cc
any_set p (z ∷ xs) zero x y more is passes = grind (arith, is, passes)
any_set p (z ∷ xs) (suc i) x y more is passes = grind (arith, any_set p xs i x y more is passes)

-- The rank of a page that may become a tip, and of one that may become a pointer page.
ranked_tip : (place : Option ℕ) (last : Bool) (count : ℕ) (points : Bool) (page : ℕ) → IsAtMost (ranked place points page) (ranked (first_place place last count) points page)
ranked_tip (Some place) last count points page = at_most-self _
ranked_tip None true count true page = grind (arith)
ranked_tip None true count false page = grind (arith)
ranked_tip None false count points page = at_most-self _

ranked_tip-other : (place : Option ℕ) (last : Bool) (count : ℕ) (points : Bool) (page : ℕ) → last ≡ false → ranked place points page ≡ ranked (first_place place last count) points page
ranked_tip-other (Some place) last count points page other = refl
ranked_tip-other None true count points page other = absurd cc
ranked_tip-other None false count points page other = refl

ranked_pointer : (place : Option ℕ) (points more : Bool) (page : ℕ) → IsAtMost (ranked place points page) (ranked place (points || more) page)
ranked_pointer (Some place) points more page = at_most-self _
ranked_pointer None true more page = at_most-self _
ranked_pointer None false true page = grind (arith)
ranked_pointer None false false page = at_most-self _

ranked_pointer-other : (place : Option ℕ) (points more : Bool) (page : ℕ) → more ≡ false → ranked place points page ≡ ranked place (points || more) page
ranked_pointer-other place true more page other = refl
ranked_pointer-other place false true page other = absurd cc
ranked_pointer-other place false false page other = refl

-- The edit is no format, and names another page than this, if it names one.
abbrev pub is_format : Edit → Bool
is_format (edit.Format page_kind page relation sequence) = true
is_format _ = false

abbrev pub NamesAnother : Edit → ℕ → Type 0
NamesAnother (edit.AddTip number) page = number ≢ page
NamesAnother (edit.AddPointer relation number) page = number ≢ page
NamesAnother _ page = Unit {0}

-- The rank rises, and stays where another page is named.
pub record Rises (e : Edit) (before after : Option Header) (page : ℕ) : Type 0 where
  pub rises : IsAtMost (named_rank before page) (named_rank after page)
  pub stays : NamesAnother e page → named_rank before page ≡ named_rank after page

pub rises-same : (e : Edit) (before after : Option Header) (page : ℕ) → named_rank before page ≡ named_rank after page → Rises e before after page
rises-same e before after page same = record { rises = at_most-same _ _ same; stays = λ _. same }

differs : (a b : ℕ) → a ≢ b → a == b ≡ false
differs a b other = grind (arith, nat_tests, other)

module _ (header : Header) (page : ℕ) where
  abbrev place : Option ℕ
  place = position (λ number. number == page) header.tips

  abbrev points : Bool
  points = list_any (is_pointer_of page) header.relations

  pub tip_rises : (number : ℕ) → Rises (edit.AddTip number) (Some header) (Some (record header { tips = header.tips ++ number ∷ [] })) page
  tip_rises number =
      let is : ranked (position (λ number. number == page) (header.tips ++ number ∷ [])) points page ≡ ranked (first_place place (number == page) (length header.tips)) points page =
      ap (λ o. ranked o points page) (position-push (λ number. number == page) header.tips number) in
      record {
        rises = rw is (ranked_tip place (number == page) (length header.tips) points page);
        stays = λ other. ranked_tip-other place (number == page) (length header.tips) points page (differs number page other) ∙ sym is;
      }

  pub pointer_rises : (relation number : ℕ) (entry : Relation) → slice_get header.relations relation ≡ Some entry
      → Rises (edit.AddPointer relation number) (Some header) (Some (record header { relations = slice_set header.relations relation (record entry { pointers = entry.pointers ++ number ∷ [] }) })) page
  pointer_rises relation number entry stands =
      let longer : is_pointer_of page (record entry { pointers = entry.pointers ++ number ∷ [] }) ≡ (is_pointer_of page entry || (number == page)) =
      list_any-append (λ n. n == page) entry.pointers (number ∷ []) ∙ grind (arith) in
      let is : ranked place (list_any (is_pointer_of page) (slice_set header.relations relation (record entry { pointers = entry.pointers ++ number ∷ [] }))) page ≡ ranked place (points || (number == page)) page =
      ap (λ b. ranked place b page) (any_set (is_pointer_of page) header.relations relation entry (record entry { pointers = entry.pointers ++ number ∷ [] }) (number == page) stands longer) in
      record {
        rises = rw is (ranked_pointer place points (number == page) page);
        stays = λ other. ranked_pointer-other place points (number == page) page (differs number page other) ∙ sym is;
      }
