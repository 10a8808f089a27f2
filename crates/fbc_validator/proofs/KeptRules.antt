-- The first rule that a page breaks by what is kept of it is the one of the definition.
use Rattle.std.proofs.Common.{◌≡◌, ℕ, ◌==◌, Bool, not, List, Some, refl, sym, ap, ◌∙◌}
use Rattle.std.specs.Option.{option_map_or}
use Rattle.fbc_kinds.specs.declared.pages.Header.{Header}
use Rattle.fbc_kinds.specs.declared.rules.Rule.TheVariants as rule
use Rattle.fbc_kinds.specs.declared.shapes.Shape.{Shape}
use Rattle.fbc_kinds.specs.File.{page_bytes, IsViewOf}
use Rattle.fbc_kinds.specs.Head.{or_else}
use Rattle.fbc_kinds.specs.View.{View, header_of, size_of, next_of}
use Rattle.fbc_links.specs.declared.chains.Chains.{Chains}
use Rattle.fbc_reach.specs.declared.namings.Role.{Role}
use Rattle.fbc_reach.specs.declared.tally.NamedPage.{NamedPage}
use Rattle.fbc_reach.specs.declared.tally.Tally.{Tally}
use Rattle.fbc_links.specs.Chains.{AreChainsOf}
use Rattle.fbc_reach.specs.Content.{content_of, differs_in_relation, differs_in_sequence, holds_late}
use Rattle.fbc_validator.specs.Damage.{broken_if, in_some_role, has_other_kind, is_named_twice, breaks_future, broken_alone, broken_in_place, broken_page}
use Rattle.fbc_reach.specs.Roles.{is_late_in, has_other_relation, has_other_sequence, kind_code}
use Rattle.fbc_validator.specs.Damages.{broken_alone_in, broken_in_place_in}
use Rattle.fbc_reach.specs.Tally.{IsNamedPage, IsTallyOf}
use Rattle.fbc_reach.specs.Walk.{is_in_role, namings}
use Rattle.fbc_reach.proofs.Kept.{kept_future, kept_relation, kept_sequence}
use Rattle.fbc_validator.proofs.TakenPages.{taken_same}
use Rattle.fbc_reach.proofs.ShownPages.{header_size}

-- Roles that pass one test pass the same.
same_test : (view : View) (page : ℕ) (f g : Role → Bool) → ((r : Role) → f r ≡ g r) → in_some_role view page f ≡ in_some_role view page g
same_test view page f g same = ap (in_some_role view page) (λ i r. same r i)

module _ (shape : Shape) (bytes : List ℕ) (view : View) (shown : IsViewOf shape bytes view) (header : Header) (is : header_of view ≡ Some header)
    (tally : Tally) (next : tally.next ≡ header.next) (kept : IsTallyOf shape (Some bytes) (namings view) tally) where
  size_is : size_of view ≡ shape.size
  size_is = header_size shape bytes view shown header is

  next_is : next_of view ≡ tally.next
  next_is = ap (λ o. option_map_or (λ (h : Header). h.next) o 0) is ∙ sym next

  module _ (chains : Chains) (are : AreChainsOf view chains) (page : ℕ) (named : NamedPage) (k : IsNamedPage shape (Some bytes) tally.next (namings view) page named) where
    content_is : named.read.content ≡ content_of (view page)
    content_is = k.read.shown (view page) (shown page)

    alone : broken_alone_in named ≡ broken_alone shape view page (page_bytes shape.size bytes page)
    alone =
        let other : named.other_kind ≡ has_other_kind view page (page_bytes shape.size bytes page) =
        k.judged.kind ∙ ap (λ code. in_some_role view page (λ r. not (code == kind_code r))) k.read.kind_is
        in
        ap (λ b. or_else (broken_if b rule.Kind) named.read.rule) other
        ∙ ap (or_else (broken_if (has_other_kind view page (page_bytes shape.size bytes page)) rule.Kind)) k.read.rule_is

    relation : named.other_relation ≡ in_some_role view page (λ r. has_other_relation r (view page))
    relation =
        k.judged.relation
        ∙ ap (λ c. in_some_role view page (λ r. differs_in_relation r c)) content_is
        ∙ same_test view page _ _ (λ r. kept_relation r (view page))

    sequence : named.other_sequence ≡ in_some_role view page (λ r. has_other_sequence r (view page))
    sequence =
        k.judged.sequence
        ∙ ap (λ c. in_some_role view page (λ r. differs_in_sequence r c)) content_is
        ∙ same_test view page _ _ (λ r. kept_sequence r (view page))

    twice : named.other_role ≡ is_named_twice view page
    twice = k.judged.twice ∙ ap (λ first. in_some_role view page (λ r. not (is_in_role r first))) (sym k.first)

    future : named.late ≡ breaks_future view page
    future =
        k.judged.future
        ∙ ap (λ c. in_some_role view page (λ r. holds_late shape.size tally.next r c)) content_is
        ∙ same_test view page _ _ (λ r. kept_future shape.size tally.next r (view page))
        ∙ ap (λ size. in_some_role view page (λ r. is_late_in size tally.next r (view page))) (sym size_is)
        ∙ ap (λ n. in_some_role view page (λ r. is_late_in (size_of view) n r (view page))) (sym next_is)

    in_place : broken_in_place_in header tally chains page named ≡ broken_in_place view page
    in_place = rw (relation, sequence, taken_same shape bytes view shown header is tally kept page, twice, are.broken page, future, are.below page) refl

    pub rule_is : or_else (broken_alone_in named) (broken_in_place_in header tally chains page named) ≡ broken_page shape view page (page_bytes shape.size bytes page)
    rule_is = ap (λ o. or_else o (broken_in_place_in header tally chains page named)) alone ∙ ap (or_else (broken_alone shape view page (page_bytes shape.size bytes page))) in_place
