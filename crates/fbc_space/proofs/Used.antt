-- Where nothing but the order of use is another, every page is as it was.
use Rattle.std.proofs.Common.{◌≡◌, ◌∙◌, ◌<◌, ℕ, List, inl, inr, refl, sym, ap, subst, arith}
use Rattle.std.proofs.lemmas.Bool.Decides.{nat_tests}
use Rattle.std.specs.Option.{option_and_then}
use Rattle.fbc_kinds.specs.declared.pages.Header.{Header}
use Rattle.fbc_kinds.specs.declared.rules.Rule.TheVariants as rule
use Rattle.fbc_kinds.specs.declared.shapes.Shape.{Shape}
use Rattle.fbc_buffers.specs.declared.buffers.Buffer.{Buffer}
use Rattle.fbc_buffers.proofs.Found.{buffer_of-touched}
use Rattle.fbc_cache.specs.declared.needs.Need.{Need}
use Rattle.fbc_cache.specs.declared.readers.Place.{Place}
use Rattle.fbc_cache.specs.Cache.{copy_in}
use Rattle.fbc_cache.specs.Readers.{header_number, place_in}
use Rattle.fbc_cache.specs.Wants.{IsHere}
use Rattle.fbc_desk.specs.declared.holding.Held.{Held}
use Rattle.fbc_desk.specs.declared.holding.Held.TheVariants as holds
use Rattle.fbc_desk.specs.Calls.{after_look}
use Rattle.fbc_desk.specs.Desk.{DeskState}
use Rattle.fbc_desk.specs.Holds.{Holds, HoldsAs, after_looking}
use Rattle.fbc_desk.specs.Roles.{misplaced}
use Rattle.fbc_space.specs.Finding.{IsOnlyUsed}

pub used-none : (d : DeskState) → IsOnlyUsed d d
used-none d = record { rest = refl; buffers = λ page. refl }

used-look : (d : DeskState) (page : ℕ) → IsOnlyUsed d (after_look d page)
used-look d page = record { rest = refl; buffers = buffer_of-touched page d.cache.held }

used-looking : (d : DeskState) (need : Need) (found : Held) → IsOnlyUsed d (after_looking d need found)
used-looking d need holds.Here = used-look d need.page
used-looking d need (holds.Miss missed) = used-none d
used-looking d need (holds.Damaged page rule.Taken) = used-none d
used-looking d need (holds.Damaged page _) = used-look d need.page

-- A page that is looked at is used.
pub used-by : (d after : DeskState) (need : Need) (found : Held) → after ≡ after_looking d need found → IsOnlyUsed d after
used-by d after need found is = subst (λ e. IsOnlyUsed d e) (sym is) (used-looking d need found)

abbrev with_held : DeskState → List Buffer → DeskState
with_held d held = record d { cache = record d.cache { held = held } }

pub used-both : (a b c : DeskState) → IsOnlyUsed a b → IsOnlyUsed b c → IsOnlyUsed a c
used-both a b c first second = record {
  rest = second.rest ∙ ap (λ d. with_held d c.cache.held) first.rest;
  buffers = λ page. second.buffers page ∙ first.buffers page;
}

module _ (a b : DeskState) (same : IsOnlyUsed a b) where
  pub shape-same : b.cache.shape ≡ a.cache.shape
  shape-same = ap (λ d. d.cache.shape) same.rest

  pub copy-same : (page : ℕ) → copy_in b.cache.held page ≡ copy_in a.cache.held page
  copy-same page = ap (λ found. option_and_then (λ (buffer : Buffer). buffer.copy) found) (same.buffers page)

  here-same : (need : Need) → IsHere b.cache need → IsHere a.cache need
  here-same need here = record { buffer = here.buffer; found = sym (same.buffers need.page) ∙ here.found; granted = here.granted; level = here.level; valid = here.valid }

  here-then : (need : Need) → IsHere a.cache need → IsHere b.cache need
  here-then need here = record { buffer = here.buffer; found = same.buffers need.page ∙ here.found; granted = here.granted; level = here.level; valid = here.valid }

  holds-same : (need : Need) (found : Held) → Holds b need found → Holds a need found
  holds-same need holds.Here is = (subst (λ (s : Shape). need.page < s.limit) shape-same is.0, here-same need is.1)
  holds-same need (holds.Miss missed) is = (is.0, subst (λ (s : Shape). need.page < s.limit) shape-same is.1, λ here. is.2 (here-then need here))
  holds-same need (holds.Damaged page broken) is = grind (arith, nat_tests, shape-same, is)

  pub as-same : (need : Need) (due : Place) (found : Held) → HoldsAs b need due found → HoldsAs a need due found
  as-same need due holds.Here is = (holds-same need holds.Here is.0, ap (λ copy. misplaced (place_in copy) due) (sym (copy-same need.page)) ∙ is.1)
  as-same need due (holds.Miss missed) is = holds-same need (holds.Miss missed) is
  as-same need due (holds.Damaged page broken) (inl is) = inl (holds-same need (holds.Damaged page broken) is)
  as-same need due (holds.Damaged page broken) (inr is) =
      inr (holds-same need holds.Here is.0, is.1, ap (λ copy. misplaced (place_in copy) due) (sym (copy-same need.page)) ∙ is.2)

  pub header-same : (number : Header → ℕ) → header_number number b.cache ≡ header_number number a.cache
  header-same number = grind (arith, copy-same 0)
