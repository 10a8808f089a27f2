-- What an edit adds to the pairs.
use Rattle.std.proofs.Common.{◌≡◌, ◌≤◌, ◌<◌, ◌+◌, ◌-◌, ◌∙◌, inl, inr, ℕ, suc, List, [], ◌∷◌, ◌++◌, drop, length, Option, Some, None, sym, ap, subst, refl, arith}
use Rattle.std.proofs.lemmas.List.{append-nil, append_assoc, length-append, length-map}
use Rattle.std.proofs.Math.Seq.{drop-append_seam}
use Rattle.fbc_kinds.specs.declared.edges.Edge.{Edge}
use Rattle.fbc_kinds.specs.declared.edits.Edit.{Edit}
use Rattle.fbc_buffers.specs.declared.buffers.Buffer.{Buffer}
use Rattle.fbc_precedence.specs.Precedence.{pair_of}
use Rattle.fbc_cache.specs.declared.edits.Edited.{Edited}
use Rattle.fbc_cache.specs.Cache.{CacheState}
use Rattle.fbc_cache.specs.Edits.{Edits, Relates, after_edit, answer_to_edit}
use Rattle.fbc_cache.specs.declared.edits.Edited.TheVariants as edited
use Rattle.fbc_world.specs.declared.events.LocalEvent.{LocalEvent}
use Rattle.fbc_world.specs.declared.events.LocalEvent.TheVariants as local
use Rattle.fbc_desk.specs.Calls.{Halts, Makes, MayMake, befores}
use Rattle.fbc_desk.specs.Desk.{DeskState, with_cache}
use Rattle.fbc_desk.specs.Grounds.{deeds_after, own_after}

-- The pairs afterwards are those before with some more, no more than there are high pages.
pub record Extends (before after : List Edge) (highs : ℕ) : Type 0 where
  pub new_pairs : List Edge
  pub pairs : after ≡ before ++ new_pairs
  pub few : length new_pairs ≤ highs

one-more : (before : List Edge) (pair : Edge) (after : List Edge) (highs : ℕ) → Extends (before ++ pair ∷ []) after highs → Extends before after (suc highs)
one-more before pair after highs is = record {
  new_pairs = pair ∷ is.new_pairs;
  pairs = is.pairs ∙ append_assoc before (pair ∷ []) is.new_pairs;
  few = omega (arith, is.few);
}

no-more : (before after : List Edge) (highs : ℕ) → Extends before after highs → Extends before after (suc highs)
no-more before after highs is = record { new_pairs = is.new_pairs; pairs = is.pairs; few = omega (arith, is.few) }

same : (before after : List Edge) (highs : ℕ) → after ≡ before → Extends before after highs
same before after highs is = record { new_pairs = []; pairs = is ∙ sym (append-nil before); few = omega arith }

relates-extends : (held : List Buffer) (page : ℕ) (before : List Edge) (highs : List ℕ) (after : List Edge) (first : Option ℕ) → Relates held page before highs after first → Extends before after (length highs)
relates-extends held page before [] after first is = same before after 0 is.0
relates-extends held page before (high ∷ highs) after first (inl past) = no-more before after (length highs) (relates-extends held page before highs after first past.1)
relates-extends held page before (high ∷ highs) after first (inr (needed, inl new)) =
    one-more before (pair_of high page) after (length highs) (relates-extends held page (before ++ pair_of high page ∷ []) highs after first new.1)
relates-extends held page before (high ∷ highs) after first (inr (needed, inr (inl old))) = no-more before after (length highs) (relates-extends held page before highs after first old.1)
relates-extends held page before (high ∷ highs) after first (inr (needed, inr (inr stops))) = same before after (length (high ∷ highs)) stops.1

pairs-after : (c : CacheState) (page : ℕ) (edit : Edit) (pairs : List Edge) (first : Option ℕ) → (after_edit c page edit pairs first).pairs ≡ pairs
pairs-after c page edit pairs None = refl
pairs-after c page edit pairs (Some high) = refl

pub edits-extend : (before after : CacheState) (page : ℕ) (edit : Edit) (highs : List ℕ) (answer : Edited) → Edits before after page edit highs answer → Extends before.pairs after.pairs (length highs)
edits-extend before after page edit highs answer is =
    let all = relates-extends before.held page before.pairs highs is.pairs is.first is.relates in
    let same-pairs : after.pairs ≡ is.pairs = ap (λ (c : CacheState). c.pairs) is.is_after ∙ pairs-after before page edit is.pairs is.first in
    record { new_pairs = all.new_pairs; pairs = same-pairs ∙ all.pairs; few = all.few }

module _ (before after : List Edge) (highs : ℕ) (is : Extends before after highs) where
  -- The pairs behind the ones before are the new ones.
  pub behind : drop (length before) after ≡ is.new_pairs
  behind = ap (drop (length before)) is.pairs ∙ drop-append_seam before is.new_pairs

  pub longer : length after ≡ length before + length is.new_pairs
  longer = ap length is.pairs ∙ length-append before is.new_pairs

-- An edit that may be made, in the cache, before the desk takes note of it.
module _ (d : DeskState) (page : ℕ) (edit : Edit) (highs : List ℕ) (may : MayMake d page edit highs) (cache : CacheState) (known : ℕ) (is_known : known ≡ length d.cache.pairs) where
  -- The events with those of the new pairs.
  abbrev pub with_pairs : List LocalEvent
  with_pairs = d.unsent ++ befores (drop known cache.pairs)

  -- The desk when the new pairs are events.
  abbrev pub paired : DeskState
  paired = record d { cache = cache; unsent = with_pairs }

  -- The desk with an edit, where it was this before it.
  abbrev pub finished : DeskState → DeskState
  finished x = record (with_cache x x.cache) {
    unsent = x.unsent ++ local.Edit page edit ∷ [];
    deeds = deeds_after page edit x.deeds;
    own = own_after edit x.own;
  }

  module _ (answer : Edited) (edits : Edits d.cache cache page edit highs answer) where
    extends : Extends d.cache.pairs cache.pairs (length highs)
    extends = edits-extend d.cache cache page edit highs answer edits

    is-longer : length cache.pairs ≡ length d.cache.pairs + length extends.new_pairs
    is-longer = longer d.cache.pairs cache.pairs (length highs) extends

    pub known-few : known ≤ length cache.pairs
    known-few = omega (arith, is-longer, is_known)

    pub has-place : length d.unsent + (length cache.pairs - known) ≤ 64
    has-place = omega (arith, is-longer, is_known, extends.few, may.place.events)

    new-is : drop known cache.pairs ≡ extends.new_pairs
    new-is = ap (λ (n : ℕ). drop n cache.pairs) is_known ∙ behind d.cache.pairs cache.pairs (length highs) extends

    befores-length : (pairs : List Edge) → length (befores pairs) ≡ length pairs
    befores-length pairs = length-map pairs (λ (pair : Edge). local.Before pair.high pair.low)

    pairs-length : length with_pairs ≡ length d.unsent + length extends.new_pairs
    pairs-length =
        let both = length-append d.unsent (befores (drop known cache.pairs)) in
        let each = befores-length (drop known cache.pairs) in
        let same-new = ap (λ (new : List Edge). length new) new-is in
        omega (arith, both, each, same-new)

    pub has-room : length with_pairs < 64
    has-room = omega (arith, pairs-length, extends.few, may.place.events)

    pub makes-edit : (x after : DeskState) → answer ≡ edited.Done → x ≡ paired → after ≡ finished x → Makes d page edit highs after
    makes-edit x after done is finishes = record {
      may = may;
      cache = cache;
      edits = subst (Edits d.cache cache page edit highs) done edits;
      new_pairs = extends.new_pairs;
      pairs = extends.pairs;
      is_after = finishes ∙ ap finished is ∙ ap (λ (new : List Edge). finished (record d { cache = cache; unsent = d.unsent ++ befores new })) new-is;
    }

    pub halts-edit : (high : ℕ) (x : DeskState) → answer ≡ edited.WriteFirst page high → x ≡ paired → Halts d page edit highs high x
    halts-edit high x first is = record {
      may = may;
      cache = cache;
      edits = subst (Edits d.cache cache page edit highs) first edits;
      new_pairs = extends.new_pairs;
      pairs = extends.pairs;
      is_after = is ∙ ap (λ (new : List Edge). record d { cache = cache; unsent = d.unsent ++ befores new }) new-is;
    }

    -- The page that is to be written first is the edited one.
    pub first-page : (written high : ℕ) → answer ≡ edited.WriteFirst written high → written ≡ page
    first-page written high first = of-first edits.first (sym first ∙ edits.answered) where
      of-first : (f : Option ℕ) → edited.WriteFirst written high ≡ answer_to_edit page f → written ≡ page
      of-first None wrong = absurd (cc)
      of-first (Some other) same-answer = cc
