-- A page that breaks no rule passes each test, and the other way round.
use Rattle.std.proofs.Common.{◌≡◌, ℕ, Bool, true, false, List, Option, Some, None, not, refl}
use Rattle.fbc_kinds.specs.declared.shapes.Shape.{Shape}
use Rattle.fbc_kinds.specs.declared.rules.Rule.{Rule}
use Rattle.fbc_kinds.specs.Head.{or_else}
use Rattle.fbc_kinds.specs.Spelling.{first_broken_rule}
use Rattle.fbc_kinds.specs.View.{View, is_taken}
use Rattle.fbc_reach.specs.Roles.{has_other_relation, has_other_sequence}
use Rattle.fbc_validator.specs.Damage.{broken_if, in_some_role, has_other_kind, is_named_twice, breaks_future, broken_page}
use Rattle.fbc_links.specs.Links.{breaks_chain, breaks_below}

pub record BreaksNone (shape : Shape) (view : View) (page : ℕ) (bytes : List ℕ) : Type 0 where
  pub own_kind : has_other_kind view page bytes ≡ false
  pub unbroken : first_broken_rule shape page bytes ≡ None
  pub own_relation : in_some_role view page (λ named. has_other_relation named (view page)) ≡ false
  pub own_sequence : in_some_role view page (λ named. has_other_sequence named (view page)) ≡ false
  pub taken : not (is_taken view page) ≡ false
  pub once : is_named_twice view page ≡ false
  pub chained : breaks_chain view page ≡ false
  pub past : breaks_future view page ≡ false
  pub committed : breaks_below view page ≡ false

neither_first : (a b : Option Rule) → or_else a b ≡ None → a ≡ None
neither_first None b e = refl
neither_first (Some r) b e = cc

neither_second : (a b : Option Rule) → or_else a b ≡ None → b ≡ None
neither_second None b e = e
neither_second (Some r) b e = cc

passed : (b : Bool) (r : Rule) → broken_if b r ≡ None → b ≡ false
passed false r e = refl
passed true r e = cc

first_passed : (b : Bool) (r : Rule) (rest : Option Rule) → or_else (broken_if b r) rest ≡ None → b ≡ false
first_passed b r rest e = passed b r (neither_first (broken_if b r) rest e)

others : (b : Bool) (r : Rule) (rest : Option Rule) → or_else (broken_if b r) rest ≡ None → rest ≡ None
others b r rest e = neither_second (broken_if b r) rest e

nothing : (a b : Option Rule) → a ≡ None → b ≡ None → or_else a b ≡ None
nothing None b e f = f
nothing (Some r) b e f = cc

no_rule : (b : Bool) (r : Rule) → b ≡ false → broken_if b r ≡ None
no_rule false r e = refl
no_rule true r e = cc

then_none : (b : Bool) (r : Rule) (rest : Option Rule) → b ≡ false → rest ≡ None → or_else (broken_if b r) rest ≡ None
then_none b r rest e f = nothing (broken_if b r) rest (no_rule b r e) f

module _ (shape : Shape) (view : View) (page : ℕ) (bytes : List ℕ) where
  pub tests_passed : broken_page shape view page bytes ≡ None → BreaksNone shape view page bytes
  tests_passed none =
      let alone = neither_first _ _ none in
      let in_place = neither_second _ _ none in
      let a = others _ _ _ in_place in
      let b = others _ _ _ a in
      let c = others _ _ _ b in
      let d = others _ _ _ c in
      let e = others _ _ _ d in
      let f = others _ _ _ e in
      record {
        own_kind = first_passed _ _ _ alone;
        unbroken = others _ _ _ alone;
        own_relation = first_passed _ _ _ in_place;
        own_sequence = first_passed _ _ _ a;
        taken = first_passed _ _ _ b;
        once = first_passed _ _ _ c;
        chained = first_passed _ _ _ d;
        past = first_passed _ _ _ e;
        committed = passed _ _ f;
      }

  pub no_rule_broken : BreaksNone shape view page bytes → broken_page shape view page bytes ≡ None
  no_rule_broken p =
      nothing _ _ (then_none _ _ _ p.own_kind p.unbroken)
      (then_none _ _ _ p.own_relation
      (then_none _ _ _ p.own_sequence
      (then_none _ _ _ p.taken
      (then_none _ _ _ p.once
      (then_none _ _ _ p.chained
      (then_none _ _ _ p.past
      (no_rule _ _ p.committed)))))))
