-- Which of the free pages under a page inventory is chosen.
use Rattle.std.proofs.Common.{◌≡◌, ◌∙◌, ◌<◌, ◌≤◌, ◌+◌, ◌-◌, ◌*◌, ◌/◌, ◌==◌, ◌&&◌, ℕ, Bool, true, false, not, nat_le, nat_lt, List, [], Option, Some, None, min, sym, ap, inl, inr, subst, arith}
use Rattle.std.proofs.lemmas.Bool.Decides.{nat_tests}
use Rattle.std.proofs.lemmas.Nat.{div-mul-add}
use Rattle.std.proofs.Math.Nat.{div-mul-le_self, lt-div-mul-add}
use Rattle.fbc_kinds.specs.Limits.{inventory_bits}
use Rattle.fbc_kinds.specs.View.{inventory_page}
use Rattle.fbc_cache.specs.Cache.{CacheState}
use Rattle.fbc_cache.specs.Least.{IsLeast}
use Rattle.fbc_cache.specs.Readers.{is_taken_in}
use Rattle.fbc_space.specs.Finding.{IsChoice, is_candidate, is_free}
use Rattle.fbc_space.specs.FreePages.{is_free_within}
use Rattle.fbc_space.specs.Passed.{is_passed}

-- Tests that agree have one least number.
pub least-same : (f g : ℕ → Bool) → ((n : ℕ) → f n ≡ g n) → (least : Option ℕ) → IsLeast f least → IsLeast g least
least-same f g same (Some least) is = (sym (same least) ∙ is.0, λ other passes. is.1 other (same other ∙ passes))
least-same f g same None is = λ number. sym (same number) ∙ is number

-- A page inventory covers as many pages as it has bits.
covered-from : (bits page sequence : ℕ) → 0 < bits → page / bits ≡ sequence → (sequence * bits ≤ page) × (page < sequence * bits + bits)
covered-from bits page sequence some is = subst (λ q. (q * bits ≤ page) × (page < q * bits + bits)) is (div-mul-le_self page bits, lt-div-mul-add some)

covered-by : (bits page sequence : ℕ) → sequence * bits ≤ page → page < sequence * bits + bits → page / bits ≡ sequence
covered-by bits page sequence from to =
    let same : sequence * bits + (page - sequence * bits) ≡ page = omega (arith, from) in
    let within : page - sequence * bits < bits = omega (arith, from, to) in
    ap (λ q. q / bits) (sym same) ∙ div-mul-add sequence bits (page - sequence * bits) within

-- What a choice goes by: the cache, the page inventory, and the stretch of pages below the limit that it covers.
pub record IsStretch (c seen : CacheState) (limit sequence inventory bits end : ℕ) (none : List ℕ) : Type 0 where
  pub same : seen ≡ c
  pub count : bits ≡ inventory_bits c.shape.size
  pub some : 0 < bits
  pub stands : inventory ≡ inventory_page c.shape.size sequence
  pub last : end ≡ min limit (sequence * bits + bits)
  pub empty : none ≡ []

-- Whether a page that is not taken lies in the stretch, and whether it lies below the limit under the page inventory.
abbrev in_stretch : Bool → ℕ → ℕ → ℕ → ℕ → Bool
in_stretch taken limit sequence bits page = nat_le (sequence * bits) page && nat_lt page (min limit (sequence * bits + bits)) && not taken && true

abbrev is_under : Bool → ℕ → ℕ → ℕ → ℕ → Bool
is_under taken limit sequence bits page = (page / bits == sequence) && nat_lt page limit && not taken

within-stretch : (taken : Bool) (limit sequence bits page : ℕ) → 0 < bits → in_stretch taken limit sequence bits page ≡ is_under taken limit sequence bits page
within-stretch taken limit sequence bits page some = grind (arith, nat_tests, covered-from bits page sequence some, covered-by bits page sequence)

module _ (c seen : CacheState) (limit sequence inventory bits end : ℕ) (none passed : List ℕ) (is : IsStretch c seen limit sequence inventory bits end none) where
  within-free : (page : ℕ) → is_free_within seen inventory (sequence * bits) end none page ≡ is_free c limit sequence page
  within-free page =
      let taken = is_taken_in c (inventory_page c.shape.size sequence) page in
      rw (is.empty, is.last, is.stands, is.same) (subst (λ n. in_stretch taken limit sequence bits page ≡ is_under taken limit sequence n page) is.count (within-stretch taken limit sequence bits page is.some))

  -- None of them.
  pub none-free : IsLeast (is_free_within seen inventory (sequence * bits) end none) None → IsLeast (is_free c limit sequence) None
  none-free found = least-same (is_free_within seen inventory (sequence * bits) end none) (is_free c limit sequence) within-free None found

  module _ (least : ℕ) (found : IsLeast (is_free_within seen inventory (sequence * bits) end none) (Some least)) where
    least-free : IsLeast (is_free c limit sequence) (Some least)
    least-free = least-same (is_free_within seen inventory (sequence * bits) end none) (is_free c limit sequence) within-free (Some least) found

    candidate : (page : ℕ) → is_free_within seen inventory least end passed page ≡ is_candidate c limit passed sequence page
    candidate page =
        go (is_taken_in seen inventory page) (is_passed passed page) (is_passed none page) (is_free c limit sequence page)
        (ap (λ n. is_passed n page) is.empty) (found.1 page) (within-free page) (within-free least ∙ least-free.0) where
          go : (taken is_out is_none free : Bool) → is_none ≡ false
              → ((nat_le (sequence * bits) page && nat_lt page end && not taken && not is_none) ≡ true → least ≤ page)
              → (nat_le (sequence * bits) page && nat_lt page end && not taken && not is_none) ≡ free
              → is_free_within seen inventory (sequence * bits) end none least ≡ true
              → (nat_le least page && nat_lt page end && not taken && not is_out) ≡ (free && not is_out)
          go taken is_out is_none free isnt from same at = grind (arith, nat_tests, isnt, from, same, at)

    -- The least that is not passed over.
    pub chosen : (page : ℕ) → IsLeast (is_free_within seen inventory least end passed) (Some page) → IsChoice c limit passed sequence page
    chosen page first = inl (least-same (is_free_within seen inventory least end passed) (is_candidate c limit passed sequence) candidate (Some page) first)

    -- The least of all.
    pub chosen-least : IsLeast (is_free_within seen inventory least end passed) None → IsChoice c limit passed sequence least
    chosen-least first = inr (least-same (is_free_within seen inventory least end passed) (is_candidate c limit passed sequence) candidate None first, least-free)
