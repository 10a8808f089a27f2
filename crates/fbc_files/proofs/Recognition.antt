-- A file that begins with a spelled header is recognised: its first bytes break no rule.
use Rattle.std.proofs.Common.{◌≡◌, ◌+◌, ◌-◌, ◌*◌, ◌%◌, ◌<◌, ◌≤◌, ◌||◌, ◌==◌, ℕ, zero, suc, Bool, true, false, not, List, take, drop, replicate, Some, refl, ap, ◌∙◌, inl, inr, arith}
use Rattle.std.specs.Prelude.{None, Option, nat_lt, if◌then◌else◌, slice_range, codes}
use Rattle.std.specs.Str.{bytes_eq}
use Rattle.std.proofs.lemmas.List.{get_or-take, drop-take, take-replicate}
use Rattle.fbc_kinds.specs.declared.pages.Header.{Header}
use Rattle.fbc_kinds.specs.declared.rules.Rule.{Rule}
use Rattle.fbc_kinds.specs.declared.rules.Rule.TheVariants as rule
use Rattle.fbc_kinds.specs.Head.{HasHead, any_below, is_within, is_zeros, number_at, number_in, broken_head, or_else}
use Rattle.fbc_kinds.specs.HeaderSpelling.{SpellsHeader, as_recognised, broken_beginning, broken_content, broken_counts, broken_end, broken_front, broken_length, broken_relations, entry_at, has_bad_name, has_bad_number, has_bad_oldest, has_bad_pointers, has_bad_rest, has_bad_tips, has_bad_value, has_mark, name_in, page_size_in, pointer_count_in, relation_count_in, repeats_name, tip_count_in, version_in}
use Rattle.fbc_kinds.specs.Limits.{IsPageSize, is_page_size, pointer_limit}
use Rattle.fbc_kinds.proofs.Heads.{HasHead-unbroken, IsPlainHead, is_zeros-replicate, range-take}
use Rattle.fbc_kinds.proofs.HeaderReading.{counts_pass, end_passes, front_passes, header_passes}
use Rattle.fbc_kinds.proofs.HeaderRules.{both_unbroken}
use Rattle.fbc_kinds.proofs.HeaderUnbroken.{SpellsHeader-unbroken}
use Rattle.fbc_kinds.proofs.Tests.{not_of_true, test_of_same}

-- Tests that agree below a limit find one below it alike.
any_below-same : (f g : ℕ → Bool) (limit : ℕ) → ((i : ℕ) → i < limit → f i ≡ g i) → any_below f limit ≡ any_below g limit
unfolding any_below
any_below-same f g zero same = refl
any_below-same f g (suc limit) same =
    let before : any_below f limit ≡ any_below g limit = any_below-same f g limit (λ i below. same i (omega arith)) in
    let here : f limit ≡ g limit = same limit (omega arith) in
    rw (before, here) refl

-- Where no test passes, no rule is broken.
none_after : (a b : Option Rule) → a ≡ None → b ≡ None → or_else a b ≡ None
none_after a b before after = rw (before, after) refl

front_by : (mark sized version : Bool) → mark ≡ true → sized ≡ true → version ≡ true → (if not mark then Some rule.Magic else if not sized then Some rule.Size else if not version then Some rule.Version else None) ≡ None
front_by mark sized version a b c = rw (a, b, c) refl

length_by : (over : ℕ) → over ≡ 0 → (if not (over == 0) then Some rule.Length else None) ≡ None
length_by over none = rw none refl

end_by : (tips oldest rest : Bool) → tips ≡ false → oldest ≡ false → rest ≡ false → (if tips then Some rule.Tips else if oldest then Some rule.Oldest else if rest then Some rule.Rest else None) ≡ None
end_by tips oldest rest a b c = rw (a, b, c) refl

-- The tests of the relations, where they agree.
relations_by : (a b c d e f g h : Bool) → a ≡ b → c ≡ d → e ≡ f → g ≡ h → (if a || c then Some rule.Name else if e then Some rule.Value else if g then Some rule.Pointers else None) ≡ (if b || d then Some rule.Name else if f then Some rule.Value else if h then Some rule.Pointers else None)
relations_by a b c d e f g h names repeats values pointers = rw (names, repeats, values, pointers) refl

-- The bytes of a header say all that they say in their first 400.
module _ (first bytes : List ℕ) (same : (from to : ℕ) → to ≤ 400 → slice_range first from to ≡ slice_range bytes from to) where
  same_number : (from to : ℕ) → to ≤ 400 → number_at from to first ≡ number_at from to bytes
  same_number from to within = ap (number_in 256) (same from to within)

  same_entry : (i : ℕ) → i < 8 → entry_at first i ≡ entry_at bytes i
  same_entry i below = same (48 + 36 * i) (48 + 36 * i + 36) (omega arith)

  same_counts : (size : ℕ) → broken_counts size first ≡ broken_counts size bytes
  same_counts size =
      let next = same_number 32 36 (omega arith) in
      let relations = same_number 36 38 (omega arith) in
      let inventories = same_number 38 40 (omega arith) in
      let tips = same_number 40 42 (omega arith) in
      let unused = same_number 42 44 (omega arith) in
      rw (next, relations, inventories, tips, unused) refl

  same_name : (i : ℕ) → i < 8 → has_bad_name first i ≡ has_bad_name bytes i
  same_name i below = rw (same_number 36 38 (omega arith), same_entry i below) refl

  same_repeats : (count : ℕ) → count ≤ 8 → (i : ℕ) → i < count → repeats_name first i ≡ repeats_name bytes i
  same_repeats count few i below =
      any_below-same (λ j. bytes_eq (name_in (entry_at first j)) (name_in (entry_at first i))) (λ j. bytes_eq (name_in (entry_at bytes j)) (name_in (entry_at bytes i))) i (λ j earlier.
      let one = same_entry j (omega arith) in
      let two = same_entry i (omega arith) in
      ap (λ (entry : List ℕ). bytes_eq (name_in entry) (name_in (entry_at first i))) one ∙ ap (λ (entry : List ℕ). bytes_eq (name_in (entry_at bytes j)) (name_in entry)) two)

  same_value : (i : ℕ) → i < 8 → has_bad_value first i ≡ has_bad_value bytes i
  same_value i below = rw (same_number 36 38 (omega arith), same_entry i below) refl

  same_pointers : (i : ℕ) → i < 8 → has_bad_pointers first i ≡ has_bad_pointers bytes i
  same_pointers i below =
      let count = same_number 36 38 (omega arith) in
      let by_parts : ℕ → List ℕ → Bool = λ n entry.
      (if nat_lt i n then not (is_within 1 pointer_limit (pointer_count_in entry)) else not (pointer_count_in entry == 0))
      || any_below (has_bad_number (pointer_count_in entry) 20 entry) pointer_limit in
      ap (λ (n : ℕ). by_parts n (entry_at first i)) count ∙ ap (λ (entry : List ℕ). by_parts (relation_count_in bytes) entry) (same_entry i below)

  same_relations : relation_count_in bytes ≤ 8 → broken_relations first ≡ broken_relations bytes
  same_relations few =
      let count : relation_count_in first ≡ relation_count_in bytes = same_number 36 38 (omega arith) in
      let names : any_below (has_bad_name first) 8 ≡ any_below (has_bad_name bytes) 8 = any_below-same (has_bad_name first) (has_bad_name bytes) 8 same_name in
      let repeats : any_below (repeats_name first) (relation_count_in first) ≡ any_below (repeats_name bytes) (relation_count_in bytes) =
      ap (any_below (repeats_name first)) count ∙ any_below-same (repeats_name first) (repeats_name bytes) (relation_count_in bytes) (same_repeats (relation_count_in bytes) few) in
      let values : any_below (has_bad_value first) 8 ≡ any_below (has_bad_value bytes) 8 = any_below-same (has_bad_value first) (has_bad_value bytes) 8 same_value in
      let pointers : any_below (has_bad_pointers first) 8 ≡ any_below (has_bad_pointers bytes) 8 = any_below-same (has_bad_pointers first) (has_bad_pointers bytes) 8 same_pointers in
      relations_by (any_below (has_bad_name first) 8) (any_below (has_bad_name bytes) 8) (any_below (repeats_name first) (relation_count_in first)) (any_below (repeats_name bytes) (relation_count_in bytes)) (any_below (has_bad_value first) 8) (any_below (has_bad_value bytes) 8) (any_below (has_bad_pointers first) 8) (any_below (has_bad_pointers bytes) 8) names repeats values pointers

  same_tips : has_bad_tips first ≡ has_bad_tips bytes
  same_tips = any_below-same (has_bad_number (tip_count_in first) 336 first) (has_bad_number (tip_count_in bytes) 336 bytes) 16 (λ i below.
      let count = same_number 40 42 (omega arith) in
      let page = same_number (336 + 4 * i) (336 + 4 * i + 4) (omega arith) in
      rw (count, page) refl)

-- A size that is one of the five passes their test.
is_sized : (size : ℕ) → IsPageSize size → is_page_size size ≡ true
is_sized size (inl is) = rw is refl
is_sized size (inr (inl is)) = rw is refl
is_sized size (inr (inr (inl is))) = rw is refl
is_sized size (inr (inr (inr (inl is)))) = rw is refl
is_sized size (inr (inr (inr (inr is)))) = rw is refl

pub long_page : (size : ℕ) → IsPageSize size → 1024 ≤ size
long_page size (inl is) = omega arith
long_page size (inr (inl is)) = omega arith
long_page size (inr (inr (inl is))) = omega arith
long_page size (inr (inr (inr (inl is)))) = omega arith
long_page size (inr (inr (inr (inr is)))) = omega arith

module _ (header : Header) (page : List ℕ) (sized : IsPageSize header.size) (x : SpellsHeader header.size header page) where
  -- The first bytes of a page that spells a header break no rule.
  pub beginning_passes : (bytes : ℕ) → bytes % header.size ≡ 0 → broken_beginning (take 1024 page) bytes ≡ None
  beginning_passes bytes whole =
      let first : List ℕ = take 1024 page in
      let long : 1024 ≤ header.size = long_page header.size sized in
      let same : (from to : ℕ) → to ≤ 400 → slice_range first from to ≡ slice_range page from to = λ from to within. range-take 1024 from to page (omega arith) in
      let passes = header_passes header.size page (SpellsHeader-unbroken header.size header page sized x) in
      let parts = both_unbroken (broken_counts header.size page) (or_else (broken_relations page) (broken_end page)) passes.content in
      let ends = end_passes page (both_unbroken (broken_relations page) (broken_end page) parts.1).1 in
      let front = front_passes header.size page passes.front in
      let few = (counts_pass header.size page passes.counts).relations_to in
      let size_is : page_size_in first ≡ header.size = same_number first page same 24 28 (omega arith) ∙ front.page_size in
      let head : HasHead 1 0 0 0 first = record {
        kind_is = get_or-take 1024 page 0 0 (omega arith) ∙ x.head.kind_is;
        one = get_or-take 1024 page 1 0 (omega arith) ∙ x.head.one;
        relation_is = same 2 4 (omega arith) ∙ x.head.relation_is;
        page_is = same 4 8 (omega arith) ∙ x.head.page_is;
        sequence_is = same 8 12 (omega arith) ∙ x.head.sequence_is;
        zeros = same 12 16 (omega arith) ∙ x.head.zeros;
      } in
      let plain : IsPlainHead 1 0 0 = record { no_relation = λ low. refl; no_sequence = λ first. refl } in
      let started : broken_head 1 0 first ≡ None = HasHead-unbroken 1 0 0 0 first (omega arith) (omega arith) (omega arith) plain head in
      let mark : has_mark first ≡ true = ap (λ (text : List ℕ). bytes_eq text (codes "FBCPAGES")) (same 16 24 (omega arith) ∙ front.mark) in
      let size_test : is_page_size (page_size_in first) ≡ true = ap is_page_size size_is ∙ is_sized header.size sized in
      let version : (version_in first == 1) ≡ true = test_of_same (version_in first) 1 (same_number first page same 28 32 (omega arith) ∙ front.version) in
      let fronted : broken_front (is_page_size (page_size_in first)) first ≡ None = front_by (has_mark first) (is_page_size (page_size_in first)) (version_in first == 1) mark size_test version in
      let multiple : broken_length (page_size_in first) bytes ≡ None = ap (λ size. broken_length size bytes) size_is ∙ length_by (bytes % header.size) whole in
      let counts : broken_counts header.size first ≡ None = same_counts first page same header.size ∙ passes.counts in
      let relations : broken_relations first ≡ None = same_relations first page same few ∙ passes.relations in
      let tips : has_bad_tips first ≡ false = same_tips first page same ∙ ends.tips in
      let oldest : has_bad_oldest first ≡ false = not_of_true (number_at 44 48 first == 0) (test_of_same (number_at 44 48 first) 0 (same_number first page same 44 48 (omega arith) ∙ ends.oldest)) in
      let zeros : drop 400 first ≡ replicate 624 0 = drop-take 400 624 page ∙ (ap (λ (rest : List ℕ). take 624 rest) x.rest ∙ take-replicate 624 (header.size - 400) 0 (omega arith)) in
      let rest : has_bad_rest first ≡ false = not_of_true (is_zeros (drop 400 first)) (ap is_zeros zeros ∙ is_zeros-replicate 624) in
      let ended : broken_end first ≡ None = end_by (has_bad_tips first) (has_bad_oldest first) (has_bad_rest first) tips oldest rest in
      let content : broken_content (page_size_in first) first ≡ None = ap (λ size. broken_content size first) size_is ∙ none_after (broken_counts header.size first) (or_else (broken_relations first) (broken_end first)) counts (none_after (broken_relations first) (broken_end first) relations ended) in
      none_after (as_recognised (broken_head 1 0 first)) (or_else (broken_front (is_page_size (page_size_in first)) first) (or_else (broken_length (page_size_in first) bytes) (broken_content (page_size_in first) first))) (ap as_recognised started)
      (none_after (broken_front (is_page_size (page_size_in first)) first) (or_else (broken_length (page_size_in first) bytes) (broken_content (page_size_in first) first)) fronted
      (none_after (broken_length (page_size_in first) bytes) (broken_content (page_size_in first) first) multiple content))
