use Rattle.std.proofs.Common.{◌≡◌, ◌+◌, ◌-◌, ◌*◌, ◌<◌, ◌≤◌, ℕ, List, [], ◌∷◌, ◌++◌, length, get_or, take, drop, replicate, sym, ◌∙◌, ap, arith, length-append}
use Rattle.std.specs.Prelude.{Option, slice_range, slice_index, slice_get}
use borrow.Rule.Slice.PartMut.{put_mid}
use Rattle.std.proofs.lemmas.Slice.{between-put_mid, take-put_mid_below}
use Rattle.std.proofs.lemmas.List.{take_at, drop_at, length-replicate, length-take, length-take-le, length-drop, take_all, get_or-take, nil_from_length, append-nil}
use Rattle.fbc_kinds.specs.declared.pages.Header.{Header}
use Rattle.fbc_kinds.specs.declared.pages.Relation.{Relation}
use Rattle.fbc_kinds.specs.Head.{HasHead, little_bytes}
use Rattle.fbc_kinds.specs.HeaderSpelling.{IsHeader, SpellsRelation, SpellsEntry, SpellsHeader, entry_at}
use Rattle.fbc_kinds.specs.Padding.{padded}
use Rattle.fbc_kinds.proofs.Heads.{HasHead-kept, range-same_front}
use Rattle.fbc_kinds.proofs.Pieces.{range_in, same_front-shorter}
use Rattle.fbc_pages.specs.HeadBytes.{mark_bytes, count_bytes, limit_bytes}
use Rattle.fbc_pages.proofs.Writes.{part_before}

-- How long a padded text is.
length-padded : (width : ℕ) (text : List ℕ) → length text ≤ width → length (padded width text) ≡ width
length-padded width text fits = omega (arith, length-append text (replicate (width - length text) 0), length-replicate {A = ℕ} (width - length text) 0)

-- An entry whose three parts were written spells its relation.
pub SpellsRelation-laid : (relation : Relation) (old name limits entry : List ℕ) → length old ≡ 36 → length relation.name ≤ 15 → name ≡ length relation.name ∷ padded 15 relation.name → limits ≡ limit_bytes relation → take 20 entry ≡ take 20 (put_mid 16 4 (name ++ drop 16 old) limits) → ((i : ℕ) → i < 4 → slice_range entry (20 + 4 * i) (20 + 4 * i + 4) ≡ little_bytes 4 (slice_index relation.pointers i)) → SpellsRelation relation entry
SpellsRelation-laid relation old name limits entry count short named limited same pointers =
    let wide : length name ≡ 16 = ap length named ∙ omega (arith, length-padded 15 relation.name short) in
    let inside : 16 ≤ length (name ++ drop 16 old) = omega (arith, length-append name (drop 16 old)) in
    let four : length limits ≡ 4 = ap length limited in
    let front : take 16 entry ≡ take 16 (name ++ drop 16 old) =
    same_front-shorter 16 20 entry (put_mid 16 4 (name ++ drop 16 old) limits) (omega arith) same
    ∙ take-put_mid_below 16 4 (name ++ drop 16 old) limits 16 (omega arith) inside in
    let whole : take 16 (name ++ drop 16 old) ≡ length relation.name ∷ padded 15 relation.name = take_at name (drop 16 old) 16 wide ∙ named in
    let named_front : slice_range entry 0 16 ≡ length relation.name ∷ padded 15 relation.name = front ∙ whole in
    let padded_all : take 15 (padded 15 relation.name) ≡ padded 15 relation.name = take_all 15 (padded 15 relation.name) (omega (arith, length-padded 15 relation.name short)) in
    record {
      name_length = sym (get_or-take 16 entry 0 0 (omega arith)) ∙ ap (λ (x : List ℕ). get_or x 0 0) (front ∙ whole);
      name = sym (range_in 0 16 1 16 entry (omega arith)) ∙ ap (λ (x : List ℕ). slice_range x 1 16) named_front ∙ padded_all;
      value_length = part_before 20 16 4 0 2 (name ++ drop 16 old) limits entry same (omega arith) inside four (omega arith) ∙ ap (λ (x : List ℕ). slice_range x 0 2) limited;
      pointer_count = part_before 20 16 4 2 4 (name ++ drop 16 old) limits entry same (omega arith) inside four (omega arith) ∙ ap (λ (x : List ℕ). slice_range x 2 4) limited;
      pointers = pointers;
    }

-- What was written into an entry's place stands there.
pub SpellsEntry-put : (slot : Option Relation) (at k : ℕ) (old entry : List ℕ) → at + 36 ≤ length old → length entry ≡ at + 36 - at → SpellsEntry slot entry → SpellsEntry slot (slice_range (put_mid at k old entry) at (at + 36))
SpellsEntry-put slot at k old entry fits count is =
    let inside : at ≤ length old = omega arith in
    rw (between-put_mid at k old entry (at + 36) inside count) is

-- Bytes with a part written in them are as long as before.
long_enough : (at k : ℕ) (old part : List ℕ) → length part ≡ k → at + k ≤ length old → at + k ≤ length (put_mid at k old part)
long_enough at k old part count fits =
    omega (arith, length-append (take at old) (part ++ drop k (drop at old)), length-append part (drop k (drop at old)), length-take at old)

-- Where the part written fills the end, it is the end.
ends_in : (at k : ℕ) (old part : List ℕ) → at ≤ length old → length (put_mid at k old part) ≡ at + length part → drop at (put_mid at k old part) ≡ part
ends_in at k old part inside count =
    let front : length (take at old) ≡ at = length-take-le at old inside in
    let nothing : drop k (drop at old) ≡ [] = nil_from_length (drop k (drop at old)) (omega (arith, length-append (take at old) (part ++ drop k (drop at old)), length-append part (drop k (drop at old)))) in
    drop_at (take at old) (part ++ drop k (drop at old)) at front ∙ ap (λ (x : List ℕ). part ++ x) nothing ∙ append-nil part

-- A header whose parts were written one after the other is spelled.
pub SpellsHeader-laid : (size k : ℕ) (header : Header) (head marks counts entries tips zeros : List ℕ) → IsHeader size header → 400 ≤ size → length head ≡ size → length entries ≡ size → length tips ≡ size → HasHead 1 0 0 0 head → marks ≡ mark_bytes header.size → counts ≡ count_bytes header → take 48 entries ≡ take 48 (put_mid 32 16 (put_mid 16 16 head marks) counts) → ((i : ℕ) → i < 8 → SpellsEntry (slice_get header.relations i) (entry_at entries i)) → take 336 tips ≡ take 336 entries → ((i : ℕ) → i < 16 → slice_range tips (336 + 4 * i) (336 + 4 * i + 4) ≡ little_bytes 4 (slice_index header.tips i)) → zeros ≡ replicate (size - 400) 0 → k ≡ size - 400 → SpellsHeader size header (put_mid 400 k tips zeros)
SpellsHeader-laid size k header head marks counts entries tips zeros fits enough lh le lt has marked counted front each early tipped zeroed fills =
    let bytes = put_mid 400 k tips zeros in
    let in_tips : 400 ≤ length tips = omega arith in
    let many : length zeros ≡ size - 400 = ap length zeroed ∙ length-replicate (size - 400) 0 in
    let whole : length bytes ≡ size = omega (arith, length-append (take 400 tips) (zeros ++ drop k (drop 400 tips)), length-append zeros (drop k (drop 400 tips)), length-take 400 tips, length-drop k (drop 400 tips), length-drop 400 tips) in
    let to_tips : take 400 bytes ≡ take 400 tips = take-put_mid_below 400 k tips zeros 400 (omega arith) in_tips in
    let to_entries : take 336 bytes ≡ take 336 entries = same_front-shorter 336 400 bytes tips (omega arith) to_tips ∙ early in
    let marked_part : List ℕ = put_mid 16 16 head marks in
    let counted_part : List ℕ = put_mid 32 16 marked_part counts in
    let to_counts : take 48 bytes ≡ take 48 counted_part = same_front-shorter 48 336 bytes entries (omega arith) to_entries ∙ front in
    let sixteen : length marks ≡ 16 = ap length marked in
    let sixteen' : length counts ≡ 16 = ap length counted in
    let in_head : 16 ≤ length head = omega arith in
    let in_marked : 32 ≤ length marked_part = long_enough 16 16 head marks sixteen (omega arith) in
    let marks_at : slice_range bytes 16 32 ≡ mark_bytes header.size =
    range-same_front 48 16 32 counted_part bytes (omega arith) to_counts
    ∙ (range-same_front 32 16 32 marked_part counted_part (omega arith) (take-put_mid_below 32 16 marked_part counts 32 (omega arith) in_marked)
    ∙ (between-put_mid 16 16 head marks 32 in_head sixteen ∙ marked)) in
    let counts_at : slice_range bytes 32 48 ≡ count_bytes header =
    range-same_front 48 32 48 counted_part bytes (omega arith) to_counts
    ∙ (between-put_mid 32 16 marked_part counts 48 in_marked sixteen' ∙ counted) in
    let head_at : take 16 bytes ≡ take 16 head =
    same_front-shorter 16 48 bytes counted_part (omega arith) to_counts
    ∙ (take-put_mid_below 32 16 marked_part counts 16 (omega arith) in_marked
    ∙ take-put_mid_below 16 16 head marks 16 (omega arith) in_head) in
    let of_marks = λ (from to : ℕ) (within : 16 + to ≤ 32). sym (range_in 16 32 from to bytes within) ∙ ap (λ (x : List ℕ). slice_range x from to) marks_at in
    let of_counts = λ (from to : ℕ) (within : 32 + to ≤ 48). sym (range_in 32 48 from to bytes within) ∙ ap (λ (x : List ℕ). slice_range x from to) counts_at in
    record {
      fits = fits;
      size_is = whole;
      head = HasHead-kept 1 0 0 0 head bytes head_at has;
      magic = of_marks 0 8 (omega arith);
      page_size = of_marks 8 12 (omega arith);
      version = of_marks 12 16 (omega arith);
      next = of_counts 0 4 (omega arith);
      relation_count = of_counts 4 6 (omega arith);
      inventory_count = of_counts 6 8 (omega arith);
      tip_count = of_counts 8 10 (omega arith);
      unused = of_counts 10 12 (omega arith);
      oldest = of_counts 12 16 (omega arith);
      entries = λ i below. rw (range-same_front 336 (48 + 36 * i) (48 + 36 * i + 36) entries bytes (omega arith) to_entries) (each i below);
      tips = λ i below. range-same_front 400 (336 + 4 * i) (336 + 4 * i + 4) tips bytes (omega arith) to_tips ∙ tipped i below;
      rest = ends_in 400 k tips zeros in_tips (omega arith) ∙ zeroed;
    }
