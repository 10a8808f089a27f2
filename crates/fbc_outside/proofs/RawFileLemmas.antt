-- A piece that is read, or written, part by part.
use Rattle.std.proofs.Common.{◌≡◌, ℕ, ◌+◌, ◌-◌, ◌^◌, ◌<◌, ◌≤◌, min, List, ◌++◌, length, take, drop, Option, Some, None, IfSome, zero, suc, arith, rules, ◌∙◌, sym, ap, length-take-le, length-drop, take-take, refl}
use Rattle.std.proofs.Math.Seq.{take-add, take-append-add}
use Rattle.std.proofs.lemmas.List.{drop-drop, places, same_lists}
use Rattle.std.proofs.lemmas.Slice.{take-put_mid, take-put_mid_below}
use Rattle.fbc_outside.specs.Bytes.{IsWritten, written}
use Rattle.fbc_outside.specs.RawFile.{ReadsPart}
use borrow.Rule.Slice.PartMut.{put_mid}

-- So many bytes have been read first into the buffer.
pub record IsReadSoFar (bytes : List ℕ) (at done : ℕ) (into : List ℕ) : Type 0 where
  pub stand : done ≤ length bytes - at
  pub first : take done into ≡ take done (drop at bytes)

-- The same of bytes that may not be told.
abbrev pub ReadsSoFar : Option (List ℕ) → ℕ → ℕ → List ℕ → Type 0
ReadsSoFar None at done into = Unit {0}
ReadsSoFar (Some bytes) at done into = IsReadSoFar bytes at done into

-- The room behind the first part.
pub room_left : (done : ℕ) (into part : List ℕ) → done ≤ length into → length part ≡ length (take (length into - done) (drop done into)) → length part ≡ length into - done
room_left done into part within long = omega (arith, length-take-le (length into - done) (drop done into) (omega (arith, length-drop done into)))

-- The first part, and then some bytes of a write behind it.
first_of_both : (done room n : ℕ) (into part : List ℕ) → done ≤ length into → length part ≡ room → n ≤ room → take (done + n) (put_mid done room into part) ≡ take done into ++ take n part
first_of_both done room n into part within long few =
    let front : length (take done into) ≡ done = length-take-le done into within in
    let whole : take (done + room) (put_mid done room into part) ≡ take done into ++ part = take-put_mid done room into part (done + room) (omega arith) within in
    let less : take (done + n) (take (done + room) (put_mid done room into part)) ≡ take (done + n) (put_mid done room into part) = take-take (done + n) (done + room) _ (omega arith) in
    let both : take (length (take done into) + n) (take done into ++ part) ≡ take done into ++ take n part = take-append-add (take done into) part n in
    sym less ∙ ap (take (done + n)) whole ∙ ap (λ k. take (k + n) (take done into ++ part)) (sym front) ∙ both

-- A part more.
pub read_more : (bytes : Option (List ℕ)) (at place done room n : ℕ) (into part : List ℕ) → IfSome bytes (λ told. length told < 2 ^ 64) → at < 2 ^ 64 → place ≡ min (at + done) (2 ^ 64 - 1) → done ≤ length into → length part ≡ room → ReadsSoFar bytes at done into → ReadsPart bytes place n part → ReadsSoFar bytes at (done + n) (put_mid done room into part)
read_more None at place done room n into part places below is within long so reads = tt
read_more (Some told) at place done room n into part places below is within long so reads =
    let here : place ≡ at + done = omega (arith, so.stand, places, below, is) in
    let stood : take done (drop at told) ++ take n (drop done (drop at told)) ≡ take (done + n) (drop at told) = sym (take-add done n (drop at told)) in
    let moved : drop done (drop at told) ≡ drop (at + done) told = drop-drop done at told in
    let put = first_of_both done room n into part within long (omega (arith, reads.fits, long)) in
    let next : take n part ≡ take n (drop (at + done) told) = reads.first ∙ ap (λ k. take n (drop k told)) here in
    record {
      stand = omega (arith, so.stand, reads.stand, here);
      first = put ∙ (λ i. so.first i ++ (next ∙ ap (take n) (sym moved)) i) ∙ stood;
    }

-- A call that failed puts nothing into the first part.
pub read_again : (bytes : Option (List ℕ)) (at done room : ℕ) (into part : List ℕ) → done ≤ length into → ReadsSoFar bytes at done into → ReadsSoFar bytes at done (put_mid done room into part)
read_again None at done room into part within so = tt
read_again (Some told) at done room into part within so = record {
  stand = so.stand;
  first = take-put_mid_below done room into part done (omega arith) within ∙ so.first;
}

-- A piece, and another one behind it.
written_behind : (at : ℕ) (first second bytes : List ℕ) → written (at + length first) second (written at first bytes) ≡ written at (first ++ second) bytes
written_behind at first second bytes = same_lists _ _ (search (rules, places)) (λ k d h. grind (arith, places))

-- So many bytes have been written.
pub record IsWrittenSoFar (before now : Option (List ℕ)) (at done : ℕ) (from : List ℕ) : Type 0 where
  pub none : done ≡ 0 → now ≡ before
  pub some : 0 < done → IsWritten before now at (take done from)

-- A part more.
write_next : (before between now : Option (List ℕ)) (at done n : ℕ) (from : List ℕ) → length (take done from) ≡ done → IsWritten before between at (take done from) → IsWritten between now (at + done) (take n (drop done from)) → IsWritten before now at (take (done + n) from)
write_next None between now at done n from long first next = rw first at next
write_next (Some told) between now at done n from long first next =
    let second : now ≡ Some (written (at + done) (take n (drop done from)) (written at (take done from) told)) = rw first at next in
    let joined : written (at + done) (take n (drop done from)) (written at (take done from) told) ≡ written at (take (done + n) from) told =
    ap (λ k. written (at + k) (take n (drop done from)) (written at (take done from) told)) (sym long) ∙ written_behind at (take done from) (take n (drop done from)) told ∙ ap (λ l. written at l told) (sym (take-add done n from)) in
    second ∙ ap Some joined

-- The first part.
write_first : (before between now : Option (List ℕ)) (at n : ℕ) (from : List ℕ) → between ≡ before → IsWritten between now (at + 0) (take n (drop 0 from)) → IsWritten before now at (take (0 + n) from)
write_first before between now at n from same next =
    let here : at + 0 ≡ at = omega arith in
    let many : 0 + n ≡ n = omega arith in
    rw many (rw (same, here) at next)

pub write_more : (before between now : Option (List ℕ)) (at done n : ℕ) (from : List ℕ) → done ≤ length from → IsWrittenSoFar before between at done from → (n ≡ 0 → ⊥) → (0 < n → IsWritten between now (at + done) (take n (drop done from))) → IsWrittenSoFar before now at (done + n) from
write_more before between now at zero n from within so some next = record {
  none = λ z. absurd (some (omega (arith, z)));
  some = λ _. write_first before between now at n from (so.none refl) (next (grind (arith, some)));
}
write_more before between now at (suc done) n from within so some next = record {
  none = λ z. absurd (some (omega (arith, z)));
  some = λ _. write_next before between now at (suc done) n from (length-take-le (suc done) from within) (so.some (omega arith)) (next (grind (arith, some)));
}
