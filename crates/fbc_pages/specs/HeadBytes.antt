use Rattle.std.specs.Prelude.{ℕ, List, ◌∷◌, ◌++◌, length, replicate, codes}
use Rattle.fbc_kinds.specs.declared.pages.Header.{Header}
use Rattle.fbc_kinds.specs.declared.pages.Relation.{Relation}
use Rattle.fbc_kinds.specs.Head.{little_bytes}

-- The 16 bytes of a head, one after the other.
abbrev pub head_bytes : ℕ → ℕ → ℕ → ℕ → List ℕ
head_bytes kind relation page sequence =
    kind ∷ 1 ∷ (little_bytes 2 relation ++ (little_bytes 4 page ++ (little_bytes 4 sequence ++ replicate 4 0)))

-- The 16 bytes of a header from byte 16: the store's mark, the page size and the version.
abbrev pub mark_bytes : ℕ → List ℕ
mark_bytes size = codes "FBCPAGES" ++ (little_bytes 4 size ++ little_bytes 4 1)

-- The 16 bytes of a header from byte 32: the next transaction, the three counts, two zeros and the oldest transaction.
abbrev pub count_bytes : Header → List ℕ
count_bytes header =
    little_bytes 4 header.next
    ++ (little_bytes 2 (length header.relations) ++ (little_bytes 2 header.inventories ++ (little_bytes 2 (length header.tips) ++ (little_bytes 2 0 ++ little_bytes 4 header.oldest))))

-- The four bytes of an entry from byte 16: the value length and the number of pointer pages.
abbrev pub limit_bytes : Relation → List ℕ
limit_bytes relation = little_bytes 2 relation.length ++ little_bytes 2 (length relation.pointers)
