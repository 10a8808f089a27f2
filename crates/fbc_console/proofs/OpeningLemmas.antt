-- What the bytes that were read say of the fresh file.
use Rattle.std.proofs.Common.{◌≡◌, ◌↔◌, min, ℕ, List, length, take, Bool, true, false, IsTrue, Option, Some, None, refl, ap, sym, subst, ◌∙◌, arith}
use Rattle.std.proofs.Math.Seq.{take-length}
use Rattle.std.proofs.lemmas.List.{length-take}
use Rattle.fbc_outside.specs.Bytes.{ReadsFrom}
use Rattle.fbc_console.specs.Images.{IsFreshFile}
use Rattle.fbc_console.specs.Opening.{TellsFresh}

-- Where more bytes are asked of a file than it has, all of them are read.
read_whole : (bytes : List ℕ) (count : ℕ) (into : List ℕ) → ReadsFrom (Some bytes) 0 count into → length into ≡ 4097 → length bytes ≡ 4096 → take count into ≡ bytes
read_whole bytes count into reads wide size =
    let counted : count ≡ length bytes = grind (arith, reads.0, wide, size) in
    let same : take count into ≡ take count bytes = reads.1 in
    same ∙ ap (λ n. take n bytes) counted ∙ take-length bytes

-- And where fewer are read than were asked, the file has no more.
read_size : (bytes : List ℕ) (count : ℕ) (into : List ℕ) → ReadsFrom (Some bytes) 0 count into → length into ≡ 4097 → length (take count into) ≡ 4096 → length bytes ≡ 4096
read_size bytes count into reads wide size =
    let same : take count into ≡ take count bytes = reads.1 in
    let short : min count (length bytes) ≡ 4096 = sym (length-take count bytes) ∙ ap length (sym same) ∙ size in
    grind (arith, reads.0, wide, short)

pub tells : (file : Option (List ℕ)) (count : ℕ) (into : List ℕ) (fresh : Bool)
    → ReadsFrom file 0 count into → length into ≡ 4097 → (IsTrue fresh ↔ IsFreshFile (take count into)) → TellsFresh fresh file
tells None count into true reads wide is = tt
tells None count into false reads wide is = tt
tells (Some bytes) count into true reads wide is =
    let read : IsFreshFile (take count into) = is.0 refl in
    subst IsFreshFile (read_whole bytes count into reads wide (read_size bytes count into reads wide read.size)) read
tells (Some bytes) count into false reads wide is = λ whole.
    let not_read : false ≡ true = is.1 (subst IsFreshFile (sym (read_whole bytes count into reads wide whole.size)) whole) in
    cc
