-- What the first bytes that were read say of a file.
use Rattle.std.proofs.Common.{◌≡◌, ◌≤◌, min, ℕ, List, length, take, Option, Some, None, sym, ap, subst, ◌∙◌, arith}
use Rattle.std.proofs.lemmas.Grind.{common_steps}
use Rattle.fbc_kinds.specs.declared.rules.Rule.{Rule}
use Rattle.fbc_kinds.specs.declared.shapes.Shape.{Shape}
use Rattle.fbc_kinds.specs.HeaderSpelling.{ShowsShape, IsFileShape, broken_file}
use Rattle.fbc_outside.specs.Bytes.{IsLength, ReadsFrom}
use Rattle.fbc_files.specs.Opening.{IsOpened, IsRefused}

-- Bytes and a number are a file's first 1,024 bytes and its length.
abbrev pub IsBeginning : Option (List ℕ) → List ℕ → ℕ → Type 0
IsBeginning None first seen = Unit {0}
IsBeginning (Some bytes) first seen = (first ≡ take 1024 bytes) × (seen ≡ length bytes)

take-min : (bytes : List ℕ) (n count : ℕ) → count ≡ min n (length bytes) → take count bytes ≡ take n bytes
take-min bytes n count e = grind (arith, common_steps)

pub beginning : (file : Option (List ℕ)) (reach told read count seen : ℕ) (into : List ℕ)
    → IsLength file reach told → ReadsFrom file 0 read into → length into ≡ 1024 → count ≡ min read told → (count ≡ min 1024 told → seen ≡ told)
    → IsBeginning file (take count into) seen
beginning None reach told read count seen into is reads wide within agrees = tt
beginning (Some bytes) reach told read count seen into is reads wide within agrees =
    let counted : count ≡ min 1024 (length bytes) = grind (arith, reads.0, wide, within, is) in
    let all : count ≡ read = grind (arith, reads.0, wide, within, is) in
    let seen_is : seen ≡ length bytes = agrees (counted ∙ ap (λ n. min 1024 n) (sym is)) ∙ is in
    let same : take read into ≡ take read bytes = reads.1 in
    (ap (λ n. take n into) all ∙ same ∙ ap (λ n. take n bytes) (sym all) ∙ take-min bytes 1024 count counted, seen_is)

pub opened : (file : Option (List ℕ)) (reach seen : ℕ) (first : List ℕ) (shape : Shape)
    → IsBeginning file first seen → broken_file first seen ≡ None → ShowsShape first reach shape → IsFileShape shape → seen ≤ reach
    → IsOpened reach file (record { shape = shape; length = seen })
opened None reach seen first shape is unbroken shows limits within = record { recognised = tt; shown = tt; limits = limits; whole = tt; within = within }
opened (Some bytes) reach seen first shape is unbroken shows limits within = record {
  recognised = ap (λ n. broken_file (take 1024 bytes) n) (sym is.1) ∙ ap (λ xs. broken_file xs seen) (sym is.0) ∙ unbroken;
  shown = subst (λ xs. ShowsShape xs reach shape) is.0 shows;
  limits = limits;
  whole = is.1;
  within = within;
}

pub refused : (file : Option (List ℕ)) (seen : ℕ) (first : List ℕ) (rule : Rule) → IsBeginning file first seen → broken_file first seen ≡ Some rule → IsRefused rule file
refused None seen first rule is broken = tt
refused (Some bytes) seen first rule is broken = ap (λ n. broken_file (take 1024 bytes) n) (sym is.1) ∙ ap (λ xs. broken_file xs seen) (sym is.0) ∙ broken
