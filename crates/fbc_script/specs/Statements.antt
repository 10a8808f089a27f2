-- Statements: a statement word and its arguments.
use Rattle.std.specs.Prelude.{ℕ, List, [], ◌∷◌, codes, Result, Ok, Err, if◌then◌else◌}
use Rattle.std.specs.Str.{bytes_eq}
use Rattle.fbc_script.specs.declared.faults.Why.{Why}
use Rattle.fbc_script.specs.declared.faults.Why.TheVariants as why
use Rattle.fbc_script.specs.declared.script.Statement.{Statement}
use Rattle.fbc_script.specs.declared.script.Statement.TheVariants.{Attach, Begin, Insert, Update, Delete, Read, Scan, Reserve, Sweep, Commit, Rollback, Detach}
use Rattle.fbc_script.specs.Words.{read_name, read_text, read_row, read_mode, read_level}

-- What follows from a value that was read; the first fault stands.
infixl 10 ◌>>=◌
abbrev pub ◌>>=◌ : {A B : Type 0} → Result A Why → (A → Result B Why) → Result B Why
Ok value >>= f = f value
Err cause >>= f = Err cause

-- So many words and no others.
abbrev pub no_words : List (List ℕ) → Result (Unit {0}) Why
no_words [] = Ok tt
no_words _ = Err why.Count

abbrev pub one_word : List (List ℕ) → Result (List ℕ) Why
one_word (a ∷ []) = Ok a
one_word _ = Err why.Count

abbrev pub two_words : List (List ℕ) → Result (List ℕ × List ℕ) Why
two_words (a ∷ b ∷ []) = Ok (a, b)
two_words _ = Err why.Count

abbrev pub three_words : List (List ℕ) → Result (List ℕ × List ℕ × List ℕ) Why
three_words (a ∷ b ∷ c ∷ []) = Ok (a, b, c)
three_words _ = Err why.Count

-- A statement without arguments.
abbrev pub read_bare : Statement → List (List ℕ) → Result Statement Why
read_bare statement arguments = do
  _ ← no_words arguments
  Ok statement

-- The arguments of the other statements, from left to right.
abbrev pub read_begin : List (List ℕ) → Result Statement Why
read_begin arguments = do
  mode ← one_word arguments
  wait ← read_mode mode
  Ok (Begin wait)

abbrev pub read_insert : List (List ℕ) → Result Statement Why
read_insert arguments = do
  words ← two_words arguments
  relation ← read_name words.0
  text ← read_text words.1
  Ok (Insert relation text)

abbrev pub read_update : List (List ℕ) → Result Statement Why
read_update arguments = do
  words ← three_words arguments
  relation ← read_name words.0
  row ← read_row words.1
  text ← read_text words.2
  Ok (Update relation row text)

abbrev pub read_delete : List (List ℕ) → Result Statement Why
read_delete arguments = do
  words ← two_words arguments
  relation ← read_name words.0
  row ← read_row words.1
  Ok (Delete relation row)

abbrev pub read_read : List (List ℕ) → Result Statement Why
read_read arguments = do
  words ← two_words arguments
  relation ← read_name words.0
  row ← read_row words.1
  Ok (Read relation row)

abbrev pub read_scan : List (List ℕ) → Result Statement Why
read_scan arguments = do
  name ← one_word arguments
  relation ← read_name name
  Ok (Scan relation)

abbrev pub read_reserve : List (List ℕ) → Result Statement Why
read_reserve arguments = do
  words ← two_words arguments
  relation ← read_name words.0
  level ← read_level words.1
  Ok (Reserve relation level)

-- The statement that a statement word and its arguments give.
abbrev pub read_arguments : List ℕ → List (List ℕ) → Result Statement Why
read_arguments word arguments =
    if bytes_eq word (codes "attach") then read_bare Attach arguments else (
    if bytes_eq word (codes "begin") then read_begin arguments else (
    if bytes_eq word (codes "insert") then read_insert arguments else (
    if bytes_eq word (codes "update") then read_update arguments else (
    if bytes_eq word (codes "delete") then read_delete arguments else (
    if bytes_eq word (codes "read") then read_read arguments else (
    if bytes_eq word (codes "scan") then read_scan arguments else (
    if bytes_eq word (codes "reserve") then read_reserve arguments else (
    if bytes_eq word (codes "sweep") then read_bare Sweep arguments else (
    if bytes_eq word (codes "commit") then read_bare Commit arguments else (
    if bytes_eq word (codes "rollback") then read_bare Rollback arguments else (
    if bytes_eq word (codes "detach") then read_bare Detach arguments else Err why.Word)))))))))))

-- The statement that words spell, or the first cause: an unknown statement word, too few or too many words, an argument.
abbrev pub read_statement : List (List ℕ) → Result Statement Why
read_statement [] = Err why.Count
read_statement (word ∷ arguments) = read_arguments word arguments
