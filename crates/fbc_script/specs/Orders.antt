-- Lines: an attachment's statement, or a line word with what it needs.
use Rattle.std.specs.Prelude.{ℕ, Bool, not, ◌&&◌, List, [], ◌∷◌, codes, Result, Ok, Err, if◌then◌else◌}
use Rattle.std.specs.Str.{bytes_eq}
use Rattle.fbc_script.specs.declared.faults.Why.{Why}
use Rattle.fbc_script.specs.declared.faults.Why.TheVariants as why
use Rattle.fbc_script.specs.declared.script.Order.{Order}
use Rattle.fbc_script.specs.declared.script.Order.TheVariants.{Plain, Post, Step, Run, Kill, Arm, Reopen}
use Rattle.fbc_script.specs.Pieces.{words_of, is_spaced}
use Rattle.fbc_script.specs.Words.{read_attachment, read_count, read_step}
use Rattle.fbc_script.specs.Statements.{◌>>=◌, no_words, one_word, two_words, read_statement}

-- An attachment's statement.
abbrev pub read_plain : List ℕ → List (List ℕ) → Result Order Why
read_plain name words = do
  at ← read_attachment name
  statement ← read_statement words
  Ok (Plain at statement)

-- An attachment in its place and the words behind it.
abbrev pub read_at : List (List ℕ) → Result (ℕ × List (List ℕ)) Why
read_at [] = Err why.Count
read_at (name ∷ words) = do
  at ← read_attachment name
  Ok (at, words)

abbrev pub read_post : List (List ℕ) → Result Order Why
read_post words = do
  rest ← read_at words
  statement ← read_statement rest.1
  Ok (Post rest.0 statement)

abbrev pub read_steps : List (List ℕ) → Result Order Why
read_steps words = do
  rest ← read_at words
  number ← one_word rest.1
  count ← read_count number
  Ok (Step rest.0 count)

abbrev pub read_kill : List (List ℕ) → Result Order Why
read_kill words = do
  rest ← read_at words
  _ ← no_words rest.1
  Ok (Kill rest.0)

abbrev pub read_trap : List (List ℕ) → Result Order Why
read_trap words = do
  rest ← read_at words
  step ← two_words rest.1
  name ← read_step step.0
  count ← read_count step.1
  Ok (Arm rest.0 (record { name = name; count = count }))

-- A line word without more.
abbrev pub read_lone : Order → List (List ℕ) → Result Order Why
read_lone order words = do
  _ ← no_words words
  Ok order

-- The line that words spell; with threads the line words `post`, `step`, `run` and `reopen` are unknown.
abbrev pub read_order_from : Bool → List ℕ → List (List ℕ) → Result Order Why
read_order_from threads word words =
    if bytes_eq word (codes "kill") then read_kill words else (
    if bytes_eq word (codes "trap") then read_trap words else (
    if not threads && bytes_eq word (codes "post") then read_post words else (
    if not threads && bytes_eq word (codes "step") then read_steps words else (
    if not threads && bytes_eq word (codes "run") then read_lone Run words else (
    if not threads && bytes_eq word (codes "reopen") then read_lone Reopen words else read_plain word words)))))

abbrev pub read_order : Bool → List (List ℕ) → Result Order Why
read_order threads [] = Err why.Count
read_order threads (word ∷ words) = read_order_from threads word words

-- What a line that is not passed over asks for, or the first cause of its fault.
abbrev pub read_line : Bool → List ℕ → Result Order Why
read_line threads line = if is_spaced line then read_order threads (words_of line) else Err why.Space
