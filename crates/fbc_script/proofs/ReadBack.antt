-- What is printed reads back.
use Rattle.std.proofs.Common.{◌≡◌, ℕ, ◌+◌, ◌<◌, Bool, true, false, ◌&&◌, ◌==◌, if◌then◌else◌, List, [], ◌∷◌, ◌++◌, length, Option, None, Result, Ok, Err, refl, ◌∙◌, arith}
use Rattle.std.specs.List.{list_all}
use Rattle.std.proofs.lemmas.Bool.Decides.{nat_tests}
use Rattle.std.proofs.lemmas.Bool.{and_parts}
use Rattle.fbc_script.specs.declared.faults.Why.{Why}
use Rattle.fbc_script.specs.declared.faults.ScriptFault.{ScriptFault}
use Rattle.fbc_script.specs.declared.script.Order.{Order}
use Rattle.fbc_script.specs.declared.script.Line.{Line}
use Rattle.fbc_script.specs.declared.script.Script.{Script}
use Rattle.fbc_script.specs.Pieces.{split_lines, is_printable, is_passed_over}
use Rattle.fbc_script.specs.Orders.{read_line}
use Rattle.fbc_script.specs.Scripts.{fault_at, first_fault, line_at, kept_lines, IsScript}
use Rattle.fbc_script.specs.Spelling.{text_at, kept_behind, lines_text, script_text}
use Rattle.fbc_script.proofs.Inversion.{line-is}

-- A line before its line feed.
no_feed : (byte : ℕ) → is_printable byte ≡ true → (byte == 10) ≡ false
no_feed byte is = grind (arith, nat_tests)

printable : (byte : ℕ) (bytes : List ℕ) → list_all is_printable (byte ∷ bytes) ≡ true → (is_printable byte ≡ true) × (list_all is_printable bytes ≡ true)
printable byte bytes all = and_parts (is_printable byte) (list_all is_printable bytes) all

split_lines-line : (line rest : List ℕ) → list_all is_printable line ≡ true → split_lines (line ++ 10 ∷ rest) ≡ line ∷ split_lines rest
split_lines-line [] rest all = refl
split_lines-line (byte ∷ bytes) rest all =
    let parts = printable byte bytes all in
    rw (no_feed byte parts.0, split_lines-line bytes rest parts.1) refl

-- Lines with nothing in those that are passed over.
abbrev canon : List (List ℕ) → List (List ℕ)
canon [] = []
canon (line ∷ lines) = (if is_passed_over line then [] else line) ∷ canon lines

length-canon : (lines : List (List ℕ)) → length (canon lines) ≡ length lines
length-canon [] = refl
length-canon (line ∷ lines) = rw (length-canon lines) refl

fault-by : (is threads : Bool) (number : ℕ) (line : List ℕ) (some more : Option ScriptFault) → is_passed_over line ≡ is → some ≡ more → (if is_passed_over (if is then [] else line) then some else fault_at number (read_line threads (if is then [] else line)) some) ≡ (if is then more else fault_at number (read_line threads line) more)
fault-by true threads number line some more is same = same
fault-by false threads number line some more is same = rw (is, same) refl

first_fault-canon : (threads : Bool) (number : ℕ) (lines : List (List ℕ)) → first_fault threads number (canon lines) ≡ first_fault threads number lines
first_fault-canon threads number [] = refl
first_fault-canon threads number (line ∷ lines) = fault-by (is_passed_over line) threads number line _ _ refl (first_fault-canon threads (number + 1) lines)

kept-by : (is threads : Bool) (number : ℕ) (line : List ℕ) (some more : List Line) → is_passed_over line ≡ is → some ≡ more → (if is_passed_over (if is then [] else line) then some else line_at number (read_line threads (if is then [] else line)) some) ≡ (if is then more else line_at number (read_line threads line) more)
kept-by true threads number line some more is same = same
kept-by false threads number line some more is same = rw (is, same) refl

kept_lines-canon : (threads : Bool) (number : ℕ) (lines : List (List ℕ)) → kept_lines threads number (canon lines) ≡ kept_lines threads number lines
kept_lines-canon threads number [] = refl
kept_lines-canon threads number (line ∷ lines) = kept-by (is_passed_over line) threads number line _ _ refl (kept_lines-canon threads (number + 1) lines)

-- Kept lines that stand later than this number.
abbrev StandLater : ℕ → List Line → Type 0
StandLater number kept = (text_at number kept ≡ []) × (kept_behind number kept ≡ kept)

later-by : (passed : Bool) (read : Result Order Why) (number at : ℕ) (kept : List Line) → number < at → StandLater number kept → StandLater number (if passed then kept else line_at at read kept)
later-by true read number at kept before later = later
later-by false (Err why) number at kept before later = later
later-by false (Ok order) number at kept before later =
    let other : (at == number) ≡ false = grind (arith, nat_tests) in
    (rw other refl, rw other refl)

stand_later : (threads : Bool) (number at : ℕ) (lines : List (List ℕ)) → number < at → StandLater number (kept_lines threads at lines)
stand_later threads number at [] before = (refl, refl)
stand_later threads number at (line ∷ lines) before =
    later-by (is_passed_over line) (read_line threads line) number at _ before (stand_later threads number (at + 1) lines (omega arith))

-- The printed lines are those of the script.
same_number : (number : ℕ) → (number == number) ≡ true
same_number number = grind (arith, nat_tests)

printed-by : (passed threads : Bool) (read : Result Order Why) (number count : ℕ) (line : List ℕ) (lines : List (List ℕ)) (kept : List Line) (fault : Option ScriptFault) →
    read_line threads line ≡ read → StandLater number kept → split_lines (lines_text count (number + 1) kept) ≡ lines →
    (if passed then fault else fault_at number read fault) ≡ None →
    split_lines (text_at number (if passed then kept else line_at number read kept) ++ 10 ∷ lines_text count (number + 1) (kept_behind number (if passed then kept else line_at number read kept))) ≡ (if passed then [] else line) ∷ lines
printed-by true threads read number count line lines kept fault is later more faultless = rw (later.0, later.1, more) refl
printed-by false threads (Err why) number count line lines kept fault is later more faultless = cc
printed-by false threads (Ok order) number count line lines kept fault is later more faultless =
    let this = line-is threads line order is in
    rw (same_number number, ← this.0, split_lines-line line _ this.1, more) refl

fault-behind : (passed : Bool) (read : Result Order Why) (number : ℕ) (fault : Option ScriptFault) → (if passed then fault else fault_at number read fault) ≡ None → fault ≡ None
fault-behind true read number fault none = none
fault-behind false (Ok order) number fault none = none
fault-behind false (Err why) number fault none = cc

printed-lines : (threads : Bool) (number : ℕ) (lines : List (List ℕ)) → first_fault threads number lines ≡ None → split_lines (lines_text (length lines) number (kept_lines threads number lines)) ≡ canon lines
printed-lines threads number [] faultless = refl
printed-lines threads number (line ∷ lines) faultless =
    printed-by (is_passed_over line) threads (read_line threads line) number (length lines) line (canon lines) (kept_lines threads (number + 1) lines) (first_fault threads (number + 1) lines) refl
    (stand_later threads number (number + 1) lines (omega arith))
    (printed-lines threads (number + 1) lines (fault-behind (is_passed_over line) (read_line threads line) number _ faultless))
    faultless

script_lines : (threads : Bool) (bytes : List ℕ) (script : Script) → IsScript threads bytes script → split_lines (script_text script) ≡ canon (split_lines bytes)
script_lines threads bytes script is = rw (is.length, is.lines) (printed-lines threads 1 (split_lines bytes) is.faultless)

pub IsScript-script_text : (threads : Bool) (bytes : List ℕ) (script : Script) → IsScript threads bytes script → IsScript threads (script_text script) script
IsScript-script_text threads bytes script is =
    let lines = script_lines threads bytes script is in
    record {
      faultless = rw lines (first_fault-canon threads 1 (split_lines bytes) ∙ is.faultless);
      lines = rw (lines, kept_lines-canon threads 1 (split_lines bytes)) is.lines;
      length = rw (lines, length-canon (split_lines bytes)) is.length;
    }
