-- Whoever reads a line reads its one spelling.
use Rattle.std.proofs.Common.{◌≡◌, ℕ, Bool, true, false, ◌&&◌, not, if◌then◌else◌, List, [], ◌∷◌, codes, Option, Some, None, Result, Ok, Err, decimal, refl, sym, ap, ◌∙◌, lit<}
use Rattle.std.specs.Option.{ok_or}
use Rattle.std.specs.List.{list_all}
use Rattle.std.specs.Str.{bytes_eq}
use Rattle.std.proofs.lemmas.Slice.Eq.{bytes_eq-Decides}
use Rattle.fbc_levels.specs.Names.{name_of}
use Rattle.fbc_levels.specs.declared.levels.Level.{Level}
use Rattle.fbc_outside.specs.declared.gate.StepName.{StepName}
use Rattle.fbc_script.specs.declared.faults.Why.{Why}
use Rattle.fbc_script.specs.declared.faults.Why.TheVariants as why
use Rattle.fbc_script.specs.declared.script.Statement.{Statement}
use Rattle.fbc_script.specs.declared.script.Statement.TheVariants.{Attach, Sweep, Commit, Rollback, Detach}
use Rattle.fbc_script.specs.declared.script.Order.{Order}
use Rattle.fbc_script.specs.declared.script.Order.TheVariants.{Run, Reopen}
use Rattle.fbc_script.specs.Pieces.{words_of, is_printable, has_single_spaces, is_spaced}
use Rattle.fbc_kinds.specs.HeaderSpelling.{is_name}
use Rattle.fbc_script.specs.Words.{read_attachment, read_name, read_text, read_row, read_count, read_mode, read_level, read_step}
use Rattle.fbc_script.specs.Statements.{◌>>=◌, no_words, one_word, two_words, three_words, read_bare, read_begin, read_insert, read_update, read_delete, read_read, read_scan, read_reserve, read_arguments, read_statement}
use Rattle.fbc_script.specs.Orders.{read_plain, read_at, read_post, read_steps, read_kill, read_trap, read_lone, read_order_from, read_order, read_line}
use Rattle.fbc_script.specs.Spelling.{attachment_word, mode_word, step_word, statement_words, order_words, joined, order_text}
use Rattle.fbc_script.proofs.Joining.{joined-words_of}
use Rattle.fbc_script.proofs.Numerals.{decimal-number_of, decimal-attachment_of}

-- A choice that gives a value.
chosen : {A : Type 0} (P : Type 0) (is : Bool) (a b : Result A Why) (x : A) → (is ≡ true → a ≡ Ok x → P) → (b ≡ Ok x → P) → (if is then a else b) ≡ Ok x → P
chosen P true a b x this other ok = this refl ok
chosen P false a b x this other ok = other ok

-- What was read before.
bound : {A B : Type 0} (P : Type 0) (r : Result A Why) (f : A → Result B Why) (b : B) → ((a : A) → r ≡ Ok a → f a ≡ Ok b → P) → (r >>= f) ≡ Ok b → P
bound P (Ok a) f b next ok = next a refl ok
bound P (Err e) f b next ok = cc

-- What was there.
there : {A : Type 0} (o : Option A) (e : Why) (a : A) → ok_or o e ≡ Ok a → o ≡ Some a
there None e a ok = cc
there (Some x) e a ok = cc

word-is : (word text : List ℕ) → bytes_eq word text ≡ true → word ≡ text
word-is word text is = (bytes_eq-Decides word text).0 is

-- Words by their number.
none-are : (words : List (List ℕ)) (found : Unit {0}) → no_words words ≡ Ok found → words ≡ []
none-are [] found ok = refl
none-are _ found ok = cc

one-is : (words : List (List ℕ)) (found : List ℕ) → one_word words ≡ Ok found → words ≡ found ∷ []
one-is (a ∷ []) found ok = let these : a ≡ found = cc in ap (λ (w : List ℕ). w ∷ []) these
one-is _ found ok = cc

two-are : (words : List (List ℕ)) (found : List ℕ × List ℕ) → two_words words ≡ Ok found → words ≡ found.0 ∷ found.1 ∷ []
two-are (a ∷ b ∷ []) found ok = let these : (a, b) ≡ found = cc in ap (λ (w : List ℕ × List ℕ). w.0 ∷ w.1 ∷ []) these
two-are _ found ok = cc

three-are : (words : List (List ℕ)) (found : List ℕ × List ℕ × List ℕ) → three_words words ≡ Ok found → words ≡ found.0 ∷ found.1 ∷ found.2 ∷ []
three-are (a ∷ b ∷ c ∷ []) found ok = let these : (a, b, c) ≡ found = cc in ap (λ (w : List ℕ × List ℕ × List ℕ). w.0 ∷ w.1 ∷ w.2 ∷ []) these
three-are _ found ok = cc

-- Single words.
name-is : (word relation : List ℕ) → read_name word ≡ Ok relation → word ≡ relation
name-is word relation ok = chosen _ (is_name word) (Ok word) (Err why.Name) relation (λ is named. cc) (λ named. cc) ok

text-is : (word text : List ℕ) → read_text word ≡ Ok text → word ≡ text
text-is word text ok = chosen _ _ (Ok word) (Err why.Text) text (λ is named. cc) (λ named. cc) ok

row-is : (word : List ℕ) (row : ℕ) → read_row word ≡ Ok row → word ≡ decimal row
row-is word row ok = decimal-number_of 0 4294967295 row word (lit< tt) (there _ _ row ok)

count-is : (word : List ℕ) (count : ℕ) → read_count word ≡ Ok count → word ≡ decimal count
count-is word count ok = decimal-number_of 1 65535 count word (lit< tt) (there _ _ count ok)

attachment-is : (word : List ℕ) (at : ℕ) → read_attachment word ≡ Ok at → word ≡ attachment_word at
attachment-is word at ok = decimal-attachment_of word at (there _ _ at ok)

mode-is : (word : List ℕ) (wait : Bool) → read_mode word ≡ Ok wait → word ≡ mode_word wait
mode-is word wait ok =
    chosen _ (bytes_eq word (codes "wait")) _ _ wait (λ is it. let this = word-is word (codes "wait") is in cc) (λ other.
    chosen _ (bytes_eq word (codes "nowait")) _ _ wait (λ is it. let this = word-is word (codes "nowait") is in cc) (λ last. cc) other) ok

level-is : (word : List ℕ) (level : Level) → read_level word ≡ Ok level → word ≡ name_of level
level-is word level ok =
    chosen _ (bytes_eq word (codes "SR")) _ _ level (λ is it. let this = word-is word (codes "SR") is in cc) (λ b.
    chosen _ (bytes_eq word (codes "PR")) _ _ level (λ is it. let this = word-is word (codes "PR") is in cc) (λ c.
    chosen _ (bytes_eq word (codes "SW")) _ _ level (λ is it. let this = word-is word (codes "SW") is in cc) (λ d.
    chosen _ (bytes_eq word (codes "PW")) _ _ level (λ is it. let this = word-is word (codes "PW") is in cc) (λ e.
    chosen _ (bytes_eq word (codes "EX")) _ _ level (λ is it. let this = word-is word (codes "EX") is in cc) (λ last. cc) e) d) c) b) ok

step-is : (word : List ℕ) (step : StepName) → read_step word ≡ Ok step → word ≡ step_word step
step-is word step ok =
    chosen _ (bytes_eq word (codes "ask")) _ _ step (λ is it. let this = word-is word (codes "ask") is in cc) (λ b.
    chosen _ (bytes_eq word (codes "look")) _ _ step (λ is it. let this = word-is word (codes "look") is in cc) (λ c.
    chosen _ (bytes_eq word (codes "lower")) _ _ step (λ is it. let this = word-is word (codes "lower") is in cc) (λ d.
    chosen _ (bytes_eq word (codes "read")) _ _ step (λ is it. let this = word-is word (codes "read") is in cc) (λ e.
    chosen _ (bytes_eq word (codes "write")) _ _ step (λ is it. let this = word-is word (codes "write") is in cc) (λ f.
    chosen _ (bytes_eq word (codes "callback")) _ _ step (λ is it. let this = word-is word (codes "callback") is in cc) (λ g.
    chosen _ (bytes_eq word (codes "mark")) _ _ step (λ is it. let this = word-is word (codes "mark") is in cc) (λ h.
    chosen _ (bytes_eq word (codes "poll")) _ _ step (λ is it. let this = word-is word (codes "poll") is in cc) (λ i.
    chosen _ (bytes_eq word (codes "answer")) _ _ step (λ is it. let this = word-is word (codes "answer") is in cc) (λ last. cc) i) h) g) f) e) d) c) b) ok

-- Statements by their words.
bare-is : (word text : List ℕ) (bare statement : Statement) (arguments : List (List ℕ)) → statement_words bare ≡ text ∷ [] → bytes_eq word text ≡ true → read_bare bare arguments ≡ Ok statement → word ∷ arguments ≡ statement_words statement
bare-is word text bare statement arguments spelled is ok =
    bound _ (no_words arguments) _ statement (λ found none last.
    let all = none-are arguments found none in
    let this = word-is word text is in
    let same : bare ≡ statement = cc in
    cc (ap statement_words same)) ok

begin-is : (word : List ℕ) (arguments : List (List ℕ)) (statement : Statement) → bytes_eq word (codes "begin") ≡ true → read_begin arguments ≡ Ok statement → word ∷ arguments ≡ statement_words statement
begin-is word arguments statement is ok =
    bound _ (one_word arguments) _ statement (λ mode one.
    bound _ (read_mode mode) _ statement (λ wait named last.
    let this = word-is word (codes "begin") is in
    let all = one-is arguments mode one in
    let first : mode ≡ mode_word wait = mode-is mode wait named in
    cc)) ok

insert-is : (word : List ℕ) (arguments : List (List ℕ)) (statement : Statement) → bytes_eq word (codes "insert") ≡ true → read_insert arguments ≡ Ok statement → word ∷ arguments ≡ statement_words statement
insert-is word arguments statement is ok =
    bound _ (two_words arguments) _ statement (λ words two.
    bound _ (read_name words.0) _ statement (λ relation named.
    bound _ (read_text words.1) _ statement (λ text spelled last.
    let this = word-is word (codes "insert") is in
    let all = two-are arguments words two in
    let first : words.0 ≡ relation = name-is words.0 relation named in
    let second : words.1 ≡ text = text-is words.1 text spelled in
    cc))) ok

delete-is : (word : List ℕ) (arguments : List (List ℕ)) (statement : Statement) → bytes_eq word (codes "delete") ≡ true → read_delete arguments ≡ Ok statement → word ∷ arguments ≡ statement_words statement
delete-is word arguments statement is ok =
    bound _ (two_words arguments) _ statement (λ words two.
    bound _ (read_name words.0) _ statement (λ relation named.
    bound _ (read_row words.1) _ statement (λ row spelled last.
    let this = word-is word (codes "delete") is in
    let all = two-are arguments words two in
    let first : words.0 ≡ relation = name-is words.0 relation named in
    let second : words.1 ≡ decimal row = row-is words.1 row spelled in
    cc))) ok

read-is : (word : List ℕ) (arguments : List (List ℕ)) (statement : Statement) → bytes_eq word (codes "read") ≡ true → read_read arguments ≡ Ok statement → word ∷ arguments ≡ statement_words statement
read-is word arguments statement is ok =
    bound _ (two_words arguments) _ statement (λ words two.
    bound _ (read_name words.0) _ statement (λ relation named.
    bound _ (read_row words.1) _ statement (λ row spelled last.
    let this = word-is word (codes "read") is in
    let all = two-are arguments words two in
    let first : words.0 ≡ relation = name-is words.0 relation named in
    let second : words.1 ≡ decimal row = row-is words.1 row spelled in
    cc))) ok

reserve-is : (word : List ℕ) (arguments : List (List ℕ)) (statement : Statement) → bytes_eq word (codes "reserve") ≡ true → read_reserve arguments ≡ Ok statement → word ∷ arguments ≡ statement_words statement
reserve-is word arguments statement is ok =
    bound _ (two_words arguments) _ statement (λ words two.
    bound _ (read_name words.0) _ statement (λ relation named.
    bound _ (read_level words.1) _ statement (λ level spelled last.
    let this = word-is word (codes "reserve") is in
    let all = two-are arguments words two in
    let first : words.0 ≡ relation = name-is words.0 relation named in
    let second : words.1 ≡ name_of level = level-is words.1 level spelled in
    cc))) ok

update-is : (word : List ℕ) (arguments : List (List ℕ)) (statement : Statement) → bytes_eq word (codes "update") ≡ true → read_update arguments ≡ Ok statement → word ∷ arguments ≡ statement_words statement
update-is word arguments statement is ok =
    bound _ (three_words arguments) _ statement (λ words three.
    bound _ (read_name words.0) _ statement (λ relation named.
    bound _ (read_row words.1) _ statement (λ row numbered.
    bound _ (read_text words.2) _ statement (λ text spelled last.
    let this = word-is word (codes "update") is in
    let all = three-are arguments words three in
    let first : words.0 ≡ relation = name-is words.0 relation named in
    let second : words.1 ≡ decimal row = row-is words.1 row numbered in
    let third : words.2 ≡ text = text-is words.2 text spelled in
    cc)))) ok

scan-is : (word : List ℕ) (arguments : List (List ℕ)) (statement : Statement) → bytes_eq word (codes "scan") ≡ true → read_scan arguments ≡ Ok statement → word ∷ arguments ≡ statement_words statement
scan-is word arguments statement is ok =
    bound _ (one_word arguments) _ statement (λ name one.
    bound _ (read_name name) _ statement (λ relation named last.
    let this = word-is word (codes "scan") is in
    let all = one-is arguments name one in
    let first : name ≡ relation = name-is name relation named in
    cc)) ok

arguments-are : (word : List ℕ) (arguments : List (List ℕ)) (statement : Statement) → read_arguments word arguments ≡ Ok statement → word ∷ arguments ≡ statement_words statement
arguments-are word arguments statement ok =
    chosen _ (bytes_eq word (codes "attach")) _ _ statement (λ is it. bare-is word (codes "attach") Attach statement arguments refl is it) (λ b.
    chosen _ (bytes_eq word (codes "begin")) _ _ statement (λ is it. begin-is word arguments statement is it) (λ c.
    chosen _ (bytes_eq word (codes "insert")) _ _ statement (λ is it. insert-is word arguments statement is it) (λ d.
    chosen _ (bytes_eq word (codes "update")) _ _ statement (λ is it. update-is word arguments statement is it) (λ e.
    chosen _ (bytes_eq word (codes "delete")) _ _ statement (λ is it. delete-is word arguments statement is it) (λ f.
    chosen _ (bytes_eq word (codes "read")) _ _ statement (λ is it. read-is word arguments statement is it) (λ g.
    chosen _ (bytes_eq word (codes "scan")) _ _ statement (λ is it. scan-is word arguments statement is it) (λ h.
    chosen _ (bytes_eq word (codes "reserve")) _ _ statement (λ is it. reserve-is word arguments statement is it) (λ i.
    chosen _ (bytes_eq word (codes "sweep")) _ _ statement (λ is it. bare-is word (codes "sweep") Sweep statement arguments refl is it) (λ j.
    chosen _ (bytes_eq word (codes "commit")) _ _ statement (λ is it. bare-is word (codes "commit") Commit statement arguments refl is it) (λ k.
    chosen _ (bytes_eq word (codes "rollback")) _ _ statement (λ is it. bare-is word (codes "rollback") Rollback statement arguments refl is it) (λ l.
    chosen _ (bytes_eq word (codes "detach")) _ _ statement (λ is it. bare-is word (codes "detach") Detach statement arguments refl is it) (λ last. cc) l) k) j) i) h) g) f) e) d) c) b) ok

statement-is : (words : List (List ℕ)) (statement : Statement) → read_statement words ≡ Ok statement → words ≡ statement_words statement
statement-is [] statement ok = cc
statement-is (word ∷ arguments) statement ok = arguments-are word arguments statement ok

-- Lines by their words.
first-of : (name : List ℕ) (words : List (List ℕ)) (at : ℕ) (rest : ℕ × List (List ℕ)) → name ≡ attachment_word at → (at, words) ≡ rest → name ∷ words ≡ attachment_word rest.0 ∷ rest.1
first-of name words at rest named these =
    ap (λ word. word ∷ words) named ∙ ap (λ (r : ℕ × List (List ℕ)). attachment_word r.0 ∷ r.1) these

at-is : (words : List (List ℕ)) (rest : ℕ × List (List ℕ)) → read_at words ≡ Ok rest → words ≡ attachment_word rest.0 ∷ rest.1
at-is [] rest ok = cc
at-is (name ∷ words) rest ok =
    bound _ (read_attachment name) _ rest (λ at named last.
    let first : name ≡ attachment_word at = attachment-is name at named in
    let these : (at, words) ≡ rest = cc in
    first-of name words at rest first these) ok

plain-is : (name : List ℕ) (words : List (List ℕ)) (order : Order) → read_plain name words ≡ Ok order → name ∷ words ≡ order_words order
plain-is name words order ok =
    bound _ (read_attachment name) _ order (λ at named.
    bound _ (read_statement words) _ order (λ statement spelled last.
    let first : name ≡ attachment_word at = attachment-is name at named in
    let rest : words ≡ statement_words statement = statement-is words statement spelled in
    cc)) ok

post-is : (word : List ℕ) (words : List (List ℕ)) (order : Order) → bytes_eq word (codes "post") ≡ true → read_post words ≡ Ok order → word ∷ words ≡ order_words order
post-is word words order is ok =
    bound _ (read_at words) _ order (λ at named.
    bound _ (read_statement at.1) _ order (λ statement spelled last.
    let this = word-is word (codes "post") is in
    let first = at-is words at named in
    let rest : at.1 ≡ statement_words statement = statement-is at.1 statement spelled in
    cc)) ok

steps-is : (word : List ℕ) (words : List (List ℕ)) (order : Order) → bytes_eq word (codes "step") ≡ true → read_steps words ≡ Ok order → word ∷ words ≡ order_words order
steps-is word words order is ok =
    bound _ (read_at words) _ order (λ at named.
    bound _ (one_word at.1) _ order (λ number one.
    bound _ (read_count number) _ order (λ count counted last.
    let this = word-is word (codes "step") is in
    let first = at-is words at named in
    let all = one-is at.1 number one in
    let rest : number ≡ decimal count = count-is number count counted in
    cc))) ok

kill-is : (word : List ℕ) (words : List (List ℕ)) (order : Order) → bytes_eq word (codes "kill") ≡ true → read_kill words ≡ Ok order → word ∷ words ≡ order_words order
kill-is word words order is ok =
    bound _ (read_at words) _ order (λ at named.
    bound _ (no_words at.1) _ order (λ found none last.
    let this = word-is word (codes "kill") is in
    let first = at-is words at named in
    let all = none-are at.1 found none in
    cc)) ok

trap-is : (word : List ℕ) (words : List (List ℕ)) (order : Order) → bytes_eq word (codes "trap") ≡ true → read_trap words ≡ Ok order → word ∷ words ≡ order_words order
trap-is word words order is ok =
    bound _ (read_at words) _ order (λ at named.
    bound _ (two_words at.1) _ order (λ pair two.
    bound _ (read_step pair.0) _ order (λ name stepped.
    bound _ (read_count pair.1) _ order (λ count counted last.
    let this = word-is word (codes "trap") is in
    let first = at-is words at named in
    let all = two-are at.1 pair two in
    let step : pair.0 ≡ step_word name = step-is pair.0 name stepped in
    let number : pair.1 ≡ decimal count = count-is pair.1 count counted in
    cc)))) ok

lone-is : (word text : List ℕ) (lone order : Order) (words : List (List ℕ)) → order_words lone ≡ text ∷ [] → bytes_eq word text ≡ true → read_lone lone words ≡ Ok order → word ∷ words ≡ order_words order
lone-is word text lone order words spelled is ok =
    bound _ (no_words words) _ order (λ found none last.
    let all = none-are words found none in
    let this = word-is word text is in
    let same : lone ≡ order = cc in
    cc (ap order_words same)) ok

first_true : (a b : Bool) → (a && b) ≡ true → a ≡ true
first_true true b both = refl
first_true false b both = cc

-- A word that counts only without threads.
both_true : (a b : Bool) → (a && b) ≡ true → b ≡ true
both_true true b both = both
both_true false b both = cc

order-is : (threads : Bool) (word : List ℕ) (words : List (List ℕ)) (order : Order) → read_order_from threads word words ≡ Ok order → word ∷ words ≡ order_words order
order-is threads word words order ok =
    chosen _ (bytes_eq word (codes "kill")) _ _ order (λ is it. kill-is word words order is it) (λ b.
    chosen _ (bytes_eq word (codes "trap")) _ _ order (λ is it. trap-is word words order is it) (λ c.
    chosen _ (not threads && bytes_eq word (codes "post")) _ _ order (λ is it. post-is word words order (both_true (not threads) _ is) it) (λ d.
    chosen _ (not threads && bytes_eq word (codes "step")) _ _ order (λ is it. steps-is word words order (both_true (not threads) _ is) it) (λ e.
    chosen _ (not threads && bytes_eq word (codes "run")) _ _ order (λ is it. lone-is word (codes "run") Run order words refl (both_true (not threads) _ is) it) (λ f.
    chosen _ (not threads && bytes_eq word (codes "reopen")) _ _ order (λ is it. lone-is word (codes "reopen") Reopen order words refl (both_true (not threads) _ is) it) (λ last. plain-is word words order last) f) e) d) c) b) ok

words-are : (threads : Bool) (words : List (List ℕ)) (order : Order) → read_order threads words ≡ Ok order → words ≡ order_words order
words-are threads [] order ok = cc
words-are threads (word ∷ words) order ok = order-is threads word words order ok

-- A line that is read is the spelling of its order, and its bytes may stand in a line.
pub line-is : (threads : Bool) (line : List ℕ) (order : Order) → read_line threads line ≡ Ok order → (line ≡ order_text order) × (list_all is_printable line ≡ true)
line-is threads line order ok =
    chosen _ (is_spaced line) _ _ order (λ is it.
    let words : words_of line ≡ order_words order = words-are threads (words_of line) order it in
    let spaces : has_single_spaces true line ≡ true = both_true (list_all is_printable line) _ is in
    (sym (joined-words_of line spaces) ∙ ap joined words, first_true _ _ is)) (λ last. cc) ok
