-- Runs of calls follow each other, and each call is one.
use Rattle.std.proofs.Common.{◌≡◌, ℕ, Bool, true, false, if◌then◌else◌, List, Result, Ok, Err, IfOk, OnErr, sym, subst, arith}
use Rattle.fbc_kinds.specs.declared.edits.Edit.{Edit}
use Rattle.fbc_notes.specs.declared.notes.Note.{Note}
use Rattle.fbc_desk.specs.declared.edits.Made.{Made}
use Rattle.fbc_desk.specs.declared.edits.Made.TheVariants as made
use Rattle.fbc_desk.specs.Desk.{DeskState}
use Rattle.fbc_desk.specs.Calls.{EditComesTo, GoesOn, IsCall, UnpinsIfPinned, after_look, after_mark, after_pin, goes, halts, looks, makes, marks, notes, pins, stays, unpins}
use Rattle.fbc_desk.specs.Noting.{is_noted, may_note_now, with_note}

-- What goes on from one desk to a second, and from there to a third, goes on from the first to the third.
pub goes_on : (a b c : DeskState) → GoesOn a b → GoesOn b c → GoesOn a c
goes_on a _ _ first (stays b) = first
goes_on a _ _ first (goes b between c before call) = goes a between c (goes_on a b between first before) call

-- One call goes on.
pub one_call : (a b : DeskState) → IsCall a b → GoesOn a b
one_call a b call = goes a a b (stays a) call

-- A desk that is the same goes on.
pub same_goes : (a b : DeskState) → b ≡ a → GoesOn a b
same_goes a b is = subst (λ (d : DeskState). GoesOn a d) (sym is) (stays a)

pub pin_goes : (a b : DeskState) (page : ℕ) → b ≡ after_pin a page → GoesOn a b
pin_goes a b page is = subst (λ (d : DeskState). GoesOn a d) (sym is) (one_call a (after_pin a page) (pins a page))

pub look_goes : (a b : DeskState) (page : ℕ) → b ≡ after_look a page → GoesOn a b
look_goes a b page is = subst (λ (d : DeskState). GoesOn a d) (sym is) (one_call a (after_look a page) (looks a page))

pub mark_goes : (a b : DeskState) (page : ℕ) → b ≡ after_mark a page → GoesOn a b
mark_goes a b page is = subst (λ (d : DeskState). GoesOn a d) (sym is) (one_call a (after_mark a page) (marks a page))

-- A note is made where it may be.
may_be_noted : (a : DeskState) (note : Note) → true ≡ is_noted a note → may_note_now a note ≡ true
may_be_noted a note noted = grind (arith, noted)

pub note_goes : (a b : DeskState) (note : Note) (made : Bool) → made ≡ is_noted a note → b ≡ (if made then with_note note a else a) → GoesOn a b
note_goes a b note true noted is = subst (λ (d : DeskState). GoesOn a d) (sym is) (one_call a (with_note note a) (notes a note (may_be_noted a note noted)))
note_goes a b note false noted is = same_goes a b is

pub unpin_goes : (a b : DeskState) (page : ℕ) → UnpinsIfPinned a page b → GoesOn a b
unpin_goes a b page is = one_call a b (unpins a page b is)

pub edit_goes : (a b : DeskState) (page : ℕ) (edit : Edit) (highs : List ℕ) (answer : Made) → EditComesTo a b page edit highs answer → GoesOn a b
edit_goes a b page edit highs made.Done comes = one_call a b (makes a page edit highs b comes)
edit_goes a b page edit highs (made.WriteFirst written high) comes = one_call a b (halts a page edit highs high b comes.1)
edit_goes a b page edit highs made.Refused comes = same_goes a b comes.1

pub result_goes : {E : Type 0} (a b : DeskState) (page : ℕ) (edit : Edit) (highs : List ℕ) (result : Result Made E)
    → IfOk result (EditComesTo a b page edit highs) → OnErr result (b ≡ a) → GoesOn a b
result_goes a b page edit highs (Ok answer) comes err = edit_goes a b page edit highs answer comes
result_goes a b page edit highs (Err error) comes err = same_goes a b err
