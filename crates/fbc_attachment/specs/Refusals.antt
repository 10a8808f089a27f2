-- The refusals of a statement that its own words bring, before any step.
use Rattle.std.specs.Prelude.{◌≡◌, ℕ, Bool, true, false, not, ◌&&◌, if◌then◌else◌, nat_lt, List, length, take, Option, Some, None, is_none, option_and_then}
use Rattle.std.specs.List.{position_from}
use Rattle.std.specs.Option.{option_map_or}
use Rattle.std.specs.Str.{bytes_eq}
use Rattle.fbc_kinds.specs.declared.replies.Reply.{Reply}
use Rattle.fbc_kinds.specs.declared.replies.Reply.TheVariants as reply
use Rattle.fbc_kinds.specs.declared.shapes.Shape.{Shape}
use Rattle.fbc_kinds.specs.Edits.{value_length}
use Rattle.fbc_script.specs.declared.script.Statement.{Statement}
use Rattle.fbc_script.specs.declared.script.Statement.TheVariants.{Attach, Begin, Insert, Update, Delete, Read, Scan, Reserve, Detach}
use Rattle.fbc_attachment.specs.declared.refusals.Refusal.{Refusal}
use Rattle.fbc_attachment.specs.declared.refusals.Refusal.TheVariants as refusal

-- The number of a relation is its place among the shape's names.
abbrev pub relation_number : Shape → List ℕ → Option ℕ
relation_number shape name = position_from (bytes_eq name) 0 (take shape.count shape.names)

-- The relation that a statement names.
abbrev pub name_in : Statement → Option (List ℕ)
name_in (Insert name text) = Some name
name_in (Update name row text) = Some name
name_in (Delete name row) = Some name
name_in (Read name row) = Some name
name_in (Scan name) = Some name
name_in (Reserve name level) = Some name
name_in _ = None

-- The text that it gives.
abbrev pub text_in : Statement → Option (List ℕ)
text_in (Insert name text) = Some text
text_in (Update name row text) = Some text
text_in _ = None

-- Whether it names a relation that the file does not have.
abbrev pub lacks_relation : Shape → Statement → Bool
lacks_relation shape statement = option_map_or (λ name. is_none (relation_number shape name)) (name_in statement) false

-- Whether it is a transaction's: all but attach, begin and detach.
abbrev pub wants_transaction : Statement → Bool
wants_transaction Attach = false
wants_transaction (Begin wait) = false
wants_transaction Detach = false
wants_transaction _ = true

abbrev pub is_begin : Statement → Bool
is_begin (Begin wait) = true
is_begin _ = false

-- The length of its text in bytes, 0 without one, and the greatest length of its relation's values.
abbrev pub text_length : Statement → ℕ
text_length statement = option_map_or length (text_in statement) 0

abbrev pub greatest_length : Shape → Statement → ℕ
greatest_length shape statement = option_map_or (value_length shape) (option_and_then (relation_number shape) (name_in statement)) 0

abbrev pub is_too_long : Shape → Statement → Bool
is_too_long shape statement = nat_lt (greatest_length shape statement) (text_length statement)

-- It names no relation, or one that the file has.
abbrev pub HasItsRelation : Shape → Statement → Type 0
HasItsRelation shape statement = lacks_relation shape statement ≡ false

-- It is a transaction's, and none is open.
abbrev pub LacksTransaction : Statement → Bool → Type 0
LacksTransaction statement is_open = (wants_transaction statement ≡ true) × (is_open ≡ false)

-- Its text has so many bytes, and that is too long.
abbrev pub HasLongText : Shape → Statement → ℕ → Type 0
HasLongText shape statement n = (is_too_long shape statement ≡ true) × (n ≡ text_length statement)

-- The refusal of its text, if it is too long.
abbrev pub length_refusal : Shape → Statement → Option Refusal
length_refusal shape statement = if is_too_long shape statement then Some (refusal.TooLong (text_length statement)) else None

-- The refusals, in their order.
abbrev pub refusal_of : Statement → Shape → Bool → Option Refusal
refusal_of statement shape is_open =
    if lacks_relation shape statement then Some refusal.NoRelation
    else (if wants_transaction statement && not is_open then Some refusal.NoTransaction
    else (if is_begin statement && is_open then Some refusal.AlreadyOpen
    else length_refusal shape statement))

-- The reply to a statement that is refused so.
abbrev pub reply_to : Refusal → Reply
reply_to refusal.NoRelation = reply.NoRelation
reply_to refusal.NoTransaction = reply.NoTransaction
reply_to refusal.AlreadyOpen = reply.AlreadyOpen
reply_to (refusal.TooLong length) = reply.TooLong length
