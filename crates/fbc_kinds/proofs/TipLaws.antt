use Rattle.std.proofs.Common.{◌≡◌, ◌+◌, ◌-◌, ◌*◌, ◌/◌, ◌%◌, ◌<◌, ℕ, zero, suc, List, length, refl, sym, ap, ◌∙◌, arith}
use Rattle.std.specs.Prelude.{slice_index_or}
use Rattle.std.proofs.lemmas.List.{same_lists, get_or_default}
use Rattle.fbc_kinds.specs.declared.pages.State.{State}
use Rattle.fbc_kinds.specs.declared.pages.State.TheVariants.{Active, Limbo, Dead, Committed}
use Rattle.fbc_kinds.specs.declared.pages.Tip.{Tip}
use Rattle.fbc_kinds.specs.TipSpelling.{SpellsTip, state_code, state_of_code, code_at, states_byte}
use Rattle.fbc_kinds.proofs.Numbers.{same_number_4}
use Rattle.fbc_kinds.proofs.Pieces.{same_front-head, same_pages}

-- A code has two bits.
pub state_code-small : (state : State) → state_code state < 4
state_code-small Active = omega arith
state_code-small Limbo = omega arith
state_code-small Dead = omega arith
state_code-small Committed = omega arith

-- No two states have one code.
pub state_of_code-state_code : (state : State) → state_of_code (state_code state) ≡ state
state_of_code-state_code Active = refl
state_of_code-state_code Limbo = refl
state_of_code-state_code Dead = refl
state_of_code-state_code Committed = refl

-- Numbers of four digits to the base 4 that are equal have equal digits.
pub record SameFour (a b c d e f g h : ℕ) : Type 0 where
  pub first : a ≡ e
  pub second : b ≡ f
  pub third : c ≡ g
  pub fourth : d ≡ h

same_four : (a b c d e f g h : ℕ) → a < 4 → b < 4 → c < 4 → d < 4 → e < 4 → f < 4 → g < 4 → h < 4 → a + 4 * (b + 4 * (c + 4 * (d + 0))) ≡ e + 4 * (f + 4 * (g + 4 * (h + 0))) → SameFour a b c d e f g h
same_four a b c d e f g h ha hb hc hd he hf hg hh same =
    record { first = omega arith; second = omega arith; third = omega arith; fourth = omega arith }

-- Equal bytes of states hold the same four codes.
same_codes : (s t : List State) (k : ℕ) → states_byte s k ≡ states_byte t k → SameFour (code_at s (4 * k + 0)) (code_at s (4 * k + 1)) (code_at s (4 * k + 2)) (code_at s (4 * k + 3)) (code_at t (4 * k + 0)) (code_at t (4 * k + 1)) (code_at t (4 * k + 2)) (code_at t (4 * k + 3))
same_codes s t k same =
    same_four _ _ _ _ _ _ _ _ (state_code-small _) (state_code-small _) (state_code-small _) (state_code-small _) (state_code-small _) (state_code-small _) (state_code-small _) (state_code-small _) same

-- The digit of one place.
same_code : (s t : List State) (k r : ℕ) → states_byte s k ≡ states_byte t k → r < 4 → code_at s (4 * k + r) ≡ code_at t (4 * k + r)
same_code s t k zero same below = (same_codes s t k same).first
same_code s t k (suc zero) same below = (same_codes s t k same).second
same_code s t k (suc (suc zero)) same below = (same_codes s t k same).third
same_code s t k (suc (suc (suc zero))) same below = (same_codes s t k same).fourth
same_code s t k (suc (suc (suc (suc r)))) same below = absurd (omega arith)

-- States with the same bytes are the same.
pub same_states : (n : ℕ) (s t : List State) → length s ≡ 4 * n → length t ≡ 4 * n → ((k : ℕ) → k < n → states_byte s k ≡ states_byte t k) → s ≡ t
same_states n s t ls lt bytes = same_lists s t (ls ∙ sym lt) (λ i d below.
    let place : 4 * (i / 4) + i % 4 ≡ i = omega arith in
    let codes : code_at s (4 * (i / 4) + i % 4) ≡ code_at t (4 * (i / 4) + i % 4) = same_code s t (i / 4) (i % 4) (bytes (i / 4) (omega arith)) (omega arith) in
    let code : code_at s i ≡ code_at t i = rw place at codes in
    get_or_default s i d Active below ∙ (sym (state_of_code-state_code (slice_index_or s i Active)) ∙ ap state_of_code code ∙ state_of_code-state_code (slice_index_or t i Active)) ∙ get_or_default t i Active d (omega arith))

-- No bytes spell two transaction inventory pages.
pub tip-one_page : (size : ℕ) (s t : Tip) (bytes : List ℕ) → SpellsTip size s bytes → SpellsTip size t bytes → s ≡ t
tip-one_page size s t bytes x y =
    let page : s.page ≡ t.page = same_number_4 s.page t.page x.fits.page y.fits.page (sym x.head.page_is ∙ y.head.page_is) in
    let sequence : s.sequence ≡ t.sequence = same_number_4 s.sequence t.sequence x.fits.sequence y.fits.sequence (sym x.head.sequence_is ∙ y.head.sequence_is) in
    let states : s.states ≡ t.states = same_states (size - 16) s.states t.states x.fits.count y.fits.count (λ k below. sym (x.states k below) ∙ y.states k below) in
    let made : ℕ → ℕ → List State → Tip = λ p q r. record { page = p; sequence = q; states = r } in
    ap (λ (p : ℕ). made p s.sequence s.states) page ∙ ap (λ (q : ℕ). made t.page q s.states) sequence ∙ ap (λ (r : List State). made t.page t.sequence r) states

-- A transaction inventory page has one spelling.
pub tip-one_spelling : (size : ℕ) (tip : Tip) (a b : List ℕ) → SpellsTip size tip a → SpellsTip size tip b → a ≡ b
tip-one_spelling size tip a b x y =
    same_pages size a b x.size_is y.size_is (same_front-head 3 0 tip.page tip.sequence a b x.head y.head) (λ k below. x.states k below ∙ sym (y.states k below))

-- The code of the state of a code is that code.
pub state_code-state_of_code : (code : ℕ) → code < 4 → state_code (state_of_code code) ≡ code
state_code-state_of_code zero small = refl
state_code-state_of_code (suc zero) small = refl
state_code-state_of_code (suc (suc zero)) small = refl
state_code-state_of_code (suc (suc (suc zero))) small = refl
state_code-state_of_code (suc (suc (suc (suc n)))) small = absurd (omega arith)
