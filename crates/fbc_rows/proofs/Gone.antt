-- Where a page is gone that the part remembers.
use Rattle.std.proofs.Common.{◌≡◌, ◌⊎◌, ◌∙◌, inl, inr, ℕ, Option, Some, None, IfSome, sym, ap, subst}
use Rattle.fbc_kinds.specs.declared.rules.Rule.{Rule}
use Rattle.fbc_chains.specs.Showing.{Showing}
use Rattle.fbc_rows.specs.declared.parts.InsertPart.{InsertPart}
use Rattle.fbc_rows.specs.declared.parts.Stage.{Stage}
use Rattle.fbc_rows.specs.declared.parts.Stage.TheVariants as stage
use Rattle.fbc_rows.specs.declared.searching.Stop.{Stop}
use Rattle.fbc_rows.specs.declared.searching.Stop.TheVariants as stop
use Rattle.fbc_rows.specs.Searching.{IfGone, IsGone, NamesOther, remembered}
use Rattle.fbc_rows.specs.Slots.{Names}

-- What is said of a page that is gone follows from what is known of it.
if-gone : {P Q : Type 0} (found : Option Stop) → (P → Q) → IfSome found (IfGone P) → IfSome found (IfGone Q)
if-gone None follows is = tt
if-gone (Some (stop.Room page cell)) follows is = tt
if-gone (Some (stop.Miss need)) follows is = tt
if-gone (Some stop.Gone) follows is = follows is
if-gone (Some (stop.Damaged page broken)) follows is = tt

-- A page that the slot names is not gone.
pub never-gone : (s t : Showing) (relation sequence page : ℕ) (found : Option Stop) → t ≡ s → Names s relation sequence page → IfSome found (IfGone (NamesOther t relation sequence page)) → IfSome found (IfGone ⊥)
never-gone s t relation sequence page found same names = if-gone found (λ (other : NamesOther t relation sequence page). go (subst (λ (u : Showing). NamesOther u relation sequence page) same other)) where
  go : NamesOther s relation sequence page → ⊥
  go other = other.other (other.names.1 ∙ sym names.1)

pub none-gone : (P : Type 0) (found : Option Stop) → IfSome found (IfGone ⊥) → IfSome found (IfGone P)
none-gone P found = if-gone found (λ (never : ⊥). absurd never)

-- A page that the stage remembers.
pub page-gone : (s : Showing) (relation page : ℕ) (from : InsertPart) (found : Option Stop) → from.stage ≡ stage.Page page → IfSome found (IfGone (NamesOther s relation from.at page)) → IfSome found (IfGone (IsGone s relation from))
page-gone s relation page from found is = if-gone found (λ (other : NamesOther s relation from.at page). record { page = page; is_remembered = ap (λ (at : Stage). remembered at) is; names_other = other })

pub named-gone : (s : Showing) (relation page : ℕ) (broken : Option Rule) (from : InsertPart) (found : Option Stop) → from.stage ≡ stage.Named page broken
    → IfSome found (IfGone (NamesOther s relation from.at page)) → IfSome found (IfGone (IsGone s relation from))
named-gone s relation page broken from found is = if-gone found (λ (other : NamesOther s relation from.at page). record { page = page; is_remembered = ap (λ (at : Stage). remembered at) is; names_other = other })

-- At the first sequence the part is as it was; later it remembers nothing.
pub gone-first : (s t : Showing) (relation : ℕ) (first part : InsertPart) (found : Stop) → t ≡ s → (part ≡ first) ⊎ (part.stage ≡ stage.Slot) → IfGone (IsGone t relation part) found → IfGone (IsGone s relation first) found
gone-first s t relation first part (stop.Room page cell) same is gone = tt
gone-first s t relation first part (stop.Miss need) same is gone = tt
gone-first s t relation first part (stop.Damaged page broken) same is gone = tt
gone-first s t relation first part stop.Gone same (inl is) gone = subst (λ (p : InsertPart). IsGone s relation p) is (subst (λ (u : Showing). IsGone u relation part) same gone)
gone-first s t relation first part stop.Gone same (inr is) gone = absurd (never (sym (ap (λ (at : Stage). remembered at) is) ∙ gone.is_remembered)) where
  never : {page : ℕ} → None ≡ Some page → ⊥
  never same = cc same
