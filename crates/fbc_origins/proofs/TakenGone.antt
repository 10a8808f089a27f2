-- Where a top is taken back, no version names the one any more that was below it.
use Rattle.std.proofs.Common.{◌≡◌, ◌∙◌, ℕ, true, ◌⊎◌, inl, inr, refl, sym, ap, subst}
use Rattle.fbc_kinds.specs.declared.pages.Cell.{Cell}
use Rattle.fbc_kinds.specs.Reach.{LinksTo, ReachesCell}
use Rattle.fbc_kinds.specs.Sound.{IsBackValue, IsSound}
use Rattle.fbc_kinds.specs.View.{View, is_back}
use Rattle.fbc_version_edits.specs.Forms.{IsBackout}
use Rattle.fbc_page_edits.specs.Facing.{IsLinked}
use Rattle.fbc_version_edits.specs.Differences.{IsPlace, LinksBelow}
use Rattle.fbc_version_edits.proofs.Flags.{back_of_top}
use Rattle.fbc_version_edits.proofs.OneCell.{IsOneCell, here_or_not, is_new, is_old}
use Rattle.fbc_version_edits.proofs.TakenBack.{taken_other_links, taken_own_link}

module _ {before after : View} {page cell : ℕ} {new : Cell} (sound : IsSound before) (backout : IsBackout before page cell new) (one : IsOneCell before after page cell backout.old new)
    (relation : ℕ) (reached : ReachesCell before relation page cell) where
  abbrev old : Cell
  old = backout.old

  link : LinksTo before relation page cell old old.back_page old.back_cell
  link = record { reached = reached; stands = backout.stands; names = record { some = backout.linked; page_is = refl; cell_is = refl } }

  -- The version below is no top.
  apart : ¬ IsPlace page cell old.back_page old.back_cell
  apart at_it =
      let value : IsBackValue before relation old.back_page old.back_cell old.number = sound.back relation page cell old.back_page old.back_cell old link in
      let itself : value.back ≡ old = is_old one old.back_page old.back_cell value.back at_it value.stands in
      let no = back_of_top old.flag backout.over in
      let yes : is_back old.flag ≡ true = ap (λ (v : Cell). is_back v.flag) (sym itself) ∙ value.is_value in
      cc

  from_there : (other : ℕ) (version : Cell) → LinksTo after other page cell version old.back_page old.back_cell → ⊥
  from_there other version here =
      let new_here = subst (λ (v : Cell). LinksTo after other page cell v old.back_page old.back_cell) (is_new one page cell version (refl, refl) here.stands) here in
      let below : LinksBelow before other old old.back_page old.back_cell = taken_own_link sound backout one other old.back_page old.back_cell new_here in
      let same = sound.back_once relation page cell other old.back_page old.back_cell old.back_page old.back_cell old below.below link below.links in
      apart (sym same.0, sym same.1)

  pub taken-gone : ¬ IsLinked after old.back_page old.back_cell
  taken-gone l = go (here_or_not page cell l.from_page l.from_cell) where
    go : IsPlace page cell l.from_page l.from_cell ⊎ ¬ IsPlace page cell l.from_page l.from_cell → ⊥
    go (inr differ) =
        let before_it = taken_other_links sound backout one l.relation l.from_page l.from_cell old.back_page old.back_cell l.version differ l.links in
        let same = sound.back_once relation page cell l.relation l.from_page l.from_cell old.back_page old.back_cell old l.version link before_it in
        differ (sym same.0, sym same.1)
    go (inl at_it) =
        from_there l.relation l.version (subst (λ q. LinksTo after l.relation q cell l.version old.back_page old.back_cell) at_it.0
        (subst (λ c. LinksTo after l.relation l.from_page c l.version old.back_page old.back_cell) at_it.1 l.links))
