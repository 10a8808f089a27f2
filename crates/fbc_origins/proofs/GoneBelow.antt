-- A version that loses its link loses all that was reached through it.
use Rattle.std.proofs.Common.{◌≡◌, ◌∙◌, ℕ, refl, sym, ap, subst}
use Rattle.std.proofs.lemmas.Option.{same_Some}
use Rattle.fbc_kinds.specs.declared.pages.Cell.{Cell}
use Rattle.fbc_kinds.specs.Reach.{LinksTo, NamesBack, ReachesCell}
use Rattle.fbc_kinds.specs.Sound.{IsBackValue, IsSound}
use Rattle.fbc_kinds.specs.View.{View, is_back}
use Rattle.fbc_page_edits.specs.Alike.{HasNoMoreLinks}
use Rattle.fbc_version_edits.specs.Forms.{NamesNone}
use Rattle.fbc_page_edits.specs.Facing.{IsLinked}
use Rattle.fbc_legal.specs.Leans.{LeadsTo}
use Rattle.fbc_version_edits.proofs.NoNewLinks.{names_none}
use Rattle.fbc_version_edits.proofs.OneCell.{IsOneCell, is_new}
use Rattle.fbc_origins.proofs.Links.{IsLinkedFor, leads-linked, linked-reached, reached-linked}

module _ {before after : View} {page cell : ℕ} {old new : Cell} (sound : IsSound before) (one : IsOneCell before after page cell old new) (alone : NamesNone new) (no_more : HasNoMoreLinks before after) where
  -- Who links a cell afterwards did so before, and is the only one.
  only : (relation from_page from_cell back_page back_cell : ℕ) (version : Cell) → LinksTo before relation from_page from_cell version back_page back_cell
      → (linked : IsLinked after back_page back_cell) → LinksTo after linked.relation from_page from_cell linked.version back_page back_cell
  only relation from_page from_cell back_page back_cell version link linked =
      let same = sound.back_once relation from_page from_cell linked.relation linked.from_page linked.from_cell back_page back_cell version linked.version link
      (no_more linked.relation linked.from_page linked.from_cell back_page back_cell linked.version linked.links) in
      subst (λ p. LinksTo after linked.relation p from_cell linked.version back_page back_cell) (sym same.0)
      (subst (λ c. LinksTo after linked.relation linked.from_page c linked.version back_page back_cell) (sym same.1) linked.links)

  none_from : (relation back_page back_cell : ℕ) (version : Cell) → LinksTo after relation page cell version back_page back_cell → ⊥
  none_from relation back_page back_cell version link =
      names_none new back_page back_cell alone (subst (λ (v : Cell). NamesBack v back_page back_cell) (is_new one page cell version (refl, refl) link.stands) link.names)

  pub gone-below : (relation back_page back_cell : ℕ) → ReachesCell before relation page cell → LeadsTo before page cell back_page back_cell → ¬ IsLinked after back_page back_cell
  gone-below relation _ _ reached (LeadsTo.straight back_page back_cell version stands names) linked =
      none_from linked.relation back_page back_cell linked.version
      (only relation page cell back_page back_cell version (record { reached = reached; stands = stands; names = names }) linked)
  gone-below relation _ _ reached (LeadsTo.along between_page between_cell back_page back_cell version leads stands names) linked =
      let above : IsLinkedFor before relation between_page between_cell = leads-linked before relation page cell between_page between_cell reached leads in
      let value : IsBackValue before relation between_page between_cell above.version.number = sound.back relation above.from_page above.from_cell between_page between_cell above.version above.links in
      let here : LinksTo before relation between_page between_cell version back_page back_cell =
      record { reached = linked-reached before relation between_page between_cell above; stands = stands; names = names } in
      let after_here = only relation between_page between_cell back_page back_cell version here linked in
      let before_here = no_more linked.relation between_page between_cell back_page back_cell linked.version after_here in
      let same : value.back ≡ linked.version = same_Some value.back linked.version (sym value.stands ∙ before_here.stands) in
      gone-below relation between_page between_cell reached leads
      (reached-linked after linked.relation between_page between_cell linked.version after_here.reached after_here.stands (ap (λ (v : Cell). is_back v.flag) (sym same) ∙ value.is_value))
