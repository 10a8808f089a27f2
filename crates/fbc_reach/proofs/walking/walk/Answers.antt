use Rattle.std.proofs.Common.{[], ◌∷◌, ◌∙◌, refl, sym, ap, nat_eq}
use Rattle.indexmap.specs.IndexMap.{get}
use Rattle.fbc_reach.specs.Tally.{named_by_tally}
use Rattle.fbc_reach.specs.Walk.{naming}
use Rattle.fbc_reach.specs.declared.namings.Role.TheVariants as role
use Rattle.fbc_reach.proofs.FewSlots.{few_kept, few_places}
use Rattle.fbc_reach.proofs.Walks.{all_named, found_named}
use Rattle.fbc_reach.proofs.walking.walk.Goals as goal

pub data_namings-requires-clause-slots : goal.data_namings-requires-clause-slots
data_namings-requires-clause-slots g c page =
    let shape = c.args.shape.now in
    let file = g.D.Device.bytes c.args.device.now in
    let start = c.in_ok-keep_first.ensures.kept shape file [] refl c.requires.first (c.new-tally.ensures.empty shape file) in
    few_kept shape file c.note_all.new.self.next (naming 0 role.Header ∷ c.deref.result.now) page (get nat_eq c.note_all.new.self.pages page) c.requires.shape.size
    (c.in_ok-note_all.ensures.noted (naming 0 role.Header ∷ []) start page)

pub data_namings-requires-clause-places : goal.data_namings-requires-clause-places
data_namings-requires-clause-places g c =
    few_places c.args.header.now c.requires.header c.deref-2.result.now (c.deref-2.ensures.value ∙ c.in_ok-named.ensures)

pub returns-clause-walked : goal.returns-clause-walked
returns-clause-walked g c bytes view told shown is =
    let shape = c.args.shape.now in
    let file = g.D.Device.bytes c.args.device.now in
    let start = c.in_ok-keep_first.ensures.kept shape file [] refl c.requires.first (c.new-tally.ensures.empty shape file) in
    all_named shape bytes view shown c.args.header.now is c.note_all.new.self file c.deref.result.now c.deref-3.result.now told
    (c.deref.ensures.value ∙ c.in_ok-named.ensures)
    (c.deref-3.ensures.value ∙ c.in_ok-found.ensures ∙ ap (named_by_tally c.note_all.new.self) (c.deref-2.ensures.value ∙ sym c.deref.ensures.value))
    (c.in_ok-note_all.ensures.noted (naming 0 role.Header ∷ []) start)
    c.note_all-2.new.self (g.D.Device.bytes c.note_all.new.device) c.note_all.ensures.unwritten.bytes
    c.in_ok-note_all-2.ensures.noted

pub returns-clause-found : goal.returns-clause-found
returns-clause-found g c bytes view told shown is =
    let shape = c.args.shape.now in
    let file = g.D.Device.bytes c.args.device.now in
    let start = c.in_ok-keep_first.ensures.kept shape file [] refl c.requires.first (c.new-tally.ensures.empty shape file) in
    found_named shape bytes view shown c.args.header.now is c.note_all.new.self file c.deref.result.now c.in_ok-found.found.items told
    (c.deref.ensures.value ∙ c.in_ok-named.ensures)
    (c.in_ok-found.ensures ∙ ap (named_by_tally c.note_all.new.self) (c.deref-2.ensures.value ∙ sym c.deref.ensures.value))
    (c.in_ok-note_all.ensures.noted (naming 0 role.Header ∷ []) start)
