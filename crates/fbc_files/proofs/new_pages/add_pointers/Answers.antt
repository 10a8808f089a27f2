use Rattle.std.proofs.Common.{◌∷◌, [], map, arith}
use Rattle.std.specs.List.{range_with_len}
use Rattle.std.proofs.lemmas.List.{append_assoc}
use Rattle.std.proofs.lemmas.List.FromFn.{map-range_with_len_more}
use Rattle.fbc_files.specs.NewPages.{pointer_page}
use Rattle.fbc_files.proofs.new_pages.add_pointers.Goals as goal

pub loop-relation-preserved : goal.loop-relation-preserved
loop-relation-preserved c =
    let one_more = map-range_with_len_more (pointer_page c.args.size) 0 c.loop-relation.relation c.loop-relation.relation (omega arith) in
    let joined = append_assoc c.args.pages.now.items (map (pointer_page c.args.size) (range_with_len 0 c.loop-relation.relation)) (pointer_page c.args.size c.loop-relation.relation ∷ []) in
    cc (one_more, joined, c.in_ok-push.ensures.items, c.loop-relation.invariant, c.in_ok-new_pointer.ensures)
