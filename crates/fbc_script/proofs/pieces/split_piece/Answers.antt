use Rattle.std.proofs.Common.{◌+◌, arith}
use Rattle.std.proofs.lemmas.List.{take_rest}
use Rattle.fbc_script.proofs.Splitting.{pieces_of-found, pieces_of-whole}
use Rattle.fbc_script.proofs.pieces.split_piece.Goals as goal

pub returns-in-Some-clause-pieces : goal.returns-in-Some-clause-pieces
returns-in-Some-clause-pieces c =
    rw (take_rest c.args.bytes.now (c.in-Some.end + 1)) (pieces_of-found c.args.separator c.args.bytes.now c.in-Some.end (cc (c.separator_in.ensures.found)))

pub returns-in-None-clause-pieces : goal.returns-in-None-clause-pieces
returns-in-None-clause-pieces c =
    pieces_of-whole c.args.separator c.args.bytes.now (grind arith) (cc (c.separator_in.ensures.found))
