use Rattle.fbc_spelling.proofs.Decoded.{given, one_view}
use Rattle.fbc_spelling.proofs.views.bytes_give_one_view.Goals as goal

pub returns : goal.returns
returns c = record {
  given = λ shape bytes size. given shape bytes size;
  one = λ shape bytes view other size shown shown_too. one_view shape bytes size view other shown shown_too;
}
