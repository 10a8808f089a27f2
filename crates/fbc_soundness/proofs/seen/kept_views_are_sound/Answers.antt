use Rattle.fbc_soundness.proofs.seen.kept_views_are_sound.Goals as goal

pub returns : goal.returns
returns c = λ shape file edit keeps past owner page content seen stamps sees. (keeps past owner page content seen stamps sees).sound
