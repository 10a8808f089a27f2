use Rattle.fbc_soundness.proofs.FirstOrigins.{first-original}
use Rattle.fbc_soundness.proofs.histories.first_moments_are_whole.Goals as goal

pub returns : goal.returns
returns c = λ shape file of_shape sound. record {
  order = record { upheld = c.first_views_are_upheld.ensures shape file of_shape sound; numbered = c.first_numbers_are_kept.ensures shape file; original = first-original shape file };
  rows = c.first_rows_stand.ensures shape file;
  apart = c.first_opens_stand_apart.ensures shape file;
  cuts = c.first_cuts_are_settled.ensures shape file;
}
