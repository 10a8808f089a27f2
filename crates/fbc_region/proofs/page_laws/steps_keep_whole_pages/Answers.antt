use Rattle.fbc_region.proofs.ReadAndWritten.{stays_whole}
use Rattle.fbc_region.proofs.page_laws.steps_keep_whole_pages.Goals as goal

pub returns : goal.returns
returns c size bytes now landings landings_now image image_now answer asked fits whole come = stays_whole size bytes now landings landings_now image image_now answer asked fits whole come
