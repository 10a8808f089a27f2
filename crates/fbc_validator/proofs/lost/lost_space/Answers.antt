use Rattle.fbc_validator.proofs.LostPages.{file_size}
use Rattle.fbc_validator.proofs.lost.lost_space.Goals as goal

pub returns : goal.returns
returns c shape bytes view shown is kept same are sound =
    let size = file_size shape bytes view shown c.args.header.now is c.requires.size in
    record {
      pages = c.in_ok-lost_pages.ensures.pages shape bytes view shown is kept sound;
      pages_rise = c.in_ok-lost_pages.ensures.rise;
      cells = c.in_ok-lost_cells.ensures.cells shape bytes view size shown kept same are sound;
      cells_rise = c.in_ok-lost_cells.ensures.rise;
    }
