-- What the search for an empty cell passes over.
use Rattle.fbc_chains.specs.Showing.{shown_by}
use Rattle.fbc_rows.proofs.Steps.{cell-searches}
use Rattle.fbc_rows.proofs.inserting.find_cell.Goals as goal

pub returns-clause-searches : goal.returns-clause-searches
returns-clause-searches c =
    cell-searches (shown_by c.args.desk.now.cache) c.args.relation c.args.place c.args.part.now c.end_search.new.part c.end_search.result (record {
      between = c.search-found.new.part;
      stopped = c.search-found.result;
      rest = c.search-found.ensures.rest;
      passes = c.search-found.ensures.passes;
      stops = c.search-found.ensures.stops;
      gone = c.search-found.ensures.gone;
      ends = c.end_search.ensures.ends;
    })

pub returns-clause-damages : goal.returns-clause-damages
returns-clause-damages c = c.end_search.ensures.damages c.args.part.now c.search-found.ensures.damages
