-- `certify::show` meets its contract: where an empty promise set is met, its first run is shown.
-- Assumes nothing.
use Rattle.certify.proofs.Asked.{show_none, show_run}
use Rattle.certify.proofs.show.Goals as goal

pub search_runs-r-requires : goal.search_runs-r-requires
search_runs-r-requires c = c.requires

pub returns-else-r-eq0 : goal.returns-else-r-eq0
returns-else-r-eq0 c = show_none _ _ _ _ c.requires.code_ok.short _ c.certified.ensures _ c.search_runs-r.ensures.found c.if-r-eq0.false

pub returns-then-r-eq0 : goal.returns-then-r-eq0
returns-then-r-eq0 c =
    show_run _ _ _ _ c.requires.code_ok.short _ c.certified.ensures _ c.search_runs-r.ensures.found c.search_runs-r.ensures.shows c.if-r-eq0.true _ c.run_of.ensures
