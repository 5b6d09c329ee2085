use Rattle.law_frame.proofs.Definitions as laws
use Rattle.law_frame.proofs.catalog.conflicting_requests_clash.Goals as goal

pub returns : goal.returns
returns c = record { catalog = laws.catalog_clashes; cell = laws.cells_clash }
