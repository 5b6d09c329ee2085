use Rattle.law_frame.proofs.Definitions as laws
use Rattle.law_frame.proofs.catalog.cell_requests_share_the_catalog.Goals as goal

pub returns : goal.returns
returns c = record { creates = laws.cell_requests_dont_create; shares = laws.cell_requests_share }
