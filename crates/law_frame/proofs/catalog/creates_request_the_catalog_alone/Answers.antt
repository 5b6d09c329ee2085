use Rattle.law_frame.proofs.Definitions as laws
use Rattle.law_frame.proofs.catalog.creates_request_the_catalog_alone.Goals as goal

pub returns : goal.returns
returns c = record { requests = laws.creates_alone; conflicts = laws.alone_conflicts; explicit = laws.opened_refuses }
