-- Where nobody holds anything, no lock is in the way.
use Rattle.std.proofs.Common.{◌≡◌, ℕ, List, [], ◌∷◌, Option, Some, None, refl, ap, ◌∙◌}
use Rattle.sql_types.specs.declared.lock.LockRequest.{LockRequest}
use Rattle.spec_model.specs.Catalog.{Defs}
use Rattle.spec_model.specs.InTheWay.{Conflict, barrier, first_conflict}
use Rattle.spec_model.specs.Locks.{CellRequests}
use Rattle.std.specs.Prelude.{Bool}
use Rattle.spec_history.specs.Lists.{Text}
use Rattle.spec_history.specs.Meaning.{Meaning}
use Rattle.spec_history.specs.Real.{requests_catalog, requests_cell}
use Rattle.spec_history.specs.ExactRefusals.{catalog_requests, holder_named, first_some, in_the_way_there, in_the_way}

no_conflict : (id : ℕ) (requests : List LockRequest) → first_conflict [] id requests ≡ None
unfolding first_conflict barrier
no_conflict id [] = refl
no_conflict id (request ∷ requests) = no_conflict id requests

nobody_there : (q : Meaning) (D : Defs) (id : ℕ) (c : CellRequests) → in_the_way_there q D id [] c ≡ None
nobody_there q D id None = refl
nobody_there q D id (Some c) = ap holder_named (no_conflict id c.1)

pub nobody_in_the_way : (q : Meaning) (D : Defs) (id : ℕ) (explicit : Bool) (text : Text) → in_the_way q D [] id explicit text ≡ None
nobody_in_the_way q D id explicit text =
    ap (λ (o : Option Conflict). first_some (holder_named o) (in_the_way_there q D id [] (requests_cell D (q.reads text)))) (no_conflict id (catalog_requests (requests_catalog explicit (q.reads text))))
    ∙ nobody_there q D id (requests_cell D (q.reads text))
