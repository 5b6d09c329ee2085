use Rattle.server_visits.proofs.Keeping.{cells_stand}
use Rattle.server_visits.proofs.image_visit.visit_all.Goals as goal

pub image_bytes_of-requires : goal.image_bytes_of-requires
image_bytes_of-requires g c = cells_stand g.H.Hash32.digest c.args.seat.now c.args.cells.now
    (g.met.H.Hash32 g.world.𝓛 g.world.𝓜 g.world.𝓡 ((λ s x. x), (λ x. x), (λ x. x), λ x. x)).sized c.requires
