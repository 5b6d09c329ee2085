use Rattle.server_engine.proofs.Unchanged.{still_done}
use Rattle.server_engine.proofs.one_thread.Core.into_parts.Goals as goal

pub close_full-requires-after_bounds : goal.close_full-requires-after_bounds
close_full-requires-after_bounds g c κs within = let r = c.requires in record { h = r.h; a = r.a; stands = r.stands }

pub come_apart-requires-after_bounds : goal.come_apart-requires-after_bounds
come_apart-requires-after_bounds g c κs within =
    let r = c.requires in
    still_done c.args.self c.close_full.new.self g.H.Hash32.digest r
    (c.in_ok-close_full.ensures.roomy r.h r.a r.stands).stands c.close_full.ensures.sessions

pub returns : goal.returns
returns g c = λ h a m. c.come_apart.ensures h a (c.in_ok-close_full.ensures.roomy h a m)
