use Rattle.std.proofs.Common.{◌≤◌, ◌^◌, ◌∙◌, sym, ap, subst, arith}
use mathlib.Core.Option.{some}
use Rattle.spec_syntax.specs.Text.{statement_of}
use Rattle.spec_protocol.specs.Cells.{ledger_at}
use Rattle.server_visits.specs.Images.{AreImageBytes, CellsStand}
use Rattle.server_engine.proofs.Ends.{all_ended, cells_stand, has_left, image_is, ledger_within, room_is, room_over, second_is_ledger}
use Rattle.server_engine.proofs.Pairs.{index_there}
use Rattle.server_visits.proofs.Servers.{some_server}
use Rattle.server_engine.proofs.one_thread.Core.come_apart.Goals as goal

pub swap_remove-requires : goal.swap_remove-requires
swap_remove-requires g c =
    let r = c.requires in
    let l = ledger_within g.H.Hash32.digest r.h r.a c.args.self r.stands in
    let ok = c.args.self.cells.ok in omega (arith, l, ok)

pub into_ledger-ledger-requires : goal.into_ledger-ledger-requires
into_ledger-ledger-requires g c =
    let r = c.requires in
    let x = c.swap_remove.result in
    second_is_ledger g.H.Hash32.digest r.h r.a c.args.self r.stands x
    (index_there c.args.self.cells.items ledger_at x (ledger_within g.H.Hash32.digest r.h r.a c.args.self r.stands)
    c.swap_remove.ensures.value)

pub image_bytes_of-requires : goal.image_bytes_of-requires
image_bytes_of-requires g c =
    let r = c.requires in
    subst (λ cells. CellsStand cells) (sym c.deref.ensures.value)
    (cells_stand g.H.Hash32.digest r.h r.a c.args.self r.stands ((g.met.H.Hash32 g.world.𝓛 g.world.𝓜 g.world.𝓡 ((λ s x. x), (λ x. x), (λ x. x), λ x. x)).sized r.h))

pub returns : goal.returns
returns g c = λ h a k.
    let r = c.requires in
    let m = k.stands in
    let x = c.swap_remove.result in
    let l = c.into_ledger-ledger.result in
    let ended = all_ended g.H.Hash32.digest h r.h a r.a c.args.self m r.stands r.ended in
    let here = index_there c.args.self.cells.items ledger_at x
    (ledger_within g.H.Hash32.digest h a c.args.self m) c.swap_remove.ensures.value in
    let there = here ∙ ap (λ u. some u) (sym c.into_ledger-ledger.ensures) in
    let ids = subst (λ n. n ≤ 2 ^ 63) c.next_id.ensures.id c.next_id.ensures.most in
    let v = some_server (g.H.Hash32.digest h) statement_of in
    has_left g.H.Hash32.digest h a c.args.self m ended l.cell l.hash there ids k.below v.0 v.1 _
    c.into_parts-journal.ensures.version c.into_parts-journal.ensures.database c.into_parts-journal.ensures.items c.into_parts-journal.ensures.digests
    c.in_ok-write_last_lines.ensures.entries c.in_ok-write_last_lines.ensures.images
    (image_is g.H.Hash32.digest h a c.args.self m ended l.cell l.hash there ids c.in_ok-image.image
    (subst (λ cells. AreImageBytes cells c.in_ok-image.image) c.deref.ensures.value c.in_ok-image.ensures.bytes))
    (room_is g.H.Hash32.digest h a c.args.self m ended l.cell l.hash there ids
    (room_over g.H.Hash32.digest h a c.args.self m
    ((g.met.H.Hash32 g.world.𝓛 g.world.𝓜 g.world.𝓡 ((λ s x. x), (λ x. x), (λ x. x), λ x. x)).sized h)
    c.deref.result.now c.deref.ensures.value c.in_ok-image.ensures.room))
