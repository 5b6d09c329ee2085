use Rattle.std.proofs.Common.{◌∙◌, sym}
use Rattle.server_visit_ledger.proofs.LedgerCommits.{spelled}
use Rattle.server_visit_ledger.proofs.ledger_commit.try_commit.Goals as goal

pub commit-committed-requires : goal.commit-committed-requires
commit-committed-requires g c = spelled g.H.Hash32.digest c.args.seat.now c.args.ledger.now (g.met.H.Hash32 g.world.𝓛 g.world.𝓜 g.world.𝓡 ((λ s x. x), (λ x. x), (λ x. x), λ x. x)).sized c.requires.work c.requires.among c.in-Some.running c.in-Some.is c.id-id.result c.id-id.ensures c.in_ok-roots.roots
    c.in_ok-roots.ensures (λ h o r d. sym (c.is_read_only.ensures h o r d) ∙ c.if-is_read_only.false)
