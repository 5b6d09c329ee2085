use Rattle.law_sequential.proofs.GoesBehind.{close_more}
use Rattle.law_sequential.proofs.behind.full_blocks_are_closed_behind_a_past.Goals as goal

pub returns : goal.returns
returns g = λ v database size past start phase names lines cells seats c j s there quiet l lies is_full k d closes. close_more c j s there quiet l lies is_full k d closes
