use Rattle.std.proofs.Common.{[], ◌++◌}
use Rattle.spec_protocol.specs.Contents.{contents}
use Rattle.law_protocol.proofs.Beginning.{begins, none_asked, none_requested}
use Rattle.law_protocol_ledger.proofs.JoinsStand.{back, join_stands}
use Rattle.law_protocol_tables.proofs.KeepsAsked.{still_asked_for}
use Rattle.law_protocol.proofs.KeepsRequested.{same_requested, split_requested}
use Rattle.law_protocol_ledger.proofs.Splits.{splits_stand}
use Rattle.law_protocol.proofs.StepsKeep.{may_keeps}
use Rattle.law_protocol.proofs.board.cells_and_seats_are_a_world.Goals as goal

pub returns : goal.returns
returns g = record {
  first = λ v database size some most. let st = begins database size v some most in record { history = []; stands = st; locks_were_asked = none_asked database size v st; locks_are_requested = none_requested database size v };
  visits = λ v cells seats j s out i c t w there outs may. let l = may_keeps v cells seats w.stands w.locks_were_asked w.locks_are_requested j s there out outs i c t may in
      record { history = w.history ++ l.events; stands = l.stands; locks_were_asked = l.locks_were_asked; locks_are_requested = l.locks_are_requested };
  splits = λ v cells seats j s n w there positive. let st = splits_stand v cells seats j s n w.stands there in
      record { history = w.history; stands = st; locks_were_asked = still_asked_for v w.stands w.locks_were_asked st; locks_are_requested = split_requested v cells seats w.stands j s there n w.locks_are_requested };
  joins = λ v cells seats j k s t w there there_k apart rest. let st = join_stands v cells seats w.stands j k s t there there_k apart rest in
      record { history = w.history; stands = st; locks_were_asked = still_asked_for v w.stands w.locks_were_asked st; locks_are_requested = same_requested v (contents cells) seats _ (back v cells seats w.stands j k s t there there_k apart rest) w.locks_are_requested };
}
