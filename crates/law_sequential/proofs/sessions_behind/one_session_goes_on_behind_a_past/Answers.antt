use Rattle.law_sequential.proofs.SeatOnBehind.{alone_on, over_now, visit_on, close_on}
use Rattle.law_sequential.proofs.sessions_behind.one_session_goes_on_behind_a_past.Goals as goal

pub returns : goal.returns
returns g = record {
  alone = λ v database size past start phase lines moments told cells states c j s there k is_told others t steps phased nameless entries images times later gains at. alone_on c j s there k is_told others t steps phased nameless entries images times later gains at;
  over = λ v database size past start phase lines moments told cells states c j s there k is_told others t steps phased nameless entries later writes. over_now c j s there k is_told others t steps phased nameless entries later writes;
  visits = λ v database size past start phase lines moments told cells states c j s there k is_told others out outs i d t m phased nameless l lies below digests entries images times later gains at. visit_on c j s there k is_told others out outs i d t m phased nameless l lies below digests entries images times later gains at;
  closes = λ v database size past start phase lines moments told cells states c j s there k is_told others l lies is_full n d closes. close_on c j s there k is_told others l lies is_full n d closes;
}
