use Rattle.law_going_on.proofs.SetupFirst.{ran_first}
use Rattle.law_going_on.proofs.TheEnd.{X, agrees_then, are_written, in_order_then, input, keeps_order_then, names_differ}
use Rattle.law_going_on.proofs.laws.transcripts_agree_behind_the_past.Goals as goal

pub returns : goal.returns
returns c = λ v database size start events cells seats st rest. (
  input v database size start events cells seats st rest,
  X v database size start events cells seats st rest,
  are_written v database size start events cells seats st rest,
  names_differ v database size start events cells seats st rest,
  in_order_then v database size start events cells seats st rest,
  (λ differ setup ran. agrees_then v database size start events cells seats st rest differ setup ran),
  (λ N differ decide alone ends in_step. keeps_order_then v database size start events cells seats st rest N differ decide alone ends in_step),
  λ differ u x there known. ran_first v database size start events cells seats st rest differ u x there known,
)
