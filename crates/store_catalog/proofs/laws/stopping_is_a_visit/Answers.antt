use Rattle.sql_types.specs.declared.reply.Reply.TheVariants as reply
use Rattle.store_catalog.proofs.laws.stopping_is_a_visit.Goals as goal

pub returns : goal.returns
returns c = λ v cell s t o at e begin stopped seat. record { o = o; at = at; at_begin = begin; r = reply.Refused e; stopped = stopped; seat = seat }
