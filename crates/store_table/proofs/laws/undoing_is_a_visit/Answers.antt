use Rattle.store_table.proofs.laws.undoing_is_a_visit.Goals as goal

pub returns : goal.returns
returns c = λ v cell d s t o at seq rest goes undone seat. record { o = o; at = at; seq = seq; rest = rest; goes = goes; cell = undone; seat = seat }
