use Rattle.store_table.proofs.laws.adding_an_index_is_a_visit.Goals as goal

pub returns : goal.returns
returns c = λ v cell d s t o at def is here made seat. record { o = o; at = at; def = def; at_made = is; here = here; cell = made; seat = seat }
