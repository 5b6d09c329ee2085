-- A visit that lacks memory: its cell stays, and cells and seats stand together.
use Rattle.sql_types.specs.declared.reply.Reply.TheVariants as reply
use Rattle.sql_value.specs.declared.refusal.Refusal.TheVariants.{NoMemory}
use Rattle.spec_protocol.specs.CatalogVisits.{StopsInCatalog}
use Rattle.spec_protocol.specs.TableVisits.{StopsInTable}
use Rattle.spec_protocol.specs.Cells.{Catalog, CatalogCell, Cell, Rows, TableCell, catalog_at}
use Rattle.std.proofs.Common.{List, None, Some, ap, set, subst₂, sym, ℕ, ◌∙◌, ◌≡◌, [], ◌∷◌}
use Rattle.sql_types.specs.declared.reply.Reply.{Reply}
use Rattle.spec_protocol.specs.Seats.{SeatState, answering, inside}
use Rattle.spec_protocol.specs.Server.{Server}
use Rattle.spec_protocol.specs.StandTogether.{History, Stands, StandsAfter}
use lib.ListN.{get_elem?}
use Rattle.law_protocol_changes.proofs.StepsQuiet.{no_memory_stands, no_memory_then_stands}
use Rattle.law_protocol_steps.proofs.AfterSet.{set_same}
use mathlib.Core.Option.{some}
use Rattle.spec_protocol.specs.Doing.{stage_refused}
use Rattle.spec_protocol.specs.Moves.{then_at}
use Rattle.spec_protocol.specs.ActsOf.{failed_in}
use Rattle.spec_history.specs.Acts.{fails}

module _ (v : Server) (cells : List Cell) (seats : List SeatState) {history : History} (st : Stands v history cells seats) (j : ℕ) (s : SeatState) (there : get_elem? seats j ≡ some s) where
  pub stops_in_catalog : (c d : CatalogCell) (t : SeatState) → get_elem? cells catalog_at ≡ some (Catalog c) → (w : StopsInCatalog v c s t) → w.r ≡ reply.Refused NoMemory → d ≡ c → StandsAfter v j history (failed_in v.meaning (Some w.o) w.at.stands.text) (set cells catalog_at (Catalog d)) (set seats j t)
  stops_in_catalog c d t out w short same = subst₂ (λ (cs : List Cell) (u : SeatState). StandsAfter v j history (failed_in v.meaning (Some w.o) w.at.stands.text) cs (set seats j u))
      (sym (ap (λ (e : CatalogCell). set cells catalog_at (Catalog e)) same ∙ set_same cells catalog_at (Catalog c) out)) (ap (λ (r : Reply). then_at s w.at.stands (Some w.o) (answering r None)) (sym short) ∙ sym w.seat)
      (no_memory_stands v cells seats st j s there w.at.stands.x w.at.stands.role w.o w.at.open_one w.at.unfixed w.at.stands.text (w.at.stands.place ∙ ap (inside w.at.stands.text) w.at_begin))

  pub stops_in_table : (i : ℕ) (c d : TableCell) (t : SeatState) → get_elem? cells i ≡ some (Rows c) → (w : StopsInTable v c s t) → w.r ≡ reply.Refused NoMemory → d ≡ c → StandsAfter v j history (fails w.at.at.stands.text ∷ []) (set cells i (Rows d)) (set seats j t)
  stops_in_table i c d t out w short same = subst₂ (λ (cs : List Cell) (u : SeatState). StandsAfter v j history (fails w.at.at.stands.text ∷ []) cs (set seats j u))
      (sym (ap (λ (e : TableCell). set cells i (Rows e)) same ∙ set_same cells i (Rows c) out)) (ap (λ (r : Reply). then_at s w.at.at.stands (Some w.o) (stage_refused w.fresh r)) (sym short) ∙ sym w.seat)
      (no_memory_then_stands v cells seats st j s there w.at.at.stands.x w.at.at.stands.role w.o w.at.at.open_one w.at.at.unfixed w.at.at.stands.text (Some w.named) w.fresh (w.at.at.stands.place ∙ ap (inside w.at.at.stands.text) w.at.at_found))
