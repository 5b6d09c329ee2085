-- A visit of the catalog's cell doesn't lead back to the beginning of a statement.
use Rattle.std.proofs.Common.{◌≢◌, ◌⊎◌, ℕ, Bool, true, false, List, Ok, Err, sym, subst, ⊎_elim}
use Rattle.sql_value.specs.declared.refusal.Refusal.{Refusal}
use Rattle.sql_value.specs.declared.refusal.Refusal.TheVariants.{NoMemory}
use Rattle.sql_types.specs.declared.lock.Mode.{Mode}
use Rattle.sql_types.specs.declared.lock.Mode.TheVariants as mode
use Rattle.sql_types.specs.declared.reply.Reply.{Reply}
use Rattle.sql_types.specs.declared.reply.Reply.TheVariants as reply
use Rattle.sql_types.specs.declared.statement.Stmt.{Stmt}
use Rattle.sql_types.specs.declared.statement.Stmt.TheVariants as st
use Rattle.spec_model.specs.Alter.{Altered}
use Rattle.spec_model.specs.Refusals.{Checked}
use Rattle.server_session.specs.Cells.{CatalogCell}
use Rattle.server_visit_catalog.specs.InCatalog.{by_alter, by_drop, got_stage, refused_stage, AlterFails, Alters, Creates, GoesAgain, IndexFails, IsAltered, IsIndex, IsLookedUp, IsRefused, IsStopped, IsTable, KeepsLock, Looked, LooksUp, TableFails}
use Rattle.server_session.specs.ControlPoints.{IsBegunAt}
use Rattle.server_session.specs.Stages.{done_stage, stopped_behind_lock}
use Rattle.server_visit_catalog.specs.declared.got.LookupResult.{LookupResult}
use Rattle.server_visit_catalog.specs.declared.got.LookupResult.TheVariants as got
use Rattle.server_session.specs.declared.running.Running.{Running}
use Rattle.server_session.specs.declared.stage.ControlPoint.TheVariants.{Inside}
use Rattle.server_session.specs.declared.stage.Stage.{Stage}

-- the statement is behind its beginning
abbrev pub IsBehind : Stage → Type 0
IsBehind stage = IsBegunAt (Inside stage) → ⊥

done_behind : (explicit : Bool) (r : Reply) → IsBehind (done_stage explicit r)
done_behind true r b = b
done_behind false r b = b

lacking_behind : (fresh : Bool) → IsBehind (stopped_behind_lock fresh NoMemory)
lacking_behind true b = b
lacking_behind false b = b

refused_behind : (explicit fresh : Bool) (e : Refusal) → IsBehind (refused_stage explicit fresh e)
refused_behind explicit fresh NoMemory = lacking_behind fresh
refused_behind explicit fresh e = done_behind explicit (reply.Refused e)

got_behind : (explicit fresh : Bool) (g : Checked LookupResult) → IsBehind (got_stage explicit fresh g)
got_behind explicit fresh (Ok (got.Table def part)) = λ b. b
got_behind explicit fresh (Ok (got.Rows rows)) = done_behind explicit (reply.Rows rows)
got_behind explicit fresh (Err e) = refused_behind explicit fresh e

module _ {H : Type 0} (digest : H → List ℕ → List ℕ) (r : Running H) (c : CatalogCell) (q : Running H) (d : CatalogCell) (stage : Stage) where
  stopped_behind : (m : Mode) → IsStopped digest m r c q d stage → IsBehind stage
  stopped_behind m k = subst IsBehind (sym k.stage_is) (λ b. b)

  up_behind : (s : Stmt) → LooksUp digest s r c q d stage → IsBehind stage
  up_behind s k = ⊎_elim
      (λ (w : IsStopped digest mode.S r c q d stage). stopped_behind mode.S w)
      (λ (w : IsLookedUp digest s r c q d stage). subst IsBehind (sym w.stage_is) (got_behind r.explicit w.fresh w.got))
      k

  blocked_behind : (l : CatalogCell) (e : Refusal) → IsRefused digest e r l q d stage → IsBehind stage
  blocked_behind l e w = ⊎_elim
      (λ (g : GoesAgain digest r l q d stage). subst IsBehind (sym g.stage_is) (λ b. b))
      (λ (g : KeepsLock e r l q d stage). subst IsBehind (sym g.stage_is) (λ b. b))
      w.how

  alters_behind : (meant : CatalogCell → Checked Altered) → Alters digest meant r c q d stage → IsBehind stage
  alters_behind meant k = ⊎_elim
      (λ (w : IsStopped digest mode.X r c q d stage). stopped_behind mode.X w)
      (λ (w : Creates digest (AlterFails meant) (λ l p e at. IsAltered digest meant r l p e at) r c q d stage).
      ⊎_elim (λ (f : (e : Refusal) × (e ≢ NoMemory → AlterFails meant w.locked e) × IsRefused digest e r w.locked q d stage). blocked_behind w.locked f.0 f.2) (λ (m : IsAltered digest meant r w.locked q d stage). subst IsBehind (sym m.2) (λ b. b)) w.how)
      k

  pub looked_behind : (s : Stmt) → Looked digest s r c q d stage → IsBehind stage
  looked_behind (st.Create create) k = ⊎_elim
      (λ (w : IsStopped digest mode.X r c q d stage). stopped_behind mode.X w)
      (λ (w : Creates digest (TableFails create) (λ l p e at. IsTable digest create r l p e at) r c q d stage).
      ⊎_elim (λ (f : (e : Refusal) × (e ≢ NoMemory → TableFails create w.locked e) × IsRefused digest e r w.locked q d stage). blocked_behind w.locked f.0 f.2) (λ (m : IsTable digest create r w.locked q d stage). subst IsBehind (sym m.2) (λ b. b)) w.how)
      k
  looked_behind (st.Index create) k = ⊎_elim
      (λ (w : IsStopped digest mode.X r c q d stage). stopped_behind mode.X w)
      (λ (w : Creates digest (IndexFails create) (λ l p e at. IsIndex digest create r l p e at) r c q d stage).
      ⊎_elim (λ (f : (e : Refusal) × (e ≢ NoMemory → IndexFails create w.locked e) × IsRefused digest e r w.locked q d stage). blocked_behind w.locked f.0 f.2) (λ (m : IsIndex digest create r w.locked q d stage). subst IsBehind (sym m.3) (λ b. b)) w.how)
      k
  looked_behind (st.Alter alter) k = alters_behind (by_alter alter) k
  looked_behind (st.Drop name) k = alters_behind (by_drop name) k
  looked_behind (st.Change row) k = up_behind (st.Change row) k
  looked_behind (st.Select s) k = up_behind (st.Select s) k
  looked_behind st.Begin k = up_behind st.Begin k
  looked_behind st.Commit k = up_behind st.Commit k
  looked_behind (st.Save name) k = up_behind (st.Save name) k
  looked_behind (st.Rollback name) k = up_behind (st.Rollback name) k
  looked_behind st.Digest k = up_behind st.Digest k
  looked_behind st.Image k = up_behind st.Image k
