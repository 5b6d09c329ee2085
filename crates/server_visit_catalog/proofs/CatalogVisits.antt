-- Each visit of the catalog's cell, in the form of the contracts.
use Rattle.std.proofs.Common.{◌≡◌, ◌≢◌, ◌⊎◌, ℕ, ◌+◌, ◌<◌, Bool, false, List, Option, Some, length, refl, sym, ap, ◌∙◌, subst, subst₂, ⊎_elim, arith}
use Rattle.sql_value.specs.declared.refusal.Refusal.{Refusal}
use Rattle.sql_value.specs.declared.refusal.Refusal.TheVariants.{NoMemory}
use Rattle.sql_types.specs.declared.lock.Mode.{Mode}
use Rattle.sql_types.specs.declared.lock.Mode.TheVariants as mode
use Rattle.sql_types.specs.declared.reply.Reply.TheVariants as reply
use Rattle.sql_types.specs.declared.statement.Stmt.{Stmt}
use Rattle.sql_types.specs.declared.statement.Stmt.TheVariants as st
use Rattle.spec_model.specs.Alter.{Altered}
use Rattle.spec_model.specs.Holds.{released}
use Rattle.spec_model.specs.Locks.{catalog_request}
use Rattle.spec_model.specs.Refusals.{Checked}
use Rattle.server_session.specs.CatalogVisits.{alters_in, with_holds, CreateRefused}
use Rattle.server_session.specs.Cells.{CatalogCell}
use Rattle.server_session.specs.Doing.{Stopped}
use Rattle.server_session.specs.Seats.{OpenTransaction}
use Rattle.server_session.specs.RequestsIn.{of_catalog}
use Rattle.server_session.specs.Represents.{Represents}
use Rattle.server_session.specs.Stages.{stopped_stage}
use Rattle.server_visit_catalog.specs.InCatalog.{by_alter, by_drop, AlterFails, Alters, Creates, IndexFails, IsAltered, IsIndex, IsLookedUp, IsRefused, IsStopped, IsTable, Looked, LooksUp, MayLookFor, TableFails}
use Rattle.server_session.specs.KeptCell.{catalog_seen}
use Rattle.server_session.specs.Needs.{stage_visits}
use Rattle.server_session.specs.ControlPoints.{KeepsStatement}
use Rattle.server_session.specs.Sits.{IsOfRows}
use Rattle.server_session.specs.Steps.{Among, ComesOn, IsVisit, Visits}
use Rattle.server_session.specs.declared.running.Running.{Running}
use Rattle.server_session.specs.declared.seat.Seat.{Seat}
use Rattle.server_session.specs.declared.stage.ControlPoint.TheVariants.{Inside}
use Rattle.server_session.specs.declared.stage.Stage.{Stage}
use Rattle.server_session.specs.declared.stage.Stage.TheVariants.{GivingBack, Looking}
use Rattle.server_session.proofs.Alone.{then_seat}
use Rattle.server_visit_catalog.proofs.CatalogBehind.{looked_behind, IsBehind}
use Rattle.server_visit_catalog.proofs.CatalogCreated.{altered_fewer, altered_so, index_fewer, index_so, may_look_for, own_by_alter, own_by_drop, own_by_index, own_by_table, refused_fewer, table_fewer, table_so}
use Rattle.server_visit_catalog.proofs.CatalogLooked.{looked_fewer, looked_up, shares}
use Rattle.server_visit_catalog.proofs.CatalogSitting.{IsIn, comes_on, giving_is, looking_is, stays}
use Rattle.server_visit_catalog.proofs.CatalogStopped.{gives_back, stopped_few, stops}

-- ---- what is there

one_of : {A : Type 0} (x y : A) (o : Option A) → o ≡ Some x → o ≡ Some y → x ≡ y
one_of x y o e f = let g : Some x ≡ Some y = sym e ∙ f in cc

-- it may look
pub may_look_now : {H : Type 0} (digest : H → List ℕ → List ℕ) (y : Seat H) (c : CatalogCell) → Among digest y (catalog_seen c) → y.point ≡ Inside Looking
    → (r : Running H) → y.running ≡ Some r → (s : Stmt) → y.stmt ≡ Some s → MayLookFor digest s r c
may_look_now digest y c a here r has s is = let i = looking_is digest y c a here in
    subst (λ (u : Stmt). MayLookFor digest u r c) (one_of i.stmt s y.stmt i.has_stmt is)
    (subst (λ p. MayLookFor digest i.stmt p c) (one_of i.r r y.running i.has_running has) (may_look_for digest y c a i))

-- ---- a statement looks

module _ {H : Type 0} (digest : H → List ℕ → List ℕ) (y : Seat H) (c d : CatalogCell) (a : Among digest y (catalog_seen c)) (i : IsIn digest y c a Looking) (q : Running H) (stage : Stage) where
  abbrev Then : Type 0
  Then = IsVisit digest y (catalog_seen c) a (catalog_seen d) (then_seat y y.started y.text y.stmt (Some q) (Inside stage))

  stopped_so : (m : Mode) → catalog_request i.o.explicit i.stmt ≡ Some m → IsStopped digest m i.r c q d stage → Then
  stopped_so m requests k = subst (λ (s : Stage). IsVisit digest y (catalog_seen c) a (catalog_seen d) (then_seat y y.started y.text y.stmt (Some q) (Inside s))) (sym k.stage_is)
      (stops digest y c d a Looking i q (k.same.context a.h i.o i.run.context) k.same.script k.same.explicit k.same.end k.left refl k.e refl
      (subst (λ (w : Option Mode). Stopped c.holds i.o.id (of_catalog w) (reply.Refused k.e)) (sym requests) (k.stopped a.h i.o i.run.context)) k.cell)

  creates_requests : (b : Bool) → b ≡ false → (s : Stmt) → (catalog_request false s ≡ Some mode.X) → catalog_request b s ≡ Some mode.X
  creates_requests b e s w = ap (λ (f : Bool). catalog_request f s) e ∙ w

  looks_up : IsOfRows i.stmt → LooksUp digest i.stmt i.r c q d stage → Then
  looks_up of_rows k = ⊎_elim
      (λ (w : IsStopped digest mode.S i.r c q d stage). stopped_so mode.S (shares i.o.explicit i.stmt of_rows) w)
      (λ (w : IsLookedUp digest i.stmt i.r c q d stage). looked_up digest y c d a i q stage of_rows w)
      k

  by_stmt : (s : Stmt) → i.stmt ≡ s → Looked digest s i.r c q d stage → MayLookFor digest s i.r c → Then
  by_stmt (st.Create create) is k may = ⊎_elim
      (λ (w : IsStopped digest mode.X i.r c q d stage). stopped_so mode.X (ap (catalog_request i.o.explicit) is ∙ creates_requests i.o.explicit (own_by_table digest y c a i create is) (st.Create create) refl) w)
      (λ (w : Creates digest (TableFails create) (λ l p e at. IsTable digest create i.r l p e at) i.r c q d stage). table_so digest y c d a i q stage create is w)
      k
  by_stmt (st.Index create) is k may = ⊎_elim
      (λ (w : IsStopped digest mode.X i.r c q d stage). stopped_so mode.X (ap (catalog_request i.o.explicit) is ∙ creates_requests i.o.explicit (own_by_index digest y c a i create is) (st.Index create) refl) w)
      (λ (w : Creates digest (IndexFails create) (λ l p e at. IsIndex digest create i.r l p e at) i.r c q d stage). index_so digest y c d a i q stage create is w)
      k
  by_stmt (st.Alter alter) is k may = ⊎_elim
      (λ (w : IsStopped digest mode.X i.r c q d stage). stopped_so mode.X (ap (catalog_request i.o.explicit) is ∙ creates_requests i.o.explicit (own_by_alter digest y c a i alter is) (st.Alter alter) refl) w)
      (λ (w : Creates digest (AlterFails (by_alter alter)) (λ l p e at. IsAltered digest (by_alter alter) i.r l p e at) i.r c q d stage).
      altered_so digest y c d a i q stage (by_alter alter) (own_by_alter digest y c a i alter is) (λ x. ap (alters_in x) is) (λ holds. refl)
      (λ x e f. subst (λ (s : Stmt). CreateRefused x s e) (sym is) f) w)
      k
  by_stmt (st.Drop name) is k may = ⊎_elim
      (λ (w : IsStopped digest mode.X i.r c q d stage). stopped_so mode.X (ap (catalog_request i.o.explicit) is ∙ creates_requests i.o.explicit (own_by_drop digest y c a i name is) (st.Drop name) refl) w)
      (λ (w : Creates digest (AlterFails (by_drop name)) (λ l p e at. IsAltered digest (by_drop name) i.r l p e at) i.r c q d stage).
      altered_so digest y c d a i q stage (by_drop name) (own_by_drop digest y c a i name is) (λ x. ap (alters_in x) is) (λ holds. refl)
      (λ x e f. subst (λ (s : Stmt). CreateRefused x s e) (sym is) f) w)
      k
  by_stmt (st.Change row) is k may = looks_up (subst IsOfRows (sym is) tt) (subst (λ (s : Stmt). LooksUp digest s i.r c q d stage) (sym is) k)
  by_stmt (st.Select s) is k may = looks_up (subst IsOfRows (sym is) tt) (subst (λ (s : Stmt). LooksUp digest s i.r c q d stage) (sym is) k)
  by_stmt st.Begin is k may = absurd may
  by_stmt st.Commit is k may = absurd may
  by_stmt (st.Save name) is k may = absurd may
  by_stmt (st.Rollback name) is k may = absurd may
  by_stmt st.Digest is k may = absurd may
  by_stmt st.Image is k may = absurd may

  pub looked_so : Looked digest i.stmt i.r c q d stage → Then
  looked_so k = by_stmt i.stmt refl k (may_look_for digest y c a i)

module _ {H : Type 0} (digest : H → List ℕ → List ℕ) (r : Running H) (c : CatalogCell) (q : Running H) (d : CatalogCell) (stage : Stage) where
  stopped_fewer : (m : Mode) → IsStopped digest m r c q d stage → stage_visits stage (Some q) < length r.visited.left + 6
  stopped_fewer m k = subst (λ (s : Stage). stage_visits s (Some q) < length r.visited.left + 6) (sym k.stage_is) (let few = stopped_few k.e q r k.left in omega (arith, few))

  up_fewer : (s : Stmt) → LooksUp digest s r c q d stage → stage_visits stage (Some q) < length r.visited.left + 6
  up_fewer s k = ⊎_elim (λ (w : IsStopped digest mode.S r c q d stage). stopped_fewer mode.S w) (λ (w : IsLookedUp digest s r c q d stage). looked_fewer digest s r c q d stage w) k

  alters_fewer : (meant : CatalogCell → Checked Altered) → Alters digest meant r c q d stage → stage_visits stage (Some q) < length r.visited.left + 6
  alters_fewer meant k = ⊎_elim
      (λ (w : IsStopped digest mode.X r c q d stage). stopped_fewer mode.X w)
      (λ (w : Creates digest (AlterFails meant) (λ l p e at. IsAltered digest meant r l p e at) r c q d stage).
      ⊎_elim (λ (f : (e : Refusal) × (e ≢ NoMemory → AlterFails meant w.locked e) × IsRefused digest e r w.locked q d stage). refused_fewer digest r q w.locked d stage f.0 f.2) (λ (m : IsAltered digest meant r w.locked q d stage). altered_fewer digest r q w.locked d stage meant m) w.how)
      k

  fewer_by : (s : Stmt) → Looked digest s r c q d stage → stage_visits stage (Some q) < length r.visited.left + 6
  fewer_by (st.Create create) k = ⊎_elim
      (λ (w : IsStopped digest mode.X r c q d stage). stopped_fewer mode.X w)
      (λ (w : Creates digest (TableFails create) (λ l p e at. IsTable digest create r l p e at) r c q d stage).
      ⊎_elim (λ (f : (e : Refusal) × (e ≢ NoMemory → TableFails create w.locked e) × IsRefused digest e r w.locked q d stage). refused_fewer digest r q w.locked d stage f.0 f.2) (λ (m : IsTable digest create r w.locked q d stage). table_fewer digest r q w.locked d stage create m) w.how)
      k
  fewer_by (st.Index create) k = ⊎_elim
      (λ (w : IsStopped digest mode.X r c q d stage). stopped_fewer mode.X w)
      (λ (w : Creates digest (IndexFails create) (λ l p e at. IsIndex digest create r l p e at) r c q d stage).
      ⊎_elim (λ (f : (e : Refusal) × (e ≢ NoMemory → IndexFails create w.locked e) × IsRefused digest e r w.locked q d stage). refused_fewer digest r q w.locked d stage f.0 f.2) (λ (m : IsIndex digest create r w.locked q d stage). index_fewer digest r q w.locked d stage create m) w.how)
      k
  fewer_by (st.Alter alter) k = alters_fewer (by_alter alter) k
  fewer_by (st.Drop name) k = alters_fewer (by_drop name) k
  fewer_by (st.Change row) k = up_fewer (st.Change row) k
  fewer_by (st.Select s) k = up_fewer (st.Select s) k
  fewer_by st.Begin k = up_fewer st.Begin k
  fewer_by st.Commit k = up_fewer st.Commit k
  fewer_by (st.Save name) k = up_fewer (st.Save name) k
  fewer_by (st.Rollback name) k = up_fewer (st.Rollback name) k
  fewer_by st.Digest k = up_fewer st.Digest k
  fewer_by st.Image k = up_fewer st.Image k

module _ {H : Type 0} (digest : H → List ℕ → List ℕ) (y : Seat H) (c d : CatalogCell) (r : Running H) (has : y.running ≡ Some r) (s : Stmt) (is : y.stmt ≡ Some s) (q : Running H) (stage : Stage) (k : Looked digest s r c q d stage) where
  abbrev z : Seat H
  z = then_seat y y.started y.text y.stmt (Some q) (Inside stage)

  pub look_visits : y.point ≡ Inside Looking → Visits digest y (catalog_seen c) (catalog_seen d) z
  look_visits here a = let i = looking_is digest y c a here in
      looked_so digest y c d a i q stage (subst (λ (u : Stmt). Looked digest u i.r c q d stage) (one_of s i.stmt y.stmt is i.has_stmt)
      (subst (λ (p : Running H). Looked digest s p c q d stage) (one_of r i.r y.running has i.has_running) k))

  pub look_comes : y.point ≡ Inside Looking → ComesOn y (catalog_seen c) (catalog_seen d) z
  look_comes here = comes_on y c d Looking here r has q stage (fewer_by digest r c q d stage s k)

  pub look_stays : y.point ≡ Inside Looking → KeepsStatement y z
  look_stays here = stays y c d Looking here r has q stage (looked_behind digest r c q d stage s k)

-- ---- a statement gives its lock back

-- as it was, with its transaction and at this stage
abbrev pub staying_seat : {H : Type 0} → Seat H → Stage → Seat H
staying_seat y stage = then_seat y y.started y.text y.stmt y.running (Inside stage)

pub give_visits : {H : Type 0} (digest : H → List ℕ → List ℕ) (y : Seat H) (c d : CatalogCell) (e : Refusal) (stage : Stage) → y.point ≡ Inside (GivingBack e) → (r : Running H) → y.running ≡ Some r
    → ((h : H) (o : OpenTransaction) → Represents digest h r.context o → d ≡ with_holds (released c.holds o.id) c) → stage ≡ stopped_stage e
    → Visits digest y (catalog_seen c) (catalog_seen d) (staying_seat y stage)
give_visits {H} digest y c d e stage here r has cell is a = let i = giving_is digest y c a e here in
    let same : i.r ≡ r = one_of i.r r y.running i.has_running has in
    subst₂ (λ (u : Option (Running H)) (s : Stage). IsVisit digest y (catalog_seen c) a (catalog_seen d) (then_seat y y.started y.text y.stmt u (Inside s))) (sym i.has_running) (sym is)
    (gives_back digest y c d a (GivingBack e) i i.r i.run.context refl refl refl refl refl e refl
    (cell a.h i.o (subst (λ (p : Running H). Represents digest a.h p.context i.o) same i.run.context)))

module _ {H : Type 0} (y : Seat H) (c d : CatalogCell) (e : Refusal) (stage : Stage) (here : y.point ≡ Inside (GivingBack e)) (r : Running H) (has : y.running ≡ Some r) (is : stage ≡ stopped_stage e) where
  pub give_comes : ComesOn y (catalog_seen c) (catalog_seen d) (staying_seat y stage)
  give_comes = subst₂ (λ (u : Option (Running H)) (s : Stage). ComesOn y (catalog_seen c) (catalog_seen d) (then_seat y y.started y.text y.stmt u (Inside s))) (sym has) (sym is)
      (comes_on y c d (GivingBack e) here r has r (stopped_stage e) (let few = stopped_few e r r refl in omega (arith, few)))

  pub give_stays : KeepsStatement y (staying_seat y stage)
  give_stays = subst (λ (u : Option (Running H)). KeepsStatement y (then_seat y y.started y.text y.stmt u (Inside stage))) (sym has)
      (stays y c d (GivingBack e) here r has r stage (subst IsBehind (sym is) (λ b. b)))
