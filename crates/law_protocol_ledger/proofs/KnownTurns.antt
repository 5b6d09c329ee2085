-- The journal says more, and cells and seats stay: what that owes where the definitions stay, and what stands then.
use Rattle.std.proofs.Common.{◌≡◌, ℕ, ◌≤◌, true, false, not, List, Option, Some, None, sym, ◌∙◌, subst, inl, ⊎_elim, []}
use Rattle.sql_types.specs.declared.statement.Stmt.{Stmt}
use Rattle.sql_types.specs.declared.table.TableDef.{TableDef}
use Rattle.sql_types.specs.declared.version.Version.{Version}
use Rattle.spec_model.specs.Keys.{version_key}
use Rattle.spec_model.specs.Rows.{EventId}
use Rattle.spec_model.specs.Catalog.{Defs, defs_of, versions_of}
use Rattle.spec_model.specs.Agreement.{columns_at}
use Rattle.spec_model.specs.Reach.{lets_change}
use Rattle.spec_history.specs.Lists.{Each}
use Rattle.spec_history.specs.Transactions.{unfixed}
use Rattle.spec_history.proofs.Trace.{each_weaker}
use Rattle.spec_protocol.specs.Server.{Server}
use Rattle.spec_protocol.specs.Cells.{TableCell, catalog_at, Creator}
use Rattle.spec_protocol.specs.Contents.{Contents, Known, HasAlone}
use Rattle.spec_protocol.specs.Seats.{OpenTransaction, Session, SeatState}
use Rattle.spec_protocol.specs.OpenOnes.{HasOpen, script_so_far, script_end}
use Rattle.spec_protocol.specs.RequestsIn.{requests_in, Holds}
use Rattle.spec_protocol.specs.CommittedTxs.{committed}
use Rattle.spec_protocol.specs.TablesAreSerial.{Creates, AreIndexes, StandsAs, TablesAreSerial, def_at, IsCarried, IsUnderWay}
use Rattle.spec_protocol.specs.OpenScripts.{IsOfItsScript, OpenScripts}
use Rattle.spec_protocol.specs.LocksCover.{LookedAt, HasLock, IsGotAt, LiesUnder, EndLiesUnder, IsUnderLocks, LocksCover, RequestsNone}
use Rattle.spec_protocol.specs.TreesAreOfEvents.{HasItsTrees, TreesAreOfEvents}

-- what is owed where k turns into m
pub record Says (v : Server) (c : Contents) (k m : Known) (seats : List SeatState) : Type 0 where
  pub defs : defs_of m.tables ≡ defs_of k.tables
  pub has : (n : ℕ) → m.has n ≡ false → k.has n ≡ false
  pub after : (n : ℕ) → defs_of k.tables ≡ defs_of (k.after n) → defs_of m.tables ≡ defs_of (m.after n)
  pub versions : (id : ℕ) → 1 ≤ id → committed m.has (c.versions id) ≡ versions_of m.tables id
  -- nobody changes definitions
  pub none_creates : (x : Session) (stmt : Stmt) → Creates v c k seats x stmt → ⊥
  pub got : (j : ℕ) (x : Session) (o : OpenTransaction) → HasOpen seats j x o → HasLock c catalog_at o.id → IsGotAt v k.tables (HasAlone c o.id) (not (k.has o.id)) x.place → IsGotAt v m.tables (HasAlone c o.id) (not (m.has o.id)) x.place
  pub carried : (defs : Defs) (j : ℕ) (x : Session) (o : OpenTransaction) → HasOpen seats j x o → o.end ≡ unfixed
      → IsCarried defs k.tables (script_end v k.tables x o).state.tables → IsCarried defs m.tables (script_end v m.tables x o).state.tables
  pub scripts : (j : ℕ) (x : Session) (o : OpenTransaction) → HasOpen seats j x o → o.end ≡ unfixed → IsOfItsScript v c k.tables x o → IsOfItsScript v c m.tables x o
  pub trees : (j : ℕ) (x : Session) (o : OpenTransaction) → HasOpen seats j x o → o.end ≡ unfixed → HasItsTrees v c k x o → HasItsTrees v c m x o

module _ (v : Server) (c : Contents) (k m : Known) (seats : List SeatState) (more : Says v c k m seats) where
  indexes_same : (def : TableDef) (indexes : List (List ℕ)) → AreIndexes v c k seats def indexes → AreIndexes v c m seats def indexes
  indexes_same def indexes h = ⊎_elim (λ e. inl e) (λ e. absurd (more.none_creates e.0 e.1 e.3)) h

  stands_as : (cell : TableCell) (def : Option TableDef) → StandsAs v c k seats cell def → StandsAs v c m seats cell def
  stands_as cell None h = h
  stands_as cell (Some def) h = record { key = h.key; fit = h.fit; in_key_order = h.in_key_order; keys_differ = h.keys_differ; projections = h.projections; indexes = indexes_same def _ h.indexes }

  pub tables_more : (defs : Defs) (creator : Option Creator) → TablesAreSerial v c k defs creator seats → TablesAreSerial v c m defs creator seats
  tables_more defs creator h = record {
    definitions = ⊎_elim (λ e. inl (e ∙ sym more.defs)) (λ (u : IsUnderWay v c k seats defs creator). absurd (more.none_creates u.x u.stmt u.by)) h.definitions;
    goes_back = λ e is. let g = h.goes_back e is in record { exclusive = g.exclusive; before = λ out. g.before (more.has e.tx out) ∙ sym more.defs };
    carried = λ j x o has u. more.carried defs j x o has u (h.carried j x o has u);
    indexed = h.indexed;
    versions = more.versions;
    tables = λ i cell e. subst (λ (ds : Defs). StandsAs v c m seats cell (def_at ds cell.id)) (sym more.defs) (stands_as cell (def_at (defs_of k.tables) cell.id) (h.tables i cell e));
  }

  pub scripts_more : OpenScripts v c k seats → OpenScripts v c m seats
  scripts_more h j x o has u = more.scripts j x o has u (h j x o has u)

  pub trees_more : TreesAreOfEvents v c k seats → TreesAreOfEvents v c m seats
  trees_more h j x o has u = more.trees j x o has u (h j x o has u)

  -- ---- locks

  over : (P : Defs → Type 0) → P (defs_of k.tables) → P (defs_of m.tables)
  over P p = subst P (sym more.defs) p

  lies : (id : ℕ) (w : Version) (event : EventId) → LiesUnder c k.tables id w event → LiesUnder c m.tables id w event
  lies id w event l = record { hold = l.hold; has = l.has; mine = l.mine; reaches = over (λ ds. lets_change (version_key (columns_at ds id) w) l.hold.request ≡ true) l.reaches }

  end_lies : (id : ℕ) (w : Version) (o : Option EventId) → EndLiesUnder c k id w o → EndLiesUnder c m id w o
  end_lies id w None h = tt
  end_lies id w (Some event) h = λ e. lies id w event (h (more.has event.0 e))

  under : (id : ℕ) (w : Version) → IsUnderLocks c k id w → IsUnderLocks c m id w
  under id w u = record { start = λ e. lies id w w.start (u.start (more.has w.start.0 e)); end = end_lies id w w.end u.end }

  requests_none : (o : OpenTransaction) → RequestsNone v c k.tables o → RequestsNone v c m.tables o
  requests_none o w = record {
    before = over (λ ds. Each (λ l. requests_in v ds o.explicit catalog_at l.0 ≡ []) o.script) w.before;
    elsewhere = w.elsewhere;
    shares = w.shares;
  }

  pub cover_more : LocksCover v c k seats → LocksCover v c m seats
  cover_more h = record {
    belong = h.belong;
    cover = λ j x o has i r. over (λ ds. Each (λ l. Each (Holds (c.holds i) o.id) (requests_in v ds o.explicit i l.0)) (script_so_far x o)) (h.cover j x o has i r);
    unreleased = h.unreleased;
    looked = λ j x o has u. over (λ ds. LookedAt v c ds o.id o.explicit x.place) (h.looked j x o has u);
    looked_first = λ j x o has u f. requests_none o (h.looked_first j x o has u f);
    intents = h.intents;
    on_whole = h.on_whole;
    dropping = h.dropping;
    catalog = h.catalog;
    definitions = λ j x o n has e l. more.after n (h.definitions j x o n has e l);
    got = λ j x o has l. more.got j x o has l (h.got j x o has l);
    under = λ id l. each_weaker (IsUnderLocks c k id) (IsUnderLocks c m id) (under id) (c.versions id) (h.under id l);
  }
