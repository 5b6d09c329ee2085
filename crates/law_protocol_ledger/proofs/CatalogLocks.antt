-- A transaction that left an event has a lock in the catalog; so nobody else has its X.
use Rattle.std.proofs.Common.{◌≡◌, ◌≢◌, ℕ, ◌⊎◌, Bool, true, false, List, [], ◌∷◌, ◌++◌, Option, Some, None, refl, sym, ap, ◌∙◌, subst, inl, inr, ⊎_elim}
use Rattle.std.specs.Prelude.{◌&&◌, ◌||◌}
use Rattle.std.specs.List.{AllByRecursion}
use Rattle.sql_types.specs.declared.lock.Mode.{Mode}
use Rattle.sql_types.specs.declared.lock.Mode.TheVariants.{S, X}
use Rattle.sql_types.specs.declared.statement.Stmt.{Stmt}
use Rattle.sql_types.specs.declared.statement.Stmt.TheVariants as s
use Rattle.sql_types.specs.declared.lock.LockRequest.{LockRequest}
use Rattle.spec_model.specs.Catalog.{Defs, Tables, defs_of, versions_of}
use Rattle.spec_model.specs.Locks.{CellRequests, whole, conflict, same_item, requests_conflict, catalog_request, cell_requests}
use Rattle.spec_model.specs.Reach.{catalog_reaches, cell_reaches_table, reaches_table}
use Rattle.spec_model.specs.Script.{Reading, by_statement, start, text_step, script_from, script}
use Rattle.spec_model.specs.ScriptRequests.{text_requests, script_requests}
use Rattle.law_frame.proofs.Definitions.{cell_requests_share}
use Rattle.law_frame.proofs.LeftScripts.{script_leaves_table}
use Rattle.law_frame.proofs.SameEnds.{IsShort}
use Rattle.spec_history.specs.Lists.{Text, Each, In}
use Rattle.spec_protocol.specs.Server.{Server}
use Rattle.spec_protocol.specs.Cells.{catalog_at}
use Rattle.spec_protocol.specs.Contents.{Contents}
use Rattle.spec_protocol.specs.Seats.{OpenTransaction, Session, SeatState}
use Rattle.spec_protocol.specs.OpenOnes.{HasOpen}
use Rattle.spec_protocol.specs.RequestsIn.{of_catalog, of_cell, requests_in, Holds}
use Rattle.spec_protocol.specs.LocksAgree.{LocksAgree}
use Rattle.law_protocol_steps.proofs.Ids.{each_in}
use Rattle.law_protocol_steps.proofs.OthersAgree.{AllLocked}
use Rattle.law_protocol_steps.proofs.Excluded.{x_conflicts}

-- ---- who wants nothing in the catalog does nothing

no_cell : (defs : Defs) (explicit : Bool) (stmt : Stmt) (c : CellRequests) → cell_requests defs stmt ≡ c → catalog_request explicit stmt ≡ None → (id : ℕ) → cell_reaches_table id c ≡ false
no_cell defs explicit stmt None e f id = refl
no_cell defs explicit stmt (Some c) e f id = let shares : catalog_request explicit stmt ≡ Some S = cell_requests_share defs explicit stmt c e in let no : None ≡ Some S = sym f ∙ shares in cc

reaches_none : (defs : Defs) (explicit : Bool) (o : Option Stmt) → (text_requests defs explicit o).catalog ≡ None → (id : ℕ) → reaches_table id (text_requests defs explicit o) ≡ false
reaches_none defs explicit None e id = refl
reaches_none defs explicit (Some stmt) e id = (λ i. catalog_reaches id (e i) || cell_reaches_table id (cell_requests defs stmt)) ∙ no_cell defs explicit stmt (cell_requests defs stmt) refl e id

one_none : (T : Tables) (tx : ℕ) (o : Option Stmt) → (text_requests (defs_of T) false o).catalog ≡ None → (by_statement false tx (start T) o).0.tables ≡ T
one_none T tx None e = refl
one_none T tx (Some (s.Create c)) e = cc
one_none T tx (Some (s.Index c)) e = cc
one_none T tx (Some (s.Alter a)) e = cc
one_none T tx (Some (s.Drop name)) e = cc
one_none T tx (Some (s.Change x)) e = cc
one_none T tx (Some (s.Select q)) e = cc
one_none T tx (Some s.Begin) e = refl
one_none T tx (Some s.Commit) e = refl
one_none T tx (Some (s.Save name)) e = refl
one_none T tx (Some (s.Rollback name)) e = refl
one_none T tx (Some s.Digest) e = refl
one_none T tx (Some s.Image) e = refl

module _ (reads : Reading) (T : Tables) (tx : ℕ) where
  all_none : (id : ℕ) (texts : List Text) → Each (λ t. (text_requests (defs_of T) true (reads t)).catalog ≡ None) texts → AllByRecursion (λ w. reaches_table id w ≡ false) (script_requests reads (defs_of T) true texts)
  all_none id [] h = tt
  all_none id (t ∷ ts) h = (reaches_none (defs_of T) true (reads t) h.0 id, all_none id ts h.1)

  pub does_nothing : (explicit : Bool) (texts : List Text) → (explicit ≡ false → IsShort reads tx texts) → Each (λ t. (text_requests (defs_of T) explicit (reads t)).catalog ≡ None) texts → (id : ℕ)
      → versions_of (script reads explicit T tx texts).state.tables id ≡ versions_of T id
  unfolding script_from text_step
  does_nothing true texts short h id = script_leaves_table tx T id reads texts (all_none id texts h)
  does_nothing false [] short h id = refl
  does_nothing false (t ∷ []) short h id = ap (λ (U : Tables). versions_of U id) (one_none T tx (reads t) h.0)
  does_nothing false (t ∷ u ∷ ts) short h id = absurd (short refl)

-- ---- a want of the catalog among texts

pub record RequestsCatalog (v : Server) (defs : Defs) (explicit : Bool) (texts : List Text) : Type 0 where
  pub text : Text
  pub is : In text texts
  pub mode : Mode
  pub requests : (text_requests defs explicit (v.reads text)).catalog ≡ Some mode

pub requests_or_not : (v : Server) (defs : Defs) (explicit : Bool) (texts : List Text) → RequestsCatalog v defs explicit texts ⊎ Each (λ t. (text_requests defs explicit (v.reads t)).catalog ≡ None) texts
requests_or_not v defs explicit [] = inr tt
requests_or_not v defs explicit (t ∷ ts) = first (text_requests defs explicit (v.reads t)).catalog refl (requests_or_not v defs explicit ts)
  where
    first : (o : Option Mode) → (text_requests defs explicit (v.reads t)).catalog ≡ o → RequestsCatalog v defs explicit ts ⊎ Each (λ t. (text_requests defs explicit (v.reads t)).catalog ≡ None) ts
        → RequestsCatalog v defs explicit (t ∷ ts) ⊎ Each (λ t. (text_requests defs explicit (v.reads t)).catalog ≡ None) (t ∷ ts)
    first (Some m) e r = inl (record { text = t; is = inl refl; mode = m; requests = e })
    first None e r = ⊎_elim (λ w. inl (record { text = w.text; is = inr w.is; mode = w.mode; requests = w.requests })) (λ n. inr (e, n)) r

module _ (v : Server) (c : Contents) (seats : List SeatState) (agree : LocksAgree c seats) (T : Tables) (j : ℕ) (x : Session) (o : OpenTransaction) (has : HasOpen seats j x o) (texts : List Text) (locked : AllLocked v c T o.explicit o.id texts)
    (requests : RequestsCatalog v (defs_of T) o.explicit texts) where
  lock : Holds (c.holds catalog_at) o.id (whole requests.mode)
  lock = first_of (text_requests (defs_of T) o.explicit (v.reads requests.text)).catalog requests.requests (each_in (λ t. Each (Holds (c.holds catalog_at) o.id) (requests_in v (defs_of T) o.explicit catalog_at t)) texts requests.text (locked catalog_at) requests.is)
    where
      first_of : (m : Option Mode) → m ≡ Some requests.mode → Each (Holds (c.holds catalog_at) o.id) (of_catalog m ++ of_cell catalog_at (text_requests (defs_of T) o.explicit (v.reads requests.text)).cell) → Holds (c.holds catalog_at) o.id (whole requests.mode)
      first_of None e h = cc
      first_of (Some m) e h = let same : m ≡ requests.mode = cc in subst (λ (n : Mode). Holds (c.holds catalog_at) o.id (whole n)) same h.0

  conflicts : (w : LockRequest) → same_item w.item (whole requests.mode).item ≡ true → w.mode ≡ requests.mode → requests_conflict w (whole X) ≡ true
  conflicts w e f = (λ i. e i && conflict (f i) X) ∙ x_conflicts requests.mode

  -- nobody else has the X
  pub nobody_alone : (i : ℕ) (y : Session) (p : OpenTransaction) → i ≢ j → HasOpen seats i y p → In (record { tx = p.id; request = whole X }) (c.holds catalog_at) → ⊥
  nobody_alone i y p ne has_p exclusive = let a = agree catalog_at j i lock.hold (record { tx = p.id; request = whole X }) (λ e. ne (sym e))
      (record { x = x; o = o; open_one = has; lock = lock.has; mine = sym lock.mine }) (record { x = y; o = p; open_one = has_p; lock = exclusive; mine = refl }) in
      let b = conflicts lock.hold.request lock.item lock.mode in let no : true ≡ false = sym b ∙ a in cc
