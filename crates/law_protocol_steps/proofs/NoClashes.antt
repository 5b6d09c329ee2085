-- Statements of two seats whose wants are locked don't clash.
use Rattle.std.proofs.Common.{◌≡◌, ◌≢◌, ℕ, Bool, true, false, List, [], ◌∷◌, Option, Some, None, refl, sym, ◌∙◌, subst, eqb-true}
use Rattle.std.proofs.lemmas.Bool.{eq-eqb, or_from}
use Rattle.std.specs.Prelude.{◌==◌, ◌&&◌, if◌then◌else◌}
use Rattle.std.specs.List.{list_any}
use Rattle.sql_types.specs.declared.lock.Mode.{Mode}
use Rattle.sql_types.specs.declared.lock.Item.{Item}
use Rattle.sql_types.specs.declared.lock.Item.TheVariants as item
use Rattle.sql_types.specs.declared.lock.LockRequest.{LockRequest}
use Rattle.sql_types.specs.declared.statement.Stmt.{Stmt}
use Rattle.spec_model.specs.Keys.{Key, same_key}
use Rattle.spec_model.specs.Catalog.{Defs}
use Rattle.spec_model.specs.Locks.{CellRequests, whole, conflict, same_item, requests_conflict, some_conflict, cells_clash, catalog_clash, catalog_request, cell_requests, clash}
use Rattle.spec_model.specs.Agreement.{LockRequests, requests_of}
use Rattle.law_frame.proofs.SameKeys.{same_key_as, same_itself}
use Rattle.spec_history.specs.Lists.{Each}
use Rattle.spec_history.proofs.Refused.{each_left, each_right}
use Rattle.spec_protocol.specs.Cells.{catalog_at, cell_of}
use Rattle.spec_protocol.specs.Contents.{Contents}
use Rattle.spec_protocol.specs.Seats.{OpenTransaction, Session, SeatState}
use Rattle.spec_protocol.specs.OpenOnes.{HasOpen}
use Rattle.spec_protocol.specs.RequestsIn.{of_catalog, of_cell, requests_at, Holds}
use Rattle.spec_protocol.specs.LocksAgree.{LocksAgree}

-- ---- like wants conflict alike

key_turned : (a b : Key) → same_key a b ≡ true → same_key b a ≡ true
key_turned a b e = sym (same_key_as a b a e) ∙ same_itself a

both_ways : (a b : Key) (p q : Bool) → same_key a b ≡ p → same_key b a ≡ q → p ≡ q
both_ways a b true q e f = sym (key_turned a b e) ∙ f
both_ways a b false true e f = sym e ∙ key_turned b a f
both_ways a b false false e f = refl

key_sym : (a b : Key) → same_key a b ≡ same_key b a
key_sym a b = both_ways a b (same_key a b) (same_key b a) refl refl

like_keys : (x a y b : Key) → same_key x a ≡ true → same_key y b ≡ true → same_key x y ≡ same_key a b
like_keys x a y b e f = same_key_as x a y e ∙ key_sym a y ∙ same_key_as y b a f ∙ key_sym b a

like_items : (x a y b : Item) → same_item x a ≡ true → same_item y b ≡ true → same_item x y ≡ same_item a b
unfolding same_item
like_items item.Whole item.Whole item.Whole item.Whole e f = refl
like_items item.Whole item.Whole (item.Key y) (item.Key b) e f = refl
like_items (item.Key x) (item.Key a) item.Whole item.Whole e f = refl
like_items (item.Key x) (item.Key a) (item.Key y) (item.Key b) e f = like_keys x a y b e f
like_items item.Whole (item.Key a) y b e f = cc
like_items (item.Key x) item.Whole y b e f = cc
like_items x a item.Whole (item.Key b) e f = cc
like_items x a (item.Key y) item.Whole e f = cc

pub like_requests : (x a y b : LockRequest) → same_item x.item a.item ≡ true → x.mode ≡ a.mode → same_item y.item b.item ≡ true → y.mode ≡ b.mode → requests_conflict x y ≡ requests_conflict a b
like_requests x a y b e m f n = (λ i. like_items x.item a.item y.item b.item e f i && conflict (m i) (n i))

-- ---- two seats

module _ (c : Contents) (seats : List SeatState) (agree : LocksAgree c seats) (i j : ℕ) (y x : Session) (p o : OpenTransaction) (ne : i ≢ j) (has_p : HasOpen seats i y p) (has_o : HasOpen seats j x o) where
  free_pair : (n : ℕ) (a b : LockRequest) → Holds (c.holds n) p.id a → Holds (c.holds n) o.id b → requests_conflict a b ≡ false
  free_pair n a b g h = sym (like_requests g.hold.request a h.hold.request b g.item g.mode h.item h.mode)
      ∙ agree n i j g.hold h.hold ne (record { x = y; o = p; open_one = has_p; lock = g.has; mine = sym g.mine }) (record { x = x; o = o; open_one = has_o; lock = h.has; mine = sym h.mine })

  one_free : (n : ℕ) (a : LockRequest) (bs : List LockRequest) → Holds (c.holds n) p.id a → Each (Holds (c.holds n) o.id) bs → list_any (requests_conflict a) bs ≡ false
  one_free n a [] g h = refl
  one_free n a (b ∷ bs) g h = or_from (requests_conflict a b) (list_any (requests_conflict a) bs) (free_pair n a b g h.0) (one_free n a bs g h.1)

  free_lists : (n : ℕ) (ws bs : List LockRequest) → Each (Holds (c.holds n) p.id) ws → Each (Holds (c.holds n) o.id) bs → some_conflict ws bs ≡ false
  free_lists n [] bs g h = refl
  free_lists n (a ∷ ws) bs g h = or_from (list_any (requests_conflict a) bs) (some_conflict ws bs) (one_free n a bs g.0 h) (free_lists n ws bs g.1 h)

  -- all that is wanted is locked, in each cell
  abbrev pub Locked : ℕ → LockRequests → Type 0
  Locked id w = (n : ℕ) → Each (Holds (c.holds n) id) (requests_at n w)

  catalog_free : (m n : Option Mode) → Each (Holds (c.holds catalog_at) p.id) (of_catalog m) → Each (Holds (c.holds catalog_at) o.id) (of_catalog n) → catalog_clash m n ≡ false
  unfolding same_item
  catalog_free None n g h = refl
  catalog_free (Some m) None g h = refl
  catalog_free (Some m) (Some n) g h = free_pair catalog_at (whole m) (whole n) g.0 h.0

  cell_there : (id n : ℕ) (ws : List LockRequest) → Each (Holds (c.holds (cell_of id)) n) (of_cell (cell_of id) (Some (id, ws))) → Each (Holds (c.holds (cell_of id)) n) ws
  cell_there id n ws h = subst (λ (b : Bool). Each (Holds (c.holds (cell_of id)) n) (if b then ws else [])) (eq-eqb (cell_of id) (cell_of id) refl) h

  same_cell : (a b : ℕ × List LockRequest) (e : Bool) → (a.0 == b.0) ≡ e → ((n : ℕ) → Each (Holds (c.holds n) p.id) (of_cell n (Some a))) → ((n : ℕ) → Each (Holds (c.holds n) o.id) (of_cell n (Some b))) → (e && some_conflict a.1 b.1) ≡ false
  same_cell a b false e g h = refl
  same_cell a b true e g h = let same : a.0 ≡ b.0 = eqb-true a.0 b.0 e in
      free_lists (cell_of a.0) a.1 b.1 (cell_there a.0 p.id a.1 (g (cell_of a.0)))
      (subst (λ (id : ℕ). Each (Holds (c.holds (cell_of id)) o.id) b.1) (sym same) (cell_there b.0 o.id b.1 (h (cell_of b.0))))

  cells_free : (a b : CellRequests) → ((n : ℕ) → Each (Holds (c.holds n) p.id) (of_cell n a)) → ((n : ℕ) → Each (Holds (c.holds n) o.id) (of_cell n b)) → cells_clash a b ≡ false
  cells_free None b g h = refl
  cells_free (Some a) None g h = refl
  cells_free (Some a) (Some b) g h = same_cell a b (a.0 == b.0) refl g h

  in_cells : (id : ℕ) (w : LockRequests) → Locked id w → (n : ℕ) → Each (Holds (c.holds n) id) (of_cell n w.cell)
  in_cells id w h n = each_right (Holds (c.holds n) id) (if n == catalog_at then of_catalog w.catalog else []) (of_cell n w.cell) (h n)

  in_catalog : (id : ℕ) (w : LockRequests) → Locked id w → Each (Holds (c.holds catalog_at) id) (of_catalog w.catalog)
  in_catalog id w h = each_left (Holds (c.holds catalog_at) id) (of_catalog w.catalog) (of_cell catalog_at w.cell) (h catalog_at)

  pub no_clash : (defs : Defs) (a b : Stmt) → Locked p.id (requests_of defs p.explicit a) → Locked o.id (requests_of defs o.explicit b) → clash defs p.explicit a o.explicit b ≡ false
  unfolding clash
  no_clash defs a b g h = let ga = requests_of defs p.explicit a in let hb = requests_of defs o.explicit b in
      or_from (catalog_clash (catalog_request p.explicit a) (catalog_request o.explicit b)) (cells_clash (cell_requests defs a) (cell_requests defs b))
      (catalog_free (catalog_request p.explicit a) (catalog_request o.explicit b) (in_catalog p.id ga g) (in_catalog o.id hb h))
      (cells_free (cell_requests defs a) (cell_requests defs b) (in_cells p.id ga g) (in_cells o.id hb h))
