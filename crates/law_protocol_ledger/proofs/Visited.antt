-- What an open transaction touched lies in cells that it visited, and what undo by number leaves of what it touched.
use Rattle.std.proofs.Common.{◌≡◌, ◌≢◌, ℕ, ◌≤◌, Bool, true, false, not, List, [], ◌∷◌, map, Option, Some, None, refl, sym, ap, ◌∙◌, subst, inl, inr, ⊎_elim, leb-true, leb-false, arith}
use Rattle.std.proofs.lemmas.Bool.{eq-eqb, ne_eqb, le-leb}
use Rattle.std.specs.Prelude.{◌==◌, ◌&&◌, ◌||◌, ◌-◌, nat_le, if◌then◌else◌}
use Rattle.std.specs.List.{filter, list_any}
use Rattle.sql_types.specs.declared.lock.Hold.{Hold}
use Rattle.sql_types.specs.declared.version.Version.{Version}
use Rattle.spec_model.specs.Rows.{EventId}
use Rattle.spec_model.specs.Catalog.{defs_of, versions_of}
use Rattle.spec_model.specs.Script.{script}
use Rattle.spec_model.specs.Touched.{ends_by, is_touched, touched}
use Rattle.spec_model.specs.Undo.{is_undone, end_left, end_undone, versions_undone}
use Rattle.law_frame.proofs.NoClash.{system_texts}
use Rattle.law_frame.proofs.LeftScripts.{script_leaves_table}
use Rattle.spec_history.specs.Lists.{Text, In}
use Rattle.spec_history.specs.Transactions.{unfixed}
use Rattle.spec_history.proofs.Trace.{each_weaker}
use Rattle.spec_protocol.specs.Server.{Server}
use Rattle.spec_protocol.specs.Cells.{Cell, cell_of}
use Rattle.spec_protocol.specs.Contents.{Contents, Known, contents, known}
use Rattle.spec_protocol.specs.LocksCover.{LiesUnder, EndLiesUnder, IsUnderLocks}
use Rattle.spec_protocol.specs.OpenOnes.{HasOpen}
use Rattle.spec_protocol.specs.Seats.{OpenTransaction, Session, SeatState}
use Rattle.spec_protocol.specs.StandTogether.{History, Stands}
use Rattle.law_protocol_steps.proofs.FreshIds.{EndIsNotOf, IsNotOf, none_touched, none_touched_in}
use Rattle.law_protocol_steps.proofs.Ids.{outside, has_not}
use Rattle.law_protocol_steps.proofs.OpenSeats.{one_open}
use Rattle.law_protocol_steps.proofs.OthersScripts.{sound_for}

-- ---- undo by number

both_false : (a b : Bool) → (a || b) ≡ false → (a ≡ false) × (b ≡ false)
both_false true b e = cc
both_false false b e = (refl, e)

module _ (tx seq : ℕ) where
  end_kept : (o : Option EventId) → ends_by tx o ≡ false → ends_by tx (end_left tx seq o) ≡ false
  end_kept None e = refl
  end_kept (Some event) e = rw e e

  abbrev left : List Version → List Version
  left vs = versions_undone tx seq vs

  pub touched_undone : (vs : List Version) → touched tx (left vs) ≡ touched tx (left (touched tx vs))
  touched_undone [] = refl
  touched_undone (v ∷ vs) = by_touch (is_touched tx v) refl (touched_undone vs)
    where
      dropped : (v.start.0 == tx) ≡ false → ends_by tx v.end ≡ false → touched tx (left (v ∷ vs)) ≡ touched tx (left vs)
      dropped a b = ap (λ (z : Bool). touched tx (map (end_undone tx seq) (if not (z && nat_le seq v.start.1) then v ∷ filter (λ w. not (is_undone tx seq w.start)) vs else filter (λ w. not (is_undone tx seq w.start)) vs))) a
          ∙ (λ i. if a i || end_kept v.end b i then end_undone tx seq v ∷ touched tx (left vs) else touched tx (left vs))

      with_it : (b : Bool) → touched tx (left vs) ≡ touched tx (left (touched tx vs)) → touched tx (map (end_undone tx seq) (if b then v ∷ filter (λ w. not (is_undone tx seq w.start)) vs else filter (λ w. not (is_undone tx seq w.start)) vs))
          ≡ touched tx (map (end_undone tx seq) (if b then v ∷ filter (λ w. not (is_undone tx seq w.start)) (touched tx vs) else filter (λ w. not (is_undone tx seq w.start)) (touched tx vs)))
      with_it true ih = ap (λ (l : List Version). if is_touched tx (end_undone tx seq v) then end_undone tx seq v ∷ l else l) ih
      with_it false ih = ih

      by_touch : (b : Bool) → is_touched tx v ≡ b → touched tx (left vs) ≡ touched tx (left (touched tx vs)) → touched tx (left (v ∷ vs)) ≡ touched tx (left (if b then v ∷ touched tx vs else touched tx vs))
      by_touch true e ih = with_it (not (is_undone tx seq v.start)) ih
      by_touch false e ih = let p = both_false (v.start.0 == tx) (ends_by tx v.end) e in dropped p.0 p.1 ∙ ih

-- ---- cells

in_list : (a : ℕ) (ns : List ℕ) → In a ns → list_any (λ i. i == a) ns ≡ true
in_list a [] i = absurd i
in_list a (n ∷ ns) i = ⊎_elim (λ (e : n ≡ a). ap (λ (b : Bool). b || list_any (λ k. k == a) ns) (eq-eqb n a e)) (λ (k : In a ns). by_first (n == a) (in_list a ns k)) i
  where
    by_first : (b : Bool) → list_any (λ k. k == a) ns ≡ true → (b || list_any (λ k. k == a) ns) ≡ true
    by_first true e = refl
    by_first false e = e

in_filter : (a : ℕ) (test : ℕ → Bool) (ns : List ℕ) → test a ≡ true → In a ns → In a (filter test ns)
in_filter a test [] e i = absurd i
in_filter a test (n ∷ ns) e i = by_test (test n) refl i (in_filter a test ns e)
  where
    by_test : (b : Bool) → test n ≡ b → In a (n ∷ ns) → (In a ns → In a (filter test ns)) → In a (if b then n ∷ filter test ns else filter test ns)
    by_test true f i r = ⊎_elim (λ (g : n ≡ a). inl g) (λ (g : In a ns). inr (r g)) i
    by_test false f i r = ⊎_elim (λ (g : n ≡ a). let no : true ≡ false = sym e ∙ ap test (sym g) ∙ f in cc) (λ (g : In a ns). r g) i

cell_of_user : (id : ℕ) → 3 ≤ id → cell_of id ≡ id - 1
cell_of_user id l = rw (ne_eqb id 1 (λ e. omega (arith, e)), ne_eqb id 2 (λ e. omega (arith, e))) refl

le_true : (n : ℕ) → 1 ≤ n → nat_le 1 n ≡ true
le_true n l = le-leb 1 n l

module _ (v : Server) (cells : List Cell) (seats : List SeatState) {history : History} (st : Stands v history cells seats) (j : ℕ) (x : Session) (o : OpenTransaction) (has : HasOpen seats j x o) (open_end : o.end ≡ unfixed) where
  abbrev c : Contents
  c = contents cells

  abbrev k : Known
  k = known v.reads st.ledger.items

  -- its locks lie in cells that it visited
  pub lock_visited : (i : ℕ) (h : Hold) → In h (c.holds i) → h.tx ≡ o.id → In i o.visited
  lock_visited i h e mine = let b = st.locks_cover.belong i h e in
      let here : j ≡ b.j = b.only j x o has (sym mine) in
      subst (λ u. In i u.visited) (one_open seats j b.x x b.o o (subst (λ n. HasOpen seats n b.x b.o) (sym here) b.has) has).1 b.visited

  not_in_journal : k.has o.id ≡ false
  not_in_journal = has_not o.id st.ledger.items (outside v history st.ledger seats st.transcripts_agree j x o has open_end)

  module _ (id : ℕ) (away : In (cell_of id) o.visited → ⊥) where
    not_its : (w : Version) (event : EventId) → (k.has event.0 ≡ false → LiesUnder c k.tables id w event) → event.0 ≢ o.id
    not_its w event h e = let u = h (ap k.has e ∙ not_in_journal) in away (lock_visited (cell_of id) u.hold u.has (u.mine ∙ e))

    end_not_its : (w : Version) (e : Option EventId) → EndLiesUnder c k id w e → EndIsNotOf o.id e
    end_not_its w None h = tt
    end_not_its w (Some event) h = not_its w event h

    untouched : 1 ≤ id → touched o.id (c.versions id) ≡ []
    untouched l = none_touched o.id (c.versions id) (each_weaker (IsUnderLocks c k id) (IsNotOf o.id) (λ w u. record { start = not_its w w.start u.start; end = end_not_its w w.end u.end }) (c.versions id) (st.locks_cover.under id l))

  -- in a user's table in whose cell it wasn't it touched nothing; nor, where BEGIN opened it, in a system table
  module _ (explicit : o.explicit ≡ true) (texts : List Text) (its : (id : ℕ) → 1 ≤ id → touched o.id (c.versions id) ≡ touched o.id (versions_of (script v.reads o.explicit k.tables o.id texts).state.tables id)) where
    system : (id : ℕ) → 1 ≤ id → id ≤ 2 → touched o.id (c.versions id) ≡ []
    system id l m = its id l ∙ ap (λ (b : Bool). touched o.id (versions_of (script v.reads b k.tables o.id texts).state.tables id)) explicit
        ∙ ap (touched o.id) (script_leaves_table o.id k.tables id v.reads texts (system_texts (defs_of k.tables) id v.reads texts m)) ∙ none_touched_in o.id k.tables id (sound_for v cells seats st j x o has open_end)

    pub nothing_there : (id : ℕ) → 1 ≤ id → list_any (λ i. i == cell_of id) (filter (λ i. nat_le 1 i) o.visited) ≡ false → touched o.id (c.versions id) ≡ []
    nothing_there id l none = by_id (nat_le id 2) refl
      where
        by_id : (b : Bool) → nat_le id 2 ≡ b → touched o.id (c.versions id) ≡ []
        by_id true e = system id l (omega (arith, leb-true id 2 e))
        by_id false e = let m : 3 ≤ id = omega (arith, leb-false id 2 e) in
            untouched id (λ i. let no : true ≡ false = sym (in_list (cell_of id) (filter (λ n. nat_le 1 n) o.visited) (in_filter (cell_of id) (λ n. nat_le 1 n) o.visited (le_true (cell_of id) (let e = cell_of_user id m in omega arith)) i)) ∙ none in cc) l
