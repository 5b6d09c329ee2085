-- What the tables to which a legal journal leads have of its transactions, table by table.
use Rattle.std.proofs.Common.{◌≡◌, ◌≢◌, ℕ, ◌+◌, ◌≤◌, Bool, true, false, List, [], ◌∷◌, map, length, Option, Some, None, IfSome, refl, sym, ap, ◌∙◌, ⊎_elim, arith, is_none}
use Rattle.std.proofs.lemmas.Bool.{eq-eqb, ne_eqb, or_left, or_right}
use Rattle.std.specs.Prelude.{◌==◌, if◌then◌else◌}
use Rattle.std.specs.List.{AllByRecursion, filter}
use Rattle.sql_value.specs.declared.column.ColumnDef.{ColumnDef}
use Rattle.sql_types.specs.declared.journal.JournalItem.{JournalItem}
use Rattle.sql_types.specs.declared.journal.JournalItem.TheVariants.{Tx, Close}
use Rattle.sql_types.specs.declared.table.TableDef.{TableDef}
use Rattle.sql_types.specs.declared.version.Table.{Table}
use Rattle.sql_types.specs.declared.version.Version.{Version}
use Rattle.spec_model.specs.Agreement.{IdsFrom}
use Rattle.spec_model.specs.Catalog.{Tables, defs_of, versions_of}
use Rattle.spec_model.specs.Keys.{key_places, same_key, version_key}
use Rattle.spec_model.specs.Rows.{EventId, live}
use Rattle.spec_model.specs.Runs.{Rising, SoundTable}
use Rattle.law_journal.specs.Fits.{FitsSoFar}
use Rattle.law_journal.specs.Kept.{IsEarlier, EndedBefore, Apart, AllApart}
use Rattle.law_journal.specs.Serial.{place_in, HasTx, IsOf, TableOf}
use Rattle.spec_history.specs.Lists.{Each}
use Rattle.spec_protocol.specs.CommittedTxs.{end_committed, with_committed_end, committed}
use Rattle.spec_protocol.specs.Contents.{has_id}
use Rattle.spec_protocol.specs.TablesAreSerial.{KeysDiffer, def_at}

-- ---- ids

pub has_tx : (J : List JournalItem) (id : ℕ) → HasTx J id → has_id J id ≡ true
has_tx [] id h = absurd h
has_tx (Tx other session time explicit lines ∷ is) id h = ⊎_elim
    (λ (e : other ≡ id). or_left (other == id) (has_id is id) (eq-eqb other id e))
    (λ (k : HasTx is id). or_right (other == id) (has_id is id) (has_tx is id k)) h
has_tx (Close k ∷ is) id h = has_tx is id h

-- a version of the journal's transactions alone
pub record IsCommitted (has : ℕ → Bool) (v : Version) : Type 0 where
  pub start : has v.start.0 ≡ true
  pub end : IfSome v.end (λ e. has e.0 ≡ true)

end_in : (J : List JournalItem) (v : Version) (o : Option EventId) → IfSome o (λ e. HasTx J e.0 × IsEarlier (place_in J) v.start e) → IfSome o (λ e. has_id J e.0 ≡ true)
end_in J v None h = tt
end_in J v (Some e) h = has_tx J e.0 h.0

all_committed : (J : List JournalItem) (vs : List Version) → AllByRecursion (IsOf J) vs → Each (IsCommitted (has_id J)) vs
all_committed J [] h = tt
all_committed J (v ∷ vs) h = (record { start = has_tx J v.start.0 h.0.start; end = end_in J v v.end h.0.end }, all_committed J vs h.1)

module _ (has : ℕ → Bool) where
  end_stays : (o : Option EventId) → IfSome o (λ e. has e.0 ≡ true) → end_committed has o ≡ o
  end_stays None h = refl
  end_stays (Some e) h = ap (λ (b : Bool). if b then Some e else None) h

  -- and so nothing of it is left out
  pub committed_whole : (vs : List Version) → Each (IsCommitted has) vs → committed has vs ≡ vs
  committed_whole [] h = refl
  committed_whole (v ∷ vs) h = ap (λ (b : Bool). map (with_committed_end has) (if b then v ∷ filter (λ w. has w.start.0) vs else filter (λ w. has w.start.0) vs)) h.0.start
      ∙ (λ i. record { values = v.values; start = v.start; end = end_stays v.end h.0.end i } ∷ committed_whole vs h.1 i)

-- ---- keys of versions that stand

not_ended : (place : ℕ → ℕ) (v : Version) (e : ℕ × ℕ) → is_none v.end ≡ true → EndedBefore place e v → ⊥
not_ended place v e n h = let z : is_none (Some h.0) ≡ true = ap (λ (o : Option (ℕ × ℕ)). is_none o) (sym h.1) ∙ n in cc

each_apart : (place : ℕ → ℕ) (columns : List ColumnDef) (v : Version) → is_none v.end ≡ true → (ws : List Version) → AllByRecursion (Apart place columns v) ws
    → Each (λ w. same_key (version_key columns v) (version_key columns w) ≢ true) (live ws)
each_apart place columns v n [] h = tt
each_apart place columns v n (w ∷ ws) h = by (is_none w.end) refl (each_apart place columns v n ws h.1)
  where
    by : (b : Bool) → is_none w.end ≡ b → Each (λ u. same_key (version_key columns v) (version_key columns u) ≢ true) (live ws)
        → Each (λ u. same_key (version_key columns v) (version_key columns u) ≢ true) (if b then w ∷ live ws else live ws)
    by true e rest = ((λ k. ⊎_elim (λ (q : EndedBefore place w.start v). not_ended place v w.start n q) (λ (q : EndedBefore place v.start w). not_ended place w v.start e q) (h.0 k)), rest)
    by false e rest = rest

keys_apart : (place : ℕ → ℕ) (columns : List ColumnDef) (vs : List Version) → AllApart place columns vs → KeysDiffer (key_places columns) (live vs)
keys_apart place columns [] h = tt
keys_apart place columns (v ∷ vs) h = by (is_none v.end) refl (keys_apart place columns vs h.1)
  where
    by : (b : Bool) → is_none v.end ≡ b → KeysDiffer (key_places columns) (live vs) → KeysDiffer (key_places columns) (if b then v ∷ live vs else live vs)
    by true e rest = (each_apart place columns v e vs h.0, rest)
    by false e rest = rest

fit_each : (columns : List ColumnDef) (vs : List Version) → AllByRecursion (λ v. FitsSoFar columns v.values) vs → Each (λ v. FitsSoFar columns v.values) vs
fit_each columns [] h = tt
fit_each columns (v ∷ vs) h = (h.0, fit_each columns vs h.1)

-- ---- the table with an id

-- what stands of the versions of a table with this definition
pub record AreRows (columns : List ColumnDef) (vs : List Version) : Type 0 where
  pub fit : Each (λ v. FitsSoFar columns v.values) vs
  pub keys : KeysDiffer (key_places columns) (live vs)

module _ (J : List JournalItem) where
  -- of its versions, and of its definition if it has one
  abbrev pub RowsOf : Option TableDef → List Version → Type 0
  RowsOf None vs = vs ≡ []
  RowsOf (Some def) vs = AreRows def.columns vs

  one_table : (t : Table) → TableOf J t → RowsOf (Some t.def) t.versions
  one_table t h = record { fit = fit_each t.def.columns t.versions h.fit; keys = keys_apart (place_in J) t.def.columns t.versions h.apart }

  by_id : (b : Bool) (t : Table) (o : Option TableDef) (vs : List Version) → RowsOf (Some t.def) t.versions → RowsOf o vs → RowsOf (if b then Some t.def else o) (if b then t.versions else vs)
  by_id true t o vs h k = h
  by_id false t o vs h k = k

  pub rows_of : (T : Tables) (id : ℕ) → AllByRecursion (TableOf J) T → RowsOf (def_at (defs_of T) id) (versions_of T id)
  rows_of [] id h = refl
  rows_of (t ∷ ts) id h = by_id (t.def.id == id) t (def_at (defs_of ts) id) (versions_of ts id) (one_table t h.0) (rows_of ts id h.1)

  committed_by : (b : Bool) (xs ys : List Version) → Each (IsCommitted (has_id J)) xs → Each (IsCommitted (has_id J)) ys → Each (IsCommitted (has_id J)) (if b then xs else ys)
  committed_by true xs ys h k = h
  committed_by false xs ys h k = k

  pub committed_of : (T : Tables) (id : ℕ) → AllByRecursion (TableOf J) T → Each (IsCommitted (has_id J)) (versions_of T id)
  committed_of [] id h = tt
  committed_of (t ∷ ts) id h = committed_by (t.def.id == id) t.versions (versions_of ts id) (all_committed J t.versions h.0.ids) (committed_of ts id h.1)

rising_by : (b : Bool) (xs ys : List Version) → Rising xs → Rising ys → Rising (if b then xs else ys)
rising_by true xs ys h k = h
rising_by false xs ys h k = k

pub rising_of : (tx : ℕ) (T : Tables) (id : ℕ) → AllByRecursion (SoundTable tx 0) T → Rising (versions_of T id)
rising_of tx [] id h = tt
rising_of tx (t ∷ ts) id h = rising_by (t.def.id == id) t.versions (versions_of ts id) h.0.rising (rising_of tx ts id h.1)

-- above all ids there is nothing
pub none_above : (n : ℕ) (T : Tables) (id : ℕ) → IdsFrom n (defs_of T) → n + length (defs_of T) ≤ id → versions_of T id ≡ []
none_above n [] id ids l = refl
none_above n (t ∷ ts) id ids l = ap (λ (b : Bool). if b then t.versions else versions_of ts id) (ne_eqb t.def.id id (λ e. let own = ids.0 in omega (arith, own, e, l)))
    ∙ none_above (n + 1) ts id ids.1 (omega (arith, l))
