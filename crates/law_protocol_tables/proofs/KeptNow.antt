-- What is kept of the tables of a journal, over which a transaction that isn't in it runs its script: each version fits, and of two versions of
-- one key one has ended.
use Rattle.std.proofs.Common.{◌≡◌, ℕ, suc, ◌<◌, Bool, true, false, List, [], ◌∷◌, Option, Some, None, refl, ap, inl, ⊎_elim, arith}
use Rattle.std.proofs.lemmas.Bool.{ne_eqb, eq-eqb}
use Rattle.std.specs.Prelude.{◌==◌, if◌then◌else◌, IfSome}
use Rattle.std.specs.List.{AllByRecursion}
use Rattle.sql_value.specs.declared.column.ColumnDef.{ColumnDef}
use Rattle.sql_types.specs.declared.journal.JournalItem.{JournalItem}
use Rattle.sql_types.specs.declared.journal.JournalItem.TheVariants.{Tx, Close}
use Rattle.sql_types.specs.declared.version.Version.{Version}
use Rattle.spec_model.specs.Rows.{EventId}
use Rattle.spec_model.specs.Catalog.{Tables, defs_of, versions_of}
use Rattle.spec_model.specs.Agreement.{columns_at}
use Rattle.spec_model.specs.Journals.{IsLegal, IsOther, tx_count, serial}
use Rattle.spec_model.specs.Script.{Reading, script}
use Rattle.law_frame.proofs.Alls.{all_weaker}
use Rattle.law_frame.proofs.LegalSound.{legal_sound}
use Rattle.law_journal.specs.Fits.{FitsSoFar}
use Rattle.law_journal.specs.Kept.{IsEarlier, AllApart, IsPast, KeptTable, Kept}
use Rattle.law_journal.specs.Serial.{place_in, HasTx, IsOf, TableOf}
use Rattle.law_journal.proofs.Serials.{no_number, legal_tables, legal_described}
use Rattle.law_journal.proofs.Scripts.{script_both}

-- ---- places

before_all : (items : List JournalItem) (id : ℕ) → HasTx items id → place_in items id < tx_count items
before_all [] id h = absurd h
before_all (Tx other session time explicit lines ∷ is) id h = by (other == id) refl (before_all is id)
  where
    by : (b : Bool) → (other == id) ≡ b → (HasTx is id → place_in is id < tx_count is) → (if b then 0 else suc (place_in is id)) < suc (tx_count is)
    by true e rest = omega arith
    by false e rest = ⊎_elim (λ (q : other ≡ id). absurd (let z : (other == id) ≡ true = eq-eqb other id q in cc)) (λ (k : HasTx is id). let l = rest k in omega arith) h
before_all (Close k ∷ is) id h = before_all is id h

behind_all : (items : List JournalItem) (id : ℕ) → AllByRecursion (IsOther id) items → place_in items id ≡ tx_count items
behind_all [] id h = refl
behind_all (Tx other session time explicit lines ∷ is) id h = rw (ne_eqb other id h.0) (ap suc (behind_all is id h.1))
behind_all (Close k ∷ is) id h = behind_all is id h.1

-- ---- one table

pub record KeptRows (place : ℕ → ℕ) (columns : List ColumnDef) (vs : List Version) : Type 0 where
  pub apart : AllApart place columns vs
  pub fit : AllByRecursion (λ v. FitsSoFar columns v.values) vs

kept_at : (place : ℕ → ℕ) (now : EventId) (id : ℕ) (T : Tables) → AllByRecursion (KeptTable place now) T → KeptRows place (columns_at (defs_of T) id) (versions_of T id)
kept_at place now id [] h = record { apart = tt; fit = tt }
kept_at place now id (t ∷ ts) h = by (t.def.id == id) (kept_at place now id ts h.1)
  where
    by : (b : Bool) → KeptRows place (columns_at (defs_of ts) id) (versions_of ts id) → KeptRows place (if b then t.def.columns else columns_at (defs_of ts) id) (if b then t.versions else versions_of ts id)
    by true rest = record { apart = h.0.apart; fit = h.0.fit }
    by false rest = rest

rows_at : (items : List JournalItem) (id : ℕ) (T : Tables) → AllByRecursion (TableOf items) T → KeptRows (place_in items) (columns_at (defs_of T) id) (versions_of T id)
rows_at items id [] h = record { apart = tt; fit = tt }
rows_at items id (t ∷ ts) h = by (t.def.id == id) (rows_at items id ts h.1)
  where
    by : (b : Bool) → KeptRows (place_in items) (columns_at (defs_of ts) id) (versions_of ts id) → KeptRows (place_in items) (if b then t.def.columns else columns_at (defs_of ts) id) (if b then t.versions else versions_of ts id)
    by true rest = record { apart = h.0.apart; fit = h.0.fit }
    by false rest = rest

module _ (reads : Reading) (items : List JournalItem) (legal : IsLegal reads items) where
  abbrev T : Tables
  T = serial reads items

  -- of the tables that the journal leads to
  pub kept_serial : (id : ℕ) → KeptRows (place_in items) (columns_at (defs_of T) id) (versions_of T id)
  kept_serial id = rows_at items id T (legal_tables reads items legal).each

  module _ (tx : ℕ) (elsewhere : AllByRecursion (IsOther tx) items) where
    abbrev place : ℕ → ℕ
    place = place_in items

    past_end : (start : EventId) (o : Option EventId) → IfSome o (λ e. HasTx items e.0 × IsEarlier place start e) → IfSome o (λ e. IsEarlier place start e × IsEarlier place e (tx, 0))
    past_end start None h = tt
    past_end start (Some e) h = (h.1, inl (let l = before_all items e.0 h.0 in let b = behind_all items tx elsewhere in omega arith))

    past_of : (v : Version) → IsOf items v → IsPast place (tx, 0) v
    past_of v h = record { start = inl (let l = before_all items v.start.0 h.start in let b = behind_all items tx elsewhere in omega arith); end = past_end v.start v.end h.end }

    kept_now : Kept place tx 0 T
    kept_now = let are = legal_tables reads items legal in let sound = legal_sound reads items tx legal elsewhere in record {
      sound = sound;
      own = no_number tx T sound;
      others = are.numbered;
      each = all_weaker (TableOf items) (KeptTable place (tx, 0)) (λ t h. record { past = all_weaker (IsOf items) (IsPast place (tx, 0)) past_of t.versions h.ids; apart = h.apart; fit = h.fit }) T are.each;
    }

    -- and of those after the script of a transaction that the journal doesn't have
    pub kept_script : (explicit : Bool) (texts : List (List ℕ)) (id : ℕ) → KeptRows place (columns_at (defs_of (script reads explicit T tx texts).state.tables) id) (versions_of (script reads explicit T tx texts).state.tables id)
    kept_script explicit texts id = kept_at place (tx, (script reads explicit T tx texts).state.seq) id (script reads explicit T tx texts).state.tables
        (script_both place tx reads explicit T texts (kept_now, legal_described reads items legal)).0.0.each
