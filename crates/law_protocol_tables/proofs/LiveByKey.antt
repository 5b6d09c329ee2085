-- A table's form by its keys: versions fit, and keys differ, where for each key the versions are those of a table of which it is known.
use Rattle.std.proofs.Common.{◌≡◌, ◌≢◌, ◌⊎◌, ℕ, Bool, true, false, List, [], ◌∷◌, Option, Some, refl, sym, ap, ◌∙◌, subst, ⊎_elim}
use Rattle.std.specs.Prelude.{if◌then◌else◌, is_none}
use Rattle.std.specs.List.{AllByRecursion}
use Rattle.sql_value.specs.declared.column.ColumnDef.{ColumnDef}
use Rattle.sql_types.specs.declared.version.Version.{Version}
use Rattle.spec_model.specs.Rows.{live}
use Rattle.spec_model.specs.Keys.{Key, key_places, of_key, same_key, version_key}
use Rattle.law_frame.proofs.SameKeys.{same_key_as, same_itself}
use Rattle.law_journal.specs.Fits.{FitsSoFar}
use Rattle.law_journal.specs.Kept.{EndedBefore, Apart, AllApart}
use Rattle.spec_history.specs.Lists.{Each, In}
use Rattle.spec_protocol.specs.TablesAreSerial.{KeysDiffer}
use Rattle.law_protocol_steps.proofs.AfterSet.{each_at, all_at}
use Rattle.law_protocol_changes.proofs.ChangedRows.{filters_turned, in_passed, was_in, of_its_key}
use Rattle.law_protocol_tables.proofs.KeptNow.{KeptRows}

-- ---- what stands of kept rows

not_ended : (place : ℕ → ℕ) (v : Version) (e : ℕ × ℕ) → is_none v.end ≡ true → EndedBefore place e v → ⊥
not_ended place v e n h = let z : is_none (Some h.0) ≡ true = ap (λ (o : Option (ℕ × ℕ)). is_none o) (sym h.1) ∙ n in cc

each_apart : (place : ℕ → ℕ) (columns : List ColumnDef) (v : Version) → is_none v.end ≡ true → (ws : List Version) → AllByRecursion (Apart place columns v) ws
    → Each (λ w. same_key (version_key columns v) (version_key columns w) ≢ true) (live ws)
each_apart place columns v n [] h = tt
each_apart place columns v n (w ∷ ws) h = by (is_none w.end) refl (each_apart place columns v n ws h.1)
  where
    by : (b : Bool) → is_none w.end ≡ b → Each (λ u. same_key (version_key columns v) (version_key columns u) ≢ true) (live ws)
        → Each (λ u. same_key (version_key columns v) (version_key columns u) ≢ true) (if b then w ∷ live ws else live ws)
    by true e rest = ((λ k. ⊎_elim (λ (q : EndedBefore place w.start v). not_ended place v w.start n q) (λ (q : EndedBefore place v.start w). not_ended place w v.start e q) (h.0 k)), rest)
    by false e rest = rest

-- of versions of one key, one has ended: so keys of those that stand differ
pub apart_differ : (place : ℕ → ℕ) (columns : List ColumnDef) (vs : List Version) → AllApart place columns vs → KeysDiffer (key_places columns) (live vs)
apart_differ place columns [] h = tt
apart_differ place columns (v ∷ vs) h = by (is_none v.end) refl (apart_differ place columns vs h.1)
  where
    by : (b : Bool) → is_none v.end ≡ b → KeysDiffer (key_places columns) (live vs) → KeysDiffer (key_places columns) (if b then v ∷ live vs else live vs)
    by true e rest = (each_apart place columns v e vs h.0, rest)
    by false e rest = rest

pub fit_each : (columns : List ColumnDef) (vs : List Version) → AllByRecursion (λ v. FitsSoFar columns v.values) vs → Each (λ v. FitsSoFar columns v.values) vs
fit_each columns [] h = tt
fit_each columns (v ∷ vs) h = (h.0, fit_each columns vs h.1)

-- ---- key by key

turned : (a b : Key) → same_key a b ≡ true → same_key b a ≡ true
turned a b e = sym (same_key_as a b a e) ∙ same_itself a

-- of the versions of one key
differ_here : (columns : List ColumnDef) (key : Key) (vs : List Version) → KeysDiffer (key_places columns) vs → KeysDiffer (key_places columns) (of_key columns key vs)
differ_here columns key [] h = tt
differ_here columns key (v ∷ vs) h = by (same_key (version_key columns v) key) (differ_here columns key vs h.1)
  where
    by : (b : Bool) → KeysDiffer (key_places columns) (of_key columns key vs) → KeysDiffer (key_places columns) (if b then v ∷ of_key columns key vs else of_key columns key vs)
    by true rest = (
      all_at (λ w. same_key (version_key columns v) (version_key columns w) ≢ true) (of_key columns key vs)
          (λ w i. each_at (λ u. same_key (version_key columns v) (version_key columns u) ≢ true) vs w h.0 (was_in (λ u. same_key (version_key columns u) key) w vs i)),
      rest,
    )
    by false rest = rest

-- and of all
differ_all : (columns : List ColumnDef) (vs : List Version) → ((key : Key) → KeysDiffer (key_places columns) (of_key columns key vs)) → KeysDiffer (key_places columns) vs
differ_all columns [] h = tt
differ_all columns (v ∷ vs) h = (all_at (λ w. same_key (version_key columns v) (version_key columns w) ≢ true) vs first, differ_all columns vs (λ key. by key (same_key (version_key columns v) key) (h key)))
  where
    here : KeysDiffer (key_places columns) (v ∷ of_key columns (version_key columns v) vs)
    here = subst (λ (b : Bool). KeysDiffer (key_places columns) (if b then v ∷ of_key columns (version_key columns v) vs else of_key columns (version_key columns v) vs)) (same_itself (version_key columns v)) (h (version_key columns v))

    first : (w : Version) → In w vs → same_key (version_key columns v) (version_key columns w) ≡ true → ⊥
    first w i e = each_at (λ u. same_key (version_key columns v) (version_key columns u) ≢ true) (of_key columns (version_key columns v) vs) w here.0
        (in_passed (λ u. same_key (version_key columns u) (version_key columns v)) w vs i (turned (version_key columns v) (version_key columns w) e)) e

    by : (key : Key) (b : Bool) → KeysDiffer (key_places columns) (if b then v ∷ of_key columns key vs else of_key columns key vs) → KeysDiffer (key_places columns) (of_key columns key vs)
    by key true k = k.1
    by key false k = k

-- for each key, the versions are those of one of two tables
abbrev pub ByKey : List ColumnDef → List Version → List Version → List Version → Type 0
ByKey columns V' V W = (key : Key) → (of_key columns key V' ≡ of_key columns key V) ⊎ (of_key columns key V' ≡ of_key columns key W)

module _ (columns : List ColumnDef) (V' V W : List Version) (h : ByKey columns V' V W) where
  pub each_by_key : (P : Version → Type 0) → Each P V → Each P W → Each P V'
  each_by_key P f g = all_at P V' (λ w i. ⊎_elim
      (λ (e : of_key columns (version_key columns w) V' ≡ of_key columns (version_key columns w) V). each_at P V w f (was_in (λ u. same_key (version_key columns u) (version_key columns w)) w V (subst (In w) e (of_its_key columns w V' i))))
      (λ (e : of_key columns (version_key columns w) V' ≡ of_key columns (version_key columns w) W). each_at P W w g (was_in (λ u. same_key (version_key columns u) (version_key columns w)) w W (subst (In w) e (of_its_key columns w V' i))))
      (h (version_key columns w)))

  live_here : (key : Key) (U : List Version) → of_key columns key V' ≡ of_key columns key U → KeysDiffer (key_places columns) (live U) → KeysDiffer (key_places columns) (of_key columns key (live V'))
  live_here key U e k = subst (KeysDiffer (key_places columns))
      (sym (filters_turned (λ u. same_key (version_key columns u) key) (λ u. is_none u.end) V' ∙ ap live e ∙ sym (filters_turned (λ u. same_key (version_key columns u) key) (λ u. is_none u.end) U)))
      (differ_here columns key (live U) k)

  pub differ_by_key : KeysDiffer (key_places columns) (live V) → KeysDiffer (key_places columns) (live W) → KeysDiffer (key_places columns) (live V')
  differ_by_key f g = differ_all columns (live V') (λ key. ⊎_elim (λ (e : of_key columns key V' ≡ of_key columns key V). live_here key V e f) (λ (e : of_key columns key V' ≡ of_key columns key W). live_here key W e g) (h key))

  -- where the second is of kept rows
  pub kept_by_key : (place : ℕ → ℕ) → KeptRows place columns W → Each (λ v. FitsSoFar columns v.values) V → KeysDiffer (key_places columns) (live V) → Each (λ v. FitsSoFar columns v.values) V' × KeysDiffer (key_places columns) (live V')
  kept_by_key place k f g = (each_by_key (λ v. FitsSoFar columns v.values) f (fit_each columns W k.fit), differ_by_key g (apart_differ place columns W k.apart))
