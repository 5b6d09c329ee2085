-- The roots of an entry of a legal journal.
use Rattle.std.proofs.Common.{◌≡◌, ◌≢◌, ◌≤◌, ◌<◌, ℕ, suc, ◌+◌, refl, ap, sym, subst, ◌∙◌, List, [], ◌∷◌, ◌++◌, length, map, flat_map, arith, Bool, true, false, append-nil, append_assoc}
use Rattle.std.specs.Prelude.{◌==◌, not, if◌then◌else◌}
use Rattle.std.specs.List.{AllByRecursion, filter}
use Rattle.std.proofs.lemmas.Bool.{lt-ltb, ne_eqb}
use Rattle.spec_ledger.specs.Entry.{rise_above, tables_rise}
use Rattle.sql_types.specs.declared.event.Event.{Event}
use Rattle.sql_types.specs.declared.journal.JournalItem.{JournalItem}
use Rattle.sql_types.specs.declared.journal.JournalItem.TheVariants.{Tx, Close}
use Rattle.sql_types.specs.declared.version.Table.{Table}
use Rattle.spec_model.specs.Agreement.{IdsFrom}
use Rattle.spec_model.specs.Catalog.{Tables, defs_of}
use Rattle.spec_model.specs.Events.{events_of, all_events}
use Rattle.spec_model.specs.Journals.{Line, IsOther, IsNext, IsLegalFrom, IsLegal, after_item, serial_from, serial}
use Rattle.spec_model.specs.Script.{Reading}
use Rattle.spec_model.specs.SystemTables.{first_tables}
use Rattle.spec_history.proofs.LegalSound.{legal_sound}
use Rattle.spec_ledger.proofs.Adding.{serial_more}
use Rattle.spec_ledger.specs.Entries.{has_events, root_in, roots_of}

-- ---- the tables of a legal journal have their ids in order

above : List JournalItem → ℕ
above [] = 0
above (Tx id session time explicit lines ∷ is) = suc (id + above is)
above (Close k ∷ is) = above is

all_other : (n : ℕ) (J : List JournalItem) → above J ≤ n → AllByRecursion (IsOther n) J
unfolding above
all_other n [] le = tt
all_other n (Tx id session time explicit lines ∷ is) le = ((λ e. absurd (omega (arith, e, le))), all_other n is (omega arith))
all_other n (Close k ∷ is) le = (tt, all_other n is le)

pub legal_ids : (reads : Reading) (J : List JournalItem) → IsLegal reads J → IdsFrom 1 (defs_of (serial reads J))
legal_ids reads J legal = (legal_sound reads J (above J) legal (all_other (above J) J (omega arith))).ids

-- ---- they rise

no_event : (es : List Event) → not (length es == 0) ≡ false → es ≡ []
no_event [] e = refl
no_event (x ∷ xs) e = let some : (suc (length xs) == 0) ≡ false = ne_eqb (suc (length xs)) 0 (λ k. absurd (omega (arith, k))) in cc

module _ (h : List ℕ → List ℕ) (tx : ℕ) where
  abbrev roots : Tables → List (ℕ × List ℕ)
  roots T = map (root_in h tx) (filter (has_events tx) T)

  abbrev roots_if : Bool → Table → Tables → List (ℕ × List ℕ)
  roots_if b t ts = map (root_in h tx) (if b then t ∷ filter (has_events tx) ts else filter (has_events tx) ts)

  above_by : (b : Bool) (last : ℕ) (t : Table) (ts : Tables) → last < t.def.id → rise_above t.def.id (roots ts) ≡ true → rise_above last (roots ts) ≡ true
      → rise_above last (roots_if b t ts) ≡ true
  above_by true last t ts lt with_it without = rw (lt-ltb last t.def.id lt) with_it
  above_by false last t ts lt with_it without = without

  rises_above : (n last : ℕ) (T : Tables) → IdsFrom n (defs_of T) → last < n → rise_above last (roots T) ≡ true
  rises_above n last [] ids lt = refl
  rises_above n last (t ∷ ts) ids lt =
      let own : t.def.id ≡ n = ids.0 in
      above_by (has_events tx t) last t ts (omega arith) (rises_above (n + 1) t.def.id ts ids.1 (omega arith)) (rises_above (n + 1) last ts ids.1 (omega arith))

  rises_by : (b : Bool) (t : Table) (ts : Tables) → rise_above t.def.id (roots ts) ≡ true → (b ≡ false → tables_rise (roots ts) ≡ true)
      → tables_rise (roots_if b t ts) ≡ true
  rises_by true t ts with_it without = with_it
  rises_by false t ts with_it without = without refl

  rises : (n : ℕ) (T : Tables) → IdsFrom n (defs_of T) → all_events tx T ≢ [] → tables_rise (roots T) ≡ true
  unfolding all_events
  rises n [] ids some = absurd (some refl)
  rises n (t ∷ ts) ids some =
      let own : t.def.id ≡ n = ids.0 in
      rises_by (has_events tx t) t ts (rises_above (n + 1) t.def.id ts ids.1 (omega arith))
      (λ none. rises (n + 1) ts ids.1 (λ e. some (ap (λ (es : List Event). es ++ flat_map (events_of tx) ts) (no_event (events_of tx t) none) ∙ e)))

  pub roots_rise : (T : Tables) → IdsFrom 1 (defs_of T) → all_events tx T ≢ [] → tables_rise (roots_of h tx T) ≡ true
  unfolding roots_of
  roots_rise T ids some = rises 1 T ids some

-- ---- of a legal journal's last item

module _ (reads : Reading) where
  last_next : (before : List JournalItem) (T : Tables) (J : List JournalItem) (i : JournalItem) → IsLegalFrom reads before T (J ++ i ∷ []) → IsNext reads (before ++ J) (serial_from reads T J) i
  unfolding serial_from
  last_next before T [] i legal = subst (λ (l : List JournalItem). IsNext reads l T i) (sym (append-nil before)) legal.0
  last_next before T (j ∷ js) i legal =
      subst (λ (l : List JournalItem). IsNext reads l (serial_from reads (after_item reads T j) js) i) (append_assoc before (j ∷ []) js)
      (last_next (before ++ j ∷ []) (after_item reads T j) js i legal.1)

  pub last_rises : (h : List ℕ → List ℕ) (J : List JournalItem) (id time : ℕ) (session : List ℕ) (explicit : Bool) (lines : List Line)
      → IsLegal reads (J ++ Tx id session time explicit lines ∷ [])
      → tables_rise (roots_of h id (serial reads (J ++ Tx id session time explicit lines ∷ []))) ≡ true
  last_rises h J id time session explicit lines legal =
      let i = Tx id session time explicit lines in
      let agrees = (last_next [] first_tables J i legal).0 in
      let same : serial reads (J ++ i ∷ []) ≡ after_item reads (serial reads J) i = serial_more reads first_tables J i in
      roots_rise h id (serial reads (J ++ i ∷ [])) (legal_ids reads (J ++ i ∷ []) legal)
      (subst (λ (T : Tables). all_events id T ≢ []) (sym same) agrees.events)
