-- The tables of a legal journal are kept, for the transaction that comes next.
use Rattle.std.proofs.Common.{◌≡◌, ◌<◌, ℕ, suc, inl, inr, refl, ap, Bool, true, false, List, [], ◌∷◌, Option, Some, None, arith}
use Rattle.std.specs.Prelude.{◌==◌, if◌then◌else◌, IfSome}
use Rattle.std.specs.List.{AllByRecursion}
use Rattle.std.proofs.lemmas.Bool.{eq-eqb, ne_eqb}
use Rattle.sql_types.specs.declared.journal.JournalItem.{JournalItem}
use Rattle.sql_types.specs.declared.journal.JournalItem.TheVariants.{Tx, Close}
use Rattle.sql_types.specs.declared.version.Table.{Table}
use Rattle.sql_types.specs.declared.version.Version.{Version}
use Rattle.spec_model.specs.Journals.{tx_count, IsOther, serial, IsLegal}
use Rattle.spec_model.specs.Rows.{EventId}
use Rattle.spec_model.specs.Runs.{Sound}
use Rattle.spec_model.specs.Script.{Reading}
use Rattle.law_frame.proofs.Alls.{all_weaker}
use Rattle.law_frame.proofs.LegalSound.{legal_sound}
use Rattle.law_journal.specs.Kept.{IsEarlier, IsPast, KeptTable, Kept}
use Rattle.law_journal.specs.Serial.{place_in, HasTx, IsOf, TableOf, TablesOf}
use Rattle.law_journal.proofs.Serials.{no_number, legal_tables}

below_by : (other id : ℕ) (is : List JournalItem) (b : Bool) → (other == id) ≡ b → HasTx is id → place_in is id < tx_count is → (if b then 0 else suc (place_in is id)) < suc (tx_count is)
below_by other id is true e has lt = omega arith
below_by other id is false e has lt = omega (arith, lt)

pub has_place : (J : List JournalItem) (id : ℕ) → HasTx J id → place_in J id < tx_count J
has_place [] id has = absurd has
has_place (Tx other session time explicit lines ∷ is) id has = elim has [
  | inl e ↦ rw (eq-eqb other id e) (omega arith)
  | inr more ↦ below_by other id is (other == id) refl more (has_place is id more)
]
has_place (Close k ∷ is) id has = has_place is id has

pub comes_next : (J : List JournalItem) (id : ℕ) → AllByRecursion (IsOther id) J → place_in J id ≡ tx_count J
comes_next [] id others = refl
comes_next (Tx other session time explicit lines ∷ is) id others = rw (ne_eqb other id others.0) (ap suc (comes_next is id others.1))
comes_next (Close k ∷ is) id others = comes_next is id others.1

module _ (J : List JournalItem) (id : ℕ) (next : place_in J id ≡ tx_count J) where
  abbrev place : ℕ → ℕ
  place = place_in J

  before_it : (e : EventId) → HasTx J e.0 → IsEarlier place e (id, 0)
  before_it e has = inl (omega (arith, next, has_place J e.0 has))

  past_end : (start : EventId) (o : Option EventId) → IfSome o (λ e. HasTx J e.0 × IsEarlier place start e) → IfSome o (λ e. IsEarlier place start e × IsEarlier place e (id, 0))
  past_end start None h = tt
  past_end start (Some e) h = (h.1, before_it e h.0)

  past : (v : Version) → IsOf J v → IsPast place (id, 0) v
  past v is = record { start = before_it v.start is.start; end = past_end v.start v.end is.end }

  kept_table : (t : Table) → TableOf J t → KeptTable place (id, 0) t
  kept_table t is = record { past = all_weaker (IsOf J) (IsPast place (id, 0)) past t.versions is.ids; apart = is.apart; fit = is.fit }

pub begins : (reads : Reading) (J : List JournalItem) (id : ℕ) → IsLegal reads J → AllByRecursion (IsOther id) J → Kept (place_in J) id 0 (serial reads J)
begins reads J id legal others =
    let sound : Sound id 0 (serial reads J) = legal_sound reads J id legal others in
    let tables : TablesOf J (serial reads J) = legal_tables reads J legal in
    record {
      sound = sound;
      own = no_number id (serial reads J) sound;
      others = tables.numbered;
      each = all_weaker (TableOf J) (KeptTable (place_in J) (id, 0)) (kept_table J id (comes_next J id others)) (serial reads J) tables.each;
    }
