-- After a script each transaction that has no events may begin: its place is behind that of the script.
use Rattle.std.proofs.Common.{◌≡◌, ℕ, suc, inl, inr, refl, sym, subst, ◌∙◌, List, [], ◌∷◌, Option, Some, None, arith}
use Rattle.std.proofs.lemmas.Bool.{eq-eqb, ne_eqb}
use Rattle.std.specs.Prelude.{◌==◌, if◌then◌else◌, IfSome}
use Rattle.std.specs.List.{AllByRecursion}
use Rattle.sql_value.specs.declared.column.ColumnDef.{ColumnDef}
use Rattle.sql_types.specs.declared.version.Table.{Table}
use Rattle.sql_types.specs.declared.version.Version.{Version}
use Rattle.spec_model.specs.Rows.{EventId}
use Rattle.spec_model.specs.Catalog.{Tables}
use Rattle.spec_model.specs.Runs as run
use Rattle.law_frame.proofs.Alls.{all_weaker, all_both}
use Rattle.law_journal.specs.Kept.{IsEarlier, EndedBefore, Apart, AllApart, IsPast, KeptTable, Kept}
use Rattle.law_journal.proofs.Serials.{no_number}
use Rattle.sql_reference.specs.declared.begun.RunningScript.{RunningScript}
use Rattle.sql_reference.specs.Order.{IsNew, Steady, InOrder}
use Rattle.sql_reference.specs.Seen.{state_of, machine_of}

-- ---- its place

module _ (place : ℕ → ℕ) (tx other : ℕ) where
  abbrev next_place : ℕ → ℕ
  next_place id = if id == other then suc (place tx) else place id

  own_place : next_place other ≡ suc (place tx)
  own_place = rw (eq-eqb other other refl) refl

  as_before : (e : EventId) → run.IsBefore other 0 e → next_place e.0 ≡ place e.0
  as_before e h = rw (ne_eqb e.0 other (λ same. absurd (omega (arith, h same)))) refl

  same_order : (a b : EventId) → run.IsBefore other 0 a → run.IsBefore other 0 b → IsEarlier place a b → IsEarlier next_place a b
  same_order a b h k e = elim e [
    | inl lt ↦ inl (omega (arith, lt, as_before a h, as_before b k))
    | inr p ↦ inr (as_before a h ∙ p.0 ∙ sym (as_before b k), p.1)
  ]

  before_now : (seq : ℕ) (a : EventId) → run.IsBefore other 0 a → IsEarlier place a (tx, seq) → IsEarlier next_place a (other, 0)
  before_now seq a h e = elim e [
    | inl lt ↦ inl (omega (arith, lt, as_before a h, own_place))
    | inr p ↦ inl (omega (arith, p.0, as_before a h, own_place))
  ]

  past_end : (seq : ℕ) (start : EventId) (o : Option EventId) → run.IsBefore other 0 start → run.EndsBefore other 0 o
      → IfSome o (λ e. IsEarlier place start e × IsEarlier place e (tx, seq)) → IfSome o (λ e. IsEarlier next_place start e × IsEarlier next_place e (other, 0))
  past_end seq start None h k p = tt
  past_end seq start (Some e) h k p = (same_order start e h k p.0, before_now seq e k p.1)

  is_past : (seq : ℕ) (v : Version) → run.MadeBefore other 0 v × IsPast place (tx, seq) v → IsPast next_place (other, 0) v
  is_past seq v h = record { start = before_now seq v.start h.0.start h.1.start; end = past_end seq v.start v.end h.0.start h.0.end h.1.end }

  ends_before : (event : EventId) (v : Version) → run.IsBefore other 0 event → run.MadeBefore other 0 v → EndedBefore place event v → EndedBefore next_place event v
  ends_before event v h m p = (p.0, p.1, same_order p.0 event (subst (run.EndsBefore other 0) p.1 m.end) h p.2)

  apart : (columns : List ColumnDef) (v w : Version) → run.MadeBefore other 0 v → run.MadeBefore other 0 w × Apart place columns v w → Apart next_place columns v w
  apart columns v w m h = λ same. elim (h.1 same) [
    | inl p ↦ inl (ends_before w.start v h.0.start m p)
    | inr q ↦ inr (ends_before v.start w m.start h.0 q)
  ]

  all_apart : (columns : List ColumnDef) (vs : List Version) → AllByRecursion (run.MadeBefore other 0) vs → AllApart place columns vs → AllApart next_place columns vs
  all_apart columns [] m h = tt
  all_apart columns (v ∷ vs) m h = (
    all_weaker (λ w. run.MadeBefore other 0 w × Apart place columns v w) (Apart next_place columns v) (λ w k. apart columns v w m.0 k) vs
        (all_both (run.MadeBefore other 0) (Apart place columns v) vs m.1 h.0),
    all_apart columns vs m.1 h.1,
  )

  abbrev Both : ℕ → Table → Type 0
  Both seq t = AllByRecursion (run.MadeBefore other 0) t.versions × (run.SoundTable tx seq t × KeptTable place (tx, seq) t)

  kept_table : (seq : ℕ) (t : Table) → Both seq t → KeptTable next_place (other, 0) t
  kept_table seq t h = record {
    past = all_weaker (λ v. run.MadeBefore other 0 v × IsPast place (tx, seq) v) (IsPast next_place (other, 0)) (is_past seq) t.versions
        (all_both (run.MadeBefore other 0) (IsPast place (tx, seq)) t.versions h.0 h.1.1.past);
    apart = all_apart t.def.columns t.versions h.0 h.1.1.apart;
    fit = h.1.1.fit;
  }

  sound_table : (seq : ℕ) (t : Table) → Both seq t → run.SoundTable other 0 t
  sound_table seq t h = record { names = h.1.0.names; rising = h.1.0.rising; before = h.0 }

  pub next_ready : (seq : ℕ) (T : Tables) → Kept place tx seq T → IsNew other T → Kept next_place other 0 T
  next_ready seq T k new =
      let both : AllByRecursion (Both seq) T = all_both (λ t. AllByRecursion (run.MadeBefore other 0) t.versions) (λ t. run.SoundTable tx seq t × KeptTable place (tx, seq) t) T new
      (all_both (run.SoundTable tx seq) (KeptTable place (tx, seq)) T k.sound.each k.each) in
      let sound : run.Sound other 0 T = record { ids = k.sound.ids; each = all_weaker (Both seq) (run.SoundTable other 0) (sound_table seq) T both } in
      record {
        sound = sound;
        own = no_number other T sound;
        others = k.others;
        each = all_weaker (Both seq) (KeptTable next_place (other, 0)) (kept_table seq) T both;
      }

-- the tables to which a script came are steady
pub ends_kept : (T : Tables) (b : RunningScript) → InOrder (machine_of T (Some b)) → Steady T
unfolding state_of
ends_kept T b h = record {
  ready = λ other new. (_, next_ready h.script.place b.tx other b.seq T h.script.kept new);
  described = h.script.described;
}
