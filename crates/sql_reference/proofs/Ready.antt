-- What functions need of the tables of a script that is begun.
use Rattle.std.proofs.Common.{◌≡◌, ◌≤◌, ℕ, refl, List, [], ◌∷◌, length, Option, Some, None, arith}
use Rattle.std.specs.List.{AllByRecursion}
use Rattle.sql_types.specs.declared.version.Table.{Table}
use Rattle.sql_types.specs.declared.table.TableDef.{TableDef}
use Rattle.spec_model.specs.Catalog.{Tables, defs_of}
use Rattle.spec_model.specs.SystemTables.{first_tables}
use Rattle.spec_model.specs.Agreement.{IdsFrom}
use Rattle.spec_model.specs.Runs.{MadeBefore, SoundTable, Sound}
use Rattle.law_frame.proofs.Alls.{all_weaker, all_both}
use Rattle.law_journal.specs.Fits.{FitsSoFar}
use Rattle.law_journal.specs.Kept.{KeptTable}
use Rattle.law_journal.proofs.DefLists.{all_defs}
use Rattle.law_journal.proofs.SoFar.{few}
use Rattle.law_journal.proofs.Keeping.{first_kept, first_described}
use Rattle.sql_apply.specs.Short.{IsShort, AreShort}
use Rattle.sql_reference.specs.declared.begun.RunningScript.{RunningScript}
use Rattle.sql_reference.specs.Order.{IsNew, Steady, InOrder}
use Rattle.sql_reference.specs.Seen.{state_of, before, machine_of}
use Rattle.sql_reference.specs.Machine.{at_rest}
use Rattle.sql_reference.specs.StatementResult.{IsReady}

-- ---- between scripts

pub first_steady : Steady first_tables
first_steady = record { ready = λ tx new. ((λ id. 0), first_kept (λ id. 0) tx); described = first_described }

pub rests : (T : Tables) → Steady T → InOrder (at_rest T)
rests T h = record { steady = h; script = tt }

pub first_in_order : InOrder (at_rest first_tables)
first_in_order = rests first_tables first_steady

pub rest_steady : (T : Tables) → InOrder (machine_of T None) → Steady T
rest_steady T h = h.steady

pub ends_back : (T : Tables) (b : RunningScript) → InOrder (machine_of T (Some b)) → Steady (before T b)
ends_back T b h = h.steady

-- ---- in a script

pub ready : (T : Tables) (b : RunningScript) → InOrder (machine_of T (Some b)) → IsReady b.tx b.seq T
unfolding state_of
ready T b h = ((h.script.place, h.script.kept), h.script.described)

module _ (tx seq : ℕ) (T : Tables) (h : IsReady tx seq T) where
  pub ready_ids : IdsFrom 1 (defs_of T)
  ready_ids = h.0.1.sound.ids

  short_table : (t : Table) → (length t.def.columns ≤ 64) × KeptTable h.0.0 (tx, seq) t → AllByRecursion IsShort t.versions
  short_table t k = all_weaker (λ v. FitsSoFar t.def.columns v.values) IsShort (λ v f. omega (arith, few t.def.columns v.values f, k.0)) t.versions k.1.fit

  pub ready_short : AreShort T
  ready_short =
      all_weaker (λ t. (length t.def.columns ≤ 64) × KeptTable h.0.0 (tx, seq) t) (λ t. AllByRecursion IsShort t.versions) short_table T
      (all_both (λ t. length t.def.columns ≤ 64) (KeptTable h.0.0 (tx, seq)) T (all_defs (λ (def : TableDef). length def.columns ≤ 64) T h.1.few) h.0.1.each)

-- a transaction that hasn't begun has no event in tables that are sound for it
pub sound_new : (tx : ℕ) (T : Tables) → Sound tx 0 T → IsNew tx T
sound_new tx T h = all_weaker (SoundTable tx 0) (λ (t : Table). AllByRecursion (MadeBefore tx 0) t.versions) (λ t k. k.before) T h.each
