-- The seat of the past has names and moments of the journal's forms.
use Rattle.std.proofs.Common.{◌≡◌, ◌^◌, ℕ, zero, suc, ◌+◌, ◌≤◌, Bool, true, false, List, [], ◌∷◌, map, flat_map, Option, Some, sym, subst, arith, append-nil}
use Rattle.std.specs.Prelude.{◌==◌, if◌then◌else◌}
use mathlib.Core.Option.{some, none}
use lib.ListN.{get_elem?}
use Rattle.std.specs.List.{AllByRecursion}
use Rattle.sql_types.specs.declared.journal.JournalItem.{JournalItem}
use Rattle.sql_types.specs.declared.journal.JournalItem.TheVariants.{Tx, Close}
use Rattle.sql_types.specs.JournalRules.{ItemRules}
use Rattle.sql_value.specs.DatabaseName.{is_database_name}
use Rattle.sql_value.specs.Moment.{is_moment}
use Rattle.sql_value.specs.SessionName.{is_session_name}
use Rattle.spec_model.specs.Journals.{IsLegal}
use Rattle.spec_history.specs.Journals.{times}
use Rattle.spec_history.specs.Lists.{Text, Each}
use Rattle.spec_history.specs.Worlds.{World, first, run}
use Rattle.spec_history.proofs.Trace.{each_append}
use Rattle.spec_protocol.specs.JournalForms.{HaveForms}
use Rattle.spec_protocol.specs.SeatNames.{names_of}
use Rattle.spec_protocol.specs.Seats.{SeatState, Written, idle_seat}
use Rattle.spec_protocol.specs.Server.{Server}
use Rattle.spec_protocol.specs.TranscriptsAgree.{moments_of}
use Rattle.law_retold.specs.Retold.{AreWords, CanBeRetold, LeadsTo, ToldTx, Words, name_told, retold, retold_as, tx_with}
use Rattle.law_continued.specs.Continued.{ledger_with, past_seat, written_from}
use Rattle.law_continued.proofs.Told.{to as its_end}

abbrev IsName : Text → Type 0
IsName name = is_session_name name ≡ true

abbrev IsTime : ℕ → Type 0
IsTime time = is_moment time ≡ true

name_by : (c : Words) (b : Bool) (t o : Option ToldTx) → IsName (name_told c t) → IsName (name_told c o) → IsName (name_told c (if b then t else o))
name_by c true t o h k = h
name_by c false t o h k = k

-- the name of a session that is told
told_name : (c : Words) → IsName c.name → (J : List JournalItem) (id : ℕ) → AllByRecursion ItemRules J → IsName (name_told c (tx_with id J))
told_name c h [] id rules = h
told_name c h (Tx other session time explicit lines ∷ J) id rules = name_by c (other == id) (Some (retold_as session explicit lines)) (tx_with id J) rules.0.session (told_name c h J id rules.1)
told_name c h (Close k ∷ J) id rules = told_name c h J id rules.1

all_times : (J : List JournalItem) → AllByRecursion ItemRules J → Each IsTime (times J)
all_times [] rules = tt
all_times (Tx id session time explicit lines ∷ J) rules = (rules.0.time, all_times J rules.1)
all_times (Close k ∷ J) rules = all_times J rules.1

module _ (v : Server) (c : Words) (database : Text) (size : ℕ) (J : List JournalItem) (count : ℕ) (words : 1 ≤ count → AreWords v.reads c) (legal : IsLegal v.reads J) (may : Each (CanBeRetold v.reads count) J)
    (rules : AllByRecursion ItemRules J) (nobody : IsName c.name) where
  abbrev W : World
  W = run first (retold v.reads c J count)

  to : LeadsTo c J count (retold v.reads c J count)
  to = its_end v c database J count words legal may

  all_names : (n k : ℕ) → n + k ≤ count → Each IsName (map (λ (w : Written). w.transcript.session) (written_from W (times J) n k))
  all_names n zero l = tt
  all_names n (suc k) l = (
    subst IsName (sym (to.names n (omega (arith, l)))) (told_name c nobody J (suc n) rules),
    all_names (suc n) k (omega (arith, l)),
  )

  all_moments : (n k : ℕ) → Each IsTime (flat_map (λ (w : Written). w.moments) (written_from W (times J) n k))
  all_moments n zero = tt
  all_moments n (suc k) = each_append IsTime (times J) (flat_map (λ (w : Written). w.moments) (written_from W (times J) (suc n) k)) (all_times J rules) (all_moments (suc n) k)

  abbrev past : SeatState
  past = past_seat v c J count

  abbrev seat : SeatState
  seat = idle_seat database size 0 []

  abbrev NamesIf : mathlib.Core.Option.Option SeatState → Type 0
  NamesIf none = Unit {0}
  NamesIf (some s) = Each IsName (names_of s)

  abbrev MomentsIf : mathlib.Core.Option.Option SeatState → Type 0
  MomentsIf none = Unit {0}
  MomentsIf (some s) = Each IsTime (moments_of s)

  names_at : (j : ℕ) → NamesIf (get_elem? (past ∷ seat ∷ []) j)
  names_at zero = subst (Each IsName) (sym (append-nil (map (λ (w : Written). w.transcript.session) (written_from W (times J) 0 count)))) (all_names 0 count (omega arith))
  names_at (suc zero) = tt
  names_at (suc (suc j)) = tt

  moments_at : (j : ℕ) → MomentsIf (get_elem? (past ∷ seat ∷ []) j)
  moments_at zero = subst (Each IsTime) (sym (append-nil (flat_map (λ (w : Written). w.moments) (written_from W (times J) 0 count)))) (all_moments 0 count)
  moments_at (suc zero) = tt
  moments_at (suc (suc j)) = tt

  pub forms : is_database_name database ≡ true → suc count ≤ 2 ^ 63 → HaveForms (ledger_with v database size J count) (past ∷ seat ∷ [])
  forms named ids = record {
    database = named;
    ids = ids;
    names = λ j s e. subst NamesIf e (names_at j);
    moments = λ j s e. subst MomentsIf e (moments_at j);
  }
