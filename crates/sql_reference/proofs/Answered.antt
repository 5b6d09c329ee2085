-- What a script answers is the step that is meant.
use Rattle.std.proofs.Common.{◌≡◌, ◌≢◌, ◌≤◌, ◌<◌, ℕ, refl, sym, ap, subst, ◌∙◌, true, false, List, [], ◌∷◌, map, drop, length, Option, Some, None, Result, Ok, Err, arith}
use Rattle.std.proofs.lemmas.List.{length-map, length-append, length-drop}
use Rattle.std.proofs.lemmas.Bool.Decides.{nat_tests}
use Rattle.std.specs.Prelude.{nat_lt, position}
use Rattle.std.specs.Str.{bytes_eq}
use Rattle.sql_value.specs.declared.refusal.Refusal.{Refusal}
use Rattle.sql_value.specs.declared.refusal.Refusal.TheVariants.{NoSuchSavepoint, LimitExceeded, NoMemory}
use Rattle.sql_types.specs.declared.statement.Stmt.{Stmt}
use Rattle.sql_types.specs.declared.reply.Reply.{Reply}
use Rattle.sql_types.specs.declared.reply.Reply.TheVariants as r
use Rattle.sql_types.specs.declared.table.TableDef.{TableDef}
use Rattle.sql_types.specs.declared.version.Table.{Table}
use Rattle.spec_model.specs.Limits.{max_savepoints}
use Rattle.spec_model.specs.Catalog.{Defs, Tables, defs_of, with_versions}
use Rattle.spec_model.specs.Effect.{Effect, effect, redefined}
use Rattle.spec_model.specs.ChangeSets.{TableChange, changed_from, Definition, as_before, new, in_place, altered, defined, change_set}
use Rattle.spec_model.specs.Reach.{creates}
use Rattle.spec_model.specs.Script.{Step, by_effect, rolled_back, saves, rolls_back_to}
use Rattle.spec_model.specs.Undo.{undone, versions_undone}
use Rattle.law_frame.proofs.Definitions.{changes_keep_defs}
use Rattle.law_frame.proofs.ChangeSets.{carries_change_set_out}
use Rattle.law_frame.proofs.StepByStep.{with_copy}
use Rattle.sql_reference.specs.declared.begun.Savepoint.{Savepoint}
use Rattle.sql_reference.specs.declared.begun.RunningScript.{RunningScript}
use Rattle.sql_reference.specs.Machine.{moved}
use Rattle.sql_reference.specs.Order.{InOrder}
use Rattle.sql_reference.specs.Seen.{HasPlaces, copy_at, first_defs, state_of, running_of, machine_of}
use Rattle.sql_reference.specs.StatementResult.{CarriesOutUnlessOom, carried, Stepped, StepsUnlessOom}
use Rattle.sql_reference.proofs.Running.{with_seq, with_saved, ComesTo, changes, saves_copy, returns_at, found_copies, no_copies}
use Rattle.sql_reference.proofs.Restored.{creates_alone}

-- ---- as many tables as before, or more

same_length : (def : TableDef) (U : Tables) → length (redefined def U) ≡ length U
same_length def [] = refl
same_length def (t ∷ ts) = omega (arith, same_length def ts)

never_shorter : (d : Definition) (U : Tables) → length U ≤ length (defined d U)
never_shorter as_before U = omega arith
never_shorter (new def) U = (let t : Table = record { def = def; versions = [] } in omega (arith, length-append U (t ∷ [])))
never_shorter (in_place def) U = omega (arith, same_length def U)
never_shorter (altered def) U = omega (arith, same_length def U)

effect_length : (T : Tables) (tx seq : ℕ) (stmt : Stmt) → length T ≤ length (effect T tx seq stmt).tables
effect_length T tx seq stmt =
    let cs : List TableChange = (change_set T stmt).changes in
    let U : Tables = changed_from tx seq cs T in
    let long : length U ≡ length T = sym (length-map U (λ (t : Table). t.def)) ∙ ap (λ (xs : Defs). length xs) (changes_keep_defs tx seq cs T) ∙ length-map T (λ (t : Table). t.def) in
    let more : length U ≤ length (defined (change_set T stmt).definition U) = never_shorter (change_set T stmt).definition U in
    let all : length T ≤ length (defined (change_set T stmt).definition U) = omega (arith, long, more) in
    subst (λ (e : Effect). length T ≤ length e.tables) (sym (carries_change_set_out T tx seq stmt)) all

more_places : (o : Option Defs) (T U : Tables) → length T ≤ length U → HasPlaces o T → HasPlaces o U
more_places None T U le h = tt
more_places (Some defs) T U le h = omega (arith, le, h)

first_places : (o : Option Defs) (T : Tables) → HasPlaces o T → HasPlaces (first_defs o (defs_of T)) T
first_places None T h = omega (arith, length-map T (λ (t : Table). t.def))
first_places (Some defs) T h = h

undone_places : (tx n : ℕ) (o : Option Defs) (T : Tables) → HasPlaces o T → HasPlaces o (undone tx n T)
unfolding undone
undone_places tx n o T h = more_places o T (undone tx n T) (omega (arith, length-map T (with_versions (versions_undone tx n)))) h

pub undone_room : (tx n : ℕ) (o : Option Defs) (defs : Defs) (T U : Tables) → HasPlaces o T → o ≡ Some defs → U ≡ undone tx n T → length defs ≤ length U
undone_room tx n o defs T U h e u = (let k : HasPlaces (Some defs) T = subst (λ (p : Option Defs). HasPlaces p T) e h in subst (λ (X : Tables). HasPlaces (Some defs) X) (sym u) (undone_places tx n (Some defs) T k))

-- ---- steps

stepped : (T : Tables) (b : RunningScript) (U : Tables) (c : RunningScript) (step : Step) (reply : Reply)
    → ComesTo U c (moved (machine_of T (Some b)) (running_of T b) step.0) → HasPlaces c.defs U → reply ≡ step.1 → Stepped T b U c step reply
stepped T b U c step reply h places e = record { reply_is = e; machine = h.0; order = h.1; places = places }

-- the same step, and the same machine
other_step : (T : Tables) (b : RunningScript) (U : Tables) (c : RunningScript) (s t : Step) (reply : Reply) → s ≡ t → Stepped T b U c s reply → Stepped T b U c t reply
other_step T b U c s t reply e h = subst (λ (x : Step). Stepped T b U c x reply) e h

other_end : (T : Tables) (b : RunningScript) (U V : Tables) (c d : RunningScript) (s : Step) (reply : Reply) → U ≡ V → c ≡ d → Stepped T b U c s reply → Stepped T b V d s reply
other_end T b U V c d s reply e f h = subst (λ (x : RunningScript). Stepped T b V x s reply) f (subst (λ (X : Tables). Stepped T b X c s reply) e h)

saved : (T : Tables) (b : RunningScript) (name : List ℕ) → length b.saved < max_savepoints → saves (state_of T b) name ≡ (with_copy (state_of T b) name, r.Saved)
unfolding saves state_of
saved T b name room = (let test : nat_lt (length b.saved) max_savepoints ≡ true = grind (arith, nat_tests, room) in rw (length-map b.saved (copy_at b.tx T), test) refl)

pub save_refused : (T : Tables) (b : RunningScript) (name : List ℕ) → max_savepoints ≤ length b.saved → saves (state_of T b) name ≡ (state_of T b, r.Refused LimitExceeded)
unfolding saves state_of
save_refused T b name full = (let test : nat_lt (length b.saved) max_savepoints ≡ false = grind (arith, nat_tests, full) in rw (length-map b.saved (copy_at b.tx T), test) refl)

back : (T : Tables) (b : RunningScript) (name : List ℕ) (i : ℕ) (s : Savepoint) (ss : List Savepoint) → position (λ s. bytes_eq s.name name) b.saved ≡ Some i → drop i b.saved ≡ s ∷ ss
    → rolls_back_to (state_of T b) name ≡ (record { tables = undone b.tx s.seq T; seq = s.seq; saved = map (copy_at b.tx T) (s ∷ ss) }, r.Back)
unfolding rolls_back_to state_of
back T b name i s ss found e = ap (rolled_back (state_of T b)) (found_copies b.tx T b.saved name i found ∙ ap (map (copy_at b.tx T)) e)

pub back_refused : (T : Tables) (b : RunningScript) (name : List ℕ) → position (λ s. bytes_eq s.name name) b.saved ≡ None → rolls_back_to (state_of T b) name ≡ (state_of T b, r.Refused NoSuchSavepoint)
unfolding rolls_back_to state_of
back_refused T b name none = ap (rolled_back (state_of T b)) (no_copies b.tx T b.saved name none)

module _ (T : Tables) (b : RunningScript) (h : InOrder (machine_of T (Some b))) (places : HasPlaces b.defs T) where
  -- a step that changes nothing
  pub stands : (reply : Reply) → Stepped T b T b (state_of T b, reply) reply
  stands reply = record { reply_is = refl; machine = refl; order = h; places = places }

  pub refused : (U : Tables) (c : RunningScript) (step : Step) (e : Refusal) → StepsUnlessOom T b U c step (Err e) → e ≢ NoMemory → Stepped T b U c step (r.Refused e)
  refused U c step e met not =
      let m = met not in
      other_end T b T U b c step (r.Refused e) (sym m.1) (sym m.2) (other_step T b T b (state_of T b, r.Refused e) step (r.Refused e) (sym m.0) (stands (r.Refused e)))

  -- ---- table statements

  effect_refused : (e : Effect) (U : Tables) (c : RunningScript) (defs : Option Defs) (refusal : Refusal) → CarriesOutUnlessOom e defs T b U c (Err refusal) → StepsUnlessOom T b U c (by_effect (state_of T b) e) (Err refusal)
  unfolding state_of
  effect_refused e U c defs refusal met = λ not. (let m = met not in (ap (by_effect (state_of T b)) m.0, m.1, m.2))

  effect_done : (e : Effect) (U : Tables) (c : RunningScript) (defs : Option Defs) (reply : Reply) → CarriesOutUnlessOom e defs T b U c (Ok reply)
      → ComesTo e.tables (with_seq b e.seq defs) (moved (machine_of T (Some b)) (running_of T b) (by_effect (state_of T b) e).0) → HasPlaces defs e.tables
      → Stepped T b U c (by_effect (state_of T b) e) reply
  effect_done e U c defs reply met k few =
      other_end T b e.tables U (with_seq b e.seq defs) c (by_effect (state_of T b) e) reply
      (ap (λ (f : Effect). f.tables) met.0) (ap (λ (f : Effect). with_seq b f.seq defs) met.0 ∙ sym met.1)
      (stepped T b e.tables (with_seq b e.seq defs) (by_effect (state_of T b) e) reply k few (ap (λ (f : Effect). f.reply) (sym met.0)))

  pub change_steps : (U : Tables) (c : RunningScript) (stmt : Stmt) (o : Result Reply Refusal) → creates stmt ≡ false → CarriesOutUnlessOom (effect T b.tx b.seq stmt) b.defs T b U c o → StepsUnlessOom T b U c (carried b.tx (state_of T b) stmt) o
  unfolding state_of
  change_steps U c stmt (Ok reply) k met =
      effect_done (effect T b.tx b.seq stmt) U c b.defs reply met (changes T b h stmt k) (more_places b.defs T (effect T b.tx b.seq stmt).tables (effect_length T b.tx b.seq stmt) places)
  change_steps U c stmt (Err e) k met = effect_refused (effect T b.tx b.seq stmt) U c b.defs e met

  pub create_steps : (U : Tables) (c : RunningScript) (stmt : Stmt) (o : Result Reply Refusal) → creates stmt ≡ true → b.explicit ≡ false
      → CarriesOutUnlessOom (effect T b.tx b.seq stmt) (first_defs b.defs (defs_of T)) T b U c o → StepsUnlessOom T b U c (carried b.tx (state_of T b) stmt) o
  unfolding state_of
  create_steps U c stmt (Ok reply) k explicit met =
      let e : Effect = effect T b.tx b.seq stmt in
      let defs : Option Defs = first_defs b.defs (defs_of T) in
      effect_done e U c defs reply met (creates_alone T b h stmt k explicit places) (more_places defs T e.tables (effect_length T b.tx b.seq stmt) (first_places b.defs T places))
  create_steps U c stmt (Err e) k explicit met = effect_refused (effect T b.tx b.seq stmt) U c (first_defs b.defs (defs_of T)) e met

  -- ---- savepoints

  pub save_steps : (c : RunningScript) (name : List ℕ) → b.explicit ≡ true → length b.saved < max_savepoints
      → c ≡ with_saved b b.seq (record { name = name; seq = b.seq } ∷ b.saved) → Stepped T b T c (saves (state_of T b) name) r.Saved
  save_steps c name explicit room e =
      let d : RunningScript = with_saved b b.seq (record { name = name; seq = b.seq } ∷ b.saved) in
      let step : Step = (with_copy (state_of T b) name, r.Saved) in
      other_end T b T T d c (saves (state_of T b) name) r.Saved refl (sym e)
      (other_step T b T d step (saves (state_of T b) name) r.Saved (sym (saved T b name room))
      (stepped T b T d step r.Saved (saves_copy T b h name explicit) places refl))

  back_steps : (U : Tables) (c : RunningScript) (name : List ℕ) (i : ℕ) (s : Savepoint) (ss : List Savepoint)
      → position (λ s. bytes_eq s.name name) b.saved ≡ Some i → drop i b.saved ≡ s ∷ ss → U ≡ undone b.tx s.seq T → c ≡ with_saved b s.seq (s ∷ ss)
      → Stepped T b U c (rolls_back_to (state_of T b) name) r.Back
  back_steps U c name i s ss found e u k =
      let V : Tables = undone b.tx s.seq T in
      let d : RunningScript = with_saved b s.seq (s ∷ ss) in
      let step : Step = (record { tables = V; seq = s.seq; saved = map (copy_at b.tx T) (s ∷ ss) }, r.Back) in
      other_end T b V U d c (rolls_back_to (state_of T b) name) r.Back (sym u) (sym k)
      (other_step T b V d step (rolls_back_to (state_of T b) name) r.Back (sym (back T b name i s ss found e))
      (stepped T b V d step r.Back (returns_at T b h i s ss e) (undone_places b.tx s.seq b.defs T places) refl))

  -- the same, where the place of the savepoint was found
  pub found_steps : (U : Tables) (c : RunningScript) (name : List ℕ) (i : ℕ) → position (λ s. bytes_eq s.name name) b.saved ≡ Some i → i < length b.saved
      → ((s : Savepoint) (ss : List Savepoint) → drop i b.saved ≡ s ∷ ss → U ≡ undone b.tx s.seq T)
      → ((s : Savepoint) (ss : List Savepoint) → drop i b.saved ≡ s ∷ ss → c ≡ with_saved b s.seq (s ∷ ss))
      → Stepped T b U c (rolls_back_to (state_of T b) name) r.Back
  found_steps U c name i found within tables script = here (drop i b.saved) refl
    where
      here : (xs : List Savepoint) → drop i b.saved ≡ xs → Stepped T b U c (rolls_back_to (state_of T b) name) r.Back
      here [] e = (let none = length-drop i b.saved in let empty = ap (λ (xs : List Savepoint). length xs) e in absurd (omega (arith, none, empty, within)))
      here (s ∷ ss) e = back_steps U c name i s ss found e (tables s ss e) (script s ss e)
