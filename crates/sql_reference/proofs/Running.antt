-- How the machine keeps a script that is begun agrees with what its contracts see.
use Rattle.std.proofs.Common.{◌≡◌, ◌≤◌, ℕ, ◌+◌, suc, refl, sym, ap, subst, ◌∙◌, Bool, true, false, cond, List, [], ◌∷◌, ◌++◌, map, take, drop, length, Option, Some, None, arith}
use Rattle.std.proofs.lemmas.List.{map-append, take-append-drop, drop_all}
use Rattle.std.proofs.lemmas.Bool.Decides.{nat_tests}
use Rattle.std.specs.Prelude.{not, nat_lt, position}
use Rattle.std.specs.List.{AllByRecursion, prefix_len}
use Rattle.std.specs.Str.{bytes_eq}
use Rattle.sql_types.specs.declared.statement.Stmt.{Stmt}
use Rattle.spec_model.specs.Catalog.{Defs, Tables}
use Rattle.spec_model.specs.Effect.{Effect, effect}
use Rattle.spec_model.specs.Reach.{creates}
use Rattle.spec_model.specs.Script.{Saved, back_to, by_effect}
use Rattle.spec_model.specs.Undo.{undone}
use Rattle.law_frame.proofs.Alls.{all_weaker}
use Rattle.law_frame.proofs.StepByStep.{with_copy, at_copy}
use Rattle.law_frame.proofs.UndoneTables.{none_undone, statement_undone}
use Rattle.law_journal.specs.Kept.{Kept}
use Rattle.sql_reference.specs.declared.begun.Savepoint.{Savepoint}
use Rattle.sql_reference.specs.declared.begun.RunningScript.{RunningScript}
use Rattle.sql_reference.specs.Machine.{Machine, begun, moved}
use Rattle.sql_reference.specs.Order.{IsNew, Steady, InScript, InOrder}
use Rattle.sql_reference.specs.Seen.{copy_at, state_of, before, running_of, machine_of}
use Rattle.sql_reference.proofs.UndoneTwice.{undone_twice}
use Rattle.sql_reference.proofs.InScripts.{none_above, start_in, change_in, save_in, return_in}

abbrev pub new_script : ℕ → Bool → RunningScript
new_script tx explicit = record { tx = tx; explicit = explicit; seq = 0; saved = []; defs = None }

-- the script after a statement, with these definitions to restore
abbrev pub with_seq : RunningScript → ℕ → Option Defs → RunningScript
with_seq b seq defs = record { tx = b.tx; explicit = b.explicit; seq = seq; saved = b.saved; defs = defs }

abbrev pub with_saved : RunningScript → ℕ → List Savepoint → RunningScript
with_saved b seq saved = record { tx = b.tx; explicit = b.explicit; seq = seq; saved = saved; defs = b.defs }

-- the machine that this script over these tables is, and it is in order
abbrev pub ComesTo : Tables → RunningScript → Machine → Type 0
ComesTo tables b m = (machine_of tables (Some b) ≡ m) × InOrder (machine_of tables (Some b))

pub comes_to : (T : Tables) (b : RunningScript) (m : Machine) → machine_of T (Some b) ≡ m → InOrder m → ComesTo T b m
comes_to T b m e h = (e, subst InOrder (sym e) h)

-- ---- copies

of_map : {A B : Type 0} (P : B → Type 0) (f : A → B) (xs : List A) → AllByRecursion P (map f xs) → AllByRecursion (λ x. P (f x)) xs
of_map P f [] h = tt
of_map P f (x ∷ xs) h = (h.0, of_map P f xs h.1)

pub same_copies : (tx : ℕ) (T U : Tables) (saved : List Savepoint) → AllByRecursion (λ s. undone tx s.seq U ≡ undone tx s.seq T) saved → map (copy_at tx U) saved ≡ map (copy_at tx T) saved
same_copies tx T U [] h = refl
same_copies tx T U (s ∷ ss) h = rw (h.0, same_copies tx T U ss h.1) refl

-- ---- a script begins

pub begins : (tx : ℕ) (explicit : Bool) (T : Tables) → Steady T → IsNew tx T → ComesTo T (new_script tx explicit) (begun tx explicit T)
unfolding state_of before
begins tx explicit T h new =
    let k : (place : ℕ → ℕ) × Kept place tx 0 T = h.ready tx new in
    let e : machine_of T (Some (new_script tx explicit)) ≡ begun tx explicit T = rw (none_undone tx 0 T k.1.sound.each) refl in
    comes_to T (new_script tx explicit) (begun tx explicit T) e (record { steady = h; script = start_in tx explicit T k h.described })

-- ---- a statement that doesn't create

module _ (T : Tables) (b : RunningScript) (h : InOrder (machine_of T (Some b))) where
  saved_above : AllByRecursion (λ s. s.seq ≤ b.seq) b.saved
  unfolding state_of
  saved_above = of_map (λ (c : Saved). c.seq ≤ b.seq) (copy_at b.tx T) b.saved (none_above b.seq (map (copy_at b.tx T) b.saved) h.script.numbers)

  pub changes : (stmt : Stmt) → creates stmt ≡ false
      → (let e : Effect = effect T b.tx b.seq stmt in ComesTo e.tables (with_seq b e.seq b.defs) (moved (machine_of T (Some b)) (running_of T b) (by_effect (state_of T b) e).0))
  unfolding state_of before
  changes stmt k =
      let e : Effect = effect T b.tx b.seq stmt in
      let first : undone b.tx 0 e.tables ≡ undone b.tx 0 T = statement_undone b.tx 0 b.seq T h.script.kept.sound (omega arith) stmt k in
      let copies : map (copy_at b.tx e.tables) b.saved ≡ map (copy_at b.tx T) b.saved =
      same_copies b.tx T e.tables b.saved
      (all_weaker (λ s. s.seq ≤ b.seq) (λ s. undone b.tx s.seq e.tables ≡ undone b.tx s.seq T) (λ s le. statement_undone b.tx s.seq b.seq T h.script.kept.sound le stmt k) b.saved saved_above) in
      comes_to e.tables (with_seq b e.seq b.defs) (moved (machine_of T (Some b)) (running_of T b) (by_effect (state_of T b) e).0)
      (rw (first, copies) refl) (record { steady = h.steady; script = change_in (running_of T b) h.script stmt k })

  -- ---- savepoints

  pub saves_copy : (name : List ℕ) → b.explicit ≡ true
      → ComesTo T (with_saved b b.seq (record { name = name; seq = b.seq } ∷ b.saved)) (moved (machine_of T (Some b)) (running_of T b) (with_copy (state_of T b) name))
  unfolding state_of before
  saves_copy name o =
      comes_to T (with_saved b b.seq (record { name = name; seq = b.seq } ∷ b.saved)) (moved (machine_of T (Some b)) (running_of T b) (with_copy (state_of T b) name))
      (rw (none_undone b.tx b.seq T h.script.kept.sound.each) refl) (record { steady = h.steady; script = save_in (running_of T b) h.script name o })

  pub returns : (front : List Savepoint) (s : Savepoint) (ss : List Savepoint) → b.saved ≡ front ++ s ∷ ss
      → (let U : Tables = undone b.tx s.seq T in ComesTo U (with_saved b s.seq (s ∷ ss)) (moved (machine_of T (Some b)) (running_of T b) (record { tables = U; seq = s.seq; saved = map (copy_at b.tx T) (s ∷ ss) })))
  unfolding state_of before
  returns front s ss e =
      let U : Tables = undone b.tx s.seq T in
      let parts : map (copy_at b.tx T) b.saved ≡ map (copy_at b.tx T) front ++ map (copy_at b.tx T) (s ∷ ss) = ap (map (copy_at b.tx T)) e ∙ map-append (copy_at b.tx T) front (s ∷ ss) in
      let script : InScript (record { tx = b.tx; explicit = b.explicit; state = at_copy (copy_at b.tx T s) (map (copy_at b.tx T) ss) }) = return_in (running_of T b) h.script (map (copy_at b.tx T) front) (copy_at b.tx T s) (map (copy_at b.tx T) ss) parts in
      let above : AllByRecursion (λ r. r.seq ≤ s.seq) (s ∷ ss) = of_map (λ (c : Saved). c.seq ≤ s.seq) (copy_at b.tx T) (s ∷ ss) (none_above s.seq (map (copy_at b.tx T) (s ∷ ss)) script.numbers) in
      let copies : map (copy_at b.tx U) (s ∷ ss) ≡ map (copy_at b.tx T) (s ∷ ss) =
      same_copies b.tx T U (s ∷ ss) (all_weaker (λ r. r.seq ≤ s.seq) (λ r. undone b.tx r.seq U ≡ undone b.tx r.seq T) (λ r le. undone_twice b.tx r.seq s.seq le T) (s ∷ ss) above) in
      let first : undone b.tx 0 U ≡ undone b.tx 0 T = undone_twice b.tx 0 s.seq (omega arith) T in
      comes_to U (with_saved b s.seq (s ∷ ss)) (moved (machine_of T (Some b)) (running_of T b) (record { tables = U; seq = s.seq; saved = map (copy_at b.tx T) (s ∷ ss) }))
      (same_machine U first copies)
      (record { steady = h.steady; script = script })
    where
      same_machine : (U : Tables) → undone b.tx 0 U ≡ undone b.tx 0 T → map (copy_at b.tx U) (s ∷ ss) ≡ map (copy_at b.tx T) (s ∷ ss)
          → machine_of U (Some (with_saved b s.seq (s ∷ ss))) ≡ moved (machine_of T (Some b)) (running_of T b) (record { tables = U; seq = s.seq; saved = map (copy_at b.tx T) (s ∷ ss) })
      same_machine U first copies = rw first (ap (λ (cs : List Saved). moved (machine_of T (Some b)) (running_of T b) (record { tables = U; seq = s.seq; saved = cs })) copies)

  -- the same, where the place of the savepoint was found
  pub returns_at : (i : ℕ) (s : Savepoint) (ss : List Savepoint) → drop i b.saved ≡ s ∷ ss
      → (let U : Tables = undone b.tx s.seq T in ComesTo U (with_saved b s.seq (s ∷ ss)) (moved (machine_of T (Some b)) (running_of T b) (record { tables = U; seq = s.seq; saved = map (copy_at b.tx T) (s ∷ ss) })))
  returns_at i s ss e = returns (take i b.saved) s ss (sym (take-append-drop i b.saved) ∙ ap (λ (xs : List Savepoint). take i b.saved ++ xs) e)

-- ---- the savepoint of a name

pub back_copies : (tx : ℕ) (T : Tables) (saved : List Savepoint) (name : List ℕ) → back_to (map (copy_at tx T) saved) name ≡ map (copy_at tx T) (drop (prefix_len (λ s. not (bytes_eq s.name name)) saved) saved)
back_copies tx T [] name = refl
back_copies tx T (s ∷ ss) name = here (bytes_eq s.name name) refl (back_copies tx T ss name)
  where
    here : (b : Bool) → bytes_eq s.name name ≡ b → back_to (map (copy_at tx T) ss) name ≡ map (copy_at tx T) (drop (prefix_len (λ s. not (bytes_eq s.name name)) ss) ss)
        → back_to (map (copy_at tx T) (s ∷ ss)) name ≡ map (copy_at tx T) (drop (prefix_len (λ s. not (bytes_eq s.name name)) (s ∷ ss)) (s ∷ ss))
    here true e h = rw e refl
    here false e h = rw e (h ∙ ap (λ (n : ℕ). map (copy_at tx T) (drop n (s ∷ ss))) one_more)
      where
        one_more : suc (prefix_len (λ s. not (bytes_eq s.name name)) ss) ≡ 1 + prefix_len (λ s. not (bytes_eq s.name name)) ss
        one_more = omega arith

-- where a search for the name found its place
pub found_copies : (tx : ℕ) (T : Tables) (saved : List Savepoint) (name : List ℕ) (i : ℕ) → position (λ s. bytes_eq s.name name) saved ≡ Some i
    → back_to (map (copy_at tx T) saved) name ≡ map (copy_at tx T) (drop i saved)
found_copies tx T saved name i e =
    back_copies tx T saved name ∙ ap (λ (n : ℕ). map (copy_at tx T) (drop n saved)) (here (nat_lt (prefix_len (λ s. not (bytes_eq s.name name)) saved) (length saved)) e)
  where
    here : (b : Bool) → cond b (Some (prefix_len (λ s. not (bytes_eq s.name name)) saved)) None ≡ Some i → prefix_len (λ s. not (bytes_eq s.name name)) saved ≡ i
    here true k = cc
    here false k = cc

-- where it found none
pub no_copies : (tx : ℕ) (T : Tables) (saved : List Savepoint) (name : List ℕ) → position (λ s. bytes_eq s.name name) saved ≡ None → back_to (map (copy_at tx T) saved) name ≡ []
no_copies tx T saved name e =
    back_copies tx T saved name ∙ ap (map (copy_at tx T)) (here (nat_lt (prefix_len (λ s. not (bytes_eq s.name name)) saved) (length saved)) refl e)
  where
    here : (b : Bool) → nat_lt (prefix_len (λ s. not (bytes_eq s.name name)) saved) (length saved) ≡ b → cond b (Some (prefix_len (λ s. not (bytes_eq s.name name)) saved)) None ≡ None
        → drop (prefix_len (λ s. not (bytes_eq s.name name)) saved) saved ≡ []
    here true f k = cc
    here false f k = drop_all (prefix_len (λ s. not (bytes_eq s.name name)) saved) saved (grind (arith, nat_tests))
