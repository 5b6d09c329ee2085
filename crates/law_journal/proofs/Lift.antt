-- From the changes of one table to those of all tables.
use Rattle.std.proofs.Common.{◌≡◌, ◌≢◌, ◌≤◌, ℕ, ◌+◌, inl, inr, Bool, true, false, List, [], ◌∷◌, ◌++◌, length, refl, arith, sym, ◌∙◌, ap, subst, Option, Some, None, Ok, Err}
use Rattle.std.specs.Prelude.{if◌then◌else◌, ◌==◌}
use Rattle.std.specs.List.{AllByRecursion}
use Rattle.std.proofs.lemmas.Bool.{eq-eqb, ne_eqb}
use Rattle.std.proofs.lemmas.List.Sums.{sum_by-cons}
use Rattle.sql_types.specs.declared.statement.RowStmt.{RowStmt}
use Rattle.sql_types.specs.declared.table.Part.{Part}
use Rattle.sql_types.specs.declared.table.TableDef.{TableDef}
use Rattle.sql_types.specs.declared.version.Table.{Table}
use Rattle.sql_types.specs.declared.version.Version.{Version}
use Rattle.spec_model.specs.Refusals.{Checked}
use Rattle.spec_model.specs.Rows.{EventId}
use Rattle.spec_model.specs.Changes.{Change, Changes, changed, row_changes}
use Rattle.spec_model.specs.Catalog.{NamedPart, Tables, defs_of, versions_of, with_versions, changed_table, part_named, or_in, find_part}
use Rattle.spec_model.specs.Checks.{row_check, row_statement_check}
use Rattle.spec_model.specs.ChangeSets.{TableChange, in_table, changed_in, changed_from, row_change_set, row_stmt_change_set}
use Rattle.spec_model.specs.Agreement.{IdsFrom}
use Rattle.spec_model.specs.Runs.{SoundTable}
use Rattle.law_frame.proofs.Alls.{all_both}
use Rattle.law_frame.proofs.NamedPart.{Passed, passed}
use Rattle.law_journal.specs.Fine.{IsFine, OfTable, AllFine}
use Rattle.law_journal.specs.Kept.{count, count_all, KeptTable, Kept}
use Rattle.law_journal.proofs.Here.{AllHere}
use Rattle.law_journal.proofs.RowChanges.{Ready, row_fine}
use Rattle.law_journal.proofs.Tables.{table_count, once}

-- ---- of the table with an id

pub of_weaker : (id : ℕ) (P Q : Table → Type 0) (T : Tables) → ((t : Table) → P t → Q t) → OfTable id P T → OfTable id Q T
of_weaker id P Q [] f o = o
of_weaker id P Q (t ∷ ts) f o = elim o [ inl p ↦ inl (p.0, f t p.1) | inr q ↦ inr (of_weaker id P Q ts f q) ]

pub of_all : (id : ℕ) (P Q : Table → Type 0) (T : Tables) → AllByRecursion P T → OfTable id Q T → OfTable id (λ t. P t × Q t) T
of_all id P Q [] a o = o
of_all id P Q (t ∷ ts) a o = elim o [ inl p ↦ inl (p.0, (a.0, p.1)) | inr q ↦ inr (of_all id P Q ts a.1 q) ]

pub of_changed : (id : ℕ) (P Q : Table → Type 0) (f : List Version → List Version) (T : Tables) → ((t : Table) → P t → Q (with_versions f t)) → OfTable id P T → OfTable id Q (changed_table id f T)
of_changed id P Q f [] g o = o
of_changed id P Q f (t ∷ ts) g o = elim o [
  | inl p ↦ inl (subst (λ (u : Table). (u.def.id ≡ id) × Q u) (sym (here (t.def.id == id) (eq-eqb t.def.id id p.0))) (p.0, g t p.1))
  | inr q ↦ inr (of_changed id P Q f ts g q)
]
  where
    here : (b : Bool) → b ≡ true → (if b then with_versions f t else t) ≡ with_versions f t
    here true e = refl
    here false e = cc

pub of_other : (id other : ℕ) (P : Table → Type 0) (f : List Version → List Version) (T : Tables) → id ≢ other → OfTable id P T → OfTable id P (changed_table other f T)
of_other id other P f [] ne o = o
of_other id other P f (t ∷ ts) ne o = elim o [
  | inl p ↦ inl (subst (λ (u : Table). (u.def.id ≡ id) × P u) (sym (here (t.def.id == other) (ne_eqb t.def.id other (λ e. ne (sym p.0 ∙ e))))) p)
  | inr q ↦ inr (of_other id other P f ts ne q)
]
  where
    here : (b : Bool) → b ≡ false → (if b then with_versions f t else t) ≡ t
    here true e = cc
    here false e = refl

pub of_front : (id : ℕ) (P : Table → Type 0) (T U : Tables) → OfTable id P T → OfTable id P (T ++ U)
of_front id P [] U o = absurd o
of_front id P (t ∷ ts) U o = elim o [ inl p ↦ inl p | inr q ↦ inr (of_front id P ts U q) ]

-- ---- changes

pub lift : (tx seq id : ℕ) (cs : List Change) (T : Tables) → OfTable id (λ t. AllHere t.def.columns tx seq cs t.versions) T → AllFine tx seq (in_table id cs) T
lift tx seq id [] T o = tt
lift tx seq id (c ∷ cs) T o = (
  of_weaker id (λ t. AllHere t.def.columns tx seq (c ∷ cs) t.versions) (λ t. IsFine t.def.columns c t.versions) T (λ t h. h.0) o,
  lift tx (seq + 1) id cs (changed_in (tx, seq) (id, c) T)
      (of_changed id (λ t. AllHere t.def.columns tx seq (c ∷ cs) t.versions) (λ t. AllHere t.def.columns tx (seq + 1) cs t.versions) (changed (tx, seq) c) T (λ t h. h.1) o),
)

pub fine_append : (tx seq : ℕ) (cs ds : List TableChange) (T : Tables) → AllFine tx seq cs T → AllFine tx (seq + length cs) ds (changed_from tx seq cs T) → AllFine tx seq (cs ++ ds) T
fine_append tx seq [] ds T a b = subst (λ (n : ℕ). AllFine tx n ds T) (omega arith) b
fine_append tx seq (c ∷ cs) ds T a b =
    (a.0, fine_append tx (seq + 1) cs ds (changed_in (tx, seq) c T) a.1 (subst (λ (n : ℕ). AllFine tx n ds (changed_from tx (seq + 1) cs (changed_in (tx, seq) c T))) (omega arith) b))

-- ---- the table that a name stands for

abbrev Found : NamedPart → List Version → Table → Type 0
Found found vs t = (t.def ≡ found.0) × (t.versions ≡ vs)

pub record FoundFrom (n : ℕ) (T : Tables) (found : NamedPart) : Type 0 where
  pub from : n ≤ found.0.id
  pub there : OfTable found.0.id (Found found (versions_of T found.0.id)) T

of_some : (n found : NamedPart) → Some n ≡ Some found → n ≡ found
of_some n found e = cc

by_part : (n : ℕ) (t : Table) (ts : Tables) (o : Option Part) (rest : Option NamedPart) (found : NamedPart) → t.def.id ≡ n → or_in o t.def rest ≡ Some found
    → (rest ≡ Some found → FoundFrom (n + 1) ts found) → FoundFrom n (t ∷ ts) found
by_part n t ts (Some p) rest found is e h =
    let same : t.def ≡ found.0 = ap (λ (x : NamedPart). x.0) (of_some (t.def, p) found e) in
    let id : t.def.id ≡ found.0.id = ap (λ (d : TableDef). d.id) same in
    record { from = omega (arith, is, id); there = inl (id, (same, (rw (eq-eqb t.def.id found.0.id id) refl))) }
by_part n t ts None rest found is e h =
    let r : FoundFrom (n + 1) ts found = h e in
    record {
      from = omega (arith, r.from);
      there = inr (of_weaker found.0.id (Found found (versions_of ts found.0.id)) (Found found (versions_of (t ∷ ts) found.0.id)) ts
          (λ u k. (k.0, k.1 ∙ (rw (ne_eqb t.def.id found.0.id (λ same. absurd (omega (arith, same, is, r.from)))) refl))) r.there);
    }

pub found_table : (n : ℕ) (T : Tables) (name : List ℕ) (found : NamedPart) → IdsFrom n (defs_of T) → find_part (defs_of T) name ≡ Some found → FoundFrom n T found
unfolding find_part
found_table n [] name found ids e = cc
found_table n (t ∷ ts) name found ids e = by_part n t ts (part_named t.def name) (find_part (defs_of ts) name) found ids.0 e (λ h. found_table (n + 1) ts name found ids.1 h)

-- ---- INSERT, UPDATE and DELETE

few_each : (T : Tables) → ((a : EventId) → count_all a T ≤ 1) → AllByRecursion (λ t. (a : EventId) → count a t.versions ≤ 1) T
few_each [] h = tt
few_each (t ∷ ts) h =
    ((λ a. (let l = sum_by-cons (table_count a) t ts in let o = h a in omega (arith, l, o))), few_each ts (λ a. (let l = sum_by-cons (table_count a) t ts in let o = h a in omega (arith, l, o))))

module _ (place : ℕ → ℕ) (tx seq : ℕ) where
  abbrev All : Table → Type 0
  All t = ((a : EventId) → count a t.versions ≤ 1) × (SoundTable tx seq t × KeptTable place (tx, seq) t)

  all_of : (T : Tables) → Kept place tx seq T → AllByRecursion All T
  all_of T k = all_both (λ t. (a : EventId) → count a t.versions ≤ 1) (λ t. SoundTable tx seq t × KeptTable place (tx, seq) t) T (few_each T (once place tx seq T k)) (all_both (SoundTable tx seq) (KeptTable place (tx, seq)) T k.sound.each k.each)

  ready : (t : Table) → All t → Ready place tx seq t.def.columns t.versions
  ready t a = record { names = a.1.0.names; rising = a.1.0.rising; here = record { once = a.0; past = a.1.1.past; apart = a.1.1.apart }; fit = a.1.1.fit }

  of_row : (def : TableDef) (part : Part) (V : List Version) (stmt : RowStmt) (c : Changes) → row_check stmt def part ≡ Ok tt → row_changes def V stmt ≡ Ok c
      → (t : Table) → All t × ((t.def ≡ def) × (t.versions ≡ V)) → AllHere t.def.columns tx seq c.0 t.versions
  of_row def part V stmt c check e t h =
      let d : t.def ≡ def = h.1.0 in
      let v : t.versions ≡ V = h.1.1 in
      row_fine place tx seq t.def part t.versions stmt c (ready t h.0)
      (subst (λ (x : TableDef). row_check stmt x part ≡ Ok tt) (sym d) check)
      (subst (λ (x : TableDef). row_changes x t.versions stmt ≡ Ok c) (sym d) (subst (λ (vs : List Version). row_changes def vs stmt ≡ Ok c) (sym v) e))

  rows_fine : (def : TableDef) (T : Tables) (stmt : RowStmt) (m : Checked Changes) → Kept place tx seq T → row_statement_check (defs_of T) stmt ≡ Ok def → row_changes def (versions_of T def.id) stmt ≡ m → AllFine tx seq (row_change_set def.id m).changes T
  rows_fine def T stmt (Err e) k check is = tt
  rows_fine def T stmt (Ok c) k check is =
      let p : Passed (defs_of T) stmt def = passed (defs_of T) stmt def check in
      let f = (found_table 1 T _ p.found k.sound.ids p.by_name).there in
      let checked : row_check stmt def p.found.1 ≡ Ok tt = subst (λ (d : TableDef). row_check stmt d p.found.1 ≡ Ok tt) p.is p.check in
      let there : OfTable def.id (λ t. (t.def ≡ def) × (t.versions ≡ versions_of T def.id)) T = subst (λ (d : TableDef). OfTable d.id (λ t. (t.def ≡ d) × (t.versions ≡ versions_of T d.id)) T) p.is f in
      lift tx seq def.id c.0 T
      (of_weaker def.id (λ t. All t × ((t.def ≡ def) × (t.versions ≡ versions_of T def.id))) (λ t. AllHere t.def.columns tx seq c.0 t.versions) T (of_row def p.found.1 (versions_of T def.id) stmt c checked is)
      (of_all def.id All (λ t. (t.def ≡ def) × (t.versions ≡ versions_of T def.id)) T (all_of T k) there))

  pub change_fine : (T : Tables) (stmt : RowStmt) (m : Checked TableDef) → Kept place tx seq T → row_statement_check (defs_of T) stmt ≡ m → AllFine tx seq (row_stmt_change_set T stmt m).changes T
  change_fine T stmt (Ok def) k check = rows_fine def T stmt (row_changes def (versions_of T def.id) stmt) k check refl
  change_fine T stmt (Err e) k check = tt
