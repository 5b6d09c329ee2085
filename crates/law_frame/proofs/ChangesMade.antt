-- The tables after a script that BEGIN opened are those before it with the starts and ends that stand.
use Rattle.std.proofs.Common.{◌≡◌, ℕ, zero, suc, ◌+◌, ◌≤◌, refl, sym, ap, subst, ◌∙◌, Bool, true, false, List, [], ◌∷◌, ◌++◌, take, length, Option, Some, None, arith, length-append}
use Rattle.std.proofs.lemmas.List.{take-append-le, length-take-le, take_all}
use Rattle.std.specs.Prelude.{if◌then◌else◌, nat_lt}
use Rattle.std.specs.Str.{bytes_eq}
use Rattle.sql_types.specs.declared.statement.Stmt.{Stmt}
use Rattle.sql_types.specs.declared.statement.Stmt.TheVariants as s
use Rattle.sql_types.specs.declared.reply.Reply.{Reply}
use Rattle.spec_model.specs.Limits.{max_savepoints}
use Rattle.spec_model.specs.Catalog.{Tables}
use Rattle.spec_model.specs.Effect.{Effect, effect}
use Rattle.spec_model.specs.ChangeSets.{TableChange, changed_from, change_set}
use Rattle.spec_model.specs.Reach.{creates}
use Rattle.spec_model.specs.Script.{Reading, Saved, State, Step, by_effect, saves, back_to, rolled_back, rolls_back_to, in_transaction, by_statement, start, text_step, script_from, script}
use Rattle.spec_model.specs.ScriptRequests.{text_changes, changes_from, script_changes}
use Rattle.law_frame.proofs.ChangeSets.{carries_change_set_out, in_turn}
use Rattle.law_frame.proofs.Definitions.{tables_after}
use Rattle.law_frame.proofs.StepByStep.{with_copy, at_copy}

take_twice : {A : Type 0} (d k : ℕ) (xs : List A) → d ≤ k → take d (take k xs) ≡ take d xs
take_twice zero k xs le = refl
take_twice (suc d) zero xs le = absurd (omega (arith, le))
take_twice (suc d) (suc k) [] le = refl
take_twice (suc d) (suc k) (x ∷ xs) le = ap (λ (ys : List _). x ∷ ys) (take_twice d k xs (omega (arith, le)))

module _ (tx : ℕ) (T : Tables) where
  abbrev after : List TableChange → Tables
  after cs = changed_from tx 0 cs T

  -- each copy has the first changes, and the older ones have fewer
  abbrev Copies : ℕ → List TableChange → List Saved → Type 0
  Copies n cs [] = Unit {0}
  Copies n cs (c ∷ rest) = (c.seq ≤ n) × (c.tables ≡ after (take c.seq cs)) × Copies c.seq cs rest

  pub record Made (x : State) (cs : List TableChange) : Type 0 where
    pub count : length cs ≡ x.seq
    pub tables : x.tables ≡ after cs
    pub saved : Copies x.seq cs x.saved

  more : (n m : ℕ) (cs ds : List TableChange) (saved : List Saved) → n ≤ m → n ≤ length cs → Copies n cs saved → Copies m (cs ++ ds) saved
  more n m cs ds [] le in_ h = tt
  more n m cs ds (c ∷ rest) le in_ h =
      (omega (arith, h.0, le), h.1 ∙ ap after (sym (take-append-le c.seq cs ds (omega (arith, h.0, in_)))), more c.seq c.seq cs ds rest (omega arith) (omega (arith, h.0, in_)) h.2)

  cut_off : (n k : ℕ) (cs : List TableChange) (saved : List Saved) → n ≤ k → Copies n cs saved → Copies n (take k cs) saved
  cut_off n k cs [] le h = tt
  cut_off n k cs (c ∷ rest) le h =
      (h.0, h.1 ∙ ap after (sym (take_twice c.seq k cs (omega (arith, h.0, le)))), cut_off c.seq k cs rest (omega (arith, h.0, le)) h.2)

  higher : (n m : ℕ) (cs : List TableChange) (saved : List Saved) → n ≤ m → Copies n cs saved → Copies m cs saved
  higher n m cs [] le h = tt
  higher n m cs (c ∷ rest) le h = (omega (arith, h.0, le), h.1, h.2)

  backwards : (name : List ℕ) (n : ℕ) (cs : List TableChange) (saved : List Saved) → Copies n cs saved → Copies n cs (back_to saved name)
  backwards name n cs [] h = tt
  backwards name n cs (c ∷ rest) h = here (bytes_eq c.name name) (higher c.seq n cs (back_to rest name) h.0 (backwards name c.seq cs rest h.2))
    where
      here : (b : Bool) → Copies n cs (back_to rest name) → Copies n cs (if b then c ∷ rest else back_to rest name)
      here true k = h
      here false k = k

  -- ---- a text

  abbrev MadeBy : Step → List TableChange → Type 0
  MadeBy p cs = Made p.0 (take p.0.seq cs)

  unmoved : (x : State) (cs : List TableChange) → Made x cs → Made x (take x.seq (cs ++ []))
  unmoved x cs h = subst (Made x) (sym (take-append-le x.seq cs [] (omega (arith, h.count)) ∙ take_all x.seq cs (omega (arith, h.count)))) h

  changed : (x : State) (cs : List TableChange) (stmt : Stmt) → creates stmt ≡ false → Made x cs → MadeBy (by_effect x (effect x.tables tx x.seq stmt)) (cs ++ (change_set x.tables stmt).changes)
  changed x cs stmt k h =
      let e : Effect = effect x.tables tx x.seq stmt in
      let ds : List TableChange = (change_set x.tables stmt).changes in
      let counter : e.seq ≡ x.seq + length ds = ap (λ (f : Effect). f.seq) (carries_change_set_out x.tables tx x.seq stmt) in
      let all : length (cs ++ ds) ≡ e.seq = omega (arith, length-append cs ds, h.count, counter) in
      subst (Made (by_effect x e).0) (sym (take_all e.seq (cs ++ ds) (omega (arith, all)))) (record {
        count = all;
        tables = tables_after x.tables tx x.seq stmt k ∙ ap (changed_from tx x.seq ds) h.tables ∙ ap (λ (n : ℕ). changed_from tx n ds (after cs)) (omega (arith, h.count)) ∙ sym (in_turn tx 0 cs ds T);
        saved = more x.seq e.seq cs ds x.saved (omega (arith, counter)) (omega (arith, h.count)) h.saved;
      })

  branch : (b : Bool) (x y : State) (r q : Reply) (cs : List TableChange) → Made y (take y.seq cs) → Made x (take x.seq cs) → let p : Step = if b then (y, r) else (x, q) in MadeBy p cs
  branch true x y r q cs h k = h
  branch false x y r q cs h k = k

  saved_too : (x : State) (name : List ℕ) (cs : List TableChange) → Made x cs → MadeBy (saves x name) (cs ++ [])
  unfolding saves
  saved_too x name cs h =
      branch (nat_lt (length x.saved) max_savepoints) x (with_copy x name) _ _ (cs ++ [])
      (unmoved (with_copy x name) cs (record { count = h.count; tables = h.tables; saved = (omega arith, h.tables ∙ ap after (sym (take_all x.seq cs (omega (arith, h.count)))), h.saved) }))
      (unmoved x cs h)

  back_at : (x : State) (cs : List TableChange) (saved : List Saved) → Made x cs → Copies x.seq cs saved → MadeBy (rolled_back x saved) (cs ++ [])
  back_at x cs [] h k = unmoved x cs h
  back_at x cs (c ∷ rest) h k =
      let in_ : c.seq ≤ length cs = omega (arith, k.0, h.count) in
      subst (Made (at_copy c rest)) (sym (take-append-le c.seq cs [] in_)) (record {
        count = length-take-le c.seq cs in_;
        tables = k.1;
        saved = (omega arith, k.1 ∙ ap after (sym (take_twice c.seq c.seq cs (omega arith))), cut_off c.seq c.seq cs rest (omega arith) k.2);
      })

  by_explicit : (x : State) (cs : List TableChange) (stmt : Stmt) → Made x cs → MadeBy (in_transaction tx x stmt) (cs ++ text_changes true x.tables (Some stmt))
  unfolding rolls_back_to
  by_explicit x cs (s.Create c) h = unmoved x cs h
  by_explicit x cs (s.Index c) h = unmoved x cs h
  by_explicit x cs (s.Alter altered) h = unmoved x cs h
  by_explicit x cs (s.Drop name) h = unmoved x cs h
  by_explicit x cs (s.Change stmt) h = changed x cs (s.Change stmt) refl h
  by_explicit x cs (s.Select q) h = changed x cs (s.Select q) refl h
  by_explicit x cs s.Begin h = unmoved x cs h
  by_explicit x cs s.Commit h = unmoved x cs h
  by_explicit x cs (s.Save name) h = saved_too x name cs h
  by_explicit x cs (s.Rollback (Some name)) h = back_at x cs (back_to x.saved name) h (backwards name x.seq cs x.saved h.saved)
  by_explicit x cs (s.Rollback None) h = unmoved x cs h
  by_explicit x cs s.Digest h = unmoved x cs h
  by_explicit x cs s.Image h = unmoved x cs h

  by_text : (x : State) (cs : List TableChange) (o : Option Stmt) → Made x cs → MadeBy (by_statement true tx x o) (cs ++ text_changes true x.tables o)
  by_text x cs None h = unmoved x cs h
  by_text x cs (Some stmt) h = by_explicit x cs stmt h

  by_texts : (reads : Reading) (x : State) (cs : List TableChange) (texts : List (List ℕ)) → Made x cs → Made (script_from reads true tx x texts).state (changes_from reads true tx x cs texts)
  unfolding script_from text_step changes_from
  by_texts reads x cs [] h = h
  by_texts reads x cs (t ∷ ts) h = by_texts reads (text_step reads true tx x t).0 _ ts (by_text x cs (reads t) h)

  pub script_made : (reads : Reading) (texts : List (List ℕ)) → Made (script reads true T tx texts).state (script_changes reads true T tx texts)
  script_made reads texts = by_texts reads (start T) [] texts (record { count = refl; tables = refl; saved = tt })
