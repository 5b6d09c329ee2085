-- Over two states that agree on all that its statements want, a script that BEGIN opened is one.
use Rattle.std.proofs.Common.{◌≡◌, ℕ, suc, ◌⊎◌, refl, sym, ap, subst, ◌∙◌, Bool, true, false, List, [], ◌∷◌, ◌++◌, map, take, length, Option, Some, None, inl, inr, ⊎_elim}
use Rattle.std.specs.Prelude.{if◌then◌else◌, nat_lt}
use Rattle.std.specs.List.{AllByRecursion}
use Rattle.std.specs.Str.{bytes_eq}
use Rattle.sql_types.specs.declared.statement.Stmt.{Stmt}
use Rattle.sql_types.specs.declared.statement.Stmt.TheVariants as s
use Rattle.sql_types.specs.declared.reply.Reply.{Reply}
use Rattle.sql_types.specs.declared.reply.Reply.TheVariants as r
use Rattle.sql_value.specs.declared.refusal.Refusal.TheVariants.{LimitExceeded}
use Rattle.spec_model.specs.Limits.{max_savepoints}
use Rattle.spec_model.specs.Catalog.{Defs, Tables, defs_of, versions_of}
use Rattle.spec_model.specs.Effect.{Effect, effect}
use Rattle.spec_model.specs.ChangeSets.{TableChange, changed_from, ChangeSet, change_set}
use Rattle.spec_model.specs.Agreement.{SameCatalog, LockRequests, requests_of, AgreeFor}
use Rattle.spec_model.specs.Reach.{creates}
use Rattle.spec_model.specs.Runs.{Sound}
use Rattle.spec_model.specs.Touched.{touched}
use Rattle.spec_model.specs.Script.{Reading, Saved, State, Step, by_effect, saves, back_to, rolled_back, rolls_back_to, in_transaction, by_statement, start, text_step, script_from, script}
use Rattle.spec_model.specs.ScriptRequests.{text_requests, text_changes, script_requests, changes_from, script_changes}
use Rattle.law_frame.proofs.Definitions.{tables_after, defs_after}
use Rattle.law_frame.proofs.SameChangeSet.{same_change_set, same_reply, same_counter}
use Rattle.law_frame.proofs.SoundStatements.{kept_sound}
use Rattle.law_frame.proofs.SameTouched.{same_touched, untouched_at}
use Rattle.law_frame.proofs.StepByStep.{with_copy, at_copy}
use Rattle.law_frame.proofs.AgreeAfter.{agree_after}

-- ---- wants among others

abbrev pub Among : LockRequests → List LockRequests → Type 0
Among w [] = ⊥
Among w (v ∷ vs) = (v ≡ w) ⊎ Among w vs

pub among_all : (P : LockRequests → Type 0) (w : LockRequests) (vs : List LockRequests) → AllByRecursion P vs → Among w vs → P w
among_all P w [] h a = absurd a
among_all P w (v ∷ vs) h a = ⊎_elim (λ (e : v ≡ w). subst P e h.0) (λ (b : Among w vs). among_all P w vs h.1 b) a

pub each_among : {A : Type 0} (f : A → LockRequests) (ws : List LockRequests) (xs : List A) → ((w : LockRequests) → Among w (map f xs) → Among w ws) → AllByRecursion (λ x. Among (f x) ws) xs
each_among f ws [] h = tt
each_among f ws (x ∷ xs) h = (h (f x) (inl refl), each_among f ws xs (λ w a. h w (inr a)))

pub among_later : (w : LockRequests) (vs ws : List LockRequests) → Among w ws → Among w (vs ++ ws)
among_later w [] ws a = a
among_later w (v ∷ vs) ws a = inr (among_later w vs ws a)

module _ (reads : Reading) (tx : ℕ) (D : Defs) (ws : List LockRequests) where
  pub record AlikeTables (n : ℕ) (T U : Tables) : Type 0 where
    pub sound : Sound tx n T
    pub sound_too : Sound tx n U
    pub agree : AllByRecursion (AgreeFor T U) ws
    pub defs : defs_of T ≡ D
    pub mine : (id : ℕ) → touched tx (versions_of T id) ≡ touched tx (versions_of U id)

  pub record AlikeSaved (c d : Saved) : Type 0 where
    pub name : c.name ≡ d.name
    pub seq : c.seq ≡ d.seq
    pub tables : AlikeTables c.seq c.tables d.tables

  abbrev pub AllAlike : List Saved → List Saved → Type 0
  AllAlike [] [] = Unit {0}
  AllAlike (c ∷ cs) (d ∷ ds) = AlikeSaved c d × AllAlike cs ds
  AllAlike _ _ = ⊥

  pub record Alike (x y : State) : Type 0 where
    pub seq : x.seq ≡ y.seq
    pub tables : AlikeTables x.seq x.tables y.tables
    pub saved : AllAlike x.saved y.saved

  pub record SameStep (p q : Step) : Type 0 where
    pub state : Alike p.0 q.0
    pub reply : p.1 ≡ q.1

  -- ---- a table statement

  pub record SameEffect (e f : Effect) : Type 0 where
    pub reply : e.reply ≡ f.reply
    pub seq : e.seq ≡ f.seq
    pub tables : AlikeTables e.seq e.tables f.tables

  pub effects : (n : ℕ) (T U : Tables) (stmt : Stmt) → creates stmt ≡ false → SameCatalog T U → AlikeTables n T U → AgreeFor T U (requests_of (defs_of T) false stmt) → SameEffect (effect T tx n stmt) (effect U tx n stmt)
  effects n T U stmt k same h a =
      let e : Effect = effect T tx n stmt in
      let f : Effect = effect U tx n stmt in
      let counter : e.seq ≡ f.seq = same_counter T U tx n stmt h.sound.ids a in
      let p : ChangeSet = change_set T stmt in
      let one : change_set T stmt ≡ change_set U stmt = same_change_set T U h.sound.ids stmt a in
      let first : changed_from tx n p.changes T ≡ e.tables = sym (tables_after T tx n stmt k) in
      let second : changed_from tx n p.changes U ≡ f.tables = ap (λ (q : ChangeSet). changed_from tx n q.changes U) one ∙ sym (tables_after U tx n stmt k) in
      record {
        reply = same_reply T U tx n stmt h.sound.ids a;
        seq = counter;
        tables = record {
          sound = kept_sound tx n T stmt k h.sound;
          sound_too = subst (λ (m : ℕ). Sound tx m f.tables) (sym counter) (kept_sound tx n U stmt k h.sound_too);
          agree = subst (λ (V : Tables). AllByRecursion (AgreeFor V f.tables) ws) first
              (subst (λ (V : Tables). AllByRecursion (AgreeFor (changed_from tx n p.changes T) V) ws) second
              (agree_after tx n p.changes T U same.definitions h.sound h.sound_too ws h.agree));
          defs = defs_after T tx n stmt k ∙ h.defs;
          mine = same_touched tx n e.seq T U stmt h.sound h.sound_too same.definitions h.mine (kept_sound tx n T stmt k h.sound) (subst (λ (m : ℕ). Sound tx m f.tables) (sym counter) (kept_sound tx n U stmt k h.sound_too)) (defs_after T tx n stmt k)
              (subst (λ (V : Tables). AgreeFor V f.tables (requests_of (defs_of T) false stmt)) first
              (subst (λ (V : Tables). AgreeFor (changed_from tx n p.changes T) V (requests_of (defs_of T) false stmt)) second
              (agree_after tx n p.changes T U same.definitions h.sound h.sound_too (requests_of (defs_of T) false stmt ∷ []) (a, tt)).0));
        };
      }

  changes_both : (x y : State) (stmt : Stmt) → creates stmt ≡ false → SameCatalog x.tables y.tables → Alike x y → AgreeFor x.tables y.tables (requests_of D false stmt)
      → SameStep (by_effect x (effect x.tables tx x.seq stmt)) (by_effect y (effect y.tables tx y.seq stmt))
  changes_both x y stmt k same h a =
      subst (λ (n : ℕ). SameStep (by_effect x (effect x.tables tx x.seq stmt)) (by_effect y (effect y.tables tx n stmt))) h.seq
      (let e : SameEffect (effect x.tables tx x.seq stmt) (effect y.tables tx x.seq stmt) = effects x.seq x.tables y.tables stmt k same h.tables (subst (λ (ds : Defs). AgreeFor x.tables y.tables (requests_of ds false stmt)) (sym h.tables.defs) a) in
      record { state = record { seq = e.seq; tables = e.tables; saved = h.saved }; reply = e.reply })

  -- ---- savepoints

  same_step : (x y : State) (reply : Reply) → Alike x y → SameStep (x, reply) (y, reply)
  same_step x y reply h = record { state = h; reply = refl }

  same_length : (cs ds : List Saved) → AllAlike cs ds → length cs ≡ length ds
  same_length [] [] h = refl
  same_length [] (d ∷ ds) h = absurd h
  same_length (c ∷ cs) [] h = absurd h
  same_length (c ∷ cs) (d ∷ ds) h = ap suc (same_length cs ds h.1)

  save_branch : (b : Bool) (x y : State) (name : List ℕ) → Alike x y
      → (let p : Step = if b then (with_copy x name, r.Saved) else (x, r.Refused LimitExceeded) in let q : Step = if b then (with_copy y name, r.Saved) else (y, r.Refused LimitExceeded) in SameStep p q)
  save_branch true x y name h = same_step _ _ _ (record { seq = h.seq; tables = h.tables; saved = (record { name = refl; seq = h.seq; tables = h.tables }, h.saved) })
  save_branch false x y name h = same_step x y _ h

  saves_both : (x y : State) (name : List ℕ) → Alike x y → SameStep (saves x name) (saves y name)
  unfolding saves
  saves_both x y name h =
      subst (λ (n : ℕ). let q : Step = if nat_lt n max_savepoints then (with_copy y name, r.Saved) else (y, r.Refused LimitExceeded) in SameStep (saves x name) q) (same_length x.saved y.saved h.saved)
      (save_branch (nat_lt (length x.saved) max_savepoints) x y name h)

  back_both : (name : List ℕ) (cs ds : List Saved) → AllAlike cs ds → AllAlike (back_to cs name) (back_to ds name)
  back_both name [] [] h = tt
  back_both name [] (d ∷ ds) h = absurd h
  back_both name (c ∷ cs) [] h = absurd h
  back_both name (c ∷ cs) (d ∷ ds) h =
      subst (λ (own : List ℕ). AllAlike (back_to (c ∷ cs) name) (if bytes_eq own name then d ∷ ds else back_to ds name)) h.0.name
      (here (bytes_eq c.name name) (back_both name cs ds h.1))
    where
      here : (b : Bool) → AllAlike (back_to cs name) (back_to ds name) → AllAlike (if b then c ∷ cs else back_to cs name) (if b then d ∷ ds else back_to ds name)
      here true k = h
      here false k = k

  gone_both : (x y : State) (cs ds : List Saved) → Alike x y → AllAlike cs ds → SameStep (rolled_back x cs) (rolled_back y ds)
  gone_both x y [] [] h k = same_step x y _ h
  gone_both x y [] (d ∷ ds) h k = absurd k
  gone_both x y (c ∷ cs) [] h k = absurd k
  gone_both x y (c ∷ cs) (d ∷ ds) h k = same_step (at_copy c cs) (at_copy d ds) _ (record { seq = k.0.seq; tables = k.0.tables; saved = k })

  -- ---- a text

  opened_both : (x y : State) (stmt : Stmt) → Alike x y → AgreeFor x.tables y.tables (requests_of D true stmt) → SameStep (in_transaction tx x stmt) (in_transaction tx y stmt)
  unfolding rolls_back_to
  opened_both x y (s.Create c) h a = same_step x y _ h
  opened_both x y (s.Index c) h a = same_step x y _ h
  opened_both x y (s.Alter altered) h a = same_step x y _ h
  opened_both x y (s.Drop name) h a = same_step x y _ h
  opened_both x y (s.Change stmt) h a = changes_both x y (s.Change stmt) refl a.catalog h (record { catalog = a.catalog; cell = a.cell })
  opened_both x y (s.Select q) h a = changes_both x y (s.Select q) refl a.catalog h (record { catalog = a.catalog; cell = a.cell })
  opened_both x y s.Begin h a = same_step x y _ h
  opened_both x y s.Commit h a = same_step x y _ h
  opened_both x y (s.Save name) h a = saves_both x y name h
  opened_both x y (s.Rollback (Some name)) h a = gone_both x y (back_to x.saved name) (back_to y.saved name) h (back_both name x.saved y.saved h.saved)
  opened_both x y (s.Rollback None) h a = same_step x y _ h
  opened_both x y s.Digest h a = same_step x y _ h
  opened_both x y s.Image h a = same_step x y _ h

  text_both : (x y : State) (o : Option Stmt) → Alike x y → AgreeFor x.tables y.tables (text_requests D true o) → SameStep (by_statement true tx x o) (by_statement true tx y o)
  text_both x y None h a = same_step x y _ h
  text_both x y (Some stmt) h a = opened_both x y stmt h a

  own_change_set : (x y : State) (stmt : Stmt) → Alike x y → AgreeFor x.tables y.tables (requests_of D false stmt) → change_set x.tables stmt ≡ change_set y.tables stmt
  own_change_set x y stmt h a = same_change_set x.tables y.tables h.tables.sound.ids stmt (subst (λ (ds : Defs). AgreeFor x.tables y.tables (requests_of ds false stmt)) (sym h.tables.defs) a)

  same_changes : (x y : State) (o : Option Stmt) → Alike x y → AgreeFor x.tables y.tables (text_requests D true o) → text_changes true x.tables o ≡ text_changes true y.tables o
  same_changes x y None h a = refl
  same_changes x y (Some (s.Create c)) h a = refl
  same_changes x y (Some (s.Index c)) h a = refl
  same_changes x y (Some (s.Alter altered)) h a = refl
  same_changes x y (Some (s.Drop name)) h a = refl
  same_changes x y (Some (s.Change stmt)) h a = ap (λ (p : ChangeSet). p.changes) (own_change_set x y (s.Change stmt) h (record { catalog = a.catalog; cell = a.cell }))
  same_changes x y (Some (s.Select q)) h a = ap (λ (p : ChangeSet). p.changes) (own_change_set x y (s.Select q) h (record { catalog = a.catalog; cell = a.cell }))
  same_changes x y (Some s.Begin) h a = refl
  same_changes x y (Some s.Commit) h a = refl
  same_changes x y (Some (s.Save name)) h a = refl
  same_changes x y (Some (s.Rollback name)) h a = refl
  same_changes x y (Some s.Digest) h a = refl
  same_changes x y (Some s.Image) h a = refl

  -- ---- a script

  pub record SameRun (x y : State) (changes : List TableChange) (texts : List (List ℕ)) : Type 0 where
    pub replies : (script_from reads true tx x texts).replies ≡ (script_from reads true tx y texts).replies
    pub state : Alike (script_from reads true tx x texts).state (script_from reads true tx y texts).state
    pub made : changes_from reads true tx x changes texts ≡ changes_from reads true tx y changes texts

  pub runs_both : (x y : State) (changes : List TableChange) (texts : List (List ℕ)) → Alike x y → AllByRecursion (λ t. Among (text_requests D true (reads t)) ws) texts → SameRun x y changes texts
  unfolding script_from text_step changes_from
  runs_both x y changes [] h a = record { replies = refl; state = h; made = refl }
  runs_both x y changes (t ∷ ts) h a =
      let w : AgreeFor x.tables y.tables (text_requests D true (reads t)) = among_all (AgreeFor x.tables y.tables) (text_requests D true (reads t)) ws h.tables.agree a.0 in
      let p : Step = text_step reads true tx x t in
      let q : Step = text_step reads true tx y t in
      let step : SameStep p q = text_both x y (reads t) h w in
      let made : List TableChange = take p.0.seq (changes ++ text_changes true x.tables (reads t)) in
      let rest : SameRun p.0 q.0 made ts = runs_both p.0 q.0 made ts step.state a.1 in
      record {
        replies = λ i. step.reply i ∷ rest.replies i;
        state = rest.state;
        made = rest.made ∙ ap (λ (cs : List TableChange). changes_from reads true tx q.0 cs ts)
            (ap (λ (n : ℕ). take n (changes ++ text_changes true x.tables (reads t))) step.state.seq
            ∙ ap (λ (cs : List TableChange). take q.0.seq (changes ++ cs)) (same_changes x y (reads t) h w));
      }

module _ (reads : Reading) (T U : Tables) (tx : ℕ) (texts : List (List ℕ)) (more : List LockRequests) (sound : Sound tx 0 T) (sound_too : Sound tx 0 U) where
  abbrev all_requests : List LockRequests
  all_requests = more ++ script_requests reads (defs_of T) true texts

  pub one_run : AllByRecursion (AgreeFor T U) all_requests → SameRun reads tx (defs_of T) all_requests (start T) (start U) [] texts
  one_run h = runs_both reads tx (defs_of T) all_requests (start T) (start U) [] texts
      (record { seq = refl; tables = record { sound = sound; sound_too = sound_too; agree = h; defs = refl; mine = λ id. untouched_at tx T id sound ∙ sym (untouched_at tx U id sound_too) }; saved = tt })
      (each_among (λ t. text_requests (defs_of T) true (reads t)) all_requests texts (λ w a. among_later w more (script_requests reads (defs_of T) true texts) a))

  pub same_replies : AllByRecursion (AgreeFor T U) all_requests → (script reads true T tx texts).replies ≡ (script reads true U tx texts).replies
  same_replies h = (one_run h).replies

  pub same_end : AllByRecursion (AgreeFor T U) all_requests → (script reads true T tx texts).state.seq ≡ (script reads true U tx texts).state.seq
  same_end h = (one_run h).state.seq

  pub same_script_changes : AllByRecursion (AgreeFor T U) all_requests → script_changes reads true T tx texts ≡ script_changes reads true U tx texts
  same_script_changes h = (one_run h).made

  pub still_agree : AllByRecursion (AgreeFor T U) all_requests → AllByRecursion (AgreeFor (script reads true T tx texts).state.tables (script reads true U tx texts).state.tables) all_requests
  still_agree h = (one_run h).state.tables.agree
