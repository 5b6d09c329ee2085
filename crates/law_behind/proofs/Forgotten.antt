-- What may happen may happen without the sessions that are over.
use Rattle.std.proofs.Common.{◌≡◌, ◌≢◌, ℕ, ◌+◌, ◌-◌, ◌<◌, ◌≤◌, Bool, true, false, List, [], ◌∷◌, ◌++◌, Some, None, sym, ap, ◌∙◌, subst, ⊎_elim, inl, inr, arith}
use Rattle.std.specs.Prelude.{◌==◌, if◌then◌else◌}
use Rattle.std.proofs.lemmas.Bool.{cases_lt, cases_eq, eq-eqb, ne_eqb}
use Rattle.sql_types.specs.declared.journal.JournalItem.{JournalItem}
use Rattle.sql_types.specs.declared.journal.JournalItem.TheVariants.{Close}
use Rattle.spec_model.specs.Journals.{tx_count, closed}
use Rattle.spec_history.specs.Lists.{Text, Each}
use Rattle.spec_history.specs.Digests.{Digest}
use Rattle.spec_history.specs.Meaning.{Meaning}
use Rattle.spec_history.specs.Acts.{SessionAct, starts, takes, assigns_id, looks, says, fails, meets, commits, ends, releases_locks, issues, keeps, lacks, answers, stops, Act, by, closes}
use Rattle.spec_history.specs.Sessions.{unborn, runs, gone, SessionTransaction, SessionState, acted}
use Rattle.spec_history.specs.Worlds.{World, items_by, ids_by, issued_by, step, run}
use Rattle.spec_history.specs.Guards.{HasOpenTransaction, OnlyOne, IsStatement, Answers, AtRest, NoTable, ReleasesLocks, Meets, IsEnabledFor, Good}
use Rattle.law_behind.specs.Forgotten.{without, IsWithout}

-- the same journal, ids and digests, with these sessions
abbrev with_sessions : World → (ℕ → SessionState) → World
with_sessions w f = record { items = w.items; next = w.next; issued = w.issued; at = f }

if_same : {A : Type 0} (b c : Bool) (x y u v : A) → b ≡ c → x ≡ u → y ≡ v → (if b then x else y) ≡ (if c then u else v)
if_same true true x y u v e f g = f
if_same true false x y u v e f g = absurd cc
if_same false true x y u v e f g = absurd cc
if_same false false x y u v e f g = g

module _ (q : Meaning) (db : Text) (count : ℕ) where
  -- who is over does nothing
  still_runs : (w : World) (s : ℕ) (a : SessionAct) → IsEnabledFor q db w s a → (w.at s).phase ≢ gone
  still_runs w s (starts name) g e = let f : (w.at s).phase ≡ unborn = ap (λ (x : SessionState). x.phase) g in let h : unborn ≡ gone = sym f ∙ e in cc
  still_runs w s (takes text) g e = let h : runs ≡ gone = sym g.0 ∙ e in cc
  still_runs w s (assigns_id id explicit) g e = let h : runs ≡ gone = sym g.0 ∙ e in cc
  still_runs w s (looks text table) g e = let h : runs ≡ gone = sym g.1.runs ∙ e in cc
  still_runs w s (says line) g e = let h : runs ≡ gone = sym g.1.runs ∙ e in cc
  still_runs w s (fails text) g e = let h : runs ≡ gone = sym g.1.runs ∙ e in cc
  still_runs w s (meets text holder) g e = let h : runs ≡ gone = sym g.stands.runs ∙ e in cc
  still_runs w s (commits time place) g e = let h : runs ≡ gone = sym g.stands.runs ∙ e in cc
  still_runs w s (ends n back) g e = let h : runs ≡ gone = sym g.stands.runs ∙ e in cc
  still_runs w s releases_locks g e = let h : runs ≡ gone = sym g.running ∙ e in cc
  still_runs w s (issues d mark) g e = let h : runs ≡ gone = sym g.running ∙ e in cc
  still_runs w s (keeps items mark) g e = let h : runs ≡ gone = sym g.0 ∙ e in cc
  still_runs w s lacks g e = let h : runs ≡ gone = sym g.0 ∙ e in cc
  still_runs w s (answers entry) g e = let h : runs ≡ gone = sym g.running ∙ e in cc
  still_runs w s stops g e = let h : runs ≡ gone = sym g.0 ∙ e in cc

  -- ---- one act, over sessions with other numbers

  module _ (w : World) (f : ℕ → SessionState) (at : (n : ℕ) → f n ≡ w.at (count + n)) (free : (n : ℕ) → n < count → (w.at n).transaction ≡ None) (s n : ℕ) (number : s ≡ count + n) where
    same : f n ≡ w.at s
    same = at n ∙ ap w.at (sym number)

    as_before : (P : SessionState → Type 0) → P (w.at s) → P (f n)
    as_before P p = subst P (sym same) p

    -- who has a transaction isn't among the first
    has_number : (t : ℕ) (d : SessionTransaction) → (w.at t).transaction ≡ Some d → count ≤ t
    has_number t d has = ⊎_elim (λ (l : t < count). absurd (let z : None ≡ Some d = sym (free t l) ∙ has in cc)) (λ l. omega (arith, l)) (cases_lt t count)

    other_at : (t : ℕ) → count ≤ t → f (t - count) ≡ w.at t
    other_at t l = at (t - count) ∙ ap w.at (let e : count + (t - count) ≡ t = omega (arith, l) in e)

    meets_so : (text : Text) (holder : ℕ) → Meets q w s text holder → Meets q (with_sessions w f) n text holder
    meets_so text holder g = let l = has_number g.other g.theirs g.has in record {
      mine = g.mine;
      stands = as_before (λ x. HasOpenTransaction x g.mine) g.stands;
      other = g.other - count;
      differs = λ e. g.differs (let k : g.other ≡ s = omega (arith, e, l, number) in k);
      theirs = g.theirs;
      has = ap (λ (x : SessionState). x.transaction) (other_at g.other l) ∙ g.has;
      is = g.is;
      clash = g.clash;
    }

    none_asked : (t : ℕ) → t ≢ n → ((u : ℕ) → u ≢ s → NoTable q (w.at u).transaction) → NoTable q (f t).transaction
    none_asked t ne h = subst (λ (x : SessionState). NoTable q x.transaction) (sym (at t)) (h (count + t) (λ e. ne (let k : t ≡ n = omega (arith, e, number) in k)))

    pub enabled_so : (a : SessionAct) → IsEnabledFor q db w s a → IsEnabledFor q db (with_sessions w f) n a
    enabled_so (starts name) g = same ∙ g
    enabled_so (takes text) g = as_before (λ x. (x.phase ≡ runs) × (x.so_far.under ≡ None) × (x.so_far.pending ≡ []) × Each IsStatement x.so_far.entries) g
    enabled_so (assigns_id id explicit) g = as_before (λ x. (x.phase ≡ runs) × (x.transaction ≡ None) × (id ≡ w.next)) g
    enabled_so (looks text table) g = as_before (λ x. (d : SessionTransaction) × HasOpenTransaction x d × OnlyOne d text) g
    enabled_so (says line) g = as_before (λ x. (d : SessionTransaction) × HasOpenTransaction x d × OnlyOne d line.0) g
    enabled_so (fails text) g = as_before (λ x. (d : SessionTransaction) × HasOpenTransaction x d) g
    enabled_so (meets text holder) g = meets_so text holder g
    enabled_so (commits time place) g = record {
      mine = g.mine;
      stands = as_before (λ x. HasOpenTransaction x g.mine) g.stands;
      agrees = g.agrees;
      last = g.last;
      others = ⊎_elim (λ e. inl e) (λ h. inr (λ t ne. none_asked t ne h)) g.others;
    }
    enabled_so (ends k back) g = record {
      mine = g.mine;
      stands = as_before (λ x. HasOpenTransaction x g.mine) g.stands;
      replies = g.replies;
      quiet = g.quiet;
      last = g.last;
    }
    enabled_so releases_locks g = as_before (ReleasesLocks q) g
    enabled_so (issues d mark) g = record {
      running = as_before (λ x. x.phase ≡ runs) g.running;
      last = g.last;
      all = g.all;
      is = g.is;
      counts = g.counts;
    }
    enabled_so (keeps items mark) g = (as_before (λ x. x.phase ≡ runs) g.0, g.1, g.2)
    enabled_so lacks g = (as_before (λ x. x.phase ≡ runs) g.0, g.1)
    enabled_so (answers entry) g = as_before (λ x. Answers q x entry) g
    enabled_so stops g = as_before (λ x. (x.phase ≡ runs) × AtRest x) g

  -- ---- the world behind it

  module _ (w v : World) (z : IsWithout count w v) (s : ℕ) (a : SessionAct) (g : IsEnabledFor q db w s a) where
    pub among_others : count ≤ s
    among_others = ⊎_elim (λ (l : s < count). absurd (still_runs w s a g (z.over s l))) (λ l. omega (arith, l)) (cases_lt s count)

    number_is : s ≡ count + (s - count)
    number_is = let l = among_others in omega (arith, l)

    pub its : v.at (s - count) ≡ w.at s
    its = z.at (s - count) ∙ ap w.at (sym number_is)

    -- the same may happen
    one_enabled : IsEnabledFor q db v (s - count) a
    one_enabled = subst (λ (J : List JournalItem). IsEnabledFor q db (record { items = J; next = v.next; issued = v.issued; at = v.at }) (s - count) a) (sym z.items)
        (subst (λ (k : ℕ). IsEnabledFor q db (record { items = w.items; next = k; issued = v.issued; at = v.at }) (s - count) a) (sym z.next)
        (subst (λ (G : List Digest). IsEnabledFor q db (record { items = w.items; next = w.next; issued = G; at = v.at }) (s - count) a) (sym z.issued)
        (enabled_so w v.at z.at z.free s (s - count) number_is a g)))

    same_place : (m : ℕ) → (m == (s - count)) ≡ ((count + m) == s)
    same_place m = ⊎_elim
        (λ (e : m ≡ s - count). eq-eqb m (s - count) e ∙ sym (eq-eqb (count + m) s (let k : count + m ≡ s = (let l = number_is in omega (arith, e, l)) in k)))
        (λ (ne : m ≢ s - count). ne_eqb m (s - count) ne ∙ sym (ne_eqb (count + m) s (λ e. ne (let k : m ≡ s - count = omega (arith, e) in k))))
        (cases_eq m (s - count))

    at_then : (m : ℕ) → (step v (by (s - count) a)).at m ≡ (step w (by s a)).at (count + m)
    at_then m = if_same (m == (s - count)) ((count + m) == s) (acted (v.at (s - count)) a) (v.at m) (acted (w.at s) a) (w.at (count + m)) (same_place m) (ap (λ (x : SessionState). acted x a) its) (z.at m)

    -- of the first sessions nothing changes
    stays : (m : ℕ) → m < count → (step w (by s a)).at m ≡ w.at m
    stays m l = ap (λ (b : Bool). if b then acted (w.at s) a else w.at m) (ne_eqb m s (λ e. let k = among_others in omega (arith, e, l, k)))

    pub without_then : IsWithout count (step w (by s a)) (step v (by (s - count) a))
    without_then = record {
      items = λ i. z.items i ++ items_by (its i) a;
      next = λ i. z.next i + ids_by a;
      issued = λ i. z.issued i ++ issued_by a;
      at = at_then;
      over = λ m l. ap (λ (x : SessionState). x.phase) (stays m l) ∙ z.over m l;
      free = λ m l. ap (λ (x : SessionState). x.transaction) (stays m l) ∙ z.free m l;
    }

  pub closed_then : (w v : World) (k : ℕ) → IsWithout count w v → IsWithout count (step w (closes k)) (step v (closes k))
  closed_then w v k z = record {
    items = λ i. z.items i ++ Close k ∷ [];
    next = z.next;
    issued = z.issued;
    at = z.at;
    over = z.over;
    free = z.free;
  }

  pub forgotten : (es : List Act) (w v : World) → IsWithout count w v → Good q db w es → Good q db v (without count es) × IsWithout count (run w es) (run v (without count es))
  forgotten [] w v z g = (tt, z)
  forgotten (by s a ∷ es) w v z g =
      let rest = forgotten es (step w (by s a)) (step v (by (s - count) a)) (without_then w v z s a g.0) g.1 in
      ((one_enabled w v z s a g.0, rest.0), rest.1)
  forgotten (closes k ∷ es) w v z g =
      let rest = forgotten es (step w (closes k)) (step v (closes k)) (closed_then w v k z) g.1 in
      let most : closed v.items + k ≤ tx_count v.items = subst (λ (J : List JournalItem). closed J + k ≤ tx_count J) (sym z.items) g.0.2 in
      (((g.0.0, g.0.1, most), rest.0), rest.1)
