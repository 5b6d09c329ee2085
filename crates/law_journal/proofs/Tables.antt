-- What each change keeps of all tables.
use Rattle.std.proofs.Common.{◌≡◌, ◌≢◌, ◌≤◌, ◌<◌, ℕ, ◌+◌, inl, inr, Bool, true, false, cond, List, [], ◌∷◌, ◌++◌, length, refl, arith, sym, ◌∙◌, ap, subst, nat_lt}
use Rattle.std.specs.Prelude.{◌==◌}
use Rattle.std.specs.List.{AllByRecursion}
use Rattle.std.proofs.lemmas.Bool.{eqb-true, eq-eqb, ne_eqb}
use Rattle.std.proofs.lemmas.Bool.Decides.{nat_tests}
use Rattle.std.proofs.lemmas.List.Sums.{sum_by-cons}
use Rattle.sql_types.specs.declared.version.Table.{Table}
use Rattle.sql_types.specs.declared.version.Version.{Version}
use Rattle.spec_model.specs.Rows.{EventId}
use Rattle.spec_model.specs.Changes.{Change, changed}
use Rattle.spec_model.specs.Catalog.{Tables, defs_of, with_versions, changed_table}
use Rattle.spec_model.specs.ChangeSets.{TableChange, changed_in, changed_from}
use Rattle.spec_model.specs.Agreement.{IdsFrom}
use Rattle.law_frame.proofs.Alls.{all_weaker}
use Rattle.law_frame.proofs.Sounds.{sound_changed}
use Rattle.law_journal.specs.Fine.{IsFine, OfTable, IsFineIn, AllFine}
use Rattle.law_journal.specs.Kept.{is_it, count, count_all, IsNumbered, IsPast, KeptTable, Kept}
use Rattle.law_journal.proofs.Counts.{count_changed}
use Rattle.law_journal.proofs.Order.{past_next, past_changed, apart_changed, fit_changed}

-- ---- the table with an id

-- all tables, with it in its place
pub record Split (id : ℕ) (P : Table → Type 0) (T : Tables) : Type 0 where
  pub front : Tables
  pub table : Table
  pub back : Tables
  pub is : T ≡ front ++ table ∷ back
  pub named : table.def.id ≡ id
  pub holds : P table
  pub changed_ : (f : List Version → List Version) → changed_table id f T ≡ front ++ with_versions f table ∷ back

untouched : (n id : ℕ) (f : List Version → List Version) (T : Tables) → IdsFrom n (defs_of T) → id < n → changed_table id f T ≡ T
untouched n id f [] ids lt = refl
untouched n id f (t ∷ ts) ids lt = rw (ne_eqb t.def.id id (λ e. absurd (omega (arith, e, ids.0, lt))), untouched (n + 1) id f ts ids.1 (omega (arith, lt))) refl

pub record SplitFrom (n id : ℕ) (P : Table → Type 0) (T : Tables) : Type 0 where
  pub from : n ≤ id
  pub split : Split id P T

pub split_from : (n id : ℕ) (P : Table → Type 0) (T : Tables) → IdsFrom n (defs_of T) → OfTable id P T → SplitFrom n id P T
split_from n id P [] ids o = absurd o
split_from n id P (t ∷ ts) ids o = elim o [
  | inl p ↦ record {
    from = omega (arith, ids.0, p.0);
    split = record {
      front = [];
      table = t;
      back = ts;
      is = refl;
      named = p.0;
      holds = p.1;
      changed_ = λ f. rw (eq-eqb t.def.id id p.0, untouched (n + 1) id f ts ids.1 (omega (arith, ids.0, p.0))) refl;
    };
  }
  | inr q ↦ (
      let r : SplitFrom (n + 1) id P ts = split_from (n + 1) id P ts ids.1 q in
      record {
        from = omega (arith, r.from);
        split = record {
          front = t ∷ r.split.front;
          table = r.split.table;
          back = r.split.back;
          is = ap (λ (xs : Tables). t ∷ xs) r.split.is;
          named = r.split.named;
          holds = r.split.holds;
          changed_ = λ f. rw (ne_eqb t.def.id id (λ e. absurd (omega (arith, e, ids.0, r.from))), r.split.changed_ f) refl;
        };
      })
]

pub all_replaced : (P Q : Table → Type 0) (A : Tables) (t u : Table) (B : Tables) → ((x : Table) → P x → Q x) → (P t → Q u) → AllByRecursion P (A ++ t ∷ B) → AllByRecursion Q (A ++ u ∷ B)
all_replaced P Q [] t u B f g h = (g h.0, all_weaker P Q f B h.1)
all_replaced P Q (x ∷ A) t u B f g h = (f x h.0, all_replaced P Q A t u B f g h.1)

abbrev pub table_count : EventId → Table → ℕ
table_count a t = count a t.versions

count_moved : (a : EventId) (k : ℕ) (A : Tables) (t u : Table) (B : Tables) → table_count a u ≡ k + table_count a t → count_all a (A ++ u ∷ B) ≡ k + count_all a (A ++ t ∷ B)
count_moved a k [] t u B e = let p = sum_by-cons (table_count a) u B in let q = sum_by-cons (table_count a) t B in omega (arith, p, q, e)
count_moved a k (x ∷ A) t u B e =
    let p = sum_by-cons (table_count a) x (A ++ u ∷ B) in
    let q = sum_by-cons (table_count a) x (A ++ t ∷ B) in
    let r = count_moved a k A t u B e in
    omega (arith, p, q, r)

count_part : (a : EventId) (A : Tables) (t : Table) (B : Tables) → table_count a t ≤ count_all a (A ++ t ∷ B)
count_part a [] t B = let q = sum_by-cons (table_count a) t B in omega (arith, q)
count_part a (x ∷ A) t B = let q = sum_by-cons (table_count a) x (A ++ t ∷ B) in let r = count_part a A t B in omega (arith, q, r)

-- ---- numbers

one_or_none : (b : Bool) → (let n : ℕ = cond b 1 0 in n ≤ 1)
one_or_none true = omega arith
one_or_none false = omega arith

one_more : (s n : ℕ) → cond (s == n) 1 0 + cond (nat_lt n s) 1 0 ≡ cond (nat_lt n (s + 1)) 1 0
one_more s n = grind (arith, nat_tests)

own_number : (tx seq n : ℕ) → is_it (tx, n) (tx, seq) ≡ cond (seq == n) 1 0
own_number tx seq n = rw (eq-eqb tx tx refl) refl

elsewhere : (tx seq id n : ℕ) → id ≢ tx → is_it (id, n) (tx, seq) ≡ 0
elsewhere tx seq id n ne = rw (ne_eqb tx id (λ e. ne (sym e))) refl

module _ (place : ℕ → ℕ) (tx seq : ℕ) where
  pub once : (T : Tables) → Kept place tx seq T → (a : EventId) → count_all a T ≤ 1
  once T k a =
      let h : count_all (a.0, a.1) T ≡ cond (nat_lt a.1 (k.others a.0).0) 1 0 = (k.others a.0).1 a.1 in
      let l = one_or_none (nat_lt a.1 (k.others a.0).0) in
      omega (arith, h, l)

  later_table : (t : Table) → KeptTable place (tx, seq) t → KeptTable place (tx, seq + 1) t
  later_table t k = record { past = all_weaker (IsPast place (tx, seq)) (IsPast place (tx, seq + 1)) (past_next place tx seq) t.versions k.past; apart = k.apart; fit = k.fit }

  table_changed : (c : Change) (t : Table) → ((a : EventId) → count a t.versions ≤ 1) → IsFine t.def.columns c t.versions → KeptTable place (tx, seq) t → KeptTable place (tx, seq + 1) (with_versions (changed (tx, seq) c) t)
  table_changed c t few fine k = record {
    past = past_changed place t.def.columns tx seq c t.versions few k.past fine;
    apart = apart_changed place t.def.columns tx seq c t.versions few k.past fine k.apart;
    fit = fit_changed place t.def.columns tx seq c t.versions few fine k.fit;
  }

  -- one event more, and it is now
  pub counted : (c : TableChange) (T : Tables) → Kept place tx seq T → IsFineIn c T → (a : EventId) → count_all a (changed_in (tx, seq) c T) ≡ is_it a (tx, seq) + count_all a T
  counted c T k fine a =
      let s : Split c.0 (λ t. IsFine t.def.columns c.1 t.versions) T = (split_from 1 c.0 (λ t. IsFine t.def.columns c.1 t.versions) T k.sound.ids fine).split in
      let few : (b : EventId) → count b s.table.versions ≤ 1 = λ b. (let o = once T k b in let e : count_all b T ≡ count_all b (s.front ++ s.table ∷ s.back) = ap (count_all b) s.is in let p = count_part b s.front s.table s.back in omega (arith, o, e, p)) in
      ap (count_all a) (s.changed_ (changed (tx, seq) c.1))
      ∙ count_moved a (is_it a (tx, seq)) s.front s.table (with_versions (changed (tx, seq) c.1) s.table) s.back (count_changed s.table.def.columns a (tx, seq) c.1 s.table.versions few s.holds)
      ∙ ap (λ (U : Tables). is_it a (tx, seq) + count_all a U) (sym s.is)

  numbered_other : (c : TableChange) (T : Tables) → Kept place tx seq T → IsFineIn c T → (id : ℕ) → id ≢ tx → (k : ℕ) → IsNumbered id k T → IsNumbered id k (changed_in (tx, seq) c T)
  numbered_other c T k fine id ne m h n = let e = counted c T k fine (id, n) in let z = elsewhere tx seq id n ne in let p = h n in omega (arith, e, z, p)

  numbered_own : (c : TableChange) (T : Tables) → Kept place tx seq T → IsFineIn c T → IsNumbered tx (seq + 1) (changed_in (tx, seq) c T)
  numbered_own c T k fine n = let e = counted c T k fine (tx, n) in let z = own_number tx seq n in let p = k.own n in let q = one_more seq n in omega (arith, e, z, p, q)

  numbered_each : (c : TableChange) (T : Tables) → Kept place tx seq T → IsFineIn c T → (id : ℕ) (b : Bool) → (id == tx) ≡ b → (m : ℕ) × IsNumbered id m (changed_in (tx, seq) c T)
  numbered_each c T k fine id true e = (seq + 1, subst (λ (i : ℕ). IsNumbered i (seq + 1) (changed_in (tx, seq) c T)) (sym (eqb-true id tx e)) (numbered_own c T k fine))
  numbered_each c T k fine id false e = ((k.others id).0, numbered_other c T k fine id (λ same. (let t : (id == tx) ≡ true = eq-eqb id tx same in cc)) (k.others id).0 (k.others id).1)

  pub kept_changed : (c : TableChange) (T : Tables) → Kept place tx seq T → IsFineIn c T → Kept place tx (seq + 1) (changed_in (tx, seq) c T)
  kept_changed c T k fine =
      let s : Split c.0 (λ t. IsFine t.def.columns c.1 t.versions) T = (split_from 1 c.0 (λ t. IsFine t.def.columns c.1 t.versions) T k.sound.ids fine).split in
      let few : (b : EventId) → count b s.table.versions ≤ 1 = λ b. (let o = once T k b in let e : count_all b T ≡ count_all b (s.front ++ s.table ∷ s.back) = ap (count_all b) s.is in let p = count_part b s.front s.table s.back in omega (arith, o, e, p)) in
      record {
        sound = sound_changed tx seq c T k.sound;
        own = numbered_own c T k fine;
        others = λ id. numbered_each c T k fine id (id == tx) refl;
        each = subst (λ (U : Tables). AllByRecursion (KeptTable place (tx, seq + 1)) U) (sym (s.changed_ (changed (tx, seq) c.1)))
            (all_replaced (KeptTable place (tx, seq)) (KeptTable place (tx, seq + 1)) s.front s.table (with_versions (changed (tx, seq) c.1) s.table) s.back later_table (table_changed c.1 s.table few s.holds)
            (subst (λ (U : Tables). AllByRecursion (KeptTable place (tx, seq)) U) s.is k.each));
      }

-- and so do changes that are fine, one after another
pub kept_all : (place : ℕ → ℕ) (tx seq : ℕ) (cs : List TableChange) (T : Tables) → Kept place tx seq T → AllFine tx seq cs T → Kept place tx (seq + length cs) (changed_from tx seq cs T)
kept_all place tx seq [] T k fine = subst (λ (n : ℕ). Kept place tx n T) (omega arith) k
kept_all place tx seq (c ∷ cs) T k fine =
    subst (λ (n : ℕ). Kept place tx n (changed_from tx (seq + 1) cs (changed_in (tx, seq) c T))) (omega arith)
    (kept_all place tx (seq + 1) cs (changed_in (tx, seq) c T) (kept_changed place tx seq c T k fine.0) fine.1)
