-- All ids are assigned, one after another.
use Rattle.std.proofs.Common.{◌≡◌, ◌≢◌, ℕ, zero, suc, ◌+◌, ◌<◌, ◌≤◌, Bool, true, false, List, [], ◌∷◌, ◌++◌, map, Option, Some, None, refl, sym, ap, ◌∙◌, subst, ⊎_elim, arith}
use Rattle.std.proofs.lemmas.Bool.{cases_lt, cases_eq}
use Rattle.sql_types.specs.declared.journal.JournalItem.{JournalItem}
use Rattle.spec_model.specs.Catalog.{Tables}
use Rattle.spec_model.specs.Journals.{Line}
use Rattle.spec_history.specs.Lists.{Text}
use Rattle.spec_history.specs.Meaning.{Meaning}
use Rattle.spec_history.specs.Transcripts.{begin, kind_of}
use Rattle.spec_history.specs.Acts.{SessionAct, by, of}
use Rattle.spec_history.specs.Sessions.{gone, SessionState, fresh}
use Rattle.spec_history.specs.Worlds.{World, first, run}
use Rattle.spec_history.specs.Guards.{NoTable}
use Rattle.spec_history.proofs.Cuts.{of_append}
use Rattle.law_retold.specs.Retold.{Words, ToldTx, tx_with, opens, opens_tx, opening, name_told}
use Rattle.law_retold.proofs.Begins.{acted_all, begins_may, begins_own_may, gives_up_may}
use Rattle.law_retold.proofs.Goes.{Goes, goes_on, not_of}
use Rattle.law_retold.proofs.OneSession.{MayAll, CameTo, comes}

-- a session once its id is assigned, and what is given up is over
abbrev pub opened : Words → ℕ → Option ToldTx → SessionState
opened c id t = acted_all fresh (opens c id t)

-- it is over, and has no transaction
abbrev pub IsDone : SessionState → Type 0
IsDone x = (x.phase ≡ gone) × (x.transaction ≡ None)

-- so it is if its transaction isn't in the journal
abbrev pub OverIfNone : Option ToldTx → SessionState → Type 0
OverIfNone None x = IsDone x
OverIfNone (Some t) x = Unit {0}

pub over_if_none : (c : Words) (id : ℕ) (t : Option ToldTx) → OverIfNone t (opened c id t)
over_if_none c id None = (refl, refl)
over_if_none c id (Some t) = tt

tx_named : (c : Words) (id : ℕ) (name : Text) (explicit : Bool) (lines : List Line) → (acted_all fresh (opens_tx c id name explicit lines)).name ≡ name
tx_named c id name true lines = refl
tx_named c id name false lines = refl

pub opened_name : (c : Words) (id : ℕ) (t : Option ToldTx) → (opened c id t).name ≡ name_told c t
opened_name c id None = refl
opened_name c id (Some t) = tx_named c id t.name t.explicit t.lines

-- so it is of each number below n
pub record Below (c : Words) (J : List JournalItem) (q : Meaning) (n : ℕ) (w : World) : Type 0 where
  pub items : w.items ≡ []
  pub next : w.next ≡ suc n
  pub issued : w.issued ≡ []
  pub below : (t : ℕ) → t < n → w.at t ≡ opened c (suc t) (tx_with (suc t) J)
  pub others : (t : ℕ) → n ≤ t → w.at t ≡ fresh
  pub free : (t : ℕ) → NoTable q (w.at t).transaction

module _ (q : Meaning) (db : Text) (c : Words) (J : List JournalItem) (is_begin : kind_of (q.reads c.begin_text) ≡ begin) (no_replies : (T : Tables) (id : ℕ) → q.replies true T id [] ≡ []) where
  -- the next id is assigned, and the session is as it is then
  pub record IsOpened (id : ℕ) (t : Option ToldTx) (K : List JournalItem) (m : ℕ) (x : SessionState) : Type 0 where
    pub items : K ≡ []
    pub next : m ≡ suc id
    pub is : x ≡ opened c id t

  tx_may : (id : ℕ) (name : Text) (explicit : Bool) (lines : List Line) (P : List JournalItem → ℕ → SessionState → Type 0)
      → P [] (suc id) (acted_all fresh (opens_tx c id name explicit lines)) → MayAll q P [] id fresh (opens_tx c id name explicit lines)
  tx_may id name true lines P h = begins_may q c is_begin id name P h
  tx_may id name false [] P h = begins_own_may q id name [] P h
  tx_may id name false (l ∷ ls) P h = begins_own_may q id name l.0 P h

  opens_may : (id : ℕ) (t : Option ToldTx) → MayAll q (IsOpened id t) [] id fresh (opens c id t)
  opens_may id None = gives_up_may q c is_begin id (λ T. no_replies T id) (IsOpened id None) (record { items = refl; next = refl; is = refl })
  opens_may id (Some t) = tx_may id t.name t.explicit t.lines (IsOpened id (Some t)) (record { items = refl; next = refl; is = refl })

  tx_free : (id : ℕ) (name : Text) (explicit : Bool) (lines : List Line) → NoTable q (acted_all fresh (opens_tx c id name explicit lines)).transaction
  tx_free id name true lines = λ e. tt
  tx_free id name false lines = λ e. tt

  opened_free : (id : ℕ) (t : Option ToldTx) → NoTable q (opened c id t).transaction
  opened_free id None = tt
  opened_free id (Some t) = tx_free id t.name t.explicit t.lines

  -- ---- one of them

  module _ (n : ℕ) (w : World) (b : Below c J q n w) where
    abbrev t : Option ToldTx
    t = tx_with (suc n) J

    abbrev acts : List SessionAct
    acts = opens c (suc n) t

    abbrev v : World
    v = run w (map (by n) acts)

    may : MayAll q (IsOpened (suc n) t) w.items w.next (w.at n) acts
    may = subst (λ (x : SessionState). MayAll q (IsOpened (suc n) t) w.items w.next x acts) (sym (b.others n (omega arith)))
        (subst (λ (m : ℕ). MayAll q (IsOpened (suc n) t) w.items m fresh acts) (sym b.next)
        (subst (λ (K : List JournalItem). MayAll q (IsOpened (suc n) t) K (suc n) fresh acts) (sym b.items) (opens_may (suc n) t)))

    came : CameTo q db w n acts (IsOpened (suc n) t)
    came = comes q db w n acts (IsOpened (suc n) t) (λ u ne. b.free u) may

    below_then : (u : ℕ) → u < suc n → v.at u ≡ opened c (suc u) (tx_with (suc u) J)
    below_then u l = ⊎_elim
        (λ (e : u ≡ n). subst (λ (k : ℕ). v.at k ≡ opened c (suc k) (tx_with (suc k) J)) (sym e) came.holds.is)
        (λ (ne : u ≢ n). came.others u ne ∙ b.below u (below_n ne)) (cases_eq u n)
      where
        below_n : u ≢ n → u < n
        below_n ne = ⊎_elim (λ (k : u < n). k) (λ k. absurd (ne (omega (arith, k, l)))) (cases_lt u n)

    others_then : (u : ℕ) → suc n ≤ u → v.at u ≡ fresh
    others_then u l = came.others u (λ e. omega (arith, e, l)) ∙ b.others u (omega (arith, l))

    free_then : (u : ℕ) → NoTable q (v.at u).transaction
    free_then u = ⊎_elim
        (λ (e : u ≡ n). subst (λ (k : ℕ). NoTable q (v.at k).transaction) (sym e) (subst (λ (x : SessionState). NoTable q x.transaction) (sym came.holds.is) (opened_free (suc n) t)))
        (λ (ne : u ≢ n). subst (λ (x : SessionState). NoTable q x.transaction) (sym (came.others u ne)) (b.free u)) (cases_eq u n)

    pub one_opens : Goes q db w (map (by n) acts) (Below c J q (suc n))
    one_opens = record {
      good = came.good;
      leads = record {
        items = came.holds.items;
        next = came.holds.next;
        issued = came.issued ∙ b.issued;
        below = below_then;
        others = others_then;
        free = free_then;
      };
      keep = came.keep;
    }

  -- ---- all of them

  pub all_open : (n k : ℕ) (w : World) → Below c J q n w → Goes q db w (opening c J n k) (Below c J q (n + k))
  all_open n zero w b = record { good = tt; leads = subst (λ (m : ℕ). Below c J q m w) (omega arith) b; keep = λ t. tt }
  all_open n (suc k) w b = goes_on q db w (map (by n) (opens c (suc n) (tx_with (suc n) J))) (opening c J (suc n) k) (Below c J q (suc n)) (Below c J q (n + suc k)) (one_opens n w b)
      (λ v d. subst (λ (m : ℕ). Goes q db v (opening c J (suc n) k) (Below c J q m)) (omega arith) (all_open (suc n) k v d))

pub first_below : (c : Words) (J : List JournalItem) (q : Meaning) → Below c J q 0 first
first_below c J q = record { items = refl; next = refl; issued = refl; below = λ t l. absurd (omega arith); others = λ t l. refl; free = λ t. tt }

-- nobody else does anything
pub opening_of : (c : Words) (J : List JournalItem) (n k t : ℕ) → n + k ≤ t → of t (opening c J n k) ≡ []
opening_of c J n zero t l = refl
opening_of c J n (suc k) t l = of_append t (map (by n) (opens c (suc n) (tx_with (suc n) J))) (opening c J (suc n) k)
    ∙ ap (λ (xs : List SessionAct). xs ++ of t (opening c J (suc n) k)) (not_of n t (opens c (suc n) (tx_with (suc n) J)) (λ e. omega (arith, e, l)))
    ∙ opening_of c J (suc n) k t (omega (arith, l))
