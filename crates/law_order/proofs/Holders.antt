-- E20 names a transaction that is open then in another session.
use Rattle.std.proofs.Common.{◌≡◌, ◌≢◌, ℕ, ◌<◌, ◌≤◌, List, [], ◌∷◌, ◌++◌, length, Option, Some, refl, sym, ap, ◌∙◌, subst, ⊎_elim, arith}
use Rattle.spec_history.specs.Acts.{SessionAct, meets, Act, by, closes, of, shown, all_shown}
use Rattle.spec_history.specs.Facts.{Fact, met}
use Rattle.spec_history.specs.Guards.{Good, Meets}
use Rattle.spec_history.specs.Histories.{SessionsBelow}
use Rattle.spec_history.specs.Lists.{Text}
use Rattle.spec_history.specs.Meaning.{Meaning}
use Rattle.spec_history.specs.Sessions.{SessionTransaction, view, viewed}
use Rattle.spec_history.specs.Transactions.{Transaction, TransactionLog, blank, read_facts}
use Rattle.spec_history.specs.Worlds.{World, run}
use Rattle.spec_history.proofs.Cuts.{good_append}
use Rattle.spec_history.proofs.Finding.{is_meets}
use Rattle.spec_history.proofs.Refused.{below_or_nil}
use Rattle.spec_history.proofs.Signs.{one_shown}
use Rattle.spec_history.proofs.TransactionLogs.{HasBook, has_book}
use Rattle.law_order.specs.OneOrder.{SessionFact, IsOpenElsewhere, facts_of_session, named}
use Rattle.law_order.proofs.Parts.{order_of, part_of}

below_append : (n : ℕ) (es fs : List Act) → SessionsBelow n (es ++ fs) → SessionsBelow n es × SessionsBelow n fs
below_append n [] fs b = (tt, b)
below_append n (by s a ∷ es) fs b = let r = below_append n es fs b.1 in ((b.0, r.0), r.1)
below_append n (closes k ∷ es) fs b = below_append n es fs b

nothing : (xs ys : List SessionFact) (f : SessionFact) → [] ≡ xs ++ f ∷ ys → ⊥
nothing [] ys f e = cc
nothing (x ∷ xs) ys f e = cc

same_head : (f g : SessionFact) (xs ys : List SessionFact) → (f ∷ xs) ≡ g ∷ ys → (f ≡ g) × (xs ≡ ys)
same_head f g xs ys e = (cc, cc)

-- ---- the act of a refusal in the order

module _ (names : ℕ → Text) where
  record Found (es : List Act) (earlier : List SessionFact) (name text : Text) (holder : ℕ) : Type 0 where
    before : List Act
    after : List Act
    session : ℕ
    is : es ≡ before ++ by session (meets text holder) ∷ after
    order : order_of names before ≡ earlier
    named : names session ≡ name

  further : (e : Act) (es : List Act) (us earlier : List SessionFact) (name text : Text) (holder : ℕ) → ((fs : List Act) → order_of names (e ∷ fs) ≡ us ++ order_of names fs) → Found es earlier name text holder → Found (e ∷ es) (us ++ earlier) name text holder
  further e es us earlier name text holder f r = record {
    before = e ∷ r.before;
    after = r.after;
    session = r.session;
    is = ap (λ (l : List Act). e ∷ l) r.is;
    order = f r.before ∙ ap (λ (l : List SessionFact). us ++ l) r.order;
    named = r.named;
  }

  by_shown : (s : ℕ) (a : SessionAct) (es : List Act) (name text : Text) (holder : ℕ) → ((xs ys : List SessionFact) → order_of names es ≡ xs ++ (name, met text holder) ∷ ys → Found es xs name text holder)
      → (gs : List Fact) → shown a ≡ gs → length gs ≤ 1 → (earlier later : List SessionFact) → named (names s) gs ++ order_of names es ≡ earlier ++ (name, met text holder) ∷ later → Found (by s a ∷ es) earlier name text holder
  by_shown s a es name text holder ih [] w l earlier later e = further (by s a) es [] earlier name text holder (λ fs. ap (λ (gs : List Fact). named (names s) gs ++ order_of names fs) w) (ih earlier later e)
  by_shown s a es name text holder ih (g ∷ []) w l [] later e = let p = same_head (names s, g) (name, met text holder) (order_of names es) later e in record {
    before = [];
    after = es;
    session = s;
    is = ap (λ (b : SessionAct). by s b ∷ es) (is_meets a text holder (w ∙ ap (λ (f : SessionFact). f.1 ∷ []) p.0));
    order = refl;
    named = ap (λ (f : SessionFact). f.0) p.0;
  }
  by_shown s a es name text holder ih (g ∷ []) w l (f ∷ earlier) later e = let p = same_head (names s, g) f (order_of names es) (earlier ++ (name, met text holder) ∷ later) e in
      subst (λ (h : SessionFact). Found (by s a ∷ es) (h ∷ earlier) name text holder) p.0
      (further (by s a) es ((names s, g) ∷ []) earlier name text holder (λ fs. ap (λ (gs : List Fact). named (names s) gs ++ order_of names fs) w) (ih earlier later p.1))
  by_shown s a es name text holder ih (g ∷ f ∷ gs) w l earlier later e = absurd (omega arith)

  find_met : (es : List Act) (earlier later : List SessionFact) (name text : Text) (holder : ℕ) → order_of names es ≡ earlier ++ (name, met text holder) ∷ later → Found es earlier name text holder
  find_met [] earlier later name text holder e = absurd (nothing earlier later (name, met text holder) e)
  find_met (closes k ∷ es) earlier later name text holder e = further (closes k) es [] earlier name text holder (λ fs. refl) (find_met es earlier later name text holder e)
  find_met (by s a ∷ es) earlier later name text holder e = by_shown s a es name text holder (λ xs ys h. find_met es xs ys name text holder h) (shown a) refl (one_shown a) earlier later e

-- ---- the holder

module _ (q : Meaning) (db : Text) (start : World) (blank_there : (t : ℕ) → HasBook (start.at t) []) (es : List Act) (g : Good q db start es) (names : ℕ → Text) (n : ℕ) (below : SessionsBelow n es) (apart : (s t : ℕ) → s < n → t < n → s ≢ t → names s ≢ names t) where
  abbrev opened_by : List Fact → Option Transaction
  opened_by gs = (read_facts blank gs).open_one

  nobody : (d : Transaction) → opened_by [] ≡ Some d → ⊥
  nobody d e = cc

  pub is_open : (earlier later : List SessionFact) (name text : Text) (holder : ℕ) → order_of names es ≡ earlier ++ (name, met text holder) ∷ later → IsOpenElsewhere name holder earlier
  is_open earlier later name text holder e =
      let f = find_met names es earlier later name text holder e in
      let two = good_append q db start f.before (by f.session (meets text holder) ∷ f.after) (subst (Good q db start) f.is g) in
      let parts = below_append n f.before (by f.session (meets text holder) ∷ f.after) (subst (SessionsBelow n) f.is below) in
      let m : Meets q (run start f.before) f.session text holder = two.1.0 in
      let its : opened_by (all_shown (of m.other f.before)) ≡ Some (view m.theirs) =
      ap (λ (b : TransactionLog). b.open_one) (has_book q db m.other start f.before [] two.0 (blank_there m.other)) ∙ ap (λ (o : Option SessionTransaction). viewed o) m.has in
      let l : m.other < n = ⊎_elim (λ (k : m.other < n). k) (λ (none : of m.other f.before ≡ []). absurd (nobody (view m.theirs) (sym (ap (λ (xs : List SessionAct). opened_by (all_shown xs)) none) ∙ its))) (below_or_nil m.other n f.before parts.0) in
      record {
        other = names m.other;
        differs = λ same. apart m.other f.session l parts.1.0 m.differs (same ∙ sym f.named);
        transaction = view m.theirs;
        stands = ap opened_by (ap (facts_of_session (names m.other)) (sym f.order) ∙ part_of names n m.other f.before parts.0 (λ t k ne. apart t m.other k l ne)) ∙ its;
        is = m.is;
      }
