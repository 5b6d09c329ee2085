-- In a history of one statement after another, the entries in their order show what the acts show in theirs.
use Rattle.std.proofs.Common.{◌≡◌, ◌≢◌, ℕ, Bool, true, false, List, [], ◌∷◌, ◌++◌, Option, None, refl, sym, ap, ◌∙◌, subst, ⊎_elim, append-nil, append_assoc}
use Rattle.std.specs.Prelude.{◌==◌}
use Rattle.std.proofs.lemmas.Bool.{eqb-true, eq-eqb, ne_eqb, cases_eq}
use Rattle.spec_history.specs.Lists.{Text}
use Rattle.spec_history.specs.Meaning.{Meaning}
use Rattle.spec_history.specs.Transcripts.{Entry}
use Rattle.spec_history.specs.Facts.{Fact, entry_facts, open_after, open_at_end}
use Rattle.spec_history.specs.StepOrder.{Row, entries_of, opened_by, rows_facts}
use Rattle.spec_history.specs.Acts.{SessionAct, takes, answers, Act, by, closes, shown}
use Rattle.spec_history.specs.Sessions.{SessionState, acted}
use Rattle.spec_history.specs.Worlds.{World, put, step, run}
use Rattle.spec_history.specs.Guards.{Good}
use Rattle.spec_history.specs.Histories.{OneAtATime, rows_by, rows_of}
use Rattle.spec_history.proofs.Follow.{eqb_sym, open_append}
use Rattle.law_history.proofs.Order.{facts_in}

-- ---- the entries of a session

-- an act of its own
own_rows : (s : ℕ) (a : SessionAct) (x : SessionState) (rows : List Row) → (acted x a).so_far.entries ++ entries_of s rows ≡ x.so_far.entries ++ entries_of s (rows_by s a ++ rows)
own_rows s (answers e) x rows = append_assoc x.so_far.entries (e ∷ []) (entries_of s rows) ∙ rw (eq-eqb s s refl) refl
own_rows s (takes text) x rows = refl
own_rows s a x rows = refl

-- and of another session
other_rows : (s t : ℕ) (a : SessionAct) (rows : List Row) → (t == s) ≡ false → entries_of s (rows_by t a ++ rows) ≡ entries_of s rows
other_rows s t (answers e) rows d = rw d refl
other_rows s t a rows d = refl

rows_at : (w : World) (s t : ℕ) (a : SessionAct) (b : Bool) (rows : List Row) → (t == s) ≡ b → (s == t) ≡ b → (put w.at t (acted (w.at t) a) s).so_far.entries ++ entries_of s rows ≡ (w.at s).so_far.entries ++ entries_of s (rows_by t a ++ rows)
rows_at w s t a true rows d d' = let same : s ≡ t = eqb-true s t d' in rw d' (subst (λ (u : ℕ). (acted (w.at t) a).so_far.entries ++ entries_of u rows ≡ (w.at u).so_far.entries ++ entries_of u (rows_by t a ++ rows)) (sym same) (own_rows t a (w.at t) rows))
rows_at w s t a false rows d d' = rw d' (ap (λ (l : List Entry). (w.at s).so_far.entries ++ l) (sym (other_rows s t a rows d)))

pub entries_are : (s : ℕ) (w : World) (es : List Act) → ((run w es).at s).so_far.entries ≡ (w.at s).so_far.entries ++ entries_of s (rows_of es)
entries_are s w [] = sym (append-nil (w.at s).so_far.entries)
entries_are s w (by t a ∷ es) = entries_are s (step w (by t a)) es ∙ rows_at w s t a (t == s) (rows_of es) refl (eqb_sym s t)
entries_are s w (closes k ∷ es) = entries_are s (step w (closes k)) es

-- ---- what is shown

-- which transaction of each session is open
abbrev pub OpensAre : World → (ℕ → Option ℕ) → Type 0
OpensAre w opens = (t : ℕ) → opens t ≡ open_at_end None (w.at t).so_far.entries

-- one session has this to be shown, and no other has anything
abbrev pub Pending : World → List Fact → Type 0
Pending w gs = (s : ℕ) × ((w.at s).so_far.pending ≡ gs) × ((t : ℕ) → t ≢ s → (w.at t).so_far.pending ≡ [])

module _ (q : Meaning) (db : Text) where
  -- it is the acting one, if no other has anything
  acting : (w : World) (s : ℕ) (gs : List Fact) → Pending w gs → ((t : ℕ) → t ≢ s → (w.at t).so_far.pending ≡ []) → (w.at s).so_far.pending ≡ gs
  acting w s gs p alone = ⊎_elim (λ (e : s ≡ p.0). ap (λ (t : ℕ). (w.at t).so_far.pending) e ∙ p.1) (λ (ne : s ≢ p.0). p.2 s ne ∙ sym (alone p.0 (λ e. ne (sym e))) ∙ p.1) (cases_eq s p.0)

  pub put_here : (w : World) (s : ℕ) (x : SessionState) → put w.at s x s ≡ x
  put_here w s x = rw (eq-eqb s s refl) refl

  pub put_else : (w : World) (s t : ℕ) (x : SessionState) → t ≢ s → put w.at s x t ≡ w.at t
  put_else w s t x ne = rw (ne_eqb t s ne) refl

  pending_then : (w : World) (s : ℕ) (a : SessionAct) (gs : List Fact) → (acted (w.at s) a).so_far.pending ≡ gs → ((t : ℕ) → t ≢ s → (w.at t).so_far.pending ≡ []) → Pending (step w (by s a)) gs
  pending_then w s a gs e alone = (s, ap (λ (x : SessionState). x.so_far.pending) (put_here w s (acted (w.at s) a)) ∙ e, λ t ne. ap (λ (x : SessionState). x.so_far.pending) (put_else w s t (acted (w.at s) a) ne) ∙ alone t ne)

  pub opens_then : (w : World) (s : ℕ) (a : SessionAct) (opens : ℕ → Option ℕ) → (acted (w.at s) a).so_far.entries ≡ (w.at s).so_far.entries → OpensAre w opens → OpensAre (step w (by s a)) opens
  opens_then w s a opens e o t = o t ∙ ap (open_at_end None) (⊎_elim
      (λ (same : t ≡ s). subst (λ (u : ℕ). (w.at u).so_far.entries ≡ (put w.at s (acted (w.at s) a) u).so_far.entries) (sym same) (sym (ap (λ (x : SessionState). x.so_far.entries) (put_here w s (acted (w.at s) a)) ∙ e)))
      (λ (ne : t ≢ s). sym (ap (λ (x : SessionState). x.so_far.entries) (put_else w s t (acted (w.at s) a) ne))) (cases_eq t s))

  pub opens_answer : (w : World) (s : ℕ) (e : Entry) (opens : ℕ → Option ℕ) → OpensAre w opens → OpensAre (step w (by s (answers e))) (opened_by opens s e)
  opens_answer w s e opens o t = ⊎_elim
      (λ (same : t ≡ s). subst (λ (u : ℕ). opened_by opens s e u ≡ open_at_end None (put w.at s (acted (w.at s) (answers e)) u).so_far.entries) (sym same)
      (rw (eq-eqb s s refl) (ap (λ (x : Option ℕ). open_after x e) (o s) ∙ sym (open_append None (w.at s).so_far.entries (e ∷ [])))))
      (λ (ne : t ≢ s). rw (ne_eqb t s ne) (o t)) (cases_eq t s)

  -- at the end nothing is left to be shown
  pub rows_show : (w : World) (es : List Act) (opens : ℕ → Option ℕ) (gs : List Fact) → Good q db w es → OneAtATime w es → OpensAre w opens → Pending w gs → ((t : ℕ) → ((run w es).at t).so_far.pending ≡ []) → gs ++ facts_in es ≡ rows_facts q opens (rows_of es)
  rows_show w [] opens gs g alone o p none = append-nil gs ∙ sym p.1 ∙ none p.0
  rows_show w (closes k ∷ es) opens gs g alone o p none = rows_show (step w (closes k)) es opens gs g.1 alone o p none
  rows_show w (by s (answers e) ∷ es) opens gs g alone o p none = let quiet : (t : ℕ) → t ≢ s → (w.at t).so_far.pending ≡ [] = λ t ne. (alone.0 t ne).shown in
      let ih = rows_show (step w (by s (answers e))) es (opened_by opens s e) [] g.1 alone.1 (opens_answer w s e opens o) (pending_then w s (answers e) [] refl quiet) none in
      let its : gs ≡ entry_facts q (opens s) e = sym (acting w s gs p quiet) ∙ (g.0).shows ∙ ap (λ (x : Option ℕ). entry_facts q x e) (sym (o s)) in
      ap (λ (l : List Fact). l ++ facts_in es) its ∙ ap (λ (l : List Fact). entry_facts q (opens s) e ++ l) ih
  rows_show w (by s (takes text) ∷ es) opens gs g alone o p none = let quiet : (t : ℕ) → t ≢ s → (w.at t).so_far.pending ≡ [] = λ t ne. (alone.0 t ne).shown in
      rows_show (step w (by s (takes text))) es opens gs g.1 alone.1 (opens_then w s (takes text) opens refl o) (pending_then w s (takes text) gs (acting w s gs p quiet) quiet) none
  rows_show w (by s a ∷ es) opens gs g alone o p none = let quiet : (t : ℕ) → t ≢ s → (w.at t).so_far.pending ≡ [] = λ t ne. (alone.0 t ne).shown in
      sym (append_assoc gs (shown a) (facts_in es))
      ∙ rows_show (step w (by s a)) es opens (gs ++ shown a) g.1 alone.1 (opens_then w s a opens refl o) (pending_then w s a (gs ++ shown a) (ap (λ (l : List Fact). l ++ shown a) (acting w s gs p quiet)) quiet) none
