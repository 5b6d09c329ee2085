-- The digests that were issued are those that the transcripts show, and the journal's.
use Rattle.std.proofs.Common.{◌≡◌, ◌≢◌, ℕ, zero, suc, ◌+◌, ◌<◌, ◌≤◌, List, [], ◌∷◌, ◌++◌, map, length, refl, sym, ap, ◌∙◌, subst, ⊎_elim, arith, append-nil}
use Rattle.std.specs.Prelude.{◌==◌}
use Rattle.std.proofs.lemmas.Bool.{eq-eqb, ne_eqb, cases_eq}
use Rattle.sql_types.specs.declared.journal.JournalItem.{JournalItem}
use Rattle.sql_types.specs.declared.journal.JournalItem.TheVariants.{Close}
use Rattle.spec_history.specs.Lists.{Text, Each, sum, sum_from}
use Rattle.spec_history.specs.Journals.{blocks}
use Rattle.spec_history.specs.Meaning.{Meaning}
use Rattle.spec_history.specs.Transcripts.{Transcript}
use Rattle.spec_history.specs.Facts.{Fact, facts_of}
use Rattle.spec_history.specs.Digests.{Digest, IsDigest, of_block, replies_of_block, BlocksRise}
use Rattle.spec_history.specs.Agree.{ShowsHash}
use Rattle.spec_history.specs.Acts.{SessionAct, starts, takes, looks, issues, answers, stops, Act, by, closes, of, shown, all_shown}
use Rattle.spec_history.specs.Worlds.{World, items_by, issued_by, step, run}
use Rattle.spec_history.specs.Guards.{IsEnabled, Good}
use Rattle.spec_history.specs.Histories.{SessionsBelow}
use Rattle.spec_history.proofs.Trace.{each_append, each_weaker}
use Rattle.spec_history.proofs.Grows.{grows, blocks_append, blocks_step, digest_stays}
use Rattle.spec_history.proofs.Rising.{shown_more}

module _ (q : Meaning) (db : Text) where
  -- ---- what a digest shows stays

  hash_at : (w : World) (t : ℕ) (a : SessionAct) (es : List Act) → IsEnabled q db w (by t a) → Each (ShowsHash q (run w (by t a ∷ es)).items) (shown a)
  hash_at w t (issues d mark) es k = let g = grows w (by t (issues d mark) ∷ es) in let inside : d.block < blocks w.items = omega (arith, k.last) in
      ((omega (arith, inside, ap blocks g.1, blocks_append w.items g.0), (k.is).hash ∙ sym (q.hash_stays w.items g.0 d.block inside) ∙ ap (λ (J : List JournalItem). q.block_hash J d.block) (sym g.1)), tt)
  hash_at w t (starts name) es k = tt
  hash_at w t (takes text) es k = tt
  hash_at w t (looks text table) es k = tt
  hash_at w t (answers entry) es k = tt
  hash_at w t stops es k = tt
  hash_at w t a es k = (tt, tt)

  pub hashes : (s : ℕ) (w : World) (es : List Act) → Good q db w es → Each (ShowsHash q (run w es).items) (all_shown (of s es))
  hashes s w [] g = tt
  hashes s w (by t a ∷ es) g = shown_more (ShowsHash q (run w (by t a ∷ es)).items) (t == s) a (of s es) (hash_at w t a es g.0) (hashes s (step w (by t a)) es g.1)
  hashes s w (closes k ∷ es) g = hashes s (step w (closes k)) es g.1

  -- ---- each digest is the journal's

  abbrev IsOf : List JournalItem → Digest → Type 0
  IsOf J d = (d.block < blocks J) × IsDigest q db J d

  is_of_more : (J K : List JournalItem) (d : Digest) → IsOf J d → IsOf (J ++ K) d
  is_of_more J K d h = (let l = h.0 in omega (arith, blocks_append J K), digest_stays q db J K d h.0 h.1)

  all_of : (J K : List JournalItem) (G : List Digest) → Each (IsOf J) G → Each (IsOf (J ++ K)) G
  all_of J K G h = each_weaker (IsOf J) (IsOf (J ++ K)) (λ d i. is_of_more J K d i) G h

  new_of : (w : World) (s : ℕ) (a : SessionAct) → IsEnabled q db w (by s a) → Each (IsOf w.items) (issued_by a)
  new_of w s (issues d mark) k = ((omega (arith, k.last), k.is), tt)
  new_of w s a k = tt

  issued_run : (w : World) (es : List Act) → Good q db w es → Each (IsOf w.items) w.issued → Each (IsOf (run w es).items) (run w es).issued
  issued_run w [] g h = h
  issued_run w (by s a ∷ es) g h = issued_run (step w (by s a)) es g.1 (all_of w.items (items_by (w.at s) a) (w.issued ++ issued_by a) (each_append (IsOf w.items) w.issued (issued_by a) h (new_of w s a g.0)))
  issued_run w (closes k ∷ es) g h = issued_run (step w (closes k)) es g.1 (all_of w.items (Close k ∷ []) w.issued h)

  pub issued : (w : World) (es : List Act) → Good q db w es → Each (IsOf w.items) w.issued → Each (IsDigest q db (run w es).items) (run w es).issued
  issued w es g h = each_weaker (IsOf (run w es).items) (IsDigest q db (run w es).items) (λ d i. i.1) (run w es).issued (issued_run w es g h)

  -- ---- blocks never fall

  abbrev AllBelow : ℕ → List Digest → Type 0
  AllBelow n G = Each (λ d. d.block < n) G

  rise_append : (G : List Digest) (e : Digest) → BlocksRise G → Each (λ d. d.block ≤ e.block) G → BlocksRise (G ++ e ∷ [])
  rise_append [] e r h = (tt, tt)
  rise_append (d ∷ ds) e r h = (each_append (λ z. d.block ≤ z.block) ds (e ∷ []) r.0 (h.0, tt), rise_append ds e r.1 h.1)

  blocks_by : (w : World) (s : ℕ) (a : SessionAct) → IsEnabled q db w (by s a) → BlocksRise w.issued → AllBelow (blocks w.items) w.issued → BlocksRise (w.issued ++ issued_by a) × AllBelow (blocks w.items) (w.issued ++ issued_by a)
  blocks_by w s (issues d mark) k r h = (
    rise_append w.issued d r (each_weaker (λ e. e.block < blocks w.items) (λ e. e.block ≤ d.block) (λ e l. omega (arith, k.last)) w.issued h),
    each_append (λ e. e.block < blocks w.items) w.issued (d ∷ []) h (omega (arith, k.last), tt),
  )
  blocks_by w s a k r h = rw append-nil (r, h)

  pub blocks_rise : (w : World) (es : List Act) → Good q db w es → BlocksRise w.issued → AllBelow (blocks w.items) w.issued → BlocksRise (run w es).issued
  blocks_rise w [] g r h = r
  blocks_rise w (by s a ∷ es) g r h = let n = blocks_by w s a g.0 r h in blocks_rise (step w (by s a)) es g.1 n.0 (each_weaker (λ e. e.block < blocks w.items) (λ e. e.block < blocks (step w (by s a)).items) (λ e l. omega (arith, blocks_step w (by s a))) (w.issued ++ issued_by a) n.1)
  blocks_rise w (closes k ∷ es) g r h = blocks_rise (step w (closes k)) es g.1 r (each_weaker (λ e. e.block < blocks w.items) (λ e. e.block < blocks (step w (closes k)).items) (λ e l. omega (arith, blocks_step w (closes k))) w.issued h)

-- ---- as many digests as replies

sum_same : (n k : ℕ) (f g : ℕ → ℕ) → ((s : ℕ) → n ≤ s → f s ≡ g s) → sum_from n k f ≡ sum_from n k g
sum_same n zero f g h = refl
sum_same n (suc k) f g h = let a = sum_same (suc n) k f g (λ s l. h s (omega arith)) in let b = h n (omega arith) in omega arith

sum_one : (n k t m : ℕ) (f g : ℕ → ℕ) → n ≤ t → t < n + k → f t ≡ m + g t → ((s : ℕ) → s ≢ t → f s ≡ g s) → sum_from n k f ≡ m + sum_from n k g
sum_one n zero t m f g i l e h = absurd (omega arith)
sum_one n (suc k) t m f g i l e h = ⊎_elim
    (λ (same : n ≡ t). let rest = sum_same (suc n) k f g (λ s j. h s (λ x. absurd (omega arith))) in let here : f n ≡ m + g n = subst (λ (x : ℕ). f x ≡ m + g x) (sym same) e in omega arith)
    (λ (ne : n ≢ t). let rest = sum_one (suc n) k t m f g (past n t i ne) (omega arith) e h in let here = h n ne in omega arith)
    (cases_eq n t)
  where
    past : (n t : ℕ) → n ≤ t → n ≢ t → suc n ≤ t
    past n t i ne = omega arith

no_sum : (n k : ℕ) → sum_from n k (λ s. 0) ≡ 0
no_sum n zero = refl
no_sum n (suc k) = let e = no_sum (suc n) k in omega arith

of_append_block : (b : ℕ) (xs ys : List Digest) → of_block b (xs ++ ys) ≡ of_block b xs + of_block b ys
of_append_block b [] ys = omega arith
of_append_block b (x ∷ xs) ys = let e = of_append_block b xs ys in omega arith

replies_append : (b : ℕ) (gs hs : List Fact) → replies_of_block b (gs ++ hs) ≡ replies_of_block b gs + replies_of_block b hs
replies_append b [] hs = omega arith
replies_append b (g ∷ gs) hs = let e = replies_append b gs hs in omega arith

issued_block : (b : ℕ) (a : SessionAct) → of_block b (issued_by a) ≡ replies_of_block b (shown a)
issued_block b (issues d mark) = omega arith
issued_block b (starts name) = refl
issued_block b a = refl

at_session : (b s t : ℕ) (a : SessionAct) (es : List Act) → s ≢ t → replies_of_block b (all_shown (of s (by t a ∷ es))) ≡ replies_of_block b (all_shown (of s es))
at_session b s t a es ne = rw (ne_eqb t s (λ e. ne (sym e))) refl

here : (b t : ℕ) (a : SessionAct) (es : List Act) → replies_of_block b (all_shown (of t (by t a ∷ es))) ≡ replies_of_block b (shown a) + replies_of_block b (all_shown (of t es))
here b t a es = rw (eq-eqb t t refl) (replies_append b (shown a) (all_shown (of t es)))

pub digests_counted : (b k : ℕ) (w : World) (es : List Act) → SessionsBelow k es → of_block b (run w es).issued ≡ of_block b w.issued + sum_from 0 k (λ s. replies_of_block b (all_shown (of s es)))
digests_counted b k w [] h = let e = no_sum 0 k in omega arith
digests_counted b k w (by t a ∷ es) h = let rest = digests_counted b k (step w (by t a)) es h.1 in let front = of_append_block b w.issued (issued_by a) in let one = issued_block b a in
    let all = sum_one 0 k t (replies_of_block b (shown a)) (λ s. replies_of_block b (all_shown (of s (by t a ∷ es)))) (λ s. replies_of_block b (all_shown (of s es))) (omega arith) (let l = h.0 in omega arith) (here b t a es) (λ s ne. at_session b s t a es ne) in omega arith
digests_counted b k w (closes n ∷ es) h = digests_counted b k (step w (closes n)) es h

-- the sum over transcripts
abbrev pub FactsFrom : Meaning → (ℕ → List Fact) → ℕ → List Transcript → Type 0
FactsFrom q f n [] = Unit {0}
FactsFrom q f n (x ∷ X) = (facts_of q x ≡ f n) × FactsFrom q f (suc n) X

pub sum_of_transcripts : (q : Meaning) (f : ℕ → List Fact) (b n : ℕ) (X : List Transcript) → FactsFrom q f n X → sum (map (λ x. replies_of_block b (facts_of q x)) X) ≡ sum_from n (length X) (λ s. replies_of_block b (f s))
sum_of_transcripts q f b n [] h = refl
sum_of_transcripts q f b n (x ∷ X) h = let e = sum_of_transcripts q f b (suc n) X h.1 in let d = ap (replies_of_block b) h.0 in omega arith
