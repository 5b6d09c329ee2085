-- Each session that is told draws the id behind its number.
use Rattle.std.proofs.Common.{◌≡◌, ◌≢◌, ℕ, zero, suc, ◌+◌, ◌<◌, ◌≤◌, Bool, true, false, List, [], ◌∷◌, ◌++◌, map, flat_map, Option, Some, None, refl, sym, ap, subst, ⊎_elim, inl, arith}
use Rattle.std.proofs.lemmas.Bool.{cases_eq, eq-eqb}
use Rattle.sql_types.specs.declared.journal.JournalItem.{JournalItem}
use Rattle.spec_model.specs.Journals.{Line}
use Rattle.spec_history.specs.Lists.{Text, In}
use Rattle.spec_history.specs.Acts.{SessionAct, Act, by, of, assigned_id}
use Rattle.spec_history.proofs.Cuts.{of_append}
use Rattle.spec_history.proofs.Settles.{in_append, in_left, in_right}
use Rattle.law_retold.specs.Retold.{ToldTx, Words, opening, opens, opens_tx, tx_with}

abbrev Draws : ℕ → List SessionAct → Type 0
Draws id xs = In id (flat_map assigned_id xs)

tx_draws : (c : Words) (id : ℕ) (name : Text) (explicit : Bool) (lines : List Line) → Draws id (opens_tx c id name explicit lines)
tx_draws c id name true lines = inl refl
tx_draws c id name false lines = inl refl

one_draws : (c : Words) (id : ℕ) (t : Option ToldTx) → Draws id (opens c id t)
one_draws c id None = inl refl
one_draws c id (Some t) = tx_draws c id t.name t.explicit t.lines

draws_front : (id : ℕ) (xs ys : List SessionAct) → Draws id xs → Draws id (xs ++ ys)
draws_front id [] ys d = absurd d
draws_front id (a ∷ xs) ys d = ⊎_elim
    (λ (h : In id (assigned_id a)). in_left id (assigned_id a) (flat_map assigned_id (xs ++ ys)) h)
    (λ (h : In id (flat_map assigned_id xs)). in_right id (assigned_id a) (flat_map assigned_id (xs ++ ys)) (draws_front id xs ys h))
    (in_append id (assigned_id a) (flat_map assigned_id xs) d)

draws_behind : (id : ℕ) (xs ys : List SessionAct) → Draws id ys → Draws id (xs ++ ys)
draws_behind id [] ys d = d
draws_behind id (a ∷ xs) ys d = in_right id (assigned_id a) (flat_map assigned_id (xs ++ ys)) (draws_behind id xs ys d)

own_part : (s : ℕ) (xs : List SessionAct) → of s (map (by s) xs) ≡ xs
own_part s [] = refl
own_part s (a ∷ xs) = rw (eq-eqb s s refl) (ap (λ (l : List SessionAct). a ∷ l) (own_part s xs))

module _ (c : Words) (J : List JournalItem) where
  drew_opening : (m k n : ℕ) → m ≤ n → n < m + k → Draws (suc n) (of n (opening c J m k))
  drew_opening m zero n l h = absurd (omega (arith, l, h))
  drew_opening m (suc k) n l h = subst (Draws (suc n)) (sym (of_append n (map (by m) (opens c (suc m) (tx_with (suc m) J))) (opening c J (suc m) k))) (⊎_elim
      (λ (e : m ≡ n). draws_front (suc n) (of n (map (by m) (opens c (suc m) (tx_with (suc m) J)))) (of n (opening c J (suc m) k))
      (subst (λ (t : ℕ). Draws (suc n) (of n (map (by t) (opens c (suc t) (tx_with (suc t) J))))) (sym e)
      (subst (Draws (suc n)) (sym (own_part n (opens c (suc n) (tx_with (suc n) J)))) (one_draws c (suc n) (tx_with (suc n) J)))))
      (λ (ne : m ≢ n). draws_behind (suc n) (of n (map (by m) (opens c (suc m) (tx_with (suc m) J)))) (of n (opening c J (suc m) k)) (drew_opening (suc m) k n (past m n l ne) (omega (arith, h))))
      (cases_eq m n))
    where
      past : (m n : ℕ) → m ≤ n → m ≢ n → suc m ≤ n
      past m n l ne = omega (arith, l, ne)

  -- whatever comes behind
  pub drew : (count n : ℕ) (rest : List Act) → n < count → Draws (suc n) (of n (opening c J 0 count ++ rest))
  drew count n rest l = subst (Draws (suc n)) (sym (of_append n (opening c J 0 count) rest)) (draws_front (suc n) (of n (opening c J 0 count)) (of n rest) (drew_opening 0 count n (omega arith) (omega (arith, l))))
