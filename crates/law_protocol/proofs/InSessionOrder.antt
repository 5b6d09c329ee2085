-- Sessions can be numbered in the order of a plan.
use Rattle.std.proofs.Common.{◌≡◌, ◌≢◌, ◌⊎◌, ℕ, zero, suc, ◌<◌, List, [], ◌∷◌, ◌++◌, length, map, refl, sym, ap, ◌∙◌, subst, subst₂, inl, inr, ⊎_elim, arith, append_assoc}
use Rattle.spec_history.specs.Inputs.{InputSession}
use Rattle.spec_history.specs.Lists.{Text, Each, Some_of, At}
use Rattle.spec_history.specs.Transcripts.{Transcript}
use Rattle.law_protocol_ledger.proofs.Reorders.{each_is_placed}
use Rattle.spec_protocol.specs.Reordered.{InOrderOf, IsSessionOrder, NamesApart, Reordered, as_is, swaps, swapped, turned}

module _ {A : Type 0} where
  longer : (xs : List A) (z : A) → length (xs ++ z ∷ []) ≡ suc (length xs)
  longer [] z = refl
  longer (x ∷ xs) z = ap suc (longer xs z)

  two_more : (xs : List A) (y z : A) (ys : List A) → suc (length xs) < length (xs ++ y ∷ z ∷ ys)
  two_more [] y z ys = omega arith
  two_more (x ∷ xs) y z ys = let l = two_more xs y z ys in omega (arith, l)

  swapped_behind : (xs : List A) (y z : A) (ys : List A) → swapped (length xs) (xs ++ y ∷ z ∷ ys) ≡ xs ++ z ∷ y ∷ ys
  swapped_behind [] y z ys = refl
  swapped_behind (x ∷ xs) y z ys = ap (λ (l : List A). x ∷ l) (swapped_behind xs y z ys)

  swapped_there : (n : ℕ) (xs : List A) (y z : A) (ys : List A) → length xs ≡ n → swapped n (xs ++ y ∷ z ∷ ys) ≡ xs ++ z ∷ y ∷ ys
  swapped_there n xs y z ys e = ap (λ (m : ℕ). swapped m (xs ++ y ∷ z ∷ ys)) (sym e) ∙ swapped_behind xs y z ys

-- the place of one
record Placed (P : Transcript → Type 0) (xs : List Transcript) : Type 0 where
  place : ℕ
  one : Transcript
  at : At xs place one
  is : P one

placed : (P : Transcript → Type 0) (xs : List Transcript) → Some_of P xs → Placed P xs
placed P [] h = absurd h
placed P (x ∷ xs) (inl p) = record { place = zero; one = x; at = refl; is = p }
placed P (x ∷ xs) (inr h) = let w = placed P xs h in record { place = suc w.place; one = w.one; at = w.at; is = w.is }

module _ (input : List InputSession) (X : List Transcript) where
  -- behind these, this transcript comes first
  record Brought (I : List InputSession) (L rest : List Transcript) (y : Transcript) : Type 0 where
    first : InputSession
    sessions : List InputSession
    others : List Transcript
    to : ℕ → ℕ
    reordered : Reordered input X (I ++ first ∷ sessions) (L ++ y ∷ others) to
    as_many : length sessions ≡ length others
    one_less : length rest ≡ suc (length others)
    still : (n : Text) → Some_of (λ x. x.session ≡ n) rest → (y.session ≡ n) ⊎ Some_of (λ x. x.session ≡ n) others

  bring : (p : ℕ) (I : List InputSession) (L : List Transcript) (sessions : List InputSession) (rest : List Transcript) (to : ℕ → ℕ) → Reordered input X (I ++ sessions) (L ++ rest) to → length I ≡ length L → length sessions ≡ length rest → (y : Transcript) → At rest p y → Brought I L rest y
  bring p I L sessions [] to r e f y at = absurd at
  bring p I L [] (z ∷ zs) to r e f y at = absurd (omega (arith, f))
  bring zero I L (k ∷ ks) (z ∷ zs) to r e f y at = record {
    first = k;
    sessions = ks;
    others = zs;
    to = to;
    reordered = subst (λ (u : Transcript). Reordered input X (I ++ k ∷ ks) (L ++ u ∷ zs) to) at r;
    as_many = omega (arith, f);
    one_less = refl;
    still = λ n h. ⊎_elim (λ (q : z.session ≡ n). inl (subst (λ (u : Transcript). u.session ≡ n) at q)) (λ (q : Some_of (λ x. x.session ≡ n) zs). inr q) h;
  }
  bring (suc p) I L (k ∷ ks) (z ∷ zs) to r e f y at = then_first (bring p (I ++ k ∷ []) (L ++ z ∷ []) ks zs to (subst₂ (λ (S : List InputSession) (M : List Transcript). Reordered input X S M to) (sym (append_assoc I (k ∷ []) ks)) (sym (append_assoc L (z ∷ []) zs)) r) (longer I k ∙ ap suc e ∙ sym (longer L z)) (omega (arith, f)) y at)
    where
      then_first : Brought (I ++ k ∷ []) (L ++ z ∷ []) zs y → Brought I L (z ∷ zs) y
      then_first b = record {
        first = b.first;
        sessions = k ∷ b.sessions;
        others = z ∷ b.others;
        to = λ i. turned (length L) (b.to i);
        reordered = subst₂ (λ (S : List InputSession) (M : List Transcript). Reordered input X S M (λ i. turned (length L) (b.to i)))
            (swapped_there (length L) I k b.first b.sessions e) (swapped_behind L z y b.others)
            (swaps (length L) (subst₂ (λ (S : List InputSession) (M : List Transcript). Reordered input X S M b.to) (append_assoc I (k ∷ []) (b.first ∷ b.sessions)) (append_assoc L (z ∷ []) (y ∷ b.others)) b.reordered) (two_more L z y b.others));
        as_many = ap suc b.as_many;
        one_less = ap suc b.one_less;
        still = λ n h. ⊎_elim (λ (q : z.session ≡ n). inr (inl q)) (λ (q : Some_of (λ x. x.session ≡ n) zs). ⊎_elim (λ (w : y.session ≡ n). inl w) (λ (w : Some_of (λ x. x.session ≡ n) b.others). inr (inr w)) (b.still n q)) h;
      }

  -- behind these, the rest stands in this order
  record Ordered (I : List InputSession) (L : List Transcript) (names : List Text) : Type 0 where
    sessions : List InputSession
    rest : List Transcript
    to : ℕ → ℕ
    reordered : Reordered input X (I ++ sessions) (L ++ rest) to
    named : map (λ x. x.session) rest ≡ names

  order : (names : List Text) (I : List InputSession) (L : List Transcript) (sessions : List InputSession) (rest : List Transcript) (to : ℕ → ℕ) → Reordered input X (I ++ sessions) (L ++ rest) to → length I ≡ length L → length sessions ≡ length rest → length names ≡ length rest
      → NamesApart names → Each (λ name. Some_of (λ x. x.session ≡ name) rest) names → Ordered I L names
  order [] I L sessions [] to r e f g apart each = record { sessions = sessions; rest = []; to = to; reordered = r; named = refl }
  order [] I L sessions (z ∷ zs) to r e f g apart each = absurd (omega (arith, g))
  order (name ∷ names) I L sessions rest to r e f g apart each = then_rest (order names (I ++ b.first ∷ []) (L ++ p.one ∷ []) b.sessions b.others b.to (subst₂ (λ (S : List InputSession) (M : List Transcript). Reordered input X S M b.to) (sym (append_assoc I (b.first ∷ []) b.sessions)) (sym (append_assoc L (p.one ∷ []) b.others)) b.reordered)
      (longer I b.first ∙ ap suc e ∙ sym (longer L p.one)) b.as_many (let l = b.one_less in omega (arith, g, l)) apart.1 (others_there names apart.0 each.1))
    where
      p : Placed (λ x. x.session ≡ name) rest
      p = placed (λ x. x.session ≡ name) rest each.0

      b : Brought I L rest p.one
      b = bring p.place I L sessions rest to r e f p.one p.at

      others_there : (ns : List Text) → Each (λ other. name ≢ other) ns → Each (λ n. Some_of (λ x. x.session ≡ n) rest) ns → Each (λ n. Some_of (λ x. x.session ≡ n) b.others) ns
      others_there [] a h = tt
      others_there (n ∷ ns) a h = (⊎_elim (λ (q : p.one.session ≡ n). absurd (a.0 (sym p.is ∙ q))) (λ (q : Some_of (λ x. x.session ≡ n) b.others). q) (b.still n h.0), others_there ns a.1 h.1)

      then_rest : Ordered (I ++ b.first ∷ []) (L ++ p.one ∷ []) names → Ordered I L (name ∷ names)
      then_rest o = record {
        sessions = b.first ∷ o.sessions;
        rest = p.one ∷ o.rest;
        to = o.to;
        reordered = subst₂ (λ (S : List InputSession) (M : List Transcript). Reordered input X S M o.to) (append_assoc I (b.first ∷ []) o.sessions) (append_assoc L (p.one ∷ []) o.rest) o.reordered;
        named = (λ i. p.is i ∷ o.named i);
      }

  pub in_order_of : (names : List Text) → length input ≡ length X → IsSessionOrder names X → InOrderOf names input X
  in_order_of names f session_order = let o = order names [] [] input X (λ i. i) as_is refl f session_order.as_many session_order.apart session_order.each in record { then_input = o.sessions; then_X = o.rest; to = o.to; reordered = o.reordered; named = o.named; places = each_is_placed input X o.sessions o.rest o.to o.reordered }
