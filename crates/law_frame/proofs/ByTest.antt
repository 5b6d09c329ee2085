-- Versions by rising start are the same where those are that pass a test, and those that don't.
use Rattle.std.proofs.Common.{◌≡◌, ◌⊎◌, refl, sym, ap, subst, ◌∙◌, not, Bool, true, false, List, [], ◌∷◌, inl, inr, ⊎_elim}
use Rattle.std.specs.Prelude.{if◌then◌else◌}
use Rattle.std.specs.List.{AllByRecursion, filter}
use Rattle.std.specs.declared.cmp.Ordering.TheVariants.{Less}
use Rattle.sql_types.specs.declared.version.Version.{Version}
use Rattle.spec_model.specs.Rows.{start_cmp}
use Rattle.spec_model.specs.Runs.{Rising}
use Rattle.law_frame.proofs.SameKeys.{not_less}
use Rattle.law_frame.proofs.Sounds.{start_total}

abbrev In : Version → List Version → Type 0
In v [] = ⊥
In v (w ∷ ws) = (v ≡ w) ⊎ In v ws

below : (w v : Version) (ws : List Version) → AllByRecursion (λ u. start_cmp w u ≡ Less) ws → In v ws → start_cmp w v ≡ Less
below w v [] h i = absurd i
below w v (u ∷ us) h i = ⊎_elim (λ (e : v ≡ u). subst (λ (x : Version). start_cmp w x ≡ Less) (sym e) h.0) (λ (j : In v us). below w v us h.1 j) i

one_head : (v w : Version) (vs ws : List Version) → Rising (v ∷ vs) → Rising (w ∷ ws) → In v (w ∷ ws) → In w (v ∷ vs) → v ≡ w
one_head v w vs ws r q i j = ⊎_elim
    (λ (e : v ≡ w). e)
    (λ (k : In v ws). ⊎_elim
    (λ (e : w ≡ v). sym e)
    (λ (l : In w vs). absurd (not_less v.start (start_total.trans v w v (below v w vs r.0 l) (below w v ws q.0 k))))
    j)
    i

module _ (test : Version → Bool) where
  in_filter : (v : Version) (ws : List Version) → In v (filter test ws) → In v ws
  in_filter v [] i = i
  in_filter v (w ∷ ws) i = here (test w) i (in_filter v ws)
    where
      here : (b : Bool) → In v (if b then w ∷ filter test ws else filter test ws) → (In v (filter test ws) → In v ws) → (v ≡ w) ⊎ In v ws
      here true j k = ⊎_elim (λ (e : v ≡ w). inl e) (λ (l : In v (filter test ws)). inr (k l)) j
      here false j k = inr (k j)

  passes : (b : Bool) (v : Version) (xs : List Version) → b ≡ true → In v (if b then v ∷ xs else xs)
  passes true v xs e = inl refl
  passes false v xs e = cc

without : (b : Bool) (v : Version) (xs ys : List Version) → (if b then v ∷ xs else xs) ≡ (if b then v ∷ ys else ys) → xs ≡ ys
without true v xs ys e = cc
without false v xs ys e = e

module _ (test : Version → Bool) where
  abbrev other : Version → Bool
  other v = not (test v)

  found_too : (v : Version) (vs ws : List Version) (b : Bool) → test v ≡ b → filter test (v ∷ vs) ≡ filter test ws → filter other (v ∷ vs) ≡ filter other ws → In v ws
  found_too v vs ws true e f g = in_filter test v ws (subst (In v) f (passes test (test v) v (filter test vs) e))
  found_too v vs ws false e f g = in_filter other v ws (subst (In v) g (passes other (other v) v (filter other vs) (ap not e)))

  pub by_test : (V W : List Version) → Rising V → Rising W → filter test V ≡ filter test W → filter other V ≡ filter other W → V ≡ W
  by_test [] [] r q f g = refl
  by_test [] (w ∷ ws) r q f g = absurd (found_too w ws [] (test w) refl (sym f) (sym g))
  by_test (v ∷ vs) [] r q f g = absurd (found_too v vs [] (test v) refl f g)
  by_test (v ∷ vs) (w ∷ ws) r q f g =
      let e : v ≡ w = one_head v w vs ws r q (found_too v vs (w ∷ ws) (test v) refl f g) (found_too w ws (v ∷ vs) (test w) refl (sym f) (sym g)) in
      let rest : vs ≡ ws = by_test vs ws r.1 q.1
      (without (test v) v (filter test vs) (filter test ws) (f ∙ ap (λ (u : Version). filter test (u ∷ ws)) (sym e)))
      (without (other v) v (filter other vs) (filter other ws) (g ∙ ap (λ (u : Version). filter other (u ∷ ws)) (sym e))) in
      λ i. e i ∷ rest i
