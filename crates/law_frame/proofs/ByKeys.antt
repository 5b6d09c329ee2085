-- Versions by rising start are the same where those of each key are.
use Rattle.std.proofs.Common.{◌≡◌, ◌⊎◌, refl, sym, ap, subst, ◌∙◌, Bool, true, false, List, [], ◌∷◌, inl, inr, ⊎_elim}
use Rattle.std.specs.Prelude.{if◌then◌else◌}
use Rattle.std.specs.List.{AllByRecursion, filter}
use Rattle.std.specs.declared.cmp.Ordering.TheVariants.{Less}
use Rattle.sql_value.specs.declared.column.ColumnDef.{ColumnDef}
use Rattle.sql_types.specs.declared.version.Version.{Version}
use Rattle.spec_model.specs.Rows.{start_cmp}
use Rattle.spec_model.specs.Keys.{Key, same_key, version_key, of_key}
use Rattle.spec_model.specs.Runs.{Rising}
use Rattle.law_frame.proofs.SameKeys.{same_itself, not_less}
use Rattle.law_frame.proofs.Sounds.{start_total}

In : Version → List Version → Type 0
In v [] = ⊥
In v (w ∷ ws) = (v ≡ w) ⊎ In v ws

module _ (test : Version → Bool) where
  in_branch : (b : Bool) (v w : Version) (xs ys : List Version) → In v (if b then w ∷ xs else xs) → (In v xs → In v ys) → In v (w ∷ ys)
  unfolding In
  in_branch true v w xs ys i k = ⊎_elim (λ (e : v ≡ w). inl e) (λ (j : In v xs). inr (k j)) i
  in_branch false v w xs ys i k = inr (k i)

  in_filter : (v : Version) (ws : List Version) → In v (filter test ws) → In v ws
  in_filter v [] i = i
  in_filter v (w ∷ ws) i = in_branch (test w) v w (filter test ws) ws i (λ j. in_filter v ws j)

  passes : (b : Bool) (v : Version) (xs : List Version) → b ≡ true → In v (if b then v ∷ xs else xs)
  unfolding In
  passes true v xs e = inl refl
  passes false v xs e = cc

  without : (b : Bool) (v : Version) (xs ys : List Version) → (if b then v ∷ xs else xs) ≡ (if b then v ∷ ys else ys) → xs ≡ ys
  without true v xs ys e = cc
  without false v xs ys e = e

below : (w v : Version) (ws : List Version) → AllByRecursion (λ u. start_cmp w u ≡ Less) ws → In v ws → start_cmp w v ≡ Less
unfolding In
below w v [] h i = absurd i
below w v (u ∷ us) h i = ⊎_elim (λ (e : v ≡ u). subst (λ (x : Version). start_cmp w x ≡ Less) (sym e) h.0) (λ (j : In v us). below w v us h.1 j) i

one_head : (v w : Version) (vs ws : List Version) → Rising (v ∷ vs) → Rising (w ∷ ws) → In v (w ∷ ws) → In w (v ∷ vs) → v ≡ w
unfolding In
one_head v w vs ws r q i j = ⊎_elim
    (λ (e : v ≡ w). e)
    (λ (k : In v ws). ⊎_elim
    (λ (e : w ≡ v). sym e)
    (λ (l : In w vs). absurd (not_less v.start (start_total.trans v w v (below v w vs r.0 l) (below w v ws q.0 k))))
    j)
    i

module _ (columns : List ColumnDef) where
  own : (v : Version) (vs : List Version) → In v (of_key columns (version_key columns v) (v ∷ vs))
  own v vs = passes (λ u. same_key (version_key columns u) (version_key columns v)) (same_key (version_key columns v) (version_key columns v)) v _ (same_itself (version_key columns v))

  found_too : (v : Version) (vs ws : List Version) → ((key : Key) → of_key columns key (v ∷ vs) ≡ of_key columns key ws) → In v ws
  found_too v vs ws h =
      in_filter (λ u. same_key (version_key columns u) (version_key columns v)) v ws (subst (In v) (h (version_key columns v)) (own v vs))

  pub by_keys : (V W : List Version) → Rising V → Rising W → ((key : Key) → of_key columns key V ≡ of_key columns key W) → V ≡ W
  unfolding In
  by_keys [] [] r q h = refl
  by_keys [] (w ∷ ws) r q h = absurd (found_too w ws [] (λ key. sym (h key)))
  by_keys (v ∷ vs) [] r q h = absurd (found_too v vs [] h)
  by_keys (v ∷ vs) (w ∷ ws) r q h =
      let e : v ≡ w = one_head v w vs ws r q (found_too v vs (w ∷ ws) h) (found_too w ws (v ∷ vs) (λ key. sym (h key))) in
      let rest : vs ≡ ws = by_keys vs ws r.1 q.1 (λ key. without (λ u. true) (same_key (version_key columns v) key) v (of_key columns key vs) (of_key columns key ws)
      (h key ∙ ap (λ (u : Version). of_key columns key (u ∷ ws)) (sym e))) in
      λ i. e i ∷ rest i
