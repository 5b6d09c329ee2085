-- What was undone from a number on is undone with what is undone from a lower number on.
use Rattle.std.proofs.Common.{◌≡◌, ◌⊎◌, inl, inr, ⊎_elim, ℕ, ◌≤◌, Bool, true, false, List, [], ◌∷◌, map, Option, Some, None, refl, sym, ap, ◌∙◌, arith}
use Rattle.std.proofs.lemmas.Bool.Decides.{nat_tests}
use Rattle.std.specs.Prelude.{◌==◌, ◌&&◌, not, nat_le, if◌then◌else◌}
use Rattle.std.specs.List.{filter}
use Rattle.sql_types.specs.declared.version.Version.{Version}
use Rattle.spec_model.specs.Rows.{EventId}
use Rattle.spec_history.specs.Lists.{In}
use Rattle.law_protocol_changes.proofs.ChangedRows.{was_in}
use Rattle.spec_model.specs.Undo.{is_undone, end_left, end_undone, versions_undone}

below_too : (n m k : ℕ) → n ≤ m → nat_le m k ≡ true → nat_le n k ≡ true
below_too n m k l e = grind (arith, nat_tests, l, e)

undone_too : (tx n m : ℕ) (e : EventId) → n ≤ m → is_undone tx m e ≡ true → is_undone tx n e ≡ true
undone_too tx n m e l h = by (e.0 == tx) (nat_le m e.1) h (below_too n m e.1 l)
  where
    by : (b c : Bool) → (b && c) ≡ true → (c ≡ true → nat_le n e.1 ≡ true) → (b && nat_le n e.1) ≡ true
    by true true q f = f refl
    by true false q f = cc
    by false c q f = cc

end_twice : (tx n m : ℕ) (e : Option EventId) → n ≤ m → end_left tx n (end_left tx m e) ≡ end_left tx n e
end_twice tx n m None l = refl
end_twice tx n m (Some e) l = by (is_undone tx m e) refl
  where
    by : (b : Bool) → is_undone tx m e ≡ b → end_left tx n (if b then None else Some e) ≡ end_left tx n (Some e)
    by true q = rw (undone_too tx n m e l q) refl
    by false q = refl

pub undone_twice : (tx n m : ℕ) (vs : List Version) → n ≤ m → versions_undone tx n (versions_undone tx m vs) ≡ versions_undone tx n vs
undone_twice tx n m [] l = refl
undone_twice tx n m (v ∷ vs) l = by (is_undone tx m v.start) refl (undone_twice tx n m vs l)
  where
    last : (b : Bool) → (is_undone tx n v.start) ≡ b → versions_undone tx n (versions_undone tx m vs) ≡ versions_undone tx n vs
        → map (end_undone tx n) (if not b then end_undone tx m v ∷ filter (λ w. not (is_undone tx n w.start)) (versions_undone tx m vs) else filter (λ w. not (is_undone tx n w.start)) (versions_undone tx m vs))
        ≡ map (end_undone tx n) (if not b then v ∷ filter (λ w. not (is_undone tx n w.start)) vs else filter (λ w. not (is_undone tx n w.start)) vs)
    last true q h = h
    last false q h = ap (λ (e : Option EventId). record { values = v.values; start = v.start; end = e } ∷ versions_undone tx n (versions_undone tx m vs)) (end_twice tx n m v.end l)
        ∙ ap (λ (us : List Version). end_undone tx n v ∷ us) h

    by : (b : Bool) → is_undone tx m v.start ≡ b → versions_undone tx n (versions_undone tx m vs) ≡ versions_undone tx n vs
        → versions_undone tx n (map (end_undone tx m) (if not b then v ∷ filter (λ w. not (is_undone tx m w.start)) vs else filter (λ w. not (is_undone tx m w.start)) vs)) ≡ versions_undone tx n (v ∷ vs)
    by true q h = h ∙ rw (undone_too tx n m v.start l q) refl
    by false q h = last (is_undone tx n v.start) refl h

-- a version that is left was there, but for an end that was undone
pub record WasIn (vs : List Version) (w : Version) : Type 0 where
  pub was : Version
  pub there : In was vs
  pub values : w.values ≡ was.values
  pub start : w.start ≡ was.start
  pub end : (w.end ≡ None) ⊎ (w.end ≡ was.end)

module _ (tx n : ℕ) where
  end_or_not : (e : Option EventId) → (end_left tx n e ≡ None) ⊎ (end_left tx n e ≡ e)
  end_or_not None = inl refl
  end_or_not (Some e) = by (is_undone tx n e)
    where
      by : (b : Bool) → ((if b then None else Some e) ≡ None) ⊎ ((if b then None else Some e) ≡ Some e)
      by true = inl refl
      by false = inr refl

  was_mapped : (all : List Version) (w : Version) (vs : List Version) → ((u : Version) → In u vs → In u all) → In w (map (end_undone tx n) vs) → WasIn all w
  was_mapped all w [] sub h = absurd h
  was_mapped all w (u ∷ us) sub h = ⊎_elim
      (λ (e : end_undone tx n u ≡ w). record { was = u; there = sub u (inl refl); values = ap (λ (q : Version). q.values) (sym e); start = ap (λ (q : Version). q.start) (sym e); end = ⊎_elim (λ (q : end_left tx n u.end ≡ None). inl (ap (λ (r : Version). r.end) (sym e) ∙ q)) (λ (q : end_left tx n u.end ≡ u.end). inr (ap (λ (r : Version). r.end) (sym e) ∙ q)) (end_or_not u.end) })
      (λ (k : In w (map (end_undone tx n) us)). was_mapped all w us (λ q m. sub q (inr m)) k)
      h

  pub was_undone : (w : Version) (vs : List Version) → In w (versions_undone tx n vs) → WasIn vs w
  was_undone w vs h = was_mapped vs w (filter (λ u. not (is_undone tx n u.start)) vs) (λ u m. was_in (λ q. not (is_undone tx n q.start)) u vs m) h
