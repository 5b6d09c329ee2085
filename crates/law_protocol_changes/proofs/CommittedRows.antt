-- What a transaction outside the journal did leaves what is committed.
use Rattle.std.proofs.Common.{◌≡◌, ℕ, Bool, true, false, List, [], ◌∷◌, map, Option, Some, None, refl, ap, ap₂, ◌∙◌}
use Rattle.std.proofs.lemmas.Bool.{eqb-true}
use Rattle.std.specs.Prelude.{◌==◌, not, nat_le, if◌then◌else◌}
use Rattle.std.specs.List.{filter}
use Rattle.sql_types.specs.declared.journal.JournalItem.{JournalItem}
use Rattle.sql_types.specs.declared.version.Version.{Version}
use Rattle.spec_model.specs.Rows.{EventId}
use Rattle.spec_model.specs.Undo.{is_undone, end_left, end_undone, versions_undone}
use Rattle.law_frame.proofs.SameKeys.{and_true}
use Rattle.law_protocol_steps.proofs.OfCells.{committed, end_committed, in_journal, with_committed_end}

module _ (J : List JournalItem) (tx : ℕ) (outside : in_journal J (tx, 0) ≡ false) where
  undone_outside : (e : EventId) → is_undone tx 0 e ≡ true → in_journal J e ≡ false
  undone_outside e h = ap (λ (n : ℕ). in_journal J (n, e.1)) (eqb-true e.0 tx (and_true (e.0 == tx) (nat_le 0 e.1) h).0) ∙ outside

  end_same : (o : Option EventId) → end_committed J o ≡ end_committed J (end_left tx 0 o)
  end_same None = refl
  end_same (Some e) = by (is_undone tx 0 e) refl
    where
      by : (b : Bool) → is_undone tx 0 e ≡ b → end_committed J (Some e) ≡ end_committed J (if b then None else Some e)
      by true f = ap (λ (b : Bool). if b then Some e else None) (undone_outside e f)
      by false f = refl

  version_same : (v : Version) → with_committed_end J v ≡ with_committed_end J (end_undone tx 0 v)
  version_same v = ap (λ (o : Option EventId). record { values = v.values; start = v.start; end = o }) (end_same v.end)

  one : (v : Version) (a u : Bool) (xs ys : List Version) → in_journal J v.start ≡ a → is_undone tx 0 v.start ≡ u → map (with_committed_end J) xs ≡ map (with_committed_end J) (filter (λ w. in_journal J w.start) (map (end_undone tx 0) ys))
      → map (with_committed_end J) (if a then v ∷ xs else xs) ≡ map (with_committed_end J) (filter (λ w. in_journal J w.start) (map (end_undone tx 0) (if not u then v ∷ ys else ys)))
  one v true true xs ys e f h = absurd (let z = undone_outside v.start f in cc)
  one v true false xs ys e f h = rw e (ap₂ (λ (w : Version) (ws : List Version). w ∷ ws) (version_same v) h)
  one v false true xs ys e f h = h
  one v false false xs ys e f h = rw e h

  pub committed_undone : (vs : List Version) → committed J vs ≡ committed J (versions_undone tx 0 vs)
  committed_undone [] = refl
  committed_undone (v ∷ vs) = one v (in_journal J v.start) (is_undone tx 0 v.start) (filter (λ w. in_journal J w.start) vs) (filter (λ w. not (is_undone tx 0 w.start)) vs) refl refl (committed_undone vs)
