-- Rows that fit so far: filled they fit, also with one column more and in altered columns, and where the last column may not be NULL they are whole.
use Rattle.std.proofs.Common.{◌≡◌, ◌≤◌, suc, refl, sym, ap, subst, ◌∙◌, true, false, List, [], ◌∷◌, ◌++◌, length, take, Option, Some, None, arith}
use Rattle.sql_value.specs.declared.column.ColumnDef.{ColumnDef}
use Rattle.sql_value.specs.declared.sql_type.SqlType.{SqlType}
use Rattle.sql_value.specs.Stored.{is_stored}
use Rattle.sql_types.specs.declared.version.TypedValue.{TypedValue}
use Rattle.spec_model.specs.Rows.{filled_stored}
use Rattle.law_frame.specs.Alters.{ColumnsStay}
use Rattle.law_journal.specs.Fits.{Fits, FitsSoFar}

pub so_far : (cs : List ColumnDef) (values : List (Option TypedValue)) → Fits cs values → FitsSoFar cs values
so_far [] [] h = tt
so_far [] (v ∷ vs) h = absurd h
so_far (c ∷ cs) [] h = absurd h
so_far (c ∷ cs) (v ∷ vs) h = (h.0, so_far cs vs h.1)

pub filled_fit : (cs : List ColumnDef) (values : List (Option TypedValue)) → FitsSoFar cs values → Fits cs (filled_stored cs values)
filled_fit [] [] h = tt
filled_fit [] (v ∷ vs) h = absurd h
filled_fit (c ∷ cs) [] h = (h.0, filled_fit cs [] h.1)
filled_fit (c ∷ cs) (v ∷ vs) h = (h.0, filled_fit cs vs h.1)

pub one_more_fits : (cs : List ColumnDef) (c : ColumnDef) (values : List (Option TypedValue)) → FitsSoFar cs values → c.nullable ≡ true → FitsSoFar (cs ++ c ∷ []) values
one_more_fits [] c [] h e = (e, tt)
one_more_fits [] c (v ∷ vs) h e = absurd h
one_more_fits (d ∷ cs) c [] h e = (h.0, one_more_fits cs c [] h.1 e)
one_more_fits (d ∷ cs) c (v ∷ vs) h e = (h.0, one_more_fits cs c vs h.1 e)

-- also the columns in the place of theirs
pub stay_fit : (cs ds : List ColumnDef) (values : List (Option TypedValue)) → ColumnsStay cs ds → FitsSoFar cs values → FitsSoFar ds values
stay_fit [] [] values s h = h
stay_fit [] (d ∷ ds) [] s h = (s.0, stay_fit [] ds [] s.2 h)
stay_fit [] (d ∷ ds) (v ∷ vs) s h = absurd h
stay_fit (c ∷ cs) [] values s h = absurd s
stay_fit (c ∷ cs) (d ∷ ds) [] s h = (s.2 h.0, stay_fit cs ds [] s.3 h.1)
stay_fit (c ∷ cs) (d ∷ ds) (None ∷ vs) s h = (s.2 h.0, stay_fit cs ds vs s.3 h.1)
stay_fit (c ∷ cs) (d ∷ ds) (Some t ∷ vs) s h = (
  (h.0.0 ∙ sym s.0, h.0.1, subst (λ (ty : SqlType). is_stored t.value ty ≡ true) (sym s.0) h.0.2),
  stay_fit cs ds vs s.3 h.1,
)

pub few : (cs : List ColumnDef) (values : List (Option TypedValue)) → FitsSoFar cs values → length values ≤ length cs
few [] [] h = omega arith
few [] (v ∷ vs) h = absurd h
few (c ∷ cs) [] h = omega arith
few (c ∷ cs) (v ∷ vs) h = omega (arith, few cs vs h.1)

pub fit_taken : (cs : List ColumnDef) (values : List (Option TypedValue)) → FitsSoFar cs values → Fits (take (length values) cs) values
fit_taken [] [] h = tt
fit_taken [] (v ∷ vs) h = absurd h
fit_taken (c ∷ cs) [] h = tt
fit_taken (c ∷ cs) (v ∷ vs) h = (h.0, fit_taken cs vs h.1)

pub as_many : (cs : List ColumnDef) (values : List (Option TypedValue)) → Fits cs values → length values ≡ length cs
as_many [] [] h = refl
as_many [] (v ∷ vs) h = absurd h
as_many (c ∷ cs) [] h = absurd h
as_many (c ∷ cs) (v ∷ vs) h = ap suc (as_many cs vs h.1)

wanted : (cs : List ColumnDef) (c : ColumnDef) → c.nullable ≡ false → FitsSoFar (cs ++ c ∷ []) [] → ⊥
wanted [] c e h = (let no : c.nullable ≡ true = h.0 in cc)
wanted (d ∷ cs) c e h = wanted cs c e h.1

pub whole : (cs : List ColumnDef) (c : ColumnDef) (values : List (Option TypedValue)) → c.nullable ≡ false → FitsSoFar (cs ++ c ∷ []) values → Fits (cs ++ c ∷ []) values
whole cs c [] e h = absurd (wanted cs c e h)
whole [] c (v ∷ []) e h = h
whole [] c (v ∷ w ∷ vs) e h = absurd h.1
whole (d ∷ cs) c (v ∷ vs) e h = (h.0, whole cs c vs e h.1)
