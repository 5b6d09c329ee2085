-- What INSERT and UPDATE keep of a row fits the columns.
use Rattle.std.proofs.Common.{◌≡◌, ◌≢◌, ℕ, ℤ, suc, refl, sym, ap, subst, ◌∙◌, Bool, true, false, List, [], ◌∷◌, map, length, Option, Some, None, Ok, Err}
use Rattle.std.specs.Prelude.{if◌then◌else◌, ◌==◌}
use Rattle.std.specs.List.{zip}
use Rattle.sql_value.specs.declared.value.Value.{Value}
use Rattle.sql_value.specs.declared.value.Value.TheVariants as val
use Rattle.sql_value.specs.declared.sql_type.SqlType.{SqlType}
use Rattle.sql_value.specs.declared.sql_type.SqlType.TheVariants as t
use Rattle.sql_value.specs.declared.refusal.ValueErr.{ValueErr}
use Rattle.sql_value.specs.declared.refusal.ValueErr.TheVariants.{Mismatch}
use Rattle.sql_value.specs.declared.column.ColumnDef.{ColumnDef}
use Rattle.sql_value.specs.declared.refusal.Refusal.TheVariants.{NullNotAllowed}
use Rattle.sql_value.specs.declared.expr.Expr.{Expr}
use Rattle.sql_value.specs.Conversion.{Converted, only_if, whole_to, number_to, day_or_mismatch, text_to, bytes_to, day_to, converted, conversion_of}
use Rattle.sql_value.specs.Day.{day_of}
use Rattle.sql_value.specs.Stored.{is_in_range, is_stored}
use Rattle.sql_value.proofs.Storing.{made_stored}
use Rattle.sql_types.specs.declared.version.TypedValue.{TypedValue}
use Rattle.sql_types.specs.declared.version.Version.{Version}
use Rattle.spec_model.specs.Refusals.{Checked, and_then}
use Rattle.spec_model.specs.Lists.{checked_map}
use Rattle.spec_model.specs.Rows.{Row, stored_value, stored_row, value_or_null, filled_stored}
use Rattle.spec_model.specs.Evaluation.{meaning_of}
use Rattle.spec_model.specs.Parts.{base_row}
use Rattle.spec_model.specs.Changes.{or_its_refusal, kept, kept_row, expr_set, as_value, value_set, row_after_set}
use Rattle.law_frame.proofs.Checked.{Led, led}
use Rattle.law_frame.proofs.Filled.{filled_values}
use Rattle.law_journal.specs.Fits.{FitsColumn, Fits, FitsSoFar}
use Rattle.law_journal.proofs.SoFar.{filled_fit}

-- ---- conversion makes no NULL

abbrev Null : Value
Null = val.Null

if_made : (b : Bool) (m : Converted) → (if b then m else Err Mismatch) ≡ Ok Null → m ≡ Ok Null
if_made true m e = e
if_made false m e = cc

only : (b : Bool) (r : ValueErr) (v : Value) → only_if b r v ≡ Ok Null → v ≡ Null
only true r v e = cc
only false r v e = cc

whole_made : (ty : SqlType) (v : ℤ) → whole_to ty v ≡ Ok Null → ⊥
whole_made t.Bit v e = cc
whole_made t.Int v e = let k = only _ _ _ e in cc
whole_made t.BigInt v e = let k = only _ _ _ e in cc
whole_made (t.Decimal p s) v e = cc
whole_made (t.NVarChar n) v e = cc
whole_made (t.VarBinary n) v e = cc
whole_made t.Date v e = cc

number_made : (ty : SqlType) (v : ℤ) (s : ℕ) → number_to ty v s ≡ Ok Null → ⊥
number_made t.Bit v s e = whole_made t.Bit v (if_made (s == 0) (whole_to t.Bit v) e)
number_made t.Int v s e = whole_made t.Int v (if_made (s == 0) (whole_to t.Int v) e)
number_made t.BigInt v s e = whole_made t.BigInt v (if_made (s == 0) (whole_to t.BigInt v) e)
number_made (t.Decimal p z) v s e = let k = only _ _ _ e in cc
number_made (t.NVarChar n) v s e = whole_made (t.NVarChar n) v (if_made (s == 0) (whole_to (t.NVarChar n) v) e)
number_made (t.VarBinary n) v s e = whole_made (t.VarBinary n) v (if_made (s == 0) (whole_to (t.VarBinary n) v) e)
number_made t.Date v s e = whole_made t.Date v (if_made (s == 0) (whole_to t.Date v) e)

day_made : (o : Option ℕ) → day_or_mismatch o ≡ Ok Null → ⊥
day_made (Some d) e = cc
day_made None e = cc

text_made : (ty : SqlType) (x : List ℕ) → text_to ty x ≡ Ok Null → ⊥
text_made t.Bit x e = cc
text_made t.Int x e = cc
text_made t.BigInt x e = cc
text_made (t.Decimal p z) x e = cc
text_made (t.NVarChar n) x e = let k = only _ _ _ e in cc
text_made (t.VarBinary n) x e = cc
text_made t.Date x e = day_made (day_of x) e

bytes_made : (ty : SqlType) (x : List ℕ) → bytes_to ty x ≡ Ok Null → ⊥
bytes_made t.Bit x e = cc
bytes_made t.Int x e = cc
bytes_made t.BigInt x e = cc
bytes_made (t.Decimal p z) x e = cc
bytes_made (t.NVarChar n) x e = cc
bytes_made (t.VarBinary n) x e = let k = only _ _ _ e in cc
bytes_made t.Date x e = cc

date_made : (ty : SqlType) (d : ℕ) → day_to ty d ≡ Ok Null → ⊥
date_made t.Bit x e = cc
date_made t.Int x e = cc
date_made t.BigInt x e = cc
date_made (t.Decimal p z) x e = cc
date_made (t.NVarChar n) x e = cc
date_made (t.VarBinary n) x e = cc
date_made t.Date x e = let k = only _ _ _ e in cc

null_made : (v : Value) (ty : SqlType) → conversion_of v ty ≡ Ok Null → v ≡ Null
unfolding conversion_of
null_made val.Null ty e = refl
null_made (val.Num s v) ty e = absurd (number_made ty v s (if_made (is_in_range ty) (converted ty (val.Num s v)) e))
null_made (val.Text x) ty e = absurd (text_made ty x (if_made (is_in_range ty) (converted ty (val.Text x)) e))
null_made (val.Bytes x) ty e = absurd (bytes_made ty x (if_made (is_in_range ty) (converted ty (val.Bytes x)) e))
null_made (val.Date d) ty e = absurd (date_made ty d (if_made (is_in_range ty) (converted ty (val.Date d)) e))

-- ---- a value

-- what isn't NULL and is stored by the type fits
pub fits_stored : (c : ColumnDef) (w : Value) → w ≢ Null → is_stored w c.ty ≡ true → FitsColumn c (stored_value c w)
fits_stored c val.Null ne s = absurd (ne refl)
fits_stored c (val.Num z v) ne s = (refl, ne, s)
fits_stored c (val.Text x) ne s = (refl, ne, s)
fits_stored c (val.Bytes x) ne s = (refl, ne, s)
fits_stored c (val.Date d) ne s = (refl, ne, s)

was_made : (m : Converted) (w : Value) → or_its_refusal m ≡ Ok w → m ≡ Ok w
was_made (Ok v) w e = cc
was_made (Err r) w e = cc

converted_fits : (c : ColumnDef) (v w : Value) → v ≢ Null → conversion_of v c.ty ≡ Ok w → FitsColumn c (stored_value c w)
converted_fits c v w ne e = fits_stored c w (λ is. ne (null_made v c.ty (e ∙ ap (λ (x : Value). Ok x) is))) (made_stored v w c.ty e)

null_fits : (c : ColumnDef) (w : Value) (b : Bool) → c.nullable ≡ b → (if b then Ok Null else Err NullNotAllowed) ≡ Ok w → FitsColumn c (stored_value c w)
null_fits c w true is e = let same : Null ≡ w = cc in subst (λ (x : Value). FitsColumn c (stored_value c x)) same is
null_fits c w false is e = cc

pub kept_fits : (c : ColumnDef) (v w : Value) → kept c v ≡ Ok w → FitsColumn c (stored_value c w)
unfolding kept
kept_fits c val.Null w e = null_fits c w c.nullable refl e
kept_fits c (val.Num s v) w e = converted_fits c (val.Num s v) w (λ k. cc) (was_made (conversion_of (val.Num s v) c.ty) w e)
kept_fits c (val.Text x) w e = converted_fits c (val.Text x) w (λ k. cc) (was_made (conversion_of (val.Text x) c.ty) w e)
kept_fits c (val.Bytes x) w e = converted_fits c (val.Bytes x) w (λ k. cc) (was_made (conversion_of (val.Bytes x) c.ty) w e)
kept_fits c (val.Date d) w e = converted_fits c (val.Date d) w (λ k. cc) (was_made (conversion_of (val.Date d) c.ty) w e)

-- ---- a row

abbrev kept_at : ColumnDef × Value → Checked Value
kept_at p = kept p.0 p.1

less : (m n : ℕ) → suc m ≡ suc n → m ≡ n
less m n e = cc

kept_all_fit : (columns : List ColumnDef) (row out : Row) → length row ≡ length columns → checked_map kept_at (zip columns row) ≡ Ok out → Fits columns (stored_row columns out)
kept_all_fit [] [] [] l e = tt
kept_all_fit [] [] (y ∷ ys) l e = cc
kept_all_fit [] (v ∷ vs) out l e = cc
kept_all_fit (c ∷ cs) [] out l e = cc
kept_all_fit (c ∷ cs) (v ∷ vs) out l e =
    let h : Led (kept c v) (λ y. and_then (checked_map kept_at (zip cs vs)) (λ ys. Ok (y ∷ ys))) out = led _ _ out e in
    let k : Led (checked_map kept_at (zip cs vs)) (λ ys. Ok (h.value ∷ ys)) out = led _ _ out h.then_ in
    let is : h.value ∷ k.value ≡ out = cc in
    subst (λ (r : Row). Fits (c ∷ cs) (stored_row (c ∷ cs) r)) is (kept_fits c v h.value h.was, kept_all_fit cs vs k.value (less (length vs) (length cs) l) k.was)

pub kept_row_fits : (columns : List ColumnDef) (row out : Row) → length row ≡ length columns → kept_row columns row ≡ Ok out → Fits columns (stored_row columns out)
unfolding kept_row
kept_row_fits columns row out l e = kept_all_fit columns row out l e

-- ---- SET

stays_fit : (c : ColumnDef) (o : Option TypedValue) → FitsColumn c o → FitsColumn c (stored_value c (value_or_null o))
stays_fit c None h = h
stays_fit c (Some x) h = fits_stored c x.value h.1 h.2

set_fits : (columns : List ColumnDef) (row : Row) (c : ColumnDef) (o : Option TypedValue) (w : Value) (x : Option Expr) → FitsColumn c o → value_set columns row c (value_or_null o) x ≡ Ok w → FitsColumn c (stored_value c w)
set_fits columns row c o w None h e = let same : value_or_null o ≡ w = cc in subst (λ (y : Value). FitsColumn c (stored_value c y)) same (stays_fit c o h)
set_fits columns row c o w (Some x) h e =
    let l : Led (meaning_of _ row x) (λ y. and_then (as_value y) (kept c)) w = led _ _ w e in
    let k : Led (as_value l.value) (kept c) w = led _ _ w l.then_ in
    kept_fits c k.value w k.then_

module _ (columns : List ColumnDef) (sets : List (List ℕ × Expr)) (row : Row) where
  abbrev set_at : ColumnDef × Value → Checked Value
  set_at p = value_set columns row p.0 p.1 (expr_set sets p.0.name)

  sets_fit : (cs : List ColumnDef) (os : List (Option TypedValue)) (out : Row) → Fits cs os → checked_map set_at (zip cs (map value_or_null os)) ≡ Ok out → Fits cs (stored_row cs out)
  sets_fit [] [] [] h e = tt
  sets_fit [] [] (y ∷ ys) h e = cc
  sets_fit [] (o ∷ os) out h e = absurd h
  sets_fit (c ∷ cs) [] out h e = absurd h
  sets_fit (c ∷ cs) (o ∷ os) out h e =
      let l : Led (set_at (c, value_or_null o)) (λ y. and_then (checked_map set_at (zip cs (map value_or_null os))) (λ ys. Ok (y ∷ ys))) out = led _ _ out e in
      let k : Led (checked_map set_at (zip cs (map value_or_null os))) (λ ys. Ok (l.value ∷ ys)) out = led _ _ out l.then_ in
      let is : l.value ∷ k.value ≡ out = cc in
      subst (λ (r : Row). Fits (c ∷ cs) (stored_row (c ∷ cs) r)) is (set_fits columns row c o l.value (expr_set sets c.name) h.0 l.was, sets_fit cs os k.value h.1 k.was)

pub row_set_fits : (columns : List ColumnDef) (sets : List (List ℕ × Expr)) (v : Version) (out : Row) → FitsSoFar columns v.values → row_after_set columns sets v ≡ Ok out → Fits columns (stored_row columns out)
unfolding row_after_set
row_set_fits columns sets v out h e =
    sets_fit columns sets (base_row columns v) columns (filled_stored columns v.values) out (filled_fit columns v.values h)
    (subst (λ (r : Row). checked_map (set_at columns sets (base_row columns v)) (zip columns r) ≡ Ok out) (sym (filled_values columns v.values)) e)
