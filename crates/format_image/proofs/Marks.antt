-- Columns with the marks of those that were dropped, and the ordinals of these.
use Rattle.std.proofs.Common.{◌≡◌, ◌≤◌, ◌<◌, ◌+◌, ℕ, suc, Bool, true, false, List, [], ◌∷◌, ◌++◌, length, refl, sym, ap, subst, ◌∙◌, arith, append_assoc, append-nil}
use Rattle.std.specs.Prelude.{◌==◌, ◌&&◌, nat_lt, nat_le, if◌then◌else◌, flat_map, All}
use Rattle.std.specs.List.{list_any}
use Rattle.std.proofs.lemmas.Bool.{and_parts, eqb-true, lt-ltb}
use Rattle.std.proofs.lemmas.Bool.Decides.{nat_tests}
use Rattle.std.proofs.lemmas.List.Elements.{All-head, All-tail}
use Rattle.sql_value.specs.declared.column.ColumnDef.{ColumnDef}
use Rattle.spec_model.specs.Lists.{rise_within}
use Rattle.format_image.specs.declared.version.ImageVersion.{ImageVersion}
use Rattle.format_image.specs.DefBytes.{MarkedColumn, column_bytes, IsColumn, marked, begins_with}
use Rattle.format_image.specs.ImageReading.{without_marks, dropped_among}

-- ---- rising ordinals

record Head (last limit d : ℕ) (ds : List ℕ) : Type 0 where
  above : last < d
  within : d ≤ limit
  tail : rise_within d limit ds ≡ true

head_of : (last limit d : ℕ) (ds : List ℕ) → rise_within last limit (d ∷ ds) ≡ true → Head last limit d ds
head_of last limit d ds e =
    let p = and_parts (nat_lt last d && nat_le d limit) (rise_within d limit ds) e in
    let q = and_parts (nat_lt last d) (nat_le d limit) p.0 in
    let low : nat_lt last d ≡ true = q.0 in
    let high : nat_le d limit ≡ true = q.1 in
    record { above = grind (arith, nat_tests, low); within = grind (arith, nat_tests, high); tail = p.1 }

rise_of : (last limit d : ℕ) (ds : List ℕ) → last < d → d ≤ limit → rise_within d limit ds ≡ true → rise_within last limit (d ∷ ds) ≡ true
rise_of last limit d ds above within tail =
    let low : nat_lt last d ≡ true = lt-ltb last d above in
    let high : nat_le d limit ≡ true = grind (arith, nat_tests, within) in
    rw (low, high) tail

rise_lower : (last limit : ℕ) (ds : List ℕ) → rise_within (suc last) limit ds ≡ true → rise_within last limit ds ≡ true
rise_lower last limit [] e = refl
rise_lower last limit (d ∷ ds) e =
    let h = head_of (suc last) limit d ds e in
    let above = h.above in
    rise_of last limit d ds (omega (arith, above)) h.within h.tail

-- none of them is as low as this
none_low : (m last limit : ℕ) (ds : List ℕ) → m ≤ last → rise_within last limit ds ≡ true → list_any (λ d. d == m) ds ≡ false
none_low m last limit [] le e = refl
none_low m last limit (d ∷ ds) le e =
    let h = head_of last limit d ds e in
    let above = h.above in
    let other : (d == m) ≡ false = grind (arith, nat_tests, le, above) in
    rw other (none_low m d limit ds (omega (arith, le, above)) h.tail)

-- an ordinal before the first column marks none
passed : (d n : ℕ) (ds : List ℕ) (cs : List ColumnDef) → d < n → marked (d ∷ ds) n cs ≡ marked ds n cs
passed d n ds [] lt = refl
passed d n ds (c ∷ cs) lt =
    let other : (d == n) ≡ false = grind (arith, nat_tests, lt) in
    rw other (ap (λ (l : List MarkedColumn). (c, list_any (λ e. e == n) ds) ∷ l) (passed d (suc n) ds cs (omega (arith, lt))))

-- ---- the first column

-- what the first of the ordinals says of the column with this one
pub record Begun (n limit : ℕ) (ds : List ℕ) : Type 0 where
  pub flag : list_any (λ d. d == n) ds ≡ (begins_with n ds).0
  pub later : (cs : List ColumnDef) → marked ds (suc n) cs ≡ marked (begins_with n ds).1 (suc n) cs
  pub rise : rise_within n limit (begins_with n ds).1 ≡ true
  pub parts : ds ≡ (if (begins_with n ds).0 then n ∷ (begins_with n ds).1 else (begins_with n ds).1)

pub begun : (last limit : ℕ) (ds : List ℕ) → rise_within last limit ds ≡ true → Begun (suc last) limit ds
begun last limit [] e = record { flag = refl; later = λ cs. refl; rise = refl; parts = refl }
begun last limit (d ∷ ds) e = here (d == suc last) refl
  where
    h : Head last limit d ds
    h = head_of last limit d ds e

    here : (b : Bool) → (d == suc last) ≡ b → Begun (suc last) limit (d ∷ ds)
    here true is =
        let same : d ≡ suc last = eqb-true _ _ is in
        record {
          flag = rw is refl;
          later = λ cs. rw is (passed d (suc (suc last)) ds cs (omega (arith, same)));
          rise = rw is (subst (λ (m : ℕ). rise_within m limit ds ≡ true) same h.tail);
          parts = rw is (ap (λ (m : ℕ). m ∷ ds) same);
        }
    here false is =
        let above = h.above in
        let after : suc last < d = grind (arith, nat_tests, is, above) in
        record {
          flag = rw is (none_low (suc last) d limit ds (omega (arith, after)) h.tail);
          later = λ cs. rw is refl;
          rise = rw is (rise_of (suc last) limit d ds after h.within h.tail);
          parts = rw is refl;
        }

-- ---- marks and ordinals are one another

pub without_marked : (ds : List ℕ) (n : ℕ) (cs : List ColumnDef) → without_marks (marked ds n cs) ≡ cs
without_marked ds n [] = refl
without_marked ds n (c ∷ cs) = ap (λ (l : List ColumnDef). c ∷ l) (without_marked ds (suc n) cs)

pub length-marked : (ds : List ℕ) (n : ℕ) (cs : List ColumnDef) → length (marked ds n cs) ≡ length cs
length-marked ds n [] = refl
length-marked ds n (c ∷ cs) = ap suc (length-marked ds (suc n) cs)

pub dropped_marked : (cs : List ColumnDef) (last : ℕ) (ds : List ℕ) → rise_within last (last + length cs) ds ≡ true
    → dropped_among (suc last) (marked ds (suc last) cs) ≡ ds
dropped_marked [] last [] e = refl
dropped_marked [] last (d ∷ ds) e =
    let h = head_of last (last + 0) d ds e in
    let above = h.above in
    let within = h.within in
    absurd (omega (arith, above, within))
dropped_marked (c ∷ cs) last ds e =
    let k = begun last (last + suc (length cs)) ds e in
    let b = begins_with (suc last) ds in
    let limit : last + suc (length cs) ≡ suc last + length cs = omega arith in
    let rise : rise_within (suc last) (suc last + length cs) b.1 ≡ true = subst (λ (m : ℕ). rise_within (suc last) m b.1 ≡ true) limit k.rise in
    let next : dropped_among (suc (suc last)) (marked b.1 (suc (suc last)) cs) ≡ b.1 = dropped_marked cs (suc last) b.1 rise in
    ap (λ (f : Bool). if f then suc last ∷ dropped_among (suc (suc last)) (marked ds (suc (suc last)) cs) else dropped_among (suc (suc last)) (marked ds (suc (suc last)) cs)) k.flag
    ∙ ap (λ (l : List MarkedColumn). if b.0 then suc last ∷ dropped_among (suc (suc last)) l else dropped_among (suc (suc last)) l) (k.later cs)
    ∙ ap (λ (l : List ℕ). if b.0 then suc last ∷ l else l) next
    ∙ sym k.parts

pub dropped_rise : (ms : List MarkedColumn) (last limit : ℕ) → last + length ms ≤ limit → rise_within last limit (dropped_among (suc last) ms) ≡ true
dropped_rise [] last limit le = refl
dropped_rise (m ∷ ms) last limit le = here m.1 (dropped_rise ms (suc last) limit (omega (arith, le)))
  where
    here : (b : Bool) → rise_within (suc last) limit (dropped_among (suc (suc last)) ms) ≡ true
        → rise_within last limit (if b then suc last ∷ dropped_among (suc (suc last)) ms else dropped_among (suc (suc last)) ms) ≡ true
    here true k = rise_of last limit (suc last) (dropped_among (suc (suc last)) ms) (omega arith) (omega (arith, le)) k
    here false k = rise_lower last limit (dropped_among (suc (suc last)) ms) k

pub marks_back : (ms : List MarkedColumn) (last : ℕ) → marked (dropped_among (suc last) ms) (suc last) (without_marks ms) ≡ ms
marks_back [] last = refl
marks_back (m ∷ ms) last = here (marks_back ms (suc last)) m.0 m.1
  where
    more : List ℕ
    more = dropped_among (suc (suc last)) ms

    here : marked more (suc (suc last)) (without_marks ms) ≡ ms → (c : ColumnDef) (b : Bool) → marked (if b then suc last ∷ more else more) (suc last) (c ∷ without_marks ms) ≡ (c, b) ∷ ms
    here next c true =
        let own : (suc last == suc last) ≡ true = grind (arith, nat_tests) in
        rw own (ap (λ (l : List MarkedColumn). (c, true) ∷ l) (passed (suc last) (suc (suc last)) more (without_marks ms) (omega arith) ∙ next))
    here next c false =
        let none : list_any (λ d. d == suc last) more ≡ false = none_low (suc last) (suc last) (suc last + length ms) more (omega arith) (dropped_rise ms (suc last) (suc last + length ms) (omega arith)) in
        rw none (ap (λ (l : List MarkedColumn). (c, false) ∷ l) next)

-- ---- writing

-- a column is put, and what is left of the ordinals goes on
pub put_goes_on : (version : ImageVersion) (c : ColumnDef) (cs : List ColumnDef) (left : List ℕ) (last limit : ℕ) (out then_out total : List ℕ)
    → rise_within last limit left ≡ true → then_out ≡ out ++ column_bytes version (c, (begins_with (suc last) left).0)
    → out ++ flat_map (column_bytes version) (marked left (suc last) (c ∷ cs)) ≡ total
    → then_out ++ flat_map (column_bytes version) (marked (begins_with (suc last) left).1 (suc (suc last)) cs) ≡ total
put_goes_on version c cs left last limit out then_out total e is so_far =
    let k = begun last limit left e in
    let b = begins_with (suc last) left in
    ap (λ (l : List ℕ). l ++ flat_map (column_bytes version) (marked b.1 (suc (suc last)) cs)) is
    ∙ append_assoc out (column_bytes version (c, b.0)) (flat_map (column_bytes version) (marked b.1 (suc (suc last)) cs))
    ∙ ap (λ (l : List MarkedColumn). out ++ (column_bytes version (c, b.0) ++ flat_map (column_bytes version) l)) (sym (k.later cs))
    ∙ ap (λ (f : Bool). out ++ (column_bytes version (c, f) ++ flat_map (column_bytes version) (marked left (suc (suc last)) cs))) (sym k.flag)
    ∙ so_far

module _ (version : ImageVersion) (total : List ℕ) (columns : List ColumnDef) where
  -- what is still to be put behind what was, of these columns
  pub record ColumnsLeft (out : List ℕ) (rest : List ColumnDef) (left : List ℕ) (before : ℕ) : Type 0 where
    pub bytes : out ++ flat_map (column_bytes version) (marked left (suc before) rest) ≡ total
    pub each : All IsColumn rest
    pub rise : rise_within before (length columns) left ≡ true
    pub count : before + length rest ≡ length columns

  module _ (out : List ℕ) (rest : List ColumnDef) (left : List ℕ) (before : ℕ) (c : ColumnDef) (more : List ColumnDef) (is : rest ≡ c ∷ more) (h : ColumnsLeft out rest left before) where
    pub one_is_column : IsColumn c
    one_is_column = All-head IsColumn c more (subst (All IsColumn) is h.each)

    pub few_before : before < length columns
    few_before = let one : length rest ≡ suc (length more) = ap length is in let all = h.count in omega (arith, one, all)

    pub columns_next : (then_out : List ℕ) (flag : Bool) (later : List ℕ) → (flag, later) ≡ begins_with (before + 1) left → then_out ≡ out ++ column_bytes version (c, flag)
        → ColumnsLeft then_out more later (before + 1)
    columns_next then_out flag later begins put =
        let at : before + 1 ≡ suc before = omega arith in
        let parts : (flag, later) ≡ begins_with (suc before) left = begins ∙ ap (λ (n : ℕ). begins_with n left) at in
        let flag_is : flag ≡ (begins_with (suc before) left).0 = ap (λ (p : Bool × List ℕ). p.0) parts in
        let later_is : later ≡ (begins_with (suc before) left).1 = ap (λ (p : Bool × List ℕ). p.1) parts in
        let put_so : then_out ≡ out ++ column_bytes version (c, (begins_with (suc before) left).0) = put ∙ ap (λ (f : Bool). out ++ column_bytes version (c, f)) flag_is in
        let so_far : out ++ flat_map (column_bytes version) (marked left (suc before) (c ∷ more)) ≡ total =
        ap (λ (cs : List ColumnDef). out ++ flat_map (column_bytes version) (marked left (suc before) cs)) (sym is) ∙ h.bytes in
        let one : length rest ≡ suc (length more) = ap length is in
        let all = h.count in
        record {
          bytes = ap (λ (n : ℕ). then_out ++ flat_map (column_bytes version) (marked later (suc n) more)) at
              ∙ ap (λ (l : List ℕ). then_out ++ flat_map (column_bytes version) (marked l (suc (suc before)) more)) later_is
              ∙ put_goes_on version c more left before (length columns) out then_out total h.rise put_so so_far;
          each = All-tail IsColumn c more (subst (All IsColumn) is h.each);
          rise = ap (λ (n : ℕ). rise_within n (length columns) later) at ∙ ap (rise_within (suc before) (length columns)) later_is
              ∙ (begun before (length columns) left h.rise).rise;
          count = omega (arith, one, all);
        }

  pub columns_end : (out : List ℕ) (rest : List ColumnDef) (left : List ℕ) (before : ℕ) → rest ≡ [] → ColumnsLeft out rest left before → out ≡ total
  columns_end out rest left before is h =
      sym (append-nil out) ∙ ap (λ (cs : List ColumnDef). out ++ flat_map (column_bytes version) (marked left (suc before) cs)) (sym is) ∙ h.bytes

pub columns_start : (version : ImageVersion) (out : List ℕ) (columns : List ColumnDef) (dropped : List ℕ) → All IsColumn columns → rise_within 0 (length columns) dropped ≡ true
    → ColumnsLeft version (out ++ flat_map (column_bytes version) (marked dropped 1 columns)) columns out columns dropped 0
columns_start version out columns dropped each rise = record { bytes = refl; each = each; rise = rise; count = omega arith }
