-- Columns that are declared, by their names.
use Rattle.std.proofs.Common.{◌≡◌, ◌<◌, ℕ, zero, suc, ◌+◌, refl, sym, ap, subst, ◌∙◌, Bool, true, false, List, [], ◌∷◌, length, map, Option, Some, None, get_or, arith}
use Rattle.std.proofs.lemmas.Bool.Decides.{nat_tests}
use Rattle.std.proofs.lemmas.List.Quantifiers.{position-Some}
use Rattle.std.specs.Prelude.{◌||◌, not, nat_lt, cond, is_some, position, if◌then◌else◌}
use Rattle.std.specs.List.{AllByRecursion, list_any, list_all, filter, position_or_len}
use Rattle.std.specs.Str.{bytes_eq}
use Rattle.sql_value.specs.declared.column.ColumnDef.{ColumnDef}
use Rattle.sql_types.specs.declared.table.TableDef.{TableDef}
use Rattle.spec_model.specs.Columns.{place_of}
use Rattle.spec_model.specs.Lists.{has_name, numbered, is_among, repeats, without}
use Rattle.spec_model.specs.LiveColumns.{live_columns}
use Rattle.spec_model.specs.Checks.{is_declared}
use Rattle.spec_model.specs.Create.{names_of, ordinal_at, ordinals_of}
use Rattle.law_frame.proofs.SameKeys.{and_true, or_false}
use Rattle.law_catalog_rows.proofs.Ordinals.{same_bytes}
use Rattle.law_catalog_rows.proofs.Tests.{or_second, or_follows}

-- ---- what is found

one_more : (m n : ℕ) → nat_lt (1 + m) (suc n) ≡ nat_lt m n
one_more m n = here (nat_lt m n) refl
  where
    here : (b : Bool) → nat_lt m n ≡ b → nat_lt (1 + m) (suc n) ≡ b
    here true e = grind (arith, nat_tests)
    here false e = grind (arith, nat_tests)

is_found : {A : Type 0} (p : A → Bool) (xs : List A) → nat_lt (position_or_len p xs) (length xs) ≡ list_any p xs
is_found p [] = refl
is_found p (x ∷ xs) = here (p x) (is_found p xs)
  where
    here : (b : Bool) → nat_lt (position_or_len p xs) (length xs) ≡ list_any p xs → nat_lt (cond (not b) (1 + position_or_len p xs) 0) (suc (length xs)) ≡ (b || list_any p xs)
    here true h = grind (arith, nat_tests)
    here false h = one_more (position_or_len p xs) (length xs) ∙ h

pub found_some : {A : Type 0} (p : A → Bool) (xs : List A) → is_some (position p xs) ≡ list_any p xs
found_some p xs = here (nat_lt (position_or_len p xs) (length xs)) ∙ is_found p xs
  where
    here : (b : Bool) → is_some (cond b (Some (position_or_len p xs)) None) ≡ b
    here true = refl
    here false = refl

by_name : (cs : List ColumnDef) (n : List ℕ) → list_any (λ c. bytes_eq c.name n) cs ≡ has_name (names_of cs) n
by_name [] n = refl
by_name (c ∷ cs) n = ap (λ (b : Bool). bytes_eq c.name n || b) (by_name cs n)

pub declared_is : (cs : List ColumnDef) (n : List ℕ) → is_declared cs n ≡ has_name (names_of cs) n
declared_is cs n = found_some (λ c. bytes_eq c.name n) cs ∙ by_name cs n

-- ---- columns that stand

-- those that weren't dropped
abbrev kept : List ℕ → ℕ → List ColumnDef → List (ℕ × ColumnDef)
kept dropped k cs = filter (λ p. not (is_among dropped p.0)) (numbered k cs)

has_kept : (dropped : List ℕ) (k : ℕ) (cs : List ColumnDef) (n : List ℕ) → has_name (names_of (map (λ p. p.1) (kept dropped k cs))) n ≡ true → has_name (names_of cs) n ≡ true
has_kept dropped k [] n e = cc
has_kept dropped k (c ∷ cs) n e = here (is_among dropped k) e (has_kept dropped (k + 1) cs n)
  where
    here : (b : Bool) → has_name (names_of (map (λ p. p.1) (if not b then (k, c) ∷ kept dropped (k + 1) cs else kept dropped (k + 1) cs))) n ≡ true
        → (has_name (names_of (map (λ p. p.1) (kept dropped (k + 1) cs))) n ≡ true → has_name (names_of cs) n ≡ true) → (bytes_eq c.name n || has_name (names_of cs) n) ≡ true
    here true h f = or_second (bytes_eq c.name n) (has_name (names_of cs) n) (f h)
    here false h f = or_follows (bytes_eq c.name n) (has_name (names_of (map (λ p. p.1) (kept dropped (k + 1) cs))) n) (has_name (names_of cs) n) f h

has_live : (dropped : List ℕ) (cs : List ColumnDef) (n : List ℕ) → has_name (names_of (without dropped cs)) n ≡ true → has_name (names_of cs) n ≡ true
has_live [] cs n e = e
has_live (d ∷ ds) cs n e = has_kept (d ∷ ds) 1 cs n e

-- a column that stands is declared
pub live_declared : (def : TableDef) (names : List (List ℕ)) → list_all (is_declared (live_columns def)) names ≡ true → list_all (is_declared def.columns) names ≡ true
live_declared def [] e = refl
live_declared def (n ∷ ns) e =
    let p = and_true (is_declared (live_columns def) n) (list_all (is_declared (live_columns def)) ns) e in
    let h : is_declared def.columns n ≡ true = declared_is def.columns n ∙ has_live def.dropped def.columns n (sym (declared_is (live_columns def) n) ∙ p.0) in
    rw h (live_declared def ns p.1)

-- ---- ordinals of columns that stand

name_at : (cs : List ColumnDef) (n : List ℕ) (i : ℕ) (d : ColumnDef) → i < length cs → bytes_eq (get_or cs i d).name n ≡ true → has_name (names_of cs) n ≡ true
name_at [] n i d lt e = absurd (omega (arith, lt))
name_at (c ∷ cs) n zero d lt e = rw e refl
name_at (c ∷ cs) n (suc i) d lt e = or_second (bytes_eq c.name n) (has_name (names_of cs) n) (name_at cs n i d (omega (arith, lt)) e)

-- a name that stands once isn't a later one's too
once : (cs : List ColumnDef) (c : ColumnDef) (n : List ℕ) → has_name (names_of cs) c.name ≡ false → bytes_eq c.name n ≡ true → has_name (names_of cs) n ≡ true → ⊥
once cs c n free e there =
    let h : has_name (names_of cs) c.name ≡ true = ap (has_name (names_of cs)) (same_bytes c.name n e) ∙ there in
    cc

module _ (dropped : List ℕ) (n : List ℕ) (d : ColumnDef) where
  kept_live : (k : ℕ) (cs : List ColumnDef) (i : ℕ) → i < length cs → bytes_eq (get_or cs i d).name n ≡ true → repeats (names_of cs) ≡ false
      → has_name (names_of (map (λ p. p.1) (kept dropped k cs))) n ≡ true → is_among dropped (k + i) ≡ false
  kept_live k [] i lt e differ h = absurd (omega (arith, lt))
  kept_live k (c ∷ cs) zero lt e differ h =
      let r = or_false (has_name (names_of cs) c.name) (repeats (names_of cs)) differ in
      let same : k ≡ k + 0 = omega arith in
      subst (λ (m : ℕ). is_among dropped m ≡ false) same (here (is_among dropped k) refl r.0 h)
    where
      here : (b : Bool) → is_among dropped k ≡ b → has_name (names_of cs) c.name ≡ false
          → has_name (names_of (map (λ p. p.1) (if not b then (k, c) ∷ kept dropped (k + 1) cs else kept dropped (k + 1) cs))) n ≡ true → is_among dropped k ≡ false
      here true is free f = absurd (once cs c n free e (has_kept dropped (k + 1) cs n f))
      here false is free f = is
  kept_live k (c ∷ cs) (suc i) lt e differ h =
      let r = or_false (has_name (names_of cs) c.name) (repeats (names_of cs)) differ in
      let within : i < length cs = omega (arith, lt) in
      let same : k + 1 + i ≡ k + suc i = omega arith in
      subst (λ (m : ℕ). is_among dropped m ≡ false) same (kept_live (k + 1) cs i within e r.1 (here (is_among dropped k) r.0 (name_at cs n i d within e) h))
    where
      there : (b : Bool) → bytes_eq c.name n ≡ b → has_name (names_of cs) c.name ≡ false → has_name (names_of cs) n ≡ true → (b || has_name (names_of (map (λ p. p.1) (kept dropped (k + 1) cs))) n) ≡ true
          → has_name (names_of (map (λ p. p.1) (kept dropped (k + 1) cs))) n ≡ true
      there true is free later f = absurd (once cs c n free is later)
      there false is free later f = f

      here : (b : Bool) → has_name (names_of cs) c.name ≡ false → has_name (names_of cs) n ≡ true
          → has_name (names_of (map (λ p. p.1) (if not b then (k, c) ∷ kept dropped (k + 1) cs else kept dropped (k + 1) cs))) n ≡ true → has_name (names_of (map (λ p. p.1) (kept dropped (k + 1) cs))) n ≡ true
      here true free later f = f
      here false free later f = there (bytes_eq c.name n) refl free later f

live_at : (dropped : List ℕ) (cs : List ColumnDef) (n : List ℕ) (i : ℕ) (d : ColumnDef) → i < length cs → bytes_eq (get_or cs i d).name n ≡ true → repeats (names_of cs) ≡ false
    → has_name (names_of (without dropped cs)) n ≡ true → is_among dropped (i + 1) ≡ false
live_at [] cs n i d lt e differ h = refl
live_at (m ∷ ms) cs n i d lt e differ h = let same : 1 + i ≡ i + 1 = omega arith in subst (λ (o : ℕ). is_among (m ∷ ms) o ≡ false) same (kept_live (m ∷ ms) n d 1 cs i lt e differ h)

live_ordinal : (dropped : List ℕ) (cs : List ColumnDef) (n : List ℕ) → repeats (names_of cs) ≡ false → has_name (names_of (without dropped cs)) n ≡ true → (o : Option ℕ) → place_of cs n ≡ o → is_some o ≡ true
    → is_among dropped (ordinal_at o) ≡ false
live_ordinal dropped cs n differ h None e some = cc
live_ordinal dropped [] n differ h (Some i) e some = cc
live_ordinal dropped (c ∷ cs) n differ h (Some i) e some =
    let p = position-Some (λ (d : ColumnDef). bytes_eq d.name n) (c ∷ cs) i c e in
    live_at dropped (c ∷ cs) n i c p.0 p.1 differ h

-- the ordinals of columns that stand are of none that was dropped
pub live_ordinals : (def : TableDef) (names : List (List ℕ)) → repeats (names_of def.columns) ≡ false → list_all (is_declared (live_columns def)) names ≡ true
    → AllByRecursion (λ o. is_among def.dropped o ≡ false) (ordinals_of def.columns names)
live_ordinals def [] differ e = tt
live_ordinals def (n ∷ ns) differ e =
    let p = and_true (is_declared (live_columns def) n) (list_all (is_declared (live_columns def)) ns) e in
    let h : has_name (names_of (live_columns def)) n ≡ true = sym (declared_is (live_columns def) n) ∙ p.0 in
    let declared : is_declared def.columns n ≡ true = declared_is def.columns n ∙ has_live def.dropped def.columns n h in
    (live_ordinal def.dropped def.columns n differ h (place_of def.columns n) refl declared, live_ordinals def ns differ p.1)
