-- Of the rows about one thing the last one is found: none has a greater change. Where the rows that count say some rows, it says
-- the one about its thing.
use Rattle.std.proofs.Common.{◌≡◌, ℕ, ℤ, inl, inr, refl, sym, ap, subst, ◌∙◌, Bool, true, false, List, [], ◌∷◌, ◌++◌, map, Option, Some, None, arith, append-nil, append_assoc}
use Rattle.std.proofs.lemmas.Int.{ints}
use Rattle.std.proofs.lemmas.List.Folds.{list_any-append}
use Rattle.std.proofs.lemmas.List.Sorted.{IsPermutation-sym}
use Rattle.std.specs.Prelude.{◌&&◌, ◌||◌, not, if◌then◌else◌}
use Rattle.std.specs.List.{AllByRecursion, list_any}
use Rattle.std.specs.List.Sorted.{IsPermutation}
use Rattle.std.specs.Ordering.{int_cmp, int_eq, is_gt}
use Rattle.spec_model.specs.Rows.{Row}
use Rattle.law_frame.proofs.Alls.{all_append}
use Rattle.law_frame.proofs.SameKeys.{or_false}
use Rattle.law_catalog_rows.specs.Latest.{number_at, same_number, change_of, is_past, is_latest, latest, without_change, latest_said}
use Rattle.law_catalog_rows.proofs.CountingUp.{is_greater, is_number, never, one_number, both_true}
use Rattle.law_catalog_rows.proofs.LatestOf.{IsIn, in_filtered, from_filtered, one_of_all}
use Rattle.law_catalog_rows.proofs.OneRowMore.{not_itself, past, said_number}
use Rattle.law_catalog_rows.proofs.Orders.{along_permutation}
use Rattle.spec_asof.specs.DefTold.{later_row, last_row_from, last_row}

-- ---- rows among others

pub in_front : (r : Row) (rows others : List Row) → IsIn r rows → IsIn r (rows ++ others)
in_front r [] others i = absurd i
in_front r (x ∷ rows) others (inl e) = inl e
in_front r (x ∷ rows) others (inr i) = inr (in_front r rows others i)

pub behind : (r : Row) (rows others : List Row) → IsIn r others → IsIn r (rows ++ others)
behind r [] others i = i
behind r (x ∷ rows) others i = inr (behind r rows others i)

pub in_order : (r : Row) (rows others : List Row) → IsPermutation rows others → IsIn r rows → IsIn r others
in_order r = along_permutation (λ rows others. IsIn r rows → IsIn r others)
    (λ rows i. i)
    (λ x rows others h i. elim i [ inl e ↦ inl e | inr j ↦ inr (h j) ])
    (λ x y rows i. elim i [ inl e ↦ inr (inl e) | inr j ↦ elim j [ inl e ↦ inl e | inr k ↦ inr (inr k) ] ])
    (λ rows others more h k i. k (h i))

mapped_in : (f : Row → Row) (rows : List Row) (r : Row) → IsIn r rows → IsIn (f r) (map f rows)
mapped_in f [] r i = absurd i
mapped_in f (x ∷ rows) r (inl e) = inl (ap f e)
mapped_in f (x ∷ rows) r (inr i) = inr (mapped_in f rows r i)

record Mapped (f : Row → Row) (rows : List Row) (w : Row) : Type 0 where
  row : Row
  among : IsIn row rows
  is : f row ≡ w

from_mapped : (f : Row → Row) (rows : List Row) (w : Row) → IsIn w (map f rows) → Mapped f rows w
from_mapped f [] w i = absurd i
from_mapped f (x ∷ rows) w (inl e) = record { row = x; among = inl refl; is = e }
from_mapped f (x ∷ rows) w (inr i) = let m : Mapped f rows w = from_mapped f rows w i in record { row = m.row; among = inr m.among; is = m.is }

-- ---- which row is found

both_false : (a b : Bool) → a ≡ false → b ≡ false → (a || b) ≡ false
both_false a b e f = rw (e, f) refl

any_weaker : (p q : Row → Bool) (rows : List Row) → ((r : Row) → p r ≡ true → q r ≡ true) → list_any q rows ≡ false → list_any p rows ≡ false
any_weaker p q [] f e = refl
any_weaker p q (r ∷ rows) f e =
    let h = or_false (q r) (list_any q rows) e in
    both_false (p r) (list_any p rows) (never (p r) (λ t. (let u : q r ≡ true = f r t in absurd (differ (q r) u h.0)))) (any_weaker p q rows f h.1)
  where
    differ : (b : Bool) → b ≡ true → b ≡ false → ⊥
    differ true t n = cc
    differ false t n = cc

any_none : (p : Row → Bool) (rows : List Row) → AllByRecursion (λ r. p r ≡ true → ⊥) rows → list_any p rows ≡ false
any_none p [] h = refl
any_none p (r ∷ rows) h = both_false (p r) (list_any p rows) (never (p r) h.0) (any_none p rows h.1)

any_of_both : (p : Row → Bool) (rows others : List Row) → list_any p rows ≡ false → list_any p others ≡ false → list_any p (rows ++ others) ≡ false
any_of_both p rows others e f = list_any-append p rows others ∙ both_false (list_any p rows) (list_any p others) e f

module _ (k : ℕ) where
  past_both : (a b c : Row) → is_past k a b ≡ true → is_past k b c ≡ true → is_past k a c ≡ true
  past_both a b c e f =
      let p = past k a b e in
      let q = past k b c f in
      both_true (same_number k a c) (is_gt (int_cmp (change_of k a) (change_of k c)))
      (is_number (number_at k a) (number_at k c) (p.0 ∙ q.0)) (is_greater (change_of k a) (change_of k c) (omega (arith, ints, p.1, q.1)))

  abbrev any_past : List Row → Row → Bool
  any_past rows x = list_any (λ a. is_past k a x) rows

  module _ (thing : ℤ) where
    abbrev pub IsOf : Row → Type 0
    IsOf row = number_at k row ≡ thing

    -- none is about the thing; or the row is, and none is past it
    abbrev pub Found : List Row → Option Row → Type 0
    Found rows None = AllByRecursion (λ r. IsOf r → ⊥) rows
    Found rows (Some r) = IsIn r rows × IsOf r × (any_past rows r ≡ false)

    abbrev step : Option Row → Row → Option Row
    step last row = if int_eq (number_at k row) thing then later_row k last row else last

    abbrev more : List Row → Row → List Row
    more seen row = seen ++ row ∷ []

    own : (row : Row) → int_eq (number_at k row) thing ≡ true → IsOf row
    own row e = one_number (number_at k row) thing e

    not_past : (row r : Row) → int_eq (number_at k row) thing ≡ false → IsOf r → is_past k row r ≡ false
    not_past row r e is = ap (λ (n : ℤ). int_eq (number_at k row) n && is_gt (int_cmp (change_of k row) (change_of k r))) is ∙ ap (λ (b : Bool). b && is_gt (int_cmp (change_of k row) (change_of k r))) e

    differs : (row : Row) → int_eq (number_at k row) thing ≡ false → IsOf row → ⊥
    differs row e is = contrary (int_eq (number_at k row) thing) e (is_number (number_at k row) thing is)
      where
        contrary : (b : Bool) → b ≡ false → b ≡ true → ⊥
        contrary true n t = cc
        contrary false n t = cc

    either : (seen : List Row) (row r : Row) (c : Bool) → is_past k row r ≡ c → IsOf row → IsIn r seen × IsOf r × (any_past seen r ≡ false) → Found (more seen row) (if c then Some row else Some r)
    either seen row r true e is f = (
      behind row seen (row ∷ []) (inl refl),
      is,
      any_of_both (λ a. is_past k a row) seen (row ∷ []) (any_weaker (λ a. is_past k a row) (λ a. is_past k a r) seen (λ a p. past_both a row r p e) f.2) (both_false (is_past k row row) false (not_itself k row) refl),
    )
    either seen row r false e is f = (in_front r seen (row ∷ []) f.0, f.1, any_of_both (λ a. is_past k a r) seen (row ∷ []) f.2 (both_false (is_past k row r) false e refl))

    with_row : (seen : List Row) (last : Option Row) (row : Row) (b : Bool) → int_eq (number_at k row) thing ≡ b → Found seen last → Found (more seen row) (if b then later_row k last row else last)
    with_row seen None row false e f = all_append (λ r. IsOf r → ⊥) seen (row ∷ []) f (differs row e, tt)
    with_row seen (Some r) row false e f =
        (in_front r seen (row ∷ []) f.0, f.1, any_of_both (λ a. is_past k a r) seen (row ∷ []) f.2 (both_false (is_past k row r) false (not_past row r e f.1) refl))
    with_row seen None row true e f = (
      behind row seen (row ∷ []) (inl refl),
      own row e,
      any_of_both (λ a. is_past k a row) seen (row ∷ []) (any_none (λ a. is_past k a row) seen (nothing_past seen f)) (both_false (is_past k row row) false (not_itself k row) refl),
    )
      where
        nothing_past : (rows : List Row) → AllByRecursion (λ r. IsOf r → ⊥) rows → AllByRecursion (λ a. is_past k a row ≡ true → ⊥) rows
        nothing_past [] h = tt
        nothing_past (a ∷ rows) h = ((λ p. h.0 ((past k a row p).0 ∙ own row e)), nothing_past rows h.1)
    with_row seen (Some r) row true e f = either seen row r (is_past k row r) refl (own row e) f

    found_from : (seen : List Row) (last : Option Row) (rows : List Row) → Found seen last → Found (seen ++ rows) (last_row_from k thing last rows)
    found_from seen last [] f = subst (λ (l : List Row). Found l last) (sym (append-nil seen)) f
    found_from seen last (row ∷ rows) f =
        subst (λ (l : List Row). Found l (last_row_from k thing (step last row) rows)) (append_assoc seen (row ∷ []) rows)
        (found_from (more seen row) (step last row) rows (with_row seen last row (int_eq (number_at k row) thing) refl f))

    pub found : (rows : List Row) → Found rows (last_row k thing rows)
    found rows = found_from [] None rows tt

-- ---- what it says

module _ (k : ℕ) (rows wanted : List Row) (p : IsPermutation (latest_said k rows) wanted) where
  says : (r : Row) → IsIn r rows → list_any (λ a. is_past k a r) rows ≡ false → IsIn (without_change k r) wanted
  says r i none = in_order (without_change k r) (latest_said k rows) wanted p (mapped_in (without_change k) (latest k rows) r (in_filtered (is_latest k rows) rows r i (ap not none)))

  -- the row that says this one
  pub record Saying (w : Row) : Type 0 where
    pub row : Row
    pub among : IsIn row rows
    pub is : without_change k row ≡ w

  pub said_by : (w : Row) → IsIn w wanted → Saying w
  said_by w i =
      let m : Mapped (without_change k) (latest k rows) w = from_mapped (without_change k) (latest k rows) w (in_order w wanted (latest_said k rows) (IsPermutation-sym (latest_said k rows) wanted p) i) in
      record { row = m.row; among = (from_filtered (is_latest k rows) rows m.row m.among).0; is = m.is }

  -- the last row about a thing says this one
  pub record LastSays (thing : ℤ) (w : Row) : Type 0 where
    pub row : Row
    pub is : last_row k thing rows ≡ Some row
    pub says : without_change k row ≡ w

  by_found : (thing : ℤ) (w : Row) → IsIn w wanted → number_at k w ≡ thing → AllByRecursion (λ x. number_at k x ≡ thing → x ≡ w) wanted
      → (o : Option Row) → last_row k thing rows ≡ o → Found k thing rows o → LastSays thing w
  by_found thing w i is only None e f =
      let s : Saying w = said_by w i in
      absurd (one_of_all (λ r. number_at k r ≡ thing → ⊥) rows s.row f s.among (sym (said_number k s.row) ∙ ap (number_at k) s.is ∙ is))
  by_found thing w i is only (Some r) e f = record {
    row = r;
    is = e;
    says = one_of_all (λ x. number_at k x ≡ thing → x ≡ w) wanted (without_change k r) only (says r f.0 f.2) (said_number k r ∙ f.1);
  }

  pub last_says : (thing : ℤ) (w : Row) → IsIn w wanted → number_at k w ≡ thing → AllByRecursion (λ x. number_at k x ≡ thing → x ≡ w) wanted → LastSays thing w
  last_says thing w i is only = by_found thing w i is only (last_row k thing rows) refl (found k thing rows)

  no_found : (thing : ℤ) → AllByRecursion (λ x. number_at k x ≡ thing → ⊥) wanted → (o : Option Row) → last_row k thing rows ≡ o → Found k thing rows o → last_row k thing rows ≡ None
  no_found thing none None e f = e
  no_found thing none (Some r) e f =
      absurd (one_of_all (λ x. number_at k x ≡ thing → ⊥) wanted (without_change k r) none (says r f.0 f.2) (said_number k r ∙ f.1))

  pub no_last : (thing : ℤ) → AllByRecursion (λ x. number_at k x ≡ thing → ⊥) wanted → last_row k thing rows ≡ None
  no_last thing none = no_found thing none (last_row k thing rows) refl (found k thing rows)
