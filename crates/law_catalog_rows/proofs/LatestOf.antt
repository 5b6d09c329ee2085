-- Of the rows about one thing one counts.
use Rattle.std.proofs.Common.{◌≡◌, ◌⊎◌, ℕ, ℤ, inl, inr, refl, sym, ap, subst, ◌∙◌, Bool, true, false, List, [], ◌∷◌}
use Rattle.std.proofs.lemmas.Bool.Decides.{Decides-int_eq}
use Rattle.std.proofs.lemmas.Cmp.{upto, tied_itself, int_cmp_total}
use Rattle.std.specs.Prelude.{◌&&◌, ◌||◌, not, if◌then◌else◌}
use Rattle.std.specs.List.{AllByRecursion, list_any, filter}
use Rattle.std.specs.Ordering.{int_cmp, int_eq, is_gt, ordering_reverse}
use Rattle.std.specs.declared.cmp.Ordering.{Ordering}
use Rattle.std.specs.declared.cmp.Ordering.TheVariants.{Less, Equal, Greater}
use Rattle.spec_model.specs.Rows.{Row}
use Rattle.law_catalog_rows.specs.Latest.{number_at, same_number, change_of, is_past, is_latest, latest}

-- ---- one row of a list

abbrev pub IsIn : Row → List Row → Type 0
IsIn row [] = ⊥
IsIn row (r ∷ rs) = (r ≡ row) ⊎ IsIn row rs

pub all_in : (P : Row → Type 0) (rows : List Row) → ((row : Row) → IsIn row rows → P row) → AllByRecursion P rows
all_in P [] h = tt
all_in P (r ∷ rs) h = (h r (inl refl), all_in P rs (λ row i. h row (inr i)))

pub one_of_all : (P : Row → Type 0) (rows : List Row) (row : Row) → AllByRecursion P rows → IsIn row rows → P row
one_of_all P [] row h i = absurd i
one_of_all P (r ∷ rs) row h i = elim i [ inl p ↦ subst P p h.0 | inr q ↦ one_of_all P rs row h.1 q ]

pub in_filtered : (test : Row → Bool) (rows : List Row) (row : Row) → IsIn row rows → test row ≡ true → IsIn row (filter test rows)
in_filtered test [] row i e = absurd i
in_filtered test (r ∷ rs) row i e = elim i [
  | inl p ↦ own (test r) refl p
  | inr q ↦ other (test r) (in_filtered test rs row q e)
]
  where
    own : (b : Bool) → test r ≡ b → r ≡ row → IsIn row (if b then r ∷ filter test rs else filter test rs)
    own true is p = inl p
    own false is p = absurd (let t : test r ≡ true = ap test p ∙ e in cc)

    other : (b : Bool) → IsIn row (filter test rs) → IsIn row (if b then r ∷ filter test rs else filter test rs)
    other true h = inr h
    other false h = h

pub from_filtered : (test : Row → Bool) (rows : List Row) (row : Row) → IsIn row (filter test rows) → IsIn row rows × (test row ≡ true)
from_filtered test [] row i = absurd i
from_filtered test (r ∷ rs) row i = here (test r) refl i (from_filtered test rs row)
  where
    here : (b : Bool) → test r ≡ b → IsIn row (if b then r ∷ filter test rs else filter test rs) → (IsIn row (filter test rs) → IsIn row rs × (test row ≡ true)) → IsIn row (r ∷ rs) × (test row ≡ true)
    here true is j more = elim j [
      | inl p ↦ (inl p, ap test (sym p) ∙ is)
      | inr q ↦ (let m = more q in (inr m.0, m.1))
    ]
    here false is j more = let m = more j in (inr m.0, m.1)

-- ---- changes

abbrev exceeds : ℤ → ℤ → Bool
exceeds c d = is_gt (int_cmp c d)

not_itself : (c : ℤ) → exceeds c c ≡ false
not_itself c = ap is_gt (tied_itself int_cmp_total c)

not_back : (c d : ℤ) → exceeds c d ≡ true → exceeds d c ≡ false
not_back c d e = ap is_gt (int_cmp_total.antisymm d c) ∙ other_way (int_cmp c d) e
  where
    other_way : (o : Ordering) → is_gt o ≡ true → is_gt (ordering_reverse o) ≡ false
    other_way Less h = cc
    other_way Equal h = cc
    other_way Greater h = refl

-- ---- the one that counts

either_false : (a b : Bool) → b ≡ false → (a && b) ≡ false
either_false true b e = e
either_false false b e = refl

both_true : (a b : Bool) → (a && b) ≡ true → (a ≡ true) × (b ≡ true)
both_true true true e = (refl, refl)
both_true true false e = cc
both_true false b e = cc

if_then_so : (a b c : Bool) → (a && b) ≡ false → (b ≡ false → c ≡ false) → (a && c) ≡ false
if_then_so true b c e f = f e
if_then_so false b c e f = refl

module _ (k : ℕ) where
  record Greatest (rows : List Row) (row : Row) : Type 0 where
    greatest : Row
    same : number_at k greatest ≡ number_at k row
    among : (greatest ≡ row) ⊎ IsIn greatest rows
    none_past : list_any (λ r. is_past k r greatest) rows ≡ false
    no_less : exceeds (change_of k row) (change_of k greatest) ≡ false

  greatest_of : (rows : List Row) (row : Row) → Greatest rows row
  greatest_of [] row = record { greatest = row; same = refl; among = inl refl; none_past = refl; no_less = not_itself (change_of k row) }
  greatest_of (r ∷ rs) row = here (is_past k r row) refl (greatest_of rs r) (greatest_of rs row)
    where
      none_of_both : (a b : Bool) → a ≡ false → b ≡ false → (a || b) ≡ false
      none_of_both a b e f = rw (e, f) refl

      here : (b : Bool) → is_past k r row ≡ b → Greatest rs r → Greatest rs row → Greatest (r ∷ rs) row
      here true e g h =
          let p = both_true (same_number k r row) (exceeds (change_of k r) (change_of k row)) e in
          record {
            greatest = g.greatest;
            same = g.same ∙ (Decides-int_eq (number_at k r) (number_at k row)).0 p.0;
            among = elim g.among [ inl q ↦ inr (inl (sym q)) | inr q ↦ inr (inr q) ];
            none_past = none_of_both (is_past k r g.greatest) _ (either_false (same_number k r g.greatest) _ g.no_less) g.none_past;
            no_less = upto int_cmp_total (change_of k row) (change_of k r) (change_of k g.greatest) (not_back (change_of k r) (change_of k row) p.1) g.no_less;
          }
      here false e g h = record {
        greatest = h.greatest;
        same = h.same;
        among = elim h.among [ inl q ↦ inl q | inr q ↦ inr (inr q) ];
        none_past = none_of_both (is_past k r h.greatest) _
            (ap (λ (n : ℤ). int_eq (number_at k r) n && exceeds (change_of k r) (change_of k h.greatest)) h.same
            ∙ if_then_so (same_number k r row) (exceeds (change_of k r) (change_of k row)) (exceeds (change_of k r) (change_of k h.greatest)) e (λ f. upto int_cmp_total (change_of k r) (change_of k row) (change_of k h.greatest) f h.no_less)) h.none_past;
        no_less = h.no_less;
      }

  -- a row of its thing is among those that count
  pub record Counting (rows : List Row) (row : Row) : Type 0 where
    pub counts : Row
    pub same : number_at k counts ≡ number_at k row
    pub among : IsIn counts (latest k rows)

  pub counting : (rows : List Row) (row : Row) → IsIn row rows → Counting rows row
  counting rows row i =
      let g : Greatest rows row = greatest_of rows row in
      let among : IsIn g.greatest rows = elim g.among [ inl q ↦ subst (λ (r : Row). IsIn r rows) (sym q) i | inr q ↦ q ] in
      record { counts = g.greatest; same = g.same; among = in_filtered (is_latest k rows) rows g.greatest among (ap not g.none_past) }

  -- so what holds of the things of those that count holds of all
  pub all_by_latest : (P : ℤ → Type 0) (rows : List Row) → AllByRecursion (λ r. P (number_at k r)) (latest k rows) → AllByRecursion (λ r. P (number_at k r)) rows
  all_by_latest P rows h =
      all_in (λ r. P (number_at k r)) rows
      (λ row i. (let c : Counting rows row = counting rows row i in subst P c.same (one_of_all (λ r. P (number_at k r)) (latest k rows) c.counts h c.among)))
