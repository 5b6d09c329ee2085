-- The roots of an entry that are wrong: those for no table of a group, and table by table those of the group's tables.
use Rattle.std.proofs.Common.{◌≡◌, ◌≤◌, ◌+◌, ◌==◌, ℕ, zero, suc, Bool, true, false, cond, List, [], ◌∷◌, ◌++◌, map, filter, refl, sym, ap, ap₂, ◌∙◌, arith, Option, Some, None}
use Rattle.std.specs.Prelude.{◌&&◌, ◌||◌, not, is_some, slice_get, MatchOption}
use Rattle.std.specs.List.{AllByRecursion, list_any}
use Rattle.std.specs.Ordering.{nat_cmp, is_gt}
use Rattle.std.specs.Str.{bytes_eq}
use Rattle.std.specs.declared.cmp.Ordering.{Ordering}
use Rattle.std.specs.declared.cmp.Ordering.TheVariants.{Less, Equal, Greater}
use Rattle.std.proofs.lemmas.Bool.{eqb-true, ne_eqb, eq-eqb, or_from, or_parts, cond-false, true≢false}
use Rattle.std.proofs.Math.Bool.{and-true}
use Rattle.std.proofs.lemmas.Cmp.{ranked, nat_cmp_total}
use Rattle.std.proofs.lemmas.List.{map-append}
use Rattle.std.proofs.lemmas.List.Elements.{filter-append}
use Rattle.std.proofs.lemmas.List.Folds.{list_any-append}
use Rattle.std.proofs.lemmas.Map.Views.{any-filter_same}
use Rattle.sql_types.specs.declared.entry.TxEntry.{TxEntry}
use Rattle.sql_types.specs.declared.version.Table.{Table}
use Rattle.spec_ledger.specs.Entries.{roots_of, root_in, has_events, leaves_of}
use Rattle.base_merkle.specs.TreeHash.{tree_hash}
use Rattle.spec_model.specs.Catalog.{Tables}
use Rattle.law_catalog_rows.specs.Least.{least, lesser_of}
use Rattle.spec_verify.specs.Entries.{TableRoot, root_at, same_root, other_roots}
use Rattle.spec_verify.proofs.Leasts.{IsLeast, least_is, least_split}
use Rattle.audit_roots.specs.Groups.{is_table, own_root, is_wrong, wrong_in, strange}
use Rattle.audit_roots.specs.ImageTable.{IdsRise}

-- ---- numbers in a list

abbrev pub has : List ℕ → ℕ → Bool
has ns n = list_any (λ m. m == n) ns

pub has_filter : (p : ℕ → Bool) (ns : List ℕ) (n : ℕ) → has (filter p ns) n ≡ (p n && has ns n)
has_filter p ns n = any-filter_same (λ m. m == n) p (p n) (λ m e. ap p (eqb-true m n e)) ns

pub has_append : (xs ys : List ℕ) (n : ℕ) → has (xs ++ ys) n ≡ (has xs n || has ys n)
has_append xs ys n = list_any-append (λ m. m == n) xs ys

one_has : (xs : List ℕ) (n k : ℕ) → slice_get xs k ≡ Some n → has xs n ≡ true
one_has [] n k e = cc
one_has (x ∷ xs) n zero e = ap (λ b. b || has xs n) (eq-eqb x n (inside e))
  where
    inside : {m n : ℕ} → Some m ≡ Some n → m ≡ n
    inside e = cc
one_has (x ∷ xs) n (suc k) e = ap (λ b. (x == n) || b) (one_has xs n k e) ∙ or_true (x == n)
  where
    or_true : (b : Bool) → (b || true) ≡ true
    or_true true = refl
    or_true false = refl

abbrev NotAbove : ℕ → List ℕ → Type 0
NotAbove m xs = AllByRecursion (λ n. is_gt (nat_cmp m n) ≡ false) xs

not_above : (m n : ℕ) (xs : List ℕ) → NotAbove m xs → has xs n ≡ true → is_gt (nat_cmp m n) ≡ false
not_above m n [] all e = cc
not_above m n (x ∷ xs) all e = here (x == n) refl e (not_above m n xs all.1)
  where
    here : (b : Bool) → (x == n) ≡ b → (b || has xs n) ≡ true → (has xs n ≡ true → is_gt (nat_cmp m n) ≡ false) → is_gt (nat_cmp m n) ≡ false
    here true is e more = ap (λ (y : ℕ). is_gt (nat_cmp m y)) (sym (eqb-true x n is)) ∙ all.0
    here false is e more = more e

at_most : (m n : ℕ) → is_gt (nat_cmp m n) ≡ false → m ≤ n
at_most m n e = here (nat_cmp m n) refl e
  where
    here : (r : Ordering) → r ≡ nat_cmp m n → is_gt r ≡ false → m ≤ n
    here Less is e = let lt = ranked m n Less is in omega (arith, lt)
    here Equal is e = let same = ranked m n Equal is in omega (arith, same)
    here Greater is e = cc

-- the least of some numbers goes by which they are
pub least_same : (xs ys : List ℕ) → ((n : ℕ) → has xs n ≡ has ys n) → least nat_cmp xs ≡ least nat_cmp ys
least_same xs ys same = here (least nat_cmp xs) (least nat_cmp ys) (least_is nat_cmp nat_cmp_total xs) (least_is nat_cmp nat_cmp_total ys)
  where
    nothing : (ns : List ℕ) (n : ℕ) → ns ≡ [] → has ns n ≡ false
    nothing ns n e = ap (λ l. has l n) e

    here : (a b : Option ℕ) → MatchOption a (xs ≡ []) (IsLeast nat_cmp nat_cmp_total xs) → MatchOption b (ys ≡ []) (IsLeast nat_cmp nat_cmp_total ys) → a ≡ b
    here None None p q = refl
    here None (Some n) p q = absurd (true≢false (sym (one_has ys n q.0.0 q.0.1) ∙ sym (same n) ∙ nothing xs n p))
    here (Some m) None p q = absurd (true≢false (sym (one_has xs m p.0.0 p.0.1) ∙ same m ∙ nothing ys m q))
    here (Some m) (Some n) p q =
        let low = at_most m n (not_above m n xs p.1 (same n ∙ one_has ys n q.0.0 q.0.1)) in
        let high = at_most n m (not_above n m ys q.1 (sym (same m) ∙ one_has xs m p.0.0 p.0.1)) in
        ap Some (omega (arith, low, high))

-- ---- roots

pub has_roots : (rs : List TableRoot) (n : ℕ) → has (map (λ (r : TableRoot). r.0) rs) n ≡ is_some (root_at rs n)
has_roots [] n = refl
has_roots (r ∷ rs) n = here (r.0 == n) (has_roots rs n)
  where
    here : (b : Bool) → has (map (λ (x : TableRoot). x.0) rs) n ≡ is_some (root_at rs n)
        → (b || has (map (λ (x : TableRoot). x.0) rs) n) ≡ is_some (cond b (Some r.1) (root_at rs n))
    here true more = refl
    here false more = more

neither : (a b : Option (List ℕ)) → (not (same_root a b) && (is_some a || is_some b)) ≡ not (same_root a b)
neither None None = refl
neither None (Some b) = refl
neither (Some a) None = refl
neither (Some a) (Some b) = and-true (not (bytes_eq a b))

pub has_other : (a b : List TableRoot) (n : ℕ) → has (other_roots a b) n ≡ not (same_root (root_at a n) (root_at b n))
has_other a b n =
    has_filter (λ t. not (same_root (root_at a t) (root_at b t))) (map (λ (r : TableRoot). r.0) a ++ map (λ (r : TableRoot). r.0) b) n
    ∙ ap (λ c. not (same_root (root_at a n) (root_at b n)) && c) (has_append (map (λ (r : TableRoot). r.0) a) (map (λ (r : TableRoot). r.0) b) n ∙ ap₂ (λ c d. c || d) (has_roots a n) (has_roots b n))
    ∙ neither (root_at a n) (root_at b n)

-- ---- tables

later : (last : ℕ) (ts : Tables) → IdsRise last ts → (n : ℕ) → n ≤ last → is_table ts n ≡ false
later last [] rise n le = refl
later last (t ∷ ts) rise n le =
    or_from (t.def.id == n) (is_table ts n) (ne_eqb t.def.id n (λ e. (let lt = rise.0 in omega (arith, e, lt, le)))) (later t.def.id ts rise.1 n (let lt = rise.0 in omega (arith, lt, le)))

module _ (h : List ℕ → List ℕ) where
  -- the root of the table with this id
  abbrev pub table_root : ℕ → Tables → ℕ → Option (List ℕ)
  table_root tx [] n = None
  table_root tx (t ∷ ts) n = cond (t.def.id == n) (own_root h tx t) (table_root tx ts n)

  pub no_root : (tx : ℕ) (ts : Tables) (n : ℕ) → is_table ts n ≡ false → table_root tx ts n ≡ None
  no_root tx [] n e = refl
  no_root tx (t ∷ ts) n e =
      let parts = or_parts (t.def.id == n) (is_table ts n) e in
      cond-false (t.def.id == n) (own_root h tx t) (table_root tx ts n) parts.0 ∙ no_root tx ts n parts.1

  abbrev pub rooted : ℕ → Tables → List TableRoot
  rooted tx ts = map (root_in h tx) (filter (has_events tx) ts)

  pub root_found : (tx last : ℕ) (ts : Tables) → IdsRise last ts → (n : ℕ) → root_at (rooted tx ts) n ≡ table_root tx ts n
  root_found tx last [] rise n = refl
  root_found tx last (t ∷ ts) rise n = here (has_events tx t) (t.def.id == n) refl (root_found tx t.def.id ts rise.1 n)
    where
      here : (b c : Bool) → (t.def.id == n) ≡ c → root_at (rooted tx ts) n ≡ table_root tx ts n
          → root_at (map (root_in h tx) (cond b (t ∷ filter (has_events tx) ts) (filter (has_events tx) ts))) n
          ≡ cond c (cond b (Some (tree_hash h (leaves_of tx t))) None) (table_root tx ts n)
      here true c is more = ap₂ (λ (d : Bool) (r : Option (List ℕ)). cond d (Some (tree_hash h (leaves_of tx t))) r) is more
      here false true is more = more ∙ no_root tx ts n (later t.def.id ts rise.1 n (let same = eqb-true t.def.id n is in omega (arith, same)))
      here false false is more = more

  module _ (e : TxEntry) where
    abbrev differs : ℕ → Option (List ℕ) → Bool
    differs m r = not (same_root (root_at e.roots m) r)

    pub wrong_has : (last : ℕ) (ts : Tables) → IdsRise last ts → (n : ℕ) → has (wrong_in h ts e) n ≡ (is_table ts n && differs n (table_root e.id ts n))
    wrong_has last [] rise n = refl
    wrong_has last (t ∷ ts) rise n = here (is_wrong h e t) refl (t.def.id == n) refl (wrong_has t.def.id ts rise.1 n)
      where
        at_n : (c : Bool) → is_wrong h e t ≡ c → (t.def.id == n) ≡ true → differs n (own_root h e.id t) ≡ c
        at_n c is here = ap (λ (m : ℕ). differs m (own_root h e.id t)) (sym (eqb-true t.def.id n here)) ∙ is

        here : (b : Bool) → is_wrong h e t ≡ b → (c : Bool) → (t.def.id == n) ≡ c → has (wrong_in h ts e) n ≡ (is_table ts n && differs n (table_root e.id ts n))
            → has (map (λ (x : Table). x.def.id) (cond b (t ∷ filter (is_wrong h e) ts) (filter (is_wrong h e) ts))) n
            ≡ ((c || is_table ts n) && differs n (cond c (own_root h e.id t) (table_root e.id ts n)))
        here true wrong true is more = ap (λ d. d || has (wrong_in h ts e) n) is ∙ sym (at_n true wrong is)
        here true wrong false is more = ap (λ d. d || has (wrong_in h ts e) n) is ∙ more
        here false wrong true is more =
            more
            ∙ ap (λ d. d && differs n (table_root e.id ts n)) (later t.def.id ts rise.1 n (let same = eqb-true t.def.id n is in omega (arith, same)))
            ∙ sym (at_n false wrong is)
        here false wrong false is more = more

    missing : (a : Option (List ℕ)) → not (same_root a None) ≡ (is_some a || false)
    missing None = refl
    missing (Some r) = refl

    -- those that differ are those for no table, and the wrong ones
    pub others_have : (last : ℕ) (ts : Tables) → IdsRise last ts → (n : ℕ) → has (other_roots e.roots (roots_of h e.id ts)) n ≡ has (strange ts e ++ wrong_in h ts e) n
    unfolding roots_of
    others_have last ts rise n =
        has_other e.roots (rooted e.id ts) n
        ∙ ap (λ r. not (same_root (root_at e.roots n) r)) (root_found e.id last ts rise n)
        ∙ split (is_table ts n) refl
        ∙ sym (has_append (strange ts e) (wrong_in h ts e) n
        ∙ ap₂ (λ c d. c || d)
        (has_filter (λ id. not (is_table ts id)) (map (λ (r : TableRoot). r.0) e.roots) n ∙ ap (λ c. not (is_table ts n) && c) (has_roots e.roots n))
        (wrong_has last ts rise n))
      where
        split : (b : Bool) → is_table ts n ≡ b → not (same_root (root_at e.roots n) (table_root e.id ts n))
            ≡ ((not b && is_some (root_at e.roots n)) || (b && not (same_root (root_at e.roots n) (table_root e.id ts n))))
        split true is = refl
        split false is = ap (λ r. not (same_root (root_at e.roots n) r)) (no_root e.id ts n is) ∙ missing (root_at e.roots n)

    pub least_of_parts : (last : ℕ) (ts : Tables) → IdsRise last ts
        → least nat_cmp (other_roots e.roots (roots_of h e.id ts)) ≡ lesser_of nat_cmp (least nat_cmp (strange ts e)) (least nat_cmp (wrong_in h ts e))
    least_of_parts last ts rise =
        least_same (other_roots e.roots (roots_of h e.id ts)) (strange ts e ++ wrong_in h ts e) (others_have last ts rise)
        ∙ least_split nat_cmp nat_cmp_total (strange ts e) (wrong_in h ts e)

    -- ---- of two groups

    pub wrong_of_both : (front rest : Tables) → wrong_in h (front ++ rest) e ≡ wrong_in h front e ++ wrong_in h rest e
    wrong_of_both front rest =
        ap (map (λ (t : Table). t.def.id)) (filter-append (is_wrong h e) front rest)
        ∙ map-append (λ (t : Table). t.def.id) (filter (is_wrong h e) front) (filter (is_wrong h e) rest)

    pub least_of_both : (front rest : Tables) → least nat_cmp (wrong_in h (front ++ rest) e) ≡ lesser_of nat_cmp (least nat_cmp (wrong_in h front e)) (least nat_cmp (wrong_in h rest e))
    least_of_both front rest = ap (least nat_cmp) (wrong_of_both front rest) ∙ least_split nat_cmp nat_cmp_total (wrong_in h front e) (wrong_in h rest e)
