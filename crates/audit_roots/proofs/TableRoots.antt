-- The events of a transaction, table by table, fall into groups: one for each table that has some, with its root.
use Rattle.std.proofs.Common.{◌≡◌, ◌<◌, ◌+◌, ◌==◌, ℕ, Bool, true, false, cond, List, [], ◌∷◌, ◌++◌, length, map, filter, flat_map, drop, drop-drop, get_or, refl, sym, ap, ap₂, ◌∙◌, arith}
use Rattle.std.specs.Prelude.{not}
use Rattle.std.specs.List.{All, AllByRecursion}
use Rattle.std.proofs.lemmas.Bool.{eq-eqb, ne_eqb}
use Rattle.std.proofs.lemmas.List.{map-append, length-drop, get_or-drop}
use Rattle.std.proofs.lemmas.List.Elements.{recursion_from_All}
use Rattle.sql_types.specs.declared.event.Event.{Event}
use Rattle.sql_types.specs.declared.version.Table.{Table}
use Rattle.spec_ledger.specs.Entries.{roots_of, root_in, has_events}
use Rattle.base_merkle.specs.TreeHash.{tree_hash}
use Rattle.spec_model.specs.Catalog.{Tables}
use Rattle.spec_model.specs.Events.{events_of}
use Rattle.format_event.specs.Leaf.{event_bytes}
use Rattle.spec_verify.specs.Entries.{TableRoot}
use Rattle.audit_roots.specs.declared.marks.Mark.{Mark}
use Rattle.audit_roots.specs.Marks.{event_of, StartsOther}
use Rattle.audit_roots.specs.Roots.{same_first, joined, grouped, group_root, roots_in}
use Rattle.audit_roots.specs.ImageTable.{IdsRise}
use Rattle.audit_roots.proofs.Grouped.{append_all, map_all, all_in}
use Rattle.audit_columns.proofs.Sortings.{all_sorted}

-- the first of these, if there is one, is of another table
abbrev pub StartsWithOther : ℕ → List Event → Type 0
StartsWithOther table [] = Unit {0}
StartsWithOther table (e ∷ es) = (e.table == table) ≡ false

turned : (m n : ℕ) → (m == n) ≡ false → (n == m) ≡ false
turned m n e = ne_eqb n m (λ same. (let yes = eq-eqb m n (sym same) in cc))

alone : (t : ℕ) (x : Event) (rest : List Event) → x.table ≡ t → StartsWithOther t rest → same_first x rest ≡ false
alone t x [] is other = refl
alone t x (y ∷ ys) is other = ap (λ (n : ℕ). n == y.table) is ∙ turned y.table t other

pub one_group : (t : ℕ) (x : Event) (xs rest : List Event) → x.table ≡ t → AllByRecursion (λ (e : Event). e.table ≡ t) xs → StartsWithOther t rest
    → grouped ((x ∷ xs) ++ rest) ≡ (x ∷ xs) ∷ grouped rest
one_group t x [] rest is all other = ap (λ (b : Bool). joined b x (grouped rest)) (alone t x rest is other)
one_group t x (y ∷ ys) rest is all other =
    ap (λ (b : Bool). joined b x (grouped ((y ∷ ys) ++ rest))) (eq-eqb x.table y.table (is ∙ sym all.0))
    ∙ ap (joined true x) (one_group t y ys rest all.0 all.1 other)

module _ (tx : ℕ) where
  of_table : (t : Table) → AllByRecursion (λ (e : Event). e.table ≡ t.def.id) (events_of tx t)
  unfolding events_of
  of_table t = all_sorted _ (λ (e : Event). e.table ≡ t.def.id) _ (map_all _ (λ (e : Event). e.table ≡ t.def.id) (λ e is. is.1) _ (all_in tx t))

  beyond : (last : ℕ) (ts : Tables) → IdsRise last ts → AllByRecursion (λ (e : Event). last < e.table) (flat_map (events_of tx) ts)
  beyond last [] rise = tt
  beyond last (t ∷ ts) rise =
      append_all (λ (e : Event). last < e.table) (events_of tx t) (flat_map (events_of tx) ts)
      (map_all (λ (e : Event). e.table ≡ t.def.id) (λ e. last < e.table) (λ e is. omega (arith, is, rise.0)) (events_of tx t) (of_table t))
      (map_all (λ (e : Event). t.def.id < e.table) (λ e. last < e.table) (λ e lt. omega (arith, lt, rise.0)) (flat_map (events_of tx) ts) (beyond t.def.id ts rise.1))

  other_first : (t : ℕ) (es : List Event) → AllByRecursion (λ (e : Event). t < e.table) es → StartsWithOther t es
  other_first t [] all = tt
  other_first t (e ∷ es) all = ne_eqb e.table t (λ same. (let lt = all.0 in omega (arith, lt, same)))

  module _ (h : List ℕ → List ℕ) where
    one_table : (t : Table) (ts : Tables) (rest : List Event) (es : List Event) → events_of tx t ≡ es → AllByRecursion (λ (e : Event). e.table ≡ t.def.id) es → StartsWithOther t.def.id rest
        → roots_in h rest ≡ map (root_in h tx) (filter (has_events tx) ts) → roots_in h (es ++ rest) ≡ map (root_in h tx) (filter (has_events tx) (t ∷ ts))
    one_table t ts rest [] none all other more =
        let has : has_events tx t ≡ false = ap (λ (es : List Event). not (length es == 0)) none in
        more ∙ sym (ap (λ (b : Bool). map (root_in h tx) (cond b (t ∷ filter (has_events tx) ts) (filter (has_events tx) ts))) has)
    one_table t ts rest (e ∷ es) some all other more =
        let counted : (length (e ∷ es) == 0) ≡ false = ne_eqb (length (e ∷ es)) 0 (λ none. omega (arith, none)) in
        let has : has_events tx t ≡ true = ap (λ (l : List Event). not (length l == 0)) some ∙ ap not counted in
        ap (map (group_root h)) (one_group t.def.id e es rest all.0 all.1 other)
        ∙ ap₂ (λ (n : ℕ) (rs : List TableRoot). (n, tree_hash h (map event_bytes (e ∷ es))) ∷ rs) all.0 more
        ∙ ap (λ (l : List Event). (t.def.id, tree_hash h (map event_bytes l)) ∷ map (root_in h tx) (filter (has_events tx) ts)) (sym some)
        ∙ sym (ap (λ (b : Bool). map (root_in h tx) (cond b (t ∷ filter (has_events tx) ts) (filter (has_events tx) ts))) has)

    each_table : (last : ℕ) (ts : Tables) → IdsRise last ts → roots_in h (flat_map (events_of tx) ts) ≡ map (root_in h tx) (filter (has_events tx) ts)
    each_table last [] rise = refl
    each_table last (t ∷ ts) rise =
        one_table t ts (flat_map (events_of tx) ts) (events_of tx t) refl (of_table t) (other_first t.def.id (flat_map (events_of tx) ts) (beyond t.def.id ts rise.1)) (each_table t.def.id ts rise.1)

    pub roots_are : (last : ℕ) (ts : Tables) → IdsRise last ts → roots_in h (flat_map (events_of tx) ts) ≡ roots_of h tx ts
    unfolding roots_of
    roots_are last ts rise = each_table last ts rise

-- ---- a group among marks

seen_own : (t : ℕ) (ms : List Mark) → AllByRecursion (λ (m : Mark). m.table ≡ t) ms → AllByRecursion (λ (e : Event). e.table ≡ t) (map event_of ms)
seen_own t [] all = tt
seen_own t (m ∷ ms) all = (all.0, seen_own t ms all.1)

seen_other : (t : ℕ) (ms : List Mark) → StartsOther t ms → StartsWithOther t (map event_of ms)
seen_other t [] other = tt
seen_other t (m ∷ ms) other = other

drop_front : {A : Type 0} (xs ys : List A) → drop (length xs) (xs ++ ys) ≡ ys
drop_front [] ys = refl
drop_front (x ∷ xs) ys = drop_front xs ys

module _ (marks rest own others : List Mark) (at : ℕ) (rest_is : rest ≡ drop at marks) (parts : rest ≡ own ++ others) where
  others_are : others ≡ drop (at + length own) marks
  others_are = sym (drop_front own others) ∙ ap (drop (length own)) (sym parts ∙ rest_is) ∙ drop-drop (length own) at marks

  module _ (h : List ℕ → List ℕ) (table : ℕ) (other : StartsOther table others) where
    one_more : (own : List Mark) (d : Mark) → rest ≡ own ++ others → AllByRecursion (λ (m : Mark). m.table ≡ table) own → 0 < length rest → (get_or rest 0 d).table ≡ table
        → roots_in h (map event_of rest) ≡ (table, tree_hash h (map event_bytes (map event_of own))) ∷ roots_in h (map event_of others)
    one_more [] d is all some first = nothing others is other
      where
        nothing : (ms : List Mark) → rest ≡ ms → StartsOther table ms → roots_in h (map event_of rest) ≡ (table, tree_hash h []) ∷ roots_in h (map event_of ms)
        nothing [] none starts = absurd (omega (arith, some, ap length none))
        nothing (m ∷ ms) one starts =
            let same : m.table ≡ table = ap (λ (l : List Mark). (get_or l 0 d).table) (sym one) ∙ first in
            let yes = eq-eqb m.table table same in cc
    one_more (m ∷ ms) d is all some first =
        ap (λ (l : List Mark). roots_in h (map event_of l)) is
        ∙ ap (roots_in h) (map-append event_of (m ∷ ms) others)
        ∙ ap (map (group_root h)) (one_group table (event_of m) (map event_of ms) (map event_of others) all.0 (seen_own table ms all.1) (seen_other table others other))
        ∙ ap (λ (n : ℕ). (n, tree_hash h (map event_bytes (map event_of (m ∷ ms)))) ∷ roots_in h (map event_of others)) all.0

    pub group_is : (d : Mark) → All (λ (m : Mark). m.table ≡ table) own → at < length marks → (get_or marks at d).table ≡ table
        → roots_in h (map event_of (drop at marks)) ≡ (table, tree_hash h (map event_bytes (map event_of own))) ∷ roots_in h (map event_of (drop (at + length own) marks))
    group_is d all here first =
        let long = length-drop at marks in
        let at_first : (get_or rest 0 d).table ≡ table =
        ap (λ (l : List Mark). (get_or l 0 d).table) rest_is ∙ ap (λ (m : Mark). m.table) (get_or-drop at marks 0 d) ∙ ap (λ (n : ℕ). (get_or marks n d).table) (omega arith) ∙ first in
        ap (λ (l : List Mark). roots_in h (map event_of l)) (sym rest_is)
        ∙ one_more own d parts (recursion_from_All (λ (m : Mark). m.table ≡ table) own all) (omega (arith, long, here, ap length rest_is)) at_first
        ∙ ap (λ (l : List Mark). (table, tree_hash h (map event_bytes (map event_of own))) ∷ roots_in h (map event_of l)) others_are
