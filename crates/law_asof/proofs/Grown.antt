-- What is left of each definition under all that follows: its columns and its indexes stay in their places, and what was
-- dropped stays dropped.
use Rattle.std.proofs.Common.{◌≡◌, ℕ, suc, ◌⊎◌, inl, inr, refl, ap, subst, sym, ◌∙◌, Bool, true, false, List, [], ◌∷◌, ◌++◌, length, Some, append-nil, append_assoc}
use Rattle.std.proofs.lemmas.Bool.{eq-eqb, eqb-true}
use Rattle.std.specs.Prelude.{◌==◌, ◌||◌, nat_le, if◌then◌else◌, slice_get}
use Rattle.std.specs.List.{AllByRecursion, filter}
use Rattle.std.specs.Ordering.{nat_cmp}
use Rattle.sql_value.specs.declared.column.ColumnDef.{ColumnDef}
use Rattle.sql_types.specs.declared.table.IndexDef.{IndexDef}
use Rattle.sql_types.specs.declared.table.TableDef.{TableDef}
use Rattle.spec_model.specs.Alter.{dropped_column_name, dropped_table, with_added, with_dropped}
use Rattle.spec_model.specs.Catalog.{Defs}
use Rattle.spec_model.specs.Columns.{names_of}
use Rattle.spec_model.specs.Create.{with_index}
use Rattle.spec_model.specs.Limits.{max_columns}
use Rattle.spec_model.specs.Lists.{has_name, inserted, is_among}
use Rattle.spec_model.specs.LiveColumns.{is_dropped}
use Rattle.law_frame.specs.Alters.{ColumnsStay}
use Rattle.law_frame.proofs.Alls.{all_weaker}
use Rattle.law_frame.proofs.Alterations.{stay_same, added_alters, dropped_alters}
use Rattle.law_frame.proofs.SameKeys.{or_false}
use Rattle.law_frame.proofs.UndoneVersions.{filter_inserted}
use Rattle.law_journal.proofs.DefLists.{IsOnly, redef}

-- ---- numbers among others

or_second : (a b : Bool) → b ≡ true → (a || b) ≡ true
or_second true b e = refl
or_second false b e = e

both_false : (a b : Bool) → a ≡ false → b ≡ false → (a || b) ≡ false
both_false a b e f = rw (e, f) refl

pub filter_own : {A : Type 0} (test : A → Bool) (xs : List A) → AllByRecursion (λ x. test x ≡ true) xs → filter test xs ≡ xs
filter_own test [] h = refl
filter_own test (x ∷ xs) h = rw (h.0, filter_own test xs h.1) refl

all_own : (ns : List ℕ) → AllByRecursion (λ n. is_among ns n ≡ true) ns
all_own [] = tt
all_own (m ∷ ns) =
    (rw (eq-eqb m m refl) refl, all_weaker (λ n. is_among ns n ≡ true) (λ n. is_among (m ∷ ns) n ≡ true) (λ n e. or_second (m == n) (is_among ns n) e) ns (all_own ns))

not_filtered : (test : ℕ → Bool) (n : ℕ) (ms : List ℕ) → is_among ms n ≡ false → is_among (filter test ms) n ≡ false
not_filtered test n [] e = refl
not_filtered test n (m ∷ ms) e = let p = or_false (m == n) (is_among ms n) e in here (test m) p.0 (not_filtered test n ms p.1)
  where
    here : (b : Bool) → (m == n) ≡ false → is_among (filter test ms) n ≡ false → is_among (if b then m ∷ filter test ms else filter test ms) n ≡ false
    here true f g = both_false (m == n) (is_among (filter test ms) n) f g
    here false f g = g

-- ---- one definition

stay_on : (cs ds es : List ColumnDef) → ColumnsStay cs ds → ColumnsStay ds es → ColumnsStay cs es
stay_on [] [] es s t = t
stay_on [] (d ∷ ds) [] s t = absurd t
stay_on [] (d ∷ ds) (e ∷ es) s t = (t.2 s.0, t.1 ∙ s.1, stay_on [] ds es s.2 t.3)
stay_on (c ∷ cs) [] es s t = absurd s
stay_on (c ∷ cs) (d ∷ ds) [] s t = absurd t
stay_on (c ∷ cs) (d ∷ ds) (e ∷ es) s t = (t.0 ∙ s.0, t.1 ∙ s.1, (λ may. t.2 (s.2 may)), stay_on cs ds es s.3 t.3)

-- the definition came to be this one, by any number of changes
pub record Grows (old new : TableDef) : Type 0 where
  pub id : new.id ≡ old.id
  pub columns : ColumnsStay old.columns new.columns
  pub dropped : filter (is_among old.dropped) new.dropped ≡ old.dropped
  pub more : List IndexDef
  pub indexes : new.indexes ≡ old.indexes ++ more

pub grow_itself : (def : TableDef) → Grows def def
grow_itself def = record {
  id = refl;
  columns = stay_same def.columns;
  dropped = filter_own (is_among def.dropped) def.dropped (all_own def.dropped);
  more = [];
  indexes = sym (append-nil def.indexes);
}

-- the ordinals of dropped columns as they were, or with a new one
abbrev NextDropped : List ℕ → List ℕ → Type 0
NextDropped old new = (new ≡ old) ⊎ ((n : ℕ) × (is_among old n ≡ false) × (new ≡ inserted nat_cmp n old))

-- by one change
pub record Next (old new : TableDef) : Type 0 where
  pub id : new.id ≡ old.id
  pub columns : ColumnsStay old.columns new.columns
  pub dropped : NextDropped old.dropped new.dropped
  pub more : List IndexDef
  pub indexes : new.indexes ≡ old.indexes ++ more

dropped_then : (os xs ys : List ℕ) → filter (is_among os) xs ≡ os → NextDropped xs ys → filter (is_among os) ys ≡ os
dropped_then os xs ys e (inl same) = ap (filter (is_among os)) same ∙ e
dropped_then os xs ys e (inr p) =
    ap (filter (is_among os)) p.2
    ∙ filter_inserted (is_among os) nat_cmp p.0 xs (subst (λ (l : List ℕ). is_among l p.0 ≡ false) e (not_filtered (is_among os) p.0 xs p.1))
    ∙ e

then_next : (old x new : TableDef) → Grows old x → Next x new → Grows old new
then_next old x new g n = record {
  id = n.id ∙ g.id;
  columns = stay_on old.columns x.columns new.columns g.columns n.columns;
  dropped = dropped_then old.dropped x.dropped new.dropped g.dropped n.dropped;
  more = g.more ++ n.more;
  indexes = n.indexes ∙ ap (λ (is : List IndexDef). is ++ n.more) g.indexes ∙ append_assoc old.indexes g.more n.more;
}

pub next_index : (def : TableDef) (i : IndexDef) → Next def (with_index def i)
next_index def i = record { id = refl; columns = stay_same def.columns; dropped = inl refl; more = i ∷ []; indexes = refl }

pub next_added : (def : TableDef) (c : ColumnDef) → has_name (names_of def.columns) c.name ≡ false → nat_le max_columns (length def.columns) ≡ false → Next def (with_added def c)
next_added def c free room = record {
  id = refl;
  columns = (added_alters def c free room).columns;
  dropped = inl refl;
  more = [];
  indexes = sym (append-nil def.indexes);
}

pub next_dropped : (def : TableDef) (p : ℕ × ColumnDef) → slice_get def.columns p.0 ≡ Some p.1 → is_dropped def (suc p.0) ≡ false → p.1.key_position ≡ 0
    → has_name (names_of def.columns) (dropped_column_name p.1.name (suc p.0)) ≡ false → Next def (with_dropped def p)
next_dropped def p at live out free = record {
  id = refl;
  columns = (dropped_alters def p at out free).columns;
  dropped = inr (suc p.0, live, refl);
  more = [];
  indexes = sym (append-nil def.indexes);
}

pub next_gone : (def : TableDef) → Next def (dropped_table def)
unfolding dropped_table
next_gone def = record { id = refl; columns = stay_same def.columns; dropped = inl refl; more = []; indexes = sym (append-nil def.indexes) }

-- ---- all definitions

-- each came to be the one in its place; those behind them are new
abbrev pub GrowAll : Defs → Defs → Type 0
GrowAll [] ds = Unit {0}
GrowAll (o ∷ os) [] = ⊥
GrowAll (o ∷ os) (d ∷ ds) = Grows o d × GrowAll os ds

pub all_grow_themselves : (ds : Defs) → GrowAll ds ds
all_grow_themselves [] = tt
all_grow_themselves (d ∷ ds) = (grow_itself d, all_grow_themselves ds)

pub grow_with_new : (os ds : Defs) (def : TableDef) → GrowAll os ds → GrowAll os (ds ++ def ∷ [])
grow_with_new [] ds def g = tt
grow_with_new (o ∷ os) [] def g = absurd g
grow_with_new (o ∷ os) (d ∷ ds) def g = (g.0, grow_with_new os ds def g.1)

module _ (x def : TableDef) (next : Next x def) where
  one_grows : (o d : TableDef) (b : Bool) → (d.id == def.id) ≡ b → IsOnly x d → Grows o d → Grows o (if b then def else d)
  one_grows o d true e only g = then_next o x def (subst (Grows o) (only (eqb-true d.id def.id e ∙ next.id)) g) next
  one_grows o d false e only g = g

  pub grow_redefined : (os ds : Defs) → AllByRecursion (IsOnly x) ds → GrowAll os ds → GrowAll os (redef def ds)
  grow_redefined [] ds only g = tt
  grow_redefined (o ∷ os) [] only g = absurd g
  grow_redefined (o ∷ os) (d ∷ ds) only g = (one_grows o d (d.id == def.id) refl only.0 g.0, grow_redefined os ds only.1 g.1)
