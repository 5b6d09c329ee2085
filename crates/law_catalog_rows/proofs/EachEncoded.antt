-- Rows that spell definitions do so in any order, and with rows about one table more where its definition changes.
use Rattle.std.proofs.Common.{◌≡◌, ◌≢◌, ℕ, ℤ, pos, ◌+◌, inl, inr, refl, sym, ap, subst, ◌∙◌, List, [], ◌∷◌, ◌++◌, length, arith, append-nil}
use Rattle.std.proofs.lemmas.List.Sorted.{length_permutation}
use Rattle.std.specs.List.{AllByRecursion}
use Rattle.std.specs.List.Sorted.{IsPermutation}
use Rattle.sql_types.specs.declared.table.TableDef.{TableDef}
use Rattle.spec_model.specs.Rows.{Row}
use Rattle.spec_model.specs.Catalog.{Defs}
use Rattle.spec_model.specs.Agreement.{IdsFrom}
use Rattle.law_journal.proofs.DefLists.{redef}
use Rattle.law_catalog_rows.specs.Changes.{changes_are_right, items_follow}
use Rattle.law_catalog_rows.specs.Encoded.{latest_table_row, latest_item_rows, is_about, about, IsAmong, EncodeDef, EncodeEach}
use Rattle.law_catalog_rows.specs.Latest.{latest_said}
use Rattle.law_catalog_rows.proofs.About.{StartsWith, more_about, none_more_about}
use Rattle.law_catalog_rows.proofs.Defs.{HasId, has_id, but_last, still_among, last_among, new_or_other, InItsPlace, in_its_place}
use Rattle.law_catalog_rows.proofs.NextRow.{encoded_in_any_order}
use Rattle.law_catalog_rows.proofs.Orders.{filtered}

-- ---- any order

none_left : (xs : List Row) → IsPermutation xs [] → xs ≡ []
none_left [] p = refl
none_left (x ∷ xs) p = absurd (let n : length (x ∷ xs) ≡ 0 = sym (length_permutation (x ∷ xs) [] p) in omega (arith, n))

none_about : (id : ℤ) (rows other : List Row) → IsPermutation other rows → about id rows ≡ [] → about id other ≡ []
none_about id rows other p e = none_left (about id other) (subst (IsPermutation (about id other)) e (filtered (is_about id) other rows p))

module _ (first first' second second' : List Row) (p : IsPermutation first' first) (q : IsPermutation second' second) where
  pub each_in_any_order : (ds : Defs) → EncodeEach first second ds → EncodeEach first' second' ds
  each_in_any_order ds h = record {
    one = λ def a. encoded_in_any_order first first' second second' p q def (h.one def a);
    others = λ id ne. (let o = h.others id ne in (none_about id first first' p o.0, none_about id second second' q o.1));
  }

-- ---- rows about one table more

-- the rows of a table are all that its encoding is of
by_rows : (first first' second second' : List Row) (def : TableDef) → about (pos def.id) first' ≡ about (pos def.id) first → about (pos def.id) second' ≡ about (pos def.id) second
    → EncodeDef first second def → EncodeDef first' second' def
by_rows first first' second second' def e f h = record {
  table = subst (λ (rows : List Row). IsPermutation (latest_said 0 rows) (latest_table_row def ∷ [])) (sym e) h.table;
  items = subst (λ (rows : List Row). IsPermutation (latest_said 1 rows) (latest_item_rows def)) (sym f) h.items;
  changes = ap (λ (rows : List Row). changes_are_right rows (about (pos def.id) second')) e ∙ ap (changes_are_right (about (pos def.id) first)) f ∙ h.changes;
  follow = ap items_follow f ∙ h.follow;
}

same_number : (m n : ℕ) → pos m ≡ pos n → m ≡ n
same_number m n e = cc

only_these : (n : ℕ) (rows others : List Row) → AllByRecursion (StartsWith n) rows → about (pos n) others ≡ [] → about (pos n) (rows ++ others) ≡ about (pos n) rows
only_these n rows others a e =
    more_about n rows others a ∙ ap (λ (xs : List Row). rows ++ xs) e ∙ sym (more_about n rows [] a) ∙ ap (about (pos n)) (append-nil rows)

module _ (first second : List Row) (ds : Defs) (n : ℕ) (ids : IdsFrom n ds) (h : EncodeEach first second ds)
    (def : TableDef) (tables items : List Row) (a : AllByRecursion (StartsWith def.id) tables) (b : AllByRecursion (StartsWith def.id) items) where
  -- rows about another table are as they were
  elsewhere : (d : TableDef) → IsAmong d ds → d.id ≢ def.id → EncodeDef (tables ++ first) (items ++ second) d
  elsewhere d among ne =
      let other : pos def.id ≢ pos d.id = λ e. ne (sym (same_number def.id d.id e)) in
      by_rows first (tables ++ first) second (items ++ second) d
      (none_more_about def.id (pos d.id) other tables first a) (none_more_about def.id (pos d.id) other items second b) (h.one d among)

  no_table : (id : ℤ) → pos def.id ≢ id → ((d : TableDef) → IsAmong d ds → pos d.id ≢ id) → (about id (tables ++ first) ≡ []) × (about id (items ++ second) ≡ [])
  no_table id ne none =
      let o = h.others id none in
      (none_more_about def.id id ne tables first a ∙ o.0, none_more_about def.id id ne items second b ∙ o.1)

  -- the table is new
  pub with_new : def.id ≡ n + length ds → EncodeDef tables items def → EncodeEach (tables ++ first) (items ++ second) (ds ++ def ∷ [])
  with_new new e =
      let none = h.others (pos def.id) (λ d among same. (let r : HasId n ds d = has_id n ds ids d among in let k : d.id ≡ def.id = same_number d.id def.id same in absurd (omega (arith, r.below, k, new)))) in
      record {
        one = λ d among. elim (but_last ds def d among) [
          | inl p ↦ (let r : HasId n ds d = has_id n ds ids d p in elsewhere d p (λ same. absurd (omega (arith, r.below, same, new))))
          | inr p ↦ subst (EncodeDef (tables ++ first) (items ++ second)) p
              (by_rows tables (tables ++ first) items (items ++ second) def (only_these def.id tables first a none.0) (only_these def.id items second b none.1) e)
        ];
        others = λ id ne. no_table id (ne def (last_among ds def)) (λ d among. ne d (still_among ds def d among));
      }

  -- the table has another definition
  pub with_other : (old : TableDef) → IsAmong old ds → def.id ≡ old.id → (EncodeDef first second old → EncodeDef (tables ++ first) (items ++ second) def)
      → EncodeEach (tables ++ first) (items ++ second) (redef def ds)
  with_other old among same e = record {
    one = λ d there. elim (new_or_other def ds d there) [
      | inl p ↦ subst (EncodeDef (tables ++ first) (items ++ second)) p (e (h.one old among))
      | inr q ↦ elsewhere d q.0 q.1
    ];
    others = λ id ne.
        no_table id (let r : InItsPlace def ds old = in_its_place def ds old among in λ k. ne r.other r.among (ap (λ (m : ℕ). pos m) (r.same ∙ sym same) ∙ k))
        (λ d there. (let r : InItsPlace def ds d = in_its_place def ds d there in λ k. ne r.other r.among (ap (λ (m : ℕ). pos m) r.same ∙ k)));
  }
