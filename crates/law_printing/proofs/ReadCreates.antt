-- Printed CREATE TABLE is read as itself, whole.
use Rattle.std.proofs.Common.{◌≡◌, ◌∙◌, ℕ, List, [], ◌∷◌, ◌++◌, map, Option, Some, None, refl, ap, sym, append_assoc, codes}
use Rattle.sql_value.specs.declared.column.ColumnDef.{ColumnDef}
use Rattle.sql_value.specs.declared.column.TableKind.{TableKind}
use Rattle.sql_value.specs.declared.column.TableKind.TheVariants.{AppendOnly, Updatable}
use Rattle.sql_types.specs.declared.statement.CreateTable.{CreateTable}
use Rattle.spec_syntax.specs.declared.tag.Tag.TheVariants as t
use Rattle.spec_syntax.specs.declared.word.OptionName.TheVariants as option
use Rattle.spec_syntax.specs.declared.column.Draft.{Draft}
use Rattle.spec_syntax.specs.declared.ledger.Ledger.{Ledger}
use Rattle.spec_syntax.specs.Tags.{same_tag}
use Rattle.spec_syntax.specs.Input.{next, sees, after, expect}
use Rattle.spec_syntax.specs.Words.{option_name}
use Rattle.spec_syntax.specs.Ledger as g
use Rattle.spec_syntax.specs.Table as b
use Rattle.spec_syntax.specs.Printed as p
use Rattle.spec_syntax.specs.Printed.{key, word, enclosed, listed}
use Rattle.spec_syntax.specs.PrintedStmt as s
use Rattle.spec_syntax.specs.Parsed.{IsName, IsColumn, IsHistory, IsTable, Each, OneOrMore}
use Rattle.law_printing.proofs.Repeats.{at_}
use Rattle.law_printing.proofs.ReadTrees.{name_read}
use Rattle.law_printing.proofs.Gets.{Gets, then_gets}
use Rattle.law_printing.proofs.ReadTables.{drafted, items_gets, option_read, the_read, versions_read, chosen_own, chosen_more}

abbrev Part : TableKind → Option (List ℕ) → Option (List ℕ) → Ledger
Part kind h v = record { kind = kind; history = h; view = v }

updatable_read : (h v : Option (List ℕ)) (n : ℕ) → g.ledger (at_ (s.updatable h v ++ key t.Close ∷ []) n) ≡ Some (Part Updatable h v, at_ (key t.Close ∷ []) n)
unfolding g.ledger expect sees next same_tag option_name g.same_option
updatable_read h v n =
    let close = key t.Close ∷ [] in
    let middle = key t.Comma ∷ word (codes "LEDGER") ∷ s.on in
    let tail = word (codes "LEDGER") ∷ (s.on ++ (s.own_view v ++ close)) in
    let flat = append_assoc (s.history h ++ middle) (s.own_view v) close ∙ append_assoc (s.history h) middle (s.own_view v ++ close) in
    rw flat (rw (option_read (codes "SYSTEM_VERSIONING") option.SystemVersioning (s.on ++ (s.history h ++ key t.Comma ∷ tail)) n refl)
    (rw (versions_read h tail n) (rw (the_read (codes "LEDGER") option.Ledger (s.on ++ (s.own_view v ++ close)) n refl refl) (rw (chosen_own v n) refl))))

append_only_read : (v : Option (List ℕ)) (n : ℕ) → g.ledger (at_ (s.append_only v ++ key t.Close ∷ []) n) ≡ Some (Part AppendOnly None v, at_ (key t.Close ∷ []) n)
unfolding g.ledger sees after next same_tag option_name
append_only_read v n =
    rw (option_read (codes "LEDGER") option.Ledger (s.on ++ (enclosed (s.choices v) ++ key t.Close ∷ [])) n refl) (rw (chosen_more v n) refl)

ledger_read : (kind : TableKind) (h v : Option (List ℕ)) (n : ℕ) → IsHistory kind h → g.ledger (at_ (s.ledger kind h v ++ key t.Close ∷ []) n) ≡ Some (Part kind h v, at_ (key t.Close ∷ []) n)
unfolding s.ledger
ledger_read Updatable h v n is = updatable_read h v n
ledger_read AppendOnly h v n is = append_only_read v n ∙ ap (λ x. Some (Part AppendOnly x v, at_ (key t.Close ∷ []) n)) (sym is)

part_read : (kind : TableKind) (h v : Option (List ℕ)) (n : ℕ) → IsHistory kind h → g.ledger_part (at_ (key t.With ∷ enclosed (s.ledger kind h v)) n) ≡ Some (Part kind h v, at_ [] n)
unfolding g.ledger_part expect sees after next same_tag
part_read kind h v n is = rw (ledger_read kind h v n is) refl

-- ---- the table

column_back : (ks : List (List ℕ)) (c : ColumnDef) → IsColumn c → b.column_def ks (drafted c) ≡ c
column_back ks c is =
    let f : ℕ → ColumnDef = λ z. record { name = c.name; ty = c.ty; nullable = c.nullable; key_position = z } in
    ap f (sym is.2)

columns_back : (ks : List (List ℕ)) (cs : List ColumnDef) → Each IsColumn cs → map (b.column_def ks) (map drafted cs) ≡ cs
columns_back ks [] is = refl
columns_back ks (c ∷ cs) is = ap (λ x. x ∷ map (b.column_def ks) (map drafted cs)) (column_back ks c is.0) ∙ ap (λ x. c ∷ x) (columns_back ks cs is.1)

fields_gets : (n : List ℕ) (columns : List ColumnDef) (ks : List (List ℕ)) (kind : TableKind) (h v : Option (List ℕ)) (m : ℕ) → OneOrMore IsColumn columns → OneOrMore IsName ks → IsHistory kind h
    → Gets (b.create_table (at_ (p.name n ∷ (enclosed (listed s.column columns ++ key t.Comma ∷ key t.Primary ∷ key t.Key ∷ s.names ks) ++ key t.With ∷ enclosed (s.ledger kind h v))) m))
    (record { name = n; columns = columns; key = ks; kind = kind; history = h; view = v }) []
unfolding b.create_table expect sees next same_tag
fields_gets n [] ks kind h v m columns_ key_ is = absurd columns_
fields_gets n (c ∷ cs) ks kind h v m columns_ key_ is =
    let tail = key t.With ∷ enclosed (s.ledger kind h v) in
    let items = listed s.column (c ∷ cs) ++ key t.Comma ∷ key t.Primary ∷ key t.Key ∷ s.names ks in
    let x : CreateTable = record { name = n; columns = c ∷ cs; key = ks; kind = kind; history = h; view = v } in
    let d : Draft = record { columns = drafted c ∷ map drafted cs; key = Some ks } in
    let flat : (items ++ key t.Close ∷ []) ++ tail ≡ items ++ key t.Close ∷ tail = append_assoc items (key t.Close ∷ []) tail in
    let back : map (b.column_def ks) (drafted c ∷ map drafted cs) ≡ c ∷ cs = columns_back ks (c ∷ cs) columns_ in
    rw flat (rw (name_read n (key t.Open ∷ (items ++ key t.Close ∷ tail)) m)
    (then_gets (λ y. _) d x (key t.Close ∷ tail) [] (b.items b.no_items (at_ (items ++ key t.Close ∷ tail) m)) (items_gets c cs ks tail m columns_.0 columns_.1 key_)
    (λ k. rw (part_read kind h v k is) (ap (λ z. record { name = n; columns = z; key = ks; kind = kind; history = h; view = v }) back, refl))))

pub table_gets : (x : CreateTable) (m : ℕ) → IsTable x
    → Gets (b.create_table (at_ (p.name x.name ∷ (enclosed (s.table_items x) ++ key t.With ∷ enclosed (s.ledger x.kind x.history x.view))) m)) x []
table_gets x m is = fields_gets x.name x.columns x.key x.kind x.history x.view m is.1 is.2 is.3
