-- What a SELECT shows, by the rows that its condition takes.
use Rattle.std.proofs.Common.{◌≡◌, ℕ, List, Option, Result, Ok, subst, sym}
use Rattle.std.specs.Prelude.{Vec}
use Rattle.std.specs.declared.alloc.Global.{Global}
use Rattle.sql_value.specs.declared.column.ColumnDef.{ColumnDef}
use Rattle.sql_value.specs.declared.refusal.Refusal.{Refusal}
use Rattle.sql_types.specs.declared.statement.Select.{Select}
use Rattle.sql_types.specs.declared.table.Part.{Part}
use Rattle.sql_types.specs.declared.table.TableDef.{TableDef}
use Rattle.sql_types.specs.declared.version.Version.{Version}
use Rattle.spec_model.specs.Effect.{query_rows}
use Rattle.spec_model.specs.Keys.{Key}
use Rattle.spec_model.specs.Lists.{sorted, checked_filter}
use Rattle.spec_model.specs.Parts.{columns_of, rows_of, shown_of}
use Rattle.spec_model.specs.Query.{order_cmp, selected, apply_select_list}
use Rattle.spec_model.specs.Refusals.{and_then}
use Rattle.spec_model.specs.Rows.{Row}
use Rattle.spec_model.specs.Where.{holds, key_fixed}
use Rattle.sql_select.specs.Answers.{ItemsMatchUnlessOom}

pub shown_is : (def : TableDef) (part : Part) (q : Select) (versions : List Version) (columns : List ColumnDef) (dropped : List ℕ) (shown : ℕ) (key : Option Key) (taken : List Row) (r : Result (Vec Row Global) Refusal)
    → columns ≡ columns_of def part → dropped ≡ def.dropped → shown ≡ shown_of def part → key ≡ key_fixed def.columns q.cond
    → checked_filter (holds columns q.cond) (rows_of def part key versions) ≡ Ok taken
    → ItemsMatchUnlessOom (apply_select_list columns dropped shown q.what (sorted (order_cmp columns q.order) taken)) r
    → ItemsMatchUnlessOom (query_rows q (def, part) versions) r
unfolding query_rows selected
shown_is def part q versions columns dropped shown key taken r columns_are dropped_are shown_are key_is was given =
    let first : ItemsMatchUnlessOom (and_then (checked_filter (holds columns q.cond) (rows_of def part key versions)) (λ t. apply_select_list columns dropped shown q.what (sorted (order_cmp columns q.order) t))) r =
    subst (λ x. ItemsMatchUnlessOom (and_then x (λ t. apply_select_list columns dropped shown q.what (sorted (order_cmp columns q.order) t))) r) (sym was) given in
    let second : ItemsMatchUnlessOom (and_then (checked_filter (holds columns q.cond) (rows_of def part (key_fixed def.columns q.cond) versions)) (λ t. apply_select_list columns dropped (shown_of def part) q.what (sorted (order_cmp columns q.order) t))) r =
    subst (λ n. ItemsMatchUnlessOom (and_then (checked_filter (holds columns q.cond) (rows_of def part (key_fixed def.columns q.cond) versions)) (λ t. apply_select_list columns dropped n q.what (sorted (order_cmp columns q.order) t))) r) shown_are
    (subst (λ k. ItemsMatchUnlessOom (and_then (checked_filter (holds columns q.cond) (rows_of def part k versions)) (λ t. apply_select_list columns dropped shown q.what (sorted (order_cmp columns q.order) t))) r) key_is first) in
    let third : ItemsMatchUnlessOom (and_then (checked_filter (holds columns q.cond) (rows_of def part (key_fixed def.columns q.cond) versions)) (λ t. apply_select_list columns def.dropped (shown_of def part) q.what (sorted (order_cmp columns q.order) t))) r =
    subst (λ ds. ItemsMatchUnlessOom (and_then (checked_filter (holds columns q.cond) (rows_of def part (key_fixed def.columns q.cond) versions)) (λ t. apply_select_list columns ds (shown_of def part) q.what (sorted (order_cmp columns q.order) t))) r) dropped_are second in
    subst (λ cs. ItemsMatchUnlessOom (and_then (checked_filter (holds cs q.cond) (rows_of def part (key_fixed def.columns q.cond) versions)) (λ t. apply_select_list cs def.dropped (shown_of def part) q.what (sorted (order_cmp cs q.order) t))) r) columns_are third
