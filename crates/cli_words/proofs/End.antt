use Rattle.std.proofs.Common.{◌≡◌, ◌∙◌, ◌++◌, ◌+◌, ◌<◌, ap, ap₂, ◌&&◌, ◌||◌, ℕ, Bool, true, false, not, List, [], ◌∷◌, map, length, is_some, Option, Some, None, refl, sym, subst, arith}
use Rattle.std.specs.List.{list_any, fold}
use Rattle.std.specs.Prelude.{if◌then◌else◌, drop}
use Rattle.clap.specs.Walk.{Row, has_row, with_default, finished, rows_after, nothing_held, walk, walk_from, settled}
use Rattle.clap.specs.Simple.{App, built, matches_of, entered}
use Rattle.clap.specs.Kinds.{Kinds, or_else}
use Rattle.clap.specs.Takes.{is_given}
use Rattle.clap.specs.Faults.{level_fault, walk_fault, settle_fault, defaults_fault, check_fault, fault_of, is_simple_and_free, entered_fault}
use Rattle.cli_words.specs.Line.{Text, nothing, uses_of}
use Rattle.cli_words.specs.Shapes.{line_rules, line_shape, operand_rules, full_option, app_for}
use Rattle.cli_words.specs.Subcommands.{name_of, operands_of, options_of}
use Rattle.cli_words.specs.declared.subcommand.Subcommand.{Subcommand}
use Rattle.cli_words.specs.declared.subcommand.Subcommand.TheVariants.{Step, Run, Verify, Extract, Replay, Upgrade, Gen, Receipt, Join, Check, AsOf}
use Rattle.cli_words.proofs.Run.{Tells, All_plain, run}

and_false : (b : Bool) → (b && false) ≡ false
and_false true = refl
and_false false = refl

or_true : (b : Bool) → (b || true) ≡ true
or_true true = refl
or_true false = refl

-- no rule has a default, and none is required
no_defaults : (options operands : List Text) (place : ℕ) (rows : List Row) → defaults_fault rows (operand_rules operands place ++ map full_option options) ≡ []
unfolding defaults_fault
no_defaults [] [] place rows = refl
no_defaults (o ∷ os) [] place rows = rw or_true (same (has_row o rows) (no_defaults os [] place rows))
  where
    same : (b : Bool) → defaults_fault rows (map full_option os) ≡ [] → defaults_fault (if b then rows else rows) (map full_option os) ≡ []
    same true e = e
    same false e = e
no_defaults options (p ∷ ps) place rows = rw or_true (same (has_row p rows) (no_defaults options ps (place + 1) rows))
  where
    same : (b : Bool) → defaults_fault rows (operand_rules ps (place + 1) ++ map full_option options) ≡ [] → defaults_fault (if b then rows else rows) (operand_rules ps (place + 1) ++ map full_option options) ≡ []
    same true e = e
    same false e = e

none_required : (options operands : List Text) (place : ℕ) (rows : List Row) → list_any (λ a. a.required && not (is_given a.id rows)) (operand_rules operands place ++ map full_option options) ≡ false
none_required [] [] place rows = refl
none_required (o ∷ os) [] place rows = none_required os [] place rows
none_required options (p ∷ ps) place rows = none_required options ps (place + 1) rows

same_rows : (b : Bool) (rows : List Row) → (if b then rows else rows) ≡ rows
same_rows true rows = refl
same_rows false rows = refl

kept_rows : (options operands : List Text) (place : ℕ) (rows : List Row) → fold with_default rows (operand_rules operands place ++ map full_option options) ≡ rows
kept_rows [] [] place rows = refl
kept_rows (o ∷ os) [] place rows = ap (λ r. fold with_default r (map full_option os)) (same_rows (has_row o rows) rows) ∙ kept_rows os [] place rows
kept_rows options (p ∷ ps) place rows =
    ap (λ r. fold with_default r (operand_rules ps (place + 1) ++ map full_option options)) (same_rows (has_row p rows) rows) ∙ kept_rows options ps (place + 1) rows

or_nil : (k : Kinds) → or_else k [] ≡ k
or_nil [] = refl
or_nil (k ∷ ks) = refl

-- what clap says of a line's words, by what our definition reads
pub line_says : (name : Text) (options operands words : List Text) (b : Bool) → All_plain words → length operands < 1000
    → Tells (uses_of options operands words) (level_fault (line_shape name options operands) [] nothing_held words b []) (rows_after (line_rules options operands) [] words)
line_says name options operands words b no_dash few =
    let c = line_rules options operands in
    let s = line_shape name options operands in
    let end = (walk c [] nothing_held words).held in
    let rows = (settled c end).rows in
    let t = run name options operands words [] nothing 0 tt no_dash few in
    let fin : finished c end ≡ rows = kept_rows options operands 1 rows in
    let req : check_fault s rows b ≡ [] = rw (none_required options operands 1 rows, and_false (not b)) refl in
    let settled_fault = settle_fault c false end in
    let made : or_else settled_fault (or_else (defaults_fault rows c) (check_fault s (finished c end) b)) ≡ settled_fault =
    ap₂ (λ x (r : List Row). or_else settled_fault (or_else x (check_fault s r b))) (no_defaults options operands 1 rows) fin ∙ ap (or_else settled_fault) req ∙ or_nil settled_fault in
    let is : level_fault s [] nothing_held words b [] ≡ or_else (walk_fault s [] (walk_from nothing_held) words) settled_fault = ap (or_else (walk_fault s [] (walk_from nothing_held) words)) made in
    subst (λ (k : Kinds). Tells (uses_of options operands words) k (finished c end)) (sym is)
    (subst (Tells (uses_of options operands words) (or_else (walk_fault s [] (walk_from nothing_held) words) settled_fault)) (sym fin) t)

no_entry : (a : App) (o : Option (Text × List Text)) → a.subs ≡ [] → (is_some (entered a o) ≡ false) × (entered_fault a o ≡ [])
no_entry a None none = (refl, refl)
no_entry a (Some p) none = rw none (refl, refl)

pub says : (which : Subcommand) (words : List Text) → All_plain (drop 1 words)
    → Tells (uses_of (options_of which) (operands_of which) (drop 1 words)) (fault_of (app_for which) words) (matches_of (app_for which) words)
says Step words no_dash =
    let stop = (walk (built (app_for Step)).top.rules [] nothing_held (drop 1 words)).stopped in
    let no = no_entry (built (app_for Step)) stop refl in
    rw (no.0, no.1) (line_says (name_of Step) (options_of Step) (operands_of Step) (drop 1 words) false no_dash (omega arith))
says Run words no_dash =
    let stop = (walk (built (app_for Run)).top.rules [] nothing_held (drop 1 words)).stopped in
    let no = no_entry (built (app_for Run)) stop refl in
    rw (no.0, no.1) (line_says (name_of Run) (options_of Run) (operands_of Run) (drop 1 words) false no_dash (omega arith))
says Verify words no_dash =
    let stop = (walk (built (app_for Verify)).top.rules [] nothing_held (drop 1 words)).stopped in
    let no = no_entry (built (app_for Verify)) stop refl in
    rw (no.0, no.1) (line_says (name_of Verify) (options_of Verify) (operands_of Verify) (drop 1 words) false no_dash (omega arith))
says Extract words no_dash =
    let stop = (walk (built (app_for Extract)).top.rules [] nothing_held (drop 1 words)).stopped in
    let no = no_entry (built (app_for Extract)) stop refl in
    rw (no.0, no.1) (line_says (name_of Extract) (options_of Extract) (operands_of Extract) (drop 1 words) false no_dash (omega arith))
says Replay words no_dash =
    let stop = (walk (built (app_for Replay)).top.rules [] nothing_held (drop 1 words)).stopped in
    let no = no_entry (built (app_for Replay)) stop refl in
    rw (no.0, no.1) (line_says (name_of Replay) (options_of Replay) (operands_of Replay) (drop 1 words) false no_dash (omega arith))
says Upgrade words no_dash =
    let stop = (walk (built (app_for Upgrade)).top.rules [] nothing_held (drop 1 words)).stopped in
    let no = no_entry (built (app_for Upgrade)) stop refl in
    rw (no.0, no.1) (line_says (name_of Upgrade) (options_of Upgrade) (operands_of Upgrade) (drop 1 words) false no_dash (omega arith))
says Gen words no_dash =
    let stop = (walk (built (app_for Gen)).top.rules [] nothing_held (drop 1 words)).stopped in
    let no = no_entry (built (app_for Gen)) stop refl in
    rw (no.0, no.1) (line_says (name_of Gen) (options_of Gen) (operands_of Gen) (drop 1 words) false no_dash (omega arith))
says Receipt words no_dash =
    let stop = (walk (built (app_for Receipt)).top.rules [] nothing_held (drop 1 words)).stopped in
    let no = no_entry (built (app_for Receipt)) stop refl in
    rw (no.0, no.1) (line_says (name_of Receipt) (options_of Receipt) (operands_of Receipt) (drop 1 words) false no_dash (omega arith))
says Join words no_dash =
    let stop = (walk (built (app_for Join)).top.rules [] nothing_held (drop 1 words)).stopped in
    let no = no_entry (built (app_for Join)) stop refl in
    rw (no.0, no.1) (line_says (name_of Join) (options_of Join) (operands_of Join) (drop 1 words) false no_dash (omega arith))
says Check words no_dash =
    let stop = (walk (built (app_for Check)).top.rules [] nothing_held (drop 1 words)).stopped in
    let no = no_entry (built (app_for Check)) stop refl in
    rw (no.0, no.1) (line_says (name_of Check) (options_of Check) (operands_of Check) (drop 1 words) false no_dash (omega arith))
says AsOf words no_dash =
    let stop = (walk (built (app_for AsOf)).top.rules [] nothing_held (drop 1 words)).stopped in
    let no = no_entry (built (app_for AsOf)) stop refl in
    rw (no.0, no.1) (line_says (name_of AsOf) (options_of AsOf) (operands_of AsOf) (drop 1 words) false no_dash (omega arith))

pub simple : (which : Subcommand) → is_simple_and_free (app_for which) ≡ true
simple Step = refl
simple Run = refl
simple Verify = refl
simple Extract = refl
simple Replay = refl
simple Upgrade = refl
simple Gen = refl
simple Receipt = refl
simple Join = refl
simple Check = refl
simple AsOf = refl
