use Rattle.std.proofs.Common.{◌≡◌, ◌∙◌, ap, Bool, true, false, List, [], ◌∷◌, map, Option, Some, None, refl, sym, codes, true≢false}
use Rattle.std.specs.List.{list_any, find}
use Rattle.std.specs.Str.{bytes_eq}
use Rattle.std.specs.Prelude.{option_map, option_and_then, slice_get, if◌then◌else◌, drop, String, string_bytes}
use Rattle.clap.specs.Walk.{Row, first_of}
use Rattle.clap.specs.Words.{fault_of, matches_of, rows_of, found_of, first_value}
use Rattle.clap.specs.declared.parser.matches.ArgMatches.{ArgMatches}
use Rattle.clap.proofs.WalkLemmas.{first_value-rows, list_any-map}
use Rattle.cli_words.specs.Line.{Text, Use, uses_of, ◌>>=◌}
use Rattle.cli_words.specs.Commands.{given, has_dashes, settings, past_journal, part, meaning_of, plain_of}
use Rattle.cli_words.specs.Shapes.{Matched, Finds, app_for}
use Rattle.cli_words.specs.Subcommands.{operands_of, options_of}
use Rattle.cli_words.specs.declared.subcommand.Subcommand.{Subcommand}
use Rattle.cli_words.specs.declared.subcommand.Subcommand.TheVariants.{Step, Run, Verify, Extract, Replay, Upgrade, Gen, Receipt, Join, Check, AsOf}
use Rattle.cli_words.proofs.Run.{Tells, All_plain, rows_of_uses, row_of_use}
use Rattle.cli_words.proofs.End.{says}

no_dashes : (words : List Text) → has_dashes words ≡ false → All_plain words
no_dashes [] e = tt
no_dashes (w ∷ ws) e = go (bytes_eq w (codes "--")) refl (no_dashes ws)
  where
    go : (b : Bool) → bytes_eq w (codes "--") ≡ b → (has_dashes ws ≡ false → All_plain ws) → All_plain (w ∷ ws)
    go true f rest = let hit : has_dashes (w ∷ ws) ≡ true = rw f refl in absurd (true≢false (sym hit ∙ e))
    go false f rest = (f, rest (rw f at e))

given_row : (uses : List Use) (name : Text) → first_of name (rows_of_uses uses) ≡ given uses name
given_row [] name = refl
given_row (u ∷ us) name = go (bytes_eq u.0 name) (given_row us name)
  where
    go : (b : Bool) → first_of name (rows_of_uses us) ≡ given us name
        → option_and_then (λ (r : Row). slice_get r.values 0) (if b then Some (row_of_use u) else find (λ r. bytes_eq r.id name) (rows_of_uses us))
        ≡ option_map (λ (v : Use). v.1) (if b then Some u else find (λ v. bytes_eq v.0 name) us)
    go true e = refl
    go false e = e

value_given : (m : ArgMatches) (uses : List Use) → rows_of (found_of m) ≡ rows_of_uses uses → (t : Text) → first_value (found_of m) t ≡ given uses t
value_given m uses e t = first_value-rows (found_of m) t ∙ ap (first_of t) e ∙ given_row uses t

-- what clap finds is what the definition reads
pub found : (which : Subcommand) (words : List Text) (o : Option ArgMatches) → has_dashes (drop 1 words) ≡ false → Matched (app_for which) words o
    → Finds (uses_of (options_of which) (operands_of which) (drop 1 words)) o
found which words o none m = go (uses_of (options_of which) (operands_of which) (drop 1 words)) o (says which words (no_dashes (drop 1 words) none)) m
  where
    go : (u : Option (List Use)) (r : Option ArgMatches) → Tells u (fault_of (app_for which) words) (matches_of (app_for which) words)
        → Matched (app_for which) words r → Finds u r
    go None None t f = tt
    go None (Some x) t f = absurd (t f.0)
    go (Some uses) None t f = absurd (f t.0)
    go (Some uses) (Some x) t f = value_given x uses (f.1 ∙ t.1)

settings_same : (f g : Text → Option Text) → ((t : Text) → f t ≡ g t) → settings f ≡ settings g
unfolding settings
settings_same f g h = rw (h (codes "block-size"), h (codes "clock"), h (codes "database")) refl

past_journal_same : (f g : Text → Option Text) → ((t : Text) → f t ≡ g t) → past_journal f ≡ past_journal g
unfolding past_journal
past_journal_same f g h = rw (h (codes "from"), h (codes "database")) refl

part_same : (f g : Text → Option Text) → ((t : Text) → f t ≡ g t) → part f ≡ part g
unfolding part
part_same f g h = rw (h (codes "table"), h (codes "event")) refl

same : (which : Subcommand) (f g : Text → Option Text) → ((t : Text) → f t ≡ g t) → meaning_of which f ≡ meaning_of which g
unfolding meaning_of
same Step f g h = rw (h (codes "save"), past_journal_same f g h, settings_same f g h) refl
same Run f g h = rw (h (codes "save"), past_journal_same f g h, settings_same f g h) refl
same Verify f g h = rw (h (codes "IMAGE"), h (codes "DIGESTS"), h (codes "workers")) refl
same Extract f g h = rw (h (codes "HONEST"), h (codes "SUSPECT"), h (codes "DIGESTS")) refl
same Replay f g h = rw (h (codes "JOURNAL"), h (codes "save")) refl
same Upgrade f g h = rw (h (codes "IMAGE"), h (codes "save")) refl
same Gen f g h = rw (h (codes "COUNT")) refl
same Receipt f g h = rw (h (codes "IMAGE"), h (codes "DIGESTS"), h (codes "TX"), part_same f g h, h (codes "save")) refl
same Join f g h = rw (h (codes "IMAGE"), h (codes "DIGESTS"), h (codes "save")) refl
same Check f g h = rw (h (codes "RECEIPT"), h (codes "DIGESTS")) refl
same AsOf f g h = rw (h (codes "IMAGE"), h (codes "N"), h (codes "digests")) refl

pub arguments_found : (which : Subcommand) (words : List Text) (m : ArgMatches) → has_dashes words ≡ false
    → Finds (uses_of (options_of which) (operands_of which) words) (Some m) → meaning_of which (first_value (found_of m)) ≡ plain_of which words
unfolding plain_of
arguments_found which words m none finds = rw none (go (uses_of (options_of which) (operands_of which) words) finds)
  where
    go : (u : Option (List Use)) → Finds u (Some m) → meaning_of which (first_value (found_of m)) ≡ u >>= λ uses. meaning_of which (given uses)
    go None f = absurd f
    go (Some uses) f = same which (first_value (found_of m)) (given uses) f

pub arguments_none : (which : Subcommand) (words : List Text) → has_dashes words ≡ false
    → Finds (uses_of (options_of which) (operands_of which) words) None → None ≡ plain_of which words
unfolding plain_of
arguments_none which words none finds = rw none (go (uses_of (options_of which) (operands_of which) words) finds)
  where
    go : (u : Option (List Use)) → Finds u None → None ≡ u >>= λ uses. meaning_of which (given uses)
    go None f = refl
    go (Some uses) f = absurd f

pub arguments_dashes : (which : Subcommand) (words : List Text) → has_dashes words ≡ true → None ≡ plain_of which words
unfolding plain_of
arguments_dashes which words some = rw some refl

-- the test of the code is that of the definition
pub dashes_are : {Z : Type 0} (words : List (String Z)) → has_dashes (drop 1 (map string_bytes words)) ≡ list_any (λ w. bytes_eq (string_bytes w) (codes "--")) (drop 1 words)
dashes_are [] = refl
dashes_are (w ∷ ws) = sym (list_any-map (λ t. bytes_eq t (codes "--")) string_bytes ws)
