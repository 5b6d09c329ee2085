-- The values of a command that words say have their ranges.
use Rattle.std.proofs.Common.{ℕ, ◌≡◌, ◌≤◌, arith, Bool, true, false, List, [], ◌∷◌, Option, Some, None, refl, sym, subst, codes}
use Rattle.std.specs.Prelude.{◌&&◌, ◌||◌, IfSome, if◌then◌else◌, nat_le, option_map, drop}
use Rattle.std.specs.Str.{bytes_eq}
use Rattle.std.proofs.lemmas.Bool.Decides.{nat_tests}
use Rattle.base_types.specs.DatabaseName.{is_database_name}
use Rattle.base_types.specs.declared.moment.TheConstants.{MAX_TICKS}
use Rattle.cli_words.specs.Commands.{Settings, AreInRange, IsInRange, Command, Step, Run, Verify, Extract, Replay, Upgrade, Gen, Receipt, Join, Check, AsOf, IsPartInRange, given, settings, past_journal, part_from, part, meaning_of, has_dashes, plain_of, asks_coverage, covering, arguments_of, asks_help, alone, help_on, others, behind, command_of}
use Rattle.cli_words.specs.Commands as said
use Rattle.cli_words.specs.Forms.{is_number, number_from, number_in, database_name, file_name, save_name, or_default, if_given}
use Rattle.cli_words.specs.Line.{Text, uses_of, ◌>>=◌}
use Rattle.cli_words.specs.Subcommands.{named, operands_of, options_of}
use Rattle.cli_words.specs.Views.{command_view}
use Rattle.cli_words.specs.declared.command.Command as coded
use Rattle.cli_words.specs.declared.forms.TheConstants.{MAX_TX, MAX_TABLE, MAX_EVENT}
use Rattle.cli_words.specs.declared.part.Part.{Part}
use Rattle.cli_words.specs.declared.part.Part.TheVariants as shown
use Rattle.cli_words.specs.declared.subcommand.Subcommand.{Subcommand}
use Rattle.cli_words.specs.declared.subcommand.Subcommand.TheVariants as which

-- what is found behind a step that may fail
pub record Bound {A B : Type 0} (o : Option A) (f : A → Option B) (b : B) : Type 0 where
  pub value : A
  pub found : o ≡ Some value
  pub rest : f value ≡ Some b

bound : {A B : Type 0} (o : Option A) (f : A → Option B) (b : B) → (o >>= f) ≡ Some b → Bound o f b
bound None f b e = absurd cc
bound (Some a) f b e = record { value = a; found = refl; rest = e }

inner : {A : Type 0} (a b : A) → Some a ≡ Some b → a ≡ b
inner a b e = cc

tested : {A : Type 0} (b : Bool) (m n : A) → (if b then Some m else None) ≡ Some n → (b ≡ true) × (m ≡ n)
tested true m n e = (refl, inner m n e)
tested false m n e = absurd cc

-- ---- forms of values

both : (a b c : Bool) → (a && (b && c)) ≡ true → (b ≡ true) × (c ≡ true)
both true true true e = (refl, refl)
both true true false e = absurd cc
both true false c e = absurd cc
both false b c e = absurd cc

at_most : (m n : ℕ) → nat_le m n ≡ true → m ≤ n
at_most m n e = grind (arith, nat_tests)

pub record Within (low high n : ℕ) : Type 0 where
  pub least : low ≤ n
  pub most : n ≤ high

number_within : (low high : ℕ) (text : Text) (n : ℕ) → number_in low high text ≡ Some n → Within low high n
unfolding number_in
number_within low high text n e =
    let r = tested (is_number text && (nat_le low (number_from 0 text) && nat_le (number_from 0 text) high)) (number_from 0 text) n e in
    let t = both (is_number text) (nat_le low (number_from 0 text)) (nat_le (number_from 0 text) high) r.0 in
    subst (λ k. Within low high k) r.1 (record { least = at_most low (number_from 0 text) t.0; most = at_most (number_from 0 text) high t.1 })

or_within : (default low high : ℕ) → Within low high default → (text : Option Text) (n : ℕ) → or_default default (number_in low high) text ≡ Some n → Within low high n
or_within default low high within None n e = subst (λ k. Within low high k) (inner default n e) within
or_within default low high within (Some text) n e = number_within low high text n e

given_within : (low high : ℕ) (text : Option Text) (o : Option ℕ) → if_given (number_in low high) text ≡ Some o → IfSome o (λ n. Within low high n)
given_within low high None o e = subst (λ k. IfSome k (λ n. Within low high n)) (inner None o e) tt
given_within low high (Some text) o e = go (number_in low high text) refl e
  where
    go : (found : Option ℕ) → number_in low high text ≡ found → option_map (λ (a : ℕ). Some a) found ≡ Some o → IfSome o (λ n. Within low high n)
    go None is f = absurd cc
    go (Some n) is f = subst (λ k. IfSome k (λ n. Within low high n)) (inner (Some n) o f) (number_within low high text n is)

at_most_of : (low high : ℕ) (o : Option ℕ) → IfSome o (λ n. Within low high n) → IfSome o (λ n. n ≤ high)
at_most_of low high None within = tt
at_most_of low high (Some n) within = within.most

default_named : is_database_name (codes "LedgerDB") ≡ true
unfolding is_database_name
default_named = refl

database_named : (text : Option Text) (name : Text) → or_default (codes "LedgerDB") database_name text ≡ Some name → is_database_name name ≡ true
database_named None name e = subst (λ n. is_database_name n ≡ true) (inner (codes "LedgerDB") name e) default_named
database_named (Some text) name e =
    let r = tested (is_database_name text) text name e in
    subst (λ n. is_database_name n ≡ true) r.1 r.0

-- ---- settings

in_range : (value : Text → Option Text) (how : Settings) → settings value ≡ Some how → AreInRange how
unfolding settings
in_range value how e =
    let a = bound (or_default 100000 (number_in 1 100000) (value (codes "block-size"))) _ how e in
    let b = bound (if_given (number_in 0 MAX_TICKS) (value (codes "clock"))) _ how a.rest in
    let c = bound (or_default (codes "LedgerDB") database_name (value (codes "database"))) _ how b.rest in
    let size = or_within 100000 1 100000 (record { least = omega arith; most = omega arith }) (value (codes "block-size")) a.value a.found in
    let made : Settings = record { block_size = a.value; clock = b.value; database = c.value } in
    subst (λ s. AreInRange s) (inner made how c.rest) (record {
      least = size.least;
      most = size.most;
      clock = at_most_of 0 MAX_TICKS b.value (given_within 0 MAX_TICKS (value (codes "clock")) b.value b.found);
      database = database_named (value (codes "database")) c.value c.found;
    })

-- ---- what is shown of a transaction

from_range : (table event : Option ℕ) (p : Part) → IfSome table (λ n. Within 1 MAX_TABLE n) → IfSome event (λ n. Within 0 MAX_EVENT n) → part_from table event ≡ Some p → IsPartInRange p
from_range None None p t e is = subst IsPartInRange (inner shown.Entry p is) tt
from_range (Some id) None p t e is = subst IsPartInRange (inner (shown.Table id) p is) (t.least, t.most)
from_range (Some id) (Some number) p t e is = subst IsPartInRange (inner (shown.Event id number) p is) (t.least, t.most, e.most)
from_range None (Some number) p t e is = absurd cc

part_range : (value : Text → Option Text) (p : Part) → part value ≡ Some p → IsPartInRange p
unfolding part
part_range value p e =
    let a = bound (if_given (number_in 1 MAX_TABLE) (value (codes "table"))) _ p e in
    let b = bound (if_given (number_in 0 MAX_EVENT) (value (codes "event"))) _ p a.rest in
    from_range a.value b.value p (given_within 1 MAX_TABLE (value (codes "table")) a.value a.found) (given_within 0 MAX_EVENT (value (codes "event")) b.value b.found) b.rest

-- ---- commands

some_range : (c d : Command) → c ≡ d → IsInRange c → IsInRange d
some_range c d e range = subst (λ x. IsInRange x) e range

-- behind a step that may fail
every : {A B : Type 0} (o : Option A) (f : A → Option B) (P : B → Type 0) → ((a : A) → o ≡ Some a → (b : B) → f a ≡ Some b → P b) → (b : B) → (o >>= f) ≡ Some b → P b
every None f P h b e = absurd cc
every (Some a) f P h b e = h a refl b e

is_some : (c d : Command) → IsInRange c → Some c ≡ Some d → IsInRange d
is_some c d range e = some_range c d (inner c d e) range

has_range : (w : Subcommand) (value : Text → Option Text) (c : Command) → meaning_of w value ≡ Some c → IsInRange c
unfolding meaning_of
has_range which.Step value =
    every (value (codes "save") >>= save_name) (λ save. past_journal value >>= λ journal. settings value >>= λ how. Some (Step save journal how)) IsInRange
    (λ save is. every (past_journal value) (λ journal. settings value >>= λ how. Some (Step save journal how)) IsInRange
    (λ journal given. every (settings value) (λ how. Some (Step save journal how)) IsInRange (λ how said d. is_some (Step save journal how) d (in_range value how said))))
has_range which.Run value =
    every (value (codes "save") >>= save_name) (λ save. past_journal value >>= λ journal. settings value >>= λ how. Some (Run save journal how)) IsInRange
    (λ save is. every (past_journal value) (λ journal. settings value >>= λ how. Some (Run save journal how)) IsInRange
    (λ journal given. every (settings value) (λ how. Some (Run save journal how)) IsInRange (λ how said d. is_some (Run save journal how) d (in_range value how said))))
has_range which.Verify value =
    every (value (codes "IMAGE") >>= file_name) (λ image. if_given file_name (value (codes "DIGESTS")) >>= λ digests. or_default 1 (number_in 1 16) (value (codes "workers")) >>= λ workers. Some (Verify image digests workers false)) IsInRange
    (λ image is. every (if_given file_name (value (codes "DIGESTS"))) (λ digests. or_default 1 (number_in 1 16) (value (codes "workers")) >>= λ workers. Some (Verify image digests workers false)) IsInRange
    (λ digests are. every (or_default 1 (number_in 1 16) (value (codes "workers"))) (λ workers. Some (Verify image digests workers false)) IsInRange
    (λ workers work d. let within = or_within 1 1 16 (record { least = omega arith; most = omega arith }) (value (codes "workers")) workers work in
    is_some (Verify image digests workers false) d (within.least, within.most))))
has_range which.Extract value =
    every (value (codes "HONEST") >>= file_name) (λ honest. value (codes "SUSPECT") >>= file_name >>= λ suspect. value (codes "DIGESTS") >>= file_name >>= λ digests. Some (Extract honest suspect digests)) IsInRange
    (λ honest is. every (value (codes "SUSPECT") >>= file_name) (λ suspect. value (codes "DIGESTS") >>= file_name >>= λ digests. Some (Extract honest suspect digests)) IsInRange
    (λ suspect also. every (value (codes "DIGESTS") >>= file_name) (λ digests. Some (Extract honest suspect digests)) IsInRange
    (λ digests are d. is_some (Extract honest suspect digests) d tt)))
has_range which.Replay value =
    every (value (codes "JOURNAL") >>= file_name) (λ journal. value (codes "save") >>= save_name >>= λ save. Some (Replay journal save)) IsInRange
    (λ journal is. every (value (codes "save") >>= save_name) (λ save. Some (Replay journal save)) IsInRange
    (λ save also d. is_some (Replay journal save) d tt))
has_range which.Upgrade value =
    every (value (codes "IMAGE") >>= file_name) (λ image. value (codes "save") >>= save_name >>= λ save. Some (Upgrade image save)) IsInRange
    (λ image is. every (value (codes "save") >>= save_name) (λ save. Some (Upgrade image save)) IsInRange
    (λ save also d. is_some (Upgrade image save) d tt))
has_range which.Gen value =
    every (value (codes "COUNT") >>= number_in 1 10000) (λ count. Some (Gen count)) IsInRange
    (λ count is d. let b = bound (value (codes "COUNT")) (number_in 1 10000) count is in
    let within = number_within 1 10000 b.value count b.rest in is_some (Gen count) d (within.least, within.most))
has_range which.Receipt value =
    every (value (codes "IMAGE") >>= file_name) (λ image. value (codes "DIGESTS") >>= file_name >>= λ digests. value (codes "TX") >>= number_in 1 MAX_TX >>= λ tx. part value >>= λ p. value (codes "save") >>= save_name >>= λ save. Some (Receipt image digests tx p save)) IsInRange
    (λ image is. every (value (codes "DIGESTS") >>= file_name) (λ digests. value (codes "TX") >>= number_in 1 MAX_TX >>= λ tx. part value >>= λ p. value (codes "save") >>= save_name >>= λ save. Some (Receipt image digests tx p save)) IsInRange
    (λ digests are. every (value (codes "TX") >>= number_in 1 MAX_TX) (λ tx. part value >>= λ p. value (codes "save") >>= save_name >>= λ save. Some (Receipt image digests tx p save)) IsInRange
    (λ tx said. every (part value) (λ p. value (codes "save") >>= save_name >>= λ save. Some (Receipt image digests tx p save)) IsInRange
    (λ p shows. every (value (codes "save") >>= save_name) (λ save. Some (Receipt image digests tx p save)) IsInRange
    (λ save also d. let b = bound (value (codes "TX")) (number_in 1 MAX_TX) tx said in
    let within = number_within 1 MAX_TX b.value tx b.rest in is_some (Receipt image digests tx p save) d (within.least, within.most, part_range value p shows))))))
has_range which.Join value =
    every (value (codes "IMAGE") >>= file_name) (λ image. value (codes "DIGESTS") >>= file_name >>= λ digests. value (codes "save") >>= save_name >>= λ save. Some (Join image digests save)) IsInRange
    (λ image is. every (value (codes "DIGESTS") >>= file_name) (λ digests. value (codes "save") >>= save_name >>= λ save. Some (Join image digests save)) IsInRange
    (λ digests are. every (value (codes "save") >>= save_name) (λ save. Some (Join image digests save)) IsInRange
    (λ save also d. is_some (Join image digests save) d tt)))
has_range which.Check value =
    every (value (codes "RECEIPT") >>= file_name) (λ receipt. value (codes "DIGESTS") >>= file_name >>= λ digests. Some (Check receipt digests)) IsInRange
    (λ receipt is. every (value (codes "DIGESTS") >>= file_name) (λ digests. Some (Check receipt digests)) IsInRange
    (λ digests are d. is_some (Check receipt digests) d tt))
has_range which.AsOf value =
    every (value (codes "IMAGE") >>= file_name) (λ image. value (codes "N") >>= number_in 0 MAX_TX >>= λ n. if_given file_name (value (codes "digests")) >>= λ digests. Some (AsOf image n digests)) IsInRange
    (λ image is. every (value (codes "N") >>= number_in 0 MAX_TX) (λ n. if_given file_name (value (codes "digests")) >>= λ digests. Some (AsOf image n digests)) IsInRange
    (λ n said. every (if_given file_name (value (codes "digests"))) (λ digests. Some (AsOf image n digests)) IsInRange
    (λ digests are d. let b = bound (value (codes "N")) (number_in 0 MAX_TX) n said in
    let within = number_within 0 MAX_TX b.value n b.rest in is_some (AsOf image n digests) d within.most)))

plain_range : (w : Subcommand) (words : List Text) (c : Command) → plain_of w words ≡ Some c → IsInRange c
unfolding plain_of
plain_range w words c e = go (has_dashes words) e
  where
    go : (b : Bool) → (if b then None else uses_of (options_of w) (operands_of w) words >>= λ uses. meaning_of w (given uses)) ≡ Some c → IsInRange c
    go true f = absurd cc
    go false f =
        let a = bound (uses_of (options_of w) (operands_of w) words) (λ uses. meaning_of w (given uses)) c f in
        has_range w (given a.value) c a.rest

covered : (c d : Command) → IsInRange c → covering c ≡ Some d → IsInRange d
covered (Verify image digests workers covers) d range e = is_some (Verify image digests workers true) d range e
covered (Step save journal how) d range e = absurd cc
covered (Run save journal how) d range e = absurd cc
covered (Extract honest suspect digests) d range e = absurd cc
covered (Replay journal save) d range e = absurd cc
covered (Upgrade image save) d range e = absurd cc
covered (Gen count) d range e = absurd cc
covered (Receipt image digests tx p save) d range e = absurd cc
covered (Join image digests save) d range e = absurd cc
covered (Check receipt digests) d range e = absurd cc
covered (AsOf image n digests) d range e = absurd cc
covered (said.Help w) d range e = absurd cc
covered said.Version d range e = absurd cc

arguments_range : (w : Subcommand) (words : List Text) (c : Command) → arguments_of w words ≡ Some c → IsInRange c
unfolding arguments_of
arguments_range w words c e = go (asks_coverage words) e
  where
    go : (b : Bool) → (if b then plain_of w (drop 1 words) >>= covering else plain_of w words) ≡ Some c → IsInRange c
    go true f =
        let a = bound (plain_of w (drop 1 words)) covering c f in
        covered a.value c (plain_range w (drop 1 words) a.value a.found) a.rest
    go false f = plain_range w words c f

helped : (b : Bool) (w : Subcommand) (o : Option Command) (c : Command) → ((d : Command) → o ≡ Some d → IsInRange d)
    → (if b then Some (said.Help (Some w)) else o) ≡ Some c → IsInRange c
helped true w o c range e = some_range _ c (inner _ c e) tt
helped false w o c range e = range c e

alone_range : (word : Text) (c : Command) → alone word ≡ Some c → IsInRange c
unfolding alone
alone_range word c e =
    go (asks_help (word ∷ []) || bytes_eq word (codes "help")) (bytes_eq word (codes "--version") || bytes_eq word (codes "-V")) e
  where
    go : (a b : Bool) → (if a then Some (said.Help None) else if b then Some said.Version else None) ≡ Some c → IsInRange c
    go true b f = some_range _ c (inner _ c f) tt
    go false true f = some_range _ c (inner _ c f) tt
    go false false f = absurd cc

on_range : (word name : Text) (c : Command) → help_on word name ≡ Some c → IsInRange c
on_range word name c e = go (bytes_eq word (codes "help")) (named name) e
  where
    go : (b : Bool) (o : Option Subcommand) → (if b then (o >>= λ w. Some (said.Help (Some w))) else None) ≡ Some c → IsInRange c
    go true None f = absurd cc
    go true (Some w) f = some_range _ c (inner _ c f) tt
    go false o f = absurd cc

others_range : (word : Text) (words : List Text) (c : Command) → others word words ≡ Some c → IsInRange c
others_range word [] c e = alone_range word c e
others_range word (name ∷ []) c e = on_range word name c e
others_range word (name ∷ more ∷ rest) c e = absurd cc

behind_range : (o : Option Subcommand) (word : Text) (words : List Text) (c : Command) → behind o word words ≡ Some c → IsInRange c
behind_range (Some w) word words c e = helped (asks_help words) w (arguments_of w words) c (arguments_range w words) e
behind_range None word words c e = others_range word words c e

pub command_range : (words : List Text) (c : Command) → command_of words ≡ Some c → IsInRange c
unfolding command_of
command_range [] c e = absurd cc
command_range (word ∷ words) c e = behind_range (named word) word words c e

-- the same of a command of the code
pub view_range : (words : List Text) (c : Option coded.Command) → option_map command_view c ≡ command_of words → IfSome c (λ command. IsInRange (command_view command))
view_range words None e = tt
view_range words (Some command) e = command_range words (command_view command) (sym e)
