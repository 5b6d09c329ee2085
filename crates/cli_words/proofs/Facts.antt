use Rattle.std.proofs.Common.{zero, suc, ◌≡◌, ◌++◌, ◌+◌, ◌==◌, ap, ℕ, Bool, true, false, List, [], ◌∷◌, map, is_some, Some, None, refl, sym, subst, arith, true≢false}
use Rattle.std.specs.Str.{bytes_eq}
use Rattle.std.specs.Prelude.{option_map, unwrap_or, slice_get, if◌then◌else◌}
use Rattle.std.proofs.lemmas.Slice.Eq.{bytes_eq-Decides}
use Rattle.clap.specs.Walk.{Rule, arg_by_id, arg_by_long, arg_by_index, arg_by_short}
use Rattle.clap.specs.declared.builder.value_parser.ValueParser.TheVariants as vp
use Rattle.clap.specs.declared.builder.action.ArgAction.TheVariants.{Set}
use Rattle.cli_words.specs.Line.{Text, is_among}
use Rattle.cli_words.specs.Shapes.{operand_rules, full_option, full_operand}

some≢none : {X : Type 0} (x : X) → Some x ≡ None → ⊥
some≢none x e = true≢false (ap (λ o. is_some o) e)

-- ---- look-ups

long_option : (options : List Text) (name : Text) → arg_by_long (map full_option options) name ≡ (if is_among options name then Some (full_option name) else None)
long_option [] name = refl
long_option (o ∷ os) name = go (bytes_eq o name) refl (long_option os name)
  where
    go : (b : Bool) → bytes_eq o name ≡ b
        → arg_by_long (map full_option os) name ≡ (if is_among os name then Some (full_option name) else None)
        → arg_by_long (map full_option (o ∷ os)) name ≡ (if is_among (o ∷ os) name then Some (full_option name) else None)
    go true e rest = let same : o ≡ name = (bytes_eq-Decides o name).0 e in rw e (ap (λ n. Some (full_option n)) same)
    go false e rest = rw e rest

pub long_line : (options operands : List Text) (place : ℕ) (name : Text)
    → arg_by_long (operand_rules operands place ++ map full_option options) name ≡ (if is_among options name then Some (full_option name) else None)
long_line options [] place name = long_option options name
long_line options (p ∷ ps) place name = long_line options ps (place + 1) name

short_option : (options : List Text) (x : ℕ) → arg_by_short (map full_option options) x ≡ None
short_option [] x = refl
short_option (o ∷ os) x = short_option os x

pub short_line : (options operands : List Text) (place : ℕ) (x : ℕ) → arg_by_short (operand_rules operands place ++ map full_option options) x ≡ None
short_line options [] place x = short_option options x
short_line options (p ∷ ps) place x = short_line options ps (place + 1) x

index_option : (options : List Text) (i : ℕ) → arg_by_index (map full_option options) i ≡ None
index_option [] i = refl
index_option (o ∷ os) i = index_option os i

pub index_line : (options operands : List Text) (start place : ℕ)
    → arg_by_index (operand_rules operands start ++ map full_option options) (start + place) ≡ option_map (λ n. full_operand n (start + place)) (slice_get operands place)
index_line options [] start place = index_option options (start + place)
index_line options (p ∷ ps) start zero =
    let here : (start == (start + 0)) ≡ true = grind arith in
    let at : start + 0 ≡ start = omega arith in
    rw here (ap (λ k. Some (full_operand p k)) (sym at))
index_line options (p ∷ ps) start (suc place) =
    let miss : (start == (start + suc place)) ≡ false = grind arith in
    let move : start + suc place ≡ (start + 1) + place = omega arith in
    rw miss (subst (λ k. arg_by_index (operand_rules ps (start + 1) ++ map full_option options) k ≡ option_map (λ n. full_operand n k) (slice_get ps place)) (sym move) (index_line options ps (start + 1) place))

-- the rule takes one text, once
pub record SetsOne (name : Text) (a : Rule) : Type 0 where
  pub id : a.id ≡ name
  pub range : a.range ≡ Some (record { start_inclusive = 1; end_inclusive = 1 })
  pub action : a.action ≡ Some Set
  pub parser : a.parser ≡ Some vp.String

abbrev pub Known : List Rule → Text → Type 0
Known c name = (a : Rule) × (arg_by_id c name ≡ Some a) × SetsOne name a

pub one_option : (name : Text) → SetsOne name (full_option name)
one_option name = record { id = refl; range = refl; action = refl; parser = refl }

pub one_operand : (name : Text) (i : ℕ) → SetsOne name (full_operand name i)
one_operand name i = record { id = refl; range = refl; action = refl; parser = refl }

id_option : (options : List Text) (name : Text) → is_among options name ≡ true → Known (map full_option options) name
id_option [] name among = absurd (true≢false (sym among))
id_option (o ∷ os) name among = go (bytes_eq o name) refl (id_option os name)
  where
    go : (b : Bool) → bytes_eq o name ≡ b → (is_among os name ≡ true → Known (map full_option os) name) → Known (map full_option (o ∷ os)) name
    go true e rest =
        let same : o ≡ name = (bytes_eq-Decides o name).0 e in
        (full_option o, rw e refl, subst (λ n. SetsOne n (full_option o)) same (one_option o))
    go false e rest =
        let r = rest (rw e at among) in
        (r.0, rw e r.1, r.2)

pub id_line : (options operands : List Text) (start : ℕ) (name : Text) → is_among options name ≡ true → Known (operand_rules operands start ++ map full_option options) name
id_line options [] start name among = id_option options name among
id_line options (p ∷ ps) start name among = go (bytes_eq p name) refl (id_line options ps (start + 1) name among)
  where
    go : (b : Bool) → bytes_eq p name ≡ b → Known (operand_rules ps (start + 1) ++ map full_option options) name → Known (operand_rules (p ∷ ps) start ++ map full_option options) name
    go true e rest =
        let same : p ≡ name = (bytes_eq-Decides p name).0 e in
        (full_operand p start, rw e refl, subst (λ n. SetsOne n (full_operand p start)) same (one_operand p start))
    go false e rest = (rest.0, rw e rest.1, rest.2)

pub id_operand : (options operands : List Text) (start place : ℕ) (name : Text) → slice_get operands place ≡ Some name
    → Known (operand_rules operands start ++ map full_option options) name
id_operand options [] start place name at = absurd (some≢none name (sym at))
id_operand options (p ∷ ps) start zero name at =
    let same : p ≡ name = ap (λ o. unwrap_or o p) at in
    let here : bytes_eq p name ≡ true = (bytes_eq-Decides p name).1 same in
    (full_operand p start, rw here refl, subst (λ n. SetsOne n (full_operand p start)) same (one_operand p start))
id_operand options (p ∷ ps) start (suc place) name at = go (bytes_eq p name) refl (id_operand options ps (start + 1) place name at)
  where
    go : (b : Bool) → bytes_eq p name ≡ b → Known (operand_rules ps (start + 1) ++ map full_option options) name → Known (operand_rules (p ∷ ps) start ++ map full_option options) name
    go true e rest =
        let same : p ≡ name = (bytes_eq-Decides p name).0 e in
        (full_operand p start, rw e refl, subst (λ n. SetsOne n (full_operand p start)) same (one_operand p start))
    go false e rest = (rest.0, rw e rest.1, rest.2)
