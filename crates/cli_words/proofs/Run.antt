use Rattle.std.proofs.Common.{suc, ◌≡◌, ◌∙◌, ◌++◌, ◌+◌, ◌<◌, ◌≤◌, ap, ◌&&◌, ℕ, Bool, true, false, List, [], ◌∷◌, map, length, is_some, Option, Some, None, refl, sym, subst, arith, true≢false}
use Rattle.std.specs.List.{fold}
use Rattle.std.specs.Str.{bytes_eq, chars}
use Rattle.std.specs.Prelude.{slice_get, if◌then◌else◌, min}
use Rattle.clap.specs.Walk.{Row, Rule, Held, Waiting, Walk, idle, option, arg_by_long, arg_by_index, has_row, without, with_values, settled, settled_rows, used, walked}
use Rattle.clap.specs.Simple.{Shape}
use Rattle.clap.specs.Kinds.{Kinds, or_else}
use Rattle.clap.specs.Faults.{use_fault, settle_fault, walk_fault, turn_fault}
use Rattle.clap.specs.declared.builder.value_parser.Reading.TheVariants.{AsWritten}
use Rattle.clap.specs.declared.parser.matches.ValueSource.TheVariants.{CommandLine}
use Rattle.clap.specs.declared.error.kind.ErrorKind.{ErrorKind}
use Rattle.std.proofs.lemmas.List.{map-append}
use Rattle.std.proofs.lemmas.Slice.Eq.{bytes_eq-Decides}
use Rattle.std.proofs.lemmas.Option.{slice_get_within}
use Rattle.clap.proofs.WalkLemmas.{list_any-map}
use Rattle.cli_words.specs.Line.{Text, Use, Last, nothing, whole, begun, is_among, is_used, with_use, closed}
use Rattle.std.specs.Option.{option_map_or}
use Rattle.clap.specs.Lexer.{long_of, short_of, usize_max}
use Rattle.clap.specs.Walk.{plain, bundle, bundle_met, long_or_other, plain_word, subcommand_met}
use Rattle.clap.specs.Faults.{flag_word_fault, flags_fault, bundle_fault, word_fault}
use Rattle.cli_words.specs.Line.{is_short, read_from, ◌>>=◌, word_read, long_read, plain_read, operand_read}
use Rattle.cli_words.specs.Shapes.{line_rules, line_shape, full_option, full_operand}
use Rattle.cli_words.proofs.Facts.{SetsOne, Known, one_option, long_line, short_line, index_line, id_line, id_operand}

abbrev pub row_of_use : Use → Row
row_of_use u = record { id = u.0; values = u.1 ∷ []; count = None; source = Some CommandLine; reading = AsWritten }

abbrev pub rows_of_uses : List Use → List Row
rows_of_uses = map row_of_use

abbrev pub IsFault : Kinds → Type 0
IsFault k = k ≡ [] → ⊥

-- what clap finds, by what our definition reads
abbrev pub Tells : Option (List Use) → Kinds → List Row → Type 0
Tells None k rows = IsFault k
Tells (Some uses) k rows = (k ≡ []) × (rows ≡ rows_of_uses uses)

cons_fault : (k : ErrorKind) (ks : Kinds) → IsFault (k ∷ ks)
cons_fault k ks e = true≢false (ap is_list e)
  where
    is_list : Kinds → Bool
    is_list [] = false
    is_list (x ∷ xs) = true

pub first_fault : (a b : Kinds) → IsFault a → IsFault (or_else a b)
first_fault [] b f e = f refl
first_fault (k ∷ ks) b f e = f e

used_row : (uses : List Use) (name : Text) → has_row name (rows_of_uses uses) ≡ is_used uses name
used_row uses name = sym (list_any-map (λ r. bytes_eq r.id name) row_of_use uses)

kept : (name : Text) (rows : List Row) → has_row name rows ≡ false → without name rows ≡ rows
kept name [] none = refl
kept name (r ∷ rs) none = go (bytes_eq r.id name) refl (kept name rs)
  where
    go : (b : Bool) → bytes_eq r.id name ≡ b → (has_row name rs ≡ false → without name rs ≡ rs) → without name (r ∷ rs) ≡ r ∷ rs
    go true e rest = let no : has_row name (r ∷ rs) ≡ true = rw e refl in absurd (true≢false (sym no ∙ none))
    go false e rest = let less : has_row name rs ≡ false = rw e at none in rw e (ap (λ xs. r ∷ xs) (rest less))

added : (u : Use) (rows : List Row) → has_row u.0 rows ≡ false → with_values u.0 AsWritten CommandLine (u.1 ∷ []) rows ≡ rows ++ row_of_use u ∷ []
added u [] none = refl
added u (r ∷ rs) none = go (bytes_eq r.id u.0) refl (added u rs)
  where
    go : (b : Bool) → bytes_eq r.id u.0 ≡ b → (has_row u.0 rs ≡ false → with_values u.0 AsWritten CommandLine (u.1 ∷ []) rs ≡ rs ++ row_of_use u ∷ [])
        → with_values u.0 AsWritten CommandLine (u.1 ∷ []) (r ∷ rs) ≡ r ∷ rs ++ row_of_use u ∷ []
    go true e rest = let no : has_row u.0 (r ∷ rs) ≡ true = rw e refl in absurd (true≢false (sym no ∙ none))
    go false e rest = let less : has_row u.0 rs ≡ false = rw e at none in rw e (ap (λ xs. r ∷ xs) (rest less))

-- a use with one value
pub use_one : (uses : List Use) (name value : Text) (a : Rule) → SetsOne name a
    → Tells (with_use uses name value) (use_fault false a (value ∷ []) (rows_of_uses uses)) (used a (value ∷ []) (rows_of_uses uses))
use_one uses name value a one = go (is_used uses name) refl
  where
    go : (b : Bool) → is_used uses name ≡ b → Tells (with_use uses name value) (use_fault false a (value ∷ []) (rows_of_uses uses)) (used a (value ∷ []) (rows_of_uses uses))
    go true e =
        let row : has_row name (rows_of_uses uses) ≡ true = used_row uses name ∙ e in
        rw (e, one.range, one.action, one.parser, one.id, row) (cons_fault _ _)
    go false e =
        let row : has_row name (rows_of_uses uses) ≡ false = used_row uses name ∙ e in
        let same = kept name (rows_of_uses uses) row in
        rw (e, one.range, one.action, one.parser, one.id, row, same) (refl, added (name, value) (rows_of_uses uses) row ∙ sym (map-append row_of_use uses ((name, value) ∷ [])))

-- a use with none
pub use_none : (rows : List Row) (name : Text) (a : Rule) → SetsOne name a → IsFault (use_fault false a [] rows)
use_none rows name a one = rw one.range (cons_fault _ _)

abbrev pub pending_of_last : Last → Option (Text × List Text)
pending_of_last nothing = None
pending_of_last (whole name value) = Some (name, value ∷ [])
pending_of_last (begun name) = Some (name, [])

abbrev pub waiting_of_last : Last → Waiting
waiting_of_last nothing = idle
waiting_of_last (whole name value) = idle
waiting_of_last (begun name) = option name

abbrev pub held_at : List Use → Last → Held
held_at uses last = record { rows = rows_of_uses uses; pending = pending_of_last last; skip = 0 }

abbrev pub walk_at : List Use → Last → ℕ → Walk
walk_at uses last place = record { held = held_at uses last; waiting = waiting_of_last last; position = 1 + place; is_trailing = false; stopped = None }

abbrev pub LastKnown : List Rule → Last → Type 0
LastKnown c nothing = Unit {0}
LastKnown c (whole name value) = Known c name
LastKnown c (begun name) = Known c name

pub settle : (c : List Rule) (uses : List Use) (last : Last) → LastKnown c last
    → Tells (closed uses last) (settle_fault c false (held_at uses last)) (settled_rows c (pending_of_last last) (rows_of_uses uses))
settle c uses nothing known = (refl, refl)
settle c uses (whole name value) known = rw known.1 (use_one uses name value known.0 known.2)
settle c uses (begun name) known = rw known.1 (use_none (rows_of_uses uses) name known.0 known.2)

-- ---- one word

no_sub : (w : Waiting) (word : Text) → subcommand_met [] w word ≡ None
no_sub idle word = refl
no_sub (option name) word = refl
no_sub Rattle.clap.specs.Walk.positional word = refl

and_false : (b : Bool) → (b && false) ≡ false
and_false true = refl
and_false false = refl

or_nil : (k : Kinds) → or_else k [] ≡ k
or_nil [] = refl
or_nil (k ∷ ks) = refl

is_none : {X : Type 0} (o : Option X) → is_some o ≡ false → o ≡ None
is_none None e = refl
is_none (Some x) e = absurd (true≢false e)

plain_flags : (c : List Rule) (flags : Text) (rows : List Row) (pending : Option (Text × List Text)) → slice_get (chars flags) 0 ≡ None
    → (bundle c flags (record { rows = rows; pending = pending; skip = 0 }) ≡ (record { rows = rows; pending = pending; skip = 0 }, plain))
    × (flags_fault c false (length flags) flags 0 (record { rows = rows; pending = pending; skip = 0 }) ≡ [])
unfolding bundle_met flags_fault
plain_flags c [] rows pending none = (refl, refl)
plain_flags c (x ∷ xs) rows pending none = (rw none refl, rw none refl)

-- a word that is no flag
plain_met : (c : List Rule) (waiting : Waiting) (word : Text) (rows : List Row) (pending : Option (Text × List Text)) → long_of word ≡ None → is_short word ≡ false
    → (long_or_other c waiting word (long_of word) (record { rows = rows; pending = pending; skip = 0 }) ≡ plain_word c waiting word (record { rows = rows; pending = pending; skip = 0 }))
    × (flag_word_fault c false (long_of word) word (record { rows = rows; pending = pending; skip = 0 }) ≡ [])
plain_met c waiting word rows pending e short = go (short_of word) refl
  where
    go : (o : Option Text) → short_of word ≡ o
        → (long_or_other c waiting word (long_of word) (record { rows = rows; pending = pending; skip = 0 }) ≡ plain_word c waiting word (record { rows = rows; pending = pending; skip = 0 }))
        × (flag_word_fault c false (long_of word) word (record { rows = rows; pending = pending; skip = 0 }) ≡ [])
    go None f = rw (e, f) (refl, refl)
    go (Some flags) f =
        let none : slice_get (chars flags) 0 ≡ None = is_none _ (rw f at short) in
        let both = plain_flags c flags rows pending none in
        rw (e, f) (rw both.0 refl, both.1)

-- no word is `--`
abbrev pub All_plain : List Text → Type 0
All_plain [] = Unit {0}
All_plain (word ∷ words) = (bytes_eq word (45 ∷ 45 ∷ []) ≡ false) × All_plain words

-- the module of one command
module _ (name : Text) (options operands : List Text) where
  abbrev c : List Rule
  c = line_rules options operands

  abbrev s : Shape
  s = line_shape name options operands

  abbrev pub end_fault : List Text → Walk → Kinds
  end_fault words w = or_else (walk_fault s [] w words) (settle_fault c false (fold (walked c []) w words).held)

  abbrev pub end_rows : List Text → Walk → List Row
  end_rows words w = (settled c (fold (walked c []) w words).held).rows

  passed : (o : Option (List Use)) (w v : Walk) (word : Text) (words : List Text) → turn_fault s [] w word ≡ [] → walked c [] w word ≡ v
      → Tells o (end_fault words v) (end_rows words v) → Tells o (end_fault (word ∷ words) w) (end_rows (word ∷ words) w)
  unfolding walk_fault
  passed o w v word words turn to t =
      let E : Walk → Type 0 = λ x. Tells o (or_else (or_else (turn_fault s [] w word) (walk_fault s [] x words)) (settle_fault c false (fold (walked c []) x words).held))
      (settled c (fold (walked c []) x words).held).rows in
      subst E (sym to) (rw turn t)

  stopped : (w : Walk) (word : Text) (words : List Text) → IsFault (turn_fault s [] w word) → IsFault (end_fault (word ∷ words) w)
  unfolding walk_fault
  stopped w word words f = first_fault _ _ (first_fault _ _ f)

  -- ---- `--name`

  turn_begun : (uses : List Use) (last : Last) (place : ℕ) (word opt : Text) → bytes_eq word (45 ∷ 45 ∷ []) ≡ false → long_of word ≡ Some (opt, None)
      → is_among options opt ≡ true → turn_fault s [] (walk_at uses last place) word ≡ settle_fault c false (held_at uses last)
  turn_begun uses last place word opt dash e among =
      let at : arg_by_long c opt ≡ Some (full_option opt) = long_line options operands 1 opt ∙ rw among refl in
      rw (no_sub (waiting_of_last last) word, dash, e, at) (or_nil _)

  walk_begun : (uses : List Use) (last : Last) (place : ℕ) (word opt : Text) → bytes_eq word (45 ∷ 45 ∷ []) ≡ false → long_of word ≡ Some (opt, None)
      → is_among options opt ≡ true → walked c [] (walk_at uses last place) word
      ≡ record (walk_at uses last place) { held = record { rows = settled_rows c (pending_of_last last) (rows_of_uses uses); pending = Some (opt, []); skip = 0 }; waiting = option opt }
  unfolding walked
  walk_begun uses last place word opt dash e among =
      let at : arg_by_long c opt ≡ Some (full_option opt) = long_line options operands 1 opt ∙ rw among refl in
      rw (no_sub (waiting_of_last last) word, dash, e, at) refl

  -- ---- `--name=value`

  turn_joined : (uses : List Use) (last : Last) (place : ℕ) (word opt text : Text) → bytes_eq word (45 ∷ 45 ∷ []) ≡ false → long_of word ≡ Some (opt, Some text)
      → is_among options opt ≡ true → turn_fault s [] (walk_at uses last place) word
      ≡ or_else (settle_fault c false (held_at uses last)) (use_fault false (full_option opt) (text ∷ []) (settled_rows c (pending_of_last last) (rows_of_uses uses)))
  turn_joined uses last place word opt text dash e among =
      let at : arg_by_long c opt ≡ Some (full_option opt) = long_line options operands 1 opt ∙ rw among refl in
      rw (no_sub (waiting_of_last last) word, dash, e, at) (or_nil _)

  walk_joined : (uses : List Use) (last : Last) (place : ℕ) (word opt text : Text) → bytes_eq word (45 ∷ 45 ∷ []) ≡ false → long_of word ≡ Some (opt, Some text)
      → is_among options opt ≡ true → walked c [] (walk_at uses last place) word
      ≡ record (walk_at uses last place) { held = record { rows = used (full_option opt) (text ∷ []) (settled_rows c (pending_of_last last) (rows_of_uses uses)); pending = None; skip = 0 }; waiting = idle }
  unfolding walked
  walk_joined uses last place word opt text dash e among =
      let at : arg_by_long c opt ≡ Some (full_option opt) = long_line options operands 1 opt ∙ rw among refl in
      rw (no_sub (waiting_of_last last) word, dash, e, at) refl

  -- ---- refused flags

  turn_unknown : (uses : List Use) (last : Last) (place : ℕ) (word : Text) (p : Text × Option Text) → bytes_eq word (45 ∷ 45 ∷ []) ≡ false → long_of word ≡ Some p
      → is_among options p.0 ≡ false → IsFault (turn_fault s [] (walk_at uses last place) word)
  turn_unknown uses last place word p dash e among =
      let at : arg_by_long c p.0 ≡ None = long_line options operands 1 p.0 ∙ rw among refl in
      rw (no_sub (waiting_of_last last) word, dash, e, at) (cons_fault _ _)

  turn_short : (uses : List Use) (last : Last) (place : ℕ) (word : Text) → bytes_eq word (45 ∷ 45 ∷ []) ≡ false → long_of word ≡ None
      → is_short word ≡ true → IsFault (turn_fault s [] (walk_at uses last place) word)
  unfolding flags_fault chars
  turn_short uses last place word dash e short =
      let f : IsFault (word_fault s [] false (waiting_of_last last) word (held_at uses last)) = rw (no_sub (waiting_of_last last) word, dash, e) (by_flags (short_of word) refl) in
      first_fault (word_fault s [] false (waiting_of_last last) word (held_at uses last)) _ f
    where
      by_char : (flags : Text) (h : Held) (k : ℕ) (o : Option ℕ) → slice_get (chars flags) 0 ≡ o → is_some o ≡ true → IsFault (flags_fault c false (suc k) flags 0 h)
      by_char flags h k None at some = absurd (true≢false (sym some))
      by_char flags h k (Some x) at some = rw (at, short_line options operands 1 x) (cons_fault _ _)

      by_flags : (o : Option Text) → short_of word ≡ o → IsFault (option_map_or (λ flags. bundle_fault c false flags (held_at uses last)) o [])
      by_flags None f = let no : is_short word ≡ false = rw f refl in absurd (true≢false (sym short ∙ no))
      by_flags (Some []) f = let no : is_short word ≡ false = rw f refl in absurd (true≢false (sym short ∙ no))
      by_flags (Some (x ∷ xs)) f = by_char (x ∷ xs) (held_at uses last) (length xs) _ refl (rw f at short)

  -- ---- a value of an option that was begun

  turn_value : (uses : List Use) (opt : Text) (place : ℕ) (word : Text) → bytes_eq word (45 ∷ 45 ∷ []) ≡ false → long_of word ≡ None → is_short word ≡ false
      → turn_fault s [] (walk_at uses (begun opt) place) word ≡ []
  turn_value uses opt place word dash e short =
      let both = plain_met c (option opt) word (rows_of_uses uses) (Some (opt, [])) e short in
      rw (dash, both.0, both.1) refl

  walk_value : (uses : List Use) (opt : Text) (place : ℕ) (word : Text) → Known c opt → bytes_eq word (45 ∷ 45 ∷ []) ≡ false → long_of word ≡ None → is_short word ≡ false
      → walked c [] (walk_at uses (begun opt) place) word ≡ walk_at uses (whole opt word) place
  unfolding walked
  walk_value uses opt place word known dash e short =
      let both = plain_met c (option opt) word (rows_of_uses uses) (Some (opt, [])) e short in
      let same : bytes_eq opt opt ≡ true = (bytes_eq-Decides opt opt).1 refl in
      rw (dash, both.0, known.1, known.2.id, known.2.range, same) refl

  -- ---- a positional

  turn_stray : (uses : List Use) (last : Last) (place : ℕ) (word : Text) → waiting_of_last last ≡ idle → bytes_eq word (45 ∷ 45 ∷ []) ≡ false → long_of word ≡ None → is_short word ≡ false
      → slice_get operands place ≡ None → IsFault (turn_fault s [] (walk_at uses last place) word)
  turn_stray uses last place word quiet dash e short none =
      let both = plain_met c idle word (rows_of_uses uses) (pending_of_last last) e short in
      let at : arg_by_index c (1 + place) ≡ None = index_line options operands 1 place ∙ rw none refl in
      rw (quiet, dash, both.0, both.1, at) (cons_fault _ _)

  turn_operand : (uses : List Use) (last : Last) (place : ℕ) (word arg : Text) → waiting_of_last last ≡ idle → bytes_eq word (45 ∷ 45 ∷ []) ≡ false → long_of word ≡ None → is_short word ≡ false
      → slice_get operands place ≡ Some arg → turn_fault s [] (walk_at uses last place) word ≡ settle_fault c false (held_at uses last)
  turn_operand uses last place word arg quiet dash e short some =
      let both = plain_met c idle word (rows_of_uses uses) (pending_of_last last) e short in
      let at : arg_by_index c (1 + place) ≡ Some (full_operand arg (1 + place)) = index_line options operands 1 place ∙ rw some refl in
      rw (quiet, dash, both.0, both.1, at, and_false) refl

  walk_operand : (uses : List Use) (last : Last) (place : ℕ) (word arg : Text) → waiting_of_last last ≡ idle → bytes_eq word (45 ∷ 45 ∷ []) ≡ false → long_of word ≡ None → is_short word ≡ false
      → slice_get operands place ≡ Some arg → place + 2 ≤ usize_max → walked c [] (walk_at uses last place) word
      ≡ record { held = record { rows = settled_rows c (pending_of_last last) (rows_of_uses uses); pending = Some (arg, word ∷ []); skip = 0 }; waiting = idle; position = 1 + (place + 1); is_trailing = false; stopped = None }
  unfolding walked
  walk_operand uses last place word arg quiet dash e short some small =
      let both = plain_met c idle word (rows_of_uses uses) (pending_of_last last) e short in
      let at : arg_by_index c (1 + place) ≡ Some (full_operand arg (1 + place)) = index_line options operands 1 place ∙ rw some refl in
      let next : min (1 + place + 1) usize_max ≡ 1 + (place + 1) = omega arith in
      rw (quiet, dash, both.0, at, and_false, next) refl

  -- ---- all the words

  -- the places of operands that are still to come are few
  place_small : (place : ℕ) (arg : Text) → slice_get operands place ≡ Some arg → length operands < 1000 → place + 2 ≤ usize_max
  place_small place arg at few = let inside : place < length operands = slice_get_within operands place arg at in omega arith

  abbrev Goes : List Text → Type 0
  Goes words = (uses : List Use) (last : Last) (place : ℕ) → LastKnown c last
      → Tells (read_from options operands words uses last place) (end_fault words (walk_at uses last place)) (end_rows words (walk_at uses last place))

  abbrev Reads : List Use → Last → ℕ → Text → List Text → Option (List Use) → Type 0
  Reads uses last place word words o = Tells o (end_fault (word ∷ words) (walk_at uses last place)) (end_rows (word ∷ words) (walk_at uses last place))

  on_begun : (words : List Text) (rec : Goes words) (uses : List Use) (last : Last) (place : ℕ) (word opt : Text) → bytes_eq word (45 ∷ 45 ∷ []) ≡ false → long_of word ≡ Some (opt, None)
      → is_among options opt ≡ true → (o : Option (List Use)) → Tells o (settle_fault c false (held_at uses last)) (settled_rows c (pending_of_last last) (rows_of_uses uses))
      → Reads uses last place word words (o >>= λ u. read_from options operands words u (begun opt) place)
  on_begun words rec uses last place word opt dash e among None t =
      stopped (walk_at uses last place) word words (subst IsFault (sym (turn_begun uses last place word opt dash e among)) t)
  on_begun words rec uses last place word opt dash e among (Some u) t =
      passed _ (walk_at uses last place) (walk_at u (begun opt) place) word words (turn_begun uses last place word opt dash e among ∙ t.0)
      (walk_begun uses last place word opt dash e among
      ∙ ap (λ (rows : List Row). record (walk_at uses last place) { held = record { rows = rows; pending = Some (opt, []); skip = 0 }; waiting = option opt }) t.1)
      (rec u (begun opt) place (id_line options operands 1 opt among))

  joined_last : (words : List Text) (rec : Goes words) (uses : List Use) (last : Last) (place : ℕ) (word opt text : Text) (u : List Use)
      → turn_fault s [] (walk_at uses last place) word ≡ use_fault false (full_option opt) (text ∷ []) (rows_of_uses u)
      → walked c [] (walk_at uses last place) word ≡ record { held = record { rows = used (full_option opt) (text ∷ []) (rows_of_uses u); pending = None; skip = 0 }; waiting = idle; position = 1 + place; is_trailing = false; stopped = None }
      → (o : Option (List Use)) → Tells o (use_fault false (full_option opt) (text ∷ []) (rows_of_uses u)) (used (full_option opt) (text ∷ []) (rows_of_uses u))
      → Reads uses last place word words (o >>= λ v. read_from options operands words v nothing place)
  joined_last words rec uses last place word opt text u turn to None t = stopped (walk_at uses last place) word words (subst IsFault (sym turn) t)
  joined_last words rec uses last place word opt text u turn to (Some v) t =
      passed _ (walk_at uses last place) (walk_at v nothing place) word words (turn ∙ t.0)
      (to ∙ ap (λ (rows : List Row). record { held = record { rows = rows; pending = None; skip = 0 }; waiting = idle; position = 1 + place; is_trailing = false; stopped = None }) t.1)
      (rec v nothing place tt)

  on_joined : (words : List Text) (rec : Goes words) (uses : List Use) (last : Last) (place : ℕ) (word opt text : Text) → bytes_eq word (45 ∷ 45 ∷ []) ≡ false → long_of word ≡ Some (opt, Some text)
      → is_among options opt ≡ true → (o : Option (List Use)) → Tells o (settle_fault c false (held_at uses last)) (settled_rows c (pending_of_last last) (rows_of_uses uses))
      → Reads uses last place word words (o >>= λ u. with_use u opt text >>= λ v. read_from options operands words v nothing place)
  on_joined words rec uses last place word opt text dash e among None t =
      stopped (walk_at uses last place) word words (subst IsFault (sym (turn_joined uses last place word opt text dash e among)) (first_fault _ _ t))
  on_joined words rec uses last place word opt text dash e among (Some u) t =
      joined_last words rec uses last place word opt text u
      (turn_joined uses last place word opt text dash e among ∙ rw (t.0, t.1) refl)
      (walk_joined uses last place word opt text dash e among
      ∙ ap (λ (rows : List Row). record { held = record { rows = used (full_option opt) (text ∷ []) rows; pending = None; skip = 0 }; waiting = idle; position = 1 + place; is_trailing = false; stopped = None }) t.1)
      (with_use u opt text) (use_one u opt text (full_option opt) (one_option opt))

  on_operand : (words : List Text) (rec : Goes words) (uses : List Use) (last : Last) (place : ℕ) (word arg : Text) → waiting_of_last last ≡ idle → bytes_eq word (45 ∷ 45 ∷ []) ≡ false → long_of word ≡ None → is_short word ≡ false
      → slice_get operands place ≡ Some arg → length operands < 1000
      → (o : Option (List Use)) → Tells o (settle_fault c false (held_at uses last)) (settled_rows c (pending_of_last last) (rows_of_uses uses))
      → Reads uses last place word words (o >>= λ u. read_from options operands words u (whole arg word) (place + 1))
  on_operand words rec uses last place word arg quiet dash e short some few None t =
      stopped (walk_at uses last place) word words (subst IsFault (sym (turn_operand uses last place word arg quiet dash e short some)) t)
  on_operand words rec uses last place word arg quiet dash e short some few (Some u) t =
      passed _ (walk_at uses last place) (walk_at u (whole arg word) (place + 1)) word words (turn_operand uses last place word arg quiet dash e short some ∙ t.0)
      (walk_operand uses last place word arg quiet dash e short some (place_small place arg some few)
      ∙ ap (λ (rows : List Row). record { held = record { rows = rows; pending = Some (arg, word ∷ []); skip = 0 }; waiting = idle; position = 1 + (place + 1); is_trailing = false; stopped = None }) t.1)
      (rec u (whole arg word) (place + 1) (id_operand options operands 1 place arg some))

  on_place : (words : List Text) (rec : Goes words) (uses : List Use) (last : Last) (place : ℕ) (word : Text) → LastKnown c last → waiting_of_last last ≡ idle → bytes_eq word (45 ∷ 45 ∷ []) ≡ false → long_of word ≡ None → is_short word ≡ false
      → length operands < 1000 → (o : Option Text) → slice_get operands place ≡ o
      → Reads uses last place word words (operand_read options operands uses last place word (read_from options operands words) o)
  on_place words rec uses last place word known quiet dash e short few None at = stopped (walk_at uses last place) word words (turn_stray uses last place word quiet dash e short at)
  on_place words rec uses last place word known quiet dash e short few (Some arg) at =
      on_operand words rec uses last place word arg quiet dash e short at few (closed uses last) (settle c uses last known)

  on_plain : (words : List Text) (rec : Goes words) (uses : List Use) (last : Last) (place : ℕ) (word : Text) → LastKnown c last → bytes_eq word (45 ∷ 45 ∷ []) ≡ false → long_of word ≡ None → is_short word ≡ false
      → length operands < 1000 → Reads uses last place word words (plain_read options operands uses last place word (read_from options operands words))
  on_plain words rec uses nothing place word known dash e short few = on_place words rec uses nothing place word known refl dash e short few _ refl
  on_plain words rec uses (whole n v) place word known dash e short few = on_place words rec uses (whole n v) place word known refl dash e short few _ refl
  on_plain words rec uses (begun opt) place word known dash e short few =
      passed _ (walk_at uses (begun opt) place) (walk_at uses (whole opt word) place) word words (turn_value uses opt place word dash e short)
      (walk_value uses opt place word known dash e short) (rec uses (whole opt word) place known)

  on_word : (words : List Text) (rec : Goes words) (uses : List Use) (last : Last) (place : ℕ) (word : Text) → LastKnown c last → bytes_eq word (45 ∷ 45 ∷ []) ≡ false → length operands < 1000
      → (o : Option (Text × Option Text)) → long_of word ≡ o → Reads uses last place word words (word_read options operands uses last place word (read_from options operands words) o)
  on_word words rec uses last place word known dash few None e = go (is_short word) refl
    where
      go : (b : Bool) → is_short word ≡ b → Reads uses last place word words (if b then None else plain_read options operands uses last place word (read_from options operands words))
      go true short = stopped (walk_at uses last place) word words (turn_short uses last place word dash e short)
      go false short = on_plain words rec uses last place word known dash e short few
  on_word words rec uses last place word known dash few (Some (opt, None)) e = go (is_among options opt) refl
    where
      go : (b : Bool) → is_among options opt ≡ b → Reads uses last place word words (if b then long_read options operands uses last place opt None (read_from options operands words) else None)
      go true among = on_begun words rec uses last place word opt dash e among (closed uses last) (settle c uses last known)
      go false among = stopped (walk_at uses last place) word words (turn_unknown uses last place word (opt, None) dash e among)
  on_word words rec uses last place word known dash few (Some (opt, Some text)) e = go (is_among options opt) refl
    where
      go : (b : Bool) → is_among options opt ≡ b → Reads uses last place word words (if b then long_read options operands uses last place opt (Some text) (read_from options operands words) else None)
      go true among = on_joined words rec uses last place word opt text dash e among (closed uses last) (settle c uses last known)
      go false among = stopped (walk_at uses last place) word words (turn_unknown uses last place word (opt, Some text) dash e among)

  pub run : (words : List Text) (uses : List Use) (last : Last) (place : ℕ) → LastKnown c last → All_plain words → length operands < 1000
      → Tells (read_from options operands words uses last place) (end_fault words (walk_at uses last place)) (end_rows words (walk_at uses last place))
  unfolding read_from walk_fault
  run [] uses last place known no_dash few = settle c uses last known
  run (word ∷ words) uses last place known no_dash few =
      on_word words (λ u l p k. run words u l p k no_dash.1 few) uses last place word known no_dash.0 few (long_of word) refl
