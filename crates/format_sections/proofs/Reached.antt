-- How far an input was read.
use Rattle.std.proofs.Common.{◌≡◌, ◌+◌, ◌∙◌, ℕ, Bool, true, false, not, ◌||◌, ◌&&◌, if◌then◌else◌, List, [], ◌∷◌, ◌++◌, length, length-append, ◌<◌, codes, refl, ap, sym, arith, append_assoc, Option, Some, None}
use Rattle.std.specs.Borrow.{Bor}
use Rattle.std.specs.BTreeSet.{BTreeSet}
use Rattle.std.specs.List.{list_any}
use Rattle.std.specs.Str.{bytes_eq}
use Rattle.std.proofs.lemmas.List.Folds.{list_any-append}
use Rattle.format_sections.specs.declared.kind.SectionKind.{SectionKind}
use Rattle.format_sections.specs.Kind.{Kind, Skipped, SetupLine, SectionLine, Statement, NoText}
use Rattle.format_sections.specs.Form.{is_session_name, counts, begins_section, names_of, has_come, lacks_form, first_lacking}
use Rattle.format_sections.specs.RunSections.{Section, statements_of, setup_of, sessions_of}
use Rattle.format_sections.specs.Names.{has}
use Rattle.format_sections.specs.UnreadInput.{behind_first, behind_skipped, behind_section, behind_setup, setup_at, new_head, first_head}

not_some : {A : Type 0} {a : A} → None ≡ Some a → ⊥
not_some e = cc

false_true : false ≡ true → ⊥
false_true e = cc

pub true_false : true ≡ false → ⊥
true_false e = cc

pub none_behind : {A : Type 0} (z : List A) → z ++ [] ≡ z
none_behind [] = refl
none_behind (a ∷ z) = ap (λ x. a ∷ x) (none_behind z)

or_true_left : (a b : Bool) → a ≡ true → (a || b) ≡ true
or_true_left a b e = rw e refl

or_true_right : (a b : Bool) → b ≡ true → (a || b) ≡ true
or_true_right true b e = refl
or_true_right false b e = e

or_false : (b : Bool) → (b || false) ≡ b
or_false true = refl
or_false false = refl

-- a test that some lines pass is passed by one of more
pub any_more : (p : Kind → Bool) (before more : List Kind) → list_any p before ≡ true → list_any p (before ++ more) ≡ true
any_more p before more e = list_any-append p before more ∙ or_true_left (list_any p before) (list_any p more) e

pub any_last : (p : Kind → Bool) (before : List Kind) (line : Kind) → p line ≡ true → list_any p (before ++ line ∷ []) ≡ true
any_last p before line e = list_any-append p before (line ∷ []) ∙ or_true_right (list_any p before) (list_any p (line ∷ [])) (or_true_left (p line) false e)

-- the lines of a rest that were passed: the names and the first line that lacks its form stay as they are
pub record Passed (before more rest : List Kind) : Type 0 where
  pub front : List Kind
  pub whole : more ≡ front ++ rest
  pub lacking : first_lacking before more ≡ first_lacking (before ++ front) rest
  pub names : names_of front ≡ []
  pub sessions : sessions_of more ≡ sessions_of rest

abbrev pass_none : (before lines : List Kind) → Passed before lines lines
pass_none before lines = record { front = []; whole = refl; lacking = ap (λ b. first_lacking b lines) (sym (none_behind before)); names = refl; sessions = refl }

abbrev pass_one : (before more rest : List Kind) (line : Kind) → lacks_form before line ≡ false → ((z : List Kind) → names_of (line ∷ z) ≡ names_of z) → ((z : List Kind) → sessions_of (line ∷ z) ≡ sessions_of z)
    → Passed (before ++ line ∷ []) more rest → Passed before (line ∷ more) rest
pass_one before more rest line fits same_names same_sessions p = record {
  front = line ∷ p.front;
  whole = ap (λ z. line ∷ z) p.whole;
  lacking = ap (λ t. if t then Some (length before + 1) else first_lacking (before ++ line ∷ []) more) fits ∙ (p.lacking ∙ ap (λ b. first_lacking b rest) (append_assoc before (line ∷ []) p.front));
  names = same_names p.front ∙ p.names;
  sessions = same_sessions more ∙ p.sessions;
}

not_true : (t : Bool) → t ≡ true → not t ≡ false
not_true t e = rw e refl

-- behind the line of a section all that are its own have their form
pub pass_section : (before more : List Kind) → list_any begins_section before ≡ true → Passed before more (behind_section more)
pass_section before [] begun = pass_none before []
pass_section before (Skipped ∷ more) begun =
    pass_one before more (behind_section more) Skipped refl (λ z. refl) (λ z. refl) (pass_section (before ++ Skipped ∷ []) more (any_more begins_section before (Skipped ∷ []) begun))
pass_section before (Statement text ∷ more) begun =
    pass_one before more (behind_section more) (Statement text) (not_true (list_any begins_section before) begun) (λ z. refl) (λ z. refl)
    (pass_section (before ++ Statement text ∷ []) more (any_more begins_section before (Statement text ∷ []) begun))
pass_section before (SetupLine ∷ more) begun = pass_none before (SetupLine ∷ more)
pass_section before (SectionLine kind name ∷ more) begun = pass_none before (SectionLine kind name ∷ more)
pass_section before (NoText ∷ more) begun = pass_none before (NoText ∷ more)

-- the next line, where there is one, begins a section or lacks its form
abbrev pub is_settled : List Kind → List Kind → Bool
is_settled before [] = true
is_settled before (SectionLine kind name ∷ more) = true
is_settled before (line ∷ more) = lacks_form before line

settled_section : (before more : List Kind) → list_any counts before ≡ true → is_settled before (behind_section more) ≡ true
settled_section before [] begun = refl
settled_section before (Skipped ∷ more) begun = settled_section before more begun
settled_section before (Statement text ∷ more) begun = settled_section before more begun
settled_section before (SetupLine ∷ more) begun = begun
settled_section before (SectionLine kind name ∷ more) begun = refl
settled_section before (NoText ∷ more) begun = refl

-- an input was read up to a rest: the setup and the sections before it were read, and these names have come
pub record Reached (all rest : List Kind) (setup : List (List ℕ)) (sessions : List Section) (known : List ℕ → Bool) : Type 0 where
  pub before : List Kind
  pub whole : all ≡ before ++ rest
  pub lacking : first_lacking [] all ≡ first_lacking before rest
  pub opening : setup_of all ≡ setup
  pub sections : sessions_of all ≡ sessions ++ sessions_of rest
  pub names : (q : List ℕ) → known q ≡ has_come before q
  pub settled : is_settled before rest ≡ true

pub names_joined : (front more : List Kind) → names_of (front ++ more) ≡ names_of front ++ names_of more
names_joined [] more = refl
names_joined (Skipped ∷ front) more = names_joined front more
names_joined (SetupLine ∷ front) more = names_joined front more
names_joined (SectionLine kind name ∷ front) more = ap (λ z. name ∷ z) (names_joined front more)
names_joined (Statement text ∷ front) more = names_joined front more
names_joined (NoText ∷ front) more = names_joined front more

-- one more name has come behind the line of its section and lines that give none
come_more : (before front : List Kind) (kind : SectionKind) (name q : List ℕ) → names_of front ≡ [] → has_come (before ++ SectionLine kind name ∷ front) q ≡ (bytes_eq q name || has_come before q)
come_more before front kind name q none =
    ap (λ z. bytes_eq q (codes "setup") || list_any (bytes_eq q) z) (names_joined before (SectionLine kind name ∷ front))
    ∙ (ap (λ z. bytes_eq q (codes "setup") || list_any (bytes_eq q) (names_of before ++ name ∷ z)) none
    ∙ (ap (λ t. bytes_eq q (codes "setup") || t) (list_any-append (bytes_eq q) (names_of before) (name ∷ []))
    ∙ turned (bytes_eq q (codes "setup")) (list_any (bytes_eq q) (names_of before)) (bytes_eq q name)))
  where
    turned : (a b c : Bool) → (a || (b || (c || false))) ≡ (c || (a || b))
    turned true b true = refl
    turned true b false = refl
    turned false true true = refl
    turned false true false = refl
    turned false false true = refl
    turned false false false = refl

none_come : (before : List Kind) (q : List ℕ) → names_of before ≡ [] → bytes_eq q (codes "setup") ≡ has_come before q
none_come before q none = sym (ap (λ z. bytes_eq q (codes "setup") || list_any (bytes_eq q) z) none ∙ or_false (bytes_eq q (codes "setup")))

-- lines that are all skipped
pub record Skipping (before lines rest : List Kind) : Type 0 where
  pub passed : Passed before lines rest
  pub none : list_any counts (before ++ passed.front) ≡ false

skip_none : (before lines : List Kind) → list_any counts before ≡ false → Skipping before lines lines
skip_none before lines none = record { passed = pass_none before lines; none = ap (list_any counts) (none_behind before) ∙ none }

skip_lines : (before lines : List Kind) → list_any counts before ≡ false → Skipping before lines (behind_skipped lines)
skip_lines before [] none = skip_none before [] none
skip_lines before (Skipped ∷ more) none =
    let more_none : list_any counts (before ++ Skipped ∷ []) ≡ false = list_any-append counts before (Skipped ∷ []) ∙ (or_false (list_any counts before) ∙ none) in
    let rest = skip_lines (before ++ Skipped ∷ []) more more_none in
    record {
      passed = pass_one before more (behind_skipped more) Skipped refl (λ z. refl) (λ z. refl) rest.passed;
      none = ap (list_any counts) (sym (append_assoc before (Skipped ∷ []) rest.passed.front)) ∙ rest.none;
    }
skip_lines before (SetupLine ∷ more) none = skip_none before (SetupLine ∷ more) none
skip_lines before (SectionLine kind name ∷ more) none = skip_none before (SectionLine kind name ∷ more) none
skip_lines before (Statement text ∷ more) none = skip_none before (Statement text ∷ more) none
skip_lines before (NoText ∷ more) none = skip_none before (NoText ∷ more) none

setup_skipped : (lines : List Kind) → setup_of lines ≡ setup_at (behind_skipped lines)
setup_skipped [] = refl
setup_skipped (Skipped ∷ more) = setup_skipped more
setup_skipped (SetupLine ∷ more) = refl
setup_skipped (SectionLine kind name ∷ more) = refl
setup_skipped (Statement text ∷ more) = refl
setup_skipped (NoText ∷ more) = refl

-- whether the first line isn't skipped
abbrev begins : List Kind → Bool
begins (Skipped ∷ more) = false
begins _ = true

begins_behind : (lines : List Kind) → begins (behind_skipped lines) ≡ true
begins_behind [] = refl
begins_behind (Skipped ∷ more) = begins_behind more
begins_behind (SetupLine ∷ more) = refl
begins_behind (SectionLine kind name ∷ more) = refl
begins_behind (Statement text ∷ more) = refl
begins_behind (NoText ∷ more) = refl

pub none_begins : (before : List Kind) → list_any counts before ≡ false → list_any begins_section before ≡ false
none_begins [] e = refl
none_begins (Skipped ∷ more) e = none_begins more e
none_begins (SetupLine ∷ more) e = absurd (true_false e)
none_begins (SectionLine kind name ∷ more) e = absurd (true_false e)
none_begins (Statement text ∷ more) e = absurd (true_false e)
none_begins (NoText ∷ more) e = absurd (true_false e)

false_not : (t : Bool) → t ≡ false → not t ≡ true
false_not t e = rw e refl

-- nothing but skipped lines was read, and the next one doesn't begin the setup
unopened : (all rest : List Kind) (skipping : Skipping [] all rest) → setup_of all ≡ [] → is_settled skipping.passed.front rest ≡ true → Reached all rest [] [] (λ q. bytes_eq q (codes "setup"))
unopened all rest skipping setup settled = record {
  before = skipping.passed.front;
  whole = skipping.passed.whole;
  lacking = skipping.passed.lacking;
  opening = setup;
  sections = skipping.passed.sessions;
  names = λ q. none_come skipping.passed.front q skipping.passed.names;
  settled = settled;
}

opened_at : (all rest : List Kind) → Skipping [] all rest → begins rest ≡ true → setup_of all ≡ setup_at rest → Reached all (behind_setup rest) (setup_at rest) [] (λ q. bytes_eq q (codes "setup"))
opened_at all [] skipping first setup = unopened all [] skipping setup refl
opened_at all (Skipped ∷ more) skipping first setup = absurd (false_true first)
opened_at all (SectionLine kind name ∷ more) skipping first setup = unopened all (SectionLine kind name ∷ more) skipping setup refl
opened_at all (Statement text ∷ more) skipping first setup =
    unopened all (Statement text ∷ more) skipping setup (false_not (list_any begins_section skipping.passed.front) (none_begins skipping.passed.front skipping.none))
opened_at all (NoText ∷ more) skipping first setup = unopened all (NoText ∷ more) skipping setup refl
opened_at all (SetupLine ∷ more) skipping first setup =
    let front = skipping.passed.front in
    let p = pass_section (front ++ SetupLine ∷ []) more (any_last begins_section front SetupLine refl) in
    let assoc : (front ++ SetupLine ∷ []) ++ p.front ≡ front ++ SetupLine ∷ p.front = append_assoc front (SetupLine ∷ []) p.front in
    record {
      before = (front ++ SetupLine ∷ []) ++ p.front;
      whole = skipping.passed.whole ∙ (ap (λ z. front ++ SetupLine ∷ z) p.whole ∙ (sym (append_assoc front (SetupLine ∷ p.front) (behind_section more)) ∙ ap (λ z. z ++ behind_section more) (sym assoc)));
      lacking = skipping.passed.lacking ∙ (ap (λ t. if t then Some (length front + 1) else first_lacking (front ++ SetupLine ∷ []) more) skipping.none ∙ p.lacking);
      opening = setup;
      sections = skipping.passed.sessions ∙ p.sessions;
      names = λ q. none_come ((front ++ SetupLine ∷ []) ++ p.front) q (ap names_of assoc ∙ (names_joined front (SetupLine ∷ p.front) ∙ (ap (λ z. z ++ names_of p.front) skipping.passed.names ∙ p.names)));
      settled = settled_section ((front ++ SetupLine ∷ []) ++ p.front) more (any_more counts (front ++ SetupLine ∷ []) p.front (any_last counts front SetupLine refl));
    }

-- the setup was read
pub opened : (all : List Kind) → Reached all (behind_setup (behind_skipped all)) (setup_at (behind_skipped all)) [] (λ q. bytes_eq q (codes "setup"))
opened all = opened_at all (behind_skipped all) (skip_lines [] all refl) (begins_behind all) (setup_skipped all)

-- the setup was read, and no section
pub begun : (all rest : List Kind) (setup : List (List ℕ)) (sessions : List Section) (names : BTreeSet (Bor (List ℕ))) → rest ≡ behind_setup (behind_skipped all) → setup ≡ setup_at (behind_skipped all) → sessions ≡ []
    → ((q : List ℕ) → has names q ≡ bytes_eq q (codes "setup")) → Reached all rest setup sessions (has names)
begun all rest setup sessions names at is none come =
    let r = opened all in
    record {
      before = r.before;
      whole = r.whole ∙ ap (λ z. r.before ++ z) (sym at);
      lacking = r.lacking ∙ ap (first_lacking r.before) (sym at);
      opening = r.opening ∙ sym is;
      sections = r.sections ∙ (ap sessions_of (sym at) ∙ ap (λ z. z ++ sessions_of rest) (sym none));
      names = λ q. come q ∙ r.names q;
      settled = ap (is_settled r.before) at ∙ r.settled;
    }

taken : (t : Bool) (head meant : SectionKind × List ℕ) → (if t then Some head else None) ≡ Some meant → (t ≡ true) × (head ≡ meant)
taken true head meant e = (refl, cc)
taken false head meant e = cc

-- a new name has its form, and hasn't come
is_new : (form come : Bool) → (form && not come) ≡ true → (not form || come) ≡ false
is_new true true e = cc
is_new true false e = refl
is_new false come e = cc

is_form : (form come : Bool) → (form && not come) ≡ false → (not form || come) ≡ true
is_form true true e = refl
is_form true false e = cc
is_form false come e = refl

abbrev section : SectionKind → List ℕ → List (List ℕ) → Section
section kind name statements = record { name = name; kind = kind; statements = statements }

-- one more section was read
pub stepped : (all rest : List Kind) (setup : List (List ℕ)) (sessions : List Section) (names more : BTreeSet (Bor (List ℕ))) (kind : SectionKind) (name : List ℕ) → Reached all rest setup sessions (has names) → first_head names rest ≡ Some (kind, name)
    → ((q : List ℕ) → has more q ≡ (bytes_eq q name || has names q))
    → Reached all (behind_section (behind_first rest)) setup (sessions ++ section kind name (statements_of (behind_first rest)) ∷ []) (has more)
stepped all [] setup sessions names more kind name r e added = absurd (not_some e)
stepped all (Skipped ∷ lines) setup sessions names more kind name r e added = absurd (not_some e)
stepped all (SetupLine ∷ lines) setup sessions names more kind name r e added = absurd (not_some e)
stepped all (Statement text ∷ lines) setup sessions names more kind name r e added = absurd (not_some e)
stepped all (NoText ∷ lines) setup sessions names more kind name r e added = absurd (not_some e)
stepped all (SectionLine k n ∷ lines) setup sessions names more kind name r e added =
    let took = taken (is_session_name n && not (has names n)) (k, n) (kind, name) e in
    let same : n ≡ name = ap (λ (head : SectionKind × List ℕ). head.1) took.1 in
    let line = SectionLine k n in
    let fits : lacks_form r.before line ≡ false = ap (λ t. not (is_session_name n) || t) (sym (r.names n)) ∙ is_new (is_session_name n) (has names n) took.0 in
    let p = pass_section (r.before ++ line ∷ []) lines (any_last begins_section r.before line refl) in
    let assoc : (r.before ++ line ∷ []) ++ p.front ≡ r.before ++ line ∷ p.front = append_assoc r.before (line ∷ []) p.front in
    record {
      before = (r.before ++ line ∷ []) ++ p.front;
      whole = r.whole ∙ (ap (λ z. r.before ++ line ∷ z) p.whole ∙ (sym (append_assoc r.before (line ∷ p.front) (behind_section lines)) ∙ ap (λ z. z ++ behind_section lines) (sym assoc)));
      lacking = r.lacking ∙ (ap (λ t. if t then Some (length r.before + 1) else first_lacking (r.before ++ line ∷ []) lines) fits ∙ p.lacking);
      opening = r.opening;
      sections = r.sections ∙ (ap (λ z. sessions ++ section k n (statements_of lines) ∷ z) p.sessions
          ∙ (ap (λ (head : SectionKind × List ℕ). sessions ++ section head.0 head.1 (statements_of lines) ∷ sessions_of (behind_section lines)) took.1
          ∙ sym (append_assoc sessions (section kind name (statements_of lines) ∷ []) (sessions_of (behind_section lines)))));
      names = λ q. added q ∙ (ap (λ t. bytes_eq q name || t) (r.names q) ∙ (ap (λ m. bytes_eq q m || has_come r.before q) (sym same) ∙ (sym (come_more r.before p.front k n q p.names) ∙ ap (λ b. has_come b q) (sym assoc))));
      settled = settled_section ((r.before ++ line ∷ []) ++ p.front) lines (any_more counts (r.before ++ line ∷ []) p.front (any_last counts r.before line refl));
    }

-- one more section was read, with what was read of it
pub grown : (all rest next : List Kind) (setup : List (List ℕ)) (sessions longer : List Section) (s : Section) (names more : BTreeSet (Bor (List ℕ))) → Reached all rest setup sessions (has names) → first_head names rest ≡ Some (s.kind, s.name)
    → s.statements ≡ statements_of (behind_first rest) → next ≡ behind_section (behind_first rest) → ((q : List ℕ) → has more q ≡ (bytes_eq q s.name || has names q)) → longer ≡ sessions ++ s ∷ [] → Reached all next setup longer (has more)
grown all rest next setup sessions longer s names more r e is at added pushed =
    let r = stepped all rest setup sessions names more s.kind s.name r e added in
    let last : sessions ++ section s.kind s.name (statements_of (behind_first rest)) ∷ [] ≡ longer = ap (λ ts. sessions ++ section s.kind s.name ts ∷ []) (sym is) ∙ sym pushed in
    record {
      before = r.before;
      whole = r.whole ∙ ap (λ z. r.before ++ z) (sym at);
      lacking = r.lacking ∙ ap (first_lacking r.before) (sym at);
      opening = r.opening;
      sections = r.sections ∙ (ap (λ z. z ++ sessions_of (behind_section (behind_first rest))) last ∙ ap (λ z. longer ++ sessions_of z) (sym at));
      names = r.names;
      settled = ap (is_settled r.before) at ∙ r.settled;
    }

told : (t : Bool) (n : ℕ) (rest : Option ℕ) → t ≡ true → (if t then Some n else rest) ≡ Some n
told t n rest e = rw e refl

not_taken : (t : Bool) (n : SectionKind × List ℕ) → (if t then Some n else None) ≡ None → t ≡ false
not_taken true n e = cc
not_taken false n e = refl

no_section : (more : List Kind) (line : Kind) (before : List Kind) (names : BTreeSet (Bor (List ℕ))) → ((q : List ℕ) → has names q ≡ has_come before q) → is_settled before (line ∷ more) ≡ true → new_head names line ≡ None → lacks_form before line ≡ true
no_section more Skipped before names come settled e = settled
no_section more SetupLine before names come settled e = settled
no_section more (Statement text) before names come settled e = settled
no_section more NoText before names come settled e = refl
no_section more (SectionLine kind n) before names come settled e =
    ap (λ t. not (is_session_name n) || t) (sym (come n)) ∙ is_form (is_session_name n) (has names n) (not_taken (is_session_name n && not (has names n)) (kind, n) e)

-- the next line is the first that lacks its form
pub failed : (all rest : List Kind) (setup : List (List ℕ)) (sessions : List Section) (names : BTreeSet (Bor (List ℕ))) (number : ℕ) → Reached all rest setup sessions (has names) → 0 < length rest → first_head names rest ≡ None
    → number + length rest ≡ length all → first_lacking [] all ≡ Some (number + 1)
failed all [] setup sessions names number r some e size = absurd (not_below some)
  where
    not_below : 0 < 0 → ⊥
    not_below l = omega arith
failed all (line ∷ more) setup sessions names number r some e size =
    let lacks = no_section more line r.before names r.names r.settled e in
    let total : length all ≡ length r.before + length (line ∷ more) = ap length r.whole ∙ length-append r.before (line ∷ more) in
    let place : length r.before + 1 ≡ number + 1 = omega (arith, total, size) in
    r.lacking ∙ (told (lacks_form r.before line) (length r.before + 1) (first_lacking (r.before ++ line ∷ []) more) lacks ∙ ap Some place)
