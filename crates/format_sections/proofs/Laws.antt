-- What is so of the plan of lines that have their form.
use Rattle.std.proofs.Common.{◌≡◌, ◌+◌, ◌∙◌, ◌<◌, ℕ, suc, Bool, true, false, not, ◌||◌, if◌then◌else◌, List, [], ◌∷◌, ◌++◌, length, codes, map, refl, ap, sym, subst, arith, append_assoc, Option, Some, None}
use Rattle.std.specs.List.{All, IsDistinct, list_any, flat_map, slice_get}
use Rattle.std.specs.Str.{bytes_eq}
use Rattle.std.specs.Cmp.Lexicographic.{nat_list_eq_equiv}
use Rattle.std.proofs.lemmas.List.Elements.{All-push}
use Rattle.std.proofs.lemmas.List.Folds.{list_any-append}
use Rattle.std.proofs.lemmas.Map.Keys.{IsDistinct-push}
use Rattle.format_sections.specs.declared.kind.SectionKind.{SectionKind}
use Rattle.format_sections.specs.Kind.{Kind, Skipped, SetupLine, SectionLine, Statement, NoText}
use Rattle.format_sections.specs.Form.{is_session_name, counts, begins_section, names_of, has_come, lacks_form, first_lacking, HaveForm, IsFirstLacking}
use Rattle.format_sections.specs.RunSections.{Section, statements_of, setup_of, sessions_of, run_sections_of, statements_of_sections, texts_of}
use Rattle.format_sections.proofs.Reached.{none_behind, true_false, any_last, any_more, names_joined, none_begins}

fits_line : (t : Bool) (n : ℕ) (rest : Option ℕ) → (if t then Some n else rest) ≡ None → (t ≡ false) × (rest ≡ None)
fits_line true n rest e = cc
fits_line false n rest e = (refl, e)

-- the first of some lines has its form, and so have the others behind it
fits_first : (before more : List Kind) (line : Kind) → first_lacking before (line ∷ more) ≡ None → (lacks_form before line ≡ false) × (first_lacking (before ++ line ∷ []) more ≡ None)
fits_first before more line e = fits_line (lacks_form before line) (length before + 1) (first_lacking (before ++ line ∷ []) more) e

pub names_sessions : (lines : List Kind) → map (λ s. s.name) (sessions_of lines) ≡ names_of lines
names_sessions [] = refl
names_sessions (Skipped ∷ lines) = names_sessions lines
names_sessions (SetupLine ∷ lines) = names_sessions lines
names_sessions (SectionLine kind name ∷ lines) = ap (λ z. name ∷ z) (names_sessions lines)
names_sessions (Statement text ∷ lines) = names_sessions lines
names_sessions (NoText ∷ lines) = names_sessions lines

-- the names of sessions that have their form, differ, and aren't the setup's
abbrev pub AreNames : List (List ℕ) → Type 0
AreNames names = All (λ name. is_session_name name ≡ true) names × IsDistinct bytes_eq (codes "setup" ∷ names)

form_of : (form come : Bool) → (not form || come) ≡ false → (form ≡ true) × (come ≡ false)
form_of true come e = (refl, e)
form_of false come e = cc

names_last : (before : List Kind) (line : Kind) → AreNames (names_of before) → lacks_form before line ≡ false → AreNames (names_of (before ++ line ∷ []))
names_last before (SectionLine kind name) known e =
    let ok = form_of (is_session_name name) (has_come before name) e in
    subst AreNames (sym (names_joined before (SectionLine kind name ∷ [])))
    (All-push (λ n. is_session_name n ≡ true) (names_of before) name known.0 ok.0, IsDistinct-push nat_list_eq_equiv (codes "setup" ∷ names_of before) name known.1 ok.1)
names_last before Skipped known e = subst AreNames (sym (names_joined before (Skipped ∷ []) ∙ none_behind (names_of before))) known
names_last before SetupLine known e = subst AreNames (sym (names_joined before (SetupLine ∷ []) ∙ none_behind (names_of before))) known
names_last before (Statement text) known e = subst AreNames (sym (names_joined before (Statement text ∷ []) ∙ none_behind (names_of before))) known
names_last before NoText known e = absurd (true_false e)

names_all : (before lines : List Kind) → AreNames (names_of before) → first_lacking before lines ≡ None → AreNames (names_of (before ++ lines))
names_all before [] known e = subst (λ z. AreNames (names_of z)) (sym (none_behind before)) known
names_all before (line ∷ lines) known e =
    let fits = fits_first before lines line e in
    subst (λ z. AreNames (names_of z)) (append_assoc before (line ∷ []) lines) (names_all (before ++ line ∷ []) lines (names_last before line known fits.0) fits.1)

no_names : AreNames []
unfolding IsDistinct
no_names = ((λ k d l. absurd (none k l)), IsDistinct-push nat_list_eq_equiv [] (codes "setup") tt refl)
  where
    none : (k : ℕ) → k < 0 → ⊥
    none k l = omega arith

-- the sessions of lines that have their form have names of sessions, which differ
pub named : (lines : List Kind) → first_lacking [] lines ≡ None → AreNames (map (λ s. s.name) (sessions_of lines))
named lines e = subst AreNames (sym (names_sessions lines)) (names_all [] lines no_names e)

pub section_at : (before more : List Kind) (kind : SectionKind) (name : List ℕ) → slice_get (sessions_of (before ++ SectionLine kind name ∷ more)) (length (names_of before)) ≡ Some (record { name = name; kind = kind; statements = statements_of more })
section_at [] more kind name = refl
section_at (Skipped ∷ before) more kind name = section_at before more kind name
section_at (SetupLine ∷ before) more kind name = section_at before more kind name
section_at (SectionLine k other ∷ before) more kind name = section_at before more kind name
section_at (Statement text ∷ before) more kind name = section_at before more kind name
section_at (NoText ∷ before) more kind name = section_at before more kind name

pub sections_count : (lines : List Kind) → length (sessions_of lines) ≡ length (names_of lines)
sections_count [] = refl
sections_count (Skipped ∷ lines) = sections_count lines
sections_count (SetupLine ∷ lines) = sections_count lines
sections_count (SectionLine kind name ∷ lines) = ap suc (sections_count lines)
sections_count (Statement text ∷ lines) = sections_count lines
sections_count (NoText ∷ lines) = sections_count lines

abbrev told : List Section → List (List ℕ)
told sections = flat_map (λ s. s.statements) sections

true_not_false : (t : Bool) → t ≡ true → t ≡ false → ⊥
true_not_false true e f = cc
true_not_false false e f = cc

-- behind the first line that counts the statements are those of its section and of the sessions behind it
texts_behind : (before lines : List Kind) → list_any counts before ≡ true → first_lacking before lines ≡ None → statements_of lines ++ told (sessions_of lines) ≡ texts_of lines
texts_behind before [] begun e = refl
texts_behind before (Skipped ∷ lines) begun e = texts_behind (before ++ Skipped ∷ []) lines (any_more counts before (Skipped ∷ []) begun) (fits_first before lines Skipped e).1
texts_behind before (SetupLine ∷ lines) begun e = absurd (true_not_false (list_any counts before) begun (fits_first before lines SetupLine e).0)
texts_behind before (SectionLine kind name ∷ lines) begun e =
    texts_behind (before ++ SectionLine kind name ∷ []) lines (any_more counts before (SectionLine kind name ∷ []) begun) (fits_first before lines (SectionLine kind name) e).1
texts_behind before (Statement text ∷ lines) begun e =
    ap (λ z. text ∷ z) (texts_behind (before ++ Statement text ∷ []) lines (any_more counts before (Statement text ∷ []) begun) (fits_first before lines (Statement text) e).1)
texts_behind before (NoText ∷ lines) begun e = absurd (true_not_false true refl (fits_first before lines NoText e).0)

or_false_both : (a : Bool) → a ≡ false → (a || false) ≡ false
or_false_both a e = rw e refl

texts_from : (before lines : List Kind) → list_any counts before ≡ false → first_lacking before lines ≡ None → setup_of lines ++ told (sessions_of lines) ≡ texts_of lines
texts_from before [] none e = refl
texts_from before (Skipped ∷ lines) none e =
    texts_from (before ++ Skipped ∷ []) lines (list_any-append counts before (Skipped ∷ []) ∙ or_false_both (list_any counts before) none) (fits_first before lines Skipped e).1
texts_from before (SetupLine ∷ lines) none e = texts_behind (before ++ SetupLine ∷ []) lines (any_last counts before SetupLine refl) (fits_first before lines SetupLine e).1
texts_from before (SectionLine kind name ∷ lines) none e =
    texts_behind (before ++ SectionLine kind name ∷ []) lines (any_last counts before (SectionLine kind name) refl) (fits_first before lines (SectionLine kind name) e).1
texts_from before (Statement text ∷ lines) none e = absurd (not_in (list_any begins_section before) (none_begins before none) (fits_first before lines (Statement text) e).0)
  where
    not_in : (t : Bool) → t ≡ false → not t ≡ false → ⊥
    not_in true e f = cc
    not_in false e f = cc
texts_from before (NoText ∷ lines) none e = absurd (true_not_false true refl (fits_first before lines NoText e).0)

pub all_texts : (lines : List Kind) → first_lacking [] lines ≡ None → statements_of_sections (run_sections_of lines) ≡ texts_of lines
all_texts lines e = texts_from [] lines refl e

-- each line that stands among lines which have their form has it
have_form : (front before more : List Kind) (line : Kind) → first_lacking front (before ++ line ∷ more) ≡ None → lacks_form (front ++ before) line ≡ false
have_form front [] more line e = ap (λ b. lacks_form b line) (none_behind front) ∙ (fits_first front more line e).0
have_form front (one ∷ before) more line e =
    ap (λ b. lacks_form b line) (sym (append_assoc front (one ∷ []) before)) ∙ have_form (front ++ one ∷ []) before more line (fits_first front (before ++ line ∷ more) one e).1

pub all_have_form : (lines : List Kind) → first_lacking [] lines ≡ None → HaveForm lines
all_have_form lines e before more line is = have_form [] before more line (ap (first_lacking []) (sym is) ∙ e)

-- where a line is told, it lacks its form, and those before it don't
pub record Found (front lines : List Kind) (number : ℕ) : Type 0 where
  pub before : List Kind
  pub line : Kind
  pub more : List Kind
  pub whole : lines ≡ before ++ line ∷ more
  pub place : number ≡ length (front ++ before) + 1
  pub lacks : lacks_form (front ++ before) line ≡ true
  pub first : first_lacking front before ≡ None

found_at : (front lines : List Kind) (line : Kind) (number : ℕ) (t : Bool) → lacks_form front line ≡ t → (if t then Some (length front + 1) else first_lacking (front ++ line ∷ []) lines) ≡ Some number
    → (first_lacking (front ++ line ∷ []) lines ≡ Some number → Found (front ++ line ∷ []) lines number) → Found front (line ∷ lines) number
found_at front lines line number true lacks e rest = record {
  before = [];
  line = line;
  more = lines;
  whole = refl;
  place = place (length front + 1) number e ∙ ap (λ z. length z + 1) (sym (none_behind front));
  lacks = ap (λ b. lacks_form b line) (none_behind front) ∙ lacks;
  first = refl;
}
  where
    place : (a b : ℕ) → Some a ≡ Some b → b ≡ a
    place a b e = cc
found_at front lines line number false fits e rest =
    let f = rest e in
    let assoc = append_assoc front (line ∷ []) f.before in
    record {
      before = line ∷ f.before;
      line = f.line;
      more = f.more;
      whole = ap (λ z. line ∷ z) f.whole;
      place = f.place ∙ ap (λ z. length z + 1) assoc;
      lacks = ap (λ b. lacks_form b f.line) (sym assoc) ∙ f.lacks;
      first = ap (λ t. if t then Some (length front + 1) else first_lacking (front ++ line ∷ []) f.before) fits ∙ f.first;
    }

found : (front lines : List Kind) (number : ℕ) → first_lacking front lines ≡ Some number → Found front lines number
found front [] number e = absurd (no_line e)
  where
    no_line : {n : ℕ} → None ≡ Some n → ⊥
    no_line e = cc
found front (line ∷ lines) number e = found_at front lines line number (lacks_form front line) refl e (found (front ++ line ∷ []) lines number)

pub first_found : (lines : List Kind) (number : ℕ) → first_lacking [] lines ≡ Some number → IsFirstLacking lines number
first_found lines number e =
    let f = found [] lines number e in
    record { before = f.before; line = f.line; more = f.more; whole = f.whole; place = f.place; lacks = f.lacks; first = all_have_form f.before f.first }
