-- What is woven of the entries of all transcripts is one list in the order of the lines.
use Rattle.std.proofs.Common.{◌≡◌, ◌≢◌, ◌<◌, ◌+◌, ◌==◌, ◌⊎◌, ℕ, zero, suc, Bool, true, false, List, [], ◌∷◌, ◌++◌, map, drop, length, refl, sym, ap, ap₂, ◌∙◌, subst, arith, append-nil, append_assoc, inl, inr, ⊎_elim}
use Rattle.std.specs.Prelude.{flat_map, if◌then◌else◌}
use Rattle.std.specs.List.{list_any}
use Rattle.std.specs.Str.{bytes_eq}
use Rattle.std.proofs.lemmas.Slice.Eq.{bytes_eq-Decides}
use Rattle.std.proofs.lemmas.Bool.Decides.{nat_tests}
use Rattle.spec_history.specs.Agree.{AreStatements}
use Rattle.spec_history.specs.InPlace.{EndIsLast}
use Rattle.spec_history.specs.Inputs.{InputLine, texts_of_session, sessions_in}
use Rattle.spec_history.specs.Lists.{Text, Each, At}
use Rattle.spec_history.specs.StepOrder.{Row, entries_of, IsStatementOf, EndsOne, RowsInOrder}
use Rattle.spec_history.specs.Transcripts.{EndLine, Entry, statement, end_of_session, Transcript, statements}
use Rattle.spec_history.proofs.Trace.{each_append}
use Rattle.spec_protocol.specs.Reordered.{NamesApart}
use Rattle.format_transcript.specs.TranscriptText.{entry_text}
use Rattle.server_result.specs.Joined.{joined, joined_each}
use Rattle.server_step.specs.Numbers.{number_of}
use Rattle.server_step.specs.Woven.{first_at, rest_of, without_first, in_turn, woven, woven_text}
use Rattle.server_step.specs.Written.{SessionsRise, AreWritten, name_at, rows_text}
use Rattle.server_step.proofs.Places.{number_here, number_behind, any_behind, named_at}

-- ---- each list is what its rows are

-- the list at this place
abbrev list_at : {A : Type 0} → ℕ → List (List A) → List A
list_at i [] = []
list_at zero (xs ∷ lists) = xs
list_at (suc i) (xs ∷ lists) = list_at i lists

one_more : (b : Bool) (e : Entry) (both one other : List Entry) → both ≡ one ++ other → (if b then e ∷ both else both) ≡ (if b then e ∷ one else one) ++ other
one_more true e both one other are = ap (λ es. e ∷ es) are
one_more false e both one other are = are

both_parts : (s : ℕ) (rows more : List Row) → entries_of s (rows ++ more) ≡ entries_of s rows ++ entries_of s more
both_parts s [] more = refl
both_parts s (r ∷ rows) more = one_more (r.0 == s) r.1 (entries_of s (rows ++ more)) (entries_of s rows) (entries_of s more) (both_parts s rows more)

of_same : (s : ℕ) (xs : List Entry) → entries_of s (map (λ x. (s, x)) xs) ≡ xs
of_same s [] = refl
of_same s (x ∷ xs) =
    let same : (s == s) ≡ true = grind (arith, nat_tests) in
    rw same (ap (λ es. x ∷ es) (of_same s xs))

of_other : (s i : ℕ) → (i == s) ≡ false → (xs : List Entry) → entries_of s (map (λ x. (i, x)) xs) ≡ []
of_other s i other [] = refl
of_other s i other (x ∷ xs) = rw other (of_other s i other xs)

none_before : (s j : ℕ) (lists : List (List Entry)) → s < j → entries_of s (in_turn j lists) ≡ []
none_before s j [] less = refl
none_before s j (xs ∷ lists) less =
    let other : (j == s) ≡ false = grind (arith, nat_tests) in
    both_parts s (map (λ x. (j, x)) xs) (in_turn (suc j) lists) ∙ ap₂ (λ (a b : List Entry). a ++ b) (of_other s j other xs) (none_before s (suc j) lists (omega arith))

each_in_turn : (k j : ℕ) (lists : List (List Entry)) → entries_of (j + k) (in_turn j lists) ≡ list_at k lists
each_in_turn k j [] = refl
each_in_turn zero j (xs ∷ lists) =
    let same : j + 0 ≡ j = omega arith in
    rw same
    (both_parts j (map (λ x. (j, x)) xs) (in_turn (suc j) lists) ∙ ap₂ (λ (a b : List Entry). a ++ b) (of_same j xs) (none_before j (suc j) lists (omega arith)) ∙ append-nil xs)
each_in_turn (suc k) j (xs ∷ lists) =
    let other : (j == (j + suc k)) ≡ false = grind (arith, nat_tests) in
    let next : j + suc k ≡ suc j + k = omega arith in
    both_parts (j + suc k) (map (λ x. (j, x)) xs) (in_turn (suc j) lists) ∙ ap₂ (λ (a b : List Entry). a ++ b) (of_other (j + suc k) j other xs) (rw next (each_in_turn k (suc j) lists))

first_and_rest : (i : ℕ) (lists : List (List Entry)) → first_at i lists ++ list_at i (without_first i lists) ≡ list_at i lists
first_and_rest i [] = refl
first_and_rest zero ([] ∷ lists) = refl
first_and_rest zero ((x ∷ xs) ∷ lists) = refl
first_and_rest (suc i) (xs ∷ lists) = first_and_rest i lists

others_whole : (s i : ℕ) → (i == s) ≡ false → (lists : List (List Entry)) → list_at s (without_first i lists) ≡ list_at s lists
others_whole s i other [] = refl
others_whole zero zero other (xs ∷ lists) = absurd (self_same other)
  where
    self_same : (0 == 0) ≡ false → ⊥
    self_same e = cc
others_whole zero (suc i) other (xs ∷ lists) = refl
others_whole (suc s) zero other (xs ∷ lists) = refl
others_whole (suc s) (suc i) other (xs ∷ lists) =
    let differ : (i == s) ≡ false = grind (arith, nat_tests, other) in
    others_whole s i differ lists

woven_has : (s : ℕ) (is : List ℕ) (lists : List (List Entry)) → entries_of s (woven is lists) ≡ list_at s lists
woven_has s [] lists =
    let same : 0 + s ≡ s = omega arith in
    subst (λ n. entries_of n (in_turn 0 lists) ≡ list_at s lists) same (each_in_turn s 0 lists)
woven_has s (i ∷ is) lists = go (i == s) refl (woven_has s is (without_first i lists))
  where
    go : (b : Bool) → (i == s) ≡ b → entries_of s (woven is (without_first i lists)) ≡ list_at s (without_first i lists) → entries_of s (woven (i ∷ is) lists) ≡ list_at s lists
    go true e rest =
        let same : i ≡ s = grind (arith, nat_tests, e) in
        both_parts s (map (λ x. (i, x)) (first_at i lists)) (woven is (without_first i lists))
        ∙ ap₂ (λ (a b : List Entry). a ++ b) (subst (λ n. entries_of s (map (λ x. (n, x)) (first_at i lists)) ≡ first_at i lists) (sym same) (of_same s (first_at i lists))) rest
        ∙ subst (λ n. first_at i lists ++ list_at n (without_first i lists) ≡ list_at n lists) same (first_and_rest i lists)
    go false other rest =
        both_parts s (map (λ x. (i, x)) (first_at i lists)) (woven is (without_first i lists))
        ∙ ap₂ (λ (a b : List Entry). a ++ b) (of_other s i other (first_at i lists)) (rest ∙ others_whole s i other lists)

-- the entries of a transcript are the list at its place
entries_at : (X : List Transcript) (i : ℕ) (x : Transcript) → At X i x → list_at i (map (λ y. y.entries) X) ≡ x.entries
entries_at [] i x at = absurd at
entries_at (y ∷ X) zero x at = ap (λ (z : Transcript). z.entries) at
entries_at (y ∷ X) (suc i) x at = entries_at X i x at

-- ---- one entry for each line

-- the entries that are left of each session of these names answer what is left of the lines
abbrev pub Fits : List Text → List InputLine → List (List Entry) → Type 0
Fits [] lines [] = Unit {0}
Fits (n ∷ ns) lines (es ∷ left) = (EndIsLast es × (statements es ≡ texts_of_session n lines)) × Fits ns lines left
Fits _ lines _ = ⊥

fit : (names : List Text) (lines : List InputLine) (X : List Transcript) → AreStatements (sessions_in lines names) X → Fits names lines (map (λ x. x.entries) X)
fit [] lines [] are = tt
fit [] lines (x ∷ X) are = absurd are
fit (n ∷ names) lines [] are = absurd are
fit (n ∷ names) lines (x ∷ X) are = ((are.0.end_is_last, are.0.are), fit names lines X are.1)

other_text : (n : Text) (line : InputLine) (lines : List InputLine) → bytes_eq line.session n ≡ false → texts_of_session n (line ∷ lines) ≡ texts_of_session n lines
other_text n line lines other = rw other refl

same_text : (n : Text) (line : InputLine) (lines : List InputLine) → bytes_eq line.session n ≡ true → texts_of_session n (line ∷ lines) ≡ line.text ∷ texts_of_session n lines
same_text n line lines same = rw same refl

is_other : (n m : Text) → (n ≢ m) → bytes_eq n m ≡ false
is_other n m differ = go (bytes_eq n m) refl
  where
    go : (b : Bool) → bytes_eq n m ≡ b → bytes_eq n m ≡ false
    go true e = absurd (differ ((bytes_eq-Decides n m).0 e))
    go false e = e

others_fit : (names : List Text) (line : InputLine) (lines : List InputLine) (left : List (List Entry)) → Each (λ other. line.session ≢ other) names → Fits names (line ∷ lines) left → Fits names lines left
others_fit [] line lines [] apart fits = tt
others_fit [] line lines (es ∷ left) apart fits = absurd fits
others_fit (n ∷ names) line lines [] apart fits = absurd fits
others_fit (n ∷ names) line lines (es ∷ left) apart fits =
    ((fits.0.0, fits.0.1 ∙ other_text n line lines (is_other line.session n apart.0)), others_fit names line lines left apart.1 fits.1)

-- the next entry of the line's session answers the line
record Next (names : List Text) (line : InputLine) (lines : List InputLine) (left : List (List Entry)) : Type 0 where
  pub entry : Entry
  pub first : first_at (number_of names line.session) left ≡ entry ∷ []
  pub answers : IsStatementOf line.text entry
  pub fits : Fits names lines (without_first (number_of names line.session) left)

record First (text : Text) (texts : List Text) (es : List Entry) : Type 0 where
  pub entry : Entry
  pub rest : List Entry
  pub are : es ≡ entry ∷ rest
  pub answers : IsStatementOf text entry
  pub end_is_last : EndIsLast rest
  pub statements_are : statements rest ≡ texts

first_one : (text : Text) (texts : List Text) (es : List Entry) → EndIsLast es → statements es ≡ text ∷ texts → First text texts es
first_one text texts [] last are = absurd cc
first_one text texts (statement t r e ∷ es) last are = record { entry = statement t r e; rest = es; are = refl; answers = cc; end_is_last = last; statements_are = cc }
first_one text texts (end_of_session e ∷ es) last are = absurd (none (subst (λ l. statements l ≡ text ∷ texts) last are))
  where
    none : statements [] ≡ text ∷ texts → ⊥
    none e = cc

next_at_first : (n : Text) (names : List Text) (line : InputLine) (lines : List InputLine) (es : List Entry) (left : List (List Entry)) → bytes_eq line.session n ≡ true → Each (λ other. n ≢ other) names
    → EndIsLast es → statements es ≡ texts_of_session n (line ∷ lines) → Fits names (line ∷ lines) left → Next (n ∷ names) line lines (es ∷ left)
next_at_first n names line lines es left same apart last are fits =
    let name : line.session ≡ n = (bytes_eq-Decides line.session n).0 same in
    let f = first_one line.text (texts_of_session n lines) es last (are ∙ same_text n line lines same) in
    let here = number_here n names line.session same in
    record {
      entry = f.entry;
      first = rw here (ap (λ (l : List Entry). first_at 0 (l ∷ left)) f.are);
      answers = f.answers;
      fits = rw here (subst (λ (l : List Entry). Fits (n ∷ names) lines (rest_of l ∷ left)) (sym f.are)
          ((f.end_is_last, f.statements_are), others_fit names line lines left (subst (λ (m : Text). Each (λ other. m ≢ other) names) (sym name) apart) fits));
    }

next : (names : List Text) (line : InputLine) (lines : List InputLine) (left : List (List Entry)) → NamesApart names → list_any (bytes_eq line.session) names ≡ true → Fits names (line ∷ lines) left → Next names line lines left
next [] line lines left apart any fits = absurd (none any)
  where
    none : list_any (bytes_eq line.session) [] ≡ true → ⊥
    none e = cc
next (n ∷ names) line lines [] apart any fits = absurd fits
next (n ∷ names) line lines (es ∷ left) apart any fits = go (bytes_eq line.session n) refl (next names line lines left apart.1)
  where
    go : (b : Bool) → bytes_eq line.session n ≡ b → (list_any (bytes_eq line.session) names ≡ true → Fits names (line ∷ lines) left → Next names line lines left) → Next (n ∷ names) line lines (es ∷ left)
    go true same behind_it = next_at_first n names line lines es left same apart.0 fits.0.0 fits.0.1 fits.1
    go false other behind_it =
        let rest = behind_it (any_behind n names line.session other any) fits.1 in
        let behind = number_behind n names line.session other in
        record {
          entry = rest.entry;
          first = rw behind rest.first;
          answers = rest.answers;
          fits = rw behind ((fits.0.0, fits.0.1 ∙ other_text n line lines other), rest.fits);
        }

-- ---- (end)s behind the last line

-- nothing is left, or one (end)
left_over : (es : List Entry) → EndIsLast es → statements es ≡ [] → (es ≡ []) ⊎ ((e : EndLine) × (es ≡ end_of_session e ∷ []))
left_over [] last none = inl refl
left_over (statement t r e ∷ es) last none = absurd cc
left_over (end_of_session e ∷ es) last none = inr (e, ap (λ l. end_of_session e ∷ l) last)

module _ (X : List Transcript) where
  ends_of : (i : ℕ) (x : Transcript) → At X i x → (es : List Entry) → EndIsLast es → statements es ≡ [] → Each (EndsOne X) (map (λ e. (i, e)) es)
  ends_of i x at es last none = ⊎_elim
      (λ (e : es ≡ []). subst (λ l. Each (EndsOne X) (map (λ e. (i, e)) l)) (sym e) tt)
      (λ f. subst (λ l. Each (EndsOne X) (map (λ e. (i, e)) l)) (sym f.1) (record { transcript = x; there = at; end = tt }, tt))
      (left_over es last none)

  ends : (j : ℕ) (names : List Text) (left : List (List Entry)) → Fits names [] left → ((k : ℕ) → k < length left → (x : Transcript) × At X (j + k) x) → Each (EndsOne X) (in_turn j left)
  ends j [] [] fits there = tt
  ends j [] (es ∷ left) fits there = absurd fits
  ends j (n ∷ names) [] fits there = absurd fits
  ends j (n ∷ names) (es ∷ left) fits there =
      let here = there 0 (omega arith) in
      let same : j + 0 ≡ j = omega arith in
      each_append (EndsOne X) (map (λ e. (j, e)) es) (in_turn (suc j) left)
      (ends_of j here.0 (subst (λ k. At X k here.0) same here.1) es fits.0.0 fits.0.1)
      (ends (suc j) names left fits.1 (λ k less. let x = there (suc k) (omega (arith, less)) in let next : j + suc k ≡ suc j + k = omega arith in (x.0, subst (λ m. At X m x.0) next x.1)))

-- each row from place j on is behind all sessions before it
abbrev IsBehind : ℕ → Row → Type 0
IsBehind i later = i < later.0

own_behind : (i j : ℕ) → i < j → (es : List Entry) → Each (IsBehind i) (map (λ e. (j, e)) es)
own_behind i j less [] = tt
own_behind i j less (e ∷ es) = (less, own_behind i j less es)

all_behind : (i j : ℕ) (left : List (List Entry)) → i < j → Each (IsBehind i) (in_turn j left)
all_behind i j [] less = tt
all_behind i j (es ∷ left) less = each_append (IsBehind i) (map (λ e. (j, e)) es) (in_turn (suc j) left) (own_behind i j less es) (all_behind i (suc j) left (omega (arith, less)))

ends_rise : (j : ℕ) (names : List Text) (left : List (List Entry)) → Fits names [] left → SessionsRise (in_turn j left)
ends_rise j [] [] fits = tt
ends_rise j [] (es ∷ left) fits = absurd fits
ends_rise j (n ∷ names) [] fits = absurd fits
ends_rise j (n ∷ names) (es ∷ left) fits = ⊎_elim
    (λ (e : es ≡ []). subst (λ l. SessionsRise (map (λ x. (j, x)) l ++ in_turn (suc j) left)) (sym e) (ends_rise (suc j) names left fits.1))
    (λ f. subst (λ l. SessionsRise (map (λ x. (j, x)) l ++ in_turn (suc j) left)) (sym f.1) (all_behind j (suc j) left (omega arith), ends_rise (suc j) names left fits.1))
    (left_over es fits.0.0 fits.0.1)

-- ---- all rows

fits_length : (names : List Text) (lines : List InputLine) (left : List (List Entry)) → Fits names lines left → length left ≡ length names
fits_length [] lines [] fits = refl
fits_length [] lines (es ∷ left) fits = absurd fits
fits_length (n ∷ names) lines [] fits = absurd fits
fits_length (n ∷ names) lines (es ∷ left) fits = ap (λ n. suc n) (fits_length names lines left fits.1)

module _ (X : List Transcript) where
  abbrev names : List Text
  names = map (λ x. x.session) X

  abbrev numbers : List InputLine → List ℕ
  numbers lines = map (λ line. number_of names line.session) lines

  transcripts_there : (Y : List Transcript) (k : ℕ) → k < length (map (λ x. x.session) Y) → (x : Transcript) × At Y k x
  transcripts_there [] k less = absurd (omega (arith, less))
  transcripts_there (y ∷ Y) zero less = (y, refl)
  transcripts_there (y ∷ Y) (suc k) less = transcripts_there Y k (omega (arith, less))

  in_order : (lines : List InputLine) (left : List (List Entry)) → NamesApart names → Each (λ line. list_any (bytes_eq line.session) names ≡ true) lines → Fits names lines left
      → RowsInOrder X lines (woven (numbers lines) left) × SessionsRise (drop (length lines) (woven (numbers lines) left))
  in_order [] left apart named fits =
      let many = fits_length names [] left fits in (
        ends X 0 names left fits (λ k less.
            let x = transcripts_there X k (omega (arith, less, many)) in
            let same : k ≡ 0 + k = omega arith in
            (x.0, subst (λ n. At X n x.0) same x.1)),
        ends_rise 0 names left fits,
      )
  in_order (line ∷ lines) left apart named fits =
      let n = next names line lines left apart named.0 fits in
      let x = named_at X line.session named.0 in
      let rest = in_order lines (without_first (number_of names line.session) left) apart named.1 n.fits in
      let rows = woven (numbers lines) (without_first (number_of names line.session) left) in
      subst (λ l. RowsInOrder X (line ∷ lines) (map (λ e. (number_of names line.session, e)) l ++ rows) × SessionsRise (drop (suc (length lines)) (map (λ e. (number_of names line.session, e)) l ++ rows))) (sym n.first)
      ((record { transcript = x.transcript; there = x.there; session = x.session; statement = n.answers }, rest.0), rest.1)

  -- what is woven of the entries of all transcripts is written so
  pub are_written : (lines : List InputLine) → NamesApart names → Each (λ line. list_any (bytes_eq line.session) names ≡ true) lines → AreStatements (sessions_in lines names) X
      → AreWritten X lines (woven (numbers lines) (map (λ x. x.entries) X))
  are_written lines apart named are =
      let o = in_order lines (map (λ x. x.entries) X) apart named (fit names lines X are) in
      record {
        all = λ i x at. woven_has i (numbers lines) (map (λ x. x.entries) X) ∙ entries_at X i x at;
        in_order = o.0;
        ends_rise = o.1;
      }

-- ---- their text

from_zero : (i : ℕ) → i ≡ 0 + i
from_zero i = omega arith

module _ (f : ℕ → Entry → List ℕ) where
  -- the texts of the entries, session by session from this number on
  abbrev texts_from : ℕ → List (List Entry) → List (List (List ℕ))
  texts_from j [] = []
  texts_from j (es ∷ lists) = map (f j) es ∷ texts_from (suc j) lists

  abbrev text_of : List Row → List ℕ
  text_of rows = flat_map (λ r. f r.0 r.1) rows

  text_parts : (rows more : List Row) → text_of (rows ++ more) ≡ text_of rows ++ text_of more
  text_parts [] more = refl
  text_parts (r ∷ rows) more = ap (λ t. f r.0 r.1 ++ t) (text_parts rows more) ∙ sym (append_assoc (f r.0 r.1) (text_of rows) (text_of more))

  text_at : (i : ℕ) (es : List Entry) → text_of (map (λ e. (i, e)) es) ≡ joined (map (f i) es)
  text_at i [] = refl
  text_at i (e ∷ es) = ap (λ t. f i e ++ t) (text_at i es)

  text_in_turn : (j : ℕ) (lists : List (List Entry)) → text_of (in_turn j lists) ≡ joined_each (texts_from j lists)
  text_in_turn j [] = refl
  text_in_turn j (es ∷ lists) = text_parts (map (λ e. (j, e)) es) (in_turn (suc j) lists) ∙ ap₂ (λ (a b : List ℕ). a ++ b) (text_at j es) (text_in_turn (suc j) lists)

  first_text : (i j : ℕ) (lists : List (List Entry)) → first_at i (texts_from j lists) ≡ map (f (j + i)) (first_at i lists)
  first_text i j [] = refl
  first_text zero j ([] ∷ lists) = refl
  first_text zero j ((e ∷ es) ∷ lists) = let same : j + 0 ≡ j = omega arith in rw same refl
  first_text (suc i) j (es ∷ lists) = let next : j + suc i ≡ suc j + i = omega arith in rw next (first_text i (suc j) lists)

  rest_map : (j : ℕ) (es : List Entry) → rest_of (map (f j) es) ≡ map (f j) (rest_of es)
  rest_map j [] = refl
  rest_map j (e ∷ es) = refl

  rest_text : (i j : ℕ) (lists : List (List Entry)) → without_first i (texts_from j lists) ≡ texts_from j (without_first i lists)
  rest_text i j [] = refl
  rest_text zero j (es ∷ lists) = ap (λ ts. ts ∷ texts_from (suc j) lists) (rest_map j es)
  rest_text (suc i) j (es ∷ lists) = ap (λ ts. map (f j) es ∷ ts) (rest_text i (suc j) lists)

  woven_texts : (is : List ℕ) (lists : List (List Entry)) → text_of (woven is lists) ≡ woven_text is (texts_from 0 lists)
  woven_texts [] lists = text_in_turn 0 lists
  woven_texts (i ∷ is) lists =
      text_parts (map (λ e. (i, e)) (first_at i lists)) (woven is (without_first i lists))
      ∙ ap₂ (λ (a b : List ℕ). a ++ b)
      (text_at i (first_at i lists) ∙ ap (λ n. joined (map (f n) (first_at i lists))) (from_zero i) ∙ ap joined (sym (first_text i 0 lists)))
      (woven_texts is (without_first i lists) ∙ ap (λ ts. woven_text is ts) (sym (rest_text i 0 lists)))

texts_are : (names : List Text) (j : ℕ) (X : List Transcript) → ((k : ℕ) → name_at names (j + k) ≡ name_at (map (λ x. x.session) X) k)
    → map (λ x. map (entry_text x.session) x.entries) X ≡ texts_from (λ i e. entry_text (name_at names i) e) j (map (λ x. x.entries) X)
texts_are names j [] at = refl
texts_are names j (x ∷ X) at =
    let same : j + 0 ≡ j = omega arith in
    let here : name_at names j ≡ x.session = subst (λ n. name_at names n ≡ x.session) same (at 0) in
    ap₂ (λ (ts : List (List ℕ)) (tss : List (List (List ℕ))). ts ∷ tss)
    (ap (λ (n : Text). map (entry_text n) x.entries) (sym here))
    (texts_are names (suc j) X (λ k. let next : suc j + k ≡ j + suc k = omega arith in ap (name_at names) next ∙ at (suc k)))

-- the text of what is woven of the entries is woven of their texts
pub text_is_woven : (is : List ℕ) (X : List Transcript) → rows_text (map (λ x. x.session) X) (woven is (map (λ x. x.entries) X)) ≡ woven_text is (map (λ x. map (entry_text x.session) x.entries) X)
unfolding rows_text
text_is_woven is X =
    let names = map (λ x. x.session) X in
    woven_texts (λ i e. entry_text (name_at names i) e) is (map (λ x. x.entries) X)
    ∙ ap (λ ts. woven_text is ts) (sym (texts_are names 0 X (λ k. ap (name_at names) (sym (from_zero k)))))
