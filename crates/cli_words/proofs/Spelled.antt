use Rattle.std.proofs.Common.{suc, ◌≡◌, ◌∙◌, ◌++◌, ◌+◌, ◌<◌, ◌==◌, ap, ap₂, ℕ, Bool, true, false, not, List, [], ◌∷◌, length, is_some, Option, Some, None, refl, sym, subst, arith, true≢false}
use Rattle.std.specs.List.{prefix_len}
use Rattle.std.specs.Prelude.{slice_get, if◌then◌else◌, unwrap_or, option_and_then}
use Rattle.std.specs.Str.{bytes_eq}
use Rattle.std.proofs.lemmas.Slice.Eq.{bytes_eq-Decides}
use Rattle.clap.specs.Lexer.{long_of, long_of_rest, strip_byte, name_and_value, has_byte}
use Rattle.cli_words.specs.Line.{Text, Use, Last, nothing, whole, begun, is_among, is_short, is_used, with_use, closed, read_from, ◌>>=◌, Going, word_read, long_read, plain_read, operand_read}
use Rattle.cli_words.specs.Arguments.{Argument, two, one, operand, IsValueWord, Give, spelled_out}

nv_cons : (x : ℕ) (xs : Text) → (x == 61) ≡ false → name_and_value (x ∷ xs) ≡ (x ∷ (name_and_value xs).0, (name_and_value xs).1)
nv_cons x xs e =
    let k = prefix_len (λ (y : ℕ). not (y == 61)) xs in
    let more : 1 + k + 1 ≡ suc (k + 1) = omega arith in
    let one_more : 1 + k ≡ suc k = omega arith in
    rw (e, more, one_more) refl

-- a name without `=` is read as it stands
pub nv_name : (name : Text) → has_byte 61 name ≡ false → name_and_value name ≡ (name, None)
nv_name [] none = refl
nv_name (x ∷ xs) none = go (x == 61) refl (nv_name xs)
  where
    go : (b : Bool) → (x == 61) ≡ b → (has_byte 61 xs ≡ false → name_and_value xs ≡ (xs, None)) → name_and_value (x ∷ xs) ≡ (x ∷ xs, None)
    go true e rest = let hit : has_byte 61 (x ∷ xs) ≡ true = rw e refl in absurd (true≢false (sym hit ∙ none))
    go false e rest = nv_cons x xs e ∙ ap (λ (p : Text × Option Text). (x ∷ p.0, p.1)) (rest (rw e at none))

pub nv_joined : (name text : Text) → has_byte 61 name ≡ false → name_and_value (name ++ 61 ∷ text) ≡ (name, Some text)
nv_joined [] text none = refl
nv_joined (x ∷ xs) text none = go (x == 61) refl (nv_joined xs text)
  where
    go : (b : Bool) → (x == 61) ≡ b → (has_byte 61 xs ≡ false → name_and_value (xs ++ 61 ∷ text) ≡ (xs, Some text)) → name_and_value (x ∷ xs ++ 61 ∷ text) ≡ (x ∷ xs, Some text)
    go true e rest = let hit : has_byte 61 (x ∷ xs) ≡ true = rw e refl in absurd (true≢false (sym hit ∙ none))
    go false e rest = nv_cons x (xs ++ 61 ∷ text) e ∙ ap (λ (p : Text × Option Text). (x ∷ p.0, p.1)) (rest (rw e at none))

abbrev pub IsOptionName : Text → Type 0
IsOptionName name = (0 < length name) × (has_byte 61 name ≡ false)

long_name : (name : Text) → IsOptionName name → long_of (45 ∷ 45 ∷ name) ≡ Some (name, None)
long_name [] h = absurd (omega arith)
long_name (x ∷ xs) h = ap (λ (p : Text × Option Text). Some p) (nv_name (x ∷ xs) h.1)

long_joined : (name text : Text) → IsOptionName name → long_of (45 ∷ 45 ∷ (name ++ 61 ∷ text)) ≡ Some (name, Some text)
long_joined [] text h = absurd (omega arith)
long_joined (x ∷ xs) text h = ap (λ (p : Text × Option Text). Some p) (nv_joined (x ∷ xs) text h.1)

abbrev spelling : Text × Option Text → Text
spelling (n, None) = n
spelling (n, Some v) = n ++ 61 ∷ v

spelling_cons : (x : ℕ) (p : Text × Option Text) → spelling (x ∷ p.0, p.1) ≡ x ∷ spelling p
spelling_cons x (n, None) = refl
spelling_cons x (n, Some v) = refl

nv_back : (text : Text) → text ≡ spelling (name_and_value text)
nv_back [] = refl
nv_back (x ∷ xs) = go (x == 61) refl (nv_back xs)
  where
    go : (b : Bool) → (x == 61) ≡ b → xs ≡ spelling (name_and_value xs) → x ∷ xs ≡ spelling (name_and_value (x ∷ xs))
    go true e rest = let at : x ≡ 61 = grind arith in subst (λ (y : ℕ). y ∷ xs ≡ spelling (name_and_value (y ∷ xs))) (sym at) refl
    go false e rest = ap (λ (t : Text). x ∷ t) rest ∙ sym (spelling_cons x (name_and_value xs)) ∙ ap spelling (sym (nv_cons x xs e))

none_some : {X : Type 0} (x : X) → None ≡ Some x → ⊥
none_some x e = true≢false (sym (ap is_some e))

long_back : (word : Text) (p : Text × Option Text) → long_of word ≡ Some p → word ≡ 45 ∷ 45 ∷ spelling p
long_back [] p e = absurd (none_some p e)
long_back (x ∷ xs) p e = go (x == 45) refl e
  where
    after : (ys : Text) → x ≡ 45 → option_and_then long_of_rest (strip_byte 45 ys) ≡ Some p → x ∷ ys ≡ 45 ∷ 45 ∷ spelling p
    after [] at f = absurd (none_some p f)
    after (y ∷ ys) at f = second (y == 45) refl f
      where
        rest : (zs : Text) → y ≡ 45 → long_of_rest zs ≡ Some p → x ∷ y ∷ zs ≡ 45 ∷ 45 ∷ spelling p
        rest [] too g = absurd (none_some p g)
        rest (z ∷ zs) too g =
            let read : name_and_value (z ∷ zs) ≡ p = ap (λ o. unwrap_or o (name_and_value (z ∷ zs))) g in
            rw (at, too) (ap (λ (t : Text). 45 ∷ 45 ∷ t) (nv_back (z ∷ zs) ∙ ap spelling read))

        second : (b : Bool) → (y == 45) ≡ b → option_and_then long_of_rest (if b then Some ys else None) ≡ Some p → x ∷ y ∷ ys ≡ 45 ∷ 45 ∷ spelling p
        second true h g = rest ys (grind arith) g
        second false h g = absurd (none_some p g)

    go : (b : Bool) → (x == 45) ≡ b → option_and_then long_of_rest (option_and_then (strip_byte 45) (if b then Some xs else None)) ≡ Some p → x ∷ xs ≡ 45 ∷ 45 ∷ spelling p
    go true h f = after xs (grind arith) f
    go false h f = absurd (none_some p f)

module _ (options operands : List Text) (names : (n : Text) → is_among options n ≡ true → IsOptionName n) where
  abbrev read : List Text → Going
  read = read_from options operands

  -- what the items say is read
  pub complete : (items : List Argument) (uses u all : List Use) (last : Last) (at : ℕ) → closed uses last ≡ Some u → Give options operands u at items all
      → read (spelled_out items) uses last at ≡ Some all
  unfolding read_from
  complete [] uses u all last at c made = c ∙ ap (λ l. Some l) (sym made)
  complete (two n v ∷ items) uses u all last at c made =
      let next = complete items u (u ++ (n, v) ∷ []) all (whole n v) at (rw made.2 refl) made.3 in
      rw (long_name n (names n made.0), made.0, c, made.1.0, made.1.1) next
  complete (one n v ∷ items) uses u all last at c made =
      let next = complete items (u ++ (n, v) ∷ []) (u ++ (n, v) ∷ []) all nothing at refl made.2 in
      rw (long_joined n v (names n made.0), made.0, c, made.1) next
  complete (operand v ∷ items) uses u all nothing at c made =
      let next = complete items u (u ++ (made.1.0, v) ∷ []) all (whole made.1.0 v) (at + 1) (rw made.1.2 refl) made.1.3 in
      let same : uses ≡ u = ap (λ o. unwrap_or o uses) c in
      rw (made.0.0, made.0.1, made.1.1, same) next
  complete (operand v ∷ items) uses u all (whole n t) at c made =
      let next = complete items u (u ++ (made.1.0, v) ∷ []) all (whole made.1.0 v) (at + 1) (rw made.1.2 refl) made.1.3 in
      rw (made.0.0, made.0.1, made.1.1, c) next
  complete (operand v ∷ items) uses u all (begun n) at c made = absurd (true≢false (sym (ap is_some c)))

  abbrev IsSpelled : List Text → List Use → Last → ℕ → List Use → Type 0
  IsSpelled words uses nothing at all = (items : List Argument) × (words ≡ spelled_out items) × Give options operands uses at items all
  IsSpelled words uses (whole n t) at all = (is_used uses n ≡ false) × ((items : List Argument) × (words ≡ spelled_out items) × Give options operands (uses ++ (n, t) ∷ []) at items all)
  IsSpelled words uses (begun n) at all = (v : Text) × (is_used uses n ≡ false) × IsValueWord v
      × ((items : List Argument) × (words ≡ v ∷ spelled_out items) × Give options operands (uses ++ (n, v) ∷ []) at items all)

  no_answer : {X : Type 0} (x : X) → None ≡ Some x → ⊥
  no_answer x e = true≢false (sym (ap is_some e))

  -- the words from a closed state on, given what they say from it with no use pending
  closing : (words : List Text) (uses : List Use) (last : Last) (at : ℕ) (all : List Use) → ((u : List Use) → closed uses last ≡ Some u → IsSpelled words u nothing at all)
      → ((u : List Use) × (closed uses last ≡ Some u)) → IsSpelled words uses last at all
  closing words uses nothing at all f c = f uses refl
  closing words uses (whole n t) at all f c = go (is_used uses n) refl f c.1
    where
      go : (b : Bool) → is_used uses n ≡ b → ((u : List Use) → (if b then None else Some (uses ++ (n, t) ∷ [])) ≡ Some u → IsSpelled words u nothing at all)
          → (if b then None else Some (uses ++ (n, t) ∷ [])) ≡ Some c.0
          → (is_used uses n ≡ false) × ((items : List Argument) × (words ≡ spelled_out items) × Give options operands (uses ++ (n, t) ∷ []) at items all)
      go true e g d = absurd (no_answer c.0 d)
      go false e g d = (e, g (uses ++ (n, t) ∷ []) refl)
  closing words uses (begun n) at all f c = absurd (no_answer c.0 c.1)

  bind_some : {A B : Type 0} (o : Option A) (f : A → Option B) (b : B) → (o >>= f) ≡ Some b → (a : A) × (o ≡ Some a)
  bind_some None f b e = absurd (none_some b e)
  bind_some (Some a) f b e = (a, refl)

  abbrev Says : List Text → List Use → Type 0
  Says words all = (u : List Use) (l : Last) (p : ℕ) → read words u l p ≡ Some all → IsSpelled words u l p all

  two_items : (word : Text) (words : List Text) (all : List Use) → Says words all → (n : Text) (at : ℕ) → long_of word ≡ Some (n, None) → is_among options n ≡ true
      → (u : List Use) → read words u (begun n) at ≡ Some all → IsSpelled (word ∷ words) u nothing at all
  two_items word words all rec n at is among u e =
      let r = rec u (begun n) at e in
      (two n r.0 ∷ r.3.0, ap₂ (λ (w : Text) (ws : List Text). w ∷ ws) (long_back word (n, None) is) r.3.1, (among, r.2, r.1, r.3.2))

  one_items : (word : Text) (words : List Text) (all : List Use) → Says words all → (n v : Text) (at : ℕ) → long_of word ≡ Some (n, Some v) → is_among options n ≡ true
      → (u : List Use) (b : Bool) → is_used u n ≡ b → ((if b then None else Some (u ++ (n, v) ∷ [])) >>= λ w. read words w nothing at) ≡ Some all → IsSpelled (word ∷ words) u nothing at all
  one_items word words all rec n v at is among u true used e = absurd (none_some all e)
  one_items word words all rec n v at is among u false used e =
      let r = rec (u ++ (n, v) ∷ []) nothing at e in
      (one n v ∷ r.0, ap₂ (λ (w : Text) (ws : List Text). w ∷ ws) (long_back word (n, Some v) is) r.1, (among, used, r.2))

  place_items : (word : Text) (words : List Text) (all : List Use) → Says words all → (n : Text) (at : ℕ) → IsValueWord word → slice_get operands at ≡ Some n
      → (u : List Use) → read words u (whole n word) (at + 1) ≡ Some all → IsSpelled (word ∷ words) u nothing at all
  place_items word words all rec n at plain here u e =
      let r = rec u (whole n word) (at + 1) e in
      (operand word ∷ r.1.0, ap (λ (ws : List Text). word ∷ ws) r.1.1, (plain, (n, here, r.0, r.1.2)))

  on_place : (word : Text) (words : List Text) (all : List Use) → Says words all → (uses : List Use) (last : Last) (at : ℕ) → IsValueWord word → (o : Option Text) → slice_get operands at ≡ o
      → operand_read options operands uses last at word (read words) o ≡ Some all → IsSpelled (word ∷ words) uses last at all
  on_place word words all rec uses last at plain None here e = absurd (none_some all e)
  on_place word words all rec uses last at plain (Some n) here e =
      closing (word ∷ words) uses last at all (λ u c. place_items word words all rec n at plain here u (rw c at e)) (bind_some (closed uses last) (λ u. read words u (whole n word) (at + 1)) all e)

  on_plain : (word : Text) (words : List Text) (all : List Use) → Says words all → (uses : List Use) (last : Last) (at : ℕ) → IsValueWord word
      → plain_read options operands uses last at word (read words) ≡ Some all → IsSpelled (word ∷ words) uses last at all
  on_plain word words all rec uses nothing at plain e = on_place word words all rec uses nothing at plain _ refl e
  on_plain word words all rec uses (whole n t) at plain e = on_place word words all rec uses (whole n t) at plain _ refl e
  on_plain word words all rec uses (begun m) at plain e =
      let r = rec uses (whole m word) at e in
      (word, r.0, plain, (r.1.0, ap (λ (ws : List Text). word ∷ ws) r.1.1, r.1.2))

  on_word : (word : Text) (words : List Text) (all : List Use) → Says words all → (uses : List Use) (last : Last) (at : ℕ) → (o : Option (Text × Option Text)) → long_of word ≡ o
      → word_read options operands uses last at word (read words) o ≡ Some all → IsSpelled (word ∷ words) uses last at all
  on_word word words all rec uses last at None is e = go (is_short word) refl e
    where
      go : (b : Bool) → is_short word ≡ b → (if b then None else plain_read options operands uses last at word (read words)) ≡ Some all → IsSpelled (word ∷ words) uses last at all
      go true s f = absurd (none_some all f)
      go false s f = on_plain word words all rec uses last at (is, s) f
  on_word word words all rec uses last at (Some (n, None)) is e = go (is_among options n) refl e
    where
      go : (b : Bool) → is_among options n ≡ b → (if b then long_read options operands uses last at n None (read words) else None) ≡ Some all → IsSpelled (word ∷ words) uses last at all
      go false m f = absurd (none_some all f)
      go true m f = closing (word ∷ words) uses last at all (λ u c. two_items word words all rec n at is m u (rw c at f)) (bind_some (closed uses last) (λ u. read words u (begun n) at) all f)
  on_word word words all rec uses last at (Some (n, Some v)) is e = go (is_among options n) refl e
    where
      go : (b : Bool) → is_among options n ≡ b → (if b then long_read options operands uses last at n (Some v) (read words) else None) ≡ Some all → IsSpelled (word ∷ words) uses last at all
      go false m f = absurd (none_some all f)
      go true m f = closing (word ∷ words) uses last at all (λ u c. one_items word words all rec n v at is m u (is_used u n) refl (rw c at f))
          (bind_some (closed uses last) (λ u. with_use u n v >>= λ w. read words w nothing at) all f)

  pub sound : (words : List Text) (uses : List Use) (last : Last) (at : ℕ) (all : List Use) → read words uses last at ≡ Some all → IsSpelled words uses last at all
  unfolding read_from
  sound [] uses nothing at all e = ([], refl, sym (ap (λ o. unwrap_or o uses) e))
  sound [] uses (whole n t) at all e = closing [] uses (whole n t) at all (λ u c. ([], refl, sym (ap (λ o. unwrap_or o u) (sym c ∙ e)))) (all, e)
  sound [] uses (begun n) at all e = absurd (none_some all e)
  sound (word ∷ words) uses last at all e = on_word word words all (λ u l p f. sound words u l p all f) uses last at (long_of word) refl e

-- names that are written out are option names
abbrev pub AreNames : List Text → Type 0
AreNames [] = Unit {0}
AreNames (o ∷ os) = IsOptionName o × AreNames os

pub each_name : (options : List Text) → AreNames options → (n : Text) → is_among options n ≡ true → IsOptionName n
each_name [] h n among = absurd (true≢false (sym among))
each_name (o ∷ os) h n among = go (bytes_eq o n) refl (each_name os h.1 n)
  where
    go : (b : Bool) → bytes_eq o n ≡ b → (is_among os n ≡ true → IsOptionName n) → IsOptionName n
    go true e rest = subst IsOptionName ((bytes_eq-Decides o n).0 e) h.0
    go false e rest = rest (rw e at among)
