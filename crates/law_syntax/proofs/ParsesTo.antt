-- A rule that is a sequence of parts reads what its parts read.
use Rattle.std.proofs.Common.{◌≡◌, ◌∙◌, ℕ, zero, suc, ◌<◌, ◌≤◌, Bool, true, false, if◌then◌else◌, List, [], ◌∷◌, ◌++◌, length, Option, Some, None, refl, ap, sym, arith, append_assoc, length-append, ◌⊎◌, inl, inr}
use Rattle.spec_grammar.specs.Tokens.{Lexemes, IsName, OptionalPart, left_out, written, Listed, last, more, Enclosed, enclosed}
use Rattle.spec_syntax.specs.declared.tag.Tag.{Tag}
use Rattle.spec_syntax.specs.declared.tag.Tag.TheVariants as t
use Rattle.spec_syntax.specs.Tags.{same_tag}
use Rattle.spec_syntax.specs.Input.{Sym, Outcome, Parser, and_then, ◌>>=◌, ◌>>◌, pure, tag_at, next, sees, after, eat, expect, list, list_from, tokens_left}
use Rattle.spec_syntax.specs.Expr.{name}
use Rattle.law_printing.proofs.Repeats.{at_}
use Rattle.law_syntax.proofs.Terminals as w
use Rattle.law_syntax.proofs.Terminals.{Terminal}
use Rattle.law_syntax.proofs.ExprComplete.{syms, syms_join, One, one, name_token}

-- the value is given and these tokens are left, whatever is left of an expression
abbrev pub ParsesTo : {A : Type 0} → Outcome A → A → List Sym → Type 0
ParsesTo o x rest = (m : ℕ) × (o ≡ Some (x, at_ rest m))

pub then_parses : {A B : Type 0} (f : A → Parser B) {o : Outcome A} {x : A} {y : B} {rest end : List Sym} → ParsesTo o x rest → ((m : ℕ) → ParsesTo (f x (at_ rest m)) y end) → ParsesTo (and_then o f) y end
then_parses f k h =
    let more_ = h k.0 in
    (more_.0, ap (λ q. and_then q f) k.1 ∙ more_.1)

-- tokens in a row, before others
pub flow : (a b : Lexemes) (rest : List Sym) → syms (a ++ b) ++ rest ≡ syms a ++ (syms b ++ rest)
flow a b rest = ap (λ z. z ++ rest) (syms_join a b) ∙ append_assoc (syms a) (syms b) rest

-- the same at other tokens
pub give_at : {A : Type 0} (p : Parser A) {xs ys : List Sym} {x : A} {rest : List Sym} (n : ℕ) → xs ≡ ys → ParsesTo (p (at_ ys n)) x rest → ParsesTo (p (at_ xs n)) x rest
give_at p n same k = (k.0, ap (λ z. p (at_ z n)) same ∙ k.1)

-- the first part of a row, and then the others
pub go : {A B : Type 0} (p : Parser A) (f : A → Parser B) (a b : Lexemes) (rest end : List Sym) (n : ℕ) {x : A} {y : B} → ParsesTo (p (at_ (syms a ++ (syms b ++ rest)) n)) x (syms b ++ rest) → ((m : ℕ) → ParsesTo (f x (at_ (syms b ++ rest) m)) y end)
    → ParsesTo (and_then (p (at_ (syms (a ++ b) ++ rest) n)) f) y end
go p f a b rest end n first more_ = then_parses f (give_at p n (flow a b rest) first) more_

pub pure_parses : {A : Type 0} (x : A) (rest : List Sym) (n : ℕ) → ParsesTo (pure x (at_ rest n)) x rest
pure_parses x rest n = (n, refl)

-- ---- words and signs

pub same_self : (g : Tag) → same_tag g g ≡ true
unfolding same_tag
same_self t.End = refl
same_self _ = refl

-- what is taken where the token comes
pub expects_parses : {g : Tag} {a : Lexemes} → One g a → (rest : List Sym) (n : ℕ) → ParsesTo (expect g (at_ (syms a ++ rest) n)) tt rest
unfolding expect sees next
expects_parses {g} k rest n = (n, ap (λ z. expect g (at_ (z ++ rest) n)) k.is ∙ rw (same_self g) refl)

pub sees_one : {g : Tag} {a : Lexemes} → One g a → (rest : List Sym) (n : ℕ) → sees g (at_ (syms a ++ rest) n) ≡ true
unfolding sees
sees_one {g} k rest n = ap (λ z. sees g (at_ (z ++ rest) n)) k.is ∙ same_self g

pub after_one : {g : Tag} {a : Lexemes} → One g a → (rest : List Sym) (n : ℕ) → after g (at_ (syms a ++ rest) n) ≡ at_ rest n
unfolding after sees next
after_one {g} k rest n = ap (λ z. after g (at_ (z ++ rest) n)) k.is ∙ rw (same_self g) refl

pub unseen : (g : Tag) (rest : List Sym) (n : ℕ) → same_tag (tag_at rest) g ≡ false → sees g (at_ rest n) ≡ false
unfolding sees
unseen g [] n h = refl
unseen g (s ∷ rest) n h = h

-- the token is taken
pub next_at : (g : Tag) (v : List ℕ) (rest : List Sym) (n : ℕ) → next (at_ ((g, v) ∷ rest) n) ≡ at_ rest n
unfolding next
next_at g v rest n = refl

-- one way where the token comes
pub either_one : {A : Type 0} {g : Tag} {a : Lexemes} (p q : Parser A) (x : A) (rest end : List Sym) (n : ℕ) → One g a → ParsesTo (p (at_ rest n)) x end → ParsesTo ((eat g >>= (λ b. if b then p else q)) (at_ (syms a ++ rest) n)) x end
either_one {g = g} {a = a} p q x rest end n k h =
    (h.0, rw (sees_one k rest n, after_one k rest n) h.1)

-- the other way where another comes
pub either_none : {A : Type 0} (g : Tag) (p q : Parser A) (x : A) (rest end : List Sym) (n : ℕ) → same_tag (tag_at rest) g ≡ false → ParsesTo (q (at_ rest n)) x end → ParsesTo ((eat g >>= (λ b. if b then p else q)) (at_ rest n)) x end
unfolding after
either_none g p q x rest end n other h = (h.0, rw (unseen g rest n other) h.1)

-- a part that may be left out, of which nothing is kept
pub skips : {A : Type 0} (g : Tag) {part : Lexemes → Type 0} (is : Terminal g part) (p : Parser A) (x : A) {a : Lexemes} (rest end : List Sym) (n : ℕ) → OptionalPart part a → same_tag (tag_at rest) g ≡ false → ParsesTo (p (at_ rest n)) x end
    → ParsesTo ((eat g >> p) (at_ (syms a ++ rest) n)) x end
unfolding after
skips g is p x rest end n left_out other h = (h.0, rw (unseen g rest n other) h.1)
skips g is p x rest end n (written {a = a} k) other h = (h.0, ap p (after_one (one is a k) rest n) ∙ h.1)

-- ---- names

pub name_parses : {a : Lexemes} {m : List ℕ} → IsName a m → (rest : List Sym) (n : ℕ) → ParsesTo (name (at_ (syms a ++ rest) n)) m rest
name_parses is rest n =
    let k = name_token is in
    (n, ap (λ z. name (at_ (z ++ rest) n)) k.whole ∙ k.reads rest n)

name_tag : (g : Tag) → same_tag t.Word g ≡ false → same_tag t.Bracketed g ≡ false → (h : Tag) → (h ≡ t.Word) ⊎ (h ≡ t.Bracketed) → same_tag h g ≡ false
name_tag g word_ bracketed_ h (inl is) = ap (λ z. same_tag z g) is ∙ word_
name_tag g word_ bracketed_ h (inr is) = ap (λ z. same_tag z g) is ∙ bracketed_

-- a name begins with no word and no sign of the grammar
pub name_other : {a : Lexemes} {m : List ℕ} (g : Tag) → same_tag t.Word g ≡ false → same_tag t.Bracketed g ≡ false → IsName a m → (rest : List Sym) → same_tag (tag_at (syms a ++ rest)) g ≡ false
name_other g word_ bracketed_ is rest =
    let k = name_token is in
    ap (λ z. same_tag (tag_at (z ++ rest)) g) k.whole ∙ name_tag g word_ bracketed_ k.tag_ k.names

pub one_other : {g : Tag} {a : Lexemes} (h : Tag) → same_tag g h ≡ false → One g a → (rest : List Sym) → same_tag (tag_at (syms a ++ rest)) h ≡ false
one_other h other k rest = ap (λ z. same_tag (tag_at (z ++ rest)) h) k.is ∙ other

pub one_tag : {g : Tag} {a : Lexemes} → One g a → (rest : List Sym) → tag_at (syms a ++ rest) ≡ g
one_tag k rest = ap (λ z. tag_at (z ++ rest)) k.is

-- ---- parentheses

-- '(' part ')', behind which the value is made
pub closes : {A B : Type 0} (p : Parser A) (f : A → B) (b c : Lexemes) (x : A) (rest : List Sym) (n : ℕ) → ParsesTo (p (at_ (syms b ++ (syms c ++ rest)) n)) x (syms c ++ rest) → One t.Close c
    → ParsesTo (and_then (p (at_ (syms (b ++ c) ++ rest) n)) (λ y. expect t.Close >> pure (f y))) (f x) rest
closes p f b c x rest n inner close = go p (λ y. expect t.Close >> pure (f y)) b c rest rest n inner (λ m. then_parses (λ _. pure (f x)) (expects_parses close rest m) (λ k. pure_parses (f x) rest k))

pub enclosed_parses : {A : Type 0} (p : Parser A) (rule : Lexemes → A → Type 0) (x : A)
    → ((b c : Lexemes) → rule b x → One t.Close c → (rest : List Sym) (n : ℕ) → ParsesTo (p (at_ (syms b ++ (syms c ++ rest)) n)) x (syms c ++ rest))
    → {a : Lexemes} → Enclosed rule a x → (rest : List Sym) (n : ℕ) → ParsesTo ((expect t.Open >> (p >>= (λ y. expect t.Close >> pure y))) (at_ (syms a ++ rest) n)) x rest
enclosed_parses p rule x reads (enclosed {a = a} {b = b} {c = c} open_ is close_) rest n =
    let close = one w.close_ c close_ in
    go (expect t.Open) (λ _. p >>= (λ y. expect t.Close >> pure y)) a (b ++ c) rest rest n (expects_parses (one w.open_ a open_) (syms (b ++ c) ++ rest) n)
    (λ m. closes p (λ y. y) b c x rest m (reads b c is close rest m) close)

-- ---- one or more, with commas between

clash : {A B : Type 0} {a : A} → ◌≡◌ {A = Option A} None (Some a) → B
clash h = absurd (cc)

pub not_empty : {A : Type 0} (p : Parser A) (x : A) (a : Lexemes) → ((n : ℕ) → p (at_ [] n) ≡ None) → ParsesTo (p (at_ (syms a ++ []) 0)) x [] → 0 < length (syms a)
not_empty p x [] none k = absurd (clash (sym (none 0) ∙ k.1))
not_empty p x (s ∷ a) none k = omega arith

-- an item is read where such a tag follows
abbrev pub ReadsIf : {A : Type 0} → (Tag → Bool) → Parser A → (Lexemes → A → Type 0) → Type 0
ReadsIf {A} ok p rule = (a : Lexemes) (x : A) → rule a x → (rest : List Sym) (n : ℕ) → ok (tag_at rest) ≡ true → ParsesTo (p (at_ (syms a ++ rest) n)) x rest

module _ {A : Type 0} (ok : Tag → Bool) (item : Parser A) (rule : Lexemes → A → Type 0) (reads : ReadsIf ok item rule) (comma : ok t.Comma ≡ true) (end_ : ok t.End ≡ true) (none : (n : ℕ) → item (at_ [] n) ≡ None) where
  takes : (a : Lexemes) (x : A) → rule a x → 0 < length (syms a)
  takes a x is = not_empty item x a none (reads a x is [] 0 end_)

  from_gives : (a : Lexemes) (all : List A) → Listed rule a all → (rest : List Sym) (n m : ℕ) (found : List A) → length (syms a) ≤ m → ok (tag_at rest) ≡ true → same_tag (tag_at rest) t.Comma ≡ false
      → ParsesTo (list_from item m found (at_ (syms a ++ rest) n)) (found ++ all) rest
  unfolding list_from
  from_gives a _ (last {x = x} is) rest n zero found enough fits other = absurd (omega (arith, takes a x is))
  from_gives a _ (last {x = x} is) rest n (suc m) found enough fits other =
      then_parses (λ y. eat t.Comma >>= (λ b. if b then list_from item m (found ++ y ∷ []) else pure (found ++ y ∷ []))) (reads a x is rest n fits)
      (λ k. either_none t.Comma (list_from item m (found ++ x ∷ [])) (pure (found ++ x ∷ [])) (found ++ x ∷ []) rest rest k other (pure_parses (found ++ x ∷ []) rest k))
  from_gives _ _ (more {a = a} {b = b} {c = c} {x = x} {xs = xs} is comma_ others) rest n zero found enough fits other =
      absurd (omega (arith, takes a x is, length-append (syms a) (syms (b ++ c)), ap (λ z. length z) (syms_join a (b ++ c))))
  from_gives _ _ (more {a = a} {b = b} {c = c} {x = x} {xs = xs} is comma_ others) rest n (suc m) found enough fits other =
      let sign_ = one w.comma_ b comma_ in
      let small : length (syms c) ≤ m = omega (arith, takes a x is, enough, length-append (syms a) (syms (b ++ c)), ap (λ z. length z) (syms_join a (b ++ c)), length-append (syms b) (syms c), ap (λ z. length z) (syms_join b c)) in
      let fits_ : ok (tag_at (syms (b ++ c) ++ rest)) ≡ true = ap (λ z. ok (tag_at z)) (flow b c rest) ∙ ap ok (one_tag sign_ (syms c ++ rest)) ∙ comma in
      let tail = from_gives c xs others rest in
      let k = go item (λ y. eat t.Comma >>= (λ b. if b then list_from item m (found ++ y ∷ []) else pure (found ++ y ∷ []))) a (b ++ c) rest rest n (reads a x is (syms (b ++ c) ++ rest) n fits_)
      (λ z. give_at (eat t.Comma >>= (λ b. if b then list_from item m (found ++ x ∷ []) else pure (found ++ x ∷ []))) z (flow b c rest)
      (either_one (list_from item m (found ++ x ∷ [])) (pure (found ++ x ∷ [])) ((found ++ x ∷ []) ++ xs) (syms c ++ rest) rest z sign_ (tail z m (found ++ x ∷ []) small fits other))) in
      (k.0, k.1 ∙ ap (λ z. Some (z, at_ rest k.0)) (append_assoc found (x ∷ []) xs))

  pub list_parses : (a : Lexemes) (all : List A) → Listed rule a all → (rest : List Sym) (n : ℕ) → ok (tag_at rest) ≡ true → same_tag (tag_at rest) t.Comma ≡ false → ParsesTo (list item (at_ (syms a ++ rest) n)) all rest
  unfolding list tokens_left
  list_parses a all is rest n fits other = from_gives a all is rest n (length (syms a ++ rest)) [] (omega (arith, length-append (syms a) rest)) fits other
