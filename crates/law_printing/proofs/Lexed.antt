-- Which tokens the text of printed tokens has.
use Rattle.std.proofs.Common.{◌≡◌, ℕ, Bool, true, false, cond, List, [], ◌∷◌, ◌++◌, Some, refl, ap, subst, ◌∙◌, sym, append_assoc, append-nil}
use Rattle.spec_syntax.specs.declared.tag.Tag.{Tag}
use Rattle.spec_syntax.specs.Input.{Sym}
use Rattle.spec_syntax.specs.Page.{Page, blank, opens, touches, begin, append, put, write, no_page, spelled}
use Rattle.law_printing.proofs.Cut.{cut, prepend}

-- what may stand behind a token
pub data Stop : List ℕ → Type 0 where
  at_end : Stop []
  at_blank : (z : List ℕ) → Stop (32 ∷ z)
  at_close : (z : List ℕ) → Stop (41 ∷ z)
  at_comma : (z : List ℕ) → Stop (44 ∷ z)

pub by_stop : (P : List ℕ → Type 0) → P [] → ((z : List ℕ) → P (32 ∷ z)) → ((z : List ℕ) → P (41 ∷ z)) → ((z : List ℕ) → P (44 ∷ z)) → {rest : List ℕ} → Stop rest → P rest
by_stop P end blank_ close comma at_end = end
by_stop P end blank_ close comma (at_blank z) = blank_ z
by_stop P end blank_ close comma (at_close z) = close z
by_stop P end blank_ close comma (at_comma z) = comma z

abbrev pub After : Bool → List ℕ → Type 0
After true rest = Unit {0}
After false rest = Stop rest

-- the printed token is read as these
pub record One (s : Sym) (us : List Sym) : Type 0 where
  pub lexes : (rest : List ℕ) → After (opens s.0) rest → cut 0 (s.1 ++ rest) ≡ prepend us (cut 0 rest)
  pub touching : touches s.0 ≡ true → (rest : List ℕ) → Stop (s.1 ++ rest)

-- the printed tokens are read as those
pub data Lexed : List Sym → List Sym → Type 0 where
  none : Lexed [] []
  more : {s : Sym} {us ss ts : List Sym} → One s us → Lexed ss ts → Lexed (s ∷ ss) (us ++ ts)

pub joined : {a b c d : List Sym} → Lexed a b → Lexed c d → Lexed (a ++ c) (b ++ d)
joined {a = []} {b = []} none k = k
joined {c = c} {d = d} (more {s = s} {us = us} {ss = ss} {ts = ts} one rest) k =
    subst (Lexed (s ∷ (ss ++ c))) (sym (append_assoc us ts d)) (more one (joined rest k))

-- what is written behind a page
abbrev spell : Bool → List Sym → List ℕ
spell o [] = []
spell o (s ∷ ss) = blank o s.0 ++ (s.1 ++ spell (opens s.0) ss)

written : (p : Page) (ss : List Sym) → (write p ss).text ≡ p.text ++ spell p.opened ss
unfolding begin append
written p [] = sym (append-nil p.text)
written p (s ∷ ss) =
    written (put p s) ss ∙ append_assoc (p.text ++ blank p.opened s.0) s.1 (spell (opens s.0) ss) ∙ append_assoc p.text (blank p.opened s.0) (s.1 ++ spell (opens s.0) ss)

stop_at : (c : Bool) (w rest : List ℕ) → (c ≡ true → Stop (w ++ rest)) → Stop (cond c [] (32 ∷ []) ++ (w ++ rest))
stop_at true w rest h = h refl
stop_at false w rest h = at_blank (w ++ rest)

spell_stops : {ss ts : List Sym} → Lexed ss ts → Stop (spell false ss)
spell_stops {ss = []} none = at_end
spell_stops (more {s = s} {ss = ss} one rest) = stop_at (touches s.0) s.1 (spell (opens s.0) ss) (λ h. one.touching h (spell (opens s.0) ss))

after_opens : {ss ts : List Sym} (o : Bool) → Lexed ss ts → After o (spell o ss)
after_opens true k = tt
after_opens false k = spell_stops k

skips : (c : Bool) (z : List ℕ) → cut 0 (cond c [] (32 ∷ []) ++ z) ≡ cut 0 z
skips true z = refl
skips false z = refl

skips_blank : (o : Bool) (tag : Tag) (z : List ℕ) → cut 0 (blank o tag ++ z) ≡ cut 0 z
skips_blank true tag z = refl
skips_blank false tag z = skips (touches tag) z

reads : {ss ts : List Sym} → Lexed ss ts → (o : Bool) → cut 0 (spell o ss) ≡ Some ts
reads {ss = []} none o = refl
reads (more {s = s} {us = us} {ss = ss} {ts = ts} one rest) o =
    skips_blank o s.0 (s.1 ++ spell (opens s.0) ss) ∙ one.lexes (spell (opens s.0) ss) (after_opens (opens s.0) rest) ∙ ap (prepend us) (reads rest (opens s.0))

-- the tokens of their text
pub spelled_cut : {ss ts : List Sym} → Lexed ss ts → cut 0 (spelled ss) ≡ Some ts
unfolding spelled
spelled_cut {ss = ss} k = ap (cut 0) (written no_page ss) ∙ reads k true
