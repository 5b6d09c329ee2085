-- The names of sessions have their form, and each line's session is among them.
use Rattle.std.proofs.Common.{◌≡◌, ℕ, Bool, true, false, List, [], ◌∷◌, map, refl, sym, subst, Bor, true≢false}
use Rattle.std.specs.List.{list_any, All}
use Rattle.std.specs.Str.{bytes_eq}
use Rattle.std.proofs.lemmas.Slice.Eq.{bytes_eq-Decides}
use Rattle.base_types.specs.SessionName.{is_session_name}
use Rattle.spec_history.specs.Lists.{Each}
use Rattle.spec_history.proofs.Trace.{each_weaker}
use Rattle.format_lines.specs.Line.{Statement, seen}
use Rattle.format_lines.specs.Sessions.{sessions_of}
use Rattle.format_lines.specs.declared.line.Line.{Line}
use Rattle.server_result.proofs.Each.{each_from_all, all_from_each}

-- what is so of what each shows is so of the shown
each_shown : {A B : Type 0} (f : A → B) (P : B → Type 0) (xs : List A) → Each (λ x. P (f x)) xs → Each P (map f xs)
each_shown f P [] e = tt
each_shown f P (x ∷ xs) e = (e.0, each_shown f P xs e.1)

each_behind : {A B : Type 0} (f : A → B) (P : B → Type 0) (xs : List A) → Each P (map f xs) → Each (λ x. P (f x)) xs
each_behind f P [] e = tt
each_behind f P (x ∷ xs) e = (e.0, each_behind f P xs e.1)

-- ---- forms

abbrev IsNamed : List ℕ → Type 0
IsNamed name = is_session_name name ≡ true

any_behind : (s : Statement) (ss : List Statement) (name : List ℕ) → bytes_eq name s.session ≡ false → list_any (λ t. bytes_eq name t.session) (s ∷ ss) ≡ true → list_any (λ t. bytes_eq name t.session) ss ≡ true
any_behind s ss name other any = rw other at any

formed_by : (ss : List Statement) → Each (λ s. IsNamed s.session) ss → (name : List ℕ) → list_any (λ s. bytes_eq name s.session) ss ≡ true → IsNamed name
formed_by [] e name any = absurd (true≢false (sym any))
formed_by (s ∷ ss) e name any = go (bytes_eq name s.session) refl (formed_by ss e.1 name)
  where
    go : (b : Bool) → bytes_eq name s.session ≡ b → (list_any (λ t. bytes_eq name t.session) ss ≡ true → IsNamed name) → IsNamed name
    go true same rest = subst IsNamed (sym ((bytes_eq-Decides name s.session).0 same)) e.0
    go false other rest = rest (any_behind s ss name other any)

pub sessions_formed : (lines : List Line) → All (λ l. is_session_name l.session.now ≡ true) lines
    → All (λ name. list_any (λ s. bytes_eq name s.session) (map seen lines) ≡ true) (sessions_of (map seen lines))
    → Each (λ name. is_session_name name ≡ true) (sessions_of (map seen lines))
sessions_formed lines formed of_lines =
    let ss = map seen lines in
    let each : Each (λ s. IsNamed s.session) ss = each_shown seen (λ s. IsNamed s.session) lines (each_from_all (λ l. is_session_name l.session.now ≡ true) lines formed) in
    each_weaker (λ name. list_any (λ s. bytes_eq name s.session) ss ≡ true) IsNamed (formed_by ss each) (sessions_of ss)
    (each_from_all (λ name. list_any (λ s. bytes_eq name s.session) ss ≡ true) (sessions_of ss) of_lines)

pub borrowed_formed : (sessions : List (Bor (List ℕ))) (names : List (List ℕ)) → map (λ n. n.now) sessions ≡ names → Each (λ name. is_session_name name ≡ true) names
    → All (λ n. is_session_name n.now ≡ true) sessions
borrowed_formed sessions names same e =
    all_from_each (λ n. is_session_name n.now ≡ true) sessions
    (each_behind (λ (n : Bor (List ℕ)). n.now) IsNamed sessions (subst (Each IsNamed) (sym same) e))

-- ---- each line's session

pub lines_named : (lines : List Line) (names : List (List ℕ)) → names ≡ sessions_of (map seen lines) → All (λ s. list_any (bytes_eq s.session) (sessions_of (map seen lines)) ≡ true) (map seen lines)
    → All (λ l. list_any (bytes_eq l.session.now) names ≡ true) lines
lines_named lines names same named =
    all_from_each (λ l. list_any (bytes_eq l.session.now) names ≡ true) lines
    (each_behind seen (λ s. list_any (bytes_eq s.session) names ≡ true) lines
    (subst (λ (ns : List (List ℕ)). Each (λ s. list_any (bytes_eq s.session) ns ≡ true) (map seen lines)) (sym same)
    (each_from_all (λ s. list_any (bytes_eq s.session) (sessions_of (map seen lines)) ≡ true) (map seen lines) named)))
