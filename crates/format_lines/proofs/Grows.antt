-- The sessions of more statements are more.
use Rattle.std.proofs.Common.{◌≡◌, ◌≤◌, ◌<◌, ℕ, suc, Bool, true, false, cond, List, [], ◌∷◌, ◌++◌, length, length-append, refl, ap, arith, map, drop, drop-cons, get_or, ◌||◌, Bor}
use Rattle.std.specs.List.{fold, list_any}
use Rattle.std.specs.Str.{bytes_eq}
use Rattle.format_lines.specs.Line.{Statement, seen}
use Rattle.format_lines.specs.declared.line.Line.{Line}
use Rattle.format_lines.specs.Sessions.{with_session, sessions_of}

added : (names : List (List ℕ)) (name : List ℕ) (t : Bool) → length names ≤ length (cond t names (names ++ name ∷ []))
added names name true = omega arith
added names name false = omega (arith, length-append names (name ∷ []))

pub sessions_grow : (names : List (List ℕ)) (statements : List Statement) → length names ≤ length (fold with_session names statements)
sessions_grow names [] = omega arith
sessions_grow names (s ∷ more) =
    let one = added names s.session (list_any (bytes_eq s.session) names) in
    let rest = sessions_grow (with_session names s) more in
    omega (arith, one, rest)

-- one more session than so many
pub one_more : (names : List (List ℕ)) (s : Statement) (more : List Statement) (most : ℕ) → list_any (bytes_eq s.session) names ≡ false → most ≤ length names
    → most < length (fold with_session names (s ∷ more))
one_more names s more most new full =
    let rest = sessions_grow (names ++ s.session ∷ []) more in
    let size = length-append names (s.session ∷ []) in
    rw new (omega (arith, rest, size))

list_any_map : {A B : Type 0} (p : B → Bool) (f : A → B) (z : List A) → list_any p (map f z) ≡ list_any (λ a. p (f a)) z
list_any_map p f [] = refl
list_any_map p f (a ∷ z) = ap (λ t. p (f a) || t) (list_any_map p f z)

-- a name is among the names of some texts
pub any_text : (name : List ℕ) (names : List (Bor (List ℕ))) → list_any (bytes_eq name) (map (λ n. n.now) names) ≡ list_any (λ n. bytes_eq name n.now) names
any_text name names = list_any_map (bytes_eq name) (λ n. n.now) names

-- one more session than so many, at a place of the lines
pub too_many : (lines : List Line) (i : ℕ) (d : Line) (names : List (List ℕ)) (most : ℕ) → i < length lines → list_any (bytes_eq (get_or lines i d).session.now) names ≡ false → most ≤ length names
    → sessions_of (map seen lines) ≡ fold with_session names (map seen (drop i lines)) → most < length (sessions_of (map seen lines))
too_many lines i d names most within new full is =
    let cut : drop i lines ≡ get_or lines i d ∷ drop (suc i) lines = drop-cons lines i d within in
    rw (is, cut) (one_more names (seen (get_or lines i d)) (map seen (drop (suc i) lines)) most new full)
