-- What a core was asked, and which of its sessions are open, after one thing more.
use Rattle.std.proofs.Common.{◌≡◌, ◌≢◌, ◌<◌, ◌≤◌, ◌+◌, ◌==◌, ℕ, Bool, true, false, List, [], ◌∷◌, ◌++◌, refl, sym, ap, subst, arith, Result, Ok, Err}
use Rattle.std.specs.Prelude.{◌⊎◌, OnOk}
use mathlib.Core.Option.{Option, some}
use lib.ListN.{get_elem?}
use Rattle.std.proofs.lemmas.Bool.Decides.{nat_tests}
use Rattle.std.proofs.lemmas.List.{map_push}
use Rattle.law_behind.specs.Past.{Past}
use Rattle.server_engine.specs.EndsLast.{running}
use Rattle.spec_history.specs.Inputs.{InputLine}
use Rattle.spec_history.specs.Lists.{Text, Each}
use Rattle.format_lines.specs.Line.{Statement}
use Rattle.server_engine.specs.CoreInput.{CoreInput, with_line}
use Rattle.server_engine.specs.Standing.{Found, IsBetween, IsEnded, IsOpen, IsOver, OthersStay, Stands}
use Rattle.server_engine.specs.declared.one_thread.Core.{Core}
use Rattle.server_engine.specs.declared.session.Session.{Session}
use Rattle.server_result.specs.Moments.{IsMoment}
use Rattle.server_step.specs.Reached.{AreEnded, AreOpen, Reached, asked}

pub on_ok : {T E P Q : Type 0} (r : Result T E) → (P → Q) → OnOk r P → OnOk r Q
on_ok (Ok v) f p = f p
on_ok (Err e) f p = tt

pub when_ok : {T E P : Type 0} (r : Result T E) → P → OnOk r P
when_ok (Ok v) p = p
when_ok (Err e) p = tt

-- ---- what was asked

abbrev one_line : Statement → InputLine
one_line s = record { session = s.session; text = s.text }

abbrev asked_lines : Past → Text → ℕ → List Text → List ℕ → List InputLine → CoreInput
asked_lines past database size names times lines = record {
  database = database;
  size = size;
  past = past;
  phase = running;
  names = names;
  lines = lines;
  moments = times;
}

more_asked : (past : Past) (database : Text) (size : ℕ) (names : List Text) (before : List Statement) (s : Statement) (times : List ℕ) (time : ℕ)
    → with_line s.session s.text time (asked past database size names before times) ≡ asked past database size names (before ++ s ∷ []) (times ++ time ∷ [])
more_asked past database size names before s times time =
    ap (asked_lines past database size names (times ++ time ∷ [])) (sym (map_push one_line before s))

pub push : {A : Type 0} (P : A → Type 0) (xs : List A) (x : A) → Each P xs → P x → Each P (xs ++ x ∷ [])
push P [] x e p = (p, tt)
push P (y ∷ ys) x e p = (e.0, push P ys x e.1 p)

module _ {H : Type 0} (digest : H → List ℕ → List ℕ) where
  -- one statement more was run
  pub reached_more : {T E : Type 0} (h : H) (past : Past) (database : Text) (size : ℕ) (names : List Text) (says : ℕ → Type 0) (before : List Statement) (c d : Core H) (s : Statement) (session time : ℕ) (r : Result T E)
      → IsMoment says time → get_elem? names session ≡ some s.session
      → ((k : H) (a : CoreInput) (name : Text) → Stands digest k c a → a.phase ≡ running → get_elem? a.names session ≡ some name → OnOk r (Stands digest k d (with_line name s.text time a)))
      → Reached digest h past database size names says before c → OnOk r (Reached digest h past database size names says (before ++ s ∷ []) d)
  reached_more h past database size names says before c d s session time r moment there stands reached =
      on_ok r (λ standing. record {
        times = reached.times ++ time ∷ [];
        moments = push (IsMoment says) reached.times time reached.moments moment;
        stands = subst (λ (a : CoreInput). Stands digest h d a) (more_asked past database size names before s reached.times time) standing;
      }) (stands h (asked past database size names before reached.times) s.session reached.stands refl there)

  pub reached_none : (h : H) (past : Past) (database : Text) (size : ℕ) (names : List Text) (says : ℕ → Type 0) (c : Core H) → Stands digest h c (asked past database size names [] []) → Reached digest h past database size names says [] c
  reached_none h past database size names says c standing = record { times = []; moments = tt; stands = standing }

-- ---- open sessions

module _ {H : Type 0} (c d : Core H) (session : ℕ) (others : OthersStay session c d) where
  other_stays : (P : Session H → Type 0) (j : ℕ) → j ≢ session → Found P (get_elem? c.sessions.items j) → Found P (get_elem? d.sessions.items j)
  other_stays P j differ found = subst (λ (o : Option (Session H)). Found P o) (sym (others j differ)) found

  by_session : (P : ℕ → Type 0) (j : ℕ) → (j ≡ session → P j) → (j ≢ session → P j) → P j
  by_session P j same differ = go (j == session) refl
    where
      go : (b : Bool) → (j == session) ≡ b → P j
      go true e = same (grind (arith, nat_tests, e))
      go false e = differ (λ f. let g : (j == session) ≡ true = grind (arith, nat_tests, f) in absurd cc)

  pub still_open : (n : ℕ) → IsOpen d session → AreOpen c n → AreOpen d n
  still_open n here explicit j less = by_session (λ k. IsOpen d k) j
      (λ same. subst (λ k. IsOpen d k) (sym same) here)
      (λ differ. other_stays (λ y. IsBetween y.seat) j differ (explicit j less))

  -- a session more is open
  pub open_more : (n : ℕ) → session ≡ n → IsOpen d session → AreOpen c n → AreOpen d (n + 1)
  open_more n last here explicit j less = by_session (λ k. IsOpen d k) j
      (λ same. subst (λ k. IsOpen d k) (sym same) here)
      (λ differ. other_stays (λ y. IsBetween y.seat) j differ (explicit j (before j n session less last differ)))
    where
      before : (j n session : ℕ) → j < n + 1 → session ≡ n → j ≢ session → j < n
      before j n session less last differ = go (j == n) refl
        where
          go : (b : Bool) → (j == n) ≡ b → j < n
          go true e = absurd (differ (grind (arith, nat_tests, e, last)))
          go false e = grind (arith, nat_tests, e, less)

  -- and a session more is over
  pub over_more : IsEnded d session → AreEnded c session → AreEnded d (session + 1)
  over_more here ended j less = by_session (λ k. IsEnded d k) j
      (λ same. subst (λ k. IsEnded d k) (sym same) here)
      (λ differ. other_stays (λ y. IsOver y.seat) j differ (ended j (less_than j session less differ)))
    where
      less_than : (j session : ℕ) → j < session + 1 → j ≢ session → j < session
      less_than j session less differ = go (j == session) refl
        where
          go : (b : Bool) → (j == session) ≡ b → j < session
          go true e = absurd (differ (grind (arith, nat_tests, e)))
          go false e = grind (arith, nat_tests, e, less)

  pub open_behind : (n : ℕ) → ((j : ℕ) → session ≤ j → j < n → IsOpen c j) → (j : ℕ) → session + 1 ≤ j → j < n → IsOpen d j
  open_behind n explicit j above less = other_stays (λ y. IsBetween y.seat) j (λ same. absurd (omega (arith, same, above))) (explicit j (omega (arith, above)) less)
