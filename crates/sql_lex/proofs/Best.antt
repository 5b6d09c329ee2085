-- The longest token of one kind, and of several kinds that are asked in turn.
use Rattle.std.proofs.Common.{◌≡◌, ℕ, zero, suc, ◌<◌, ◌≤◌, Bool, true, false, cond, List, length, take, Option, Some, None, refl, subst, sym, arith, nat_lt}
use Rattle.std.proofs.lemmas.Bool.Decides.{nat_tests}
use Rattle.sql_lex.specs.declared.token.Kind.{Kind}
use Rattle.sql_lex.specs.IsToken.{kind_of}
use Rattle.sql_lex.specs.Longest.{longest, longest_within, or_else}
use Rattle.sql_lex.specs.Front.{with_kind}
use Rattle.sql_lex.proofs.Runs.{not_true}

-- so many bytes pass the test and no more do, or none
abbrev pub Best : (List ℕ → Bool) → List ℕ → Option ℕ → Type 0
Best is z None = (m : ℕ) → m ≤ length z → is (take m z) ≡ false
Best is z (Some n) = (1 ≤ n) × (n ≤ length z) × (is (take n z) ≡ true) × ((m : ℕ) → m ≤ length z → is (take m z) ≡ true → m ≤ n)

pub best_same : (is : List ℕ → Bool) (z : List ℕ) (n m : ℕ) → n ≡ m → Best is z (Some m) → Best is z (Some n)
best_same is z n m e best = let P : ℕ → Type 0 = λ x. Best is z (Some x) in subst P (sym e) best

pub best_if : (is : List ℕ → Bool) (z : List ℕ) (c : Bool) (r s : Option ℕ) → (c ≡ true → Best is z r) → (c ≡ false → Best is z s) → Best is z (cond c r s)
best_if is z true r s then_ else_ = then_ refl
best_if is z false r s then_ else_ = else_ refl

-- so many bytes are of the kind and no more are of any, or none are
abbrev pub Found : (List ℕ → Option Kind) → List ℕ → Option (Kind × ℕ) → Type 0
Found of z None = (m : ℕ) → m ≤ length z → of (take m z) ≡ None
Found of z (Some t) = (1 ≤ t.1) × (t.1 ≤ length z) × (of (take t.1 z) ≡ Some t.0) × ((m : ℕ) → t.1 < m → m ≤ length z → of (take m z) ≡ None)

abbrev pub AtMost : ℕ → Option (Kind × ℕ) → Type 0
AtMost n None = Unit {0}
AtMost n (Some t) = t.1 ≤ n

abbrev pub Under : Option ℕ → Option (Kind × ℕ) → Type 0
Under None p = Unit {0}
Under (Some n) p = AtMost n p

none_past : (of : List ℕ → Option Kind) (z : List ℕ) (p : Option (Kind × ℕ)) (n m : ℕ) → AtMost n p → Found of z p → n < m → m ≤ length z → of (take m z) ≡ None
none_past of z None n m small found lt le = found m le
none_past of z (Some t) n m small found lt le = found.3 m (omega (arith, small)) le

-- one more kind, asked before the others, none of which is longer
pub ask : (is : List ℕ → Bool) (of : List ℕ → Option Kind) (k : Kind) (z : List ℕ) (r : Option ℕ) (p : Option (Kind × ℕ)) → Best is z r → Under r p → Found of z p → Found (λ w. cond (is w) (Some k) (of w)) z (or_else (with_kind k r) p)
ask is of k z None None best under found = λ m le. rw (best m le) (found m le)
ask is of k z None (Some t) best under found = (found.0, found.1, rw (best t.1 found.1) found.2, λ m lt le. rw (best m le) (found.3 m lt le))
ask is of k z (Some n) p best under found = (
  best.0,
  best.1,
  rw best.2 refl,
  λ m lt le. let fails : is (take m z) ≡ false = not_true (is (take m z)) (λ passes. let most = best.3 m le passes in omega (arith, most)) in rw fails (none_past of z p n m under found lt le),
)

none_within : (n : ℕ) (z : List ℕ) → n ≤ length z → ((m : ℕ) → m ≤ length z → kind_of (take m z) ≡ None) → longest_within n z ≡ None
none_within zero z le none = refl
none_within (suc n) z le none = rw (none (suc n) le) (none_within n z (omega arith) none)

some_at : (n : ℕ) (z : List ℕ) (k : Kind) (m : ℕ) (c : Bool) → nat_lt m (suc n) ≡ c → suc n ≤ length z → m ≤ suc n → Found kind_of z (Some (k, m)) → (m ≤ n → longest_within n z ≡ Some (k, m)) → longest_within (suc n) z ≡ Some (k, m)
some_at n z k m true e le few found rest =
    let lt : m < suc n = grind (arith, nat_tests) in
    rw (found.3 (suc n) lt le) (rest (omega arith))
some_at n z k m false e le few found rest =
    let high : suc n ≤ m = grind (arith, nat_tests) in
    let same : m ≡ suc n = omega arith in
    let P : ℕ → Type 0 = λ x. kind_of (take x z) ≡ Some k in
    let at : kind_of (take (suc n) z) ≡ Some k = subst P same found.2 in
    rw (at, same) refl

some_within : (n : ℕ) (z : List ℕ) (k : Kind) (m : ℕ) → n ≤ length z → m ≤ n → Found kind_of z (Some (k, m)) → longest_within n z ≡ Some (k, m)
some_within zero z k m le few found = absurd (omega (arith, found.0))
some_within (suc n) z k m le few found = some_at n z k m (nat_lt m (suc n)) refl le few found (λ less. some_within n z k m (omega arith) less found)

pub found_is_longest : (z : List ℕ) (p : Option (Kind × ℕ)) → Found kind_of z p → p ≡ longest z
unfolding longest
found_is_longest z None found = sym (none_within (length z) z (omega arith) found)
found_is_longest z (Some t) found = sym (some_within (length z) z t.0 t.1 (omega arith) found.1 found)
