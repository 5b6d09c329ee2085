-- In step order, the blocks of digests that come before an image are closed in it.
use Rattle.std.proofs.Common.{◌≡◌, ◌<◌, ◌≤◌, ◌+◌, ◌-◌, ℕ, zero, suc, Bool, true, false, List, [], ◌∷◌, ◌++◌, length, take, refl, sym, ap, subst, ◌∙◌, append_assoc, length-append, ⊎_elim, arith}
use Rattle.std.specs.Prelude.{◌==◌}
use Rattle.std.proofs.lemmas.Bool.{cases_lt, eqb-true}
use Rattle.sql_types.specs.declared.journal.JournalItem.{JournalItem}
use Rattle.sql_types.specs.declared.journal.JournalItem.TheVariants.{Tx, Close}
use Rattle.spec_model.specs.Journals.{closed, tx_count}
use Rattle.spec_history.specs.Facts.{Fact, began, said, failed, met, placed, passed, over, digest, image, no_digest}
use Rattle.spec_history.specs.Journals.{blocks, in_blocks}
use Rattle.spec_history.specs.Lists.{Each}
use Rattle.spec_history.specs.Serial.{ClosesPending}
use Rattle.spec_history.specs.StepOrder.{Counted, When, TakesClose, ItemsInOrder}
use Rattle.law_behind.specs.Past.{Past, since, unclosed}
use Rattle.law_sequential.specs.Outcome.{IsClosedThere}

-- ---- blocks of parts of a journal

blocks_both : (A K : List JournalItem) → blocks (A ++ K) ≡ blocks A + blocks K
blocks_both [] K = let e : blocks K ≡ 0 + blocks K = omega arith in e
blocks_both (Tx id name time explicit script ∷ A) K = blocks_both A K
blocks_both (Close k ∷ A) K = let e = blocks_both A K in omega (arith, e)

closed_both : (A K : List JournalItem) → closed (A ++ K) ≡ closed A + closed K
closed_both [] K = let e : closed K ≡ 0 + closed K = omega arith in e
closed_both (Tx id name time explicit script ∷ A) K = closed_both A K
closed_both (Close k ∷ A) K = let e = closed_both A K in omega (arith, e)

blocks_front : (A K : List JournalItem) (n : ℕ) → length A ≤ n → blocks A ≤ blocks (take n (A ++ K))
blocks_front [] K n l = omega arith
blocks_front (x ∷ A) K zero l = absurd (omega (arith, l))
blocks_front (Tx id name time explicit script ∷ A) K (suc n) l = blocks_front A K n (omega (arith, l))
blocks_front (Close k ∷ A) K (suc n) l = let e = blocks_front A K n (omega (arith, l)) in omega (arith, e)

in_both : (A K : List JournalItem) (n : ℕ) → blocks A ≤ n → in_blocks n (A ++ K) ≡ closed A + in_blocks (n - blocks A) K
in_both [] K n l = let m : n ≡ n - 0 = omega arith in let f : in_blocks n K ≡ in_blocks (n - 0) K = ap (λ (i : ℕ). in_blocks i K) m in let e : in_blocks n K ≡ 0 + in_blocks (n - 0) K = omega (arith, f) in e
in_both (Tx id name time explicit script ∷ A) K zero l = in_both A K zero l
in_both (Tx id name time explicit script ∷ A) K (suc n) l = in_both A K (suc n) l
in_both (Close k ∷ A) K zero l = absurd (omega (arith, l))
in_both (Close k ∷ A) K (suc n) l =
    let e = in_both A K n (omega (arith, l)) in
    let m : n - blocks A ≡ suc n - (blocks A + 1) = omega (arith, l) in
    let f : in_blocks (n - blocks A) K ≡ in_blocks (suc n - (blocks A + 1)) K = ap (λ (i : ℕ). in_blocks i K) m in
    omega (arith, e, f)

some_in : (K : List JournalItem) (p n : ℕ) → ClosesPending p K → 1 ≤ blocks K → 1 ≤ in_blocks (suc n) K
some_in [] p n c l = absurd (omega (arith, l))
some_in (Tx id name time explicit script ∷ K) p n c l = some_in K (suc p) n c l
some_in (Close k ∷ K) p n c l = let some = c.0 in omega (arith, some)

-- closings of the rest
rest_closes : (A K : List JournalItem) (p : ℕ) → ClosesPending p (A ++ K) → (n : ℕ) × ClosesPending n K
rest_closes [] K p c = (p, c)
rest_closes (Tx id name time explicit script ∷ A) K p c = rest_closes A K (suc p) c
rest_closes (Close k ∷ A) K p c = rest_closes A K (p - k) c.3

closed_there : (A K : List JournalItem) (b c : ℕ) → ClosesPending 0 (A ++ K) → closed A ≡ c → in_blocks (suc b) (A ++ K) ≡ c → b < blocks (A ++ K) → b < blocks A
closed_there A K b c closes is counts below = ⊎_elim (λ (l : b < blocks A). l) (λ l. absurd (no_more l)) (cases_lt b (blocks A))
  where
    no_more : blocks A ≤ b → ⊥
    no_more l =
        let rest = rest_closes A K 0 closes in
        let both = blocks_both A K in
        let some : 1 ≤ in_blocks (suc (b - blocks A)) K = some_in K rest.0 (b - blocks A) rest.1 (omega (arith, both, below, l)) in
        let same : suc (b - blocks A) ≡ suc b - blocks A = omega (arith, l) in
        let there : 1 ≤ in_blocks (suc b - blocks A) K = subst (λ (i : ℕ). 1 ≤ in_blocks i K) same some in
        let sum = in_both A K (suc b) (omega (arith, l)) in
        omega (arith, there, sum, is, counts)

-- ---- what one fact takes of the items

abbrev commits_of : Fact → ℕ
commits_of (placed place) = 1
commits_of _ = 0

-- nothing is pending behind a digest
abbrev NoneBehind : Fact → ℕ → Type 0
NoneBehind (digest b hash) p = p ≡ 0
NoneBehind _ p = Unit {0}

module _ (N : ℕ) where
  record Walk (p m : ℕ) (K : List JournalItem) (g : Fact) (gs : List Fact) : Type 0 where
    taken : List JournalItem
    rest : List JournalItem
    then_p : ℕ
    then_m : ℕ
    is : K ≡ taken ++ rest
    more : then_m ≡ m + length taken
    goes : ItemsInOrder N then_p then_m rest gs
    counts : closed taken + then_p ≡ p + commits_of g
    none_behind : NoneBehind g then_p

  closes_full : (p m : ℕ) (place : ℕ) (x : JournalItem) (J : List JournalItem) (gs : List Fact) → closed (x ∷ []) ≡ 0 → suc p ≡ N → TakesClose N J (λ L. ItemsInOrder N 0 (m + 2) L gs) → Walk p m (x ∷ J) (placed place) gs
  closes_full p m place x [] gs none e h = absurd h
  closes_full p m place x (Tx id name time explicit script ∷ L) gs none e h = absurd h
  closes_full p m place x (Close j ∷ L) gs none e h = record {
    taken = x ∷ Close j ∷ [];
    rest = L;
    then_p = 0;
    then_m = m + 2;
    is = refl;
    more = refl;
    goes = h.1;
    counts = (let f = h.0 in let both = closed_both (x ∷ []) (Close j ∷ []) in omega (arith, f, e, none, both));
    none_behind = tt;
  }

  placing : (p m place : ℕ) (K : List JournalItem) (gs : List Fact) → ItemsInOrder N p m K (placed place ∷ gs) → Walk p m K (placed place) gs
  placing p m place [] gs h = absurd h
  placing p m place (Close k ∷ J) gs h = absurd h
  placing p m place (Tx id name time explicit script ∷ J) gs h = by (suc p == N) refl h
    where
      by : (b : Bool) → (suc p == N) ≡ b → When b (TakesClose N J (λ L. ItemsInOrder N 0 (m + 2) L gs)) (ItemsInOrder N (suc p) (m + 1) J gs) → Walk p m (Tx id name time explicit script ∷ J) (placed place) gs
      by true e w = closes_full p m place (Tx id name time explicit script) J gs refl (eqb-true (suc p) N e) w
      by false e w = record {
        taken = Tx id name time explicit script ∷ [];
        rest = J;
        then_p = suc p;
        then_m = m + 1;
        is = refl;
        more = refl;
        goes = w;
        counts = omega arith;
        none_behind = tt;
      }

  closes_rest : (p m b : ℕ) (hash : List ℕ) (K : List JournalItem) (gs : List Fact) → TakesClose p K (λ L. ItemsInOrder N 0 (m + 1) L gs) → Walk p m K (digest b hash) gs
  closes_rest p m b hash [] gs h = absurd h
  closes_rest p m b hash (Tx id name time explicit script ∷ L) gs h = absurd h
  closes_rest p m b hash (Close j ∷ L) gs h = record {
    taken = Close j ∷ [];
    rest = L;
    then_p = 0;
    then_m = m + 1;
    is = refl;
    more = refl;
    goes = h.1;
    counts = (let f = h.0 in omega (arith, f));
    none_behind = refl;
  }

  issuing : (p m b : ℕ) (hash : List ℕ) (K : List JournalItem) (gs : List Fact) → ItemsInOrder N p m K (digest b hash ∷ gs) → Walk p m K (digest b hash) gs
  issuing p m b hash K gs h = by (p == 0) refl h
    where
      by : (t : Bool) → (p == 0) ≡ t → When t (ItemsInOrder N 0 m K gs) (TakesClose p K (λ L. ItemsInOrder N 0 (m + 1) L gs)) → Walk p m K (digest b hash) gs
      by true e w = record {
        taken = [];
        rest = K;
        then_p = 0;
        then_m = m;
        is = refl;
        more = omega arith;
        goes = w;
        counts = (let f = eqb-true p 0 e in omega (arith, f));
        none_behind = refl;
      }
      by false e w = closes_rest p m b hash K gs w

  -- one that takes none
  taking_none : (p m : ℕ) (K : List JournalItem) (g : Fact) (gs : List Fact) → ItemsInOrder N p m K gs → commits_of g ≡ 0 → NoneBehind g p → Walk p m K g gs
  taking_none p m K g gs h none behind = record { taken = []; rest = K; then_p = p; then_m = m; is = refl; more = omega arith; goes = h; counts = omega (arith, none); none_behind = behind }

  walk : (p m : ℕ) (K : List JournalItem) (g : Fact) (gs : List Fact) → ItemsInOrder N p m K (g ∷ gs) → Walk p m K g gs
  walk p m K (placed place) gs h = placing p m place K gs h
  walk p m K (digest b hash) gs h = issuing p m b hash K gs h
  walk p m K (image items) gs h = taking_none p m K (image items) gs h.1 refl tt
  walk p m K (began id explicit) gs h = taking_none p m K (began id explicit) gs h refl tt
  walk p m K (said line) gs h = taking_none p m K (said line) gs h refl tt
  walk p m K (failed text) gs h = taking_none p m K (failed text) gs h refl tt
  walk p m K (met text holder) gs h = taking_none p m K (met text holder) gs h refl tt
  walk p m K (passed n back) gs h = taking_none p m K (passed n back) gs h refl tt
  walk p m K over gs h = taking_none p m K over gs h refl tt
  walk p m K no_digest gs h = taking_none p m K no_digest gs h refl tt

  -- ---- an image comes later

  image_later : (before after : List Fact) (p m items : ℕ) (K : List JournalItem) → ItemsInOrder N p m K (before ++ image items ∷ after) → m ≤ items
  image_later [] after p m items K h = let e = h.0 in omega (arith, e)
  image_later (g ∷ before) after p m items K h = let w = walk p m K g (before ++ image items ∷ after) h in let more = w.more in
      let later = image_later before after w.then_p w.then_m items w.rest w.goes in omega (arith, more, later)

-- ---- the numbers that count

record Tail (J : List JournalItem) (c : ℕ) (g : Fact) (gs : List Fact) : Type 0 where
  n : ℕ
  then_c : ℕ
  is : then_c ≡ c + commits_of g
  goes : Counted J n then_c gs

tail_of : (J : List JournalItem) (n c : ℕ) (g : Fact) (gs : List Fact) → Counted J n c (g ∷ gs) → Tail J c g gs
tail_of J n c (began id explicit) gs h = record { n = n + 1; then_c = c; is = omega arith; goes = h.1 }
tail_of J n c (placed place) gs h = record { n = n; then_c = c + 1; is = refl; goes = h.1 }
tail_of J n c (passed m back) gs h = record { n = n; then_c = c; is = omega arith; goes = h.1 }
tail_of J n c (digest b hash) gs h = record { n = n; then_c = c; is = omega arith; goes = h.2 }
tail_of J n c (image items) gs h = record { n = n; then_c = c; is = omega arith; goes = h.1 }
tail_of J n c no_digest gs h = record { n = n; then_c = c; is = omega arith; goes = h.1 }
tail_of J n c (said line) gs h = record { n = n; then_c = c; is = omega arith; goes = h }
tail_of J n c (failed text) gs h = record { n = n; then_c = c; is = omega arith; goes = h }
tail_of J n c (met text holder) gs h = record { n = n; then_c = c; is = omega arith; goes = h }
tail_of J n c over gs h = record { n = n; then_c = c; is = omega arith; goes = h }

-- ---- all together

module _ (N : ℕ) (J : List JournalItem) (closes : ClosesPending 0 J) (items : ℕ) (after : List Fact) where
  abbrev rest_of : List Fact → List Fact
  rest_of before = before ++ image items ∷ after

  one_there : (g : Fact) (before : List Fact) (A K : List JournalItem) (p m n c : ℕ) → J ≡ A ++ K → length A ≡ m → closed A + p ≡ c → NoneBehind g p → ItemsInOrder N p m K (rest_of before) → (d : ℕ) → d ≡ c → Counted J n d (g ∷ rest_of before) → IsClosedThere J items g
  one_there (digest b hash) before A K p m n c is len sum behind goes d same counted = λ below.
      let at : b < blocks A = closed_there A K b c (subst (ClosesPending 0) is closes) (omega (arith, sum, behind)) (ap (in_blocks (suc b)) (sym is) ∙ counted.0 ∙ same) (subst (λ (L : List JournalItem). b < blocks L) is below) in
      let front = blocks_front A K items (let l = image_later N before after p m items K goes in omega (arith, l, len)) in
      subst (λ (L : List JournalItem). b < blocks (take items L)) (sym is) (omega (arith, at, front))
  one_there (began id explicit) before A K p m n c is len sum behind goes d same counted = tt
  one_there (said line) before A K p m n c is len sum behind goes d same counted = tt
  one_there (failed text) before A K p m n c is len sum behind goes d same counted = tt
  one_there (met text holder) before A K p m n c is len sum behind goes d same counted = tt
  one_there (placed place) before A K p m n c is len sum behind goes d same counted = tt
  one_there (passed k back) before A K p m n c is len sum behind goes d same counted = tt
  one_there over before A K p m n c is len sum behind goes d same counted = tt
  one_there (image k) before A K p m n c is len sum behind goes d same counted = tt
  one_there no_digest before A K p m n c is len sum behind goes d same counted = tt

  go : (before : List Fact) (A K : List JournalItem) (p m n c : ℕ) → J ≡ A ++ K → length A ≡ m → closed A + p ≡ c → ItemsInOrder N p m K (rest_of before) → Counted J n c (rest_of before) → Each (IsClosedThere J items) before
  go [] A K p m n c is len sum goes counted = tt
  go (g ∷ before) A K p m n c is len sum goes counted = (here, go before (A ++ w.taken) w.rest w.then_p w.then_m t.n t.then_c is_then len_then sum_then w.goes t.goes)
    where
      w : Walk N p m K g (rest_of before)
      w = walk N p m K g (rest_of before) goes

      t : Tail J c g (rest_of before)
      t = tail_of J n c g (rest_of before) counted

      is_then : J ≡ (A ++ w.taken) ++ w.rest
      is_then = is ∙ ap (λ (L : List JournalItem). A ++ L) w.is ∙ sym (append_assoc A w.taken w.rest)

      len_then : length (A ++ w.taken) ≡ w.then_m
      len_then = let a = length-append A w.taken in let b = w.more in omega (arith, a, b, len)

      sum_then : closed (A ++ w.taken) + w.then_p ≡ t.then_c
      sum_then = let a = closed_both A w.taken in let b = w.counts in let d = t.is in omega (arith, a, b, d, sum)

      here : IsClosedThere J items g
      here = by g w.none_behind t.is counted
        where
          by : (f : Fact) → NoneBehind f w.then_p → t.then_c ≡ c + commits_of f → Counted J n c (f ∷ rest_of before) → IsClosedThere J items f
          by (digest b hash) behind same count = one_there (digest b hash) before (A ++ w.taken) w.rest w.then_p w.then_m n t.then_c is_then len_then sum_then behind w.goes c (omega (arith, same)) count
          by (began id explicit) behind same count = tt
          by (said line) behind same count = tt
          by (failed text) behind same count = tt
          by (met text holder) behind same count = tt
          by (placed place) behind same count = tt
          by (passed k back) behind same count = tt
          by over behind same count = tt
          by (image k) behind same count = tt
          by no_digest behind same count = tt

pub closed_before : (N : ℕ) (J : List JournalItem) (n : ℕ) (before after : List Fact) (items : ℕ) → ClosesPending 0 J → ItemsInOrder N 0 0 J (before ++ image items ∷ after) → Counted J n 0 (before ++ image items ∷ after) → Each (IsClosedThere J items) before
closed_before N J n before after items closes goes counted = go N J closes items after before [] J 0 0 n 0 refl refl refl goes counted

-- ---- behind a past

closed_within : (A K : List JournalItem) (p : ℕ) → ClosesPending p (A ++ K) → closed A ≤ p + tx_count A
closed_within [] K p c = omega arith
closed_within (Tx id name time explicit script ∷ A) K p c = let e = closed_within A K (suc p) c in omega (arith, e)
closed_within (Close k ∷ A) K p c = let e = closed_within A K (p - k) c.3 in let few = c.2 in omega (arith, e, few)

pub closed_behind : (N : ℕ) (J : List JournalItem) (past : Past) (before after : List Fact) (items : ℕ) → J ≡ past.items ++ since past J → ClosesPending 0 J
    → ItemsInOrder N (unclosed past.items) (length past.items) (since past J) (before ++ image items ∷ after) → Counted J past.next (tx_count past.items) (before ++ image items ∷ after) → Each (IsClosedThere J items) before
closed_behind N J past before after items begins closes goes counted =
    let few = closed_within past.items (since past J) 0 (subst (ClosesPending 0) begins closes) in
    go N J closes items after before past.items (since past J) (unclosed past.items) (length past.items) past.next (tx_count past.items) begins refl (omega (arith, few)) goes counted
