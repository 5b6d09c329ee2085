-- The statements of other sessions' open transactions, and the locks that they stand for.
use Rattle.std.proofs.Common.{◌≡◌, ◌≢◌, ℕ, zero, suc, ◌<◌, Bool, true, false, List, [], ◌∷◌, map, flat_map, Option, Some, None, refl, sym, ap, ap₂, ◌∙◌, subst, inl, inr, ⊎_elim, arith}
use Rattle.std.proofs.lemmas.Bool.{eq-eqb, ne_eqb, cases_lt, and_parts}
use Rattle.std.specs.Prelude.{◌==◌, ◌&&◌, not, if◌then◌else◌}
use Rattle.sql_types.specs.declared.lock.Hold.{Hold}
use Rattle.sql_types.specs.declared.lock.LockRequest.{LockRequest}
use Rattle.spec_model.specs.Holds.{hold}
use Rattle.spec_model.specs.InTheWay.{bars, first_conflict}
use Rattle.spec_model.specs.Journals.{Line}
use Rattle.spec_model.specs.Locks.{requests_conflict}
use Rattle.spec_history.specs.ExactRefusals.{HeldStatement, held_by, held_beside, holder_named}
use Rattle.spec_history.specs.Lists.{In}
use Rattle.spec_history.specs.Transactions.{Transaction}
use Rattle.spec_history.proofs.Settles.{in_append, in_left, in_right}
use Rattle.spec_protocol.specs.RequestsIn.{Holds}
use Rattle.law_protocol.proofs.LeastHolder.{BlockedBy, BarsToo, none_first, same_first}
use Rattle.law_protocol_steps.proofs.NoClashes.{like_requests}
use Rattle.law_protocol_steps.proofs.Taken.{itself}

-- ---- members of lists that are made of lists

module _ {A B : Type 0} where
  pub record Made (f : A → B) (xs : List A) (y : B) : Type 0 where
    pub of : A
    pub has : In of xs
    pub is : f of ≡ y

  pub in_map : (f : A → B) (xs : List A) (y : B) → In y (map f xs) → Made f xs y
  in_map f [] y i = absurd i
  in_map f (x ∷ xs) y (inl e) = record { of = x; has = inl refl; is = e }
  in_map f (x ∷ xs) y (inr i) = let w = in_map f xs y i in record { of = w.of; has = inr w.has; is = w.is }

  pub map_in : (f : A → B) (xs : List A) (x : A) → In x xs → In (f x) (map f xs)
  map_in f [] x i = absurd i
  map_in f (y ∷ ys) x (inl e) = inl (ap f e)
  map_in f (y ∷ ys) x (inr i) = inr (map_in f ys x i)

  pub record Among (f : A → List B) (xs : List A) (y : B) : Type 0 where
    pub of : A
    pub has : In of xs
    pub is : In y (f of)

  pub in_flat : (f : A → List B) (xs : List A) (y : B) → In y (flat_map f xs) → Among f xs y
  in_flat f [] y i = absurd i
  in_flat f (x ∷ xs) y i = ⊎_elim
      (λ (k : In y (f x)). record { of = x; has = inl refl; is = k })
      (λ (k : In y (flat_map f xs)). let w = in_flat f xs y k in record { of = w.of; has = inr w.has; is = w.is })
      (in_append y (f x) (flat_map f xs) i)

  pub flat_in : (f : A → List B) (xs : List A) (x : A) (y : B) → In x xs → In y (f x) → In y (flat_map f xs)
  flat_in f [] x y i k = absurd i
  flat_in f (z ∷ zs) x y (inl e) k = in_left y (f z) (flat_map f zs) (subst (λ (u : A). In y (f u)) (sym e) k)
  flat_in f (z ∷ zs) x y (inr i) k = in_right y (f z) (flat_map f zs) (flat_in f zs x y i k)

-- ---- whose statements count

abbrev pub statement_of : Transaction → Line → HeldStatement
statement_of u line = record { id = u.id; explicit = u.explicit; text = line.0 }

pub record IsHeldAt (s k : ℕ) (f : ℕ → Option Transaction) (h : HeldStatement) : Type 0 where
  pub session : ℕ
  pub below : session < k
  pub other : session ≢ s
  pub transaction : Transaction
  pub is : f session ≡ Some transaction
  pub line : Line
  pub has : In line transaction.script
  pub same : statement_of transaction line ≡ h

not_equal : (m n : ℕ) → (m == n) ≡ false → m ≢ n
not_equal m n e same = let f : (m == n) ≡ true = eq-eqb m n same in cc

pub held_at : (s k : ℕ) (f : ℕ → Option Transaction) (h : HeldStatement) → In h (held_beside s k f) → IsHeldAt s k f h
held_at s zero f h i = absurd i
held_at s (suc k) f h i = ⊎_elim
    (λ (a : In h (held_beside s k f)). let w = held_at s k f h a in let l = w.below in record { session = w.session; below = omega (arith, l); other = w.other; transaction = w.transaction; is = w.is; line = w.line; has = w.has; same = w.same })
    (λ (a : In h (if k == s then [] else held_by (f k))). last (k == s) refl a)
    (in_append h (held_beside s k f) (if k == s then [] else held_by (f k)) i)
  where
    of : (o : Option Transaction) → f k ≡ o → k ≢ s → In h (held_by o) → IsHeldAt s (suc k) f h
    of None e ne a = absurd a
    of (Some u) e ne a = let w = in_map (statement_of u) u.script h a in record { session = k; below = omega arith; other = ne; transaction = u; is = e; line = w.of; has = w.has; same = w.is }

    last : (b : Bool) → (k == s) ≡ b → In h (if b then [] else held_by (f k)) → IsHeldAt s (suc k) f h
    last true e a = absurd a
    last false e a = of (f k) refl (not_equal k s e) a

pub at_held : (s k : ℕ) (f : ℕ → Option Transaction) (t : ℕ) → t < k → t ≢ s → (u : Transaction) → f t ≡ Some u → (line : Line) → In line u.script → In (statement_of u line) (held_beside s k f)
at_held s zero f t l ne u e line i = absurd (omega (arith, l))
at_held s (suc k) f t l ne u e line i = ⊎_elim
    (λ (m : t < k). in_left (statement_of u line) (held_beside s k f) (if k == s then [] else held_by (f k)) (at_held s k f t m ne u e line i))
    (λ m. let same : t ≡ k = omega (arith, l, m) in in_right (statement_of u line) (held_beside s k f) (if k == s then [] else held_by (f k))
    (subst (λ (b : Bool). In (statement_of u line) (if b then [] else held_by (f k))) (sym (ne_eqb k s (λ g. ne (same ∙ g))))
    (subst (λ (o : Option Transaction). In (statement_of u line) (held_by o)) (sym e ∙ ap f same) (map_in (statement_of u) u.script line i))))
    (cases_lt t k)

-- ---- what they hold

-- the locks of these wants of the statements
abbrev pub holds_of : (HeldStatement → List LockRequest) → List HeldStatement → List Hold
holds_of W hs = flat_map (λ h. map (hold h.id) (W h)) hs

-- a statement wants what a lock is
pub record IsRequestedBy (W : HeldStatement → List LockRequest) (hs : List HeldStatement) (lock : Hold) : Type 0 where
  pub statement : HeldStatement
  pub has : In statement hs
  pub mine : statement.id ≡ lock.tx
  pub wanted : In lock.request (W statement)

bars_alike : (id : ℕ) (w : LockRequest) (g h : Hold) → g.tx ≡ h.tx → requests_conflict w g.request ≡ requests_conflict w h.request → bars id w g ≡ bars id w h
bars_alike id w g h e f = ap₂ (λ (n : ℕ) (b : Bool). not (n == id) && b) e f

foreign_by : (id : ℕ) (w : LockRequest) (h : Hold) → bars id w h ≡ true → h.tx ≢ id
foreign_by id w h e same = let f : not (h.tx == id) ≡ true = (and_parts (not (h.tx == id)) (requests_conflict w h.request) e).0 in let g : (h.tx == id) ≡ true = eq-eqb h.tx id same in let z : not true ≡ true = ap not (sym g) ∙ f in cc

module _ (W : HeldStatement → List LockRequest) (hs : List HeldStatement) (L : List Hold) (id : ℕ) (covered : (h : HeldStatement) → In h hs → (u : LockRequest) → In u (W h) → Holds L h.id u) where
  -- whoever bars a want by a statement bars it by a lock
  pub by_locks : (w : LockRequest) → BarsToo (holds_of W hs) L id w
  by_locks w g i e = of (in_flat (λ h. map (hold h.id) (W h)) hs g i)
    where
      of : Among (λ (h : HeldStatement). map (hold h.id) (W h)) hs g → BlockedBy L id w g.tx
      of a = let m = in_map (hold a.of.id) (W a.of) g a.is in let k = covered a.of a.has m.of m.has in record {
        hold = k.hold;
        has = k.has;
        is = k.mine ∙ ap (λ (z : Hold). z.tx) m.is;
        in_way = bars_alike id w k.hold g (k.mine ∙ ap (λ (z : Hold). z.tx) m.is)
            (like_requests w w k.hold.request m.of (itself id w.item) refl k.item k.mode ∙ ap (λ (z : Hold). requests_conflict w z.request) m.is)
            ∙ e;
      }

  -- where each lock of others is wanted by a statement, the same one is named
  pub names_same : ((lock : Hold) → In lock L → lock.tx ≢ id → IsRequestedBy W hs lock) → (ws : List LockRequest) → holder_named (first_conflict (holds_of W hs) id ws) ≡ holder_named (first_conflict L id ws)
  names_same wanted ws = same_first (holds_of W hs) L id ws (λ w i. by_locks w) (λ w i. by_requests w)
    where
      by_requests : (w : LockRequest) → BarsToo L (holds_of W hs) id w
      by_requests w h i e = let s = wanted h i (foreign_by id w h e) in record {
        hold = hold s.statement.id h.request;
        has = flat_in (λ z. map (hold z.id) (W z)) hs s.statement (hold s.statement.id h.request) s.has (map_in (hold s.statement.id) (W s.statement) h.request s.wanted);
        is = s.mine;
        in_way = bars_alike id w (hold s.statement.id h.request) h s.mine refl ∙ e;
      }

  -- where the locks of two transactions don't conflict, nobody is in the way of what is locked
  pub none_in_way : ((a b : Hold) → In a L → In b L → a.tx ≢ b.tx → requests_conflict a.request b.request ≡ false) → (ws : List LockRequest) → ((w : LockRequest) → In w ws → Holds L id w) → first_conflict (holds_of W hs) id ws ≡ None
  none_in_way agree ws mine = none_first (holds_of W hs) id ws none
    where
      none : (w : LockRequest) → In w ws → (g : Hold) → In g (holds_of W hs) → bars id w g ≡ true → ⊥
      none w i g k e = let b = by_locks w g k e in let m = mine w i in
          let differ : m.hold.tx ≢ b.hold.tx = λ same. foreign_by id w b.hold b.in_way (sym same ∙ m.mine) in
          let free : requests_conflict m.hold.request b.hold.request ≡ false = agree m.hold b.hold m.has b.has differ in
          let alike : requests_conflict m.hold.request b.hold.request ≡ requests_conflict w b.hold.request = like_requests m.hold.request w b.hold.request b.hold.request m.item m.mode (itself id b.hold.request.item) refl in
          let bars_so : requests_conflict w b.hold.request ≡ true = (and_parts (not (b.hold.tx == id)) (requests_conflict w b.hold.request) b.in_way).1 in
          let z : true ≡ false = sym bars_so ∙ sym alike ∙ free in cc
