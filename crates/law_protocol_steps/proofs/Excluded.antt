-- Who has X on the rows of a key, and that nobody else has it on rows that a want relies on.
use Rattle.std.proofs.Common.{◌≡◌, ◌≢◌, ◌⊎◌, ℕ, Bool, true, false, List, [], ◌∷◌, refl, sym, ap, ◌∙◌, subst, inl, inr, ⊎_elim}
use Rattle.std.proofs.lemmas.Bool.{cases_eq}
use Rattle.std.specs.Prelude.{◌&&◌}
use Rattle.std.specs.List.{list_any}
use Rattle.sql_types.specs.declared.lock.Mode.{Mode}
use Rattle.sql_types.specs.declared.lock.Mode.TheVariants.{IS, IX, S, X}
use Rattle.sql_types.specs.declared.lock.Item.{Item}
use Rattle.sql_types.specs.declared.lock.Item.TheVariants as item
use Rattle.sql_types.specs.declared.lock.LockRequest.{LockRequest}
use Rattle.spec_model.specs.Keys.{Key, same_key}
use Rattle.spec_model.specs.Locks.{conflict, same_item, requests_conflict}
use Rattle.spec_model.specs.Reach.{has_key, is_exclusive, lets_change}
use Rattle.law_frame.proofs.SameKeys.{same_key_as, same_itself, and_true}
use Rattle.law_frame.proofs.NoClash.{Relies}
use Rattle.spec_history.specs.Lists.{Each, In}
use Rattle.sql_types.specs.declared.lock.Hold.{Hold}
use Rattle.spec_protocol.specs.RequestsIn.{Holds}
use Rattle.law_protocol_steps.proofs.Taken.{AreFree}
use Rattle.spec_protocol.specs.LocksCover.{HasIntent}
use Rattle.law_protocol_steps.proofs.AfterSet.{each_at}

-- ---- who has X on the rows of a key

pub record HasX (holds : List Hold) (tx : ℕ) (key : Key) : Type 0 where
  pub hold : Hold
  pub has : In hold holds
  pub mine : hold.tx ≡ tx
  pub reaches : lets_change key hold.request ≡ true

abbrev pub HasNoX : List Hold → ℕ → Key → Type 0
HasNoX holds tx key = (h : Hold) → In h holds → h.tx ≡ tx → lets_change key h.request ≡ false

more : (holds : List Hold) (h : Hold) (tx : ℕ) (key : Key) → (h.tx ≡ tx → lets_change key h.request ≡ false) → HasNoX holds tx key → HasNoX (h ∷ holds) tx key
more holds h tx key f rest g i e = ⊎_elim (λ (same : h ≡ g). subst (λ (z : Hold). z.tx ≡ tx → lets_change key z.request ≡ false) same f e) (λ (k : In g holds). rest g k e) i

at_head : (holds : List Hold) (h : Hold) (tx : ℕ) (key : Key) (b : Bool) → lets_change key h.request ≡ b → (h.tx ≡ tx) ⊎ (h.tx ≢ tx) → HasX holds tx key ⊎ HasNoX holds tx key → HasX (h ∷ holds) tx key ⊎ HasNoX (h ∷ holds) tx key
at_head holds h tx key b e c (inl k) = inl (record { hold = k.hold; has = inr k.has; mine = k.mine; reaches = k.reaches })
at_head holds h tx key true e (inl same) (inr k) = inl (record { hold = h; has = inl refl; mine = same; reaches = e })
at_head holds h tx key true e (inr ne) (inr k) = inr (more holds h tx key (λ same. absurd (ne same)) k)
at_head holds h tx key false e c (inr k) = inr (more holds h tx key (λ same. e) k)

pub has_x_or_not : (holds : List Hold) (tx : ℕ) (key : Key) → HasX holds tx key ⊎ HasNoX holds tx key
has_x_or_not [] tx key = inr (λ h i e. absurd i)
has_x_or_not (h ∷ holds) tx key = at_head holds h tx key (lets_change key h.request) refl (cases_eq h.tx tx) (has_x_or_not holds tx key)

-- ---- a want and its lock let change the same

same_reach : (key : Key) (a b : Item) → same_item a b ≡ true → has_key key a ≡ has_key key b
unfolding same_item
same_reach key item.Whole item.Whole e = refl
same_reach key (item.Key a) (item.Key b) e = same_key_as a b key e
same_reach key item.Whole (item.Key b) e = cc
same_reach key (item.Key a) item.Whole e = cc

pub held_reach : (holds : List Hold) (tx : ℕ) (key : Key) (w : LockRequest) → HasNoX holds tx key → Holds holds tx w → lets_change key w ≡ false
held_reach holds tx key w none_has h =
    ap (λ (b : Bool). is_exclusive w.mode && b) (sym (same_reach key h.hold.request.item w.item h.item)) ∙ ap (λ (m : Mode). is_exclusive m && has_key key h.hold.request.item) (sym h.mode)
    ∙ none_has h.hold h.has h.mine

pub none_reach : (holds : List Hold) (tx : ℕ) (key : Key) (ws : List LockRequest) → HasNoX holds tx key → Each (Holds holds tx) ws → list_any (lets_change key) ws ≡ false
none_reach holds tx key [] none_has h = refl
none_reach holds tx key (w ∷ ws) none_has h = rw (held_reach holds tx key w none_has h.0) (none_reach holds tx key ws none_has h.1)

-- ---- nobody else has X on what a want relies on

pub x_conflicts : (m : Mode) → conflict m X ≡ true
unfolding conflict
x_conflicts IS = refl
x_conflicts IX = refl
x_conflicts S = refl
x_conflicts X = refl

relies_on : (m n : Mode) → Relies m → (n ≡ IX) ⊎ (n ≡ X) → conflict m n ≡ true
unfolding conflict
relies_on IS n r h = absurd r
relies_on IX n r h = absurd r
relies_on S n r h = ⊎_elim (λ (e : n ≡ IX). ap (conflict S) e) (λ (e : n ≡ X). ap (conflict S) e) h
relies_on X n r h = ⊎_elim (λ (e : n ≡ IX). ap (conflict X) e) (λ (e : n ≡ X). ap (conflict X) e) h

exclusive_is : (m : Mode) → is_exclusive m ≡ true → m ≡ X
exclusive_is IS e = cc
exclusive_is IX e = cc
exclusive_is S e = cc
exclusive_is X e = refl

not_both : {b : Bool} → b ≡ false → b ≡ true → ⊥
not_both h k = cc

module _ (holds : List Hold) (id : ℕ) (requests : List LockRequest) (free : AreFree holds id requests)
    (intents : (h : Hold) → In h holds → h.request.mode ≡ X → HasIntent holds h)
    (announced : (w : LockRequest) → In w requests → (u : LockRequest) × In u requests × (u.item ≡ item.Whole)) where
  clash_free : (w : LockRequest) (h : Hold) → In w requests → In h holds → h.tx ≢ id → requests_conflict w h.request ≡ false
  clash_free w h i k ne = each_at (λ (g : Hold). g.tx ≢ id → requests_conflict w g.request ≡ false) holds h (each_at (λ (u : LockRequest). Each (λ g. g.tx ≢ id → requests_conflict u g.request ≡ false) holds) requests w free i) k ne

  module _ (key : Key) (w : LockRequest) (is : In w requests) (relies : Relies w.mode) (reach : has_key key w.item ≡ true) (h : Hold) (has : In h holds) (ne : h.tx ≢ id) where
    on_whole : h.request.mode ≡ X → h.request.item ≡ item.Whole → ⊥
    unfolding same_item
    on_whole m e = let u = announced w is in not_both (clash_free u.0 h u.1 has ne)
        (ap (λ (x : Item). same_item x h.request.item && conflict u.0.mode h.request.mode) u.2 ∙ ap (λ (x : Item). same_item item.Whole x && conflict u.0.mode h.request.mode) e ∙ ap (conflict u.0.mode) m ∙ x_conflicts u.0.mode)

    on_key : (k : Key) (x : Item) → h.request.mode ≡ X → h.request.item ≡ item.Key k → same_key k key ≡ true → w.item ≡ x → has_key key x ≡ true → ⊥
    unfolding same_item
    on_key k item.Whole m e q f r = let g = intents h has m in not_both (clash_free w g.hold is g.has (λ z. ne (sym g.mine ∙ z)))
        (ap (λ (x : Item). same_item x g.hold.request.item && conflict w.mode g.hold.request.mode) f ∙ ap (λ (x : Item). same_item item.Whole x && conflict w.mode g.hold.request.mode) g.whole ∙ relies_on w.mode g.hold.request.mode relies g.mode)
    on_key k (item.Key l) m e q f r = not_both (clash_free w h is has ne)
        (ap (λ (x : Item). same_item x h.request.item && conflict w.mode h.request.mode) f ∙ ap (λ (x : Item). same_item (item.Key l) x && conflict w.mode h.request.mode) e
        ∙ ap (λ (b : Bool). b && conflict w.mode h.request.mode) alike ∙ ap (conflict w.mode) m ∙ x_conflicts w.mode)
      where
        turned : same_key key l ≡ true
        turned = sym (same_key_as l key l r) ∙ same_itself l

        alike : same_key l k ≡ true
        alike = same_key_as l key k r ∙ sym (same_key_as k key k q) ∙ same_itself k

    by_item : (x : Item) → h.request.item ≡ x → h.request.mode ≡ X → has_key key x ≡ true → ⊥
    by_item item.Whole e m r = on_whole m e
    by_item (item.Key k) e m r = on_key k w.item m e r refl reach

    by_reach : (b : Bool) → lets_change key h.request ≡ b → lets_change key h.request ≡ false
    by_reach false e = e
    by_reach true e = let p = and_true (is_exclusive h.request.mode) (has_key key h.request.item) e in absurd (by_item h.request.item refl (exclusive_is h.request.mode p.0) p.1)

    pub excluded : lets_change key h.request ≡ false
    excluded = by_reach (lets_change key h.request) refl
