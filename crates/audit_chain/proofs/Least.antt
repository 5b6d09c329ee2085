-- The least block of the digests that a chain doesn't join.
use Rattle.std.proofs.Common.{◌≡◌, ◌≤◌, ◌<◌, ◌⊎◌, ℕ, zero, suc, Bool, true, false, nat_lt, List, [], ◌∷◌, Option, Some, None, refl, sym, ◌∙◌, inl, inr, arith}
use Rattle.std.specs.Prelude.{Contains, if◌then◌else◌}
use Rattle.std.specs.List.{AllByRecursion}
use Rattle.std.proofs.lemmas.Bool.{ltb-true, ltb-false}
use Rattle.sql_types.specs.declared.digest.HeldDigest.{HeldDigest}
use Rattle.format_chain.specs.declared.chain.Chain.{Chain}
use Rattle.audit_chain.specs.Continues.{first_block, IsJoined, IsLeastUnjoined, is_joined, least_unjoined, lesser}
use Rattle.audit_chain.proofs.Decided.{joined_one}

-- ---- the lesser of two

lesser_of : (b : Bool) (a n : ℕ) → nat_lt n a ≡ b → ((if b then n else a) ≤ n) × ((if b then n else a) ≤ a)
lesser_of true a n e = let lt = ltb-true n a e in (omega arith, omega (arith, lt))
lesser_of false a n e = let le = ltb-false n a e in (omega (arith, le), omega arith)

lesser_is_one : (b : Bool) (a n : ℕ) → ((if b then n else a) ≡ n) ⊎ ((if b then n else a) ≡ a)
lesser_is_one true a n = inl refl
lesser_is_one false a n = inr refl

lesser_le : (acc : Option ℕ) (n : ℕ) → lesser acc n ≤ n
lesser_le None n = omega arith
lesser_le (Some a) n = (lesser_of (nat_lt n a) a n refl).0

-- ---- of those of digests, and of one before them

module _ (h : List ℕ → List ℕ) (c : Chain) where
  abbrev IsOut : HeldDigest → Type 0
  IsOut d = IsJoined h c d → ⊥

  -- one of the digests isn't joined, and is of this block
  record HasOut (ds : List HeldDigest) (b : ℕ) : Type 0 where
    d : HeldDigest
    among : Contains ds d
    out : IsOut d
    of : d.block ≡ b

  more_out : (x : HeldDigest) (ds : List HeldDigest) (b : ℕ) → HasOut ds b → HasOut (x ∷ ds) b
  more_out x ds b o =
      let a = o.among in
      record { d = o.d; among = (suc a.0, (let within = a.1 in omega (arith, within)), a.2); out = o.out; of = o.of }

  abbrev IsLeastOf : List HeldDigest → ℕ → Type 0
  IsLeastOf ds b = AllByRecursion (λ (e : HeldDigest). IsOut e → b ≤ e.block) ds

  record IsLeastWith (acc : Option ℕ) (ds : List HeldDigest) (b : ℕ) : Type 0 where
    from : (acc ≡ Some b) ⊎ HasOut ds b
    before : (a : ℕ) → acc ≡ Some a → b ≤ a
    least : IsLeastOf ds b

  abbrev IsFound : Option ℕ → List HeldDigest → Option ℕ → Type 0
  IsFound acc ds None = (acc ≡ None) × AllByRecursion (IsJoined h c) ds
  IsFound acc ds (Some b) = IsLeastWith acc ds b

  abbrev least_with : Option ℕ → List HeldDigest → Option ℕ
  least_with acc ds = least_unjoined h c.database (first_block c.records) c.records acc ds

  none_more : (acc o : Option ℕ) → acc ≡ o → IsFound acc [] o
  none_more acc None e = (e, tt)
  none_more acc (Some b) e = record { from = inl e; before = λ a f. let same : a ≡ b = cc in omega (arith, same); least = tt }

  when_joined : (d : HeldDigest) (ds : List HeldDigest) (acc o : Option ℕ) → IsJoined h c d → IsFound acc ds o → IsFound acc (d ∷ ds) o
  when_joined d ds acc None j f = (f.0, (j, f.1))
  when_joined d ds acc (Some b) j f =
      record { from = go f.from; before = f.before; least = ((λ out. absurd (out j)), f.least) }
    where
      go : (acc ≡ Some b) ⊎ HasOut ds b → (acc ≡ Some b) ⊎ HasOut (d ∷ ds) b
      go (inl e) = inl e
      go (inr o) = inr (more_out d ds b o)

  this_out : (d : HeldDigest) (ds : List HeldDigest) (b : ℕ) → IsOut d → d.block ≡ b → HasOut (d ∷ ds) b
  this_out d ds b out e = record { d = d; among = (zero, omega arith, refl); out = out; of = e }

  -- the lesser block is that of the first digest, or the one before
  told : (d : HeldDigest) (ds : List HeldDigest) (acc : Option ℕ) (b : ℕ) → IsOut d → lesser acc d.block ≡ b → (acc ≡ Some b) ⊎ HasOut (d ∷ ds) b
  told d ds None b out e = inr (this_out d ds b out e)
  told d ds (Some a) b out e = go (lesser_is_one (nat_lt d.block a) a d.block)
    where
      go : (lesser (Some a) d.block ≡ d.block) ⊎ (lesser (Some a) d.block ≡ a) → (Some a ≡ Some b) ⊎ HasOut (d ∷ ds) b
      go (inl f) = inr (this_out d ds b out (sym f ∙ e))
      go (inr f) = let same : a ≡ b = sym f ∙ e in inl (cc)

  before_it : (acc : Option ℕ) (n a : ℕ) → acc ≡ Some a → lesser acc n ≤ a
  before_it None n a e = cc
  before_it (Some m) n a e = let same : m ≡ a = cc in let le = (lesser_of (nat_lt n m) m n refl).1 in omega (arith, le, same)

  when_out : (d : HeldDigest) (ds : List HeldDigest) (acc o : Option ℕ) → IsOut d → IsFound (Some (lesser acc d.block)) ds o → IsFound acc (d ∷ ds) o
  when_out d ds acc None out f = let none = f.0 in cc
  when_out d ds acc (Some b) out f =
      let first : b ≤ lesser acc d.block = f.before (lesser acc d.block) refl in
      record {
        from = go f.from;
        before = λ a e. (let le = before_it acc d.block a e in omega (arith, first, le));
        least = ((λ isnt. (let le = lesser_le acc d.block in omega (arith, first, le))), f.least);
      }
    where
      go : (Some (lesser acc d.block) ≡ Some b) ⊎ HasOut ds b → (acc ≡ Some b) ⊎ HasOut (d ∷ ds) b
      go (inl e) = let same : lesser acc d.block ≡ b = cc in told d ds acc b out same
      go (inr o) = inr (more_out d ds b o)

  found : (acc : Option ℕ) (ds : List HeldDigest) (o : Option ℕ) → least_with acc ds ≡ o → IsFound acc ds o
  found acc [] o e = none_more acc o e
  found acc (d ∷ ds) o e =
      by (is_joined h c.database (first_block c.records) c.records d) refl (λ so. found acc ds o so) (λ so. found (Some (lesser acc d.block)) ds o so) e
    where
      by : (b : Bool) → is_joined h c.database (first_block c.records) c.records d ≡ b → (least_with acc ds ≡ o → IsFound acc ds o)
          → (least_with (Some (lesser acc d.block)) ds ≡ o → IsFound (Some (lesser acc d.block)) ds o)
          → least_with (if b then acc else Some (lesser acc d.block)) ds ≡ o → IsFound acc (d ∷ ds) o
      by true is same other e = when_joined d ds acc o ((joined_one h c d).0 is) (same e)
      by false is same other e = when_out d ds acc o (λ j. (let so = (joined_one h c d).1 j in cc)) (other e)

  pub least_is : (ds : List HeldDigest) (o : Option ℕ) → o ≡ least_with None ds → IsLeastUnjoined h c ds o
  least_is ds None e = (found None ds None (sym e)).1
  least_is ds (Some b) e = go (found None ds (Some b) (sym e))
    where
      go : IsLeastWith None ds b → IsLeastUnjoined h c ds (Some b)
      go f = with_out f.from
        where
          with_out : (None ≡ Some b) ⊎ HasOut ds b → IsLeastUnjoined h c ds (Some b)
          with_out (inl none) = cc
          with_out (inr o) = record { d = o.d; among = o.among; unjoined = o.out; of = o.of; least = f.least }
