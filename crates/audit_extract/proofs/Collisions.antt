-- Equal strings of bytes, or a collision of what is hashed in one thing and in another.
use Rattle.std.proofs.Common.{◌≡◌, ◌≢◌, ◌⊎◌, ℕ, zero, suc, Bool, true, false, List, [], ◌∷◌, take, drop, Some, refl, inl, inr}
use Rattle.std.specs.Prelude.{bytes_eq}
use Rattle.std.specs.List.{slice_get}
use Rattle.std.proofs.lemmas.Slice.Eq.{bytes_eq-Decides}
use Rattle.format_entry.specs.Record.{record_bytes}
use Rattle.sql_types.specs.declared.entry.BlockRecord.{BlockRecord}
use Rattle.audit_extract.specs.Collisions.{HasCollisionBetween, IsAtNode, IsRecordAmong}
use Rattle.audit_extract.specs.Hashed.{half, hashed}

module _ (h : List ℕ → List ℕ) where
  -- two strings with one hash
  pub equal_or : (S T : List ℕ → Type 0) (x y : List ℕ) → S x → T y → h x ≡ h y → (x ≡ y) ⊎ HasCollisionBetween h S T
  equal_or S T x y s t e = by (bytes_eq x y) refl
    where
      by : (b : Bool) → bytes_eq x y ≡ b → (x ≡ y) ⊎ HasCollisionBetween h S T
      by true is = inl ((bytes_eq-Decides x y).0 is)
      by false is = inr (record { first = x; second = y; first_is = s; second_is = t; collide = record { differ = differ is; same = e } })
        where
          differ : bytes_eq x y ≡ false → x ≢ y
          differ is = λ same. let yes = (bytes_eq-Decides x y).1 same in absurd cc

  -- what is one of these is one of more
  pub or_wider : {P : Type 0} (S T U V : List ℕ → Type 0) → ((x : List ℕ) → S x → U x) → ((y : List ℕ) → T y → V y) → P ⊎ HasCollisionBetween h S T → P ⊎ HasCollisionBetween h U V
  or_wider S T U V f g (inl p) = inl p
  or_wider S T U V f g (inr c) = inr (record { first = c.first; second = c.second; first_is = f c.first c.first_is; second_is = g c.second c.second_is; collide = c.collide })

  -- ---- nodes

  pub top_node : (leaves : List (List ℕ)) → IsAtNode h leaves (hashed h leaves)
  top_node leaves = record { path = []; is = refl }

  pub node_of_half : (side : Bool) (leaves : List (List ℕ)) (x : List ℕ) → IsAtNode h (half side leaves) x → IsAtNode h leaves x
  node_of_half side leaves x n = record { path = side ∷ n.path; is = n.is }

-- ---- records

pub first_record : (r : BlockRecord) (rs : List BlockRecord) → IsRecordAmong (r ∷ rs) (record_bytes r)
first_record r rs = record { place = 0; it = r; there = refl; is = refl }

pub later_record : (r : BlockRecord) (rs : List BlockRecord) (x : List ℕ) → IsRecordAmong rs x → IsRecordAmong (r ∷ rs) x
later_record r rs x a = record { place = suc a.place; it = a.it; there = a.there; is = a.is }

taken_there : (n k : ℕ) (rs : List BlockRecord) (r : BlockRecord) → slice_get (take n rs) k ≡ Some r → slice_get rs k ≡ Some r
taken_there zero k rs r there = cc
taken_there (suc n) k [] r there = cc
taken_there (suc n) zero (s ∷ rs) r there = there
taken_there (suc n) (suc k) (s ∷ rs) r there = taken_there n k rs r there

pub taken_record : (n : ℕ) (rs : List BlockRecord) (x : List ℕ) → IsRecordAmong (take n rs) x → IsRecordAmong rs x
taken_record n rs x a = record { place = a.place; it = a.it; there = taken_there n a.place rs a.it a.there; is = a.is }

pub left_record : (n : ℕ) (rs : List BlockRecord) (x : List ℕ) → IsRecordAmong (drop n rs) x → IsRecordAmong rs x
left_record zero rs x a = a
left_record (suc n) [] x a = a
left_record (suc n) (r ∷ rs) x a = later_record r rs x (left_record n rs x a)
