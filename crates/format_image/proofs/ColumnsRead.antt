-- Reading so many columns, as a loop does, with the ordinals of those that were dropped.
use Rattle.std.proofs.Common.{◌≡◌, ℕ, suc, ◌-◌, ◌+◌, ◌≤◌, ◌<◌, Bool, true, false, List, [], ◌∷◌, ◌++◌, Option, Some, None, refl, sym, ap, ap₂, ◌∙◌, append_assoc, arith, append-nil}
use Rattle.std.specs.Prelude.{if◌then◌else◌}
use Rattle.base_fields.specs.declared.read_error.ReadError.{ReadError}
use Rattle.base_fields.specs.declared.read_error.ReadError.TheVariants.{Memory, Malformed}
use Rattle.base_fields.specs.Readers.{Reader, ◌>>=◌, times}
use Rattle.base_fields.specs.Reading.{Fails}
use Rattle.sql_value.specs.declared.column.ColumnDef.{ColumnDef}
use Rattle.format_image.specs.DefBytes.{MarkedColumn}
use Rattle.format_image.specs.ImageReading.{without_marks, dropped_among, Columns}

-- what was read before, and what is still read, the first of which has this ordinal
abbrev pub ahead : List ColumnDef → List ℕ → ℕ → Option (List MarkedColumn × List ℕ) → Option (Columns × List ℕ)
ahead columns dropped n read =
    read >>= λ x. Some ((columns ++ without_marks x.0, dropped ++ dropped_among n x.0), x.1)

-- the ordinal of a column that was dropped
abbrev pub own : Bool → ℕ → List ℕ
own dropped n = if dropped then n ∷ [] else []

ordinals_on : (ds : List ℕ) (b : Bool) (n : ℕ) (more : List ℕ) → ds ++ (if b then n ∷ more else more) ≡ (ds ++ own b n) ++ more
ordinals_on ds true n more = sym (append_assoc ds (n ∷ []) more)
ordinals_on ds false n more = ap (λ (l : List ℕ). l ++ more) (sym (append-nil ds))

regroup : (cs : List ColumnDef) (ds : List ℕ) (n : ℕ) (c : ColumnDef) (b : Bool) (read : Option (List MarkedColumn × List ℕ))
    → ahead cs ds n (read >>= λ x. Some ((c, b) ∷ x.0, x.1)) ≡ ahead (cs ++ c ∷ []) (ds ++ own b n) (suc n) read
regroup cs ds n c b None = refl
regroup cs ds n c b (Some x) =
    ap₂ (λ (l : List ColumnDef) (m : List ℕ). let o : Option (Columns × List ℕ) = Some ((l, m), x.1) in o)
    (sym (append_assoc cs (c ∷ []) (without_marks x.0))) (ordinals_on ds b n (dropped_among (suc n) x.0))

module _ (r : Reader MarkedColumn) where
  pub goes_on : (cs : List ColumnDef) (ds : List ℕ) (count i : ℕ) (bytes : List ℕ) (c : ColumnDef) (b : Bool) (after : List ℕ)
      (total : Option (Columns × List ℕ)) → i < count → r bytes ≡ Some ((c, b), after)
      → ahead cs ds (i + 1) (times r (count - i) bytes) ≡ total
      → ahead (cs ++ c ∷ []) (ds ++ own b (i + 1)) ((i + 1) + 1) (times r (count - (i + 1)) after) ≡ total
  goes_on cs ds count i bytes c b after total lt h so_far =
      let k : count - i ≡ suc (count - (i + 1)) = omega arith in
      let next : (i + 1) + 1 ≡ suc (i + 1) = omega arith in
      let one : ahead cs ds (i + 1) (times r (count - i) bytes) ≡ ahead (cs ++ c ∷ []) (ds ++ own b (i + 1)) (suc (i + 1)) (times r (count - (i + 1)) after) = rw (k, h) (regroup cs ds (i + 1) c b (times r (count - (i + 1)) after)) in
      ap (λ (n : ℕ). ahead (cs ++ c ∷ []) (ds ++ own b (i + 1)) n (times r (count - (i + 1)) after)) next ∙ sym one ∙ so_far

  pub ends : (e : ReadError) (cs : List ColumnDef) (ds : List ℕ) (count i : ℕ) (bytes : List ℕ)
      (total : Option (Columns × List ℕ)) → i < count → Fails e (r bytes)
      → ahead cs ds (i + 1) (times r (count - i) bytes) ≡ total → Fails e total
  ends Memory cs ds count i bytes total lt h so_far = tt
  ends Malformed cs ds count i bytes total lt h so_far =
      let k : count - i ≡ suc (count - (i + 1)) = omega arith in
      let one : ahead cs ds (i + 1) (times r (count - i) bytes) ≡ None = rw (k, h) refl in
      sym so_far ∙ one

  pub is_done : (cs : List ColumnDef) (ds : List ℕ) (count i : ℕ) (bytes : List ℕ) (total : Option (Columns × List ℕ)) → count ≤ i
      → ahead cs ds (i + 1) (times r (count - i) bytes) ≡ total → total ≡ Some ((cs, ds), bytes)
  is_done cs ds count i bytes total le so_far =
      let k : count - i ≡ 0 = omega arith in
      let one : ahead cs ds (i + 1) (times r (count - i) bytes) ≡ Some ((cs, ds), bytes) =
      rw k (ap₂ (λ (l : List ColumnDef) (m : List ℕ). let o : Option (Columns × List ℕ) = Some ((l, m), bytes) in o) (append-nil cs) (append-nil ds)) in
      sym so_far ∙ one
