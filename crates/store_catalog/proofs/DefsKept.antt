-- Definitions after one is added or takes the place of another.
use Rattle.std.proofs.Common.{◌≡◌, ◌<◌, ◌≤◌, ◌+◌, ◌-◌, ℕ, suc, zero, refl, sym, ap, subst, ◌∙◌, false, true, List, [], ◌∷◌, ◌++◌, length, get_or, take, Option, Some, None, arith, length-append}
use Rattle.std.proofs.lemmas.Bool.{eq-eqb, ne_eqb}
use Rattle.std.proofs.lemmas.List.{set-set, set-get_or, take-append-le}
use Rattle.std.specs.Prelude.{slice_set, ◌==◌}
use Rattle.std.specs.List.{AllByRecursion}
use Rattle.sql_value.specs.Stored.{is_in_range}
use Rattle.sql_types.specs.declared.table.TableDef.{TableDef}
use Rattle.sql_types.specs.declared.table.Part.{Part}
use Rattle.spec_model.specs.Agreement.{IdsFrom}
use Rattle.spec_model.specs.Catalog.{Defs, NamedPart, part_named, or_in, find_part}
use Rattle.law_frame.proofs.Alls.{all_append, all_weaker}
use Rattle.law_journal.specs.Described.{InRange}
use Rattle.law_journal.proofs.Created.{Created}
use Rattle.law_journal.proofs.SystemRows.{IsSmall}
use Rattle.spec_protocol.specs.CatalogVisits.{replaced_def}
use Rattle.store_catalog.specs.Definitions.{AreFormed}
use Rattle.store_catalog.specs.Names.{MayReplace}
use Rattle.store_catalog.specs.WorkedOut.{IsPlaced}
use Rattle.store_catalog.specs.declared.named_defs.PlacedDef.{PlacedDef}

-- ---- one more

ids_more : (n : ℕ) (def : TableDef) (defs : Defs) → IdsFrom n defs → def.id ≡ n + length defs → IdsFrom n (defs ++ def ∷ [])
ids_more n def [] ids is = (omega (arith, is), tt)
ids_more n def (d ∷ ds) ids is = (ids.0, ids_more (n + 1) def ds ids.1 (omega (arith, is)))

pub formed_more : (defs : Defs) (def : TableDef) → AreFormed defs → Created defs def → AreFormed (defs ++ def ∷ [])
formed_more defs def h c = record {
  ids = ids_more 1 def defs h.ids (omega (arith, c.id));
  count = omega (arith, c.room, length-append defs (def ∷ []));
  few = all_append (λ (d : TableDef). length d.columns ≤ 64) defs (def ∷ []) h.few (c.count, tt);
  types = all_append InRange defs (def ∷ []) h.types (all_weaker IsSmall (λ x. is_in_range x.ty ≡ true) (λ x s. s.ty) def.columns c.columns, tt);
}

pub before_more : (defs : Defs) (def : TableDef) → take (length (defs ++ def ∷ []) - 1) (defs ++ def ∷ []) ≡ defs
before_more defs def =
    let one : length (defs ++ def ∷ []) - 1 ≡ length defs = omega (arith, length-append defs (def ∷ [])) in
    ap (λ n. take n (defs ++ def ∷ [])) one ∙ take-append-le (length defs) defs (def ∷ []) (omega arith) ∙ whole defs
  where
    whole : (ds : Defs) → take (length ds) ds ≡ ds
    whole [] = refl
    whole (d ∷ ds) = ap (λ (es : Defs). d ∷ es) (whole ds)

-- the definitions after and before
pub formed_after : (defs after : Defs) (def : TableDef) → after ≡ defs ++ def ∷ [] → AreFormed defs → Created defs def → AreFormed after × AreFormed (take (length after - 1) after)
formed_after defs after def is h c = (
  subst AreFormed (sym is) (formed_more defs def h c),
  subst AreFormed (sym (ap (λ (ds : Defs). take (length ds - 1) ds) is ∙ before_more defs def)) h,
)

-- ---- one in the place of another

pub before_in_place : (defs : Defs) (p : ℕ) (new old : TableDef) → old ≡ get_or defs p old → slice_set (slice_set defs p new) p old ≡ defs
before_in_place defs p new old is = set-set defs p new old ∙ ap (slice_set defs p) is ∙ set-get_or defs p old

length_set : (defs : Defs) (p : ℕ) (new : TableDef) → length (slice_set defs p new) ≡ length defs
length_set [] p new = refl
length_set (d ∷ ds) zero new = refl
length_set (d ∷ ds) (suc p) new = ap suc (length_set ds p new)

ids_in_place : (n p : ℕ) (new : TableDef) (defs : Defs) → IdsFrom n defs → new.id ≡ n + p → IdsFrom n (slice_set defs p new)
ids_in_place n p new [] ids is = tt
ids_in_place n zero new (d ∷ ds) ids is = (omega (arith, is), ids.1)
ids_in_place n (suc p) new (d ∷ ds) ids is = (ids.0, ids_in_place (n + 1) p new ds ids.1 (omega (arith, is)))

all_in_place : (P : TableDef → Type 0) (p : ℕ) (new : TableDef) (defs : Defs) → AllByRecursion P defs → P new → AllByRecursion P (slice_set defs p new)
all_in_place P p new [] h own = tt
all_in_place P zero new (d ∷ ds) h own = (own, h.1)
all_in_place P (suc p) new (d ∷ ds) h own = (h.0, all_in_place P p new ds h.1 own)

formed_in_place : (defs : Defs) (p : ℕ) (new : TableDef) → AreFormed defs → new.id ≡ p + 1 → length new.columns ≤ 64 → InRange new → AreFormed (slice_set defs p new)
formed_in_place defs p new h is few types = record {
  ids = ids_in_place 1 p new defs h.ids (omega (arith, is));
  count = omega (arith, h.count, length_set defs p new);
  few = all_in_place (λ (d : TableDef). length d.columns ≤ 64) p new defs h.few few;
  types = all_in_place InRange p new defs h.types types;
}

none_from : (new : TableDef) (n : ℕ) (defs : Defs) → IdsFrom n defs → new.id < n → replaced_def new defs ≡ defs
none_from new n [] ids below = refl
none_from new n (d ∷ ds) ids below =
    let other : (d.id == new.id) ≡ false = ne_eqb d.id new.id (λ same. omega (arith, ids.0, same, below)) in
    let rest : replaced_def new ds ≡ ds = none_from new (n + 1) ds ids.1 (omega (arith, below)) in
    rw (other, rest) refl

one_from : (new : TableDef) (n p : ℕ) (defs : Defs) → IdsFrom n defs → new.id ≡ n + p → p < length defs → slice_set defs p new ≡ replaced_def new defs
one_from new n p [] ids is inside = absurd (omega arith)
one_from new n zero (d ∷ ds) ids is inside =
    let same : (d.id == new.id) ≡ true = eq-eqb d.id new.id (omega (arith, ids.0, is)) in
    let rest : replaced_def new ds ≡ ds = none_from new (n + 1) ds ids.1 (omega (arith, is)) in
    rw (same, rest) refl
one_from new n (suc p) (d ∷ ds) ids is inside =
    let other : (d.id == new.id) ≡ false = ne_eqb d.id new.id (λ same. omega (arith, ids.0, same, is)) in
    rw other (ap (λ (es : Defs). d ∷ es) (one_from new (n + 1) p ds ids.1 (omega (arith, is)) (omega (arith, inside))))

pub replaced_in_place : (defs : Defs) (p : ℕ) (new : TableDef) → IdsFrom 1 defs → new.id ≡ p + 1 → p < length defs → slice_set defs p new ≡ replaced_def new defs
replaced_in_place defs p new ids is inside = one_from new 1 p defs ids (omega (arith, is)) inside

-- a definition in its table's place, and what was there
module _ (defs after : Defs) (placed r : PlacedDef) (p : IsPlaced defs placed) (is : after ≡ slice_set defs placed.place placed.def) where
  pub defs_instead : AreFormed defs → after ≡ replaced_def placed.def defs
  defs_instead h = is ∙ replaced_in_place defs placed.place placed.def h.ids p.place p.may.within

  module _ (at : r.place ≡ placed.place) (there : r.def ≡ get_or defs placed.place r.def) where
    pub before_instead : slice_set after r.place r.def ≡ defs
    before_instead = (λ i. slice_set (is i) (at i) r.def) ∙ before_in_place defs placed.place placed.def r.def there

    -- the definitions after and before
    pub formed_instead : AreFormed defs → MayReplace after r → AreFormed after × (AreFormed (slice_set after r.place r.def) × MayReplace after r)
    formed_instead h back = (
      subst AreFormed (sym is) (formed_in_place defs placed.place placed.def h p.place p.few p.types),
      (subst AreFormed (sym before_instead) h, back),
    )

-- ---- the place of what a name stands for

-- the definition stands at this place, counted from n
pub record IsListedAt (n : ℕ) (defs : Defs) (def : TableDef) : Type 0 where
  pub place : ℕ
  pub id : def.id ≡ n + place
  pub within : place < length defs
  pub there : (d : TableDef) → get_or defs place d ≡ def

listed_behind : (n : ℕ) (defs : Defs) (d def : TableDef) → IsListedAt (n + 1) defs def → IsListedAt n (d ∷ defs) def
listed_behind n defs d def s = record {
  place = suc s.place;
  id = omega (arith, s.id);
  within = omega (arith, s.within);
  there = s.there;
}

by_part : (n : ℕ) (def : TableDef) (defs : Defs) (part : Option Part) (rest : Option NamedPart) (x : NamedPart) → or_in part def rest ≡ Some x → def.id ≡ n → (rest ≡ Some x → IsListedAt (n + 1) defs x.0) → IsListedAt n (def ∷ defs) x.0
by_part n def defs (Some part) rest x e is behind =
    let it : (def, part) ≡ x = cc in
    subst (λ (y : NamedPart). IsListedAt n (def ∷ defs) y.0) it (record { place = 0; id = omega (arith, is); within = omega arith; there = λ d. refl })
by_part n def defs None rest x e is behind = listed_behind n defs def x.0 (behind e)

pub found_is_listed : (n : ℕ) (defs : Defs) (name : List ℕ) (x : NamedPart) → IdsFrom n defs → find_part defs name ≡ Some x → IsListedAt n defs x.0
unfolding find_part
found_is_listed n [] name x ids e = cc
found_is_listed n (def ∷ defs) name x ids e = by_part n def defs (part_named def name) (find_part defs name) x e ids.0 (λ k. found_is_listed (n + 1) defs name x ids.1 k)

-- ---- what holds of each definition holds of the one that a name stands for

all_by_part : (P : TableDef → Type 0) (def : TableDef) (part : Option Part) (rest : Option NamedPart) (x : NamedPart) → or_in part def rest ≡ Some x → P def → (rest ≡ Some x → P x.0) → P x.0
all_by_part P def (Some part) rest x e here behind = (let it : (def, part) ≡ x = cc in subst (λ (n : NamedPart). P n.0) it here)
all_by_part P def None rest x e here behind = behind e

pub found_all : (P : TableDef → Type 0) (defs : Defs) (name : List ℕ) (x : NamedPart) → find_part defs name ≡ Some x → AllByRecursion P defs → P x.0
unfolding find_part
found_all P [] name x e h = cc
found_all P (def ∷ defs) name x e h = all_by_part P def (part_named def name) (find_part defs name) x e h.0 (λ k. found_all P defs name x k h.1)
