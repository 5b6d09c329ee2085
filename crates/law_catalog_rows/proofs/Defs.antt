-- The definitions after one has been made, or has taken the place of the one with its id.
use Rattle.std.proofs.Common.{◌≡◌, ◌≢◌, ◌≤◌, ◌<◌, ◌⊎◌, ℕ, ◌+◌, inl, inr, refl, sym, ap, subst, ◌∙◌, Bool, true, false, [], ◌∷◌, ◌++◌, length, arith}
use Rattle.std.proofs.lemmas.Bool.{eqb-true, eqb-false}
use Rattle.std.specs.Prelude.{◌==◌, if◌then◌else◌}
use Rattle.std.specs.List.{AllByRecursion}
use Rattle.sql_types.specs.declared.table.TableDef.{TableDef}
use Rattle.spec_model.specs.Catalog.{Defs}
use Rattle.spec_model.specs.Agreement.{IdsFrom}
use Rattle.law_journal.proofs.DefLists.{redef}
use Rattle.law_catalog_rows.specs.Encoded.{IsAmong}

-- ---- ids

same_ids : (d e : TableDef) → d ≡ e → d.id ≡ e.id
same_ids d e h = ap (λ (x : TableDef). x.id) h

-- an id from this one on, below that of a table to come
pub record HasId (n : ℕ) (ds : Defs) (def : TableDef) : Type 0 where
  pub from : n ≤ def.id
  pub below : def.id < n + length ds

pub has_id : (n : ℕ) (ds : Defs) → IdsFrom n ds → (def : TableDef) → IsAmong def ds → HasId n ds def
has_id n [] ids def a = absurd a
has_id n (d ∷ ds) ids def a = elim a [
  | inl p ↦ (let e = same_ids d def p in record { from = omega (arith, ids.0, e); below = omega (arith, ids.0, e) })
  | inr q ↦ (let r : HasId (n + 1) ds def = has_id (n + 1) ds ids.1 def q in record { from = omega (arith, r.from); below = omega (arith, r.below) })
]

pub of_among : (P : TableDef → Type 0) (ds : Defs) → AllByRecursion P ds → (def : TableDef) → IsAmong def ds → P def
of_among P [] h def a = absurd a
of_among P (d ∷ ds) h def a = elim a [ inl p ↦ subst P p h.0 | inr q ↦ of_among P ds h.1 def q ]

-- ---- a new one behind all others

pub but_last : (ds : Defs) (new def : TableDef) → IsAmong def (ds ++ new ∷ []) → IsAmong def ds ⊎ (new ≡ def)
but_last [] new def a = elim a [ inl p ↦ inr p | inr q ↦ absurd q ]
but_last (d ∷ ds) new def a = elim a [
  | inl p ↦ inl (inl p)
  | inr q ↦ elim (but_last ds new def q) [ inl r ↦ inl (inr r) | inr r ↦ inr r ]
]

pub still_among : (ds : Defs) (new def : TableDef) → IsAmong def ds → IsAmong def (ds ++ new ∷ [])
still_among [] new def a = absurd a
still_among (d ∷ ds) new def a = elim a [ inl p ↦ inl p | inr q ↦ inr (still_among ds new def q) ]

pub last_among : (ds : Defs) (new : TableDef) → IsAmong new (ds ++ new ∷ [])
last_among [] new = inl refl
last_among (d ∷ ds) new = inr (last_among ds new)

-- ---- another one in the place of one

module _ (new : TableDef) where
  abbrev NewOrOther : TableDef → Defs → Type 0
  NewOrOther def ds = (new ≡ def) ⊎ (IsAmong def ds × (def.id ≢ new.id))

  pub new_or_other : (ds : Defs) (def : TableDef) → IsAmong def (redef new ds) → NewOrOther def ds
  new_or_other [] def a = absurd a
  new_or_other (d ∷ ds) def a = elim a [
    | inl p ↦ here (d.id == new.id) refl p
    | inr q ↦ elim (new_or_other ds def q) [ inl r ↦ inl r | inr r ↦ inr (inr r.0, r.1) ]
  ]
    where
      here : (b : Bool) → (d.id == new.id) ≡ b → (if b then new else d) ≡ def → NewOrOther def (d ∷ ds)
      here true e p = inl p
      here false e p = inr (inl p, (λ same. eqb-false d.id new.id e (same_ids d def p ∙ same)))

  -- who has the id of one that is among them
  pub record InItsPlace (ds : Defs) (def : TableDef) : Type 0 where
    pub other : TableDef
    pub among : IsAmong other (redef new ds)
    pub same : other.id ≡ def.id

  pub in_its_place : (ds : Defs) (def : TableDef) → IsAmong def ds → InItsPlace ds def
  in_its_place [] def a = absurd a
  in_its_place (d ∷ ds) def a = elim a [
    | inl p ↦ here (d.id == new.id) refl p
    | inr q ↦ (let r : InItsPlace ds def = in_its_place ds def q in record { other = r.other; among = inr r.among; same = r.same })
  ]
    where
      at_it : (b : Bool) (x : TableDef) → (d.id == new.id) ≡ b → (if b then new else d) ≡ x → IsAmong x (redef new (d ∷ ds))
      at_it b x e is = rw e (inl is)

      here : (b : Bool) → (d.id == new.id) ≡ b → d ≡ def → InItsPlace (d ∷ ds) def
      here true e p = record { other = new; among = at_it true new e refl; same = sym (eqb-true d.id new.id e) ∙ same_ids d def p }
      here false e p = record { other = d; among = at_it false d e refl; same = same_ids d def p }
