-- Undo from a number on, and then from one that isn't above it.
use Rattle.std.proofs.Common.{◌≡◌, ◌≤◌, ℕ, refl, ap, Bool, true, false, List, [], ◌∷◌, Option, Some, None, arith}
use Rattle.std.proofs.lemmas.Bool.{le-leb, leb-true}
use Rattle.std.specs.Prelude.{◌==◌, ◌&&◌, nat_le, if◌then◌else◌}
use Rattle.sql_types.specs.declared.version.Table.{Table}
use Rattle.sql_types.specs.declared.version.Version.{Version}
use Rattle.spec_model.specs.Rows.{EventId}
use Rattle.spec_model.specs.Catalog.{Tables, with_versions}
use Rattle.spec_model.specs.Undo.{is_undone, end_left, end_undone, versions_undone, undone}

module _ (tx a n : ℕ) (le : a ≤ n) where
  undone_too : (e : EventId) → is_undone tx n e ≡ true → is_undone tx a e ≡ true
  undone_too e h = here (e.0 == tx) (nat_le n e.1) refl h
    where
      here : (b c : Bool) → nat_le n e.1 ≡ c → (b && c) ≡ true → (b && nat_le a e.1) ≡ true
      here true true j k = le-leb a e.1 (omega (arith, le, leb-true n e.1 j))
      here true false j k = cc
      here false c j k = cc

  end_by : (e : EventId) (b c : Bool) → is_undone tx a e ≡ c → (b ≡ true → c ≡ true) → end_left tx a (if b then None else Some e) ≡ (if c then None else Some e)
  end_by e true true k f = refl
  end_by e true false k f = (let no : false ≡ true = f refl in cc)
  end_by e false c k f = rw k refl

  end_twice : (o : Option EventId) → end_left tx a (end_left tx n o) ≡ end_left tx a o
  end_twice None = refl
  end_twice (Some e) = end_by e (is_undone tx n e) (is_undone tx a e) refl (undone_too e)

  with_this_end : Version → Option EventId → Version
  with_this_end v o = record { values = v.values; start = v.start; end = o }

  version_twice : (v : Version) → end_undone tx a (end_undone tx n v) ≡ end_undone tx a v
  unfolding with_this_end
  version_twice v = ap (with_this_end v) (end_twice v.end)

  one_more : (v : Version) (vs : List Version) (b c : Bool) → is_undone tx n v.start ≡ b → is_undone tx a v.start ≡ c → (b ≡ true → c ≡ true)
      → versions_undone tx a (versions_undone tx n vs) ≡ versions_undone tx a vs → versions_undone tx a (versions_undone tx n (v ∷ vs)) ≡ versions_undone tx a (v ∷ vs)
  one_more v vs true true e k f h = rw (e, k) h
  one_more v vs true false e k f h = (let no : false ≡ true = f refl in cc)
  one_more v vs false true e k f h = rw e (rw k h)
  one_more v vs false false e k f h = rw e (rw k (rw (version_twice v, h) refl))

  pub versions_twice : (vs : List Version) → versions_undone tx a (versions_undone tx n vs) ≡ versions_undone tx a vs
  versions_twice [] = refl
  versions_twice (v ∷ vs) = one_more v vs (is_undone tx n v.start) (is_undone tx a v.start) refl refl (undone_too v.start) (versions_twice vs)

  table_twice : (t : Table) → with_versions (versions_undone tx a) (with_versions (versions_undone tx n) t) ≡ with_versions (versions_undone tx a) t
  table_twice t = ap (λ (vs : List Version). with_versions (λ ws. vs) t) (versions_twice t.versions)

  pub undone_twice : (T : Tables) → undone tx a (undone tx n T) ≡ undone tx a T
  unfolding undone
  undone_twice [] = refl
  undone_twice (t ∷ ts) = rw (table_twice t, undone_twice ts) refl
