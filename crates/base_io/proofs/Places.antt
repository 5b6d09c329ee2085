-- The first entry of a name: where it stands, and what putting another in its place or one at the end changes.
use Rattle.std.proofs.Common.{◌≡◌, ◌≢◌, ℕ, zero, suc, ◌+◌, ◌<◌, List, [], ◌∷◌, ◌++◌, length, get_or, slice_set, refl, sym, subst, Bool, true, false, cond, bytes_eq, Option, Some, None, MatchOption, IfSome, IfNone, arith}
use Rattle.std.specs.List.{position_from}
use Rattle.std.proofs.lemmas.Slice.Eq.{bytes_eq-Decides}
use Rattle.base_io.specs.Store.{Absent}
use Rattle.base_io.specs.Entries.{shown, held_in, HoldsNow, IsPlaceOf}
use Rattle.base_io.specs.declared.mem_vault.Entry.{Entry}

-- ---- the search

-- where the search that counts from i finds the name, or that no entry has it
abbrev Found : List ℕ → List Entry → ℕ → Option ℕ → Type 0
Found name es i found = MatchOption found (held_in es name ≡ Absent) (λ at. (k : ℕ) × (at ≡ i + k) × IsPlaceOf es name k)

behind : (name : List ℕ) (e : Entry) (es : List Entry) (i : ℕ) → bytes_eq e.name name ≡ false → (found : Option ℕ) → Found name es (i + 1) found
    → MatchOption found (held_in es name ≡ Absent) (λ at. (k : ℕ) × (at ≡ i + k) × IsPlaceOf (e ∷ es) name k)
behind name e es i is None rest = rest
behind name e es i is (Some at) rest = (suc rest.0, omega (arith, rest.1), (is, rest.2))

step : (name : List ℕ) (e : Entry) (es : List Entry) (i : ℕ) (b : Bool) → bytes_eq e.name name ≡ b → (found : Option ℕ) → Found name es (i + 1) found
    → MatchOption (cond b (Some i) found) (cond b (shown e.held) (held_in es name) ≡ Absent) (λ at. (k : ℕ) × (at ≡ i + k) × IsPlaceOf (e ∷ es) name k)
step name e es i true is found rest = (0, omega arith, is)
step name e es i false is found rest = behind name e es i is found rest

found_from : (name : List ℕ) (es : List Entry) (i : ℕ) → Found name es i (position_from (λ e. bytes_eq e.name name) i es)
found_from name [] i = refl
found_from name (e ∷ es) i = step name e es i (bytes_eq e.name name) refl (position_from (λ e. bytes_eq e.name name) (i + 1) es) (found_from name es (i + 1))

pub within : (es : List Entry) (name : List ℕ) (at : ℕ) → IsPlaceOf es name at → at < length es
within [] name at here = absurd here
within (e ∷ es) name zero here = omega arith
within (e ∷ es) name (suc at) here = let ih = within es name at here.1 in omega arith

pub none_found : (name : List ℕ) (es : List Entry) (found : Option ℕ) → found ≡ position_from (λ e. bytes_eq e.name name) 0 es → IfNone found (held_in es name ≡ Absent)
none_found name es (Some at) is = tt
none_found name es None is = let P : Option ℕ → Type 0 = λ o. Found name es 0 o in subst P (sym is) (found_from name es 0)

pub place_found : (name : List ℕ) (es : List Entry) (found : Option ℕ) → found ≡ position_from (λ e. bytes_eq e.name name) 0 es → IfSome found (λ at. IsPlaceOf es name at)
place_found name es None is = tt
place_found name es (Some at) is =
    let P : Option ℕ → Type 0 = λ o. Found name es 0 o in
    let f : Found name es 0 (Some at) = subst P (sym is) (found_from name es 0) in
    let Q : ℕ → Type 0 = λ k. IsPlaceOf es name k in
    let same : f.0 ≡ at = omega (arith, f.1) in
    subst Q same f.2

pub within_found : (name : List ℕ) (es : List Entry) (found : Option ℕ) → found ≡ position_from (λ e. bytes_eq e.name name) 0 es → IfSome found (λ at. at < length es)
within_found name es None is = tt
within_found name es (Some at) is = within es name at (place_found name es (Some at) is)

-- ---- what stands there

pub held_at : (es : List Entry) (name : List ℕ) (at : ℕ) (e : Entry) → IsPlaceOf es name at → e ≡ get_or es at e → held_in es name ≡ shown e.held
held_at [] name at e here is = absurd here
held_at (x ∷ es) name zero e here is = rw (here, is) refl
held_at (x ∷ es) name (suc at) e here is = rw here.0 (held_at es name at e here.1 is)

same_name : (a name other : List ℕ) → bytes_eq a name ≡ true → other ≢ name → bytes_eq a other ≡ false
same_name a name other is ne = let d = bytes_eq-Decides a name in let f = bytes_eq-Decides a other in grind arith

-- ---- another in its place, and one at the end

pub replaced_here : (es : List Entry) (name : List ℕ) (at : ℕ) (e : Entry) → IsPlaceOf es name at → bytes_eq e.name name ≡ true → held_in (slice_set es at e) name ≡ shown e.held
replaced_here [] name at e here is = absurd here
replaced_here (x ∷ es) name zero e here is = rw is refl
replaced_here (x ∷ es) name (suc at) e here is = rw here.0 (replaced_here es name at e here.1 is)

pub replaced_elsewhere : (es : List Entry) (name : List ℕ) (at : ℕ) (e : Entry) (other : List ℕ) → IsPlaceOf es name at → bytes_eq e.name name ≡ true → other ≢ name → held_in (slice_set es at e) other ≡ held_in es other
replaced_elsewhere [] name at e other here is ne = absurd here
replaced_elsewhere (x ∷ es) name zero e other here is ne = rw (same_name e.name name other is ne, same_name x.name name other here ne) refl
replaced_elsewhere (x ∷ es) name (suc at) e other here is ne = rw (replaced_elsewhere es name at e other here.1 is ne) refl

-- an entry says something, so the first of a name that nobody has isn't among those before
added_behind : (x : Entry) (es : List Entry) (e : Entry) (name : List ℕ) (b : Bool) (held : Option (List ℕ)) → cond b (shown held) (held_in es name) ≡ Absent
    → (held_in es name ≡ Absent → held_in (es ++ e ∷ []) name ≡ shown e.held) → cond b (shown held) (held_in (es ++ e ∷ []) name) ≡ shown e.held
added_behind x es e name false held none rest = rest none
added_behind x es e name true (Some bytes) none rest = absurd cc
added_behind x es e name true None none rest = absurd cc

pub added_here : (es : List Entry) (e : Entry) (name : List ℕ) → held_in es name ≡ Absent → bytes_eq e.name name ≡ true → held_in (es ++ e ∷ []) name ≡ shown e.held
added_here [] e name none is = rw is refl
added_here (x ∷ es) e name none is = added_behind x es e name (bytes_eq x.name name) x.held none (λ rest. added_here es e name rest is)

pub added_elsewhere : (es : List Entry) (e : Entry) (name other : List ℕ) → bytes_eq e.name name ≡ true → other ≢ name → held_in (es ++ e ∷ []) other ≡ held_in es other
added_elsewhere [] e name other is ne = rw (same_name e.name name other is ne) refl
added_elsewhere (x ∷ es) e name other is ne = rw (added_elsewhere es e name other is ne) refl

abbrev entry_of : List ℕ → Option (List ℕ) → Entry
entry_of name held = record { name = name; held = held }

place_name : (es : List Entry) (name : List ℕ) (at : ℕ) (e : Entry) → IsPlaceOf es name at → e ≡ get_or es at e → bytes_eq e.name name ≡ true
place_name [] name at e here is = absurd here
place_name (x ∷ es) name zero e here is = rw is here
place_name (x ∷ es) name (suc at) e here is = place_name es name at e here.1 is

-- an entry of the name with something else takes the first one's place
pub replaced : (es : List Entry) (name : List ℕ) (at : ℕ) (old : Entry) (held : Option (List ℕ)) → IsPlaceOf es name at → old ≡ get_or es at old → HoldsNow es (slice_set es at (entry_of old.name held)) name (shown held)
replaced es name at old held here is =
    let named : bytes_eq old.name name ≡ true = place_name es name at old here is in
    record {
      here = replaced_here es name at (entry_of old.name held) here named;
      elsewhere = λ other ne. replaced_elsewhere es name at (entry_of old.name held) other here named ne;
    }

-- an entry at the end, where none had the name
pub added : (es new : List Entry) (name copy : List ℕ) (held : Option (List ℕ)) → held_in es name ≡ Absent → copy ≡ name → new ≡ es ++ entry_of copy held ∷ [] → HoldsNow es new name (shown held)
added es new name copy held none same is =
    let named : bytes_eq copy name ≡ true = (bytes_eq-Decides copy name).1 same in
    let made : HoldsNow es (es ++ entry_of copy held ∷ []) name (shown held) = record {
      here = added_here es (entry_of copy held) name none named;
      elsewhere = λ other ne. added_elsewhere es (entry_of copy held) name other named ne;
    } in
    let P : List Entry → Type 0 = λ xs. HoldsNow es xs name (shown held) in
    subst P (sym is) made
