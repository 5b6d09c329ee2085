-- The starts and ends in a table, part by part.
use Rattle.std.proofs.Common.{◌≡◌, ◌<◌, ◌+◌, ℕ, List, ◌++◌, append_assoc, length, get_or, drop, sym, ap, ◌∙◌, flat_map}
use Rattle.std.proofs.lemmas.List.Concat.{flat_map-append}
use Rattle.spec_model.specs.Events.{version_events}
use Rattle.audit_roots.specs.declared.shown.ImageTable.{ImageTable}
use Rattle.audit_roots.specs.Marks.{events_shown}
use Rattle.audit_roots.specs.ImageTable.{def_of, rows_of}
use Rattle.audit_definitions.proofs.Walks.{from_here}

pub events_of_parts : (s : ImageTable) → flat_map (version_events (def_of s).id) (rows_of s).base ++ flat_map (version_events (def_of s).id) (rows_of s).history ≡ events_shown s
events_of_parts s = sym (flat_map-append (version_events (def_of s).id) (rows_of s).base (rows_of s).history)

-- one element more
pub part_next : {A B : Type 0} (f : A → List B) (old new all : List B) (xs : List A) (k : ℕ) (x : A) → k < length xs → x ≡ get_or xs k x
    → new ≡ old ++ f x → old ++ flat_map f (drop k xs) ≡ all → new ++ flat_map f (drop (k + 1) xs) ≡ all
part_next {A} f old new all xs k x here is new_is all_is =
    let rest = flat_map f (drop (k + 1) xs) in
    ap (λ l. l ++ rest) new_is
    ∙ append_assoc old (f x) rest
    ∙ ap (λ l. old ++ l) (ap (λ (y : A). f y ++ rest) is ∙ sym (ap (flat_map f) (from_here xs k x here)))
    ∙ all_is
