-- What is covered hangs on the blocks up to the digest's own.
use Rattle.std.proofs.Common.{◌≡◌, ◌<◌, ◌≤◌, ◌+◌, ◌∙◌, ℕ, refl, sym, ap, arith, List, [], ◌∷◌, ◌++◌, map, take, length}
use Rattle.std.proofs.lemmas.List.{take-append-le}
use Rattle.std.specs.Prelude.{◌↔◌}
use Rattle.std.specs.List.{AllByRecursion, sum_by}
use Rattle.sql_types.specs.declared.entry.BlockRecord.{BlockRecord}
use Rattle.sql_types.specs.declared.entry.TxEntry.{TxEntry}
use Rattle.sql_types.specs.declared.image.Image.{Image}
use Rattle.spec_model.specs.Catalog.{Tables}
use Rattle.format_image.specs.Tables.{tables_in}
use Rattle.spec_verify.specs.Blocks.{entries_before}
use Rattle.spec_verify.specs.Covered.{TableEvents, CoveredEntry, told_of, covered_entry, entries_upto, covered_of, AgreeUpTo, Saying, saying_of, SayTheSameUpTo, with_more}

-- the entry with these events
abbrev with_told : TxEntry → List TableEvents → CoveredEntry
with_told e told = record { block = e.block; ordinal = e.ordinal; id = e.id; time = e.time; principal = e.principal; tables = told }

each : (S T : Tables) (entries : List TxEntry) → AllByRecursion (λ (e : TxEntry). told_of e.id S ≡ told_of e.id T) entries → map (covered_entry S) entries ≡ map (covered_entry T) entries
each S T [] h = refl
each S T (e ∷ es) h = ap (λ x. x ∷ map (covered_entry S) es) (ap (with_told e) h.0) ∙ ap (λ xs. covered_entry T e ∷ xs) (each S T es h.1)

pub same_covered : (b : ℕ) (i j : Image) → AgreeUpTo b i j → covered_of i b ≡ covered_of j b
unfolding covered_of
same_covered b i j a = each (tables_in i) (tables_in j) (take (entries_before i (b + 1)) i.entries) a.events ∙ ap (map (covered_entry (tables_in j))) a.entries

same_count : (b : ℕ) (i : Image) (blocks : List BlockRecord) (entries : List TxEntry) → b < length i.blocks → entries_before (with_more i blocks entries) (b + 1) ≡ entries_before i (b + 1)
same_count b i blocks entries lt = ap (sum_by (λ (r : BlockRecord). r.size)) (take-append-le (b + 1) i.blocks blocks (omega (arith, lt)))

pub behind_not_covered : (b : ℕ) (i : Image) (blocks : List BlockRecord) (entries : List TxEntry) → b < length i.blocks → entries_before i (b + 1) ≤ length i.entries → covered_of (with_more i blocks entries) b ≡ covered_of i b
unfolding covered_of
behind_not_covered b i blocks entries lt le =
    ap (map (covered_entry (tables_in i)))
    (ap (λ n. take n (i.entries ++ entries)) (same_count b i blocks entries lt) ∙ take-append-le (entries_before i (b + 1)) i.entries entries le)

-- ---- and covers all of this

abbrev covered_from : Saying → List TableEvents → CoveredEntry
covered_from s told = record { block = s.0; ordinal = s.1; id = s.2; time = s.3; principal = s.4; tables = told }

abbrev said_in : CoveredEntry → Saying
said_in c = (c.block, c.ordinal, c.id, c.time, c.principal)

sayings : (T : Tables) (entries : List TxEntry) → map said_in (map (covered_entry T) entries) ≡ map saying_of entries
sayings T [] = refl
sayings T (e ∷ es) = ap (λ xs. saying_of e ∷ xs) (sayings T es)

abbrev told_by : Tables → TxEntry → List TableEvents
told_by T e = told_of e.id T

tellings : (T : Tables) (entries : List TxEntry) → map (λ (c : CoveredEntry). c.tables) (map (covered_entry T) entries) ≡ map (told_by T) entries
tellings T [] = refl
tellings T (e ∷ es) = ap (λ xs. told_by T e ∷ xs) (tellings T es)

one_head : {A : Type 0} (x y : A) (xs ys : List A) → (x ∷ xs) ≡ (y ∷ ys) → (x ≡ y) × (xs ≡ ys)
one_head x y xs ys e = (cc, cc)

rebuilt : (S T : Tables) (es ds : List TxEntry) → map saying_of es ≡ map saying_of ds → map (told_by S) es ≡ map (told_by T) ds → map (covered_entry S) es ≡ map (covered_entry T) ds
rebuilt S T [] [] p q = refl
rebuilt S T [] (d ∷ ds) p q = cc
rebuilt S T (e ∷ es) [] p q = cc
rebuilt S T (e ∷ es) (d ∷ ds) p q =
    let a = one_head (saying_of e) (saying_of d) (map saying_of es) (map saying_of ds) p in
    let b = one_head (told_by S e) (told_by T d) (map (told_by S) es) (map (told_by T) ds) q in
    ap (λ s. covered_from s (told_by S e) ∷ map (covered_entry S) es) a.0
    ∙ ap (λ t. covered_from (saying_of d) t ∷ map (covered_entry S) es) b.0
    ∙ ap (λ xs. covered_entry T d ∷ xs) (rebuilt S T es ds a.1 b.1)

pub covered_exactly : (b : ℕ) (i j : Image) → (covered_of i b ≡ covered_of j b) ↔ SayTheSameUpTo b i j
unfolding covered_of
covered_exactly b i j = (
  λ e. record {
    entries = sym (sayings (tables_in i) (entries_upto i b)) ∙ ap (map said_in) e ∙ sayings (tables_in j) (entries_upto j b);
    events = sym (tellings (tables_in i) (entries_upto i b)) ∙ ap (map (λ (c : CoveredEntry). c.tables)) e ∙ tellings (tables_in j) (entries_upto j b);
  },
  λ s. rebuilt (tables_in i) (tables_in j) (entries_upto i b) (entries_upto j b) s.entries s.events,
)
