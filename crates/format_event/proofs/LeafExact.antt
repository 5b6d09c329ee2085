-- Leaves are read exactly as they are written.
use Rattle.std.proofs.Common.{◌≡◌, ◌<◌, ◌^◌, ℕ, Bool, true, false, cond, List, [], ◌∷◌, ◌++◌, length, Option, Some, None, refl, sym, ap, subst, ◌∙◌, arith}
use Rattle.std.specs.Prelude.{IfSome, filter, ◌==◌}
use Rattle.std.specs.List.{AllByRecursion}
use Rattle.std.proofs.lemmas.Bool.{eqb-true}
use Rattle.std.proofs.lemmas.List.{append-nil}
use Rattle.base_fields.specs.Fields.{u8_field, u16_field, u32_field, u64_field, long_field}
use Rattle.base_fields.specs.Readers.{◌>>=◌, u8_at, u16_at, u32_at, u64_at, long_at, both, depends, mapped, listed, whole}
use Rattle.base_fields.specs.Exact.{IsBytes, Exact, Taken}
use Rattle.base_fields.proofs.Written.{IsBytes-back, bind_some, some_is, u8_exact, u16_exact, u32_exact, u64_exact, long_exact}
use Rattle.base_fields.proofs.Parts.{after_exact, both_exact, depends_exact, decoded_exact, where_exact, listed_exact, one_value, test_some, whole_sound, whole_complete}
use Rattle.sql_value.specs.declared.sql_type.SqlType.{SqlType}
use Rattle.sql_value.specs.Stored.{is_stored}
use Rattle.sql_types.specs.declared.event.Event.{Event}
use Rattle.sql_types.specs.declared.event.EventField.{EventField}
use Rattle.format_event.specs.Leaf.{type_bytes, value_bytes, column_bytes, columns_bytes, start_bytes, op_of, encoded, event_bytes, has_value, without_nulls, ordinals_rise, IsPair, IsField, IsEvent}
use Rattle.format_event.specs.LeafReading.{type_at, value_of, field, field_of, column_at, columns_at, Head, head_at, some_start, start_at, event_of, event_at}
use Rattle.format_event.proofs.TypeLaws.{FitsFields, type_exact, in_range_fits}
use Rattle.format_event.proofs.Sizes.{value_small}
use Rattle.format_event.proofs.ValueLaws.{value_there, value_back, stored_in_range}

-- ---- columns

abbrev Parts : Type 0
Parts = ℕ × (SqlType × List ℕ)

abbrev FitParts : Parts → Type 0
FitParts x = (x.0 < 2 ^ 16) × (FitsFields x.1.0 × (length x.1.1 < 2 ^ 32))

abbrev encode_parts : Parts → List ℕ
encode_parts x = u16_field x.0 ++ (type_bytes x.1.0 ++ long_field x.1.1)

abbrev parts_of : EventField → Parts
parts_of f = (f.ordinal, (f.ty, value_bytes f.ty f.value))

column_there : (f : EventField) → IsField f → field_of (parts_of f) ≡ Some f
column_there f fits = rw (value_there f.ty f.value (record { told = fits.told; stored = fits.stored; text = fits.text }), fits.stored) refl

column_fits : (f : EventField) → IsField f → FitParts (parts_of f)
column_fits f fits = (fits.ordinal, (in_range_fits f.ty (stored_in_range f.ty f.value fits.told fits.stored), value_small f.ty f.value fits.stored fits.text))

column_back : (x : Parts) (f : EventField) → IsBytes (encode_parts x) → FitParts x → field_of x ≡ Some f → IsField f × (encode_parts x ≡ column_bytes f)
column_back x f bytes fits e =
    let v = bind_some (value_of x.1.0 x.1.1) (λ v. cond (is_stored v x.1.0) (Some (field x.0 x.1.0 v)) None) f e in
    let g = test_some (is_stored v.0 x.1.0) (field x.0 x.1.0 v.0) f v.2 in
    let rest = IsBytes-back (u16_field x.0) (type_bytes x.1.0 ++ long_field x.1.1) bytes in
    let long = IsBytes-back (type_bytes x.1.0) (long_field x.1.1) rest in
    let text = IsBytes-back (u32_field (length x.1.1)) x.1.1 long in
    let is = value_back x.1.0 x.1.1 v.0 text v.1 in
    let made : IsField (field x.0 x.1.0 v.0) = record { ordinal = fits.0; told = is.told; stored = g.0; text = is.text } in
    let same : encode_parts x ≡ column_bytes (field x.0 x.1.0 v.0) = ap (λ bytes. u16_field x.0 ++ (type_bytes x.1.0 ++ long_field bytes)) (sym is.encoded) in
    let P : EventField → Type 0 = λ y. IsField y × (encode_parts x ≡ column_bytes y) in
    subst P g.1 (made, same)

column_exact : Exact IsField column_bytes column_at
unfolding column_at
column_exact = decoded_exact FitParts IsField encode_parts column_bytes field_of parts_of (both u16_at (both type_at long_at))
    (record { there = column_there; encoded = λ f fits. refl; fit_back = column_fits; back = column_back })
    (both_exact (λ (n : ℕ). n < 2 ^ 16) (λ (x : SqlType × List ℕ). FitsFields x.0 × (length x.1 < 2 ^ 32)) u16_field (λ (x : SqlType × List ℕ). type_bytes x.0 ++ long_field x.1) u16_at (both type_at long_at) u16_exact
    (both_exact FitsFields (λ (x : List ℕ). length x < 2 ^ 32) type_bytes long_field type_at long_at type_exact long_exact))

abbrev Columns : List EventField → Type 0
Columns fs = ((length fs < 2 ^ 16) × AllByRecursion IsField fs) × (ordinals_rise fs ≡ true)

columns_exact : Exact Columns columns_bytes columns_at
unfolding columns_at
columns_exact = where_exact (λ (fs : List EventField). (length fs < 2 ^ 16) × AllByRecursion IsField fs) columns_bytes ordinals_rise (listed u16_at column_at)
    (listed_exact IsField column_bytes column_at column_exact (2 ^ 16) u16_field u16_at u16_exact)

-- ---- the start pair

-- a start has no start pair, and an end has that of the version
abbrev IsStart : ℕ → Option (ℕ × ℕ) → Type 0
IsStart op None = op ≡ 1
IsStart op (Some start) = (op ≡ 2) × IsPair start

abbrev pair_bytes : ℕ × ℕ → List ℕ
pair_bytes p = u64_field p.0 ++ u64_field p.1

pair_exact : Exact IsPair pair_bytes (both u64_at u64_at)
pair_exact = both_exact (λ (n : ℕ). n < 2 ^ 64) (λ (n : ℕ). n < 2 ^ 64) u64_field u64_field u64_at u64_at u64_exact u64_exact

start_takes_by : (op : ℕ) (a b : Bool) → (op == 1) ≡ a → (op == 2) ≡ b → (bytes : List ℕ) (start : Option (ℕ × ℕ)) (rest : List ℕ) → IsBytes bytes
    → cond a (Some (None, bytes)) (cond b (mapped some_start (both u64_at u64_at) bytes) None) ≡ Some (start, rest) → Taken (IsStart op) start_bytes bytes start rest
start_takes_by op true b one two bytes start rest fits e =
    let none : Option (ℕ × ℕ) = None in
    let made : Taken (IsStart op) start_bytes bytes none bytes = record { parts = refl; rest_fits = fits; fits = eqb-true _ _ one } in
    let P : Option (ℕ × ℕ) × List ℕ → Type 0 = λ q. Taken (IsStart op) start_bytes bytes q.0 q.1 in
    subst P (some_is (none, bytes) (start, rest) e) made
start_takes_by op false true one two bytes start rest fits e =
    let x = bind_some (both u64_at u64_at bytes) (λ x. Some (some_start x.0, x.1)) (start, rest) e in
    let t = pair_exact.takes bytes x.0.0 x.0.1 fits x.1 in
    let made : Taken (IsStart op) start_bytes bytes (some_start x.0.0) x.0.1 = record { parts = t.parts; rest_fits = t.rest_fits; fits = (eqb-true _ _ two, t.fits) } in
    let P : Option (ℕ × ℕ) × List ℕ → Type 0 = λ q. Taken (IsStart op) start_bytes bytes q.0 q.1 in
    subst P (some_is (some_start x.0.0, x.0.1) (start, rest) x.2) made
start_takes_by op false false one two bytes start rest fits e = absurd cc

start_again : (op : ℕ) (start : Option (ℕ × ℕ)) (rest : List ℕ) → IsStart op start → start_at op (start_bytes start ++ rest) ≡ Some (start, rest)
unfolding start_at
start_again op None rest fits = rw fits refl
start_again op (Some start) rest fits = rw fits.0 (ap (λ o. o >>= λ (x : (ℕ × ℕ) × List ℕ). Some (some_start x.0, x.1)) (pair_exact.again start rest fits.1))

start_exact : (op : ℕ) → Exact (IsStart op) start_bytes (start_at op)
unfolding start_at
start_exact op = record { takes = start_takes_by op (op == 1) (op == 2) refl refl; again = start_again op }

-- ---- the event

abbrev FitHead : Head → Type 0
FitHead h = (h.0 < 2 ^ 32) × ((h.1.0 < 256) × ((h.1.1.0 < 2 ^ 64) × (h.1.1.1 < 2 ^ 64)))

abbrev encode_head : Head → List ℕ
encode_head h = u8_field 1 ++ (u32_field h.0 ++ (u8_field h.1.0 ++ (u64_field h.1.1.0 ++ u64_field h.1.1.1)))

head_exact : Exact FitHead encode_head head_at
unfolding head_at
head_exact = after_exact (u8_field 1) FitHead (λ (h : Head). u32_field h.0 ++ (u8_field h.1.0 ++ (u64_field h.1.1.0 ++ u64_field h.1.1.1))) (both u32_at (both u8_at (both u64_at u64_at)))
    (both_exact (λ (n : ℕ). n < 2 ^ 32) (λ (x : ℕ × (ℕ × ℕ)). (x.0 < 256) × ((x.1.0 < 2 ^ 64) × (x.1.1 < 2 ^ 64))) u32_field (λ (x : ℕ × (ℕ × ℕ)). u8_field x.0 ++ (u64_field x.1.0 ++ u64_field x.1.1)) u32_at (both u8_at (both u64_at u64_at)) u32_exact
    (both_exact (λ (n : ℕ). n < 256) IsPair u8_field pair_bytes u8_at (both u64_at u64_at) u8_exact pair_exact))

abbrev Tail : Type 0
Tail = Option (ℕ × ℕ) × List EventField

abbrev FitTail : Head → Tail → Type 0
FitTail h x = IsStart h.1.0 x.0 × Columns x.1

abbrev encode_tail : Head → Tail → List ℕ
encode_tail h x = start_bytes x.0 ++ columns_bytes x.1

abbrev whole_parts : Event → Head × Tail
whole_parts e = ((e.table, (op_of e.ends, (e.tx, e.seq))), (e.ends, e.columns))

op_small : (ends : Option (ℕ × ℕ)) → op_of ends < 256
op_small None = omega arith
op_small (Some start) = omega arith

its_start : (ends : Option (ℕ × ℕ)) → IfSome ends IsPair → IsStart (op_of ends) ends
its_start None pair = refl
its_start (Some start) pair = (refl, pair)

start_pair : (op : ℕ) (ends : Option (ℕ × ℕ)) → IsStart op ends → IfSome ends IsPair
start_pair op None is = tt
start_pair op (Some start) is = is.1

op_is : (op : ℕ) (ends : Option (ℕ × ℕ)) → IsStart op ends → op ≡ op_of ends
op_is op None is = is
op_is op (Some start) is = is.0

abbrev FitWhole : Head × Tail → Type 0
FitWhole x = FitHead x.0 × FitTail x.0 x.1

abbrev encode_whole : Head × Tail → List ℕ
encode_whole x = encode_head x.0 ++ encode_tail x.0 x.1

abbrev with_op : Head → ℕ → Head
with_op h op = (h.0, (op, h.1.1))

event_back : (x : Head × Tail) (e : Event) → IsBytes (encode_whole x) → FitWhole x → Some (event_of x) ≡ Some e → IsEvent e × (encode_whole x ≡ encoded e)
event_back x e bytes f same =
    let made : IsEvent (event_of x) = record { table = f.0.0; ends = start_pair x.0.1.0 x.1.0 f.1.0; tx = f.0.1.1.0; seq = f.0.1.1.1; count = f.1.1.0.0; columns = f.1.1.0.1; rise = f.1.1.1 } in
    let told : encode_whole x ≡ encoded (event_of x) = ap (λ (op : ℕ). encode_head (with_op x.0 op) ++ encode_tail x.0 x.1) (op_is x.0.1.0 x.1.0 f.1.0) in
    let P : Event → Type 0 = λ y. IsEvent y × (encode_whole x ≡ encoded y) in
    subst P (some_is (event_of x) e same) (made, told)

pub event_exact : Exact IsEvent encoded event_at
unfolding event_at
event_exact = decoded_exact FitWhole IsEvent encode_whole encoded (λ (x : Head × Tail). Some (event_of x)) whole_parts (depends head_at (λ (h : Head). both (start_at h.1.0) columns_at))
    (record {
      there = λ e is. refl;
      encoded = λ e is. refl;
      fit_back = λ e f. ((f.table, (op_small e.ends, (f.tx, f.seq))), (its_start e.ends f.ends, ((f.count, f.columns), f.rise)));
      back = event_back;
    })
    (depends_exact FitHead FitTail encode_head encode_tail head_at (λ (h : Head). both (start_at h.1.0) columns_at) head_exact
    (λ (h : Head). both_exact (IsStart h.1.0) Columns start_bytes columns_bytes (start_at h.1.0) columns_at (start_exact h.1.0) columns_exact))

-- ---- leaves

pub all_told : (fs : List EventField) → AllByRecursion IsField fs → filter has_value fs ≡ fs
all_told [] all = refl
all_told (f ∷ fs) all = rw (all.0.told, all_told fs all.1) refl

-- an event without NULL columns is spelled as it is
leaf_is : (e : Event) → IsEvent e → event_bytes e ≡ encoded e
unfolding event_bytes
leaf_is e is = rw (all_told e.columns is.columns) refl

pub found_of : (bytes : List ℕ) (found : Option Event) → IsBytes bytes → found ≡ whole event_at bytes → IfSome found (λ e. IsEvent e × (bytes ≡ event_bytes e))
found_of bytes None fits read = tt
found_of bytes (Some e) fits read =
    let t = whole_sound IsEvent encoded event_at event_exact bytes e fits (sym read) in
    (t.0, t.1 ∙ sym (leaf_is e t.0))

pub only_of : (bytes : List ℕ) (e : Event) → IsEvent e → bytes ≡ event_bytes e → whole event_at bytes ≡ Some e
only_of bytes e is same = ap (whole event_at) (same ∙ leaf_is e is) ∙ whole_complete IsEvent encoded event_at event_exact e is

pub one_leaf : (e f : Event) (rest : List ℕ) → IsEvent (without_nulls e) → IsEvent (without_nulls f) → event_bytes e ≡ event_bytes f ++ rest → (without_nulls e ≡ without_nulls f) × (rest ≡ [])
unfolding event_bytes
one_leaf e f rest ie if_ same = one_value IsEvent encoded event_at event_exact (without_nulls e) (without_nulls f) rest ie if_ same

pub equal_leaves : (e f : Event) → IsEvent (without_nulls e) → IsEvent (without_nulls f) → event_bytes e ≡ event_bytes f → without_nulls e ≡ without_nulls f
equal_leaves e f ie if_ same = (one_leaf e f [] ie if_ (same ∙ sym (append-nil (event_bytes f)))).0

pub same_leaf : (e f : Event) → without_nulls e ≡ without_nulls f → event_bytes e ≡ event_bytes f
unfolding event_bytes
same_leaf e f same = ap encoded same
