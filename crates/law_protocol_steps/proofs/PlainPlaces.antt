-- Places at which nothing is owed but what each transaction owes.
use Rattle.std.proofs.Common.{◌≡◌, ℕ, true, false, Bool, None, Some, List, refl}
use Rattle.spec_protocol.specs.Contents.{Contents}
use Rattle.spec_protocol.specs.RowsAgree.{GoesBackTo, IsExplicitAt}
use Rattle.spec_protocol.specs.TablesAreSerial.{IsAdding, IsIndexed}
use Rattle.spec_protocol.specs.LocksCover.{IsDropping, LookedFirst}
use Rattle.spec_protocol.specs.Seats.{OpenTransaction, SessionStatus, answering, begun, between, found, going_back, inside, leaving, made, refused, replied}
use Rattle.sql_types.specs.declared.table.TableDef.{TableDef}
use Rattle.sql_types.specs.declared.version.Version.{Version}
use Rattle.spec_protocol.specs.OpenScripts.{counted}

-- no CREATE INDEX, no way back, and no lock that is to be given back
abbrev pub IsBare : SessionStatus → Type 0
IsBare between = Unit {0}
IsBare (inside text begun) = Unit {0}
IsBare (inside text (found named false)) = Unit {0}
IsBare (inside text (replied reply)) = Unit {0}
IsBare (inside text (answering reply None)) = Unit {0}
IsBare leaving = Unit {0}
IsBare _ = ⊥

pub not_indexing : (c : Contents) (place : SessionStatus) → IsBare place → IsIndexed c place
not_indexing c between b = tt
not_indexing c (inside text begun) b = tt
not_indexing c (inside text (found named false)) b = tt
not_indexing c (inside text (found named true)) b = absurd b
not_indexing c (inside text (made def indexed)) b = absurd b
not_indexing c (inside text (going_back seq cells)) b = absurd b
not_indexing c (inside text (replied reply)) b = tt
not_indexing c (inside text (answering reply None)) b = tt
not_indexing c (inside text (answering reply (Some def))) b = absurd b
not_indexing c (inside text (refused reply)) b = absurd b
not_indexing c leaving b = tt

pub not_first : (place : SessionStatus) → IsBare place → LookedFirst place → ⊥
not_first between b f = f
not_first (inside text begun) b f = f
not_first (inside text (found named false)) b f = f
not_first (inside text (found named true)) b f = b
not_first (inside text (made def indexed)) b f = b
not_first (inside text (going_back seq cells)) b f = b
not_first (inside text (replied reply)) b f = f
not_first (inside text (answering reply None)) b f = f
not_first (inside text (answering reply (Some def))) b f = b
not_first (inside text (refused reply)) b f = b
not_first leaving b f = f

pub not_dropping : (place : SessionStatus) (o : OpenTransaction) → IsBare place → IsDropping place o → ⊥
not_dropping between o b f = f
not_dropping (inside text begun) o b f = f
not_dropping (inside text (found named false)) o b f = f
not_dropping (inside text (found named true)) o b f = b
not_dropping (inside text (made def indexed)) o b f = b
not_dropping (inside text (going_back seq cells)) o b f = b
not_dropping (inside text (replied reply)) o b f = f
not_dropping (inside text (answering reply None)) o b f = f
not_dropping (inside text (answering reply (Some def))) o b f = b
not_dropping (inside text (refused reply)) o b f = b
not_dropping leaving o b f = f

pub not_back : (place : SessionStatus) (n : ℕ) → IsBare place → GoesBackTo place n
not_back between n b = tt
not_back (inside text begun) n b = tt
not_back (inside text (found named false)) n b = tt
not_back (inside text (found named true)) n b = absurd b
not_back (inside text (made def indexed)) n b = absurd b
not_back (inside text (going_back seq cells)) n b = absurd b
not_back (inside text (replied reply)) n b = tt
not_back (inside text (answering reply None)) n b = tt
not_back (inside text (answering reply (Some def))) n b = absurd b
not_back (inside text (refused reply)) n b = absurd b
not_back leaving n b = tt

pub of_either : (place : SessionStatus) (a : Bool) → IsBare place → IsExplicitAt place a
of_either between a b = tt
of_either (inside text begun) a b = tt
of_either (inside text (found named false)) a b = tt
of_either (inside text (found named true)) a b = absurd b
of_either (inside text (made def indexed)) a b = absurd b
of_either (inside text (going_back seq cells)) a b = absurd b
of_either (inside text (replied reply)) a b = tt
of_either (inside text (answering reply None)) a b = tt
of_either (inside text (answering reply (Some def))) a b = absurd b
of_either (inside text (refused reply)) a b = absurd b
of_either leaving a b = tt

-- no index is being added
abbrev pub AddsNone : SessionStatus → Type 0
AddsNone (inside text (made def true)) = ⊥
AddsNone (inside text (answering reply (Some def))) = ⊥
AddsNone _ = Unit {0}

pub none_added : (place : SessionStatus) (o : OpenTransaction) (after : TableDef) (i : ℕ) → AddsNone place → IsAdding place o after i → ⊥
none_added between o after i n a = a.added
none_added (inside text begun) o after i n a = a.added
none_added (inside text (found named fresh)) o after i n a = a.added
none_added (inside text (made def true)) o after i n a = n
none_added (inside text (made def false)) o after i n a = a.added
none_added (inside text (going_back seq cells)) o after i n a = a.added
none_added (inside text (replied reply)) o after i n a = a.added
none_added (inside text (answering reply None)) o after i n a = a.added
none_added (inside text (answering reply (Some def))) o after i n a = n
none_added (inside text (refused reply)) o after i n a = a.added
none_added leaving o after i n a = a.added

pub all_counted : (tx id : ℕ) (place : SessionStatus) (ws : List Version) → IsBare place → counted tx id place ws ≡ ws
all_counted tx id between ws b = refl
all_counted tx id (inside text begun) ws b = refl
all_counted tx id (inside text (found named false)) ws b = refl
all_counted tx id (inside text (found named true)) ws b = absurd b
all_counted tx id (inside text (made def indexed)) ws b = absurd b
all_counted tx id (inside text (going_back seq cells)) ws b = absurd b
all_counted tx id (inside text (replied reply)) ws b = refl
all_counted tx id (inside text (answering reply None)) ws b = refl
all_counted tx id (inside text (answering reply (Some def))) ws b = absurd b
all_counted tx id (inside text (refused reply)) ws b = absurd b
all_counted tx id leaving ws b = refl
