-- A journal that is run again: its cause, and what was put and written, from the parts of the call.
use Rattle.std.specs.Prelude.{⊤}
use Rattle.std.proofs.Common.{◌≡◌, ◌+◌, ℕ, List, [], ◌∷◌, ◌++◌, length, map, Bool, true, false, cond, codes, Option, Some, None, IfOk, IfErr, Result, Ok, Err, ◌⊎◌, refl, sym, ◌∙◌, ap, subst, append-nil, append_assoc, inl, inr, bytes_eq, arith}
use Rattle.std.specs.Result.{OnOk}
use Rattle.std.proofs.Math.Path.{ap₂}
use Rattle.std.proofs.lemmas.List.{take_all, length-append}
use Rattle.std.proofs.lemmas.Slice.Eq.{bytes_eq-Decides}
use Rattle.base_io.specs.declared.failed.Failed.{Failed}
use Rattle.base_io.specs.History.{Since}
use Rattle.base_io.specs.Store.{Bytes, Names}
use Rattle.sql_types.specs.declared.digest.HeldDigest.{HeldDigest}
use Rattle.sql_types.specs.declared.image.Image.{Image}
use Rattle.sql_types.specs.declared.journal.Journal.{Journal as JournalOf}
use Rattle.sql_types.specs.declared.journal.JournalItem.{JournalItem}
use Rattle.sql_types.specs.declared.journal.JournalItem.TheVariants.{Tx, Close}
use Rattle.spec_model.specs.Catalog.{Tables}
use Rattle.spec_model.specs.Journals.{cut, tx_count, after_item, serial_from, serial, IsNext, IsLegalFrom, IsLegal, AgreesWith, Line}
use Rattle.spec_model.specs.LegalJournals.{IsLegalJournal}
use Rattle.spec_model.specs.Script.{Reading, script}
use Rattle.spec_model.specs.SystemTables.{first_tables}
use Rattle.spec_syntax.specs.Text.{reading_of}
use Rattle.law_blocks.proofs.Counting.{entries_counted}
use Rattle.format_image.specs.Image.{image_of, image_of_cut}
use Rattle.format_image.specs.ImageBytes.{image_bytes, IsImage}
use Rattle.sql_reference.specs.RunEnd.{run_end}
use Rattle.sql_reference.specs.declared.serial_machine.ReplayAgreement.TheVariants.{Agrees, Differs}
use Rattle.spec_verify.specs.declared.place.Verdict.TheVariants.{Yes}
use Rattle.spec_verify.specs.Bytes.{verdict_of}
use Rattle.law_accepts.specs.Held.{AllHeld}
use Rattle.law_catalog_rows.specs.Written.{ReadsWritten}
use Rattle.audit_replay.specs.Reached.{DiffersAt}
use Rattle.audit_replay.specs.declared.running.ReplayErr.{ReplayErr}
use Rattle.audit_replay.specs.declared.running.ReplayErr.TheVariants as errors
use Rattle.cli_audit.specs.declared.files.File.{File}
use Rattle.cli_audit.specs.declared.status.Status.{Status}
use Rattle.cli_audit.specs.declared.status.Status.TheVariants.{Done, No, Words, Limit, SourceFault, SinkFault, VaultFault, Missing, Digests, Journal, Form, Memory, NotImage, NoEntry, Receipt, TooFar, NoDigestHeld}
use Rattle.cli_audit.specs.Answer.{HasPut, HasWritten, EndsBy, Unfailed}
use Rattle.cli_audit.specs.Calls.{Gave, AreGets, ArePuts, Behind, AreGetsAndPuts, AreWrites}
use Rattle.cli_audit.specs.Files.{TellsLeft, TellsHeld, FirstArePut, put_held}
use Rattle.cli_audit.specs.Names.{LacksName, image_limit}
use Rattle.cli_audit.specs.Replay.{IsUnderName, IsSpelled, AreRefused, IsLegalInVersion, IsIllegalAt, IsIllegal, LegalUnder, replayed_image, replayed_files, IsAccepted, IsImageOf, LacksImage, LacksReplay, ReplayedOrIdle, ReplayCause, HasOutput, SavesReplay, PutsAccepted, replayed_text, replay_status}
use Rattle.cli_audit.specs.Files.{image_name, image_file, journal_name}
use Rattle.cli_audit.proofs.AnswerLemmas.{put_is, written_is}
use Rattle.cli_audit.proofs.CallLemmas.{since_none, since_weaker}
use Rattle.cli_audit.proofs.GetLemmas.{Answers}

-- ---- a journal that isn't legal

-- an item of a legal journal may stand behind those before it
next_at : (reads : Reading) (before front : List JournalItem) (T : Tables) (i : JournalItem) (rest : List JournalItem)
    → IsLegalFrom reads before T (front ++ i ∷ rest) → IsNext reads (before ++ front) (serial_from reads T front) i
unfolding serial_from
next_at reads before [] T i rest legal = subst (λ (l : List JournalItem). IsNext reads l T i) (sym (append-nil before)) legal.0
next_at reads before (j ∷ js) T i rest legal =
    subst (λ (l : List JournalItem). IsNext reads l (serial_from reads (after_item reads T j) js) i) (append_assoc before (j ∷ []) js)
    (next_at reads (before ++ j ∷ []) js (after_item reads T j) i rest legal.1)

closing_agrees : (reads : Reading) (T : Tables) (k : ℕ) → run_end reads T (Close k) ≡ Agrees
unfolding run_end
closing_agrees reads T k = refl

-- what may stand in a journal agrees when it is run again
abbrev pub AgreesAgain : Type 0
AgreesAgain = (reads : Reading) (T : Tables) (id : ℕ) (session : List ℕ) (time : ℕ) (explicit : Bool) (lines : List Line)
    → AgreesWith reads T id explicit lines (script reads explicit T id (map (λ l. l.0) lines)) → run_end reads T (Tx id session time explicit lines) ≡ Agrees

next_agrees : AgreesAgain → (reads : Reading) (before : List JournalItem) (T : Tables) (i : JournalItem) → IsNext reads before T i → run_end reads T i ≡ Agrees
next_agrees again reads before T (Tx id session time explicit lines) next = again reads T id session time explicit lines next.0
next_agrees again reads before T (Close k) next = closing_agrees reads T k

not_both : (statement : ℕ) → Agrees ≡ Differs statement → ⊥
not_both statement e = cc

-- so no items are legal of which one differs
pub differs_illegal : AgreesAgain → (reads : Reading) (items : List JournalItem) (item statement : ℕ) → DiffersAt reads (errors.Differs item statement) items → IsLegal reads items → ⊥
differs_illegal again reads items item statement d legal =
    let next : IsNext reads d.0 (serial reads d.0) d.1 = next_at reads [] d.0 first_tables d.1 d.2 (subst (IsLegal reads) d.3 legal) in
    not_both statement (sym (next_agrees again reads d.0 (serial reads d.0) d.1 next) ∙ d.6)

pub illegal_at : AgreesAgain → (J : JournalOf) (item statement : ℕ) → DiffersAt (reading_of J.version) (errors.Differs item statement) J.items → IsIllegalAt J item statement
illegal_at again J item statement d = record { not_legal = λ whole. differs_illegal again (reading_of J.version) J.items item statement d whole.legal; differs = d }

pub illegal_by : AgreesAgain → (J : JournalOf) (error : ReplayErr) → DiffersAt (reading_of J.version) error J.items → IsIllegal (replay_status error) J
illegal_by again J (errors.Differs item statement) d = illegal_at again J item statement d
illegal_by again J errors.Memory d = tt

-- ---- the image of a legal journal

entries_are : (h : List ℕ → List ℕ) (J : JournalOf) → length (image_of h (reading_of J.version) J.database J.items).entries ≡ tx_count J.items
unfolding image_of
entries_are h J = entries_counted h (reading_of J.version) J.items

-- each cut of a journal, by the statements that the grammar may have written
abbrev pub Verifies : Type 0
Verifies = (h : List ℕ → List ℕ) (reads : Reading) (j : JournalOf) (m : ℕ) (digests : List HeldDigest) → ReadsWritten reads → IsLegalJournal reads j
    → AllHeld h reads j.database (cut j.items m) digests → IsImage (image_of_cut h reads j.database j.items m)
    → verdict_of h digests (image_bytes (image_of_cut h reads j.database j.items m)) ≡ Yes

-- what is said of each cut is said of the whole
accepted_whole : (h : List ℕ → List ℕ) (J : JournalOf) → Verifies → ReadsWritten (reading_of J.version) → IsLegalInVersion J
    → IsImage (image_of h (reading_of J.version) J.database J.items) → IsAccepted h J (replayed_image h J)
accepted_whole h J verifies written legal spelling digests all_held =
    let reads : Reading = reading_of J.version in
    let P : List JournalItem → Type 0 = λ items. AllHeld h reads J.database items digests → IsImage (image_of h reads J.database items)
    → verdict_of h digests (image_bytes (image_of h reads J.database items)) ≡ Yes in
    let at_cut : P (cut J.items (length J.items)) = verifies h reads J (length J.items) digests written legal in
    subst P (take_all (length J.items) J.items (omega arith)) at_cut all_held spelling

module _ (h : List ℕ → List ℕ) (J : JournalOf) (bytes : List ℕ) where
  made_is : (image : Image) → Verifies → ReadsWritten (reading_of J.version) → IsSpelled J bytes → IsLegalInVersion J
      → image ≡ image_of h (reading_of J.version) J.database J.items → IsImage image → IsImageOf h bytes image
  made_is image verifies written spelled legal made spelling = record {
    J = J;
    spelled = spelled;
    legal = legal;
    made = made;
    spelling = spelling;
    count = ap (λ (i : Image). length i.entries) made ∙ entries_are h J;
    accepted = subst (λ (i : Image). IsAccepted h J (image_bytes i)) (sym made) (accepted_whole h J verifies written legal (subst IsImage made spelling));
  }

  pub image_made : (result : Result Image Status) → Verifies → ReadsWritten (reading_of J.version) → IsSpelled J bytes → OnOk result (IsLegalInVersion J)
      → IfOk result (λ image. image ≡ image_of h (reading_of J.version) J.database J.items) → IfOk result IsImage → IfOk result (IsImageOf h bytes)
  image_made (Ok image) verifies written spelled legal made spelling = made_is image verifies written spelled legal made spelling
  image_made (Err status) verifies written spelled legal made spelling = tt

-- ---- by cases on the status

-- a call that ends by putting and writing
pub by_end : (P : Status → Type 0) (vault sink : Type 0) → P Done → (sink → P SinkFault) → (vault → P VaultFault) → P Memory
    → (status : Status) → EndsBy status vault sink → P status
by_end P vault sink done faulty failed short Done ends = done
by_end P vault sink done faulty failed short SinkFault ends = faulty ends
by_end P vault sink done faulty failed short VaultFault ends = failed ends
by_end P vault sink done faulty failed short Memory ends = short
by_end P vault sink done faulty failed short No ends = absurd ends
by_end P vault sink done faulty failed short Words ends = absurd ends
by_end P vault sink done faulty failed short Limit ends = absurd ends
by_end P vault sink done faulty failed short SourceFault ends = absurd ends
by_end P vault sink done faulty failed short (Missing which) ends = absurd ends
by_end P vault sink done faulty failed short (Digests index) ends = absurd ends
by_end P vault sink done faulty failed short NoEntry ends = absurd ends
by_end P vault sink done faulty failed short NotImage ends = absurd ends
by_end P vault sink done faulty failed short Receipt ends = absurd ends
by_end P vault sink done faulty failed short (TooFar entries) ends = absurd ends
by_end P vault sink done faulty failed short NoDigestHeld ends = absurd ends
by_end P vault sink done faulty failed short (Journal at) ends = absurd ends
by_end P vault sink done faulty failed short (Form line) ends = absurd ends

-- bytes that lead to no image
by_image : (P : Status → Type 0) (bytes : List ℕ) → ((at : Option (ℕ × ℕ)) → LacksImage (Journal at) bytes → P (Journal at)) → P Memory
    → (status : Status) → LacksImage status bytes → P status
by_image P bytes refused short (Journal at) lacks = refused at lacks
by_image P bytes refused short Memory lacks = short
by_image P bytes refused short Done lacks = absurd lacks
by_image P bytes refused short No lacks = absurd lacks
by_image P bytes refused short Words lacks = absurd lacks
by_image P bytes refused short Limit lacks = absurd lacks
by_image P bytes refused short SourceFault lacks = absurd lacks
by_image P bytes refused short SinkFault lacks = absurd lacks
by_image P bytes refused short VaultFault lacks = absurd lacks
by_image P bytes refused short (Missing which) lacks = absurd lacks
by_image P bytes refused short (Digests index) lacks = absurd lacks
by_image P bytes refused short NoEntry lacks = absurd lacks
by_image P bytes refused short NotImage lacks = absurd lacks
by_image P bytes refused short Receipt lacks = absurd lacks
by_image P bytes refused short (TooFar entries) lacks = absurd lacks
by_image P bytes refused short NoDigestHeld lacks = absurd lacks
by_image P bytes refused short (Form line) lacks = absurd lacks

-- a name that leads to none
pub by_name : (P : Status → Type 0) (name : List ℕ) (names : Option Names) (vault : Type 0) → P Limit → ((which : ℕ) → P (Missing which))
    → ((at : Option (ℕ × ℕ)) → P (Journal at)) → P VaultFault → P Memory → (status : Status) → LacksReplay status name names vault → P status
by_name P name names vault long missing refused failed short Limit lacks = long
by_name P name names vault long missing refused failed short VaultFault lacks = failed
by_name P name names vault long missing refused failed short (Missing which) lacks = missing which
by_name P name names vault long missing refused failed short (Journal at) lacks = refused at
by_name P name names vault long missing refused failed short Memory lacks = short
by_name P name names vault long missing refused failed short Done lacks = absurd lacks
by_name P name names vault long missing refused failed short No lacks = absurd lacks
by_name P name names vault long missing refused failed short Words lacks = absurd lacks
by_name P name names vault long missing refused failed short SourceFault lacks = absurd lacks
by_name P name names vault long missing refused failed short SinkFault lacks = absurd lacks
by_name P name names vault long missing refused failed short (Digests index) lacks = absurd lacks
by_name P name names vault long missing refused failed short NoEntry lacks = absurd lacks
by_name P name names vault long missing refused failed short NotImage lacks = absurd lacks
by_name P name names vault long missing refused failed short Receipt lacks = absurd lacks
by_name P name names vault long missing refused failed short (TooFar entries) lacks = absurd lacks
by_name P name names vault long missing refused failed short NoDigestHeld lacks = absurd lacks
by_name P name names vault long missing refused failed short (Form line) lacks = absurd lacks

-- ---- why there is no image

lacks_legal : (status : Status) (J : JournalOf) (bytes : List ℕ) → IsSpelled J bytes → IsIllegal status J → LacksImage status bytes
lacks_legal (Journal (Some at)) J bytes spelled illegal = (J, spelled, illegal)
lacks_legal (Journal None) J bytes spelled illegal = absurd illegal
lacks_legal Memory J bytes spelled illegal = tt
lacks_legal Done J bytes spelled illegal = absurd illegal
lacks_legal No J bytes spelled illegal = absurd illegal
lacks_legal Words J bytes spelled illegal = absurd illegal
lacks_legal Limit J bytes spelled illegal = absurd illegal
lacks_legal SourceFault J bytes spelled illegal = absurd illegal
lacks_legal SinkFault J bytes spelled illegal = absurd illegal
lacks_legal VaultFault J bytes spelled illegal = absurd illegal
lacks_legal (Missing which) J bytes spelled illegal = absurd illegal
lacks_legal (Digests index) J bytes spelled illegal = absurd illegal
lacks_legal NoEntry J bytes spelled illegal = absurd illegal
lacks_legal NotImage J bytes spelled illegal = absurd illegal
lacks_legal Receipt J bytes spelled illegal = absurd illegal
lacks_legal (TooFar entries) J bytes spelled illegal = absurd illegal
lacks_legal NoDigestHeld J bytes spelled illegal = absurd illegal
lacks_legal (Form line) J bytes spelled illegal = absurd illegal

pub no_image : (result : Result Image Status) (J : JournalOf) (bytes : List ℕ) → IsSpelled J bytes → IfErr result (λ status. IsIllegal status J)
    → IfErr result (λ status. LacksImage status bytes)
no_image (Ok image) J bytes spelled illegal = tt
no_image (Err status) J bytes spelled illegal = lacks_legal status J bytes spelled illegal

pub lacks_journal : (status : Status) (bytes : List ℕ) → AreRefused status bytes → LacksImage status bytes
lacks_journal (Journal None) bytes refused = refused
lacks_journal (Journal (Some at)) bytes refused = absurd refused
lacks_journal Memory bytes refused = tt
lacks_journal Done bytes refused = absurd refused
lacks_journal No bytes refused = absurd refused
lacks_journal Words bytes refused = absurd refused
lacks_journal Limit bytes refused = absurd refused
lacks_journal SourceFault bytes refused = absurd refused
lacks_journal SinkFault bytes refused = absurd refused
lacks_journal VaultFault bytes refused = absurd refused
lacks_journal (Missing which) bytes refused = absurd refused
lacks_journal (Digests index) bytes refused = absurd refused
lacks_journal NoEntry bytes refused = absurd refused
lacks_journal NotImage bytes refused = absurd refused
lacks_journal Receipt bytes refused = absurd refused
lacks_journal (TooFar entries) bytes refused = absurd refused
lacks_journal NoDigestHeld bytes refused = absurd refused
lacks_journal (Form line) bytes refused = absurd refused

-- ---- why a name leads to none

pub lacks_name : (status : Status) (name : List ℕ) (names : Option Names) (vault : Type 0) → LacksName status 1 image_limit names name
    → (status ≡ VaultFault → vault) → LacksReplay status name names vault
lacks_name Limit name names vault lacks fault = lacks
lacks_name VaultFault name names vault lacks fault = fault refl
lacks_name (Missing which) name names vault lacks fault = lacks
lacks_name Memory name names vault lacks fault = tt
lacks_name Done name names vault lacks fault = absurd lacks
lacks_name No name names vault lacks fault = absurd lacks
lacks_name Words name names vault lacks fault = absurd lacks
lacks_name SourceFault name names vault lacks fault = absurd lacks
lacks_name SinkFault name names vault lacks fault = absurd lacks
lacks_name (Digests index) name names vault lacks fault = absurd lacks
lacks_name NoEntry name names vault lacks fault = absurd lacks
lacks_name NotImage name names vault lacks fault = absurd lacks
lacks_name Receipt name names vault lacks fault = absurd lacks
lacks_name (TooFar entries) name names vault lacks fault = absurd lacks
lacks_name NoDigestHeld name names vault lacks fault = absurd lacks
lacks_name (Journal at) name names vault lacks fault = absurd lacks
lacks_name (Form line) name names vault lacks fault = absurd lacks

image_lacks : (at : Option (ℕ × ℕ)) (name : List ℕ) (names : Option Names) (vault : Type 0) (bytes : List ℕ) → IsUnderName name names bytes
    → LacksImage (Journal at) bytes → LacksReplay (Journal at) name names vault
image_lacks None name names vault bytes are_in_vault lacks = (bytes, are_in_vault, lacks)
image_lacks (Some at) name names vault bytes are_in_vault lacks = record { J = lacks.0; bytes = bytes; is_in_vault = are_in_vault; spelled = lacks.1; such = lacks.2 }

module _ (status : Status) (bytes : List ℕ) (lacks : LacksImage status bytes) where
  pub lacks_image : (name : List ℕ) (names : Option Names) (vault : Type 0) → IsUnderName name names bytes → LacksReplay status name names vault
  lacks_image name names vault are_in_vault =
      by_image (λ s. LacksReplay s name names vault) bytes (λ at none. image_lacks at name names vault bytes are_in_vault none) tt status lacks

  -- the one name was read then
  pub gets_all : (old now : Answers → Type 0) → Since old now (Gave 1) → Since old now (AreGets 1 status)
  gets_all old now gave =
      by_image (λ s. Since old now (AreGets 1 s)) bytes (λ at none. gave)
      (since_weaker old now (Gave 1) (AreGets 1 Memory) (λ answers all. (inl all.0, omega (arith, all.1))) gave) status lacks

  -- and the vault hasn't failed
  pub unfailed_image : (vault : Type 0) → vault → Unfailed status ⊤ vault ⊤
  unfailed_image vault same = by_image (λ s. Unfailed s ⊤ vault ⊤) bytes (λ at none. (tt, same, tt)) (tt, same, tt) status lacks

-- memory ran out when a name had been read
pub gave_short : (old now : Answers → Type 0) → Since old now (Gave 1) → Since old now (AreGetsAndPuts 1 Memory)
gave_short old now gave = since_weaker old now (Gave 1) (AreGetsAndPuts 1 Memory) (λ answers all. inl (inl all.0, omega (arith, all.1))) gave

-- ---- gets, and puts behind them

module _ (old mid new : Answers → Type 0) (k : ℕ) where
  pub gets_then : (are : Answers → Type 0) → Since old mid (Gave k) → Since mid new are → Since old new (Behind k are)
  gets_then are gets puts = record {
    answers = gets.answers ++ puts.answers;
    adds = λ earlier had. subst new (append_assoc earlier gets.answers puts.answers) (puts.adds (earlier ++ gets.answers) (gets.adds earlier had));
    such = (gets.answers, puts.answers, refl, gets.such, puts.such);
  }

  pub then_or : (status : Status) → Since old mid (Gave k) → Since mid new (ArePuts status)
      → Since old new (λ answers. AreGets k status answers ⊎ Behind k (ArePuts status) answers)
  then_or status gets puts =
      since_weaker old new (Behind k (ArePuts status)) (λ answers. AreGets k status answers ⊎ Behind k (ArePuts status) answers) (λ answers b. inr b)
      (gets_then (ArePuts status) gets puts)

  pub calls_by : (status : Status) (vault sink : Type 0) → EndsBy status vault sink → Since old mid (Gave k) → Since mid new (ArePuts status)
      → Since old new (AreGetsAndPuts k status)
  calls_by status vault sink ends gets puts =
      by_end (λ s. Since mid new (ArePuts s) → Since old new (AreGetsAndPuts k s)) vault sink
      (gets_then (ArePuts Done) gets) (λ fault. gets_then (ArePuts SinkFault) gets) (λ fault. then_or VaultFault gets) (then_or Memory gets) status ends puts

module _ (name : List ℕ) (names : Option Names) (vault : Type 0) (status : Status) (lacks : LacksReplay status name names vault) where
  -- where nothing was put
  pub calls_lacking : (old now : Answers → Type 0) → Since old now (AreGets 1 status) → Since old now (AreGetsAndPuts 1 status)
  calls_lacking old now gets =
      let either : (s : Status) → Since old now (AreGets 1 s) → Since old now (λ answers. AreGets 1 s answers ⊎ Behind 1 (ArePuts s) answers) =
      λ s. since_weaker old now (AreGets 1 s) (λ answers. AreGets 1 s answers ⊎ Behind 1 (ArePuts s) answers) (λ answers a. inl a) in
      by_name (λ s. Since old now (AreGets 1 s) → Since old now (AreGetsAndPuts 1 s)) name names vault
      (λ g. g) (λ which g. g) (λ at g. g) (either VaultFault) (either Memory) status lacks gets

  pub writes_lacking : (now : List (Result ℕ Failed) → Type 0) → Since now now (AreWrites status)
  writes_lacking now =
      let none : Since now now (λ answers. answers ≡ []) = since_none now (λ answers. answers ≡ []) refl in
      by_name (λ s. Since now now (AreWrites s)) name names vault none (λ which. none) (λ at. none) none none status lacks

  pub cause_lacking : (sink : Type 0) → ReplayCause status name names vault sink
  cause_lacking sink =
      by_name (λ s. LacksReplay s name names vault → ReplayCause s name names vault sink) name names vault
      (λ l. l) (λ which l. l) (λ at l. l) (λ l. l) (λ l. l) status lacks lacks

  pub not_done : (P : Type 0) → status ≡ Done → P
  not_done P = by_name (λ s. s ≡ Done → P) name names vault (λ is. absurd cc) (λ which is. absurd cc) (λ at is. absurd cc) (λ is. absurd cc) (λ is. absurd cc) status lacks

  pub idle_lacking : (replayed idle : Type 0) → idle → ReplayedOrIdle status replayed idle
  idle_lacking replayed idle i =
      by_name (λ s. ReplayedOrIdle s replayed idle) name names vault i (λ which. i) (λ at. i) (inr i) (inr i) status lacks

module _ (status : Status) (vault sink : Type 0) (ends : EndsBy status vault sink) where
  pub cause_by : (name : List ℕ) (names : Option Names) → LegalUnder name names → ReplayCause status name names vault sink
  cause_by name names legal =
      by_end (λ s. ReplayCause s name names vault sink) vault sink legal (λ fault. fault) (λ fault. fault) tt status ends

  pub replayed_by : (replayed idle : Type 0) → replayed → ReplayedOrIdle status replayed idle
  replayed_by replayed idle r = by_end (λ s. ReplayedOrIdle s replayed idle) vault sink r (λ fault. r) (λ fault. inl r) (inl r) status ends

-- ---- both files stand

other_name : (save : List ℕ) (b : Bool) → bytes_eq (image_name save) (journal_name save) ≡ b → b ≡ false
other_name save true e =
    let same = (bytes_eq-Decides (image_name save) (journal_name save)).0 e in
    let img : length (image_name save) ≡ length save + 4 = length-append save (codes ".img") in
    let journal : length (journal_name save) ≡ length save + 8 = length-append save (codes ".journal") in
    absurd (omega (arith, img, journal, ap length same))
other_name save false e = refl

-- of two files with different names the first stands too
first_tells : (a b : File) (old new : Option Names) → bytes_eq a.name b.name ≡ false → TellsLeft (put_held a ∷ put_held b ∷ []) old new
    → TellsHeld old new a.name a.bytes
first_tells a b None new differ told = tt
first_tells a b (Some old) None differ told = absurd told
first_tells a b (Some old) (Some new) differ told =
    let same : bytes_eq a.name a.name ≡ true = (bytes_eq-Decides a.name a.name).1 refl in
    told a.name
    ∙ ap (λ x. cond x (Bytes b.bytes) (cond (bytes_eq a.name a.name) (Bytes a.bytes) (old a.name))) differ
    ∙ ap (λ x. cond x (Bytes a.bytes) (old a.name)) same

pub image_is_present : (save image journal : List ℕ) (files : List File) (old new : Option Names)
    → files ≡ image_file save image ∷ record { name = journal_name save; bytes = journal } ∷ [] → FirstArePut files (length files) old new
    → TellsHeld old new (image_name save) image
image_is_present save image journal files old new are are_in_vault =
    let P : List File → Type 0 = λ l. FirstArePut l (length l) old new in
    first_tells (image_file save image) (record { name = journal_name save; bytes = journal }) old new (other_name save (bytes_eq (image_name save) (journal_name save)) refl)
    (subst P are are_in_vault)

-- ---- a call that put and wrote

module _ (h : List ℕ → List ℕ) (bytes : List ℕ) (image : Image) (of : IsImageOf h bytes image) where
  abbrev pub legal_under : (name : List ℕ) (names : Option Names) → IsUnderName name names bytes → LegalUnder name names
  legal_under name names are_in_vault = record { J = of.J; bytes = bytes; is_in_vault = are_in_vault; spelled = of.spelled; such = of.legal }

  pub files_are : (save : List ℕ) → image_file save (image_bytes image) ∷ record { name = journal_name save; bytes = bytes } ∷ [] ≡ replayed_files h save of.J
  files_are save =
      ap₂ (λ (i j : List ℕ). image_file save i ∷ record { name = journal_name save; bytes = j } ∷ []) (ap image_bytes of.made) of.spelled.1

  pub replayed_is : (status : Status) (name save : List ℕ) (before old new : Option Names) (taken now : Option (List ℕ)) (made files : List File) (written line : List ℕ)
      → old ≡ before → IsUnderName name before bytes → HasOutput save bytes (image_bytes image) (length image.entries) files line → made ≡ files → written ≡ line
      → HasPut status made old new → HasWritten status written taken now → SavesReplay status h name save before new taken now
  replayed_is status name save before old new taken now made files written line same are_in_vault output are is put wrote = record {
    read = legal_under name before are_in_vault;
    put = subst (λ (o : Option Names). HasPut status (replayed_files h save of.J) o new) same
        (put_is status made (replayed_files h save of.J) old new (are ∙ output.files ∙ files_are save) put);
    written = written_is status written (replayed_text (tx_count of.J.items)) taken now (is ∙ output.text ∙ ap replayed_text of.count) wrote;
  }

  pub accepted_is : (status : Status) (name save : List ℕ) (before old new : Option Names) (made files : List File) (line : List ℕ)
      → status ≡ Done → old ≡ before → IsUnderName name before bytes → HasOutput save bytes (image_bytes image) (length image.entries) files line → made ≡ files
      → HasPut status made old new → PutsAccepted h name save before new
  accepted_is status name save before old new made files line done same are_in_vault output are put =
      let all : FirstArePut made (length made) old new = subst (λ (s : Status). HasPut s made old new) done put in record {
        read = legal_under name before are_in_vault;
        image = image_bytes image;
        put = subst (λ (o : Option Names). TellsHeld o new (image_name save) (image_bytes image)) same
            (image_is_present save (image_bytes image) bytes made old new (are ∙ output.files) all);
        accepted = of.accepted;
      }
