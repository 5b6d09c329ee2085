-- An image that is put again: its cause, and what was put and written, from the parts of the call.
use Rattle.std.specs.Prelude.{⊤}
use Rattle.std.proofs.Common.{◌≡◌, ℕ, List, [], ◌∷◌, Option, Some, None, IfOk, Result, Ok, Err, ◌⊎◌, refl, sym, ◌∙◌, ap, subst, inl, inr, arith}
use Rattle.base_io.specs.declared.failed.Failed.{Failed}
use Rattle.base_io.specs.History.{Since}
use Rattle.base_io.specs.Store.{Names}
use Rattle.sql_types.specs.declared.image.Image.{Image}
use Rattle.format_image.specs.ImageBytes.{image_bytes}
use Rattle.spec_verify.proofs.Judged.{of_two_spellings}
use Rattle.cli_audit.specs.declared.files.File.{File}
use Rattle.cli_audit.specs.declared.status.Status.{Status}
use Rattle.cli_audit.specs.declared.status.Status.TheVariants.{Done, No, Words, Limit, SourceFault, SinkFault, VaultFault, Missing, Digests, Journal, Form, NotImage, Memory, NoEntry, Receipt, TooFar, NoDigestHeld}
use Rattle.cli_audit.specs.Answer.{HasPut, HasWritten, EndsBy, Unfailed}
use Rattle.cli_audit.specs.Calls.{Gave, AreGets, ArePuts, Behind, AreGetsAndPuts, AreWrites}
use Rattle.cli_audit.specs.Files.{TellsHeld, FirstArePut}
use Rattle.cli_audit.specs.Names.{LacksName, image_limit}
use Rattle.cli_audit.specs.Replay.{IsUnderName}
use Rattle.cli_audit.specs.Files.{image_name, image_file}
use Rattle.cli_audit.specs.Upgrade.{AreRefused, ImageUnder, LacksImage, HasImage, upgraded_files, upgraded_text, Upgraded, UpgradedOrIdle, PutsTheSame, UpgradeCause}
use Rattle.cli_audit.proofs.AnswerLemmas.{put_is, written_is}
use Rattle.cli_audit.proofs.CallLemmas.{since_none, since_weaker}
use Rattle.cli_audit.proofs.GetLemmas.{Answers}
use Rattle.cli_audit.proofs.ReceiptLemmas.{one_tells}
use Rattle.cli_audit.proofs.ReplayLemmas.{by_end}

-- ---- by cases on the status

-- bytes that are no image's
by_bytes : (P : Status → Type 0) (bytes : List ℕ) → (AreRefused NotImage bytes → P NotImage) → P Memory → (status : Status) → AreRefused status bytes → P status
by_bytes P bytes refused short NotImage lacks = refused lacks
by_bytes P bytes refused short Memory lacks = short
by_bytes P bytes refused short Done lacks = absurd lacks
by_bytes P bytes refused short No lacks = absurd lacks
by_bytes P bytes refused short Words lacks = absurd lacks
by_bytes P bytes refused short Limit lacks = absurd lacks
by_bytes P bytes refused short SourceFault lacks = absurd lacks
by_bytes P bytes refused short SinkFault lacks = absurd lacks
by_bytes P bytes refused short VaultFault lacks = absurd lacks
by_bytes P bytes refused short (Missing which) lacks = absurd lacks
by_bytes P bytes refused short (Digests index) lacks = absurd lacks
by_bytes P bytes refused short (Journal at) lacks = absurd lacks
by_bytes P bytes refused short (Form line) lacks = absurd lacks
by_bytes P bytes refused short NoEntry lacks = absurd lacks
by_bytes P bytes refused short Receipt lacks = absurd lacks
by_bytes P bytes refused short (TooFar entries) lacks = absurd lacks
by_bytes P bytes refused short NoDigestHeld lacks = absurd lacks

-- a name under which no image stands
by_name : (P : Status → Type 0) (name : List ℕ) (names : Option Names) (vault : Type 0) → P Limit → ((which : ℕ) → P (Missing which))
    → P NotImage → P VaultFault → P Memory → (status : Status) → LacksImage status name names vault → P status
by_name P name names vault long missing refused failed short Limit lacks = long
by_name P name names vault long missing refused failed short VaultFault lacks = failed
by_name P name names vault long missing refused failed short (Missing which) lacks = missing which
by_name P name names vault long missing refused failed short NotImage lacks = refused
by_name P name names vault long missing refused failed short Memory lacks = short
by_name P name names vault long missing refused failed short Done lacks = absurd lacks
by_name P name names vault long missing refused failed short No lacks = absurd lacks
by_name P name names vault long missing refused failed short Words lacks = absurd lacks
by_name P name names vault long missing refused failed short SourceFault lacks = absurd lacks
by_name P name names vault long missing refused failed short SinkFault lacks = absurd lacks
by_name P name names vault long missing refused failed short (Digests index) lacks = absurd lacks
by_name P name names vault long missing refused failed short NoEntry lacks = absurd lacks
by_name P name names vault long missing refused failed short Receipt lacks = absurd lacks
by_name P name names vault long missing refused failed short (TooFar entries) lacks = absurd lacks
by_name P name names vault long missing refused failed short NoDigestHeld lacks = absurd lacks
by_name P name names vault long missing refused failed short (Journal at) lacks = absurd lacks
by_name P name names vault long missing refused failed short (Form line) lacks = absurd lacks

-- ---- why a name leads to none

pub lacks_name : (status : Status) (name : List ℕ) (names : Option Names) (vault : Type 0) → LacksName status 1 image_limit names name
    → (status ≡ VaultFault → vault) → LacksImage status name names vault
lacks_name Limit name names vault lacks fault = lacks
lacks_name VaultFault name names vault lacks fault = fault refl
lacks_name (Missing which) name names vault lacks fault = lacks
lacks_name Memory name names vault lacks fault = tt
lacks_name Done name names vault lacks fault = absurd lacks
lacks_name No name names vault lacks fault = absurd lacks
lacks_name Words name names vault lacks fault = absurd lacks
lacks_name SourceFault name names vault lacks fault = absurd lacks
lacks_name SinkFault name names vault lacks fault = absurd lacks
lacks_name (Digests index) name names vault lacks fault = absurd lacks
lacks_name NoEntry name names vault lacks fault = absurd lacks
lacks_name Receipt name names vault lacks fault = absurd lacks
lacks_name (TooFar entries) name names vault lacks fault = absurd lacks
lacks_name NoDigestHeld name names vault lacks fault = absurd lacks
lacks_name (Journal at) name names vault lacks fault = absurd lacks
lacks_name (Form line) name names vault lacks fault = absurd lacks
lacks_name NotImage name names vault lacks fault = absurd lacks

module _ (status : Status) (bytes : List ℕ) (lacks : AreRefused status bytes) where
  pub lacks_image : (name : List ℕ) (names : Option Names) (vault : Type 0) → IsUnderName name names bytes → LacksImage status name names vault
  lacks_image name names vault are_in_vault =
      by_bytes (λ s. LacksImage s name names vault) bytes (λ none. (bytes, are_in_vault, none)) tt status lacks

  -- the one name was read then
  pub gets_all : (old now : Answers → Type 0) → Since old now (Gave 1) → Since old now (AreGets 1 status)
  gets_all old now gave =
      by_bytes (λ s. Since old now (AreGets 1 s)) bytes (λ none. gave)
      (since_weaker old now (Gave 1) (AreGets 1 Memory) (λ answers all. (inl all.0, omega (arith, all.1))) gave) status lacks

  -- and the vault hasn't failed
  pub unfailed_image : (vault : Type 0) → vault → Unfailed status ⊤ vault ⊤
  unfailed_image vault same = by_bytes (λ s. Unfailed s ⊤ vault ⊤) bytes (λ none. (tt, same, tt)) (tt, same, tt) status lacks

module _ (name : List ℕ) (names : Option Names) (vault : Type 0) (status : Status) (lacks : LacksImage status name names vault) where
  -- where nothing was put
  pub calls_lacking : (old now : Answers → Type 0) → Since old now (AreGets 1 status) → Since old now (AreGetsAndPuts 1 status)
  calls_lacking old now gets =
      let either : (s : Status) → Since old now (AreGets 1 s) → Since old now (λ answers. AreGets 1 s answers ⊎ Behind 1 (ArePuts s) answers) =
      λ s. since_weaker old now (AreGets 1 s) (λ answers. AreGets 1 s answers ⊎ Behind 1 (ArePuts s) answers) (λ answers a. inl a) in
      by_name (λ s. Since old now (AreGets 1 s) → Since old now (AreGetsAndPuts 1 s)) name names vault
      (λ g. g) (λ which g. g) (λ g. g) (either VaultFault) (either Memory) status lacks gets

  pub writes_lacking : (now : List (Result ℕ Failed) → Type 0) → Since now now (AreWrites status)
  writes_lacking now =
      let none : Since now now (λ answers. answers ≡ []) = since_none now (λ answers. answers ≡ []) refl in
      by_name (λ s. Since now now (AreWrites s)) name names vault none (λ which. none) none none none status lacks

  pub cause_lacking : (sink : Type 0) → UpgradeCause status name names vault sink
  cause_lacking sink =
      by_name (λ s. LacksImage s name names vault → UpgradeCause s name names vault sink) name names vault
      (λ l. l) (λ which l. l) (λ l. l) (λ l. l) (λ l. l) status lacks lacks

  pub not_done : (P : Type 0) → status ≡ Done → P
  not_done P = by_name (λ s. s ≡ Done → P) name names vault (λ is. absurd cc) (λ which is. absurd cc) (λ is. absurd cc) (λ is. absurd cc) (λ is. absurd cc) status lacks

  pub idle_lacking : (upgraded idle : Type 0) → idle → UpgradedOrIdle status upgraded idle
  idle_lacking upgraded idle i =
      by_name (λ s. UpgradedOrIdle s upgraded idle) name names vault i (λ which. i) i (inr i) (inr i) status lacks

module _ (status : Status) (vault sink : Type 0) (ends : EndsBy status vault sink) where
  pub cause_by : (name : List ℕ) (names : Option Names) → HasImage name names → UpgradeCause status name names vault sink
  cause_by name names has =
      by_end (λ s. UpgradeCause s name names vault sink) vault sink has (λ fault. fault) (λ fault. fault) tt status ends

  pub upgraded_by : (upgraded idle : Type 0) → upgraded → UpgradedOrIdle status upgraded idle
  upgraded_by upgraded idle u = by_end (λ s. UpgradedOrIdle s upgraded idle) vault sink u (λ fault. u) (λ fault. inl u) (inl u) status ends

-- ---- a call that put and wrote

module _ (name save : List ℕ) (before old new : Option Names) (i : Image) (read : ImageUnder name before i) (same : old ≡ before)
    (status : Status) (made files : List File) (are : made ≡ files) (is : files ≡ upgraded_files save i) (put : HasPut status made old new) where
  pub upgraded_is : (taken now : Option (List ℕ)) (written line : List ℕ) → written ≡ line → line ≡ upgraded_text → HasWritten status written taken now
      → Upgraded status name save before new taken now
  upgraded_is taken now written line wrote text has = record {
    i = i;
    read = read;
    put = subst (λ (o : Option Names). HasPut status (upgraded_files save i) o new) same (put_is status made (upgraded_files save i) old new (are ∙ is) put);
    written = written_is status written upgraded_text taken now (wrote ∙ text) has;
  }

  pub puts_the_same : status ≡ Done → PutsTheSame name save before new
  puts_the_same done =
      let all : FirstArePut (upgraded_files save i) 1 old new =
      subst (λ (s : Status). HasPut s (upgraded_files save i) old new) done (put_is status made (upgraded_files save i) old new (are ∙ is) put) in
      record {
        i = i;
        read = read;
        put = subst (λ (o : Option Names). TellsHeld o new (image_name save) (image_bytes i)) same (one_tells (image_file save (image_bytes i)) old new all);
        same = λ h digests. of_two_spellings h digests (image_bytes i) read.bytes i read.spelled.0 (inl refl) read.spelled.1;
      }
