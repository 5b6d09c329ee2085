-- The files of a run have different names, so each of them stands once all are put.
use Rattle.std.proofs.Common.{◌≡◌, ◌≢◌, ◌<◌, ◌^◌, ℕ, Bool, true, false, cond, List, [], ◌∷◌, ◌++◌, map, length, length-append, append_assoc, get_or, Option, Some, None, refl, sym, ap, ◌∙◌, subst, arith, codes, bytes_eq, ⊎_elim}
use Rattle.std.specs.Fmt.{decimal}
use Rattle.std.proofs.lemmas.Fmt.{decimal_injective}
use Rattle.std.proofs.lemmas.List.{append_cancel_left, append_cancel_right, take_all}
use Rattle.std.proofs.lemmas.Slice.Eq.{bytes_eq-Decides}
use Rattle.base_io.specs.Store.{Bytes, Names}
use Rattle.sql_types.specs.declared.journal.Journal.{Journal}
use Rattle.spec_syntax.specs.Text.{statement_of}
use Rattle.server_step.specs.SessionOutput.{IsImageOf}
use Rattle.spec_history.specs.Lists.{Each, Some_of, In}
use Rattle.spec_history.proofs.Trace.{each_weaker}
use Rattle.format_journal.specs.Journal.{journal_bytes}
use Rattle.format_lines.specs.Line.{Statement}
use Rattle.format_sections.specs.RunSections.{RunSections}
use Rattle.spec_protocol.specs.Seats.{KeptImage}
use Rattle.server_result.specs.Images.{AreKept, ItemsRise}
use Rattle.server_result.specs.declared.ran.RunOutcome.{RunOutcome as Output}
use Rattle.cli_words.specs.Commands.{Settings}
use Rattle.cli_audit.specs.declared.files.File.{File}
use Rattle.cli_audit.specs.declared.status.Status.{Status}
use Rattle.cli_audit.specs.Answer.{HasPut, HasWritten}
use Rattle.cli_commands.specs.Answer.{Saves}
use Rattle.cli_audit.specs.Files.{names_after, TellsLeft, TellsHeld, FirstArePut, put_held, image_name, image_file, journal_name}
use Rattle.cli_commands.specs.Run.{cut_name, cut_file, digests_name, digests_file, saved_files, LinesComeTo, SectionsComeTo, IsSavable, AreSaved}
use Rattle.cli_audit.proofs.AnswerLemmas.{put_is, written_is}

-- ---- files of different names

abbrev pub NamesDiffer : List File → Type 0
NamesDiffer [] = Unit {0}
NamesDiffer (file ∷ files) = Each (λ other. file.name ≢ other.name) files × NamesDiffer files

is_other : (name other : List ℕ) → name ≢ other → bytes_eq name other ≡ false
is_other name other differ = go (bytes_eq name other) refl
  where
    go : (b : Bool) → bytes_eq name other ≡ b → bytes_eq name other ≡ false
    go true e = absurd (differ ((bytes_eq-Decides name other).0 e))
    go false e = e

-- what stands under another name stays
others_stay : (files : List File) (names : Names) (name : List ℕ) → Each (λ other. name ≢ other.name) files → names_after (map put_held files) names name ≡ names name
others_stay [] names name differ = refl
others_stay (f ∷ files) names name differ =
    others_stay files (λ n. cond (bytes_eq n f.name) (Bytes f.bytes) (names n)) name differ.1
    ∙ ap (λ b. cond b (Bytes f.bytes) (names name)) (is_other name f.name differ.0)

each_left : (files : List File) (names : Names) → NamesDiffer files → Each (λ f. names_after (map put_held files) names f.name ≡ Bytes f.bytes) files
each_left [] names differ = tt
each_left (f ∷ files) names differ =
    let after : Names = λ n. cond (bytes_eq n f.name) (Bytes f.bytes) (names n) in
    (others_stay files after f.name differ.0 ∙ ap (λ b. cond b (Bytes f.bytes) (names f.name)) ((bytes_eq-Decides f.name f.name).1 refl), each_left files after differ.1)

everywhere : {A : Type 0} (P : A → Type 0) → ((a : A) → P a) → (xs : List A) → Each P xs
everywhere P f [] = tt
everywhere P f (x ∷ xs) = (f x, everywhere P f xs)

told_each : (files : List File) (old new : Option Names) → NamesDiffer files → TellsLeft (map put_held files) old new → Each (λ f. TellsHeld old new f.name f.bytes) files
told_each files None new differ told = everywhere (λ f. TellsHeld None new f.name f.bytes) (λ f. tt) files
told_each files (Some old) None differ told = absurd told
told_each files (Some old) (Some new) differ told =
    each_weaker (λ f. names_after (map put_held files) old f.name ≡ Bytes f.bytes) (λ f. TellsHeld (Some old) (Some new) f.name f.bytes) (λ f e. told f.name ∙ e) files (each_left files old differ)

all_are_put : (files : List File) (old new : Option Names) → NamesDiffer files → FirstArePut files (length files) old new → Each (λ f. TellsHeld old new f.name f.bytes) files
all_are_put files old new differ are_in_vault =
    let P : List File → Type 0 = λ l. TellsLeft (map put_held l) old new in
    told_each files old new differ (subst P (take_all (length files) files (omega arith)) are_in_vault)

-- ---- the names of a run's files

cuts_apart : (save : List ℕ) (m n : ℕ) → m < 2 ^ 64 → n < 2 ^ 64 → m < n → cut_name save m ≢ cut_name save n
cuts_apart save m n few also less e =
    let same = decimal_injective m n few also
    (append_cancel_left (save ++ codes "-") (decimal m) (decimal n)
    (append_cancel_right ((save ++ codes "-") ++ decimal m) ((save ++ codes "-") ++ decimal n) (codes ".img") e)) in
    absurd (omega (arith, same, less))

cut_and_image : (save : List ℕ) (m : ℕ) → cut_name save m ≢ image_name save
cut_and_image save m e =
    let same = append_cancel_right ((save ++ codes "-") ++ decimal m) save (codes ".img") e in
    let front = length-append (save ++ codes "-") (decimal m) in
    let head = length-append save (codes "-") in
    absurd (omega (arith, ap length same, front, head))

-- an ending that doesn't begin with a dash
cut_and_other : (save ending : List ℕ) (m : ℕ) → get_or ending 0 0 ≡ 46 → cut_name save m ≢ save ++ ending
cut_and_other save ending m dot e =
    let grouped = sym (append_assoc save (codes "-") (decimal m ++ codes ".img")) ∙ sym (append_assoc (save ++ codes "-") (decimal m) (codes ".img")) in
    let same = append_cancel_left save (codes "-" ++ (decimal m ++ codes ".img")) ending (grouped ∙ e) in
    let first : 45 ≡ get_or ending 0 0 = ap (λ l. get_or l 0 0) same in
    absurd (omega (arith, first, dot))

image_and_digests : (save : List ℕ) → image_name save ≢ digests_name save
image_and_digests save e =
    let same : 4 ≡ 8 = ap length (append_cancel_left save (codes ".img") (codes ".digests") e) in
    absurd (omega (arith, same))

image_and_journal : (save : List ℕ) → image_name save ≢ journal_name save
image_and_journal save e =
    let same : 4 ≡ 8 = ap length (append_cancel_left save (codes ".img") (codes ".journal") e) in
    absurd (omega (arith, same))

digests_and_journal : (save : List ℕ) → digests_name save ≢ journal_name save
digests_and_journal save e =
    let same : 100 ≡ 106 = ap (λ l. get_or l 1 0) (append_cancel_left save (codes ".digests") (codes ".journal") e) in
    absurd (omega (arith, same))

module _ (save : List ℕ) (image digests journal : List ℕ) where
  abbrev last_files : List File
  last_files = image_file save image ∷ digests_file save digests ∷ record { name = journal_name save; bytes = journal } ∷ []

  last_differ : NamesDiffer last_files
  last_differ = ((image_and_digests save, (image_and_journal save, tt)), ((digests_and_journal save, tt), (tt, tt)))

  cut_apart : (k : KeptImage) (ks : List KeptImage) → k.0 < 2 ^ 64 → Each (λ l. l.0 < 2 ^ 64) ks → Each (λ later. k.0 < later.0) ks → Each (λ other. cut_name save k.0 ≢ other.name) (map (cut_file save) ks ++ last_files)
  cut_apart k [] few small rise = (cut_and_image save k.0, (cut_and_other save (codes ".digests") k.0 refl, (cut_and_other save (codes ".journal") k.0 refl, tt)))
  cut_apart k (l ∷ ks) few small rise = (cuts_apart save k.0 l.0 few small.0 rise.0, cut_apart k ks few small.1 rise.1)

  names_differ : (images : List KeptImage) → Each (λ k. k.0 < 2 ^ 64) images → ItemsRise images → NamesDiffer (map (cut_file save) images ++ last_files)
  names_differ [] small rise = last_differ
  names_differ (k ∷ ks) small rise = (cut_apart k ks small.0 small.1 rise.0, names_differ ks small.1 rise.1)

saved_are_put : (save : List ℕ) (o : Output) (digests : List ℕ) (old new : Option Names) → Each (λ k. k.0 < 2 ^ 64) o.images → ItemsRise o.images
    → FirstArePut (saved_files save o digests) (length (saved_files save o digests)) old new → Each (λ f. TellsHeld old new f.name f.bytes) (saved_files save o digests)
saved_are_put save o digests old new small rise are_in_vault =
    all_are_put (saved_files save o digests) old new (names_differ save o.image digests (journal_bytes o.journal) o.images small rise) are_in_vault

-- ---- numbers of items

some_in : {A : Type 0} (P : A → Type 0) (x : A) (xs : List A) → Each P xs → In x xs → P x
some_in P x [] e i = absurd i
some_in P x (y ∷ ys) e i = ⊎_elim (λ (same : y ≡ x). subst P same e.0) (λ j. some_in P x ys e.1 j) i

of_one : {A : Type 0} (P : A → Type 0) (x : A) (lists : List (List A)) → Each (λ xs. Each P xs) lists → Some_of (λ xs. In x xs) lists → P x
of_one P x [] e s = absurd s
of_one P x (xs ∷ lists) e s = ⊎_elim (λ i. some_in P x xs e.0 i) (λ t. of_one P x lists e.1 t) s

pub each_of_one : {A : Type 0} (P : A → Type 0) (lists : List (List A)) (xs : List A) → Each (λ l. Each P l) lists → Each (λ x. Some_of (λ l. In x l) lists) xs → Each P xs
each_of_one P lists xs e s = each_weaker (λ x. Some_of (λ l. In x l) lists) P (λ x t. of_one P x lists e t) xs s

abbrev pub AreSmall : List KeptImage → Type 0
AreSmall images = Each (λ k. k.0 < 2 ^ 64) images

-- those of the images of a journal that has a spelling
pub numbers_small : (h : List ℕ → List ℕ) (database : List ℕ) (J : Journal) (kept : List (List KeptImage)) (images : List KeptImage) → length J.items < 2 ^ 64
    → Each (λ ks. Each (IsImageOf h statement_of database J.items) ks) kept → AreKept kept images → AreSmall images
numbers_small h database J kept images few are saved =
    let each : Each AreSmall kept =
    each_weaker (λ ks. Each (IsImageOf h statement_of database J.items) ks) AreSmall
    (λ ks. each_weaker (IsImageOf h statement_of database J.items) (λ (k : KeptImage). k.0 < 2 ^ 64) (λ k of. omega (arith, of.within, few)) ks) kept are in
    each_of_one (λ (k : KeptImage). k.0 < 2 ^ 64) kept images each saved.no_others

-- ---- what a run left can be saved

module _ (h : List ℕ → List ℕ) (how : Settings) (clock : ℕ → Type 0) (o : Output) where
  pub lines_savable : (statements : List Statement) → LinesComeTo h how clock statements o → IsSavable o
  lines_savable statements is =
      let few : length is.run.J.items < 2 ^ 64 = subst (λ (J : Journal). length J.items < 2 ^ 64) is.is.journal is.is.journal_is_encodable.count in
      let same : is.run.images ≡ o.images = sym is.is.images in
      record {
        journal = is.is.journal_is_encodable;
        digests = is.is.digests_have_moments;
        numbers = subst AreSmall same (numbers_small h how.database is.run.J is.run.kept is.run.images few is.came.agrees.are_images is.came.saved);
        rise = subst ItemsRise same is.came.saved.rise;
      }

  pub sections_savable : (all_sections : RunSections) → SectionsComeTo h how clock all_sections o → IsSavable o
  sections_savable all_sections is =
      let few : length is.left.J.items < 2 ^ 64 = subst (λ (J : Journal). length J.items < 2 ^ 64) is.is.journal is.is.journal_is_encodable.count in
      record {
        journal = is.is.journal_is_encodable;
        digests = is.is.digests_have_moments;
        numbers = numbers_small h how.database is.left.J is.left.kept o.images few is.came.are_images is.is.images;
        rise = is.is.images.rise;
      }

-- ---- what is put and written of it

module _ (save : List ℕ) (o : Output) (savable : IsSavable o) (files : List File) (saved : AreSaved save o files) where
  pub saves_is : (ended : Status) (made : List File) (text : List ℕ) (old new : Option Names) (taken now : Option (List ℕ)) → made ≡ files → text ≡ o.transcript
      → HasPut ended made old new → HasWritten ended text taken now → Saves ended save o old new taken now
  saves_is ended made text old new taken now are said put written =
      let all = put_is ended made (saved_files save o saved.digests) old new (are ∙ saved.files) put in
      record {
        digests = saved.digests;
        file = saved.file;
        journal_is_encodable = savable.journal;
        digests_read_back = saved.read_back;
        put = all;
        written = written_is ended text o.transcript taken now said written;
        are_in_vault = λ done. saved_are_put save o saved.digests old new savable.numbers savable.rise
            (subst (λ (s : Status). HasPut s (saved_files save o saved.digests) old new) done all);
      }
