-- What a run leaves that goes on from a journal, and how the parts of such a call come together.
use Rattle.std.proofs.Common.{◌≡◌, ◌⊎◌, ◌<◌, ◌^◌, ℕ, List, [], ◌∷◌, ◌++◌, map, length, append_assoc, sym, ap, ◌∙◌, subst, inl}
use Rattle.std.specs.Prelude.{replicate}
use Rattle.sql_types.specs.declared.digest.Digest.{Digest}
use Rattle.sql_types.specs.declared.digest.HeldDigest.{HeldDigest}
use Rattle.sql_types.specs.declared.journal.Journal.{Journal}
use Rattle.sql_types.specs.declared.journal.JournalItem.{JournalItem}
use Rattle.sql_types.specs.declared.journal.JournalItem.TheVariants.{Close}
use Rattle.spec_history.specs.Lists.{Text, Each}
use Rattle.spec_history.proofs.Trace.{each_weaker}
use Rattle.spec_syntax.specs.Text.{statement_of}
use Rattle.spec_protocol.specs.Seats.{KeptImage}
use Rattle.law_accepts.specs.Held.{IsHeld}
use Rattle.law_behind.specs.Past.{Past, since}
use Rattle.server_step.specs.AcceptedBehind.{IsAcceptedBehind, IsHeldOfPast, IsHeldOfRun}
use Rattle.server_step.specs.LastImage.{last_image}
use Rattle.server_step.proofs.SessionOutput.{some_meaning}
use Rattle.audit_replay.specs.GoesOn.{LeadsOn}
use Rattle.audit_replay.specs.declared.past.Past.{Past as LedTo}
use Rattle.server_session.specs.KeptCell.{KeptCell}
use Rattle.server_step.specs.Starts.{past_in}
use Rattle.format_lines.specs.Line.{Statement}
use Rattle.format_lines.specs.Sessions.{sessions_of}
use Rattle.format_sections.specs.RunSections.{RunSections}
use Rattle.server_result.specs.Images.{ItemsRise}
use Rattle.server_result.specs.Moments.{said_with}
use Rattle.server_result.specs.declared.ran.RunOutcome.{RunOutcome as Output}
use Rattle.server_step.specs.Came.{Run}
use Rattle.server_step.specs.CameBehind.{CameToBehind}
use Rattle.server_step.specs.RunOutcome.{IsRunOutcome}
use Rattle.workload_run.specs.Agreed.{RunResult}
use Rattle.workload_run.specs.CameTo as all
use Rattle.workload_run.specs.CameTo.{IsOf}
use Rattle.cli_words.specs.Commands.{Settings}
use Rattle.server_past.specs.PastCells.{past_seen}
use Rattle.cli_commands.specs.GoesOn.{Continues, IsAcceptedWith, LinesComeToBehind, SectionsComeToBehind, StartsFrom}
use Rattle.cli_commands.specs.Run.{IsSavable}
use Rattle.cli_commands.proofs.SavedLemmas.{AreSmall, each_of_one, numbers_small}

-- ---- the past begins with the journal

module _ (h : List ℕ → List ℕ) (size : ℕ) (J : Journal) (past : LedTo) (leads : LeadsOn h size J past) where
  abbrev closings : List JournalItem
  closings = replicate leads.count (Close size)

  -- its digests are those of the past
  of_past : (d : HeldDigest) → IsHeld h statement_of J.database J.items d → IsHeldOfPast h J.database (past_seen past) d
  of_past d is = record { front = J.items; rest = closings; begins = leads.items; is = is }

  -- so an image that is accepted with those is with these
  accepted_with : (K : List JournalItem) (G : List Digest) (k : KeptImage) → IsAcceptedBehind h J.database (past_seen past) K G k → IsAcceptedWith h J k.1
  accepted_with K G k is digests held = is digests
      (each_weaker (IsHeld h statement_of J.database J.items) (λ d. IsHeldOfPast h J.database (past_seen past) d ⊎ IsHeldOfRun K k.0 G d) (λ d it. inl (of_past d it)) digests held)

  -- the journal behind the past
  begins_behind : (K : List JournalItem) → K ≡ past.items.items ++ since (past_seen past) K → K ≡ J.items ++ (closings ++ since (past_seen past) K)
  begins_behind K is = is ∙ ap (λ l. l ++ since (past_seen past) K) leads.items ∙ append_assoc J.items closings (since (past_seen past) K)

-- ---- images

each_first : {A : Type 0} (P : A → Type 0) (xs ys : List A) → Each P (xs ++ ys) → Each P xs
each_first P [] ys h = tt
each_first P (x ∷ xs) ys h = (h.0, each_first P xs ys h.1)

each_second : {A : Type 0} (P : A → Type 0) (xs ys : List A) → Each P (xs ++ ys) → Each P ys
each_second P [] ys h = h
each_second P (x ∷ xs) ys h = each_second P xs ys h.1

each_mapped : {A B : Type 0} (f : A → B) (P : B → Type 0) (xs : List A) → Each (λ x. P (f x)) xs → Each P (map f xs)
each_mapped f P [] h = tt
each_mapped f P (x ∷ xs) h = (h.0, each_mapped f P xs h.1)

module _ (h : List ℕ → List ℕ) (how : Settings) (clock : ℕ → Type 0) (J : Journal) (past : LedTo) (leads : LeadsOn h how.block_size J past) (o : Output) where
  -- `step`
  pub lines_continue : (statements : List Statement) (run : Run) → CameToBehind h J.database how.block_size (past_seen past) (said_with how.clock clock) statements run
      → IsRunOutcome h (sessions_of statements) run o → Continues h J o
  lines_continue statements run came is =
      let P : KeptImage → Type 0 = IsAcceptedBehind h J.database (past_seen past) run.J.items run.G in
      let Q : KeptImage → Type 0 = λ k. IsAcceptedWith h J k.1 in
      let all = each_weaker P Q (accepted_with h how.block_size J past leads run.J.items run.G) (run.images ++ last_image h run.J ∷ []) came.accepted in
      let q = some_meaning h statement_of in
      let grown = (came.agrees.agree q.0 q.1).journal_goes_on.begins in
      record {
        database = ap (λ (K : Journal). K.database) is.journal ∙ came.of_database;
        new = closings h how.block_size J past leads ++ since (past_seen past) run.J.items;
        begins = ap (λ (K : Journal). K.items) is.journal ∙ begins_behind h how.block_size J past leads run.J.items grown;
        accepted = (
          subst (IsAcceptedWith h J) (sym is.image) (each_second Q run.images (last_image h run.J ∷ []) all).0,
          each_mapped (λ (k : KeptImage). k.1) (IsAcceptedWith h J) o.images (subst (Each Q) (sym is.images) (each_first Q run.images (last_image h run.J ∷ []) all)),
        );
      }

  -- `run`
  pub sections_continue : (all_sections : RunSections) (left : RunResult) → all.CameToBehind h J.database how.block_size (past_seen past) (said_with how.clock clock) all_sections left
      → IsOf h all_sections left o → Continues h J o
  sections_continue all_sections left came is =
      let P : KeptImage → Type 0 = IsAcceptedBehind h J.database (past_seen past) left.J.items left.G in
      let Q : KeptImage → Type 0 = λ k. IsAcceptedWith h J k.1 in
      let accepts : (k : KeptImage) → P k → Q k = accepted_with h how.block_size J past leads left.J.items left.G in
      let kept = each_weaker (λ ks. Each P ks) (λ ks. Each Q ks) (λ ks. each_weaker P Q accepts ks) left.kept came.accepted in
      let q = some_meaning h statement_of in
      let grown = (came.agree q.0 q.1).journal_goes_on.begins in
      record {
        database = ap (λ (K : Journal). K.database) is.journal ∙ came.of_database;
        new = closings h how.block_size J past leads ++ since (past_seen past) left.J.items;
        begins = ap (λ (K : Journal). K.items) is.journal ∙ begins_behind h how.block_size J past leads left.J.items grown;
        accepted = (
          subst (IsAcceptedWith h J) (sym is.image) (accepts (last_image h left.J) came.last_accepted),
          each_mapped (λ (k : KeptImage). k.1) (IsAcceptedWith h J) o.images (each_of_one Q left.kept o.images kept is.images.no_others),
        );
      }

-- ---- a run that starts from a journal

module _ (h : List ℕ → List ℕ) (how : Settings) (clock : ℕ → Type 0) (J : Journal) (database : Text) (cells : List KeptCell) (starts : StartsFrom h how.block_size J database cells)
    (o : Output) (given : Text) (same : given ≡ database) where
  named : given ≡ J.database
  named = same ∙ starts.of ∙ starts.leads.database

  pub lines_come : (statements : List Statement) (run : Run) → CameToBehind h given how.block_size (past_in cells) (said_with how.clock clock) statements run
      → IsRunOutcome h (sessions_of statements) run o → LinesComeToBehind h how clock J statements o
  lines_come statements run came is =
      let behind = subst (λ (p : Past). CameToBehind h given how.block_size p (said_with how.clock clock) statements run) starts.behind came in
      let now = subst (λ (d : Text). CameToBehind h d how.block_size (past_seen starts.past) (said_with how.clock clock) statements run) named behind in
      record { past = starts.past; leads = starts.leads; run = run; came = now; is = is; continues = lines_continue h how clock J starts.past starts.leads o statements run now is }

  pub sections_come : (all_sections : RunSections) (left : RunResult) → all.CameToBehind h given how.block_size (past_in cells) (said_with how.clock clock) all_sections left
      → IsOf h all_sections left o → SectionsComeToBehind h how clock J all_sections o
  sections_come all_sections left came is =
      let behind = subst (λ (p : Past). all.CameToBehind h given how.block_size p (said_with how.clock clock) all_sections left) starts.behind came in
      let now = subst (λ (d : Text). all.CameToBehind h d how.block_size (past_seen starts.past) (said_with how.clock clock) all_sections left) named behind in
      record { past = starts.past; leads = starts.leads; left = left; came = now; is = is; continues = sections_continue h how clock J starts.past starts.leads o all_sections left now is }

-- what it left can be saved
module _ (h : List ℕ → List ℕ) (how : Settings) (clock : ℕ → Type 0) (J : Journal) (o : Output) where
  pub lines_savable_behind : (statements : List Statement) → LinesComeToBehind h how clock J statements o → IsSavable o
  lines_savable_behind statements x =
      let few : length x.run.J.items < 2 ^ 64 = subst (λ (K : Journal). length K.items < 2 ^ 64) x.is.journal x.is.journal_is_encodable.count in
      let same : x.run.images ≡ o.images = sym x.is.images in
      record {
        journal = x.is.journal_is_encodable;
        digests = x.is.digests_have_moments;
        numbers = subst AreSmall same (numbers_small h J.database x.run.J x.run.kept x.run.images few x.came.agrees.are_images x.came.saved);
        rise = subst ItemsRise same x.came.saved.rise;
      }

  pub sections_savable_behind : (all_sections : RunSections) → SectionsComeToBehind h how clock J all_sections o → IsSavable o
  sections_savable_behind all_sections x =
      let few : length x.left.J.items < 2 ^ 64 = subst (λ (K : Journal). length K.items < 2 ^ 64) x.is.journal x.is.journal_is_encodable.count in
      record {
        journal = x.is.journal_is_encodable;
        digests = x.is.digests_have_moments;
        numbers = numbers_small h J.database x.left.J x.left.kept o.images few x.came.are_images x.is.images;
        rise = x.is.images.rise;
      }
