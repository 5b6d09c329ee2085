-- What agrees by one of two meanings whose functions have equal values agrees by the other.
use Rattle.std.proofs.Common.{◌≡◌, ◌≤◌, ◌+◌, ℕ, Bool, List, [], ◌∷◌, length, map, Option, Some, None, refl, sym, ap, ap₂, subst, subst₂, ◌∙◌, inl, inr}
use Rattle.sql_types.specs.declared.digest.Digest.{Digest}
use Rattle.sql_types.specs.declared.journal.JournalItem.{JournalItem}
use Rattle.sql_types.specs.declared.statement.Stmt.{Stmt}
use Rattle.spec_model.specs.Catalog.{Defs}
use Rattle.spec_model.specs.Journals.{tx_count}
use Rattle.spec_history.specs.Agree.{Agree, DigestsAreOf, EndedHaveTheirReplies, IdsAssignedOnce, IsEndedOver, JournalIsTheirs, LockRefusals, MarksNeverFall, ShowsHash, committed_ones}
use Rattle.spec_history.specs.Digests.{IsDigest, replies_of_block}
use Rattle.spec_history.specs.Facts.{Fact, digest, no_digest, facts_of, id_of, mark_of, open_after, Shows}
use Rattle.spec_history.specs.InPlace.{ControlledBy, EndsInside, EndsOutside, EndsWhereItMay, HasItsForm, IsControlled, IsElseNoMemory, ReadOnlyEnd, Throughout, images_after}
use Rattle.spec_history.specs.Inputs.{InputSession}
use Rattle.spec_history.specs.Lists.{Text, Each, Some_of, In, sum}
use Rattle.spec_history.specs.Marks.{IdsRise, ImagesHave, ImagesOfOthersHave, MarksRise, NoneBelow, NoneCounted}
use Rattle.spec_history.specs.Meaning.{Meaning}
use Rattle.spec_history.specs.Refusals.{Clashes, NamesRightly}
use Rattle.spec_history.specs.Serial.{after_tx, texts_of}
use Rattle.spec_history.specs.Transactions.{End, unfixed, committed, ended, Transaction, transactions}
use Rattle.spec_history.specs.Transcripts.{Entry, statement, end_of_session, kind_of, Transcript}
use Rattle.spec_history.proofs.Trace.{each_weaker}
use Rattle.law_behind.specs.AgreeBehind.{AgreeBehind, CountsThePast, HasItems, IdsAssignedFrom, JournalGoesOn}
use Rattle.law_behind.specs.Past.{Past}
use Rattle.law_concurrent.proofs.SameMeanings.{Same, same_after, same_facts_of, still_legal}

some_of : {A : Type 0} (P Q : A → Type 0) → ((x : A) → P x → Q x) → (xs : List A) → Some_of P xs → Some_of Q xs
some_of P Q f [] h = absurd h
some_of P Q f (x ∷ xs) (inl h) = inl (f x h)
some_of P Q f (x ∷ xs) (inr h) = inr (some_of P Q f xs h)

throughout : (P Q : Option ℕ → ℕ → Entry → Type 0) → ((o : Option ℕ) (n : ℕ) (e : Entry) → P o n e → Q o n e) → (o : Option ℕ) (n : ℕ) (es : List Entry) → Throughout P o n es → Throughout Q o n es
throughout P Q f o n [] h = tt
throughout P Q f o n (e ∷ es) h = (f o n e h.0, throughout P Q f (open_after o e) (images_after n e) es h.1)

module _ (q r : Meaning) (s : Same q r) where
  abbrev theirs : (x : Transcript) → facts_of q x ≡ facts_of r x
  theirs x = same_facts_of q r s x

  -- ---- ids

  ids : (X : List Transcript) → IdsAssignedOnce q X → IdsAssignedOnce r X
  ids X h = record {
    k = h.k;
    session = h.session;
    one = λ i x a. subst (λ (gs : List Fact). Shows id_of (λ id. (1 ≤ id) × (id ≤ h.k) × (h.session id ≡ i)) gs) (theirs x) (h.one i x a);
    all = λ id least most. let p = h.all id least most in
        (p.0, p.1, subst (λ (gs : List Fact). Some_of (λ g. In id (id_of g)) gs) (theirs p.0) p.2);
    rise = λ i x a. subst IdsRise (theirs x) (h.rise i x a);
  }

  -- ---- entries

  ends_where : (o : Option ℕ) (n : ℕ) (e : Entry) → EndsWhereItMay q o n e → EndsWhereItMay r o n e
  ends_where (Some id) n (statement text x end) h = subst (λ (y : Option Stmt). EndsInside (kind_of y) id x end) (s.reading text) h
  ends_where None n (statement text x end) h = subst (λ (y : Option Stmt). EndsOutside (kind_of y) end) (s.reading text) h
  ends_where o n (end_of_session end) h = h

  controlled : (o : Option ℕ) (n : ℕ) (e : Entry) → IsControlled q o n e → IsControlled r o n e
  controlled o n (statement text x end) h = subst (λ (y : Option Stmt). ControlledBy o n (kind_of y) x) (s.reading text) h
  controlled o n (end_of_session end) h = tt

  else_no_memory : (o : Option ℕ) (n : ℕ) (e : Entry) → IsElseNoMemory q o n e → IsElseNoMemory r o n e
  else_no_memory (Some id) n (statement text x end) h = subst (λ (y : Option Stmt). ReadOnlyEnd (kind_of y) x end) (s.reading text) h
  else_no_memory None n (statement text x end) h = subst (λ (y : Option Stmt). HasItsForm (kind_of y) x end) (s.reading text) h
  else_no_memory o n (end_of_session end) h = tt

  -- ---- transactions

  journal : (input : List InputSession) (X : List Transcript) (J : List JournalItem) → JournalIsTheirs q input X J → JournalIsTheirs r input X J
  journal input X J h = record {
    legal = still_legal q r s J h.legal;
    no_others = h.no_others;
    items = λ i t x a b. h.items i t x a b ∙ ap (λ (gs : List Fact). committed_ones (transactions gs)) (theirs x);
    ends = λ i x a. throughout (EndsWhereItMay q) (EndsWhereItMay r) ends_where None 0 x.entries (h.ends i x a);
  }

  ended_over : (J : List JournalItem) (u : Transaction) (end : End) → IsEndedOver q J u end → IsEndedOver r J u end
  ended_over J u unfixed h = tt
  ended_over J u (committed n) h = tt
  ended_over J u (ended n back) h = record {
    within = h.within;
    replies = h.replies ∙ s.replies u.explicit (after_tx q q.first n J) u.id (texts_of u.script) ∙ ap (λ T. r.replies u.explicit T u.id (texts_of u.script)) (same_after q r s n J);
    quiet = λ e. sym (s.events u.explicit (after_tx q q.first n J) u.id (texts_of u.script) ∙ ap (λ T. r.events u.explicit T u.id (texts_of u.script)) (same_after q r s n J)) ∙ h.quiet e;
  }

  ended_ones : (X : List Transcript) (J : List JournalItem) → EndedHaveTheirReplies q X J → EndedHaveTheirReplies r X J
  ended_ones X J h i x a = subst (λ (gs : List Fact). Each (λ u. IsEndedOver r J u u.end) (transactions gs)) (theirs x)
      (each_weaker (λ (u : Transaction). IsEndedOver q J u u.end) (λ u. IsEndedOver r J u u.end) (λ u k. ended_over J u u.end k) (transactions (facts_of q x)) (h i x a))

  -- ---- marks

  marks : (setup : Option ℕ) (X : List Transcript) (J : List JournalItem) → MarksNeverFall q setup X J → MarksNeverFall r setup X J
  marks setup X J h = record {
    rise = λ i x a. subst (MarksRise J) (theirs x) (h.rise i x a);
    after_setup = λ u i y x e a b ne. subst₂ (NoneBelow J) (theirs y) (theirs x) (h.after_setup u i y x e a b ne);
    images = λ i x a. subst (ImagesHave J) (theirs x) (h.images i x a);
    images_after_setup = λ u i y x e a b ne. subst₂ (ImagesOfOthersHave J) (theirs y) (theirs x) (h.images_after_setup u i y x e a b ne);
  }

  -- ---- digests

  shows_hash : (J : List JournalItem) (g : Fact) → ShowsHash q J g → ShowsHash r J g
  shows_hash J (digest b hash) h = (h.0, h.1 ∙ s.block_hash J b)
  shows_hash J g h = tt

  is_digest : (database : Text) (J : List JournalItem) (d : Digest) → IsDigest q database J d → IsDigest r database J d
  is_digest database J d h = record { of = h.of; hash = h.hash ∙ s.block_hash J d.block; last = h.last }

  as_many : (b : ℕ) (X : List Transcript) → sum (map (λ x. replies_of_block b (facts_of q x)) X) ≡ sum (map (λ x. replies_of_block b (facts_of r x)) X)
  as_many b [] = refl
  as_many b (x ∷ X) = ap₂ (λ (m n : ℕ). m + n) (ap (replies_of_block b) (theirs x)) (as_many b X)

  digests : (database : Text) (setup : Option ℕ) (X : List Transcript) (J : List JournalItem) (G : List Digest) → DigestsAreOf q database setup X J G → DigestsAreOf r database setup X J G
  digests database setup X J G h = record {
    shown = λ i x a. subst (λ (gs : List Fact). Each (ShowsHash r J) gs) (theirs x) (each_weaker (ShowsHash q J) (ShowsHash r J) (shows_hash J) (facts_of q x) (h.shown i x a));
    as_many = λ b. h.as_many b ∙ as_many b X;
    each = each_weaker (IsDigest q database J) (IsDigest r database J) (is_digest database J) G h.each;
    rise = h.rise;
    first = λ i x before after a e. h.first i x before after a (theirs x ∙ e);
    none_of_setup = λ u i y x e a b ne k. subst (NoneCounted J) (theirs y) (h.none_of_setup u i y x e a b ne (subst (λ (gs : List Fact). In no_digest gs) (sym (theirs x)) k));
  }

  -- ---- refusals for a lock

  clash : (D E : Defs) (o : Bool) (text : Text) (p : Bool) → D ≡ E → (x : Text × Bool) → Clashes q D o text p x → Clashes r E o text p x
  clash D E o text p same x (inl h) = inl (sym (s.in_catalog o p text x.0) ∙ h)
  clash D E o text p same x (inr h) = inr (h.0, ap (λ (F : Defs). r.in_table F o text p x.0) (sym same) ∙ sym (s.in_table D o p text x.0) ∙ h.1)

  same_defs : (J : List JournalItem) (n : ℕ) → q.defs (after_tx q q.first n J) ≡ r.defs (after_tx r r.first n J)
  same_defs J n = s.defs (after_tx q q.first n J) ∙ ap r.defs (same_after q r s n J)

  names_rightly : (J : List JournalItem) (setup : Option ℕ) (X : List Transcript) (i : ℕ) (text : Text) (holder : ℕ) (earlier later : List Fact)
      → NamesRightly q J setup X i text holder earlier later → NamesRightly r J setup X i text holder earlier later
  names_rightly J setup X i text holder earlier later h = record {
    mine = h.mine;
    explicit = h.explicit;
    within = h.within;
    other = h.other;
    differs = h.differs;
    transcript = h.transcript;
    there = h.there;
    theirs = h.theirs;
    named = h.named;
    is = subst (λ (gs : List Fact). In h.theirs (transactions gs)) (theirs h.transcript) h.is;
    not_of_setup = h.not_of_setup;
    not_in_setup = h.not_in_setup;
    n = h.n;
    ends_at = h.ends_at;
    clash = some_of (Clashes q (q.defs (after_tx q q.first h.n J)) h.explicit text h.theirs.explicit) (Clashes r (r.defs (after_tx r r.first h.n J)) h.explicit text h.theirs.explicit)
        (clash (q.defs (after_tx q q.first h.n J)) (r.defs (after_tx r r.first h.n J)) h.explicit text h.theirs.explicit (same_defs J h.n)) h.theirs.answered h.clash;
    spans = record {
      explicit = h.spans.explicit;
      before = h.spans.before;
      inside = h.spans.inside;
      after = h.spans.after;
      is = sym (theirs h.transcript) ∙ h.spans.is;
      all_inside = h.spans.all_inside;
    };
    marks_before = h.marks_before;
    marks_of_holder = h.marks_of_holder;
    next_of_refused = h.next_of_refused;
    next_of_holder = h.next_of_holder;
  }

  refusals : (setup : Option ℕ) (X : List Transcript) (J : List JournalItem) → LockRefusals q setup X J → LockRefusals r setup X J
  refusals setup X J h i x text holder earlier later a e = names_rightly J setup X i text holder earlier later (h i x text holder earlier later a (theirs x ∙ e))

  -- ---- all of it

  pub then_agrees : (database : Text) (input : List InputSession) (setup : Option ℕ) (X : List Transcript) (J : List JournalItem) (G : List Digest) → Agree q database input setup X J G → Agree r database input setup X J G
  then_agrees database input setup X J G h = record {
    statements_are_answered = h.statements_are_answered;
    ids_are_assigned_once = ids X h.ids_are_assigned_once;
    journal_is_theirs = journal input X J h.journal_is_theirs;
    ended_have_their_replies = ended_ones X J h.ended_have_their_replies;
    marks_never_fall = marks setup X J h.marks_never_fall;
    digests_are_the_journals = digests database setup X J G h.digests_are_the_journals;
    lock_refusals_name_holders = refusals setup X J h.lock_refusals_name_holders;
    control_is_refused_in_place = λ i x a. throughout (IsControlled q) (IsControlled r) controlled None 0 x.entries (h.control_is_refused_in_place i x a);
    else_no_memory = λ i x a. throughout (IsElseNoMemory q) (IsElseNoMemory r) else_no_memory None 0 x.entries (h.else_no_memory i x a);
  }

  -- ---- behind a past

  ids_from : (next : ℕ) (X : List Transcript) → IdsAssignedFrom q next X → IdsAssignedFrom r next X
  ids_from next X h = record {
    k = h.k;
    session = h.session;
    one = λ i x a. subst (λ (gs : List Fact). Shows id_of (λ id. (next ≤ id) × (id ≤ h.k) × (h.session id ≡ i)) gs) (theirs x) (h.one i x a);
    all = λ id least most. let p = h.all id least most in
        (p.0, p.1, subst (λ (gs : List Fact). Some_of (λ g. In id (id_of g)) gs) (theirs p.0) p.2);
    rise = λ i x a. subst IdsRise (theirs x) (h.rise i x a);
  }

  journal_on : (past : Past) (input : List InputSession) (X : List Transcript) (J : List JournalItem) → JournalGoesOn q past input X J → JournalGoesOn r past input X J
  journal_on past input X J h = record {
    legal = still_legal q r s J h.legal;
    begins = h.begins;
    no_others = h.no_others;
    items = λ i t x a b. h.items i t x a b ∙ ap (λ (gs : List Fact). committed_ones (transactions gs)) (theirs x);
    ends = λ i x a. throughout (EndsWhereItMay q) (EndsWhereItMay r) ends_where None 0 x.entries (h.ends i x a);
  }

  counts : (past : Past) (X : List Transcript) (J : List JournalItem) → CountsThePast q past X J → CountsThePast r past X J
  counts past X J h = record {
    marks = λ i x a. subst (λ (gs : List Fact). Shows (mark_of J) (λ m. tx_count past.items ≤ m) gs) (theirs x) (h.marks i x a);
    images = λ i x a. subst (Each (HasItems (length past.items))) (theirs x) (h.images i x a);
    none = λ i x a k. h.none i x a (subst (λ (gs : List Fact). In no_digest gs) (sym (theirs x)) k);
  }

  pub then_agrees_behind : (database : Text) (past : Past) (input : List InputSession) (setup : Option ℕ) (X : List Transcript) (J : List JournalItem) (G : List Digest) → AgreeBehind q database past input setup X J G → AgreeBehind r database past input setup X J G
  then_agrees_behind database past input setup X J G h = record {
    statements_are_answered = h.statements_are_answered;
    ids_are_assigned_once = ids_from past.next X h.ids_are_assigned_once;
    journal_goes_on = journal_on past input X J h.journal_goes_on;
    ended_have_their_replies = ended_ones X J h.ended_have_their_replies;
    marks_never_fall = marks setup X J h.marks_never_fall;
    past_counts = counts past X J h.past_counts;
    digests_are_the_journals = digests database setup X J G h.digests_are_the_journals;
    lock_refusals_name_holders = refusals setup X J h.lock_refusals_name_holders;
    control_is_refused_in_place = λ i x a. throughout (IsControlled q) (IsControlled r) controlled None 0 x.entries (h.control_is_refused_in_place i x a);
    else_no_memory = λ i x a. throughout (IsElseNoMemory q) (IsElseNoMemory r) else_no_memory None 0 x.entries (h.else_no_memory i x a);
  }
