-- Digests are answered to the statements that ask for one, and to no others.
use Rattle.std.proofs.Common.{◌≡◌, ◌∙◌, ℕ, zero, suc, ◌+◌, ◌*◌, ◌<◌, ◌≤◌, Bool, true, false, List, [], ◌∷◌, ◌++◌, map, length, Option, Some, None, refl, sym, ap, subst, arith, inl, inr, ⊎_elim}
use Rattle.std.specs.Prelude.{◌==◌, ◌⊎◌}
use Rattle.std.proofs.lemmas.Bool.Decides.{nat_tests}
use Rattle.sql_value.specs.declared.refusal.Refusal.{Refusal}
use Rattle.sql_value.specs.declared.refusal.Refusal.TheVariants.{Locked, NothingCommitted, NoMemory}
use Rattle.sql_types.specs.declared.digest.Digest.{Digest}
use Rattle.sql_types.specs.declared.journal.JournalItem.{JournalItem}
use Rattle.sql_types.specs.declared.reply.Reply.{Reply}
use Rattle.sql_types.specs.declared.reply.Reply.TheVariants as reply
use Rattle.sql_types.specs.declared.statement.Stmt.{Stmt}
use Rattle.sql_types.specs.declared.statement.Stmt.TheVariants as stmt
use Rattle.spec_history.specs.Agree.{AreStatements, DigestsAreOf, ShowsHash}
use Rattle.spec_history.specs.Digests.{one_if, of_block, shows_block, replies_of_block}
use Rattle.spec_history.specs.Facts.{Fact, began, said, failed, met, placed, passed, over, digest, end_facts, maybe_end, other_facts, answer_facts, own_facts, facts_inside, facts_outside, entry_facts, open_after, facts, facts_of}
use Rattle.spec_history.specs.InPlace.{Throughout, images_after, ControlledBy, HasItsForm, IsControlled, IsElseNoMemory}
use Rattle.spec_history.specs.Inputs.{InputSession}
use Rattle.spec_history.specs.Journals.{blocks}
use Rattle.spec_history.specs.Lists.{Text, Each, At, sum}
use Rattle.spec_history.specs.Meaning.{Meaning}
use Rattle.spec_history.specs.Transcripts.{EndLine, committed_at, ended_after, Entry, statement, end_of_session, Transcript, statements, Kind, unread, begin, commit, roll_back, to_savepoint, create, rows, issue, keep, kind_of}
use Rattle.law_digests.specs.Issued.{AgreeOnDigests, input_bytes, line_bytes}
use Rattle.law_digests.proofs.Below.{below, below_same, below_both, below_none, at_most_once, all_counted}

-- ---- what facts show

-- they show no digest
abbrev Silent : List Fact → Type 0
Silent gs = (b : ℕ) → replies_of_block b gs ≡ 0

-- they are one digest
abbrev IsDigestFact : List Fact → Type 0
IsDigestFact gs = (block : ℕ) × (hash : Text) × (gs ≡ digest block hash ∷ [])

end_silent : (back : Bool) (end : EndLine) → Silent (end_facts back end)
end_silent back (committed_at id place) b = refl
end_silent back (ended_after id n) b = refl

maybe_silent : (back : Bool) (end : Option EndLine) → Silent (maybe_end back end)
maybe_silent back None b = refl
maybe_silent back (Some end) b = end_silent back end b

refusal_silent : (e : Refusal) → Silent (other_facts (reply.Refused e))
refusal_silent NothingCommitted b = refl
refusal_silent _ b = refl

refused_silent : (e : Refusal) (r : Reply) → r ≡ reply.Refused e → Silent (other_facts r)
refused_silent e r is = subst (λ (x : Reply). Silent (other_facts x)) (sym is) (refusal_silent e)

begun_silent : (r : Reply) → (id : ℕ) × (r ≡ reply.Begun id) → Silent (other_facts r)
begun_silent r begun = subst (λ (x : Reply). Silent (other_facts x)) (sym begun.1) (λ b. refl)

-- a reply to a statement that is no transaction
silent_or_digest : (r : Reply) → Silent (other_facts r) ⊎ ((block : ℕ) × (hash : Text) × (r ≡ reply.Digest block hash))
silent_or_digest (reply.Digest block hash) = inr (block, hash, refl)
silent_or_digest (reply.Refused e) = inl (refusal_silent e)
silent_or_digest _ = inl (λ b. refl)

kept_none : (block : ℕ) (hash : Text) (end : Option EndLine) → HasItsForm keep (reply.Digest block hash) end → ⊥
kept_none block hash end form = cc

kept_silent : (r : Reply) (end : Option EndLine) → HasItsForm keep r end → Silent (other_facts r)
kept_silent r end form = ⊎_elim
    (λ (none : Silent (other_facts r)). none)
    (λ (one : (block : ℕ) × (hash : Text) × (r ≡ reply.Digest block hash)).
    absurd (kept_none one.0 one.1 end (subst (λ (x : Reply). HasItsForm keep x end) one.2 form)))
    (silent_or_digest r)

issued_one : (r : Reply) → Silent (other_facts r) ⊎ IsDigestFact (other_facts r)
issued_one r = ⊎_elim
    (λ (none : Silent (other_facts r)). inl none)
    (λ (one : (block : ℕ) × (hash : Text) × (r ≡ reply.Digest block hash)). inr (one.0, one.1, ap other_facts one.2))
    (silent_or_digest r)

-- only the digest statement is of its kind
kind_is : (s : Option Stmt) → kind_of s ≡ issue → s ≡ Some stmt.Digest
kind_is (Some stmt.Digest) e = refl
kind_is (Some (stmt.Rollback None)) e = absurd (cc)
kind_is (Some (stmt.Rollback (Some name))) e = absurd (cc)
kind_is _ e = absurd (cc)

module _ (q : Meaning) where
  -- an answer shows one of three things
  by_answer : (P : List Fact → Type 0) (text : Text) (r : Reply) → ((holder : ℕ) → P (met text holder ∷ [])) → P (failed text ∷ [])
      → P (said (text, q.writes r) ∷ []) → P (answer_facts q text r)
  by_answer P text (reply.Refused (Locked holder)) a b c = a holder
  by_answer P text (reply.Refused NoMemory) a b c = b
  by_answer P text r a b c = c

  answer_silent : (text : Text) (r : Reply) → Silent (answer_facts q text r)
  answer_silent text r = by_answer Silent text r (λ holder b. refl) (λ b. refl) (λ b. refl)

  own_silent : (text : Text) (r : Reply) (end : Option EndLine) → Silent (own_facts q text r end)
  own_silent text r None = λ b. refl
  own_silent text r (Some (committed_at id place)) =
      by_answer (λ gs. Silent (began id false ∷ gs ++ placed place ∷ over ∷ [])) text r (λ holder b. refl) (λ b. refl) (λ b. refl)
  own_silent text r (Some (ended_after id n)) =
      by_answer (λ gs. Silent (began id false ∷ gs ++ passed n false ∷ over ∷ [])) text r (λ holder b. refl) (λ b. refl) (λ b. refl)

  inside_silent : (k : Kind) (text : Text) (r : Reply) (end : Option EndLine) → Silent (facts_inside q k text r end)
  inside_silent commit text r end = maybe_silent false end
  inside_silent roll_back text r end = maybe_silent true end
  inside_silent k text r end = answer_silent text r

  -- outside a transaction a digest is shown for the digest statement alone
  abbrev IsAsked : Kind → List Fact → Type 0
  IsAsked k gs = Silent gs ⊎ ((k ≡ issue) × IsDigestFact gs)

  outside_asked : (n : ℕ) (k : Kind) (text : Text) (r : Reply) (end : Option EndLine) → ControlledBy None n k r → HasItsForm k r end → IsAsked k (facts_outside q k text r end)
  outside_asked n create text r end control form = inl (own_silent text r end)
  outside_asked n rows text r end control form = inl (own_silent text r end)
  outside_asked n issue text r end control form = ⊎_elim (λ none. inl none) (λ one. inr (refl, one)) (issued_one r)
  outside_asked n keep text r end control form = inl (kept_silent r end form)
  outside_asked n unread text r end control form = inl (⊎_elim (refused_silent _ r) (refused_silent _ r) (control.unread_outside.1 refl))
  outside_asked n begin text r end control form = inl (⊎_elim (begun_silent r) (refused_silent _ r) control.begins)
  outside_asked n commit text r end control form = inl (⊎_elim (refused_silent _ r) (refused_silent _ r) (control.none_open.1 refl))
  outside_asked n roll_back text r end control form = inl (⊎_elim (refused_silent _ r) (refused_silent _ r) (control.none_open.1 refl))
  outside_asked n to_savepoint text r end control form = inl (⊎_elim (refused_silent _ r) (refused_silent _ r) (control.none_open.1 refl))

  -- ---- how many digests are shown

  -- of blocks below k
  abbrev shown : ℕ → List Fact → ℕ
  shown k gs = below k (λ b. replies_of_block b gs)

  shown_none : (k : ℕ) (gs : List Fact) → Silent gs → shown k gs ≡ 0
  shown_none k gs silent = below_none k (λ b. replies_of_block b gs) silent

  shown_one : (k : ℕ) (gs : List Fact) → IsDigestFact gs → shown k gs ≤ 1
  shown_one k gs one =
      let each : (b : ℕ) → replies_of_block b gs ≡ one_if (one.0 == b) =
      λ b. let e : replies_of_block b gs ≡ one_if (one.0 == b) + 0 = ap (replies_of_block b) one.2 in omega (arith, e) in
      let same = below_same k (λ b. replies_of_block b gs) (λ b. one_if (one.0 == b)) each in
      omega (arith, same, at_most_once one.0 k)

  replies_both : (b : ℕ) (gs hs : List Fact) → replies_of_block b (gs ++ hs) ≡ replies_of_block b gs + replies_of_block b hs
  replies_both b [] hs = omega arith
  replies_both b (g ∷ gs) hs = let rest = replies_both b gs hs in omega (arith, rest)

  shown_both : (k : ℕ) (gs hs : List Fact) → shown k (gs ++ hs) ≡ shown k gs + shown k hs
  shown_both k gs hs = below_same k (λ b. replies_of_block b (gs ++ hs)) (λ b. replies_of_block b gs + replies_of_block b hs) (λ b. replies_both b gs hs)
      ∙ below_both k (λ b. replies_of_block b gs) (λ b. replies_of_block b hs)

  module _ (cost : (text : Text) → q.reads text ≡ Some stmt.Digest → 38 ≤ length text) (k : ℕ) where
    -- each costs a line
    asked_costs : (text : Text) (gs : List Fact) → IsAsked (kind_of (q.reads text)) gs → shown k gs * 39 ≤ length text + 1
    asked_costs text gs asked = ⊎_elim
        (λ (silent : Silent gs). let none = shown_none k gs silent in omega (arith, none))
        (λ (one : (kind_of (q.reads text) ≡ issue) × IsDigestFact gs).
        let most = shown_one k gs one.1 in
        let many = cost text (kind_is (q.reads text) one.0) in
        omega (arith, most, many))
        asked

    statement_costs : (o : Option ℕ) (n : ℕ) (text : Text) (r : Reply) (end : Option EndLine) → IsControlled q o n (statement text r end) → IsElseNoMemory q o n (statement text r end)
        → shown k (entry_facts q o (statement text r end)) * 39 ≤ length text + 1
    statement_costs None n text r end control form =
        asked_costs text (facts_outside q (kind_of (q.reads text)) text r end) (outside_asked n (kind_of (q.reads text)) text r end control form)
    statement_costs (Some id) n text r end control form =
        asked_costs text (facts_inside q (kind_of (q.reads text)) text r end) (inl (inside_silent (kind_of (q.reads text)) text r end))

    end_shows_none : (o : Option ℕ) (end : EndLine) → shown k (entry_facts q o (end_of_session end)) ≡ 0
    end_shows_none None end = shown_none k (end_facts true end) (end_silent true end)
    end_shows_none (Some id) end = shown_none k (end_facts true end) (end_silent true end)

    entries_cost : (o : Option ℕ) (n : ℕ) (es : List Entry) → Throughout (IsControlled q) o n es → Throughout (IsElseNoMemory q) o n es
        → shown k (facts q o es) * 39 ≤ line_bytes (statements es)
    entries_cost o n [] control form = let none = shown_none k [] (λ b. refl) in omega (arith, none)
    entries_cost o n (statement text r end ∷ es) control form =
        let one = statement_costs o n text r end control.0 form.0 in
        let rest = entries_cost (open_after o (statement text r end)) (images_after n (statement text r end)) es control.1 form.1 in
        let both = shown_both k (entry_facts q o (statement text r end)) (facts q (open_after o (statement text r end)) es) in
        omega (arith, one, rest, both)
    entries_cost o n (end_of_session end ∷ es) control form =
        let none = end_shows_none o end in
        let rest = entries_cost (open_after o (end_of_session end)) (images_after n (end_of_session end)) es control.1 form.1 in
        let both = shown_both k (entry_facts q o (end_of_session end)) (facts q (open_after o (end_of_session end)) es) in
        omega (arith, none, rest, both)

    -- ---- all transcripts

    abbrev shown_in_all : List Transcript → ℕ → ℕ
    shown_in_all X b = sum (map (λ x. replies_of_block b (facts_of q x)) X)

    abbrev Throughout_all : (Option ℕ → ℕ → Entry → Type 0) → List Transcript → Type 0
    Throughout_all P X = (i : ℕ) (x : Transcript) → At X i x → Throughout P None 0 x.entries

    all_cost : (input : List InputSession) (X : List Transcript) → AreStatements input X → Throughout_all (IsControlled q) X → Throughout_all (IsElseNoMemory q) X
        → below k (shown_in_all X) * 39 ≤ input_bytes input
    all_cost [] [] are control form = let none = below_none k (shown_in_all []) (λ b. refl) in omega (arith, none)
    all_cost [] (x ∷ X) are control form = absurd are
    all_cost (s ∷ input) [] are control form = absurd are
    all_cost (s ∷ input) (x ∷ X) are control form =
        let one = entries_cost None 0 x.entries (control 0 x refl) (form 0 x refl) in
        let its : line_bytes (statements x.entries) ≡ line_bytes s.texts = ap line_bytes are.0.are in
        let rest = all_cost input X are.1 (λ i y at. control (suc i) y at) (λ i y at. form (suc i) y at) in
        let both = below_both k (λ b. replies_of_block b (facts_of q x)) (shown_in_all X) in
        omega (arith, one, its, rest, both)

  -- ---- their blocks are closed

  module _ (J : List JournalItem) (b : ℕ) where
    none : 1 ≤ 0 → ⊥
    none less = omega (arith, less)

    one_of : (m n : ℕ) → 1 ≤ m + n → (1 ≤ m) ⊎ (1 ≤ n)
    one_of zero n less = inr (omega (arith, less))
    one_of (suc m) n less = inl (omega arith)

    digest_closed : (block : ℕ) → block < blocks J → (t : Bool) → (block == b) ≡ t → 1 ≤ one_if t → b < blocks J
    digest_closed block closed true e less = let same : block ≡ b = grind (arith, nat_tests, e) in subst (λ n. n < blocks J) same closed
    digest_closed block closed false e less = absurd (none less)

    fact_closed : (g : Fact) → ShowsHash q J g → 1 ≤ shows_block b g → b < blocks J
    fact_closed (digest block hash) shows less = digest_closed block shows.0 (block == b) refl less
    fact_closed _ shows less = absurd (none less)

    facts_closed : (gs : List Fact) → Each (ShowsHash q J) gs → 1 ≤ replies_of_block b gs → b < blocks J
    facts_closed [] shows less = absurd (none less)
    facts_closed (g ∷ gs) shows less = ⊎_elim (λ l. fact_closed g shows.0 l) (λ l. facts_closed gs shows.1 l) (one_of (shows_block b g) (replies_of_block b gs) less)

    all_closed : (X : List Transcript) → ((i : ℕ) (x : Transcript) → At X i x → Each (ShowsHash q J) (facts_of q x)) → 1 ≤ sum (map (λ x. replies_of_block b (facts_of q x)) X) → b < blocks J
    all_closed [] shows less = absurd (none less)
    all_closed (x ∷ X) shows less = ⊎_elim
        (λ l. facts_closed (facts_of q x) (shows 0 x refl) l)
        (λ l. all_closed X (λ i y at. shows (suc i) y at) l)
        (one_of (replies_of_block b (facts_of q x)) (sum (map (λ y. replies_of_block b (facts_of q y)) X)) less)

  counted : (d : Digest) → 1 ≤ one_if (d.block == d.block)
  counted d = let same : (d.block == d.block) ≡ true = grind (arith, nat_tests) in rw same (omega arith)

  -- each of some digests, of whose blocks each is shown
  digests_closed : (J : List JournalItem) (X : List Transcript) → ((i : ℕ) (x : Transcript) → At X i x → Each (ShowsHash q J) (facts_of q x))
      → (G : List Digest) → ((b : ℕ) → of_block b G ≤ sum (map (λ x. replies_of_block b (facts_of q x)) X)) → Each (λ d. d.block < blocks J) G
  digests_closed J X shows [] few = tt
  digests_closed J X shows (d ∷ G) few =
      let here = few d.block in
      let one = counted d in
      (all_closed J d.block X shows (omega (arith, here, one)), digests_closed J X shows G (λ b. let all = few b in omega (arith, all)))

pub closed : (q : Meaning) (database : Text) (setup : Option ℕ) (X : List Transcript) (J : List JournalItem) (G : List Digest) → DigestsAreOf q database setup X J G → Each (λ d. d.block < blocks J) G
closed q database setup X J G are = digests_closed q J X are.shown G (λ b. let same = are.as_many b in omega (arith, same))

pub digests_cost : (q : Meaning) (database : Text) (input : List InputSession) (setup : Option ℕ) (X : List Transcript) (J : List JournalItem) (G : List Digest)
    → ((text : Text) → q.reads text ≡ Some stmt.Digest → 38 ≤ length text) → AgreeOnDigests q database input setup X J G → length G * 39 ≤ input_bytes input
digests_cost q database input setup X J G cost agree =
    let k = blocks J in
    let are = agree.digests_are_the_journals in
    let all = all_counted k G (closed q database setup X J G are) in
    let shown = below_same k (λ b. of_block b G) (λ b. sum (map (λ x. replies_of_block b (facts_of q x)) X)) are.as_many in
    let most = all_cost q cost k input X agree.statements_are_answered agree.control_is_refused_in_place agree.else_no_memory in
    omega (arith, all, shown, most)
