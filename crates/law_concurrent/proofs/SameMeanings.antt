-- Meanings whose functions have equal values: they show the same facts, and run a journal alike.
use Rattle.std.proofs.Common.{◌≡◌, ◌<◌, ℕ, zero, suc, Bool, false, List, [], ◌∷◌, ◌++◌, Option, Some, None, refl, ap, ap₂, subst, ◌∙◌}
use Rattle.sql_value.specs.declared.refusal.Refusal.TheVariants.{Locked, NoMemory}
use Rattle.sql_types.specs.declared.journal.JournalItem.{JournalItem}
use Rattle.sql_types.specs.declared.journal.JournalItem.TheVariants.{Tx, Close}
use Rattle.sql_types.specs.declared.reply.Reply.{Reply}
use Rattle.sql_types.specs.declared.reply.Reply.TheVariants as reply
use Rattle.sql_types.specs.declared.statement.Stmt.{Stmt}
use Rattle.spec_model.specs.Catalog.{Defs, Tables}
use Rattle.spec_history.specs.Facts.{Fact, began, said, answer_facts, end_facts, entry_facts, facts, facts_inside, facts_of, facts_outside, open_after, own_facts}
use Rattle.spec_history.specs.Lists.{Text}
use Rattle.spec_history.specs.Meaning.{Meaning}
use Rattle.spec_history.specs.Serial.{IsLegal, ItemReplays, Replays, after_item, after_tx, texts_of}
use Rattle.spec_history.specs.Transcripts.{EndLine, Entry, statement, end_of_session, Kind, commit, create, ended_id, kind_of, roll_back, rows, Transcript}

pub record Same (q r : Meaning) : Type 0 where
  pub first : q.first ≡ r.first
  pub defs : (T : Tables) → q.defs T ≡ r.defs T
  pub reading : (text : Text) → q.reads text ≡ r.reads text
  pub writes : (x : Reply) → q.writes x ≡ r.writes x
  pub after : (o : Bool) (T : Tables) (id : ℕ) (texts : List Text) → q.after o T id texts ≡ r.after o T id texts
  pub replies : (o : Bool) (T : Tables) (id : ℕ) (texts : List Text) → q.replies o T id texts ≡ r.replies o T id texts
  pub events : (o : Bool) (T : Tables) (id : ℕ) (texts : List Text) → q.events o T id texts ≡ r.events o T id texts
  pub in_catalog : (o p : Bool) (a b : Text) → q.in_catalog o a p b ≡ r.in_catalog o a p b
  pub in_table : (D : Defs) (o p : Bool) (a b : Text) → q.in_table D o a p b ≡ r.in_table D o a p b
  pub block_hash : (J : List JournalItem) (b : ℕ) → q.block_hash J b ≡ r.block_hash J b

module _ (q r : Meaning) (s : Same q r) where
  -- ---- facts

  same_answer : (text : Text) (x : Reply) → answer_facts q text x ≡ answer_facts r text x
  same_answer text (reply.Refused (Locked holder)) = refl
  same_answer text (reply.Refused NoMemory) = refl
  same_answer text x = ap (λ (w : Text). said (text, w) ∷ []) (s.writes x)

  same_own : (text : Text) (x : Reply) (end : Option EndLine) → own_facts q text x end ≡ own_facts r text x end
  same_own text x None = refl
  same_own text x (Some end) = ap (λ (gs : List Fact). began (ended_id end) false ∷ gs ++ end_facts false end) (same_answer text x)

  same_inside : (k : Kind) (text : Text) (x : Reply) (end : Option EndLine) → facts_inside q k text x end ≡ facts_inside r k text x end
  same_inside commit text x end = refl
  same_inside roll_back text x end = refl
  same_inside k text x end = same_answer text x

  same_outside : (k : Kind) (text : Text) (x : Reply) (end : Option EndLine) → facts_outside q k text x end ≡ facts_outside r k text x end
  same_outside create text x end = same_own text x end
  same_outside rows text x end = same_own text x end
  same_outside k text x end = refl

  same_entry : (o : Option ℕ) (e : Entry) → entry_facts q o e ≡ entry_facts r o e
  same_entry (Some id) (statement text x end) = same_inside (kind_of (q.reads text)) text x end ∙ ap (λ (y : Option Stmt). facts_inside r (kind_of y) text x end) (s.reading text)
  same_entry None (statement text x end) = same_outside (kind_of (q.reads text)) text x end ∙ ap (λ (y : Option Stmt). facts_outside r (kind_of y) text x end) (s.reading text)
  same_entry o (end_of_session end) = refl

  same_facts : (o : Option ℕ) (es : List Entry) → facts q o es ≡ facts r o es
  same_facts o [] = refl
  same_facts o (e ∷ es) = ap₂ (λ (gs hs : List Fact). gs ++ hs) (same_entry o e) (same_facts (open_after o e) es)

  pub same_facts_of : (x : Transcript) → facts_of q x ≡ facts_of r x
  same_facts_of x = same_facts None x.entries

  -- ---- journals

  same_item : (T : Tables) (i : JournalItem) → after_item q T i ≡ after_item r T i
  same_item T (Tx id session time explicit script) = s.after explicit T id (texts_of script)
  same_item T (Close k) = refl

  after_from : (T : Tables) (n : ℕ) (J : List JournalItem) → after_tx q T n J ≡ after_tx r T n J
  after_from T n [] = refl
  after_from T n (Close k ∷ J) = after_from T n J
  after_from T zero (Tx id session time explicit script ∷ J) = refl
  after_from T (suc n) (Tx id session time explicit script ∷ J) =
      after_from (q.after explicit T id (texts_of script)) n J ∙ ap (λ (U : Tables). after_tx r U n J) (s.after explicit T id (texts_of script))

  pub same_after : (n : ℕ) (J : List JournalItem) → after_tx q q.first n J ≡ after_tx r r.first n J
  same_after n J = after_from q.first n J ∙ ap (λ (T : Tables). after_tx r T n J) s.first

  item_replays : (T : Tables) (i : JournalItem) → ItemReplays q T i → ItemReplays r T i
  item_replays T (Tx id session time explicit script) h = record {
    replies = h.replies ∙ s.replies explicit T id (texts_of script);
    acts = subst (λ (n : ℕ). 0 < n) (s.events explicit T id (texts_of script)) h.acts;
  }
  item_replays T (Close k) h = tt

  replay : (T : Tables) (J : List JournalItem) → Replays q T J → Replays r T J
  replay T [] h = tt
  replay T (i ∷ J) h = (item_replays T i h.0, subst (λ (U : Tables). Replays r U J) (same_item T i) (replay (after_item q T i) J h.1))

  pub still_legal : (J : List JournalItem) → IsLegal q J → IsLegal r J
  still_legal J h = record {
    replays = subst (λ (T : Tables). Replays r T J) s.first (replay q.first J h.replays);
    ids_differ = h.ids_differ;
    closings = h.closings;
  }
