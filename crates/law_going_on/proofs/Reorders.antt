-- What agrees behind a past agrees in any order of its sessions.
use Rattle.std.proofs.Common.{◌≡◌, ◌≢◌, ℕ, suc, ◌<◌, ◌≤◌, List, [], ◌∷◌, length, Option, Some, sym, ap, ◌∙◌, subst, arith}
use Rattle.sql_types.specs.declared.journal.JournalItem.{JournalItem}
use Rattle.sql_types.specs.declared.journal.JournalItem.TheVariants.{Tx, Close}
use Rattle.spec_history.specs.Agree.{IsOneOfTheirs}
use Rattle.spec_history.specs.Digests.{Digest}
use Rattle.spec_history.specs.Facts.{id_of, facts_of}
use Rattle.spec_history.specs.Inputs.{InputSession}
use Rattle.spec_history.specs.Lists.{Text, Each, At}
use Rattle.spec_history.specs.Meaning.{Meaning}
use Rattle.spec_history.specs.Transcripts.{Transcript}
use Rattle.spec_history.proofs.Trace.{each_weaker}
use Rattle.spec_protocol.specs.Reordered.{moved, Reordered, as_is, swaps, swapped, turned}
use Rattle.law_protocol_end.proofs.Reorders.{are_statements, as_long, as_many, at_before, at_then, moved_none, moved_twice, same_sum, statements_at, still_some, turned_is, turned_one, turned_twice, was_moved}
use Rattle.law_behind.specs.AgreeBehind.{AgreeBehind, IdsAssignedFrom}
use Rattle.law_behind.specs.Past.{Past, since}

-- ---- two sessions change places

module _ (q : Meaning) (database : Text) (past : Past) (input : List InputSession) (setup : Option ℕ) (X : List Transcript) (J : List JournalItem) (G : List Digest) (agree : AgreeBehind q database past input setup X J G) (n : ℕ) (short : suc n < length X) where
  abbrev to : ℕ → ℕ
  to = turned n

  short_input : suc n < length input
  short_input = let e = as_many input X agree.statements_are_answered in omega (arith, e, short)

  was : (i : ℕ) (x : Transcript) → At (swapped n X) i x → At X (to i) x
  was i x a = at_before n X i x short a

  theirs : (K : List JournalItem) → Each (IsOneOfTheirs input) K → Each (IsOneOfTheirs (swapped n input)) K
  theirs [] h = tt
  theirs (Tx id session time explicit script ∷ is) h = (still_some (λ s. s.name ≡ session) n input h.0, theirs is h.1)
  theirs (Close k ∷ is) h = (tt, theirs is h.1)

  -- where `setup` comes to stand, as it was
  setup_was : (u : ℕ) → moved to setup ≡ Some u → setup ≡ Some (to u)
  setup_was u e = let m = was_moved to setup u e in m.is ∙ ap Some (turned_is n m.was u m.there)

  apart : (i u : ℕ) → i ≢ u → to i ≢ to u
  apart i u ne e = ne (turned_one n i u e)

  abbrev ids : IdsAssignedFrom q past.next X
  ids = agree.ids_are_assigned_once

  pub swap_agrees : AgreeBehind q database past (swapped n input) (moved (turned n) setup) (swapped n X) J G
  swap_agrees = record {
    statements_are_answered = are_statements (swapped n input) (swapped n X) (as_long n input ∙ as_many input X agree.statements_are_answered ∙ sym (as_long n X))
        (λ i s x a b. statements_at input X agree.statements_are_answered (to i) s x (at_before n input i s short_input a) (was i x b));
    ids_are_assigned_once = record {
      k = ids.k;
      session = λ id. to (ids.session id);
      one = λ i x a. each_weaker
          (λ g. Each (λ id. (past.next ≤ id) × (id ≤ ids.k) × (ids.session id ≡ to i)) (id_of g)) (λ g. Each (λ id. (past.next ≤ id) × (id ≤ ids.k) × (to (ids.session id) ≡ i)) (id_of g))
          (λ g. each_weaker (λ id. (past.next ≤ id) × (id ≤ ids.k) × (ids.session id ≡ to i)) (λ id. (past.next ≤ id) × (id ≤ ids.k) × (to (ids.session id) ≡ i)) (λ id h. (h.0, h.1, ap to h.2 ∙ turned_twice n i)) (id_of g))
          (facts_of q x) (ids.one (to i) x (was i x a));
      all = λ id l m. let w = ids.all id l m in (w.0, at_then n X (ids.session id) w.0 short w.1, w.2);
      rise = λ i x a. ids.rise (to i) x (was i x a);
    };
    journal_goes_on = let j = agree.journal_goes_on in record {
      legal = j.legal;
      begins = j.begins;
      no_others = theirs (since past J) j.no_others;
      items = λ i s x a b. j.items (to i) s x (at_before n input i s short_input a) (was i x b);
      ends = λ i x a. j.ends (to i) x (was i x a);
    };
    ended_have_their_replies = λ i x a. agree.ended_have_their_replies (to i) x (was i x a);
    marks_never_fall = let m = agree.marks_never_fall in record {
      rise = λ i x a. m.rise (to i) x (was i x a);
      after_setup = λ u i y x e a b ne. m.after_setup (to u) (to i) y x (setup_was u e) (was u y a) (was i x b) (apart i u ne);
      images = λ i x a. m.images (to i) x (was i x a);
      images_after_setup = λ u i y x e a b ne. m.images_after_setup (to u) (to i) y x (setup_was u e) (was u y a) (was i x b) (apart i u ne);
    };
    past_counts = let c = agree.past_counts in record {
      marks = λ i x a. c.marks (to i) x (was i x a);
      images = λ i x a. c.images (to i) x (was i x a);
      none = λ i x a. c.none (to i) x (was i x a);
    };
    digests_are_the_journals = let d = agree.digests_are_the_journals in record {
      shown = λ i x a. d.shown (to i) x (was i x a);
      as_many = λ b. d.as_many b ∙ sym (same_sum _ n X);
      each = d.each;
      rise = d.rise;
      first = λ i x before after a e. d.first (to i) x before after (was i x a) e;
      none_of_setup = λ u i y x e a b ne. d.none_of_setup (to u) (to i) y x (setup_was u e) (was u y a) (was i x b) (apart i u ne);
    };
    lock_refusals_name_holders = λ s x text holder earlier later a e. let r = agree.lock_refusals_name_holders (to s) x text holder earlier later (was s x a) e in record {
      mine = r.mine;
      explicit = r.explicit;
      within = r.within;
      other = to r.other;
      differs = λ same. r.differs (turned_is n r.other s same);
      transcript = r.transcript;
      there = at_then n X r.other r.transcript short r.there;
      theirs = r.theirs;
      named = r.named;
      is = r.is;
      not_of_setup = λ f. r.not_of_setup (setup_was (to r.other) f ∙ ap Some (turned_twice n r.other));
      not_in_setup = λ f. r.not_in_setup (setup_was s f);
      n = r.n;
      ends_at = r.ends_at;
      clash = r.clash;
      spans = r.spans;
      marks_before = r.marks_before;
      marks_of_holder = r.marks_of_holder;
      next_of_refused = r.next_of_refused;
      next_of_holder = r.next_of_holder;
    };
    control_is_refused_in_place = λ i x a. agree.control_is_refused_in_place (to i) x (was i x a);
    else_no_memory = λ i x a. agree.else_no_memory (to i) x (was i x a);
  }

-- any number of them
pub reordered_agrees : (q : Meaning) (database : Text) (past : Past) (input : List InputSession) (setup : Option ℕ) (X : List Transcript) (J : List JournalItem) (G : List Digest) → AgreeBehind q database past input setup X J G
    → (then_input : List InputSession) (then_X : List Transcript) (to : ℕ → ℕ) → Reordered input X then_input then_X to → AgreeBehind q database past then_input (moved to setup) then_X J G
reordered_agrees q database past input setup X J G agree _ _ _ as_is = subst (λ (o : Option ℕ). AgreeBehind q database past input o X J G) (sym (moved_none setup)) agree
reordered_agrees q database past input setup X J G agree _ _ _ (swaps n {then_input} {then_X} {to} r short) = subst (λ (o : Option ℕ). AgreeBehind q database past (swapped n then_input) o (swapped n then_X) J G) (moved_twice to (turned n) setup)
    (swap_agrees q database past then_input (moved to setup) then_X J G (reordered_agrees q database past input setup X J G agree then_input then_X to r) n short)
