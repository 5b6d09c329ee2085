-- How the session of a transaction begins, and how one ends whose transaction is given up.
use Rattle.std.proofs.Common.{◌≡◌, ℕ, suc, true, List, [], ◌∷◌, None, refl, sym, ap, subst, inl}
use Rattle.sql_types.specs.declared.journal.JournalItem.{JournalItem}
use Rattle.sql_types.specs.declared.reply.Reply.TheVariants as reply
use Rattle.spec_model.specs.Catalog.{Tables}
use Rattle.spec_history.specs.Lists.{Text}
use Rattle.spec_history.specs.Meaning.{Meaning}
use Rattle.spec_history.specs.Transactions.{ended}
use Rattle.spec_history.specs.Transcripts.{Kind, begin, statement, kind_of}
use Rattle.spec_history.specs.Facts.{began, facts_outside, entry_facts}
use Rattle.spec_history.specs.InPlace.{EndsOutside, ControlledBy, HasItsForm, InPlace}
use Rattle.spec_history.specs.Acts.{SessionAct, starts, takes, assigns_id}
use Rattle.spec_history.specs.Serial.{serial}
use Rattle.spec_history.specs.Sessions.{SessionState, fresh, acted, drawn, fixes}
use Rattle.spec_history.specs.Guards.{Answers}
use Rattle.law_retold.specs.Retold.{Words, begins, begins_own, gives_up}
use Rattle.law_retold.proofs.OneSession.{MayAll, MayEnd}

abbrev pub acted_all : SessionState → List SessionAct → SessionState
acted_all x [] = x
acted_all x (a ∷ xs) = acted_all (acted x a) xs

-- inside BEGIN, once its id is assigned
abbrev beginning : Words → Text → ℕ → SessionState
beginning c name id = acted_all fresh (starts name ∷ takes c.begin_text ∷ assigns_id id true ∷ [])

-- and once it is answered
abbrev pub begun : Words → Text → ℕ → SessionState
begun c name id = acted_all fresh (begins c name id)

module _ (q : Meaning) (c : Words) (is_begin : kind_of (q.reads c.begin_text) ≡ begin) (id : ℕ) where
  begin_shows : began id true ∷ [] ≡ entry_facts q None (statement c.begin_text (reply.Begun id) None)
  begin_shows = sym (ap (λ (k : Kind). facts_outside q k c.begin_text (reply.Begun id) None) is_begin)

  begin_in_place : InPlace q None 0 (statement c.begin_text (reply.Begun id) None)
  begin_in_place = record {
    open_ended = tt;
    ends = subst (λ (k : Kind). EndsOutside k None) (sym is_begin) refl;
    controlled = subst (λ (k : Kind). ControlledBy None 0 k (reply.Begun id)) (sym is_begin) (record {
      none_open = ((λ e. cc), (λ e. cc));
      begun_twice = ((λ e. cc), (λ e. cc));
      not_inside = ((λ e. cc), (λ e. cc));
      unread_outside = ((λ e. cc), (λ e. cc));
      third_image = tt;
      begins = inl (id, refl);
    });
    else_no_memory = subst (λ (k : Kind). HasItsForm k (reply.Begun id) None) (sym is_begin) tt;
  }

  begin_answers : (name : Text) → Answers q (beginning c name id) (statement c.begin_text (reply.Begun id) None)
  begin_answers name = record { running = refl; none_ended = tt; answered = refl; shows = begin_shows; in_place = begin_in_place }

  pub begins_may : (name : Text) (P : List JournalItem → ℕ → SessionState → Type 0) → P [] (suc id) (begun c name id) → MayAll q P [] id fresh (begins c name id)
  begins_may name P h = (refl, ((refl, refl, refl, tt), ((refl, refl, refl), (begin_answers name, h))))

  -- ---- given up

  module _ (no_replies : (T : Tables) → q.replies true T id [] ≡ []) where
    ends_back : MayEnd q [] (begun c c.name id) 0 true
    ends_back = record {
      mine = drawn id true;
      stands = record { runs = refl; has = refl; unfixed = refl };
      replies = sym (no_replies (serial q q.first []));
      quiet = λ e. cc;
      last = refl;
    }

    pub gives_up_may : (P : List JournalItem → ℕ → SessionState → Type 0) → P [] (suc id) (acted_all fresh (gives_up c id)) → MayAll q P [] id fresh (gives_up c id)
    gives_up_may P h = (
      refl,
      (
        (refl, refl, refl, tt),
        (
          (refl, refl, refl),
          (
            begin_answers c.name,
            (
              ends_back,
              (
                record { mine = fixes (ended 0 true) (drawn id true); running = refl; has = refl; fixed = tt; all_answered = tt },
                (
                  record { running = refl; none_ended = (tt, tt); answered = refl; shows = refl; in_place = record { open_ended = refl; ends = tt; controlled = tt; else_no_memory = tt } },
                  ((refl, record { idle = refl; shown = refl; none_open = refl; free = refl }), h),
                ),
              ),
            ),
          ),
        ),
      ),
    )

pub begins_own_may : (q : Meaning) (id : ℕ) (name text : Text) (P : List JournalItem → ℕ → SessionState → Type 0) → P [] (suc id) (acted_all fresh (begins_own name text id)) → MayAll q P [] id fresh (begins_own name text id)
begins_own_may q id name text P h = (refl, ((refl, refl, refl, tt), ((refl, refl, refl), h)))
