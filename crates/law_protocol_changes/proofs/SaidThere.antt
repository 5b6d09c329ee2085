-- A statement of rows is said at what it found, where it leaves the tables as they are: cells and seats stand together.
use Rattle.spec_history.specs.Acts.{by}
use Rattle.law_protocol_steps.proofs.Ids.{in_transaction}
use Rattle.law_protocol_steps.proofs.ActedFor.{StandsBy, by_number}
use Rattle.std.specs.Prelude.{slice_set, not}
use Rattle.sql_types.specs.declared.statement.Stmt.{Stmt}
use Rattle.sql_types.specs.declared.statement.Stmt.TheVariants as stmt
use Rattle.spec_model.specs.Catalog.{Defs, Tables}
use Rattle.spec_model.specs.Create.{index_check}
use Rattle.spec_model.specs.ChangeSets.{change_set, create_index_change_set}
use Rattle.spec_protocol.specs.LocksCover.{IsRepliedTo, IsGotAt, LookedAt}
use Rattle.law_protocol_steps.proofs.VisitActs.{ActsAt, done_act}
use Rattle.std.proofs.Common.{Bool, List, Option, Some, [], ap, append-nil, false, map, refl, sym, true, ℕ, ◌++◌, ◌∙◌, ◌∷◌, ◌≡◌, None}
use Rattle.spec_protocol.specs.Cells.{Cell}
use Rattle.spec_protocol.specs.Contents.{Contents, HasAlone, Known, contents, known}
use Rattle.spec_history.specs.Lists.{Each, Text}
use Rattle.spec_protocol.specs.TablesAreSerial.{HasActed}
use Rattle.spec_protocol.specs.RequestsIn.{Holds, requests_in}
use Rattle.law_protocol_steps.proofs.PlainPlaces.{IsBare, all_counted}
use Rattle.law_frame.proofs.PlainRefusals.{IsPlainReply}
use Rattle.law_protocol_steps.proofs.AloneTurns.{alone_own, Keeps, alone_stands, keeps_turn, alone_after}
use Rattle.spec_model.specs.Catalog.{NamedPart, defs_of}
use Rattle.spec_protocol.specs.Seats.{OpenTransaction, SeatState, Session, session, StatementProgress, found, inside}
use Rattle.sql_types.specs.declared.reply.Reply.{Reply}
use Rattle.spec_protocol.specs.Server.{Server}
use Rattle.spec_protocol.specs.StandTogether.{History, Stands, StandsAfter}
use Rattle.spec_model.specs.Script.{State, script, text_step}
use Rattle.sql_types.specs.declared.version.Version.{Version}
use Rattle.spec_protocol.specs.Moves.{at_place, sits}
use Rattle.spec_protocol.specs.OpenScripts.{counted}
use Rattle.spec_protocol.specs.EventsIn.{events_in}
use lib.ListN.{get_elem?}
use Rattle.law_protocol_changes.proofs.PlainReplies.{inside_said, is_said, kept_none, no_control, none_begun, none_kept, not_begun}
use Rattle.law_protocol_steps.proofs.SaidMore.{X, its_counter, its_savepoints, its_trees, its_versions, keeps_bare, trees_over}
use Rattle.spec_history.specs.Transcripts.{kind_of, rows}
use Rattle.spec_protocol.specs.OpenOnes.{lines_at, text_at}
use Rattle.law_frame.proofs.Definitions.{nothing_done, opened_keep_defs}
use Rattle.spec_model.specs.Replies.{reply_text}
use mathlib.Core.Option.{some}
use Rattle.spec_protocol.specs.Doing.{stage_after, with_line, with_reply}
use Rattle.spec_model.specs.Touched.{touched}
use Rattle.spec_history.specs.Transactions.{unfixed}
use Rattle.spec_protocol.specs.ActsOf.{done_acts}

bare_after : (b : Bool) (text : Text) (r : Reply) → IsBare (inside text (stage_after b r))
bare_after true text r = tt
bare_after false text r = tt

-- a statement of rows makes no index
pub rows_replied : (T : Tables) (q : Option Stmt) → kind_of q ≡ rows → IsRepliedTo T q
rows_replied T (Some (stmt.Index c)) e = cc
rows_replied T (Some (stmt.Alter a)) e = tt
rows_replied T (Some (stmt.Drop name)) e = tt
rows_replied T (Some (stmt.Create c)) e = tt
rows_replied T (Some (stmt.Change r)) e = tt
rows_replied T (Some (stmt.Select q)) e = tt
rows_replied T (Some stmt.Begin) e = tt
rows_replied T (Some stmt.Commit) e = tt
rows_replied T (Some (stmt.Save name)) e = tt
rows_replied T (Some (stmt.Rollback name)) e = tt
rows_replied T (Some stmt.Digest) e = tt
rows_replied T (Some stmt.Image) e = tt
rows_replied T None e = tt

-- it depends on the definitions alone
pub same_replied : (T U : Tables) → defs_of U ≡ defs_of T → (q : Option Stmt) → IsRepliedTo T q → IsRepliedTo U q
unfolding change_set
same_replied T U e (Some (stmt.Index c)) h = ap (λ (ds : Defs). (create_index_change_set (index_check ds c)).definition) e ∙ h
same_replied T U e (Some (stmt.Alter a)) h = tt
same_replied T U e (Some (stmt.Drop name)) h = tt
same_replied T U e (Some (stmt.Create c)) h = tt
same_replied T U e (Some (stmt.Change r)) h = tt
same_replied T U e (Some (stmt.Select q)) h = tt
same_replied T U e (Some stmt.Begin) h = tt
same_replied T U e (Some stmt.Commit) h = tt
same_replied T U e (Some (stmt.Save name)) h = tt
same_replied T U e (Some (stmt.Rollback name)) h = tt
same_replied T U e (Some stmt.Digest) h = tt
same_replied T U e (Some stmt.Image) h = tt
same_replied T U e None h = tt

module _ (v : Server) (cells : List Cell) (seats : List SeatState) {history : History} (S : Stands v history cells seats) (j : ℕ) (s : SeatState) (there : get_elem? seats j ≡ some s) (x : Session) (role : s.role ≡ session x)
    (o : OpenTransaction) (one : x.open_one ≡ Some o) (open_end : o.end ≡ unfixed) (text : Text) (named : Option NamedPart) (fresh : Bool) (place : x.place ≡ inside text (found named fresh)) where
  abbrev c : Contents
  c = contents cells

  abbrev k : Known
  k = known v.reads S.ledger.items

  abbrev stage : StatementProgress
  stage = found named fresh

  abbrev state : State
  state = X v cells seats S j s there x role o one open_end refl text stage place refl (λ id ws. refl)

  pub same_defs : defs_of state.tables ≡ defs_of k.tables
  same_defs = by o.explicit refl
    where
      by : (b : Bool) → o.explicit ≡ b → defs_of state.tables ≡ defs_of k.tables
      by true e = ap (λ z. defs_of (script v.reads z k.tables o.id (map (λ l. l.0) o.script)).state.tables) e ∙ (opened_keep_defs v.reads k.tables o.id (map (λ l. l.0) o.script)).tables
      by false e = ap (λ ls. defs_of (script v.reads o.explicit k.tables o.id (map (λ l. l.0) ls)).state.tables) ((S.open_scripts j x o (record { seat = s; there = there; role = role; open_one = one }) open_end).alone e) ∙ ap (λ z. defs_of z.state.tables) (nothing_done v.reads o.explicit k.tables o.id)

  module _ (r : Reply) (plain : IsPlainReply r) (step : text_step v.reads o.explicit o.id state text ≡ (state, r)) (covers : (i : ℕ) → Each (Holds (c.holds i) o.id) (requests_in v (defs_of k.tables) o.explicit i text))
      (kind : kind_of (v.meaning.reads text) ≡ rows) where
    abbrev p : OpenTransaction
    p = with_reply text r o

    abbrev y : Session
    y = at_place (Some p) (inside text (stage_after o.explicit r)) x

    bare : IsBare y.place
    bare = bare_after o.explicit text r

    got_bare : (b : Bool) → IsGotAt v k.tables (HasAlone c o.id) (not (k.has o.id)) (inside text (stage_after b r))
    got_bare true = tt
    got_bare false = rows_replied k.tables (v.reads text) (ap kind_of (sym (v.real.reading text)) ∙ kind)

    looked_bare : (b : Bool) → LookedAt v c (defs_of k.tables) o.id o.explicit (inside text (stage_after b r))
    looked_bare true = tt
    looked_bare false = tt

    lines_bare : (b : Bool) → with_line b (text, reply_text r) o.script ++ lines_at (inside text (stage_after b r)) ≡ o.script ++ (text, reply_text r) ∷ []
    lines_bare true = append-nil _
    lines_bare false = refl

    text_bare : (b : Bool) → text_at (inside text (stage_after b r)) ≡ Some text
    text_bare true = refl
    text_bare false = refl

    acted_bare : (b : Bool) → HasActed (inside text (stage_after b r))
    acted_bare true = tt
    acted_bare false = tt

    counted_bare : (id : ℕ) (ws : List Version) → counted o.id id y.place ws ≡ ws
    counted_bare id ws = all_counted o.id id y.place ws bare

    alone_so : o.explicit ≡ false → p.script ≡ []
    alone_so e = ap (λ (b : Bool). with_line b (text, reply_text r) o.script) e ∙ (S.open_scripts j x o (record { seat = s; there = there; role = role; open_one = one }) open_end).alone e

    done_so : ActsAt v history j (S.transcripts_agree.of_seat j).now (done_acts o.explicit text true r) S.ledger (slice_set seats j (sits s y))
    done_so = done_act v cells seats S j s there x role o one open_end text stage place refl (λ id ws. refl) true (λ a h. h) refl (λ k. refl) refl refl
        r (no_control r plain) (not_begun v.meaning text r plain) (kept_none v.meaning text r plain) (none_begun v.meaning text r plain) (none_kept v.meaning text r plain) (inside_said v.meaning text r plain) (is_said v.meaning text r plain)
        p refl refl refl refl (λ e. kind)

    keeps : Keeps v cells seats S j s there x role o one y p
    keeps = keeps_bare v cells seats S j s there x role o one open_end refl text stage place refl (λ id ws. refl) r state step covers
        y p p.script refl refl refl refl refl refl (lines_bare o.explicit)
        (λ id l. ap (touched o.id) (counted_bare id (c.versions id)) ∙ its_versions v cells seats S j s there x role o one open_end refl text stage place refl (λ id ws. refl) id l)
        (its_counter v cells seats S j s there x role o one open_end refl text stage place refl (λ id ws. refl))
        (trees_over v (λ id. events_in o.id id (c.versions id)) (λ id. events_in o.id id (counted o.id id y.place (c.versions id))) o.trees (λ id l. ap (events_in o.id id) (sym (counted_bare id (c.versions id)))) (its_trees v cells seats S j s there x role o one open_end refl text stage place refl (λ id ws. refl)))
        (its_savepoints v cells seats S j s there x role o one open_end refl text stage place refl (λ id ws. refl))
        (λ l. got_bare o.explicit) (looked_bare o.explicit) (λ e. ap text_at place ∙ sym (text_bare o.explicit)) alone_so tt (λ e f. acted_bare o.explicit) refl refl bare

    pub said_there : StandsAfter v j history (done_acts o.explicit text true r) cells (slice_set seats j (sits s y))
    said_there = alone_after v cells seats S j s there (sits s y) done_so.session
        (keeps_turn v cells seats S j s there x role o one (sits s y) y p refl refl keeps) done_so.agree done_so.own

    -- by the session that runs there
    pub said_by : (S.transcripts_agree.of_seat j).now ≡ Some said_there.session
    unfolding said_there
    said_by = done_so.is

    pub said_own : said_there.stands.transcripts_agree.owner said_there.session ≡ j
    unfolding said_there
    said_own = alone_own v cells seats S j s there (sits s y) (history ++ map (by done_so.session) (done_acts o.explicit text true r)) (keeps_turn v cells seats S j s there x role o one (sits s y) y p refl refl keeps) done_so.agree done_so.session done_so.own

    -- of its transaction
    pub said_for_it : StandsBy v j history o.id o.explicit (done_acts o.explicit text true r) cells (slice_set seats j (sits s y))
    said_for_it = record {
      session = done_so.session;
      of = by_number v.meaning history (S.transcripts_agree.of_seat j) x o (in_transaction v history S.ledger seats S.transcripts_agree j x o (record { seat = s; there = there; role = role; open_one = one })) done_so.session done_so.is;
      stands = alone_stands v cells seats S j s there (sits s y) (history ++ map (by done_so.session) (done_acts o.explicit text true r)) (keeps_turn v cells seats S j s there x role o one (sits s y) y p refl refl keeps) done_so.agree;
      mine = alone_own v cells seats S j s there (sits s y) (history ++ map (by done_so.session) (done_acts o.explicit text true r)) (keeps_turn v cells seats S j s there x role o one (sits s y) y p refl refl keeps) done_so.agree done_so.session done_so.own;
    }
