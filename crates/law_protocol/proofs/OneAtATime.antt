-- Where all other seats are between statements, what a seat does is done while all other sessions are idle.
use Rattle.std.proofs.Common.{◌≡◌, ◌≢◌, ℕ, ◌<◌, List, [], ◌∷◌, ◌++◌, map, Option, Some, None, refl, sym, ap, ◌∙◌, subst, ⊎_elim, arith}
use Rattle.std.proofs.lemmas.Bool.{cases_eq, cases_lt, ne_eqb}
use mathlib.Core.Option.{some}
use lib.ListN.{get_elem?}
use Rattle.spec_history.specs.Acts.{SessionAct, starts, takes, releases_locks, answers, stops, Act, by, closes}
use Rattle.spec_history.specs.Facts.{entry_facts, open_at_end}
use Rattle.spec_history.specs.Guards.{Good, Fixed}
use Rattle.spec_history.specs.Histories.{IsIdle, OneAtATime}
use Rattle.spec_history.specs.Lists.{Text, Each, In}
use Rattle.spec_history.specs.Meaning.{Meaning}
use Rattle.spec_history.specs.Sessions.{SessionState, acted, gone}
use Rattle.spec_history.specs.Transactions.{End, unfixed, listed}
use Rattle.sql_types.specs.declared.reply.Reply.{Reply}
use Rattle.spec_history.specs.Transcripts.{EndLine, committed_at, ended_after, statement, end_of_session}
use Rattle.spec_history.specs.Worlds.{World, first, run, step}
use Rattle.spec_history.proofs.Cuts.{good_append, run_append}
use Rattle.spec_history.proofs.Settles.{in_append, in_right}
use Rattle.spec_history.proofs.Setup.{silent}
use Rattle.spec_protocol.specs.Cells.{Cell}
use Rattle.spec_protocol.specs.AnonymousActs.{AnonymousAct, did, anonymous_act}
use Rattle.spec_protocol.specs.InactiveExcept.{IsInactive, InactiveExcept}
use Rattle.spec_protocol.specs.OpenOnes.{text_at}
use Rattle.spec_protocol.specs.Parts.{IsNow, Now}
use Rattle.spec_protocol.specs.Seats.{SessionStatus, inside, StatementProgress, Role, session, Session, SeatState}
use Rattle.spec_protocol.specs.Server.{Server}
use Rattle.spec_protocol.specs.StandTogether.{History, IsOfSeat, Stands}
use Rattle.spec_protocol.specs.TranscriptsAgree.{TranscriptsAgree}
use Rattle.spec_protocol.specs.TranscriptsSoFar.{shown_at}
use Rattle.law_protocol.proofs.Decides.{done_first, nothing_more}
use Rattle.law_protocol_steps.proofs.AfterSet.{all_at}
use Rattle.law_protocol_steps.proofs.AnonymousActs.{at_after}
use Rattle.law_protocol_ledger.proofs.GoneFree.{gone_rests}
use Rattle.law_protocol.proofs.IdleOnes.{idle_goes_on}
use Rattle.law_protocol_steps.proofs.Ids.{Running, each_in, running}
use Rattle.law_protocol_ledger.proofs.NoneWanting.{listed_is, past_over}
use Rattle.law_protocol.proofs.OneSeat.{acted_in}

-- ---- acts that leave what is under way

abbrev pub IsPlain : AnonymousAct → Type 0
IsPlain (did (starts name)) = ⊥
IsPlain (did (takes text)) = ⊥
IsPlain (did (answers entry)) = ⊥
IsPlain (did stops) = ⊥
IsPlain _ = Unit {0}

plain_under : (x : SessionState) (a : SessionAct) → IsPlain (did a) → ((acted x a).so_far.under ≡ x.so_far.under) × ((acted x a).phase ≡ x.phase)
plain_under x (starts name) p = absurd p
plain_under x (takes text) p = absurd p
plain_under x (answers entry) p = absurd p
plain_under x stops p = absurd p
plain_under x a p = (refl, refl)

else_at : (w : World) (n : ℕ) (a : SessionAct) (t : ℕ) → t ≢ n → (step w (by n a)).at t ≡ w.at t
else_at w n a t ne = rw (ne_eqb t n ne) refl

-- the statement under way and the phase of a session
abbrev SameSo : SessionState → SessionState → Type 0
SameSo x y = (x.so_far.under ≡ y.so_far.under) × (x.phase ≡ y.phase)

one_same : (w : World) (n : ℕ) (a : SessionAct) → IsPlain (did a) → (t : ℕ) → SameSo ((step w (by n a)).at t) (w.at t)
one_same w n a p t = ⊎_elim
    (λ (e : t ≡ n). subst (λ (k : ℕ). SameSo ((step w (by n a)).at k) (w.at k)) (sym e) (subst (λ (x : SessionState). SameSo x (w.at n)) (sym (at_after w n a)) (plain_under (w.at n) a p)))
    (λ (ne : t ≢ n). subst (λ (x : SessionState). SameSo x (w.at t)) (sym (else_at w n a t ne)) (refl, refl))
    (cases_eq t n)

all_same : (w : World) (es : List Act) → Each IsPlain (map anonymous_act es) → (t : ℕ) → SameSo ((run w es).at t) (w.at t)
all_same w [] p t = (refl, refl)
all_same w (by n a ∷ es) p t = let r = all_same (step w (by n a)) es p.1 t in let o = one_same w n a p.0 t in (r.0 ∙ o.0, r.1 ∙ o.1)
all_same w (closes k ∷ es) p t = all_same (step w (closes k)) es p.1 t

-- ---- where one session acts

abbrev IsBy : ℕ → Act → Type 0
IsBy m (by n a) = n ≡ m
IsBy m (closes k) = Unit {0}

by_one : (m : ℕ) (w : World) (es : List Act) → ((t : ℕ) → t ≢ m → IsIdle (w.at t)) → Each (IsBy m) es → OneAtATime w es
by_one m w [] idle h = tt
by_one m w (by n a ∷ es) idle h = (λ t ne. idle t (λ e. ne (e ∙ sym h.0)), by_one m (step w (by n a)) es (λ t ne. subst IsIdle (sym (else_at w n a t (λ e. ne (e ∙ h.0)))) (idle t ne)) h.1)
by_one m w (closes k ∷ es) idle h = by_one m (step w (closes k)) es idle h.1

some_text : (o : Option Text) (text : Text) → o ≡ Some text → o ≡ None → ⊥
some_text o text e f = cc

fixed_not : (e : End) → Fixed e → e ≡ unfixed → ⊥
fixed_not unfixed f e = f
fixed_not e f g = cc

ends_shown : (q : Meaning) (o : Option ℕ) (line : EndLine) → entry_facts q o (end_of_session line) ≡ [] → ⊥
ends_shown q None (committed_at id place) e = cc
ends_shown q None (ended_after id n) e = cc
ends_shown q (Some k) (committed_at id place) e = cc
ends_shown q (Some k) (ended_after id n) e = cc

module _ (v : Server) {history : History} {cells : List Cell} {seats : List SeatState} (st : Stands v history cells seats) (j : ℕ) (s : SeatState) (there : get_elem? seats j ≡ some s) (quiet : InactiveExcept seats j) where
  abbrev W : World
  W = run first history

  abbrev agree : TranscriptsAgree v history st.ledger seats
  agree = st.transcripts_agree

  at_rest : (x : Session) (n : ℕ) → IsNow v.meaning (W.at n) x → text_at x.place ≡ None → shown_at v.meaning x.place x.open_one ≡ [] → IsIdle (W.at n)
  at_rest x n now none nothing = record { under = now.under ∙ none; shown = now.so_far.pending ∙ nothing }

  by_role : (n : ℕ) (r : Role) → IsInactive r → Now history v.meaning (Some n) r → IsIdle (W.at n)
  by_role n (session x) q now = at_rest x n now.0 (ap text_at q) (ap (λ (p : SessionStatus). shown_at v.meaning p x.open_one) q)
  by_role n r q now = absurd now

  -- all sessions are idle but perhaps the one that runs at this seat
  idle_if : (n : ℕ) → ((agree.of_seat j).now ≡ Some n → IsIdle (W.at n)) → IsIdle (W.at n)
  idle_if n own = ⊎_elim
      (λ (l : n < agree.count). let a = agree.all n l in let k = agree.owner n in ⊎_elim
      (λ (i : In n (agree.of_seat k).past). let r = gone_rests v.meaning st.ledger.database history agree.good n (past_over history (agree.of_seat k).past a.0.written n (agree.agree k a.0 a.1).sessions.past i) in record { under = r.idle; shown = r.shown })
      (λ (i : In n (listed (agree.of_seat k).now)). let is = listed_is n (agree.of_seat k).now i in ⊎_elim
      (λ (e : k ≡ j). own (ap (λ (m : ℕ). (agree.of_seat m).now) (sym e) ∙ is))
      (λ (ne : k ≢ j). by_role n a.0.role (quiet k a.0 ne a.1) (subst (λ (o : Option ℕ). Now history v.meaning o a.0.role) is (agree.agree k a.0 a.1).sessions.now))
      (cases_eq k j))
      (in_append n (agree.of_seat k).past (listed (agree.of_seat k).now) a.2))
      (λ l. subst IsIdle (sym (agree.no_others n (omega (arith, l))).0) (record { under = refl; shown = refl }))
      (cases_lt n agree.count)

  -- one act, where this seat is quiet too
  pub one_inactive : IsInactive s.role → (events : List Act) (a : SessionAct) → map anonymous_act events ≡ did a ∷ [] → OneAtATime W events
  one_inactive q events a e = let d = done_first events a [] e in let is = d.is ∙ ap (λ (es : List Act). by d.session a ∷ es) (nothing_more d.rest d.are) in
      subst (OneAtATime W) (sym is) ((λ t ne. idle_if t (λ own. by_role t s.role q (subst (λ (o : Option ℕ). Now history v.meaning o s.role) own (agree.agree j s there).sessions.now))), tt)

  pub none_does : (events : List Act) → map anonymous_act events ≡ [] → OneAtATime W events
  none_does events e = subst (OneAtATime W) (sym (nothing_more events e)) tt

  module _ (x : Session) (role : s.role ≡ session x) where
    its : Running v.meaning history (agree.of_seat j) x
    its = running v history st.ledger seats agree j s x there role

    abbrev m : ℕ
    m = its.number

    else_idle : (n : ℕ) → n ≢ m → IsIdle (W.at n)
    else_idle n ne = idle_if n (λ own. absurd (ne (let e : Some n ≡ Some m = sym own ∙ its.is in cc)))

    -- one act, where this seat's session is at its end and has nothing to show
    pub one_leaving : text_at x.place ≡ None → shown_at v.meaning x.place x.open_one ≡ [] → (events : List Act) (a : SessionAct) → map anonymous_act events ≡ did a ∷ [] → OneAtATime W events
    one_leaving none nothing events a e = let d = done_first events a [] e in let is = d.is ∙ ap (λ (es : List Act). by d.session a ∷ es) (nothing_more d.rest d.are) in
        subst (OneAtATime W) (sym is) ((λ t ne. idle_if t (λ own. at_rest x t (subst (λ (k : ℕ). IsNow v.meaning (W.at k) x) (let f : Some m ≡ Some t = sym its.is ∙ own in cc) its.now) none nothing)), tt)

    -- what it does inside a statement
    module _ (events : List Act) (plain : Each IsPlain (map anonymous_act events)) {then_cells : List Cell} {then_seats : List SeatState} (after : Stands v (history ++ events) then_cells then_seats) (mine : Each (IsOfSeat after.transcripts_agree.owner j) events)
        (t : SeatState) (there_then : get_elem? then_seats j ≡ some t) (y : Session) (role_then : t.role ≡ session y) (text : Text) (stage : StatementProgress) (place : y.place ≡ inside text stage) where
      abbrev later : TranscriptsAgree v (history ++ events) after.ledger then_seats
      later = after.transcripts_agree

      same : (n : ℕ) → SameSo ((run first (history ++ events)).at n) (W.at n)
      same n = subst (λ (w : World). SameSo (w.at n) (W.at n)) (sym (run_append first history events)) (all_same W events plain n)

      good : Good v.meaning after.ledger.database W events
      good = (good_append v.meaning after.ledger.database first history events later.good).1

      not_gone : (n : ℕ) (a : SessionAct) → In (by n a) events → ((run first (history ++ events)).at n).phase ≡ gone → ⊥
      not_gone n a i e = acted_in events n a i (silent v.meaning after.ledger.database n W events (sym (same n).1 ∙ e) good).0

      now_is : (n : ℕ) → (later.of_seat j).now ≡ Some n → n ≡ m
      now_is n e = let r = running v (history ++ events) after.ledger then_seats later j t y there_then role_then in
          let f : r.number ≡ n = (let g : Some r.number ≡ Some n = sym r.is ∙ e in cc) in
          let under : (W.at n).so_far.under ≡ Some text = sym (same n).0 ∙ ap (λ (k : ℕ). ((run first (history ++ events)).at k).so_far.under) (sym f) ∙ r.now.under ∙ ap text_at place in
          ⊎_elim (λ (g : n ≡ m). g) (λ (ne : n ≢ m). absurd (some_text (W.at n).so_far.under text under (else_idle n ne).under)) (cases_eq n m)

      by_mine : (e : Act) → In e events → IsBy m e
      by_mine (closes k) i = tt
      by_mine (by n a) i = ⊎_elim
          (λ (l : n < later.count). let w = later.all n l in
          let owner : later.owner n ≡ j = each_in (IsOfSeat later.owner j) events (by n a) mine i in
          let k = later.owner n in ⊎_elim
          (λ (p : In n (later.of_seat k).past). absurd (not_gone n a i (past_over (history ++ events) (later.of_seat k).past w.0.written n (later.agree k w.0 w.1).sessions.past p)))
          (λ (p : In n (listed (later.of_seat k).now)). now_is n (ap (λ (u : ℕ). (later.of_seat u).now) (sym owner) ∙ listed_is n (later.of_seat k).now p))
          (in_append n (later.of_seat k).past (listed (later.of_seat k).now) w.2))
          (λ l. absurd (acted_in (history ++ events) n a (in_right (by n a) history events i) (later.no_others n (omega (arith, l))).1))
          (cases_lt n later.count)

      pub inside_alone : OneAtATime W events
      inside_alone = by_one m W events (λ u ne. else_idle u ne) (all_at (IsBy m) events by_mine)

    -- ---- answers

    answerer : (w : World) (n : ℕ) (text : Text) → (w.at n).so_far.under ≡ Some text → ((u : ℕ) → u ≢ m → (w.at u).so_far.under ≡ None) → n ≡ m
    answerer w n text e none = ⊎_elim (λ (g : n ≡ m). g) (λ (ne : n ≢ m). absurd (some_text (w.at n).so_far.under text e (none n ne))) (cases_eq n m)

    freer : (db : Text) (n : ℕ) (es : List Act) → Good v.meaning db W (by n releases_locks ∷ es) → n ≡ m
    freer db n es g = ⊎_elim (λ (e : n ≡ m). e)
        (λ (ne : n ≢ m). absurd (fixed_not (g.0.mine).fixed g.0.fixed (idle_goes_on v.meaning st.ledger.database history agree.good n (else_idle n ne) g.0.mine g.0.has).1))
        (cases_eq n m)

    pub answers_one : (db : Text) (text : Text) (r : Reply) (line : Option EndLine) (events : List Act) → map anonymous_act events ≡ did (answers (statement text r line)) ∷ [] → Good v.meaning db W events → OneAtATime W events
    answers_one db text r line events e good = let d = done_first events (answers (statement text r line)) [] e in let is = d.is ∙ ap (λ (es : List Act). by d.session (answers (statement text r line)) ∷ es) (nothing_more d.rest d.are) in
        let g = subst (Good v.meaning db W) is good in
        subst (OneAtATime W) (sym is) (by_one m W (by d.session (answers (statement text r line)) ∷ []) (λ u ne. else_idle u ne) (answerer W d.session text g.0.answered (λ u ne. (else_idle u ne).under), tt))

    pub answers_end : (db : Text) (text : Text) (r : Reply) (line : Option EndLine) (events : List Act) → map anonymous_act events ≡ did releases_locks ∷ did (answers (statement text r line)) ∷ [] → Good v.meaning db W events → OneAtATime W events
    answers_end db text r line events e good = let d = done_first events releases_locks (did (answers (statement text r line)) ∷ []) e in let f = done_first d.rest (answers (statement text r line)) [] d.are in
        let is = d.is ∙ ap (λ (es : List Act). by d.session releases_locks ∷ es) (f.is ∙ ap (λ (es : List Act). by f.session (answers (statement text r line)) ∷ es) (nothing_more f.rest f.are)) in
        let g = subst (Good v.meaning db W) is good in
        subst (OneAtATime W) (sym is) (by_one m W (by d.session releases_locks ∷ by f.session (answers (statement text r line)) ∷ []) (λ u ne. else_idle u ne)
        (freer db d.session (by f.session (answers (statement text r line)) ∷ []) g, (answerer W f.session text (sym (one_same W d.session releases_locks tt f.session).0 ∙ g.1.0.answered) (λ u ne. (else_idle u ne).under), tt)))

    -- ---- the last acts of a session, which stands at its end

    module _ (db : Text) (line : EndLine) (n1 n2 n3 : ℕ) (g : Good v.meaning db W (by n1 releases_locks ∷ by n2 (answers (end_of_session line)) ∷ by n3 stops ∷ [])) where
      abbrev one : World
      one = step W (by n1 releases_locks)

      abbrev two : World
      two = step one (by n2 (answers (end_of_session line)))

      first_is : n1 ≡ m
      first_is = freer db n1 (by n2 (answers (end_of_session line)) ∷ by n3 stops ∷ []) g

      still_idle : (u : ℕ) → u ≢ m → IsIdle (one.at u)
      still_idle u ne = subst IsIdle (sym (else_at W n1 releases_locks u (λ e. ne (e ∙ first_is)))) (else_idle u ne)

      -- what it shows is an end
      second_is : n2 ≡ m
      second_is = ⊎_elim (λ (e : n2 ≡ m). e)
          (λ (ne : n2 ≢ m). absurd (ends_shown v.meaning (open_at_end None (one.at n2).so_far.entries) line (sym g.1.0.shows ∙ (still_idle n2 ne).shown)))
          (cases_eq n2 m)

      all_idle : (u : ℕ) → IsIdle (two.at u)
      all_idle u = ⊎_elim
          (λ (e : u ≡ n2). subst (λ (k : ℕ). IsIdle (two.at k)) (sym e) (subst IsIdle (sym (at_after one n2 (answers (end_of_session line)))) (record { under = refl; shown = refl })))
          (λ (ne : u ≢ n2). subst IsIdle (sym (else_at one n2 (answers (end_of_session line)) u ne)) (still_idle u (λ e. ne (e ∙ sym second_is))))
          (cases_eq u n2)

      last_alone : OneAtATime W (by n1 releases_locks ∷ by n2 (answers (end_of_session line)) ∷ by n3 stops ∷ [])
      last_alone = (λ u ne. else_idle u (λ e. ne (e ∙ sym first_is)), (λ u ne. still_idle u (λ e. ne (e ∙ sym second_is)), (λ u ne. all_idle u, tt)))

    pub leaves_last : (db : Text) (line : EndLine) (events : List Act) → map anonymous_act events ≡ did releases_locks ∷ did (answers (end_of_session line)) ∷ did stops ∷ [] → Good v.meaning db W events → OneAtATime W events
    leaves_last db line events e good =
        let d = done_first events releases_locks (did (answers (end_of_session line)) ∷ did stops ∷ []) e in
        let f = done_first d.rest (answers (end_of_session line)) (did stops ∷ []) d.are in
        let h = done_first f.rest stops [] f.are in
        let is = d.is ∙ ap (λ (es : List Act). by d.session releases_locks ∷ es) (f.is ∙ ap (λ (es : List Act). by f.session (answers (end_of_session line)) ∷ es) (h.is ∙ ap (λ (es : List Act). by h.session stops ∷ es) (nothing_more h.rest h.are))) in
        subst (OneAtATime W) (sym is) (last_alone db line d.session f.session h.session (subst (Good v.meaning db W) is good))
