-- The sample is a good history, and whole.
use Rattle.std.proofs.Common.{◌≡◌, ◌≢◌, ℕ, zero, suc, true, false, List, [], ◌∷◌, ◌++◌, Some, refl, sym, ap, ◌∙◌, subst, ⊎_elim, inl, inr, arith}
use Rattle.std.proofs.lemmas.Bool.{ne_eqb, cases_eq}
use Rattle.spec_history.specs.Lists.{Text, At}
use Rattle.spec_history.specs.Meaning.{Meaning}
use Rattle.spec_history.specs.Transcripts.{Transcript}
use Rattle.spec_history.specs.Transactions.{unfixed, committed, ended}
use Rattle.spec_history.specs.Acts.{SessionAct, starts, Act, by, closes}
use Rattle.spec_history.specs.Sessions.{SessionTransaction}
use Rattle.spec_history.specs.Worlds.{World, first, step, run}
use Rattle.spec_history.specs.Guards.{Good}
use Rattle.spec_history.specs.Histories.{SessionsBelow, IsWhole, IsIdle, OneAtATime, EndsComeLast, pending, ClosesInStep}
use Rattle.spec_history.specs.ByLocks.{LocksDecide}
use Rattle.spec_history.specs.ExactRefusals.{in_the_way}
use Rattle.spec_model.specs.InTheWay.{barrier, first_conflict}
use Rattle.spec_model.specs.Locks.{conflict, same_item}
use Rattle.law_history.proofs.Exact.{nobody_in_the_way}
use Rattle.law_history.specs.Sample.{meaning, database, row, creating, setup_runs, locks, opens, is_refused, is_committed, is_issued, history, input, transcripts}

good_join : (q : Meaning) (db : Text) (w : World) (es fs : List Act) → Good q db w es → Good q db (run w es) fs → Good q db w (es ++ fs)
good_join q db w [] fs g h = h
good_join q db w (e ∷ es) fs g h = (g.0, good_join q db (step w e) es fs g.1 h)

below_join : (k : ℕ) (es fs : List Act) → SessionsBelow k es → SessionsBelow k fs → SessionsBelow k (es ++ fs)
below_join k [] fs h l = l
below_join k (by s a ∷ es) fs h l = (h.0, below_join k es fs h.1 l)
below_join k (closes n ∷ es) fs h l = below_join k es fs h l

abbrev head : Text → ℕ
head [] = 0
head (c ∷ cs) = c

apart : (n m : ℕ) (x y u v : Transcript) → u ≡ x → v ≡ y → u.session ≡ n ∷ [] → v.session ≡ m ∷ [] → n ≢ m → x.session ≢ y.session
apart n m x y u v a b c d ne = λ e. ne (ap head (sym c ∙ ap (λ (z : Transcript). z.session) a ∙ e ∙ sym (ap (λ (z : Transcript). z.session) b) ∙ d))

setup_runs_is_good : Good meaning database first setup_runs
setup_runs_is_good = (
  refl,
  (
    (refl, refl, refl, tt),
    (
      (refl, refl, refl),
      (
        (record { id = 1; explicit = false; script = []; answered = []; asked = []; fixed = unfixed }, record { runs = refl; has = refl; unfixed = refl }, λ e. (refl, tt)),
        (
          (record { id = 1; explicit = false; script = []; answered = []; asked = (row, true) ∷ []; fixed = unfixed }, record { runs = refl; has = refl; unfixed = refl }, λ e. (refl, ((λ e. refl), tt))),
          (
            record { mine = record { id = 1; explicit = false; script = (row, []) ∷ []; answered = (row, true) ∷ []; asked = (row, true) ∷ (row, true) ∷ []; fixed = unfixed }; stands = record { runs = refl; has = refl; unfixed = refl }; agrees = record { replies = refl; acts = omega arith }; last = refl; others = inl refl },
            (
              record { mine = record { id = 1; explicit = false; script = (row, []) ∷ []; answered = (row, true) ∷ []; asked = (row, true) ∷ (row, true) ∷ []; fixed = committed 1 }; running = refl; has = refl; fixed = tt; all_answered = (record { flag = true; is = inl refl; table = λ e. inl refl }, (record { flag = true; is = inl refl; table = λ e. inl refl }, tt)) },
              (
                record { running = refl; none_ended = tt; answered = refl; shows = refl; in_place = record { open_ended = tt; ends = tt; controlled = record { none_open = ((λ e. cc), (λ e. cc)); begun_twice = ((λ e. cc), (λ e. cc)); not_inside = ((λ e. cc), (λ e. cc)); unread_outside = ((λ e. cc), (λ e. cc)); third_image = tt; begins = tt }; else_no_memory = tt } },
                (
                  (refl, record { idle = refl; shown = refl; none_open = refl; free = refl }),
                  tt,
                ),
              ),
            ),
          ),
        ),
      ),
    ),
  ),
)

opens_is_good : Good meaning database (run first setup_runs) opens
opens_is_good = (
  refl,
  (
    refl,
    (
      (refl, refl, refl, tt),
      (
        (refl, refl, refl),
        (
          record { running = refl; none_ended = tt; answered = refl; shows = refl; in_place = record { open_ended = tt; ends = refl; controlled = record { none_open = ((λ e. cc), (λ e. cc)); begun_twice = ((λ e. cc), (λ e. cc)); not_inside = ((λ e. cc), (λ e. cc)); unread_outside = ((λ e. cc), (λ e. cc)); third_image = tt; begins = inl (2, refl) }; else_no_memory = tt } },
          (
            (refl, refl, refl, (tt, tt)),
            (
              (record { id = 2; explicit = true; script = []; answered = []; asked = []; fixed = unfixed }, record { runs = refl; has = refl; unfixed = refl }, λ e. cc),
              (
                (record { id = 2; explicit = true; script = []; answered = []; asked = (row, true) ∷ []; fixed = unfixed }, record { runs = refl; has = refl; unfixed = refl }, λ e. cc),
                (
                  record { running = refl; none_ended = (tt, tt); answered = refl; shows = refl; in_place = record { open_ended = tt; ends = refl; controlled = record { none_open = ((λ e. cc), (λ e. cc)); begun_twice = ((λ e. cc), (λ e. cc)); not_inside = ((λ e. cc), (λ e. cc)); unread_outside = tt; third_image = tt; begins = tt }; else_no_memory = tt } },
                  tt,
                ),
              ),
            ),
          ),
        ),
      ),
    ),
  ),
)

is_refused_is_good : Good meaning database (run first (setup_runs ++ opens)) is_refused
is_refused_is_good = (
  (refl, refl, refl, tt),
  (
    (refl, refl, refl),
    (
      (record { id = 3; explicit = false; script = []; answered = []; asked = []; fixed = unfixed }, record { runs = refl; has = refl; unfixed = refl }, λ e. (refl, tt)),
      (
        record { mine = record { id = 3; explicit = false; script = []; answered = []; asked = (creating, false) ∷ []; fixed = unfixed }; stands = record { runs = refl; has = refl; unfixed = refl }; other = 1; differs = λ e. omega arith; theirs = record { id = 2; explicit = true; script = (row, []) ∷ []; answered = (row, true) ∷ []; asked = (row, true) ∷ (row, true) ∷ []; fixed = unfixed }; has = refl; is = refl; clash = inl (inr (refl, refl)) },
        (
          record { mine = record { id = 3; explicit = false; script = []; answered = (creating, false) ∷ []; asked = (creating, false) ∷ (creating, false) ∷ []; fixed = unfixed }; stands = record { runs = refl; has = refl; unfixed = refl }; replies = refl; quiet = λ e. refl; last = refl },
          (
            record { mine = record { id = 3; explicit = false; script = []; answered = (creating, false) ∷ []; asked = (creating, false) ∷ (creating, false) ∷ []; fixed = ended 1 false }; running = refl; has = refl; fixed = tt; all_answered = (record { flag = false; is = inl refl; table = λ e. cc }, (record { flag = false; is = inl refl; table = λ e. cc }, tt)) },
            (
              record { running = refl; none_ended = tt; answered = refl; shows = refl; in_place = record { open_ended = tt; ends = tt; controlled = record { none_open = ((λ e. cc), (λ e. cc)); begun_twice = ((λ e. cc), (λ e. cc)); not_inside = ((λ e. cc), (λ e. cc)); unread_outside = ((λ e. cc), (λ e. cc)); third_image = tt; begins = tt }; else_no_memory = tt } },
              tt,
            ),
          ),
        ),
      ),
    ),
  ),
)

is_committed_is_good : Good meaning database (run first (setup_runs ++ (opens ++ is_refused))) is_committed
is_committed_is_good = (
  (refl, refl, refl, (tt, (tt, tt))),
  (
    record { mine = record { id = 2; explicit = true; script = (row, []) ∷ []; answered = (row, true) ∷ []; asked = (row, true) ∷ (row, true) ∷ []; fixed = unfixed }; stands = record { runs = refl; has = refl; unfixed = refl }; agrees = record { replies = refl; acts = omega arith }; last = refl; others = inl refl },
    (
      record { mine = record { id = 2; explicit = true; script = (row, []) ∷ []; answered = (row, true) ∷ []; asked = (row, true) ∷ (row, true) ∷ []; fixed = committed 2 }; running = refl; has = refl; fixed = tt; all_answered = (record { flag = true; is = inl refl; table = λ e. inl refl }, (record { flag = true; is = inl refl; table = λ e. inl refl }, tt)) },
      (
        record { running = refl; none_ended = (tt, (tt, tt)); answered = refl; shows = refl; in_place = record { open_ended = tt; ends = refl; controlled = record { none_open = ((λ e. cc), (λ e. cc)); begun_twice = ((λ e. cc), (λ e. cc)); not_inside = ((λ e. cc), (λ e. cc)); unread_outside = tt; third_image = tt; begins = tt }; else_no_memory = refl } },
        (
          (refl, record { idle = refl; shown = refl; none_open = refl; free = refl }),
          tt,
        ),
      ),
    ),
  ),
)

is_issued_is_good : Good meaning database (run first (setup_runs ++ (opens ++ (is_refused ++ is_committed)))) is_issued
is_issued_is_good = (
  (omega arith, omega arith, omega arith),
  (
    (refl, refl, refl, (tt, tt)),
    (
      record { running = refl; last = refl; all = refl; is = record { of = refl; hash = refl; last = refl }; counts = refl },
      (
        record { running = refl; none_ended = (tt, tt); answered = refl; shows = refl; in_place = record { open_ended = tt; ends = refl; controlled = record { none_open = ((λ e. cc), (λ e. cc)); begun_twice = ((λ e. cc), (λ e. cc)); not_inside = ((λ e. cc), (λ e. cc)); unread_outside = ((λ e. cc), (λ e. cc)); third_image = tt; begins = tt }; else_no_memory = tt } },
        (
          (refl, record { idle = refl; shown = refl; none_open = refl; free = refl }),
          tt,
        ),
      ),
    ),
  ),
)

pub good : Good meaning database first history
good = good_join meaning database first setup_runs (opens ++ (is_refused ++ (is_committed ++ is_issued))) setup_runs_is_good
    (good_join meaning database (run first setup_runs) opens (is_refused ++ (is_committed ++ is_issued)) opens_is_good
    (good_join meaning database (run first (setup_runs ++ opens)) is_refused (is_committed ++ is_issued) is_refused_is_good
    (good_join meaning database (run first (setup_runs ++ (opens ++ is_refused))) is_committed is_issued is_committed_is_good is_issued_is_good)))

names_differ : (i j : ℕ) (x y : Transcript) → At transcripts i x → At transcripts j y → i ≢ j → x.session ≢ y.session
names_differ zero zero x y a b ne = absurd (ne refl)
names_differ zero (suc zero) x y a b ne = apart 115 97 x y _ _ a b refl refl (λ e. omega arith)
names_differ zero (suc (suc zero)) x y a b ne = apart 115 98 x y _ _ a b refl refl (λ e. omega arith)
names_differ (suc zero) zero x y a b ne = apart 97 115 x y _ _ a b refl refl (λ e. omega arith)
names_differ (suc zero) (suc zero) x y a b ne = absurd (ne refl)
names_differ (suc zero) (suc (suc zero)) x y a b ne = apart 97 98 x y _ _ a b refl refl (λ e. omega arith)
names_differ (suc (suc zero)) zero x y a b ne = apart 98 115 x y _ _ a b refl refl (λ e. omega arith)
names_differ (suc (suc zero)) (suc zero) x y a b ne = apart 98 97 x y _ _ a b refl refl (λ e. omega arith)
names_differ (suc (suc zero)) (suc (suc zero)) x y a b ne = absurd (ne refl)
names_differ (suc (suc (suc i))) j x y a b ne = absurd a
names_differ i (suc (suc (suc j))) x y a b ne = absurd b

all_below : SessionsBelow 3 history
all_below = below_join 3 setup_runs (opens ++ (is_refused ++ (is_committed ++ is_issued))) (omega arith, (omega arith, (omega arith, (omega arith, (omega arith, (omega arith, (omega arith, (omega arith, (omega arith, tt)))))))))
    (below_join 3 opens (is_refused ++ (is_committed ++ is_issued)) (omega arith, (omega arith, (omega arith, (omega arith, (omega arith, (omega arith, (omega arith, (omega arith, (omega arith, tt)))))))))
    (below_join 3 is_refused (is_committed ++ is_issued) (omega arith, (omega arith, (omega arith, (omega arith, (omega arith, (omega arith, (omega arith, tt)))))))
    (below_join 3 is_committed is_issued (omega arith, (omega arith, (omega arith, (omega arith, (omega arith, tt))))) (omega arith, (omega arith, (omega arith, (omega arith, tt)))))))

pub whole : IsWhole input (Some 0) transcripts history
whole = record {
  sessions = search;
  all = all_below;
  names_differ = names_differ;
  setup_ran = record {
    earlier = setup_runs;
    later = opens ++ (is_refused ++ (is_committed ++ is_issued));
    is = refl;
    others = λ s ne. rw (ne_eqb 0 s (λ e. ne (sym e))) refl;
    gone = refl;
  };
}

-- ---- one statement at a time

abbrev OthersIdle : ℕ → World → Type 0
OthersIdle s w = (t : ℕ) → t ≢ s → IsIdle (w.at t)

abbrev AllBy : ℕ → List Act → Type 0
AllBy s [] = Unit {0}
AllBy s (by t a ∷ es) = (t ≡ s) × AllBy s es
AllBy s (closes k ∷ es) = AllBy s es

quiet_by : (s t : ℕ) (a : SessionAct) (w : World) → t ≡ s → OthersIdle s w → OthersIdle s (step w (by t a))
quiet_by s t a w e h u ne = rw (ne_eqb u t (λ k. ne (k ∙ e))) (h u ne)

-- acts of one session
stretch : (s : ℕ) (w : World) (es : List Act) → AllBy s es → OthersIdle s w → OneAtATime w es × OthersIdle s (run w es)
stretch s w [] h k = (tt, k)
stretch s w (by t a ∷ es) h k = let r = stretch s (step w (by t a)) es h.1 (quiet_by s t a w h.0 k) in (((λ u ne. k u (λ e. ne (e ∙ sym h.0))), r.0), r.1)
stretch s w (closes n ∷ es) h k = stretch s (step w (closes n)) es h k

-- another one's turn
turn : (s t : ℕ) (w : World) → OthersIdle s w → IsIdle (w.at s) → OthersIdle t w
turn s t w h e u ne = ⊎_elim (λ (k : u ≡ s). subst (λ (i : ℕ). IsIdle (w.at i)) (sym k) e) (λ (k : u ≢ s). h u k) (cases_eq u s)

one_join : (w : World) (es fs : List Act) → OneAtATime w es → OneAtATime (run w es) fs → OneAtATime w (es ++ fs)
one_join w [] fs h k = k
one_join w (by s a ∷ es) fs h k = (h.0, one_join (step w (by s a)) es fs h.1 k)
one_join w (closes n ∷ es) fs h k = one_join (step w (closes n)) es fs h k

abbrev w1 : World
w1 = run first setup_runs

abbrev w2 : World
w2 = step w1 (by 1 (starts (97 ∷ [])))

abbrev w3 : World
w3 = step w2 (by 2 (starts (98 ∷ [])))

abbrev w4 : World
w4 = run w3 locks

abbrev w5 : World
w5 = run w4 is_refused

abbrev w6 : World
w6 = run w5 is_committed

pub alone : OneAtATime first history
alone =
    let a = stretch 0 first setup_runs (refl, (refl, (refl, (refl, (refl, (refl, (refl, (refl, (refl, tt))))))))) (λ t ne. record { under = refl; shown = refl }) in
    let b = stretch 1 w1 (by 1 (starts (97 ∷ [])) ∷ []) (refl, tt) (turn 0 1 w1 a.1 (record { under = refl; shown = refl })) in
    let c = stretch 2 w2 (by 2 (starts (98 ∷ [])) ∷ []) (refl, tt) (turn 1 2 w2 b.1 (record { under = refl; shown = refl })) in
    let d = stretch 1 w3 locks (refl, (refl, (refl, (refl, (refl, (refl, (refl, tt))))))) (turn 2 1 w3 c.1 (record { under = refl; shown = refl })) in
    let e = stretch 2 w4 is_refused (refl, (refl, (refl, (refl, (refl, (refl, (refl, tt))))))) (turn 1 2 w4 d.1 (record { under = refl; shown = refl })) in
    let f = stretch 1 w5 is_committed (refl, (refl, (refl, (refl, (refl, tt))))) (turn 2 1 w5 e.1 (record { under = refl; shown = refl })) in
    let g = stretch 2 w6 is_issued (refl, (refl, (refl, (refl, tt)))) (turn 1 2 w6 f.1 (record { under = refl; shown = refl })) in
    one_join first setup_runs (opens ++ (is_refused ++ (is_committed ++ is_issued))) a.0
    (b.0.0, (c.0.0, one_join w3 locks (is_refused ++ (is_committed ++ is_issued)) d.0 (one_join w4 is_refused (is_committed ++ is_issued) e.0 (one_join w5 is_committed is_issued f.0 g.0))))

pub ends : EndsComeLast first history
ends = tt

pub in_step : ClosesInStep 2 (pending 0) history
in_step = (tt, (tt, (tt, (refl, (refl, tt)))))

-- ---- locks decide

decide_join : (q : Meaning) (k : ℕ) (w : World) (es fs : List Act) → LocksDecide q k w es → LocksDecide q k (run w es) fs → LocksDecide q k w (es ++ fs)
decide_join q k w [] fs h l = l
decide_join q k w (by s a ∷ es) fs h l = (h.0, decide_join q k (step w (by s a)) es fs h.1 l)
decide_join q k w (closes n ∷ es) fs h l = decide_join q k (step w (closes n)) es fs h l

-- the SELECT of transaction 2 bars the CREATE
is_blocked : in_the_way meaning [] (record { id = 2; explicit = true; text = row } ∷ []) 3 false creating ≡ Some 2
unfolding first_conflict barrier conflict same_item
is_blocked = refl

setup_by_locks : LocksDecide meaning 3 first setup_runs
setup_by_locks = (tt, (tt, (tt, (tt, ((λ d e. nobody_in_the_way meaning [] d.id d.explicit row), (tt, (tt, (tt, (tt, tt)))))))))

opens_by_locks : LocksDecide meaning 3 w1 opens
opens_by_locks = (tt, (tt, (tt, (tt, (tt, (tt, (tt, ((λ d e. nobody_in_the_way meaning [] d.id d.explicit row), (tt, tt)))))))))

refused_by_locks : LocksDecide meaning 3 w4 is_refused
refused_by_locks = (tt, (tt, (tt, ((λ d e. subst (λ (o : SessionTransaction). in_the_way meaning [] (record { id = 2; explicit = true; text = row } ∷ []) o.id o.explicit creating ≡ Some 2) (its d e) is_blocked), (tt, (tt, (tt, tt)))))))
  where
    its : (d : SessionTransaction) → Some (record { id = 3; explicit = false; script = []; answered = []; asked = (creating, false) ∷ []; fixed = unfixed }) ≡ Some d → record { id = 3; explicit = false; script = []; answered = []; asked = (creating, false) ∷ []; fixed = unfixed } ≡ d
    its d e = cc

pub by_locks : LocksDecide meaning 3 first history
by_locks = decide_join meaning 3 first setup_runs (opens ++ (is_refused ++ (is_committed ++ is_issued))) setup_by_locks
    (decide_join meaning 3 w1 opens (is_refused ++ (is_committed ++ is_issued)) opens_by_locks
    (decide_join meaning 3 w4 is_refused (is_committed ++ is_issued) refused_by_locks
    (decide_join meaning 3 w5 is_committed is_issued (tt, (tt, (tt, (tt, (tt, tt))))) (tt, (tt, (tt, (tt, tt)))))))
