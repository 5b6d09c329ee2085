-- Histories in which locks decide, in two parts.
use Rattle.std.proofs.Common.{ℕ, List, [], ◌∷◌, ◌++◌, sym, subst, append_assoc}
use Rattle.spec_history.specs.Acts.{Act, by, closes}
use Rattle.spec_history.specs.ByLocks.{LocksDecide}
use Rattle.spec_history.specs.Histories.{OneAtATime, SessionsBelow}
use Rattle.spec_history.specs.Meaning.{Meaning}
use Rattle.spec_history.specs.Worlds.{World, first, run, step}
use Rattle.spec_history.proofs.Cuts.{run_append}
use Rattle.spec_protocol.specs.LocksDecideIn.{LocksDecideIn}
use Rattle.spec_protocol.specs.Server.{Server}

pub below_first : (k : ℕ) (es fs : List Act) → SessionsBelow k (es ++ fs) → SessionsBelow k es
below_first k [] fs b = tt
below_first k (by s a ∷ es) fs b = (b.0, below_first k es fs b.1)
below_first k (closes n ∷ es) fs b = below_first k es fs b

alone_parts : (w : World) (es fs : List Act) → OneAtATime w (es ++ fs) → OneAtATime w es × OneAtATime (run w es) fs
alone_parts w [] fs a = (tt, a)
alone_parts w (by s a ∷ es) fs h = let r = alone_parts (step w (by s a)) es fs h.1 in ((h.0, r.0), r.1)
alone_parts w (closes n ∷ es) fs h = alone_parts (step w (closes n)) es fs h

pub alone_append : (w : World) (es fs : List Act) → OneAtATime w es → OneAtATime (run w es) fs → OneAtATime w (es ++ fs)
alone_append w [] fs a b = b
alone_append w (by s a ∷ es) fs h k = (h.0, alone_append (step w (by s a)) es fs h.1 k)
alone_append w (closes n ∷ es) fs h k = alone_append (step w (closes n)) es fs h k

decide_append : (q : Meaning) (k : ℕ) (w : World) (es fs : List Act) → LocksDecide q k w es → LocksDecide q k (run w es) fs → LocksDecide q k w (es ++ fs)
decide_append q k w [] fs d e = e
decide_append q k w (by s a ∷ es) fs d e = (d.0, decide_append q k (step w (by s a)) es fs d.1 e)
decide_append q k w (closes n ∷ es) fs d e = decide_append q k (step w (closes n)) es fs d e

pub decides_on : (v : Server) (h es fs : List Act) → LocksDecideIn v h es → LocksDecideIn v (h ++ es) fs → LocksDecideIn v h (es ++ fs)
decides_on v h es fs d e = λ k below alone. let p = alone_parts (run first h) es fs alone in let b = subst (SessionsBelow k) (sym (append_assoc h es fs)) below in
    decide_append v.meaning k (run first h) es fs (d k (below_first k (h ++ es) fs b) p.0)
    (subst (λ (w : World). LocksDecide v.meaning k w fs) (run_append first h es) (e k b (subst (λ (w : World). OneAtATime w fs) (sym (run_append first h es)) p.1)))
