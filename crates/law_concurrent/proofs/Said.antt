-- Where it is so for each list of moments, it is for whatever says which moments they are.
use Rattle.std.proofs.Common.{ℕ, List, [], ◌∷◌, flat_map}
use Rattle.sql_types.specs.declared.digest.Digest.{Digest}
use Rattle.spec_history.specs.Inputs.{InputSession}
use Rattle.spec_history.specs.Journals.{times}
use Rattle.spec_history.specs.Lists.{Text, Each, In}
use Rattle.spec_history.proofs.Settles.{in_left, in_right}
use Rattle.spec_history.proofs.Trace.{each_append, each_weaker}
use Rattle.spec_protocol.specs.Seats.{Written}
use Rattle.law_protocol_steps.proofs.AfterSet.{all_at, each_at}
use Rattle.law_behind.specs.Past.{Past, since}
use Rattle.law_concurrent.specs.CameTo.{RunResult}
use Rattle.law_concurrent.specs.CameToBehind.{CameToBehind}
use Rattle.law_concurrent.specs.JoinedBehind.{HasJoinedBehind}

-- the moments of all sessions
abbrev moments_of : List Written → List ℕ
moments_of ws = flat_map (λ w. w.moments) ws

all_said : (IsSaid : ℕ → Type 0) (ws : List Written) → Each (λ w. Each IsSaid w.moments) ws → Each IsSaid (moments_of ws)
all_said IsSaid [] h = tt
all_said IsSaid (w ∷ ws) h = each_append IsSaid w.moments (moments_of ws) h.0 (all_said IsSaid ws h.1)

each_its : (ws : List Written) → Each (λ w. Each (λ time. In time (moments_of ws)) w.moments) ws
each_its [] = tt
each_its (w ∷ ws) = (
  all_at (λ time. In time (moments_of (w ∷ ws))) w.moments (λ time i. in_left time w.moments (moments_of ws) i),
  each_weaker (λ (u : Written). Each (λ time. In time (moments_of ws)) u.moments) (λ u. Each (λ time. In time (moments_of (w ∷ ws))) u.moments)
      (λ u h. each_weaker (λ time. In time (moments_of ws)) (λ time. In time (moments_of (w ∷ ws))) (λ time i. in_right time w.moments (moments_of ws) i) u.moments h) ws (each_its ws),
)

abbrev pub ForMoments : Type 0
ForMoments = (h : List ℕ → List ℕ) (database : Text) (size : ℕ) (past : Past) (moments : List ℕ) (input : List InputSession) (r : RunResult)
    → HasJoinedBehind h database size past (λ time. In time moments) input r → CameToBehind h database size past (λ time. In time moments) input r

module _ (h : List ℕ → List ℕ) (database : Text) (size : ℕ) (past : Past) (IsSaid : ℕ → Type 0) (input : List InputSession) (r : RunResult) (x : HasJoinedBehind h database size past IsSaid input r) where
  abbrev moments : List ℕ
  moments = moments_of (x.first ∷ x.others)

  is_said : (time : ℕ) → In time moments → IsSaid time
  is_said time i = each_at IsSaid moments time (all_said IsSaid (x.first ∷ x.others) x.moments) i

  at_moments : HasJoinedBehind h database size past (λ time. In time moments) input r
  at_moments = record {
    v = x.v;
    serves = x.serves;
    start = x.start;
    cells = x.cells;
    first = x.first;
    others = x.others;
    joined = x.joined;
    knew = x.knew;
    ledger = x.ledger;
    there = x.there;
    of_database = x.of_database;
    of_size = x.of_size;
    input_is = x.input_is;
    apart = x.apart;
    database_is_named = x.database_is_named;
    sessions_are_named = x.sessions_are_named;
    moments = each_its (x.first ∷ x.others);
    are_moments = λ time i. x.are_moments time (is_said time i);
    ids = x.ids;
    room = x.room;
    transcripts = x.transcripts;
    kept = x.kept;
    journal = x.journal;
    digests = x.digests;
  }

  pub came_so : ForMoments → CameToBehind h database size past IsSaid input r
  came_so law = let c = law h database size past moments input r at_moments in record {
    agree = c.agree;
    in_order = c.in_order;
    version = c.version;
    legal = c.legal;
    of_database = c.of_database;
    closings = c.closings;
    times = each_weaker (λ time. In time moments) IsSaid is_said (times (since past r.J.items)) c.times;
    made = each_weaker (λ (d : Digest). In d.made moments) (λ d. IsSaid d.made) (λ d i. is_said d.made i) r.G c.made;
    shown = c.shown;
    are_images = c.are_images;
    accepted = c.accepted;
    last_accepted = c.last_accepted;
    all_accepted = c.all_accepted;
  }
