-- Over two states that agree on all that its statements want, a script comes to the same end.
use Rattle.std.proofs.Common.{◌≡◌, ℕ, refl, sym, ◌∙◌, subst₂, Bool, true, false, List, [], ◌∷◌}
use Rattle.std.specs.List.{AllByRecursion}
use Rattle.spec_model.specs.Catalog.{Tables, defs_of, versions_of}
use Rattle.spec_model.specs.Agreement.{LockRequests, AgreeFor}
use Rattle.spec_model.specs.Runs.{Sound}
use Rattle.spec_model.specs.Script.{Reading, Saved, ScriptEnd, script_from, script}
use Rattle.spec_model.specs.ScriptRequests.{text_requests, script_requests}
use Rattle.spec_model.specs.Touched.{touched}
use Rattle.law_frame.proofs.SameAlone.{alone_replies, alone_counter, alone_versions, alone_saved}
use Rattle.law_frame.proofs.SameScripts.{AllAlike, one_run}
use Rattle.law_frame.proofs.SameTouched.{untouched_at}

pub record SameSaved (tx : ℕ) (c d : Saved) : Type 0 where
  pub name : c.name ≡ d.name
  pub seq : c.seq ≡ d.seq
  pub mine : (id : ℕ) → touched tx (versions_of c.tables id) ≡ touched tx (versions_of d.tables id)

abbrev pub AllSaved : ℕ → List Saved → List Saved → Type 0
AllSaved tx [] [] = Unit {0}
AllSaved tx (c ∷ cs) (d ∷ ds) = SameSaved tx c d × AllSaved tx cs ds
AllSaved tx _ _ = ⊥

-- the same replies, the same counter, the same versions started and ended, and so at each savepoint
pub record SameEnds (tx : ℕ) (a b : ScriptEnd) : Type 0 where
  pub replies : a.replies ≡ b.replies
  pub seq : a.state.seq ≡ b.state.seq
  pub mine : (id : ℕ) → touched tx (versions_of a.state.tables id) ≡ touched tx (versions_of b.state.tables id)
  pub saved : AllSaved tx a.state.saved b.state.saved

module _ (reads : Reading) (tx : ℕ) where
  all_saved : (D : _) (ws : List LockRequests) (cs ds : List Saved) → AllAlike reads tx D ws cs ds → AllSaved tx cs ds
  all_saved D ws [] [] h = tt
  all_saved D ws [] (d ∷ ds) h = absurd h
  all_saved D ws (c ∷ cs) [] h = absurd h
  all_saved D ws (c ∷ cs) (d ∷ ds) h = (record { name = h.0.name; seq = h.0.seq; mine = h.0.tables.mine }, all_saved D ws cs ds h.1)

  pub opened_ends : (T U : Tables) (texts : List (List ℕ)) → Sound tx 0 T → Sound tx 0 U → AllByRecursion (AgreeFor T U) (script_requests reads (defs_of T) true texts)
      → SameEnds tx (script reads true T tx texts) (script reads true U tx texts)
  opened_ends T U texts a b h = let r = one_run reads T U tx texts [] a b h in record {
    replies = r.replies;
    seq = r.state.seq;
    mine = r.state.tables.mine;
    saved = all_saved (defs_of T) (script_requests reads (defs_of T) true texts) (script reads true T tx texts).state.saved (script reads true U tx texts).state.saved r.state.saved;
  }

  -- a script of one text, of a transaction of its own
  one_end : (T U : Tables) (text : List ℕ) → Sound tx 0 T → Sound tx 0 U → AgreeFor T U (text_requests (defs_of T) false (reads text)) → SameEnds tx (script reads false T tx (text ∷ [])) (script reads false U tx (text ∷ []))
  one_end T U text a b h = record {
    replies = alone_replies T U tx a b reads text h;
    seq = alone_counter T U tx a b reads text h;
    mine = alone_versions T U tx a b reads text h;
    saved = subst₂ (AllSaved tx) (sym (alone_saved T U tx a b reads text T)) (sym (alone_saved T U tx a b reads text U)) tt;
  }

  none_end : (T U : Tables) → Sound tx 0 T → Sound tx 0 U → SameEnds tx (script reads false T tx []) (script reads false U tx [])
  unfolding script_from
  none_end T U a b = record { replies = refl; seq = refl; mine = λ id. untouched_at tx T id a ∙ sym (untouched_at tx U id b); saved = tt }

  -- at most one
  abbrev pub IsShort : List (List ℕ) → Type 0
  IsShort [] = Unit {0}
  IsShort (t ∷ []) = Unit {0}
  IsShort (t ∷ u ∷ ts) = ⊥

  pub same_ends : (explicit : Bool) (T U : Tables) (texts : List (List ℕ)) → (explicit ≡ false → IsShort texts) → Sound tx 0 T → Sound tx 0 U → AllByRecursion (AgreeFor T U) (script_requests reads (defs_of T) explicit texts)
      → SameEnds tx (script reads explicit T tx texts) (script reads explicit U tx texts)
  same_ends true T U texts short a b h = opened_ends T U texts a b h
  same_ends false T U [] short a b h = none_end T U a b
  same_ends false T U (t ∷ []) short a b h = one_end T U t a b h.0
  same_ends false T U (t ∷ u ∷ ts) short a b h = absurd (short refl)
