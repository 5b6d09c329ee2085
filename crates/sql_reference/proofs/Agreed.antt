-- What a run_end says of a script and the replies that are kept of it.
use Rattle.std.proofs.Common.{◌≡◌, ◌≢◌, ◌<◌, ℕ, zero, suc, ◌+◌, refl, subst, ◌∙◌, Bool, true, false, List, [], ◌∷◌, map, length, Option, Some, None, inl, inr, arith}
use Rattle.std.specs.Prelude.{◌⊎◌}
use Rattle.std.proofs.lemmas.Option.{slice_get_within}
use Rattle.std.proofs.lemmas.Bool.Decides.{not_from_Decides}
use Rattle.std.proofs.lemmas.List.{length-map}
use Rattle.std.proofs.lemmas.Slice.Eq.{bytes_eq-Decides}
use Rattle.std.specs.Str.{bytes_eq}
use Rattle.sql_types.specs.declared.event.Event.{Event}
use Rattle.sql_types.specs.declared.journal.JournalItem.TheVariants.{Tx}
use Rattle.sql_types.specs.declared.reply.Reply.{Reply}
use Rattle.spec_model.specs.Catalog.{Tables}
use Rattle.spec_model.specs.Events.{all_events}
use Rattle.spec_model.specs.Journals.{Line, AgreesWith}
use Rattle.spec_model.specs.Replies.{reply_text}
use Rattle.spec_model.specs.Script.{Reading, State, ScriptEnd, start, text_step, script_from, script}
use Rattle.sql_reference.specs.Again.{IsFirst}
use Rattle.sql_reference.specs.RunEnd.{first_difference, left_by, ends_so, judged, run_end}
use Rattle.sql_reference.specs.declared.serial_machine.ReplayAgreement.TheVariants.{Agrees, Differs}

-- ---- lists of replies

as_many : (reads : Reading) (explicit : Bool) (tx : ℕ) (x : State) (texts : List (List ℕ)) → length (script_from reads explicit tx x texts).replies ≡ length texts
unfolding script_from
as_many reads explicit tx x [] = refl
as_many reads explicit tx x (t ∷ ts) = (let rest : length (script_from reads explicit tx (text_step reads explicit tx x t).0 ts).replies ≡ length ts = as_many reads explicit tx (text_step reads explicit tx x t).0 ts in omega (arith, rest))

pub all_same : (n : ℕ) (lines : List Line) (replies : List Reply) → length replies ≡ length lines → first_difference n lines replies ≡ None → map (λ l. l.1) lines ≡ map reply_text replies
all_same n [] [] k e = refl
all_same n [] (r ∷ rs) k e = (let no : suc (length rs) ≡ zero = k in cc)
all_same n (l ∷ ls) [] k e = cc
all_same n (l ∷ ls) (r ∷ rs) k e = here (bytes_eq l.1 (reply_text r)) refl (all_same (n + 1) ls rs (omega (arith, k)))
  where
    here : (b : Bool) → bytes_eq l.1 (reply_text r) ≡ b → (first_difference (n + 1) ls rs ≡ None → map (λ l. l.1) ls ≡ map reply_text rs) → map (λ l. l.1) (l ∷ ls) ≡ map reply_text (r ∷ rs)
    here true h rest = rw ((bytes_eq-Decides l.1 (reply_text r)).0 h, rest (rw h at e)) refl
    here false h rest = (let no : Some n ≡ None = rw h at e in cc)

pub no_difference : (n : ℕ) (lines : List Line) (replies : List Reply) → map (λ l. l.1) lines ≡ map reply_text replies → first_difference n lines replies ≡ None
no_difference n [] replies e = refl
no_difference n (l ∷ ls) [] e = cc
no_difference n (l ∷ ls) (r ∷ rs) e = rw ((bytes_eq-Decides l.1 (reply_text r)).1 cc) (no_difference (n + 1) ls rs cc)

-- where the first difference lies this far on
abbrev Further : ℕ → ℕ → List Line → List Reply → Type 0
Further n found lines replies = (k : ℕ) × (found ≡ n + k) × IsFirst k lines replies

pub first_found : (n found : ℕ) (lines : List Line) (replies : List Reply) → length replies ≡ length lines → first_difference n lines replies ≡ Some found → Further n found lines replies
first_found n found [] replies k e = cc
first_found n found (l ∷ ls) [] k e = (let no : zero ≡ suc (length ls) = k in cc)
first_found n found (l ∷ ls) (r ∷ rs) k e = here (bytes_eq l.1 (reply_text r)) refl (first_found (n + 1) found ls rs (omega (arith, k)))
  where
    later : (h : l.1 ≡ reply_text r) → Further (n + 1) found ls rs → Further n found (l ∷ ls) (r ∷ rs)
    later h (i, is, f) = (suc i, omega (arith, is), record { before = rw (h, f.before) refl; line = f.line; line_is = f.line_is; reply = f.reply; reply_is = f.reply_is; differs = f.differs })

    here : (b : Bool) → bytes_eq l.1 (reply_text r) ≡ b → (first_difference (n + 1) ls rs ≡ Some found → Further (n + 1) found ls rs) → Further n found (l ∷ ls) (r ∷ rs)
    here true h rest = later ((bytes_eq-Decides l.1 (reply_text r)).0 h) (rest (rw h at e))
    here false h rest = (let here : Some n ≡ Some found = rw h at e in let same : found ≡ n = cc in (
      zero,
      omega (arith, same),
      record { before = refl; line = l; line_is = refl; reply = r; reply_is = refl; differs = not_from_Decides (bytes_eq l.1 (reply_text r)) (bytes_eq-Decides l.1 (reply_text r)) h },
    ))

-- ---- how items end

module _ (id : ℕ) (lines : List Line) (o : ScriptEnd) (k : length o.replies ≡ length lines) where
  agreed : (d : Option ℕ) (es : List Event) → ends_so (length lines) d es ≡ Agrees → (d ≡ None) × (es ≢ [])
  agreed None [] e = cc
  agreed None (x ∷ xs) e = (refl, λ empty. cc)
  agreed (Some n) es e = cc

  agrees : first_difference 0 lines o.replies ≡ None → all_events id o.state.tables ≢ [] → judged id lines o ≡ Agrees
  agrees e f = rw e (here (all_events id o.state.tables) f)
    where
      here : (es : List Event) → es ≢ [] → left_by (length lines) es ≡ Agrees
      here [] h = absurd (h refl)
      here (x ∷ xs) h = refl

  differed : (n : ℕ) (d : Option ℕ) (es : List Event) → ends_so (length lines) d es ≡ Differs n → (d ≡ Some n) ⊎ ((d ≡ None) × (es ≡ []) × (length lines ≡ n))
  differed n None [] e = inr (refl, refl, cc)
  differed n None (x ∷ xs) e = cc
  differed n (Some m) es e = inl cc

  pub agreeing : (reads : Reading) (explicit : Bool) (tables : Tables) → judged id lines o ≡ Agrees → AgreesWith reads tables id explicit lines o
  agreeing reads explicit tables e =
      let a = agreed (first_difference 0 lines o.replies) (all_events id o.state.tables) e in
      record { replies = all_same 0 lines o.replies k a.0; events = a.1 }

  pub differing : (n : ℕ) → judged id lines o ≡ Differs n → n < length lines → IsFirst n lines o.replies
  differing n e short = here (differed n (first_difference 0 lines o.replies) (all_events id o.state.tables) e)
    where
      here : (first_difference 0 lines o.replies ≡ Some n) ⊎ ((first_difference 0 lines o.replies ≡ None) × (all_events id o.state.tables ≡ []) × (length lines ≡ n)) → IsFirst n lines o.replies
      here (inl f) = (let found = first_found 0 n lines o.replies k f in let same : found.0 ≡ n = omega (arith, found.1) in subst (λ i. IsFirst i lines o.replies) same found.2)
      here (inr f) = absurd (omega (arith, short, f.2))

  pub left_nothing : judged id lines o ≡ Differs (length lines) → (map (λ l. l.1) lines ≡ map reply_text o.replies) × (all_events id o.state.tables ≡ [])
  left_nothing e = here (differed (length lines) (first_difference 0 lines o.replies) (all_events id o.state.tables) e)
    where
      here : (first_difference 0 lines o.replies ≡ Some (length lines)) ⊎ ((first_difference 0 lines o.replies ≡ None) × (all_events id o.state.tables ≡ []) × (length lines ≡ length lines))
          → (map (λ l. l.1) lines ≡ map reply_text o.replies) × (all_events id o.state.tables ≡ [])
      here (inl f) = (let found = first_found 0 (length lines) lines o.replies k f in let within = slice_get_within lines found.0 found.2.line found.2.line_is in absurd (omega (arith, found.1, within)))
      here (inr f) = (all_same 0 lines o.replies k f.0, f.1)

-- ---- of a transaction

module _ (reads : Reading) (tables : Tables) (id : ℕ) (session : List ℕ) (time : ℕ) (explicit : Bool) (lines : List Line) where
  replies_of : length (script reads explicit tables id (map (λ l. l.0) lines)).replies ≡ length lines
  replies_of = as_many reads explicit id (start tables) (map (λ l. l.0) lines) ∙ length-map lines (λ l. l.0)

  pub agreeing_there : run_end reads tables (Tx id session time explicit lines) ≡ Agrees → AgreesWith reads tables id explicit lines (script reads explicit tables id (map (λ l. l.0) lines))
  unfolding run_end
  agreeing_there e = agreeing id lines (script reads explicit tables id (map (λ l. l.0) lines)) replies_of reads explicit tables e

  pub agreeing_back : AgreesWith reads tables id explicit lines (script reads explicit tables id (map (λ l. l.0) lines)) → run_end reads tables (Tx id session time explicit lines) ≡ Agrees
  unfolding run_end
  agreeing_back a =
      let o : ScriptEnd = script reads explicit tables id (map (λ l. l.0) lines) in
      agrees id lines o replies_of (no_difference 0 lines o.replies a.replies) a.events

  pub first_named : (n : ℕ) → run_end reads tables (Tx id session time explicit lines) ≡ Differs n → n < length lines → IsFirst n lines (script reads explicit tables id (map (λ l. l.0) lines)).replies
  unfolding run_end
  first_named n e short = differing id lines (script reads explicit tables id (map (λ l. l.0) lines)) replies_of n e short

  pub none_named : run_end reads tables (Tx id session time explicit lines) ≡ Differs (length lines)
      → (map (λ l. l.1) lines ≡ map reply_text (script reads explicit tables id (map (λ l. l.0) lines)).replies) × (all_events id (script reads explicit tables id (map (λ l. l.0) lines)).state.tables ≡ [])
  unfolding run_end
  none_named e = left_nothing id lines (script reads explicit tables id (map (λ l. l.0) lines)) replies_of e
