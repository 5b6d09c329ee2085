-- A journal is legal by a meaning exactly where it is by the meaning of statements.
use Rattle.std.proofs.Common.{◌≡◌, ◌≢◌, ◌↔◌, ℕ, suc, ◌+◌, ◌-◌, ◌<◌, ◌≤◌, Bool, List, [], ◌∷◌, ◌++◌, length, refl, sym, ◌∙◌, subst, arith}
use Rattle.std.specs.List.{AllByRecursion}
use Rattle.sql_types.specs.declared.event.Event.{Event}
use Rattle.sql_types.specs.declared.journal.JournalItem.{JournalItem}
use Rattle.sql_types.specs.declared.journal.JournalItem.TheVariants.{Tx, Close}
use Rattle.spec_model.specs.Catalog.{Tables}
use Rattle.spec_model.specs.Journals as model
use Rattle.spec_model.specs.Journals.{Line, tx_count, closed, IsOther}
use Rattle.spec_model.specs.Script.{Reading, script}
use Rattle.spec_model.specs.SystemTables.{first_tables}
use Rattle.spec_history.proofs.Alls.{all_append}
use Rattle.spec_history.proofs.LegalRules.{count_append, closed_append}
use Rattle.spec_history.proofs.LegalSound.{first_part, last_one}
use Rattle.spec_history.specs.Lists.{Each}
use Rattle.spec_history.specs.Journals.{ids_of}
use Rattle.spec_history.specs.Meaning.{Meaning}
use Rattle.spec_history.specs.Real.{Hashing, IsReal}
use Rattle.spec_history.specs.Serial.{texts_of, after_item, ScriptReplays, Replays, ClosesPending, Differ, IsLegal}

some_events : (es : List Event) → es ≢ [] → 0 < length es
some_events [] h = absurd (h refl)
some_events (e ∷ es) h = omega arith

no_events : (es : List Event) → 0 < length es → es ≢ []
no_events [] h e = absurd (omega (arith, h))
no_events (x ∷ es) h e = absurd cc

-- none of these ids is of a transaction before
abbrev AreNew : List JournalItem → List ℕ → Type 0
AreNew before ids = Each (λ id. AllByRecursion (IsOther id) before) ids

newer : (before : List JournalItem) (item : JournalItem) (ids : List ℕ) → AreNew before ids → Each (λ id. IsOther id item) ids → AreNew (before ++ item ∷ []) ids
newer before item [] h k = tt
newer before item (id ∷ ids) h k = (all_append (IsOther id) before (item ∷ []) h.0 (k.0, tt), newer before item ids h.1 k.1)

older : (before : List JournalItem) (item : JournalItem) (ids : List ℕ) → AreNew (before ++ item ∷ []) ids → AreNew before ids × Each (λ id. IsOther id item) ids
older before item [] h = (tt, tt)
older before item (id ∷ ids) h =
    let rest = older before item ids h.1 in
    ((first_part (IsOther id) before (item ∷ []) h.0, rest.0), (last_one (IsOther id) before item h.0, rest.1))

other_closing : (k : ℕ) (ids : List ℕ) → Each (λ id. IsOther id (Close k)) ids
other_closing k [] = tt
other_closing k (id ∷ ids) = (tt, other_closing k ids)

module _ (reads : Reading) (h : Hashing) (q : Meaning) (real : IsReal reads h q) where
  agrees : (T : Tables) (id : ℕ) (explicit : Bool) (lines : List Line) → ScriptReplays q T id explicit lines
      → model.AgreesWith reads T id explicit lines (script reads explicit T id (texts_of lines))
  agrees T id explicit lines a = record {
    replies = a.replies ∙ real.replies explicit T id (texts_of lines);
    events = no_events _ (subst (λ n. 0 < n) (real.events explicit T id (texts_of lines)) a.acts);
  }

  agrees_back : (T : Tables) (id : ℕ) (explicit : Bool) (lines : List Line) → model.AgreesWith reads T id explicit lines (script reads explicit T id (texts_of lines))
      → ScriptReplays q T id explicit lines
  agrees_back T id explicit lines a = record {
    replies = a.replies ∙ sym (real.replies explicit T id (texts_of lines));
    acts = subst (λ n. 0 < n) (sym (real.events explicit T id (texts_of lines))) (some_events _ a.events);
  }

  after_same : (T : Tables) (item : JournalItem) → after_item q T item ≡ model.after_item reads T item
  after_same T (Tx id session time explicit lines) = real.after explicit T id (texts_of lines)
  after_same T (Close k) = refl

  -- what stands behind `before`, where so many are pending
  pub record Follows (before : List JournalItem) (pending : ℕ) (T : Tables) (items : List JournalItem) : Type 0 where
    pub replays : Replays q T items
    pub news : AreNew before (ids_of items)
    pub differ : Differ (ids_of items)
    pub closings : ClosesPending pending items

  there : (before : List JournalItem) (pending : ℕ) (T : Tables) (items : List JournalItem) → closed before + pending ≡ tx_count before
      → Follows before pending T items → model.IsLegalFrom reads before T items
  there before pending T [] at f = tt
  there before pending T (Tx id session time explicit lines ∷ is) at f =
      let item = Tx id session time explicit lines in (
        (agrees T id explicit lines f.replays.0, f.news.0),
        there (before ++ item ∷ []) (suc pending) (model.after_item reads T item) is
            (omega (arith, at, count_append before (item ∷ []), closed_append before (item ∷ [])))
            (record {
              replays = subst (λ U. Replays q U is) (after_same T item) f.replays.1;
              news = newer before item (ids_of is) f.news.1 f.differ.0;
              differ = f.differ.1;
              closings = f.closings;
            }),
      )
  there before pending T (Close k ∷ is) at f =
      let some = f.closings.0 in
      let most = f.closings.1 in
      let few = f.closings.2 in (
        (some, most, omega (arith, at, few)),
        there (before ++ Close k ∷ []) (pending - k) T is
            (omega (arith, at, few, count_append before (Close k ∷ []), closed_append before (Close k ∷ [])))
            (record {
              replays = f.replays.1;
              news = newer before (Close k) (ids_of is) f.news (other_closing k (ids_of is));
              differ = f.differ;
              closings = f.closings.3;
            }),
      )

  back : (before : List JournalItem) (pending : ℕ) (T : Tables) (items : List JournalItem) → closed before + pending ≡ tx_count before
      → model.IsLegalFrom reads before T items → Follows before pending T items
  back before pending T [] at l = record { replays = tt; news = tt; differ = tt; closings = tt }
  back before pending T (Tx id session time explicit lines ∷ is) at l =
      let item = Tx id session time explicit lines in
      let rest = back (before ++ item ∷ []) (suc pending) (model.after_item reads T item) is
      (omega (arith, at, count_append before (item ∷ []), closed_append before (item ∷ []))) l.1 in
      let split = older before item (ids_of is) rest.news in
      record {
        replays = (agrees_back T id explicit lines l.0.0, subst (λ U. Replays q U is) (sym (after_same T item)) rest.replays);
        news = (l.0.1, split.0);
        differ = (split.1, rest.differ);
        closings = rest.closings;
      }
  back before pending T (Close k ∷ is) at l =
      let within = l.0.2 in
      let few : k ≤ pending = omega (arith, at, within) in
      let rest = back (before ++ Close k ∷ []) (pending - k) T is
      (omega (arith, at, few, count_append before (Close k ∷ []), closed_append before (Close k ∷ []))) l.1 in
      record {
        replays = (tt, rest.replays);
        news = (older before (Close k) (ids_of is) rest.news).0;
        differ = rest.differ;
        closings = (l.0.0, l.0.1, few, rest.closings);
      }

  none_before : (ids : List ℕ) → AreNew [] ids
  none_before [] = tt
  none_before (id ∷ ids) = (tt, none_before ids)

  pub one_legality : (J : List JournalItem) → IsLegal q J ↔ model.IsLegal reads J
  one_legality J = (
    λ l. there [] 0 first_tables J refl (record {
      replays = subst (λ U. Replays q U J) real.first l.replays;
      news = none_before (ids_of J);
      differ = l.ids_differ;
      closings = l.closings;
    }),
    λ l.
        let f = back [] 0 first_tables J refl l in
        record { replays = subst (λ U. Replays q U J) (sym real.first) f.replays; ids_differ = f.differ; closings = f.closings },
  )
