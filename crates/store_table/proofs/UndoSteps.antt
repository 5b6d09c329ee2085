-- Undo, event after event.
use Rattle.std.proofs.Common.{◌≡◌, ◌<◌, ◌+◌, ℕ, zero, suc, refl, sym, ap, subst, ◌∙◌, List, [], ◌∷◌, ◌++◌, length, get_or, Option, Some, None, arith}
use Rattle.std.specs.Prelude.{slice_set}
use Rattle.std.specs.List.{HoldsAt, remove}
use Rattle.std.proofs.lemmas.List.Edits.{length-remove}
use Rattle.sql_types.specs.declared.version.Version.{Version}
use Rattle.spec_model.specs.Rows.{EventId}
use Rattle.spec_model.specs.Undo.{versions_undone}
use Rattle.store_table.specs.declared.ending.Ending.{Ending}
use Rattle.store_table.specs.Ends.{own_ending, endings_of}
use Rattle.store_table.specs.Stored.{Stored, ReservedTable, with_versions}
use Rattle.store_table.specs.Undoing.{without_end, EndsUndone, StartsUndone, NoEndUndone, NoStartUndone}
use Rattle.store_table.proofs.Keeping.{follows_on, with_twice}
use Rattle.store_table.proofs.Undone.{undone_without, undone_gone, none_left}

no_version : Version
no_version = record { values = []; start = (0, 0); end = None }

-- what is to be undone is the same
pub record Undoing (tx seq : ℕ) (was now : ReservedTable) : Type 0 where
  pub stored : now.stored ≡ with_versions was.stored.key now.stored.versions was.stored
  pub left : versions_undone tx seq now.stored.versions ≡ versions_undone tx seq was.stored.versions
  pub room : now.room ≡ was.room

pub undoing_first : (tx seq : ℕ) (was : ReservedTable) → was.stored ≡ with_versions was.stored.key was.stored.versions was.stored → Undoing tx seq was was
undoing_first tx seq was follows = record { stored = follows; left = refl; room = refl }

own_more : (o : Option EventId) (start : EventId) (es fs : List Ending) → length es + 1 ≡ length fs → length (own_ending o start ++ es) + 1 ≡ length (own_ending o start ++ fs)
own_more None start es fs h = h
own_more (Some e) start es fs h = omega (arith, h)

one_end_less : (vs : List Version) (p : ℕ) (end : EventId) (d : Version) → p < length vs → HoldsAt (λ v. v.end ≡ Some end) vs p
    → length (endings_of (slice_set vs p (without_end (get_or vs p d)))) + 1 ≡ length (endings_of vs)
one_end_less [] p end d inside ended = absurd (omega (arith, inside))
one_end_less (v ∷ vs) zero end d inside ended = rw (ended v) (omega arith)
one_end_less (v ∷ vs) (suc p) end d inside ended =
    own_more v.end v.start (endings_of (slice_set vs p (without_end (get_or vs p d)))) (endings_of vs) (one_end_less vs p end d (omega (arith, inside)) ended)

module _ (tx seq : ℕ) (was now new : ReservedTable) (p : ℕ) (h : Undoing tx seq was now) (room : new.room ≡ now.room) where
  module _ (one : EndsUndone tx seq now.stored.versions p)
      (stored : (d : Version) → new.stored ≡ with_versions now.stored.key (slice_set now.stored.versions p (without_end (get_or now.stored.versions p d))) now.stored) where
    versions_without : new.stored.versions ≡ slice_set now.stored.versions p (without_end (get_or now.stored.versions p no_version))
    versions_without = ap (λ (s : Stored). s.versions) (stored no_version)

    pub undoing_end : Undoing tx seq was new
    undoing_end = record {
      stored = follows_on was.stored now.stored new.stored (slice_set now.stored.versions p (without_end (get_or now.stored.versions p no_version))) h.stored (stored no_version);
      left = ap (versions_undone tx seq) versions_without
          ∙ undone_without tx seq now.stored.versions p no_version one.end one.within one.ended one.undone
          ∙ h.left;
      room = room ∙ h.room;
    }

    pub fewer_ends : length (endings_of new.stored.versions) < length (endings_of now.stored.versions)
    fewer_ends =
        let less = one_end_less now.stored.versions p one.end no_version one.within one.ended in
        let here = ap (λ l. length (endings_of l)) versions_without in
        omega (arith, less, here)

  module _ (one : StartsUndone tx seq now.stored.versions p) (stored : new.stored ≡ with_versions now.stored.key (remove now.stored.versions p) now.stored) where
    versions_gone : new.stored.versions ≡ remove now.stored.versions p
    versions_gone = ap (λ (s : Stored). s.versions) stored

    pub undoing_start : Undoing tx seq was new
    undoing_start = record {
      stored = follows_on was.stored now.stored new.stored (remove now.stored.versions p) h.stored stored;
      left = ap (versions_undone tx seq) versions_gone ∙ undone_gone tx seq now.stored.versions p one.within one.undone ∙ h.left;
      room = room ∙ h.room;
    }

    pub fewer_versions : length new.stored.versions < length now.stored.versions
    fewer_versions =
        let less = length-remove now.stored.versions p one.within in
        let here = ap length versions_gone in
        omega (arith, less, here)

    pub ends_stay : NoEndUndone tx seq now.stored.versions → NoEndUndone tx seq new.stored.versions
    ends_stay none = subst (NoEndUndone tx seq) (sym versions_gone) (all_removed now.stored.versions p none)
      where
        all_removed : (vs : List Version) (p : ℕ) → NoEndUndone tx seq vs → NoEndUndone tx seq (remove vs p)
        all_removed [] zero h = tt
        all_removed [] (suc p) h = tt
        all_removed (v ∷ vs) zero h = h.1
        all_removed (v ∷ vs) (suc p) h = (h.0, all_removed vs p h.1)

pub undone_all : (tx seq : ℕ) (was now : ReservedTable) → Undoing tx seq was now → NoEndUndone tx seq now.stored.versions → NoStartUndone tx seq now.stored.versions
    → now.stored ≡ with_versions was.stored.key (versions_undone tx seq was.stored.versions) was.stored
undone_all tx seq was now h ends starts =
    h.stored ∙ ap (λ (l : List Version). with_versions was.stored.key l was.stored) (sym (none_left tx seq now.stored.versions ends starts) ∙ h.left)

pub undone_both : (tx seq : ℕ) (was mid now : Stored) → mid ≡ with_versions was.key mid.versions was → versions_undone tx seq mid.versions ≡ versions_undone tx seq was.versions
    → now ≡ with_versions mid.key (versions_undone tx seq mid.versions) mid → now ≡ with_versions was.key (versions_undone tx seq was.versions) was
undone_both tx seq was mid now first left next =
    next
    ∙ ap (λ (k : List ℕ). with_versions k (versions_undone tx seq mid.versions) mid) (ap (λ (s : Stored). s.key) first)
    ∙ ap (λ (l : List Version). with_versions was.key l mid) left
    ∙ ap (with_versions was.key (versions_undone tx seq was.versions)) first
    ∙ with_twice was.key (versions_undone tx seq was.versions) mid.versions was
