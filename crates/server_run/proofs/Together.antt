-- What the sessions of a part of a plan wrote, and those of two parts.
use Rattle.std.proofs.Common.{◌≡◌, ℕ, List, [], ◌∷◌, ◌++◌, map, sym, ap, ap₂, subst, ◌∙◌, append_assoc, ⊎_elim}
use Rattle.spec_history.specs.Lists.{Text, In}
use Rattle.spec_history.specs.Transcripts.{Transcript}
use Rattle.spec_history.proofs.Settles.{in_append, in_left, in_right}
use Rattle.spec_history.proofs.Trace.{each_append, each_weaker}
use Rattle.format_sections.specs.declared.section.Section.{Section}
use Rattle.format_sections.specs.RunSections.{section_view, statements_answered, statements_run}
use Rattle.law_snapshots.specs.Answered.{AreAnsweredBehind}
use Rattle.spec_protocol.specs.Seats.{idle, IsAtRest, joined, kept, split, Role, SeatState, Written}
use Rattle.server_thread.specs.Seated.{all_known, known_by, known_in}
use Rattle.server_run.specs.AllWrote.{AreWritten, HaveWritten, BeganAfterAll}
use Rattle.server_thread.specs.Wrote.{HasWritten, IsWritten}
use Rattle.server_thread.specs.SessionEnd.{SessionEnd}

-- ---- what is known

pub is_at_rest : (s : SeatState) → s.role ≡ idle → IsAtRest s.role
is_at_rest s role = subst IsAtRest (sym role) tt

pub idle_knows : (s : SeatState) → s.role ≡ idle → known_by s ≡ all_known s
idle_knows s role = ap (λ (r : Role). known_in r (all_known s)) role

-- a new seat knows all that its parent knows
pub split_knows : (s : SeatState) (n : ℕ) → s.role ≡ idle → (x : Transcript) → In x (known_by s) → In x (known_by (split s n))
split_knows s n role x i = let all = map (λ (w : Written). w.transcript) s.written in
    in_left x (all ++ s.earlier) [] (⊎_elim (λ (a : In x s.earlier). in_right x all s.earlier a) (λ (b : In x all). in_left x all s.earlier b)
    (in_append x s.earlier all (subst (In x) (idle_knows s role) i)))

module _ (says : ℕ → Type 0) where
  are_both : (ps qs : List Section) (es fs : List SessionEnd) (vs ws : List Written) → AreWritten says ps es vs → AreWritten says qs fs ws → AreWritten says (ps ++ qs) (es ++ fs) (vs ++ ws)
  are_both [] qs [] fs [] ws a b = b
  are_both (p ∷ ps) qs (e ∷ es) fs (v ∷ vs) ws a b = (a.0, are_both ps qs es fs vs ws a.1 b)
  are_both [] qs [] fs (v ∷ vs) ws a b = absurd a
  are_both [] qs (e ∷ es) fs vs ws a b = absurd a
  are_both (p ∷ ps) qs [] fs vs ws a b = absurd a
  are_both (p ∷ ps) qs (e ∷ es) fs [] ws a b = absurd a

  -- ---- of one

  pub have_one : (p : Section) (texts : List Text) (left e : SessionEnd) (s t : SeatState) → texts ≡ statements_run (section_view p)
      → HasWritten says p.name.now texts left (known_by s) s.written t → e.images ≡ left.images
      → AreAnsweredBehind p.name.now (statements_answered (section_view p)) left.images left.entries e.entries → HaveWritten says (p ∷ []) (e ∷ []) s t
  have_one p texts left e s t same h images answered = record {
    rests = is_at_rest t h.role;
    ws = h.w ∷ [];
    wrote = h.wrote;
    are = (
      record {
        left = left;
        is = subst (λ (ts : List Text). IsWritten says p.name.now ts left h.w) same h.is;
        images = images;
        answered = answered;
      },
      tt,
    );
    knew = (λ x i. subst (In x) (sym h.earlier) i, tt);
  }

  -- ---- of two parts

  pub have_both : (ps qs : List Section) (es fs : List SessionEnd) (s : SeatState) (n : ℕ) (a b : SeatState) → s.role ≡ idle
      → HaveWritten says ps es (kept s n) a → HaveWritten says qs fs (split s n) b → HaveWritten says (ps ++ qs) (es ++ fs) s (joined a b)
  have_both ps qs es fs s n a b role x y = record {
    rests = x.rests;
    ws = x.ws ++ y.ws;
    wrote = ap₂ (λ (v w : List Written). v ++ w) x.wrote y.wrote ∙ append_assoc s.written x.ws y.ws;
    are = are_both ps qs es fs x.ws y.ws x.are y.are;
    knew = each_append (BeganAfterAll (known_by s)) x.ws y.ws x.knew
        (each_weaker (BeganAfterAll (known_by (split s n))) (BeganAfterAll (known_by s)) (λ w k t i. k t (split_knows s n role t i)) y.ws y.knew);
  }

  -- a plan in two parts, and a seat that was split for them and is one again
  pub have_united : (all ps qs : List Section) (ends es fs : List SessionEnd) (s : SeatState) (n : ℕ) (mine theirs a b t : SeatState) → s.role ≡ idle
      → ps ++ qs ≡ all → ends ≡ es ++ fs → mine ≡ kept s n → theirs ≡ split s n → t ≡ joined a b
      → HaveWritten says ps es mine a → HaveWritten says qs fs theirs b → HaveWritten says all ends s t
  have_united all ps qs ends es fs s n mine theirs a b t role whole ends_are first second state x y =
      subst (λ (u : SeatState). HaveWritten says all ends s u) (sym state)
      (subst (λ (l : List SessionEnd). HaveWritten says all l s (joined a b)) (sym ends_are)
      (subst (λ (l : List Section). HaveWritten says l (es ++ fs) s (joined a b)) whole
      (have_both ps qs es fs s n a b role
      (subst (λ (u : SeatState). HaveWritten says ps es u a) first x) (subst (λ (u : SeatState). HaveWritten says qs fs u b) second y))))
