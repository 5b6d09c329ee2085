-- A block that was closed in a shorter journal is closed in each image that has all of its items.
use Rattle.std.proofs.Common.{ℕ, zero, suc, ◌+◌, ◌<◌, ◌≤◌, ◌⊎◌, List, [], ◌∷◌, ◌++◌, length, map, sym, subst, ⊎_elim, arith}
use Rattle.sql_types.specs.declared.digest.Digest.{Digest}
use Rattle.sql_types.specs.declared.journal.JournalItem.{JournalItem}
use Rattle.sql_types.specs.declared.journal.JournalItem.TheVariants.{Tx, Close}
use Rattle.spec_model.specs.Journals.{cut}
use Rattle.spec_history.specs.Digests.{IsDigest}
use Rattle.spec_history.specs.Journals.{blocks}
use Rattle.spec_history.specs.Lists.{Each, Text}
use Rattle.spec_history.specs.Meaning.{Meaning}
use Rattle.spec_history.proofs.Grows.{digest_stays}
use Rattle.spec_syntax.specs.Text.{statement_of}
use Rattle.law_accepts.specs.Held.{AllHeld, IsHeld, held}
use Rattle.law_earlier_digests.specs.Earlier.{IsClosedIn, IsEarlier, IsOfIts}

blocks_front : (P K : List JournalItem) (m : ℕ) → length P ≤ m → blocks P ≤ blocks (cut (P ++ K) m)
blocks_front [] K m l = omega arith
blocks_front (i ∷ P) K zero l = absurd (omega (arith, l))
blocks_front (Tx id session time explicit lines ∷ P) K (suc m) l = blocks_front P K m (omega (arith, l))
blocks_front (Close k ∷ P) K (suc m) l = let rest = blocks_front P K m (omega (arith, l)) in omega (arith, rest)

module _ (h : List ℕ → List ℕ) (q : Meaning) (database : Text) (J : List JournalItem) (m : ℕ)
    (agreed : (d : Digest) → IsDigest q database J d → d.block < blocks (cut J m) → IsHeld h statement_of database (cut J m) (held d)) where
  closed_now : (d : Digest) → IsEarlier q database J m d → IsClosedIn q database J m d
  closed_now d e = (
    subst (λ (K : List JournalItem). IsDigest q database K d) (sym e.begins) (digest_stays q database e.front e.rest d e.closed e.digest),
    subst (λ (K : List JournalItem). d.block < blocks (cut K m)) (sym e.begins) (let more = blocks_front e.front e.rest m e.within in let less = e.closed in omega (arith, more, less)),
  )

  one_held : (d : Digest) → IsOfIts q database J m d → IsHeld h statement_of database (cut J m) (held d)
  one_held d o = ⊎_elim
      (λ (e : IsEarlier q database J m d). let c = closed_now d e in agreed d c.0 c.1)
      (λ (c : IsClosedIn q database J m d). agreed d c.0 c.1) o

  pub all_held : (digests : List Digest) → Each (IsOfIts q database J m) digests → AllHeld h statement_of database (cut J m) (map held digests)
  all_held [] e = tt
  all_held (d ∷ ds) e = (one_held d e.0, all_held ds e.1)
