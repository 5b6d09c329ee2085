-- The parts of a visit of the catalog's cell, from what the calls of the cell say.
use Rattle.std.proofs.Common.{◌≡◌, ◌⊎◌, ℕ, Bool, List, [], ◌∷◌, Ok, Err, IfErr, refl, sym, ap, ◌∙◌, subst, inl, inr, ⊎_elim}
use Rattle.std.specs.Prelude.{IsErrAnd}
use Rattle.sql_value.specs.declared.refusal.Refusal.{Refusal}
use Rattle.sql_value.specs.declared.refusal.Refusal.TheVariants.{NoMemory}
use Rattle.sql_types.specs.declared.lock.Mode.{Mode}
use Rattle.sql_types.specs.declared.reply.Reply.TheVariants as reply
use Rattle.spec_model.specs.Locks.{whole}
use Rattle.spec_model.specs.Refusals.{Checked}
use Rattle.server_session.specs.Cells.{CatalogCell, catalog_at}
use Rattle.server_session.specs.Doing.{Stopped, no_memory}
use Rattle.server_session.specs.Moves.{put_in}
use Rattle.server_session.specs.Seats.{OpenTransaction}
use Rattle.server_session.specs.Represents.{Represents}
use Rattle.server_session.specs.Context.{TxCtx}
use Rattle.store_catalog.specs.Calls.{left}
use Rattle.server_visit_catalog.specs.InCatalog.{with_visited, GoesAgain, IsRefused, IsSame, KeepsLock}
use Rattle.server_session.specs.VisitedCells.{VisitedCells}
use Rattle.server_session.specs.declared.running.Running.{Running}
use Rattle.server_session.specs.declared.stage.Stage.{Stage}

-- ---- the lock

pub no_room : {H : Type 0} (digest : H → List ℕ → List ℕ) (ctx : TxCtx H) (c : CatalogCell) (mode : Mode) (m : Checked Bool) → IsErrAnd m (λ y. y ≡ NoMemory)
    → IfErr m (λ e. (h : H) (o : OpenTransaction) → Represents digest h ctx o → Stopped c.holds o.id (whole mode ∷ []) (reply.Refused e))
no_room digest ctx c mode (Ok x) k = absurd k
no_room digest ctx c mode (Err y) k = λ h o r. subst (λ (e : Refusal). Stopped c.holds o.id (whole mode ∷ []) (reply.Refused e)) (sym k) no_memory

-- ---- the same transaction

module _ {H : Type 0} (digest : H → List ℕ → List ℕ) where
  pub same_visited : (r q : Running H) (v : VisitedCells) → q ≡ with_visited v r → IsSame digest r q
  same_visited r q v e = record {
    context = λ h o p. subst (λ (x : Running H). Represents digest h x.context o) (sym e) p;
    script = ap (λ (x : Running H). x.script) e;
    explicit = ap (λ (x : Running H). x.explicit) e;
    end = ap (λ (x : Running H). x.end) e;
  }

  pub same_both : (r p q : Running H) → IsSame digest r p → IsSame digest p q → IsSame digest r q
  same_both r p q a b = record {
    context = λ h o k. b.context h o (a.context h o k);
    script = b.script ∙ a.script;
    explicit = b.explicit ∙ a.explicit;
    end = b.end ∙ a.end;
  }

  -- ---- creating

  -- with another context of the same transaction
  abbrev pub with_context : TxCtx H → Running H → Running H
  with_context ctx r = record { context = ctx; script = r.script; visited = r.visited; explicit = r.explicit; end = r.end }

  pub same_context : (r q : Running H) (ctx : TxCtx H) → q ≡ with_context ctx r → ((h : H) (o : OpenTransaction) → Represents digest h r.context o → Represents digest h ctx o) → IsSame digest r q
  same_context r q ctx e k = record {
    context = λ h o p. subst (λ (x : Running H). Represents digest h x.context o) (sym e) (k h o p);
    script = ap (λ (x : Running H). x.script) e;
    explicit = ap (λ (x : Running H). x.explicit) e;
    end = ap (λ (x : Running H). x.end) e;
  }

  -- what comes of a refusal counts from before the lock
  pub refused_since : (r p q : Running H) (c d : CatalogCell) (e : Refusal) (stage : Stage) → IsSame digest r p → p.visited.left ≡ r.visited.left → IsRefused digest e p c q d stage → IsRefused digest e r c q d stage
  refused_since r p q c d e stage same left k = record {
    same = same_both r p q same k.same;
    how = ⊎_elim
        (λ (g : GoesAgain digest p c q d stage). inl (record { cell = λ h o w. g.cell h o (same.context h o w); left = g.left ∙ left; stage_is = g.stage_is }))
        (λ (g : KeepsLock e p c q d stage). inr (record { cell = g.cell; visited = g.visited ∙ ap (put_in catalog_at) left; not_memory = g.not_memory; stage_is = g.stage_is }))
        k.how;
  }

  pub refused_then : (r l q : Running H) (ctx : TxCtx H) (c u d : CatalogCell) (e : Refusal) (stage : Stage) → l ≡ with_visited l.visited r → l.visited.left ≡ r.visited.left
      → ((h : H) (o : OpenTransaction) → Represents digest h l.context o → Represents digest h ctx o) → u ≡ c → IsRefused digest e (with_context ctx l) u q d stage → IsRefused digest e r c q d stage
  refused_then r l q ctx c u d e stage is left context cell k = refused_since r (with_context ctx l) q c d e stage
      (same_both r l (with_context ctx l) (same_visited r l l.visited is) (same_context l (with_context ctx l) ctx refl context)) left
      (subst (λ (x : CatalogCell). IsRefused digest e (with_context ctx l) x q d stage) cell k)
