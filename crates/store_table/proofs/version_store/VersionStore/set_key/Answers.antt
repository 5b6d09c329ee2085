use Rattle.std.proofs.Common.{arith, ◌≡◌, ap, subst, ◌∙◌, length, List, ℕ, inl, inr}
use Rattle.spec_model.specs.Keys.{key_places}
use Rattle.store_table.specs.Stored.{ReservedTable, Stored, with_versions}
use Rattle.store_table.proofs.Steps.{empty_is, followed, other_key, stored_of}
use Rattle.store_table.proofs.version_store.VersionStore.set_key.Goals as goal

pub returns-then-len-gt0-clause-ok : goal.returns-then-len-gt0-clause-ok
returns-then-len-gt0-clause-ok c =
    let s = c.self.inside in
    let old = c.args.self.now.stored in
    let seen = ap (λ (t : ReservedTable). t.stored) c.self.view_is in
    let long = ap (λ (t : Stored). length t.versions) seen in
    elim c.requires [
      | inl none ↦ (let zero = ap length none in absurd (omega (arith, long, zero, c.len.ensures, c.if-len-gt0.true, s.versions.ok.0)))
      | inr same ↦ followed s.key.items s.versions.items s.orders old seen c.self.invariant.0 ∙ ap (λ (k : List ℕ). with_versions k old.versions old) same
    ]

pub invariant_of-self : goal.invariant_of-self
invariant_of-self c =
    let s = c.self.inside in
    let none = empty_is s.versions.items (omega (arith, c.len.ensures, c.if-len-gt0.false, s.versions.ok.0)) in
    let others = other_key s.key.items c.in_ok-self-inside.field-0.items s.versions.items s.orders none c.self.invariant.0 in
    (others.0, c.self.invariant.1, c.self.invariant.2)

pub returns-clause-ok : goal.returns-clause-ok
returns-clause-ok c =
    let s = c.self.inside in
    let vs = s.versions.items in
    let none = empty_is vs (omega (arith, c.len.ensures, c.if-len-gt0.false, s.versions.ok.0)) in
    let places = c.in_ok-self-inside.field-0.items in
    let others = other_key s.key.items places vs s.orders none c.self.invariant.0 in
    subst (λ (t : Stored). stored_of places vs s.orders ≡ with_versions (key_places c.args.columns.now) t.versions t) (ap (λ (t : ReservedTable). t.stored) c.self.view_is)
    (others.1 ∙ ap (λ (k : List ℕ). with_versions k vs (stored_of s.key.items vs s.orders)) c.in_ok-self-inside.ensures)
