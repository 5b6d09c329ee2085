-- What is found of two receipts is hashed where they are checked.
use Rattle.std.proofs.Common.{◌≡◌, ◌≢◌, ◌⊎◌, ℕ, List, [], ◌∷◌, drop, refl, sym, ◌∙◌, ap, subst, inl, inr}
use Rattle.format_entry.specs.Entry.{entry_bytes}
use Rattle.format_entry.specs.Record.{record_bytes}
use Rattle.sql_types.specs.declared.entry.BlockRecord.{BlockRecord}
use Rattle.sql_types.specs.declared.entry.TxEntry.{TxEntry}
use Rattle.audit_extract.specs.declared.found.Collision.{Collision}
use Rattle.audit_extract.specs.Collisions.{CollideBetween, IsRecordAmong}
use Rattle.audit_paths.specs.Hashed.{IsHashedUnder}
use Rattle.format_receipt.specs.declared.receipt.Receipt.{Receipt}
use Rattle.audit_receipt.specs.Accepted.{StandsIn}
use Rattle.audit_receipt.specs.Hashed.{IsHashedOf, IsHashedTo}
use Rattle.audit_receipt.proofs.Chains.{first_left}

pub found_among : (l : ℕ) (rs : List BlockRecord) (r : BlockRecord) (more : List BlockRecord) (x : List ℕ) → drop l rs ≡ r ∷ more → x ≡ record_bytes r → IsRecordAmong rs x
found_among l rs r more x at is = record { place = l; it = r; there = first_left l rs r more at; is = is }

-- entries whose bytes differ do
pub entries_differ : (e f : TxEntry) (x y : List ℕ) → x ≡ entry_bytes e → y ≡ entry_bytes f → x ≢ y → e ≢ f
entries_differ e f x y x_is y_is ne = λ same. ne (x_is ∙ ap entry_bytes same ∙ sym y_is)

module _ (h : List ℕ → List ℕ) where
  under_is : (m n j k : ℕ) (leaf bytes : List ℕ) (path own : List (List ℕ)) (x : List ℕ) → m ≡ j → n ≡ k → leaf ≡ bytes → path ≡ own → IsHashedUnder h path m n leaf x → IsHashedUnder h own j k bytes x
  under_is m n j k leaf bytes path own x m_is n_is leaf_is path_is on = rw (sym m_is, sym n_is, sym leaf_is, sym path_is) on

  -- the first record, as the code takes it
  way_found : (e : TxEntry) (p : List (List ℕ)) (rs : List BlockRecord) (m size : ℕ) (leaf : List ℕ) (path : List (List ℕ)) (x : List ℕ) → StandsIn h e p rs
      → ((r : BlockRecord) (more : List BlockRecord) → rs ≡ r ∷ more → size ≡ r.size) → m ≡ e.ordinal → leaf ≡ entry_bytes e → path ≡ p → IsHashedUnder h path m size leaf x → IsHashedTo h e p rs x
  way_found e p [] m size leaf path x stands size_is m_is leaf_is path_is on = absurd stands
  way_found e p (r ∷ more) m size leaf path x stands size_is m_is leaf_is path_is on =
      under_is m size e.ordinal r.size leaf (entry_bytes e) path p x m_is (size_is r more refl) leaf_is path_is on

  pub records_settled : (a b : Receipt) (c : Collision) (rs ss : List BlockRecord) → rs ≡ a.records → ss ≡ b.records → CollideBetween h (IsRecordAmong rs) (IsRecordAmong ss) c
      → CollideBetween h (IsHashedOf h a) (IsHashedOf h b) c
  records_settled a b c rs ss rs_are ss_are found = (
    found.0,
    (
      inl (subst (λ (xs : List BlockRecord). IsRecordAmong xs c.first) rs_are found.1.0),
      inl (subst (λ (xs : List BlockRecord). IsRecordAmong xs c.second) ss_are found.1.1),
    ),
  )

  pub paths_settled : (a b : Receipt) (c : Collision) (size : ℕ) (u v : List ℕ) (p q : List (List ℕ)) → StandsIn h a.entry a.path a.records → StandsIn h b.entry b.path b.records
      → a.records ≡ b.records → a.entry.ordinal ≡ b.entry.ordinal → ((r : BlockRecord) (more : List BlockRecord) → a.records ≡ r ∷ more → size ≡ r.size)
      → u ≡ entry_bytes a.entry → v ≡ entry_bytes b.entry → p ≡ a.path → q ≡ b.path
      → CollideBetween h (IsHashedUnder h p a.entry.ordinal size u) (IsHashedUnder h q a.entry.ordinal size v) c → CollideBetween h (IsHashedOf h a) (IsHashedOf h b) c
  paths_settled a b c size u v p q x y same ordinal size_is u_is v_is p_is q_is found = (
    found.0,
    (
      inr (way_found a.entry a.path a.records a.entry.ordinal size u p c.first x size_is refl u_is p_is found.1.0),
      inr (way_found b.entry b.path b.records a.entry.ordinal size v q c.second y
          (subst (λ (rs : List BlockRecord). (r : BlockRecord) (more : List BlockRecord) → rs ≡ r ∷ more → size ≡ r.size) same size_is) ordinal v_is q_is found.1.1),
    ),
  )
