-- Two lists of records that lead from one block to one digest, from the last record down; and two receipts.
use Rattle.std.proofs.Common.{◌≡◌, ◌≢◌, ◌≤◌, ◌<◌, ◌+◌, ◌-◌, ◌^◌, ℕ, zero, suc, List, [], ◌∷◌, length, take, drop, Some, refl, arith, sym, ◌∙◌, ap, subst}
use Rattle.std.specs.List.{AllByRecursion}
use Rattle.std.proofs.lemmas.List.{take_all}
use Rattle.format_entry.specs.Entry.{entry_bytes, IsEntry}
use Rattle.format_entry.specs.Record.{record_bytes, IsRecord}
use Rattle.format_entry.proofs.EntryExact.{equal_entries}
use Rattle.format_entry.proofs.RecordExact.{equal_records}
use Rattle.sql_types.specs.declared.digest.HeldDigest.{HeldDigest}
use Rattle.sql_types.specs.declared.entry.BlockRecord.{BlockRecord}
use Rattle.sql_types.specs.declared.entry.TxEntry.{TxEntry}
use Rattle.spec_ledger.specs.Blocks.{no_hash, record_hash, last_hash}
use Rattle.spec_verify.specs.Collision.{Collides}
use Rattle.audit_extract.proofs.Lists.{cons_is, all_left}
use Rattle.audit_paths.specs.Path.{root_under, HaveOneRoot}
use Rattle.audit_receipt.specs.Accepted.{AreLinked, LeadTo, StandsIn}
use Rattle.audit_receipt.proofs.Chains.{last_of_taken}

-- ---- records

-- two lists that agree from place k on, and whose records before it have one hash
pub record Level (h : List ℕ → List ℕ) (a b : List BlockRecord) (k : ℕ) : Type 0 where
  pub count : length a ≡ length b
  pub place : k ≤ length a
  pub after : drop k a ≡ drop k b
  pub hash : last_hash h no_hash (take k a) ≡ last_hash h no_hash (take k b)

all_dropped : (n : ℕ) (rs : List BlockRecord) → length rs ≤ n → drop n rs ≡ []
all_dropped zero [] le = refl
all_dropped zero (r ∷ rs) le = absurd (omega (arith, le))
all_dropped (suc n) [] le = refl
all_dropped (suc n) (r ∷ rs) le = all_dropped n rs (omega (arith, le))

module _ (h : List ℕ → List ℕ) where
  pub level_start : (n : ℕ) (a b : List BlockRecord) (d : HeldDigest) → LeadTo h n a d → LeadTo h n b d → Level h a b (length a)
  level_start n a b d x y =
      let count : length a ≡ length b = omega (arith, x.reach, y.reach) in
      let le : length b ≤ length a = omega (arith, count) in
      record {
        count = count;
        place = omega arith;
        after = all_dropped (length a) a (omega arith) ∙ sym (all_dropped (length a) b le);
        hash = ap (last_hash h no_hash) (take_all (length a) a (omega arith)) ∙ x.hash ∙ sym y.hash ∙ sym (ap (last_hash h no_hash) (take_all (length a) b le));
      }

  -- a record that isn't the first keeps the hash of those before it
  keeps : (n m : ℕ) (p : List ℕ) (rs : List BlockRecord) (x : BlockRecord) (more : List BlockRecord) → AreLinked h n rs → drop (suc m) rs ≡ x ∷ more → x.previous ≡ last_hash h p (take (suc m) rs)
  keeps n m p [] x more linked e = cc
  keeps n zero p (r ∷ []) x more linked e = cc
  keeps n zero p (r ∷ s ∷ rs) x more linked e = ap (λ (y : BlockRecord). y.previous) (sym (cons_is s x rs more e).0) ∙ linked.1
  keeps n (suc m) p (r ∷ rs) x more linked e = keeps (n + 1) m (record_hash h r) rs x more linked.2 e

  before : (n k : ℕ) (p : List ℕ) (a b : List BlockRecord) (x y : BlockRecord) (xs ys : List BlockRecord) → AreLinked h n a → AreLinked h n b → drop k a ≡ x ∷ xs → drop k b ≡ y ∷ ys → x ≡ y
      → last_hash h p (take k a) ≡ last_hash h p (take k b)
  before n zero p a b x y xs ys la lb at_x at_y same = refl
  before n (suc m) p a b x y xs ys la lb at_x at_y same =
      sym (keeps n m p a x xs la at_x) ∙ ap (λ (r : BlockRecord). r.previous) same ∙ keeps n m p b y ys lb at_y

  pub one_less : (n k l : ℕ) (a b : List BlockRecord) (d : HeldDigest) (x y : BlockRecord) → LeadTo h n a d → LeadTo h n b d → 0 < k → l ≡ k - 1 → Level h a b k
      → drop l a ≡ x ∷ drop (l + 1) a → drop l b ≡ y ∷ drop (l + 1) b → x ≡ y → Level h a b l
  one_less n k l a b d x y la lb some is v at_x at_y same =
      let back : l + 1 ≡ k = omega (arith, some, is) in
      let rest : drop (l + 1) a ≡ drop (l + 1) b = subst (λ (m : ℕ). drop m a ≡ drop m b) (sym back) v.after in
      record {
        count = v.count;
        place = omega (arith, some, is, v.place);
        after = at_x ∙ ap (λ (r : BlockRecord). r ∷ drop (l + 1) a) same ∙ ap (λ (rs : List BlockRecord). y ∷ rs) rest ∙ sym at_y;
        hash = before n l no_hash a b x y (drop (l + 1) a) (drop (l + 1) b) la.linked lb.linked at_x at_y same;
      }

  pub records_collide : (k l : ℕ) (a b : List BlockRecord) (x y : BlockRecord) (u v : List ℕ) → AllByRecursion IsRecord a → AllByRecursion IsRecord b → 0 < k → l ≡ k - 1 → Level h a b k
      → drop l a ≡ x ∷ drop (l + 1) a → drop l b ≡ y ∷ drop (l + 1) b → x ≢ y → u ≡ record_bytes x → v ≡ record_bytes y → Collides h u v
  records_collide k l a b x y u v fa fb some is level at_x at_y ne u_is v_is =
      let next : suc l ≡ k = omega (arith, some, is) in
      let hash_x : last_hash h no_hash (take k a) ≡ record_hash h x = subst (λ (m : ℕ). last_hash h no_hash (take m a) ≡ record_hash h x) next (last_of_taken h l no_hash a x (drop (l + 1) a) at_x) in
      let hash_y : last_hash h no_hash (take k b) ≡ record_hash h y = subst (λ (m : ℕ). last_hash h no_hash (take m b) ≡ record_hash h y) next (last_of_taken h l no_hash b y (drop (l + 1) b) at_y) in
      let fx = (subst (AllByRecursion IsRecord) at_x (all_left IsRecord l a fa)).0 in
      let fy = (subst (AllByRecursion IsRecord) at_y (all_left IsRecord l b fb)).0 in
      record {
        differ = λ e. ne (equal_records x y fx fy (sym u_is ∙ e ∙ v_is));
        same = ap h u_is ∙ sym hash_x ∙ level.hash ∙ hash_y ∙ sym (ap h v_is);
      }

  -- ---- receipts

  -- what is needed of the two ways up where the records are one list
  pub record OneBlock (m size : ℕ) (e f : TxEntry) (p q : List (List ℕ)) : Type 0 where
    pub few : size < 2 ^ 63
    pub roots : HaveOneRoot h m size (entry_bytes e) p (entry_bytes f) q

  pub one_block : (e f : TxEntry) (p q : List (List ℕ)) (r : BlockRecord) (rs : List BlockRecord) → e.ordinal ≡ f.ordinal → StandsIn h e p (r ∷ rs) → StandsIn h f q (r ∷ rs) → OneBlock e.ordinal r.size e f p q
  one_block e f p q r rs o x y =
      record {
        few = omega (arith, x.0);
        roots = record {
          root = r.root;
          first = x.2;
          second = subst (λ (m : ℕ). root_under h q m r.size (entry_bytes f) ≡ Some r.root) (sym o) y.2;
        };
      }

  -- the first record, as the code takes it
  pub ready : (e f : TxEntry) (p q : List (List ℕ)) (xs ys : List BlockRecord) (size : ℕ) → xs ≡ ys → e.ordinal ≡ f.ordinal → StandsIn h e p xs → StandsIn h f q ys
      → ((r : BlockRecord) (rs : List BlockRecord) → xs ≡ r ∷ rs → size ≡ r.size) → OneBlock e.ordinal size e f p q
  ready e f p q [] ys size same o x y size_is = absurd x
  ready e f p q (r ∷ rs) ys size same o x y size_is =
      subst (λ (n : ℕ). OneBlock e.ordinal n e f p q) (sym (size_is r rs refl)) (one_block e f p q r rs o x (subst (StandsIn h f q) (sym same) y))

-- of leaves and paths that the code names otherwise
pub roots_are : (h : List ℕ → List ℕ) (m n : ℕ) (a b c d : List ℕ) (p q r s : List (List ℕ)) → c ≡ a → r ≡ p → d ≡ b → s ≡ q → HaveOneRoot h m n a p b q → HaveOneRoot h m n c r d s
roots_are h m n a b c d p q r s a_is p_is b_is q_is one = rw (a_is, p_is, b_is, q_is) one

pub entries_same : (e f : TxEntry) (x y : List ℕ) → IsEntry e → IsEntry f → x ≡ entry_bytes e → y ≡ entry_bytes f → x ≡ y → e ≡ f
entries_same e f x y fe ff x_is y_is same = equal_entries e f fe ff (sym x_is ∙ same ∙ y_is)
