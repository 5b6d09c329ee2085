-- What holds of each token of a text.
use Rattle.std.proofs.Common.{◌≡◌, ◌∙◌, ◌==◌, ℕ, Bool, true, false, cond, List, [], ◌∷◌, Option, Some, None, refl, sym, subst}
use Rattle.std.specs.Prelude.{⊤, pos, option_map}
use Rattle.std.specs.Result.{result_ok}
use Rattle.hex.specs.Hex.{decode_of}
use Rattle.sql_value.specs.declared.value.Value.{Value}
use Rattle.sql_value.specs.declared.value.Value.TheVariants.{Null, Text, Bytes}
use Rattle.sql_value.specs.Literal.{literal_of, text_or, bytes_or, is_null, signed, unsigned, number, unquoted, after_opening, after_0x}
use Rattle.spec_syntax.specs.Parsed.{IsUnsigned}

-- ---- literals

pos_unsigned : (o : Option (ℕ × ℕ)) (v : Value) → number pos o ≡ Some v → IsUnsigned v
pos_unsigned None v e = absurd (cc)
pos_unsigned (Some q) v e = let P : Option Value → Type 0 = λ x. (elim x [ None ↦ ⊤ | Some y ↦ IsUnsigned y ]) in subst P e tt

mapped : {A : Type 0} (f : A → Value) (o : Option A) (v : Value) → ((a : A) → IsUnsigned (f a)) → option_map f o ≡ Some v → IsUnsigned v
mapped f None v is e = absurd (cc)
mapped f (Some a) v is e = let P : Option Value → Type 0 = λ x. (elim x [ None ↦ ⊤ | Some y ↦ IsUnsigned y ]) in subst P e (is a)

plus_or : (c : Bool) (a b : Option (ℕ × ℕ)) (v : Value) → cond c (number pos a) (number pos b) ≡ Some v → IsUnsigned v
plus_or true a b v e = pos_unsigned a v e
plus_or false a b v e = pos_unsigned b v e

signed_unsigned : (b : ℕ) (w : List ℕ) (v : Value) → (b == 45) ≡ false → signed (b ∷ w) ≡ Some v → IsUnsigned v
unfolding signed
signed_unsigned b w v first e = plus_or (b == 43) (unsigned w) (unsigned (b ∷ w)) v (sym (rw first refl) ∙ e)

other_unsigned : (c : Bool) (b : ℕ) (w : List ℕ) (v : Value) → (b == 45) ≡ false → cond c (Some Null) (signed (b ∷ w)) ≡ Some v → IsUnsigned v
other_unsigned true b w v first e = let P : Option Value → Type 0 = λ x. (elim x [ None ↦ ⊤ | Some y ↦ IsUnsigned y ]) in subst P e tt
other_unsigned false b w v first e = signed_unsigned b w v first e

bytes_unsigned : (o : Option (List ℕ)) (b : ℕ) (w : List ℕ) (v : Value) → (b == 45) ≡ false → bytes_or o (b ∷ w) ≡ Some v → IsUnsigned v
bytes_unsigned None b w v first e = other_unsigned (is_null (b ∷ w)) b w v first e
bytes_unsigned (Some ds) b w v first e = mapped Bytes (result_ok (decode_of ds)) v (λ a. tt) e

text_unsigned : (o : Option (List ℕ)) (b : ℕ) (w : List ℕ) (v : Value) → (b == 45) ≡ false → text_or o (b ∷ w) ≡ Some v → IsUnsigned v
text_unsigned None b w v first e = bytes_unsigned (after_0x (b ∷ w)) b w v first e
text_unsigned (Some q) b w v first e = mapped Text (unquoted q) v (λ a. tt) e

-- a literal that begins with no '-' is no number below zero
pub literal_unsigned : (b : ℕ) (w : List ℕ) (v : Value) → (b == 45) ≡ false → literal_of (b ∷ w) ≡ Some v → IsUnsigned v
unfolding literal_of
literal_unsigned b w v first e = text_unsigned (after_opening (b ∷ w)) b w v first e

-- the sign alone is none
pub minus_alone : literal_of (45 ∷ []) ≡ None
unfolding literal_of signed unsigned
minus_alone = refl
