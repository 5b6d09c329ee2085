-- The last line of a script.
use Rattle.std.proofs.Common.{◌≡◌, ◌+◌, ℕ, zero, suc, List, [], ◌∷◌, ◌++◌, None, length, get_or, refl, sym, ap, ◌∙◌, arith}
use Rattle.sql_types.specs.declared.reply.Reply.{Reply}
use Rattle.spec_history.specs.Lists.{Text}
use Rattle.spec_history.specs.Transcripts.{statement}
use Rattle.server_session.specs.LastAnswers.{last_entry}

pub last_is : (lines : List (Text × Reply)) (line : Text × Reply) → last_entry (lines ++ line ∷ []) ≡ statement line.0 line.1 None ∷ []
last_is [] line = refl
last_is (one ∷ []) line = refl
last_is (one ∷ two ∷ lines) line = last_is (two ∷ lines) line

pub last_taken : (lines rest : List (Text × Reply)) (line : Text × Reply) → lines ≡ rest ++ line ∷ [] → statement line.0 line.1 None ∷ [] ≡ last_entry lines
last_taken lines rest line is = sym (ap last_entry is ∙ last_is rest line)

pub last_pushed : (lines rest : List (Text × Reply)) (text : Text) (reply : Reply) → lines ≡ rest ++ (text, reply) ∷ [] → last_entry lines ≡ statement text reply None ∷ []
last_pushed lines rest text reply is = ap last_entry is ∙ last_is rest (text, reply)

pub none_taken : (lines : List (Text × Reply)) → lines ≡ [] → [] ≡ last_entry lines
none_taken lines is = sym (ap last_entry is)

pub last_at : (lines : List (Text × Reply)) (i : ℕ) (line : Text × Reply) → i + 1 ≡ length lines → line ≡ get_or lines i line → last_entry lines ≡ statement line.0 line.1 None ∷ []
last_at [] i line long is = absurd (omega (arith, long))
last_at (one ∷ []) zero line long is = ap (λ (l : Text × Reply). statement l.0 l.1 None ∷ []) (sym is)
last_at (one ∷ []) (suc i) line long is = absurd (omega (arith, long))
last_at (one ∷ two ∷ lines) zero line long is = absurd (omega (arith, long))
last_at (one ∷ two ∷ lines) (suc i) line long is = last_at (two ∷ lines) i line (omega (arith, long)) is
