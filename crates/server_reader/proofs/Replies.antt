-- Texts that are answered one after another.
use Rattle.std.proofs.Common.{◌≡◌, ◌<◌, ◌+◌, ◌∙◌, ℕ, Bor, List, [], ◌∷◌, ◌++◌, get_or, length, map, take, Option, Some, None, IfSome, append-nil, append_assoc, refl, sym, ap, subst, inl, inr}
use Rattle.std.proofs.lemmas.List.{take_more, map_push}
use Rattle.sql_types.specs.declared.image.Image.{Image}
use Rattle.spec_model.specs.Catalog.{Tables}
use Rattle.spec_history.specs.Lists.{Text, Each}
use Rattle.spec_history.proofs.Trace.{each_append, each_weaker}
use Rattle.format_image.specs.ImageBytes.{IsImage, IsSpellingOf}
use Rattle.spec_asof.specs.declared.reply.AsOfReply.{AsOfReply}
use Rattle.server_reader.specs.Answered.{AnsweredText, AreAnsweredBehind, AreRepliesBehind, IsAnsweredOver, IsReply, IsReplyTo, answer_entry, whole_database}

-- ---- one after another

pub none_yet : (opened : Option Tables) (name : Text) (before : List Text) → AreRepliesBehind opened name [] before before
none_yet opened name before = record { answers = []; texts_are = refl; each = tt; whole = sym (append-nil before) }

pub one_text_more : (texts : List (Bor Text)) (k : ℕ) (text : Bor Text) → k < length texts
    → map (λ (t : Bor Text). t.now) (take (k + 1) texts) ≡ map (λ (t : Bor Text). t.now) (take k texts) ++ (get_or texts k text).now ∷ []
one_text_more texts k text within =
    ap (map (λ (t : Bor Text). t.now)) (take_more texts k text within) ∙ map_push (λ (t : Bor Text). t.now) (take k texts) (get_or texts k text)

pub one_more : (opened : Option Tables) (name : Text) (texts all before after now : List Text) (text : Text) (reply : AsOfReply) (entry : Text)
    → AreRepliesBehind opened name texts before after → IsReplyTo opened text reply → entry ≡ answer_entry name (text, reply)
    → now ≡ after ++ entry ∷ [] → all ≡ texts ++ text ∷ [] → AreRepliesBehind opened name all before now
one_more opened name texts all before after now text reply entry so_far is said pushed longer = record {
  answers = so_far.answers ++ one ∷ [];
  texts_are = map_push (λ (a : AnsweredText). a.0) so_far.answers one ∙ ap (λ (ts : List Text). ts ++ text ∷ []) so_far.texts_are ∙ sym longer;
  each = each_append (IsReply opened) so_far.answers (one ∷ []) so_far.each (is, tt);
  whole = pushed
      ∙ ap (λ (es : List Text). es ++ entry ∷ []) so_far.whole
      ∙ append_assoc before (map (answer_entry name) so_far.answers) (entry ∷ [])
      ∙ ap (λ (e : Text). before ++ (map (answer_entry name) so_far.answers ++ e ∷ [])) said
      ∙ ap (λ (es : List Text). before ++ es) (sym (map_push (answer_entry name) so_far.answers one));
}
  where
    one : AnsweredText
    one = (text, reply)

-- ---- all of them

module _ (name : Text) (texts entries : List Text) where
  pub none_kept : (images : List (ℕ × Text)) → images ≡ [] → AreAnsweredBehind name texts images entries entries
  none_kept images none = subst (λ (ks : List (ℕ × Text)). AreAnsweredBehind name texts ks entries entries) (sym none)
      (record { entries = []; whole = sym (append-nil entries); answered = refl })

  pub no_texts : (images : List (ℕ × Text)) → texts ≡ [] → AreAnsweredBehind name texts images entries entries
  no_texts [] none = none_kept [] refl
  no_texts (k ∷ images) none = record {
    entries = [];
    whole = sym (append-nil entries);
    answered = λ i is spelled. record { answers = []; texts_are = sym none; each = tt; is = refl };
  }

is_over : (opened : Option Tables) (bytes : Text) (i : Image) → IfSome opened (λ tables. (j : Image) → IsImage j → IsSpellingOf bytes j → tables ≡ whole_database j)
    → IsImage i → IsSpellingOf bytes i → (a : AnsweredText) → IsReply opened a → IsAnsweredOver (whole_database i) a
is_over None bytes i opened is spelled a reply = inr reply
is_over (Some tables) bytes i opened is spelled a reply = subst (λ (t : Tables). IsAnsweredOver t a) (opened i is spelled) reply

pub are_answered : (opened : Option Tables) (name : Text) (texts before after : List Text) (images more : List (ℕ × Text)) (kept : ℕ × Text) → images ≡ kept ∷ more
    → IfSome opened (λ tables. (i : Image) → IsImage i → IsSpellingOf kept.1 i → tables ≡ whole_database i)
    → AreRepliesBehind opened name texts before after → AreAnsweredBehind name texts images before after
are_answered opened name texts before after images more kept whole is replies = subst (λ (ks : List (ℕ × Text)). AreAnsweredBehind name texts ks before after) (sym whole)
    (record {
      entries = map (answer_entry name) replies.answers;
      whole = replies.whole;
      answered = λ i is_image spelled. record {
        answers = replies.answers;
        texts_are = replies.texts_are;
        each = each_weaker (IsReply opened) (IsAnsweredOver (whole_database i)) (is_over opened kept.1 i is is_image spelled) replies.answers replies.each;
        is = refl;
      };
    })
