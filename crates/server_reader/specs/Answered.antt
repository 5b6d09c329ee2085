-- What the texts of a snapshot are answered over the image that it kept.
use Rattle.std.specs.Prelude.{◌≡◌, ◌⊎◌, ℕ, List, [], ◌∷◌, ◌++◌, codes, length, map, Option, Some, None}
use Rattle.sql_types.specs.declared.image.Image.{Image}
use Rattle.sql_value.specs.declared.refusal.Refusal.TheVariants.{NoMemory}
use Rattle.spec_model.specs.Catalog.{Tables}
use Rattle.spec_history.specs.Lists.{Text, Each}
use Rattle.spec_syntax.specs.Text.{statement_of}
use Rattle.format_image.specs.ImageBytes.{IsImage, IsSpellingOf}
use Rattle.spec_asof.specs.Answer.{answer_of}
use Rattle.spec_asof.specs.DatabaseAt.{database_at}
use Rattle.spec_asof.specs.declared.reply.AsOfReply.{AsOfReply}
use Rattle.spec_asof.specs.declared.reply.AsOfReply.TheVariants.{Refused}
use Rattle.format_asof.specs.Answers.{answer_text}

-- a text, and what it is answered
abbrev pub AnsweredText : Type 0
AnsweredText = Text × AsOfReply

-- as it is over these tables, or E30 for want of memory
abbrev pub IsAnsweredOver : Tables → AnsweredText → Type 0
IsAnsweredOver tables a = (a.1 ≡ answer_of tables (statement_of a.0)) ⊎ (a.1 ≡ Refused NoMemory)

-- its entry in the transcript of the session of this name: the session and the text, and then the lines of the answer
abbrev pub answer_entry : Text → AnsweredText → Text
answer_entry name a = (name ++ codes ": ") ++ answer_text a.0 a.1

-- each of the texts is answered over these tables, in their order, and these are the entries
pub record AreAnsweredOver (tables : Tables) (name : Text) (texts entries : List Text) : Type 0 where
  pub answers : List AnsweredText
  pub texts_are : map (λ a. a.0) answers ≡ texts
  pub each : Each (IsAnsweredOver tables) answers
  pub is : entries ≡ map (answer_entry name) answers

-- the database behind all transactions of an image
abbrev pub whole_database : Image → Tables
whole_database i = database_at i (length i.entries)

-- of a session that kept these images: none, and nothing is answered; or else the texts are answered over the image
-- that the bytes of the first one spell
abbrev pub AreAnswered : Text → List Text → List (ℕ × Text) → List Text → Type 0
AreAnswered name texts [] entries = entries ≡ []
AreAnswered name texts (kept ∷ _) entries = (i : Image) → IsImage i → IsSpellingOf kept.1 i
    → AreAnsweredOver (whole_database i) name texts entries

-- such entries stand behind those of before
pub record AreAnsweredBehind (name : Text) (texts : List Text) (images : List (ℕ × Text)) (before after : List Text)
    : Type 0 where
  pub entries : List Text
  pub whole : after ≡ before ++ entries
  pub answered : AreAnswered name texts images entries

-- ---- while they are answered, over a database that was opened if there was memory

abbrev pub IsReply : Option Tables → AnsweredText → Type 0
IsReply None a = a.1 ≡ Refused NoMemory
IsReply (Some tables) a = IsAnsweredOver tables a

abbrev pub IsReplyTo : Option Tables → Text → AsOfReply → Type 0
IsReplyTo opened text reply = IsReply opened (text, reply)

-- each of the texts has a reply, in their order, and the entries stand behind those of before
pub record AreRepliesBehind (opened : Option Tables) (name : Text) (texts before after : List Text) : Type 0 where
  pub answers : List AnsweredText
  pub texts_are : map (λ a. a.0) answers ≡ texts
  pub each : Each (IsReply opened) answers
  pub whole : after ≡ before ++ map (answer_entry name) answers
