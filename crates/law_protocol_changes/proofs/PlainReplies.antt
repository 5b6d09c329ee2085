-- Replies without a refusal of transaction control, of a lock or of memory are said by a transaction of its own.
use Rattle.std.proofs.Common.{◌≡◌, ℕ, None, refl, subst, [], false, ◌∷◌}
use Rattle.sql_value.specs.declared.refusal.Refusal.{Refusal}
use Rattle.sql_value.specs.declared.refusal.Refusal.TheVariants.{NoSuchTable, NameConflict, NoSuchColumn, TypeMismatch, NullNotAllowed, DuplicateKey, NumberOutOfRange, ValueTooLong, AppendOnlyTable, ReadOnlyTable, KeyNotUpdatable, LimitExceeded, ValueCountMismatch}
use Rattle.sql_types.specs.declared.reply.Reply.{Reply}
use Rattle.sql_types.specs.declared.reply.Reply.TheVariants as reply
use Rattle.law_frame.proofs.PlainRefusals.{IsPlain, IsPlainReply}
use Rattle.spec_history.specs.Lists.{Text}
use Rattle.spec_history.specs.Meaning.{Meaning}
use Rattle.spec_history.specs.Facts.{begun_by, said}
use Rattle.spec_history.specs.InPlace.{image_by}
use Rattle.spec_history.specs.Transactions.{End}
use Rattle.spec_history.specs.Transcripts.{kind_of, rows}
use Rattle.spec_protocol.specs.TranscriptsSoFar.{EndsOwn, IsSaid, ProgressOwn, image_in, is_begin, shown_inside}
use Rattle.spec_protocol.specs.Seats.{replied, answering}
use Rattle.law_protocol_steps.proofs.InPlaces.{NoControl, fits_own}

pub no_control : (r : Reply) → IsPlainReply r → NoControl r
no_control r h = record { not_syntax_error = λ e. subst IsPlainReply e h; not_no_transaction = λ e. subst IsPlainReply e h; not_already_in = λ e. subst IsPlainReply e h; not_forbidden_in = λ e. subst IsPlainReply e h }

module _ (q : Meaning) (text : Text) where
  refused_said : (e : Refusal) → IsPlain e → IsSaid q text (reply.Refused e)
  refused_said NoSuchTable h = refl
  refused_said NameConflict h = refl
  refused_said NoSuchColumn h = refl
  refused_said TypeMismatch h = refl
  refused_said NullNotAllowed h = refl
  refused_said DuplicateKey h = refl
  refused_said NumberOutOfRange h = refl
  refused_said ValueTooLong h = refl
  refused_said AppendOnlyTable h = refl
  refused_said ReadOnlyTable h = refl
  refused_said KeyNotUpdatable h = refl
  refused_said LimitExceeded h = refl
  refused_said ValueCountMismatch h = refl
  refused_said e h = absurd h

  pub is_said : (r : Reply) → IsPlainReply r → IsSaid q text r
  is_said (reply.Changed n) h = refl
  is_said (reply.Rows found_rows) h = refl
  is_said reply.Made h = refl
  is_said reply.NoOutput h = refl
  is_said (reply.Refused e) h = refused_said e h
  is_said r h = absurd h

  pub none_begun : (r : Reply) → IsPlainReply r → begun_by r ≡ None
  none_begun (reply.Changed n) h = refl
  none_begun (reply.Rows found_rows) h = refl
  none_begun reply.Made h = refl
  none_begun reply.NoOutput h = refl
  none_begun (reply.Refused e) h = refl
  none_begun r h = absurd h

  pub none_kept : (r : Reply) → IsPlainReply r → image_by r ≡ 0
  none_kept (reply.Changed n) h = refl
  none_kept (reply.Rows found_rows) h = refl
  none_kept reply.Made h = refl
  none_kept reply.NoOutput h = refl
  none_kept (reply.Refused e) h = refl
  none_kept r h = absurd h

  pub replied_fits : (n : ℕ) (r : Reply) → IsPlainReply r → (e : End) → EndsOwn (kind_of (q.reads text)) e → ProgressOwn q n text (replied r)
  replied_fits n r h e own = (fits_own n r (no_control r h) q text e own (none_begun r h) (none_kept r h), is_said r h)

  pub not_begun : (r : Reply) → IsPlainReply r → is_begin (answering r None) ≡ false
  not_begun (reply.Changed n) h = refl
  not_begun (reply.Rows found_rows) h = refl
  not_begun reply.Made h = refl
  not_begun reply.NoOutput h = refl
  not_begun (reply.Refused e) h = refl
  not_begun r h = absurd h

  pub kept_none : (r : Reply) → IsPlainReply r → image_in (answering r None) ≡ 0
  kept_none (reply.Changed n) h = refl
  kept_none (reply.Rows found_rows) h = refl
  kept_none reply.Made h = refl
  kept_none reply.NoOutput h = refl
  kept_none (reply.Refused e) h = refl
  kept_none r h = absurd h

  pub inside_said : (r : Reply) → IsPlainReply r → shown_inside q rows text (answering r None) ≡ said (text, q.writes r) ∷ []
  inside_said (reply.Changed n) h = refl
  inside_said (reply.Rows found_rows) h = refl
  inside_said reply.Made h = refl
  inside_said reply.NoOutput h = refl
  inside_said (reply.Refused e) h = refused_said e h
  inside_said r h = absurd h
