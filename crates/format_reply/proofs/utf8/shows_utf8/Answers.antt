use Rattle.format_reply.proofs.Shown.{null_utf8, text_utf8, bytes_utf8}
use Rattle.format_reply.proofs.utf8.shows_utf8.Goals as goal

pub returns-in-Null : goal.returns-in-Null
returns-in-Null c = rw c.in-Null.is null_utf8

pub returns-in-Text : goal.returns-in-Text
returns-in-Text c = rw c.in-Text.is (text_utf8 _ c.as_str.ensures.utf8)

pub returns-in-Bytes : goal.returns-in-Bytes
returns-in-Bytes c = rw c.in-Bytes.is (bytes_utf8 _)

pub returns-in-Date : goal.returns-in-Date
returns-in-Date c = rw c.in-Date.is c.day_shows_utf8.ensures
