use Rattle.std.proofs.Common.{inl, inr}
use Rattle.audit_extract.proofs.Covering.{blocks_same, entries_same}
use Rattle.audit_extract.proofs.Nodes.{events_hashed}
use Rattle.audit_extract.proofs.images.extract.Goals as goal

pub returns-in-Collision-clause-finds : goal.returns-in-Collision-clause-finds
returns-in-Collision-clause-finds g c =
    let found = rw c.in-Collision.is at c.in_ok-records.ensures.finds in
    ((λ e. found.0 (blocks_same (g.H.Hash32.digest c.args.h) c.args.honest.now c.args.suspect.now c.args.digest.now c.requires.honest c.requires.suspect e)), found.1)

pub returns-in-Collision-2-clause-finds : goal.returns-in-Collision-2-clause-finds
returns-in-Collision-2-clause-finds g c =
    let found = rw c.in-Collision-2.is at c.in_ok-nodes.ensures.finds in
    ((λ e. found.0 (entries_same (g.H.Hash32.digest c.args.h) c.args.honest.now c.args.suspect.now c.args.digest.now c.requires.honest c.requires.suspect e)), found.1)

pub in_blocks-requires-clause-same : goal.in_blocks-requires-clause-same
in_blocks-requires-clause-same g c = λ κ o. rw c.in_default.is at c.in_ok-records.ensures.finds

pub in_entries-requires-clause-same : goal.in_entries-requires-clause-same
in_entries-requires-clause-same g c = λ κ o. rw c.in_default-2.is at c.in_ok-nodes.ensures.finds

pub returns-in-Collision-clause-strings : goal.returns-in-Collision-clause-strings
returns-in-Collision-clause-strings g c = inl (rw c.in-Collision.is at c.in_ok-records.ensures.strings)

pub returns-in-Collision-2-clause-strings : goal.returns-in-Collision-2-clause-strings
returns-in-Collision-2-clause-strings g c = inr (inl (rw c.in-Collision-2.is at c.in_ok-nodes.ensures.strings))

pub returns-clause-strings : goal.returns-clause-strings
returns-clause-strings g c = events_hashed (g.H.Hash32.digest c.args.h) c.args.honest.now c.args.suspect.now _ c.in_entries.ensures.strings
