use Rattle.std.proofs.Common.{sym, ◌∙◌, ap}
use Rattle.world_mail.specs.Blocks.{sent_in}
use Rattle.world_mail.specs.Sent.{front_of}
use Rattle.world_mail.proofs.Numbering.{has_mark, as_many, front_at_least}
use Rattle.world_mail.proofs.mail.Mail.mark.Goals as goal

pub front_from-self-inside-requires-clause-numbered : goal.front_from-self-inside-requires-clause-numbered
front_from-self-inside-requires-clause-numbered c =
    let behind = has_mark _ _ _ _ _ _ c.self.invariant.numbered c.as_slice.ensures.value c.block_of-at.ensures.there c.block_of-at.ensures.has c.index_mut-block.ensures.value c.mark.ensures.first c.mark.ensures.sent in
    rw c.as_slice-2.ensures.value behind.numbered

pub front_from-self-inside-requires-clause-len : goal.front_from-self-inside-requires-clause-len
front_from-self-inside-requires-clause-len c =
    let behind = has_mark _ _ _ _ _ _ c.self.invariant.numbered c.as_slice.ensures.value c.block_of-at.ensures.there c.block_of-at.ensures.has c.index_mut-block.ensures.value c.mark.ensures.first c.mark.ensures.sent in
    rw c.as_slice-2.ensures.value (c.self.invariant.len ∙ sym (as_many _ _ _ behind))

pub front_from-self-inside-requires-clause-below : goal.front_from-self-inside-requires-clause-below
front_from-self-inside-requires-clause-below c =
    let behind = has_mark _ _ _ _ _ _ c.self.invariant.numbered c.as_slice.ensures.value c.block_of-at.ensures.there c.block_of-at.ensures.has c.index_mut-block.ensures.value c.mark.ensures.first c.mark.ensures.sent in
    rw (c.as_slice-2.ensures.value, c.self.invariant.front) (front_at_least _ _ _ behind)

pub invariant_of-self : goal.invariant_of-self
invariant_of-self c =
    let behind = has_mark _ _ _ _ _ _ c.self.invariant.numbered c.as_slice.ensures.value c.block_of-at.ensures.there c.block_of-at.ensures.has c.index_mut-block.ensures.value c.mark.ensures.first c.mark.ensures.sent in
    record {
      numbered = behind.numbered;
      len = c.self.invariant.len ∙ sym (as_many _ _ _ behind);
      front = c.front_from-self-inside.ensures ∙ ap (λ bs. front_of (sent_in bs)) c.as_slice-2.ensures.value;
    }

pub returns-clause-sent : goal.returns-clause-sent
returns-clause-sent c =
    let behind = has_mark _ _ _ _ _ _ c.self.invariant.numbered c.as_slice.ensures.value c.block_of-at.ensures.there c.block_of-at.ensures.has c.index_mut-block.ensures.value c.mark.ensures.first c.mark.ensures.sent in
    rw (← c.self.view_is) behind.sent
