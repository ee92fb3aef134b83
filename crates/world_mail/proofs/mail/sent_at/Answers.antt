use Rattle.std.proofs.Common.{◌-◌, ◌∙◌, arith, ◌<◌, refl, length}
use Rattle.std.proofs.lemmas.Option.{slice_get_read}
use Rattle.world_mail.proofs.Numbering.{sent_there}
use Rattle.world_mail.proofs.mail.sent_at.Goals as goal

pub returns : goal.returns
returns c =
    let block = c.index-blocks-block_of.result in
    let there = slice_get_read c.args.blocks.now (length c.args.blocks.now) _ block refl c.block_of.ensures.there c.index-blocks-block_of.is in
    let has = c.block_of.ensures.has block there in
    let inside : c.args.number - block.first < length block.sent.items = omega (arith, has.0, has.1) in
    sent_there c.args.blocks.now c.block_of.result c.args.number block c.requires.numbered there has.0 has.1
    ∙ slice_get_read block.sent.items (length block.sent.items) (c.args.number - block.first) c.index.result.now refl inside c.index.ensures
