-- `records::load` meets its contract: each field is the number that std reads from its bytes. Assumes nothing.
use mathlib.Core.Path.{◌≡◌, ◌∙◌}
use Rattle.records.specs.Bytes.{le16, le32, le64}
use Rattle.records.specs.Records.{decode}
use Rattle.records.proofs.LeBytes.{from-le16, from-le32, from-le64}
use Rattle.records.proofs.load.Goals as goal

pub returns : goal.returns
unfolding decode
returns c =
    let s = c.args.s.now in
    let half : c.from_le_bytes.result ≡ le16 s 2 = c.from_le_bytes.ensures ∙ from-le16 s 2 in
    let word : c.from_le_bytes-2.result ≡ le32 s 4 = c.from_le_bytes-2.ensures ∙ from-le32 s 4 in
    let long : c.from_le_bytes-3.result ≡ le64 s 8 = c.from_le_bytes-3.ensures ∙ from-le64 s 8 in
    cc
