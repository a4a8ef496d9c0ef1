use Rattle.std.proofs.Common.{◌≡◌, rules}
use Rattle.protocol.specs.Hearing.{taken}
use Rattle.broadcast.specs.Slots.{record_at, waiting}
use Rattle.broadcast.specs.Counts.{any, heard_count, waiting_count}
use Rattle.panel.specs.Broadcasts.{setting_of}
use Rattle.panel.proofs.board.parties.Broadcast.counts.Goals as goal

pub returns : goal.returns
returns c =
    let w = setting_of c.args.self.now in
    let s = c.args.self.now.slot.now in
    let heard : c.count_messages.result ≡ heard_count w s = c.count_messages.ensures (λ m i k. any (taken w.sender (record_at s k) m i)) (λ r b e. search rules) in
    let waits : c.count_messages-2.result ≡ waiting_count w s = c.count_messages-2.ensures (λ m i k. any (waiting w s m i k)) (λ r b e. search rules) in
    search rules
