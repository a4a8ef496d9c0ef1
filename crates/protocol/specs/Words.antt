-- The word for what a node did with a message, and the words for a number that no kind has. Assumes nothing.
use Rattle.std.specs.Prelude.{ℕ, List, ◌++◌, codes}
use Rattle.std.specs.Fmt.{decimal}
use Rattle.protocol.specs.declared.message.NoSuchKind.{NoSuchKind}
use Rattle.protocol.specs.declared.record.Heard.{Heard}
use Rattle.protocol.specs.declared.record.Heard.TheVariants.{Ignored, Recorded, Echoed, Readied, Delivered, ReadiedDelivered}

abbrev pub heard_word : Heard → List ℕ
heard_word Ignored = codes "ignored"
heard_word Recorded = codes "recorded"
heard_word Echoed = codes "echoed"
heard_word Readied = codes "readied"
heard_word Delivered = codes "delivered"
heard_word ReadiedDelivered = codes "readied delivered"

abbrev pub no_such_kind : NoSuchKind → List ℕ
no_such_kind e = codes "no kind of message has the number " ++ decimal e.0
