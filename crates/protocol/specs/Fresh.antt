-- A record and a slot in which nothing has happened. Assumes nothing.
use Rattle.std.specs.Prelude.{replicate, None}
use Rattle.protocol.specs.declared.record.Record.{Record}
use Rattle.protocol.specs.declared.slot.Slot.{Slot}

abbrev pub fresh_record : Record
fresh_record = record { echoed = None; readied = None; delivered = None; echoes = replicate 16 None; readies = replicate 16 None }

abbrev pub fresh_slot : Slot
fresh_slot = record { proposal = None; records = replicate 16 fresh_record }
